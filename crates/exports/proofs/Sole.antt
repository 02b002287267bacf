-- For each export: what it returns and what every slice that it may write then holds, that its contract allows, is one.
-- The contracts are the toolchain's own reading of the source (`Post` of each function's `Reads`).
use Prim.Native.Nat.{ℕ}
use mathlib.Core.Path.{◌≡◌, sym, ap, ◌∙◌}
use mathlib.Core.List.{List, [], ◌∷◌, ◌++◌}
use Rattle.octet_table.specs.Lent.{lent}
use Rattle.octet_answers.specs.Answers.{Back, back}
use Rattle.octet_answers.proofs.Sole.{SoleBack}
use Rattle.exports.specs.Calls.{table_slices}
use Rattle.exports.proofs.frames.tambolune_judge.Kinds as judge-kinds
use Rattle.exports.proofs.frames.tambolune_judge.Reads as judge
use Rattle.exports.proofs.frames.tambolune_read.Kinds as read-kinds
use Rattle.exports.proofs.frames.tambolune_read.Reads as read
use Rattle.exports.proofs.frames.tambolune_read_lldpdu.Kinds as lldpdu-kinds
use Rattle.exports.proofs.frames.tambolune_read_lldpdu.Reads as lldpdu
use Rattle.exports.proofs.frames.tambolune_write.Kinds as write-kinds
use Rattle.exports.proofs.frames.tambolune_write.Reads as write
use Rattle.exports.proofs.calls.tambolune_start.Kinds as start-kinds
use Rattle.exports.proofs.calls.tambolune_start.Reads as start
use Rattle.exports.proofs.calls.tambolune_frame_on_port.Kinds as frame-kinds
use Rattle.exports.proofs.calls.tambolune_frame_on_port.Reads as frame
use Rattle.exports.proofs.calls.tambolune_seconds_passed.Kinds as passed-kinds
use Rattle.exports.proofs.calls.tambolune_seconds_passed.Reads as passed
use Rattle.exports.proofs.calls.tambolune_link_lost.Kinds as lost-kinds
use Rattle.exports.proofs.calls.tambolune_link_lost.Reads as lost
use Rattle.exports.proofs.calls.tambolune_how_many.Kinds as many-kinds
use Rattle.exports.proofs.calls.tambolune_how_many.Reads as many
use Rattle.exports.proofs.calls.tambolune_who_sees.Kinds as sees-kinds
use Rattle.exports.proofs.calls.tambolune_who_sees.Reads as sees
use Rattle.exports.proofs.looks.tambolune_compare.Kinds as compare-kinds
use Rattle.exports.proofs.looks.tambolune_compare.Reads as compare

both : {n m : ℕ} {s t : List (List ℕ)} {b : Back} → back n s ≡ b → back m t ≡ b → (n ≡ m) × (back n s ≡ back m t)
both e f = let d = e ∙ sym f in (ap (λ (b : Back). b.returned) d, d)

pub judge-sole : SoleBack 2 judge-kinds.ps judge-kinds.r judge.Post (λ κs r x. back r (x.1.0.now ∷ []))
judge-sole κs a r q x y e f = both e.exact f.exact

pub read-sole : SoleBack 3 read-kinds.ps read-kinds.r read.Post (λ κs r x. back r (x.1.0.now ∷ x.1.1.0.now ∷ []))
read-sole κs a r q x y e f = both e.exact f.exact

pub read-lldpdu-sole : SoleBack 3 lldpdu-kinds.ps lldpdu-kinds.r lldpdu.Post (λ κs r x. back r (x.1.0.now ∷ x.1.1.0.now ∷ []))
read-lldpdu-sole κs a r q x y e f = both e.exact f.exact

pub write-sole : SoleBack 4 write-kinds.ps write-kinds.r write.Post (λ κs r x. back r (x.1.1.0.now ∷ x.1.1.1.0.now ∷ []))
write-sole κs a r q x y e f = both e.exact f.exact

-- the table's slices are the first five parameters of each call

pub start-sole : SoleBack 5 start-kinds.ps start-kinds.r start.Post
    (λ κs r x. back r (table_slices (lent x.0.now x.1.0.now x.1.1.0.now x.1.1.1.0.now) x.1.1.1.1.0.now))
start-sole κs a r q x y e f = both e.gives.exact f.gives.exact

pub frame-on-port-sole : SoleBack 7 frame-kinds.ps frame-kinds.r frame.Post
    (λ κs r x. back r (table_slices (lent x.0.now x.1.0.now x.1.1.0.now x.1.1.1.0.now) x.1.1.1.1.0.now ++ (x.1.1.1.1.1.1.1.0.now ∷ [])))
frame-on-port-sole κs a r q x y e f = both e.gives.exact f.gives.exact

pub seconds-passed-sole : SoleBack 5 passed-kinds.ps passed-kinds.r passed.Post
    (λ κs r x. back r (table_slices (lent x.0.now x.1.0.now x.1.1.0.now x.1.1.1.0.now) x.1.1.1.1.0.now))
seconds-passed-sole κs a r q x y e f = both e.gives.exact f.gives.exact

pub link-lost-sole : SoleBack 5 lost-kinds.ps lost-kinds.r lost.Post
    (λ κs r x. back r (table_slices (lent x.0.now x.1.0.now x.1.1.0.now x.1.1.1.0.now) x.1.1.1.1.0.now))
link-lost-sole κs a r q x y e f = both e.gives.exact f.gives.exact

pub how-many-sole : SoleBack 6 many-kinds.ps many-kinds.r many.Post (λ κs r x. back r (x.1.1.1.1.1.1.0.now ∷ []))
how-many-sole κs a r q x y e f = both e.exact f.exact

pub who-sees-sole : SoleBack 7 sees-kinds.ps sees-kinds.r sees.Post (λ κs r x. back r (x.1.1.1.1.1.1.1.0.now ∷ []))
who-sees-sole κs a r q x y e f = both e.exact f.exact

-- list and answer stand behind the ten slices of the two tables
pub compare-sole : SoleBack 12 compare-kinds.ps compare-kinds.r compare.Post
    (λ κs r x. back r (x.1.1.1.1.1.1.1.1.1.1.0.now ∷ x.1.1.1.1.1.1.1.1.1.1.1.0.now ∷ []))
compare-sole κs a r q x y e f = both e.exact f.exact
