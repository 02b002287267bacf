-- Laws of replays that are read in pieces: before the first read, behind one more, and at the end of the file.
-- They lead from the contracts of `begin`, `feed` and `finish` to the replay of all octets that were read.
use Prim.Native.Nat.{ℕ}
use mathlib.Core.Path.{◌≡◌, sym, ap, ap₂, subst, ◌∙◌}
use mathlib.Core.List.{List, [], ◌++◌, append-nil, append_assoc}
use lib.ListN.{length}
use Rattle.std.specs.Prelude.{Result}
use Rattle.numbers.specs.declared.Table.{Table}
use Rattle.place.specs.State.{State, state}
use Rattle.records.specs.declared.Fed.{Fed}
use Rattle.replay.specs.Calls.{Replayed, End, ended, replayed}
use Rattle.replay.specs.Place.{room_octets}
use Rattle.replay.specs.Feeding.{Moment, moment}
use Rattle.replay.specs.Promises.{Stands, ending}
use Rattle.replay.proofs.EndLaws.{stands-none, stands-sound, stands-end}
use Rattle.play.specs.Numbers.{shown, shown_of}
use Rattle.play.specs.declared.Seen.{Seen}
use Rattle.play.specs.Reading.{standing, Begins, GoesOn, ReadsOn, Ended, end_of}

-- nothing came, and one read behind another
pub reads_none : (m m' : Moment) → ReadsOn m m' m m'
reads_none m m' = ([], (λ s port limit file c. rw (append-nil file) c, λ s port limit file c. rw (append-nil file) c))

pub reads_more : {m m' n n' o o' : Moment} → ReadsOn m m' n n' → ReadsOn n n' o o' → ReadsOn m m' o o'
reads_more (p, (f, g)) (q, (h, i)) = (p ++ q, (then f h, then g i))
  where
    then : {m n o : Moment} → GoesOn m p n → GoesOn n q o → GoesOn m (p ++ q) o
    then f g s port limit file c = rw (append_assoc file p q) at (g s port limit (file ++ p) (f s port limit file c))

-- one look from its beginning to its end
pub look-ends : {s : State} {port limit : ℕ} {f g : Fed} {room room' b piece : List ℕ} {q : Seen} → length room ≡ room_octets → Begins s port limit f
    → GoesOn (standing f room s.buf) piece (standing g room' b) → Ended g q → end_of q b ≡ shown_of (replayed s port limit piece)
unfolding ending
look-ends {s} {port} {limit} {f} {g} {room} {room'} {b} {piece} {q} l begins goes e =
    ap₂ (λ (a : Result ℕ ℕ) (t : Table). shown a (state t b)) e.numbers e.table
    ∙ ap (λ (x : Replayed). shown_of (ended x (state g.table b))) (rw (stands-sound there) at e.answer.exact)
    ∙ ap (λ (x : End). shown_of x) (stands-end there begins.listed)
  where
    there : Stands s port limit piece (standing g room' b)
    there =
        goes s port limit []
        (subst (λ (t : Table). Stands s port limit [] (moment f.replay room (state t s.buf))) (sym begins.table) (stands-none room l begins.place))
