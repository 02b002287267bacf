-- What was found of the system fields means what the rules say of the TLVs (S1 to S5).
-- `system-means` is the theorem; the laws of each field stand before it.
use Prim.Native.Nat.{ℕ, ◌+◌, ◌<◌, ◌≤◌}
use mathlib.Core.Path.{◌≡◌, refl, sym, ap, ◌∙◌}
use mathlib.Core.List.{List, [], map}
use mathlib.Core.Bool.{Bool, true, false}
use mathlib.Core.Option.{none, some}
use Rattle.std.specs.Prelude.{Some, None}
use native.Mathlib.Omega.{arith}
use lib.ListN.{length, drop, get_or, length-drop}
use lib.Seq.{length-take-le}
use lib.Dec.{leb, eqb}
use Rattle.tally.specs.Tests.{pick}
use Rattle.octets.specs.Numbers.{pair_of}
use Rattle.text.specs.Part.{nowhere, text_of}
use Rattle.fields.specs.Field.{system_name, system_description, capabilities, topics}
use Rattle.walk.specs.Walk.{Placed}
use Rattle.found.specs.Contents.{contents, first}
use Rattle.found.specs.Found.{nothing, part_at, mark_of, gather}
use Rattle.found.specs.declared.Mark.{Mark}
use Rattle.found.specs.declared.Found.{Found}
use Rattle.found.proofs.MarkLaws.{AllIn, tlv_of, text_at, Means, topic-means}
use Rattle.found.proofs.ManagementLaws.{management-means}
use Rattle.system.specs.System.{flags, up_to255, flags_in, system_in, short_at, capabilities_in, system_at, flags_meant, system_meant}
use Rattle.system.proofs.TypeLaws.{by-topics}

-- Each field

flags-mean : (b : List ℕ) → flags_meant (capabilities_in b) ≡ flags_in b
unfolding capabilities_in
flags-mean b = go (eqb (length b) 4)
  where
    go : (t : Bool) → flags_meant (pick t (Some (record { able = pair_of (get_or b 0 0) (get_or b 1 0); enabled = pair_of (get_or b 2 0) (get_or b 3 0) })) None)
        ≡ pick t (some (flags (pair_of (get_or b 0 0) (get_or b 1 0)) (pair_of (get_or b 2 0) (get_or b 3 0)))) none
    go true = refl
    go false = refl

short-means : (s : List ℕ) (m : Mark) (cs : List (List ℕ)) → Means s m cs → text_of s (short_at m) ≡ up_to255 (first cs)
unfolding short_at
short-means s m cs i =
    let long : length (first cs) ≡ m.len =
    sym (ap length i.text) ∙ length-take-le m.len (drop m.start s) (omega (arith, i.inside, length-drop m.start s)) in
    rw long (go (leb m.len 255))
  where
    go : (t : Bool) → text_of s (pick t (part_at m) nowhere) ≡ pick t (first cs) []
    go true = i.text
    go false = refl

pub short-inside : (n : ℕ) (m : Mark) → m.start + m.len ≤ n → (short_at m).start + (short_at m).len ≤ n
unfolding short_at
short-inside n m h = go (leb m.len 255)
  where
    go : (t : Bool) → (pick t (part_at m) nowhere).start + (pick t (part_at m) nowhere).len ≤ n
    go true = h
    go false = omega arith

-- All of them

pub system-means : (s : List ℕ) (ps : List Placed) → AllIn s ps → system_meant s (system_at s (gather nothing ps)) ≡ system_in (map tlv_of ps)
system-means s ps i =
    let f = gather nothing ps in
    let ts = map tlv_of ps in
    let m : (t : ℕ) → t < topics → Means s (mark_of t f) (contents t ts) = λ t h. topic-means s t ps h i in
    rw (
      by-topics ts,
      short-means s (mark_of system_name f) (contents system_name ts) (m system_name (omega arith)),
      short-means s (mark_of system_description f) (contents system_description ts) (m system_description (omega arith)),
      flags-mean (text_of s (part_at (mark_of capabilities f))),
      (m capabilities (omega arith)).text,
      (management-means s ps i).texts,
    )

-- a text that has the same octets for the capabilities gives the same
pub system-same : (u s : List ℕ) (f : Found) → text_at u (mark_of capabilities f) ≡ text_at s (mark_of capabilities f) → system_at u f ≡ system_at s f
system-same u s f e = rw e
