-- Laws of parts: one that reaches to the end; of several how many there are, and the octets of each by its number.
-- They serve the loops over parts, here and in the crates above.
use Prim.Native.Nat.{ℕ, zero, suc, ◌<◌, ◌≤◌}
use mathlib.Core.Path.{◌≡◌, sym, ◌∙◌}
use mathlib.Core.List.{List, [], ◌∷◌, map}
use native.Mathlib.Omega.{arith}
use lib.ListN.{length, take, drop, get_or, length-drop, length-map, get_or-map, get_or-eq_default}
use lib.Seq.{take_all, get_or-take}
use Rattle.text.specs.Part.{part, text_of, nowhere, most_parts, parts_in, texts_of}
use Rattle.text.specs.declared.Parts.{Parts}

pub text-behind : (s : List ℕ) (n : ℕ) → text_of s (part n (length s)) ≡ drop n s
text-behind s n = take_all (length s) (drop n s) (omega (arith, length-drop n s))

-- Of an array of structs the toolchain tells the length of a list that is mapped from it; this is that of the list itself
pub length-mapped : (X Y : Type 0) (f : X → Y) (l : List X) (n : ℕ) → length (map f l) ≡ n → length l ≡ n
length-mapped X Y f l n e = sym (length-map l f) ∙ e

front-most : {A : Type 0} (n : ℕ) (l : List A) → (length (take n l) ≤ n) × (length (take n l) ≤ length l)
front-most zero l = (omega arith, omega arith)
front-most (suc n) [] = (omega arith, omega arith)
front-most (suc n) (x ∷ l) = let h = front-most n l in (omega arith, omega arith)

-- The part at a number

module _ (l : Parts) (i : ℕ) where
  pub past-count : l.count ≤ i → get_or (parts_in l) i nowhere ≡ nowhere
  past-count h = get_or-eq_default (parts_in l) nowhere (omega (arith, (front-most l.count l.parts).0))

  pub past_room : length l.parts ≡ most_parts → most_parts ≤ i → get_or (parts_in l) i nowhere ≡ nowhere
  past_room e h = get_or-eq_default (parts_in l) nowhere (omega (arith, (front-most l.count l.parts).1))

  pub front_at : i < l.count → get_or (parts_in l) i nowhere ≡ get_or l.parts i nowhere
  front_at h = get_or-take l.count l.parts i nowhere h

-- The octets of all of them

module _ (s : List ℕ) (l : Parts) where
  pub texts-length : length (texts_of s l) ≡ length (parts_in l)
  texts-length = length-map (parts_in l) (text_of s)

  -- of a list that is as long as the array there are no more than four
  pub texts-few : length l.parts ≡ most_parts → length (texts_of s l) ≤ most_parts
  texts-few h = omega (arith, texts-length, (front-most l.count l.parts).1)

  -- at a number they are those of the part at that number
  pub texts-at : (i : ℕ) → get_or (texts_of s l) i [] ≡ text_of s (get_or (parts_in l) i nowhere)
  texts-at i = get_or-map (text_of s) (parts_in l) i nowhere
