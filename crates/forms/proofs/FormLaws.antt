-- Laws of forms: one turn of the loop that fills a form in, and its end.
-- The loop keeps one equation: the rest of the forms, put behind what was put, gives the line of the whole.
use Prim.Native.Nat.{ℕ, ◌+◌, ◌<◌, ◌≤◌}
use mathlib.Core.Path.{◌≡◌, refl, sym, ap, ◌∙◌}
use mathlib.Core.List.{List, ◌∷◌}
use native.Mathlib.Numerals.{add-one}
use lib.ListN.{length, drop, get_or, drop_of_length-le}
use lib.Seq.{drop-cons}
use Rattle.output.specs.Output.{Output, puts}
use Rattle.output.proofs.OutputLaws.{puts-append}
use Rattle.forms.specs.Form.{stands_for, values_taken, forms_left, formed}

-- One turn of the loop, and its end

module _ (forms text : List ℕ) (whole : Output) (i w : ℕ) (values : List ℕ) (o : Output) where
  -- with the three values that the code has in hand, how many of them are taken, the values behind those, and how many forms are left
  pub form-next : {first second third n v : ℕ} {rest : List ℕ} {p : Output} → i < length forms → puts (formed (drop i forms) w values text) o ≡ whole
      → first ≡ get_or values 0 0 → second ≡ get_or values 1 0 → third ≡ get_or values 2 0 → p ≡ puts (stands_for w (get_or forms i 0) first second third text) o
      → n ≡ values_taken w (get_or forms i 0) → rest ≡ drop n values → v ≡ forms_left w (get_or forms i 0)
      → puts (formed (drop (i + 1) forms) v rest text) p ≡ whole
  unfolding formed
  form-next {first} {second} {third} {n} {v} {rest} {p} h inv e1 e2 e3 e d r c =
      let b = get_or forms i 0 in
      let more = drop (i + 1) forms in
      let x = stands_for w b (get_or values 0 0) (get_or values 1 0) (get_or values 2 0) text in
      let y = formed more (forms_left w b) (drop (values_taken w b) values) text in
      let f : drop i forms ≡ b ∷ more = drop-cons forms i 0 h ∙ rw (add-one i) refl in
      rw (e, c, r, d, e1, e2, e3) (sym (puts-append x y o) ∙ ap (λ (z : List ℕ). puts (formed z w values text) o) (sym f) ∙ inv)

  pub form-done : length forms ≤ i → puts (formed (drop i forms) w values text) o ≡ whole → o ≡ whole
  unfolding formed puts
  form-done h inv = ap (λ (z : List ℕ). puts (formed z w values text) o) (sym (drop_of_length-le forms h)) ∙ inv
