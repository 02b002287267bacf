-- When a list of places is fit (N5), but for what lies inside a place: that is said of octets, and not here.
-- `FitPlaces n t` is what every event keeps; with it, a record that gets room finds a free place.
use Rattle.std.specs.Prelude.{ℕ, ◌≤◌, ◌<◌, ◌≡◌, [], ◌∷◌, false, length}
use Rattle.std.proofs.Math.Option.{Option, none, some}
use Rattle.ids.specs.Id.{Id}
use Rattle.rules.specs.Identity.{Ident, same}
use Rattle.rules.specs.Shares.{most, per_chassis, common_for, places_for, beyond}
use Rattle.rules.specs.Model.{Rec, Places, holds_in, holds_of}

-- P of the identity in a place, where the place has a record
abbrev pub InPlace : (Ident → Type 0) → Option Rec → Type 0
InPlace P none = Unit {0}
InPlace P (some r) = P r.who

-- P of the identity of every record
abbrev pub InAll : (Ident → Type 0) → Places → Type 0
InAll P [] = Unit {0}
InAll P (x ∷ t) = InPlace P x × InAll P t

-- no record has the identity w
abbrev pub Absent : Ident → Places → Type 0
Absent w t = InAll (λ v. same w v ≡ false) t

-- no identity occurs twice (N5 d): what is in a place is absent from the places above it
abbrev pub Once : Places → Type 0
Once [] = Unit {0}
Once (x ∷ t) = InPlace (λ v. Absent v t) x × Once t

-- every record was heard on one of the n ports (N5 c, of the port alone)
abbrev pub Ports : ℕ → Places → Type 0
Ports n t = InAll (λ v. v.port < n) t

-- N5 with n ports: (d) is `once`, (e) is `six`, (f) is `common`, (g) is `three`
pub record FitPlaces (n : ℕ) (t : Places) : Type 0 where
  pub size : length t ≡ places_for n
  pub once : Once t
  pub ports : Ports n t
  pub six : (q : ℕ) → holds_in t q ≤ most
  pub common : beyond n (holds_in t) ≤ common_for n
  pub three : (q : ℕ) (c : Id) → holds_of t q c ≤ per_chassis
