-- Octets behind the End TLV never matter (L8): a valid LLDPDU followed by anything else reads the same.
-- Each answer of the reader in turn.
use Prim.Native.Nat.{ℕ, ◌<◌}
use mathlib.Core.Path.{◌≡◌, sym, ap, ◌∙◌}
use mathlib.Core.List.{List, ◌++◌, map}
use native.Mathlib.Omega.{arith}
use lib.ListN.{take}
use Rattle.fields.specs.Field.{link, capabilities, topics}
use Rattle.walk.specs.Walk.{Walked}
use Rattle.lldpdu.specs.Extent.{rest_of, extent_of}
use Rattle.found.specs.Found.{nothing, mark_of, gather}
use Rattle.reading.specs.Reading.{link_at, found_in, reading_of}
use Rattle.found.specs.Contents.{tlvs_in}
use Rattle.reading.specs.Meaning.{answer_of}
use Rattle.found.proofs.MarkLaws.{AllIn, text_at, topic-means}
use Rattle.system.proofs.SystemLaws.{system-same}
use Rattle.reading.proofs.MeaningLaws.{rest_in}
use Rattle.lldpdu.proofs.Stable.{front, extent-stable, seconds-same}
use Rattle.std.specs.Prelude.{Ok}

module _ (s t : List ℕ) (e : ℕ) (v : extent_of s ≡ Ok e) where
  abbrev u : List ℕ
  u = take e s ++ t

  found-same : found_in u ≡ found_in s
  found-same = ap (λ (w : Walked). gather nothing w.tlvs) (front s t e v).rest

  tlvs-same : tlvs_in u ≡ tlvs_in s
  tlvs-same = ap (λ (w : Walked). map (λ p. p.tlv) w.tlvs) (front s t e v).rest

  pub answer-stable : answer_of u ≡ answer_of s
  unfolding answer_of
  answer-stable = rw (extent-stable s t e v, v, tlvs-same, (front s t e v).chassis, (front s t e v).place, (front s t e v).port, seconds-same s t e v)

  -- the first content of a topic is the same, so what is read from it is
  text-kept : (topic : ℕ) → topic < topics → text_at u (mark_of topic (found_in s)) ≡ text_at s (mark_of topic (found_in s))
  text-kept topic h =
      let ps = (rest_of s).tlvs in
      let here : AllIn u ps = rw (ap (λ (w : Walked). w.tlvs) (front s t e v).rest) at (rest_in u) in
      (topic-means u topic ps h here).text ∙ sym (topic-means s topic ps h (rest_in s)).text

  link-kept : link_at u (mark_of link (found_in s)) ≡ link_at s (mark_of link (found_in s))
  unfolding link_at
  link-kept = rw (text-kept link (omega arith))

  pub reading-stable : reading_of u ≡ reading_of s
  unfolding reading_of
  reading-stable = rw (extent-stable s t e v, v, found-same, (front s t e v).chassis-at, (front s t e v).place, (front s t e v).port-at, seconds-same s t e v, link-kept, system-same u s (found_in s) (text-kept capabilities (omega arith)))
