-- Laws of the rules: what a description that keeps them has, and the tests as the code makes them.
-- `kept` takes the rules apart once; everything else cites its fields.
use Prim.Native.Nat.{ℕ, ◌+◌, ◌%◌, ◌≤◌}
use mathlib.Core.Path.{◌≡◌, ap, ◌∙◌}
use mathlib.Core.List.{List, [], ◌∷◌}
use mathlib.Core.Bool.{Bool, true}
use mathlib.Core.Option.{none}
use borrow.Author.Tests.{leb-true, eqb-true}
use lib.ListN.{length}
use lib.Dec.{leb, eqb}
use Rattle.tally.specs.Tests.{pick, all, is_none}
use Rattle.tally.proofs.TestsLaws.{both_true, held}
use Rattle.strings.specs.Text.{text_ok}
use Rattle.ids.specs.Id.{chassis_ok, port_ok}
use Rattle.extension.specs.Layout.{extension_ok}
use Rattle.text.specs.Part.{most_parts}
use Rattle.system.specs.System.{SystemInfo, unsaid, management_sound, system_rules, absent_rules}
use Rattle.reading.specs.Meaning.{Said}
use Rattle.description.specs.Rules.{words_sound, string_rules, table_rules, table_sound, link_sound, content_sound, extension_sound, listed_sound, list_sound, goodbye_rules, live_rules, rules, sound_of}

-- what is said by a description that keeps the rules
pub record Kept (d : Said) : Type 0 where
  pub chassis : chassis_ok d.chassis ≡ true
  pub port : port_ok d.port ≡ true
  pub words : length d.words ≤ 255
  pub text : text_ok d.words ≡ true
  pub category : length d.category ≤ 255
  pub manufacturer : length d.manufacturer ≤ 6
  pub model : length d.model ≤ 31
  pub number : length d.number ≤ 31
  pub link : link_sound d.link ≡ true
  pub extension : extension_sound d.extension ≡ true
  pub list : list_sound d.list ≡ true
  pub name : length d.system.name ≤ 255
  pub description : length d.system.description ≤ 255
  pub few : length d.system.management ≤ most_parts
  pub management : management_sound d.system.management ≡ true
  pub timely : pick (eqb d.seconds 0) (all (goodbye_rules d)) (all (live_rules d)) ≡ true

pub kept : (d : Said) → sound_of d ≡ true → Kept d
unfolding sound_of
kept d e =
    let h = held (rules d) e in
    let w = both_true (leb (length d.words) 255) (text_ok d.words) h.1.1.0 in
    let s = held (string_rules d) h.1.1.1.0 in
    let x = held (system_rules d.system) h.1.1.1.1.1.1.1.0 in
    record {
      chassis = h.0;
      port = h.1.0;
      words = leb-true (length d.words) 255 w.0;
      text = w.1;
      category = leb-true (length d.category) 255 s.0;
      manufacturer = leb-true (length d.manufacturer) 6 s.1.0;
      model = leb-true (length d.model) 31 s.1.1.0;
      number = leb-true (length d.number) 31 s.1.1.1.0;
      link = h.1.1.1.1.0;
      extension = h.1.1.1.1.1.0;
      list = h.1.1.1.1.1.1.0;
      name = leb-true (length d.system.name) 255 x.0;
      description = leb-true (length d.system.description) 255 x.1.0;
      few = leb-true (length d.system.management) most_parts x.1.1.0;
      management = x.1.1.1.0;
      timely = h.1.1.1.1.1.1.1.1.0;
    }

-- link information and address list that keep W5
pub record Table (n m a : ℕ) : Type 0 where
  pub typed : (leb 1 n ≡ true) × (leb n 4 ≡ true)
  pub numbered : (leb 1 m ≡ true) × (leb m 4 ≡ true)
  pub interface : n ≤ 4
  pub port : m ≤ 4
  pub whole : a % 6 ≡ 0
  pub short : 7 + n + m + a ≤ 511

pub table : (n m a : ℕ) → table_sound n m a ≡ true → Table n m a
table n m a e =
    let h = held (table_rules n m a) e in
    record {
      typed = (h.0, h.1.0);
      numbered = (h.1.1.0, h.1.1.1.0);
      interface = leb-true n 4 h.1.0;
      port = leb-true m 4 h.1.1.1.0;
      whole = eqb-true (a % 6) 0 h.1.1.1.1.0;
      short = leb-true (7 + n + m + a) 511 h.1.1.1.1.1.0;
    }

pub record Listed (a : ℕ) : Type 0 where
  pub whole : a % 6 ≡ 0
  pub short : 5 + a ≤ 511

pub listed : (a : ℕ) → listed_sound a ≡ true → Listed a
listed a e =
    let h = both_true (eqb (a % 6) 0) (leb (5 + a) 511) e in
    record { whole = eqb-true (a % 6) 0 h.0; short = leb-true (5 + a) 511 h.1 }

pub record Content (c : List ℕ) : Type 0 where
  pub short : 4 + length c ≤ 511
  pub formed : extension_ok c ≡ true

pub content : (c : List ℕ) → content_sound c ≡ true → Content c
content c e =
    let h = both_true (leb (4 + length c) 511) (extension_ok c) e in
    record { short = leb-true (4 + length c) 511 h.0; formed = h.1 }

-- what a goodbye had to leave out before there was extension link information, with more behind it
abbrev pub bare_rules : Said → List Bool → List Bool
bare_rules d more =
    eqb (length d.words) 0
    ∷ eqb (length d.category) 0
    ∷ eqb (length d.manufacturer) 0
    ∷ eqb (length d.model) 0
    ∷ eqb (length d.number) 0
    ∷ is_none d.link
    ∷ is_none d.list
    ∷ more

-- the rules of before there were system fields and extension link information, in their order, with more behind them
abbrev pub front_rules : Said → List Bool → List Bool
front_rules d more =
    chassis_ok d.chassis
    ∷ port_ok d.port
    ∷ words_sound d.words
    ∷ all (string_rules d)
    ∷ link_sound d.link
    ∷ list_sound d.list
    ∷ more

-- the rules of before there was extension link information
abbrev pub rules_without : Said → List Bool
rules_without d =
    front_rules d
    (all (system_rules d.system) ∷ pick (eqb d.seconds 0) (all (bare_rules d (all (absent_rules d.system) ∷ []))) (all (live_rules d)) ∷ [])

-- they are asked where there is none
pub rules-without-extension : (d : Said) → d.extension ≡ none → sound_of d ≡ all (rules_without d)
unfolding sound_of
rules-without-extension d e = rw e

-- and those of before there were system fields
abbrev pub rules_before : Said → List Bool
rules_before d = front_rules d (pick (eqb d.seconds 0) (all (bare_rules d [])) (all (live_rules d)) ∷ [])

pub rules-without-both : (d : Said) → d.system ≡ unsaid → d.extension ≡ none → sound_of d ≡ all (rules_before d)
rules-without-both d e x =
    let right : all (system_rules d.system) ≡ true = ap (λ (y : SystemInfo). all (system_rules y)) e in
    let absent : all (absent_rules d.system) ≡ true = ap (λ (y : SystemInfo). all (absent_rules y)) e in
    rules-without-extension d x ∙ rw (right, absent)
