-- `reading::read_lldpdu` meets its contract: a refusal alone, or the parts put together.
-- The laws are refused_front, reads_front, goes_on, walk-refuses, ready and assembled of MeaningLaws.
use mathlib.Core.Path.{◌≡◌, refl, ◌∙◌}
use native.Mathlib.Omega.{arith}
use borrow.Author.Rules.{rules}
use Rattle.std.specs.Prelude.{Ok, Err}
use Rattle.lldpdu.specs.Leading.{front_of}
use Rattle.lldpdu.specs.Outline.{outline_at}
use Rattle.reading.proofs.MeaningLaws.{goes_on, walk-refuses, ready, assembled, reads-exactly, refused_front, reads_front}
use Rattle.reading.proofs.read_lldpdu.Goals as goal

pub returns-in_err-o : goal.returns-in_err-o
returns-in_err-o c = grind (arith, refused_front, reads_front)

pub returns-in_err-octets : goal.returns-in_err-octets
returns-in_err-octets c =
    let s = c.args.s.now in
    let front : outline_at (front_of s) s ≡ Ok c.in_ok-o.o = search rules in
    let on = goes_on s refl front in
    let e : c.from_residual-in_err-octets.result ≡ Err c.in_err-octets.field-0.0 = search rules in
    reads-exactly s (e ∙ walk-refuses s on.0 c.gathered-survey.ensures c.in_err-octets.was)

pub description_at-requires : goal.description_at-requires
description_at-requires c =
    let s = c.args.s.now in
    let front : outline_at (front_of s) s ≡ Ok c.in_ok-o.o = search rules in
    let on = goes_on s refl front in
    ready s on.0 c.gathered-survey.ensures

pub returns : goal.returns
returns c =
    let s = c.args.s.now in
    let front : outline_at (front_of s) s ≡ Ok c.in_ok-o.o = search rules in
    let on = goes_on s refl front in
    reads-exactly s (assembled s on.0 c.gathered-survey.ensures c.in_ok-octets.was on.1 c.is_htip.ensures c.description_at.ensures)
