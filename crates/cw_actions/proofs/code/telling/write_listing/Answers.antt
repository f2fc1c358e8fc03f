use Rattle.std.proofs.Common.{◌∙◌, ap, sym, subst, length, arith, List, ℕ}
use Rattle.std.specs.Prelude.{All}
use Rattle.cw_list.specs.Rows.{layouts_of}
use Rattle.cw_build.specs.Compiled.{IsCompilable}
use Rattle.cw_correct.specs.Results.{IsCode}
use Rattle.cw_actions.specs.Resulting.Outside.{out_at}
use Rattle.cw_actions.proofs.Resulting.Steps.{tells_of}
use Rattle.cw_actions.proofs.Coding.{listing_is}
use Rattle.cw_actions.proofs.code.telling.write_listing.Goals as goal

pub unit_codes-requires : goal.unit_codes-requires
unit_codes-requires g c = record {
  compiled = subst (λ us. All IsCompilable us) (sym c.as_slice-units.ensures) c.requires.compiled;
  layouts = c.as_slice-layouts.ensures ∙ c.requires.segments.layouts ∙ ap layouts_of (sym c.as_slice-units.ensures);
}

pub code_listing-requires : goal.code_listing-requires
code_listing-requires g c = record {
  layouts = c.as_slice-layouts.ensures ∙ c.requires.segments.layouts ∙ ap layouts_of (sym c.as_slice-units.ensures);
  few = omega (arith, ap (λ (code : List ℕ). length code) c.as_slice-code.ensures, c.requires.few);
}

pub returns-in-Ok-code_listing : goal.returns-in-Ok-code_listing
returns-in-Ok-code_listing g c = λ limits linked.
    let units = c.args.sources.now.segments.units in
    let texts = c.args.sources.now.texts in
    let is = listing_is units limits texts c.args.linked.now.image c.as_slice-code.result.now c.as_slice-units.result.now c.in-Ok.codes c.as_slice.result.now c.as_slice-texts.result.now c.in-Ok-code_listing.text.items c.as_slice-in-Ok-code_listing.result.now
    linked.image c.as_slice-code.ensures c.as_slice-units.ensures c.in-Ok.ensures c.as_slice.ensures c.as_slice-texts.ensures c.as_slice-in-Ok-code_listing.ensures.value c.in-Ok-code_listing.ensures in
    tells_of (IsCode texts) units limits (out_at (g.O.Sink.held c.args.out.now) (g.O.Sink.faults c.args.out.now)) (out_at (g.O.Sink.held c.write_text.new.out) (g.O.Sink.faults c.write_text.new.out)) c.write_text.result
    c.as_slice-in-Ok-code_listing.result.now linked.links is c.write_text.ensures
