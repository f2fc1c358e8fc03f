use Rattle.std.proofs.Common.{List, length, ap, sym, subst, arith}
use Rattle.std.specs.Prelude.{All}
use Rattle.cw_unit.specs.declared.unit.Unit.{Unit as SourceUnit}
use Rattle.cw_image.specs.declared.image.Image.{Image}
use Rattle.cw_build.specs.Building.{IsLinkedOf}
use Rattle.cw_build.specs.Compiled.{IsCompilable}
use Rattle.cw_files.specs.Reading.{AreSegmentsOf}
use Rattle.cw_correct.specs.Results.{IsCode}
use Rattle.cw_actions.specs.Resulting.Outside.{out_at}
use Rattle.cw_actions.proofs.Resulting.Steps.{unlinked_tells}
use Rattle.cw_actions.proofs.code.telling.code_units.Goals as goal

pub write_listing-requires : goal.write_listing-requires
write_listing-requires g c = record {
  segments = subst (λ us. AreSegmentsOf us c.args.sources.now.segments) (sym c.requires.1.are.units) c.requires.1.are;
  compiled = subst (λ us. All IsCompilable us) (sym c.requires.1.are.units) c.requires.1.compiled;
  few = omega (arith, ap (λ (i : Image). length i.code) c.in-Ok.ensures.image, c.linked_units.ensures.code g.us c.args.limits.now, c.in-Ok.ensures.links.code);
}

pub returns-in-Ok : goal.returns-in-Ok
returns-in-Ok g c =
    let Q : List SourceUnit → Type 0 = λ us. IsLinkedOf us c.args.limits.now c.in-Ok.linked in
    rw c.requires.1.are.units at (c.write_listing.ensures c.args.limits.now (subst Q (sym c.requires.1.are.units) c.in-Ok.ensures))

pub returns-in-Err : goal.returns-in-Err
returns-in-Err g c =
    unlinked_tells (IsCode c.args.sources.now.texts) g.us c.args.limits.now (out_at (g.O.Sink.held c.args.out.now) (g.O.Sink.faults c.args.out.now)) c.in-Err.status c.in-Err.ensures
