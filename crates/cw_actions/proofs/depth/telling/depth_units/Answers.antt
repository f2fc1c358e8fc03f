use Rattle.std.proofs.Common.{List, ◌∙◌, sym, subst}
use Rattle.cw_unit.specs.declared.unit.Unit.{Unit as SourceUnit}
use Rattle.cw_depth.specs.declared.depth_report.Report.{Report}
use Rattle.cw_depth.specs.Numbering.{AreFew}
use Rattle.cw_depth.specs.Told.{IsReport}
use Rattle.cw_build.specs.Linking.{Links}
use Rattle.cw_correct.specs.Results.{BoundsRuns, IsDepth}
use Rattle.cw_actions.specs.Resulting.Outside.{out_at}
use Rattle.cw_actions.proofs.Resulting.Steps.{unlinked_tells}
use Rattle.cw_actions.proofs.depth.telling.depth_units.Goals as goal

pub write_depth-requires : goal.write_depth-requires
write_depth-requires g c =
    let same = sym (c.as_slice.ensures ∙ c.requires.1.0.are.units) in
    record { few = subst AreFew same c.requires.1.1.0; bounds = subst (λ (us : List SourceUnit). (report : Report) → IsReport us report → BoundsRuns us report) same c.requires.1.1.1 }

pub returns-in-Ok : goal.returns-in-Ok
returns-in-Ok g c =
    let same = c.as_slice.ensures ∙ c.requires.1.0.are.units in
    let Q : List SourceUnit → Type 0 = λ us. Links us c.args.limits.now in
    rw same at (c.write_depth.ensures c.args.limits.now (subst Q (sym same) c.in-Ok.ensures.links))

pub returns-in-Err : goal.returns-in-Err
returns-in-Err g c = unlinked_tells IsDepth g.us c.args.limits.now (out_at (g.O.Sink.held c.args.out.now) (g.O.Sink.faults c.args.out.now)) c.in-Err.status c.in-Err.ensures.fails
