use Rattle.std.proofs.Common.{ap, ◌∙◌}
use Rattle.cw_gen_unit.specs.ReferenceUnits.{switch_lists, shared}
use Rattle.cw_gen_unit.proofs.WholeUnits.{whole}
use Rattle.cw_gen_unit.proofs.unit.whole.Goals as goal

pub returns : goal.returns
returns c =
    whole c.args.unit.now c.args.list c.args.marks c.in_ok-labels.labels c.in_ok-procedures.procedures c.in_ok-switches.switches c.in_ok-shared.shared
    c.requires.list c.requires.marks c.in_ok-labels.ensures c.in_ok-procedures.ensures (c.in_ok-switches.ensures ∙ ap switch_lists c.as_slice.ensures) (c.in_ok-shared.ensures ∙ ap shared c.as_slice-2.ensures)
