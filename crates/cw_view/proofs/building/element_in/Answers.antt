use Rattle.std.proofs.Common.{sym}
use Rattle.cw_view.proofs.Gathering.{is_named}
use Rattle.cw_view.proofs.building.element_in.Goals as goal

pub unreachable-requires : goal.unreachable-requires
unreachable-requires c = is_named c.args.bytes.now c.in_ok-text.text.now c.in_ok-text.rest.now c.in_ok-text.ensures (sym c.in-None.ensures)
