use Rattle.std.proofs.Common.{arith}
use Rattle.cw_listing.proofs.Past.{no_remarks}
use Rattle.cw_listing.proofs.program.add_unit.Goals as goal

pub returns-else-segment-units : goal.returns-else-segment-units
returns-else-segment-units c = no_remarks c.args.remarks.now c.args.start c.args.units.now c.args.segment c.args.code.now c.args.source.now (omega (arith, c.if-segment-units.false))
