use Rattle.std.proofs.Common.{arith}
use Rattle.cw_listing.proofs.Past.{no_words}
use Rattle.cw_listing.proofs.program.add_unit_words.Goals as goal

pub returns-else-segment-units : goal.returns-else-segment-units
returns-else-segment-units c = no_words c.args.words.now c.args.start c.args.units.now c.args.segment c.args.code.now (omega (arith, c.if-segment-units.false))
