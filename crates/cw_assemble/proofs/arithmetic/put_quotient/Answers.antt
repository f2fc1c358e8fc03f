use Rattle.std.proofs.Common.{w8}
use Rattle.std.proofs.lemmas.Int.{to_z-of_z}
use Rattle.cw_tmpl.specs.Templates.{quotient_before}
use Rattle.cw_assemble.proofs.Composed.{by_same, check_added}
use Rattle.cw_assemble.proofs.Ended.{quotient_checked}
use Rattle.cw_assemble.proofs.arithmetic.put_quotient.Goals as goal

pub returns : goal.returns
returns c =
    let before = by_same (quotient_before c.args.line) (to_z-of_z w8 c.args.scale c.ranges.scale) c.put_quotient_before.ensures in
    quotient_checked c.args.short c.args.code.now c.put_check.new.code c.args.line c.args.call c.args.scale (check_added c.args.short c.args.line c.args.call before c.put_check.ensures)
