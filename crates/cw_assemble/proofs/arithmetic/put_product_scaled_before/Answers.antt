use Rattle.cw_assemble.proofs.BeforeChecks.{scaled_added}
use Rattle.cw_assemble.proofs.arithmetic.put_product_scaled_before.Goals as goal

pub returns : goal.returns
returns c =
    scaled_added c.args.code.now c.put_product_start.new.code c.put_times_before.new.code c.args.line c.power.result c.args.places c.requires.some c.power.ensures c.put_product_start.ensures c.put_times_before.ensures
