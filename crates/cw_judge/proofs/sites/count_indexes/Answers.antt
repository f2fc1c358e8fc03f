use Rattle.cw_judge.proofs.Counting.{index_few, indexes_few, address_few}
use Rattle.cw_judge.proofs.sites.count_indexes.Goals as goal

pub returns-in-One : goal.returns-in-One
returns-in-One c =
    index_few c.args.r.now c.in-One.field-0 c.in-One.i c.get.result.now c.args.first.now c.count_expression.new.first c.in-One.is c.get.ensures c.count_expression.ensures

pub returns-in-Two : goal.returns-in-Two
returns-in-Two c =
    indexes_few c.args.r.now c.in-Two.field-0 c.in-Two.i c.get-in-Two.result.now c.in-Two.j c.get-in-Two-2.result.now c.args.first.now c.count_expression-in-Two.new.first
    c.count_expression-in-Two-2.new.first
    c.in-Two.is c.get-in-Two.ensures c.get-in-Two-2.ensures c.count_expression-in-Two.ensures c.count_expression-in-Two-2.ensures

pub returns-in-Bare : goal.returns-in-Bare
returns-in-Bare c =
    address_few c.args.r.now c.in-Bare.field-0 c.in-Bare.e c.get-in-Bare.result.now c.args.first.now c.count_expression-in-Bare.new.first c.in-Bare.is c.get-in-Bare.ensures
    c.count_expression-in-Bare.ensures
