use Rattle.std.proofs.Common.{◌≡◌, take, true}
use Rattle.std.specs.List.{list_all}
use Rattle.cw_built.specs.Coded.{has_numbers}
use Rattle.cw_checks_code.proofs.codes.have_numbers.Given as goal

abbrev pub invariant-loop-order : goal.invariant-loop-order
invariant-loop-order l = list_all has_numbers (take l.order-index l.orders) ≡ true
