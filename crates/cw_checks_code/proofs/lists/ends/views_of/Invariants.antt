use Rattle.std.proofs.Common.{All}
use Rattle.cw_link.specs.Views.{IsOpened}
use Rattle.cw_checks_code.proofs.lists.ends.views_of.Given as goal

abbrev pub invariant-loop-object : goal.invariant-loop-object
invariant-loop-object l = All IsOpened l.views
