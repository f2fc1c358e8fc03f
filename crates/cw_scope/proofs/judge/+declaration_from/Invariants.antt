use Rattle.std.proofs.Common.{◌-◌, length}
use Rattle.cw_scope.proofs.judge.+declaration_from.Given as goal

abbrev pub decreases-declaration_from : goal.decreases-declaration_from
decreases-declaration_from l = length l.blocks.now - l.from
