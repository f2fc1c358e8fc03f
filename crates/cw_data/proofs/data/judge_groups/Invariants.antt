use Rattle.std.proofs.Common.{◌≡◌, drop}
use Rattle.cw_data.specs.Data.{groups_judged}
use Rattle.cw_data.proofs.data.judge_groups.Given as goal

abbrev pub invariant-loop-group : goal.invariant-loop-group
invariant-loop-group l = groups_judged (drop l.group-index l.groups) l.first ≡ groups_judged l.groups l.initial.first
