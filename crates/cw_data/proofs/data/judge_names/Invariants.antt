use Rattle.std.proofs.Common.{◌≡◌, drop}
use Rattle.cw_data.specs.Data.{each_wrong_unless}
use Rattle.cw_data.proofs.data.judge_names.Given as goal

abbrev pub invariant-loop-name : goal.invariant-loop-name
invariant-loop-name l = each_wrong_unless l.holds (drop l.name-index l.names) l.first ≡ each_wrong_unless l.holds l.names l.initial.first
