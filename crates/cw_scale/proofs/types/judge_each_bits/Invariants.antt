use Rattle.std.proofs.Common.{◌≡◌, drop}
use Rattle.cw_scale.specs.Types.{each_bits_judged}
use Rattle.cw_scale.proofs.types.judge_each_bits.Given as goal

abbrev pub invariant-loop-bits : goal.invariant-loop-bits
invariant-loop-bits l = each_bits_judged (drop l.bits-index l.all) l.first ≡ each_bits_judged l.all l.initial.first
