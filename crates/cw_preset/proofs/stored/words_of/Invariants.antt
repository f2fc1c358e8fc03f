use Rattle.std.proofs.Common.{◌≡◌, ◌++◌, drop}
use Rattle.cw_preset.proofs.stored.words_of.Given as goal

abbrev pub invariant-loop-index : goal.invariant-loop-index
invariant-loop-index l = l.all ++ drop l.index l.stored ≡ l.stored
