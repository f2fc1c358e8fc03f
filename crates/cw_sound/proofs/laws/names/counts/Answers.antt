use Rattle.std.proofs.Common.{refl}
use Rattle.cw_number.specs.Numbers.{numbers_of}
use Rattle.cw_sound.proofs.Names.Counting.{counts_own}
use Rattle.cw_sound.proofs.laws.names.counts.Goals as goal

pub returns : goal.returns
returns c named resolves placed items = counts_own named (numbers_of named) resolves placed refl items.others
