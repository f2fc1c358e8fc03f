use Rattle.cw_rows86.proofs.Doubling.{self_and, self_or, self_xor, twice}
use Rattle.cw_rows86.proofs.laws.same_words.Goals as goal

pub returns : goal.returns
returns c = record { both = self_and; either = self_or; one = self_xor; twice = twice }
