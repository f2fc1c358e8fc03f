-- An exact value as a word, or none.
use Rattle.std.proofs.Common.{arith, ◌≡◌, ℤ, pos, negsuc, Some, None}
use Rattle.std.proofs.lemmas.Bool.Decides.{nat_tests}
use Rattle.std.proofs.lemmas.Int.{ints}
use Rattle.cw_word.specs.FixedPoint.{FitsWord}
use Rattle.cw_checks_front.specs.Trees.{as_word}

pub as_word-fits : (z : ℤ) → FitsWord z → as_word z ≡ Some z
as_word-fits (pos n) f = grind (arith, ints, nat_tests)
as_word-fits (negsuc n) f = grind (arith, ints, nat_tests)

pub as_word-over : (z : ℤ) → ¬ FitsWord z → as_word z ≡ None
as_word-over (pos n) f = grind (arith, ints, nat_tests)
as_word-over (negsuc n) f = grind (arith, ints, nat_tests)

pub ruleset exact = (as_word-fits, as_word-over)
