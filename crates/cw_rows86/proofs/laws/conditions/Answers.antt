use Rattle.cw_i86.specs.Effect.{alu_flags}
use Rattle.cw_run86.proofs.Compared.{of_difference}
use Rattle.cw_rows86.proofs.Bytes.{byte_zero, byte_not_zero}
use Rattle.cw_rows86.proofs.Conditions.{difference_below, difference_not_below, overflow_holds, no_overflow_holds, zero_holds, sign_holds, counted_zero, counted_sign, opposite_holds, or_tested, and_tested}
use Rattle.cw_rows86.proofs.laws.conditions.Goals as goal

pub returns : goal.returns
unfolding alu_flags
returns c = record { compared = λ k a b flags la lb. of_difference k a b la lb; subtracted = λ k a b flags la lb. of_difference k a b la lb; as_compared = λ a b flags p e. record { flags = e }; as_subtracted = λ a b flags p e. record { flags = e }; compared_below = λ a b flags. difference_below a b; compared_not_below = λ a b flags. difference_not_below a b; subtracted_below = λ a b flags. difference_below a b; subtracted_not_below = λ a b flags. difference_not_below a b; overflow = overflow_holds; no_overflow = no_overflow_holds; zero = zero_holds; sign = sign_holds; counted_zero = counted_zero; counted_sign = counted_sign; not_zero = λ flags. (opposite_holds flags).0; not_sign = λ flags. (opposite_holds flags).1; byte_zero = byte_zero; byte_not_zero = byte_not_zero; or_tested = or_tested; and_tested = and_tested }
