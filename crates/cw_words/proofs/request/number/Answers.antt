use Rattle.std.proofs.Common.{arith}
use Rattle.cw_words.proofs.Facts.{number_some, number_none}
use Rattle.cw_words.proofs.request.number.Goals as goal

pub returns-in-Ok : goal.returns-in-Ok
returns-in-Ok c =
    let read = c.in-Ok.ensures.value.0 in
    record { number = number_some _ _ _ _ read.0.0 read.0.1 read.1 c.if-low-number.true c.if-number-high.true; in_range = (c.if-low-number.true, c.if-number-high.true) }

pub returns-in_default : goal.returns-in_default
returns-in_default c =
    let read = c.in-Ok.ensures.value.0 in
    record { number = number_none _ _ _ (λ is. omega (arith, read.1, is.3)); in_range = tt }

pub returns-in_default-2 : goal.returns-in_default-2
returns-in_default-2 c =
    let read = c.in-Ok.ensures.value.0 in
    record { number = number_none _ _ _ (λ is. omega (arith, read.1, is.2)); in_range = tt }

pub returns-in_default-3 : goal.returns-in_default-3
returns-in_default-3 c =
    let read = c.in_default.ensures.value.0 in
    record { number = number_none _ _ _ (λ is. read (is.0, is.1)); in_range = tt }
