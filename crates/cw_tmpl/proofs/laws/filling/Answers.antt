use Rattle.std.proofs.Common.{◌≡◌, ◌+◌, ◌++◌, length, ap, ◌∙◌, arith}
use Rattle.cw_tmpl.specs.Pieces.{filled}
use Rattle.cw_tmpl.proofs.Filling.{filled_is, filled-append, length-filled}
use Rattle.cw_tmpl.proofs.laws.filling.Goals as goal

pub returns-clause-gives : goal.returns-clause-gives
returns-clause-gives c value pieces before behind =
    let base : length before + 0 ≡ length before = omega arith in
    filled_is value pieces (length before) 0 before behind base ∙ ap (λ n. before ++ (filled value n pieces ++ behind)) base

pub returns-clause-long : goal.returns-clause-long
returns-clause-long c = length-filled

pub returns-clause-joins : goal.returns-clause-joins
returns-clause-joins c = filled-append
