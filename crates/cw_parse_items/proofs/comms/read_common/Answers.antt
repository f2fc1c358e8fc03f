-- The items in brackets behind their word.
use Rattle.std.proofs.Common.{rules, refl}
use Rattle.std.proofs.lemmas.Result.{err_from_is_err_and}
use Rattle.cw_grammar.specs.Grammar.{a_citem}
use Rattle.cw_grammar.specs.Statements.{citem}
use Rattle.cw_grammar.specs.Reading.{read}
use Rattle.cw_series.proofs.Steps.{then_fails, after_fails}
use Rattle.cw_parse_items.proofs.comms.read_common.Goals as goal

pub returns : goal.returns
returns c =
    let list = c.in_ok-list.ensures (λ ts. read 0 a_citem citem ts) (λ k r p. search rules) in
    rw (c.in_ok-word.ensures, list, c.position.ensures) refl

pub returns-in_err-list : goal.returns-in_err-list
returns-in_err-list c =
    let q = err_from_is_err_and c.from_residual-in_err-list.result c.from_residual-in_err-list.ensures.1 in
    rw (q.1, q.2) (then_fails _ _ _ (after_fails _ _ _ _ c.in_ok-word.ensures (then_fails _ _ _ (c.in_err-list.ensures (λ ts. read 0 a_citem citem ts) (λ k r p. search rules)))))
