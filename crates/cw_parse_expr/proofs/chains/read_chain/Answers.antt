-- The loop over operands.
use Rattle.std.proofs.Common.{◌≡◌, ◌∙◌, ◌++◌, List, [], ◌∷◌, Ok, sym, refl, arith}
use Rattle.std.proofs.lemmas.Result.{err_from_is_err_and}
use Rattle.cw_grammar.specs.Tokens.{Item, behind}
use Rattle.cw_grammar.specs.Trees.{extended}
use Rattle.cw_grammar.specs.Reading.{Read}
use Rattle.cw_series.proofs.Steps.{one_more, no_more, all_read, item_fails, then_fails, after_fails}
use Rattle.cw_series.specs.Series.{both}
use Rattle.cw_parse_expr.proofs.Operands.{chains_collect}
use Rattle.cw_parse_expr.proofs.chains.read_chain.Goals as goal

both_read : {A B : Type 0} (operator : List Item → Read B) (operand : List Item → Read A) (o : B) (x : A) (ts us rest : List Item) → operator ts ≡ Ok (o, us) → operand us ≡ Ok (x, rest) → both operator operand ts ≡ Ok ((o, x), rest)
both_read operator operand o x ts us rest e f = rw (e, f) refl

pub more-init : goal.more-init
more-init g c item p = rw c.left-most.ensures refl

pub more-preserved : goal.more-preserved
more-preserved g c item p =
    rw (c.in_ok-push.ensures.ok, c.in_ok-push-2.ensures.ok)
    (one_more _ (λ s x. (s.0 ++ x.1 ∷ [], s.1 ++ x.0 ∷ [])) chains_collect (g.O.Operator.begins c.args.operator) (both (g.O.Operator.reads c.args.operator) item) (c.more.operands, c.more.operators) (c.in_ok-sign.sign, c.in_ok-operand.operand) (behind c.args.tokens.now c.more.next) (behind c.args.tokens.now c.in_ok-operand.after) _ c.more.most
    (omega arith) (sym c.is_next.ensures ∙ c.if-not-is_next.false)
    (both_read (g.O.Operator.reads c.args.operator) item c.in_ok-sign.sign c.in_ok-operand.operand (behind c.args.tokens.now c.more.next) (behind c.args.tokens.now c.in_ok-sign.after) (behind c.args.tokens.now c.in_ok-operand.after) c.in_ok-sign.ensures (p c.in_ok-sign.after _ c.in_ok-operand.ensures))
    (c.more.invariant item p))

pub returns-then-not-is_next : goal.returns-then-not-is_next
returns-then-not-is_next g c item p =
    no_more _ (λ s x. (s.0 ++ x.1 ∷ [], s.1 ++ x.0 ∷ [])) chains_collect (g.O.Operator.begins c.args.operator) (both (g.O.Operator.reads c.args.operator) item) (c.more.operands, c.more.operators) (behind c.args.tokens.now c.more.next) _ c.more.most
    (sym c.is_next.ensures ∙ c.if-not-is_next.true) (c.more.invariant item p)

pub returns : goal.returns
returns g c item p =
    all_read _ (λ s x. (s.0 ++ x.1 ∷ [], s.1 ++ x.0 ∷ [])) chains_collect (g.O.Operator.begins c.args.operator) (both (g.O.Operator.reads c.args.operator) item) (c.more.operands, c.more.operators) (behind c.args.tokens.now c.more.next) _ c.more.most
    (omega arith) (c.more.invariant item p)

pub returns-in_err-sign : goal.returns-in_err-sign
returns-in_err-sign g c item p =
    let q = err_from_is_err_and c.from_residual.result c.from_residual.ensures.1 in
    rw (q.1, q.2)
    (item_fails c.in_err-sign.field-0.0 (λ s xs. extended s xs) (g.O.Operator.begins c.args.operator) (both (g.O.Operator.reads c.args.operator) item) (c.more.operands, c.more.operators) (behind c.args.tokens.now c.more.next) _ c.more.most
    (omega arith) (sym c.is_next.ensures ∙ c.if-not-is_next.false) (then_fails _ _ _ c.in_err-sign.ensures) (c.more.invariant item p))

pub returns-in_err-operand : goal.returns-in_err-operand
returns-in_err-operand g c item p =
    let q = err_from_is_err_and c.from_residual-in_err-operand.result c.from_residual-in_err-operand.ensures.1 in
    rw (q.1, q.2)
    (item_fails c.in_err-operand.field-0.0 (λ s xs. extended s xs) (g.O.Operator.begins c.args.operator) (both (g.O.Operator.reads c.args.operator) item) (c.more.operands, c.more.operators) (behind c.args.tokens.now c.more.next) _ c.more.most
    (omega arith) (sym c.is_next.ensures ∙ c.if-not-is_next.false)
    (after_fails _ _ _ _ c.in_ok-sign.ensures (then_fails _ _ _ (p c.in_ok-sign.after _ c.in_err-operand.ensures)))
    (c.more.invariant item p))
