-- What stands inside a level, arguments, and operands with an operator between any two.
use Rattle.std.proofs.Common.{rules, ◌∙◌, [], ◌∷◌, refl, sym, subst}
use Rattle.std.proofs.lemmas.Result.{err_from_is_err_and}
use Rattle.cw_lex.specs.declared.token.TokenKind.TheVariants as kinds
use Rattle.cw_lex.specs.declared.token.Symbol.TheVariants as symbols
use Rattle.cw_lex.specs.declared.token.Word.TheVariants as words
use Rattle.cw_grammar.specs.Tokens.{behind}
use Rattle.cw_tree.specs.declared.expression.RawExpr.{RawExpr}
use Rattle.cw_tree.specs.declared.expression.RawRef.{RawRef}
use Rattle.cw_grammar.specs.Grammar.{bracketed, subscript, indexed, called, located, conditional, a_pair, a_list, an_option, a_ref, a_position, a_sign, a_factor_sign, an_expr, a_cond, a_cand, a_cmp, a_sum, a_term, a_differ, a_union, a_mask, a_prim}
use Rattle.cw_grammar.specs.Rules.{operator, factor_sign, prim, mask, union, differ, term, sum, cmp, cand, condition, expr}
use Rattle.cw_grammar.specs.Table.{rule}
use Rattle.cw_grammar.specs.Trees.{mask_start, union_start, differ_start, term_start, mask_tree, union_tree, differ_tree, term_tree, cand_tree, cond_tree}
use Rattle.cw_grammar.specs.Reading.{Read, Gives, read}
use Rattle.cw_grammar.proofs.Levels.{inside_opened}
use Rattle.cw_grammar.proofs.Took.{is_taken}
use Rattle.cw_grammar.proofs.LabelLoop.{name_not_failed}
use Rattle.cw_series.proofs.Steps.{then_fails, after_fails}
use Rattle.cw_parse_expr.proofs.References.{second_kept, element_of, named_read, named_fails, bare_read, bare_fails}
use Rattle.cw_parse_expr.proofs.Operands.{chain_read, chain_fails, sum_read, sum_fails}
use Rattle.cw_parse_expr.proofs.reading.+reader.Goals as goal

pub read_bracketed-returns : goal.read_bracketed-returns
unfolding rule
read_bracketed-returns t c =
    let opened = inside_opened c.args.levels an_expr bracketed (behind c.args.tokens.now c.args.at) c.if-levels-eq0.false in
    rw (opened, c.in_ok-inner.ensures) (rw c.in_ok-boxed.ensures at c.read_before.ensures)

pub read_subscript-returns : goal.read_subscript-returns
unfolding rule
read_subscript-returns t c =
    let opened = inside_opened c.args.levels an_expr subscript (behind c.args.tokens.now c.args.at) c.if-levels-eq0.false in
    rw (opened, c.in_ok-inner.ensures) c.read_before.ensures

pub read_called-returns : goal.read_called-returns
unfolding rule
read_called-returns t c =
    let opened = inside_opened c.args.levels (a_list an_expr) called (behind c.args.tokens.now c.args.at) c.if-levels-eq0.false in
    rw (opened, c.in_ok-inner.ensures) c.read_before.ensures

pub read_located-returns : goal.read_located-returns
unfolding rule
read_located-returns t c =
    let opened = inside_opened c.args.levels a_ref located (behind c.args.tokens.now c.args.at) c.if-levels-eq0.false in
    rw (opened, c.in_ok-reference.ensures) (rw c.in_ok-boxed.ensures at c.read_before.ensures)

pub read_indexed-returns : goal.read_indexed-returns
unfolding rule
read_indexed-returns t c =
    let opened = inside_opened c.args.levels (a_pair an_expr (an_option an_expr)) indexed (behind c.args.tokens.now c.args.at) c.if-levels-eq0.false in
    rw (opened, c.in_ok-first.ensures, c.in_ok-second.ensures) refl

pub read_second-returns-then-next_is : goal.read_second-returns-then-next_is
read_second-returns-then-next_is t c =
    let told = sym c.next_is.ensures ∙ c.if-next_is.true in
    rw (told, c.in_ok-at.ensures, c.in_ok-second.ensures) c.read_before.ensures

pub read_second-returns-in_err-at : goal.read_second-returns-in_err-at
read_second-returns-in_err-at t c =
    let p = err_from_is_err_and c.from_residual.result c.from_residual.ensures.1 in
    rw (p.1, p.2) (is_taken c.in_err-at.field-0.0 _ (kinds.Symbol symbols.Comma) (behind c.args.tokens.now c.args.at) _ (sym c.next_is.ensures ∙ c.if-next_is.true) c.in_err-at.ensures)

pub read_second-returns : goal.read_second-returns
read_second-returns t c =
    let told = sym c.next_is.ensures ∙ c.if-next_is.false in
    rw told c.read_before-2.ensures

pub read_branch-returns : goal.read_branch-returns
read_branch-returns t c =
    let P : Read RawExpr → Type 0 = λ o. Gives (λ x. (x.0, behind c.args.tokens.now x.1)) c.read_expr.result o in
    rw c.in_ok-at.ensures (subst P (second_kept _ (read c.args.levels an_expr expr (behind c.args.tokens.now c.in_ok-at.at))) c.read_expr.ensures)

pub read_reference-returns-in_err-name : goal.read_reference-returns-in_err-name
read_reference-returns-in_err-name t c =
    let p = err_from_is_err_and c.from_residual.result c.from_residual.ensures.1 in
    rw (p.1, p.2) (name_not_failed c.in_err-name.field-0.0 _ (behind c.args.tokens.now c.args.at) _ (sym c.next_is.ensures ∙ c.if-not-next_is.false) c.in_err-name.ensures)

pub read_reference-returns-then-next_is : goal.read_reference-returns-then-next_is
read_reference-returns-then-next_is t c =
    let P : Read RawRef → Type 0 = λ o. Gives (λ x. (x.0, behind c.args.tokens.now x.1)) c.read_element.result o in
    subst P (element_of c.args.levels (behind c.args.tokens.now c.args.at) (behind c.args.tokens.now c.in_ok-name.at) c.in_ok-name.name
    (sym c.next_is.ensures ∙ c.if-not-next_is.false) c.in_ok-name.ensures (sym c.next_is-2.ensures ∙ c.if-next_is.true)) c.read_element.ensures

pub read_named-returns-then-next_is : goal.read_named-returns-then-next_is
read_named-returns-then-next_is t c =
    named_read c.args.levels (behind c.args.tokens.now c.args.at) (behind c.args.tokens.now c.in_ok-name.at) (behind c.args.tokens.now c.in_ok-reference.at) c.in_ok-name.name c.in_ok-reference.reference
    c.in_ok-name.ensures (sym c.next_is.ensures ∙ c.if-next_is.true) c.in_ok-reference.ensures

pub read_named-returns-in_err-reference : goal.read_named-returns-in_err-reference
read_named-returns-in_err-reference t c =
    let p = err_from_is_err_and c.from_residual-in_err-reference.result c.from_residual-in_err-reference.ensures.1 in
    rw (p.1, p.2) (named_fails c.in_err-reference.field-0.0 c.args.levels (behind c.args.tokens.now c.args.at) (behind c.args.tokens.now c.in_ok-name.at) c.in_ok-name.name
    c.in_ok-name.ensures (sym c.next_is.ensures ∙ c.if-next_is.true) c.in_err-reference.ensures)

pub read_named-returns-in_err-at : goal.read_named-returns-in_err-at
read_named-returns-in_err-at t c =
    let p = err_from_is_err_and c.from_residual-in_err-at.result c.from_residual-in_err-at.ensures.1 in
    rw (p.1, p.2) (is_taken c.in_err-at.field-0.0 _ (kinds.Symbol symbols.Open) (behind c.args.tokens.now c.in_ok-name.at) _ (sym c.next_is-2.ensures ∙ c.if-next_is-2.true) c.in_err-at.ensures)

pub read_expr-returns-in_err-word : goal.read_expr-returns-in_err-word
read_expr-returns-in_err-word t c =
    let p = err_from_is_err_and c.from_residual.result c.from_residual.ensures.1 in
    rw (p.1, p.2) (is_taken c.in_err-word.field-0.0 _ (kinds.Word words.If) (behind c.args.tokens.now c.args.at) _ (sym c.next_is.ensures ∙ c.if-next_is.true) c.in_err-word.ensures)

pub read_addressed-returns : goal.read_addressed-returns
read_addressed-returns t c = bare_read c.args.levels (behind c.args.tokens.now c.args.at) (behind c.args.tokens.now c.in_ok-reference.at) c.in_ok-reference.reference c.in_ok-reference.ensures

pub read_addressed-returns-in_err-reference : goal.read_addressed-returns-in_err-reference
read_addressed-returns-in_err-reference t c =
    let p = err_from_is_err_and c.from_residual.result c.from_residual.ensures.1 in
    rw (p.1, p.2) (bare_fails c.in_err-reference.field-0.0 c.args.levels (behind c.args.tokens.now c.args.at) c.in_err-reference.ensures)

pub read_arguments-returns : goal.read_arguments-returns
read_arguments-returns t c = c.read_list.ensures (λ us. read c.args.levels an_expr expr us) (λ k r p. search rules)

pub read_mask-returns : goal.read_mask-returns
unfolding mask
read_mask-returns t c =
    chain_read c.args.levels a_prim a_position a_mask (operator words.Mask) prim mask_start mask_tree c.in_ok-first.first c.in_ok-start.start (behind c.args.tokens.now c.args.at) (behind c.args.tokens.now c.in_ok-first.at)
    c.in_ok-chain.chain (behind c.args.tokens.now c.in_ok-chain.at) c.in_ok-start.ensures c.in_ok-first.ensures (c.in_ok-chain.ensures (λ us. read c.args.levels a_prim prim us) (λ k r p. search rules))

pub read_mask-returns-in_err-chain : goal.read_mask-returns-in_err-chain
unfolding mask
read_mask-returns-in_err-chain t c =
    let p = err_from_is_err_and c.from_residual-in_err-chain.result c.from_residual-in_err-chain.ensures.1 in
    rw (p.1, p.2) (chain_fails c.args.levels a_prim a_position a_mask (operator words.Mask) prim mask_start mask_tree c.in_ok-first.first c.in_ok-start.start (behind c.args.tokens.now c.args.at) (behind c.args.tokens.now c.in_ok-first.at)
    c.in_err-chain.field-0.0 c.in_ok-start.ensures c.in_ok-first.ensures (c.in_err-chain.ensures (λ us. read c.args.levels a_prim prim us) (λ k r p. search rules)))

pub read_union-returns : goal.read_union-returns
unfolding union
read_union-returns t c =
    chain_read c.args.levels a_mask a_position a_union (operator words.Union) mask union_start union_tree c.in_ok-first.first c.in_ok-start.start (behind c.args.tokens.now c.args.at) (behind c.args.tokens.now c.in_ok-first.at)
    c.in_ok-chain.chain (behind c.args.tokens.now c.in_ok-chain.at) c.in_ok-start.ensures c.in_ok-first.ensures (c.in_ok-chain.ensures (λ us. read c.args.levels a_mask mask us) (λ k r p. search rules))

pub read_union-returns-in_err-chain : goal.read_union-returns-in_err-chain
unfolding union
read_union-returns-in_err-chain t c =
    let p = err_from_is_err_and c.from_residual-in_err-chain.result c.from_residual-in_err-chain.ensures.1 in
    rw (p.1, p.2) (chain_fails c.args.levels a_mask a_position a_union (operator words.Union) mask union_start union_tree c.in_ok-first.first c.in_ok-start.start (behind c.args.tokens.now c.args.at) (behind c.args.tokens.now c.in_ok-first.at)
    c.in_err-chain.field-0.0 c.in_ok-start.ensures c.in_ok-first.ensures (c.in_err-chain.ensures (λ us. read c.args.levels a_mask mask us) (λ k r p. search rules)))

pub read_differ-returns : goal.read_differ-returns
unfolding differ
read_differ-returns t c =
    chain_read c.args.levels a_union a_position a_differ (operator words.Differ) union differ_start differ_tree c.in_ok-first.first c.in_ok-start.start (behind c.args.tokens.now c.args.at) (behind c.args.tokens.now c.in_ok-first.at)
    c.in_ok-chain.chain (behind c.args.tokens.now c.in_ok-chain.at) c.in_ok-start.ensures c.in_ok-first.ensures (c.in_ok-chain.ensures (λ us. read c.args.levels a_union union us) (λ k r p. search rules))

pub read_differ-returns-in_err-chain : goal.read_differ-returns-in_err-chain
unfolding differ
read_differ-returns-in_err-chain t c =
    let p = err_from_is_err_and c.from_residual-in_err-chain.result c.from_residual-in_err-chain.ensures.1 in
    rw (p.1, p.2) (chain_fails c.args.levels a_union a_position a_differ (operator words.Differ) union differ_start differ_tree c.in_ok-first.first c.in_ok-start.start (behind c.args.tokens.now c.args.at) (behind c.args.tokens.now c.in_ok-first.at)
    c.in_err-chain.field-0.0 c.in_ok-start.ensures c.in_ok-first.ensures (c.in_err-chain.ensures (λ us. read c.args.levels a_union union us) (λ k r p. search rules)))

pub read_term-returns : goal.read_term-returns
unfolding term
read_term-returns t c =
    chain_read c.args.levels a_differ a_factor_sign a_term factor_sign differ term_start term_tree c.in_ok-first.first c.in_ok-start.start (behind c.args.tokens.now c.args.at) (behind c.args.tokens.now c.in_ok-first.at)
    c.in_ok-chain.chain (behind c.args.tokens.now c.in_ok-chain.at) c.in_ok-start.ensures c.in_ok-first.ensures (c.in_ok-chain.ensures (λ us. read c.args.levels a_differ differ us) (λ k r p. search rules))

pub read_term-returns-in_err-chain : goal.read_term-returns-in_err-chain
unfolding term
read_term-returns-in_err-chain t c =
    let p = err_from_is_err_and c.from_residual-in_err-chain.result c.from_residual-in_err-chain.ensures.1 in
    rw (p.1, p.2) (chain_fails c.args.levels a_differ a_factor_sign a_term factor_sign differ term_start term_tree c.in_ok-first.first c.in_ok-start.start (behind c.args.tokens.now c.args.at) (behind c.args.tokens.now c.in_ok-first.at)
    c.in_err-chain.field-0.0 c.in_ok-start.ensures c.in_ok-first.ensures (c.in_err-chain.ensures (λ us. read c.args.levels a_differ differ us) (λ k r p. search rules)))

pub read_cand-returns : goal.read_cand-returns
unfolding cand
read_cand-returns t c =
    chain_read c.args.levels a_cmp a_position a_cand (operator words.And) cmp (λ x. (x ∷ [], [])) cand_tree c.in_ok-first.first c.in_ok-start.start (behind c.args.tokens.now c.args.at) (behind c.args.tokens.now c.in_ok-first.at)
    c.in_ok-chain.chain (behind c.args.tokens.now c.in_ok-chain.at) c.in_ok-start.ensures c.in_ok-first.ensures (c.in_ok-chain.ensures (λ us. read c.args.levels a_cmp cmp us) (λ k r p. search rules))

pub read_cand-returns-in_err-chain : goal.read_cand-returns-in_err-chain
unfolding cand
read_cand-returns-in_err-chain t c =
    let p = err_from_is_err_and c.from_residual-in_err-chain.result c.from_residual-in_err-chain.ensures.1 in
    rw (p.1, p.2) (chain_fails c.args.levels a_cmp a_position a_cand (operator words.And) cmp (λ x. (x ∷ [], [])) cand_tree c.in_ok-first.first c.in_ok-start.start (behind c.args.tokens.now c.args.at) (behind c.args.tokens.now c.in_ok-first.at)
    c.in_err-chain.field-0.0 c.in_ok-start.ensures c.in_ok-first.ensures (c.in_err-chain.ensures (λ us. read c.args.levels a_cmp cmp us) (λ k r p. search rules)))

pub read_condition-returns : goal.read_condition-returns
unfolding condition
read_condition-returns t c =
    chain_read c.args.levels a_cand a_position a_cond (operator words.Or) cand (λ x. (x ∷ [], [])) cond_tree c.in_ok-first.first c.in_ok-start.start (behind c.args.tokens.now c.args.at) (behind c.args.tokens.now c.in_ok-first.at)
    c.in_ok-chain.chain (behind c.args.tokens.now c.in_ok-chain.at) c.in_ok-start.ensures c.in_ok-first.ensures (c.in_ok-chain.ensures (λ us. read c.args.levels a_cand cand us) (λ k r p. search rules))

pub read_condition-returns-in_err-chain : goal.read_condition-returns-in_err-chain
unfolding condition
read_condition-returns-in_err-chain t c =
    let p = err_from_is_err_and c.from_residual-in_err-chain.result c.from_residual-in_err-chain.ensures.1 in
    rw (p.1, p.2) (chain_fails c.args.levels a_cand a_position a_cond (operator words.Or) cand (λ x. (x ∷ [], [])) cond_tree c.in_ok-first.first c.in_ok-start.start (behind c.args.tokens.now c.args.at) (behind c.args.tokens.now c.in_ok-first.at)
    c.in_err-chain.field-0.0 c.in_ok-start.ensures c.in_ok-first.ensures (c.in_err-chain.ensures (λ us. read c.args.levels a_cand cand us) (λ k r p. search rules)))

pub read_sum-returns : goal.read_sum-returns
read_sum-returns t c =
    sum_read c.args.levels c.in_ok-sign.sign c.in_ok-first.first (c.in_ok-front.front, c.in_ok-front.start) (behind c.args.tokens.now c.args.at) (behind c.args.tokens.now c.in_ok-sign.at) (behind c.args.tokens.now c.in_ok-first.at)
    c.in_ok-chain.chain (behind c.args.tokens.now c.in_ok-chain.at) c.in_ok-front.ensures c.in_ok-sign.ensures c.in_ok-first.ensures (c.in_ok-chain.ensures (λ us. read c.args.levels a_term term us) (λ k r p. search rules))

pub read_sum-returns-in_err-chain : goal.read_sum-returns-in_err-chain
read_sum-returns-in_err-chain t c =
    let p = err_from_is_err_and c.from_residual-in_err-chain.result c.from_residual-in_err-chain.ensures.1 in
    rw (p.1, p.2) (sum_fails c.args.levels c.in_ok-sign.sign c.in_ok-first.first (c.in_ok-front.front, c.in_ok-front.start) (behind c.args.tokens.now c.args.at) (behind c.args.tokens.now c.in_ok-sign.at) (behind c.args.tokens.now c.in_ok-first.at)
    c.in_err-chain.field-0.0 c.in_ok-front.ensures c.in_ok-sign.ensures c.in_ok-first.ensures (c.in_err-chain.ensures (λ us. read c.args.levels a_term term us) (λ k r p. search rules)))

pub read_bracketed-returns-in_err-inner : goal.read_bracketed-returns-in_err-inner
unfolding rule
read_bracketed-returns-in_err-inner t c =
    let p = err_from_is_err_and c.from_residual.result c.from_residual.ensures.1 in
    let opened = inside_opened c.args.levels an_expr bracketed (behind c.args.tokens.now c.args.at) c.if-levels-eq0.false in
    rw (p.1, p.2, opened) (then_fails _ _ _ (then_fails _ _ _ c.in_err-inner.ensures))

pub read_subscript-returns-in_err-inner : goal.read_subscript-returns-in_err-inner
unfolding rule
read_subscript-returns-in_err-inner t c =
    let p = err_from_is_err_and c.from_residual.result c.from_residual.ensures.1 in
    let opened = inside_opened c.args.levels an_expr subscript (behind c.args.tokens.now c.args.at) c.if-levels-eq0.false in
    rw (p.1, p.2, opened) (then_fails _ _ _ (then_fails _ _ _ c.in_err-inner.ensures))

pub read_called-returns-in_err-inner : goal.read_called-returns-in_err-inner
unfolding rule
read_called-returns-in_err-inner t c =
    let p = err_from_is_err_and c.from_residual.result c.from_residual.ensures.1 in
    let opened = inside_opened c.args.levels (a_list an_expr) called (behind c.args.tokens.now c.args.at) c.if-levels-eq0.false in
    rw (p.1, p.2, opened) (then_fails _ _ _ (then_fails _ _ _ c.in_err-inner.ensures))

pub read_located-returns-in_err-reference : goal.read_located-returns-in_err-reference
unfolding rule
read_located-returns-in_err-reference t c =
    let p = err_from_is_err_and c.from_residual.result c.from_residual.ensures.1 in
    let opened = inside_opened c.args.levels a_ref located (behind c.args.tokens.now c.args.at) c.if-levels-eq0.false in
    rw (p.1, p.2, opened) (then_fails _ _ _ (then_fails _ _ _ c.in_err-reference.ensures))

pub read_indexed-returns-in_err-first : goal.read_indexed-returns-in_err-first
unfolding rule
read_indexed-returns-in_err-first t c =
    let p = err_from_is_err_and c.from_residual.result c.from_residual.ensures.1 in
    let opened = inside_opened c.args.levels (a_pair an_expr (an_option an_expr)) indexed (behind c.args.tokens.now c.args.at) c.if-levels-eq0.false in
    rw (p.1, p.2, opened) (then_fails _ _ _ c.in_err-first.ensures)

pub read_indexed-returns-in_err-second : goal.read_indexed-returns-in_err-second
unfolding rule
read_indexed-returns-in_err-second t c =
    let p = err_from_is_err_and c.from_residual-in_err-second.result c.from_residual-in_err-second.ensures.1 in
    let opened = inside_opened c.args.levels (a_pair an_expr (an_option an_expr)) indexed (behind c.args.tokens.now c.args.at) c.if-levels-eq0.false in
    rw (p.1, p.2, opened) (after_fails _ _ _ _ c.in_ok-first.ensures (then_fails _ _ _ c.in_err-second.ensures))

pub read_conditional-returns-in_err-test : goal.read_conditional-returns-in_err-test
unfolding rule
read_conditional-returns-in_err-test t c =
    let p = err_from_is_err_and c.from_residual.result c.from_residual.ensures.1 in
    let opened = inside_opened c.args.levels (a_pair a_cond (a_pair an_expr an_expr)) conditional (behind c.args.tokens.now c.args.at) c.if-levels-eq0.false in
    rw (p.1, p.2, opened) (then_fails _ _ _ c.in_err-test.ensures)

pub read_conditional-returns-in_err-yes : goal.read_conditional-returns-in_err-yes
unfolding rule
read_conditional-returns-in_err-yes t c =
    let p = err_from_is_err_and c.from_residual-in_err-yes.result c.from_residual-in_err-yes.ensures.1 in
    let opened = inside_opened c.args.levels (a_pair a_cond (a_pair an_expr an_expr)) conditional (behind c.args.tokens.now c.args.at) c.if-levels-eq0.false in
    rw (p.1, p.2, opened) (after_fails _ _ _ _ c.in_ok-test.ensures (then_fails _ _ _ (then_fails _ _ _ c.in_err-yes.ensures)))

pub read_conditional-returns-in_err-no : goal.read_conditional-returns-in_err-no
unfolding rule
read_conditional-returns-in_err-no t c =
    let p = err_from_is_err_and c.from_residual-in_err-no.result c.from_residual-in_err-no.ensures.1 in
    let opened = inside_opened c.args.levels (a_pair a_cond (a_pair an_expr an_expr)) conditional (behind c.args.tokens.now c.args.at) c.if-levels-eq0.false in
    rw (p.1, p.2, opened) (after_fails _ _ _ _ c.in_ok-test.ensures (then_fails _ _ _ (after_fails _ _ _ _ c.in_ok-yes.ensures (then_fails _ _ _ c.in_err-no.ensures))))

pub read_conditional-returns : goal.read_conditional-returns
unfolding rule
read_conditional-returns t c =
    let opened = inside_opened c.args.levels (a_pair a_cond (a_pair an_expr an_expr)) conditional (behind c.args.tokens.now c.args.at) c.if-levels-eq0.false in
    rw (opened, c.in_ok-test.ensures, c.in_ok-yes.ensures, c.in_ok-no.ensures) refl

pub read_branch-returns-in_err-at : goal.read_branch-returns-in_err-at
read_branch-returns-in_err-at t c =
    let p = err_from_is_err_and c.from_residual.result c.from_residual.ensures.1 in
    rw (p.1, p.2) (then_fails _ _ _ (then_fails _ _ _ c.in_err-at.ensures))

pub read_element-returns-in_err-at : goal.read_element-returns-in_err-at
read_element-returns-in_err-at t c =
    let p = err_from_is_err_and c.from_residual.result c.from_residual.ensures.1 in
    rw (p.1, p.2) (then_fails _ _ _ (then_fails _ _ _ (then_fails _ _ _ c.in_err-at.ensures)))

pub read_element-returns-in_err-index : goal.read_element-returns-in_err-index
read_element-returns-in_err-index t c =
    let p = err_from_is_err_and c.from_residual-in_err-index.result c.from_residual-in_err-index.ensures.1 in
    rw (p.1, p.2) (then_fails _ _ _ (then_fails _ _ _ (after_fails _ _ _ _ c.in_ok-at.ensures (then_fails _ _ _ c.in_err-index.ensures))))

pub read_element-returns : goal.read_element-returns
read_element-returns t c = rw (c.in_ok-at.ensures, c.in_ok-index.ensures, c.in_ok-reference.ensures) refl

pub read_bare-returns-in_err-bracket : goal.read_bare-returns-in_err-bracket
read_bare-returns-in_err-bracket t c =
    let p = err_from_is_err_and c.from_residual.result c.from_residual.ensures.1 in
    rw (p.1, p.2) (then_fails _ _ _ (then_fails _ _ _ c.in_err-bracket.ensures))

pub read_bare-returns-in_err-address : goal.read_bare-returns-in_err-address
read_bare-returns-in_err-address t c =
    let p = err_from_is_err_and c.from_residual-in_err-address.result c.from_residual-in_err-address.ensures.1 in
    rw (p.1, p.2) (then_fails _ _ _ (after_fails _ _ _ _ c.in_ok-bracket.ensures (then_fails _ _ _ c.in_err-address.ensures)))

pub read_bare-returns : goal.read_bare-returns
read_bare-returns t c = rw (c.in_ok-bracket.ensures, c.in_ok-address.ensures, c.in_ok-address-2.ensures, c.position.ensures) refl

pub read_location-returns-in_err-word : goal.read_location-returns-in_err-word
read_location-returns-in_err-word t c =
    let p = err_from_is_err_and c.from_residual.result c.from_residual.ensures.1 in
    rw (p.1, p.2) (then_fails _ _ _ (then_fails _ _ _ c.in_err-word.ensures))

pub read_location-returns-in_err-at : goal.read_location-returns-in_err-at
read_location-returns-in_err-at t c =
    let p = err_from_is_err_and c.from_residual-in_err-at.result c.from_residual-in_err-at.ensures.1 in
    rw (p.1, p.2) (then_fails _ _ _ (after_fails _ _ _ _ c.in_ok-word.ensures (then_fails _ _ _ (then_fails _ _ _ c.in_err-at.ensures))))

pub read_location-returns-in_err-reference : goal.read_location-returns-in_err-reference
read_location-returns-in_err-reference t c =
    let p = err_from_is_err_and c.from_residual-in_err-reference.result c.from_residual-in_err-reference.ensures.1 in
    rw (p.1, p.2) (then_fails _ _ _ (after_fails _ _ _ _ c.in_ok-word.ensures (then_fails _ _ _ (after_fails _ _ _ _ c.in_ok-at.ensures (then_fails _ _ _ c.in_err-reference.ensures)))))

pub read_location-returns : goal.read_location-returns
read_location-returns t c = rw (c.in_ok-word.ensures, c.in_ok-at.ensures, c.in_ok-reference.ensures, c.position.ensures) refl

pub read_in_brackets-returns-in_err-bracket : goal.read_in_brackets-returns-in_err-bracket
read_in_brackets-returns-in_err-bracket t c =
    let p = err_from_is_err_and c.from_residual.result c.from_residual.ensures.1 in
    rw (p.1, p.2) (then_fails _ _ _ (then_fails _ _ _ c.in_err-bracket.ensures))

pub read_in_brackets-returns-in_err-inner : goal.read_in_brackets-returns-in_err-inner
read_in_brackets-returns-in_err-inner t c =
    let p = err_from_is_err_and c.from_residual-in_err-inner.result c.from_residual-in_err-inner.ensures.1 in
    rw (p.1, p.2) (then_fails _ _ _ (after_fails _ _ _ _ c.in_ok-bracket.ensures (then_fails _ _ _ c.in_err-inner.ensures)))

pub read_in_brackets-returns : goal.read_in_brackets-returns
read_in_brackets-returns t c = rw (c.in_ok-bracket.ensures, c.in_ok-inner.ensures, c.position.ensures) refl

pub read_prim-returns-in_err-bits : goal.read_prim-returns-in_err-bits
unfolding prim
read_prim-returns-in_err-bits t c =
    let p = err_from_is_err_and c.from_residual.result c.from_residual.ensures.1 in
    rw (p.1, p.2) (then_fails _ _ _ (then_fails _ _ _ c.in_err-bits.ensures))

pub read_prim-returns-in_err-primary : goal.read_prim-returns-in_err-primary
unfolding prim
read_prim-returns-in_err-primary t c =
    let p = err_from_is_err_and c.from_residual-in_err-primary.result c.from_residual-in_err-primary.ensures.1 in
    rw (p.1, p.2) (then_fails _ _ _ (after_fails _ _ _ _ c.in_ok-bits.ensures (then_fails _ _ _ c.in_err-primary.ensures)))

pub read_mask-returns-in_err-first : goal.read_mask-returns-in_err-first
unfolding mask
read_mask-returns-in_err-first t c =
    let p = err_from_is_err_and c.from_residual.result c.from_residual.ensures.1 in
    rw (p.1, p.2) (then_fails _ _ _ (then_fails _ _ _ c.in_err-first.ensures))

pub read_union-returns-in_err-first : goal.read_union-returns-in_err-first
unfolding union
read_union-returns-in_err-first t c =
    let p = err_from_is_err_and c.from_residual.result c.from_residual.ensures.1 in
    rw (p.1, p.2) (then_fails _ _ _ (then_fails _ _ _ c.in_err-first.ensures))

pub read_differ-returns-in_err-first : goal.read_differ-returns-in_err-first
unfolding differ
read_differ-returns-in_err-first t c =
    let p = err_from_is_err_and c.from_residual.result c.from_residual.ensures.1 in
    rw (p.1, p.2) (then_fails _ _ _ (then_fails _ _ _ c.in_err-first.ensures))

pub read_term-returns-in_err-first : goal.read_term-returns-in_err-first
unfolding term
read_term-returns-in_err-first t c =
    let p = err_from_is_err_and c.from_residual.result c.from_residual.ensures.1 in
    rw (p.1, p.2) (then_fails _ _ _ (then_fails _ _ _ c.in_err-first.ensures))

pub read_cand-returns-in_err-first : goal.read_cand-returns-in_err-first
unfolding cand
read_cand-returns-in_err-first t c =
    let p = err_from_is_err_and c.from_residual.result c.from_residual.ensures.1 in
    rw (p.1, p.2) (then_fails _ _ _ (then_fails _ _ _ c.in_err-first.ensures))

pub read_condition-returns-in_err-first : goal.read_condition-returns-in_err-first
unfolding condition
read_condition-returns-in_err-first t c =
    let p = err_from_is_err_and c.from_residual.result c.from_residual.ensures.1 in
    rw (p.1, p.2) (then_fails _ _ _ (then_fails _ _ _ c.in_err-first.ensures))

pub read_sum-returns-in_err-sign : goal.read_sum-returns-in_err-sign
unfolding sum
read_sum-returns-in_err-sign t c =
    let p = err_from_is_err_and c.from_residual.result c.from_residual.ensures.1 in
    rw (p.1, p.2) (then_fails _ _ _ (then_fails _ _ _ c.in_err-sign.ensures))

pub read_sum-returns-in_err-first : goal.read_sum-returns-in_err-first
unfolding sum
read_sum-returns-in_err-first t c =
    let p = err_from_is_err_and c.from_residual-in_err-first.result c.from_residual-in_err-first.ensures.1 in
    rw (p.1, p.2) (then_fails _ _ _ (after_fails _ _ _ _ c.in_ok-sign.ensures (then_fails _ _ _ (then_fails _ _ _ c.in_err-first.ensures))))

pub read_cmp-returns-in_err-left : goal.read_cmp-returns-in_err-left
unfolding cmp
read_cmp-returns-in_err-left t c =
    let p = err_from_is_err_and c.from_residual.result c.from_residual.ensures.1 in
    rw (p.1, p.2) (then_fails _ _ _ (then_fails _ _ _ c.in_err-left.ensures))

pub read_cmp-returns-in_err-operator : goal.read_cmp-returns-in_err-operator
unfolding cmp
read_cmp-returns-in_err-operator t c =
    let p = err_from_is_err_and c.from_residual-in_err-operator.result c.from_residual-in_err-operator.ensures.1 in
    rw (p.1, p.2) (then_fails _ _ _ (after_fails _ _ _ _ c.in_ok-left.ensures (then_fails _ _ _ (then_fails _ _ _ c.in_err-operator.ensures))))

pub read_cmp-returns-in_err-right : goal.read_cmp-returns-in_err-right
unfolding cmp
read_cmp-returns-in_err-right t c =
    let p = err_from_is_err_and c.from_residual-in_err-right.result c.from_residual-in_err-right.ensures.1 in
    rw (p.1, p.2) (then_fails _ _ _ (after_fails _ _ _ _ c.in_ok-left.ensures (then_fails _ _ _ (after_fails _ _ _ _ c.in_ok-operator.ensures (then_fails _ _ _ c.in_err-right.ensures)))))

pub read_expr-returns-in_err-parts : goal.read_expr-returns-in_err-parts
unfolding expr
read_expr-returns-in_err-parts t c =
    let p = err_from_is_err_and c.from_residual-in_err-parts.result c.from_residual-in_err-parts.ensures.1 in
    let told = sym c.next_is.ensures ∙ c.if-next_is.true in
    rw (p.1, p.2, told) (then_fails _ _ _ (after_fails _ _ _ _ c.in_ok-word.ensures (then_fails _ _ _ c.in_err-parts.ensures)))

pub read_expr-returns-in_err-sum : goal.read_expr-returns-in_err-sum
unfolding expr
read_expr-returns-in_err-sum t c =
    let p = err_from_is_err_and c.from_residual-in_err-sum.result c.from_residual-in_err-sum.ensures.1 in
    let told = sym c.next_is.ensures ∙ c.if-next_is.false in
    rw (p.1, p.2, told) (then_fails _ _ _ c.in_err-sum.ensures)
