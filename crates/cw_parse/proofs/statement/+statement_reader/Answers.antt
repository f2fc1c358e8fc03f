-- The cycle of the readers of statements.
use Rattle.std.proofs.Common.{rules, ◌≡◌, ◌∙◌, sym, true, subst}
use Rattle.std.proofs.lemmas.Result.{err_from_is_err_and}
use Rattle.cw_lex.specs.declared.token.Symbol.TheVariants as symbols
use Rattle.cw_tree.specs.declared.statement.RawDecl.{RawDecl}
use Rattle.cw_tree.specs.declared.statement.RawSimple.{RawSimple}
use Rattle.cw_grammar.specs.Tokens.{behind}
use Rattle.cw_grammar.specs.Grammar.{starts, first, a_stmt, a_decl, a_from, a_type, a_data, again, labelled}
use Rattle.cw_grammar.specs.Rules.{symbol, ◌<*◌}
use Rattle.cw_grammar.specs.Statements.{decl, singles, arrays}
use Rattle.cw_grammar.specs.Reading.{Read, Gives, Fails, read}
use Rattle.cw_grammar.specs.Reading.{applied}
use Rattle.cw_grammar.proofs.Labels.{labels_not_failed, stmt_read, stmt_fails, simple_read, simple_fails}
use Rattle.cw_grammar.proofs.Flat.{any_levels}
use Rattle.cw_parse.proofs.Flat.{local_decl_flat}
use Rattle.cw_parse.proofs.Forms.{simple_named, form_read, form_fails}
use Rattle.cw_parse.proofs.Decls.{outer_singles, outer_arrays, outer_proc, outer_worded, outer_bare, data_ok, data_fails, outer_type_fails, decl_starts}
use Rattle.cw_parse.proofs.statement.+statement_reader.Goals as goal

pub read_stmts-returns : goal.read_stmts-returns
read_stmts-returns t c = c.read_list.ensures (λ ts. read c.args.levels a_stmt (again (labelled c.args.in_proc)) ts) (λ k r p. search rules)

pub read_decls-returns : goal.read_decls-returns
read_decls-returns t c =
    c.read_ended.ensures (λ ts. starts ts (first (decl c.args.in_proc <* symbol symbols.Semicolon))) (λ ts. read c.args.levels a_decl (decl c.args.in_proc) ts)
    (λ k r p.
    let told : r ≡ starts (behind c.args.tokens.now k) (first (decl c.args.in_proc)) = search rules in
    sym (decl_starts c.args.in_proc (behind c.args.tokens.now k) r (sym told)))
    (λ k r p. search rules)

pub read_stmt-returns-in_err-labels : goal.read_stmt-returns-in_err-labels
read_stmt-returns-in_err-labels t c =
    let p = err_from_is_err_and c.from_residual.result c.from_residual.ensures.1 in
    rw (p.1, p.2) (labels_not_failed c.in_err-labels.field-0.0 _ (behind c.args.tokens.now c.args.at) (read c.args.levels a_stmt (again (labelled c.args.in_proc)) (behind c.args.tokens.now c.args.at)) c.in_err-labels.ensures)

pub read_stmt-returns-in_err-form : goal.read_stmt-returns-in_err-form
read_stmt-returns-in_err-form t c =
    let p = err_from_is_err_and c.from_residual-in_err-form.result c.from_residual-in_err-form.ensures.1 in
    rw (p.1, p.2) (stmt_fails c.in_err-form.field-0.0 c.args.levels c.args.in_proc (behind c.args.tokens.now c.args.at) (behind c.args.tokens.now c.in_ok-labels.at) c.in_ok-labels.labels c.in_ok-labels.ensures c.in_err-form.ensures)

pub read_labelled_simple-returns-in_err-labels : goal.read_labelled_simple-returns-in_err-labels
read_labelled_simple-returns-in_err-labels t c =
    let p = err_from_is_err_and c.from_residual.result c.from_residual.ensures.1 in
    rw (p.1, p.2) (labels_not_failed c.in_err-labels.field-0.0 _ (behind c.args.tokens.now c.args.at) _ c.in_err-labels.ensures)

pub read_labelled_simple-returns-in_err-simple : goal.read_labelled_simple-returns-in_err-simple
read_labelled_simple-returns-in_err-simple t c =
    let p = err_from_is_err_and c.from_residual-in_err-simple.result c.from_residual-in_err-simple.ensures.1 in
    rw (p.1, p.2) (simple_fails c.in_err-simple.field-0.0 c.args.levels c.args.in_proc (behind c.args.tokens.now c.args.at) (behind c.args.tokens.now c.in_ok-labels.at) c.in_ok-labels.labels c.in_ok-labels.ensures c.in_err-simple.ensures)

pub read_labelled_simple-returns : goal.read_labelled_simple-returns
read_labelled_simple-returns t c = simple_read c.args.levels c.args.in_proc (behind c.args.tokens.now c.args.at) (behind c.args.tokens.now c.in_ok-labels.at) (behind c.args.tokens.now c.in_ok-simple.at) c.in_ok-labels.labels c.in_ok-simple.simple c.in_ok-labels.ensures c.in_ok-simple.ensures

pub read_outer_decl-returns-in_err-item : goal.read_outer_decl-returns-in_err-item
read_outer_decl-returns-in_err-item t c =
    let p = err_from_is_err_and c.from_residual-in_err-item.result c.from_residual-in_err-item.ensures.1 in
    rw (p.1, p.2) (data_fails c.in_err-item.field-0.0 c.args.levels (behind c.args.tokens.now c.args.at) (applied c.in_ok-kind.kind (read 0 (a_from a_type a_data) singles (behind c.args.tokens.now c.in_ok-kind.at))) (outer_singles c.args.levels (behind c.args.tokens.now c.args.at) (behind c.args.tokens.now c.in_ok-kind.at) c.in_ok-kind.kind (sym c.is_type.ensures ∙ c.if-is_type.true) c.in_ok-kind.ensures (sym c.next_is.ensures ∙ c.if-next_is.true)) c.in_err-item.ensures)

pub read_outer_decl-returns-then-next_is : goal.read_outer_decl-returns-then-next_is
read_outer_decl-returns-then-next_is t c = data_ok c.args.levels (behind c.args.tokens.now c.args.at) (behind c.args.tokens.now c.in_ok-item.at) (applied c.in_ok-kind.kind (read 0 (a_from a_type a_data) singles (behind c.args.tokens.now c.in_ok-kind.at))) c.in_ok-item.item (outer_singles c.args.levels (behind c.args.tokens.now c.args.at) (behind c.args.tokens.now c.in_ok-kind.at) c.in_ok-kind.kind (sym c.is_type.ensures ∙ c.if-is_type.true) c.in_ok-kind.ensures (sym c.next_is.ensures ∙ c.if-next_is.true)) c.in_ok-item.ensures

pub read_outer_decl-returns-in_err-item-2 : goal.read_outer_decl-returns-in_err-item-2
read_outer_decl-returns-in_err-item-2 t c =
    let p = err_from_is_err_and c.from_residual-in_err-item-2.result c.from_residual-in_err-item-2.ensures.1 in
    rw (p.1, p.2) (data_fails c.in_err-item-2.field-0.0 c.args.levels (behind c.args.tokens.now c.args.at) (applied c.in_ok-kind.kind (read 0 (a_from a_type a_data) arrays (behind c.args.tokens.now c.in_ok-kind.at))) (outer_arrays c.args.levels (behind c.args.tokens.now c.args.at) (behind c.args.tokens.now c.in_ok-kind.at) c.in_ok-kind.kind (sym c.is_type.ensures ∙ c.if-is_type.true) c.in_ok-kind.ensures (sym c.next_is.ensures ∙ c.if-next_is.false) (sym c.next_is-then-is_type.ensures ∙ c.if-next_is-2.true)) c.in_err-item-2.ensures)

pub read_outer_decl-returns-then-next_is-2 : goal.read_outer_decl-returns-then-next_is-2
read_outer_decl-returns-then-next_is-2 t c = data_ok c.args.levels (behind c.args.tokens.now c.args.at) (behind c.args.tokens.now c.in_ok-item-2.at) (applied c.in_ok-kind.kind (read 0 (a_from a_type a_data) arrays (behind c.args.tokens.now c.in_ok-kind.at))) c.in_ok-item-2.item (outer_arrays c.args.levels (behind c.args.tokens.now c.args.at) (behind c.args.tokens.now c.in_ok-kind.at) c.in_ok-kind.kind (sym c.is_type.ensures ∙ c.if-is_type.true) c.in_ok-kind.ensures (sym c.next_is.ensures ∙ c.if-next_is.false) (sym c.next_is-then-is_type.ensures ∙ c.if-next_is-2.true)) c.in_ok-item-2.ensures

pub read_outer_decl-returns-then-is_type : goal.read_outer_decl-returns-then-is_type
read_outer_decl-returns-then-is_type t c =
    let P : Read RawDecl → Type 0 = λ o. Gives (λ x. (x.0, behind c.args.tokens.now x.1)) c.read_proc_behind.result o in
    subst P (outer_proc c.args.levels (behind c.args.tokens.now c.args.at) (behind c.args.tokens.now c.in_ok-kind.at) c.in_ok-kind.kind (sym c.is_type.ensures ∙ c.if-is_type.true) c.in_ok-kind.ensures (sym c.next_is.ensures ∙ c.if-next_is.false) (sym c.next_is-then-is_type.ensures ∙ c.if-next_is-2.false)) c.read_proc_behind.ensures

pub read_outer_decl-returns-then-is_worded_decl : goal.read_outer_decl-returns-then-is_worded_decl
read_outer_decl-returns-then-is_worded_decl t c =
    let P : Read RawDecl → Type 0 = λ o. Gives (λ x. (x.0, behind c.args.tokens.now x.1)) c.read_worded_decl.result o in
    subst P (outer_worded c.args.levels (behind c.args.tokens.now c.args.at) (sym c.is_type.ensures ∙ c.if-is_type.false) (sym c.is_worded_decl.ensures ∙ c.if-is_worded_decl.true)) c.read_worded_decl.ensures

pub read_outer_decl-returns : goal.read_outer_decl-returns
read_outer_decl-returns t c =
    let P : Read RawDecl → Type 0 = λ o. Gives (λ x. (x.0, behind c.args.tokens.now x.1)) c.read_proc_behind-2.result o in
    subst P (outer_bare c.args.levels (behind c.args.tokens.now c.args.at) (sym c.is_type.ensures ∙ c.if-is_type.false) (sym c.is_worded_decl.ensures ∙ c.if-is_worded_decl.false)) c.read_proc_behind-2.ensures

pub read_decl-returns-then-in_proc : goal.read_decl-returns-then-in_proc
read_decl-returns-then-in_proc t c =
    let P : Read RawDecl → Type 0 = λ o. Gives (λ x. (x.0, behind c.args.tokens.now x.1)) c.read_local_decl.result o in
    rw c.if-in_proc.true (subst P (any_levels 0 c.args.levels a_decl (decl true) (behind c.args.tokens.now c.args.at) local_decl_flat) c.read_local_decl.ensures)

pub read_decl-returns : goal.read_decl-returns
read_decl-returns t c = rw c.if-in_proc.false c.read_outer_decl.ensures

pub read_outer_decl-returns-in_err-kind : goal.read_outer_decl-returns-in_err-kind
read_outer_decl-returns-in_err-kind t c =
    let p = err_from_is_err_and c.from_residual.result c.from_residual.ensures.1 in
    rw (p.1, p.2) (outer_type_fails c.in_err-kind.field-0.0 c.args.levels (behind c.args.tokens.now c.args.at) (sym c.is_type.ensures ∙ c.if-is_type.true) c.in_err-kind.ensures)

pub read_stmt-returns : goal.read_stmt-returns
read_stmt-returns t c = rw c.in_ok-form-2.ensures (stmt_read c.args.levels c.args.in_proc (behind c.args.tokens.now c.args.at) (behind c.args.tokens.now c.in_ok-labels.at) (behind c.args.tokens.now c.in_ok-form.at) c.in_ok-labels.labels c.in_ok-form.form c.in_ok-labels.ensures c.in_ok-form.ensures)

pub read_simple-returns-in_err-simple : goal.read_simple-returns-in_err-simple
read_simple-returns-in_err-simple t c =
    let p = err_from_is_err_and c.from_residual-in_err-simple.result c.from_residual-in_err-simple.ensures.1 in
    let P : Read RawSimple → Type 0 = λ o. Fails c.in_err-simple.field-0.0 o in
    rw (p.1, p.2) (subst P (simple_named c.args.levels c.args.in_proc (behind c.args.tokens.now c.args.at) (behind c.args.tokens.now c.in_ok-name.at) c.in_ok-name.name
    (sym c.next_is.ensures ∙ c.if-next_is.true) c.in_ok-name.ensures) c.in_err-simple.ensures)

pub read_simple-returns-then-next_is : goal.read_simple-returns-then-next_is
read_simple-returns-then-next_is t c =
    rw c.in_ok-boxed.ensures (sym (simple_named c.args.levels c.args.in_proc (behind c.args.tokens.now c.args.at) (behind c.args.tokens.now c.in_ok-name.at) c.in_ok-name.name
    (sym c.next_is.ensures ∙ c.if-next_is.true) c.in_ok-name.ensures) ∙ c.in_ok-simple.ensures)

pub read_form-returns-in_err-simple : goal.read_form-returns-in_err-simple
read_form-returns-in_err-simple t c =
    let p = err_from_is_err_and c.from_residual.result c.from_residual.ensures.1 in
    rw (p.1, p.2) (form_fails c.in_err-simple.field-0.0 c.args.levels c.args.in_proc (behind c.args.tokens.now c.args.at) (sym c.next_is.ensures ∙ c.if-next_is.false)
    (sym c.next_is-2.ensures ∙ c.if-next_is-2.false) c.in_err-simple.ensures)

pub read_form-returns : goal.read_form-returns
read_form-returns t c =
    form_read c.args.levels c.args.in_proc (behind c.args.tokens.now c.args.at) (behind c.args.tokens.now c.in_ok-simple.at) c.in_ok-simple.simple
    (sym c.next_is.ensures ∙ c.if-next_is.false) (sym c.next_is-2.ensures ∙ c.if-next_is-2.false) c.in_ok-simple.ensures
