-- Data that begin with a type.
use Rattle.std.proofs.Common.{◌≡◌, ◌∙◌, sym, refl}
use Rattle.std.proofs.lemmas.Result.{err_from_is_err_and}
use Rattle.cw_tree.specs.declared.statement.RawDecl.TheVariants as decl_tree
use Rattle.cw_grammar.specs.Tokens.{behind}
use Rattle.cw_grammar.specs.Statements.{singles, arrays}
use Rattle.cw_grammar.specs.Reading.{applied, reads}
use Rattle.cw_parse_items.proofs.Typed.{local_singles, local_arrays, local_singles_read, local_arrays_read, mapped_fails}
use Rattle.cw_parse_items.proofs.decls.read_local_decl.Goals as goal

pub returns-then-next_is : goal.returns-then-next_is
returns-then-next_is c = local_singles (behind c.args.tokens.now c.args.at) (behind c.args.tokens.now c.in_ok-kind.at) (behind c.args.tokens.now c.in_ok-item.at) c.in_ok-kind.kind c.in_ok-item.item (sym c.is_type.ensures ∙ c.if-is_type.true) c.in_ok-kind.ensures (sym c.next_is.ensures ∙ c.if-next_is.true) c.in_ok-item.ensures

pub returns-then-is_type : goal.returns-then-is_type
returns-then-is_type c = local_arrays (behind c.args.tokens.now c.args.at) (behind c.args.tokens.now c.in_ok-kind.at) (behind c.args.tokens.now c.in_ok-item-2.at) c.in_ok-kind.kind c.in_ok-item-2.item (sym c.is_type.ensures ∙ c.if-is_type.true) c.in_ok-kind.ensures (sym c.next_is.ensures ∙ c.if-next_is.false) c.in_ok-item-2.ensures

pub returns-in_err-item : goal.returns-in_err-item
returns-in_err-item c =
    let p = err_from_is_err_and c.from_residual-in_err-item.result c.from_residual-in_err-item.ensures.1 in
    rw (p.1, p.2) (mapped_fails c.in_err-item.field-0.0 (λ y. decl_tree.Data y) (applied c.in_ok-kind.kind (reads 0 singles (behind c.args.tokens.now c.in_ok-kind.at))) _ (local_singles_read (behind c.args.tokens.now c.args.at) (behind c.args.tokens.now c.in_ok-kind.at) c.in_ok-kind.kind (sym c.is_type.ensures ∙ c.if-is_type.true) c.in_ok-kind.ensures (sym c.next_is.ensures ∙ c.if-next_is.true)) c.in_err-item.ensures)

pub returns-in_err-item-2 : goal.returns-in_err-item-2
returns-in_err-item-2 c =
    let p = err_from_is_err_and c.from_residual-in_err-item-2.result c.from_residual-in_err-item-2.ensures.1 in
    rw (p.1, p.2) (mapped_fails c.in_err-item-2.field-0.0 (λ y. decl_tree.Data y) (applied c.in_ok-kind.kind (reads 0 arrays (behind c.args.tokens.now c.in_ok-kind.at))) _ (local_arrays_read (behind c.args.tokens.now c.args.at) (behind c.args.tokens.now c.in_ok-kind.at) c.in_ok-kind.kind (sym c.is_type.ensures ∙ c.if-is_type.true) c.in_ok-kind.ensures (sym c.next_is.ensures ∙ c.if-next_is.false)) c.in_err-item-2.ensures)
