-- Data that begin with a type.
use Rattle.std.proofs.Common.{◌≡◌, ◌∙◌, sym, refl}
use Rattle.std.proofs.Common.{Some}
use Rattle.std.proofs.lemmas.Result.{err_from_is_err_and}
use Rattle.cw_tree.specs.declared.segment.RawCitem.TheVariants as citem_tree
use Rattle.cw_grammar.specs.Tokens.{behind}
use Rattle.cw_grammar.specs.Statements.{singles, arrays, spec_behind}
use Rattle.cw_grammar.specs.Reading.{applied, reads}
use Rattle.cw_parse_items.proofs.Typed.{citem_of_singles, citem_of_arrays, citem_singles_read, citem_arrays_read, citem_spec_read, mapped_fails, mapped_reads}
use Rattle.cw_parse_items.proofs.comms.read_citem.Goals as goal

pub returns-then-next_is : goal.returns-then-next_is
returns-then-next_is c = citem_of_singles (behind c.args.tokens.now c.args.at) (behind c.args.tokens.now c.in_ok-kind.at) (behind c.args.tokens.now c.in_ok-item.at) c.in_ok-kind.kind c.in_ok-item.item (sym c.is_type.ensures ∙ c.if-is_type.true) c.in_ok-kind.ensures (sym c.next_is.ensures ∙ c.if-next_is.true) c.in_ok-item.ensures

pub returns-then-next_is-2 : goal.returns-then-next_is-2
returns-then-next_is-2 c = citem_of_arrays (behind c.args.tokens.now c.args.at) (behind c.args.tokens.now c.in_ok-kind.at) (behind c.args.tokens.now c.in_ok-item-2.at) c.in_ok-kind.kind c.in_ok-item-2.item (sym c.is_type.ensures ∙ c.if-is_type.true) c.in_ok-kind.ensures (sym c.next_is.ensures ∙ c.if-next_is.false) (sym c.next_is-then-is_type.ensures ∙ c.if-next_is-2.true) c.in_ok-item-2.ensures

pub returns-in_err-item : goal.returns-in_err-item
returns-in_err-item c =
    let p = err_from_is_err_and c.from_residual-in_err-item.result c.from_residual-in_err-item.ensures.1 in
    rw (p.1, p.2) (mapped_fails c.in_err-item.field-0.0 (λ y. citem_tree.Data y) (applied c.in_ok-kind.kind (reads 0 singles (behind c.args.tokens.now c.in_ok-kind.at))) _ (citem_singles_read (behind c.args.tokens.now c.args.at) (behind c.args.tokens.now c.in_ok-kind.at) c.in_ok-kind.kind (sym c.is_type.ensures ∙ c.if-is_type.true) c.in_ok-kind.ensures (sym c.next_is.ensures ∙ c.if-next_is.true)) c.in_err-item.ensures)

pub returns-in_err-item-2 : goal.returns-in_err-item-2
returns-in_err-item-2 c =
    let p = err_from_is_err_and c.from_residual-in_err-item-2.result c.from_residual-in_err-item-2.ensures.1 in
    rw (p.1, p.2) (mapped_fails c.in_err-item-2.field-0.0 (λ y. citem_tree.Data y) (applied c.in_ok-kind.kind (reads 0 arrays (behind c.args.tokens.now c.in_ok-kind.at))) _ (citem_arrays_read (behind c.args.tokens.now c.args.at) (behind c.args.tokens.now c.in_ok-kind.at) c.in_ok-kind.kind (sym c.is_type.ensures ∙ c.if-is_type.true) c.in_ok-kind.ensures (sym c.next_is.ensures ∙ c.if-next_is.false) (sym c.next_is-then-is_type.ensures ∙ c.if-next_is-2.true)) c.in_err-item-2.ensures)

pub returns-in_err-spec : goal.returns-in_err-spec
returns-in_err-spec c =
    let p = err_from_is_err_and c.from_residual-in_err-spec.result c.from_residual-in_err-spec.ensures.1 in
    rw (p.1, p.2) (mapped_fails c.in_err-spec.field-0.0 (λ y. citem_tree.Spec y) (applied (Some c.in_ok-kind.kind) (reads 0 spec_behind (behind c.args.tokens.now c.in_ok-kind.at))) _ (citem_spec_read (behind c.args.tokens.now c.args.at) (behind c.args.tokens.now c.in_ok-kind.at) c.in_ok-kind.kind (sym c.is_type.ensures ∙ c.if-is_type.true) c.in_ok-kind.ensures (sym c.next_is.ensures ∙ c.if-next_is.false) (sym c.next_is-then-is_type.ensures ∙ c.if-next_is-2.false)) c.in_err-spec.ensures)

pub returns-then-is_type : goal.returns-then-is_type
returns-then-is_type c =
    mapped_reads (λ y. citem_tree.Spec y) (applied (Some c.in_ok-kind.kind) (reads 0 spec_behind (behind c.args.tokens.now c.in_ok-kind.at))) _ c.in_ok-spec.spec (behind c.args.tokens.now c.in_ok-spec.at)
    (citem_spec_read (behind c.args.tokens.now c.args.at) (behind c.args.tokens.now c.in_ok-kind.at) c.in_ok-kind.kind (sym c.is_type.ensures ∙ c.if-is_type.true) c.in_ok-kind.ensures (sym c.next_is.ensures ∙ c.if-next_is.false) (sym c.next_is-then-is_type.ensures ∙ c.if-next_is-2.false)) c.in_ok-spec.ensures
