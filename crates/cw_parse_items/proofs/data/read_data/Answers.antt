-- Data that begin with a type.
use Rattle.std.proofs.Common.{◌≡◌, ◌∙◌, sym, refl, subst}
use Rattle.cw_tree.specs.declared.items.RawData.{RawData}
use Rattle.cw_grammar.specs.Tokens.{behind}
use Rattle.cw_grammar.specs.Reading.{Read, Gives}
use Rattle.cw_parse_items.proofs.Typed.{data_singles, data_arrays}
use Rattle.cw_parse_items.proofs.data.read_data.Goals as goal

pub returns-then-next_is : goal.returns-then-next_is
returns-then-next_is c =
    let P : Read RawData → Type 0 = λ o. Gives (λ x. (x.0, behind c.args.tokens.now x.1)) c.read_singles.result o in
    subst P (data_singles (behind c.args.tokens.now c.args.at) (behind c.args.tokens.now c.in_ok-kind.at) c.in_ok-kind.kind (sym c.is_type.ensures ∙ c.if-is_type.true) c.in_ok-kind.ensures (sym c.next_is.ensures ∙ c.if-next_is.true)) c.read_singles.ensures

pub returns-then-is_type : goal.returns-then-is_type
returns-then-is_type c =
    let P : Read RawData → Type 0 = λ o. Gives (λ x. (x.0, behind c.args.tokens.now x.1)) c.read_arrays.result o in
    subst P (data_arrays (behind c.args.tokens.now c.args.at) (behind c.args.tokens.now c.in_ok-kind.at) c.in_ok-kind.kind (sym c.is_type.ensures ∙ c.if-is_type.true) c.in_ok-kind.ensures (sym c.next_is.ensures ∙ c.if-next_is.false)) c.read_arrays.ensures
