-- What begins with a type.
use Rattle.std.proofs.Common.{◌∙◌, sym, subst}
use Rattle.cw_tree.specs.declared.segment.RawPs.{RawPs}
use Rattle.cw_grammar.specs.Tokens.{behind}
use Rattle.cw_grammar.specs.Reading.{Read, Gives}
use Rattle.cw_parse_items.proofs.Typed.{ps_of_array, ps_of_proc}
use Rattle.cw_parse_items.proofs.specifications.read_ps.Goals as goal

pub returns-then-next_is : goal.returns-then-next_is
returns-then-next_is c = ps_of_array (behind c.args.tokens.now c.args.at) (behind c.args.tokens.now c.in_ok-kind.at) (behind c.args.tokens.now c.taken-at.result.1)
    c.in_ok-kind.kind _ (sym c.is_type.ensures ∙ c.if-is_type.true) c.in_ok-kind.ensures (sym c.next_is.ensures ∙ c.if-next_is.true) c.taken-at.ensures

pub returns-then-is_type : goal.returns-then-is_type
returns-then-is_type c =
    let P : Read RawPs → Type 0 = λ o. Gives (λ x. (x.0, behind c.args.tokens.now x.1)) c.read_procedure_ps.result o in
    subst P (ps_of_proc (behind c.args.tokens.now c.args.at) (behind c.args.tokens.now c.in_ok-kind.at) c.in_ok-kind.kind (sym c.is_type.ensures ∙ c.if-is_type.true)
    c.in_ok-kind.ensures (sym c.next_is.ensures ∙ c.if-next_is.false)) c.read_procedure_ps.ensures
