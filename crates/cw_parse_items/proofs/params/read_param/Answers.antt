-- A procedure behind its type.
use Rattle.std.proofs.Common.{◌≡◌, ◌∙◌, sym, refl, subst}
use Rattle.cw_tree.specs.declared.statement.RawParam.{RawParam}
use Rattle.cw_grammar.specs.Tokens.{behind}
use Rattle.cw_grammar.specs.Reading.{Read, Gives}
use Rattle.cw_parse_items.proofs.Typed.{param_of_proc}
use Rattle.cw_parse_items.proofs.params.read_param.Goals as goal

pub returns-then-is_type : goal.returns-then-is_type
returns-then-is_type c =
    let P : Read RawParam → Type 0 = λ o. Gives (λ x. (x.0, behind c.args.tokens.now x.1)) c.read_procedure_param.result o in
    subst P (param_of_proc (behind c.args.tokens.now c.args.at) (behind c.args.tokens.now c.in_ok-kind.at) c.in_ok-kind.kind (sym c.is_type.ensures ∙ c.if-is_type.true) c.in_ok-kind.ensures (sym c.next_is.ensures ∙ c.if-next_is.false)) c.read_procedure_param.ensures
