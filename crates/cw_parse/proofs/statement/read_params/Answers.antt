-- The levels that are left do not matter.
use Rattle.std.proofs.Common.{◌≡◌, List, sym, refl, subst}
use Rattle.cw_tree.specs.declared.statement.RawParam.{RawParam}
use Rattle.cw_grammar.specs.Tokens.{behind}
use Rattle.cw_grammar.specs.Grammar.{a_list, a_param}
use Rattle.cw_grammar.specs.Statements.{listed, in_round, semicolons, param}
use Rattle.cw_grammar.specs.Reading.{Read, Gives}
use Rattle.cw_grammar.proofs.Flat.{any_levels}
use Rattle.cw_parse.proofs.Flat.{params_flat}
use Rattle.cw_parse.proofs.statement.read_params.Goals as goal

pub returns : goal.returns
returns c =
    let P : Read (List RawParam) → Type 0 = λ o. Gives (λ x. (x.0, behind c.args.tokens.now x.1)) c.read_param_list.result o in
    subst P (any_levels 0 c.args.at_levels (a_list a_param) (listed (in_round (semicolons param))) (behind c.args.tokens.now c.args.at) params_flat) c.read_param_list.ensures
