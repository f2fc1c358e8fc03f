-- The levels that are left do not matter.
use Rattle.std.proofs.Common.{◌≡◌, List, sym, refl, subst}
use Rattle.cw_lex.specs.declared.token.Symbol.TheVariants as symbols
use Rattle.cw_tree.specs.declared.segment.RawComm.{RawComm}
use Rattle.cw_grammar.specs.Tokens.{behind}
use Rattle.cw_grammar.specs.Grammar.{a_list, a_comm, many}
use Rattle.cw_grammar.specs.Rules.{symbol, ◌<*◌}
use Rattle.cw_grammar.specs.Statements.{comm}
use Rattle.cw_grammar.specs.Reading.{Read, Gives}
use Rattle.cw_grammar.proofs.Flat.{any_levels}
use Rattle.cw_parse.proofs.Flat.{comms_flat}
use Rattle.cw_parse.proofs.parsing.read_all_comms.Goals as goal

pub returns : goal.returns
returns c =
    let P : Read (List RawComm) → Type 0 = λ o. Gives (λ x. (x.0, behind c.args.tokens.now x.1)) c.read_comms.result o in
    subst P (any_levels 0 c.args.at_levels (a_list a_comm) (many (comm <* symbol symbols.Semicolon)) (behind c.args.tokens.now c.args.at) comms_flat) c.read_comms.ensures
