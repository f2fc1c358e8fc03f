-- The communicators with a semicolon behind each.
use Rattle.std.proofs.Common.{rules, ◌≡◌, sym}
use Rattle.cw_lex.specs.declared.token.Symbol.TheVariants as symbols
use Rattle.cw_grammar.specs.Tokens.{behind}
use Rattle.cw_grammar.specs.Grammar.{a_comm, starts, first}
use Rattle.cw_grammar.specs.Rules.{symbol, ◌<*◌}
use Rattle.cw_grammar.specs.Statements.{comm}
use Rattle.cw_grammar.specs.Reading.{read}
use Rattle.cw_parse_items.proofs.Communicators.{comm_starts}
use Rattle.cw_parse_items.proofs.comms.read_comms.Goals as goal

pub returns : goal.returns
returns c =
    c.read_ended.ensures (λ ts. starts ts (first (comm <* symbol symbols.Semicolon))) (λ ts. read 0 a_comm comm ts)
    (λ k r p. let told : r ≡ starts (behind c.args.tokens.now k) (first comm) = search rules in sym (comm_starts (behind c.args.tokens.now k) r (sym told)))
    (λ k r p. search rules)
