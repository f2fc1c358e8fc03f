-- Communicators begin alike with and without the semicolon behind each.
use Rattle.std.proofs.Common.{◌≡◌, Bool, List}
use Rattle.cw_lex.specs.declared.token.Symbol.TheVariants as symbols
use Rattle.cw_grammar.specs.Tokens.{Item}
use Rattle.cw_grammar.specs.Grammar.{starts, first}
use Rattle.cw_grammar.specs.Rules.{symbol, ◌<*◌}
use Rattle.cw_grammar.specs.Statements.{comm}

pub comm_starts : (ts : List Item) (b : Bool) → starts ts (first comm) ≡ b → starts ts (first (comm <* symbol symbols.Semicolon)) ≡ b
unfolding comm
comm_starts ts b e = e
