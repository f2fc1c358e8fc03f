-- The loop over BITS.
use Rattle.std.proofs.Common.{◌≡◌, ℕ, length}
use Rattle.cw_grammar.specs.Tokens.{behind}
use Rattle.cw_grammar.specs.Grammar.{a_list, a_bits, many}
use Rattle.cw_grammar.specs.Rules.{bits}
use Rattle.cw_grammar.specs.Reading.{read}
use Rattle.cw_grammar.proofs.Loop.{with_front}
use Rattle.cw_operand.proofs.operands.read_all_bits.Given as goal

abbrev pub invariant-loop-found : goal.invariant-loop-found
invariant-loop-found l = with_front l.found (read l.levels (a_list a_bits) (many bits) (behind l.tokens l.next)) ≡ read l.levels (a_list a_bits) (many bits) (behind l.tokens l.at)

abbrev pub decreases-loop-found : goal.decreases-loop-found
decreases-loop-found l = length (behind l.tokens l.next)
