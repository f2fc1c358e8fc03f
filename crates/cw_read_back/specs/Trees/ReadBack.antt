-- The canonical text of a tree is read back.
use Rattle.std.specs.Prelude.{◌≡◌, ℕ, ◌≤◌, List, length, map}
use Rattle.cw_lex.specs.declared.token.Form.TheVariants.{Source}
use Rattle.cw_lex.specs.Lexical.{Lexeme, Tokenizes, first_place}
use Rattle.cw_macro.specs.Expansion.{Expands}
use Rattle.cw_tree.specs.declared.segment.Raw.{Raw}
use Rattle.cw_grammar.specs.Tokens.{numbered}
use Rattle.cw_grammar.specs.Grammar.{a_raw}
use Rattle.cw_grammar.specs.Statements.{text}
use Rattle.cw_grammar.specs.Derives.{Derives}
use Rattle.cw_show.specs.Lexing.{spelling}
use Rattle.cw_show.specs.StatementTokens.{canonical_tokens, canonical_text}
use Rattle.cw_read_back.specs.Trees.UnplacedStatements.{unplaced}

-- The canonical text has the canonical tokens of the tree, which expand to themselves, unless they are too many, and
-- derive, with n levels at most, a tree that is the same but for positions.
pub record IsReadBack (n : ℕ) (x : Raw) : Type 0 where
  pub tokens : List Lexeme
  pub tree : Raw
  pub tokenizes : Tokenizes Source first_place (canonical_text x) tokens
  pub spelled : map spelling tokens ≡ canonical_tokens x
  pub expands : length tokens ≤ 65535 → Expands tokens tokens
  pub derives : Derives n a_raw text (numbered 1 tokens) tree
  pub same : unplaced tree ≡ unplaced x
