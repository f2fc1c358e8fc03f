-- The leaves of the trees of whole texts.
use Rattle.std.proofs.Common.{ℕ, suc, ◌+◌, List, [], ◌∷◌, arith}
use Rattle.std.specs.Prelude.{All}
use Rattle.cw_lex.specs.Lexical.{Lexeme}
use Rattle.cw_tree.specs.declared.segment.Raw.{Raw}
use Rattle.cw_grammar.specs.Tokens.{numbered}
use Rattle.cw_grammar.specs.Grammar.{a_raw}
use Rattle.cw_grammar.specs.Statements.{text}
use Rattle.cw_grammar.specs.Derives.{Derives}
use Rattle.cw_spelled.specs.Proper.{IsProperToken}
use Rattle.cw_show.specs.StatementTokens.{canonical_tokens}
use Rattle.cw_read_back.specs.Expressions.Leaves.{HasSpelledLeaves}
use Rattle.cw_read_back.proofs.Expressions.Reading.{Each}
use Rattle.cw_read_back.proofs.Texts.Spelled.{all_of}
use Rattle.cw_read_back.proofs.Texts.Tokens.{IsProperItem}
use Rattle.cw_read_back.proofs.Texts.Good.{good}
use Rattle.cw_read_back.proofs.Texts.Statements.{rule_keeps, again_keeps, text_keeps}

each_of : {A : Type 0} (P : A → Type 0) (xs : List A) → All P xs → Each P xs
each_of P [] h = tt
each_of P (x ∷ xs) h = (h 0 x (omega arith), each_of P xs (λ k d l. h (suc k) d (omega (arith, l))))

proper_items : (n : ℕ) (ts : List Lexeme) → Each IsProperToken ts → Each IsProperItem (numbered n ts)
proper_items n [] h = tt
proper_items n (t ∷ ts) h = (h.0, proper_items (n + 1) ts h.1)

pub leaves_of : (n : ℕ) (ts : List Lexeme) (raw : Raw) → All IsProperToken ts → Derives n a_raw text (numbered 1 ts) raw → HasSpelledLeaves (canonical_tokens raw)
leaves_of n ts raw h d = all_of (canonical_tokens raw) (good (λ s r. rule_keeps r) (λ s a. again_keeps a) d (proper_items 1 ts (each_of IsProperToken ts h)) text_keeps)
