-- What each text has, where the tokens of a text of the grammar expand to themselves.
use Rattle.std.proofs.Common.{ℕ, Bool, List, ◌≤◌, length, decimal, subst}
use Rattle.cw_lex.specs.Lexical.{Lexeme}
use Rattle.cw_macro.specs.Expansion.{Expands}
use Rattle.cw_tree.specs.declared.segment.Raw.{Raw}
use Rattle.cw_grammar.specs.Tokens.{numbered}
use Rattle.cw_grammar.specs.Grammar.{a_raw}
use Rattle.cw_grammar.specs.Statements as grammar
use Rattle.cw_grammar.specs.Derives.{Derives}
use Rattle.cw_compile.specs.Texts.{HasTree, HasNames}
use Rattle.cw_big.specs.LargeProgram.{large_text}
use Rattle.cw_big_units.proofs.Digits.{numeral}
use Rattle.cw_big_units.proofs.Tokens.{text_of, text_is, tokens, tokens_few, lexed}
use Rattle.cw_big_units.proofs.Reading.{tree_of, derived}
use Rattle.cw_big_units.proofs.TreeText.{tree_text}
use Rattle.cw_big_units.proofs.Written.{written}
use Rattle.cw_big_units.proofs.Names.{named_of, resolved}

module _ (expands : (n : ℕ) (ts : List Lexeme) (x : Raw) → length ts ≤ 65535 → Derives n a_raw grammar.text (numbered 1 ts) x → Expands ts ts) where
  pub has_tree : (i : ℕ) (is_last : Bool) → 1 ≤ i → i ≤ 100 → HasTree (large_text i is_last) (tree_text is_last (decimal i))
  has_tree i is_last l h =
      let w = decimal i in
      let ts = tokens is_last w in
      let derives = derived is_last w in
      let read : HasTree (text_of is_last w) (tree_of is_last w) = record {
        expanded = ts;
        expands = record { tokens = ts; tokenizes = lexed is_last w (numeral i l h); expands = expands 64 ts (tree_of is_last w) (tokens_few is_last w) derives };
        derives = derives;
      } in
      subst (λ text. HasTree text (tree_text is_last w)) (text_is i is_last) (subst (HasTree (text_of is_last w)) (written is_last w) read)

  pub has_names : (i : ℕ) (is_last : Bool) → 1 ≤ i → i ≤ 100 → HasNames (large_text i is_last) (named_of is_last (decimal i))
  has_names i is_last l h = record { tree = has_tree i is_last l h; resolves = resolved is_last (decimal i) }
