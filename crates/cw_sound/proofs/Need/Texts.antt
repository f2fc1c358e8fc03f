-- How many words are in hand in the bodies of a text.
use Rattle.std.proofs.Common.{inl, inr, ℕ, ◌+◌, ◌*◌, ◌≤◌, List, [], ◌∷◌, false, subst, arith}
use Rattle.cw_lex.specs.Lexical.{Lexeme}
use Rattle.cw_tree.specs.declared.segment.Raw.{Raw}
use Rattle.cw_grammar.specs.Tokens.{numbered}
use Rattle.cw_grammar.specs.Grammar.{a_raw}
use Rattle.cw_grammar.specs.Statements.{text}
use Rattle.cw_grammar.specs.Derives.{Derives}
use Rattle.cw_derived.specs.NormalForm as normal
use Rattle.cw_derived.specs.NormalForm.{IsNormal}
use Rattle.cw_derived.proofs.Statements.{text_normal}
use Rattle.cw_derived.proofs.Derived.{derived_normal}
use Rattle.cw_scope.specs.declared.resolve.Named.{Named}
use Rattle.cw_make_expr.specs.Parts.{Numbers}
use Rattle.cw_make_stmt.specs.Made.{statement_of, block_of}
use Rattle.cw_unit.specs.StackBound.{body_depth}
use Rattle.cw_sound.specs.Uses.Mentions.{In}
use Rattle.cw_sound.specs.Statements.Bodies.{Body, block_bodies}
use Rattle.cw_sound.specs.Names.Standing.{FewParameters}
use Rattle.cw_sound.proofs.Need.Rules.{Each}
use Rattle.cw_sound.proofs.Need.Layers.{Kept}
use Rattle.cw_sound.proofs.Need.Trees.{test_words, holds}

each_in : {A : Type 0} (P : A → Type 0) (xs : List A) → Each P xs → (x : A) → In x xs → P x
each_in P [] h x i = absurd i
each_in P (y ∷ ys) h x (inl e) = subst P e h.0
each_in P (y ∷ ys) h x (inr i) = each_in P ys h.1 x i

words : (n d : ℕ) → d ≤ test_words n → d ≤ 72 * n + 7
words n d h = omega (arith, h)

module _ (named : Named) (numbers : Numbers) (few : FewParameters named) where
  raw_kept : {n : ℕ} {x : Raw} {a : List ℕ} → IsNormal n false a_raw x a → Kept named numbers (test_words n) (block_of named numbers x.block) (block_bodies x.block)
  raw_kept (normal.is_raw f tokens h e k) = holds named numbers few k

  text_kept : (n : ℕ) (ts : List Lexeme) (raw : Raw) → Derives n a_raw text (numbered 1 ts) raw → Kept named numbers (test_words n) (block_of named numbers raw.block) (block_bodies raw.block)
  text_kept n ts raw d = raw_kept (derived_normal false text_normal d).normal

  pub block_words : (n : ℕ) (ts : List Lexeme) (raw : Raw) → Derives n a_raw text (numbered 1 ts) raw → body_depth (block_of named numbers raw.block) ≤ 72 * n + 7
  block_words n ts raw d = words n (body_depth (block_of named numbers raw.block)) (text_kept n ts raw d).depth

  pub procedure_words : (n : ℕ) (ts : List Lexeme) (raw : Raw) (x : Body) → Derives n a_raw text (numbered 1 ts) raw → In x (block_bodies raw.block) → body_depth (statement_of named numbers x.statement) ≤ 72 * n + 7
  procedure_words n ts raw x d i =
      words n (body_depth (statement_of named numbers x.statement))
      (each_in (λ (b : Body). body_depth (statement_of named numbers b.statement) ≤ test_words n) (block_bodies raw.block) (text_kept n ts raw d).bodies x i)
