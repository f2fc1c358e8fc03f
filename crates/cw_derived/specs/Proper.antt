-- What each tree is that the grammar derives.
use Rattle.std.specs.Prelude.{ℕ, Bool, false, List}
use Rattle.cw_tree.specs.declared.segment.Raw.{Raw}
use Rattle.cw_grammar.specs.Tokens.{Item}
use Rattle.cw_grammar.specs.Grammar.{Sort, a_raw, Value, Grammar}
use Rattle.cw_grammar.specs.Derives.{Derives}
use Rattle.cw_derived.specs.Marks.{token_marks, Within, Rises}
use Rattle.cw_derived.specs.NormalForm.{IsNormal}

-- The tree is in normal form, and its marks are among these, in their order.
pub record IsNormalWithin (n : ℕ) (p : Bool) (s : Sort) (x : Value s) (ns : List ℕ) : Type 0 where
  pub marks : List ℕ
  pub within : Within marks ns
  pub normal : IsNormal n p s x marks

-- Each tree that the rule derives is in normal form, with the levels of its tokens, and its marks are among theirs.
abbrev pub GivesNormal : Bool → (s : Sort) → Grammar s → Type 0
GivesNormal p s g = (n : ℕ) (u : List Item) (x : Value s) → Derives n s g u x → IsNormalWithin n p s x (token_marks u)

-- The tree of a text is in normal form, and its marks rise in order of the text.
pub record IsProper (n : ℕ) (x : Raw) : Type 0 where
  pub marks : List ℕ
  pub normal : IsNormal n false a_raw x marks
  pub rises : Rises marks
