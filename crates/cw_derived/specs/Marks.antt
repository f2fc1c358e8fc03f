-- Where the parts of a tree stand among the tokens.
use Rattle.std.specs.Prelude.{ℕ, ◌+◌, ◌*◌, ◌≤◌, List, [], ◌∷◌}
use Rattle.cw_tree.specs.declared.leaf.Position.{Position}
use Rattle.cw_grammar.specs.Tokens.{Item, position}

-- The mark of a token at a position: twice its number.
abbrev pub mark : Position → ℕ
mark at = 2 * at.token

-- The mark of what stands behind that token and before the next.
abbrev pub mark_behind : Position → ℕ
mark_behind at = 2 * at.token + 1

abbrev pub token_marks : List Item → List ℕ
token_marks [] = []
token_marks (t ∷ ts) = mark (position t) ∷ mark_behind (position t) ∷ token_marks ts

-- The first list, with more items between its own, is the second.
pub data Within : List ℕ → List ℕ → Type 0 where
  empty : Within [] []
  kept : {m : ℕ} {ms ns : List ℕ} → Within ms ns → Within (m ∷ ms) (m ∷ ns)
  skipped : {n : ℕ} {ms ns : List ℕ} → Within ms ns → Within ms (n ∷ ns)

-- Each of the list is at or over the number.
abbrev pub AtLeast : ℕ → List ℕ → Type 0
AtLeast n [] = Unit {0}
AtLeast n (m ∷ ms) = (n ≤ m) × AtLeast n ms

-- Each is less than all behind it.
abbrev pub Rises : List ℕ → Type 0
Rises [] = Unit {0}
Rises (m ∷ ms) = AtLeast (m + 1) ms × Rises ms
