-- What is spelled as the canonical tokens of a tree in normal form derives the tree again, but for its positions.
use Rattle.std.specs.Prelude.{◌≡◌, ℕ, Bool, List, map}
use Rattle.cw_grammar.specs.Tokens.{Item}
use Rattle.cw_grammar.specs.Grammar.{Sort, Value, Grammar}
use Rattle.cw_grammar.specs.Derives.{Derives}
use Rattle.cw_show.specs.Spelling.{Spelling}
use Rattle.cw_show.specs.Canonical.{Tokens}
use Rattle.cw_derived.specs.NormalForm.{IsNormal}

-- a token by its kind and its bytes
abbrev pub spell : Item → Spelling
spell t = record { kind = t.kind; text = t.text }

-- Each tree of the sort in normal form is the same, but for positions, as one that the rule derives of any tokens spelled as its canonical ones.
abbrev pub ReadsBack : Bool → (s : Sort) → Grammar s → (Value s → Tokens) → (Value s → Value s) → Type 0
ReadsBack p s g tokens bare = (n : ℕ) (x : Value s) (marks : List ℕ) → IsNormal n p s x marks → (ts : List Item)
    → map spell ts ≡ tokens x → (d : Value s) × Derives n s g ts d × (bare d ≡ bare x)
