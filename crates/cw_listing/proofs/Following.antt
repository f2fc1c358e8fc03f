-- Lines that follow one another, and tables of places.
use Rattle.std.proofs.Common.{◌≡◌, ℕ, zero, suc, ◌+◌, ◌<◌, List, [], ◌∷◌, ◌++◌, length, get_or, Bool, true, false, ◌||◌, ◌==◌, take, refl, sym, ap, ◌∙◌, subst, arith, add-one}
use Rattle.std.proofs.Math.Seq.{take-suc}
use Rattle.std.proofs.lemmas.List.Folds.{list_any-append}
use Rattle.cw_listing.specs.declared.line.Shown.{Shown}
use Rattle.cw_listing.specs.declared.line.Shown.TheVariants.{Instruction, Word, Byte}
use Rattle.cw_listing.specs.declared.line.Line.{Line}
use Rattle.cw_listing.specs.Lines.{IsShown, Shows, IsLineAt, AreLinesBetween, is_among}
use Rattle.cw_listing.specs.Tables.{IsTable}

-- a line behind others
pub lines_and_one : (code words : List ℕ) (a b : ℕ) (ls : List Line) (l : Line) → AreLinesBetween code words a ls b → IsLineAt code words b l → AreLinesBetween code words a (ls ++ l ∷ []) (b + l.size)
lines_and_one code words a b [] l e h = (subst (λ x. IsLineAt code words x l) (sym e) h, ap (λ x. x + l.size) e)
lines_and_one code words a b (m ∷ ms) l h at = (h.0, lines_and_one code words (a + m.size) b ms l h.1 at)

shown : (code words : List ℕ) (place : ℕ) (s : Shown) (size : ℕ) → Shows code words place s size → IsShown s
shown code words place (Instruction i) size h = h.1.0
shown code words place Word size h = tt
shown code words place Byte size h = tt

-- what lines show has the numbers of its rows
pub all_shown : (code words : List ℕ) (a b : ℕ) (ls : List Line) → AreLinesBetween code words a ls b → (k : ℕ) (d : Line) → k < length ls → IsShown (get_or ls k d).shown
all_shown code words a b [] h k d less = absurd (omega (arith, less))
all_shown code words a b (l ∷ ls) h zero d less = shown code words a l.shown l.size h.0.shows
all_shown code words a b (l ∷ ls) h (suc k) d less = all_shown code words (a + l.size) b ls h.1 k d (omega (arith, less))

or-false : (b : Bool) → (b || false) ≡ b
or-false true = refl
or-false false = refl

among-one-more : (places : List ℕ) (k p : ℕ) → k < length places → is_among (take (k + 1) places) p ≡ (is_among (take k places) p || get_or places k 0 == p)
among-one-more places k p less =
    ap (λ ts. is_among ts p) (ap (λ n. take n places) (add-one k) ∙ take-suc places k 0 less)
    ∙ list_any-append (λ q. q == p) (take k places) (get_or places k 0 ∷ [])
    ∙ ap (λ b. is_among (take k places) p || b) (or-false (get_or places k 0 == p))

-- a table with one place more
pub table_with_one : (size : ℕ) (places : List ℕ) (k : ℕ) (table : List Bool) → k < length places
    → IsTable size (λ p. is_among (take k places) p || get_or places k 0 == p) table → IsTable size (is_among (take (k + 1) places)) table
table_with_one size places k table less t = record { length_is = t.length_is; tells = λ p h. t.tells p h ∙ sym (among-one-more places k p less) }
