-- Code has one way to be told as lines, and so one listing.
use Rattle.std.proofs.Common.{◌≡◌, ℕ, ◌+◌, Bool, true, false, List, [], ◌∷◌, length, drop, refl, sym, ap, ap₂, ◌∙◌, subst, arith}
use Rattle.std.proofs.lemmas.Bool.{false≢true}
use Rattle.cw_i86.specs.declared.instr.Instr.{Instr}
use Rattle.cw_i86.specs.Encoding.{bytes_of}
use Rattle.cw_dec86.proofs.Decide.{one}
use Rattle.cw_listing.specs.declared.line.Shown.{Shown}
use Rattle.cw_listing.specs.declared.line.Shown.TheVariants.{Instruction, Word, Byte}
use Rattle.cw_listing.specs.declared.line.Line.{Line}
use Rattle.cw_listing.specs.declared.remark.Remark.{Remark}
use Rattle.cw_listing.specs.Lines.{stands_word, Shows, IsLineAt, AreLinesBetween}
use Rattle.cw_listing.specs.Listing.{listing, IsListing}

-- ---- what stands at a place

both : (b : Bool) → b ≡ false → b ≡ true → ⊥
both b f t = false≢true (sym f ∙ t)

one_shown : (code words : List ℕ) (place : ℕ) (s t : Shown) (n m : ℕ) → Shows code words place s n → Shows code words place t m → (s ≡ t) × (n ≡ m)
one_shown code words place (Instruction i) (Instruction j) n m h k =
    let same : i ≡ j = one i j h.1.1.0 k.1.1.0 h.1.0 k.1.0 (sym h.1.1.1 ∙ k.1.1.1) in
    (ap Instruction same, h.1.2 ∙ ap (λ x. length (bytes_of x)) same ∙ sym k.1.2)
one_shown code words place (Instruction i) Word n m h k = absurd (both (stands_word code words place) h.0 k.0)
one_shown code words place (Instruction i) Byte n m h k = absurd (k.1 i h.1.0 h.1.1)
one_shown code words place Word (Instruction j) n m h k = absurd (both (stands_word code words place) k.0 h.0)
one_shown code words place Word Word n m h k = (refl, h.1 ∙ sym k.1)
one_shown code words place Word Byte n m h k = absurd (both (stands_word code words place) k.0 h.0)
one_shown code words place Byte (Instruction j) n m h k = absurd (h.1 j k.1.0 k.1.1)
one_shown code words place Byte Word n m h k = absurd (both (stands_word code words place) h.0 k.0)
one_shown code words place Byte Byte n m h k = (refl, h.2 ∙ sym k.2)

-- ---- lines

abbrev line_by : (place size : ℕ) → Shown → Line
line_by place size shown = record { place = place; size = size; shown = shown }

one_line : (code words : List ℕ) (place : ℕ) (l m : Line) → IsLineAt code words place l → IsLineAt code words place m → l ≡ m
one_line code words place l m h k =
    let both = one_shown code words place l.shown m.shown l.size m.size h.shows k.shows in
    ap (λ p. line_by p l.size l.shown) (h.at ∙ sym k.at) ∙ ap₂ (λ n s. line_by m.place n s) both.1 both.0

-- from a place up to the end
pub one_way : (code words : List ℕ) (a : ℕ) (ls ms : List Line) → AreLinesBetween code words a ls (length code) → AreLinesBetween code words a ms (length code) → ls ≡ ms
one_way code words a [] [] h k = refl
one_way code words a [] (m ∷ ms) h k = absurd (omega (arith, h, k.0.inside))
one_way code words a (l ∷ ls) [] h k = absurd (omega (arith, k, h.0.inside))
one_way code words a (l ∷ ls) (m ∷ ms) h k =
    let same : l ≡ m = one_line code words a l m h.0 k.0 in
    ap₂ (λ x xs. x ∷ xs) same
    (one_way code words (a + l.size) ls ms h.1 (subst (λ (x : Line). AreLinesBetween code words (a + x.size) ms (length code)) (sym same) k.1))

-- ---- listings

pub one_text : (code : List ℕ) (notes words : List Remark) (data_places text other : List ℕ) → IsListing code notes words data_places text → IsListing code notes words data_places other → text ≡ other
one_text code notes words data_places text other h k =
    h.is_text ∙ ap (λ ls. listing code ls notes words) (one_way code _ 0 h.lines k.lines h.are_lines k.are_lines) ∙ sym k.is_text
