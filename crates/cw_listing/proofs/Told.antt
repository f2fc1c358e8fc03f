-- What a listing tells beside an instruction: its own bytes, and items of the families whose words it has.
use Rattle.std.proofs.Common.{◌≡◌, ℕ, zero, suc, ◌+◌, Bool, true, false, List, [], ◌∷◌, length, take, drop, Option, Some, if◌then◌else◌, ◌==◌, refl, sym, ap, ap₂, ◌∙◌, subst, arith}
use Rattle.std.specs.Prelude.{slice_get}
use Rattle.std.proofs.lemmas.Bool.{eqb-true}
use Rattle.std.proofs.lemmas.Option.{none-some, same_Some}
use Rattle.std.proofs.Math.Seq.{take-append_seam}
use Rattle.cw_i86.specs.declared.instr.Instr.{Instr}
use Rattle.cw_i86.specs.Encoding.{bytes_of}
use Rattle.cw_listing.specs.declared.line.Shown.{Shown}
use Rattle.cw_listing.specs.declared.line.Shown.TheVariants.{Instruction}
use Rattle.cw_listing.specs.declared.line.Line.{Line}
use Rattle.cw_listing.specs.Lines.{Shows, IsLineAt}
use Rattle.cw_listing.specs.Listing.{line_bytes}
use Rattle.cw_listing.specs.Remarks.{roots_from}

-- the bytes of a line that shows an instruction are those of the instruction
pub own_bytes : (code words : List ℕ) (place : ℕ) (l : Line) (i : Instr) → IsLineAt code words place l → l.shown ≡ Instruction i → line_bytes code l ≡ bytes_of i
own_bytes code words place l i h is =
    let shows : Shows code words place (Instruction i) l.size = subst (λ s. Shows code words place s l.size) is h.shows in
    ap₂ (λ n p. take n (drop p code)) shows.1.2 h.at ∙ ap (λ bs. take (length (bytes_of i)) bs) shows.1.1.1 ∙ take-append_seam (bytes_of i) shows.1.1.0

-- the item of a number among these roots is one of the family of this number
pub record IsOf (item family : ℕ) (hs : List (ℕ × ℕ)) (k r : ℕ) : Type 0 where
  pub behind : ℕ
  pub home : ℕ × ℕ
  pub is : r ≡ item + behind
  pub there : slice_get hs behind ≡ Some home
  pub of : home.0 ≡ family + k

one_later : (item family : ℕ) (h : ℕ × ℕ) (hs : List (ℕ × ℕ)) (k j r : ℕ) (f : ℕ) → f + j ≡ family + k → IsOf (item + 1) f hs j r → IsOf item family (h ∷ hs) k r
one_later item family h hs k j r f same o = record { behind = suc o.behind; home = o.home; is = omega (arith, o.is); there = o.there; of = o.of ∙ same }

pub of_family : (item family : ℕ) (hs : List (ℕ × ℕ)) (k r : ℕ) → slice_get (roots_from item family hs) k ≡ Some r → IsOf item family hs k r
of_family item family [] k r e = absurd (none-some r e)
of_family item family (h ∷ hs) k r e = by (λ i f j. of_family i f hs j r) (h.0 == family) k (eqb-true h.0 family) e
  where
    by : ((i f j : ℕ) → slice_get (roots_from i f hs) j ≡ Some r → IsOf i f hs j r) → (b : Bool) (k : ℕ) → (b ≡ true → h.0 ≡ family) → slice_get (if b then item ∷ roots_from (item + 1) (family + 1) hs else roots_from (item + 1) family hs) k ≡ Some r → IsOf item family (h ∷ hs) k r
    by rest true zero same e = record { behind = 0; home = h; is = omega (arith, same_Some item r e); there = refl; of = omega (arith, same refl) }
    by rest true (suc k) same e = one_later item family h hs (suc k) k r (family + 1) (omega arith) (rest (item + 1) (family + 1) k e)
    by rest false k same e = one_later item family h hs k k r family refl (rest (item + 1) family k e)
