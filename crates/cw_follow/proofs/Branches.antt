-- The way on behind a comparison, with a near jump to its mark or a short one.
use Rattle.std.proofs.Common.{◌≡◌, ℕ, ◌+◌, ◌%◌, ◌<◌, lit<, Bool, true, false, List, [], ◌∷◌, refl, ap, ◌∙◌, arith}
use Rattle.cw_i86.specs.State.{sign_extended}
use Rattle.cw_i86.specs.declared.instr.Instr.{Instr}
use Rattle.cw_i86.specs.declared.instr.Instr.TheVariants as i86
use Rattle.cw_run86.specs.Views.{condition_of}
use Rattle.cw_order.specs.declared.order.Comparator.{Comparator}
use Rattle.cw_order.specs.declared.order.Comparator.TheVariants as comparator
use Rattle.cw_tmpl.specs.Pieces.{Filling}
use Rattle.cw_tmpl.specs.Templates.{distance, short_distance, is_close, comparison_of, opposite_of, branch_by}
use Rattle.cw_tmpl.proofs.Sizes.{jump_arrives}
use Rattle.cw_tmpl.proofs.Reaching.{short_arrives}
use Rattle.cw_follow.proofs.Standing.{Image, HasPieces, HasAll}

-- its instructions, its bytes, and how far a jump goes by its number
abbrev pub branch_code : (short : Bool) → Comparator → (by : ℕ) → List Instr
branch_code true c by = i86.JumpIf (condition_of (comparison_of c)) by ∷ []
branch_code false c by = i86.JumpIf (condition_of (opposite_of c)) 3 ∷ i86.Jump by ∷ []

abbrev pub branch_size : (short : Bool) → ℕ
branch_size true = 2
branch_size false = 5

abbrev pub goes_by : (short : Bool) → (by : ℕ) → ℕ
goes_by true by = sign_extended by
goes_by false by = by

-- that number, from the end of the jump to a place
abbrev pub jump_word : (short : Bool) → (from to : ℕ) → ℕ
jump_word true from to = short_distance from to
jump_word false from to = distance from to

pub branch_stands : (image : Image) (value : Filling) (at : ℕ) (short : Bool) (c : Comparator) (place to : ℕ) → HasPieces image value at (branch_by short c place to) → HasAll image at (branch_code short c (jump_word short (place + branch_size short) to))
branch_stands image value at true c place to h = h
branch_stands image value at false c place to h = h

-- behind code of n bytes
pub branch_arrives : (base own n to : ℕ) (short : Bool) → (short ≡ true → is_close (own + n + 2) to ≡ true)
    → (base + own + n + branch_size short + goes_by short (jump_word short (own + n + branch_size short) to)) % 65536 ≡ (base + to) % 65536
branch_arrives base own n to true close =
    let far : (base + (own + n) + 2 + sign_extended (short_distance (own + n + 2) to)) % 65536 ≡ (base + to) % 65536 = short_arrives base (own + n) 2 to (close refl) in
    let same : base + own + n + 2 ≡ base + (own + n) + 2 = omega arith in
    ap (λ x. (x + sign_extended (short_distance (own + n + 2) to)) % 65536) same ∙ far
branch_arrives base own n to false close =
    let far : (base + (own + n) + 5 + distance (own + n + 5) to) % 65536 ≡ (base + to) % 65536 = jump_arrives base (own + n) 5 to in
    let same : base + own + n + 5 ≡ base + (own + n) + 5 = omega arith in
    ap (λ x. (x + distance (own + n + 5) to) % 65536) same ∙ far

-- numbers of its instructions
pub comparison_small : (c : Comparator) → condition_of (comparison_of c) < 16
comparison_small comparator.Less = lit< tt
comparison_small _ = lit< tt

pub short_small : (from to : ℕ) → short_distance from to < 256
short_small from to = omega arith
