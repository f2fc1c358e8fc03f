-- Numbers where they stand as operands, and the scales of names, of which none is more than 15.
use Rattle.std.proofs.Common.{◌≡◌, ℕ, zero, suc, ◌+◌, ◌≤◌, Bool, true, false, IsTrue, ◌&&◌, nat_le, nat_lt, ◌==◌, if◌then◌else◌, Option, Some, None, refl, sym, ap, ap₂, ◌∙◌, arith}
use Rattle.std.proofs.lemmas.Bool.Decides.{nat_tests}
use Rattle.cw_word.specs.Number.{Number}
use Rattle.cw_word.specs.Decimal.{decimal_floor}
use Rattle.cw_word.specs.FixedPoint.{fits_word}
use Rattle.cw_word.specs.Word.{signed}
use Rattle.cw_word.proofs.Words.{fits_word-is, FitsWord-signed}
use Rattle.cw_amount.specs.Amounts.{place_amount, is_negative}
use Rattle.cw_tree.specs.declared.leaf.RawType.{RawType}
use Rattle.cw_tree.specs.declared.leaf.RawType.TheVariants as type
use Rattle.cw_tree.specs.declared.items.RawElem.{RawElem}
use Rattle.cw_tree.specs.declared.items.RawElem.TheVariants as elem
use Rattle.cw_facts.specs.declared.fact.Kind.{Kind}
use Rattle.cw_facts.specs.declared.fact.Kind.TheVariants as kind
use Rattle.cw_scale.specs.Kinds.{fraction_in, fraction_of, element_fraction, answer_fraction, kind_fraction, fraction_of_kind}
use Rattle.cw_scale.specs.TypeRules as judged
use Rattle.cw_scale.specs.TypeRules.{fits_at, best_within, number_operand}
use Rattle.cw_make_expr.specs.Parts.{within}
use Rattle.cw_unit.specs.Scales as scales
use Rattle.cw_unit.specs.Scales.{best_scale_within, number_scale}
use Rattle.cw_sound.proofs.Expressions.Truth.{le_true, lt_true}

-- ---- the best scale of a number

same_best : (b : Bool) (f g : ℕ) → judged.best_if b f g ≡ scales.best_if b f g
same_best true f g = refl
same_best false f g = refl

best_small : (b : Bool) (f g n : ℕ) → f ≤ n → g ≤ n → judged.best_if b f g ≤ n
best_small true f g n h k = h
best_small false f g n h k = k

fits_alike : (b c : Bool) → IsTrue b → (b && c) ≡ c
fits_alike b c h = ap (λ x. x && c) h

pub best_is : (n : Number) (k : ℕ) → k ≤ 15 → best_within n k ≡ best_scale_within n k
best_is n zero h = refl
best_is n (suc f) h =
    let next : suc f ≡ f + 1 = omega arith in
    ap₂ (λ b g. judged.best_if b (suc f) g) (fits_alike (nat_le (suc f) 15) (nat_le (decimal_floor n.whole n.digits n.places (suc f)) 32767) (le_true (suc f) 15 h)) (best_is n f (omega (arith, h)))
    ∙ same_best (nat_le (decimal_floor n.whole n.digits n.places (suc f)) 32767) (suc f) (best_scale_within n f)
    ∙ ap (λ (g : ℕ). scales.best_if (nat_le (decimal_floor n.whole n.digits n.places g) 32767) g (best_scale_within n f)) next

pub best_within_small : (n : Number) (k : ℕ) → best_within n k ≤ k
best_within_small n zero = omega arith
best_within_small n (suc f) = best_small (fits_at n (suc f)) (suc f) (best_within n f) (suc f) (omega arith) (omega (arith, best_within_small n f))

by_places : (p : ℕ) (n : Number) → number_scale (nat_lt 0 p) n ≡ (if p == 0 then 0 else best_within n 15)
by_places zero n = refl
by_places (suc p) n =
    let some : nat_lt 0 (suc p) ≡ true = lt_true 0 (suc p) (omega arith) in
    let many : (suc p == 0) ≡ false = grind (arith, nat_tests) in
    ap (λ b. number_scale b n) some ∙ sym (best_is n 15 (omega arith)) ∙ sym (ap (λ b. if b then 0 else best_within n 15) many)

pub operand_is : (n : Number) → number_scale (nat_lt 0 n.places) n ≡ number_operand n
operand_is n = by_places n.places n

if_small : (b : Bool) (n m : ℕ) → n ≤ m → (if b then 0 else n) ≤ m
if_small true n m h = omega arith
if_small false n m h = h

pub operand_small : (n : Number) → number_operand n ≤ 15
operand_small n = if_small (n.places == 0) (best_within n 15) 15 (best_within_small n 15)

-- ---- words

pub within_limit : (limit : ℕ) (o : Option ℕ) → within limit o ≤ limit
within_limit limit None = omega arith
within_limit limit (Some n) = by_test (nat_le n limit) refl
  where
    by_test : (b : Bool) → nat_le n limit ≡ b → (if b then n else 0) ≤ limit
    by_test true e = grind (arith, nat_tests)
    by_test false e = omega arith

pub word_fits : (n : ℕ) → n ≤ 65535 → IsTrue (fits_word (signed n))
word_fits n h = (fits_word-is (signed n)).1 (FitsWord-signed n (omega (arith, h)))

-- ---- the scales of types and names

in_small : (negative : Bool) (o : Option ℕ) → fraction_in negative o ≤ 15
in_small negative None = omega arith
in_small true (Some n) = omega arith
in_small false (Some n) = by_test (nat_lt n 16) refl
  where
    by_test : (b : Bool) → nat_lt n 16 ≡ b → (if b then n else 0) ≤ 15
    by_test true e = grind (arith, nat_tests)
    by_test false e = omega arith

pub type_small : (t : RawType) → fraction_of t ≤ 15
type_small (type.Integer at) = omega arith
type_small (type.Fixed at t f) = in_small (is_negative f.sign) (place_amount f.value)

element_small : (e : RawElem) → element_fraction e ≤ 15
element_small (elem.Word n t w) = type_small t
element_small (elem.Part n u t f w b) = in_small (is_negative f.sign) (place_amount f.value)

answer_small : (o : Option RawType) → answer_fraction o ≤ 15
answer_small None = omega arith
answer_small (Some t) = type_small t

kind_small : (k : Kind) → kind_fraction k ≤ 15
kind_small (kind.Single t) = type_small t
kind_small (kind.Array t b) = type_small t
kind_small (kind.Element table e) = element_small e
kind_small (kind.Value t) = type_small t
kind_small (kind.Location t) = type_small t
kind_small (kind.ArrayParam t) = type_small t
kind_small (kind.ProcParam answer) = answer_small answer
kind_small (kind.Proc answer) = answer_small answer
kind_small (kind.Answer t) = type_small t
kind_small _ = omega arith

pub name_small : (o : Option Kind) → fraction_of_kind o ≤ 15
name_small None = omega arith
name_small (Some k) = kind_small k
