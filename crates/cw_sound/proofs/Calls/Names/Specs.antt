-- What a text specifies the same has one specification in its unit.
use Rattle.std.proofs.Common.{◌≡◌, ℕ, zero, suc, ◌<◌, ◌≤◌, pos, neg_ℤ, int_le, List, [], ◌∷◌, Bool, true, false, ◌&&◌, ◌==◌, if◌then◌else◌, nat_le, nat_lt, IsTrue, Option, Some, None, refl, sym, ap, ap₂, ◌∙◌, arith}
use Rattle.std.proofs.lemmas.Bool.Decides.{nat_tests}
use Rattle.cw_tree.specs.declared.leaf.RawInt.{RawInt}
use Rattle.cw_tree.specs.declared.leaf.RawInt.TheVariants as int
use Rattle.cw_tree.specs.declared.leaf.RawSint.{RawSint}
use Rattle.cw_tree.specs.declared.leaf.RawType.{RawType}
use Rattle.cw_tree.specs.declared.leaf.RawType.TheVariants as type
use Rattle.cw_tree.specs.declared.segment.RawIps.{RawIps}
use Rattle.cw_tree.specs.declared.segment.RawIps.TheVariants as inner
use Rattle.cw_tree.specs.declared.segment.RawPs.{RawPs}
use Rattle.cw_tree.specs.declared.segment.RawPs.TheVariants as ps
use Rattle.cw_facts.specs.declared.fact.Signature.{Signature}
use Rattle.cw_amount.specs.Amounts.{int_amount, place_amount, octal, word_of, signed_if, is_negative}
use Rattle.cw_scope.specs.Same.{spelled_alike, same_amount, same_int, same_sign, same_signed, same_sint, is_word, same_type, same_answer, same_plain, each_same_plain, same_param, each_same, same_signature}
use Rattle.cw_scale.specs.Arguments.{takes_these}
use Rattle.cw_scale.specs.Kinds.{fraction_in, fraction_of_sint}
use Rattle.cw_make_items.specs.Types.{within, scale_of, answer_of, plain_taken, each_plain_taken, plain_spec, taken, each_taken, spec_of}
use Rattle.cw_unit.specs.declared.descriptor.Scale.{Scale}
use Rattle.cw_unit.specs.declared.descriptor.Spec.{Spec}
use Rattle.cw_unit.specs.declared.descriptor.SpecParam.{SpecParam}
use Rattle.cw_unit.specs.declared.descriptor.SpecParam.TheVariants as takes

no : {A : Type 0} → IsTrue false → A
no h = absurd (cc)

both_true : (a b : Bool) → IsTrue (a && b) → IsTrue a × IsTrue b
both_true true b h = (refl, h)
both_true false b h = no h

same_nat : (a b : ℕ) → IsTrue (a == b) → a ≡ b
same_nat a b h = grind (arith, nat_tests, h)

le_of : (a b : ℕ) → IsTrue (nat_le a b) → a ≤ b
le_of a b h = grind (arith, nat_tests, h)

not_le : (a b : ℕ) → nat_le a b ≡ false → b < a
not_le a b h = grind (arith, nat_tests, h)

le_false : (a b : ℕ) → b < a → nat_le a b ≡ false
le_false a b h = grind (arith, nat_tests, h)

lt_false : (a b : ℕ) → b ≤ a → nat_lt a b ≡ false
lt_false a b h = grind (arith, nat_tests, h)

-- ---- numbers, of which no more counts than a word holds

within_word : (limit : ℕ) → limit ≤ 65535 → (o : Option ℕ) → within limit (word_of o) ≡ within limit o
within_word limit small None = refl
within_word limit small (Some n) = by_test (nat_le n 65535) refl
  where
    by_test : (b : Bool) → nat_le n 65535 ≡ b → within limit (if b then Some n else None) ≡ within limit (Some n)
    by_test true e = refl
    by_test false e =
        let large = not_le n 65535 e in
        let past : limit < n = omega (arith, small, large) in
        sym (ap (λ (b : Bool). if b then n else 0) (le_false n limit past))

within_place : (limit : ℕ) → limit ≤ 65535 → (n : RawInt) → within limit (place_amount n) ≡ within limit (int_amount n)
within_place limit small (int.Number n) = refl
within_place limit small (int.Octal n) = within_word limit small (octal n.number.number)

within_same : (limit : ℕ) (alike : Bool) (a b : Option ℕ) → IsTrue (same_amount a b alike) → within limit a ≡ within limit b
within_same limit alike (Some a) (Some b) h = ap (λ (n : ℕ). within limit (Some n)) (same_nat a b h)
within_same limit alike None None h = refl
within_same limit alike (Some a) None h = no h
within_same limit alike None (Some b) h = no h

int_same : (limit : ℕ) → limit ≤ 65535 → (a b : RawInt) → IsTrue (same_int a b) → within limit (place_amount a) ≡ within limit (place_amount b)
int_same limit small a b h = within_place limit small a ∙ within_same limit (spelled_alike a b) (int_amount a) (int_amount b) h ∙ sym (within_place limit small b)

-- ---- bits after the point

fraction_word : (negative : Bool) (o : Option ℕ) → fraction_in negative (word_of o) ≡ fraction_in negative o
fraction_word negative None = refl
fraction_word true (Some n) = by_test (nat_le n 65535)
  where
    by_test : (b : Bool) → fraction_in true (if b then Some n else None) ≡ 0
    by_test true = refl
    by_test false = refl
fraction_word false (Some n) = by_test (nat_le n 65535) refl
  where
    by_test : (b : Bool) → nat_le n 65535 ≡ b → fraction_in false (if b then Some n else None) ≡ fraction_in false (Some n)
    by_test true e = refl
    by_test false e =
        let large = not_le n 65535 e in
        let past : 16 ≤ n = omega (arith, large) in
        sym (ap (λ (b : Bool). if b then n else 0) (lt_false n 16 past))

fraction_place : (negative : Bool) (n : RawInt) → fraction_in negative (place_amount n) ≡ fraction_in negative (int_amount n)
fraction_place negative (int.Number n) = refl
fraction_place negative (int.Octal n) = fraction_word negative (octal n.number.number)

less_than_none : (m n : ℕ) → IsTrue (int_le (neg_ℤ (pos m)) (pos n) && int_le (pos n) (neg_ℤ (pos m))) → n ≡ 0
less_than_none zero n h = let low = le_of n 0 (both_true (nat_le 0 n) (nat_le n 0) h).1 in omega (arith, low)
less_than_none (suc m) n h = no h

none_than_less : (m n : ℕ) → IsTrue (int_le (pos n) (neg_ℤ (pos m)) && int_le (neg_ℤ (pos m)) (pos n)) → n ≡ 0
none_than_less zero n h = let low = le_of n 0 (both_true (nat_le n 0) (nat_le 0 n) h).0 in omega (arith, low)
none_than_less (suc m) n h = no h

fraction_signed : (p q : Bool) (alike : Bool) (a b : Option ℕ) → IsTrue (same_signed (signed_if p a) (signed_if q b) alike) → fraction_in p a ≡ fraction_in q b
fraction_signed p q alike None None h = refl
fraction_signed p q alike (Some m) None h = no h
fraction_signed p q alike None (Some n) h = no h
fraction_signed true true alike (Some m) (Some n) h = refl
fraction_signed false false alike (Some m) (Some n) h =
    let halves = both_true (nat_le m n) (nat_le n m) h in
    let low = le_of m n halves.0 in
    let high = le_of n m halves.1 in
    let same : m ≡ n = omega (arith, low, high) in
    ap (λ (k : ℕ). fraction_in false (Some k)) same
fraction_signed true false alike (Some m) (Some n) h = sym (ap (λ (k : ℕ). fraction_in false (Some k)) (less_than_none m n h))
fraction_signed false true alike (Some m) (Some n) h = ap (λ (k : ℕ). fraction_in false (Some k)) (none_than_less n m h)

sint_same : (a b : RawSint) → IsTrue (same_sint a b) → fraction_of_sint a ≡ fraction_of_sint b
sint_same a b h =
    fraction_place (is_negative a.sign) a.value
    ∙ fraction_signed (is_negative a.sign) (is_negative b.sign) (same_sign a.sign b.sign && spelled_alike a.value b.value) (int_amount a.value) (int_amount b.value) h
    ∙ sym (fraction_place (is_negative b.sign) b.value)

-- ---- types

abbrev scaled : (t f : ℕ) → Scale
scaled t f = record { t = t; f = f }

word_scale : (t : RawInt) (f : RawSint) → IsTrue (is_word t f) → scaled (within 255 (place_amount t)) (fraction_of_sint f) ≡ scaled 16 0
word_scale t f h =
    let halves = both_true (same_amount (int_amount t) (Some 16) false) (same_signed (signed_if (is_negative f.sign) (int_amount f.value)) (Some (pos 0)) false) h in
    ap₂ scaled (within_place 255 (omega arith) t ∙ within_same 255 false (int_amount t) (Some 16) halves.0)
    (fraction_place (is_negative f.sign) f.value ∙ fraction_signed (is_negative f.sign) false false (int_amount f.value) (Some 0) halves.1)

pub type_scale : (t u : RawType) → IsTrue (same_type t u) → scale_of t ≡ scale_of u
type_scale (type.Integer p) (type.Integer q) h = refl
type_scale (type.Integer p) (type.Fixed q u g) h = sym (word_scale u g h)
type_scale (type.Fixed p t f) (type.Integer q) h = word_scale t f h
type_scale (type.Fixed p t f) (type.Fixed q u g) h =
    let halves = both_true (same_int t u) (same_sint f g) h in
    ap₂ scaled (int_same 255 (omega arith) t u halves.0) (sint_same f g halves.1)

answer_scale : (a b : Option RawType) → IsTrue (same_answer a b) → answer_of a ≡ answer_of b
answer_scale (Some t) (Some u) h = ap (λ (s : Scale). Some s) (type_scale t u h)
answer_scale None None h = refl
answer_scale (Some t) None h = no h
answer_scale None (Some u) h = no h

-- ---- parameters

plain_same : (x y : RawIps) → IsTrue (same_plain x y) → plain_taken x ≡ plain_taken y
plain_same (inner.Value p t) (inner.Value q u) h = ap takes.Value (type_scale t u h)
plain_same (inner.Location p t) (inner.Location q u) h = ap takes.Location (type_scale t u h)
plain_same (inner.Array t) (inner.Array u) h = ap takes.Array (type_scale t u h)
plain_same (inner.Table p s) (inner.Table q z) h = ap takes.Table (int_same 65535 (omega arith) s.first z.first h)
plain_same (inner.Label p) (inner.Label q) h = refl
plain_same (inner.Switch p) (inner.Switch q) h = refl
plain_same _ _ h = no h

more_same : (a b : Bool) {p q : SpecParam} {ps qs : List SpecParam} → (IsTrue a → p ≡ q) → (IsTrue b → ps ≡ qs) → IsTrue (a && b) → p ∷ ps ≡ q ∷ qs
more_same a b f g h = let halves = both_true a b h in ap₂ (λ (p : SpecParam) (more : List SpecParam). p ∷ more) (f halves.0) (g halves.1)

plains_same : (xs ys : List RawIps) → IsTrue (each_same_plain xs ys) → each_plain_taken xs ≡ each_plain_taken ys
plains_same [] [] h = refl
plains_same (x ∷ xs) (y ∷ ys) h = more_same (same_plain x y) (each_same_plain xs ys) (plain_same x y) (plains_same xs ys) h
plains_same _ _ h = no h

abbrev spec_with : Option Scale → List SpecParam → Spec
spec_with answer params = record { answer = answer; params = params }

param_same : (x y : RawPs) → IsTrue (same_param x y) → taken x ≡ taken y
param_same (ps.Plain x) (ps.Plain y) h = plain_same x y h
param_same (ps.Proc t p xs) (ps.Proc u q ys) h =
    let halves = both_true (same_answer t u) (each_same_plain xs ys) h in
    ap₂ (λ (a : Option Scale) (more : List SpecParam). takes.Proc (spec_with a more)) (answer_scale t u halves.0) (plains_same xs ys halves.1)
param_same (ps.Plain x) (ps.Proc u q ys) h = no h
param_same (ps.Proc t p xs) (ps.Plain y) h = no h

params_same : (xs ys : List RawPs) → IsTrue (each_same xs ys) → each_taken xs ≡ each_taken ys
params_same [] [] h = refl
params_same (x ∷ xs) (y ∷ ys) h = more_same (same_param x y) (each_same xs ys) (param_same x y) (params_same xs ys) h
params_same _ _ h = no h

-- what is specified the same
pub signature_spec : (a b : Signature) → IsTrue (same_signature a b) → spec_of a.answer a.params ≡ spec_of b.answer b.params
signature_spec a b h =
    let halves = both_true (same_answer a.answer b.answer) (each_same a.params b.params) h in
    ap₂ spec_with (answer_scale a.answer b.answer halves.0) (params_same a.params b.params halves.1)

these_same : (xs : List RawPs) (ys : List RawIps) → IsTrue (takes_these xs ys) → each_taken xs ≡ each_plain_taken ys
these_same [] [] h = refl
these_same (ps.Plain x ∷ xs) (y ∷ ys) h = more_same (same_plain x y) (takes_these xs ys) (plain_same x y) (these_same xs ys) h
these_same _ _ h = no h

-- a procedure that a parameter takes
pub passed_spec : (s : Signature) (answer : Option RawType) (params : List RawIps) → IsTrue (same_answer s.answer answer && takes_these s.params params) → spec_of s.answer s.params ≡ plain_spec answer params
passed_spec s answer params h =
    let halves = both_true (same_answer s.answer answer) (takes_these s.params params) h in
    ap₂ spec_with (answer_scale s.answer answer halves.0) (these_same s.params params halves.1)
