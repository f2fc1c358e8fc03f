-- The fields: what is read is spelled so, and what is spelled so is read.
use Rattle.std.proofs.Common.{◌≡◌, ℕ, ◌^◌, ◌<◌, Bool, true, false, cond, eqb, Fits, ◌||◌, List, [], ◌∷◌, length, Option, Some, None, refl, sym, ap, subst, ◌∙◌, arith, inl, inr, ◌⊎◌, ℤ}
use Rattle.std.specs.Prelude.{FitsSigned}
use Rattle.std.specs.Int.{w16, cast_signed, cast_unsigned, from_bool}
use Rattle.std.proofs.lemmas.Int.{of_z-to_z, to_z-of_z}
use Rattle.std.proofs.Math.Facts.{Fits-of_z, sfits_to_z}
use Rattle.std.proofs.lemmas.Bool.{eqb-true}
use Rattle.cw_word.specs.Name.{IsName}
use Rattle.cw_fields.specs.Fields.{Reader, IsByte, byte_bytes, byte_in, IsWord, word_bytes, word_in, IsLong, long_bytes, long_in, signed_in, signed_bytes, text_in, text_bytes, flag_of, flag_bytes, flag_in}
use Rattle.cw_fields.specs.Names.{is_name, is_empty, is_name_or_empty, named, named_or_empty, name_in, name_or_empty_in, IsNameOrEmpty}
use Rattle.cw_fields.specs.Spelling.{Reads, IsSpelledOnce, HasOneSpelling, HaveOneSpelling}
use Rattle.cw_fields.proofs.Formats.{some_is, reads_meaning, reads_byte, reads_number, spells_two, spells_four, reads_text}
use Rattle.cw_fields.proofs.Names.{name-Decides}

abbrev pub some : {A : Type 0} → A → Option A
some x = Some x

-- ---- numbers

pub reads_word : Reads word_bytes IsWord word_in
reads_word = reads_number 2 65536 spells_two

pub reads_long : Reads long_bytes IsLong long_in
reads_long = reads_number 4 (2 ^ 32) spells_four

signed_back : (n : ℕ) → n < 65536 → cast_unsigned w16 (cast_signed w16 n) ≡ n
signed_back n h = of_z-to_z w16 n h

signed_again : (z : ℤ) → FitsSigned w16 z → (cast_unsigned w16 z < 65536) × (cast_signed w16 (cast_unsigned w16 z) ≡ z)
signed_again z h = ((Fits-of_z h).fits, to_z-of_z w16 z h)

signed_fits : (n : ℕ) → n < 65536 → FitsSigned w16 (cast_signed w16 n)
signed_fits n h = let f : Fits w16 n = record { fits = h } in sfits_to_z f

pub reads_signed : Reads signed_bytes (FitsSigned w16) signed_in
unfolding signed_in
reads_signed =
    reads_meaning word_bytes IsWord word_in (FitsSigned w16) (λ n. Some (cast_signed w16 n)) (cast_unsigned w16) reads_word
    (λ n z h e. let same : cast_signed w16 n ≡ z = some_is _ _ e in (sym (signed_back n h) ∙ ap (cast_unsigned w16) same, subst (FitsSigned w16) same (signed_fits n h)))
    (λ z h. let b = signed_again z h in (b.0, ap some b.1))

-- ---- tests

-- what a test lets through
pub tested : {A : Type 0} (b : Bool) (x y : A) → cond b (Some x) None ≡ Some y → (b ≡ true) × (x ≡ y)
tested true x y e = (refl, some_is x y e)
tested false x y e = absurd cc

pub test_cases : (b : Bool) → (b ≡ true) ⊎ (b ≡ false)
test_cases true = inl refl
test_cases false = inr refl

abbrev pub nothing : {A : Type 0} → Option A
nothing = None

pub no_none : {A : Type 0} (x : A) → nothing {A = A} ≡ some x → ⊥
no_none x e = cc

-- the first of two that a number chooses
pub chosen : {A : Type 0} (n k : ℕ) (a : A) (more : Option A) (y : A) → cond (eqb n k) (Some a) more ≡ Some y → ((n ≡ k) × (a ≡ y)) ⊎ (more ≡ Some y)
chosen n k a more y e = elim (test_cases (eqb n k)) [ inl h ↦ inl (eqb-true n k h, some_is a y (ap (λ b. cond b (some a) more) (sym h) ∙ e)) | inr h ↦ inr (ap (λ b. cond b (some a) more) (sym h) ∙ e) ]

pub reads_name : Reads text_bytes IsName name_in
unfolding name_in
reads_name =
    reads_meaning text_bytes (λ text. length text < 256) text_in IsName named (λ x. x) reads_text
    (λ x y h e. let t = tested (is_name x) x y e in (t.1, subst IsName t.1 ((name-Decides x).0 t.0)))
    (λ y h. (omega (arith, h.short), ap (λ b. cond b (some y) None) ((name-Decides y).1 h)))

empty_or : (x : List ℕ) → (is_empty x || is_name x) ≡ true → IsNameOrEmpty x
empty_or [] e = inl refl
empty_or (b ∷ bs) e = inr ((name-Decides (b ∷ bs)).0 e)

is_empty_or : (x : List ℕ) → IsNameOrEmpty x → (is_empty x || is_name x) ≡ true
is_empty_or [] h = refl
is_empty_or (b ∷ bs) (inl e) = absurd cc
is_empty_or (b ∷ bs) (inr n) = (name-Decides (b ∷ bs)).1 n

empty_short : (x : List ℕ) → IsNameOrEmpty x → length x < 256
empty_short x (inl e) = omega (arith, ap length e)
empty_short x (inr n) = omega (arith, n.short)

pub reads_name_or_empty : Reads text_bytes IsNameOrEmpty name_or_empty_in
unfolding name_or_empty_in
reads_name_or_empty =
    reads_meaning text_bytes (λ text. length text < 256) text_in IsNameOrEmpty named_or_empty (λ x. x) reads_text
    (λ x y h e. let t = tested (is_empty x || is_name x) x y e in (t.1, subst IsNameOrEmpty t.1 (empty_or x t.0)))
    (λ y h. (empty_short y h, ap (λ b. cond b (some y) None) (is_empty_or y h)))

flag_onto : (x : ℕ) (y : Bool) → flag_of x ≡ Some y → x ≡ from_bool y
flag_onto x y e = elim (chosen x 0 false (cond (eqb x 1) (some true) None) y e) [
  | inl h ↦ h.0 ∙ ap from_bool h.1
  | inr more ↦ elim (chosen x 1 true None y more) [ inl h ↦ h.0 ∙ ap from_bool h.1 | inr other ↦ absurd (no_none y other) ]
]

flag_back : (y : Bool) → (from_bool y < 256) × (flag_of (from_bool y) ≡ Some y)
flag_back true = (omega arith, refl)
flag_back false = (omega arith, refl)

pub reads_flag : Reads flag_bytes (λ (b : Bool). Unit {0}) flag_in
unfolding flag_in
reads_flag = reads_meaning byte_bytes IsByte byte_in (λ (b : Bool). Unit {0}) flag_of from_bool reads_byte (λ x y h e. (flag_onto x y e, tt)) (λ y h. flag_back y)

-- ---- one spelling

once : {A : Type 0} (spell : A → List ℕ) (F : A → Type 0) (read : Reader A) → Reads spell F read → IsSpelledOnce read
once spell F read l bytes others x fits same e g = (l.takes bytes x fits e).0 ∙ sym (l.takes others x same g).0

one_spelling : {A : Type 0} (spell : A → List ℕ) (F : A → Type 0) (read : Reader A) → Reads spell F read → HasOneSpelling spell F read
one_spelling spell F read l = record { reads = l; once = once spell F read l }

pub fields_once : HaveOneSpelling
fields_once = record {
  byte = one_spelling byte_bytes IsByte byte_in reads_byte;
  word = one_spelling word_bytes IsWord word_in reads_word;
  signed = one_spelling signed_bytes (FitsSigned w16) signed_in reads_signed;
  long = one_spelling long_bytes IsLong long_in reads_long;
  text = one_spelling text_bytes (λ text. IsByte (length text)) text_in reads_text;
  flag = one_spelling flag_bytes (λ _. Unit {0}) flag_in reads_flag;
  name = one_spelling text_bytes IsName name_in reads_name;
  name_or_empty = one_spelling text_bytes IsNameOrEmpty name_or_empty_in reads_name_or_empty;
}
