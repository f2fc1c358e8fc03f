-- The command is one that `clap` explains in full.
use Rattle.std.proofs.Common.{◌≡◌, ℕ, ◌<◌, ◌≤◌, ◌^◌, refl, Bool, true, false, subst, List, [], ◌∷◌, inl, inr, Option, None, Some, arith}
use Rattle.std.specs.Str.Parse.{IsNumeral, digits_value, without_leading_plus}
use Rattle.clap.specs.Walk.{Row, Text}
use Rattle.std.specs.Prelude.{◌==◌, length}
use Rattle.clap.specs.ValueTests.{is_unsigned_in}
use Rattle.clap.specs.Values.{IsUnsignedIn}
use Rattle.clap.specs.declared.builder.value_parser.ValueParser.TheVariants as vp
use Rattle.clap.proofs.ValueTestLemmas.{accepts-Accepts, Accepts-accepts}
use Rattle.std.proofs.lemmas.Bool.{ne_eqb}
use Rattle.cw_words.specs.Parts.{number_in, parts_in, parts_of}
use Rattle.clap.specs.Simple.{is_simple}
use Rattle.clap.specs.Faults.{is_simple_and_free}
use Rattle.clap.specs.Kinds.{Kinds, IsAmong, HasKind}
use Rattle.clap.specs.Values.{kind_of}
use Rattle.clap.specs.declared.error.Error.{Error}
use Rattle.clap.specs.declared.error.kind.ErrorKind.TheVariants.{OutOfMemory}
use Rattle.cw_words.specs.Command.{command_app, faults_of, rows_in}

pub simple : is_simple command_app ≡ true
unfolding command_app
simple = refl

pub simple_and_free : is_simple_and_free command_app ≡ true
unfolding command_app
simple_and_free = refl

-- an error of another kind than want of memory has a fault
pub has_fault : (e : Error) (kinds : Kinds) → (kind_of e ≡ OutOfMemory → ⊥) → HasKind kinds e → kinds ≡ [] → ⊥
has_fault e kinds other (inl memory) none = other memory
has_fault e kinds other (inr among) none = let found : IsAmong (kind_of e) [] = subst (λ ks. IsAmong (kind_of e) ks) none among in found

is_test : {P : Type 0} → (b : Bool) → (b ≡ true → P) → (P → ⊥) → b ≡ false
is_test true holds fails = absurd (fails (holds refl))
is_test false holds fails = refl

pub number_some : (low high n : ℕ) (text : Text) → IsNumeral 10 (without_leading_plus text) → digits_value 10 (without_leading_plus text) < 2 ^ 64
    → n ≡ digits_value 10 (without_leading_plus text) → low ≤ n → n ≤ high → Some n ≡ number_in low high text
unfolding number_in
number_some low high n text numeral fits is above below =
    let test : is_unsigned_in low high text ≡ true = Accepts-accepts false (vp.Unsigned low high) text (numeral, fits, rw (← is) above, rw (← is) below) in
    rw (test, is) refl

pub number_none : (low high : ℕ) (text : Text) → (IsUnsignedIn low high text → ⊥) → ◌≡◌ {A = Option ℕ} None (number_in low high text)
unfolding number_in
number_none low high text fails =
    let test : is_unsigned_in low high text ≡ false = is_test (is_unsigned_in low high text) (accepts-Accepts false (vp.Unsigned low high) text) fails in
    rw test refl

pub parts_taken : (words : List Text) (rows : List Row) → faults_of words ≡ [] → rows ≡ rows_in words → parts_of words ≡ parts_in rows
unfolding parts_of
parts_taken words rows none are = rw (none, are) refl

not_empty : (kinds : Kinds) → (kinds ≡ [] → ⊥) → (length kinds == 0) ≡ false
not_empty [] some = absurd (some refl)
not_empty (kind ∷ kinds) some = ne_eqb _ _ (λ e. let bad : length (kind ∷ kinds) ≡ 0 = e in omega arith)

pub parts_refused : (words : List Text) → (faults_of words ≡ [] → ⊥) → parts_of words ≡ None
unfolding parts_of
parts_refused words some = rw (not_empty (faults_of words) some) refl
