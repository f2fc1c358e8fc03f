-- What is read is spelled so, and what is spelled so is read.
use Rattle.std.specs.Prelude.{◌≡◌, ◌<◌, ℕ, Bool, List, ◌++◌, get_or, length, Option, Some, FitsSigned}
use Rattle.std.specs.Int.{w16}
use Rattle.cw_word.specs.Name.{IsName}
use Rattle.cw_fields.specs.Fields.{Reader, IsByte, IsWord, IsLong, byte_bytes, byte_in, word_bytes, word_in, signed_bytes}
use Rattle.cw_fields.specs.Fields.{signed_in, long_bytes, long_in, text_bytes, text_in, flag_bytes, flag_in}
use Rattle.cw_fields.specs.Names.{IsNameOrEmpty, name_in, name_or_empty_in}

abbrev pub IsBytes : List ℕ → Type 0
IsBytes bytes = (i : ℕ) → get_or bytes i 0 < 256

-- What is read from bytes fits and was spelled there, and what fits is read back where it is spelled.
pub record Reads {A : Type 0} (spell : A → List ℕ) (Fits : A → Type 0) (read : Reader A) : Type 0 where
  pub takes : (bytes : List ℕ) (x : A × List ℕ) → IsBytes bytes → read bytes ≡ Some x → (bytes ≡ spell x.0 ++ x.1) × IsBytes x.1 × Fits x.0
  pub again : (x : A) (rest : List ℕ) → Fits x → read (spell x ++ rest) ≡ Some (x, rest)

-- Bytes that are read as the same value, with the same bytes behind it, are the same.
abbrev pub IsSpelledOnce : {A : Type 0} → Reader A → Type 0
IsSpelledOnce {A = A} read = (bytes others : List ℕ) (x : A × List ℕ) → IsBytes bytes → IsBytes others
    → read bytes ≡ Some x → read others ≡ Some x → bytes ≡ others

pub record HasOneSpelling {A : Type 0} (spell : A → List ℕ) (Fits : A → Type 0) (read : Reader A) : Type 0 where
  pub reads : Reads spell Fits read
  pub once : IsSpelledOnce read

pub record HaveOneSpelling : Type 0 where
  pub byte : HasOneSpelling byte_bytes IsByte byte_in
  pub word : HasOneSpelling word_bytes IsWord word_in
  pub signed : HasOneSpelling signed_bytes (FitsSigned w16) signed_in
  pub long : HasOneSpelling long_bytes IsLong long_in
  pub text : HasOneSpelling text_bytes (λ text. IsByte (length text)) text_in
  pub flag : HasOneSpelling flag_bytes (λ _. Unit {0}) flag_in
  pub name : HasOneSpelling text_bytes IsName name_in
  pub name_or_empty : HasOneSpelling text_bytes IsNameOrEmpty name_or_empty_in
