-- The texts of the large program, as those of files that hold them.
use Rattle.std.proofs.Common.{◌≡◌, ℕ, zero, suc, ◌+◌, ◌≤◌, ◌==◌, Bool, List, [], ◌∷◌, ◌++◌, length, length-append, map, slice_get, Some, refl, subst, arith}
use Rattle.cw_io.specs.File.{Told}
use Rattle.cw_unit.specs.declared.unit.Unit.{Unit as SourceUnit}
use Rattle.cw_compile.specs.Texts.{text_limit, IsUnitOf}
use Rattle.cw_compile.specs.Outcomes.{HasNotBoth}
use Rattle.cw_big.specs.LargeProgram.{large_text, first_texts}
use Rattle.cw_files.specs.Texts.{HasUnit}
use Rattle.cw_files.specs.Reading.{HaveBytes, HaveValues, IsRefusedAt, counts_at, StopsTexts}
use Rattle.cw_say.specs.declared.status.Status.{Status}
use Rattle.cw_say.specs.declared.status.Status.TheVariants.{Refused, NoFile, Outside, NoMemory, TooLong}
use Rattle.cw_say.specs.declared.status.Which.TheVariants.{Store}
use Rattle.cw_say.specs.declared.status.Long.TheVariants.{File}

abbrev pub Short : Type 0
Short = (number : ℕ) (is_last : Bool) → number ≤ 100 → length (large_text number is_last) ≤ 1000

-- each text in a file of its own
abbrev pub told : List (List ℕ) → List Told
told texts = map (λ text. Some (Some text)) texts

abbrev AreShort : List (List ℕ) → Type 0
AreShort [] = Unit {0}
AreShort (t ∷ ts) = (length t ≤ text_limit) × AreShort ts

short-behind : (ts : List (List ℕ)) (t : List ℕ) → AreShort ts → length t ≤ text_limit → AreShort (ts ++ t ∷ [])
short-behind [] t h k = (k, tt)
short-behind (x ∷ ts) t h k = (h.0, short-behind ts t h.1 k)

are-short : Short → (copies n : ℕ) → n ≤ 100 → AreShort (first_texts copies n)
are-short short copies zero le = tt
are-short short copies (suc n) le =
    short-behind (first_texts copies n) (large_text (suc n) (suc n == copies)) (are-short short copies n (omega (arith, le))) (omega (arith, short (suc n) (suc n == copies) le))

have-bytes : (ts : List (List ℕ)) → AreShort ts → HaveBytes text_limit (told ts) ts
have-bytes [] h = tt
have-bytes (t ∷ ts) h = (refl, h.0, have-bytes ts h.1)

pub bytes : Short → (copies n : ℕ) → n ≤ 100 → HaveBytes text_limit (told (first_texts copies n)) (first_texts copies n)
bytes short copies n le = have-bytes (first_texts copies n) (are-short short copies n le)

pub count : (copies n : ℕ) → length (first_texts copies n) ≡ n
count copies zero = refl
count copies (suc n) = omega (arith, count copies n, length-append (first_texts copies n) (large_text (suc n) (suc n == copies) ∷ []))

-- one more text and its unit
pub have-more : (ts : List (List ℕ)) (us : List SourceUnit) (t : List ℕ) (u : SourceUnit) → length us ≡ length ts → HaveValues HasUnit ts us → HasUnit t u → HaveValues HasUnit (ts ++ t ∷ []) (us ++ u ∷ [])
have-more [] [] t u same h k = (k, tt)
have-more [] (v ∷ us) t u same h k = absurd h
have-more (x ∷ ts) [] t u same h k = absurd (omega (arith, same))
have-more (x ∷ ts) (v ∷ us) t u same h k = (h.0, have-more ts us t u (omega (arith, same)) h.1 k)

-- a text that has a unit is refused by no fault, and no file of it is read
pub compiled : HasNotBoth → (text : List ℕ) (u : SourceUnit) → IsUnitOf text u → (status : Status) → StopsTexts [] (text ∷ []) 0 (counts_at 0 0) (counts_at 0 0) status → status ≡ NoMemory
compiled both text u has NoMemory h = refl
compiled both text u has (Refused number fault) h = absurd (both text u fault has (subst (λ n. IsRefusedAt (slice_get (text ∷ []) n) fault) h.0 h.1))
compiled both text u has (NoFile number) h = absurd (omega (arith, h.2))
compiled both text u has (Outside Store) h = absurd (omega (arith, h))
compiled both text u has (TooLong (File number)) h = absurd h.1
compiled both text u has _ h = absurd h
