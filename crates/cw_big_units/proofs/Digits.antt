-- The digits of the numbers up to 100.
use Rattle.std.proofs.Common.{◌≡◌, ℕ, zero, suc, ◌<◌, ◌≤◌, Bool, true, false, ◌&&◌, nat_lt, nat_le, List, ◌∷◌, length, Option, Some, None, refl, subst, decimal, arith}
use Rattle.std.specs.Prelude.{is_none}
use Rattle.std.specs.Fmt.{digits}
use Rattle.std.specs.List.{list_all}
use Rattle.std.specs.Char.{is_ascii_digit}
use Rattle.std.proofs.lemmas.Bool.{and_parts, ltb-true, ltb-false}
use Rattle.cw_lex.specs.declared.token.Word.{Word}
use Rattle.cw_lex.specs.Items.{word_of}

-- a test of each number from 1
abbrev pub each : (ℕ → Bool) → ℕ → Bool
each p zero = true
each p (suc n) = p (suc n) && each p n

pub each_at : (p : ℕ → Bool) (n i : ℕ) → each p n ≡ true → 1 ≤ i → i ≤ n → p i ≡ true
each_at p zero i e l h = absurd (omega arith)
each_at p (suc n) i e l h =
    let q = and_parts (p (suc n)) (each p n) e in
    elim (nat_lt i (suc n)) as (λ b. nat_lt i (suc n) ≡ b → p i ≡ true) [
      | true ↦ λ z. each_at p n i q.1 l (omega (arith, ltb-true i (suc n) z))
      | false ↦ λ z. (let same : suc n ≡ i = omega (arith, ltb-false i (suc n) z) in subst (λ (k : ℕ). p k ≡ true) same q.0)
    ] refl

-- one to twelve digits, which make no word behind a B
abbrev is_numeral : List ℕ → Bool
is_numeral w = list_all is_ascii_digit w && (nat_lt 0 (length w) && (nat_le (length w) 12 && is_none (word_of (66 ∷ w))))

pub record IsNumeral (w : List ℕ) : Type 0 where
  pub all_digits : list_all is_ascii_digit w ≡ true
  pub some : 0 < length w
  pub few : nat_le (length w) 12 ≡ true
  pub no_word : word_of (66 ∷ w) ≡ None

none_is : (o : Option Word) → is_none o ≡ true → o ≡ None
none_is None e = refl
none_is (Some k) e = absurd cc

each_numeral : each (λ n. is_numeral (decimal n)) 100 ≡ true
unfolding digits word_of
each_numeral = refl

pub numeral : (i : ℕ) → 1 ≤ i → i ≤ 100 → IsNumeral (decimal i)
numeral i l h =
    let w = decimal i in
    let a = and_parts (list_all is_ascii_digit w) (nat_lt 0 (length w) && (nat_le (length w) 12 && is_none (word_of (66 ∷ w)))) (each_at (λ n. is_numeral (decimal n)) 100 i each_numeral l h) in
    let b = and_parts (nat_lt 0 (length w)) (nat_le (length w) 12 && is_none (word_of (66 ∷ w))) a.1 in
    let c = and_parts (nat_le (length w) 12) (is_none (word_of (66 ∷ w))) b.1 in
    record { all_digits = a.0; some = ltb-true 0 (length w) b.0; few = c.0; no_word = none_is (word_of (66 ∷ w)) c.1 }
