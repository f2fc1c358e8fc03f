-- The words of the language are letters.
use Rattle.std.proofs.Common.{◌≡◌, ℕ, Bool, true, false, cond, ◌&&◌, List, [], ◌∷◌, map, Some, refl, arith}
use Rattle.std.specs.List.{list_all}
use Rattle.std.specs.Str.{str_eq_ignore_ascii_case}
use Rattle.std.specs.Char.{is_ascii_alphabetic, is_ascii_alphanumeric, to_ascii_lowercase}
use Rattle.std.proofs.lemmas.Bool.{and_parts, and_from}
use Rattle.std.proofs.lemmas.Bool.Decides.{nat_tests}
use Rattle.std.proofs.lemmas.Slice.Eq.{bytes_eq-Decides}
use Rattle.cw_lex.specs.declared.token.Word.{Word}
use Rattle.cw_lex.specs.declared.token.TheConstants.{WORDS}
use Rattle.cw_lex.specs.Items.{look_up, word_of}

abbrev pub is_lettered : List ℕ → Bool
is_lettered [] = false
is_lettered (c ∷ w) = is_ascii_alphabetic c && list_all is_ascii_alphabetic w

same_letter : (a b : ℕ) → to_ascii_lowercase a ≡ to_ascii_lowercase b → is_ascii_alphabetic a ≡ true → is_ascii_alphabetic b ≡ true
same_letter a b e h = grind (arith, nat_tests)

same_letters : (v w : List ℕ) → map to_ascii_lowercase v ≡ map to_ascii_lowercase w → list_all is_ascii_alphabetic v ≡ true → list_all is_ascii_alphabetic w ≡ true
same_letters [] [] e h = refl
same_letters [] (y ∷ w) e h = absurd cc
same_letters (x ∷ v) [] e h = absurd cc
same_letters (x ∷ v) (y ∷ w) e h =
    let p = and_parts (is_ascii_alphabetic x) (list_all is_ascii_alphabetic v) h in
    and_from (is_ascii_alphabetic y) (list_all is_ascii_alphabetic w) (same_letter x y (cc) p.0) (same_letters v w (cc) p.1)

same_lettered : (v w : List ℕ) → map to_ascii_lowercase v ≡ map to_ascii_lowercase w → is_lettered v ≡ true → is_lettered w ≡ true
same_lettered [] w e h = absurd cc
same_lettered (x ∷ v) [] e h = absurd cc
same_lettered (x ∷ v) (y ∷ w) e h = same_letters (x ∷ v) (y ∷ w) e h

same_text : (v w : List ℕ) → str_eq_ignore_ascii_case v w ≡ true → map to_ascii_lowercase v ≡ map to_ascii_lowercase w
same_text v w e = (bytes_eq-Decides (map to_ascii_lowercase v) (map to_ascii_lowercase w)).0 e

looked_up : (table : List (List ℕ × Word)) (w : List ℕ) (k : Word) → list_all (λ e. is_lettered e.0) table ≡ true → look_up table w ≡ Some k → is_lettered w ≡ true
looked_up [] w k h e = absurd cc
looked_up (entry ∷ table) w k h e =
    let p = and_parts (is_lettered entry.0) (list_all (λ x. is_lettered x.0) table) h in
    elim (str_eq_ignore_ascii_case entry.0 w) as (λ b. str_eq_ignore_ascii_case entry.0 w ≡ b → cond b (Some entry.1) (look_up table w) ≡ Some k → is_lettered w ≡ true) [
      | true ↦ λ s f. same_lettered entry.0 w (same_text entry.0 w s) p.0
      | false ↦ λ s f. looked_up table w k p.1 f
    ] refl e

pub word_lettered : (w : List ℕ) (k : Word) → word_of w ≡ Some k → is_lettered w ≡ true
unfolding word_of
word_lettered w k e = looked_up (map (λ k. (k.0.now, k.1)) WORDS) w k refl e

letter_digit : (c : ℕ) → is_ascii_alphabetic c ≡ true → is_ascii_alphanumeric c ≡ true
letter_digit c h = grind (arith, nat_tests, h)

letters_digits : (w : List ℕ) → list_all is_ascii_alphabetic w ≡ true → list_all is_ascii_alphanumeric w ≡ true
letters_digits [] h = refl
letters_digits (c ∷ w) h =
    let p = and_parts (is_ascii_alphabetic c) (list_all is_ascii_alphabetic w) h in
    and_from (is_ascii_alphanumeric c) (list_all is_ascii_alphanumeric w) (letter_digit c p.0) (letters_digits w p.1)

pub lettered_digits : (w : List ℕ) → is_lettered w ≡ true → list_all is_ascii_alphanumeric w ≡ true
lettered_digits [] h = refl
lettered_digits (c ∷ w) h = letters_digits (c ∷ w) h
