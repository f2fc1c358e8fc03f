-- The words of the language at the front of a text, and the literals.
use Rattle.std.proofs.Common.{◌≡◌, ℕ, ◌+◌, ◌≤◌, Bool, true, false, cond, ◌==◌, List, [], ◌∷◌, ◌++◌, length, take, drop, Option, Some, None, refl, sym, ap, subst, ◌∙◌, arith, append_assoc}
use Rattle.std.proofs.lemmas.Bool.{eqb-true}
use Rattle.std.proofs.lemmas.List.{take-append-drop, length-append}
use Rattle.std.proofs.Math.Seq.{take-append_seam, drop-append_seam}
use Rattle.cw_lex.specs.declared.token.Form.{Form}
use Rattle.cw_lex.specs.declared.token.Word.{Word}
use Rattle.cw_lex.specs.declared.token.Word.TheVariants as words
use Rattle.cw_lex.specs.declared.token.TokenKind.{TokenKind}
use Rattle.cw_lex.specs.declared.token.TokenKind.TheVariants as kinds
use Rattle.cw_lex.specs.Items.{is_literal_byte, IsWord, EndsWord, AreSeparators, IsLiteral, of_character, IsItem}
use Rattle.cw_lex.specs.Found.{gap_size, bracketed, literal_end, literal_or_word, worded}
use Rattle.cw_lex.proofs.Lists.{length_front, cut}
use Rattle.cw_lex.proofs.Gaps.{ends_front, gap_within, gap_of, gap_is}

pub literal_end_of : (form : Form) (gap : List ℕ) (b : ℕ) (r : List ℕ) → AreSeparators gap → is_literal_byte form b ≡ true → literal_end form (gap ++ 40 ∷ b ∷ 41 ∷ r) ≡ Some (length gap + 3)
literal_end_of form gap b r e l =
    let stop : gap_size 0 (gap ++ 40 ∷ b ∷ 41 ∷ r) ≡ length gap = gap_of (b ∷ 41 ∷ r) e in
    let behind : drop (length gap) (gap ++ 40 ∷ b ∷ 41 ∷ r) ≡ 40 ∷ b ∷ 41 ∷ r = drop-append_seam gap (40 ∷ b ∷ 41 ∷ r) in
    let part : bracketed form (length gap) (40 ∷ b ∷ 41 ∷ r) ≡ Some (length gap + 3) = ap (λ (t : Bool). cond t (Some (length gap + 3)) None) l in
    rw (stop, behind) part

-- a character in brackets
data IsBracketedByte (form : Form) (n : ℕ) (xs : List ℕ) (m : ℕ) : Type 0 where
  bracketed_byte : (b : ℕ) (r : List ℕ) → xs ≡ 40 ∷ b ∷ 41 ∷ r → is_literal_byte form b ≡ true → m ≡ n + 3 → IsBracketedByte form n xs m

bracketed_is : (form : Form) (n : ℕ) (xs : List ℕ) (m : ℕ) → bracketed form n xs ≡ Some m → IsBracketedByte form n xs m
bracketed_is form n [] m e = absurd cc
bracketed_is form n (c ∷ []) m e = absurd cc
bracketed_is form n (c ∷ b ∷ []) m e = absurd cc
bracketed_is form n (c ∷ b ∷ d ∷ bs) m e =
    elim (c == 40) as (λ t. (c == 40) ≡ t → cond t (cond (d == 41) (cond (is_literal_byte form b) (Some (n + 3)) None) None) None ≡ Some m → IsBracketedByte form n (c ∷ b ∷ d ∷ bs) m) [
      | false ↦ λ p h. absurd cc
      | true ↦ λ p.
          elim (d == 41) as (λ t. (d == 41) ≡ t → cond t (cond (is_literal_byte form b) (Some (n + 3)) None) None ≡ Some m → IsBracketedByte form n (c ∷ b ∷ d ∷ bs) m) [
            | false ↦ λ q h. absurd cc
            | true ↦ λ q.
                elim (is_literal_byte form b) as (λ t. is_literal_byte form b ≡ t → cond t (Some (n + 3)) None ≡ Some m → IsBracketedByte form n (c ∷ b ∷ d ∷ bs) m) [
                  | false ↦ λ l h. absurd cc
                  | true ↦ λ l h.
                      let first : c ≡ 40 = eqb-true c 40 p in
                      let last : d ≡ 41 = eqb-true d 41 q in
                      bracketed_byte b bs (rw (first, last) refl) l (cc)
                ] refl
          ] refl
    ] refl e

pub record IsLiteralEnd (form : Form) (bs : List ℕ) (m : ℕ) : Type 0 where
  pub gap : List ℕ
  pub byte : ℕ
  pub rest : List ℕ
  pub parts : bs ≡ gap ++ 40 ∷ byte ∷ 41 ∷ rest
  pub separators : AreSeparators gap
  pub is_byte : is_literal_byte form byte ≡ true
  pub size : m ≡ length gap + 3

pub literal_end_is : (form : Form) (bs : List ℕ) (m : ℕ) → literal_end form bs ≡ Some m → IsLiteralEnd form bs m
literal_end_is form bs m e = elim (bracketed_is form (gap_size 0 bs) (drop (gap_size 0 bs) bs) m e) [
  | bracketed_byte b r h l q ↦
      let n = gap_size 0 bs in
      let size : length (take n bs) ≡ n = length_front n bs (gap_within 0 bs) in
      record {
        gap = take n bs;
        byte = b;
        rest = r;
        parts = sym (take-append-drop n bs) ∙ ap (λ (z : List ℕ). take n bs ++ z) h;
        separators = gap_is bs 0 (omega arith);
        is_byte = l;
        size = omega (arith, q, size);
      }
]

-- The longest item that begins with a word w of the language.
pub record IsWordedAt (form : Form) (w rest : List ℕ) (k : Word) (x : TokenKind × ℕ) : Type 0 where
  pub more : length w ≤ x.1
  pub within : x.1 ≤ length (w ++ rest)
  pub is_item : IsItem form (take x.1 (w ++ rest)) x.0
  pub literal : (gap : List ℕ) (b : ℕ) (r : List ℕ) → k ≡ words.Literal → rest ≡ gap ++ 40 ∷ b ∷ 41 ∷ r → AreSeparators gap → is_literal_byte form b ≡ true → length w + (length gap + 3) ≤ x.1

word_only : (form : Form) (w rest : List ℕ) (k : Word) → IsWord w k → ((gap : List ℕ) (b : ℕ) (r : List ℕ) → k ≡ words.Literal → rest ≡ gap ++ 40 ∷ b ∷ 41 ∷ r → AreSeparators gap → is_literal_byte form b ≡ true → ⊥) → IsWordedAt form w rest k (kinds.Word k, length w)
word_only form w rest k p n = record {
  more = omega arith;
  within = omega (arith, length-append w rest);
  is_item = subst (λ (z : List ℕ). IsWord z k) (sym (take-append_seam w rest)) p;
  literal = λ gap b r e h s l. absurd (n gap b r e h s l);
}

literal_or_word_is : (form : Form) (w rest : List ℕ) (o : Option ℕ) → IsWord w words.Literal → EndsWord w rest → literal_end form rest ≡ o → IsWordedAt form w rest words.Literal (literal_or_word (length w) o)
literal_or_word_is form w rest None p t e = word_only form w rest words.Literal p (λ gap b r k h s l. (let f : literal_end form rest ≡ Some (length gap + 3) = ap (literal_end form) h ∙ literal_end_of form gap b r s l in cc))
literal_or_word_is form w rest (Some m) p t e =
    let q = literal_end_is form rest m e in
    let item = w ++ (q.gap ++ 40 ∷ q.byte ∷ 41 ∷ []) in
    let parts : w ++ rest ≡ item ++ q.rest = ap (λ (z : List ℕ). w ++ z) (q.parts ∙ sym (append_assoc q.gap (40 ∷ q.byte ∷ 41 ∷ []) q.rest)) ∙ sym (append_assoc w (q.gap ++ 40 ∷ q.byte ∷ 41 ∷ []) q.rest) in
    let size : length item ≡ length w + m = omega (arith, q.size, length-append w (q.gap ++ 40 ∷ q.byte ∷ 41 ∷ []), length-append q.gap (40 ∷ q.byte ∷ 41 ∷ [])) in
    record {
      more = omega arith;
      within = omega (arith, size, ap length parts, length-append item q.rest);
      is_item = subst (IsLiteral form) (sym (cut item q.rest (w ++ rest) (length w + m) parts size).0) (of_character w q.gap q.byte p (ends_front w q.gap (40 ∷ q.byte ∷ 41 ∷ q.rest) (subst (EndsWord w) q.parts t)) q.separators q.is_byte);
      literal = λ gap b r k h s l. (let f : literal_end form rest ≡ Some (length gap + 3) = ap (literal_end form) h ∙ literal_end_of form gap b r s l in let g : m ≡ length gap + 3 = cc in omega (arith, g));
    }

pub worded_at : (form : Form) (w rest : List ℕ) (k : Word) → IsWord w k → EndsWord w rest → IsWordedAt form w rest k (worded form k (length w) (w ++ rest))
worded_at form w rest words.Literal p t =
    let o = literal_or_word_is form w rest (literal_end form rest) p t refl in
    rw (drop-append_seam w rest) o
worded_at form w rest k p t = word_only form w rest k p (λ gap b r e h s l. absurd cc)
