-- Symbols at the front of a text, and all that is found there.
use Rattle.std.proofs.Common.{◌≡◌, ℕ, ◌≤◌, Bool, true, false, cond, ◌||◌, ◌==◌, List, [], ◌∷◌, ◌++◌, length, Option, Some, None, refl, sym, ap, subst, ◌∙◌, inl, inr, arith}
use Rattle.std.specs.Char.{is_ascii_alphabetic, is_ascii_digit}
use Rattle.std.proofs.lemmas.Bool.{eqb-true}
use Rattle.cw_lex.specs.declared.token.Form.{Form}
use Rattle.cw_lex.specs.declared.token.Symbol.{Symbol}
use Rattle.cw_lex.specs.declared.token.TokenKind.{TokenKind}
use Rattle.cw_lex.specs.declared.token.TokenKind.TheVariants as kinds
use Rattle.cw_lex.specs.Items.{IsItem, one_mark, two_marks, symbol_of}
use Rattle.cw_lex.specs.Found.{of_symbol, or_else, symbol, found, bare_word, number, string, quoted_word}
use Rattle.cw_lex.proofs.Classes.{class, class_of, is_bare, is_quoted, word_form, name_class, number_class, text_class, body_text_class, item_class, literal_class}
use Rattle.cw_lex.proofs.Longest.{FoundOrNot, bare_is}
use Rattle.cw_lex.proofs.Front.{number_at, string_at}
use Rattle.cw_lex.proofs.Quoted.{quoted_at}

pub symbol_only : (form : Form) (v : List ℕ) (k : TokenKind) → IsItem form v k → class_of v ≡ 4 → (s : Symbol) × (symbol_of v ≡ Some s)
symbol_only form v (kinds.Word k) i h = elim (word_form v k i) [ is_bare e q ↦ absurd cc | is_quoted w e p q ↦ absurd cc ]
symbol_only form v kinds.Name i h = let q = name_class v i in absurd cc
symbol_only form v kinds.Number i h = let q = number_class v i in absurd cc
symbol_only form v kinds.Text i h = let q = text_class v i.1 in absurd cc
symbol_only form v kinds.BodyText i h = let q = body_text_class v i.1 in absurd cc
symbol_only form v kinds.Literal i h = elim (literal_class form v i) [ inl q ↦ absurd cc | inr q ↦ absurd cc ]
symbol_only form v (kinds.Symbol s) i h = (s, i)

abbrev NoPair : (c : ℕ) (bs : List ℕ) → Type 0
NoPair c bs = (d : ℕ) (w : List ℕ) → bs ≡ d ∷ w → two_marks c d ≡ None

two_at_most : (v : List ℕ) (s : Symbol) → symbol_of v ≡ Some s → length v ≤ 2
two_at_most [] s e = absurd cc
two_at_most (c ∷ []) s e = omega arith
two_at_most (c ∷ d ∷ []) s e = omega arith
two_at_most (c ∷ d ∷ x ∷ v) s e = absurd cc

one_at_most : (c : ℕ) (bs v r : List ℕ) (s : Symbol) → NoPair c bs → v ++ r ≡ c ∷ bs → symbol_of v ≡ Some s → length v ≤ 1
one_at_most c bs [] r s n h e = omega arith
one_at_most c bs (x ∷ []) r s n h e = omega arith
one_at_most c bs (x ∷ y ∷ []) r s n h e =
    let t : two_marks c y ≡ None = n y r (cc) in
    let head : x ≡ c = cc in
    let f : two_marks c y ≡ Some s = ap (λ (z : ℕ). two_marks z y) (sym head) ∙ e in
    absurd cc
one_at_most c bs (x ∷ y ∷ z ∷ v) r s n h e = absurd cc

none_at : (c : ℕ) (bs v r : List ℕ) (s : Symbol) → one_mark c ≡ None → NoPair c bs → v ++ r ≡ c ∷ bs → symbol_of v ≡ Some s → ⊥
none_at c bs [] r s o n h e = cc
none_at c bs (x ∷ []) r s o n h e =
    let head : x ≡ c = cc in
    let f : one_mark c ≡ Some s = ap one_mark (sym head) ∙ e in
    cc
none_at c bs (x ∷ y ∷ []) r s o n h e =
    let t : two_marks c y ≡ None = n y r (cc) in
    let head : x ≡ c = cc in
    let f : two_marks c y ≡ Some s = ap (λ (z : ℕ). two_marks z y) (sym head) ∙ e in
    cc
none_at c bs (x ∷ y ∷ z ∷ v) r s o n h e = cc

one_found : (form : Form) (c : ℕ) (bs : List ℕ) (o : Option Symbol) → class c ≡ 4 → NoPair c bs → one_mark c ≡ o → FoundOrNot form (c ∷ bs) (of_symbol 1 o)
one_found form c bs None a n e = λ v r k h i. (let s = symbol_only form v k i (item_class form v r c bs k h i ∙ a) in none_at c bs v r s.0 e n h s.1)
one_found form c bs (Some m) a n e = record {
  some = omega arith;
  within = omega arith;
  is_item = e;
  best = λ v r k h i. (let s = symbol_only form v k i (item_class form v r c bs k h i ∙ a) in one_at_most c bs v r s.0 n h s.1);
}

two_found : (form : Form) (c d : ℕ) (bs : List ℕ) (o : Option Symbol) → class c ≡ 4 → two_marks c d ≡ o → FoundOrNot form (c ∷ d ∷ bs) (or_else (of_symbol 2 o) (of_symbol 1 (one_mark c)))
two_found form c d bs None a e = one_found form c (d ∷ bs) (one_mark c) a (λ x w q. (let s : d ≡ x = cc in ap (two_marks c) (sym s) ∙ e)) refl
two_found form c d bs (Some m) a e = record {
  some = omega arith;
  within = omega arith;
  is_item = e;
  best = λ v r k h i. (let s = symbol_only form v k i (item_class form v r c (d ∷ bs) k h i ∙ a) in two_at_most v s.0 s.1);
}

symbol_at : (form : Form) (c : ℕ) (bs : List ℕ) → class c ≡ 4 → FoundOrNot form (c ∷ bs) (symbol c bs)
symbol_at form c [] a = one_found form c [] (one_mark c) a (λ d w q. absurd cc) refl
symbol_at form c (d ∷ bs) a = two_found form c d bs (two_marks c d) a refl

-- the class of a byte by the tests that find takes
by_class : (form : Form) (c : ℕ) (bs : List ℕ) (a d q p : Bool) → is_ascii_alphabetic c ≡ a → (is_ascii_digit c || (c == 46)) ≡ d → (c == 34) ≡ q → (c == 39) ≡ p → class c ≡ cond a 0 (cond d 1 (cond q 2 (cond p 3 4)))
    → FoundOrNot form (c ∷ bs) (cond a (Some (bare_word form (c ∷ bs))) (cond d (number (c ∷ bs)) (cond q (string form (c ∷ bs)) (cond p (quoted_word form (c ∷ bs)) (symbol c bs)))))
by_class form c bs true d q p e f g h k = bare_is form c bs k
by_class form c bs false true q p e f g h k = number_at form c bs k
by_class form c bs false false true p e f g h k = (let F : ℕ → Type 0 = λ (z : ℕ). FoundOrNot form (z ∷ bs) (string form (z ∷ bs)) in subst F (sym (eqb-true c 34 g)) (string_at form bs))
by_class form c bs false false false true e f g h k = (let F : ℕ → Type 0 = λ (z : ℕ). FoundOrNot form (z ∷ bs) (quoted_word form (z ∷ bs)) in subst F (sym (eqb-true c 39 h)) (quoted_at form bs))
by_class form c bs false false false false e f g h k = symbol_at form c bs k

-- What is found is the longest item, and where nothing is found there is none.
pub found_is : (form : Form) (c : ℕ) (bs : List ℕ) → FoundOrNot form (c ∷ bs) (found form (c ∷ bs))
found_is form c bs = by_class form c bs (is_ascii_alphabetic c) (is_ascii_digit c || (c == 46)) (c == 34) (c == 39) refl refl refl refl refl
