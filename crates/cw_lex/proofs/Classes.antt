-- With which bytes the items of each kind begin.
use Rattle.std.proofs.Common.{◌≡◌, ℕ, ◌≤◌, Bool, true, false, cond, ◌&&◌, ◌||◌, ◌==◌, List, [], ◌∷◌, ◌++◌, Option, Some, refl, sym, ap, ◌∙◌, ◌⊎◌, inl, inr, arith}
use Rattle.std.specs.List.{list_all}
use Rattle.std.specs.Char.{is_ascii_alphabetic, is_ascii_digit}
use Rattle.std.proofs.lemmas.Bool.{and_parts, eqb-true}
use Rattle.std.proofs.lemmas.Bool.Decides.{nat_tests}
use Rattle.cw_lex.specs.declared.token.Symbol.{Symbol}
use Rattle.cw_lex.specs.declared.token.Form.{Form}
use Rattle.cw_lex.specs.declared.token.Word.{Word}
use Rattle.cw_lex.specs.declared.token.Word.TheVariants as words
use Rattle.cw_lex.specs.declared.token.TokenKind.{TokenKind}
use Rattle.cw_lex.specs.declared.token.TokenKind.TheVariants as kinds
use Rattle.cw_lex.specs.Items.{IsWord, bare, quoted, IsIdentifier, letter_first, AreDigits, IsNumber, whole, pointed, IsText, between_quotes, IsBodyText, between_pairs, IsLiteral, of_character, IsItem, symbol_of, one_mark, two_marks, word_of}
use Rattle.cw_lex.proofs.Letters.{is_lettered, word_lettered}

-- 0 a letter, 1 a digit or a point, 2 a quote, 3 an apostrophe, 4 another
abbrev pub class : ℕ → ℕ
class c = cond (is_ascii_alphabetic c) 0 (cond (is_ascii_digit c || (c == 46)) 1 (cond (c == 34) 2 (cond (c == 39) 3 4)))

abbrev pub class_of : List ℕ → ℕ
class_of [] = 5
class_of (c ∷ w) = class c

pub class_letter : (c : ℕ) → class c ≡ 0 → is_ascii_alphabetic c ≡ true
class_letter c h = pick (is_ascii_alphabetic c) (is_ascii_digit c || (c == 46)) (c == 34) (c == 39) h
  where
    pick : (a d q p : Bool) → ◌≡◌ {A = ℕ} (cond a 0 (cond d 1 (cond q 2 (cond p 3 4)))) 0 → a ≡ true
    pick true d q p e = refl
    pick false true q p e = absurd cc
    pick false false true p e = absurd cc
    pick false false false true e = absurd cc
    pick false false false false e = absurd cc

letter_class : (c : ℕ) → is_ascii_alphabetic c ≡ true → class c ≡ 0
letter_class c h = pick (is_ascii_alphabetic c) (cond (is_ascii_digit c || (c == 46)) 1 (cond (c == 34) 2 (cond (c == 39) 3 4))) h
  where
    pick : (a : Bool) (x : ℕ) → a ≡ true → cond a 0 x ≡ 0
    pick true x e = refl
    pick false x e = absurd cc

digit_no_letter : (c : ℕ) → is_ascii_digit c ≡ true → is_ascii_alphabetic c ≡ false
digit_no_letter c h = grind (arith, nat_tests, h)

digit_class : (c : ℕ) → is_ascii_digit c ≡ true → class c ≡ 1
digit_class c h = pick (is_ascii_alphabetic c) (is_ascii_digit c) (c == 46) (cond (c == 34) 2 (cond (c == 39) 3 4)) (digit_no_letter c h) h
  where
    pick : (a d p : Bool) (x : ℕ) → a ≡ false → d ≡ true → cond a 0 (cond (d || p) 1 x) ≡ 1
    pick false true p x e h = refl
    pick true d p x e h = absurd cc
    pick false false p x e h = absurd cc

pub lettered_class : (w : List ℕ) → is_lettered w ≡ true → class_of w ≡ 0
lettered_class [] h = absurd cc
lettered_class (c ∷ w) h = letter_class c (and_parts (is_ascii_alphabetic c) (list_all is_ascii_alphabetic w) h).0

pub name_class : (v : List ℕ) → IsIdentifier v → class_of v ≡ 0
name_class _ (letter_first {c = c} e a n) = letter_class c e

digits_class : (w : List ℕ) → AreDigits w → class_of w ≡ 1
digits_class [] d = absurd (omega (arith, d.some))
digits_class (c ∷ w) d = digit_class c (and_parts (is_ascii_digit c) (list_all is_ascii_digit w) d.digits).0

pointed_class : (w f : List ℕ) → list_all is_ascii_digit w ≡ true → class_of (w ++ 46 ∷ f) ≡ 1
pointed_class [] f e = refl
pointed_class (c ∷ w) f e = digit_class c (and_parts (is_ascii_digit c) (list_all is_ascii_digit w) e).0

pub number_class : (v : List ℕ) → IsNumber v → class_of v ≡ 1
number_class v (whole _ d) = digits_class v d
number_class _ (pointed w f e d) = pointed_class w f e

pub text_class : (v : List ℕ) → IsText v → class_of v ≡ 2
text_class _ (between_quotes w q) = refl

pub body_text_class : (v : List ℕ) → IsBodyText v → class_of v ≡ 2
body_text_class _ (between_pairs w q) = refl

-- a mark is of class 4
one_step : (c n : ℕ) (s : Symbol) (x y : Option Symbol) → class n ≡ 4 → (y ≡ Some s → class c ≡ 4) → cond (c == n) x y ≡ Some s → class c ≡ 4
one_step c n s x y k f e =
    elim (c == n) as (λ t. (c == n) ≡ t → cond t x y ≡ Some s → class c ≡ 4) [
      | true ↦ λ q h. ap class (eqb-true c n q) ∙ k
      | false ↦ λ q h. f h
    ] refl e

two_step : (c d n m : ℕ) (s : Symbol) (x y : Option Symbol) → class n ≡ 4 → (y ≡ Some s → class c ≡ 4) → cond ((c == n) && (d == m)) x y ≡ Some s → class c ≡ 4
two_step c d n m s x y k f e =
    elim ((c == n) && (d == m)) as (λ t. ((c == n) && (d == m)) ≡ t → cond t x y ≡ Some s → class c ≡ 4) [
      | true ↦ λ q h. ap class (eqb-true c n (and_parts (c == n) (d == m) q).0) ∙ k
      | false ↦ λ q h. f h
    ] refl e

one_class : (c : ℕ) (s : Symbol) → one_mark c ≡ Some s → class c ≡ 4
one_class c s = (one_step c 59 s _ _ refl (one_step c 58 s _ _ refl (one_step c 44 s _ _ refl (one_step c 40 s _ _ refl (one_step c 41 s _ _ refl (one_step c 91 s _ _ refl (one_step c 93 s _ _ refl (one_step c 43 s _ _ refl (one_step c 45 s _ _ refl (one_step c 42 s _ _ refl (one_step c 47 s _ _ refl (one_step c 60 s _ _ refl (one_step c 61 s _ _ refl (one_step c 62 s _ _ refl (λ x. absurd cc)))))))))))))))

two_class : (c d : ℕ) (s : Symbol) → two_marks c d ≡ Some s → class c ≡ 4
two_class c d s = (two_step c d 58 61 s _ _ refl (two_step c d 60 45 s _ _ refl (two_step c d 60 61 s _ _ refl (two_step c d 62 61 s _ _ refl (two_step c d 60 62 s _ _ refl (λ x. absurd cc))))))

pub symbol_class : (v : List ℕ) (s : Symbol) → symbol_of v ≡ Some s → class_of v ≡ 4
symbol_class [] s e = absurd cc
symbol_class (c ∷ []) s e = one_class c s e
symbol_class (c ∷ d ∷ []) s e = two_class c d s e
symbol_class (c ∷ d ∷ x ∷ w) s e = absurd cc

-- a word is bare, or between apostrophes
pub data WordForm (v : List ℕ) (k : Word) : Type 0 where
  is_bare : word_of v ≡ Some k → class_of v ≡ 0 → WordForm v k
  is_quoted : (w : List ℕ) → word_of w ≡ Some k → v ≡ 39 ∷ w ++ 39 ∷ [] → class_of v ≡ 3 → WordForm v k

pub word_form : (v : List ℕ) (k : Word) → IsWord v k → WordForm v k
word_form v k (bare _ e) = is_bare e (lettered_class v (word_lettered v k e))
word_form _ k (quoted w e) = is_quoted w e refl refl

pub class_append : (v u : List ℕ) (m : ℕ) → class_of v ≡ m → m ≤ 4 → class_of (v ++ u) ≡ m
class_append [] u m e h = absurd (omega (arith, e, h))
class_append (c ∷ v) u m e h = e

-- the class of an item is that of the text there
pub class_front : (v r : List ℕ) (c : ℕ) (bs : List ℕ) (m : ℕ) → v ++ r ≡ c ∷ bs → class_of v ≡ m → m ≤ 4 → class c ≡ m
class_front v r c bs m h e l = sym (ap class_of h) ∙ class_append v r m e l

pub literal_class : (form : Form) (v : List ℕ) → IsLiteral form v → (class_of v ≡ 0) ⊎ (class_of v ≡ 3)
literal_class form _ (of_character w gap b p t s l) = elim (word_form w words.Literal p) [
  | is_bare e h ↦ inl (class_append w (gap ++ 40 ∷ b ∷ 41 ∷ []) 0 h (omega arith))
  | is_quoted u e q h ↦ inr (class_append w (gap ++ 40 ∷ b ∷ 41 ∷ []) 3 h (omega arith))
]

small : (v r : List ℕ) (c : ℕ) (bs : List ℕ) (m : ℕ) → v ++ r ≡ c ∷ bs → class_of v ≡ m → m ≤ 4 → class_of v ≡ class c
small v r c bs m h e l = e ∙ sym (class_front v r c bs m h e l)

-- an item is of the class of the text there
pub item_class : (form : Form) (v r : List ℕ) (c : ℕ) (bs : List ℕ) (k : TokenKind) → v ++ r ≡ c ∷ bs → IsItem form v k → class_of v ≡ class c
item_class form v r c bs (kinds.Word k) h i = elim (word_form v k i) [
  | is_bare e q ↦ small v r c bs 0 h q (omega arith)
  | is_quoted w e p q ↦ small v r c bs 3 h q (omega arith)
]
item_class form v r c bs kinds.Name h i = small v r c bs 0 h (name_class v i) (omega arith)
item_class form v r c bs kinds.Number h i = small v r c bs 1 h (number_class v i) (omega arith)
item_class form v r c bs kinds.Text h i = small v r c bs 2 h (text_class v i.1) (omega arith)
item_class form v r c bs kinds.BodyText h i = small v r c bs 2 h (body_text_class v i.1) (omega arith)
item_class form v r c bs kinds.Literal h i = elim (literal_class form v i) [
  | inl q ↦ small v r c bs 0 h q (omega arith)
  | inr q ↦ small v r c bs 3 h q (omega arith)
]
item_class form v r c bs (kinds.Symbol s) h i = small v r c bs 4 h (symbol_class v s i) (omega arith)
