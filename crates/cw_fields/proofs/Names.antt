-- The test of a name says whether it is one.
use Rattle.std.proofs.Common.{rules, ◌≡◌, ◌≤◌, ℕ, Bool, true, false, cond, ◌||◌, ◌⊎◌, List, [], ◌∷◌, length, All, Option, Some, None, Decides, leb, refl, ap}
use Rattle.std.proofs.lemmas.Bool.Decides.{Decides-and, Decides-or, Decides-like, Decides-by_and}
use Rattle.std.specs.Option.{SomeIff}
use Rattle.std.specs.List.{list_all}
use Rattle.cw_word.specs.Name.{IsName, IsLetter, IsDigit, StartsWithLetter}
use Rattle.cw_fields.specs.Names.{is_name, is_letter, is_digit, starts_with_letter, named}

Decides-leb : (a b : ℕ) → Decides (leb a b) (a ≤ b)
Decides-leb a b = search rules

letter : (b : ℕ) → Decides (is_letter b) (IsLetter b)
letter b = Decides-and _ _ (Decides-leb 65 b) (Decides-leb b 90)

digit : (b : ℕ) → Decides (is_digit b) (IsDigit b)
digit b = Decides-and _ _ (Decides-leb 48 b) (Decides-leb b 57)

starts : (text : List ℕ) → Decides (starts_with_letter text) (StartsWithLetter text)
starts [] = (λ e. absurd cc, λ n. absurd n)
starts (b ∷ bs) = letter b

characters : (text : List ℕ) → Decides (list_all (λ b. is_letter b || is_digit b) text) (All (λ b. IsLetter b ⊎ IsDigit b) text)
characters = Decides-by_and (λ b. is_letter b || is_digit b) (λ b. IsLetter b ⊎ IsDigit b) (list_all (λ b. is_letter b || is_digit b)) (λ b. Decides-or _ _ (letter b) (digit b)) refl (λ _ _. refl)

pub name-Decides : (text : List ℕ) → Decides (is_name text) (IsName text)
unfolding is_name
name-Decides text =
    Decides-like {P = (StartsWithLetter text × All (λ b. IsLetter b ⊎ IsDigit b) text) × (length text ≤ 31)} (is_name text)
    (λ p. record { letter_first = p.0.0; characters = p.0.1; short = p.1 }) (λ n. ((n.letter_first, n.characters), n.short))
    (Decides-and _ _ (Decides-and _ _ (starts text) (characters text)) (Decides-leb (length text) 31))

abbrev some : List ℕ → Option (List ℕ)
some x = Some x

not_true : false ≡ true → ⊥
not_true e = cc

named_by : (b : Bool) (text : List ℕ) (o : Option (List ℕ)) → Decides b (IsName text) → SomeIff o (IsName text) text → o ≡ cond b (Some text) None
named_by true text None d h = absurd (h (d.0 refl))
named_by true text (Some x) d h = ap some h.1
named_by false text None d h = refl
named_by false text (Some x) d h = absurd (not_true (d.1 h.0))

pub named-is : (text : List ℕ) (o : Option (List ℕ)) → SomeIff o (IsName text) text → o ≡ named text
named-is text o h = named_by (is_name text) text o (name-Decides text) h

pub ruleset names = (named-is)
