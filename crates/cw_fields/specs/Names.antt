-- Names as fields: a length byte, and the characters.
use Rattle.std.specs.Prelude.{◌≡◌, ◌⊎◌, ℕ, ◌||◌, ◌&&◌, nat_le, Bool, true, false, if◌then◌else◌, List, [], ◌∷◌, length, Option, Some, None}
use Rattle.std.specs.List.{list_all}
use Rattle.cw_word.specs.Name.{IsName}
use Rattle.cw_fields.specs.Fields.{Reader, meaning, text_in}

abbrev pub is_letter : ℕ → Bool
is_letter b = nat_le 65 b && nat_le b 90

abbrev pub is_digit : ℕ → Bool
is_digit b = nat_le 48 b && nat_le b 57

abbrev pub starts_with_letter : List ℕ → Bool
starts_with_letter [] = false
starts_with_letter (first ∷ rest) = is_letter first

unfoldable pub is_name : List ℕ → Bool
is_name bytes = starts_with_letter bytes && list_all (λ b. is_letter b || is_digit b) bytes && nat_le (length bytes) 31

abbrev pub is_empty : {A : Type 0} → List A → Bool
is_empty [] = true
is_empty (x ∷ xs) = false

abbrev pub is_name_or_empty : List ℕ → Bool
is_name_or_empty text = is_empty text || is_name text

abbrev pub named : List ℕ → Option (List ℕ)
named text = if is_name text then Some text else None

abbrev pub named_or_empty : List ℕ → Option (List ℕ)
named_or_empty text = if is_name_or_empty text then Some text else None

unfoldable pub name_in : Reader (List ℕ)
name_in bytes = meaning named text_in bytes

unfoldable pub name_or_empty_in : Reader (List ℕ)
name_or_empty_in bytes = meaning named_or_empty text_in bytes

abbrev pub IsNameOrEmpty : List ℕ → Type 0
IsNameOrEmpty text = (text ≡ []) ⊎ IsName text
