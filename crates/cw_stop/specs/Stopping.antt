-- The stop word of a trace: SEGMENT:LINE, or SEGMENT:LINE: and 1 to 16 watched names with commas between them. A watched name is one or
-- more letters, digits, points and commercial ats, behind which [k] tells the word of the item, which is 0 where it is left out. Letters
-- are equal in both cases.
use Rattle.std.specs.Prelude.{◌≡◌, ℕ, ◌+◌, ◌-◌, ◌*◌, ◌==◌, ◌&&◌, ◌||◌, not, nat_le, Bool, if◌then◌else◌}
use Rattle.std.specs.Prelude.{List, [], ◌∷◌, length, map, fold, Option, Some, None, Result, Ok, Err}
use Rattle.std.specs.List.{list_all}
use Rattle.cw_fields.specs.Names.{is_letter, is_digit, is_empty, named}
use Rattle.cw_stop.specs.declared.stopping.Stop.{Stop}
use Rattle.cw_stop.specs.declared.stopping.Watched.{Watched}
use Rattle.cw_stop.specs.declared.stopping.StopFault.{StopFault}
use Rattle.cw_stop.specs.declared.stopping.StopFault.TheVariants.{NotAStop, NoMemory}

-- ---- letters and numbers

abbrev pub capital : ℕ → ℕ
capital b = if nat_le 97 b && nat_le b 122 then b - 32 else b

abbrev pub capitals : List ℕ → List ℕ
capitals text = map capital text

-- what decimal digits mean, the last of which tells the ones
abbrev pub value_of : List ℕ → ℕ
value_of digits = fold (λ n d. 10 * n + (d - 48)) 0 digits

-- one or more digits that mean a number in the range; zeros may stand in front
unfoldable pub number_in : (low high : ℕ) → List ℕ → Option ℕ
number_in low high text =
    if not (is_empty text) && list_all is_digit text && nat_le low (value_of text) && nat_le (value_of text) high then Some (value_of text) else None

-- ---- parts

abbrev pub with_first : ℕ → List ℕ × Option (List ℕ) → List ℕ × Option (List ℕ)
with_first b (front, behind) = (b ∷ front, behind)

-- what stands in front of the first such byte, or all; and what stands behind it, where there is one
abbrev pub cut : (mark : ℕ) → List ℕ → List ℕ × Option (List ℕ)
cut mark [] = ([], None)
cut mark (b ∷ bs) = if b == mark then ([], Some bs) else with_first b (cut mark bs)

abbrev pub with_front : ℕ → List (List ℕ) → List (List ℕ)
with_front b [] = (b ∷ []) ∷ []
with_front b (text ∷ texts) = (b ∷ text) ∷ texts

-- the texts between these bytes, one more than there are such bytes
abbrev pub between : (mark : ℕ) → List ℕ → List (List ℕ)
between mark [] = [] ∷ []
between mark (b ∷ bs) = if b == mark then [] ∷ between mark bs else with_front b (between mark bs)

-- ---- a watched name

-- a letter, a digit, a point or an at
abbrev pub is_watched_character : ℕ → Bool
is_watched_character b = is_letter b || is_digit b || (b == 46) || (b == 64)

-- the number of the word, behind the opening bracket: the closing one is the last byte
abbrev pub closed_number : List ℕ × Option (List ℕ) → Option ℕ
closed_number (digits, None) = None
closed_number (digits, Some behind) = if is_empty behind then number_in 0 4294967295 digits else None

abbrev pub word_number : Option (List ℕ) → Option ℕ
word_number None = Some 0
word_number (Some behind) = closed_number (cut 93 behind)

abbrev pub with_text : List ℕ → Option ℕ → Option Watched
with_text text None = None
with_text text (Some k) = Some (record { text = text; word = k })

abbrev pub watched_of : List ℕ × Option (List ℕ) → Option Watched
watched_of (text, behind) =
    if not (is_empty text) && list_all is_watched_character (capitals text) then with_text (capitals text) (word_number behind) else None

unfoldable pub watched_in : List ℕ → Option Watched
watched_in text = watched_of (cut 91 text)

-- ---- the word

abbrev pub join : Option Watched → Option (List Watched) → Option (List Watched)
join (Some w) (Some ws) = Some (w ∷ ws)
join _ _ = None

-- all of them, where each is a watched name
abbrev pub all_watched : List (List ℕ) → Option (List Watched)
all_watched [] = Some []
all_watched (text ∷ texts) = join (watched_in text) (all_watched texts)

unfoldable pub watched_list : List ℕ → Option (List Watched)
watched_list text = if nat_le (length (between 44 text)) 16 then all_watched (between 44 text) else None

-- none are watched where no second colon stands
abbrev pub watched_behind : Option (List ℕ) → Option (List Watched)
watched_behind None = Some []
watched_behind (Some text) = watched_list text

abbrev pub made : Option (List ℕ) → Option ℕ → Option (List Watched) → Option Stop
made (Some segment) (Some line) (Some watched) = Some (record { segment = segment; line = line; watched = watched })
made _ _ _ = None

abbrev pub stop_behind : (segment : List ℕ) → List ℕ × Option (List ℕ) → Option Stop
stop_behind segment (line, watched) = made (named (capitals segment)) (number_in 1 65535 line) (watched_behind watched)

abbrev pub stop_of : List ℕ × Option (List ℕ) → Option Stop
stop_of (segment, None) = None
stop_of (segment, Some behind) = stop_behind segment (cut 58 behind)

-- the stop that a word means, where it is a stop word
unfoldable pub stop_in : List ℕ → Option Stop
stop_in word = stop_of (cut 58 word)

-- What a reader answers: what the text means, or that it means nothing, unless memory is wanted.
abbrev pub IsRefused : {A : Type 0} → StopFault → Option A → Type 0
IsRefused NotAStop meant = meant ≡ None
IsRefused NoMemory meant = Unit {0}

abbrev pub Answers : {A : Type 0} → Option A → Result A StopFault → Type 0
Answers meant (Ok x) = meant ≡ Some x
Answers meant (Err fault) = IsRefused fault meant
