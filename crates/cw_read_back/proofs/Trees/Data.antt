-- Presets, tables and data are read as their canonical tokens, the same but for positions.
use Rattle.std.proofs.Common.{◌≡◌, ℕ, Bool, true, false, List, [], ◌∷◌, ◌++◌, map, Option, Some, None, refl, sym, ap, ap₂, ◌∙◌, append_assoc}
use Rattle.std.proofs.lemmas.List.{map-append}
use Rattle.std.specs.Prelude.{option_map, is_some}
use Rattle.cw_lex.specs.declared.token.TokenKind.TheVariants as kinds
use Rattle.cw_lex.specs.declared.token.Symbol.TheVariants as symbols
use Rattle.cw_lex.specs.declared.token.Word.TheVariants as words
use Rattle.cw_tree.specs.declared.leaf.Position.{Position}
use Rattle.cw_tree.specs.declared.leaf.RawName.{RawName}
use Rattle.cw_tree.specs.declared.leaf.RawNumber.{RawNumber}
use Rattle.cw_tree.specs.declared.leaf.RawOctal.{RawOctal}
use Rattle.cw_tree.specs.declared.leaf.RawLiteral.{RawLiteral}
use Rattle.cw_tree.specs.declared.leaf.RawInt.{RawInt}
use Rattle.cw_tree.specs.declared.leaf.RawSint.{RawSint}
use Rattle.cw_tree.specs.declared.leaf.RawSize.{RawSize}
use Rattle.cw_tree.specs.declared.leaf.RawType.{RawType}
use Rattle.cw_tree.specs.declared.leaf.RawSign.{RawSign}
use Rattle.cw_tree.specs.declared.items.RawPlace.{RawPlace}
use Rattle.cw_tree.specs.declared.items.RawPlace.TheVariants as place_tree
use Rattle.cw_tree.specs.declared.items.RawPresets.{RawPresets}
use Rattle.cw_tree.specs.declared.items.RawRange.{RawRange}
use Rattle.cw_tree.specs.declared.items.RawBounds.{RawBounds}
use Rattle.cw_tree.specs.declared.items.RawGroup.{RawGroup}
use Rattle.cw_tree.specs.declared.items.RawElem.{RawElem}
use Rattle.cw_tree.specs.declared.items.RawElem.TheVariants as elem_tree
use Rattle.cw_tree.specs.declared.items.RawTable.{RawTable}
use Rattle.cw_tree.specs.declared.items.RawData.{RawData}
use Rattle.cw_tree.specs.declared.items.RawData.TheVariants as data_tree
use Rattle.cw_tree.specs.declared.items.RawBase.TheVariants as base_tree
use Rattle.cw_grammar.specs.Tokens.{position, literal_byte}
use Rattle.cw_grammar.specs.Grammar.{a_token, a_pair, a_list, an_option, a_from, a_position, a_name, a_number, an_octal, an_int, a_sint, a_size, a_type, a_sign, a_range, a_bounds, a_group, an_elem, a_place, a_presets, a_table, a_data, a_base, Grammar, one, ◌∣◌, ◌⇒◌, again, more_elems, places}
use Rattle.cw_grammar.specs.Table.{again_rule}
use Rattle.cw_grammar.specs.Rules.{name, number, octal, int, sign, sint, number_type, size, optional, commas, word as word_grammar, symbol as symbol_grammar, ◌*>◌, raw_literal}
use Rattle.cw_grammar.specs.Statements.{preset_value, place, further_places, presets, assigned, preset, range, bounds, group, elem, table, elems_behind, table_body, data_table, singles, arrays, base, base_of, in_square, listed, semicolons}
use Rattle.cw_show.specs.Spelling.{word, symbol}
use Rattle.cw_show.specs.Canonical.{Tokens, octal_tokens, int_tokens, sint_tokens, size_tokens, type_tokens, sign_tokens, literal, behind_each, comma, semicolon}
use Rattle.cw_show.specs.ItemTokens.{name_tokens, names_tokens, place_tokens, places_tokens, assigned_tokens, preset_tokens, range_tokens, second_range_tokens, bounds_tokens, group_tokens, groups_tokens, unsigned_tokens, two_ints, elem_tokens, elems_tokens, table_with, base_tokens}
use Rattle.cw_read_back.specs.Expressions.Unplaced.{nowhere, unplaced_name, unplaced_number, unplaced_octal, unplaced_int, unplaced_sign, unplaced_sint, unplaced_size, unplaced_type}
use Rattle.cw_read_back.specs.Trees.UnplacedItems.{unplaced_place, unplaced_presets, unplaced_range, unplaced_bounds, unplaced_group, unplaced_elem, unplaced_table, unplaced_data, unplaced_base}
use Rattle.cw_read_back.proofs.Expressions.Leaves.{literal_back}
use Rattle.cw_read_back.proofs.Expressions.Reading.{Reads, Back, Each, Held, IsSome, word_is, symbol_is, ◌&◌, left, right, mapped, led_back, second, first, respelled, nothing, rounded, squared, option_none, option_some, optional_read, absent_read, present_read, between_read}
use Rattle.cw_read_back.proofs.Expressions.Simple.{number_tokens, plain_sign, literal_read}
use Rattle.cw_read_back.proofs.Trees.Forms.{ap₃, held_map, started}

abbrev pub Name : ℕ → RawName → Type 0
Name n x = Back n a_name name name_tokens unplaced_name x

abbrev pub Int : ℕ → RawInt → Type 0
Int n x = Back n an_int int int_tokens unplaced_int x

abbrev pub Sint : ℕ → RawSint → Type 0
Sint n x = Back n a_sint sint sint_tokens unplaced_sint x

abbrev pub NumberType : ℕ → RawType → Type 0
NumberType n x = Back n a_type number_type type_tokens unplaced_type x

-- names with commas between them
pub names_read : {n : ℕ} (x : RawName) (xs : List RawName) → Name n x × Each (Name n) xs → Reads n (a_list a_name) (commas name) (names_tokens (x ∷ xs)) (λ ds. map unplaced_name ds ≡ map unplaced_name (x ∷ xs))
names_read x xs h = between_read name_tokens unplaced_name comma (symbol_is symbols.Comma) x xs h

-- ---- presets

-- a place, whatever the position before it
abbrev pub PlaceRead : ℕ → RawPlace → Type 0
PlaceRead n x = Reads n (a_from a_position (a_list a_place)) place (place_tokens x) (λ f. (b : Position) → map unplaced_place (f b) ≡ unplaced_place x ∷ [])

pub void_read : {n : ℕ} (at : Position) → PlaceRead n (place_tree.Void at)
unfolding place
void_read at = right (right (nothing (λ b. place_tree.Void b ∷ []) (λ b. refl)))

abbrev Signed : ℕ → Option RawSign → Type 0
Signed n o = Held (Back n a_sign sign plain_sign unplaced_sign) o

sign_front : {n : ℕ} (o : Option RawSign) → Signed n o → Reads n (an_option a_sign) (optional sign) (sign_tokens o) (λ d. option_map unplaced_sign d ≡ option_map unplaced_sign o)
sign_front o h = optional_read sign_tokens refl (λ y. refl) o h

value_place : {n : ℕ} (x : RawPlace) → Reads n a_place preset_value (place_tokens x) (λ d. unplaced_place d ≡ unplaced_place x) → PlaceRead n x
unfolding place
value_place x k = right (left (mapped k (λ z e b. ap (λ u. u ∷ []) e)))

-- what stands behind the sign of a place, told the sign
abbrev value_behind : Grammar (a_from (an_option a_sign) a_place)
value_behind =
    number ⇒ (λ n s. place_tree.Number s n)
    ∣ octal ⇒ (λ n s. place_tree.Octal s n)
    ∣ one kinds.Literal ⇒ (λ t s. place_tree.Literal s (raw_literal t))

abbrev Behind : Option RawSign → RawPlace → (Option RawSign → RawPlace) → Type 0
Behind o x f = (s : Option RawSign) → option_map unplaced_sign s ≡ option_map unplaced_sign o → unplaced_place (f s) ≡ unplaced_place x

pub number_place_read : {n : ℕ} (o : Option RawSign) (x : RawNumber) → Signed n o → Back n a_number number number_tokens unplaced_number x → PlaceRead n (place_tree.Number o x)
unfolding preset_value
number_place_read {n = n} o x h k =
    let r : Reads n (a_from (an_option a_sign) a_place) value_behind (number_tokens x) (Behind o (place_tree.Number o x)) = left (mapped k (λ z e s q. ap₂ (λ u v. place_tree.Number u v) q e)) in
    value_place (place_tree.Number o x) (mapped (sign_front o h & r) (λ z p. p.1 z.0 p.0))

pub octal_place_read : {n : ℕ} (o : Option RawSign) (x : RawOctal) → Signed n o → Back n an_octal octal octal_tokens unplaced_octal x → PlaceRead n (place_tree.Octal o x)
unfolding preset_value
octal_place_read {n = n} o x h k =
    let r : Reads n (a_from (an_option a_sign) a_place) value_behind (octal_tokens x) (Behind o (place_tree.Octal o x)) = right (left (mapped k (λ z e s q. ap₂ (λ u v. place_tree.Octal u v) q e))) in
    value_place (place_tree.Octal o x) (mapped (sign_front o h & r) (λ z p. p.1 z.0 p.0))

abbrev literal_place_at : Option RawSign → ℕ → RawPlace
literal_place_at o b = place_tree.Literal o (record { at = nowhere; byte = b })

pub literal_place_read : {n : ℕ} (o : Option RawSign) (x : RawLiteral) → Signed n o → PlaceRead n (place_tree.Literal o x)
unfolding preset_value
literal_place_read {n = n} o x h =
    let r : Reads n (a_from (an_option a_sign) a_place) value_behind (literal x.byte ∷ []) (Behind o (place_tree.Literal o x)) = right (right (mapped (literal_read x) (λ z e s q. ap₂ literal_place_at q (ap literal_byte e.1 ∙ literal_back x.byte)))) in
    value_place (place_tree.Literal o x) (mapped (sign_front o h & r) (λ z p. p.1 z.0 p.0))

-- places, whatever the position before them
abbrev PlacesRead : ℕ → List RawPlace → Tokens → Type 0
PlacesRead n xs a = Reads n (a_from a_position (a_list a_place)) (again places) a (λ f. (b : Position) → map unplaced_place (f b) ≡ map unplaced_place xs)

places_from : {n : ℕ} (x : RawPlace) (xs : List RawPlace) (a : Tokens) → PlaceRead n x → Reads n (a_list a_place) further_places a (λ ds. map unplaced_place ds ≡ map unplaced_place xs) → PlacesRead n (x ∷ xs) (place_tokens x ++ a)
unfolding again_rule presets
places_from x xs a h k = led_back (mapped (h & k) (λ z p b. map-append unplaced_place (z.0 b) z.1 ∙ ap₂ (λ u v. u ++ v) (p.0 b) p.1))

further_read : {n : ℕ} (xs : List RawPlace) → Each (PlaceRead n) xs → Reads n (a_list a_place) further_places (behind_each comma (map place_tokens xs)) (λ ds. map unplaced_place ds ≡ map unplaced_place xs)
unfolding further_places
further_read [] h = right (nothing [] refl)
further_read (x ∷ xs) h = left (mapped (symbol_is symbols.Comma & places_from x xs (behind_each comma (map place_tokens xs)) h.0 (further_read xs h.1)) (λ z p. p.1 (position z.0)))

abbrev presets_with : List RawPlace → RawPresets
presets_with xs = record { at = nowhere; places = xs }

-- presets behind := and behind PRESET
abbrev pub PresetsRead : ℕ → RawPresets → Type 0
PresetsRead n x =
    Back n a_presets assigned (λ p. symbol symbols.Assign ∷ places_tokens p.places) unplaced_presets x
    × Back n a_presets preset (λ p. word words.Preset ∷ places_tokens p.places) unplaced_presets x

pub presets_read : {n : ℕ} (at : Position) (x : RawPlace) (xs : List RawPlace) → PlaceRead n x × Each (PlaceRead n) xs → PresetsRead n (record { at = at; places = x ∷ xs })
unfolding assigned preset
presets_read at x xs h =
    let k = places_from x xs (behind_each comma (map place_tokens xs)) h.0 (further_read xs h.1) in
    (mapped (symbol_is symbols.Assign & k) (λ z p. ap presets_with (p.1 (position z.0))), mapped (word_is words.Preset refl & k) (λ z p. ap presets_with (p.1 (position z.0))))

pub assigned_read : {n : ℕ} (o : Option RawPresets) → Held (PresetsRead n) o → Reads n (an_option a_presets) (optional assigned) (assigned_tokens o) (λ d. option_map unplaced_presets d ≡ option_map unplaced_presets o)
assigned_read o h = optional_read assigned_tokens refl (λ r. refl) o (held_map (λ r k. k.0) o h)

-- ---- bounds and groups

pub range_read : {n : ℕ} (x y : RawSint) → Sint n x → Sint n y → Back n a_range range range_tokens unplaced_range (record { lower = x; upper = y })
unfolding range
range_read x y h k = mapped (h & second (symbol_is symbols.Colon) k) (λ z p. ap₂ (λ u v. record { lower = u; upper = v }) p.0 p.1)

-- bounds in their square brackets
abbrev pub BoundsRead : ℕ → RawBounds → Type 0
BoundsRead n x = Back n a_bounds (in_square bounds) bounds_tokens unplaced_bounds x

second_read : {n : ℕ} (o : Option RawRange) → Held (Back n a_range range range_tokens unplaced_range) o → Reads n (an_option a_range) (optional (symbol_grammar symbols.Comma *> range)) (second_range_tokens o) (λ d. option_map unplaced_range d ≡ option_map unplaced_range o)
second_read None h = option_none refl
second_read (Some r) h = option_some (second (symbol_is symbols.Comma) h) (λ z e. ap (λ u. Some u) e)

pub bounds_read : {n : ℕ} (x : RawRange) (o : Option RawRange) → Back n a_range range range_tokens unplaced_range x → Held (Back n a_range range range_tokens unplaced_range) o → BoundsRead n (record { first = x; second = o })
unfolding bounds
bounds_read x o h k = respelled (ap (λ u. symbol symbols.OpenSquare ∷ u) (sym (append_assoc (range_tokens x) (second_range_tokens o) (symbol symbols.CloseSquare ∷ []))))
    (squared (mapped (h & second_read o k) (λ z p. ap₂ (λ u v. record { first = u; second = v }) p.0 p.1))) (λ z q. q)

pub group_read : {n : ℕ} (x : RawName) (xs : List RawName) (y : RawBounds) → Name n x × Each (Name n) xs → BoundsRead n y → Back n a_group group group_tokens unplaced_group (record { names = x ∷ xs; bounds = y })
unfolding group
group_read x xs y h k = mapped (names_read x xs h & k) (λ z p. ap₂ (λ u v. record { names = u; bounds = v }) p.0 p.1)

-- ---- tables

pub word_elem_read : {n : ℕ} (f : RawName) (t : RawType) (x : RawInt) → Name n f → NumberType n t → Int n x → Back n an_elem elem elem_tokens unplaced_elem (elem_tree.Word f t x)
unfolding elem
word_elem_read f t x h k l = started {y = f} h (left (mapped (k & l) (λ z p m e. ap₃ (λ u v w. elem_tree.Word u v w) e p.0 p.1)))

unsigned_read : {n : ℕ} (u : Bool) → Reads n (an_option a_token) (optional (word_grammar words.Unsigned)) (unsigned_tokens u) (λ o. is_some o ≡ u)
unsigned_read true = option_some (word_is words.Unsigned refl) (λ z p. refl)
unsigned_read false = option_none refl

part_same : (m f : RawName) (b u : Bool) (t t' w w' i i' : RawInt) (s s' : RawSint) → unplaced_name m ≡ unplaced_name f → b ≡ u → unplaced_int t' ≡ unplaced_int t → unplaced_sint s' ≡ unplaced_sint s → unplaced_int w' ≡ unplaced_int w → unplaced_int i' ≡ unplaced_int i
    → unplaced_elem (elem_tree.Part m b t' s' w' i') ≡ unplaced_elem (elem_tree.Part f u t s w i)
part_same m f b u t t' w w' i i' s s' e1 e2 e3 e4 e5 e6 =
    ap₃ (λ x y z. elem_tree.Part x y z (unplaced_sint s') (unplaced_int w') (unplaced_int i')) e1 e2 e3 ∙ ap₃ (λ x y z. elem_tree.Part (unplaced_name f) u (unplaced_int t) x y z) e4 e5 e6

part_tokens : (n : RawName) (u : Bool) (t : RawInt) (s : RawSint) (w i : RawInt)
    → elem_tokens (elem_tree.Part n u t s w i) ≡ name_tokens n ++ (unsigned_tokens u ++ ((symbol symbols.Open ∷ ((int_tokens t ++ comma ∷ sint_tokens s) ++ symbol symbols.Close ∷ [])) ++ (int_tokens w ++ comma ∷ int_tokens i)))
part_tokens n u t s w i =
    ap (λ v. name_tokens n ++ v) (append_assoc (unsigned_tokens u) (symbol symbols.Open ∷ (int_tokens t ++ comma ∷ (sint_tokens s ++ symbol symbols.Close ∷ []))) (two_ints w i)
    ∙ ap (λ v. unsigned_tokens u ++ ((symbol symbols.Open ∷ v) ++ two_ints w i)) (sym (append_assoc (int_tokens t) (comma ∷ sint_tokens s) (symbol symbols.Close ∷ []))))

pub part_elem_read : {n : ℕ} (f : RawName) (u : Bool) (t w i : RawInt) (s : RawSint) → Name n f → Int n t → Sint n s → Int n w → Int n i → Back n an_elem elem elem_tokens unplaced_elem (elem_tree.Part f u t s w i)
unfolding elem
part_elem_read f u t w i s h k l m o = respelled (part_tokens f u t s w i)
    (started {y = f} h (right (mapped (unsigned_read u & rounded (k & second (symbol_is symbols.Comma) l) & m & second (symbol_is symbols.Comma) o)
    (λ z p g e. part_same g f (is_some z.0) u t z.1.0.0 w z.1.1.0 i z.1.1.1 s z.1.0.1 e p.0 p.1.0.0 p.1.0.1 p.1.1.0 p.1.1.1)))) (λ z q. q)

abbrev pub Elem : ℕ → RawElem → Type 0
Elem n x = Back n an_elem elem elem_tokens unplaced_elem x

elems_read : {n : ℕ} (xs : List RawElem) → Each (Elem n) xs → Reads n (a_list an_elem) (listed (semicolons elem)) (elems_tokens xs) (λ ds. map unplaced_elem ds ≡ map unplaced_elem xs)
elems_read [] h = right (nothing [] refl)
elems_read (x ∷ xs) h = left (between_read elem_tokens unplaced_elem semicolon (symbol_is symbols.Semicolon) x xs h)

abbrev table_of : RawName → RawSize → List RawElem → RawTable
table_of f z xs = record { at = nowhere; name = f; size = z; elems = xs }

-- a table without presets
abbrev pub TableRead : ℕ → RawTable → Type 0
TableRead n x = Back n a_table table (λ t. table_with t []) unplaced_table x

pub table_read : {n : ℕ} (at : Position) (f : RawName) (z : RawSize) (xs : List RawElem) → Name n f → Back n a_size size size_tokens unplaced_size z → Each (Elem n) xs → TableRead n (record { at = at; name = f; size = z; elems = xs })
unfolding table
table_read at f s xs h k l = mapped (word_is words.Table refl & h & k & squared (elems_read xs l)) (λ z p. ap₃ table_of p.1.0 p.1.1.0 p.1.1.1)

-- elements and what is preset behind them
abbrev Body : List RawElem → Option RawPresets → List RawElem × Option RawPresets → Type 0
Body xs o b = (map unplaced_elem b.0 ≡ map unplaced_elem xs) × (option_map unplaced_presets b.1 ≡ option_map unplaced_presets o)

more_elems_read : {n : ℕ} (xs : List RawElem) (o : Option RawPresets) → Each (Elem n) xs → Held (PresetsRead n) o → Reads n (a_pair (a_list an_elem) (an_option a_presets)) (again more_elems) (behind_each semicolon (map elem_tokens xs) ++ preset_tokens o) (Body xs o)
unfolding again_rule elems_behind
more_elems_read [] None h k = led_back (right (right (nothing ([], None) (refl, refl))))
more_elems_read [] (Some r) h k = led_back (right (left (mapped k.1 (λ z e. (refl, ap (λ u. Some u) e)))))
more_elems_read (x ∷ xs) o h k = respelled (ap (λ u. semicolon ∷ u) (append_assoc (elem_tokens x) (behind_each semicolon (map elem_tokens xs)) (preset_tokens o)))
    (led_back (left (second (symbol_is symbols.Semicolon) (left (mapped (h.0 & more_elems_read xs o h.1 k) (λ z p. (ap₂ (λ y ys. y ∷ ys) p.0 p.1.0, p.1.1))))))) (λ z q. q)

table_body_read : {n : ℕ} (xs : List RawElem) (o : Option RawPresets) → Each (Elem n) xs → Held (PresetsRead n) o → Reads n (a_pair (a_list an_elem) (an_option a_presets)) table_body (elems_tokens xs ++ preset_tokens o) (Body xs o)
unfolding table_body
table_body_read [] None h k = right (right (right (nothing ([], None) (refl, refl))))
table_body_read [] (Some r) h k = right (left (mapped k.1 (λ z e. (refl, ap (λ u. Some u) e))))
table_body_read (x ∷ xs) o h k = respelled (append_assoc (elem_tokens x) (behind_each semicolon (map elem_tokens xs)) (preset_tokens o))
    (left (mapped (h.0 & more_elems_read xs o h.1 k) (λ z p. (ap₂ (λ y ys. y ∷ ys) p.0 p.1.0, p.1.1)))) (λ z q. q)

table_same : (at here : Position) (f g : RawName) (s r : RawSize) (xs : List RawElem) (i o c : Option RawPresets) (b : List RawElem × Option RawPresets) → unplaced_name g ≡ unplaced_name f → unplaced_size r ≡ unplaced_size s → Body xs i b → option_map unplaced_presets c ≡ option_map unplaced_presets o
    → unplaced_data (data_tree.Table (record { at = here; name = g; size = r; elems = b.0 }) b.1 c) ≡ unplaced_data (data_tree.Table (record { at = at; name = f; size = s; elems = xs }) i o)
table_same at here f g s r xs i o c b e1 e2 e3 e4 = ap₃ (λ u v w. data_tree.Table u v w) (ap₃ table_of e1 e2 e3.0) e3.1 e4

table_tokens : (at : Position) (f : RawName) (s : RawSize) (xs : List RawElem) (i o : Option RawPresets) → table_with (record { at = at; name = f; size = s; elems = xs }) (preset_tokens i) ++ assigned_tokens o
    ≡ word words.Table ∷ (name_tokens f ++ (size_tokens s ++ ((symbol symbols.OpenSquare ∷ ((elems_tokens xs ++ preset_tokens i) ++ symbol symbols.CloseSquare ∷ [])) ++ assigned_tokens o)))
table_tokens at f s xs i o =
    ap (λ u. word words.Table ∷ (name_tokens f ++ u)) (append_assoc (size_tokens s) (symbol symbols.OpenSquare ∷ (elems_tokens xs ++ (preset_tokens i ++ symbol symbols.CloseSquare ∷ []))) (assigned_tokens o)
    ∙ ap (λ u. size_tokens s ++ ((symbol symbols.OpenSquare ∷ u) ++ assigned_tokens o)) (sym (append_assoc (elems_tokens xs) (preset_tokens i) (symbol symbols.CloseSquare ∷ []))))

pub data_table_read : {n : ℕ} (at : Position) (f : RawName) (s : RawSize) (xs : List RawElem) (i o : Option RawPresets) → Name n f → Back n a_size size size_tokens unplaced_size s → Each (Elem n) xs → Held (PresetsRead n) i → Held (PresetsRead n) o
    → Reads n a_data data_table (table_with (record { at = at; name = f; size = s; elems = xs }) (preset_tokens i) ++ assigned_tokens o) (λ d. unplaced_data d ≡ unplaced_data (data_tree.Table (record { at = at; name = f; size = s; elems = xs }) i o))
unfolding data_table
data_table_read at f s xs i o h k l m q = respelled (table_tokens at f s xs i o)
    (mapped (word_is words.Table refl & h & k & squared (table_body_read xs i l m) & assigned_read o q) (λ z p. table_same at (position z.0) f z.1.0 s z.1.1.0 xs i o z.1.1.1.1 z.1.1.1.0 p.1.0 p.1.1.0 p.1.1.1.0 p.1.1.1.1)) (λ z r. r)

-- ---- single items and arrays, behind their type

-- what stands behind a type, told the type
abbrev pub Typed : RawType → RawData → (RawType → RawData) → Type 0
Typed t x f = (z : RawType) → unplaced_type z ≡ unplaced_type t → unplaced_data (f z) ≡ unplaced_data x

pub singles_read : {n : ℕ} (t : RawType) (x : RawName) (xs : List RawName) (o : Option RawPresets) → Name n x × Each (Name n) xs → Held (PresetsRead n) o → Reads n (a_from a_type a_data) singles (names_tokens (x ∷ xs) ++ assigned_tokens o) (Typed t (data_tree.Singles t (x ∷ xs) o))
unfolding singles
singles_read t x xs o h k = mapped (names_read x xs h & assigned_read o k) (λ z p u e. ap₃ (λ a b c. data_tree.Singles a b c) e p.0 p.1)

pub arrays_read : {n : ℕ} (t : RawType) (x : RawGroup) (xs : List RawGroup) (o : Option RawPresets) → Back n a_group group group_tokens unplaced_group x × Each (Back n a_group group group_tokens unplaced_group) xs → Held (PresetsRead n) o
    → Reads n (a_from a_type a_data) arrays (word words.Array ∷ (groups_tokens (x ∷ xs) ++ assigned_tokens o)) (Typed t (data_tree.Arrays t (x ∷ xs) o))
unfolding arrays
arrays_read t x xs o h k = mapped (second (word_is words.Array refl) (between_read group_tokens unplaced_group comma (symbol_is symbols.Comma) x xs h & assigned_read o k)) (λ z p u e. ap₃ (λ a b c. data_tree.Arrays a b c) e p.0 p.1)

-- ---- bases

pub name_base_read : {n : ℕ} (f : RawName) → Name n f → Back n a_base base base_tokens unplaced_base (base_tree.Name f)
unfolding base
name_base_read f h = mapped (h & absent_read) (λ z p. ap (λ o. unplaced_base (base_of z.0 o)) p.1 ∙ ap (λ u. base_tree.Name u) p.0)

one_base_same : (f g : RawName) (x : RawSint) (o : Option (RawSint × Option RawSint)) → unplaced_name g ≡ unplaced_name f → IsSome (λ w. (unplaced_sint w.0 ≡ unplaced_sint x) × (w.1 ≡ None)) o → unplaced_base (base_of g o) ≡ unplaced_base (base_tree.One f x)
one_base_same f g x None e h = absurd h
one_base_same f g x (Some w) e h = ap (λ u. unplaced_base (base_of g (Some (w.0, u)))) h.1 ∙ ap₂ (λ u v. base_tree.One u v) e h.0

pub one_base_read : {n : ℕ} (f : RawName) (x : RawSint) → Name n f → Sint n x → Back n a_base base base_tokens unplaced_base (base_tree.One f x)
unfolding base
one_base_read f x h k = respelled (ap (λ u. name_tokens f ++ symbol symbols.OpenSquare ∷ u) (sym (append_assoc (sint_tokens x) [] (symbol symbols.CloseSquare ∷ []))))
    (mapped (h & present_read (squared (k & absent_read))) (λ z p. one_base_same f z.0 x z.1 p.0 p.1)) (λ z q. q)

two_base_inner : (f g : RawName) (x y d : RawSint) (o : Option RawSint) → unplaced_name g ≡ unplaced_name f → unplaced_sint d ≡ unplaced_sint x → IsSome (λ v. unplaced_sint v ≡ unplaced_sint y) o → unplaced_base (base_of g (Some (d, o))) ≡ unplaced_base (base_tree.Two f x y)
two_base_inner f g x y d None e h k = absurd k
two_base_inner f g x y d (Some v) e h k = ap₃ (λ a b c. base_tree.Two a b c) e h k

two_base_same : (f g : RawName) (x y : RawSint) (o : Option (RawSint × Option RawSint)) → unplaced_name g ≡ unplaced_name f → IsSome (λ w. (unplaced_sint w.0 ≡ unplaced_sint x) × IsSome (λ v. unplaced_sint v ≡ unplaced_sint y) w.1) o → unplaced_base (base_of g o) ≡ unplaced_base (base_tree.Two f x y)
two_base_same f g x y None e h = absurd h
two_base_same f g x y (Some w) e h = two_base_inner f g x y w.0 w.1 e h.0 h.1

pub two_base_read : {n : ℕ} (f : RawName) (x y : RawSint) → Name n f → Sint n x → Sint n y → Back n a_base base base_tokens unplaced_base (base_tree.Two f x y)
unfolding base
two_base_read f x y h k l = respelled (ap (λ u. name_tokens f ++ symbol symbols.OpenSquare ∷ u) (sym (append_assoc (sint_tokens x) (comma ∷ sint_tokens y) (symbol symbols.CloseSquare ∷ []))))
    (mapped (h & present_read (squared (k & present_read (second (symbol_is symbols.Comma) l)))) (λ z p. two_base_same f z.0 x y z.1 p.0 p.1)) (λ z q. q)
