-- What lists of presets and strings of bytes hold are words.
use Rattle.std.proofs.Common.{◌≡◌, ℕ, zero, suc, ◌+◌, ◌*◌, ◌^◌, ◌<◌, ◌≤◌, min, List, [], ◌∷◌, ◌++◌, length, take, drop, Bool, true, false, ◌&&◌, ◌==◌, cond, nat_eq, nat_le, Option, Some, None, refl, arith}
use Rattle.std.specs.Map.{lookup}
use Rattle.std.proofs.lemmas.Bool.Decides.{nat_tests}
use Rattle.std.proofs.lemmas.List.Elements.{All-nil, All-cons, All-head, All-tail, All-take, All-drop}
use Rattle.indexmap.specs.IndexMap.{insert_entry}
use Rattle.cw_table.specs.declared.table.Row.{Row}
use Rattle.cw_word.specs.Decimal.{decimal_floor}
use Rattle.cw_word.specs.BitField.{with_field}
use Rattle.cw_word.proofs.Fields.{with_field-lt}
use Rattle.cw_lex.specs.declared.token.TokenKind.{TokenKind}
use Rattle.cw_lex.specs.declared.token.TokenKind.TheVariants as kinds
use Rattle.cw_tree.specs.declared.leaf.RawName.{RawName}
use Rattle.cw_tree.specs.declared.items.RawElem.{RawElem}
use Rattle.cw_tree.specs.declared.items.RawElem.TheVariants as elem
use Rattle.cw_tree.specs.declared.items.RawGroup.{RawGroup}
use Rattle.cw_tree.specs.declared.items.RawPlace.{RawPlace}
use Rattle.cw_tree.specs.declared.items.RawPlace.TheVariants as place
use Rattle.cw_tree.specs.declared.items.RawPresets.{RawPresets}
use Rattle.cw_tree.specs.declared.items.RawTable.{RawTable}
use Rattle.cw_tree.specs.declared.items.RawData.{RawData}
use Rattle.cw_tree.specs.declared.items.RawData.TheVariants as items
use Rattle.cw_amount.specs.Amounts.{octal_word, is_negative, place_amount}
use Rattle.cw_grammar.specs.Tokens.{unquoted, characters}
use Rattle.cw_scale.specs.Kinds.{fraction_of, element_fraction}
use Rattle.cw_data.specs.Presets.{behind_each, table_entries}
use Rattle.cw_items.specs.Things.{amount_or_none, group_words, words_of_table}
use Rattle.cw_make_items.specs.Types.{within, width_of}
use Rattle.cw_preset.specs.Strings.{Words, Rows, characters_from, string_words}
use Rattle.cw_preset.specs.Lists.{as_word, place_word, word_if, places_words, named_rows, groups_rows, word_in, put_part, element_put, element_word, stored, entry_words, entries_words, singles_preset, groups_preset, table_preset, data_rows}
use Rattle.cw_sound.proofs.Items.Lists.{each-append}
use Rattle.cw_sound.specs.Presets.Bytes.{AreBytes}
use Rattle.cw_macro.specs.Premises.{Each}

-- each value is a word
abbrev pub Small : Words → Type 0
Small ws = Each (λ (p : ℕ × ℕ). p.1 < 65536) ws

abbrev pub RowsSmall : Rows → Type 0
RowsSmall rows = Each (λ (r : Row Words). Small r.item) rows

small_append : (ws vs : Words) → Small ws → Small vs → Small (ws ++ vs)
small_append ws vs h k = each-append (λ (p : ℕ × ℕ). p.1 < 65536) ws vs h k

pub rows_append : (rs qs : Rows) → RowsSmall rs → RowsSmall qs → RowsSmall (rs ++ qs)
rows_append rs qs h k = each-append (λ (r : Row Words). Small r.item) rs qs h k

-- ---- strings: the characters of a string stand between its quotes

characters_small : (o : ℕ) (cs : List ℕ) → AreBytes cs → Small (characters_from o cs)
characters_small o [] h = tt
characters_small o (c ∷ cs) h =
    let first : c < 256 = All-head (λ b. b < 256) c cs h in
    (omega (arith, first), characters_small (min (o + 1) 65535) cs (All-tail (λ b. b < 256) c cs h))

pub string_small : (cs : List ℕ) → AreBytes cs → Small (string_words cs)
string_small cs h = (omega arith, characters_small 1 cs h)

unquoted_bytes : (w : List ℕ) → AreBytes w → AreBytes (unquoted w)
unquoted_bytes [] h = h
unquoted_bytes (b ∷ []) h = of_test (b == 34)
  where
    of_test : (t : Bool) → AreBytes (cond t [] (b ∷ []))
    of_test true = All-nil (λ c. c < 256)
    of_test false = h
unquoted_bytes (b ∷ c ∷ w) h =
    let rest = All-tail (λ d. d < 256) b (c ∷ w) h in
    let first = All-head (λ d. d < 256) b (c ∷ w) h in
    of_tests (b == 34) (c == 34) (All-cons (λ d. d < 256) b (unquoted w) first (unquoted_bytes w (All-tail (λ d. d < 256) c w rest))) (All-cons (λ d. d < 256) b (unquoted (c ∷ w)) first (unquoted_bytes (c ∷ w) rest))
  where
    of_tests : (t u : Bool) → AreBytes (b ∷ unquoted w) → AreBytes (b ∷ unquoted (c ∷ w)) → AreBytes (cond t (cond u (b ∷ unquoted w) []) (b ∷ unquoted (c ∷ w)))
    of_tests true true k l = k
    of_tests true false k l = All-nil (λ d. d < 256)
    of_tests false u k l = l

pub characters_bytes : (k : TokenKind) (w : List ℕ) → AreBytes w → AreBytes (characters k w)
characters_bytes kinds.BodyText w h = All-take (λ b. b < 256) _ (drop 2 w) (All-drop (λ b. b < 256) 2 w h)
characters_bytes _ w h = unquoted_bytes (drop 1 w) (All-drop (λ b. b < 256) 1 w h)

-- ---- places

as_word_small : (negative : Bool) (n : ℕ) → as_word negative n < 65536
as_word_small false n = omega arith
as_word_small true n = omega arith

abbrev SmallIf : Option ℕ → Type 0
SmallIf None = Unit {0}
SmallIf (Some w) = w < 65536

place_small : (f : ℕ) (p : RawPlace) → SmallIf (place_word f p)
place_small f (place.Void at) = tt
place_small f (place.Number s n) = as_word_small (is_negative s) (decimal_floor n.number.whole n.number.digits n.number.places f)
place_small f (place.Octal s o) = as_word_small (is_negative s) (amount_or_none (octal_word o.number.number) * 2 ^ f)
place_small f (place.Literal s l) = as_word_small (is_negative s) (l.byte * 2 ^ f)

word_small : (o : ℕ) (w : Option ℕ) → SmallIf w → Small (word_if o w)
word_small o None h = tt
word_small o (Some w) h = (h, tt)

places_small : (f o : ℕ) (ps : List RawPlace) → Small (places_words f o ps)
places_small f o [] = tt
places_small f o (p ∷ ps) = small_append (word_if o (place_word f p)) (places_words f (min (o + 1) 65535) ps) (word_small o (place_word f p) (place_small f p)) (places_small f (min (o + 1) 65535) ps)

named_small : (f w : ℕ) (ns : List RawName) (ps : List RawPlace) → RowsSmall (named_rows f w ns ps)
named_small f w [] ps = tt
named_small f w (n ∷ ns) ps = (places_small f 0 (take w ps), named_small f w ns (drop w ps))

groups_small : (f : ℕ) (gs : List RawGroup) (ps : List RawPlace) → RowsSmall (groups_rows f gs ps)
groups_small f [] ps = tt
groups_small f (g ∷ gs) ps =
    rows_append (named_rows f (group_words g) g.names ps) (groups_rows f gs (behind_each (group_words g) g.names ps)) (named_small f (group_words g) g.names ps) (groups_small f gs (behind_each (group_words g) g.names ps))

-- ---- elements of tables

found_small : (o : ℕ) (ws : Words) → Small ws → amount_or_none (lookup (nat_eq o) ws) < 65536
found_small o [] h = omega arith
found_small o (p ∷ ws) h = of_test (nat_eq o p.0) (found_small o ws h.1)
  where
    of_test : (b : Bool) → amount_or_none (lookup (nat_eq o) ws) < 65536 → amount_or_none (cond b (Some p.1) (lookup (nat_eq o) ws)) < 65536
    of_test true r = h.0
    of_test false r = r

insert_small : (o v : ℕ) (ws : Words) → v < 65536 → Small ws → Small (insert_entry nat_eq ws o v)
insert_small o v [] l h = (l, tt)
insert_small o v (p ∷ ws) l h = of_test (nat_eq o p.0) (insert_small o v ws l h.1)
  where
    of_test : (b : Bool) → Small (insert_entry nat_eq ws o v) → Small (cond b ((p.0, v) ∷ ws) (p ∷ insert_entry nat_eq ws o v))
    of_test true r = (l, h.1)
    of_test false r = (h.0, r)

room : (t b : ℕ) → (nat_le 1 t && nat_le (t + b) 16) ≡ true → t + b ≤ 16
room t b e = grind (arith, nat_tests)

part_small : (t b before v : ℕ) → before < 65536 → put_part t b before v < 65536
part_small t b before v h = of_test (nat_le 1 t && nat_le (t + b) 16) refl
  where
    of_test : (c : Bool) → (nat_le 1 t && nat_le (t + b) 16) ≡ c → cond c (with_field before t b v) before < 65536
    of_test true e = with_field-lt before t b v h (room t b e)
    of_test false e = h

put_small : (e : RawElem) (before v : ℕ) → before < 65536 → v < 65536 → element_put e before v < 65536
put_small (elem.Word n t w) before v h l = l
put_small (elem.Part n u t f w b) before v h l = part_small (within 255 (place_amount t)) (within 255 (place_amount b)) before v h

stored_small : (o : ℕ) (e : RawElem) (w : Option ℕ) (ws : Words) → SmallIf w → Small ws → Small (stored o e w ws)
stored_small o e None ws l h = h
stored_small o e (Some v) ws l h = insert_small o (element_put e (word_in ws o) v) ws (put_small e (word_in ws o) v (found_small o ws h) l) h

entry_small : (first : ℕ) (es : List RawElem) (ps : List RawPlace) (ws : Words) → Small ws → Small (entry_words first es ps ws)
entry_small first [] ps ws h = h
entry_small first (e ∷ es) [] ws h = h
entry_small first (e ∷ es) (p ∷ ps) ws h =
    let o = min (first + element_word e) 65535 in
    let w = place_word (element_fraction e) p in
    entry_small first es ps (stored o e w ws) (stored_small o e w ws (place_small (element_fraction e) p) h)

entries_small : (n width first : ℕ) (es : List RawElem) (ps : List RawPlace) (ws : Words) → Small ws → Small (entries_words n width first es ps ws)
entries_small zero width first es ps ws h = h
entries_small (suc n) width first es ps ws h = entries_small n width (min (first + width) 65535) es (drop (length es) ps) (entry_words first es ps ws) (entry_small first es ps ws h)

-- ---- declarations

table_small : (t : RawTable) (inside behind : Option RawPresets) → RowsSmall (table_preset t inside behind)
table_small t (Some p) behind = (entries_small (table_entries (place_amount t.size.first) (place_amount t.size.second)) (width_of t.size) 0 t.elems p.places [] tt, tt)
table_small t None (Some p) = (places_small 0 0 (take (words_of_table t) p.places), tt)
table_small t None None = tt

singles_small : (f : ℕ) (ns : List RawName) (p : Option RawPresets) → RowsSmall (singles_preset f ns p)
singles_small f ns None = tt
singles_small f ns (Some p) = named_small f 1 ns p.places

arrays_small : (f : ℕ) (gs : List RawGroup) (p : Option RawPresets) → RowsSmall (groups_preset f gs p)
arrays_small f gs None = tt
arrays_small f gs (Some p) = groups_small f gs p.places

pub data_small : (d : RawData) → RowsSmall (data_rows d)
data_small (items.Singles t ns p) = singles_small (fraction_of t) ns p
data_small (items.Arrays t gs p) = arrays_small (fraction_of t) gs p
data_small (items.Table t inside behind) = table_small t inside behind
