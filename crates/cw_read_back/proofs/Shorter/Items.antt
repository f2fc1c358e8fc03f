-- Data, specifications and communicators have at least as many tokens as their canonical text.
use Rattle.std.proofs.Common.{◌≡◌, ℕ, suc, ◌+◌, ◌≤◌, List, [], ◌∷◌, ◌++◌, length, length-append, map, Bool, Option, Some, None, is_some, arith}
use Rattle.cw_lex.specs.declared.token.Symbol.TheVariants as symbols
use Rattle.cw_lex.specs.declared.token.Word.TheVariants as words
use Rattle.cw_tree.specs.declared.leaf.Position.{Position}
use Rattle.cw_tree.specs.declared.leaf.RawInt.{RawInt}
use Rattle.cw_tree.specs.declared.leaf.RawName.{RawName}
use Rattle.cw_tree.specs.declared.leaf.RawSint.{RawSint}
use Rattle.cw_tree.specs.declared.leaf.RawType.{RawType}
use Rattle.cw_tree.specs.declared.items.RawData.{RawData}
use Rattle.cw_tree.specs.declared.items.RawElem.TheVariants as elem_tree
use Rattle.cw_tree.specs.declared.items.RawPlace.{RawPlace}
use Rattle.cw_tree.specs.declared.items.RawTable.{RawTable}
use Rattle.cw_tree.specs.declared.segment.RawAitem.{RawAitem}
use Rattle.cw_tree.specs.declared.segment.RawPs.{RawPs}
use Rattle.cw_tree.specs.declared.segment.RawSpec.{RawSpec}
use Rattle.cw_grammar.specs.Tokens.{position}
use Rattle.cw_grammar.specs.Grammar.{Sort, a_token, a_pair, a_list, an_option, a_position, a_from, a_name, an_int, a_sint, a_type, a_range, a_bounds, a_group, an_elem, a_place, a_presets, a_table, a_data, a_base, a_ptag, an_ips, a_ps, a_spec, a_citem, an_aitem, a_comm, Value, Grammar, ◌·◌, many}
use Rattle.cw_grammar.specs.Rules.{name, raw_literal, int, sint, symbol, word as the_word, optional, commas, ◌*>◌}
use Rattle.cw_grammar.specs.Statements.{semicolons, separator, separated, in_round, in_square, listed, preset_value, place, further_places, presets, assigned, preset, range, bounds, group, elem, table, elems_behind, table_body, data_table, singles, arrays, item_data, base, overlay, ptag, worded_ips, ips, ips_list, procedure_ps, ps, spec_behind, spec, citem, typed_aitem, unplaced_aitem, aitem, comm}
use Rattle.cw_show.specs.Spelling as shown
use Rattle.cw_show.specs.Spelling.{Spelling}
use Rattle.cw_show.specs.Canonical.{Tokens, name as the_name, number, literal, octal_tokens, int_tokens, sint_tokens, sign_tokens, size_tokens, type_tokens, behind_each, between, listed as listed_tokens, comma, semicolon}
use Rattle.cw_show.specs.ItemTokens.{name_tokens, names_tokens, place_tokens, places_tokens, assigned_tokens, preset_tokens, range_tokens, second_range_tokens, bounds_tokens, group_tokens, groups_tokens, unsigned_tokens, shape_tokens, two_ints, elem_tokens, elems_tokens, table_with, data_tokens, base_tokens, overlay_tokens}
use Rattle.cw_show.specs.SegmentTokens.{answer_tokens, tag, ips_tokens, ps_tokens, spec_tokens, citem_tokens, address_tokens, aitem_tokens, comm_tokens}
use Rattle.cw_read_back.proofs.Shorter.Lengths.{between_length, between_append, between_none, listed_most}
use Rattle.cw_tokens.proofs.Counting.{b_one, b_none, b_then, b_left, b_right, b_map, b_again, behind_counts, token_counts, name_counts, number_counts}
use Rattle.cw_read_back.proofs.Shorter.Built.{Built, Counts}
use Rattle.cw_read_back.proofs.Shorter.Expressions.{octal_counts, int_counts, front_counts, sint_counts, size_counts, type_counts, round_length}

-- ---- lists

pub some_counts : {s t : Sort} {g : Grammar s} {h : Grammar t} (w : Spelling) (f : Value s → Tokens) → Counts t h (λ y. 1) → Counts s g (λ x. length (f x)) → {x : Value s} {xs : List (Value s)} {u v : ℕ} → Built s g x u → Built (a_list s) (many (h *> g)) xs v → length (between w (map f (x ∷ xs))) ≤ u + v
some_counts w f l k {x = x} {xs = xs} {u = u} d e = omega (arith, between_length w f x xs, k x u d, behind_counts (λ y. length (f y)) l k e)

pub commas_counts : {s : Sort} {g : Grammar s} (f : Value s → Tokens) → Counts s g (λ x. length (f x)) → Counts (a_list s) (commas g) (λ xs. length (between comma (map f xs)))
commas_counts f k xs u (b_map (b_then d l)) = some_counts comma f token_counts k d l

pub semicolons_counts : {s : Sort} {g : Grammar s} (f : Value s → Tokens) → Counts s g (λ x. length (f x)) → Counts (a_list s) (semicolons g) (λ xs. length (between semicolon (map f xs)))
semicolons_counts f k xs u (b_map (b_then d l)) = some_counts semicolon f token_counts k d l

separator_counts : Counts a_token separator (λ x. 1)
separator_counts x u (b_left b_one) = omega arith
separator_counts x u (b_right b_one) = omega arith

separated_counts : {s : Sort} {g : Grammar s} (f : Value s → Tokens) → Counts s g (λ x. length (f x)) → Counts (a_list s) (separated g) (λ xs. length (between comma (map f xs)))
separated_counts f k xs u (b_map (b_then d l)) = some_counts comma f separator_counts k d l

pub listed_counts : {s : Sort} {g : Grammar (a_list s)} (w : Spelling) (f : Value s → Tokens) → Counts (a_list s) g (λ xs. length (between w (map f xs))) → Counts (a_list s) (listed (in_round g)) (λ xs. length (listed_tokens w (map f xs)))
listed_counts w f k xs u (b_left (b_map (b_then b_one (b_map (b_then {u = v} d b_one))))) = omega (arith, listed_most w f xs, k xs v d)
listed_counts w f k xs u (b_right b_none) = omega arith

one_name : Counts a_name name (λ n. length (name_tokens n))
one_name x u (b_map b_one) = omega arith

pub names_counts : Counts (a_list a_name) (commas name) (λ ns. length (names_tokens ns))
names_counts ns u d = commas_counts name_tokens one_name ns u d

-- ---- presets

preset_value_counts : Counts a_place preset_value (λ x. length (place_tokens x))
unfolding preset_value
preset_value_counts x u (b_map (b_then {u = v} {v = w} {x = s} d (b_left (b_map {x = n} e)))) = omega (arith, length-append (sign_tokens s) (number n.number ∷ []), front_counts s v d, number_counts n w e)
preset_value_counts x u (b_map (b_then {u = v} {v = w} {x = s} d (b_right (b_left (b_map {x = n} e))))) = omega (arith, length-append (sign_tokens s) (octal_tokens n), front_counts s v d, octal_counts n w e)
preset_value_counts x u (b_map (b_then {u = v} {x = s} d (b_right (b_right (b_map {x = t} b_one))))) = omega (arith, length-append (sign_tokens s) (literal (raw_literal t).byte ∷ []), front_counts s v d)

place_counts : (p : Position) {f : Position → List RawPlace} {u : ℕ} → Built (a_from a_position (a_list a_place)) place f u → length (places_tokens (f p)) ≤ u
unfolding place
place_counts p (b_left (b_map (b_then {x = t} b_one (b_then (b_again h) b_one)))) = omega (arith, h (position t))
place_counts p (b_right (b_left (b_map {u = v} {x = y} d))) = omega (arith, preset_value_counts y v d, length-append (place_tokens y) [])
place_counts p (b_right (b_right b_none)) = omega arith

further_counts : (xs : List RawPlace) {ys : List RawPlace} {u : ℕ} → Built (a_list a_place) further_places ys u → length (places_tokens (xs ++ ys)) ≤ length (places_tokens xs) + u
unfolding further_places
further_counts xs (b_left (b_map (b_then {x = t} b_one (b_again {x = f} h)))) = omega (arith, between_append comma place_tokens xs (f (position t)), h (position t))
further_counts xs (b_right b_none) = omega (arith, between_none comma place_tokens xs)

pub presets_counts : {f : Position → List RawPlace} {u : ℕ} → Built (a_from a_position (a_list a_place)) presets f u → (p : Position) → length (places_tokens (f p)) ≤ u
unfolding presets
presets_counts (b_map (b_then {x = g} d e)) p = omega (arith, place_counts p d, further_counts (g p) e)

assigned_counts : Counts a_presets assigned (λ x. suc (length (places_tokens x.places)))
unfolding assigned
assigned_counts x u (b_map (b_then {x = t} b_one (b_again h))) = omega (arith, h (position t))

preset_counts : Counts a_presets preset (λ x. suc (length (places_tokens x.places)))
unfolding preset
preset_counts x u (b_map (b_then {x = t} b_one (b_again h))) = omega (arith, h (position t))

may_be_assigned : Counts (an_option a_presets) (optional assigned) (λ o. length (assigned_tokens o))
may_be_assigned o u (b_left (b_map {u = v} {x = p} d)) = omega (arith, assigned_counts p v d)
may_be_assigned o u (b_right b_none) = omega arith

-- ---- bounds and elements

range_counts : Counts a_range range (λ x. length (range_tokens x))
unfolding range
range_counts x u (b_map (b_then {u = v} {x = a} d (b_map (b_then {v = w} {y = b} b_one e)))) = omega (arith, length-append (sint_tokens a) (shown.symbol symbols.Colon ∷ sint_tokens b), sint_counts a v d, sint_counts b w e)

bounds_counts : Counts a_bounds bounds (λ x. length (range_tokens x.first) + length (second_range_tokens x.second))
unfolding bounds
bounds_counts x u (b_map (b_then {u = v} {x = a} d (b_left (b_map (b_map (b_then {v = w} {y = b} b_one e)))))) = omega (arith, range_counts a v d, range_counts b w e)
bounds_counts x u (b_map (b_then {u = v} {x = a} d (b_right b_none))) = omega (arith, range_counts a v d)

pub squared_counts : Counts a_bounds (in_square bounds) (λ x. length (bounds_tokens x))
squared_counts x u (b_map (b_then b_one (b_map (b_then {u = v} d b_one)))) =
    let a = length-append (range_tokens x.first) (second_range_tokens x.second ++ shown.symbol symbols.CloseSquare ∷ []) in
    let b = length-append (second_range_tokens x.second) (shown.symbol symbols.CloseSquare ∷ []) in
    omega (arith, bounds_counts x v d, a, b)

group_counts : Counts a_group group (λ x. length (group_tokens x))
unfolding group
group_counts x u (b_map (b_then {u = v} {v = w} {x = ns} {y = b} d e)) = omega (arith, length-append (names_tokens ns) (bounds_tokens b), names_counts ns v d, squared_counts b w e)

unsigned_counts : Counts (an_option a_token) (optional (the_word words.Unsigned)) (λ o. length (unsigned_tokens (is_some o)))
unsigned_counts o u (b_left (b_map b_one)) = omega arith
unsigned_counts o u (b_right b_none) = omega arith

shape_counts : Counts (a_pair an_int a_sint) (in_round (int · (symbol symbols.Comma *> sint))) (λ x. 3 + (length (int_tokens x.0) + length (sint_tokens x.1)))
shape_counts x u (b_map (b_then b_one (b_map (b_then (b_then {u = v} {x = t} d (b_map (b_then {v = w} {y = f} b_one e))) b_one)))) = omega (arith, int_counts t v d, sint_counts f w e)

part_length : (n : RawName) (u : Bool) (t : RawInt) (f : RawSint) (w b : RawInt) → length (elem_tokens (elem_tree.Part n u t f w b)) ≡ 5 + (length (unsigned_tokens u) + (length (int_tokens t) + length (sint_tokens f) + (length (int_tokens w) + length (int_tokens b))))
part_length n u t f w b =
    let i = length-append (shape_tokens u t f) (two_ints w b) in
    let j = length-append (unsigned_tokens u) (shown.symbol symbols.Open ∷ (int_tokens t ++ comma ∷ (sint_tokens f ++ shown.symbol symbols.Close ∷ []))) in
    let k = length-append (int_tokens t) (comma ∷ (sint_tokens f ++ shown.symbol symbols.Close ∷ [])) in
    let l = length-append (sint_tokens f) (shown.symbol symbols.Close ∷ []) in
    let m = length-append (int_tokens w) (comma ∷ int_tokens b) in
    omega (arith, i, j, k, l, m)

elem_counts : Counts an_elem elem (λ x. length (elem_tokens x))
unfolding elem
elem_counts x u (b_map (b_then {u = a} {x = n} d (b_left (b_map (b_then {u = v} {v = w} {x = t} {y = i} e f))))) = omega (arith, length-append (type_tokens t) (int_tokens i), name_counts n a d, type_counts t v e, int_counts i w f)
elem_counts x u (b_map (b_then {u = a} {x = n} d (b_right (b_map (b_then {u = b} {x = o} e (b_then {u = c} {x = y} r (b_then {u = v} {x = i} f (b_map (b_then {v = w} {y = j} b_one k))))))))) =
    omega (arith, part_length n (is_some o) y.0 y.1 i j, name_counts n a d, unsigned_counts o b e, shape_counts y c r, int_counts i v f, int_counts j w k)

-- ---- tables and data

table_length : (t : RawTable) (inside : Tokens) → length (table_with t inside) ≡ 4 + (length (size_tokens t.size) + (length (elems_tokens t.elems) + length inside))
table_length t inside =
    let a = length-append (size_tokens t.size) (shown.symbol symbols.OpenSquare ∷ (elems_tokens t.elems ++ (inside ++ shown.symbol symbols.CloseSquare ∷ []))) in
    let b = length-append (elems_tokens t.elems) (inside ++ shown.symbol symbols.CloseSquare ∷ []) in
    let c = length-append inside (shown.symbol symbols.CloseSquare ∷ []) in
    omega (arith, a, b, c)

elems_counts : Counts (a_list an_elem) (listed (semicolons elem)) (λ es. length (elems_tokens es))
elems_counts es u (b_left d) = semicolons_counts elem_tokens elem_counts es u d
elems_counts es u (b_right b_none) = omega arith

pub table_counts : Counts a_table table (λ t. length (table_with t []))
unfolding table
table_counts x u (b_map (b_then b_one (b_then {u = v} {x = n} d (b_then {u = w} {x = z} e (b_map (b_then b_one (b_map (b_then {u = q} {x = es} l b_one)))))))) =
    omega (arith, table_length x [], name_counts n v d, size_counts z w e, elems_counts es q l)

pub elems_behind_counts : Counts (a_pair (a_list an_elem) (an_option a_presets)) elems_behind (λ x. length (behind_each semicolon (map elem_tokens x.0)) + length (preset_tokens x.1))
unfolding elems_behind
elems_behind_counts x u (b_left (b_map (b_then b_one (b_left (b_map (b_then {u = v} {x = y} d (b_again {x = z} h))))))) =
    omega (arith, length-append (elem_tokens y) (behind_each semicolon (map elem_tokens z.0)), elem_counts y v d, h)
elems_behind_counts x u (b_left (b_map (b_then b_one (b_right (b_map {u = v} {x = p} d))))) = omega (arith, preset_counts p v d)
elems_behind_counts x u (b_right (b_left (b_map {u = v} {x = p} d))) = omega (arith, preset_counts p v d)
elems_behind_counts x u (b_right (b_right b_none)) = omega arith

body_counts : Counts (a_pair (a_list an_elem) (an_option a_presets)) table_body (λ x. length (elems_tokens x.0) + length (preset_tokens x.1))
unfolding table_body
body_counts x u (b_left (b_map (b_then {u = v} {x = y} d (b_again {x = z} h)))) = omega (arith, length-append (elem_tokens y) (behind_each semicolon (map elem_tokens z.0)), elem_counts y v d, h)
body_counts x u (b_right (b_left (b_map {u = v} {x = p} d))) = omega (arith, preset_counts p v d)
body_counts x u (b_right (b_right (b_left (b_map (b_then b_one (b_map {u = v} {x = p} d)))))) = omega (arith, preset_counts p v d)
body_counts x u (b_right (b_right (b_right b_none))) = omega arith

pub data_table_counts : Counts a_data data_table (λ x. length (data_tokens x))
unfolding data_table
data_table_counts x u (b_map (b_then {x = h} b_one (b_then {u = v} {x = n} d (b_then {u = w} {x = z} e (b_then {v = q} {y = o} (b_map (b_then b_one (b_map (b_then {u = k} {x = b} l b_one)))) m))))) =
    let t : RawTable = record { at = position h; name = n; size = z; elems = b.0 } in
    omega (arith, length-append (table_with t (preset_tokens b.1)) (assigned_tokens o), table_length t (preset_tokens b.1), name_counts n v d, size_counts z w e, body_counts b k l, may_be_assigned o q m)

pub singles_counts : (t : RawType) {f : RawType → RawData} {u : ℕ} → Built (a_from a_type a_data) singles f u → length (data_tokens (f t)) ≤ length (type_tokens t) + u
unfolding singles
singles_counts t (b_map (b_then {u = v} {v = w} {x = ns} {y = o} d e)) =
    omega (arith, length-append (type_tokens t) (names_tokens ns ++ assigned_tokens o), length-append (names_tokens ns) (assigned_tokens o), names_counts ns v d, may_be_assigned o w e)

pub arrays_counts : (t : RawType) {f : RawType → RawData} {u : ℕ} → Built (a_from a_type a_data) arrays f u → length (data_tokens (f t)) ≤ length (type_tokens t) + u
unfolding arrays
arrays_counts t (b_map (b_map (b_then b_one (b_then {u = v} {v = w} {x = gs} {y = o} d e)))) =
    omega (arith, length-append (type_tokens t) (shown.word words.Array ∷ (groups_tokens gs ++ assigned_tokens o)), length-append (groups_tokens gs) (assigned_tokens o), commas_counts group_tokens group_counts gs v d, may_be_assigned o w e)

data_counts : Counts a_data item_data (λ x. length (data_tokens x))
unfolding item_data
data_counts x u (b_left (b_map (b_then {u = v} {x = t} d (b_left e)))) = omega (arith, type_counts t v d, singles_counts t e)
data_counts x u (b_left (b_map (b_then {u = v} {x = t} d (b_right e)))) = omega (arith, type_counts t v d, arrays_counts t e)
data_counts x u (b_right d) = data_table_counts x u d

base_counts : Counts a_base base (λ x. length (base_tokens x))
unfolding base
base_counts x u (b_map (b_then {u = v} {x = n} d (b_left (b_map (b_map (b_then b_one (b_map (b_then (b_then {u = w} {x = i} e (b_left (b_map (b_map (b_then {v = z} {y = j} b_one f))))) b_one)))))))) =
    omega (arith, length-append (sint_tokens i) (comma ∷ (sint_tokens j ++ shown.symbol symbols.CloseSquare ∷ [])), length-append (sint_tokens j) (shown.symbol symbols.CloseSquare ∷ []), name_counts n v d, sint_counts i w e, sint_counts j z f)
base_counts x u (b_map (b_then {u = v} {x = n} d (b_left (b_map (b_map (b_then b_one (b_map (b_then (b_then {u = w} {x = i} e (b_right b_none)) b_one)))))))) =
    omega (arith, length-append (sint_tokens i) (shown.symbol symbols.CloseSquare ∷ []), name_counts n v d, sint_counts i w e)
base_counts x u (b_map (b_then {u = v} {x = n} d (b_right b_none))) = omega (arith, name_counts n v d)

pub overlay_counts : Counts (a_pair a_token (a_pair a_base a_data)) overlay (λ x. length (overlay_tokens x.1.0 x.1.1))
unfolding overlay
overlay_counts x u (b_then b_one (b_then {u = v} {x = b} d (b_map (b_then {v = w} {y = i} b_one e)))) = omega (arith, length-append (base_tokens b) (shown.word words.With ∷ data_tokens i), base_counts b v d, data_counts i w e)

-- ---- specifications

pub tag_counts : Counts a_ptag ptag (λ x. 1)
unfolding ptag
tag_counts x u (b_left (b_map b_one)) = omega arith
tag_counts x u (b_right (b_map (b_map (b_then b_one d)))) = omega arith

worded_counts : Counts an_ips worded_ips (λ x. length (ips_tokens x))
unfolding worded_ips
worded_counts x u (b_left (b_map (b_then {v = v} {y = t} b_one d))) = omega (arith, type_counts t v d)
worded_counts x u (b_right (b_left (b_map (b_then {v = v} {y = t} b_one d)))) = omega (arith, type_counts t v d)
worded_counts x u (b_right (b_right (b_left (b_map (b_then {v = v} {y = z} b_one d))))) = omega (arith, size_counts z v d)
worded_counts x u (b_right (b_right (b_right (b_left (b_map b_one))))) = omega arith
worded_counts x u (b_right (b_right (b_right (b_right (b_map b_one))))) = omega arith

ips_counts : Counts an_ips ips (λ x. length (ips_tokens x))
unfolding ips
ips_counts x u (b_left d) = worded_counts x u d
ips_counts x u (b_right (b_map (b_map (b_then {u = v} {x = t} d b_one)))) = omega (arith, length-append (type_tokens t) (shown.word words.Array ∷ []), type_counts t v d)

pub ips_list_counts : Counts (a_list an_ips) ips_list (λ xs. length (listed_tokens comma (map ips_tokens xs)))
unfolding ips_list
ips_list_counts xs u d = listed_counts comma ips_tokens (separated_counts {s = an_ips} {g = ips} ips_tokens ips_counts) xs u d

procedure_counts : (o : Option RawType) {f : Option RawType → RawPs} {u : ℕ} → Built (a_from (an_option a_type) a_ps) procedure_ps f u → length (ps_tokens (f o)) ≤ length (answer_tokens o) + u
unfolding procedure_ps
procedure_counts o (b_map (b_then {v = v} {y = is} b_one l)) = omega (arith, length-append (answer_tokens o) (shown.word words.Procedure ∷ listed_tokens comma (map ips_tokens is)), ips_list_counts is v l)

ps_counts : Counts a_ps ps (λ x. length (ps_tokens x))
unfolding ps
ps_counts x u (b_left (b_map (b_then {u = v} {x = t} d (b_left (b_map b_one))))) = omega (arith, length-append (type_tokens t) (shown.word words.Array ∷ []), type_counts t v d)
ps_counts x u (b_left (b_map (b_then {u = v} {x = t} d (b_right (b_map f))))) = omega (arith, type_counts t v d, procedure_counts (Some t) f)
ps_counts x u (b_right (b_left (b_map f))) = omega (arith, procedure_counts None f)
ps_counts x u (b_right (b_right (b_map {u = v} {x = i} d))) = omega (arith, worded_counts i v d)

spec_behind_counts : (o : Option RawType) {f : Option RawType → RawSpec} {u : ℕ} → Built (a_from (an_option a_type) a_spec) spec_behind f u → length (spec_tokens (f o)) ≤ length (answer_tokens o) + u
unfolding spec_behind
spec_behind_counts o (b_map (b_then {u = v} {x = g} t (b_then {u = w} {v = z} {x = n} {y = qs} d l))) =
    omega (arith, length-append (answer_tokens o) (tag g ∷ the_name n.name ∷ listed_tokens comma (map ps_tokens qs)), tag_counts g v t, name_counts n w d, listed_counts comma ps_tokens (separated_counts {s = a_ps} {g = ps} ps_tokens ps_counts) qs z l)

spec_counts : Counts a_spec spec (λ x. length (spec_tokens x))
unfolding spec
spec_counts x u (b_left (b_map (b_then {u = v} {x = t} d (b_map f)))) = omega (arith, type_counts t v d, spec_behind_counts (Some t) f)
spec_counts x u (b_right (b_map f)) = omega (arith, spec_behind_counts None f)

-- ---- communicators

citem_counts : Counts a_citem citem (λ x. length (citem_tokens x))
unfolding citem
citem_counts x u (b_left (b_map (b_then {u = v} {x = t} d (b_left (b_map e))))) = omega (arith, type_counts t v d, singles_counts t e)
citem_counts x u (b_left (b_map (b_then {u = v} {x = t} d (b_right (b_left (b_map e)))))) = omega (arith, type_counts t v d, arrays_counts t e)
citem_counts x u (b_left (b_map (b_then {u = v} {x = t} d (b_right (b_right (b_map e)))))) = omega (arith, type_counts t v d, spec_behind_counts (Some t) e)
citem_counts x u (b_right (b_left (b_map {u = v} {x = y} d))) = omega (arith, data_table_counts y v d)
citem_counts x u (b_right (b_right (b_left (b_map {u = v} {x = y} d)))) = omega (arith, overlay_counts y v d)
citem_counts x u (b_right (b_right (b_right (b_left (b_map (b_then {v = v} {y = ns} b_one d)))))) = omega (arith, names_counts ns v d)
citem_counts x u (b_right (b_right (b_right (b_right (b_left (b_map (b_then {v = v} {y = ns} b_one d))))))) = omega (arith, names_counts ns v d)
citem_counts x u (b_right (b_right (b_right (b_right (b_right (b_map d)))))) = omega (arith, spec_behind_counts None d)

typed_counts : (t : RawType) (a : RawInt) {f : RawType → RawInt → RawAitem} {u : ℕ} → Built (a_from a_type (a_from an_int an_aitem)) typed_aitem f u → length (aitem_tokens (f t a)) ≤ length (type_tokens t) + u + suc (length (int_tokens a))
unfolding typed_aitem
typed_counts t a (b_left (b_map {u = v} {x = n} d)) = omega (arith, length-append (type_tokens t) (the_name n.name ∷ address_tokens a), name_counts n v d)
typed_counts t a (b_right (b_map (b_map (b_then b_one (b_then {u = v} {v = w} {x = n} {y = b} d e))))) =
    omega (arith, length-append (type_tokens t) (shown.word words.Array ∷ the_name n.name ∷ (bounds_tokens b ++ address_tokens a)), length-append (bounds_tokens b) (address_tokens a), name_counts n v d, squared_counts b w e)

unplaced_counts : (a : RawInt) {f : RawInt → RawAitem} {u : ℕ} → Built (a_from an_int an_aitem) unplaced_aitem f u → length (aitem_tokens (f a)) ≤ u + suc (length (int_tokens a))
unfolding unplaced_aitem
unplaced_counts a (b_left (b_map (b_then {u = v} {x = t} d e))) = omega (arith, type_counts t v d, typed_counts t a e)
unplaced_counts a (b_right (b_map {u = v} {x = t} d)) = omega (arith, length-append (table_with t []) (address_tokens a), table_counts t v d)

aitem_counts : Counts an_aitem aitem (λ x. length (aitem_tokens x))
unfolding aitem
aitem_counts x u (b_map (b_then d (b_map (b_then {v = v} {y = a} b_one e)))) = omega (arith, unplaced_counts a d, int_counts a v e)

pub comm_counts : Counts a_comm comm (λ x. length (comm_tokens x))
unfolding comm
comm_counts x u (b_left (b_map (b_then b_one (b_map (b_then b_one (b_map (b_then {u = v} {x = is} l b_one))))))) =
    omega (arith, round_length (between semicolon (map citem_tokens is)), semicolons_counts citem_tokens citem_counts is v l)
comm_counts x u (b_right (b_left (b_map (b_then b_one (b_map (b_then b_one (b_map (b_then {u = v} {x = is} l b_one)))))))) =
    omega (arith, round_length (between semicolon (map spec_tokens is)), semicolons_counts spec_tokens spec_counts is v l)
comm_counts x u (b_right (b_right (b_map (b_then b_one (b_map (b_then b_one (b_map (b_then {u = v} {x = is} l b_one)))))))) =
    omega (arith, round_length (between semicolon (map aitem_tokens is)), semicolons_counts aitem_tokens aitem_counts is v l)
