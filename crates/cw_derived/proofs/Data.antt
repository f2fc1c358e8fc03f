-- Presets, data and what is overlaid, in normal form.
use Rattle.std.proofs.Common.{ℕ, Bool, List, [], ◌∷◌, ◌++◌, Option, None, is_some, sym, ap, subst, ◌∙◌, append-nil, append_assoc}
use Rattle.cw_tree.specs.declared.leaf.Position.{Position}
use Rattle.cw_tree.specs.declared.leaf.RawName.{RawName}
use Rattle.cw_tree.specs.declared.leaf.RawInt.{RawInt}
use Rattle.cw_tree.specs.declared.leaf.RawSint.{RawSint}
use Rattle.cw_tree.specs.declared.leaf.RawSize.{RawSize}
use Rattle.cw_tree.specs.declared.leaf.RawType.{RawType}
use Rattle.cw_tree.specs.declared.items.RawPlace.{RawPlace}
use Rattle.cw_tree.specs.declared.items.RawElem.{RawElem}
use Rattle.cw_tree.specs.declared.items.RawElem.TheVariants as elem_tree
use Rattle.cw_tree.specs.declared.items.RawData.TheVariants as data_tree
use Rattle.cw_tree.specs.declared.items.RawBase.{RawBase}
use Rattle.cw_tree.specs.declared.items.RawBase.TheVariants as base_tree
use Rattle.cw_tree.specs.declared.items.RawPresets.{RawPresets}
use Rattle.cw_tree.specs.declared.items.RawData.{RawData}
use Rattle.cw_grammar.specs.Tokens.{Item, position}
use Rattle.cw_grammar.specs.Grammar.{◌·◌, Sort, a_token, a_pair, a_list, an_option, a_from, a_position, a_name, an_int, a_sint, a_size, a_type, a_range, a_bounds, a_group, an_elem, a_place, a_presets, a_table, a_data, a_base, Value}
use Rattle.cw_lex.specs.declared.token.Symbol.TheVariants as symbols
use Rattle.cw_grammar.specs.Rules.{symbol, ◌*>◌, optional, int, sint, raw_literal}
use Rattle.cw_grammar.specs.Statements.{semicolons, listed, in_square, preset_value, place, further_places, presets, assigned, preset, range, bounds, group, elem, table, elems_behind, table_body, data_table, singles, arrays, item_data, base, base_of, overlay}
use Rattle.cw_derived.specs.Marks.{mark, mark_behind, Within, empty, kept, skipped}
use Rattle.cw_derived.specs.NormalForm.{IsNormal, no_more, absent, present, both, is_literal, void, number_place, octal_place, literal_place, is_presets, is_range, is_bounds, is_group, word_elem, part_elem, is_table, single_data, array_data, table_data, name_base, one_base, two_base}
use Rattle.cw_derived.specs.Proper.{IsNormalWithin}
use Rattle.cw_derived.proofs.Withins.{join, front, beyond, twice, all_within}
use Rattle.cw_derived.proofs.Built.{Gives, Built, Filled, filled, marks_of, b_one, b_none, b_then, b_left, b_right, b_map, b_again, after, some, cons_made, no_cons, no_items, one_item, before, two, optional_normal, second_normal, some_normal, round_normal, square_normal, in_a_row}
use Rattle.cw_derived.proofs.Leaves.{name_normal, number_normal, octal_normal, int_normal, sign_normal, sint_normal, type_normal, size_normal}
use Rattle.cw_derived.proofs.Operands.{appended}

-- ---- presets

value_normal : {n : ℕ} {p : Bool} → Gives n p a_place preset_value
unfolding preset_value
value_normal x ns (b_map (b_then o (b_left (b_map d)))) = in_a_row (optional_normal sign_normal o) (number_normal _ _ d) (λ a b h k. number_place h k)
value_normal x ns (b_map (b_then o (b_right (b_left (b_map d))))) = in_a_row (optional_normal sign_normal o) (octal_normal _ _ d) (λ a b h k. octal_place h k)
value_normal x ns (b_map (b_then o (b_right (b_right (b_map (b_one {t = t} e)))))) =
    let s = optional_normal sign_normal o in
    record { marks = s.marks ++ mark (position t) ∷ []; within = join s.within (kept (skipped empty)); normal = literal_place s.normal (is_literal (raw_literal t)) }

widened : {n : ℕ} {p : Bool} {s : Sort} {xs : List (Value s)} {a b : List ℕ} → Filled n p s xs a → Within a b → Filled n p s xs b
widened (filled k) w = filled (record { marks = k.marks; within = twice k.within w; normal = k.normal })

filled_list : {n : ℕ} {p : Bool} {s : Sort} {xs : List (Value s)} {a : List ℕ} → Filled n p s xs a → IsNormalWithin n p (a_list s) xs a
filled_list (filled k) = k

filled_more : {n : ℕ} {p : Bool} {s : Sort} {xs ys : List (Value s)} {a b : List ℕ} → Filled n p s xs a → IsNormalWithin n p (a_list s) ys b → Filled n p s (xs ++ ys) (a ++ b)
filled_more (filled k) m = filled (in_a_row k m (λ a b g l. appended g l))

place_fine : {n : ℕ} {p : Bool} {f : Position → List RawPlace} {ns : List ℕ} → Built n p (a_from a_position (a_list a_place)) place f ns → (at : Position) → Filled n p a_place (f at) (mark_behind at ∷ ns)
unfolding place
place_fine (b_left (b_map (b_then (b_one {t = t} e) (b_then {u = u} {v = v} (b_again h) c)))) at = widened (h (position t)) (skipped (skipped (kept (front v (all_within u)))))
place_fine (b_right (b_left (b_map {u = u} d))) at = widened (filled (one_item (value_normal _ _ d))) (skipped (all_within u))
place_fine (b_right (b_right b_none)) at = filled (one_item (record { marks = mark_behind at ∷ []; within = kept empty; normal = void at }))

further_normal : {n : ℕ} {p : Bool} → Gives n p (a_list a_place) further_places
unfolding further_places
further_normal x ns (b_left (b_map (b_then (b_one {t = t} e) (b_again h)))) = let k = filled_list (h (position t)) in record { marks = k.marks; within = skipped k.within; normal = k.normal }
further_normal x ns (b_right b_none) = no_items []

pub presets_fine : {n : ℕ} {p : Bool} {f : Position → List RawPlace} {ns : List ℕ} → Built n p (a_from a_position (a_list a_place)) presets f ns → (at : Position) → Filled n p a_place (f at) (mark_behind at ∷ ns)
unfolding presets
presets_fine (b_map (b_then d e)) at = filled_more (place_fine d at) (further_normal _ _ e)

presets_of : {n : ℕ} {p : Bool} (at : Position) {xs : List RawPlace} {u : List ℕ} → Filled n p a_place xs (mark_behind at ∷ u) → IsNormalWithin n p a_presets (record { at = at; places = xs }) (mark at ∷ mark_behind at ∷ u)
presets_of at (filled k) = record { marks = mark at ∷ k.marks; within = kept k.within; normal = is_presets at k.normal }

assigned_normal : {n : ℕ} {p : Bool} → Gives n p a_presets assigned
unfolding assigned
assigned_normal x ns (b_map (b_then (b_one {t = t} e) (b_again h))) = presets_of (position t) (h (position t))

preset_normal : {n : ℕ} {p : Bool} → Gives n p a_presets preset
unfolding preset
preset_normal x ns (b_map (b_then (b_one {t = t} e) (b_again h))) = presets_of (position t) (h (position t))

-- ---- data

pub range_normal : {n : ℕ} {p : Bool} → Gives n p a_range range
unfolding range
range_normal x ns (b_map (b_then d e)) = in_a_row (sint_normal _ _ d) (second_normal sint_normal e) (λ a b h k. is_range h k)

pub bounds_normal : {n : ℕ} {p : Bool} → Gives n p a_bounds bounds
unfolding bounds
bounds_normal x ns (b_map (b_then d e)) = in_a_row (range_normal _ _ d) (optional_normal (λ y ms b. second_normal range_normal b) e) (λ a b h k. is_bounds h k)

pub group_normal : {n : ℕ} {p : Bool} → Gives n p a_group group
unfolding group
group_normal x ns (b_map (b_then (b_map (b_then d e)) i)) = in_a_row (some_normal name_normal d e) (square_normal bounds_normal _ _ i) (λ a b h k. is_group h k)

part_in : {n : ℕ} {p : Bool} {f : RawName} (u : Bool) {y : RawInt × RawSint} {w i : RawInt} {a b d e : List ℕ} → IsNormal n p a_name f a → IsNormal n p (a_pair an_int a_sint) y b → IsNormal n p an_int w d → IsNormal n p an_int i e
    → IsNormal n p an_elem (elem_tree.Part f u y.0 y.1 w i) (a ++ (b ++ (d ++ e)))
part_in u g (both h k) l m = part_elem u g h k l m

part_normal : {n : ℕ} {p : Bool} → Gives n p (a_pair an_int a_sint) (int · (symbol symbols.Comma *> sint))
part_normal x ns (b_then d e) = two (int_normal _ _ d) (second_normal sint_normal e)

pub elem_normal : {n : ℕ} {p : Bool} → Gives n p an_elem elem
unfolding elem
elem_normal x ns (b_map (b_then d (b_left (b_map (b_then t i))))) =
    let g = name_normal _ _ d in
    let h = type_normal _ _ t in
    let k = int_normal _ _ i in
    record { marks = g.marks ++ (h.marks ++ k.marks); within = join g.within (join h.within k.within); normal = word_elem g.normal h.normal k.normal }
elem_normal x ns (b_map (b_then d (b_right (b_map (b_then {u = u} {x = o} unsigned (b_then r (b_then w i))))))) =
    let g = name_normal _ _ d in
    let h = round_normal part_normal _ _ r in
    let k = int_normal _ _ w in
    let l = second_normal int_normal i in
    record { marks = g.marks ++ (h.marks ++ (k.marks ++ l.marks)); within = join g.within (beyond u (join h.within (join k.within l.within))); normal = part_in (is_some o) g.normal h.normal k.normal l.normal }

elems_normal : {n : ℕ} {p : Bool} → Gives n p (a_list an_elem) (listed (semicolons elem))
elems_normal x ns (b_left (b_map (b_then d e))) = some_normal elem_normal d e
elems_normal x ns (b_right b_none) = no_items []

pub table_normal : {n : ℕ} {p : Bool} → Gives n p a_table table
unfolding table
table_normal x ns (b_map (b_then (b_one {t = t} e) (b_then d (b_then z i)))) =
    let g = name_normal _ _ d in
    let h = size_normal _ _ z in
    let k = square_normal elems_normal _ _ i in
    record { marks = mark (position t) ∷ (g.marks ++ (h.marks ++ k.marks)); within = kept (skipped (join g.within (join h.within k.within))); normal = is_table (position t) g.normal h.normal k.normal }

-- ---- elements with presets behind them

no_body : {n : ℕ} {p : Bool} → IsNormalWithin n p (a_pair (a_list an_elem) (an_option a_presets)) ([], None) []
no_body = record { marks = []; within = empty; normal = both no_more absent }

pub behind_normal : {n : ℕ} {p : Bool} → Gives n p (a_pair (a_list an_elem) (an_option a_presets)) elems_behind
unfolding elems_behind
behind_normal x ns (b_left (b_map (b_then {u = u} s (b_left (b_map (b_then d (b_again h))))))) = after u (cons_made (elem_normal _ _ d) h)
behind_normal x ns (b_left (b_map (b_then {u = u} s (b_right (b_map d))))) = after u (no_cons (some (preset_normal _ _ d)))
behind_normal x ns (b_right (b_left (b_map d))) = no_cons (some (preset_normal _ _ d))
behind_normal x ns (b_right (b_right b_none)) = no_body

body_normal : {n : ℕ} {p : Bool} → Gives n p (a_pair (a_list an_elem) (an_option a_presets)) table_body
unfolding table_body
body_normal x ns (b_left (b_map (b_then d (b_again h)))) = cons_made (elem_normal _ _ d) h
body_normal x ns (b_right (b_left (b_map d))) = no_cons (some (preset_normal _ _ d))
body_normal x ns (b_right (b_right (b_left (b_map (b_then {u = u} s (b_map d)))))) = after u (no_cons (some (preset_normal _ _ d)))
body_normal x ns (b_right (b_right (b_right b_none))) = no_body

whole_table : {n : ℕ} {p : Bool} (at : Position) {f : RawName} {z : RawSize} {y : List RawElem × Option RawPresets} {o : Option RawPresets} {a b c d : List ℕ} → IsNormal n p a_name f a → IsNormal n p a_size z b → IsNormal n p (a_pair (a_list an_elem) (an_option a_presets)) y c → IsNormal n p (an_option a_presets) o d
    → IsNormal n p a_data (data_tree.Table (record { at = at; name = f; size = z; elems = y.0 }) y.1 o) (mark at ∷ (a ++ (b ++ (c ++ d))))
whole_table {n = n} {p = p} at {f = f} {z = z} {o = o} {a = a} {b = b} {d = d} g h (both {x = xs} {y = i} {a = c} {b = e} k l) m =
    subst (λ (w : List ℕ). IsNormal n p a_data (data_tree.Table (record { at = at; name = f; size = z; elems = xs }) i o) (mark at ∷ w))
    (append_assoc a (b ++ c) (e ++ d) ∙ ap (λ (w : List ℕ). a ++ w) (append_assoc b c (e ++ d)) ∙ ap (λ (w : List ℕ). a ++ (b ++ w)) (sym (append_assoc c e d)))
    (table_data (is_table at g h k) l m)

pub data_table_normal : {n : ℕ} {p : Bool} → Gives n p a_data data_table
unfolding data_table
data_table_normal x ns (b_map (b_then (b_one {t = t} e) (b_then d (b_then z (b_then i o))))) =
    let g = name_normal _ _ d in
    let h = size_normal _ _ z in
    let k = square_normal body_normal _ _ i in
    let l = optional_normal assigned_normal o in
    record { marks = mark (position t) ∷ (g.marks ++ (h.marks ++ (k.marks ++ l.marks))); within = kept (skipped (join g.within (join h.within (join k.within l.within)))); normal = whole_table (position t) g.normal h.normal k.normal l.normal }

pub singles_made : {n : ℕ} {p : Bool} {f : RawType → RawData} {ns : List ℕ} {t : RawType} {u : List ℕ} → IsNormalWithin n p a_type t u → Built n p (a_from a_type a_data) singles f ns → IsNormalWithin n p a_data (f t) (u ++ ns)
unfolding singles
singles_made g (b_map (b_then (b_map (b_then d e)) o)) =
    let h = some_normal name_normal d e in
    let k = optional_normal assigned_normal o in
    record { marks = g.marks ++ (h.marks ++ k.marks); within = join g.within (join h.within k.within); normal = single_data g.normal h.normal k.normal }

pub arrays_made : {n : ℕ} {p : Bool} {f : RawType → RawData} {ns : List ℕ} {t : RawType} {u : List ℕ} → IsNormalWithin n p a_type t u → Built n p (a_from a_type a_data) arrays f ns → IsNormalWithin n p a_data (f t) (u ++ ns)
unfolding arrays
arrays_made g (b_map (b_map (b_then {u = v} w (b_then (b_map (b_then d e)) o)))) =
    let h = some_normal group_normal d e in
    let k = optional_normal assigned_normal o in
    record { marks = g.marks ++ (h.marks ++ k.marks); within = join g.within (beyond v (join h.within k.within)); normal = array_data g.normal h.normal k.normal }

pub data_normal : {n : ℕ} {p : Bool} → Gives n p a_data item_data
unfolding item_data
data_normal x ns (b_left (b_map (b_then t (b_left d)))) = singles_made (type_normal _ _ t) d
data_normal x ns (b_left (b_map (b_then t (b_right d)))) = arrays_made (type_normal _ _ t) d
data_normal x ns (b_right d) = data_table_normal _ _ d

base_in : {n : ℕ} {p : Bool} {f : RawName} {o : Option (RawSint × Option RawSint)} {a b : List ℕ} → IsNormal n p a_name f a → IsNormal n p (an_option (a_pair a_sint (an_option a_sint))) o b → IsNormal n p a_base (base_of f o) (a ++ b)
base_in {n = n} {p = p} {f = f} {a = a} g absent = subst (λ (z : List ℕ). IsNormal n p a_base (base_tree.Name f) z) (sym (append-nil a)) (name_base g)
base_in {n = n} {p = p} {f = f} {a = a} g (present (both {x = x} {a = b} h absent)) = subst (λ (z : List ℕ). IsNormal n p a_base (base_tree.One f x) (a ++ z)) (sym (append-nil b)) (one_base g h)
base_in g (present (both h (present k))) = two_base g h k

second_index : {n : ℕ} {p : Bool} → Gives n p a_sint (symbol symbols.Comma *> sint)
second_index x ns d = second_normal sint_normal d

indexes_normal : {n : ℕ} {p : Bool} → Gives n p (a_pair a_sint (an_option a_sint)) (in_square (sint · optional (symbol symbols.Comma *> sint)))
indexes_normal x ns (b_map (b_then {u = u} o (b_map (b_then {v = v} (b_then d e) c)))) = after u (before v (two (sint_normal _ _ d) (optional_normal second_index e)))

pub base_normal : {n : ℕ} {p : Bool} → Gives n p a_base base
unfolding base
base_normal x ns (b_map (b_then d o)) = in_a_row (name_normal _ _ d) (optional_normal indexes_normal o) (λ a b h k. base_in h k)

-- OVERLAY, its base and its data
pub data Overlaid (n : ℕ) (p : Bool) : Item × (RawBase × RawData) → List ℕ → Type 0 where
  overlaid : {t : Item} {x : RawBase} {y : RawData} {u v : List ℕ} → IsNormalWithin n p a_base x u → IsNormalWithin n p a_data y v → Overlaid n p (t, (x, y)) (marks_of t (u ++ v))

pub overlay_made : {n : ℕ} {p : Bool} {x : Item × (RawBase × RawData)} {ns : List ℕ} → Built n p (a_pair a_token (a_pair a_base a_data)) overlay x ns → Overlaid n p x ns
unfolding overlay
overlay_made (b_then (b_one {t = t} e) (b_then b d)) = overlaid (base_normal _ _ b) (second_normal data_normal d)
