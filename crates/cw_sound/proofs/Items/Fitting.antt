-- What is held at the start lies within the words of its thing.
use Rattle.std.proofs.Common.{◌≡◌, ℕ, zero, suc, ◌+◌, ◌*◌, ◌<◌, ◌≤◌, min, List, [], ◌∷◌, ◌++◌, length, take, drop, Bool, true, false, ◌&&◌, cond, nat_eq, nat_le, nat_lt, is_some, Option, Some, None, refl, sym, ap, subst, ◌∙◌, append_assoc, arith, ap₂, inl}
use Rattle.std.proofs.lemmas.Bool.Decides.{nat_tests}
use Rattle.indexmap.specs.IndexMap.{insert_entry}
use Rattle.cw_table.specs.declared.table.Row.{Row}
use Rattle.cw_tree.specs.declared.leaf.Position.{Position}
use Rattle.cw_tree.specs.declared.leaf.RawInt.{RawInt}
use Rattle.cw_tree.specs.declared.leaf.RawName.{RawName}
use Rattle.cw_tree.specs.declared.items.RawElem.{RawElem}
use Rattle.cw_tree.specs.declared.items.RawElem.TheVariants as elem
use Rattle.cw_tree.specs.declared.items.RawGroup.{RawGroup}
use Rattle.cw_tree.specs.declared.items.RawPlace.{RawPlace}
use Rattle.cw_tree.specs.declared.items.RawPresets.{RawPresets}
use Rattle.cw_tree.specs.declared.items.RawTable.{RawTable}
use Rattle.cw_tree.specs.declared.items.RawData.{RawData}
use Rattle.cw_tree.specs.declared.items.RawData.TheVariants as items
use Rattle.cw_amount.specs.Amounts.{place_amount, number_position}
use Rattle.cw_facts.specs.declared.fact.Fact.{Fact, out-Fact}
use Rattle.cw_scale.specs.declared.fault.Rule.TheVariants as rule
use Rattle.cw_scale.specs.Faults.{unless, both}
use Rattle.cw_scale.specs.Types.{int_judged, type_judged, scale_judged, is_field}
use Rattle.cw_scale.specs.Kinds.{fraction_of, element_fraction}
use Rattle.cw_data.specs.Data.{good_size, size_judged, is_within, element_judged, elements_judged, table_judged, data_judged}
use Rattle.cw_data.specs.Presets.{behind_each, table_words, table_entries}
use Rattle.cw_items.specs.declared.families.Site.{Site}
use Rattle.cw_items.specs.declared.thing.Base.{Base}
use Rattle.cw_items.specs.declared.thing.Owner.{Owner}
use Rattle.cw_items.specs.declared.thing.Sort.TheVariants as sort
use Rattle.cw_items.specs.declared.thing.Thing.{Thing}
use Rattle.cw_items.specs.Things.{capped, thing, moved, moved_past, named_things, group_words, groups_things, words_of_table, data_things, fact_texts, texts}
use Rattle.cw_judge.specs.Declarations.{presets_judged, declared_judged}
use Rattle.cw_make_items.specs.Types.{within, width_of}
use Rattle.cw_preset.specs.Strings.{Words, Rows, characters_from, string_words}
use Rattle.cw_preset.specs.Lists.{place_word, word_if, places_words, named_rows, groups_rows, word_in, element_put, element_word, stored, entry_words, entries_words, elements_words, singles_preset, groups_preset, table_preset, data_rows}
use Rattle.cw_sound.proofs.Items.Lists.{In, in-left, in-right, each-append}
use Rattle.cw_sound.proofs.Expressions.Judging.{keeps_int, keeps_scale, keeps_unless, keeps_both, both_free, holds}
use Rattle.cw_sound.proofs.Items.Keeping.{keeps_elements, keeps_presets}
use Rattle.cw_macro.specs.Premises.{Each}

-- ---- rows beside things

abbrev pub Below : ℕ → Words → Type 0
Below m ws = Each (λ p. p.0 < m) ws

-- a row is of one of these things, and where that is not too long, within it
abbrev pub RowFits : List Thing → Row Words → Type 0
RowFits ts r = (t : Thing) × In t ts × (t.at.token ≡ r.token) × (t.words ≤ 32768 → Below t.words r.item)

abbrev pub RowsFit : List Thing → Rows → Type 0
RowsFit ts rows = Each (RowFits ts) rows

fit-left : (ts ss : List Thing) (rows : Rows) → RowsFit ts rows → RowsFit (ts ++ ss) rows
fit-left ts ss [] h = tt
fit-left ts ss (r ∷ rows) h = ((h.0.0, in-left h.0.0 ts ss h.0.1, h.0.2, h.0.3), fit-left ts ss rows h.1)

fit-right : (ts ss : List Thing) (rows : Rows) → RowsFit ss rows → RowsFit (ts ++ ss) rows
fit-right ts ss [] h = tt
fit-right ts ss (r ∷ rows) h = ((h.0.0, in-right h.0.0 ts ss h.0.1, h.0.2, h.0.3), fit-right ts ss rows h.1)

pub fit-both : (ts ss : List Thing) (rs qs : Rows) → RowsFit ts rs → RowsFit ss qs → RowsFit (ts ++ ss) (rs ++ qs)
fit-both ts ss rs qs h k = each-append (RowFits (ts ++ ss)) rs qs (fit-left ts ss rs h) (fit-right ts ss qs k)

pub fit-behind : (ts ss : List Thing) (qs : Rows) → RowsFit ss qs → RowsFit (ts ++ ss) qs
fit-behind ts ss qs h = fit-right ts ss qs h

-- ---- strings

characters-below : (m o : ℕ) (cs : List ℕ) → o + length cs ≤ m → Below m (characters_from o cs)
characters-below m o [] h = tt
characters-below m o (c ∷ cs) h = (omega (arith, h), characters-below m (min (o + 1) 65535) cs (omega (arith, h)))

string-below : (m : ℕ) (cs : List ℕ) → length cs + 1 ≤ m → Below m (string_words cs)
string-below m cs h = (omega (arith, h), characters-below m 1 cs (omega (arith, h)))

uncapped : (n : ℕ) → capped n ≤ 32768 → capped n ≡ n
uncapped n h = of-test (nat_le n 32768) h
  where
    of-test : (b : Bool) → cond b n 32769 ≤ 32768 → cond b n 32769 ≡ n
    of-test true h = refl
    of-test false h = absurd (omega (arith, h))

pub text-fits : (o : Option Owner) (at : Position) (cs : List ℕ) → RowsFit (thing sort.Text at o None (capped (length cs + 1)) ∷ []) (record { token = at.token; item = string_words cs } ∷ [])
text-fits o at cs =
    let t = thing sort.Text at o None (capped (length cs + 1)) in
    ((t, inl refl, refl, λ h. let e : capped (length cs + 1) ≡ length cs + 1 = uncapped (length cs + 1) h in string-below t.words cs (omega (arith, e))), tt)

pub texts-append : (o : Option Owner) (a b : List Fact) → texts o (a ++ b) ≡ texts o a ++ texts o b
texts-append o [] b = refl
texts-append o (f ∷ a) b = ap (λ ts. fact_texts o (out-Fact f) ++ ts) (texts-append o a b) ∙ sym (append_assoc (fact_texts o (out-Fact f)) (texts o a) (texts o b))

pub fit-texts : (o : Option Owner) (a b : List Fact) (rs qs : Rows) → RowsFit (texts o a) rs → RowsFit (texts o b) qs → RowsFit (texts o (a ++ b)) (rs ++ qs)
fit-texts o a b rs qs h k = subst (λ ts. RowsFit ts (rs ++ qs)) (sym (texts-append o a b)) (fit-both (texts o a) (texts o b) rs qs h k)

-- ---- lists of places

word-below : (m o : ℕ) (w : Option ℕ) → o < m → Below m (word_if o w)
word-below m o None h = tt
word-below m o (Some w) h = (h, tt)

places-below : (m f o : ℕ) (ps : List RawPlace) → o + length ps ≤ m → Below m (places_words f o ps)
places-below m f o [] h = tt
places-below m f o (p ∷ ps) h =
    each-append (λ (q : ℕ × ℕ). q.0 < m) (word_if o (place_word f p)) (places_words f (min (o + 1) 65535) ps) (word-below m o (place_word f p) (omega (arith, h))) (places-below m f (min (o + 1) 65535) ps (omega (arith, h)))

take-short : {A : Type 0} (w : ℕ) (xs : List A) → length (take w xs) ≤ w
take-short zero xs = omega arith
take-short (suc w) [] = omega arith
take-short (suc w) (x ∷ xs) = let h = take-short w xs in omega (arith, h)

taken-below : (w f : ℕ) (ps : List RawPlace) → Below w (places_words f 0 (take w ps))
taken-below w f ps = let h = take-short w ps in places-below w f 0 (take w ps) (omega (arith, h))

named-fit : (o : Option Owner) (b : Option Base) (f w : ℕ) (ns : List RawName) (ps : List RawPlace) → RowsFit (named_things o w b ns) (named_rows f w ns ps)
named-fit o b f w [] ps = tt
named-fit o b f w (n ∷ ns) ps =
    fit-both (thing sort.Named n.at o b w ∷ []) (named_things o w (moved w b) ns) (record { token = n.at.token; item = places_words f 0 (take w ps) } ∷ []) (named_rows f w ns (drop w ps))
    ((thing sort.Named n.at o b w, inl refl, refl, λ h. taken-below w f ps), tt) (named-fit o (moved w b) f w ns (drop w ps))

groups-fit : (o : Option Owner) (b : Option Base) (f : ℕ) (gs : List RawGroup) (ps : List RawPlace) → RowsFit (groups_things o b gs) (groups_rows f gs ps)
groups-fit o b f [] ps = tt
groups-fit o b f (g ∷ gs) ps =
    fit-both (named_things o (group_words g) b g.names) (groups_things o (moved_past (group_words g) g.names b) gs) (named_rows f (group_words g) g.names ps) (groups_rows f gs (behind_each (group_words g) g.names ps))
    (named-fit o b f (group_words g) g.names ps) (groups-fit o (moved_past (group_words g) g.names b) f gs (behind_each (group_words g) g.names ps))

-- ---- elements of tables

insert-below : (m o v : ℕ) (ws : Words) → o < m → Below m ws → Below m (insert_entry nat_eq ws o v)
insert-below m o v [] l h = (l, tt)
insert-below m o v (p ∷ ws) l h = of-test (nat_eq o p.0) (insert-below m o v ws l h.1)
  where
    of-test : (b : Bool) → Below m (insert_entry nat_eq ws o v) → Below m (cond b ((p.0, v) ∷ ws) (p ∷ insert_entry nat_eq ws o v))
    of-test true r = (h.0, h.1)
    of-test false r = (h.0, r)

stored-below : (m o : ℕ) (e : RawElem) (w : Option ℕ) (ws : Words) → o < m → Below m ws → Below m (stored o e w ws)
stored-below m o e None ws l h = h
stored-below m o e (Some v) ws l h = insert-below m o (element_put e (word_in ws o) v) ws l h

entry-below : (m w first : ℕ) (es : List RawElem) (ps : List RawPlace) (ws : Words) → Each (λ e. element_word e < w) es → first + w ≤ m → Below m ws → Below m (entry_words first es ps ws)
entry-below m w first [] ps ws e l h = h
entry-below m w first (x ∷ es) [] ws e l h = h
entry-below m w first (x ∷ es) (p ∷ ps) ws e l h =
    let o = min (first + element_word x) 65535 in
    let d : element_word x < w = e.0 in
    let k : o < m = omega (arith, d, l) in
    entry-below m w first es ps (stored o x (place_word (element_fraction x) p) ws) e.1 l (stored-below m o x (place_word (element_fraction x) p) ws k h)

entries-below : (m w width n first : ℕ) (es : List RawElem) (ps : List RawPlace) (ws : Words) → width ≤ w → Each (λ e. element_word e < w) es → first + n * w ≤ m → Below m ws → Below m (entries_words n width first es ps ws)
entries-below m w width zero first es ps ws l e k h = h
entries-below m w width (suc n) first es ps ws l e k h =
    let next = min (first + width) 65535 in
    let product : suc n * w ≡ w + n * w = omega arith in
    entries-below m w width n next es (drop (length es) ps) (entry_words first es ps ws) l e (omega (arith, k, product, l)) (entry-below m w first es ps ws e (omega (arith, k, product)) h)

-- ---- what the rules of tables give

some-of : (o : Option ℕ) → is_some o ≡ true → (n : ℕ) × (o ≡ Some n)
some-of None e = absurd cc
some-of (Some n) e = (n, refl)

int-free : (n : RawInt) → int_judged n None ≡ None → (k : ℕ) × (place_amount n ≡ Some k)
int-free n free = some-of (place_amount n) (holds (is_some (place_amount n)) rule.NumberRange (number_position n) free)

within-most : (limit n : ℕ) → within limit (Some n) ≤ n
within-most limit n = of-test (nat_le n limit)
  where
    of-test : (b : Bool) → cond b n 0 ≤ n
    of-test true = omega arith
    of-test false = omega arith

lower : (a b : ℕ) → nat_lt a b ≡ true → a < b
lower a b e = grind (arith, nat_tests)

first-true : (a b : Bool) → (a && b) ≡ true → a ≡ true
first-true true b e = refl
first-true false b e = absurd cc

word-within : (n : RawInt) (w : ℕ) → int_judged n None ≡ None → is_within (place_amount n) (Some w) ≡ true → within 65535 (place_amount n) < w
word-within n w free e =
    let k = int-free n free in
    let l : k.0 < w = lower k.0 w (sym (ap (λ o. is_within o (Some w)) k.1) ∙ e) in
    let m : within 65535 (place_amount n) ≤ k.0 = subst (λ o. within 65535 o ≤ k.0) (sym k.1) (within-most 65535 k.0) in
    omega (arith, l, m)

element-within : (w : ℕ) (e : RawElem) → element_judged (Some w) e None ≡ None → element_word e < w
element-within w (elem.Word n t x) free =
    let test = unless (is_within (place_amount x) (Some w)) rule.FieldRange n.at in
    let k = keeps_unless (is_within (place_amount x) (Some w)) rule.FieldRange n.at in
    let a = both_free (type_judged t) (both (int_judged x) test) (keeps_both (keeps_int x) k) free in
    let b = both_free (int_judged x) test k a.1 in
    word-within x w b.0 (holds (is_within (place_amount x) (Some w)) rule.FieldRange n.at b.1)
element-within w (elem.Part n u t f x b) free =
    let fits = is_within (place_amount x) (Some w) && is_field (place_amount t) (place_amount b) in
    let test = unless fits rule.FieldRange n.at in
    let k = keeps_unless fits rule.FieldRange n.at in
    let p = both_free (int_judged t) (both (scale_judged f) (both (int_judged x) (both (int_judged b) test))) (keeps_both (keeps_scale f) (keeps_both (keeps_int x) (keeps_both (keeps_int b) k))) free in
    let q = both_free (scale_judged f) (both (int_judged x) (both (int_judged b) test)) (keeps_both (keeps_int x) (keeps_both (keeps_int b) k)) p.1 in
    let r = both_free (int_judged x) (both (int_judged b) test) (keeps_both (keeps_int b) k) q.1 in
    let s = both_free (int_judged b) test k r.1 in
    word-within x w r.0 (first-true (is_within (place_amount x) (Some w)) (is_field (place_amount t) (place_amount b)) (holds fits rule.FieldRange n.at s.1))

elements-within : (w : ℕ) (es : List RawElem) → elements_judged (Some w) es None ≡ None → Each (λ e. element_word e < w) es
elements-within w [] free = tt
elements-within w (e ∷ es) free =
    let p = both_free (element_judged (Some w) e) (elements_judged (Some w) es) (keeps_elements (Some w) es) free in
    (element-within w e p.0, elements-within w es p.1)

table-below : (t : RawTable) (ps : List RawPlace) → table_judged t None ≡ None → Below (words_of_table t) (elements_words t.size t.elems ps)
table-below t ps free =
    let good = good_size (place_amount t.size.first) (place_amount t.size.second) in
    let test = unless good rule.BadBounds t.name.at in
    let k = keeps_unless good rule.BadBounds t.name.at in
    let p = both_free (size_judged t.name t.size) (elements_judged (place_amount t.size.first) t.elems) (keeps_elements (place_amount t.size.first) t.elems) free in
    let q = both_free (int_judged t.size.first) (both (int_judged t.size.second) test) (keeps_both (keeps_int t.size.second) k) p.0 in
    let r = both_free (int_judged t.size.second) test k q.1 in
    let w = int-free t.size.first q.0 in
    let n = int-free t.size.second r.0 in
    let g : good_size (Some w.0) (Some n.0) ≡ true = sym (ap₂ good_size w.1 n.1) ∙ holds good rule.BadBounds t.name.at r.1 in
    let words : words_of_table t ≡ w.0 * n.0 = ap₂ table_words w.1 n.1 ∙ ap (λ b. cond b (w.0 * n.0) 1) g in
    let entries : table_entries (place_amount t.size.first) (place_amount t.size.second) ≡ n.0 = ap₂ table_entries w.1 n.1 ∙ ap (λ b. cond b n.0 1) g in
    let width : width_of t.size ≤ w.0 = subst (λ o. within 65535 o ≤ w.0) (sym w.1) (within-most 65535 w.0) in
    let each = elements-within w.0 t.elems (sym (ap (λ o. elements_judged o t.elems None) w.1) ∙ p.1) in
    let swap : n.0 * w.0 ≡ w.0 * n.0 = omega arith in
    subst (λ m. Below m (elements_words t.size t.elems ps)) (sym words)
    (subst (λ c. Below (w.0 * n.0) (entries_words c (width_of t.size) 0 t.elems ps [])) (sym entries) (entries-below (w.0 * n.0) w.0 (width_of t.size) n.0 0 t.elems ps [] width each (omega (arith, swap)) tt))

-- ---- declarations

table-fits : (o : Option Owner) (b : Option Base) (t : RawTable) (inside behind : Option RawPresets) → table_judged t None ≡ None → RowsFit (thing sort.Named t.name.at o b (words_of_table t) ∷ []) (table_preset t inside behind)
table-fits o b t (Some p) behind free = ((thing sort.Named t.name.at o b (words_of_table t), inl refl, refl, λ h. table-below t p.places free), tt)
table-fits o b t None (Some p) free = ((thing sort.Named t.name.at o b (words_of_table t), inl refl, refl, λ h. taken-below (words_of_table t) 0 p.places), tt)
table-fits o b t None None free = tt

singles-fit : (o : Option Owner) (b : Option Base) (f : ℕ) (ns : List RawName) (p : Option RawPresets) → RowsFit (named_things o 1 b ns) (singles_preset f ns p)
singles-fit o b f ns None = tt
singles-fit o b f ns (Some p) = named-fit o b f 1 ns p.places

arrays-fit : (o : Option Owner) (b : Option Base) (f : ℕ) (gs : List RawGroup) (p : Option RawPresets) → RowsFit (groups_things o b gs) (groups_preset f gs p)
arrays-fit o b f gs None = tt
arrays-fit o b f gs (Some p) = groups-fit o b f gs p.places

data-fits : (o : Option Owner) (b : Option Base) (d : RawData) → data_judged d None ≡ None → RowsFit (data_things o b d) (data_rows d)
data-fits o b (items.Singles t ns p) free = singles-fit o b (fraction_of t) ns p
data-fits o b (items.Arrays t gs p) free = arrays-fit o b (fraction_of t) gs p
data-fits o b (items.Table t inside behind) free = table-fits o b t inside behind free

pub declared-fits : (sites : List (Row Site)) (o : Option Owner) (b : Option Base) (d : RawData) → declared_judged sites d None ≡ None → RowsFit (data_things o b d) (data_rows d)
declared-fits sites o b d free = data-fits o b d (both_free (data_judged d) (presets_judged sites d) (keeps_presets sites d) free).0
