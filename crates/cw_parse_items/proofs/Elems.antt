-- The steps of the loop over the elements of a table.
use Rattle.std.proofs.Common.{◌≡◌, ℕ, ◌<◌, length, arith, Bool, true, false, cond, List, [], ◌∷◌, ◌++◌, Option, Some, None, Result, Ok, Err, refl, sym, ap, ◌∙◌, append_assoc}
use Rattle.std.proofs.lemmas.List.{append-nil}
use Rattle.cw_lex.specs.declared.token.TokenKind.TheVariants as kinds
use Rattle.cw_lex.specs.declared.token.Symbol.TheVariants as symbols
use Rattle.cw_lex.specs.declared.token.Word.TheVariants as words
use Rattle.cw_tree.specs.declared.items.RawElem.{RawElem}
use Rattle.cw_tree.specs.declared.items.RawPresets.{RawPresets}
use Rattle.cw_grammar.specs.Tokens.{Item, same}
use Rattle.cw_grammar.specs.Grammar.{a_pair, a_list, an_option, an_elem, a_presets, again, more_elems, starts, first}
use Rattle.cw_grammar.specs.Statements.{elem, preset, elems_behind, table_body}
use Rattle.cw_grammar.specs.Table.{again_rule}
use Rattle.cw_grammar.specs.declared.stop.Stop.{Stop}
use Rattle.cw_grammar.specs.Reading.{Fault, Read, Fails, ◌>>=◌, take_one, reads}
use Rattle.cw_grammar.proofs.Again.{again_step}
use Rattle.cw_parse_items.specs.Elems.{behind_elems}
use Rattle.cw_grammar.proofs.Many.{shorter}
use Rattle.cw_grammar.proofs.Failing.{fails_where}
use Rattle.cw_grammar.proofs.Took.{took, took_shorter}

abbrev pub More : Type 0
More = Read (List RawElem × Option RawPresets)

abbrev pub more : List Item → More
more ts = reads 0 (again more_elems) ts

opened_rule : (ts : List Item) → more ts ≡ reads 0 elems_behind ts
unfolding again_rule
opened_rule ts = again_step 0 (a_pair (a_list an_elem) (an_option a_presets)) more_elems ts

elem_more : (es : List RawElem) (t : Item) (e : RawElem) (us vs : List Item) → same t.kind (kinds.Symbol symbols.Semicolon) ≡ true → starts us (kinds.Name ∷ []) ≡ true → reads 0 elem us ≡ Ok (e, vs)
    → behind_elems es (more (t ∷ us)) ≡ behind_elems (es ++ e ∷ []) (more vs)
unfolding elems_behind elem
elem_more es t e us vs k n h = go (more vs) refl
  where
    go : (o : More) → more vs ≡ o → behind_elems es (more (t ∷ us)) ≡ behind_elems (es ++ e ∷ []) (more vs)
    go (Ok y) g = rw (opened_rule (t ∷ us), k, n, h, g, append_assoc es (e ∷ []) y.0.0) refl
    go (Err f) g = rw (opened_rule (t ∷ us), k, n, h, g) refl

pub elem_goes_on : (es : List RawElem) (t : Item) (e : RawElem) (ts us vs : List Item) (total : More) → take_one (kinds.Symbol symbols.Semicolon) ts ≡ Ok (t, us) → starts us (kinds.Name ∷ []) ≡ true → reads 0 elem us ≡ Ok (e, vs)
    → behind_elems es (more ts) ≡ total → behind_elems (es ++ e ∷ []) (more vs) ≡ total
elem_goes_on es t e ts us vs total k n h so_far =
    let p = took (kinds.Symbol symbols.Semicolon) ts t us k in
    sym (elem_more es t e us vs p.1 n h) ∙ ap (λ (z : List Item). behind_elems es (more z)) (sym p.0) ∙ so_far

-- what fails behind a semicolon
semicolon_fails : {A : Type 0} (s : Stop) (es : List RawElem) (t : Item) (ts us : List Item) (o : Read A) (total : More) → take_one (kinds.Symbol symbols.Semicolon) ts ≡ Ok (t, us)
    → ((f : Fault) → same t.kind (kinds.Symbol symbols.Semicolon) ≡ true → o ≡ Err f → behind_elems es (more (t ∷ us)) ≡ Err f) → Fails s o → behind_elems es (more ts) ≡ total → Fails s total
semicolon_fails s es t ts us o total k stops failed so_far =
    let p = took (kinds.Symbol symbols.Semicolon) ts t us k in
    fails_where s o total (λ f is. sym so_far ∙ ap (λ (z : List Item). behind_elems es (more z)) p.0 ∙ stops f p.1 is) failed

pub elem_fails : (s : Stop) (es : List RawElem) (t : Item) (ts us : List Item) (total : More) → take_one (kinds.Symbol symbols.Semicolon) ts ≡ Ok (t, us) → starts us (kinds.Name ∷ []) ≡ true → Fails s (reads 0 elem us)
    → behind_elems es (more ts) ≡ total → Fails s total
unfolding elems_behind elem
elem_fails s es t ts us total k n failed so_far = semicolon_fails s es t ts us (reads 0 elem us) total k (λ f m is. rw (opened_rule (t ∷ us), m, n, is) refl) failed so_far

-- Presets behind the last semicolon,
preset_more : (es : List RawElem) (t : Item) (q : RawPresets) (us vs : List Item) → same t.kind (kinds.Symbol symbols.Semicolon) ≡ true → starts us (kinds.Name ∷ []) ≡ false → reads 0 preset us ≡ Ok (q, vs)
    → behind_elems es (more (t ∷ us)) ≡ Ok ((es, Some q), vs)
unfolding elems_behind elem
preset_more es t q us vs k n h = rw (opened_rule (t ∷ us), k, n, h, append-nil es) refl

pub preset_ends : (es : List RawElem) (t : Item) (q : RawPresets) (ts us vs : List Item) (total : More) → take_one (kinds.Symbol symbols.Semicolon) ts ≡ Ok (t, us) → starts us (kinds.Name ∷ []) ≡ false → reads 0 preset us ≡ Ok (q, vs)
    → behind_elems es (more ts) ≡ total → total ≡ Ok ((es, Some q), vs)
preset_ends es t q ts us vs total k n h so_far =
    let p = took (kinds.Symbol symbols.Semicolon) ts t us k in
    sym so_far ∙ ap (λ (z : List Item). behind_elems es (more z)) p.0 ∙ preset_more es t q us vs p.1 n h

pub preset_fails : (s : Stop) (es : List RawElem) (t : Item) (ts us : List Item) (total : More) → take_one (kinds.Symbol symbols.Semicolon) ts ≡ Ok (t, us) → starts us (kinds.Name ∷ []) ≡ false → Fails s (reads 0 preset us)
    → behind_elems es (more ts) ≡ total → Fails s total
unfolding elems_behind elem
preset_fails s es t ts us total k n failed so_far = semicolon_fails s es t ts us (reads 0 preset us) total k (λ f m is. rw (opened_rule (t ∷ us), m, n, is) refl) failed so_far

-- or without one,
starts_preset : (us : List Item) → starts us (kinds.Word words.Preset ∷ []) ≡ true → starts us (first preset) ≡ true
unfolding preset
starts_preset us e = e

pub bare_preset_ends : (es : List RawElem) (q : RawPresets) (ts vs : List Item) (total : More) → starts ts (kinds.Symbol symbols.Semicolon ∷ []) ≡ false → starts ts (kinds.Word words.Preset ∷ []) ≡ true → reads 0 preset ts ≡ Ok (q, vs)
    → behind_elems es (more ts) ≡ total → total ≡ Ok ((es, Some q), vs)
unfolding elems_behind
bare_preset_ends es q ts vs total k n h so_far = sym so_far ∙ rw (opened_rule ts, k, starts_preset ts n, h, append-nil es) refl

pub bare_preset_fails : (s : Stop) (es : List RawElem) (ts : List Item) (total : More) → starts ts (kinds.Symbol symbols.Semicolon ∷ []) ≡ false → starts ts (kinds.Word words.Preset ∷ []) ≡ true → Fails s (reads 0 preset ts)
    → behind_elems es (more ts) ≡ total → Fails s total
unfolding elems_behind
bare_preset_fails s es ts total k n failed so_far = fails_where s (reads 0 preset ts) total (λ f is. sym so_far ∙ rw (opened_rule ts, k, starts_preset ts n, is) refl) failed

-- or none.
pub no_preset_ends : (es : List RawElem) (ts : List Item) (total : More) → starts ts (kinds.Symbol symbols.Semicolon ∷ []) ≡ false → starts ts (kinds.Word words.Preset ∷ []) ≡ false
    → behind_elems es (more ts) ≡ total → total ≡ Ok ((es, None), ts)
unfolding elems_behind preset
no_preset_ends es ts total k n so_far = sym so_far ∙ rw (opened_rule ts, k, n, append-nil es) refl

-- Behind the first element.
pub body_elems : (e : RawElem) (ts us : List Item) → starts ts (kinds.Name ∷ []) ≡ true → reads 0 elem ts ≡ Ok (e, us) → reads 0 table_body ts ≡ behind_elems (e ∷ []) (more us)
unfolding table_body elem
body_elems e ts us n h = go (more us) refl
  where
    go : (o : More) → more us ≡ o → reads 0 table_body ts ≡ behind_elems (e ∷ []) (more us)
    go (Ok y) g = rw (n, h, g) refl
    go (Err f) g = rw (n, h, g) refl

elem_takes : (ts us : List Item) (e : RawElem) → reads 0 elem ts ≡ Ok (e, us) → length us < length ts
unfolding elem
elem_takes ts us e h = shorter 0 an_elem elem refl ts (e, us) h

pub elem_shorter : (t : Item) (e : RawElem) (ts us vs : List Item) → take_one (kinds.Symbol symbols.Semicolon) ts ≡ Ok (t, us) → reads 0 elem us ≡ Ok (e, vs) → length vs < length ts
elem_shorter t e ts us vs k h = omega (arith, took_shorter (kinds.Symbol symbols.Semicolon) ts t us k, elem_takes us vs e h)
