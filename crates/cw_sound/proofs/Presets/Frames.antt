-- What lists of presets and strings hold stands in no frame: the rules of types refuse presets of what does, and a string is in none.
use Rattle.std.proofs.Common.{◌≡◌, ℕ, List, [], ◌∷◌, drop, Bool, true, false, not, is_none, is_some, Option, Some, None, refl, sym, ap, ◌∙◌}
use Rattle.cw_table.specs.declared.table.Row.{Row}
use Rattle.cw_table.specs.Rows.{item_at}
use Rattle.cw_tree.specs.declared.leaf.RawName.{RawName}
use Rattle.cw_tree.specs.declared.items.RawGroup.{RawGroup}
use Rattle.cw_tree.specs.declared.items.RawPlace.{RawPlace}
use Rattle.cw_tree.specs.declared.items.RawPresets.{RawPresets}
use Rattle.cw_tree.specs.declared.items.RawTable.{RawTable}
use Rattle.cw_tree.specs.declared.items.RawData.{RawData}
use Rattle.cw_tree.specs.declared.items.RawData.TheVariants as items
use Rattle.cw_tree.specs.declared.leaf.RawType.{RawType}
use Rattle.cw_amount.specs.Amounts.{place_amount}
use Rattle.cw_facts.specs.declared.fact.Fact.{Fact, Fact-F, out-Fact}
use Rattle.cw_facts.specs.declared.fact.Fact.TheOpen as fact
use Rattle.cw_scale.specs.declared.fault.Rule.TheVariants as rule
use Rattle.cw_scale.specs.Faults.{both}
use Rattle.cw_scale.specs.Kinds.{fraction_of}
use Rattle.cw_data.specs.Data.{data_judged}
use Rattle.cw_data.specs.Presets as judged
use Rattle.cw_data.specs.Presets.{behind_each, table_words}
use Rattle.cw_items.specs.declared.families.Site.{Site}
use Rattle.cw_items.specs.declared.thing.Base.{Base}
use Rattle.cw_items.specs.declared.thing.Owner.{Owner}
use Rattle.cw_items.specs.declared.thing.Sort.{Sort}
use Rattle.cw_items.specs.declared.thing.Sort.TheVariants as sort
use Rattle.cw_items.specs.declared.thing.Thing.{Thing}
use Rattle.cw_items.specs.Families.{frame_of}
use Rattle.cw_items.specs.Things.{moved, moved_past, named_things, group_words, groups_things, data_things, fact_texts, texts}
use Rattle.cw_judge.specs.Declarations.{is_framed, names_framed, groups_framed, places_of, frame_judged, one_kind, presets_judged, declared_judged}
use Rattle.cw_preset.specs.Strings.{Words, Rows}
use Rattle.cw_preset.specs.Lists.{named_rows, groups_rows, singles_preset, groups_preset, table_preset, data_rows}
use Rattle.cw_sound.proofs.Items.Lists.{each-append, each-left, each-right, each-in}
use Rattle.cw_sound.proofs.Items.Fitting.{RowsFit}
use Rattle.cw_sound.proofs.Presets.Small.{Small, RowsSmall, data_small}
use Rattle.cw_sound.proofs.Expressions.Judging.{keeps_unless, both_free, holds}
use Rattle.cw_sound.proofs.Items.Keeping.{keeps_presets, keeps_frame, keeps_left}
use Rattle.cw_macro.specs.Premises.{Each}

-- a list with a name
abbrev pub HasName : List RawName → Type 0
HasName [] = ⊥
HasName (n ∷ ns) = Unit {0}

-- ---- what the rules tell

unframed : (framed : Bool) (p : RawPresets) → frame_judged framed (Some p) None ≡ None → framed ≡ false
unframed framed p free = of_not framed (holds (not framed) rule.BadPreset p.at free)
  where
    of_not : (b : Bool) → not b ≡ true → b ≡ false
    of_not true e = absurd cc
    of_not false e = refl

module _ (sites : List (Row Site)) where
  abbrev pub IsApart : ℕ → Type 0
  IsApart token = is_framed (item_at sites token) ≡ false

  -- whether a thing stands in a frame: what is overlaid does where its base does
  abbrev pub in_frame : Sort → Option Owner → Option Base → Bool
  in_frame s o None = is_some (frame_of s o)
  in_frame s o (Some b) = is_framed (item_at sites b.token)

  -- its site says so
  abbrev pub Told : Thing → Type 0
  Told t = is_framed (item_at sites t.at.token) ≡ in_frame t.sort t.owner t.base

  -- words that are held by what stands in no frame
  abbrev pub Held : Row Words → Type 0
  Held r = Small r.item × IsApart r.token

  abbrev RowsApart : Rows → Type 0
  RowsApart rows = Each (λ (r : Row Words). IsApart r.token) rows

  pub held_rows : (rows : Rows) → RowsSmall rows → RowsApart rows → Each Held rows
  held_rows [] h k = tt
  held_rows (r ∷ rows) h k = ((h.0, k.0), held_rows rows h.1 k.1)

  -- ---- declarations: all their items stand in one frame, or in none

  moved_same : (o : Option Owner) (w : ℕ) (b : Option Base) → in_frame sort.Named o (moved w b) ≡ in_frame sort.Named o b
  moved_same o w None = refl
  moved_same o w (Some b) = refl

  past_same : (o : Option Owner) (w : ℕ) (ns : List RawName) (b : Option Base) → in_frame sort.Named o (moved_past w ns b) ≡ in_frame sort.Named o b
  past_same o w [] b = refl
  past_same o w (n ∷ ns) b = past_same o w ns (moved w b) ∙ moved_same o w b

  named_apart : (o : Option Owner) (b : Option Base) (f w : ℕ) (ns : List RawName) (ps : List RawPlace) → Each Told (named_things o w b ns) → in_frame sort.Named o b ≡ false → RowsApart (named_rows f w ns ps)
  named_apart o b f w [] ps h e = tt
  named_apart o b f w (n ∷ ns) ps h e = (h.0 ∙ e, named_apart o (moved w b) f w ns (drop w ps) h.1 (moved_same o w b ∙ e))

  groups_apart : (o : Option Owner) (b : Option Base) (f : ℕ) (gs : List RawGroup) (ps : List RawPlace) → Each Told (groups_things o b gs) → in_frame sort.Named o b ≡ false → RowsApart (groups_rows f gs ps)
  groups_apart o b f [] ps h e = tt
  groups_apart o b f (g ∷ gs) ps h e =
      let w = group_words g in
      let c : Option Base = moved_past w g.names b in
      each-append (λ (r : Row Words). IsApart r.token) (named_rows f w g.names ps) (groups_rows f gs (behind_each w g.names ps))
      (named_apart o b f w g.names ps (each-left Told (named_things o w b g.names) (groups_things o c gs) h) e)
      (groups_apart o c f gs (behind_each w g.names ps) (each-right Told (named_things o w b g.names) (groups_things o c gs) h) (past_same o w g.names b ∙ e))

  of_first : (o : Option Owner) (b : Option Base) (w : ℕ) (ns : List RawName) → HasName ns → Each Told (named_things o w b ns) → names_framed sites ns ≡ false → in_frame sort.Named o b ≡ false
  of_first o b w [] k h e = absurd k
  of_first o b w (n ∷ ns) k h e = sym h.0 ∙ e

  singles_apart : (o : Option Owner) (b : Option Base) (f : ℕ) (ns : List RawName) (p : Option RawPresets) → frame_judged (names_framed sites ns) p None ≡ None → Each Told (named_things o 1 b ns) → RowsApart (singles_preset f ns p)
  singles_apart o b f ns None free h = tt
  singles_apart o b f [] (Some p) free h = tt
  singles_apart o b f (n ∷ ns) (Some p) free h = named_apart o b f 1 (n ∷ ns) p.places h (of_first o b 1 (n ∷ ns) tt h (unframed (names_framed sites (n ∷ ns)) p free))

  arrays_apart : (o : Option Owner) (b : Option Base) (f : ℕ) (gs : List RawGroup) (p : Option RawPresets) → Each (λ (g : RawGroup). HasName g.names) gs → frame_judged (groups_framed sites gs) p None ≡ None → Each Told (groups_things o b gs) → RowsApart (groups_preset f gs p)
  arrays_apart o b f gs None k free h = tt
  arrays_apart o b f [] (Some p) k free h = tt
  arrays_apart o b f (g ∷ gs) (Some p) k free h =
      let w = group_words g in
      groups_apart o b f (g ∷ gs) p.places h
      (of_first o b w g.names k.0 (each-left Told (named_things o w b g.names) (groups_things o (moved_past w g.names b) gs) h) (unframed (names_framed sites g.names) p free))

  table_apart : (t : RawTable) (inside behind : Option RawPresets) → presets_judged sites (items.Table t inside behind) None ≡ None → RowsApart (table_preset t inside behind)
  table_apart t None None free = tt
  table_apart t None (Some p) free =
      let framed = is_framed (item_at sites t.name.at.token) in
      (unframed framed p (both_free (both (judged.elements_preset t.size t.elems []) (judged.table_preset t.size p.places)) (frame_judged framed (Some p)) (keeps_frame framed (Some p)) free).1, tt)
  table_apart t (Some p) None free =
      let framed = is_framed (item_at sites t.name.at.token) in
      let rest : List RawPlace = drop (table_words (place_amount t.size.first) (place_amount t.size.second)) [] in
      let inner = (keeps_left rest).nothing_before (both (judged.elements_preset t.size t.elems p.places) (frame_judged framed (Some p)) None) free in
      (unframed framed p (both_free (judged.elements_preset t.size t.elems p.places) (frame_judged framed (Some p)) (keeps_frame framed (Some p)) inner).1, tt)
  table_apart t (Some p) (Some q) free =
      let framed = is_framed (item_at sites t.name.at.token) in
      let before = both (both (judged.elements_preset t.size t.elems p.places) (frame_judged framed (Some p))) (both (judged.table_preset t.size q.places) (frame_judged framed (Some q))) in
      let kinds : is_none (Some p) ≡ true = holds (is_none (Some p)) rule.BadPreset q.at (both_free before (one_kind (Some p) (Some q)) (keeps_unless (is_none (Some p)) rule.BadPreset q.at) free).1 in
      absurd cc

  -- what a declaration holds, where the rules have no fault
  abbrev pub DataHeld : RawData → Type 0
  DataHeld d = (o : Option Owner) (b : Option Base) → declared_judged sites d None ≡ None → Each Told (data_things o b d) → Each Held (data_rows d)

  presets_free : (d : RawData) → declared_judged sites d None ≡ None → presets_judged sites d None ≡ None
  presets_free d free = (both_free (data_judged d) (presets_judged sites d) (keeps_presets sites d) free).1

  pub singles_held : (t : RawType) (ns : List RawName) (p : Option RawPresets) → DataHeld (items.Singles t ns p)
  singles_held t ns p o b free h =
      let d = items.Singles t ns p in
      let last = both_free (judged.singles_preset (fraction_of t) ns (places_of p)) (frame_judged (names_framed sites ns) p) (keeps_frame (names_framed sites ns) p) (presets_free d free) in
      held_rows (data_rows d) (data_small d) (singles_apart o b (fraction_of t) ns p last.1 h)

  pub arrays_held : (t : RawType) (gs : List RawGroup) (p : Option RawPresets) → Each (λ (g : RawGroup). HasName g.names) gs → DataHeld (items.Arrays t gs p)
  arrays_held t gs p k o b free h =
      let d = items.Arrays t gs p in
      let last = both_free (judged.arrays_preset (fraction_of t) gs (places_of p)) (frame_judged (groups_framed sites gs) p) (keeps_frame (groups_framed sites gs) p) (presets_free d free) in
      held_rows (data_rows d) (data_small d) (arrays_apart o b (fraction_of t) gs p k last.1 h)

  pub table_held : (t : RawTable) (inside behind : Option RawPresets) → DataHeld (items.Table t inside behind)
  table_held t inside behind o b free h = let d = items.Table t inside behind in held_rows (data_rows d) (data_small d) (table_apart t inside behind (presets_free d free))

  -- ---- strings

  abbrev IsFree : Thing → Type 0
  IsFree t = in_frame t.sort t.owner t.base ≡ false

  fact_free : (o : Option Owner) (y : Fact-F Fact) → Each IsFree (fact_texts o y)
  fact_free o (fact.Text at n) = (refl, tt)
  fact_free o _ = tt

  texts_free : (o : Option Owner) (fs : List Fact) → Each IsFree (texts o fs)
  texts_free o [] = tt
  texts_free o (f ∷ fs) = each-append IsFree (fact_texts o (out-Fact f)) (texts o fs) (fact_free o (out-Fact f)) (texts_free o fs)

  rows_apart : (ts : List Thing) (rows : Rows) → Each IsFree ts → Each Told ts → RowsFit ts rows → RowsApart rows
  rows_apart ts [] k h f = tt
  rows_apart ts (r ∷ rows) k h f =
      let t = f.0.0 in
      (ap (λ token. is_framed (item_at sites token)) (sym f.0.2) ∙ each-in Told ts h t f.0.1 ∙ each-in IsFree ts k t f.0.1, rows_apart ts rows k h f.1)

  pub texts_held : (o : Option Owner) (fs : List Fact) (rows : Rows) → RowsFit (texts o fs) rows → RowsSmall rows → Each Told (texts o fs) → Each Held rows
  texts_held o fs rows f s h = held_rows rows s (rows_apart (texts o fs) rows (texts_free o fs) h f)
