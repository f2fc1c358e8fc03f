-- What is judged of the presets of declared data, by its forms.
use Rattle.std.proofs.Common.{◌≡◌, ℕ, List, Bool, Option, sym, ap, ap₂, ◌∙◌}
use Rattle.cw_table.specs.declared.table.Row.{Row}
use Rattle.cw_table.specs.Rows.{item_at}
use Rattle.cw_tree.specs.declared.leaf.RawType.{RawType}
use Rattle.cw_tree.specs.declared.items.RawData.{RawData}
use Rattle.cw_tree.specs.declared.items.RawData.TheVariants as items
use Rattle.cw_tree.specs.declared.items.RawElem.{RawElem}
use Rattle.cw_tree.specs.declared.items.RawPlace.{RawPlace}
use Rattle.cw_tree.specs.declared.items.RawPresets.{RawPresets}
use Rattle.cw_tree.specs.declared.items.RawTable.{RawTable}
use Rattle.cw_scale.specs.declared.fault.Fault.{Fault}
use Rattle.cw_scale.specs.Faults.{Judgement}
use Rattle.cw_scale.specs.Kinds.{fraction_of}
use Rattle.cw_data.specs.Presets.{elements_preset, table_preset}
use Rattle.cw_items.specs.declared.families.Site.{Site}
use Rattle.cw_judge.specs.Declarations.{is_framed, frame_judged, places_of, one_kind, presets_judged}

module _ (sites : List (Row Site)) where
  -- single items and arrays: a list with its presets behind it
  pub listed : {X : Type 0} (form : RawType → List X → Option RawPresets → RawData) (preset : ℕ → List X → List RawPlace → Judgement) (framed_by : List X → Bool)
      → ((t : RawType) (xs : List X) (p : Option RawPresets) (o : Option Fault) → presets_judged sites (form t xs p) o
      ≡ frame_judged (framed_by xs) p (preset (fraction_of t) xs (places_of p) o))
      → (d : RawData) (t : RawType) (xs xs' : List X) (p : Option RawPresets) (places : List RawPlace) (f : ℕ) (framed : Bool) (o0 o1 o2 : Option Fault)
      → d ≡ form t xs p → xs' ≡ xs → places ≡ places_of p → f ≡ fraction_of t → framed ≡ framed_by xs' → o1 ≡ preset f xs' places o0 → o2 ≡ frame_judged framed p o1
      → o2 ≡ presets_judged sites d o0
  listed form preset framed_by whole d t xs xs' p places f framed o0 o1 o2 is hx hp hf hb e1 e2 =
      e2 ∙ ap₂ (λ b o. frame_judged b p o) hb (e1 ∙ ap₂ (λ g l. preset g xs' l o0) hf hp)
      ∙ sym (whole t xs' p o0) ∙ ap (λ k. presets_judged sites k o0) (sym (is ∙ ap (λ l. form t l p) (sym hx)))

  pub table : (d : RawData) (t : RawTable) (inside behind : Option RawPresets) (elems : List RawElem) (p q : List RawPlace) (framed : Bool) (o0 o1 o2 o3 o4 o5 : Option Fault)
      → d ≡ items.Table t inside behind → framed ≡ is_framed (item_at sites t.name.at.token) → elems ≡ t.elems → p ≡ places_of inside → q ≡ places_of behind
      → o1 ≡ elements_preset t.size elems p o0 → o2 ≡ frame_judged framed inside o1 → o3 ≡ table_preset t.size q o2 → o4 ≡ frame_judged framed behind o3
      → o5 ≡ one_kind inside behind o4
      → o5 ≡ presets_judged sites d o0
  table d t inside behind elems p q framed o0 o1 o2 o3 o4 o5 is hf he hp hq e1 e2 e3 e4 e5 =
      let first = e2 ∙ ap₂ (λ b o. frame_judged b inside o) hf (e1 ∙ ap₂ (λ l m. elements_preset t.size l m o0) he hp) in
      let second = e4 ∙ ap₂ (λ b o. frame_judged b behind o) hf (e3 ∙ ap₂ (table_preset t.size) hq first) in
      e5 ∙ ap (one_kind inside behind) second ∙ ap (λ k. presets_judged sites k o0) (sym is)
