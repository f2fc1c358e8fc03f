-- What the items of a text hold at the start lies within them.
use Rattle.std.proofs.Common.{◌≡◌, ℕ, zero, suc, ◌<◌, ◌≤◌, List, [], ◌∷◌, Bool, true, false, ◌&&◌, nat_eq, nat_lt, Option, Some, None, slice_get, refl, sym, ap, ap₂, subst, ◌∙◌, inl, inr, arith, eqb-true}
use Rattle.std.specs.List.{list_all}
use Rattle.std.proofs.lemmas.Bool.{eq-eqb}
use Rattle.std.proofs.lemmas.Bool.Decides.{nat_tests}
use Rattle.std.proofs.lemmas.Option.{none-some, same_Some}
use Rattle.cw_table.specs.declared.table.Row.{Row}
use Rattle.cw_table.specs.Rows.{item_at}
use Rattle.cw_tree.specs.declared.items.RawBase.{RawBase}
use Rattle.cw_tree.specs.declared.items.RawData.{RawData}
use Rattle.cw_tree.specs.declared.segment.RawComm.{RawComm}
use Rattle.cw_tree.specs.declared.segment.RawComm.TheVariants as comm
use Rattle.cw_tree.specs.declared.segment.RawCitem.{RawCitem}
use Rattle.cw_tree.specs.declared.segment.RawCitem.TheVariants as citem
use Rattle.cw_scope.specs.declared.resolve.Named.{Named}
use Rattle.cw_items.specs.declared.families.Site.{Site}
use Rattle.cw_items.specs.declared.thing.Thing.{Thing}
use Rattle.cw_items.specs.Things.{base_at, data_things, citem_things, citems_things, communicator_things, communicators_things, block_things, text_things}
use Rattle.cw_judge.specs.Declarations.{declared_judged, common_base_judged, common_overlaid_judged}
use Rattle.cw_judge.specs.Judged.{sites_of, absolute_addresses, citem_judged, citems_judged, communicator_judged, communicators_judged}
use Rattle.cw_preset.specs.Strings.{Words, Rows}
use Rattle.cw_preset.specs.Lists.{data_rows}
use Rattle.cw_preset.specs.Held.{block_rows, citem_rows, citems_rows, communicator_rows, communicators_rows, held_of}
use Rattle.cw_make_items.specs.Items.{held_or_none}
use Rattle.cw_built.specs.Stored.{is_preset}
use Rattle.cw_sound.specs.Items.Derived.{IsRising}
use Rattle.cw_sound.specs.Items.Free.{PartsFree}
use Rattle.cw_sound.proofs.Items.Lists.{In, in-place, each-in, not-below}
use Rattle.cw_sound.proofs.Items.Numbering.{token_of_thing, tokens_of_things, token-at, found-here, found-later}
use Rattle.cw_sound.proofs.Items.Fitting.{Below, RowFits, RowsFit, fit-both, declared-fits}
use Rattle.cw_sound.proofs.Items.FittingStatements.{block_fits}
use Rattle.cw_sound.proofs.Items.Keeping.{keeps_declared, keeps_citems, keeps_communicators}
use Rattle.cw_sound.proofs.Expressions.Judging.{both_free}

module _ (named : Named) (sites : List (Row Site)) (absolute : List (Row ℕ)) where
  common-fits : (b : RawBase) (d : RawData) → common_overlaid_judged named sites absolute b d None ≡ None → RowsFit (data_things None (Some (base_at named b)) d) (data_rows d)
  unfolding common_overlaid_judged
  common-fits b d free = declared-fits sites None (Some (base_at named b)) d (both_free (common_base_judged named absolute b) (declared_judged sites d) (keeps_declared sites d) free).1

  citem-fits : (i : RawCitem) → citem_judged named sites absolute i None ≡ None → RowsFit (citem_things named i) (citem_rows i)
  citem-fits (citem.Data d) free = declared-fits sites None None d free
  citem-fits (citem.Overlay at b d) free = common-fits b d free
  citem-fits _ free = tt

  citems-fit : (is : List RawCitem) → citems_judged named sites absolute is None ≡ None → RowsFit (citems_things named is) (citems_rows is)
  citems-fit [] free = tt
  citems-fit (i ∷ is) free =
      let frees = both_free (citem_judged named sites absolute i) (citems_judged named sites absolute is) (keeps_citems named sites absolute is) free in
      fit-both (citem_things named i) (citems_things named is) (citem_rows i) (citems_rows is) (citem-fits i frees.0) (citems-fit is frees.1)

  communicator-fits : (c : RawComm) → communicator_judged named sites absolute c None ≡ None → RowsFit (communicator_things named c) (communicator_rows c)
  communicator-fits (comm.Common at is) free = citems-fit is free
  communicator-fits (comm.Library at ss) free = tt
  communicator-fits (comm.Absolute at is) free = tt

  communicators-fit : (cs : List RawComm) → communicators_judged named sites absolute cs None ≡ None → RowsFit (communicators_things named cs) (communicators_rows cs)
  communicators-fit [] free = tt
  communicators-fit (c ∷ cs) free =
      let frees = both_free (communicator_judged named sites absolute c) (communicators_judged named sites absolute cs) (keeps_communicators named sites absolute cs) free in
      fit-both (communicator_things named c) (communicators_things named cs) (communicator_rows c) (communicators_rows cs) (communicator-fits c frees.0) (communicators-fit cs frees.1)

text-fits : (named : Named) → PartsFree named → RowsFit (text_things named named.raw.now) (held_of named.raw.now)
text-fits named free =
    let sites = sites_of (text_things named named.raw.now) in
    fit-both (communicators_things named named.raw.now.comms) (block_things named named.raw.now.block None) (communicators_rows named.raw.now.comms) (block_rows named.raw.now.block)
    (communicators-fit named sites (absolute_addresses named.raw.now.comms) named.raw.now.comms free.communicators) (block_fits named sites named.raw.now.block None free.block)

-- ---- a row of its own

row-found : (rs : Rows) (token : ℕ) (ws : Words) → item_at rs token ≡ Some ws → (r : Row Words) × In r rs × (r.item ≡ ws) × (r.token ≡ token)
row-found [] token ws e = absurd (none-some ws e)
row-found (r ∷ rs) token ws e = of-test (nat_eq token r.token) refl (row-found rs token ws)
  where
    of-test : (b : Bool) → nat_eq token r.token ≡ b → (item_at rs token ≡ Some ws → (q : Row Words) × In q rs × (q.item ≡ ws) × (q.token ≡ token)) → (q : Row Words) × In q (r ∷ rs) × (q.item ≡ ws) × (q.token ≡ token)
    of-test true t rest = let s : token ≡ r.token = eqb-true token r.token t in (r, inl refl, same_Some r.item ws (sym (found-here r rs token s) ∙ e), sym s)
    of-test false t rest =
        let q = rest (sym (found-later r rs token (λ x. absurd (let no : true ≡ false = sym (eq-eqb token r.token x) ∙ t in absurd cc))) ∙ e) in
        (q.0, inr q.1, q.2, q.3)

-- things at one token are one
same-thing : (n : ℕ) (ts : List Thing) (i j : ℕ) (t s : Thing) → IsRising n (tokens_of_things ts) → slice_get ts i ≡ Some t → slice_get ts j ≡ Some s → t.at.token ≡ s.at.token → t ≡ s
same-thing n [] i j t s r e f h = absurd (none-some t e)
same-thing n (x ∷ ts) zero zero t s r e f h = sym (same_Some x t e) ∙ same_Some x s f
same-thing n (x ∷ ts) zero (suc j) t s r e f h =
    let a : x.at.token ≡ t.at.token = ap token_of_thing (same_Some x t e) in
    let b : suc x.at.token ≤ s.at.token = not-below (suc x.at.token) (tokens_of_things ts) s.at.token r.1 (token-at ts j s f) in
    absurd (omega (arith, a, b, h))
same-thing n (x ∷ ts) (suc i) zero t s r e f h =
    let a : x.at.token ≡ s.at.token = ap token_of_thing (same_Some x s f) in
    let b : suc x.at.token ≤ t.at.token = not-below (suc x.at.token) (tokens_of_things ts) t.at.token r.1 (token-at ts i t e) in
    absurd (omega (arith, a, b, h))
same-thing n (x ∷ ts) (suc i) (suc j) t s r e f h = same-thing (suc x.at.token) ts i j t s r.1 e f h

below-all : (m : ℕ) (ws : Words) → Below m ws → list_all (is_preset m) ws ≡ true
below-all m [] h = refl
below-all m (w ∷ ws) h = ap₂ (λ a b. a && b) (is-below w.0 m h.0) (below-all m ws h.1)
  where
    is-below : (a b : ℕ) → a < b → nat_lt a b ≡ true
    is-below a b h = grind (arith, nat_tests)

held-below : (named : Named) → PartsFree named → IsRising 1 (tokens_of_things (text_things named named.raw.now)) → (i : ℕ) (t : Thing) → slice_get (text_things named named.raw.now) i ≡ Some t → t.words ≤ 32768
    → (o : Option Words) → item_at (held_of named.raw.now) t.at.token ≡ o → Below t.words (held_or_none o)
held-below named free rising i t e l None h = tt
held-below named free rising i t e l (Some ws) h =
    let things = text_things named named.raw.now in
    let r = row-found (held_of named.raw.now) t.at.token ws h in
    let f : RowFits things r.0 = each-in (RowFits things) (held_of named.raw.now) (text-fits named free) r.0 r.1 in
    let p = in-place f.0 things f.1 in
    let same : f.0 ≡ t = same-thing 1 things p.0 i f.0 t rising p.1 e (f.2 ∙ r.3) in
    let below : Below t.words r.0.item = subst (λ (x : Thing). x.words ≤ 32768 → Below x.words r.0.item) same f.3 l in
    subst (Below t.words) r.2 below

-- the presets of a thing are within its words
pub presets-within : (named : Named) → PartsFree named → IsRising 1 (tokens_of_things (text_things named named.raw.now)) → (i : ℕ) (t : Thing) → slice_get (text_things named named.raw.now) i ≡ Some t → t.words ≤ 32768
    → list_all (is_preset t.words) (held_or_none (item_at (held_of named.raw.now) t.at.token)) ≡ true
presets-within named free rising i t e l =
    let held = item_at (held_of named.raw.now) t.at.token in
    below-all t.words (held_or_none held) (held-below named free rising i t e l held refl)
