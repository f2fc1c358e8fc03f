-- What the items of a text's unit hold at the start: words, of items whose root stands in no frame.
use Rattle.std.proofs.Common.{◌≡◌, ℕ, suc, List, [], ◌∷◌, length, take, take_all, Bool, true, false, IsTrue, cond, nat_eq, nat_lt, Option, Some, None, is_some, slice_get, refl, sym, ap, subst, ◌∙◌, arith, eqb-true}
use Rattle.std.specs.Prelude.{find, option_map}
use Rattle.std.specs.List.{list_all}
use Rattle.std.proofs.lemmas.Option.{slice_get_within}
use Rattle.cw_table.specs.declared.table.Row.{Row}
use Rattle.cw_table.specs.Rows.{stands_at, item_at, place_at}
use Rattle.cw_scope.specs.declared.resolve.Named.{Named}
use Rattle.cw_items.specs.declared.families.Site.{Site}
use Rattle.cw_items.specs.declared.thing.Base.{Base}
use Rattle.cw_items.specs.declared.thing.Thing.{Thing}
use Rattle.cw_items.specs.Families.{frame_of, Known, nothing_known, all_known, with_thing, things_judged, site_by, site_on}
use Rattle.cw_judge.specs.Declarations.{is_framed}
use Rattle.cw_judge.specs.Judged.{sites_of}
use Rattle.cw_number.specs.Listed.{listed_of}
use Rattle.cw_number.specs.Numbers.{numbers_of}
use Rattle.cw_make_items.specs.Lookup.{Numbers}
use Rattle.cw_make_items.specs.Items.{addresses_of, home_on, home_listed, held_or_none}
use Rattle.cw_preset.specs.Strings.{Words, Rows}
use Rattle.cw_preset.specs.Held.{held_of}
use Rattle.cw_make.specs.Made.{unit_of}
use Rattle.cw_unit.specs.declared.unit.Item.{Item}
use Rattle.cw_unit.specs.declared.unit.Home.TheVariants as home
use Rattle.cw_unit.specs.Storage.{root_of}
use Rattle.cw_writable.proofs.Front.Truth.{lt_true, both}
use Rattle.cw_sound.specs.Items.Derived.{HasRisingTokens, IsRising}
use Rattle.cw_sound.specs.Items.Bases.{BasesStand}
use Rattle.cw_sound.specs.Items.Free.{PartsFree}
use Rattle.cw_sound.specs.Items.Items.{things_of}
use Rattle.cw_sound.proofs.Items.Lists.{in-place, from-in}
use Rattle.cw_sound.proofs.Items.Numbering.{tokens_of_things, made-of}
use Rattle.cw_sound.proofs.Items.Room.{room-of, row-found, Orderly, orderly-first, orderly-next, site_at, site-found}
use Rattle.cw_sound.proofs.Items.Storage.{site-root}
use Rattle.cw_sound.proofs.Items.Standing.{things-rise, made}
use Rattle.cw_sound.proofs.Storage.FramesFit.{frame_thing}
use Rattle.cw_sound.proofs.Presets.Small.{Small}
use Rattle.cw_sound.proofs.Presets.Frames.{IsApart, in_frame, Told, Held}
use Rattle.cw_macro.specs.Premises.{Each}

small_all : (ws : Words) → Small ws → IsTrue (list_all (λ (p : ℕ × ℕ). nat_lt p.1 65536) ws)
small_all [] h = refl
small_all (w ∷ ws) h = both (nat_lt w.1 65536) (list_all (λ (p : ℕ × ℕ). nat_lt p.1 65536) ws) (lt_true w.1 65536 h.0) (small_all ws h.1)

-- what stands in a frame by its home has no base
orderly_all : (n : ℕ) (k : Known) (ts : List Thing) → Orderly n k → IsRising n (tokens_of_things ts) → things_judged k ts None ≡ None → (m : ℕ) × Orderly m (all_known k ts)
orderly_all n k [] o r free = (n, o)
orderly_all n k (t ∷ ts) o r free = let room = room-of k t ts free in orderly_all (suc t.at.token) (with_thing k t) ts (orderly-next n k t o r.0 room.0) r.1 room.1

-- ---- what is held at a token

module _ (sites : List (Row Site)) where
  abbrev HeldAt : ℕ → Option Words → Type 0
  HeldAt token None = Unit {0}
  HeldAt token (Some ws) = Small ws × IsApart sites token

  held_at : (rows : Rows) → Each (Held sites) rows → (token : ℕ) → HeldAt token (item_at rows token)
  held_at [] h token = tt
  held_at (r ∷ rows) h token = of_test (nat_eq token r.token) refl (held_at rows h.1 token)
    where
      of_test : (b : Bool) → nat_eq token r.token ≡ b → HeldAt token (item_at rows token) → HeldAt token (option_map (λ (x : Row Words). x.item) (cond b (Some r) (find (stands_at token) rows)))
      of_test true e k = subst (λ n. Small r.item × IsApart sites n) (sym (eqb-true token r.token e)) h.0
      of_test false e k = k

  small_at : (token : ℕ) (o : Option Words) → HeldAt token o → Small (held_or_none o)
  small_at token None h = tt
  small_at token (Some ws) h = h.0

  nothing_at : (token : ℕ) (o : Option Words) → HeldAt token o → is_framed (item_at sites token) ≡ true → held_or_none o ≡ []
  nothing_at token None h e = refl
  nothing_at token (Some ws) h e = absurd (let no : false ≡ true = sym h.1 ∙ e in absurd cc)

-- ---- the sites of a text's things

module _ (named : Named) (rising : HasRisingTokens named.raw.now) (bases : BasesStand (numbers_of named) (listed_of named.raw.now) (things_of named)) where
  abbrev things : List Thing
  things = things_of named

  abbrev sites : List (Row Site)
  sites = sites_of (things_of named)

  rise : IsRising 1 (tokens_of_things (things_of named))
  rise = things-rise named rising bases

  site_is : (i : ℕ) (t : Thing) → slice_get things i ≡ Some t → item_at sites t.at.token ≡ Some (site_at nothing_known things i t)
  site_is i t e =
      ap (λ (ts : List Thing). item_at (all_known nothing_known ts).sites t.at.token) (sym (take_all (length things) things (omega arith))) ∙ site-found 1 nothing_known things rise (λ r j. absurd j) (length things) i t (slice_get_within things i t e) e

  abbrev sites_before : ℕ → List (Row Site)
  sites_before i = (all_known nothing_known (take i things)).sites

  told : (i : ℕ) (t : Thing) → slice_get things i ≡ Some t → Told sites t
  told i t e = of_base t.base refl
    where
      of_base : (o : Option Base) → t.base ≡ o → Told sites t
      of_base None q = ap is_framed (site_is i t e) ∙ ap (λ o. is_some (site_by (sites_before i) o t).frame) q ∙ sym (ap (in_frame sites t.sort t.owner) q)
      of_base (Some b) q =
          let s = bases i t b e q in
          let site : Site = site_at nothing_known things s.place s.base in
          let found : item_at (sites_before i) b.token ≡ Some site = ap (item_at (sites_before i)) (sym s.at_token) ∙ site-found 1 nothing_known things rise (λ r j. absurd j) i s.place s.base s.before s.there in
          let last : item_at sites b.token ≡ Some site = ap (item_at sites) (sym s.at_token) ∙ site_is s.place s.base s.there in
          ap is_framed (site_is i t e) ∙ ap (λ o. is_some (site_by (sites_before i) o t).frame) q ∙ ap (λ o. is_some (site_on o b t).frame) found ∙ sym (ap is_framed last) ∙ sym (ap (in_frame sites t.sort t.owner) q)

  pub all_told : Each (Told sites) things
  all_told = from-in (Told sites) things (λ t m. let p = in-place t things m in told p.0 t p.1)

  -- ---- items

  module _ (held : Each (Held sites) (held_of named.raw.now)) where
    pub words_held : (i : ℕ) (x : Item) → slice_get (unit_of named).items i ≡ Some x → IsTrue (list_all (λ (p : ℕ × ℕ). nat_lt p.1 65536) x.presets)
    words_held i x e =
        let m = made-of named.declarations (numbers_of named) (listed_of named.raw.now) (addresses_of named.raw.now.comms) (held_of named.raw.now) things i x e in
        let token = m.0.at.token in
        let o = item_at (held_of named.raw.now) token in
        subst (λ (y : Item). IsTrue (list_all (λ (p : ℕ × ℕ). nat_lt p.1 65536) y.presets)) m.2 (small_all (held_or_none o) (small_at sites token o (held_at sites (held_of named.raw.now) held token)))

    pub framed_empty : PartsFree named → (i : ℕ) (x r : Item) → slice_get (unit_of named).items i ≡ Some x → slice_get (unit_of named).items (root_of (unit_of named) i) ≡ Some r → r.home ≡ home.Frame → x.presets ≡ []
    framed_empty free i x r e g frame =
        let m = made-of named.declarations (numbers_of named) (listed_of named.raw.now) (addresses_of named.raw.now.comms) (held_of named.raw.now) things i x e in
        let q = made-of named.declarations (numbers_of named) (listed_of named.raw.now) (addresses_of named.raw.now.comms) (held_of named.raw.now) things (root_of (unit_of named) i) r g in
        let t : Thing = m.0 in
        let root : Thing = q.0 in
        let b = frame_thing (numbers_of named) root (place_at (listed_of named.raw.now) root.at.token) (item_at (addresses_of named.raw.now.comms) root.at.token) root.base (frame_of root.sort root.owner) refl refl (ap (λ (y : Item). y.home) q.2 ∙ frame) in
        let site : Site = site_at nothing_known things i t in
        let at_root : site.root ≡ root.at.token =
        site-root (unit_of named) named.declarations (numbers_of named) (listed_of named.raw.now) (addresses_of named.raw.now.comms) (held_of named.raw.now) things (made named rising bases) 1 rise free.things (suc i) i t (omega arith) m.1 root q.1 b.0 in
        let root_site : Site = site_at nothing_known things (root_of (unit_of named) i) root in
        let own_root : root_site.root ≡ root.at.token = ap (λ o. (site_by (sites_before (root_of (unit_of named) i)) o root).root) b.0 in
        let own_frame : root_site.frame ≡ Some b.1 = ap (λ o. (site_by (sites_before (root_of (unit_of named) i)) o root).frame) b.0 ∙ b.2 in
        let y = row-found sites t.at.token site (site_is i t m.1) in
        let z = row-found sites root.at.token root_site (site_is (root_of (unit_of named) i) root q.1) in
        let same_root : y.0.item.root ≡ z.0.item.root = ap (λ (x : Site). x.root) y.2 ∙ at_root ∙ sym own_root ∙ ap (λ (x : Site). x.root) (sym z.2) in
        let orderly = orderly_all 1 nothing_known things (orderly-first 1) rise free.things in
        let in_it : site.frame ≡ Some b.1 = ap (λ (x : Site). x.frame) (sym y.2) ∙ orderly.1.agree y.0 z.0 y.1 z.1 same_root ∙ ap (λ (x : Site). x.frame) z.2 ∙ own_frame in
        let framed : is_framed (item_at sites t.at.token) ≡ true = ap is_framed (site_is i t m.1) ∙ ap is_some in_it in
        let o = item_at (held_of named.raw.now) t.at.token in
        sym (ap (λ (z : Item). z.presets) m.2) ∙ nothing_at sites t.at.token o (held_at sites (held_of named.raw.now) held t.at.token) framed
