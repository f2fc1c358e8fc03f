-- Each frame of a text's unit has room: its families are those of the things of one procedure.
use Rattle.std.proofs.Common.{◌≡◌, ◌⊎◌, inl, inr, ℕ, suc, ◌+◌, ◌≤◌, List, [], ◌∷◌, Bool, true, false, ◌&&◌, cond, Option, Some, None, is_some, slice_get, refl, sym, ap, subst, ◌∙◌, arith, eqb-true}
use Rattle.std.proofs.lemmas.Option.{none-some, same_Some}
use Rattle.cw_items.specs.declared.thing.Owner.{Owner}
use Rattle.cw_items.specs.declared.thing.Base.{Base}
use Rattle.cw_items.specs.declared.thing.Sort.{Sort}
use Rattle.cw_items.specs.declared.thing.Sort.TheVariants as sort
use Rattle.cw_items.specs.declared.thing.Thing.{Thing}
use Rattle.cw_items.specs.declared.families.Site.{Site}
use Rattle.cw_items.specs.Families.{Counts, count_in, Known, nothing_known, all_known, things_judged, end_of, frame_of}
use Rattle.cw_scope.specs.declared.resolve.Named.{Named}
use Rattle.cw_number.specs.Listed.{listed_of}
use Rattle.cw_number.specs.Numbers.{numbers_of}
use Rattle.cw_make_items.specs.Lookup.{Numbers, proc_here}
use Rattle.cw_make_items.specs.Items.{addresses_of, proc_of_owner, home_on, home_listed, items_of}
use Rattle.cw_preset.specs.Held.{held_of}
use Rattle.cw_make.specs.Made.{unit_of}
use Rattle.cw_unit.specs.declared.unit.Item.{Item}
use Rattle.cw_unit.specs.declared.unit.Home.{Home}
use Rattle.cw_unit.specs.declared.unit.Home.TheVariants as home
use Rattle.cw_unit.specs.Storage.{family_extent, family_offset, is_frame_home, is_owner, frame_words_from, frame_size}
use Rattle.cw_unit.proofs.Families.{least_extent}
use Rattle.cw_sound.specs.Uses.Mentions.{block_mentions}
use Rattle.cw_sound.specs.Items.Derived.{HasRisingTokens, IsRising}
use Rattle.cw_sound.specs.Items.Bases.{BasesStand}
use Rattle.cw_sound.specs.Items.Items.{things_of, item_made}
use Rattle.cw_sound.proofs.Expressions.Truth.{first_true, second_true}
use Rattle.cw_sound.proofs.Items.Lists.{In, not-below}
use Rattle.cw_sound.proofs.Items.Numbering.{tokens_of_things, made-of}
use Rattle.cw_sound.proofs.Items.Room.{orderly-first, site_at, ends}
use Rattle.cw_sound.proofs.Items.Storage.{offset-within, site-root}
use Rattle.cw_sound.proofs.Items.Standing.{things-rise, made}
use Rattle.cw_sound.proofs.Storage.Owners.{AllSo, Owned}
use Rattle.cw_sound.proofs.Storage.FramesOwned.{thing_owned}
use Rattle.cw_sound.proofs.Storage.ProcedureNumbers.{Counted, one_token}
use Rattle.cw_sound.proofs.Storage.FrameTotals.{total, Distinct, OnlyIn, frame_total}
use Rattle.cw_sound.proofs.Storage.Extents.{reached, below_capped, root_only}
use Rattle.cw_macro.specs.Premises.{Each}

-- ---- things of frames

is_frame : (h : Home) → is_frame_home h ≡ true → h ≡ home.Frame
is_frame home.Frame e = refl
is_frame _ e = absurd cc

-- what has its home in a frame has no base
pub frame_thing : (numbers : Numbers) (t : Thing) (pl ad : Option ℕ) (ob : Option Base) (fr : Option ℕ) → t.base ≡ ob → frame_of t.sort t.owner ≡ fr → home_listed numbers pl ad t ≡ home.Frame
    → (t.base ≡ None) × (f : ℕ) × (frame_of t.sort t.owner ≡ Some f)
frame_thing numbers t (Some d) ad ob fr e f h = absurd cc
frame_thing numbers t None (Some a) ob fr e f h = absurd cc
frame_thing numbers t None None (Some b) fr e f h =
    absurd (let over : home_on numbers (Some b) (is_some (frame_of t.sort t.owner)) ≡ home.Frame = ap (λ o. home_on numbers o (is_some (frame_of t.sort t.owner))) (sym e) ∙ h in absurd cc)
frame_thing numbers t None None None None e f h =
    absurd (let own : home.Own ≡ home.Frame = sym (ap (λ o. home_on numbers o (is_some (frame_of t.sort t.owner))) e ∙ ap (λ o. home_on numbers None (is_some o)) f) ∙ h in absurd cc)
frame_thing numbers t None None None (Some g) e f h = (e, g, f)

of_flag : (w : Owner) (b : Bool) (f : ℕ) → cond b (Some w.token) None ≡ Some f → w.token ≡ f
of_flag w true f e = same_Some w.token f e
of_flag w false f e = absurd (none-some f e)

owner_of_frame : (s : Sort) (o : Option Owner) (f : ℕ) → frame_of s o ≡ Some f → (w : Owner) × (o ≡ Some w) × (w.token ≡ f)
owner_of_frame sort.Text o f e = absurd (none-some f e)
owner_of_frame sort.Named None f e = absurd (none-some f e)
owner_of_frame sort.Loop None f e = absurd (none-some f e)
owner_of_frame sort.Named (Some w) f e = (w, refl, of_flag w w.recursive f e)
owner_of_frame sort.Loop (Some w) f e = (w, refl, of_flag w w.recursive f e)

module _ (named : Named) (rising : HasRisingTokens named.raw.now) (bases : BasesStand (numbers_of named) (listed_of named.raw.now) (things_of named)) (free : things_judged nothing_known (things_of named) None ≡ None) where
  abbrev known : Known
  known = all_known nothing_known (things_of named)

  rise : IsRising 1 (tokens_of_things (things_of named))
  rise = things-rise named rising bases

  -- a family of a thing without a base reaches as far as is known
  extent_within : (i : ℕ) (t : Thing) → slice_get (things_of named) i ≡ Some t → t.base ≡ None → family_extent (unit_of named) i ≤ count_in known.extents t.at.token
  extent_within i t e none =
      least_extent (unit_of named) i (count_in known.extents t.at.token) (λ k x there root.
      let r = made-of named.declarations (numbers_of named) (listed_of named.raw.now) (addresses_of named.raw.now.comms) (held_of named.raw.now) (things_of named) k x there in
      let s = r.0 in
      let site : Site = site_at nothing_known (things_of named) k s in
      let words : s.words ≡ x.words = ap (λ (y : Item). y.words) r.2 in
      let a : family_offset (unit_of named) k ≤ site.place =
      offset-within (unit_of named) named.declarations (numbers_of named) (listed_of named.raw.now) (addresses_of named.raw.now.comms) (held_of named.raw.now) (things_of named) (made named rising bases) 1 rise free (suc k) k s (omega arith) r.1 in
      let b : site.place + s.words ≤ 32768 = ends 1 nothing_known (things_of named) (orderly-first 1) rise free k s r.1 in
      let c : site.place + s.words ≤ end_of s site = below_capped (site.place + s.words) b in
      let d : end_of s site ≤ count_in known.extents site.root = reached nothing_known (things_of named) k s r.1 in
      let g : site.root ≡ t.at.token =
      site-root (unit_of named) named.declarations (numbers_of named) (listed_of named.raw.now) (addresses_of named.raw.now.comms) (held_of named.raw.now) (things_of named) (made named rising bases) 1 rise free (suc k) k s (omega arith) r.1 t
      (ap (slice_get (things_of named)) root ∙ e) none in
      let h : count_in known.extents site.root ≡ count_in known.extents t.at.token = ap (count_in known.extents) g in
      omega (arith, words, a, c, d, h))

  module _ (q : ℕ) where
    abbrev test : Thing → Bool
    test t = is_frame_home (item_made named t).home && is_owner q (item_made named t).owner

    -- the roots in the frame of the procedure
    abbrev picks : List Thing → List ℕ
    picks [] = []
    picks (t ∷ ts) = cond (test t) (t.at.token ∷ picks ts) (picks ts)

    abbrev words_from : ℕ → List Thing → ℕ
    words_from n ts = frame_words_from n (unit_of named) q (items_of named.declarations (numbers_of named) (listed_of named.raw.now) (addresses_of named.raw.now.comms) (held_of named.raw.now) ts)

    sum_within : (cs : Counts) (n : ℕ) (ts : List Thing) → ((i : ℕ) (t : Thing) → slice_get ts i ≡ Some t → test t ≡ true → family_extent (unit_of named) (n + i) ≤ count_in cs t.at.token) → words_from n ts ≤ total cs (picks ts)
    sum_within cs n [] h = omega arith
    sum_within cs n (t ∷ ts) h =
        of_test (test t) (λ e. let z : n + 0 ≡ n = omega arith in subst (λ m. family_extent (unit_of named) m ≤ count_in cs t.at.token) z (h 0 t refl e))
        (sum_within cs (n + 1) ts (λ i s e f. let z : n + suc i ≡ n + 1 + i = omega arith in subst (λ m. family_extent (unit_of named) m ≤ count_in cs s.at.token) z (h (suc i) s e f)))
      where
        of_test : (b : Bool) → (b ≡ true → family_extent (unit_of named) n ≤ count_in cs t.at.token) → words_from (n + 1) ts ≤ total cs (picks ts)
            → cond b (family_extent (unit_of named) n) 0 + words_from (n + 1) ts ≤ total cs (cond b (t.at.token ∷ picks ts) (picks ts))
        of_test true f rest = let a = f refl in omega (arith, a, rest)
        of_test false f rest = omega (arith, rest)

    picked_in : (ts : List Thing) (r : ℕ) → In r (picks ts) → In r (tokens_of_things ts)
    picked_in [] r i = absurd i
    picked_in (t ∷ ts) r i = of_test (test t) i (λ j. picked_in ts r j)
      where
        of_test : (b : Bool) → In r (cond b (t.at.token ∷ picks ts) (picks ts)) → (In r (picks ts) → In r (tokens_of_things ts)) → In r (tokens_of_things (t ∷ ts))
        of_test true (inl e) rest = inl e
        of_test true (inr j) rest = inr (rest j)
        of_test false j rest = inr (rest j)

    distinct : (n : ℕ) (ts : List Thing) → IsRising n (tokens_of_things ts) → Distinct (picks ts)
    distinct n [] r = tt
    distinct n (t ∷ ts) r = of_test (test t) (distinct (suc t.at.token) ts r.1)
      where
        of_test : (b : Bool) → Distinct (picks ts) → Distinct (cond b (t.at.token ∷ picks ts) (picks ts))
        of_test true d = ((λ i. let l : suc t.at.token ≤ t.at.token = not-below (suc t.at.token) (tokens_of_things ts) t.at.token r.1 (picked_in ts t.at.token i) in absurd (omega (arith, l))), d)
        of_test false d = d

    each_pick : (P : ℕ → Type 0) (ts : List Thing) → ((i : ℕ) (t : Thing) → slice_get ts i ≡ Some t → test t ≡ true → P t.at.token) → Each P (picks ts)
    each_pick P [] h = tt
    each_pick P (t ∷ ts) h = of_test (test t) (h 0 t refl) (each_pick P ts (λ i s e f. h (suc i) s e f))
      where
        of_test : (b : Bool) → (b ≡ true → P t.at.token) → Each P (picks ts) → Each P (cond b (t.at.token ∷ picks ts) (picks ts))
        of_test true f rest = (f refl, rest)
        of_test false f rest = rest

    abbrev OnePick : List Thing → Type 0
    OnePick ts = (i : ℕ) × (t : Thing) × (slice_get ts i ≡ Some t) × (test t ≡ true)

    first_pick : (ts : List Thing) → (picks ts ≡ []) ⊎ OnePick ts
    first_pick [] = inl refl
    first_pick (t ∷ ts) = of_test (test t) refl (first_pick ts)
      where
        of_test : (b : Bool) → test t ≡ b → (picks ts ≡ []) ⊎ OnePick ts → (cond b (t.at.token ∷ picks ts) (picks ts) ≡ []) ⊎ OnePick (t ∷ ts)
        of_test true e r = inr (0, t, refl, e)
        of_test false e (inl h) = inl h
        of_test false e (inr h) = inr (suc h.0, h.1, h.2, h.3)

    record Framed (t : Thing) : Type 0 where
      baseless : t.base ≡ None
      owner : Owner
      owned : t.owner ≡ Some owner
      frame : frame_of t.sort t.owner ≡ Some owner.token
      number : proc_here (numbers_of named) owner.token ≡ q

    framed : (t : Thing) → test t ≡ true → Framed t
    framed t h =
        let x : Item = item_made named t in
        let f = frame_thing (numbers_of named) t _ _ t.base (frame_of t.sort t.owner) refl refl (is_frame x.home (first_true (is_frame_home x.home) (is_owner q x.owner) h)) in
        let w = owner_of_frame t.sort t.owner f.1 f.2 in
        let o : is_owner q (proc_of_owner (numbers_of named) (Some w.0)) ≡ true = ap (λ y. is_owner q (proc_of_owner (numbers_of named) y)) (sym w.1) ∙ second_true (is_frame_home x.home) (is_owner q x.owner) h in
        record { baseless = f.0; owner = w.0; owned = w.1; frame = f.2 ∙ ap Some (sym w.2); number = sym (eqb-true q (proc_here (numbers_of named) w.0.token) o) }

    module _ (so : AllSo (Counted named (numbers_of named)) (numbers_of named) (block_mentions (numbers_of named) named.raw.now)) where
      of_owner : (t : Thing) (w : Owner) → t.owner ≡ Some w → Owned (Counted named (numbers_of named)) (numbers_of named) None t → Counted named (numbers_of named) w.token
      of_owner t w e (inl none) = absurd (none-some w (sym none ∙ e))
      of_owner t w e (inr r) = subst (λ (x : Owner). Counted named (numbers_of named) x.token) (same_Some r.0 w (sym r.1 ∙ e)) r.2

      counted : (i : ℕ) (t : Thing) (w : Owner) → slice_get (things_of named) i ≡ Some t → t.owner ≡ Some w → Counted named (numbers_of named) w.token
      counted i t w e o = of_owner t w o (thing_owned (Counted named (numbers_of named)) (numbers_of named) named so i t e)

      total_within : (picks (things_of named) ≡ []) ⊎ OnePick (things_of named) → total known.extents (picks (things_of named)) ≤ 32768
      total_within (inl none) = let z : total known.extents (picks (things_of named)) ≡ 0 = ap (total known.extents) none in omega (arith, z)
      total_within (inr p) =
          let first = framed p.1 p.3 in
          frame_total first.owner.token (things_of named) free (picks (things_of named)) (distinct 1 (things_of named) rise)
          (each_pick (OnlyIn known.sites first.owner.token) (things_of named) (λ i t e h.
          let x = framed t h in
          let same : x.owner.token ≡ first.owner.token =
          one_token named (numbers_of named) x.owner.token first.owner.token (counted i t x.owner e x.owned) (counted p.0 p.1 first.owner p.2 first.owned) (x.number ∙ sym first.number) in
          root_only (things_of named) rise free i t first.owner.token e x.baseless (x.frame ∙ ap Some same)))

      pub fits : frame_size (unit_of named) q ≤ 32768
      fits =
          let most = total_within (first_pick (things_of named)) in
          let sum : frame_size (unit_of named) q ≤ total known.extents (picks (things_of named)) =
          sum_within known.extents 0 (things_of named) (λ i t e h. let z : i ≡ 0 + i = omega arith in subst (λ m. family_extent (unit_of named) m ≤ count_in known.extents t.at.token) z (extent_within i t e (framed t h).baseless)) in
          omega (arith, most, sum)
