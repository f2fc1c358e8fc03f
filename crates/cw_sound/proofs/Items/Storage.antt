-- Where the items of a unit stand: bases stand before what is overlaid on them, and the root of each family is one that the bodies of its
-- things may name.
use Rattle.std.proofs.Common.{◌≡◌, ℕ, zero, suc, ◌+◌, ◌<◌, ◌≤◌, min, take, eqb-true, List, [], ◌∷◌, length, Bool, true, false, ◌&&◌, cond, IsTrue, Option, Some, None, is_some, slice_get, nat_le, refl, sym, ap, ap₂, subst, ◌∙◌, arith, inl, inr, ◌⊎◌}
use Rattle.std.proofs.lemmas.Bool.{eq-eqb}
use Rattle.std.proofs.lemmas.Bool.Decides.{nat_tests}
use Rattle.std.proofs.lemmas.Option.{none-some, same_Some, slice_get_within}
use Rattle.cw_table.specs.declared.table.Row.{Row}
use Rattle.cw_table.specs.Rows.{item_at, place_at}
use Rattle.cw_facts.specs.declared.fact.Declaration.{Declaration}
use Rattle.cw_items.specs.declared.thing.Owner.{Owner}
use Rattle.cw_items.specs.declared.thing.Base.{Base}
use Rattle.cw_items.specs.declared.thing.Sort.{Sort}
use Rattle.cw_items.specs.declared.thing.Sort.TheVariants as sort
use Rattle.cw_items.specs.declared.thing.Thing.{Thing}
use Rattle.cw_items.specs.Things.{capped, amount_or_none}
use Rattle.cw_items.specs.Families.{frame_of, site_on, site_by, nothing_known, all_known, things_judged}
use Rattle.cw_number.specs.declared.listed.Listing.{Listing}
use Rattle.cw_number.specs.declared.numbered.Numbered.TheVariants as numbered
use Rattle.cw_unit.specs.declared.unit.Unit.{Unit as SourceUnit}
use Rattle.cw_unit.specs.declared.unit.Item.{Item}
use Rattle.cw_unit.specs.declared.unit.Home.{Home}
use Rattle.cw_unit.specs.declared.unit.Home.TheVariants as home
use Rattle.cw_unit.specs.declared.descriptor.Desc.{Desc}
use Rattle.cw_unit.specs.Storage.{is_item_of, item_of_from, overlay_in, common_base, base_of_home, base_of_item, base_of, root_of, family_offset}
use Rattle.cw_unit.specs.ValidStorage.{IsStorable}
use Rattle.cw_unit.proofs.Families.{base_family, root_alone}
use Rattle.cw_make_items.specs.Lookup.{Numbers, item_in, item_here, proc_here}
use Rattle.cw_make_items.specs.Descriptors.{descriptor_at, over_base, over_thing, over_at}
use Rattle.cw_make_items.specs.Items.{Held, proc_of_owner, home_on, home_listed, item_of, items_of}
use Rattle.cw_gen_expr.specs.NamedItems.{is_same_procedure, has_words}
use Rattle.cw_built.specs.Named.{names_home, names_root, is_long}
use Rattle.cw_built.proofs.ItemNames.{both-hold}
use Rattle.cw_sound.specs.Items.Bodies.{MayName}
use Rattle.cw_sound.specs.Items.Bases.{BaseStands, BasesStand}
use Rattle.cw_sound.specs.Items.Derived.{IsRising}
use Rattle.cw_sound.proofs.Items.Room.{orderly-first, site_at, ends, site-found}
use Rattle.cw_sound.proofs.Items.Numbering.{tokens_of_things, item-made, made-of, row-at}

-- ---- homes

-- an item that stands in a frame has an owner
framed-owner : (s : Sort) (o : Option Owner) → is_some (frame_of s o) ≡ true → (w : Owner) × (o ≡ Some w)
framed-owner sort.Named None e = absurd cc
framed-owner sort.Text None e = absurd cc
framed-owner sort.Loop None e = absurd cc
framed-owner s (Some w) e = (w, refl)

-- the bodies that may name what stands in a frame are those of its owner
framed-body : (numbers : Numbers) (s : Sort) (o : Option Owner) (who : Option ℕ) → is_some (frame_of s o) ≡ true → MayName numbers who (frame_of s o) → who ≡ proc_of_owner numbers o
framed-body numbers sort.Named None who e m = absurd cc
framed-body numbers sort.Text o who e m = absurd cc
framed-body numbers sort.Loop None who e m = absurd cc
framed-body numbers sort.Named (Some w) who e m = of-flag w.recursive refl e m
  where
    of-flag : (b : Bool) → w.recursive ≡ b → is_some (cond b (Some w.token) None) ≡ true → MayName numbers who (cond b (Some w.token) None) → who ≡ Some (proc_here numbers w.token)
    of-flag true t f k = k
    of-flag false t f k = absurd cc
framed-body numbers sort.Loop (Some w) who e m = of-flag w.recursive refl e m
  where
    of-flag : (b : Bool) → w.recursive ≡ b → is_some (cond b (Some w.token) None) ≡ true → MayName numbers who (cond b (Some w.token) None) → who ≡ Some (proc_here numbers w.token)
    of-flag true t f k = k
    of-flag false t f k = absurd cc

same-procedure : (who owner : Option ℕ) (q : ℕ) → owner ≡ Some q → who ≡ owner → is_same_procedure who owner ≡ true
same-procedure who owner q e w = ap₂ is_same_procedure (w ∙ e) e ∙ eq-eqb q q refl

-- ---- the item of a descriptor

item-before : (e n : ℕ) (is : List Item) (j : ℕ) (x : Item) → slice_get is j ≡ Some x → is_item_of e x.home ≡ true → item_of_from n e is ≤ n + j
item-before e n [] j x f h = absurd (none-some x f)
item-before e n (y ∷ is) zero x f h =
    let c : is_item_of e y.home ≡ true = ap (λ (z : Item). is_item_of e z.home) (same_Some y x f) ∙ h in
    let r : item_of_from n e (y ∷ is) ≡ n = ap (λ b. cond b n (item_of_from (n + 1) e is)) c in
    omega (arith, r)
item-before e n (y ∷ is) (suc j) x f h = of-test (is_item_of e y.home) (item-before e (n + 1) is j x f h)
  where
    of-test : (b : Bool) → item_of_from (n + 1) e is ≤ n + 1 + j → cond b n (item_of_from (n + 1) e is) ≤ n + suc j
    of-test true k = omega arith
    of-test false k = omega (arith, k)

-- what is found has such a home
abbrev Found : (e n : ℕ) → List Item → Type 0
Found e n is = (k : ℕ) × (y : Item) × (item_of_from n e is ≡ n + k) × (slice_get is k ≡ Some y) × (is_item_of e y.home ≡ true)

found-next : (e n : ℕ) (y : Item) (is : List Item) (j : ℕ) (x : Item) (b : Bool) → is_item_of e y.home ≡ b → slice_get (y ∷ is) j ≡ Some x → is_item_of e x.home ≡ true
    → ((j : ℕ) → slice_get is j ≡ Some x → Found e (n + 1) is) → Found e n (y ∷ is)
found-next e n y is j x true t f h rest =
    let at : n ≡ n + 0 = omega arith in
    (0, y, ap (λ b. cond b n (item_of_from (n + 1) e is)) t ∙ at, refl, t)
found-next e n y is zero x false t f h rest = absurd (let no : true ≡ false = sym h ∙ ap (λ (z : Item). is_item_of e z.home) (sym (same_Some y x f)) ∙ t in absurd cc)
found-next e n y is (suc j) x false t f h rest =
    let r = rest j f in
    let at : n + 1 + r.0 ≡ n + suc r.0 = omega arith in
    (suc r.0, r.1, ap (λ b. cond b n (item_of_from (n + 1) e is)) t ∙ r.2 ∙ at, r.3, r.4)

item-found : (e n : ℕ) (is : List Item) (j : ℕ) (x : Item) → slice_get is j ≡ Some x → is_item_of e x.home ≡ true → Found e n is
item-found e n [] j x f h = absurd (none-some x f)
item-found e n (y ∷ is) j x f h = found-next e n y is j x (is_item_of e y.home) refl f h (λ k g. item-found e (n + 1) is k x g h)

-- ---- a unit of these things

module _ (u : SourceUnit) (declarations : List (Row Declaration)) (numbers : Numbers) (listed : List (Row Listing)) (addresses : List (Row ℕ)) (held : List (Row Held)) (things : List Thing) where
  abbrev pub OverlaysAre : Type 0
  OverlaysAre = (d : ℕ) (x : Desc) (r : Row Listing) → slice_get u.descs d ≡ Some x → slice_get listed d ≡ Some r → (x.over ≡ None) ⊎ (x.over ≡ over_at numbers listed things r.token)

  pub record Made : Type 0 where
    pub items : u.items ≡ items_of declarations numbers listed addresses held things
    pub overlays : OverlaysAre
    pub few : length listed ≤ 65535
    pub number : (i : ℕ) (t : Thing) → slice_get things i ≡ Some t → item_at numbers t.at.token ≡ Some (numbered.Item i)
    pub bases : BasesStand numbers listed things

  abbrev home_of : Thing → Home
  home_of t = home_listed numbers (place_at listed t.at.token) (item_at addresses t.at.token) t

  abbrev IsListed : Thing → Type 0
  IsListed t = (d : ℕ) × (place_at listed t.at.token ≡ Some d)

  -- the bodies that may name a thing
  abbrev Allowed : (who : Option ℕ) → Thing → Type 0
  Allowed who t = MayName numbers who (frame_of t.sort t.owner) ⊎ IsListed t

  -- a thing without a base, or one on a thing before it
  data Stands (i : ℕ) (t : Thing) : Type 0 where
    alone : (none : base_of u i ≡ None) (named : (who : Option ℕ) → Allowed who t → names_home who (proc_of_owner numbers t.owner) (home_of t) ≡ true) → Stands i t
    over : (j w : ℕ) (s : Thing) (b : Base) (on : base_of u i ≡ Some (j, w)) (before : j < i) (there : slice_get things j ≡ Some s) (seen : (who : Option ℕ) → Allowed who t → Allowed who s) (base : t.base ≡ Some b) (token : s.at.token ≡ b.token) (least : w ≤ b.word) → Stands i t

  module _ (m : Made) where
    item-at : (i : ℕ) (t : Thing) → slice_get things i ≡ Some t → slice_get u.items i ≡ Some (item_of declarations numbers listed addresses held t)
    item-at i t e = ap (λ xs. slice_get xs i) m.items ∙ item-made declarations numbers listed addresses held things i t e

    base-at : (i : ℕ) (t : Thing) (h : Home) → slice_get things i ≡ Some t → home_of t ≡ h → base_of u i ≡ base_of_home u h
    base-at i t h e k = ap (base_of_item u) (item-at i t e) ∙ ap (base_of_home u) k

    item-here : (i : ℕ) (t : Thing) → slice_get things i ≡ Some t → item_here numbers t.at.token ≡ i
    item-here i t e = ap item_in (m.number i t e)

    -- what is not listed
    not-listed : (t : Thing) → place_at listed t.at.token ≡ None → IsListed t → ⊥
    not-listed t e l = none-some l.0 (sym e ∙ l.1)

    apart : (i : ℕ) (t : Thing) (ad : Option ℕ) (ob : Option Base) (fr : Bool) → slice_get things i ≡ Some t → place_at listed t.at.token ≡ None
        → item_at addresses t.at.token ≡ ad → t.base ≡ ob → is_some (frame_of t.sort t.owner) ≡ fr → Stands i t
    apart i t (Some a) ob fr e pl at bs f =
        let h : home_of t ≡ home.Absolute a = ap₂ (λ p q. home_listed numbers p q t) pl at in
        alone (base-at i t (home.Absolute a) e h) (λ who k. ap (names_home who (proc_of_owner numbers t.owner)) h)
    apart i t None (Some b) fr e pl at bs f =
        let h : home_of t ≡ home.Over (item_here numbers b.token) (min b.word 65535) =
        ap₂ (λ p q. home_listed numbers p q t) pl at ∙ ap (λ o. home_on numbers o (is_some (frame_of t.sort t.owner))) bs in
        let s = m.bases i t b e bs in
        let j : item_here numbers b.token ≡ s.place = ap (item_here numbers) (sym s.at_token) ∙ item-here s.place s.base s.there in
        over s.place (min b.word 65535) s.base b (base-at i t (home.Over (item_here numbers b.token) (min b.word 65535)) e h ∙ ap (λ k. Some (k, min b.word 65535)) j) s.before s.there
        (λ who k. elim k [ inl n ↦ inl (s.seen who n) | inr l ↦ absurd (not-listed t pl l) ]) bs s.at_token (omega arith)
    apart i t None None false e pl at bs f =
        let h : home_of t ≡ home.Own = ap₂ (λ p q. home_listed numbers p q t) pl at ∙ ap₂ (λ o g. home_on numbers o g) bs f in
        alone (base-at i t home.Own e h) (λ who k. ap (names_home who (proc_of_owner numbers t.owner)) h)
    apart i t None None true e pl at bs f =
        let h : home_of t ≡ home.Frame = ap₂ (λ p q. home_listed numbers p q t) pl at ∙ ap₂ (λ o g. home_on numbers o g) bs f in
        let w = framed-owner t.sort t.owner f in
        let q : proc_of_owner numbers t.owner ≡ Some (proc_here numbers w.0.token) = ap (proc_of_owner numbers) w.1 in
        alone (base-at i t home.Frame e h) (λ who k. ap (names_home who (proc_of_owner numbers t.owner)) h ∙ elim k [
          | inl n ↦ same-procedure who (proc_of_owner numbers t.owner) (proc_here numbers w.0.token) q (framed-body numbers t.sort t.owner who f n)
          | inr l ↦ absurd (not-listed t pl l)
        ])

    -- what is listed
    few-listed : (token d : ℕ) → place_at listed token ≡ Some d → min d 65535 ≡ d
    few-listed token d e =
        let r = row-at listed token d e in
        let l : d < length listed = slice_get_within listed d r.0 r.1 in
        let k : length listed ≤ 65535 = m.few in
        omega (arith, l, k)

    is-common : (j e : ℕ) (s : Thing) → slice_get things j ≡ Some s → place_at listed s.at.token ≡ Some e → is_item_of e (home_of s) ≡ true
    is-common j e s there l =
        let h : home_of s ≡ home.Common e = ap (λ p. home_listed numbers p (item_at addresses s.at.token) s) l ∙ ap home.Common (few-listed s.at.token e l) in
        ap (is_item_of e) h ∙ eq-eqb e e refl

    -- only what is listed is an item of a descriptor
    on-address : (e : ℕ) (s : Thing) (ad : Option ℕ) (ob : Option Base) (fr : Bool) → item_at addresses s.at.token ≡ ad → s.base ≡ ob → is_some (frame_of s.sort s.owner) ≡ fr
        → place_at listed s.at.token ≡ None → is_item_of e (home_of s) ≡ true → ⊥
    on-address e s (Some a) ob fr at bs f pl h =
        absurd (let no : false ≡ true = sym (ap (is_item_of e) (ap₂ (λ p q. home_listed numbers p q s) pl at)) ∙ h in absurd cc)
    on-address e s None (Some b) fr at bs f pl h =
        absurd (let no : false ≡ true = sym (ap (is_item_of e) (ap₂ (λ p q. home_listed numbers p q s) pl at ∙ ap (λ o. home_on numbers o (is_some (frame_of s.sort s.owner))) bs)) ∙ h in absurd cc)
    on-address e s None None false at bs f pl h =
        absurd (let no : false ≡ true = sym (ap (is_item_of e) (ap₂ (λ p q. home_listed numbers p q s) pl at ∙ ap₂ (λ o g. home_on numbers o g) bs f)) ∙ h in absurd cc)
    on-address e s None None true at bs f pl h =
        absurd (let no : false ≡ true = sym (ap (is_item_of e) (ap₂ (λ p q. home_listed numbers p q s) pl at ∙ ap₂ (λ o g. home_on numbers o g) bs f)) ∙ h in absurd cc)

    listed-if : (e : ℕ) (s : Thing) (pl : Option ℕ) → place_at listed s.at.token ≡ pl → is_item_of e (home_of s) ≡ true → IsListed s
    listed-if e s (Some d) pl h = (d, pl)
    listed-if e s None pl h = absurd (on-address e s (item_at addresses s.at.token) s.base (is_some (frame_of s.sort s.owner)) refl refl refl pl h)

    listed-as : (e : ℕ) (s : Thing) → IsListed s → is_item_of e (home_of s) ≡ true → place_at listed s.at.token ≡ Some e
    listed-as e s l h =
        let there : home_of s ≡ home.Common l.0 = ap (λ p. home_listed numbers p (item_at addresses s.at.token) s) l.1 ∙ ap home.Common (few-listed s.at.token l.0 l.1) in
        let same : e ≡ l.0 = eqb-true e l.0 (sym (ap (is_item_of e) there) ∙ h) in
        l.1 ∙ ap Some (sym same)

    -- one row has one token
    one-token : (a b e : ℕ) → place_at listed a ≡ Some e → place_at listed b ≡ Some e → a ≡ b
    one-token a b e f g =
        let x = row-at listed a e f in
        let y = row-at listed b e g in
        let same : x.0 ≡ y.0 = same_Some x.0 y.0 (sym x.1 ∙ y.1) in
        sym x.2 ∙ ap (λ (r : Row Listing). r.token) same ∙ y.2

    listed-item : (e k : ℕ) (y : Item) → slice_get u.items k ≡ Some y → is_item_of e y.home ≡ true → (s : Thing) × (slice_get things k ≡ Some s) × (place_at listed s.at.token ≡ Some e)
    listed-item e k y f h =
        let r = made-of declarations numbers listed addresses held things k y (sym (ap (λ xs. slice_get xs k) m.items) ∙ f) in
        let c : is_item_of e (home_of r.0) ≡ true = ap (λ (x : Item). is_item_of e x.home) r.2 ∙ h in
        (r.0, r.1, listed-as e r.0 (listed-if e r.0 (place_at listed r.0.at.token) refl c) c)

    -- an item of a descriptor that is overlaid on another
    common-base : (i : ℕ) (t : Thing) (b : Base) (s : BaseStands numbers listed things i t b) (e : ℕ) → place_at listed b.token ≡ Some e
        → (k : ℕ) × (z : Thing) × (item_of_from 0 e u.items ≡ k) × (k < i) × (slice_get things k ≡ Some z) × (place_at listed z.at.token ≡ Some e) × (z.at.token ≡ b.token)
    common-base i t b s e l =
        let x = item_of declarations numbers listed addresses held s.base in
        let there : slice_get u.items s.place ≡ Some x = item-at s.place s.base s.there in
        let c : is_item_of e (home_of s.base) ≡ true = is-common s.place e s.base s.there (ap (place_at listed) s.at_token ∙ l) in
        let r = item-found e 0 u.items s.place x there c in
        let bound : item_of_from 0 e u.items ≤ 0 + s.place = item-before e 0 u.items s.place x there c in
        let q = listed-item e r.0 r.1 r.3 r.4 in
        (r.0, q.0, r.2 ∙ omega arith, omega (arith, bound, r.2, s.before), q.1, q.2, one-token q.0.at.token b.token e q.2 l)

    listed-over : (i d : ℕ) (t : Thing) (x : Desc) (ob : Option Base) → slice_get things i ≡ Some t → place_at listed t.at.token ≡ Some d → home_of t ≡ home.Common d → slice_get u.descs d ≡ Some x
        → t.base ≡ ob → (x.over ≡ None) ⊎ (x.over ≡ over_at numbers listed things t.at.token) → Stands i t
    listed-over i d t x ob e pl h f bs (inl none) =
        alone (base-at i t (home.Common d) e h ∙ ap (λ y. common_base u (overlay_in y)) f ∙ ap (common_base u) none)
        (λ who k. ap (names_home who (proc_of_owner numbers t.owner)) h)
    listed-over i d t x None e pl h f bs (inr same) =
        let o : over_at numbers listed things t.at.token ≡ None = ap (λ n. over_thing listed (slice_get things n)) (item-here i t e) ∙ ap (over_thing listed) e ∙ ap (over_base listed) bs in
        alone (base-at i t (home.Common d) e h ∙ ap (λ y. common_base u (overlay_in y)) f ∙ ap (common_base u) (same ∙ o))
        (λ who k. ap (names_home who (proc_of_owner numbers t.owner)) h)
    listed-over i d t x (Some b) e pl h f bs (inr same) =
        let s = m.bases i t b e bs in
        let l = s.listed_too d pl in
        let o : over_at numbers listed things t.at.token ≡ Some (descriptor_at listed b.token, min b.word 65535) =
        ap (λ n. over_thing listed (slice_get things n)) (item-here i t e) ∙ ap (over_thing listed) e ∙ ap (over_base listed) bs in
        let at : descriptor_at listed b.token ≡ l.0 = ap (λ p. min (amount_or_none p) 65535) l.1 ∙ few-listed b.token l.0 l.1 in
        let r = common-base i t b s l.0 l.1 in
        over r.0 (min b.word 65535) r.1 b
        (base-at i t (home.Common d) e h ∙ ap (λ y. common_base u (overlay_in y)) f ∙ ap (common_base u) (same ∙ o)
        ∙ ap (λ n. Some (item_of_from 0 n u.items, min b.word 65535)) at ∙ ap (λ n. Some (n, min b.word 65535)) r.2)
        r.3 r.4 (λ who k. inr (l.0, r.5)) bs r.6 (omega arith)

    no-descriptor : (i d : ℕ) (t : Thing) → slice_get things i ≡ Some t → home_of t ≡ home.Common d → slice_get u.descs d ≡ None → Stands i t
    no-descriptor i d t e h f =
        alone (base-at i t (home.Common d) e h ∙ ap (λ y. common_base u (overlay_in y)) f) (λ who k. ap (names_home who (proc_of_owner numbers t.owner)) h)

    described : (i d : ℕ) (t : Thing) (o : Option Desc) → slice_get things i ≡ Some t → place_at listed t.at.token ≡ Some d → slice_get u.descs d ≡ o → Stands i t
    described i d t o e pl f =
        let h : home_of t ≡ home.Common d = ap (λ p. home_listed numbers p (item_at addresses t.at.token) t) pl ∙ ap home.Common (few-listed t.at.token d pl) in
        let r = row-at listed t.at.token d pl in
        of-one o f h r.0 r.1 r.2
      where
        of-one : (o : Option Desc) → slice_get u.descs d ≡ o → home_of t ≡ home.Common d → (r : Row Listing) → slice_get listed d ≡ Some r → r.token ≡ t.at.token → Stands i t
        of-one None f h r g n = no-descriptor i d t e h f
        of-one (Some x) f h r g n =
            listed-over i d t x t.base e pl h f refl
            (subst (λ token. (x.over ≡ None) ⊎ (x.over ≡ over_at numbers listed things token)) n (m.overlays d x r f g))

    thing-stands : (i : ℕ) (t : Thing) → slice_get things i ≡ Some t → Stands i t
    thing-stands i t e = of-place (place_at listed t.at.token) refl
      where
        of-place : (pl : Option ℕ) → place_at listed t.at.token ≡ pl → Stands i t
        of-place None pl = apart i t (item_at addresses t.at.token) t.base (is_some (frame_of t.sort t.owner)) e pl refl refl refl
        of-place (Some d) pl = described i d t (slice_get u.descs d) e pl refl

    -- ---- the unit's storage is well formed

    before-it : (n : ℕ) (b : ℕ × ℕ) (t : Thing) → base_of u n ≡ Some b → Stands n t → b.0 < n
    before-it n b t e (alone none named) = absurd (none-some b (sym none ∙ e))
    before-it n b t e (over j w s c on before there seen base token least) =
        let same : j ≡ b.0 = ap (λ (p : ℕ × ℕ). p.0) (same_Some (j, w) b (sym on ∙ e)) in
        omega (arith, same, before)

    base-before : (n : ℕ) (b : ℕ × ℕ) (o : Option Item) → slice_get u.items n ≡ o → base_of u n ≡ Some b → b.0 < n
    base-before n b None f e = absurd (none-some b (sym (ap (base_of_item u) f) ∙ e))
    base-before n b (Some x) f e =
        let r = made-of declarations numbers listed addresses held things n x (sym (ap (λ xs. slice_get xs n) m.items) ∙ f) in
        before-it n b r.0 e (thing-stands n r.0 r.1)

    framed : (t : Thing) (pl ad : Option ℕ) (ob : Option Base) (fr : Bool) → place_at listed t.at.token ≡ pl → item_at addresses t.at.token ≡ ad → t.base ≡ ob → is_some (frame_of t.sort t.owner) ≡ fr
        → home_of t ≡ home.Frame → (q : ℕ) × (proc_of_owner numbers t.owner ≡ Some q)
    framed t (Some d) ad ob fr p a b f h = absurd (let no : home.Common (min d 65535) ≡ home.Frame = sym (ap (λ x. home_listed numbers x (item_at addresses t.at.token) t) p) ∙ h in absurd cc)
    framed t None (Some k) ob fr p a b f h = absurd (let no : home.Absolute k ≡ home.Frame = sym (ap₂ (λ x y. home_listed numbers x y t) p a) ∙ h in absurd cc)
    framed t None None (Some c) fr p a b f h =
        absurd (let no : home.Over (item_here numbers c.token) (min c.word 65535) ≡ home.Frame = sym (ap₂ (λ x y. home_listed numbers x y t) p a ∙ ap (λ o. home_on numbers o (is_some (frame_of t.sort t.owner))) b) ∙ h in absurd cc)
    framed t None None None false p a b f h =
        absurd (let no : home.Own ≡ home.Frame = sym (ap₂ (λ x y. home_listed numbers x y t) p a ∙ ap₂ (λ o g. home_on numbers o g) b f) ∙ h in absurd cc)
    framed t None None None true p a b f h =
        let w = framed-owner t.sort t.owner f in
        (proc_here numbers w.0.token, ap (proc_of_owner numbers) w.1)

    frame-owned : (n : ℕ) (x : Item) → slice_get u.items n ≡ Some x → x.home ≡ home.Frame → (q : ℕ) × (x.owner ≡ Some q)
    frame-owned n x f h =
        let r = made-of declarations numbers listed addresses held things n x (sym (ap (λ xs. slice_get xs n) m.items) ∙ f) in
        let t = r.0 in
        let q = framed t (place_at listed t.at.token) (item_at addresses t.at.token) t.base (is_some (frame_of t.sort t.owner)) refl refl refl refl (ap (λ (y : Item). y.home) r.2 ∙ h) in
        (q.0, sym (ap (λ (y : Item). y.owner) r.2) ∙ q.1)

    pub storable : IsStorable u
    storable = record { base_before = λ n b e. base-before n b (slice_get u.items n) refl e; frame_owned = frame-owned }

    -- ---- the bodies of a thing may name its root

    abbrev RootNamed : (who : Option ℕ) → ℕ → Type 0
    RootNamed who n = names_root who (slice_get u.items (root_of u n)) ≡ true

    root-next : (bound n : ℕ) (t : Thing) (who : Option ℕ) → n < suc bound → slice_get things n ≡ Some t → Allowed who t → Stands n t
        → ((j : ℕ) (s : Thing) → j < bound → slice_get things j ≡ Some s → Allowed who s → RootNamed who j) → RootNamed who n
    root-next bound n t who l e a (alone none named) rest =
        ap (λ r. names_root who (slice_get u.items r)) (root_alone u n none).0 ∙ ap (names_root who) (item-at n t e) ∙ named who a
    root-next bound n t who l e a (over j w s c on before there seen base token least) rest =
        ap (λ r. names_root who (slice_get u.items r)) (base_family u storable n (j, w) on).0 ∙ rest j s (omega (arith, before, l)) there (seen who a)

    root-named : (bound n : ℕ) (t : Thing) (who : Option ℕ) → n < bound → slice_get things n ≡ Some t → Allowed who t → RootNamed who n
    root-named zero n t who l e a = absurd (omega (arith, l))
    root-named (suc bound) n t who l e a = root-next bound n t who l e a (thing-stands n t e) (λ j s k f b. root-named bound j s who k f b)

    both-true : (a b : Bool) → a ≡ true → b ≡ true → IsTrue (a && b)
    both-true a b e f = subst IsTrue (sym (ap₂ (λ x y. x && y) e f)) refl

    long : (words : ℕ) (x : Item) → words ≤ x.words → nat_le words x.words ≡ true
    long words x l = grind (arith, nat_tests)

    pub has-words : (i : ℕ) (t : Thing) (who : Option ℕ) (words : ℕ) → slice_get things i ≡ Some t → MayName numbers who (frame_of t.sort t.owner) → words ≤ t.words → IsTrue (has_words u who i words)
    has-words i t who words e n l =
        let x = item_of declarations numbers listed addresses held t in
        let a : is_long words (slice_get u.items i) ≡ true = ap (is_long words) (item-at i t e) ∙ long words x l in
        let b : names_root who (slice_get u.items (root_of u i)) ≡ true = root-named (suc i) i t who (omega arith) e (inl n) in
        subst IsTrue (both-hold u who i words (is_long words (slice_get u.items i)) (names_root who (slice_get u.items (root_of u i))) storable refl refl)
        (both-true (is_long words (slice_get u.items i)) (names_root who (slice_get u.items (root_of u i))) a b)

    -- ---- a thing begins no further in its family than its site tells

    module _ (first : ℕ) (rising : IsRising first (tokens_of_things things)) (free : things_judged nothing_known things None ≡ None) where
      ends-here : (i : ℕ) (t : Thing) → slice_get things i ≡ Some t → (site_at nothing_known things i t).place + t.words ≤ 32768
      ends-here i t e = ends first nothing_known things (orderly-first first) rising free i t e

      -- a base's site is known where the thing's is made
      place-of : (i j : ℕ) (t s : Thing) (b : Base) → slice_get things i ≡ Some t → slice_get things j ≡ Some s → j < i → t.base ≡ Some b → s.at.token ≡ b.token
          → (site_at nothing_known things i t).place ≡ capped ((site_at nothing_known things j s).place + b.word)
      place-of i j t s b e f l bs at =
          let sites = (all_known nothing_known (take i things)).sites in
          let found : item_at sites b.token ≡ Some (site_at nothing_known things j s) = ap (item_at sites) (sym at) ∙ site-found first nothing_known things rising (λ r k. absurd k) i j s l f in
          ap (λ x. (site_by sites x t).place) bs ∙ ap (λ x. (site_on x b t).place) found

      uncapped : (n : ℕ) → capped n ≤ 32768 → capped n ≡ n
      uncapped n h = of-test (nat_le n 32768) refl h
        where
          of-test : (b : Bool) → nat_le n 32768 ≡ b → cond b n 32769 ≤ 32768 → cond b n 32769 ≡ n
          of-test true t h = refl
          of-test false t h = absurd (omega (arith, h))

      abbrev pub WithinSite : ℕ → Thing → Type 0
      WithinSite i t = family_offset u i ≤ (site_at nothing_known things i t).place

      offset-next : (bound i : ℕ) (t : Thing) → i < suc bound → slice_get things i ≡ Some t → Stands i t → ((j : ℕ) (s : Thing) → j < bound → slice_get things j ≡ Some s → WithinSite j s) → WithinSite i t
      offset-next bound i t l e (alone none named) rest = let z : family_offset u i ≡ 0 = (root_alone u i none).1 in omega (arith, z)
      offset-next bound i t l e (over j w s b on before there seen base token least) rest =
          let z : family_offset u i ≡ w + family_offset u j = (base_family u storable i (j, w) on).1 in
          let h : family_offset u j ≤ (site_at nothing_known things j s).place = rest j s (omega (arith, before, l)) there in
          let p = place-of i j t s b e there before base token in
          let limit : capped ((site_at nothing_known things j s).place + b.word) ≤ 32768 = (let q = ends-here i t e in omega (arith, q, p)) in
          let whole = uncapped ((site_at nothing_known things j s).place + b.word) limit in
          omega (arith, z, h, p, whole, least)

      pub offset-within : (bound i : ℕ) (t : Thing) → i < bound → slice_get things i ≡ Some t → WithinSite i t
      offset-within zero i t l e = absurd (omega (arith, l))
      offset-within (suc bound) i t l e = offset-next bound i t l e (thing-stands i t e) (λ j s k f. offset-within bound j s k f)

      -- the root of a family is that of the sites in it, where nothing is said to be its base
      abbrev pub RootSited : ℕ → Thing → Type 0
      RootSited i t = (r : Thing) → slice_get things (root_of u i) ≡ Some r → r.base ≡ None → (site_at nothing_known things i t).root ≡ r.at.token

      site-root-next : (bound i : ℕ) (t : Thing) → i < suc bound → slice_get things i ≡ Some t → Stands i t → ((j : ℕ) (s : Thing) → j < bound → slice_get things j ≡ Some s → RootSited j s) → RootSited i t
      site-root-next bound i t l e (alone none named) rest r f n =
          let same : t ≡ r = same_Some t r (sym e ∙ ap (slice_get things) (sym (root_alone u i none).0) ∙ f) in
          let base : t.base ≡ None = ap (λ (x : Thing). x.base) same ∙ n in
          ap (λ x. (site_by (all_known nothing_known (take i things)).sites x t).root) base ∙ ap (λ (x : Thing). x.at.token) same
      site-root-next bound i t l e (over j w s b on before there seen base token least) rest r f n =
          let sites = (all_known nothing_known (take i things)).sites in
          let found : item_at sites b.token ≡ Some (site_at nothing_known things j s) = ap (item_at sites) (sym token) ∙ site-found first nothing_known things rising (λ q k. absurd k) i j s before there in
          ap (λ x. (site_by sites x t).root) base ∙ ap (λ x. (site_on x b t).root) found
          ∙ rest j s (omega (arith, before, l)) there r (ap (slice_get things) (sym (base_family u storable i (j, w) on).0) ∙ f) n

      pub site-root : (bound i : ℕ) (t : Thing) → i < bound → slice_get things i ≡ Some t → RootSited i t
      site-root zero i t l e = absurd (omega (arith, l))
      site-root (suc bound) i t l e = site-root-next bound i t l e (thing-stands i t e) (λ j s k f. site-root bound j s k f)

      pub reaches : (i : ℕ) (t : Thing) → slice_get things i ≡ Some t → family_offset u i + t.words ≤ 32768
      reaches i t e =
          let a = ends-here i t e in
          let b : family_offset u i ≤ (site_at nothing_known things i t).place = offset-within (suc i) i t (omega arith) e in
          omega (arith, a, b)
