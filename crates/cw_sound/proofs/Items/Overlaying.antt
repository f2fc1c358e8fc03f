-- The descriptors of a segment stand beside what the communicators list, each overlaid as its item is.
use Rattle.std.proofs.Common.{◌≡◌, ℕ, zero, suc, ◌<◌, ◌≤◌, min, nat_lt, ◌&&◌, ap₂, arith, List, [], ◌∷◌, ◌++◌, length, Bool, true, false, cond, Option, Some, None, slice_get, refl, sym, ap, subst, ◌∙◌, ◌⊎◌, inl, inr}
use Rattle.std.specs.List.{list_all}
use Rattle.std.proofs.lemmas.Bool.Decides.{nat_tests}
use Rattle.std.proofs.lemmas.Option.{none-some, same_Some, slice_get_within}
use Rattle.cw_table.specs.Rows.{place_at}
use Rattle.cw_table.specs.declared.table.Row.{Row}
use Rattle.cw_tree.specs.declared.leaf.RawName.{RawName}
use Rattle.cw_tree.specs.declared.leaf.RawType.{RawType}
use Rattle.cw_tree.specs.declared.items.RawBounds.{RawBounds}
use Rattle.cw_tree.specs.declared.items.RawGroup.{RawGroup}
use Rattle.cw_tree.specs.declared.items.RawData.{RawData}
use Rattle.cw_tree.specs.declared.items.RawData.TheVariants as items
use Rattle.cw_tree.specs.declared.segment.RawComm.{RawComm}
use Rattle.cw_tree.specs.declared.segment.RawComm.TheVariants as comm
use Rattle.cw_tree.specs.declared.segment.RawCitem.{RawCitem}
use Rattle.cw_tree.specs.declared.segment.RawCitem.TheVariants as citem
use Rattle.cw_tree.specs.declared.segment.RawSpec.{RawSpec}
use Rattle.cw_items.specs.declared.thing.Base.{Base}
use Rattle.cw_items.specs.declared.thing.Thing.{Thing}
use Rattle.cw_items.specs.Things.{amount_or_none}
use Rattle.cw_make_items.specs.Lookup.{item_here}
use Rattle.cw_built.specs.Stored.{is_base}
use Rattle.cw_sound.proofs.Items.Numbering.{row-at}
use Rattle.cw_number.specs.declared.listed.Listing.{Listing}
use Rattle.cw_number.specs.declared.listed.Listing.TheVariants as listing
use Rattle.cw_number.specs.declared.numbered.Numbered.{Numbered}
use Rattle.cw_number.specs.Listed.{row, each_listed, groups_listed, data_listed, citem_listed, citems_listed, is_built_in, spec_listed, specs_listed, communicator_listed, communicators_listed}
use Rattle.cw_unit.specs.declared.descriptor.Desc.{Desc}
use Rattle.cw_make_items.specs.Descriptors.{descriptor_at, over_base, over_thing, over_at, word_descs, array_descs, group_descs, data_descs, label_descs, switch_descs, spec_desc, library_desc, library_descs, citem_descs, citems_descs, communicator_descs, descs_of}

module _ (numbers : List (Row Numbered)) (listed : List (Row Listing)) (things : List Thing) where
  abbrev OverlaidAt : Desc → (token : ℕ) → Type 0
  OverlaidAt x token = (x.over ≡ None) ⊎ (x.over ≡ over_at numbers listed things token)

  abbrev Beside : List Desc → List (Row Listing) → Type 0
  Beside [] [] = Unit {0}
  Beside (x ∷ xs) (r ∷ rs) = OverlaidAt x r.token × Beside xs rs
  Beside _ _ = ⊥

  both-beside : (xs ys : List Desc) (rs qs : List (Row Listing)) → Beside xs rs → Beside ys qs → Beside (xs ++ ys) (rs ++ qs)
  both-beside [] ys [] qs h k = k
  both-beside (x ∷ xs) ys (r ∷ rs) qs h k = (h.0, both-beside xs ys rs qs h.1 k)
  both-beside [] ys (r ∷ rs) qs h k = absurd h
  both-beside (x ∷ xs) ys [] qs h k = absurd h

  beside-words : (t : RawType) (ns : List RawName) → Beside (word_descs numbers listed things t ns) (each_listed listing.Data ns)
  beside-words t [] = tt
  beside-words t (n ∷ ns) = (inr refl, beside-words t ns)

  beside-arrays : (t : RawType) (b : RawBounds) (ns : List RawName) → Beside (array_descs numbers listed things t b ns) (each_listed listing.Data ns)
  beside-arrays t b [] = tt
  beside-arrays t b (n ∷ ns) = (inr refl, beside-arrays t b ns)

  beside-groups : (t : RawType) (gs : List RawGroup) → Beside (group_descs numbers listed things t gs) (groups_listed gs)
  beside-groups t [] = tt
  beside-groups t (g ∷ gs) =
      both-beside (array_descs numbers listed things t g.bounds g.names) (group_descs numbers listed things t gs) (each_listed listing.Data g.names) (groups_listed gs) (beside-arrays t g.bounds g.names) (beside-groups t gs)

  beside-data : (d : RawData) → Beside (data_descs numbers listed things d) (data_listed d)
  beside-data (items.Singles t ns presets) = beside-words t ns
  beside-data (items.Arrays t gs presets) = beside-groups t gs
  beside-data (items.Table t inside behind) = (inr refl, tt)

  beside-labels : (ns : List RawName) → Beside (label_descs ns) (each_listed listing.Label ns)
  beside-labels [] = tt
  beside-labels (n ∷ ns) = (inl refl, beside-labels ns)

  beside-switches : (ns : List RawName) → Beside (switch_descs ns) (each_listed listing.Switch ns)
  beside-switches [] = tt
  beside-switches (n ∷ ns) = (inl refl, beside-switches ns)

  beside-citem : (i : RawCitem) → Beside (citem_descs numbers listed things i) (citem_listed i)
  beside-citem (citem.Data d) = beside-data d
  beside-citem (citem.Overlay at b d) = beside-data d
  beside-citem (citem.Label at ns) = beside-labels ns
  beside-citem (citem.Switch at ns) = beside-switches ns
  beside-citem (citem.Spec s) = (inl refl, tt)

  beside-citems : (is : List RawCitem) → Beside (citems_descs numbers listed things is) (citems_listed is)
  beside-citems [] = tt
  beside-citems (i ∷ is) = both-beside (citem_descs numbers listed things i) (citems_descs numbers listed things is) (citem_listed i) (citems_listed is) (beside-citem i) (beside-citems is)

  beside-if : (b : Bool) (s : RawSpec) → Beside (cond b [] (spec_desc true s ∷ [])) (cond b [] (row listing.Proc s.name ∷ []))
  beside-if true s = tt
  beside-if false s = (inl refl, tt)

  beside-library : (ss : List RawSpec) → Beside (library_descs ss) (specs_listed ss)
  beside-library [] = tt
  beside-library (s ∷ ss) = both-beside (library_desc s) (library_descs ss) (spec_listed s) (specs_listed ss) (beside-if (is_built_in s.name.name) s) (beside-library ss)

  beside-communicator : (c : RawComm) → Beside (communicator_descs numbers listed things c) (communicator_listed c)
  beside-communicator (comm.Common at is) = beside-citems is
  beside-communicator (comm.Library at ss) = beside-library ss
  beside-communicator (comm.Absolute at is) = tt

  beside-all : (cs : List RawComm) → Beside (descs_of numbers listed things cs) (communicators_listed cs)
  beside-all [] = tt
  beside-all (c ∷ cs) = both-beside (communicator_descs numbers listed things c) (descs_of numbers listed things cs) (communicator_listed c) (communicators_listed cs) (beside-communicator c) (beside-all cs)

  beside-length : (xs : List Desc) (rs : List (Row Listing)) → Beside xs rs → length xs ≡ length rs
  beside-length [] [] h = refl
  beside-length (x ∷ xs) (r ∷ rs) h = ap suc (beside-length xs rs h.1)
  beside-length [] (r ∷ rs) h = absurd h
  beside-length (x ∷ xs) [] h = absurd h

  pub as-many : (cs : List RawComm) → length (descs_of numbers listed things cs) ≡ length (communicators_listed cs)
  as-many cs = beside-length (descs_of numbers listed things cs) (communicators_listed cs) (beside-all cs)

  at-descriptor : (xs : List Desc) (rs : List (Row Listing)) (d : ℕ) (x : Desc) (r : Row Listing) → Beside xs rs → slice_get xs d ≡ Some x → slice_get rs d ≡ Some r → OverlaidAt x r.token
  at-descriptor [] rs d x r h e f = absurd (none-some x e)
  at-descriptor (y ∷ xs) [] d x r h e f = absurd (none-some r f)
  at-descriptor (y ∷ xs) (q ∷ rs) zero x r h e f =
      subst (λ (z : Desc). OverlaidAt z r.token) (same_Some y x e) (subst (λ (z : Row Listing). OverlaidAt y z.token) (same_Some q r f) h.0)
  at-descriptor (y ∷ xs) (q ∷ rs) (suc d) x r h e f = at-descriptor xs rs d x r h.1 e f

  pub overlays-are : (cs : List RawComm) (d : ℕ) (x : Desc) (r : Row Listing) → slice_get (descs_of numbers listed things cs) d ≡ Some x → slice_get (communicators_listed cs) d ≡ Some r → (x.over ≡ None) ⊎ (x.over ≡ over_at numbers listed things r.token)
  overlays-are cs d x r e f = at-descriptor (descs_of numbers listed things cs) (communicators_listed cs) d x r (beside-all cs) e f

  -- ---- bases are descriptors

  is-below : (a n : ℕ) → a < n → nat_lt a n ≡ true
  is-below a n h = grind (arith, nat_tests)

  place-below : (n token : ℕ) (o : Option ℕ) → 0 < n → length listed ≡ n → place_at listed token ≡ o → min (amount_or_none o) 65535 < n
  place-below n token None h l e = omega (arith, h)
  place-below n token (Some k) h l e =
      let r = row-at listed token k e in
      let b : k < length listed = slice_get_within listed k r.0 r.1 in
      omega (arith, b, l)

  over-below : (n : ℕ) (o : Option Base) → 0 < n → length listed ≡ n → is_base n (over_base listed o) ≡ true
  over-below n None h l = refl
  over-below n (Some b) h l = is-below (descriptor_at listed b.token) n (place-below n b.token (place_at listed b.token) h l refl)

  thing-below : (n : ℕ) (o : Option Thing) → 0 < n → length listed ≡ n → is_base n (over_thing listed o) ≡ true
  thing-below n None h l = refl
  thing-below n (Some t) h l = over-below n t.base h l

  overlaid-below : (n token : ℕ) (x : Desc) → 0 < n → length listed ≡ n → OverlaidAt x token → is_base n x.over ≡ true
  overlaid-below n token x h l (inl e) = ap (is_base n) e
  overlaid-below n token x h l (inr e) = ap (is_base n) e ∙ thing-below n (slice_get things (item_here numbers token)) h l

  each-below : (n : ℕ) (xs : List Desc) (rs : List (Row Listing)) → length xs ≤ n → length listed ≡ n → Beside xs rs → list_all (λ (d : Desc). is_base n d.over) xs ≡ true
  each-below n [] rs h l b = refl
  each-below n (x ∷ xs) [] h l b = absurd b
  each-below n (x ∷ xs) (r ∷ rs) h l b =
      let more : 0 < n = omega (arith, h) in
      let rest : length xs ≤ n = omega (arith, h) in
      ap₂ (λ p q. p && q) (overlaid-below n r.token x more l b.0) (each-below n xs rs rest l b.1)

  pub bases-below : (cs : List RawComm) → listed ≡ communicators_listed cs → list_all (λ (d : Desc). is_base (length (descs_of numbers listed things cs)) d.over) (descs_of numbers listed things cs) ≡ true
  bases-below cs e =
      let n = length (descs_of numbers listed things cs) in
      each-below n (descs_of numbers listed things cs) (communicators_listed cs) (omega arith) (ap length e ∙ sym (as-many cs)) (beside-all cs)
