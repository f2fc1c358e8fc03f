-- The descriptors of a text's unit fit the fields of the format.
use Rattle.std.proofs.Common.{◌≡◌, ℕ, ℤ, pos, negsuc, suc, ◌≤◌, ◌<◌, min, List, [], ◌∷◌, length, Bool, true, false, ◌&&◌, IsTrue, cond, nat_le, nat_lt, Option, Some, None, slice_get, refl, sym, ap, subst, ◌∙◌, arith}
use Rattle.std.specs.Prelude.{neg_ℤ, int_le}
use Rattle.std.specs.List.{list_all}
use Rattle.std.proofs.lemmas.Bool.Decides.{nat_tests}
use Rattle.cw_table.specs.declared.table.Row.{Row}
use Rattle.cw_table.specs.Rows.{place_at}
use Rattle.cw_tree.specs.declared.leaf.RawName.{RawName}
use Rattle.cw_tree.specs.declared.leaf.RawType.{RawType}
use Rattle.cw_tree.specs.declared.leaf.RawType.TheVariants as type
use Rattle.cw_tree.specs.declared.items.RawRange.{RawRange}
use Rattle.cw_tree.specs.declared.items.RawBounds.{RawBounds}
use Rattle.cw_tree.specs.declared.items.RawGroup.{RawGroup}
use Rattle.cw_tree.specs.declared.items.RawElem.{RawElem}
use Rattle.cw_tree.specs.declared.items.RawData.{RawData}
use Rattle.cw_tree.specs.declared.segment.RawIps.{RawIps}
use Rattle.cw_tree.specs.declared.segment.RawIps.TheVariants as inner
use Rattle.cw_tree.specs.declared.segment.RawPs.{RawPs}
use Rattle.cw_tree.specs.declared.segment.RawPs.TheVariants as ps
use Rattle.cw_tree.specs.declared.segment.RawSpec.{RawSpec}
use Rattle.cw_tree.specs.declared.segment.RawCitem.{RawCitem}
use Rattle.cw_tree.specs.declared.segment.RawComm.{RawComm}
use Rattle.cw_grammar.specs.Grammar.{a_list, a_name, a_group, an_elem, a_data, a_spec, a_citem, a_comm}
use Rattle.cw_derived.specs.NormalForm as normal
use Rattle.cw_derived.specs.NormalForm.{IsNormal}
use Rattle.cw_amount.specs.Amounts.{place_amount, place_sint, is_negative}
use Rattle.cw_scale.specs.Kinds.{fraction_in, fraction_of_sint}
use Rattle.cw_items.specs.declared.thing.Base.{Base}
use Rattle.cw_items.specs.declared.thing.Thing.{Thing}
use Rattle.cw_items.specs.Things.{amount_or_none}
use Rattle.cw_number.specs.declared.listed.Listing.{Listing}
use Rattle.cw_number.specs.declared.numbered.Numbered.{Numbered}
use Rattle.cw_number.specs.Listed.{is_built_in}
use Rattle.cw_make_items.specs.Lookup.{item_here}
use Rattle.cw_make_items.specs.Types.{within, bound_in, bound, scale_of, answer_of, width_of, plain_taken, each_plain_taken, plain_spec, taken, each_taken, spec_of}
use Rattle.cw_make_items.specs.Descriptors.{dimension, second_dimension, dimensions_of, part_form, element_of, elements_of, array_body, table_body, label_descs, switch_descs, spec_desc, library_desc, library_descs, descriptor_at, over_base, over_thing, data_desc, word_descs, array_descs, group_descs, data_descs, citem_descs, citems_descs, communicator_descs, descs_of}
use Rattle.cw_unit.specs.declared.descriptor.Desc.{Desc}
use Rattle.cw_unit.specs.declared.descriptor.DescBody.{DescBody}
use Rattle.cw_unit.specs.declared.descriptor.DescBody.TheVariants as bodies
use Rattle.cw_unit.specs.declared.descriptor.Spec.{Spec}
use Rattle.cw_unit.specs.declared.descriptor.SpecParam.{SpecParam, SpecParam-F, out-SpecParam}
use Rattle.cw_unit.specs.declared.descriptor.SpecParam.TheVariants as takes
use Rattle.cw_unit.specs.declared.descriptor.SpecParam.TheOpen as spec_layer
use Rattle.cw_unit.specs.declared.descriptor.SpecParam.TheViews.{out-roll-SpecParam}
use Rattle.cw_word.specs.FixedPoint.{fits_word}
use Rattle.cw_fields.specs.Names.{is_name}
use Rattle.cw_object.specs.Fits.{is_byte, is_word, fits_scale, fits_answer, fits_plain_layer, fits_plain_parameter, fits_spec, fits_layer, fits_parameter, fits_bounds, fits_element, is_few, fits_body, fits_overlay, fits_descriptor}
use Rattle.cw_writable.proofs.Front.Truth.{lt_true, both, first_of_two, second_of_two}
use Rattle.cw_writable.proofs.Front.Families.{all_append}
use Rattle.cw_sound.specs.Written.Counts.{Each, HasFewPlain, SpecCounts, DataCounts, CitemCounts, CommCounts, CountsFit}
use Rattle.cw_sound.proofs.Written.Homes.{within_limit}
use Rattle.cw_sound.proofs.Written.Segment.{identifier_is_name}

-- ---- numbers

byte_within : (o : Option ℕ) → IsTrue (is_byte (within 255 o))
byte_within o = let h = within_limit 255 o in lt_true (within 255 o) 256 (omega (arith, h))

word_within : (o : Option ℕ) → IsTrue (is_word (within 65535 o))
word_within o = let h = within_limit 65535 o in lt_true (within 65535 o) 65536 (omega (arith, h))

fraction_byte : (negative : Bool) (o : Option ℕ) → IsTrue (is_byte (fraction_in negative o))
fraction_byte negative None = refl
fraction_byte true (Some n) = refl
fraction_byte false (Some n) = of_test (nat_lt n 16) refl
  where
    of_test : (b : Bool) → nat_lt n 16 ≡ b → IsTrue (is_byte (cond b n 0))
    of_test true e = let h : n < 16 = grind (arith, nat_tests, e) in lt_true n 256 (omega (arith, h))
    of_test false e = refl

scale_fits : (t : RawType) → IsTrue (fits_scale (scale_of t))
scale_fits (type.Integer at) = refl
scale_fits (type.Fixed at t f) = both (is_byte (within 255 (place_amount t))) (is_byte (fraction_of_sint f)) (byte_within (place_amount t)) (fraction_byte (is_negative f.sign) (place_amount f.value))

le_of : (a b : ℕ) → IsTrue (nat_le a b) → a ≤ b
le_of a b h = grind (arith, nat_tests)

word_test : (z : ℤ) → IsTrue (int_le (neg_ℤ (pos 32768)) z && int_le z (pos 32767)) → IsTrue (fits_word z)
word_test (pos n) h = lt_true n 32768 (omega (arith, le_of n 32767 (second_of_two true (nat_le n 32767) h)))
word_test (negsuc n) h = lt_true n 32768 (omega (arith, le_of n 32767 (first_of_two (nat_le n 32767) true h)))

bound_test : (z : ℤ) (b : Bool) → (int_le (neg_ℤ (pos 32768)) z && int_le z (pos 32767)) ≡ b → IsTrue (fits_word (cond b z (pos 0)))
bound_test z true e = word_test z e
bound_test z false e = refl

bound_fits : (o : Option ℤ) → IsTrue (fits_word (bound_in o))
bound_fits None = refl
bound_fits (Some z) = bound_test z (int_le (neg_ℤ (pos 32768)) z && int_le z (pos 32767)) refl

dimension_fits : (r : RawRange) → IsTrue (fits_bounds (dimension r))
dimension_fits r = both (fits_word (bound r.lower)) (fits_word (bound r.upper)) (bound_fits (place_sint r.lower)) (bound_fits (place_sint r.upper))

dimensions_fit : (r : RawRange) (o : Option RawRange) → IsTrue (is_few (length (dimension r ∷ second_dimension o)) && list_all fits_bounds (dimension r ∷ second_dimension o))
dimensions_fit r None = both (fits_bounds (dimension r)) true (dimension_fits r) refl
dimensions_fit r (Some s) = both (fits_bounds (dimension r)) (fits_bounds (dimension s) && true) (dimension_fits r) (both (fits_bounds (dimension s)) true (dimension_fits s) refl)

array_fits : (t : RawType) (b : RawBounds) → IsTrue (fits_body (array_body t b))
array_fits t b = both (fits_scale (scale_of t)) (is_few (length (dimensions_of b)) && list_all fits_bounds (dimensions_of b)) (scale_fits t) (dimensions_fit b.first b.second)

-- ---- specifications

answer_fits : (o : Option RawType) → IsTrue (fits_answer (answer_of o))
answer_fits None = refl
answer_fits (Some t) = scale_fits t

plain_fits : (p : RawIps) → IsTrue (fits_plain_parameter (plain_taken p))
unfolding Rattle.cw_unit.specs.declared.descriptor.SpecParam.TheViews.out-SpecParam denote.Hole.Carrier.out
plain_fits (inner.Value at t) = scale_fits t
plain_fits (inner.Location at t) = scale_fits t
plain_fits (inner.Array t) = scale_fits t
plain_fits (inner.Table at s) = word_within (place_amount s.first)
plain_fits (inner.Label at) = refl
plain_fits (inner.Switch at) = refl

no_procedure : (l : SpecParam-F SpecParam Spec) → IsTrue (fits_plain_layer l) → IsTrue (fits_layer l)
no_procedure (spec_layer.Proc s) h = absurd (cc)
no_procedure _ h = h

plain_parameter : (p : RawIps) → IsTrue (fits_parameter (plain_taken p))
plain_parameter p = no_procedure (out-SpecParam (plain_taken p)) (plain_fits p)

plains_fit : (xs : List RawIps) → IsTrue (list_all fits_plain_parameter (each_plain_taken xs))
plains_fit [] = refl
plains_fit (x ∷ xs) = both (fits_plain_parameter (plain_taken x)) (list_all fits_plain_parameter (each_plain_taken xs)) (plain_fits x) (plains_fit xs)

plain_length : (xs : List RawIps) → length (each_plain_taken xs) ≡ length xs
plain_length [] = refl
plain_length (x ∷ xs) = ap (λ n. suc n) (plain_length xs)

taken_length : (xs : List RawPs) → length (each_taken xs) ≡ length xs
taken_length [] = refl
taken_length (x ∷ xs) = ap (λ n. suc n) (taken_length xs)

few_byte : (n m : ℕ) → n ≡ m → m ≤ 255 → IsTrue (is_byte n)
few_byte n m e h = lt_true n 256 (omega (arith, e, h))

plain_spec_fits : (answer : Option RawType) (xs : List RawIps) → length xs ≤ 255 → IsTrue (fits_spec fits_plain_parameter (plain_spec answer xs))
plain_spec_fits answer xs h =
    both (fits_answer (answer_of answer)) (is_byte (length (each_plain_taken xs)) && list_all fits_plain_parameter (each_plain_taken xs)) (answer_fits answer)
    (both (is_byte (length (each_plain_taken xs))) (list_all fits_plain_parameter (each_plain_taken xs)) (few_byte (length (each_plain_taken xs)) (length xs) (plain_length xs) h) (plains_fit xs))

parameter_fits : (p : RawPs) → HasFewPlain p → IsTrue (fits_parameter (taken p))
parameter_fits (ps.Plain p) h = plain_parameter p
parameter_fits (ps.Proc answer at xs) h =
    subst IsTrue (sym (ap fits_parameter (sym (takes.rolls-Proc (plain_spec answer xs))) ∙ ap fits_layer (out-roll-SpecParam (spec_layer.Proc (plain_spec answer xs))))) (plain_spec_fits answer xs h)

parameters_fit : (xs : List RawPs) → Each HasFewPlain xs → IsTrue (list_all fits_parameter (each_taken xs))
parameters_fit [] h = refl
parameters_fit (x ∷ xs) h = both (fits_parameter (taken x)) (list_all fits_parameter (each_taken xs)) (parameter_fits x h.0) (parameters_fit xs h.1)

spec_fits : (s : RawSpec) → SpecCounts s → IsTrue (fits_body (bodies.Proc (spec_of s.answer s.params)))
spec_fits s h =
    both (fits_answer (answer_of s.answer)) (is_byte (length (each_taken s.params)) && list_all fits_parameter (each_taken s.params)) (answer_fits s.answer)
    (both (is_byte (length (each_taken s.params))) (list_all fits_parameter (each_taken s.params)) (few_byte (length (each_taken s.params)) (length s.params) (taken_length s.params) h.params) (parameters_fit s.params h.plain))

-- ---- names and elements

name_fits : {n : ℕ} {p : Bool} {f : RawName} {a : List ℕ} → IsNormal n p a_name f a → IsTrue (is_name f.name)
name_fits (normal.is_name x h) = identifier_is_name x.name h

element_fits : {n : ℕ} {p : Bool} {x : RawElem} {a : List ℕ} → IsNormal n p an_elem x a → IsTrue (fits_element (element_of x))
element_fits (normal.word_elem {f = f} {t = t} {x = x} h k l) =
    let w = within 65535 (place_amount x) in
    let s = scale_of t in
    both (is_name f.name) (is_byte s.t && (is_byte s.f && (is_word w && true))) (name_fits h)
    (scale_then t (is_word w && true) (both (is_word w) true (word_within (place_amount x)) refl))
  where
    scale_then : (t : RawType) (b : Bool) → IsTrue b → IsTrue (is_byte (scale_of t).t && (is_byte (scale_of t).f && b))
    scale_then (type.Integer at) b h = h
    scale_then (type.Fixed at t f) b h =
        both (is_byte (within 255 (place_amount t))) (is_byte (fraction_of_sint f) && b) (byte_within (place_amount t)) (both (is_byte (fraction_of_sint f)) b (fraction_byte (is_negative f.sign) (place_amount f.value)) h)
element_fits (normal.part_elem {f = f} u {t = t} {w = w} {i = i} {s = s} h k l m o) =
    let c = is_byte (within 255 (place_amount t)) in
    let d = is_byte (fraction_of_sint s) in
    let e = is_word (within 65535 (place_amount w)) in
    let g = is_byte (within 255 (place_amount i)) in
    both (is_name f.name) (nat_le (part_form u) 2 && (c && (d && (e && g)))) (name_fits h)
    (both (nat_le (part_form u) 2) (c && (d && (e && g))) (form_fits u)
    (both c (d && (e && g)) (byte_within (place_amount t))
    (both d (e && g) (fraction_byte (is_negative s.sign) (place_amount s.value)) (both e g (word_within (place_amount w)) (byte_within (place_amount i))))))
  where
    form_fits : (u : Bool) → IsTrue (nat_le (part_form u) 2)
    form_fits true = refl
    form_fits false = refl

elements_fit : {n : ℕ} {p : Bool} {xs : List RawElem} {a : List ℕ} → IsNormal n p (a_list an_elem) xs a → IsTrue (list_all fits_element (elements_of xs))
elements_fit normal.no_more = refl
elements_fit (normal.one_more {x = x} {xs = xs} h k) = both (fits_element (element_of x)) (list_all fits_element (elements_of xs)) (element_fits h) (elements_fit k)

elements_length : (xs : List RawElem) → length (elements_of xs) ≡ length xs
elements_length [] = refl
elements_length (x ∷ xs) = ap (λ n. suc n) (elements_length xs)

-- ---- the lists

capped_word : (n : ℕ) → IsTrue (is_word (min n 65535))
capped_word n = lt_true (min n 65535) 65536 (omega arith)

module _ (numbers : List (Row Numbered)) (listed : List (Row Listing)) (things : List Thing) where
  abbrev Fit : List Desc → Type 0
  Fit ds = IsTrue (list_all fits_descriptor ds)

  base_fits : (o : Option Base) → IsTrue (fits_overlay (over_base listed o))
  base_fits None = refl
  base_fits (Some b) = both (is_word (descriptor_at listed b.token)) (is_word (min b.word 65535)) (capped_word (amount_or_none (place_at listed b.token))) (capped_word b.word)

  over_fits : (o : Option Thing) → IsTrue (fits_overlay (over_thing listed o))
  over_fits None = refl
  over_fits (Some t) = base_fits t.base

  desc_fits : (d : Desc) → IsTrue (is_name d.name) → IsTrue (fits_overlay d.over) → IsTrue (fits_body d.body) → IsTrue (fits_descriptor d)
  desc_fits d h k l = both (is_name d.name) (fits_overlay d.over && fits_body d.body) h (both (fits_overlay d.over) (fits_body d.body) k l)

  data_fits : (n : RawName) (b : DescBody) → IsTrue (is_name n.name) → IsTrue (fits_body b) → IsTrue (fits_descriptor (data_desc numbers listed things n b))
  data_fits n b h k = desc_fits (data_desc numbers listed things n b) h (over_fits (slice_get things (item_here numbers n.at.token))) k

  words_fit : {n : ℕ} {p : Bool} {ns : List RawName} {a : List ℕ} (t : RawType) → IsNormal n p (a_list a_name) ns a → Fit (word_descs numbers listed things t ns)
  words_fit t normal.no_more = refl
  words_fit t (normal.one_more {x = x} {xs = xs} h k) =
      both (fits_descriptor (data_desc numbers listed things x (bodies.Word (scale_of t)))) (list_all fits_descriptor (word_descs numbers listed things t xs)) (data_fits x (bodies.Word (scale_of t)) (name_fits h) (scale_fits t)) (words_fit t k)

  arrays_fit : {n : ℕ} {p : Bool} {ns : List RawName} {a : List ℕ} (t : RawType) (b : RawBounds) → IsNormal n p (a_list a_name) ns a → Fit (array_descs numbers listed things t b ns)
  arrays_fit t b normal.no_more = refl
  arrays_fit t b (normal.one_more {x = x} {xs = xs} h k) =
      both (fits_descriptor (data_desc numbers listed things x (array_body t b))) (list_all fits_descriptor (array_descs numbers listed things t b xs)) (data_fits x (array_body t b) (name_fits h) (array_fits t b)) (arrays_fit t b k)

  groups_fit : {n : ℕ} {p : Bool} {gs : List RawGroup} {a : List ℕ} (t : RawType) → IsNormal n p (a_list a_group) gs a → Fit (group_descs numbers listed things t gs)
  groups_fit t normal.no_more = refl
  groups_fit t (normal.one_more {xs = xs} (normal.is_group {x = x} {xs = ns} {y = y} h b) k) =
      all_append fits_descriptor (array_descs numbers listed things t y (x ∷ ns)) (group_descs numbers listed things t xs) (arrays_fit t y h) (groups_fit t k)

  data_listed_fit : {n : ℕ} {p : Bool} {d : RawData} {a : List ℕ} → IsNormal n p a_data d a → DataCounts d → Fit (data_descs numbers listed things d)
  data_listed_fit (normal.single_data {t = t} ht hn ho) c = words_fit t hn
  data_listed_fit (normal.array_data {t = t} ht hg ho) c = groups_fit t hg
  data_listed_fit (normal.table_data (normal.is_table at {f = f} {z = z} {xs = xs} hf hz hx) hi ho) c =
      let w = is_word (width_of z) in
      let l = is_word (within 65535 (place_amount z.second)) in
      let m = is_word (length (elements_of xs)) in
      let r = list_all fits_element (elements_of xs) in
      let count = elements_length xs in
      both (fits_descriptor (data_desc numbers listed things f (table_body (record { at = at; name = f; size = z; elems = xs })))) true
      (data_fits f (table_body (record { at = at; name = f; size = z; elems = xs })) (name_fits hf)
      (both w (l && (m && r)) (word_within (place_amount z.first)) (both l (m && r) (word_within (place_amount z.second)) (both m r (lt_true (length (elements_of xs)) 65536 (omega (arith, count, c))) (elements_fit hx))))) refl

  labels_fit : {n : ℕ} {p : Bool} {ns : List RawName} {a : List ℕ} → IsNormal n p (a_list a_name) ns a → Fit (label_descs ns)
  labels_fit normal.no_more = refl
  labels_fit (normal.one_more {x = x} {xs = xs} h k) =
      both (fits_descriptor (record { name = x.name; library = false; over = None; body = bodies.Label })) (list_all fits_descriptor (label_descs xs)) (desc_fits (record { name = x.name; library = false; over = None; body = bodies.Label }) (name_fits h) refl refl) (labels_fit k)

  switches_fit : {n : ℕ} {p : Bool} {ns : List RawName} {a : List ℕ} → IsNormal n p (a_list a_name) ns a → Fit (switch_descs ns)
  switches_fit normal.no_more = refl
  switches_fit (normal.one_more {x = x} {xs = xs} h k) =
      both (fits_descriptor (record { name = x.name; library = false; over = None; body = bodies.Switch })) (list_all fits_descriptor (switch_descs xs)) (desc_fits (record { name = x.name; library = false; over = None; body = bodies.Switch }) (name_fits h) refl refl) (switches_fit k)

  spec_listed_fits : {n : ℕ} {p : Bool} {s : RawSpec} {a : List ℕ} (library : Bool) → IsNormal n p a_spec s a → SpecCounts s → IsTrue (fits_descriptor (spec_desc library s))
  spec_listed_fits library (normal.is_spec {o = o} {t = t} {f = f} {xs = xs} ho ht hf hx) c =
      let s : RawSpec = record { answer = o; tag = t; name = f; params = xs } in
      desc_fits (spec_desc library s) (name_fits hf) refl (spec_fits s c)

  citem_fits : {n : ℕ} {p : Bool} {i : RawCitem} {a : List ℕ} → IsNormal n p a_citem i a → CitemCounts i → Fit (citem_descs numbers listed things i)
  citem_fits (normal.data_citem h) c = data_listed_fit h c
  citem_fits (normal.overlay_citem at h k) c = data_listed_fit k c
  citem_fits (normal.label_citem at h) c = labels_fit h
  citem_fits (normal.switch_citem at h) c = switches_fit h
  citem_fits (normal.spec_citem {x = s} h) c = both (fits_descriptor (spec_desc false s)) true (spec_listed_fits false h c) refl

  citems_fit : {n : ℕ} {p : Bool} {is : List RawCitem} {a : List ℕ} → IsNormal n p (a_list a_citem) is a → Each CitemCounts is → Fit (citems_descs numbers listed things is)
  citems_fit normal.no_more c = refl
  citems_fit (normal.one_more {x = x} {xs = xs} h k) c = all_append fits_descriptor (citem_descs numbers listed things x) (citems_descs numbers listed things xs) (citem_fits h c.0) (citems_fit k c.1)

  if_listed : (b : Bool) (s : RawSpec) → IsTrue (fits_descriptor (spec_desc true s)) → Fit (cond b [] (spec_desc true s ∷ []))
  if_listed true s h = refl
  if_listed false s h = both (fits_descriptor (spec_desc true s)) true h refl

  libraries_fit : {n : ℕ} {p : Bool} {ss : List RawSpec} {a : List ℕ} → IsNormal n p (a_list a_spec) ss a → Each SpecCounts ss → Fit (library_descs ss)
  libraries_fit normal.no_more c = refl
  libraries_fit (normal.one_more {x = x} {xs = xs} h k) c = all_append fits_descriptor (library_desc x) (library_descs xs) (if_listed (is_built_in x.name.name) x (spec_listed_fits true h c.0)) (libraries_fit k c.1)

  comm_fits : {n : ℕ} {p : Bool} {x : RawComm} {a : List ℕ} → IsNormal n p a_comm x a → CommCounts x → Fit (communicator_descs numbers listed things x)
  comm_fits (normal.is_common at h) c = citems_fit h c
  comm_fits (normal.is_library at h) c = libraries_fit h c
  comm_fits (normal.is_absolute at h) c = refl

  pub descs_fit : {n : ℕ} {p : Bool} {cs : List RawComm} {a : List ℕ} → IsNormal n p (a_list a_comm) cs a → CountsFit cs → Fit (descs_of numbers listed things cs)
  descs_fit normal.no_more c = refl
  descs_fit (normal.one_more {x = x} {xs = xs} h k) c = all_append fits_descriptor (communicator_descs numbers listed things x) (descs_of numbers listed things xs) (comm_fits h c.0) (descs_fit k c.1)
