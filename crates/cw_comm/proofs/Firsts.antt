-- The first clash of a kind is found by looking at each descriptor of each segment in turn.
use Rattle.std.proofs.Common.{◌≡◌, inl, inr, ℕ, zero, suc, ◌+◌, ◌<◌, ◌≤◌, List, [], ◌∷◌, length, Some, slice_get, get_or, sym, ap, subst, ◌∙◌, arith}
use Rattle.std.proofs.lemmas.Bool.{cases_eq}
use Rattle.std.proofs.lemmas.Option.{same_Some, slice_get_within, slice_get-get_or, get_or_from_slice_get}
use Rattle.cw_unit.specs.declared.descriptor.Desc.{Desc}
use Rattle.cw_comm.specs.declared.face.Face.{Face}
use Rattle.cw_comm.specs.Agreement.{Name, listing_of, Listing, as_listed}
use Rattle.cw_comm.specs.Clashes.{Kind, Names, Lists, IsFirst, HasNone, NoneBefore}
use Rattle.cw_comm.specs.Tables.{IsFirstTold, IsFirstIn}

-- ---- what stands where

pub face_is : (faces : List Face) (j : ℕ) (f g : Face) → slice_get faces j ≡ Some f → slice_get faces j ≡ Some g → f ≡ g
face_is faces j f g h k = same_Some f g (sym h ∙ k)

pub name_is : (faces : List Face) (j d : ℕ) (n m : Name) → Names faces j d n → Names faces j d m → n ≡ m
name_is faces j d n m a b =
    let same : a.face ≡ b.face = face_is faces j a.face b.face a.segment_is b.segment_is in
    let desc : a.desc ≡ b.desc = same_Some a.desc b.desc (sym a.descriptor_is ∙ ap (λ (f : Face). slice_get f.descs d) same ∙ b.descriptor_is) in
    sym a.name_is ∙ ap (λ (x : Desc). x.name) desc ∙ b.name_is

pub told_is : (faces : List Face) (j : ℕ) (n : Name) (x y : Listing) → Lists faces j n x → Lists faces j n y → x ≡ y
told_is faces j n x y a b =
    let same : a.face ≡ b.face = face_is faces j a.face b.face a.segment_is b.segment_is in
    let desc : a.desc ≡ b.desc = same_Some a.desc b.desc (sym a.descriptor_is ∙ ap (λ (f : Face). listing_of n f.descs) same ∙ b.descriptor_is) in
    sym a.told_is ∙ ap (λ (f : Face). as_listed f.descs a.desc) same ∙ ap (λ (z : Desc). as_listed b.face.descs z) desc ∙ b.told_is

-- ---- none so far

-- the clashes of a kind are told by descriptors
abbrev pub TellsNames : List Face → Kind → Type 0
TellsNames faces P = (j d i : ℕ) (n : Name) → P j d i n → Names faces j d n

pub none_at_first : (P : Kind) → NoneBefore P 0 0
none_at_first P j d i n p = elim (cases_eq 0 j) [ inl e ↦ inr (e, omega arith) | inr ne ↦ inl (omega (arith, ne)) ]

-- one more descriptor, where there is none
pub one_more : (P : Kind) (j d : ℕ) → NoneBefore P j d → ((i : ℕ) (n : Name) → P j d i n → ⊥) → NoneBefore P j (d + 1)
one_more P j d none here j' d' i n p =
    elim (none j' d' i n p) [
      | inl lt ↦ inl lt
      | inr same ↦ elim (cases_eq d d') [
        | inl e ↦ absurd (here i n (subst (λ k. P j k i n) (sym e) (subst (λ k. P k d' i n) (sym same.0) p)))
        | inr ne ↦ inr (same.0, omega (arith, same.1, ne))
      ]
    ]

-- one is here, with the earliest segment
pub first_here : (P : Kind) (j d i : ℕ) (name : Name) → P j d i name → ((i' : ℕ) (n : Name) → P j d i' n → i ≤ i') → NoneBefore P j d → IsFirst P j d i name
first_here P j d i name holds least none = record {
  holds = holds;
  least = λ j' d' i' n p.
      elim (none j' d' i' n p) [
        | inl h ↦ inl h
        | inr same ↦ elim (cases_eq d d') [
          | inl e ↦ inr (same.0, inr (e, least i' n (subst (λ k. P j k i' n) (sym e) (subst (λ k. P k d' i' n) (sym same.0) p))))
          | inr other ↦ inr (same.0, inl (omega (arith, same.1, other)))
        ]
      ];
}

pub next_segment : (faces : List Face) (P : Kind) → TellsNames faces P → (j : ℕ) (f : Face) → slice_get faces j ≡ Some f → NoneBefore P j (length f.descs) → NoneBefore P (j + 1) 0
next_segment faces P names j f at none j' d i n p =
    elim (none j' d i n p) [
      | inl lt ↦ elim (cases_eq (j + 1) j') [ inl e ↦ inr (e, omega arith) | inr ne ↦ inl (omega (arith, ne, lt)) ]
      | inr same ↦
          let t = names j' d i n p in
          let face : t.face ≡ f = face_is faces j' t.face f t.segment_is (subst (λ k. slice_get faces k ≡ Some f) same.0 at) in
          absurd (omega (arith, slice_get_within t.face.descs d t.desc t.descriptor_is, ap (λ (g : Face). length g.descs) face, same.1))
    ]

pub none_at_all : (faces : List Face) (P : Kind) → TellsNames faces P → NoneBefore P (length faces) 0 → HasNone P
none_at_all faces P names none j d i n p =
    let t = names j d i n p in
    let below = slice_get_within faces j t.face t.segment_is in
    elim (none j d i n p) [ inl h ↦ absurd (omega (arith, h, below)) | inr h ↦ absurd (omega (arith, h.0, below)) ]

-- ---- the descriptors of a segment, as a function reads them

pub segment_told : {faces : List Face} {P : Kind} {g d i : ℕ} (face : Face) (ds : List Desc) (one : Desc) → ds ≡ (get_or faces g face).descs → IsFirstTold P faces g d i → IsFirstIn P (get_or ds d one).name i g
segment_told {faces = faces} {P = P} {g = g} {d = d} {i = i} face ds one e t =
    let same = e ∙ ap (λ (f : Face). f.descs) (get_or_from_slice_get faces g t.names.face face t.names.segment_is) in
    let told : (get_or ds d one).name ≡ t.name =
    ap (λ (xs : List Desc). (get_or xs d one).name) same ∙ ap (λ (x : Desc). x.name) (get_or_from_slice_get t.names.face.descs d t.names.desc one t.names.descriptor_is) ∙ t.names.name_is in
    (d, subst (IsFirst P g d i) (sym told) t.first)

pub segment_past : (faces : List Face) (P : Kind) → TellsNames faces P → (g d : ℕ) (face : Face) (ds : List Desc) → g < length faces → ds ≡ (get_or faces g face).descs → d ≡ length ds → NoneBefore P g d → NoneBefore P (g + 1) 0
segment_past faces P names g d face ds within e all none = next_segment faces P names g (get_or faces g face) (slice_get-get_or faces g face within) (subst (NoneBefore P g) (all ∙ ap length e) none)

-- the segments of a clash, of few
pub both_few : (faces : List Face) (P : Kind) → TellsNames faces P → ((j d i : ℕ) (n : Name) → P j d i n → i ≤ j) → length faces ≤ 200 → (name : Name) (i j : ℕ) → IsFirstIn P name i j → (i < 255) × (j < 255)
both_few faces P names before few name i j found =
    let p = found.1.holds in
    let n = names j found.0 i name p in
    let within : j < length faces = slice_get_within faces j n.face n.segment_is in
    let le : i ≤ j = before j found.0 i name p in
    (omega (arith, within, le, few), omega (arith, within, few))
