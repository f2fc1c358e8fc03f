-- What objects list and define, by what they offer.
use Rattle.std.proofs.Common.{◌≡◌, ℕ, zero, suc, ◌<◌, Bool, true, false, cond, List, [], ◌∷◌, length, map, get_or, Option, Some, None, slice_get, option_map, All, refl, sym, ap, subst, ◌∙◌, arith, inl, inr, ◌⊎◌}
use Rattle.std.specs.Prelude.{◌||◌, Contains}
use Rattle.std.specs.List.{list_any}
use Rattle.std.specs.Str.{bytes_eq}
use Rattle.std.proofs.lemmas.Bool.{false≢true}
use Rattle.std.proofs.lemmas.Option.{none-some, same_Some, slice_get-get_or, get_or_from_slice_get, slice_get_within, slice_get-map}
use Rattle.std.proofs.lemmas.List.Elements.{Contains-append_right, Contains-append_cases}
use Rattle.cw_unit.specs.declared.descriptor.Desc.{Desc}
use Rattle.cw_view.specs.ObjectFormat.{IsObject}
use Rattle.cw_view.specs.Splitting.{Bytes}
use Rattle.cw_comm.specs.Agreement.{Name, wants_definition, has_name, defines}
use Rattle.cw_pick.specs.Selection.{kept, descriptors_of, definitions_of, Lists}
use Rattle.cw_pick.specs.Offers.{wanting, name_of, defined, offer_of}

pub object_at : (objects : List Bytes) (i : ℕ) (x bytes : Bytes) → All IsObject objects → i < length objects → x ≡ get_or objects i x → bytes ≡ x → IsObject bytes
object_at objects i x bytes h lt is same = subst IsObject (sym is ∙ sym same) (h i x lt)

-- ---- elements

pub first : {A : Type 0} (x : A) (xs : List A) → Contains (x ∷ xs) x
first x xs = (0, omega arith, refl)

pub later : {A : Type 0} (x : A) (xs : List A) (y : A) → Contains xs y → Contains (x ∷ xs) y
later x xs y h = Contains-append_right (x ∷ []) xs y h

pub one : {A : Type 0} (x y : A) → Contains (x ∷ []) y → x ≡ y
one x y (zero, lt, is) = is
one x y (suc k, lt, is) = absurd (omega (arith, lt))

pub first_or_later : {A : Type 0} (x : A) (xs : List A) (y : A) → Contains (x ∷ xs) y → (x ≡ y) ⊎ Contains xs y
first_or_later x xs y h = elim (Contains-append_cases (x ∷ []) xs y h) [ inl a ↦ inl (one x y a) | inr b ↦ inr b ]

pub nothing : {A : Type 0} (y : A) → Contains [] y → ⊥
nothing y h = omega (arith, h.1)

-- ---- places

pub at_of : {A : Type 0} (xs : List A) (x : A) (c : Contains xs x) → slice_get xs c.0 ≡ Some x
at_of xs x c = slice_get-get_or xs c.0 x c.1 ∙ ap Some c.2

pub of_at : {A : Type 0} (xs : List A) (k : ℕ) (x : A) → slice_get xs k ≡ Some x → Contains xs x
of_at xs k x e = (k, slice_get_within xs k x e, get_or_from_slice_get xs k x x e)

pub record MappedAt {A B : Type 0} (f : A → B) (o : Option A) (y : B) : Type 0 where
  pub x : A
  pub there : o ≡ Some x
  pub is : f x ≡ y

mapped : {A B : Type 0} (f : A → B) (o : Option A) (y : B) → option_map f o ≡ Some y → MappedAt f o y
mapped f None y e = absurd (none-some y e)
mapped f (Some x) y e = record { x = x; there = refl; is = same_Some (f x) y e }

pub map_at : {A B : Type 0} (f : A → B) (xs : List A) (k : ℕ) (x : A) → slice_get xs k ≡ Some x → slice_get (map f xs) k ≡ Some (f x)
map_at f xs k x e = slice_get-map f xs k ∙ ap (option_map f) e

pub at_map : {A B : Type 0} (f : A → B) (xs : List A) (k : ℕ) (y : B) → slice_get (map f xs) k ≡ Some y → MappedAt f (slice_get xs k) y
at_map f xs k y e = mapped f (slice_get xs k) y (sym (slice_get-map f xs k) ∙ e)

pub map_contains : {A B : Type 0} (f : A → B) (xs : List A) (x : A) → Contains xs x → Contains (map f xs) (f x)
map_contains f xs x c = of_at (map f xs) c.0 (f x) (map_at f xs c.0 x (at_of xs x c))

pub record Mapped {A B : Type 0} (f : A → B) (xs : List A) (y : B) : Type 0 where
  pub x : A
  pub there : Contains xs x
  pub is : f x ≡ y

pub contains_map : {A B : Type 0} (f : A → B) (xs : List A) (y : B) → Contains (map f xs) y → Mapped f xs y
contains_map f xs y c = let r = at_map f xs c.0 y (at_of (map f xs) y c) in record { x = r.x; there = of_at xs c.0 r.x r.there; is = r.is }

-- ---- what an object lists

record Wanted (ds : List Desc) (name : Name) : Type 0 where
  desc : Desc
  there : Contains ds desc
  wants : wants_definition desc.body ≡ true
  named : desc.name ≡ name

wanted-later : (d : Desc) (ds : List Desc) (name : Name) → Wanted ds name → Wanted (d ∷ ds) name
wanted-later d ds name w = record { desc = w.desc; there = later d ds w.desc w.there; wants = w.wants; named = w.named }

wanted-if : (b : Bool) (d : Desc) (ds : List Desc) (name : Name) → wants_definition d.body ≡ b → (Contains (wanting ds) name → Wanted ds name) → Contains (cond b (d.name ∷ wanting ds) (wanting ds)) name → Wanted (d ∷ ds) name
wanted-if true d ds name is h c = elim (first_or_later d.name (wanting ds) name c) [
  | inl e ↦ record { desc = d; there = first d ds; wants = is; named = e }
  | inr a ↦ wanted-later d ds name (h a)
]
wanted-if false d ds name is h c = wanted-later d ds name (h c)

wanted-in : (ds : List Desc) (name : Name) → Contains (wanting ds) name → Wanted ds name
wanted-in [] name c = absurd (nothing name c)
wanted-in (d ∷ ds) name c = wanted-if (wants_definition d.body) d ds name refl (wanted-in ds name) c

listed-this : (b : Bool) (name : Name) (names : List Name) → b ≡ true → Contains (cond b (name ∷ names) names) name
listed-this true name names e = first name names
listed-this false name names e = absurd (false≢true e)

listed-later : (b : Bool) (x name : Name) (names : List Name) → Contains names name → Contains (cond b (x ∷ names) names) name
listed-later true x name names c = later x names name c
listed-later false x name names c = c

in-wanted : (ds : List Desc) (d : Desc) → Contains ds d → wants_definition d.body ≡ true → Contains (wanting ds) d.name
in-wanted [] d c w = absurd (nothing d c)
in-wanted (x ∷ ds) d c w = elim (first_or_later x ds d c) [
  | inl e ↦ subst (λ (y : Desc). Contains (wanting (x ∷ ds)) y.name) e (listed-this (wants_definition x.body) x.name (wanting ds) (ap (λ (y : Desc). wants_definition y.body) e ∙ w))
  | inr a ↦ listed-later (wants_definition x.body) x.name d.name (wanting ds) (in-wanted ds d a w)
]

pub lists_from : (object : Bytes) (name : Name) → Contains (offer_of object).lists name → Lists object name
lists_from object name c = let w = wanted-in (descriptors_of object) name c in record { desc = w.desc; there = w.there; wants = w.wants; named = w.named }

pub lists_to : (object : Bytes) (name : Name) → Lists object name → Contains (offer_of object).lists name
lists_to object name l = subst (Contains (offer_of object).lists) l.named (in-wanted (descriptors_of object) l.desc l.there l.wants)

-- ---- what an object defines

defines-one : (name : Name) (o : Option Desc) (names : List Name) → list_any (bytes_eq name) (kept (name_of o) names) ≡ has_name name o || list_any (bytes_eq name) names
defines-one name None names = refl
defines-one name (Some d) names = refl

pub defines_same : (ds : List Desc) (ns : List ℕ) (name : Name) → list_any (bytes_eq name) (defined ds ns) ≡ defines name ds ns
defines_same ds [] name = refl
defines_same ds (n ∷ ns) name = defines-one name (slice_get ds n) (defined ds ns) ∙ ap (λ b. has_name name (slice_get ds n) || b) (defines_same ds ns name)

pub defines_is : (object : Bytes) (name : Name) → list_any (bytes_eq name) (offer_of object).defines ≡ defines name (descriptors_of object) (definitions_of object)
defines_is object name = defines_same (descriptors_of object) (definitions_of object) name
