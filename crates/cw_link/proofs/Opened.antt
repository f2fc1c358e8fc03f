-- The common families of an object are of its own descriptors.
use Rattle.std.proofs.Common.{◌≡◌, ℕ, zero, suc, ◌+◌, ◌≤◌, true, List, [], ◌∷◌, ◌++◌, length, map, get_or, Option, Some, None, option_map, slice_get, All, refl, sym, ap, ap₂, subst, ◌∙◌, arith}
use Rattle.std.proofs.lemmas.Bool.{ltb-true}
use Rattle.std.proofs.lemmas.List.{length-append}
use Rattle.std.proofs.lemmas.List.Elements.{All-append}
use Rattle.std.proofs.lemmas.Option.{slice_get-map, slice_get_within, get_or_from_slice_get, same_Some, none-some}
use Rattle.cw_unit.specs.declared.layout.Family.{Family}
use Rattle.cw_unit.specs.declared.layout.Sort.{Sort}
use Rattle.cw_unit.specs.declared.layout.Sort.TheVariants as sorts
use Rattle.cw_view.specs.declared.view.View.{View}
use Rattle.cw_fields.specs.Fields.{Reader, whole}
use Rattle.cw_view.specs.Payloads.{descriptor_bytes, FitsDescriptor, family_bytes, FitsFamily}
use Rattle.cw_view.specs.Reading.{descriptor_in, family_in}
use Rattle.cw_view.specs.ObjectFormat.{Record, Descriptor, StorageFamily, FitsRecord, IsFront, payloads, payload_if, one_family, families_of, one_descriptor, descriptor_count, is_placed, is_allowed, facts_of}
use Rattle.cw_fields.proofs.Formats.{whole_again}
use Rattle.cw_view.proofs.Forms.{reads_family}
use Rattle.cw_view.proofs.Descriptors.{reads_descriptor}
use Rattle.cw_comm.specs.declared.face.Face.{Face}
use Rattle.cw_place.specs.declared.space.Space.{Space}
use Rattle.cw_place.specs.Segments.{IsOfDescriptor, HaveOwnFamilies}
use Rattle.cw_link.specs.Contents.{kept, values_in, records_of, contents_of}
use Rattle.cw_link.specs.LinkedImage.{face_of, faces_of, space_of, spaces_of}
use Rattle.cw_link.specs.Views.{IsOpened}

kept-append : {A : Type 0} (o : Option A) (xs ys : List A) → kept o (xs ++ ys) ≡ kept o xs ++ ys
kept-append None xs ys = refl
kept-append (Some x) xs ys = refl

values-append : {A : Type 0} (read : Reader A) (ps qs : List (List ℕ)) → values_in read (ps ++ qs) ≡ values_in read ps ++ values_in read qs
values-append read [] qs = refl
values-append read (p ∷ ps) qs = ap (kept (whole read p)) (values-append read ps qs) ∙ kept-append (whole read p) (values_in read ps) (values_in read qs)

family-read : (r : Record) → FitsRecord r → values_in family_in (payload_if 3 r) ≡ one_family r
family-read (StorageFamily x) f = ap (λ o. kept o []) (whole_again family_bytes FitsFamily family_in reads_family x f)
family-read _ f = refl

desc-read : (r : Record) → FitsRecord r → length (values_in descriptor_in (payload_if 2 r)) ≡ one_descriptor r
desc-read (Descriptor x) f = ap (λ o. length (kept o [])) (whole_again descriptor_bytes FitsDescriptor descriptor_in reads_descriptor x f)
desc-read _ f = refl

families-are : (v : ℕ) (rs : List Record) → IsFront v rs → values_in family_in (payloads 3 rs) ≡ families_of rs
families-are v [] h = refl
families-are v (r ∷ before) h = values-append family_in (payloads 3 before) (payload_if 3 r) ∙ ap₂ (λ (xs ys : List Family). xs ++ ys) (families-are v before h.0) (family-read r h.1.fits)

descs-are : (v : ℕ) (rs : List Record) → IsFront v rs → length (values_in descriptor_in (payloads 2 rs)) ≡ descriptor_count rs
descs-are v [] h = refl
descs-are v (r ∷ before) h =
    ap length (values-append descriptor_in (payloads 2 before) (payload_if 2 r)) ∙ length-append (values_in descriptor_in (payloads 2 before)) (values_in descriptor_in (payload_if 2 r))
    ∙ ap₂ (λ (n m : ℕ). n + m) (descs-are v before h.0) (desc-read r h.1.fits)

abbrev IsOwn : (count : ℕ) → Family → Type 0
IsOwn n x = IsOfDescriptor n x.sort

more-sort : (n m : ℕ) (s : Sort) → n ≤ m → IsOfDescriptor n s → IsOfDescriptor m s
more-sort n m (sorts.Common d) le h = omega (arith, h, le)
more-sort n m _ le h = h

placed-sort : (n extent : ℕ) (s : Sort) → is_placed n s extent ≡ true → IsOfDescriptor n s
placed-sort n extent (sorts.Common d) h = ltb-true d n h
placed-sort n extent _ h = tt

all-one : (n : ℕ) (f : Family) → IsOwn n f → All (IsOwn n) (f ∷ [])
all-one n f h zero d lt = h
all-one n f h (suc k) d lt = absurd (omega (arith, lt))

none-own : (n : ℕ) → All (IsOwn n) []
none-own n k d lt = absurd (omega (arith, lt))

one-own : (before : List Record) (r : Record) → is_allowed (facts_of before) r ≡ true → All (IsOwn (descriptor_count before)) (one_family r)
one-own before (StorageFamily x) h = all-one (descriptor_count before) x (placed-sort (descriptor_count before) x.extent x.sort h)
one-own before _ h = none-own (descriptor_count before)

more-own : (n m : ℕ) (fs : List Family) → n ≤ m → All (IsOwn n) fs → All (IsOwn m) fs
more-own n m fs le h = λ k d lt. more-sort n m (get_or fs k d).sort le (h k d lt)

all-own : (v : ℕ) (rs : List Record) → IsFront v rs → All (IsOwn (descriptor_count rs)) (families_of rs)
all-own v [] h = none-own 0
all-own v (r ∷ before) h =
    let n = descriptor_count before in
    let le : n ≤ n + one_descriptor r = omega arith in
    All-append (IsOwn (n + one_descriptor r)) (families_of before) (one_family r) (more-own n (n + one_descriptor r) (families_of before) le (all-own v before h.0)) (more-own n (n + one_descriptor r) (one_family r) le (one-own before r h.1.allowed))

own-view : (view : View) → IsOpened view → All (IsOwn (length (contents_of view).descs)) (contents_of view).families
own-view view o =
    let rs = o.1.1 in
    let front = o.1.2.front in
    let same = o.1.4 in
    let families : records_of family_in 3 view ≡ families_of rs = ap (values_in family_in) (same 3) ∙ families-are o.1.0 rs front in
    let count : length (records_of descriptor_in 2 view) ≡ descriptor_count rs = ap (λ ps. length (values_in descriptor_in ps)) (same 2) ∙ descs-are o.1.0 rs front in
    subst (λ n. All (IsOwn n) (records_of family_in 3 view)) (sym count) (subst (All (IsOwn (descriptor_count rs))) (sym families) (all-own o.1.0 rs front))

own-at : (views : List View) → All IsOpened views → (g : ℕ) (f : Face) (s : Space) (o : Option View) → slice_get views g ≡ o → option_map face_of (option_map contents_of o) ≡ Some f → option_map space_of (option_map contents_of o) ≡ Some s → All (IsOwn (length f.descs)) s.families
own-at views opened g f s None is fi si = absurd (none-some f fi)
own-at views opened g f s (Some view) is fi si =
    let o : IsOpened view = subst IsOpened (get_or_from_slice_get views g view view is) (opened g view (slice_get_within views g view is)) in
    let face : face_of (contents_of view) ≡ f = same_Some (face_of (contents_of view)) f fi in
    let space : space_of (contents_of view) ≡ s = same_Some (space_of (contents_of view)) s si in
    subst (λ (x : Face). All (IsOwn (length x.descs)) s.families) face (subst (λ (x : Space). All (IsOwn (length (contents_of view).descs)) x.families) space (own-view view o))

pub own_families : (views : List View) → All IsOpened views → HaveOwnFamilies (faces_of (map contents_of views)) (spaces_of (map contents_of views))
own_families views opened g f s fi si =
    let cs = map contents_of views in
    let face : (o : Option View) → slice_get views g ≡ o → slice_get (faces_of cs) g ≡ option_map face_of (option_map contents_of o) = λ o e. slice_get-map face_of cs g ∙ ap (option_map face_of) (slice_get-map contents_of views g ∙ ap (option_map contents_of) e) in
    let space : (o : Option View) → slice_get views g ≡ o → slice_get (spaces_of cs) g ≡ option_map space_of (option_map contents_of o) = λ o e. slice_get-map space_of cs g ∙ ap (option_map space_of) (slice_get-map contents_of views g ∙ ap (option_map contents_of) e) in
    own-at views opened g f s (slice_get views g) refl (sym (face (slice_get views g) refl) ∙ fi) (sym (space (slice_get views g) refl) ∙ si)
