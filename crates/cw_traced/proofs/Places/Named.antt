-- Of units that link one at most has a name.
use Rattle.std.proofs.Common.{◌≡◌, ℕ, zero, suc, ◌+◌, Bool, true, false, List, [], ◌∷◌, ◌++◌, map, Some, None, slice_get, refl, sym, ap, ◌∙◌, inl, inr, true≢false, arith}
use Rattle.std.specs.Prelude.{◌==◌, ◌||◌, if◌then◌else◌}
use Rattle.std.specs.List.{list_any}
use Rattle.std.specs.Str.{bytes_eq}
use Rattle.std.proofs.lemmas.Bool.{cases_Bool, eq-eqb, ne_eqb}
use Rattle.std.proofs.lemmas.List.Folds.{list_any-append}
use Rattle.std.proofs.lemmas.Slice.Eq.{bytes_eq-Decides}
use Rattle.cw_unit.specs.declared.unit.Unit.{Unit as SourceUnit}
use Rattle.cw_unit.specs.declared.layout.Limits.{Limits}
use Rattle.cw_comm.specs.declared.face.Face.{Face}
use Rattle.cw_comm.specs.Agreement.{Name, first_twice}
use Rattle.cw_link.specs.LinkedImage.{face_of}
use Rattle.cw_build.specs.Compiled.{contents_of_unit, contents_of_units}
use Rattle.cw_build.specs.Linking.{Links}
use Rattle.cw_build_laws.proofs.Images.Storage.{get-map}

abbrev pub has : List Name → Name → Bool
has seen name = list_any (bytes_eq name) seen

-- a segment that has the name of none before, and those behind it
record FirstOnce (seen : List Name) (f : Face) (fs : List Face) : Type 0 where
  new : has seen f.name ≡ false
  rest : first_twice (seen ++ f.name ∷ []) fs ≡ None

first-once : (seen : List Name) (f : Face) (fs : List Face) → first_twice seen (f ∷ fs) ≡ None → FirstOnce seen f fs
first-once seen f fs once = by (has seen f.name) refl once
  where
    by : (b : Bool) → has seen f.name ≡ b → (if b then Some f.name else first_twice (seen ++ f.name ∷ []) fs) ≡ None → FirstOnce seen f fs
    by true is e = absurd (cc)
    by false is e = record { new = is; rest = e }

kept : (seen more : List Name) (name : Name) → has seen name ≡ true → has (seen ++ more) name ≡ true
kept seen more name h = list_any-append (bytes_eq name) seen more ∙ ap (λ b. b || list_any (bytes_eq name) more) h

itself : (seen : List Name) (name : Name) → has (seen ++ name ∷ []) name ≡ true
itself seen name =
    list_any-append (bytes_eq name) seen (name ∷ []) ∙ ap (λ b. has seen name || (b || false)) ((bytes_eq-Decides name name).1 refl) ∙ or-true (has seen name)
  where
    or-true : (b : Bool) → (b || true) ≡ true
    or-true true = refl
    or-true false = refl

-- no segment has a name that was seen
none-seen : (seen : List Name) (fs : List Face) (name : Name) → first_twice seen fs ≡ None → has seen name ≡ true → (k : ℕ) (f : Face) → slice_get fs k ≡ Some f → f.name ≡ name → ⊥
none-seen seen [] name once h k f at is = cc
none-seen seen (x ∷ fs) name once h zero f at is =
    let one = first-once seen x fs once in
    let same : x ≡ f = cc in
    let found : has seen x.name ≡ true = ap (has seen) (ap (λ (y : Face). y.name) same ∙ is) ∙ h in
    absurd (let e : true ≡ false = sym found ∙ one.new in cc)
none-seen seen (x ∷ fs) name once h (suc k) f at is =
    none-seen (seen ++ x.name ∷ []) fs name (first-once seen x fs once).rest (kept seen (x.name ∷ []) name h) k f at is

-- two segments of one name are the same
one-name : (seen : List Name) (fs : List Face) → first_twice seen fs ≡ None → (j k : ℕ) (f g : Face) → slice_get fs j ≡ Some f → slice_get fs k ≡ Some g → f.name ≡ g.name → j ≡ k
one-name seen [] once j k f g at there is = absurd (cc)
one-name seen (x ∷ fs) once zero zero f g at there is = refl
one-name seen (x ∷ fs) once zero (suc k) f g at there is =
    let same : x ≡ f = cc in
    absurd (none-seen (seen ++ x.name ∷ []) fs x.name (first-once seen x fs once).rest (itself seen x.name) k g there (sym (ap (λ (y : Face). y.name) same ∙ is)))
one-name seen (x ∷ fs) once (suc j) zero f g at there is =
    let same : x ≡ g = cc in
    absurd (none-seen (seen ++ x.name ∷ []) fs x.name (first-once seen x fs once).rest (itself seen x.name) j f at (is ∙ sym (ap (λ (y : Face). y.name) same)))
one-name seen (x ∷ fs) once (suc j) (suc k) f g at there is = ap suc (one-name (seen ++ x.name ∷ []) fs (first-once seen x fs once).rest j k f g at there is)

module _ (us : List SourceUnit) (limits : Limits) (links : Links us limits) where
  face-at : (k : ℕ) (u : SourceUnit) → slice_get us k ≡ Some u → slice_get (map face_of (contents_of_units us)) k ≡ Some (face_of (contents_of_unit u))
  face-at k u at = get-map face_of (contents_of_units us) k (contents_of_unit u) (get-map contents_of_unit us k u at)

  one-unit : (j k : ℕ) (u v : SourceUnit) → slice_get us j ≡ Some u → slice_get us k ≡ Some v → u.name ≡ v.name → j ≡ k
  one-unit j k u v at there is =
      one-name [] (map face_of (contents_of_units us)) links.words.agree.once j k (face_of (contents_of_unit u)) (face_of (contents_of_unit v)) (face-at j u at) (face-at k v there) is

  -- what stands at the place of a unit has its name
  same-place : (k : ℕ) (u : SourceUnit) → slice_get us k ≡ Some u → (g : ℕ) (v : SourceUnit) → slice_get us g ≡ Some v → g + 1 ≡ k + 1 → v.name ≡ u.name
  same-place k u at g v there e =
      let is : g ≡ k = omega (arith, e) in
      let unit : Some v ≡ Some u = sym there ∙ ap (slice_get us) is ∙ at in
      let same : v ≡ u = cc in
      ap (λ (x : SourceUnit). x.name) same

  -- a unit has the name where it is the one that has it
  pub named-alone : (k : ℕ) (u : SourceUnit) → slice_get us k ≡ Some u → (g : ℕ) (v : SourceUnit) → slice_get us g ≡ Some v → bytes_eq v.name u.name ≡ (g + 1 == k + 1)
  named-alone k u at g v there =
      elim (cases_Bool (bytes_eq v.name u.name)) [
        | inl same ↦ same ∙ sym (eq-eqb (g + 1) (k + 1) (ap (λ n. n + 1) (one-unit g k v u there at ((bytes_eq-Decides v.name u.name).0 same))))
        | inr other ↦ other ∙ sym (ne_eqb (g + 1) (k + 1) (λ e. true≢false (sym ((bytes_eq-Decides v.name u.name).1 (same-place k u at g v there e)) ∙ other)))
      ]
