-- The format of descriptors: what is read is spelled so, and what is spelled so is read.
use Rattle.std.proofs.Common.{◌≡◌, ℕ, ◌<◌, Bool, true, cond, eqb, leb, ◌||◌, List, [], ◌∷◌, ◌++◌, length, Option, Some, None, refl, sym, ap, subst, ◌∙◌, arith, inl, inr, ◌⊎◌, ℤ}
use Rattle.std.specs.Prelude.{IfSome}
use Rattle.std.specs.List.{AllByRecursion}
use Rattle.std.specs.Int.{from_bool}
use Rattle.std.proofs.lemmas.Bool.{eqb-true, leb-true, le-leb}
use Rattle.cw_word.specs.Name.{IsName}
use Rattle.cw_unit.specs.declared.descriptor.Scale.{Scale}
use Rattle.cw_unit.specs.declared.descriptor.Desc.{Desc}
use Rattle.cw_unit.specs.declared.descriptor.DescBody.{DescBody}
use Rattle.cw_unit.specs.declared.descriptor.DescBody.TheVariants as bodies
use Rattle.cw_unit.specs.declared.descriptor.ElemDesc.{ElemDesc}
use Rattle.cw_unit.specs.declared.descriptor.Spec.{Spec, out-Spec}
use Rattle.cw_unit.specs.declared.descriptor.SpecParam.{SpecParam, SpecParam-F, out-SpecParam}
use Rattle.cw_unit.specs.declared.descriptor.SpecParam.TheOpen as layer
use Rattle.cw_unit.specs.declared.descriptor.SpecParam.TheViews.{roll-SpecParam, roll-out-SpecParam, out-roll-SpecParam}
use Rattle.cw_fields.specs.Fields.{Reader, ◌>>=◌, followed, both, meaning, each, byte_in, text_bytes, optional_in, optional_bytes, IsByte, IsWord, word_bytes, word_in}
use Rattle.cw_view.specs.Payloads.{scale_bytes, FitsScale, plain_layer_bytes, FitsPlainLayer, plain_parameter_bytes, FitsPlainParameter, spec_bytes, FitsSpec, layer_bytes, FitsLayer, parameter_bytes, FitsParameter, bound_bytes, FitsBounds, element_bytes, FitsElement, body_number, body_bytes, FitsBody, overlay_bytes, FitsOverlay, descriptor_bytes, FitsDescriptor}
use Rattle.cw_fields.specs.Names.{name_in}
use Rattle.cw_view.specs.Reading.{scale_of, scale_in, plain_parameter_of, plain_parameter_in, parameters_in, spec_of, spec_in, parameter_of, parameter_in, bounds_in, few_dimensions, dimensions_in, element_of, element_in, elements_in, body_in, overlay_in, listed_in, descriptor_of, descriptor_in}
use Rattle.cw_fields.specs.Spelling.{IsBytes, Reads}
use Rattle.cw_fields.proofs.Formats.{some_is, bind_some, reads_both, reads_followed, reads_meaning, reads_listed, reads_byte, reads_optional}
use Rattle.cw_fields.proofs.Spelled.{some, no_none, tested, test_cases, reads_word, reads_signed, reads_name, reads_flag}

reads_scale : Reads scale_bytes FitsScale scale_in
unfolding scale_in
reads_scale =
    reads_meaning (λ (p : ℕ × ℕ). (p.0 ∷ []) ++ (p.1 ∷ [])) (λ (p : ℕ × ℕ). IsByte p.0 × IsByte p.1) (both byte_in byte_in) FitsScale scale_of (λ s. (s.t, s.f))
    (reads_both _ _ _ _ _ _ reads_byte reads_byte)
    (λ x y h e. let same = some_is _ y e in (ap (λ (s : Scale). (s.t, s.f)) same, subst FitsScale same h))
    (λ y h. (h, refl))

reads_bounds : Reads bound_bytes FitsBounds bounds_in
reads_bounds = reads_both _ _ _ _ _ _ reads_signed reads_signed

reads_overlay : Reads overlay_bytes FitsOverlay overlay_in
reads_overlay = reads_both _ _ _ _ _ _ reads_word reads_word

-- ---- elements of tables

abbrev element_fields : ElemDesc → List ℕ × (ℕ × (ℕ × (ℕ × (ℕ × ℕ))))
element_fields e = (e.name, (e.form, (e.t, (e.f, (e.word, e.bit)))))

reads_element : Reads element_bytes FitsElement element_in
reads_element =
    reads_meaning
    (λ (p : List ℕ × (ℕ × (ℕ × (ℕ × (ℕ × ℕ))))). text_bytes p.0 ++ ((p.1.0 ∷ []) ++ ((p.1.1.0 ∷ []) ++ ((p.1.1.1.0 ∷ []) ++ (word_bytes p.1.1.1.1.0 ++ (p.1.1.1.1.1 ∷ []))))))
    (λ (p : List ℕ × (ℕ × (ℕ × (ℕ × (ℕ × ℕ))))). IsName p.0 × (IsByte p.1.0 × (IsByte p.1.1.0 × (IsByte p.1.1.1.0 × (IsWord p.1.1.1.1.0 × IsByte p.1.1.1.1.1)))))
    (both name_in (both byte_in (both byte_in (both byte_in (both word_in byte_in)))))
    FitsElement element_of element_fields
    (reads_both _ _ _ _ _ _ reads_name (reads_both _ _ _ _ _ _ reads_byte (reads_both _ _ _ _ _ _ reads_byte (reads_both _ _ _ _ _ _ reads_byte (reads_both _ _ _ _ _ _ reads_word reads_byte)))))
    (λ x y h e.
    let made : ElemDesc = record { name = x.0; form = x.1.0; t = x.1.1.0; f = x.1.1.1.0; word = x.1.1.1.1.0; bit = x.1.1.1.1.1 } in
    let t = tested (leb x.1.0 2) made y e in
    (ap element_fields t.1, subst FitsElement t.1 (record { name = h.0; form = leb-true _ _ t.0; t = h.1.1.0; f = h.1.1.1.0; word = h.1.1.1.1.0; bit = h.1.1.1.1.1 })))
    (λ y h. ((h.name, (omega (arith, h.form), (h.t, (h.f, (h.word, h.bit))))), ap (λ b. cond b (some y) None) (le-leb y.form 2 h.form)))

reads_elements : Reads (λ (es : List ElemDesc). word_bytes (length es) ++ each element_bytes es) (λ (es : List ElemDesc). IsWord (length es) × AllByRecursion FitsElement es) elements_in
reads_elements = reads_listed word_bytes IsWord word_in element_bytes FitsElement element_in reads_word reads_element

-- ---- one or two dimensions

abbrev IsFew : ℕ → Type 0
IsFew n = (n ≡ 1) ⊎ (n ≡ 2)

few_test : (n : ℕ) → (eqb n 1 || eqb n 2) ≡ true → IsFew n
few_test n e = elim (test_cases (eqb n 1)) [ inl one ↦ inl (eqb-true n 1 one) | inr other ↦ inr (eqb-true n 2 (ap (λ b. b || eqb n 2) (sym other) ∙ e)) ]

few_back : (n : ℕ) → IsFew n → IsByte n × (few_dimensions n ≡ Some n)
few_back n (inl e) = (omega (arith, e), ap (λ k. cond (eqb k 1 || eqb k 2) (some n) None) e)
few_back n (inr e) = (omega (arith, e), ap (λ k. cond (eqb k 1 || eqb k 2) (some n) None) e)

reads_few : Reads (λ (n : ℕ). n ∷ []) IsFew (λ bytes. meaning few_dimensions byte_in bytes)
reads_few = reads_meaning (λ (n : ℕ). n ∷ []) IsByte byte_in IsFew few_dimensions (λ n. n) reads_byte (λ x y h e. let t = tested (eqb x 1 || eqb x 2) x y e in (t.1, subst IsFew t.1 (few_test x t.0))) few_back

reads_dimensions : Reads (λ (ds : List (ℤ × ℤ)). length ds ∷ each bound_bytes ds) (λ (ds : List (ℤ × ℤ)). IsFew (length ds) × AllByRecursion FitsBounds ds) dimensions_in
reads_dimensions = reads_listed (λ (n : ℕ). n ∷ []) IsFew (λ bytes. meaning few_dimensions byte_in bytes) bound_bytes FitsBounds bounds_in reads_few reads_bounds

-- ---- specifications

reads_spec : (s : SpecParam → List ℕ) (F : SpecParam → Type 0) (r : Reader SpecParam) → Reads s F r → Reads (spec_bytes s) (FitsSpec F) (spec_in r)
reads_spec s F r l =
    reads_meaning
    (λ (p : Option Scale × List SpecParam). optional_bytes scale_bytes p.0 ++ (length p.1 ∷ each s p.1))
    (λ (p : Option Scale × List SpecParam). IfSome p.0 FitsScale × (IsByte (length p.1) × AllByRecursion F p.1))
    (both (optional_in scale_in) (parameters_in r))
    (FitsSpec F) spec_of (λ y. ((out-Spec y).answer, (out-Spec y).params))
    (reads_both _ _ _ _ _ _ (reads_optional scale_bytes FitsScale scale_in reads_scale) (reads_listed (λ (n : ℕ). n ∷ []) IsByte byte_in s F r reads_byte l))
    (λ x y h e. let same = some_is _ y e in (ap (λ (z : Spec). ((out-Spec z).answer, (out-Spec z).params)) same, subst (FitsSpec F) same (h.0, h.1.0, h.1.1)))
    (λ y h. ((h.0, (h.1, h.2)), refl))

-- what a field that is always something stands for
record Made {A B : Type 0} (sa : A → List ℕ) (Fa : A → Type 0) (k : A → B) (bytes : List ℕ) (x : B × List ℕ) : Type 0 where
  of : A
  spelled : bytes ≡ sa of ++ x.1
  rest_fits : IsBytes x.1
  fits : Fa of
  is : k of ≡ x.0

made_of : {A B : Type 0} (sa : A → List ℕ) (Fa : A → Type 0) (ra : Reader A) (k : A → B) → Reads sa Fa ra → (bytes : List ℕ) (x : B × List ℕ) → IsBytes bytes → meaning (λ a. Some (k a)) ra bytes ≡ Some x → Made sa Fa k bytes x
made_of {A} {B} sa Fa ra k l bytes x fits e =
    let first = bind_some (ra bytes) (λ p. some (k p.0) >>= λ y. Some (y, p.1)) x e in
    let t = l.takes bytes first.0 fits first.1 in
    let made : B × List ℕ = (k first.0.0, first.0.1) in
    let same : made ≡ x = some_is made x first.2 in
    record { of = first.0.0; spelled = t.0 ∙ ap (λ (p : B × List ℕ). sa first.0.0 ++ p.1) same; rest_fits = subst (λ (p : B × List ℕ). IsBytes p.1) same t.1; fits = t.2; is = ap (λ (p : B × List ℕ). p.0) same }

again_of : {A B : Type 0} (sa : A → List ℕ) (Fa : A → Type 0) (ra : Reader A) (k : A → B) → Reads sa Fa ra → (a : A) (rest : List ℕ) → Fa a → meaning (λ a. Some (k a)) ra (sa a ++ rest) ≡ Some (k a, rest)
again_of sa Fa ra k l a rest fits = ap (λ o. o >>= λ p. some (k p.0) >>= λ y. Some (y, p.1)) (l.again a rest fits)

-- the first of two readings that a number chooses
pub either : {A : Type 0} (n k : ℕ) (a b : Option A) (y : A) → cond (eqb n k) a b ≡ Some y → ((n ≡ k) × (a ≡ Some y)) ⊎ (b ≡ Some y)
either n k a b y e = elim (test_cases (eqb n k)) [ inl h ↦ inl (eqb-true n k h, ap (λ t. cond t a b) (sym h) ∙ e) | inr h ↦ inr (ap (λ t. cond t a b) (sym h) ∙ e) ]

record TakesParameter (s : SpecParam → List ℕ) (F : SpecParam → Type 0) (number : ℕ) (bytes : List ℕ) (x : SpecParam × List ℕ) : Type 0 where
  spelled : (number ∷ bytes) ≡ s x.0 ++ x.1
  rest_fits : IsBytes x.1
  fits : F x.0

-- one that was made of a field behind its number
parameter_made : {A : Type 0} (s : SpecParam → List ℕ) (F : SpecParam → Type 0) (sa : A → List ℕ) (Fa : A → Type 0) (k : A → SpecParam) (n number : ℕ) (bytes : List ℕ) (x : SpecParam × List ℕ)
    → n ≡ number → ((a : A) → s (k a) ≡ number ∷ sa a) → ((a : A) → Fa a → F (k a)) → Made sa Fa k bytes x → TakesParameter s F n bytes x
parameter_made s F sa Fa k n number bytes x same spell fit m = record {
  spelled = ap (λ j. j ∷ bytes) same ∙ ap (λ y. number ∷ y) m.spelled ∙ ap (λ y. y ++ x.1) (sym (spell m.of)) ∙ ap (λ p. s p ++ x.1) m.is;
  rest_fits = m.rest_fits;
  fits = subst F m.is (fit m.of m.fits);
}

parameter_alone : (s : SpecParam → List ℕ) (F : SpecParam → Type 0) (p : SpecParam) (n number : ℕ) (bytes : List ℕ) (x : SpecParam × List ℕ)
    → n ≡ number → s p ≡ number ∷ [] → F p → IsBytes bytes → some (p, bytes) ≡ some x → TakesParameter s F n bytes x
parameter_alone s F p n number bytes x same spell fit fits e =
    let made : SpecParam × List ℕ = (p, bytes) in
    let is : made ≡ x = some_is made x e in
    subst (λ (y : SpecParam × List ℕ). TakesParameter s F n bytes y) is (record { spelled = ap (λ j. j ∷ bytes) same ∙ ap (λ y. y ++ bytes) (sym spell); rest_fits = fits; fits = fit })

plain_takes : (n : ℕ) (bytes : List ℕ) (x : SpecParam × List ℕ) → IsBytes bytes → plain_parameter_of n bytes ≡ Some x → TakesParameter plain_parameter_bytes FitsPlainParameter n bytes x
plain_takes n bytes x fits e = elim (either n 0 _ _ x e) [
  | inl h ↦ parameter_made plain_parameter_bytes FitsPlainParameter scale_bytes FitsScale (λ s. roll-SpecParam (layer.Value s)) n 0 bytes x h.0 (λ a. ap plain_layer_bytes (out-roll-SpecParam (layer.Value a))) (λ a f. subst FitsPlainLayer (sym (out-roll-SpecParam (layer.Value a))) f) (made_of scale_bytes FitsScale scale_in (λ s. roll-SpecParam (layer.Value s)) reads_scale bytes x fits h.1)
  | inr e1 ↦ elim (either n 1 _ _ x e1) [
    | inl h ↦ parameter_made plain_parameter_bytes FitsPlainParameter scale_bytes FitsScale (λ s. roll-SpecParam (layer.Location s)) n 1 bytes x h.0 (λ a. ap plain_layer_bytes (out-roll-SpecParam (layer.Location a))) (λ a f. subst FitsPlainLayer (sym (out-roll-SpecParam (layer.Location a))) f) (made_of scale_bytes FitsScale scale_in (λ s. roll-SpecParam (layer.Location s)) reads_scale bytes x fits h.1)
    | inr e2 ↦ elim (either n 2 _ _ x e2) [
      | inl h ↦ parameter_made plain_parameter_bytes FitsPlainParameter scale_bytes FitsScale (λ s. roll-SpecParam (layer.Array s)) n 2 bytes x h.0 (λ a. ap plain_layer_bytes (out-roll-SpecParam (layer.Array a))) (λ a f. subst FitsPlainLayer (sym (out-roll-SpecParam (layer.Array a))) f) (made_of scale_bytes FitsScale scale_in (λ s. roll-SpecParam (layer.Array s)) reads_scale bytes x fits h.1)
      | inr e3 ↦ elim (either n 3 _ _ x e3) [
        | inl h ↦ parameter_made plain_parameter_bytes FitsPlainParameter word_bytes IsWord (λ s. roll-SpecParam (layer.Table s)) n 3 bytes x h.0 (λ a. ap plain_layer_bytes (out-roll-SpecParam (layer.Table a))) (λ a f. subst FitsPlainLayer (sym (out-roll-SpecParam (layer.Table a))) f) (made_of word_bytes IsWord word_in (λ s. roll-SpecParam (layer.Table s)) reads_word bytes x fits h.1)
        | inr e4 ↦ elim (either n 4 _ _ x e4) [
          | inl h ↦ parameter_alone plain_parameter_bytes FitsPlainParameter (roll-SpecParam layer.Label) n 4 bytes x h.0 (ap plain_layer_bytes (out-roll-SpecParam layer.Label)) (subst FitsPlainLayer (sym (out-roll-SpecParam layer.Label)) tt) fits h.1
          | inr e5 ↦ elim (either n 5 _ _ x e5) [
            | inl h ↦ parameter_alone plain_parameter_bytes FitsPlainParameter (roll-SpecParam layer.Switch) n 5 bytes x h.0 (ap plain_layer_bytes (out-roll-SpecParam layer.Switch)) (subst FitsPlainLayer (sym (out-roll-SpecParam layer.Switch)) tt) fits h.1
            | inr other ↦ absurd (no_none x other)
          ]
        ]
      ]
    ]
  ]
]

plain_again : (l : SpecParam-F SpecParam Spec) (rest : List ℕ) → FitsPlainLayer l → plain_parameter_in (plain_layer_bytes l ++ rest) ≡ Some (roll-SpecParam l, rest)
plain_again (layer.Value s) rest h = again_of scale_bytes FitsScale scale_in (λ s. roll-SpecParam (layer.Value s)) reads_scale s rest h
plain_again (layer.Location s) rest h = again_of scale_bytes FitsScale scale_in (λ s. roll-SpecParam (layer.Location s)) reads_scale s rest h
plain_again (layer.Array s) rest h = again_of scale_bytes FitsScale scale_in (λ s. roll-SpecParam (layer.Array s)) reads_scale s rest h
plain_again (layer.Table width) rest h = again_of word_bytes IsWord word_in (λ s. roll-SpecParam (layer.Table s)) reads_word width rest h
plain_again layer.Label rest h = refl
plain_again layer.Switch rest h = refl
plain_again (layer.Proc s) rest h = absurd h

parameter_reads : (s : SpecParam → List ℕ) (F : SpecParam → Type 0) (of : (number : ℕ) → Reader SpecParam)
    → ((n : ℕ) (bytes : List ℕ) (x : SpecParam × List ℕ) → IsBytes bytes → of n bytes ≡ Some x → TakesParameter s F n bytes x)
    → ((p : SpecParam) (rest : List ℕ) → F p → (byte_in (s p ++ rest) >>= λ n. of n.0 n.1) ≡ Some (p, rest))
    → Reads s F (λ bytes. byte_in bytes >>= λ n. of n.0 n.1)
parameter_reads s F of takes again = record {
  takes = λ bytes x fits e.
      let first = bind_some (byte_in bytes) (λ n. of n.0 n.1) x e in
      let t = reads_byte.takes bytes first.0 fits first.1 in
      let u = takes first.0.0 first.0.1 x t.1 first.2 in
      (t.0 ∙ u.spelled, u.rest_fits, u.fits);
  again = again;
}

reads_plain_parameter : Reads plain_parameter_bytes FitsPlainParameter plain_parameter_in
reads_plain_parameter =
    parameter_reads plain_parameter_bytes FitsPlainParameter plain_parameter_of plain_takes
    (λ p rest h. plain_again (out-SpecParam p) rest h ∙ ap (λ q. some (q, rest)) (roll-out-SpecParam p))

-- a plain parameter is a parameter
plain_spelled : (l : SpecParam-F SpecParam Spec) → FitsPlainLayer l → (plain_layer_bytes l ≡ layer_bytes l) × FitsLayer l
plain_spelled (layer.Proc s) h = absurd h
plain_spelled _ h = (refl, h)

reads_plain_spec : Reads (spec_bytes plain_parameter_bytes) (FitsSpec FitsPlainParameter) (spec_in plain_parameter_in)
reads_plain_spec = reads_spec plain_parameter_bytes FitsPlainParameter plain_parameter_in reads_plain_parameter

parameter_takes : (n : ℕ) (bytes : List ℕ) (x : SpecParam × List ℕ) → IsBytes bytes → parameter_of n bytes ≡ Some x → TakesParameter parameter_bytes FitsParameter n bytes x
parameter_takes n bytes x fits e = elim (either n 6 _ _ x e) [
  | inl h ↦ parameter_made parameter_bytes FitsParameter (spec_bytes plain_parameter_bytes) (FitsSpec FitsPlainParameter) (λ s. roll-SpecParam (layer.Proc s)) n 6 bytes x h.0 (λ a. ap layer_bytes (out-roll-SpecParam (layer.Proc a))) (λ a f. subst FitsLayer (sym (out-roll-SpecParam (layer.Proc a))) f) (made_of (spec_bytes plain_parameter_bytes) (FitsSpec FitsPlainParameter) (spec_in plain_parameter_in) (λ s. roll-SpecParam (layer.Proc s)) reads_plain_spec bytes x fits h.1)
  | inr plain ↦
      let t = plain_takes n bytes x fits plain in
      let p = plain_spelled (out-SpecParam x.0) t.fits in
      record { spelled = t.spelled ∙ ap (λ y. y ++ x.1) p.0; rest_fits = t.rest_fits; fits = p.1 }
]

parameter_again : (l : SpecParam-F SpecParam Spec) (rest : List ℕ) → FitsLayer l → parameter_in (layer_bytes l ++ rest) ≡ Some (roll-SpecParam l, rest)
parameter_again (layer.Proc s) rest h = again_of (spec_bytes plain_parameter_bytes) (FitsSpec FitsPlainParameter) (spec_in plain_parameter_in) (λ s. roll-SpecParam (layer.Proc s)) reads_plain_spec s rest h
parameter_again l rest h = plain_again l rest h

reads_parameter : Reads parameter_bytes FitsParameter parameter_in
reads_parameter =
    parameter_reads parameter_bytes FitsParameter parameter_of parameter_takes
    (λ p rest h. parameter_again (out-SpecParam p) rest h ∙ ap (λ q. some (q, rest)) (roll-out-SpecParam p))

reads_whole_spec : Reads (spec_bytes parameter_bytes) (FitsSpec FitsParameter) (spec_in parameter_in)
reads_whole_spec = reads_spec parameter_bytes FitsParameter parameter_in reads_parameter

-- ---- bodies

abbrev FitsBodyOf : ℕ → DescBody → Type 0
FitsBodyOf number b = FitsBody b × (body_number b ≡ number)

record TakesBody (number : ℕ) (bytes : List ℕ) (x : DescBody × List ℕ) : Type 0 where
  spelled : bytes ≡ body_bytes x.0 ++ x.1
  rest_fits : IsBytes x.1
  fits : FitsBodyOf number x.0

body_made : {A : Type 0} (sa : A → List ℕ) (Fa : A → Type 0) (k : A → DescBody) (n number : ℕ) (bytes : List ℕ) (x : DescBody × List ℕ)
    → n ≡ number → ((a : A) → body_bytes (k a) ≡ sa a) → ((a : A) → Fa a → FitsBodyOf number (k a)) → Made sa Fa k bytes x → TakesBody n bytes x
body_made sa Fa k n number bytes x same spell fit m = record {
  spelled = m.spelled ∙ ap (λ y. y ++ x.1) (sym (spell m.of)) ∙ ap (λ b. body_bytes b ++ x.1) m.is;
  rest_fits = m.rest_fits;
  fits = subst (FitsBodyOf n) m.is (let f = fit m.of m.fits in (f.0, f.1 ∙ sym same));
}

body_alone : (b : DescBody) (n number : ℕ) (bytes : List ℕ) (x : DescBody × List ℕ) → n ≡ number → body_bytes b ≡ [] → FitsBodyOf number b → IsBytes bytes → some (b, bytes) ≡ some x → TakesBody n bytes x
body_alone b n number bytes x same spell fit fits e =
    let made : DescBody × List ℕ = (b, bytes) in
    let is : made ≡ x = some_is made x e in
    subst (λ (y : DescBody × List ℕ). TakesBody n bytes y) is (record { spelled = ap (λ y. y ++ bytes) (sym spell); rest_fits = fits; fits = (fit.0, fit.1 ∙ sym same) })

abbrev ArrayFields : Type 0
ArrayFields = Scale × List (ℤ × ℤ)

abbrev array_made : ArrayFields → DescBody
array_made p = bodies.Array p.0 p.1

abbrev array_bytes : ArrayFields → List ℕ
array_bytes p = scale_bytes p.0 ++ (length p.1 ∷ each bound_bytes p.1)

abbrev FitsArray : ArrayFields → Type 0
FitsArray p = FitsScale p.0 × (IsFew (length p.1) × AllByRecursion FitsBounds p.1)

reads_array : Reads array_bytes FitsArray (both scale_in dimensions_in)
reads_array = reads_both _ _ _ _ _ _ reads_scale reads_dimensions

abbrev TableFields : Type 0
TableFields = ℕ × (ℕ × List ElemDesc)

abbrev table_made : TableFields → DescBody
table_made p = bodies.Table p.0 p.1.0 p.1.1

abbrev table_bytes : TableFields → List ℕ
table_bytes p = word_bytes p.0 ++ (word_bytes p.1.0 ++ (word_bytes (length p.1.1) ++ each element_bytes p.1.1))

abbrev FitsTable : TableFields → Type 0
FitsTable p = IsWord p.0 × (IsWord p.1.0 × (IsWord (length p.1.1) × AllByRecursion FitsElement p.1.1))

reads_table : Reads table_bytes FitsTable (both word_in (both word_in elements_in))
reads_table = reads_both _ _ _ _ _ _ reads_word (reads_both _ _ _ _ _ _ reads_word reads_elements)

body_takes : (n : ℕ) (bytes : List ℕ) (x : DescBody × List ℕ) → IsBytes bytes → body_in n bytes ≡ Some x → TakesBody n bytes x
body_takes n bytes x fits e = elim (either n 0 _ _ x e) [
  | inl h ↦ body_made scale_bytes FitsScale bodies.Word n 0 bytes x h.0 (λ _. refl) (λ _ f. (f, refl)) (made_of scale_bytes FitsScale scale_in bodies.Word reads_scale bytes x fits h.1)
  | inr e1 ↦ elim (either n 1 _ _ x e1) [
    | inl h ↦ body_made array_bytes FitsArray array_made n 1 bytes x h.0 (λ _. refl) (λ _ f. ((f.0, f.1.0, f.1.1), refl)) (made_of array_bytes FitsArray (both scale_in dimensions_in) array_made reads_array bytes x fits h.1)
    | inr e2 ↦ elim (either n 2 _ _ x e2) [
      | inl h ↦ body_made table_bytes FitsTable table_made n 2 bytes x h.0 (λ _. refl) (λ _ f. ((f.0, f.1.0, f.1.1.0, f.1.1.1), refl)) (made_of table_bytes FitsTable (both word_in (both word_in elements_in)) table_made reads_table bytes x fits h.1)
      | inr e3 ↦ elim (either n 3 _ _ x e3) [
        | inl h ↦ body_alone bodies.Label n 3 bytes x h.0 refl (tt, refl) fits h.1
        | inr e4 ↦ elim (either n 4 _ _ x e4) [
          | inl h ↦ body_alone bodies.Switch n 4 bytes x h.0 refl (tt, refl) fits h.1
          | inr e5 ↦ elim (either n 5 _ _ x e5) [
            | inl h ↦ body_made (spec_bytes parameter_bytes) (FitsSpec FitsParameter) bodies.Proc n 5 bytes x h.0 (λ _. refl) (λ _ f. (f, refl)) (made_of (spec_bytes parameter_bytes) (FitsSpec FitsParameter) (spec_in parameter_in) bodies.Proc reads_whole_spec bytes x fits h.1)
            | inr other ↦ absurd (no_none x other)
          ]
        ]
      ]
    ]
  ]
]

body_again : (b : DescBody) (rest : List ℕ) → FitsBody b → body_in (body_number b) (body_bytes b ++ rest) ≡ Some (b, rest)
body_again (bodies.Word s) rest h = again_of scale_bytes FitsScale scale_in bodies.Word reads_scale s rest h
body_again (bodies.Array s dims) rest h = again_of array_bytes FitsArray (both scale_in dimensions_in) array_made reads_array (s, dims) rest (h.0, (h.1, h.2))
body_again (bodies.Table width len elems) rest h = again_of table_bytes FitsTable (both word_in (both word_in elements_in)) table_made reads_table (width, (len, elems)) rest (h.0, (h.1, (h.2, h.3)))
body_again bodies.Label rest h = refl
body_again bodies.Switch rest h = refl
body_again (bodies.Proc s) rest h = again_of (spec_bytes parameter_bytes) (FitsSpec FitsParameter) (spec_in parameter_in) bodies.Proc reads_whole_spec s rest h

reads_body : (number : ℕ) → Reads body_bytes (FitsBodyOf number) (body_in number)
reads_body number = record {
  takes = λ bytes x fits e. let t = body_takes number bytes x fits e in (t.spelled, t.rest_fits, t.fits);
  again = λ b rest h. ap (λ n. body_in n (body_bytes b ++ rest)) (sym h.1) ∙ body_again b rest h.0;
}

body_small : (b : DescBody) → body_number b < 256
body_small bodies.Label = omega arith
body_small _ = omega arith

-- ---- descriptors

abbrev Listed : Type 0
Listed = Bool × (Option (ℕ × ℕ) × DescBody)

abbrev descriptor_fields : Desc → List ℕ × (ℕ × Listed)
descriptor_fields d = (d.name, (body_number d.body, (d.library, (d.over, d.body))))

pub reads_descriptor : Reads descriptor_bytes FitsDescriptor descriptor_in
reads_descriptor =
    reads_meaning
    (λ (p : List ℕ × (ℕ × Listed)). text_bytes p.0 ++ ((p.1.0 ∷ []) ++ ((from_bool p.1.1.0 ∷ []) ++ (optional_bytes overlay_bytes p.1.1.1.0 ++ body_bytes p.1.1.1.1))))
    (λ (p : List ℕ × (ℕ × Listed)). IsName p.0 × (IsByte p.1.0 × (Unit {0} × (IfSome p.1.1.1.0 FitsOverlay × FitsBodyOf p.1.0 p.1.1.1.1))))
    (both name_in (followed byte_in listed_in))
    FitsDescriptor descriptor_of descriptor_fields
    (reads_both _ _ _ _ _ _ reads_name
    (reads_followed (λ (n : ℕ). n ∷ []) IsByte byte_in (λ n (l : Listed). (from_bool l.0 ∷ []) ++ (optional_bytes overlay_bytes l.1.0 ++ body_bytes l.1.1)) (λ n (l : Listed). Unit {0} × (IfSome l.1.0 FitsOverlay × FitsBodyOf n l.1.1)) listed_in
    reads_byte (λ n _. reads_both _ _ _ _ _ _ reads_flag (reads_both _ _ _ _ _ _ (reads_optional overlay_bytes FitsOverlay overlay_in reads_overlay) (reads_body n)))))
    (λ x y h e.
    let made : Desc = record { name = x.0; library = x.1.1.0; over = x.1.1.1.0; body = x.1.1.1.1 } in
    let same : made ≡ y = some_is made y e in
    (ap (λ n. (x.0, (n, x.1.1))) (sym h.1.1.1.1.1) ∙ ap descriptor_fields same, subst FitsDescriptor same (record { name = h.0; over = h.1.1.1.0; body = h.1.1.1.1.0 })))
    (λ y h. ((h.name, (body_small y.body, (tt, (h.over, (h.body, refl))))), refl))
