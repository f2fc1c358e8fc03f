-- No two specifications are spelled alike, and none as the beginning of another.
use Rattle.std.proofs.Common.{◌≡◌, ℕ, suc, List, [], ◌∷◌, ◌++◌, map, refl, sym, ◌∙◌, ap, ap₂, Option, Some, None, append_assoc}
use Rattle.cw_unit.specs.declared.descriptor.Scale.{Scale}
use Rattle.cw_unit.specs.declared.descriptor.Spec.{Spec, Spec-F, map-Spec, out-Spec, roll-Spec, fold-roll-Spec, ind-Spec}
use Rattle.cw_unit.specs.declared.descriptor.SpecParam.{SpecParam, SpecParam-F, map-SpecParam, out-SpecParam, roll-SpecParam, fold-roll-SpecParam}
use Rattle.cw_unit.specs.declared.descriptor.SpecParam.TheViews.{roll-out-SpecParam, roll-out-Spec}
use Rattle.cw_unit.specs.declared.descriptor.SpecParam.TheOpen as layer
use Rattle.cw_keyed.specs.Spelling.{Spelled, spelled_scale, spelled_answer, ended, spec_step, taken_step, spelled, spelled_taken}
use Rattle.cw_keyed.proofs.Layers.{spec_layer, taken_layer, spec-by_layer, taken-by_layer}

abbrev IsAlone : {A : Type 0} → (A → Spelled) → A → Type 0
IsAlone {A} f a = (b : A) (xs ys : List ℕ) → f a ++ xs ≡ f b ++ ys → (a ≡ b) × (xs ≡ ys)

scale_alone : (n : ℕ) (s t : Scale) (xs ys : List ℕ) → spelled_scale n s ++ xs ≡ spelled_scale n t ++ ys → (s ≡ t) × (xs ≡ ys)
scale_alone n s t xs ys e =
    let first : s.t ≡ t.t = cc in
    let second : s.f ≡ t.f = cc in
    (ap₂ (λ (a b : ℕ). record { t = a; f = b }) first second, cc)

answer_alone : (a : Option Scale) → IsAlone spelled_answer a
answer_alone None None xs ys e = (refl, cc)
answer_alone None (Some t) xs ys e = absurd cc
answer_alone (Some s) None xs ys e = absurd cc
answer_alone (Some s) (Some t) xs ys e = let (same, rest) = scale_alone 1 s t xs ys e in (ap (λ (x : Scale). Some x) same, rest)

module _ (f : SpecParam → Spelled) (begins : (p : SpecParam) → (n : ℕ) × ((rest : Spelled) × (f p ≡ suc n ∷ rest))) where
  end_apart : (p : SpecParam) (rest xs ys : List ℕ) → 0 ∷ xs ≡ (f p ++ rest) ++ ys → ⊥
  end_apart p rest xs ys e =
      let (n, (more, is)) = begins p in
      let e' : 0 ∷ xs ≡ suc n ∷ ((more ++ rest) ++ ys) = e ∙ ap (λ (z : List ℕ). (z ++ rest) ++ ys) is in
      cc

  all_alone : (known : List ((p : SpecParam) × IsAlone f p)) (bs : List SpecParam) (xs ys : List ℕ) → ended (map f (map (λ a. a.0) known)) ++ xs ≡ ended (map f bs) ++ ys → (map (λ a. a.0) known ≡ bs) × (xs ≡ ys)
  all_alone [] [] xs ys e = (refl, cc)
  all_alone [] (b ∷ bs) xs ys e = absurd (end_apart b (ended (map f bs)) xs ys e)
  all_alone (a ∷ known) [] xs ys e = absurd (end_apart a.0 (ended (map f (map (λ a. a.0) known))) ys xs (sym e))
  all_alone (a ∷ known) (b ∷ bs) xs ys e =
      let e' = sym (append_assoc (f a.0) (ended (map f (map (λ a. a.0) known))) xs) ∙ e ∙ append_assoc (f b) (ended (map f bs)) ys in
      let (same, rest) = a.1 b (ended (map f (map (λ a. a.0) known)) ++ xs) (ended (map f bs) ++ ys) e' in
      let (others, behind) = all_alone known bs xs ys rest in
      (ap₂ (λ (p : SpecParam) (ps : List SpecParam). p ∷ ps) same others, behind)

taken_begins : (x : SpecParam-F SpecParam Spec) → (n : ℕ) × ((rest : Spelled) × (taken_layer x ≡ suc n ∷ rest))
taken_begins (layer.Value s) = (_, (_, refl))
taken_begins _ = (_, (_, refl))

begins : (p : SpecParam) → (n : ℕ) × ((rest : Spelled) × (spelled_taken p ≡ suc n ∷ rest))
begins p = let (n, (rest, is)) = taken_begins (out-SpecParam p) in (n, (rest, taken-by_layer p ∙ is))

abbrev Known : Type 0
Known = (p : SpecParam) × IsAlone spelled_taken p

abbrev KnownSpec : Type 0
KnownSpec = (s : Spec) × IsAlone spelled s

abbrev known_taken : SpecParam-F Known KnownSpec → SpecParam-F SpecParam Spec
known_taken y = map-SpecParam Known KnownSpec SpecParam Spec (λ a. a.0) (λ a. a.0) y

abbrev known_spec : Spec-F Known KnownSpec → Spec-F SpecParam Spec
known_spec y = map-Spec Known KnownSpec SpecParam Spec (λ a. a.0) (λ a. a.0) y

layer_alone : (y : SpecParam-F Known KnownSpec) (z : SpecParam-F SpecParam Spec) (xs ys : List ℕ) → taken_layer (known_taken y) ++ xs ≡ taken_layer z ++ ys → (known_taken y ≡ z) × (xs ≡ ys)
layer_alone (layer.Value s) (layer.Value t) xs ys e = let (same, rest) = scale_alone 1 s t xs ys e in (ap layer.Value same, rest)
layer_alone (layer.Location s) (layer.Location t) xs ys e = let (same, rest) = scale_alone 2 s t xs ys e in (ap layer.Location same, rest)
layer_alone (layer.Array s) (layer.Array t) xs ys e = let (same, rest) = scale_alone 3 s t xs ys e in (ap layer.Array same, rest)
layer_alone (layer.Table n) (layer.Table m) xs ys e = (let same : n ≡ m = cc in ap layer.Table same, cc)
layer_alone layer.Label layer.Label xs ys e = (refl, cc)
layer_alone layer.Switch layer.Switch xs ys e = (refl, cc)
layer_alone (layer.Proc s) (layer.Proc t) xs ys e = let (same, rest) = s.1 t xs ys cc in (ap layer.Proc same, rest)
layer_alone _ _ xs ys e = absurd cc

spec_alone : (y : Spec-F Known KnownSpec) (z : Spec-F SpecParam Spec) (xs ys : List ℕ) → spec_layer (known_spec y) ++ xs ≡ spec_layer z ++ ys → (known_spec y ≡ z) × (xs ≡ ys)
spec_alone y z xs ys e =
    let e' = sym (append_assoc (spelled_answer y.answer) (ended (map spelled_taken (map (λ a. a.0) y.params))) xs) ∙ e ∙ append_assoc (spelled_answer z.answer) (ended (map spelled_taken z.params)) ys in
    let (same, rest) = answer_alone y.answer z.answer _ _ e' in
    let (others, behind) = all_alone spelled_taken begins y.params z.params xs ys rest in
    (ap₂ (λ (a : Option Scale) (ps : List SpecParam). record { answer = a; params = ps }) same others, behind)

pub alone : (s : Spec) → IsAlone spelled s
alone = ind-Spec (IsAlone spelled_taken) (IsAlone spelled)
    (λ x y is b xs ys e.
    let e' : taken_layer (known_taken y) ++ xs ≡ taken_layer (out-SpecParam b) ++ ys = ap (λ z. taken_layer z ++ xs) is ∙ ap (λ (z : Spelled). z ++ xs) (sym (fold-roll-SpecParam Spelled Spelled taken_step spec_step x)) ∙ e ∙ ap (λ (z : Spelled). z ++ ys) (taken-by_layer b) in
    let (same, rest) = layer_alone y (out-SpecParam b) xs ys e' in
    (ap roll-SpecParam (sym is ∙ same) ∙ roll-out-SpecParam b, rest))
    (λ x y is b xs ys e.
    let e' : spec_layer (known_spec y) ++ xs ≡ spec_layer (out-Spec b) ++ ys = ap (λ z. spec_layer z ++ xs) is ∙ ap (λ (z : Spelled). z ++ xs) (sym (fold-roll-Spec Spelled Spelled taken_step spec_step x)) ∙ e ∙ ap (λ (z : Spelled). z ++ ys) (spec-by_layer b) in
    let (same, rest) = spec_alone y (out-Spec b) xs ys e' in
    (ap roll-Spec (sym is ∙ same) ∙ roll-out-Spec b, rest))

pub one_spelled : (s t : Spec) → spelled s ≡ spelled t → s ≡ t
one_spelled s t e = (alone s t [] [] (ap (λ (z : Spelled). z ++ []) e)).0
