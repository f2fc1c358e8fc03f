-- The payload of a descriptor that fits is short.
use Rattle.std.proofs.Common.{◌≡◌, ℕ, suc, ◌+◌, ◌*◌, ◌<◌, ◌≤◌, List, [], ◌∷◌, ◌++◌, length, Option, Some, None, inl, inr, ◌⊎◌, arith}
use Rattle.std.specs.List.{AllByRecursion}
use Rattle.std.proofs.lemmas.List.{length-append}
use Rattle.cw_unit.specs.declared.descriptor.Scale.{Scale}
use Rattle.cw_unit.specs.declared.descriptor.Desc.{Desc}
use Rattle.cw_unit.specs.declared.descriptor.DescBody.{DescBody}
use Rattle.cw_unit.specs.declared.descriptor.DescBody.TheVariants as bodies
use Rattle.cw_unit.specs.declared.descriptor.ElemDesc.{ElemDesc}
use Rattle.cw_unit.specs.declared.descriptor.Spec.{Spec, out-Spec}
use Rattle.cw_unit.specs.declared.descriptor.SpecParam.{SpecParam, SpecParam-F, out-SpecParam}
use Rattle.cw_unit.specs.declared.descriptor.SpecParam.TheOpen as takes
use Rattle.cw_fields.specs.Fields.{each, optional_bytes, text_bytes, IsLong, word_bytes}
use Rattle.cw_view.specs.Payloads.{scale_bytes, plain_layer_bytes, plain_parameter_bytes, FitsPlainParameter, spec_bytes, FitsSpec, layer_bytes, FitsLayer, parameter_bytes, FitsParameter, bound_bytes, FitsBounds, element_bytes, FitsElement, body_bytes, FitsBody, overlay_bytes, descriptor_bytes, FitsDescriptor}

each-short : {X : Type 0} (spell : X → List ℕ) (F : X → Type 0) (k : ℕ) → ((x : X) → F x → length (spell x) ≤ k) → (xs : List X) → AllByRecursion F xs → length (each spell xs) ≤ length xs * k
each-short spell F k one [] h = omega arith
each-short spell F k one (x ∷ xs) h = omega (arith, length-append (spell x) (each spell xs), one x h.0, each-short spell F k one xs h.1)

answer-short : (o : Option Scale) → length (optional_bytes scale_bytes o) ≤ 3
answer-short None = omega arith
answer-short (Some s) = omega arith

plain-short : (p : SpecParam-F SpecParam Spec) → length (plain_layer_bytes p) ≤ 3
plain-short takes.Label = omega arith
plain-short _ = omega arith

-- a specification, by the longest of its parameters
spec-short : (spell : SpecParam → List ℕ) (F : SpecParam → Type 0) (k : ℕ) → ((p : SpecParam) → F p → length (spell p) ≤ k) → (s : Spec) → FitsSpec F s → length (spec_bytes spell s) ≤ 4 + length (out-Spec s).params * k
spec-short spell F k one s h =
    let params : List SpecParam = (out-Spec s).params in
    let total : length (spec_bytes spell s) ≡ length (optional_bytes scale_bytes (out-Spec s).answer) + suc (length (each spell params)) = length-append (optional_bytes scale_bytes (out-Spec s).answer) (length params ∷ each spell params) in
    omega (arith, total, answer-short (out-Spec s).answer, each-short spell F k one params h.2)

layer-short : (p : SpecParam-F SpecParam Spec) → FitsLayer p → length (layer_bytes p) ≤ 800
layer-short (takes.Proc s) h =
    let count : length (out-Spec s).params < 256 = h.1 in
    let whole : length (spec_bytes plain_parameter_bytes s) ≤ 4 + length (out-Spec s).params * 3 = spec-short plain_parameter_bytes FitsPlainParameter 3 (λ p _. plain-short (out-SpecParam p)) s h in
    omega (arith, whole, count)
layer-short _ h = omega arith

element-short : (e : ElemDesc) → FitsElement e → length (element_bytes e) ≤ 38
element-short e h =
    let total : length (element_bytes e) ≡ suc (length e.name) + 6 = length-append (text_bytes e.name) (e.form ∷ e.t ∷ e.f ∷ word_bytes e.word ++ (e.bit ∷ [])) in
    omega (arith, total, h.name.short)

few : (n : ℕ) → (n ≡ 1) ⊎ (n ≡ 2) → n ≤ 2
few n (inl e) = omega (arith, e)
few n (inr e) = omega (arith, e)

body-short : (b : DescBody) → FitsBody b → length (body_bytes b) ≤ 3000000
body-short (bodies.Word s) h = omega arith
body-short (bodies.Array s dims) h =
    let each-is : length (each bound_bytes dims) ≤ length dims * 4 = each-short bound_bytes FitsBounds 4 (λ d _. omega arith) dims h.2 in
    omega (arith, each-is, few (length dims) h.1)
body-short (bodies.Table width len elems) h =
    let count : length elems < 65536 = h.2 in
    let each-is : length (each element_bytes elems) ≤ length elems * 38 = each-short element_bytes FitsElement 38 element-short elems h.3 in
    omega (arith, each-is, count)
body-short bodies.Label h = omega arith
body-short bodies.Switch h = omega arith
body-short (bodies.Proc s) h =
    let count : length (out-Spec s).params < 256 = h.1 in
    let whole : length (spec_bytes parameter_bytes s) ≤ 4 + length (out-Spec s).params * 800 = spec-short parameter_bytes FitsParameter 800 (λ p f. layer-short (out-SpecParam p) f) s h in
    omega (arith, whole, count)

overlay-short : (o : Option (ℕ × ℕ)) → length (optional_bytes overlay_bytes o) ≤ 5
overlay-short None = omega arith
overlay-short (Some base) = omega arith

pub descriptor-short : (d : Desc) → FitsDescriptor d → IsLong (length (descriptor_bytes d))
descriptor-short d h =
    let over : List ℕ = optional_bytes overlay_bytes d.over in
    let total : length (descriptor_bytes d) ≡ suc (length d.name) + suc (suc (length (over ++ body_bytes d.body))) = length-append (text_bytes d.name) _ in
    omega (arith, total, length-append over (body_bytes d.body), h.name.short, overlay-short d.over, body-short d.body h.body)
