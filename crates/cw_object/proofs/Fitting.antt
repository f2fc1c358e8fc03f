-- What passes the tests fits the fields.
use Rattle.std.proofs.Common.{◌≡◌, ℕ, ◌+◌, ◌*◌, ◌<◌, ◌≤◌, ℤ, pos, negsuc, List, [], ◌∷◌, ◌++◌, length, Bool, true, false, IsTrue, ◌&&◌, ◌||◌, nat_eq, nat_lt, nat_le, Option, Some, None, refl, inl, inr, ◌⊎◌, arith}
use Rattle.std.specs.Prelude.{IfSome}
use Rattle.std.specs.List.{list_all, AllByRecursion}
use Rattle.std.proofs.lemmas.Int.{ints}
use Rattle.std.proofs.lemmas.Bool.{eqb-true, leb-true, ltb-true}
use Rattle.cw_word.specs.FixedPoint.{FitsWord, fits_word}
use Rattle.cw_unit.specs.declared.descriptor.Scale.{Scale}
use Rattle.cw_unit.specs.declared.descriptor.Desc.{Desc}
use Rattle.cw_unit.specs.declared.descriptor.DescBody.{DescBody}
use Rattle.cw_unit.specs.declared.descriptor.DescBody.TheVariants as bodies
use Rattle.cw_unit.specs.declared.descriptor.ElemDesc.{ElemDesc}
use Rattle.cw_unit.specs.declared.descriptor.Spec.{Spec, out-Spec}
use Rattle.cw_unit.specs.declared.descriptor.SpecParam.{SpecParam, SpecParam-F, out-SpecParam}
use Rattle.cw_unit.specs.declared.descriptor.SpecParam.TheOpen as takes
use Rattle.cw_unit.specs.declared.layout.Family.{Family}
use Rattle.cw_unit.specs.declared.layout.Preset.{Preset}
use Rattle.cw_unit.specs.declared.layout.Reloc.{Reloc}
use Rattle.cw_unit.specs.declared.layout.Body.{Body}
use Rattle.cw_fields.specs.Fields.{IsLong}
use Rattle.cw_fields.specs.Names.{IsNameOrEmpty, is_name, is_empty, is_name_or_empty}
use Rattle.cw_view.specs.Payloads.{FitsScale, FitsPlainLayer, FitsPlainParameter, FitsSpec, FitsLayer, FitsParameter, FitsBounds, FitsElement, FitsBody, FitsOverlay, FitsDescriptor, sort_operand, FitsFamily, ItemEntry, FitsItem, FitsPreset, FitsRelocation, FitsDefinition, FitsBodyFacts, FitsStatement}
use Rattle.cw_fields.proofs.Names.{name-Decides}
use Rattle.cw_object.specs.Fits.{is_byte, is_word, is_long, fits_scale, fits_answer, fits_plain_layer, fits_plain_parameter, fits_spec, fits_layer, fits_parameter, fits_bounds, fits_element, is_few, fits_body, fits_overlay, fits_descriptor, fits_family, fits_item, fits_preset, fits_relocation, fits_definition, fits_body_facts, fits_statement}

no : {A : Type 0} → IsTrue false → A
no h = absurd (cc)

pub both : (a b : Bool) → IsTrue (a && b) → IsTrue a × IsTrue b
both true true h = (h, h)
both true false h = no h
both false b h = no h

either : (a b : Bool) → IsTrue (a || b) → IsTrue a ⊎ IsTrue b
either true b h = inl refl
either false b h = inr h

all-fit : {X : Type 0} (test : X → Bool) (F : X → Type 0) → ((x : X) → IsTrue (test x) → F x) → (xs : List X) → IsTrue (list_all test xs) → AllByRecursion F xs
all-fit test F one [] h = tt
all-fit test F one (x ∷ xs) h = let p = both (test x) (list_all test xs) h in (one x p.0, all-fit test F one xs p.1)

pub long : (n : ℕ) → IsTrue (is_long n) → IsLong n
long n h = let lt : n < 4294967296 = ltb-true n 4294967296 h in omega (arith, lt)

-- ---- descriptors

scale-fits : (s : Scale) → IsTrue (fits_scale s) → FitsScale s
scale-fits s h = let p = both (is_byte s.t) (is_byte s.f) h in (ltb-true s.t 256 p.0, ltb-true s.f 256 p.1)

answer-fits : (o : Option Scale) → IsTrue (fits_answer o) → IfSome o FitsScale
answer-fits None h = tt
answer-fits (Some s) h = scale-fits s h

plain-layer : (p : SpecParam-F SpecParam Spec) → IsTrue (fits_plain_layer p) → FitsPlainLayer p
plain-layer (takes.Value s) h = scale-fits s h
plain-layer (takes.Location s) h = scale-fits s h
plain-layer (takes.Array s) h = scale-fits s h
plain-layer (takes.Table width) h = ltb-true width 65536 h
plain-layer takes.Label h = tt
plain-layer takes.Switch h = tt
plain-layer (takes.Proc s) h = no h

plain-parameter : (p : SpecParam) → IsTrue (fits_plain_parameter p) → FitsPlainParameter p
plain-parameter p h = plain-layer (out-SpecParam p) h

spec-fits : (test : SpecParam → Bool) (F : SpecParam → Type 0) → ((p : SpecParam) → IsTrue (test p) → F p) → (s : Spec) → IsTrue (fits_spec test s) → FitsSpec F s
spec-fits test F one s h =
    let params : List SpecParam = (out-Spec s).params in
    let a = both (fits_answer (out-Spec s).answer) (is_byte (length params) && list_all test params) h in
    let b = both (is_byte (length params)) (list_all test params) a.1 in
    (answer-fits (out-Spec s).answer a.0, ltb-true (length params) 256 b.0, all-fit test F one params b.1)

layer-fits : (p : SpecParam-F SpecParam Spec) → IsTrue (fits_layer p) → FitsLayer p
layer-fits (takes.Proc s) h = spec-fits fits_plain_parameter FitsPlainParameter plain-parameter s h
layer-fits p h = plain-layer p h

parameter-fits : (p : SpecParam) → IsTrue (fits_parameter p) → FitsParameter p
parameter-fits p h = layer-fits (out-SpecParam p) h

word : (z : ℤ) → IsTrue (fits_word z) → FitsWord z
word (pos n) h = let lt : n < 32768 = ltb-true n 32768 h in omega (arith, ints, lt)
word (negsuc n) h = let lt : n < 32768 = ltb-true n 32768 h in omega (arith, ints, lt)

bounds-fit : (d : ℤ × ℤ) → IsTrue (fits_bounds d) → FitsBounds d
bounds-fit d h = let p = both (fits_word d.0) (fits_word d.1) h in (word d.0 p.0, word d.1 p.1)

element-fits : (e : ElemDesc) → IsTrue (fits_element e) → FitsElement e
element-fits e h =
    let a = both (is_name e.name) (nat_le e.form 2 && (is_byte e.t && (is_byte e.f && (is_word e.word && is_byte e.bit)))) h in
    let b = both (nat_le e.form 2) (is_byte e.t && (is_byte e.f && (is_word e.word && is_byte e.bit))) a.1 in
    let c = both (is_byte e.t) (is_byte e.f && (is_word e.word && is_byte e.bit)) b.1 in
    let d = both (is_byte e.f) (is_word e.word && is_byte e.bit) c.1 in
    let g = both (is_word e.word) (is_byte e.bit) d.1 in
    record { name = (name-Decides e.name).0 a.0; form = leb-true e.form 2 b.0; t = ltb-true e.t 256 c.0; f = ltb-true e.f 256 d.0; word = ltb-true e.word 65536 g.0; bit = ltb-true e.bit 256 g.1 }

few-is : (n : ℕ) → IsTrue (nat_eq n 1) ⊎ IsTrue (nat_eq n 2) → (n ≡ 1) ⊎ (n ≡ 2)
few-is n (inl h) = inl (eqb-true n 1 h)
few-is n (inr h) = inr (eqb-true n 2 h)

body-fits : (b : DescBody) → IsTrue (fits_body b) → FitsBody b
body-fits (bodies.Word s) h = scale-fits s h
body-fits (bodies.Array s dims) h =
    let a = both (fits_scale s) (is_few (length dims) && list_all fits_bounds dims) h in
    let b = both (is_few (length dims)) (list_all fits_bounds dims) a.1 in
    (scale-fits s a.0, few-is (length dims) (either (nat_eq (length dims) 1) (nat_eq (length dims) 2) b.0), all-fit fits_bounds FitsBounds bounds-fit dims b.1)
body-fits (bodies.Table width len elems) h =
    let a = both (is_word width) (is_word len && (is_word (length elems) && list_all fits_element elems)) h in
    let b = both (is_word len) (is_word (length elems) && list_all fits_element elems) a.1 in
    let c = both (is_word (length elems)) (list_all fits_element elems) b.1 in
    (ltb-true width 65536 a.0, ltb-true len 65536 b.0, ltb-true (length elems) 65536 c.0, all-fit fits_element FitsElement element-fits elems c.1)
body-fits bodies.Label h = tt
body-fits bodies.Switch h = tt
body-fits (bodies.Proc s) h = spec-fits fits_parameter FitsParameter parameter-fits s h

overlay-fits : (o : Option (ℕ × ℕ)) → IsTrue (fits_overlay o) → IfSome o FitsOverlay
overlay-fits None h = tt
overlay-fits (Some base) h = let p = both (is_word base.0) (is_word base.1) h in (ltb-true base.0 65536 p.0, ltb-true base.1 65536 p.1)

pub descriptor-fits : (d : Desc) → IsTrue (fits_descriptor d) → FitsDescriptor d
descriptor-fits d h =
    let a = both (is_name d.name) (fits_overlay d.over && fits_body d.body) h in
    let b = both (fits_overlay d.over) (fits_body d.body) a.1 in
    record { name = (name-Decides d.name).0 a.0; over = overlay-fits d.over b.0; body = body-fits d.body b.1 }

-- ---- storage

pub family-fits : (f : Family) → IsTrue (fits_family f) → FitsFamily f
family-fits f h = let p = both (is_word (sort_operand f.sort)) (is_long f.extent) h in record { operand = ltb-true (sort_operand f.sort) 65536 p.0; extent = long f.extent p.1 }

name-or-empty : (text : List ℕ) → IsTrue (is_name_or_empty text) → IsNameOrEmpty text
name-or-empty [] h = inl refl
name-or-empty (b ∷ bs) h = inr ((name-Decides (b ∷ bs)).0 h)

line-of : (name : List ℕ) (line : ℕ) → IsTrue (is_empty name || nat_eq line 0) → (name ≡ []) ⊎ (line ≡ 0)
line-of [] line h = inl refl
line-of (b ∷ bs) line h = inr (eqb-true line 0 h)

pub item-fits : (i : ItemEntry) → IsTrue (fits_item i) → FitsItem i
item-fits i h =
    let numbers : Bool = is_word i.family && (is_word i.offset && is_long i.words) in
    let a = both (is_name_or_empty i.owner) (is_name_or_empty i.name && (is_word i.line && ((is_empty i.name || nat_eq i.line 0) && numbers))) h in
    let b = both (is_name_or_empty i.name) (is_word i.line && ((is_empty i.name || nat_eq i.line 0) && numbers)) a.1 in
    let c = both (is_word i.line) ((is_empty i.name || nat_eq i.line 0) && numbers) b.1 in
    let d = both (is_empty i.name || nat_eq i.line 0) numbers c.1 in
    let e = both (is_word i.family) (is_word i.offset && is_long i.words) d.1 in
    let f = both (is_word i.offset) (is_long i.words) e.1 in
    record {
      owner = name-or-empty i.owner a.0;
      name = name-or-empty i.name b.0;
      line = ltb-true i.line 65536 c.0;
      named = line-of i.name i.line d.0;
      family = ltb-true i.family 65536 e.0;
      offset = ltb-true i.offset 65536 f.0;
      words = long i.words f.1;
    }

pub preset-fits : (p : Preset) → IsTrue (fits_preset p) → FitsPreset p
preset-fits p h =
    let a = both (is_word p.family) (is_word p.offset && is_word p.word) h in
    let b = both (is_word p.offset) (is_word p.word) a.1 in
    record { family = ltb-true p.family 65536 a.0; offset = ltb-true p.offset 65536 b.0; word = ltb-true p.word 65536 b.1 }

-- ---- code

pub relocation-fits : (r : Reloc) → IsTrue (fits_relocation r) → FitsRelocation r
relocation-fits r h =
    let a = both (is_long r.place) (is_byte r.sort && (is_word r.index && is_word r.add)) h in
    let b = both (is_byte r.sort) (is_word r.index && is_word r.add) a.1 in
    let c = both (is_word r.index) (is_word r.add) b.1 in
    record { place = long r.place a.0; sort = ltb-true r.sort 256 b.0; index = ltb-true r.index 65536 c.0; add = ltb-true r.add 65536 c.1 }

pub definition-fits : (d : ℕ × ℕ) → IsTrue (fits_definition d) → FitsDefinition d
definition-fits d h = let p = both (is_word d.0) (is_long d.1) h in (ltb-true d.0 65536 p.0, long d.1 p.1)

pub body-facts-fit : (b : Body) → IsTrue (fits_body_facts b) → FitsBodyFacts b
body-facts-fit b h =
    let a = both (is_long b.entry) (is_word b.need && is_long b.tokens) h in
    let c = both (is_word b.need) (is_long b.tokens) a.1 in
    record { entry = long b.entry a.0; need = ltb-true b.need 65536 c.0; tokens = long b.tokens c.1 }

pub statement-fits : (s : ℕ × ℕ) → IsTrue (fits_statement s) → FitsStatement s
statement-fits s h =
    let a = both (is_long s.0) (is_word s.1 && nat_le 1 s.1) h in
    let b = both (is_word s.1) (nat_le 1 s.1) a.1 in
    (long s.0 a.0, ltb-true s.1 65536 b.0, leb-true 1 s.1 b.1)
