-- What the bytes of an object tell: that of a unit tells the unit, and a view what its bytes tell.
use Rattle.std.proofs.Common.{◌≡◌, ℕ, ◌+◌, ◌<◌, ◌≤◌, true, false, List, [], ◌∷◌, ◌++◌, length, map, drop, refl, sym, ap, ◌∙◌, arith}
use Rattle.std.specs.Prelude.{Ok}
use Rattle.std.specs.List.{AllByRecursion}
use Rattle.std.proofs.lemmas.Bool.Decides.{nat_tests}
use Rattle.std.proofs.lemmas.List.{append-nil}
use Rattle.cw_word.specs.Name.{IsName}
use Rattle.cw_unit.specs.declared.unit.Unit.{Unit as SourceUnit}
use Rattle.cw_unit.specs.declared.layout.Layout.{Layout}
use Rattle.cw_tmpl.specs.declared.assembling.Code.{Code as MadeCode}
use Rattle.cw_view.specs.declared.view.View.{View}
use Rattle.cw_fields.specs.Fields.{Reader, text_bytes}
use Rattle.cw_view.specs.Payloads.{descriptor_bytes, FitsDescriptor, family_bytes, FitsFamily, preset_bytes, FitsPreset, relocation_bytes, FitsRelocation, definition_bytes, FitsDefinition, body_facts_bytes, FitsBodyFacts}
use Rattle.cw_fields.specs.Names.{name_in}
use Rattle.cw_view.specs.Reading.{descriptor_in, family_in, preset_in, relocation_in, definition_in, body_facts_in}
use Rattle.cw_view.specs.ObjectFormat.{Record, SegmentName, Descriptor, StorageFamily, StoredItem, PresetWord, Code, Relocation, Definition, BodyFacts, Statement, End, kind_of, last_kind, can_follow, code_of, code_or, IsFront, IsObjectOf, payloads, payload_if}
use Rattle.cw_view.specs.Splitting.{payloads_in}
use Rattle.cw_view.specs.Fronts.{AnswersOpen}
use Rattle.cw_fields.specs.Spelling.{Reads}
use Rattle.cw_fields.proofs.Formats.{whole_again}
use Rattle.cw_fields.proofs.Spelled.{reads_name}
use Rattle.cw_view.proofs.Forms.{reads_family, reads_preset, reads_relocation, reads_definition, reads_body_facts}
use Rattle.cw_view.proofs.Descriptors.{reads_descriptor}
use Rattle.cw_view.proofs.Splits.{all_payloads}
use Rattle.cw_view.proofs.Whole.{begins}
use Rattle.cw_link.specs.Contents.{kept, values_in, first_body, contents_of}
use Rattle.cw_obj.specs.ReferenceObject.{definitions_of, body_of, object_records}
use Rattle.cw_obj.specs.Writable.{AllFrom, by_one, the_same, IsListed, IsKept, IsSet, IsFilled, behind_word, IsDefined, behind_number, IsWritable, onto, WritesObjects, TellsUnits}
use Rattle.cw_object.specs.ObjectContents.{payloads_of, first_text, contents_in, object_with, contents_with, TellsItsUnit}
use Rattle.cw_object.proofs.Written.{writable}

-- ---- values are read back

values-back : {A : Type 0} (s : A → List ℕ) (F : A → Type 0) (r : Reader A) → Reads s F r → (xs : List A) → AllByRecursion F xs → values_in r (map s xs) ≡ xs
values-back s F r l [] h = refl
values-back s F r l (x ∷ xs) h = ap (λ o. kept o (values_in r (map s xs))) (whole_again s F r l x h.0) ∙ ap (λ ys. x ∷ ys) (values-back s F r l xs h.1)

pub one-back : {A : Type 0} (s : A → List ℕ) (F : A → Type 0) (r : Reader A) → Reads s F r → (x : A) → F x → values_in r (s x ∷ []) ≡ x ∷ []
one-back s F r l x h = ap (λ o. kept o []) (whole_again s F r l x h)

all-of : {A : Type 0} (P : ℕ → A → Type 0) (step : ℕ → A → ℕ) (F : A → Type 0) → ((n : ℕ) (x : A) → P n x → F x) → (n : ℕ) (xs : List A) → AllFrom P step n xs → AllByRecursion F xs
all-of P step F one n [] h = tt
all-of P step F one n (x ∷ xs) h = (one n x h.0, all-of P step F one (step n x) xs h.1)

-- the payloads in the bytes of an object
pub in-object : (bytes : List ℕ) (v : ℕ) (records : List Record) → IsObjectOf bytes v records → (kind : ℕ) → payloads_of kind bytes ≡ payloads kind records
in-object bytes v records o kind = ap (λ y. payloads_in kind (drop 6 y)) o.spelled ∙ all_payloads v kind records o.front

-- ---- the object of a unit

contents-are : WritesObjects → TellsUnits → (u : SourceUnit) (l : Layout) (c : MadeCode) (need : ℕ) → IsWritable u l c need c.statements → contents_in (object_with u l c need) ≡ contents_with u l c need
contents-are writes tells u l c need w =
    let bytes : List ℕ = object_with u l c need in
    let records : List Record = onto (object_records u l c need c.statements) [] in
    let o : IsObjectOf bytes 2 records = writes u l c need c.statements w in
    let t = tells u l c need c.statements in
    let has : (kind : ℕ) → payloads_of kind bytes ≡ payloads kind records = in-object bytes 2 records o in
    let name : first_text (values_in name_in (payloads_of 1 bytes)) ≡ u.name = ap (λ ps. first_text (values_in name_in ps)) (has 1 ∙ t.name) ∙ ap first_text (one-back text_bytes IsName name_in reads_name u.name w.name) in
    let descs : values_in descriptor_in (payloads_of 2 bytes) ≡ u.descs = ap (values_in descriptor_in) (has 2 ∙ t.descriptors) ∙ values-back descriptor_bytes FitsDescriptor descriptor_in reads_descriptor u.descs (all-of IsListed by_one FitsDescriptor (λ n x p. p.fits) 0 u.descs w.descriptors) in
    let families : values_in family_in (payloads_of 3 bytes) ≡ l.families = ap (values_in family_in) (has 3 ∙ t.families) ∙ values-back family_bytes FitsFamily family_in reads_family l.families (all-of (λ n. IsKept (length u.descs)) the_same FitsFamily (λ n x p. p.fits) 0 l.families w.families) in
    let presets : values_in preset_in (payloads_of 5 bytes) ≡ l.words = ap (values_in preset_in) (has 5 ∙ t.presets) ∙ values-back preset_bytes FitsPreset preset_in reads_preset l.words (all-of (λ n. IsSet l.families) the_same FitsPreset (λ n x p. p.fits) 0 l.words w.presets) in
    let code : first_text (payloads_of 6 bytes) ≡ c.bytes = ap first_text (has 6 ∙ t.code) in
    let relocs : values_in relocation_in (payloads_of 7 bytes) ≡ c.relocs = ap (values_in relocation_in) (has 7 ∙ t.relocations) ∙ values-back relocation_bytes FitsRelocation relocation_in reads_relocation c.relocs (all-of (IsFilled (length u.descs) l.families c.bytes) behind_word FitsRelocation (λ n x p. p.fits) 0 c.relocs w.relocations) in
    let definitions : values_in definition_in (payloads_of 8 bytes) ≡ definitions_of c u.defined = ap (values_in definition_in) (has 8 ∙ t.definitions) ∙ values-back definition_bytes FitsDefinition definition_in reads_definition (definitions_of c u.defined) (all-of (IsDefined (length u.descs) c.bytes) behind_number FitsDefinition (λ n x p. p.fits) 0 (definitions_of c u.defined) w.definitions) in
    let body : first_body (values_in body_facts_in (payloads_of 9 bytes)) ≡ body_of u c need = ap (λ ps. first_body (values_in body_facts_in ps)) (has 9 ∙ t.body) ∙ ap first_body (one-back body_facts_bytes FitsBodyFacts body_facts_in reads_body_facts (body_of u c need) w.body) in
    λ i. record { name = name i; descs = descs i; families = families i; presets = presets i; code = code i; relocs = relocs i; definitions = definitions i; body = body i }

pub telling : WritesObjects → TellsUnits → TellsItsUnit
telling writes tells u l c need h =
    let w : IsWritable u l c need c.statements = writable u l c need h in
    ((2, onto (object_records u l c need c.statements) [], writes u l c need c.statements w), contents-are writes tells u l c need w)

-- ---- a view

ff : {A : Type 0} → false ≡ true → A
ff e = absurd (cc)

low-before : (v last kind : ℕ) → can_follow v last kind ≡ true → kind ≤ 6 → last < 6
low-before v last kind h le = grind (arith, nat_tests)

no-code : (r : Record) (code : List ℕ) → kind_of r < 6 → (payload_if 6 r ≡ []) × (code_or code r ≡ code)
no-code (Code x) code h = absurd (omega (arith, h))
no-code _ code h = (refl, refl)

-- before the code there is none
none-yet : (v : ℕ) (rs : List Record) → IsFront v rs → last_kind rs < 6 → payloads 6 rs ≡ []
none-yet v [] f h = refl
none-yet v (r ∷ before) f h =
    let le : kind_of r ≤ 6 = omega (arith, h) in
    let none = (no-code r [] h).0 in
    let so-far = none-yet v before f.0 (low-before v (last_kind before) (kind_of r) f.1.in_order le) in
    ap (λ y. payloads 6 before ++ y) none ∙ append-nil (payloads 6 before) ∙ so-far

one-code : (v : ℕ) (rs : List Record) → IsFront v rs → first_text (payloads 6 rs) ≡ code_of rs
one-code v [] f = refl
one-code v (Code bytes ∷ before) f = ap (λ ps. first_text (ps ++ bytes ∷ [])) (none-yet v before f.0 (low-before v (last_kind before) 6 f.1.in_order (omega arith)))
one-code v (SegmentName x ∷ before) f = ap first_text (append-nil (payloads 6 before)) ∙ one-code v before f.0
one-code v (Descriptor x ∷ before) f = ap first_text (append-nil (payloads 6 before)) ∙ one-code v before f.0
one-code v (StorageFamily x ∷ before) f = ap first_text (append-nil (payloads 6 before)) ∙ one-code v before f.0
one-code v (StoredItem x ∷ before) f = ap first_text (append-nil (payloads 6 before)) ∙ one-code v before f.0
one-code v (PresetWord x ∷ before) f = ap first_text (append-nil (payloads 6 before)) ∙ one-code v before f.0
one-code v (Relocation x ∷ before) f = ap first_text (append-nil (payloads 6 before)) ∙ one-code v before f.0
one-code v (Definition x ∷ before) f = ap first_text (append-nil (payloads 6 before)) ∙ one-code v before f.0
one-code v (BodyFacts x ∷ before) f = ap first_text (append-nil (payloads 6 before)) ∙ one-code v before f.0
one-code v (Statement x ∷ before) f = ap first_text (append-nil (payloads 6 before)) ∙ one-code v before f.0
one-code v (End ∷ before) f = ap first_text (append-nil (payloads 6 before)) ∙ one-code v before f.0

-- what a view that bytes opened to tells is what the bytes tell
pub view-tells : (bytes : List ℕ) (view : View) → AnswersOpen bytes (Ok view) → contents_of view ≡ contents_in bytes
view-tells bytes view a =
    let v = a.0 in
    let records = a.1 in
    let o = a.2 in
    let shows = a.3 in
    let has : (kind : ℕ) → payloads_of kind bytes ≡ payloads kind records = in-object bytes v records o in
    let same : view.bytes.now ≡ bytes = shows.bytes in
    let b = begins v records o.front (λ e. absurd (omega (arith, e, o.ended))) in
    let named : b.name ≡ view.name = ap (λ ps. drop 1 (first_text ps)) (sym b.only ∙ shows.name) in
    let name : first_text (values_in name_in (payloads_of 1 bytes)) ≡ view.name = ap (λ ps. first_text (values_in name_in ps)) (has 1 ∙ b.only) ∙ ap first_text (one-back text_bytes IsName name_in reads_name b.name b.is_name) ∙ named in
    let code : first_text (payloads_of 6 bytes) ≡ view.code.now = ap first_text (has 6) ∙ one-code v records o.front ∙ sym shows.code in
    λ i. record {
      name = sym name i;
      descs = values_in descriptor_in (payloads_of 2 (same i));
      families = values_in family_in (payloads_of 3 (same i));
      presets = values_in preset_in (payloads_of 5 (same i));
      code = sym code i;
      relocs = values_in relocation_in (payloads_of 7 (same i));
      definitions = values_in definition_in (payloads_of 8 (same i));
      body = first_body (values_in body_facts_in (payloads_of 9 (same i)));
    }
