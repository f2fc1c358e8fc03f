-- What an object tells is the unit of which it was written.
use Rattle.std.proofs.Common.{◌≡◌, ℕ, Bool, true, false, List, [], ◌∷◌, ◌++◌, map, refl, sym, ap, ap₂, ◌∙◌, append_assoc}
use Rattle.std.specs.Prelude.{◌==◌, if◌then◌else◌}
use Rattle.std.proofs.lemmas.List.{append-nil}
use Rattle.cw_unit.specs.declared.unit.Unit.{Unit as SourceUnit}
use Rattle.cw_unit.specs.declared.layout.Layout.{Layout}
use Rattle.cw_tmpl.specs.declared.assembling.Code.{Code as MadeCode}
use Rattle.cw_view.specs.Payloads.{descriptor_bytes, family_bytes, item_bytes, preset_bytes, relocation_bytes, definition_bytes, statement_bytes, body_facts_bytes}
use Rattle.cw_fields.specs.Fields.{text_bytes}
use Rattle.cw_view.specs.ObjectFormat.{Record, SegmentName, Descriptor, StorageFamily, StoredItem, PresetWord, Code, Relocation, Definition, BodyFacts, Statement, End, payload_if, payloads}
use Rattle.cw_obj.specs.ReferenceObject.{entries_from, definitions_of, body_of, front_records, back_records, object_records}
use Rattle.cw_obj.specs.Writable.{onto, TellsUnits}

-- the payloads of a kind, where the first record stands first
abbrev told : (kind : ℕ) → List Record → List (List ℕ)
told kind [] = []
told kind (r ∷ rs) = payload_if kind r ++ told kind rs

payloads_onto : (kind : ℕ) (rs before : List Record) → payloads kind (onto rs before) ≡ payloads kind before ++ told kind rs
payloads_onto kind [] before = sym (append-nil (payloads kind before))
payloads_onto kind (r ∷ rs) before = payloads_onto kind rs (r ∷ before) ∙ append_assoc (payloads kind before) (payload_if kind r) (told kind rs)

told_append : (kind : ℕ) (rs ts : List Record) → told kind (rs ++ ts) ≡ told kind rs ++ told kind ts
told_append kind [] ts = refl
told_append kind (r ∷ rs) ts = ap (λ y. payload_if kind r ++ y) (told_append kind rs ts) ∙ sym (append_assoc (payload_if kind r) (told kind rs) (told kind ts))

-- payloads of one kind, or none of another
abbrev those : Bool → List (List ℕ) → List (List ℕ)
those is xs = if is then xs else []

those_none : (is : Bool) → [] ≡ those is []
those_none true = refl
those_none false = refl

those_append : (is : Bool) (xs ys : List (List ℕ)) → those is xs ++ those is ys ≡ those is (xs ++ ys)
those_append true xs ys = refl
those_append false xs ys = refl

told_those : {A : Type 0} (is : Bool) (kind : ℕ) (k : A → Record) (spell : A → List ℕ) → ((x : A) → payload_if kind (k x) ≡ those is (spell x ∷ [])) → (xs : List A) → told kind (map k xs) ≡ those is (map spell xs)
told_those is kind k spell h [] = those_none is
told_those is kind k spell h (x ∷ xs) = ap₂ (λ (ys zs : List (List ℕ)). ys ++ zs) (h x) (told_those is kind k spell h xs) ∙ those_append is (spell x ∷ []) (map spell xs)

-- by the lists of the unit
abbrev joined : (kind : ℕ) → SourceUnit → MadeCode → (need : ℕ) → (descs families items presets relocations definitions statements : List (List ℕ)) → List (List ℕ)
joined kind u c need d f i p r e s =
    ((payload_if kind (SegmentName u.name) ++ d) ++ (f ++ (i ++ p)))
    ++ ((payload_if kind (Code c.bytes) ++ r) ++ (e ++ (payload_if kind (BodyFacts (body_of u c need)) ++ (s ++ (payload_if kind End ++ [])))))

tell : (kind : ℕ) (u : SourceUnit) (l : Layout) (c : MadeCode) (need : ℕ) (places : List (ℕ × ℕ))
    → payloads kind (onto (object_records u l c need places) []) ≡ joined kind u c need (told kind (map Descriptor u.descs)) (told kind (map StorageFamily l.families)) (told kind (map StoredItem (entries_from 0 u l u.items))) (told kind (map PresetWord l.words)) (told kind (map Relocation c.relocs)) (told kind (map Definition (definitions_of c u.defined))) (told kind (map Statement places))
tell kind u l c need places =
    let items : List Record = map StoredItem (entries_from 0 u l u.items) in
    let defs : List Record = map Definition (definitions_of c u.defined) in
    let facts : Record = BodyFacts (body_of u c need) in
    let tail : List Record = map Statement places ++ End ∷ [] in
    let front : told kind (front_records u l) ≡ told kind (SegmentName u.name ∷ map Descriptor u.descs) ++ (told kind (map StorageFamily l.families) ++ (told kind items ++ told kind (map PresetWord l.words))) =
    told_append kind (SegmentName u.name ∷ map Descriptor u.descs) (map StorageFamily l.families ++ (items ++ map PresetWord l.words))
    ∙ ap (λ y. told kind (SegmentName u.name ∷ map Descriptor u.descs) ++ y) (told_append kind (map StorageFamily l.families) (items ++ map PresetWord l.words) ∙ ap (λ y. told kind (map StorageFamily l.families) ++ y) (told_append kind items (map PresetWord l.words))) in
    let back : told kind (back_records u c need places) ≡ told kind (Code c.bytes ∷ map Relocation c.relocs) ++ (told kind defs ++ (payload_if kind facts ++ (told kind (map Statement places) ++ told kind (End ∷ [])))) =
    told_append kind (Code c.bytes ∷ map Relocation c.relocs) (defs ++ facts ∷ tail)
    ∙ ap (λ y. told kind (Code c.bytes ∷ map Relocation c.relocs) ++ y) (told_append kind defs (facts ∷ tail) ∙ ap (λ y. told kind defs ++ (payload_if kind facts ++ y)) (told_append kind (map Statement places) (End ∷ []))) in
    payloads_onto kind (object_records u l c need places) [] ∙ told_append kind (front_records u l) (back_records u c need places) ∙ (λ i. front i ++ back i)

-- of each kind the payloads of its list
told_kind : (kind : ℕ) (u : SourceUnit) (l : Layout) (c : MadeCode) (need : ℕ) (places : List (ℕ × ℕ))
    → payloads kind (onto (object_records u l c need places) []) ≡ joined kind u c need (those (2 == kind) (map descriptor_bytes u.descs)) (those (3 == kind) (map family_bytes l.families)) (those (4 == kind) (map item_bytes (entries_from 0 u l u.items)))
    (those (5 == kind) (map preset_bytes l.words)) (those (7 == kind) (map relocation_bytes c.relocs)) (those (8 == kind) (map definition_bytes (definitions_of c u.defined))) (those (10 == kind) (map statement_bytes places))
told_kind kind u l c need places =
    tell kind u l c need places
    ∙ (λ t. joined kind u c need
    (told_those (2 == kind) kind Descriptor descriptor_bytes (λ x. refl) u.descs t)
    (told_those (3 == kind) kind StorageFamily family_bytes (λ x. refl) l.families t)
    (told_those (4 == kind) kind StoredItem item_bytes (λ x. refl) (entries_from 0 u l u.items) t)
    (told_those (5 == kind) kind PresetWord preset_bytes (λ x. refl) l.words t)
    (told_those (7 == kind) kind Relocation relocation_bytes (λ x. refl) c.relocs t)
    (told_those (8 == kind) kind Definition definition_bytes (λ x. refl) (definitions_of c u.defined) t)
    (told_those (10 == kind) kind Statement statement_bytes (λ x. refl) places t))

pub telling : TellsUnits
telling u l c need places = record {
  name = told_kind 1 u l c need places;
  descriptors = told_kind 2 u l c need places ∙ append-nil (map descriptor_bytes u.descs ++ []) ∙ append-nil (map descriptor_bytes u.descs);
  families = told_kind 3 u l c need places ∙ append-nil (map family_bytes l.families ++ []) ∙ append-nil (map family_bytes l.families);
  items = told_kind 4 u l c need places ∙ append-nil (map item_bytes (entries_from 0 u l u.items) ++ []) ∙ append-nil (map item_bytes (entries_from 0 u l u.items));
  presets = told_kind 5 u l c need places ∙ append-nil (map preset_bytes l.words);
  code = told_kind 6 u l c need places;
  relocations = told_kind 7 u l c need places ∙ append-nil (map relocation_bytes c.relocs);
  definitions = told_kind 8 u l c need places ∙ append-nil (map definition_bytes (definitions_of c u.defined));
  body = told_kind 9 u l c need places;
  statements = told_kind 10 u l c need places ∙ append-nil (map statement_bytes places);
}
