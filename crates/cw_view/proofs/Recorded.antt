-- A record that is read is the one whose payload stands there.
use Rattle.std.proofs.Common.{◌≡◌, ℕ, true, cond, eqb, List, [], ◌∷◌, Option, Some, None, refl, sym, ap, subst, ◌∙◌, inl, inr}
use Rattle.cw_word.specs.Name.{IsName}
use Rattle.cw_fields.specs.Fields.{Reader, ◌>>=◌, whole, text_bytes}
use Rattle.cw_view.specs.Payloads.{descriptor_bytes, FitsDescriptor, family_bytes, FitsFamily, item_bytes, FitsItem, preset_bytes, FitsPreset, relocation_bytes, FitsRelocation, definition_bytes, FitsDefinition, body_facts_bytes, FitsBodyFacts, statement_bytes, FitsStatement}
use Rattle.cw_fields.specs.Names.{is_empty, name_in}
use Rattle.cw_view.specs.Reading.{descriptor_in, family_in, item_in, preset_in, relocation_in, definition_in, body_facts_in, statement_in}
use Rattle.cw_view.specs.ObjectFormat.{Record, SegmentName, Descriptor, StorageFamily, StoredItem, PresetWord, Code, Relocation, Definition, BodyFacts, Statement, End, kind_of, payload_of, FitsRecord, Facts, is_allowed, record_in, next_record}
use Rattle.cw_fields.specs.Spelling.{IsBytes, Reads}
use Rattle.cw_fields.proofs.Formats.{some_is, bind_some, whole_takes, whole_again}
use Rattle.cw_fields.proofs.Spelled.{some, no_none, tested, reads_name}
use Rattle.cw_view.proofs.Forms.{reads_family, reads_item, reads_preset, reads_relocation, reads_definition, reads_body_facts, reads_statement}
use Rattle.cw_view.proofs.Descriptors.{either, reads_descriptor}

pub record TakesRecord (kind : ℕ) (payload : List ℕ) (r : Record) : Type 0 where
  pub kind_is : kind_of r ≡ kind
  pub payload_is : payload_of r ≡ payload
  pub fits : FitsRecord r

of_format : {A : Type 0} (s : A → List ℕ) (F : A → Type 0) (read : Reader A) (k : A → Record) (kind number : ℕ) (payload : List ℕ) (r : Record) → Reads s F read
    → kind ≡ number → ((x : A) → (kind_of (k x) ≡ number) × (payload_of (k x) ≡ s x)) → ((x : A) → F x → FitsRecord (k x)) → IsBytes payload
    → (whole read payload >>= λ x. Some (k x)) ≡ Some r → TakesRecord kind payload r
of_format s F read k kind number payload r l same spell fit fits e =
    let b = bind_some (whole read payload) (λ x. Some (k x)) r e in
    let t = whole_takes s F read l payload b.0 fits b.1 in
    let is : k b.0 ≡ r = some_is (k b.0) r b.2 in
    subst (TakesRecord kind payload) is (record { kind_is = (spell b.0).0 ∙ sym same; payload_is = (spell b.0).1 ∙ sym t.0; fits = fit b.0 t.1 })

-- What is of a kind is as its row tells, and what is not is as the later rows tell.
row : (kind number : ℕ) (here others : Option Record) (payload : List ℕ) (r : Record) → (kind ≡ number → here ≡ Some r → TakesRecord kind payload r) → (others ≡ Some r → TakesRecord kind payload r)
    → cond (eqb kind number) here others ≡ Some r → TakesRecord kind payload r
row kind number here others payload r this later e = elim (either kind number here others r e) [ inl h ↦ this h.0 h.1 | inr other ↦ later other ]

-- the row of a kind that has a format
in_row : {A : Type 0} (s : A → List ℕ) (F : A → Type 0) (read : Reader A) (k : A → Record) (kind number : ℕ) (payload : List ℕ) (r : Record) (others : Option Record) → Reads s F read
    → ((x : A) → (kind_of (k x) ≡ number) × (payload_of (k x) ≡ s x)) → ((x : A) → F x → FitsRecord (k x)) → IsBytes payload → (others ≡ Some r → TakesRecord kind payload r)
    → cond (eqb kind number) (whole read payload >>= λ x. Some (k x)) others ≡ Some r → TakesRecord kind payload r
in_row s F read k kind number payload r others l spell fit fits =
    row kind number (whole read payload >>= λ x. some (k x)) others payload r (λ same is. of_format s F read k kind number payload r l same spell fit fits is)

alone : (p : Record) (kind number : ℕ) (payload : List ℕ) (r : Record) → kind ≡ number → kind_of p ≡ number → payload_of p ≡ payload → FitsRecord p → some p ≡ some r → TakesRecord kind payload r
alone p kind number payload r same k spell fit e = subst (TakesRecord kind payload) (some_is p r e) (record { kind_is = k ∙ sym same; payload_is = spell; fits = fit })

nil_is : (payload : List ℕ) → is_empty payload ≡ true → [] ≡ payload
nil_is [] e = refl
nil_is (b ∷ bs) e = absurd cc

pub record_takes : (kind : ℕ) (payload : List ℕ) (r : Record) → IsBytes payload → record_in kind payload ≡ Some r → TakesRecord kind payload r
record_takes kind p r fits =
    in_row text_bytes IsName name_in SegmentName kind 1 p r _ reads_name (λ _. (refl, refl)) (λ _ f. f) fits
    (in_row descriptor_bytes FitsDescriptor descriptor_in Descriptor kind 2 p r _ reads_descriptor (λ _. (refl, refl)) (λ _ f. f) fits
    (in_row family_bytes FitsFamily family_in StorageFamily kind 3 p r _ reads_family (λ _. (refl, refl)) (λ _ f. f) fits
    (in_row item_bytes FitsItem item_in StoredItem kind 4 p r _ reads_item (λ _. (refl, refl)) (λ _ f. f) fits
    (in_row preset_bytes FitsPreset preset_in PresetWord kind 5 p r _ reads_preset (λ _. (refl, refl)) (λ _ f. f) fits
    (row kind 6 (some (Code p)) _ p r (λ same is. alone (Code p) kind 6 p r same refl refl tt is)
    (in_row relocation_bytes FitsRelocation relocation_in Relocation kind 7 p r _ reads_relocation (λ _. (refl, refl)) (λ _ f. f) fits
    (in_row definition_bytes FitsDefinition definition_in Definition kind 8 p r _ reads_definition (λ _. (refl, refl)) (λ _ f. f) fits
    (in_row body_facts_bytes FitsBodyFacts body_facts_in BodyFacts kind 9 p r _ reads_body_facts (λ _. (refl, refl)) (λ _ f. f) fits
    (in_row statement_bytes FitsStatement statement_in Statement kind 10 p r _ reads_statement (λ _. (refl, refl)) (λ _ f. f) fits
    (row kind 255 (cond (is_empty p) (some End) None) None p r (λ same is. let t = tested (is_empty p) End r is in alone End kind 255 p r same refl (nil_is p t.0) tt (ap some t.1))
    (λ other. absurd (no_none r other))))))))))))

again_by : {A : Type 0} (s : A → List ℕ) (F : A → Type 0) (read : Reader A) (k : A → Record) (x : A) → Reads s F read → F x → (whole read (s x) >>= λ y. Some (k y)) ≡ Some (k x)
again_by s F read k x l fits = ap (λ o. o >>= λ y. some (k y)) (whole_again s F read l x fits)

pub record_again : (r : Record) → FitsRecord r → record_in (kind_of r) (payload_of r) ≡ Some r
record_again (SegmentName x) f = again_by text_bytes IsName name_in SegmentName x reads_name f
record_again (Descriptor x) f = again_by descriptor_bytes FitsDescriptor descriptor_in Descriptor x reads_descriptor f
record_again (StorageFamily x) f = again_by family_bytes FitsFamily family_in StorageFamily x reads_family f
record_again (StoredItem x) f = again_by item_bytes FitsItem item_in StoredItem x reads_item f
record_again (PresetWord x) f = again_by preset_bytes FitsPreset preset_in PresetWord x reads_preset f
record_again (Code x) f = refl
record_again (Relocation x) f = again_by relocation_bytes FitsRelocation relocation_in Relocation x reads_relocation f
record_again (Definition x) f = again_by definition_bytes FitsDefinition definition_in Definition x reads_definition f
record_again (BodyFacts x) f = again_by body_facts_bytes FitsBodyFacts body_facts_in BodyFacts x reads_body_facts f
record_again (Statement x) f = again_by statement_bytes FitsStatement statement_in Statement x reads_statement f
record_again End f = refl

pub next_takes : (facts : Facts) (kind : ℕ) (payload : List ℕ) (r : Record) → IsBytes payload → next_record facts kind payload ≡ Some r → TakesRecord kind payload r × (is_allowed facts r ≡ true) × (record_in kind payload ≡ Some r)
next_takes facts kind payload r fits e =
    let b = bind_some (record_in kind payload) (λ r. cond (is_allowed facts r) (some r) None) r e in
    let t = tested (is_allowed facts b.0) b.0 r b.2 in
    let read : record_in kind payload ≡ Some r = b.1 ∙ ap some t.1 in
    (record_takes kind payload r fits read, subst (λ (s : Record). is_allowed facts s ≡ true) t.1 t.0, read)

pub next_again : (facts : Facts) (kind : ℕ) (payload : List ℕ) (r : Record) → kind_of r ≡ kind → payload_of r ≡ payload → FitsRecord r → is_allowed facts r ≡ true → next_record facts kind payload ≡ Some r
next_again facts kind payload r k p fits allowed =
    ap (λ n. next_record facts n payload) (sym k) ∙ ap (next_record facts (kind_of r)) (sym p)
    ∙ ap (λ o. o >>= λ s. cond (is_allowed facts s) (some s) None) (record_again r fits) ∙ ap (λ b. cond b (some r) None) allowed

pub none_next : (facts : Facts) (kind : ℕ) (payload : List ℕ) → next_record facts kind payload ≡ None → (r : Record) → kind_of r ≡ kind → payload_of r ≡ payload → FitsRecord r → is_allowed facts r ≡ true → ⊥
none_next facts kind payload e r k p fits allowed = no_none r (sym e ∙ next_again facts kind payload r k p fits allowed)
