-- Each payload's format: what is read is spelled so, and what is spelled so is read.
use Rattle.std.proofs.Common.{◌≡◌, ℕ, ◌<◌, Bool, true, cond, eqb, leb, ◌||◌, List, [], ◌∷◌, ◌++◌, Some, None, refl, sym, ap, subst, ◌∙◌, arith, inl, inr, ◌⊎◌}
use Rattle.std.specs.Int.{from_bool}
use Rattle.std.proofs.lemmas.Bool.{eqb-true, leb-true, le-leb}
use Rattle.cw_unit.specs.declared.unit.ItemKind.{ItemKind}
use Rattle.cw_unit.specs.declared.unit.ItemKind.TheVariants.{Single, Array, Table, Text, Loop}
use Rattle.cw_unit.specs.declared.layout.Family.{Family}
use Rattle.cw_unit.specs.declared.layout.Sort.{Sort}
use Rattle.cw_unit.specs.declared.layout.Sort.TheVariants as sorts
use Rattle.cw_fields.specs.Fields.{◌>>=◌, Reader, meaning, both, byte_in, text_bytes, IsByte, IsWord, IsLong, word_bytes, long_bytes, word_in, long_in}
use Rattle.cw_fields.specs.Names.{IsNameOrEmpty, is_empty, name_or_empty_in}
use Rattle.cw_view.specs.Payloads.{sort_number, sort_operand, family_bytes, FitsFamily, ItemEntry, item_kind_number, item_bytes, FitsItem, preset_bytes, FitsPreset, relocation_bytes, FitsRelocation, definition_bytes, FitsDefinition, body_facts_bytes, FitsBodyFacts, statement_bytes, FitsStatement}
use Rattle.cw_view.specs.Reading.{sort_of, family_of, family_in, item_kind_of, item_kind_in, ItemPlace, item_place_in, item_of, item_in, preset_in, relocation_in, definition_in, body_facts_in, statement_of, statement_in}
use Rattle.cw_fields.specs.Spelling.{Reads}
use Rattle.cw_fields.proofs.Formats.{some_is, bind_some, reads_both, reads_meaning, reads_byte}
use Rattle.cw_fields.proofs.Spelled.{some, tested, test_cases, no_none, chosen, reads_word, reads_long, reads_name_or_empty, reads_flag}

kind_onto : (x : ℕ) (y : ItemKind) → item_kind_of x ≡ Some y → x ≡ item_kind_number y
kind_onto x y e = elim (chosen x 0 Single (cond (eqb x 1) (some Array) (cond (eqb x 2) (some Table) (cond (eqb x 3) (some Text) (cond (eqb x 4) (some Loop) None)))) y e) [
  | inl h ↦ h.0 ∙ ap item_kind_number h.1
  | inr e1 ↦ elim (chosen x 1 Array (cond (eqb x 2) (some Table) (cond (eqb x 3) (some Text) (cond (eqb x 4) (some Loop) None))) y e1) [
    | inl h ↦ h.0 ∙ ap item_kind_number h.1
    | inr e2 ↦ elim (chosen x 2 Table (cond (eqb x 3) (some Text) (cond (eqb x 4) (some Loop) None)) y e2) [
      | inl h ↦ h.0 ∙ ap item_kind_number h.1
      | inr e3 ↦ elim (chosen x 3 Text (cond (eqb x 4) (some Loop) None) y e3) [
        | inl h ↦ h.0 ∙ ap item_kind_number h.1
        | inr e4 ↦ elim (chosen x 4 Loop None y e4) [ inl h ↦ h.0 ∙ ap item_kind_number h.1 | inr other ↦ absurd (no_none y other) ]
      ]
    ]
  ]
]

kind_back : (y : ItemKind) → (item_kind_number y < 256) × (item_kind_of (item_kind_number y) ≡ Some y)
kind_back Single = (omega arith, refl)
kind_back _ = (omega arith, refl)

pub reads_kind : Reads (λ (k : ItemKind). item_kind_number k ∷ []) (λ (k : ItemKind). Unit {0}) item_kind_in
unfolding item_kind_in
reads_kind = reads_meaning (λ (b : ℕ). b ∷ []) IsByte byte_in (λ (k : ItemKind). Unit {0}) item_kind_of item_kind_number reads_byte (λ x y h e. (kind_onto x y e, tt)) (λ y h. kind_back y)

-- ---- numbers side by side

sort_fits : (n o : ℕ) (s : Sort) → sort_of n o ≡ Some s → (n ≡ sort_number s) × (o ≡ sort_operand s)
sort_fits n o s e = elim (chosen n 0 (sorts.Common o) (cond (eqb n 1) (cond (eqb o 0) (some sorts.Own) None) (cond (eqb n 2) (some (sorts.Absolute o)) (cond (eqb n 3) (some (sorts.Frame o)) None))) s e) [
  | inl h ↦ (h.0 ∙ ap sort_number h.1, ap sort_operand h.1)
  | inr e1 ↦ elim (test_cases (eqb n 1)) [
    | inl one ↦
        let t = tested (eqb o 0) sorts.Own s (ap (λ b. cond b (cond (eqb o 0) (some sorts.Own) None) (cond (eqb n 2) (some (sorts.Absolute o)) (cond (eqb n 3) (some (sorts.Frame o)) None))) (sym one) ∙ e1) in
        (eqb-true n 1 one ∙ ap sort_number t.1, eqb-true o 0 t.0 ∙ ap sort_operand t.1)
    | inr other ↦
        let e2 = ap (λ b. cond b (cond (eqb o 0) (some sorts.Own) None) (cond (eqb n 2) (some (sorts.Absolute o)) (cond (eqb n 3) (some (sorts.Frame o)) None))) (sym other) ∙ e1 in
        elim (chosen n 2 (sorts.Absolute o) (cond (eqb n 3) (some (sorts.Frame o)) None) s e2) [
          | inl h ↦ (h.0 ∙ ap sort_number h.1, ap sort_operand h.1)
          | inr e3 ↦ elim (chosen n 3 (sorts.Frame o) None s e3) [ inl h ↦ (h.0 ∙ ap sort_number h.1, ap sort_operand h.1) | inr none ↦ absurd (no_none s none) ]
        ]
  ]
]

sort_back : (s : Sort) → (sort_number s < 256) × (sort_of (sort_number s) (sort_operand s) ≡ Some s)
sort_back sorts.Own = (omega arith, refl)
sort_back _ = (omega arith, refl)

family_onto : (x : ℕ × (ℕ × ℕ)) (y : Family) → IsByte x.0 × (IsWord x.1.0 × IsLong x.1.1) → family_of x ≡ Some y → (x ≡ (sort_number y.sort, (sort_operand y.sort, y.extent))) × FitsFamily y
family_onto (n, (o, extent)) y h e =
    let b = bind_some (sort_of n o) (λ s. Some (record { sort = s; extent = extent })) y e in
    let t = sort_fits n o b.0 b.1 in
    let made : Family = record { sort = b.0; extent = extent } in
    let same : made ≡ y = some_is made y b.2 in
    let fields : (n, (o, extent)) ≡ (sort_number b.0, (sort_operand b.0, extent)) = cc in
    (fields ∙ ap (λ (f : Family). (sort_number f.sort, (sort_operand f.sort, f.extent))) same, subst FitsFamily same (record { operand = subst IsWord t.1 h.1.0; extent = h.1.1 }))

family_back : (y : Family) → FitsFamily y → (IsByte (sort_number y.sort) × (IsWord (sort_operand y.sort) × IsLong y.extent)) × (family_of (sort_number y.sort, (sort_operand y.sort, y.extent)) ≡ Some y)
family_back y h =
    let b = sort_back y.sort in
    ((b.0, (h.operand, h.extent)), ap (λ o. o >>= λ s. Some (record { sort = s; extent = y.extent })) b.1)

pub reads_family : Reads family_bytes FitsFamily family_in
reads_family =
    reads_meaning (λ (p : ℕ × (ℕ × ℕ)). (p.0 ∷ []) ++ (word_bytes p.1.0 ++ long_bytes p.1.1)) (λ (p : ℕ × (ℕ × ℕ)). IsByte p.0 × (IsWord p.1.0 × IsLong p.1.1)) (both byte_in (both word_in long_in))
    FitsFamily family_of (λ f. (sort_number f.sort, (sort_operand f.sort, f.extent)))
    (reads_both _ _ _ _ _ _ reads_byte (reads_both _ _ _ _ _ _ reads_word reads_long))
    family_onto family_back

-- numbers that are the fields of a record
reads_fields : {A B : Type 0} {s : A → List ℕ} {F : A → Type 0} {read : Reader A} → Reads s F read → (FitsRecord : B → Type 0) (made : A → B) (fields : B → A)
    → ((x : A) → x ≡ fields (made x)) → ((y : B) → made (fields y) ≡ y) → ((x : A) → F x → FitsRecord (made x)) → ((y : B) → FitsRecord y → F (fields y))
    → Reads (λ (y : B). s (fields y)) FitsRecord (meaning (λ x. Some (made x)) read)
reads_fields {A} {B} {s} {F} {read} reads FitsRecord made fields same again fits fit =
    reads_meaning s F read FitsRecord (λ x. some (made x)) fields reads
    (λ x y h e. let is = some_is (made x) y e in (same x ∙ ap fields is, subst FitsRecord is (fits x h)))
    (λ y h. (fit y h, ap some (again y)))

pub reads_preset : Reads preset_bytes FitsPreset preset_in
reads_preset = reads_fields (reads_both _ _ _ _ _ _ reads_word (reads_both _ _ _ _ _ _ reads_word reads_word)) FitsPreset
    (λ p. record { family = p.0; offset = p.1.0; word = p.1.1 }) (λ p. (p.family, (p.offset, p.word))) (λ _. refl) (λ _. refl)
    (λ _ h. record { family = h.0; offset = h.1.0; word = h.1.1 }) (λ _ h. (h.family, (h.offset, h.word)))

pub reads_relocation : Reads relocation_bytes FitsRelocation relocation_in
reads_relocation = reads_fields (reads_both _ _ _ _ _ _ reads_long (reads_both _ _ _ _ _ _ reads_byte (reads_both _ _ _ _ _ _ reads_word reads_word))) FitsRelocation
    (λ p. record { place = p.0; sort = p.1.0; index = p.1.1.0; add = p.1.1.1 }) (λ r. (r.place, (r.sort, (r.index, r.add)))) (λ _. refl) (λ _. refl)
    (λ _ h. record { place = h.0; sort = h.1.0; index = h.1.1.0; add = h.1.1.1 }) (λ _ h. (h.place, (h.sort, (h.index, h.add))))

pub reads_definition : Reads definition_bytes FitsDefinition definition_in
reads_definition = reads_both _ _ _ _ _ _ reads_word reads_long

pub reads_body_facts : Reads body_facts_bytes FitsBodyFacts body_facts_in
reads_body_facts = reads_fields (reads_both _ _ _ _ _ _ reads_long (reads_both _ _ _ _ _ _ reads_word reads_long)) FitsBodyFacts
    (λ p. record { entry = p.0; need = p.1.0; tokens = p.1.1 }) (λ b. (b.entry, (b.need, b.tokens))) (λ _. refl) (λ _. refl)
    (λ _ h. record { entry = h.0; need = h.1.0; tokens = h.1.1 }) (λ _ h. (h.entry, (h.need, h.tokens)))

pub reads_statement : Reads statement_bytes FitsStatement statement_in
reads_statement =
    reads_meaning (λ (p : ℕ × ℕ). long_bytes p.0 ++ word_bytes p.1) (λ (p : ℕ × ℕ). IsLong p.0 × IsWord p.1) (both long_in word_in)
    FitsStatement statement_of (λ s. s)
    (reads_both _ _ _ _ _ _ reads_long reads_word)
    (λ x y h e. let t = tested (leb 1 x.1) x y e in (t.1, subst FitsStatement t.1 (h.0, h.1, leb-true 1 x.1 t.0)))
    (λ y h. ((h.0, h.1), ap (λ b. cond b (some y) None) (le-leb 1 y.1 h.2)))

-- ---- items

reads_item_place : Reads (λ (p : ItemPlace). (item_kind_number p.0 ∷ []) ++ ((from_bool p.1.0 ∷ []) ++ (word_bytes p.1.1.0 ++ (word_bytes p.1.1.1.0 ++ long_bytes p.1.1.1.1)))) (λ (p : ItemPlace). Unit {0} × (Unit {0} × (IsWord p.1.1.0 × (IsWord p.1.1.1.0 × IsLong p.1.1.1.1)))) item_place_in
unfolding item_place_in
reads_item_place = reads_both _ _ _ _ _ _ reads_kind (reads_both _ _ _ _ _ _ reads_flag (reads_both _ _ _ _ _ _ reads_word (reads_both _ _ _ _ _ _ reads_word reads_long)))

named_line : (name : List ℕ) (line : ℕ) → (is_empty name || eqb line 0) ≡ true → (name ≡ []) ⊎ (line ≡ 0)
named_line [] line e = inl refl
named_line (b ∷ bs) line e = inr (eqb-true line 0 e)

line_named : (name : List ℕ) (line : ℕ) → (name ≡ []) ⊎ (line ≡ 0) → (is_empty name || eqb line 0) ≡ true
line_named [] line h = refl
line_named (b ∷ bs) line (inl e) = absurd cc
line_named (b ∷ bs) line (inr e) = ap (λ n. eqb n 0) e

abbrev fields_of : ItemEntry → List ℕ × (List ℕ × (ℕ × ItemPlace))
fields_of i = (i.owner, (i.name, (i.line, (i.kind, (i.common, (i.family, (i.offset, i.words)))))))

pub reads_item : Reads item_bytes FitsItem item_in
reads_item =
    reads_meaning
    (λ (p : List ℕ × (List ℕ × (ℕ × ItemPlace))). text_bytes p.0 ++ (text_bytes p.1.0 ++ (word_bytes p.1.1.0 ++ ((item_kind_number p.1.1.1.0 ∷ []) ++ ((from_bool p.1.1.1.1.0 ∷ []) ++ (word_bytes p.1.1.1.1.1.0 ++ (word_bytes p.1.1.1.1.1.1.0 ++ long_bytes p.1.1.1.1.1.1.1)))))))
    (λ (p : List ℕ × (List ℕ × (ℕ × ItemPlace))). IsNameOrEmpty p.0 × (IsNameOrEmpty p.1.0 × (IsWord p.1.1.0 × (Unit {0} × (Unit {0} × (IsWord p.1.1.1.1.1.0 × (IsWord p.1.1.1.1.1.1.0 × IsLong p.1.1.1.1.1.1.1)))))))
    (both name_or_empty_in (both name_or_empty_in (both word_in item_place_in)))
    FitsItem item_of fields_of
    (reads_both _ _ _ _ _ _ reads_name_or_empty (reads_both _ _ _ _ _ _ reads_name_or_empty (reads_both _ _ _ _ _ _ reads_word reads_item_place)))
    (λ x y h e.
    let entry : ItemEntry = record { owner = x.0; name = x.1.0; line = x.1.1.0; kind = x.1.1.1.0; common = x.1.1.1.1.0; family = x.1.1.1.1.1.0; offset = x.1.1.1.1.1.1.0; words = x.1.1.1.1.1.1.1 } in
    let t = tested (is_empty x.1.0 || eqb x.1.1.0 0) entry y e in
    (ap fields_of t.1, subst FitsItem t.1 (record { owner = h.0; name = h.1.0; line = h.1.1.0; named = named_line x.1.0 x.1.1.0 t.0; family = h.1.1.1.1.1.0; offset = h.1.1.1.1.1.1.0; words = h.1.1.1.1.1.1.1 })))
    (λ y h. ((h.owner, (h.name, (h.line, (tt, (tt, (h.family, (h.offset, h.words))))))), ap (λ b. cond b (some y) None) (line_named y.name y.line h.named)))
