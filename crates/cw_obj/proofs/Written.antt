-- The object of a unit is in the format.
use Rattle.std.proofs.Common.{◌≡◌, ℕ, ◌+◌, ◌≤◌, Bool, true, false, not, ◌||◌, ◌&&◌, cond, eqb, leb, ltb, List, [], ◌∷◌, ◌++◌, length, map, refl, sym, ap, subst, ◌∙◌, append_assoc, arith, inl, inr}
use Rattle.std.specs.Prelude.{slice_get}
use Rattle.std.proofs.lemmas.Bool.{lt-ltb, le-ltb, le-leb, eqb-true, ne_eqb}
use Rattle.std.proofs.lemmas.List.{append-nil, length-append}
use Rattle.cw_unit.specs.declared.descriptor.Desc.{Desc}
use Rattle.cw_unit.specs.declared.layout.Family.{Family}
use Rattle.cw_fields.specs.Fields.{text_bytes, IsLong}
use Rattle.cw_fields.specs.Names.{IsNameOrEmpty}
use Rattle.cw_view.specs.Payloads.{ItemEntry}
use Rattle.cw_view.specs.ObjectFormat.{Record, SegmentName, Descriptor, StorageFamily, StoredItem, PresetWord, Code, Relocation, Definition, BodyFacts, Statement, End, record_bytes, front_bytes, last_kind, last_number, descriptor_count, families_of, code_of, can_follow, rises, has_base, is_placed, has_words, has_preset, is_blank, has_index, IsNext, IsFront}
use Rattle.cw_obj.specs.ReferenceObject.{records_bytes, entries_from, definitions_of, body_of, front_records, back_records, object_records}
use Rattle.cw_obj.specs.Writable.{AllFrom, by_one, the_same, IsListed, IsKept, IsEntry, IsSet, tables, IsFilled, behind_word, IsDefined, behind_number, IsBegun, onto, WritesObjects}

-- ---- records after others

-- each of these may come next, in order
abbrev Follows : (before : List Record) → List Record → Type 0
Follows before [] = Unit {0}
Follows before (r ∷ rs) = IsNext 2 before r × Follows (r ∷ before) rs

front_onto : (rs before : List Record) → IsFront 2 before → Follows before rs → IsFront 2 (onto rs before)
front_onto [] before f g = f
front_onto (r ∷ rs) before f g = front_onto rs (r ∷ before) (f, g.0) g.1

bytes_onto : (rs before : List Record) → front_bytes 2 (onto rs before) ≡ front_bytes 2 before ++ records_bytes rs
bytes_onto [] before = sym (append-nil (front_bytes 2 before))
bytes_onto (r ∷ rs) before = bytes_onto rs (r ∷ before) ∙ append_assoc (front_bytes 2 before) (record_bytes r) (records_bytes rs)

onto_append : (rs ts before : List Record) → onto (rs ++ ts) before ≡ onto ts (onto rs before)
onto_append [] ts before = refl
onto_append (r ∷ rs) ts before = onto_append rs ts (r ∷ before)

follows_append : (rs ts before : List Record) → Follows before rs → Follows (onto rs before) ts → Follows before (rs ++ ts)
follows_append [] ts before f g = g
follows_append (r ∷ rs) ts before f g = (f.0, follows_append rs ts (r ∷ before) f.1 g)

-- ---- a kind of records

-- what is known of the records so far
record Known (low high : ℕ) (descriptors : ℕ) (families : List Family) (code : List ℕ) (before : List Record) : Type 0 where
  from : low ≤ last_kind before
  to : last_kind before ≤ high
  descriptors_are : descriptor_count before ≡ descriptors
  families_are : families_of before ≡ families
  code_is : code_of before ≡ code

abbrev Section : {A : Type 0} → (A → Record) → (ℕ → A → Type 0) → (ℕ → A → ℕ) → (ℕ → List Record → Type 0) → Type 0
Section {A} k P step I = (n : ℕ) (before : List Record) (x : A) → I n before → P n x → IsNext 2 before (k x) × I (step n x) (k x ∷ before)

abbrev Walked : {A : Type 0} → (A → Record) → (ℕ → List Record → Type 0) → List A → List Record → Type 0
Walked k I xs before = Follows before (map k xs) × ((n : ℕ) × I n (onto (map k xs) before))

walk : {A : Type 0} (k : A → Record) (P : ℕ → A → Type 0) (step : ℕ → A → ℕ) (I : ℕ → List Record → Type 0) → Section k P step I → (xs : List A) (n : ℕ) (before : List Record) → I n before → AllFrom P step n xs → Walked k I xs before
walk k P step I next [] n before i a = (tt, (n, i))
walk k P step I next (x ∷ xs) n before i a =
    let one = next n before x i a.0 in
    let more = walk k P step I next xs (step n x) (k x ∷ before) one.1 a.1 in
    ((one.0, more.0), more.1)

-- ---- rules

both : (a b : Bool) → a ≡ true → b ≡ true → (a && b) ≡ true
both true b h k = k
both false b h k = absurd cc

or_true : (a b : Bool) → (a ≡ true → b ≡ true) → (not a || b) ≡ true
or_true true b h = h refl
or_true false b h = refl

rises_if : (last n kind by low number : ℕ) → (last ≡ kind → n + by ≤ low) → low ≤ number → rises last n kind by number ≡ true
rises_if last n kind by low number h le = or_true (eqb last kind) (leb (n + by) number) (λ e. le-leb (n + by) number (omega (arith, h (eqb-true last kind e), le)))

-- the kinds in their order
kind_low : (last kind : ℕ) → 1 ≤ last → last ≤ 5 → last ≤ kind → 2 ≤ kind → kind ≤ 6 → can_follow 2 last kind ≡ true
kind_low last kind a b c d e =
    ap (λ t. cond t (eqb kind 1) (cond (ltb last 6) ((leb last kind && leb 2 kind) && leb kind 6) (cond (ltb last 9) ((leb last kind && leb 7 kind) && leb kind 9) (cond (eqb last 255) false (eqb kind 255 || (true && eqb kind 10)))))) (ne_eqb last 0 (λ h. omega (arith, h, a)))
    ∙ ap (λ t. cond t ((leb last kind && leb 2 kind) && leb kind 6) (cond (ltb last 9) ((leb last kind && leb 7 kind) && leb kind 9) (cond (eqb last 255) false (eqb kind 255 || (true && eqb kind 10))))) (lt-ltb last 6 (omega arith))
    ∙ both (leb last kind && leb 2 kind) (leb kind 6) (both (leb last kind) (leb 2 kind) (le-leb last kind c) (le-leb 2 kind d)) (le-leb kind 6 e)

kind_high : (last kind : ℕ) → 6 ≤ last → last ≤ 8 → last ≤ kind → 7 ≤ kind → kind ≤ 9 → can_follow 2 last kind ≡ true
kind_high last kind a b c d e =
    ap (λ t. cond t (eqb kind 1) (cond (ltb last 6) ((leb last kind && leb 2 kind) && leb kind 6) (cond (ltb last 9) ((leb last kind && leb 7 kind) && leb kind 9) (cond (eqb last 255) false (eqb kind 255 || (true && eqb kind 10)))))) (ne_eqb last 0 (λ h. omega (arith, h, a)))
    ∙ ap (λ t. cond t ((leb last kind && leb 2 kind) && leb kind 6) (cond (ltb last 9) ((leb last kind && leb 7 kind) && leb kind 9) (cond (eqb last 255) false (eqb kind 255 || (true && eqb kind 10))))) (le-ltb last 6 a)
    ∙ ap (λ t. cond t ((leb last kind && leb 7 kind) && leb kind 9) (cond (eqb last 255) false (eqb kind 255 || (true && eqb kind 10)))) (lt-ltb last 9 (omega arith))
    ∙ both (leb last kind && leb 7 kind) (leb kind 9) (both (leb last kind) (leb 7 kind) (le-leb last kind c) (le-leb 7 kind d)) (le-leb kind 9 e)

kind_end : (last kind : ℕ) → 9 ≤ last → last ≤ 10 → (eqb kind 255 || eqb kind 10) ≡ true → can_follow 2 last kind ≡ true
kind_end last kind a b e =
    ap (λ t. cond t (eqb kind 1) (cond (ltb last 6) ((leb last kind && leb 2 kind) && leb kind 6) (cond (ltb last 9) ((leb last kind && leb 7 kind) && leb kind 9) (cond (eqb last 255) false (eqb kind 255 || (true && eqb kind 10)))))) (ne_eqb last 0 (λ h. omega (arith, h, a)))
    ∙ ap (λ t. cond t ((leb last kind && leb 2 kind) && leb kind 6) (cond (ltb last 9) ((leb last kind && leb 7 kind) && leb kind 9) (cond (eqb last 255) false (eqb kind 255 || (true && eqb kind 10))))) (le-ltb last 6 (omega arith))
    ∙ ap (λ t. cond t ((leb last kind && leb 7 kind) && leb kind 9) (cond (eqb last 255) false (eqb kind 255 || (true && eqb kind 10)))) (le-ltb last 9 a)
    ∙ ap (λ t. cond t false (eqb kind 255 || (true && eqb kind 10))) (ne_eqb last 255 (λ h. omega (arith, h, b)))
    ∙ e

name_short : (n : List ℕ) → IsNameOrEmpty n → length n ≤ 31
name_short n (inl e) = subst (λ t. length t ≤ 31) (sym e) (omega arith)
name_short n (inr h) = h.short

entry_short : (owner name : List ℕ) (rest : List ℕ) → IsNameOrEmpty owner → IsNameOrEmpty name → length rest ≡ 12 → IsLong (length (text_bytes owner ++ (text_bytes name ++ rest)))
entry_short owner name rest o n e =
    omega (arith, length-append owner (text_bytes name ++ rest), length-append name rest, name_short owner o, name_short name n, e)

widen : {a b c d n : ℕ} {fs : List Family} {code : List ℕ} {before : List Record} → Known a b n fs code before → c ≤ a → b ≤ d → Known c d n fs code before
widen k le ge = record { from = omega (arith, k.from, le); to = omega (arith, k.to, ge); descriptors_are = k.descriptors_are; families_are = k.families_are; code_is = k.code_is }

-- ---- the kinds

next_descriptor : Section Descriptor IsListed by_one (λ n. Known 1 2 n [] [])
next_descriptor n before d k p = (
  record {
    in_order = kind_low (last_kind before) 2 k.from (omega (arith, k.to)) k.to (omega arith) (omega arith);
    fits = p.fits;
    short = p.short;
    allowed = ap (λ m. has_base m d.over) k.descriptors_are ∙ p.base;
  },
  record { from = omega arith; to = omega arith; descriptors_are = omega (arith, k.descriptors_are); families_are = append-nil (families_of before) ∙ k.families_are; code_is = k.code_is },
)

next_family : (ds : ℕ) → Section StorageFamily (λ n. IsKept ds) the_same (λ n before. (fs : List Family) × Known 1 3 ds fs [] before)
next_family ds n before f k p = (
  record {
    in_order = kind_low (last_kind before) 3 k.1.from (omega (arith, k.1.to)) k.1.to (omega arith) (omega arith);
    fits = p.fits;
    short = omega arith;
    allowed = ap (λ m. is_placed m f.sort f.extent) k.1.descriptors_are ∙ p.placed;
  },
  (k.0 ++ f ∷ [], record { from = omega arith; to = omega arith; descriptors_are = omega (arith, k.1.descriptors_are); families_are = ap (λ fs. fs ++ f ∷ []) k.1.families_are; code_is = k.1.code_is }),
)

next_item : (ds : ℕ) (fs : List Family) → Section StoredItem (λ n. IsEntry fs) the_same (λ n. Known 1 4 ds fs [])
next_item ds fs n before i k p = (
  record {
    in_order = kind_low (last_kind before) 4 k.from (omega (arith, k.to)) k.to (omega arith) (omega arith);
    fits = p.fits;
    short = entry_short i.owner i.name _ p.fits.owner p.fits.name refl;
    allowed = both _ _ p.named (ap (λ gs. has_words i.offset i.words (slice_get gs i.family)) k.families_are ∙ p.words);
  },
  record { from = omega arith; to = omega arith; descriptors_are = omega (arith, k.descriptors_are); families_are = append-nil (families_of before) ∙ k.families_are; code_is = k.code_is },
)

next_preset : (ds : ℕ) (fs : List Family) → Section PresetWord (λ n. IsSet fs) the_same (λ n. Known 1 5 ds fs [])
next_preset ds fs n before q k p = (
  record {
    in_order = kind_low (last_kind before) 5 k.from k.to k.to (omega arith) (omega arith);
    fits = p.fits;
    short = omega arith;
    allowed = ap (λ gs. has_preset q.offset (slice_get gs q.family)) k.families_are ∙ p.place;
  },
  record { from = omega arith; to = omega arith; descriptors_are = omega (arith, k.descriptors_are); families_are = append-nil (families_of before) ∙ k.families_are; code_is = k.code_is },
)

abbrev Rising : (low high ds : ℕ) → List Family → List ℕ → (kind by n : ℕ) → List Record → Type 0
Rising low high ds fs code kind by n before = Known low high ds fs code before × (last_kind before ≡ kind → last_number before + by ≤ n)

next_relocation : (ds : ℕ) (fs : List Family) (code : List ℕ) → Section Relocation (IsFilled ds fs code) behind_word (Rising 6 7 ds fs code 7 2)
next_relocation ds fs code n before r k p = (
  record {
    in_order = kind_high (last_kind before) 7 k.0.from (omega (arith, k.0.to)) k.0.to (omega arith) (omega arith);
    fits = p.fits;
    short = omega arith;
    allowed =
        both _ _ (both _ _ (ap (λ c. is_blank c r.place) k.0.code_is ∙ p.blank) (rises_if (last_kind before) (last_number before) 7 2 n r.place k.1 p.after))
        (ap (λ m. has_index (tables m (families_of before)) r.sort r.index) k.0.descriptors_are ∙ ap (λ gs. has_index (tables ds gs) r.sort r.index) k.0.families_are ∙ p.index);
  },
  (record { from = omega arith; to = omega arith; descriptors_are = omega (arith, k.0.descriptors_are); families_are = append-nil (families_of before) ∙ k.0.families_are; code_is = k.0.code_is }, λ _. omega arith),
)

next_definition : (ds : ℕ) (fs : List Family) (code : List ℕ) → Section Definition (IsDefined ds code) behind_number (Rising 6 8 ds fs code 8 1)
next_definition ds fs code n before d k p = (
  record {
    in_order = kind_high (last_kind before) 8 k.0.from k.0.to k.0.to (omega arith) (omega arith);
    fits = p.fits;
    short = omega arith;
    allowed =
        both _ _ (both _ _ (lt-ltb d.0 (descriptor_count before) (omega (arith, k.0.descriptors_are, p.listed))) (lt-ltb d.1 (length (code_of before)) (omega (arith, ap length k.0.code_is, p.inside))))
        (rises_if (last_kind before) (last_number before) 8 1 n d.0 k.1 p.after);
  },
  (record { from = omega arith; to = omega arith; descriptors_are = omega (arith, k.0.descriptors_are); families_are = append-nil (families_of before) ∙ k.0.families_are; code_is = k.0.code_is }, λ _. omega arith),
)

next_statement : (ds : ℕ) (fs : List Family) (code : List ℕ) → Section Statement (IsBegun code) behind_number (Rising 9 10 ds fs code 10 1)
next_statement ds fs code n before s k p = (
  record {
    in_order = kind_end (last_kind before) 10 k.0.from k.0.to refl;
    fits = p.fits;
    short = omega arith;
    allowed =
        both _ _ (lt-ltb s.0 (length (code_of before)) (omega (arith, ap length k.0.code_is, p.inside)))
        (rises_if (last_kind before) (last_number before) 10 1 n s.0 k.1 p.after);
  },
  (record { from = omega arith; to = omega arith; descriptors_are = omega (arith, k.0.descriptors_are); families_are = append-nil (families_of before) ∙ k.0.families_are; code_is = k.0.code_is }, λ _. omega arith),
)

-- ---- the counts at the end of a kind

count_onto : (ds : List Desc) (before : List Record) → descriptor_count (onto (map Descriptor ds) before) ≡ descriptor_count before + length ds
count_onto [] before = omega arith
count_onto (d ∷ ds) before = omega (arith, count_onto ds (Descriptor d ∷ before))

families_onto : (fs : List Family) (before : List Record) → families_of (onto (map StorageFamily fs) before) ≡ families_of before ++ fs
families_onto [] before = sym (append-nil (families_of before))
families_onto (f ∷ fs) before = families_onto fs (StorageFamily f ∷ before) ∙ append_assoc (families_of before) (f ∷ []) fs

-- ---- all of them

abbrev Built : List Record → List Record → List Record → Type 0
Built before rs after = Follows before rs × (onto rs before ≡ after)

built_append : (a : List Record) (rs : List Record) (b : List Record) (ts : List Record) (c : List Record) → Built a rs b → Built b ts c → Built a (rs ++ ts) c
built_append a rs b ts c f g = (follows_append rs ts a f.0 (subst (λ z. Follows z ts) (sym f.1) g.0), onto_append rs ts a ∙ ap (onto ts) f.1 ∙ g.1)

built_next : (a : List Record) (r : Record) (rs c : List Record) → IsNext 2 a r → Built (r ∷ a) rs c → Built a (r ∷ rs) c
built_next a r rs c n b = ((n, b.0), b.1)

pub written : WritesObjects
written u l c need places w =
    let ds = length u.descs in
    let fs = l.families in
    let code = c.bytes in
    let b1 : List Record = SegmentName u.name ∷ [] in
    let n1 : IsNext 2 [] (SegmentName u.name) = record { in_order = refl; fits = w.name; short = omega (arith, w.name.short); allowed = refl } in
    let k1 : Known 1 2 0 [] [] b1 = record { from = omega arith; to = omega arith; descriptors_are = refl; families_are = refl; code_is = refl } in
    let s2 = walk Descriptor IsListed by_one (λ n. Known 1 2 n [] []) next_descriptor u.descs 0 b1 k1 w.descriptors in
    let b2 : List Record = onto (map Descriptor u.descs) b1 in
    let k2 : Known 1 2 ds [] [] b2 = record { from = s2.1.1.from; to = s2.1.1.to; descriptors_are = omega (arith, count_onto u.descs b1); families_are = s2.1.1.families_are; code_is = s2.1.1.code_is } in
    let s3 = walk StorageFamily (λ n. IsKept ds) the_same (λ n before. (gs : List Family) × Known 1 3 ds gs [] before) (next_family ds) fs 0 b2 ([], widen k2 (omega arith) (omega arith)) w.families in
    let b3 : List Record = onto (map StorageFamily fs) b2 in
    let k3 : Known 1 3 ds fs [] b3 = record { from = s3.1.1.1.from; to = s3.1.1.1.to; descriptors_are = s3.1.1.1.descriptors_are; families_are = families_onto fs b2 ∙ ap (λ gs. gs ++ fs) k2.families_are; code_is = s3.1.1.1.code_is } in
    let es : List ItemEntry = entries_from 0 u l u.items in
    let s4 = walk StoredItem (λ n. IsEntry fs) the_same (λ n. Known 1 4 ds fs []) (next_item ds fs) es 0 b3 (widen k3 (omega arith) (omega arith)) w.items in
    let b4 : List Record = onto (map StoredItem es) b3 in
    let s5 = walk PresetWord (λ n. IsSet fs) the_same (λ n. Known 1 5 ds fs []) (next_preset ds fs) l.words 0 b4 (widen s4.1.1 (omega arith) (omega arith)) w.presets in
    let b5 : List Record = onto (map PresetWord l.words) b4 in
    let k5 : Known 1 5 ds fs [] b5 = s5.1.1 in
    let n6 : IsNext 2 b5 (Code code) = record { in_order = kind_low (last_kind b5) 6 k5.from k5.to (omega (arith, k5.to)) (omega arith) (omega arith); fits = tt; short = w.code; allowed = refl } in
    let b6 : List Record = Code code ∷ b5 in
    let k6 : Known 6 7 ds fs code b6 = record { from = omega arith; to = omega arith; descriptors_are = omega (arith, k5.descriptors_are); families_are = append-nil (families_of b5) ∙ k5.families_are; code_is = refl } in
    let s7 = walk Relocation (IsFilled ds fs code) behind_word (Rising 6 7 ds fs code 7 2) (next_relocation ds fs code) c.relocs 0 b6 (k6, λ h. absurd (omega (arith, h))) w.relocations in
    let b7 : List Record = onto (map Relocation c.relocs) b6 in
    let k7 : Known 6 7 ds fs code b7 = s7.1.1.0 in
    let defs : List (ℕ × ℕ) = definitions_of c u.defined in
    let s8 = walk Definition (IsDefined ds code) behind_number (Rising 6 8 ds fs code 8 1) (next_definition ds fs code) defs 0 b7 (widen k7 (omega arith) (omega arith), λ h. absurd (omega (arith, h, k7.to))) w.definitions in
    let b8 : List Record = onto (map Definition defs) b7 in
    let k8 : Known 6 8 ds fs code b8 = s8.1.1.0 in
    let facts : Record = BodyFacts (body_of u c need) in
    let n9 : IsNext 2 b8 facts = record { in_order = kind_high (last_kind b8) 9 k8.from k8.to (omega (arith, k8.to)) (omega arith) (omega arith); fits = w.body; short = omega arith; allowed = lt-ltb c.entry (length (code_of b8)) (omega (arith, ap length k8.code_is, w.entry)) } in
    let b9 : List Record = facts ∷ b8 in
    let k9 : Known 9 10 ds fs code b9 = record { from = omega arith; to = omega arith; descriptors_are = omega (arith, k8.descriptors_are); families_are = append-nil (families_of b8) ∙ k8.families_are; code_is = k8.code_is } in
    let s10 = walk Statement (IsBegun code) behind_number (Rising 9 10 ds fs code 10 1) (next_statement ds fs code) places 0 b9 (k9, λ h. absurd (omega (arith, h))) w.statements in
    let b10 : List Record = onto (map Statement places) b9 in
    let k10 : Known 9 10 ds fs code b10 = s10.1.1.0 in
    let n11 : IsNext 2 b10 End = record { in_order = kind_end (last_kind b10) 255 k10.from k10.to refl; fits = tt; short = omega arith; allowed = refl } in
    let items_on = built_append b3 (map StoredItem es) b4 (map PresetWord l.words) b5 (s4.0, refl) (s5.0, refl) in
    let families_on = built_append b2 (map StorageFamily fs) b3 (map StoredItem es ++ map PresetWord l.words) b5 (s3.0, refl) items_on in
    let front = built_append [] (SegmentName u.name ∷ map Descriptor u.descs) b2 (map StorageFamily fs ++ (map StoredItem es ++ map PresetWord l.words)) b5 (built_next [] (SegmentName u.name) (map Descriptor u.descs) b2 n1 (s2.0, refl)) families_on in
    let end = built_append b9 (map Statement places) b10 (End ∷ []) (End ∷ b10) (s10.0, refl) ((n11, tt), refl) in
    let facts_on = built_next b8 facts (map Statement places ++ End ∷ []) (End ∷ b10) n9 end in
    let defs_on = built_append b7 (map Definition defs) b8 (facts ∷ (map Statement places ++ End ∷ [])) (End ∷ b10) (s8.0, refl) facts_on in
    let back = built_append b5 (Code code ∷ map Relocation c.relocs) b7 (map Definition defs ++ facts ∷ (map Statement places ++ End ∷ [])) (End ∷ b10) (built_next b5 (Code code) (map Relocation c.relocs) b7 n6 (s7.0, refl)) defs_on in
    let all : Built [] (object_records u l c need places) (End ∷ b10) = built_append [] (front_records u l) b5 (back_records u c need places) (End ∷ b10) front back in
    record {
      version = inr refl;
      front = front_onto (object_records u l c need places) [] tt all.0;
      ended = ap last_kind all.1;
      spelled = sym (bytes_onto (object_records u l c need places) []);
    }
