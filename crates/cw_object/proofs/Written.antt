-- What passes the test can be written.
use Rattle.std.proofs.Common.{◌≡◌, ℕ, ◌+◌, ◌<◌, ◌≤◌, List, [], ◌∷◌, length, map, Bool, true, false, IsTrue, ◌&&◌, nat_lt, nat_le, slice_get, refl, arith}
use Rattle.std.specs.List.{list_all}
use Rattle.std.proofs.lemmas.Bool.{leb-true, ltb-true}
use Rattle.cw_unit.specs.declared.unit.Unit.{Unit as SourceUnit}
use Rattle.cw_unit.specs.declared.unit.Def.{Def}
use Rattle.cw_unit.specs.declared.descriptor.Desc.{Desc}
use Rattle.cw_unit.specs.declared.layout.Layout.{Layout}
use Rattle.cw_unit.specs.declared.layout.Family.{Family}
use Rattle.cw_unit.specs.declared.layout.Preset.{Preset}
use Rattle.cw_unit.specs.declared.layout.Reloc.{Reloc}
use Rattle.cw_tmpl.specs.declared.assembling.Code.{Code}
use Rattle.cw_view.specs.Payloads.{ItemEntry}
use Rattle.cw_fields.specs.Names.{is_name}
use Rattle.cw_view.specs.ObjectFormat.{has_base, is_placed, is_named, has_words, has_preset, is_blank, has_index}
use Rattle.cw_fields.proofs.Names.{name-Decides}
use Rattle.cw_obj.specs.ReferenceObject.{entries_from, definition_of, definitions_of, body_of}
use Rattle.cw_obj.specs.Writable.{AllFrom, by_one, the_same, IsListed, IsKept, IsEntry, IsSet, tables, IsFilled, behind_word, IsDefined, behind_number, IsBegun, IsWritable}
use Rattle.cw_object.specs.Fits.{is_long, fits_descriptor, fits_family, fits_item, fits_preset, fits_relocation, fits_definition, fits_body_facts, fits_statement}
use Rattle.cw_object.specs.IsWritable.{is_listed, are_listed, is_kept, is_entry, are_entries, is_set, is_filled, are_filled, is_defined, are_defined, is_begun, are_begun, is_front, is_coded, is_back, is_writable}
use Rattle.cw_object.proofs.Fitting.{both, long, descriptor-fits, family-fits, item-fits, preset-fits, relocation-fits, definition-fits, body-facts-fit, statement-fits}
use Rattle.cw_object.proofs.Short.{descriptor-short}

all-same : {X : Type 0} (test : X → Bool) (P : X → Type 0) → ((x : X) → IsTrue (test x) → P x) → (n : ℕ) (xs : List X) → IsTrue (list_all test xs) → AllFrom (λ m. P) the_same n xs
all-same test P one n [] h = tt
all-same test P one n (x ∷ xs) h = let p = both (test x) (list_all test xs) h in (one x p.0, all-same test P one n xs p.1)

-- ---- before the code

listed : (n : ℕ) (ds : List Desc) → IsTrue (are_listed n ds) → AllFrom IsListed by_one n ds
listed n [] h = tt
listed n (d ∷ ds) h =
    let a = both (is_listed n d) (are_listed (n + 1) ds) h in
    let b = both (fits_descriptor d) (has_base n d.over) a.0 in
    let fits = descriptor-fits d b.0 in
    (record { fits = fits; short = descriptor-short d fits; base = b.1 }, listed (n + 1) ds a.1)

kept : (n : ℕ) (f : Family) → IsTrue (is_kept n f) → IsKept n f
kept n f h = let p = both (fits_family f) (is_placed n f.sort f.extent) h in record { fits = family-fits f p.0; placed = p.1 }

entry : (fs : List Family) (i : ItemEntry) → IsTrue (is_entry fs i) → IsEntry fs i
entry fs i h =
    let a = both (fits_item i) (is_named i && has_words i.offset i.words (slice_get fs i.family)) h in
    let b = both (is_named i) (has_words i.offset i.words (slice_get fs i.family)) a.1 in
    record { fits = item-fits i a.0; named = b.0; words = b.1 }

set-word : (fs : List Family) (p : Preset) → IsTrue (is_set fs p) → IsSet fs p
set-word fs p h = let a = both (fits_preset p) (has_preset p.offset (slice_get fs p.family)) h in record { fits = preset-fits p a.0; place = a.1 }

-- ---- behind it

filled : (ds : ℕ) (fs : List Family) (code : List ℕ) (low : ℕ) (rs : List Reloc) → IsTrue (are_filled ds fs code low rs) → AllFrom (IsFilled ds fs code) behind_word low rs
filled ds fs code low [] h = tt
filled ds fs code low (r ∷ rs) h =
    let more : Bool = is_blank code r.place && has_index (tables ds fs) r.sort r.index in
    let a = both (is_filled ds fs code low r) (are_filled ds fs code (r.place + 2) rs) h in
    let b = both (fits_relocation r) (nat_le low r.place && more) a.0 in
    let c = both (nat_le low r.place) more b.1 in
    let d = both (is_blank code r.place) (has_index (tables ds fs) r.sort r.index) c.1 in
    (record { fits = relocation-fits r b.0; after = leb-true low r.place c.0; blank = d.0; index = d.1 }, filled ds fs code (r.place + 2) rs a.1)

defined : (ds : ℕ) (c : Code) (low : ℕ) (es : List (ℕ × Def)) → IsTrue (are_defined ds c low es) → AllFrom (IsDefined ds c.bytes) behind_number low (definitions_of c es)
defined ds c low [] h = tt
defined ds c low (e ∷ es) h =
    let d : ℕ × ℕ = definition_of c e in
    let size : ℕ = length c.bytes in
    let a = both (is_defined ds size low d) (are_defined ds c (e.0 + 1) es) h in
    let b = both (fits_definition d) (nat_le low d.0 && (nat_lt d.0 ds && nat_lt d.1 size)) a.0 in
    let g = both (nat_le low d.0) (nat_lt d.0 ds && nat_lt d.1 size) b.1 in
    let k = both (nat_lt d.0 ds) (nat_lt d.1 size) g.1 in
    (record { fits = definition-fits d b.0; after = leb-true low d.0 g.0; listed = ltb-true d.0 ds k.0; inside = ltb-true d.1 size k.1 }, defined ds c (e.0 + 1) es a.1)

begun : (code : List ℕ) (low : ℕ) (ss : List (ℕ × ℕ)) → IsTrue (are_begun (length code) low ss) → AllFrom (IsBegun code) behind_number low ss
begun code low [] h = tt
begun code low (s ∷ ss) h =
    let a = both (is_begun (length code) low s) (are_begun (length code) (s.0 + 1) ss) h in
    let b = both (fits_statement s) (nat_le low s.0 && nat_lt s.0 (length code)) a.0 in
    let c = both (nat_le low s.0) (nat_lt s.0 (length code)) b.1 in
    (record { fits = statement-fits s b.0; after = leb-true low s.0 c.0; inside = ltb-true s.0 (length code) c.1 }, begun code (s.0 + 1) ss a.1)

-- ---- the whole

by-parts : (u : SourceUnit) (l : Layout) (c : Code) (need : ℕ) → IsTrue (is_front u l) → IsTrue (is_back u l c need) → IsWritable u l c need c.statements
by-parts u l c need f g =
    let ds : ℕ = length u.descs in
    let fs : List Family = l.families in
    let size : ℕ = length c.bytes in
    let a = both (is_name u.name) (are_listed 0 u.descs && (list_all (is_kept ds) fs && (are_entries 0 u l u.items && list_all (is_set fs) l.words))) f in
    let b = both (are_listed 0 u.descs) (list_all (is_kept ds) fs && (are_entries 0 u l u.items && list_all (is_set fs) l.words)) a.1 in
    let d = both (list_all (is_kept ds) fs) (are_entries 0 u l u.items && list_all (is_set fs) l.words) b.1 in
    let e = both (are_entries 0 u l u.items) (list_all (is_set fs) l.words) d.1 in
    let h = both (is_coded u c need) (are_filled ds fs c.bytes 0 c.relocs && (are_defined ds c 0 u.defined && are_begun size 0 c.statements)) g in
    let i = both (are_filled ds fs c.bytes 0 c.relocs) (are_defined ds c 0 u.defined && are_begun size 0 c.statements) h.1 in
    let j = both (are_defined ds c 0 u.defined) (are_begun size 0 c.statements) i.1 in
    let k = both (is_long size) (fits_body_facts (body_of u c need) && nat_lt c.entry size) h.0 in
    let m = both (fits_body_facts (body_of u c need)) (nat_lt c.entry size) k.1 in
    record {
      name = (name-Decides u.name).0 a.0;
      descriptors = listed 0 u.descs b.0;
      families = all-same (is_kept ds) (IsKept ds) (kept ds) 0 fs d.0;
      items = all-same (is_entry fs) (IsEntry fs) (entry fs) 0 (entries_from 0 u l u.items) e.0;
      presets = all-same (is_set fs) (IsSet fs) (set-word fs) 0 l.words e.1;
      code = long size k.0;
      relocations = filled ds fs c.bytes 0 c.relocs i.0;
      definitions = defined ds c 0 u.defined j.0;
      body = body-facts-fit (body_of u c need) m.0;
      entry = ltb-true c.entry size m.1;
      statements = begun c.bytes 0 c.statements j.1;
    }

pub writable : (u : SourceUnit) (l : Layout) (c : Code) (need : ℕ) → IsTrue (is_writable u l c need) → IsWritable u l c need c.statements
unfolding is_writable
writable u l c need h = let p = both (is_front u l) (is_back u l c need) h in by-parts u l c need p.0 p.1
