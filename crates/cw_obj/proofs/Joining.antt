-- What is written in parts.
use Rattle.std.proofs.Common.{◌≡◌, ℕ, List, [], ◌∷◌, ◌++◌, map, refl, sym, ap, ◌∙◌, append_assoc}
use Rattle.cw_unit.specs.declared.unit.Unit.{Unit as SourceUnit}
use Rattle.cw_unit.specs.declared.layout.Layout.{Layout}
use Rattle.cw_tmpl.specs.declared.assembling.Code.{Code as MadeCode}
use Rattle.cw_view.specs.ObjectFormat.{Record, SegmentName, Descriptor, StorageFamily, PresetWord, Code, Relocation, BodyFacts, Statement, End, record_bytes}
use Rattle.cw_fields.specs.Fields.{text_bytes}
use Rattle.cw_obj.specs.ReferenceObject.{records_bytes, items_from, definition_records, front_records, back_records}

pub records_append : (rs ts : List Record) → records_bytes (rs ++ ts) ≡ records_bytes rs ++ records_bytes ts
records_append [] ts = refl
records_append (r ∷ rs) ts = ap (λ y. record_bytes r ++ y) (records_append rs ts) ∙ sym (append_assoc (record_bytes r) (records_bytes rs) (records_bytes ts))

pub join : (o a b x y : List ℕ) → a ≡ o ++ x → b ≡ a ++ y → b ≡ o ++ (x ++ y)
join o a b x y h k = k ∙ ap (λ z. z ++ y) h ∙ append_assoc o x y

-- in the front the name, the descriptors, the families, the items and the presets
pub front_joined : (u : SourceUnit) (l : Layout) (o a b c d e : List ℕ)
    → a ≡ o ++ record_bytes (SegmentName u.name) → b ≡ a ++ records_bytes (map Descriptor u.descs) → c ≡ b ++ records_bytes (map StorageFamily l.families)
    → d ≡ c ++ records_bytes (items_from 0 u l u.items) → e ≡ d ++ records_bytes (map PresetWord l.words) → e ≡ o ++ records_bytes (front_records u l)
front_joined u l o a b c d e ha hb hc hd he =
    let items : List Record = items_from 0 u l u.items in
    let de = join b c e (records_bytes (map StorageFamily l.families)) (records_bytes items ++ records_bytes (map PresetWord l.words)) hc (join c d e _ _ hd he) in
    let all = join o b e (record_bytes (SegmentName u.name) ++ records_bytes (map Descriptor u.descs)) _ (join o a b _ _ ha hb) de in
    all ∙ ap (λ y. o ++ ((record_bytes (SegmentName u.name) ++ records_bytes (map Descriptor u.descs)) ++ y))
    (ap (λ y. records_bytes (map StorageFamily l.families) ++ y) (sym (records_append items (map PresetWord l.words))) ∙ sym (records_append (map StorageFamily l.families) (items ++ map PresetWord l.words)))
    ∙ ap (λ y. o ++ y) (sym (records_append (SegmentName u.name ∷ map Descriptor u.descs) (map StorageFamily l.families ++ (items ++ map PresetWord l.words))))

-- behind it the code, the relocations, the definitions, the facts of the body, the statements and the end
pub back_joined : (u : SourceUnit) (m : MadeCode) (need : ℕ) (places : List (ℕ × ℕ)) (o a b c d e f : List ℕ)
    → a ≡ o ++ record_bytes (Code m.bytes) → b ≡ a ++ records_bytes (map Relocation m.relocs) → c ≡ b ++ records_bytes (definition_records m u.defined)
    → d ≡ c ++ record_bytes (BodyFacts (record { entry = m.entry; need = need; tokens = u.tokens })) → e ≡ d ++ records_bytes (map Statement places) → f ≡ e ++ record_bytes End
    → f ≡ o ++ records_bytes (back_records u m need places)
back_joined u m need places o a b c d e f ha hb hc hd he hf =
    let facts : Record = BodyFacts (record { entry = m.entry; need = need; tokens = u.tokens }) in
    let defs : List Record = definition_records m u.defined in
    let tail : List Record = map Statement places ++ End ∷ [] in
    let ef : f ≡ d ++ records_bytes tail = join d e f _ _ he hf ∙ ap (λ y. d ++ y) (sym (records_append (map Statement places) (End ∷ []))) in
    let df : f ≡ c ++ records_bytes (facts ∷ tail) = join c d f (record_bytes facts) (records_bytes tail) hd ef in
    let cf : f ≡ b ++ records_bytes (defs ++ facts ∷ tail) = join b c f (records_bytes defs) (records_bytes (facts ∷ tail)) hc df ∙ ap (λ y. b ++ y) (sym (records_append defs (facts ∷ tail))) in
    join o b f (records_bytes (Code m.bytes ∷ map Relocation m.relocs)) (records_bytes (defs ++ facts ∷ tail)) (join o a b (record_bytes (Code m.bytes)) (records_bytes (map Relocation m.relocs)) ha hb) cf
    ∙ ap (λ y. o ++ y) (sym (records_append (Code m.bytes ∷ map Relocation m.relocs) (defs ++ facts ∷ tail)))

pub item_joined : (o a b c d : List ℕ) (w x y z w' x' : List ℕ) → a ≡ o ++ text_bytes w → w ≡ w' → b ≡ a ++ text_bytes x → x ≡ x' → c ≡ b ++ y → d ≡ c ++ z → d ≡ o ++ (text_bytes w' ++ (text_bytes x' ++ (y ++ z)))
item_joined o a b c d w x y z w' x' ha hw hb hx hc hd =
    join o a d (text_bytes w') (text_bytes x' ++ (y ++ z)) (ha ∙ ap (λ t. o ++ text_bytes t) hw) (join a b d (text_bytes x') (y ++ z) (hb ∙ ap (λ t. a ++ text_bytes t) hx) (join b c d y z hc hd))
