-- Records written one after another.
use Rattle.std.proofs.Common.{◌≡◌, ℕ, ◌+◌, ◌<◌, List, ◌++◌, length, map, drop, get_or, sym, ap, subst, ◌∙◌, append_assoc, add-one, drop-cons}
use Rattle.cw_unit.specs.declared.unit.Unit.{Unit as SourceUnit}
use Rattle.cw_unit.specs.declared.unit.Item.{Item}
use Rattle.cw_unit.specs.declared.unit.Def.{Def}
use Rattle.cw_unit.specs.declared.layout.Layout.{Layout}
use Rattle.cw_tmpl.specs.declared.assembling.Code.{Code as MadeCode}
use Rattle.cw_view.specs.ObjectFormat.{Record, StoredItem, Definition, record_bytes}
use Rattle.cw_obj.specs.ReferenceObject.{records_bytes, entry_of, items_from, definition_of, definition_records}

pub put_next : {A : Type 0} (k : A → Record) (xs : List A) (i : ℕ) (d : A) (out next total : List ℕ) → i < length xs → next ≡ out ++ record_bytes (k (get_or xs i d))
    → out ++ records_bytes (map k (drop i xs)) ≡ total → next ++ records_bytes (map k (drop (i + 1) xs)) ≡ total
put_next k xs i d out next total lt put h =
    ap (λ y. y ++ records_bytes (map k (drop (i + 1) xs))) put ∙ append_assoc out (record_bytes (k (get_or xs i d))) (records_bytes (map k (drop (i + 1) xs)))
    ∙ ap (λ n. out ++ (record_bytes (k (get_or xs i d)) ++ records_bytes (map k (drop n xs)))) (add-one i)
    ∙ ap (λ ys. out ++ records_bytes (map k ys)) (sym (drop-cons xs i d lt)) ∙ h

pub put_listed : {A : Type 0} (k : A → Record) (xs : List A) (i : ℕ) (x : A) (out next total : List ℕ) → i < length xs → x ≡ get_or xs i x → next ≡ out ++ record_bytes (k x)
    → out ++ records_bytes (map k (drop i xs)) ≡ total → next ++ records_bytes (map k (drop (i + 1) xs)) ≡ total
put_listed k xs i x out next total lt is put h = put_next k xs i x out next total lt (put ∙ ap (λ y. out ++ record_bytes (k y)) is) h

-- Items, which are numbered, and definitions.
pub put_item_next : (u : SourceUnit) (l : Layout) (is : List Item) (i : ℕ) (x : Item) (out next total : List ℕ) → i < length is → x ≡ get_or is i x → next ≡ out ++ record_bytes (StoredItem (entry_of u (get_or l.homes i (0, 0)) x))
    → out ++ records_bytes (items_from i u l (drop i is)) ≡ total → next ++ records_bytes (items_from (i + 1) u l (drop (i + 1) is)) ≡ total
put_item_next u l is i x out next total lt item put h =
    let record_at : Item → List ℕ = λ y. record_bytes (StoredItem (entry_of u (get_or l.homes i (0, 0)) y)) in
    ap (λ y. y ++ records_bytes (items_from (i + 1) u l (drop (i + 1) is))) put ∙ append_assoc out (record_at x) (records_bytes (items_from (i + 1) u l (drop (i + 1) is)))
    ∙ ap (λ y. out ++ (record_at y ++ records_bytes (items_from (i + 1) u l (drop (i + 1) is)))) item
    ∙ ap (λ n. out ++ (record_at (get_or is i x) ++ records_bytes (items_from (i + 1) u l (drop n is)))) (add-one i)
    ∙ ap (λ ys. out ++ records_bytes (items_from i u l ys)) (sym (drop-cons is i x lt)) ∙ h

pub put_definition_next : (c : MadeCode) (ds : List (ℕ × Def)) (i : ℕ) (x : ℕ × Def) (out next total : List ℕ) → i < length ds → next ≡ out ++ record_bytes (Definition (definition_of c (get_or ds i x)))
    → out ++ records_bytes (definition_records c (drop i ds)) ≡ total → next ++ records_bytes (definition_records c (drop (i + 1) ds)) ≡ total
put_definition_next c ds i x out next total lt put h =
    let record_at : ℕ × Def → List ℕ = λ y. record_bytes (Definition (definition_of c y)) in
    ap (λ y. y ++ records_bytes (definition_records c (drop (i + 1) ds))) put ∙ append_assoc out (record_at (get_or ds i x)) (records_bytes (definition_records c (drop (i + 1) ds)))
    ∙ ap (λ n. out ++ (record_at (get_or ds i x) ++ records_bytes (definition_records c (drop n ds)))) (add-one i)
    ∙ ap (λ ys. out ++ records_bytes (definition_records c ys)) (sym (drop-cons ds i x lt)) ∙ h

pub put_item_of : (u : SourceUnit) (l : Layout) (is js : List Item) (i : ℕ) (x : Item) (place : ℕ × ℕ) (out next total : List ℕ) → js ≡ is → i < length js → x ≡ get_or js i x → place ≡ get_or l.homes i (0, 0)
    → next ≡ out ++ record_bytes (StoredItem (entry_of u place x)) → out ++ records_bytes (items_from i u l (drop i is)) ≡ total → next ++ records_bytes (items_from (i + 1) u l (drop (i + 1) is)) ≡ total
put_item_of u l is js i x place out next total e lt item at put h =
    put_item_next u l is i x out next total (subst (λ z. i < length z) e lt) (item ∙ ap (λ z. get_or z i x) e) (put ∙ ap (λ p. out ++ record_bytes (StoredItem (entry_of u p x))) at) h
