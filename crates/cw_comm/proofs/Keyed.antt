-- Names found by their keys.
use Rattle.std.proofs.Common.{◌≡◌, ℕ, suc, ◌<◌, ◌+◌, Bool, true, false, cond, not, List, [], ◌∷◌, ◌++◌, length, drop, get_or, Option, Some, refl, sym, ap, ◌∙◌, drop-cons, add-one}
use Rattle.std.specs.Prelude.{nat_eq, unwrap_or}
use Rattle.std.specs.List.{list_any, position}
use Rattle.std.specs.Str.{bytes_eq}
use Rattle.std.specs.Cmp.Lexicographic.{pointwise}
use Rattle.indexmap.specs.IndexSet.{insert_key}
use Rattle.cw_unit.specs.declared.descriptor.Desc.{Desc}
use Rattle.cw_comm.specs.declared.face.Face.{Face}
use Rattle.cw_comm.specs.Agreement.{with_name, names_with, first_twice}

abbrev pub same_name : List ℕ → List ℕ → Bool
same_name = pointwise nat_eq

pub next_desc : (ks : List (List ℕ)) (k : List ℕ) (ds : List Desc) (i : ℕ) (d : Desc) (total : List (List ℕ)) → i < length ds → d ≡ get_or ds i d → k ≡ d.name
    → names_with ks (drop i ds) ≡ total → names_with (insert_key same_name ks k) (drop (i + 1) ds) ≡ total
next_desc ks k ds i d total lt item same h =
    ap (λ n. names_with n (drop (i + 1) ds)) (ap (with_name ks) (same ∙ ap (λ (e : Desc). e.name) item))
    ∙ ap (λ n. names_with (with_name ks (get_or ds i d).name) (drop n ds)) (add-one i) ∙ ap (names_with ks) (sym (drop-cons ds i d lt)) ∙ h

ft : false ≡ true → ⊥
ft e = cc

tf : true ≡ false → ⊥
tf e = cc

abbrev some : List ℕ → Option (List ℕ)
some x = Some x

new_is : (b r : Bool) → r ≡ not b → r ≡ true → b ≡ false
new_is true r e h = absurd (ft (sym e ∙ h))
new_is false r e h = refl

old_is : (b r : Bool) → r ≡ not b → r ≡ false → b ≡ true
old_is true r e h = refl
old_is false r e h = absurd (tf (sym e ∙ h))

step_is : (seen : List (List ℕ)) (fs : List Face) (i : ℕ) (f : Face) → i < length fs → f ≡ get_or fs i f → first_twice seen (drop i fs) ≡ cond (list_any (bytes_eq f.name) seen) (Some f.name) (first_twice (seen ++ f.name ∷ []) (drop (i + 1) fs))
step_is seen fs i f lt item =
    ap (first_twice seen) (drop-cons fs i f lt) ∙ ap (λ (g : Face). cond (list_any (bytes_eq g.name) seen) (Some g.name) (first_twice (seen ++ g.name ∷ []) (drop (suc i) fs))) (sym item)
    ∙ ap (λ n. cond (list_any (bytes_eq f.name) seen) (Some f.name) (first_twice (seen ++ f.name ∷ []) (drop n fs))) (sym (add-one i))

pub next_face : (ks : List (List ℕ)) (k : List ℕ) (fs : List Face) (i : ℕ) (f : Face) (r : Bool) (total : Option (List ℕ)) → i < length fs → f ≡ get_or fs i f → k ≡ f.name → r ≡ not (list_any (same_name k) ks) → r ≡ true
    → first_twice ks (drop i fs) ≡ total → first_twice (insert_key same_name ks k) (drop (i + 1) fs) ≡ total
next_face ks k fs i f r total lt item same added is h =
    let absent : list_any (same_name k) ks ≡ false = new_is _ r added is in
    let none : list_any (bytes_eq f.name) ks ≡ false = ap (λ n. list_any (bytes_eq n) ks) (sym same) ∙ absent in
    let keys : insert_key same_name ks k ≡ ks ++ f.name ∷ [] = ap (λ b. cond b ks (ks ++ k ∷ [])) absent ∙ ap (λ n. ks ++ n ∷ []) same in
    ap (λ n. first_twice n (drop (i + 1) fs)) keys ∙ sym (ap (λ b. cond b (Some f.name) (first_twice (ks ++ f.name ∷ []) (drop (i + 1) fs))) none) ∙ sym (step_is ks fs i f lt item) ∙ h

pub twice_is : (ks : List (List ℕ)) (k : List ℕ) (fs : List Face) (i : ℕ) (f : Face) (r : Bool) (total : Option (List ℕ)) → i < length fs → f ≡ get_or fs i f → k ≡ f.name → r ≡ not (list_any (same_name k) ks) → r ≡ false
    → first_twice ks (drop i fs) ≡ total → some f.name ≡ total
twice_is ks k fs i f r total lt item same added is h =
    let present : list_any (same_name k) ks ≡ true = old_is _ r added is in
    let found : list_any (bytes_eq f.name) ks ≡ true = ap (λ n. list_any (bytes_eq n) ks) (sym same) ∙ present in
    sym (ap (λ b. cond b (Some f.name) (first_twice (ks ++ f.name ∷ []) (drop (i + 1) fs))) found) ∙ sym (step_is ks fs i f lt item) ∙ h

pub place_by : (ks : List (List ℕ)) (k : List ℕ) (o : Option ℕ) → o ≡ position (same_name k) ks → unwrap_or o (length ks) ≡ unwrap_or (position (bytes_eq k) ks) (length ks)
place_by ks k o e = ap (λ (p : Option ℕ). unwrap_or p (length ks)) e
