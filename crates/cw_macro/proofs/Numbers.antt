-- The numbers of parameters.
use Rattle.std.proofs.Common.{◌≡◌, ℕ, suc, ◌+◌, Bool, true, false, cond, List, [], ◌∷◌, ◌++◌, length, Option, Some, None, refl, sym, ap, ◌∙◌, arith}
use Rattle.std.specs.Option.{option_map, is_some, is_none}
use Rattle.std.specs.Str.{bytes_eq}
use Rattle.std.specs.BTreeMap.{get, Updates, btree_map_len}
use Rattle.std.specs.Cmp.Lexicographic.{texts_ties, bytes_decides, nat_list_eq_equiv}
use Rattle.cw_macro.specs.declared.definition.Parameters.{Parameters}
use Rattle.cw_macro.specs.Expansion.{number_of}
use Rattle.cw_macro.specs.Views.{name_cmp, IsNumbering}
use Rattle.std.proofs.lemmas.List.{length-append}

number_last_at : (b : Bool) (q name : List ℕ) (ps : List (List ℕ)) → (number_of q ps ≡ None → number_of q (ps ++ name ∷ []) ≡ cond (bytes_eq q name) (Some (length ps)) None)
    → cond b (Some 0) (option_map suc (number_of q ps)) ≡ None → cond b (Some 0) (option_map suc (number_of q (ps ++ name ∷ []))) ≡ cond (bytes_eq q name) (Some (suc (length ps))) None
number_last_at true q name ps ih h = absurd cc
number_last_at false q name ps ih h = ap (option_map suc) (ih (inner (number_of q ps) h)) ∙ over (bytes_eq q name) (length ps)
  where
    inner : (o : Option ℕ) → option_map suc o ≡ None → o ≡ None
    inner None e = refl
    inner (Some k) e = absurd cc

    over : (b : Bool) (n : ℕ) → option_map suc (cond b (Some n) None) ≡ cond b (Some (suc n)) None
    over true n = refl
    over false n = refl

-- a name behind those that do not have it
pub number_last : (q name : List ℕ) (ps : List (List ℕ)) → number_of q ps ≡ None → number_of q (ps ++ name ∷ []) ≡ cond (bytes_eq q name) (Some (length ps)) None
number_last q name [] h = refl
number_last q name (p ∷ ps) h = number_last_at (bytes_eq q p) q name ps (number_last q name ps) h

number_kept_at : (b : Bool) (q name : List ℕ) (ps : List (List ℕ)) (j : ℕ) → ((k : ℕ) → number_of q ps ≡ Some k → number_of q (ps ++ name ∷ []) ≡ Some k)
    → cond b (Some 0) (option_map suc (number_of q ps)) ≡ Some j → cond b (Some 0) (option_map suc (number_of q (ps ++ name ∷ []))) ≡ Some j
number_kept_at true q name ps j ih h = h
number_kept_at false q name ps j ih h = inner (number_of q ps) refl h
  where
    inner : (o : Option ℕ) → number_of q ps ≡ o → option_map suc o ≡ Some j → option_map suc (number_of q (ps ++ name ∷ [])) ≡ Some j
    inner None e g = absurd cc
    inner (Some k) e g = ap (option_map suc) (ih k e) ∙ g

pub number_kept : (q name : List ℕ) (ps : List (List ℕ)) (j : ℕ) → number_of q ps ≡ Some j → number_of q (ps ++ name ∷ []) ≡ Some j
number_kept q name [] j h = absurd cc
number_kept q name (p ∷ ps) j h = number_kept_at (bytes_eq q p) q name ps j (number_kept q name ps) h

-- what the table has for one name more
with_last : (q name : List ℕ) (names : List (List ℕ)) → number_of name names ≡ None → cond (bytes_eq name q) (Some (length names)) (number_of q names) ≡ number_of q (names ++ name ∷ [])
with_last q name names fresh = at (bytes_eq name q) refl (number_of q names) refl
  where
    swap : bytes_eq q name ≡ bytes_eq name q
    swap = nat_list_eq_equiv.symm q name

    at : (b : Bool) → bytes_eq name q ≡ b → (o : Option ℕ) → number_of q names ≡ o → cond b (Some (length names)) o ≡ number_of q (names ++ name ∷ [])
    at true e o h =
        let same : name ≡ q = (bytes_decides name q).0 e in
        let none : number_of q names ≡ None = ap (λ (z : List ℕ). number_of z names) (sym same) ∙ fresh in
        sym (number_last q name names none ∙ ap (λ (z : Bool). cond z (Some (length names)) None) (swap ∙ e))
    at false e None h = sym (number_last q name names h ∙ ap (λ (z : Bool). cond z (Some (length names)) None) (swap ∙ e))
    at false e (Some j) h = sym (number_kept q name names j h)

pub numbering_added : (old new : Parameters) (k : List ℕ) (name : List ℕ) (names : List (List ℕ)) → k ≡ name → IsNumbering old names
    → Updates name_cmp old.numbers new.numbers k (Some (btree_map_len old.numbers)) → get name_cmp old.numbers k ≡ None → btree_map_len new.numbers ≡ btree_map_len old.numbers + 1 → IsNumbering new (names ++ name ∷ [])
numbering_added old new k name names e h u none size = record {
  count = size ∙ omega (arith, h.count, length-append names (name ∷ []));
  each = λ q.
      u.0 q
      ∙ ap (λ (b : Bool). cond b (Some (btree_map_len old.numbers)) (get name_cmp old.numbers q)) (sym (texts_ties k q) ∙ ap (λ (n : List ℕ). bytes_eq n q) e)
      ∙ ap (λ (n : ℕ). cond (bytes_eq name q) (Some n) (get name_cmp old.numbers q)) h.count
      ∙ ap (λ (o : Option ℕ). cond (bytes_eq name q) (Some (length names)) o) (h.each q)
      ∙ with_last q name names (sym (h.each name) ∙ ap (λ (n : List ℕ). get name_cmp old.numbers n) (sym e) ∙ none);
}

pub size_added : (o : Option ℕ) (m n : ℕ) → is_none o ≡ true → n ≡ m + cond (is_some o) 0 1 → (o ≡ None) × (n ≡ m + 1)
size_added None m n e h = (refl, h)
size_added (Some k) m n e h = absurd cc
