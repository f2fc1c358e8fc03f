-- Labels before a statement: the rule that leads back to itself is alike a repetition.
use Rattle.std.proofs.Common.{◌≡◌, ℕ, Bool, List, [], ◌∷◌, ◌++◌, refl, sym, subst, ◌∙◌, append_assoc}
use Rattle.cw_lex.specs.declared.token.Symbol.TheVariants as symbols
use Rattle.cw_tree.specs.declared.leaf.RawName.{RawName}
use Rattle.cw_tree.specs.declared.statement.RawForm.{RawForm}
use Rattle.cw_tree.specs.declared.statement.RawForm.TheVariants as form_tree
use Rattle.cw_tree.specs.declared.statement.RawStmt.{RawStmt}
use Rattle.cw_grammar.specs.Tokens.{Item}
use Rattle.cw_grammar.specs.Grammar.{a_token, a_list, a_name, a_form, a_from, a_stmt, Grammar, ◌·◌, ◌∣◌, many, ◌⇒◌, again, labelled}
use Rattle.cw_grammar.specs.Rules.{symbol, ◌*>◌, name}
use Rattle.cw_grammar.specs.Statements.{simple_behind, simple_stmt, stmt, stmt_tree, with_label}
use Rattle.cw_grammar.specs.Labels.{unlabelled}
use Rattle.cw_grammar.specs.Table.{again_rule}
use Rattle.cw_grammar.specs.Derives.{Derives, is_then, is_left, is_right, is_end, is_more, is_map, is_again, IsViablePrefix, no_token, of_first, of_second, of_left, of_right, of_item, of_more, of_map, of_again}
use Rattle.cw_written.specs.Alike.{IsAlike}
use Rattle.cw_written.specs.Written.{stmt as written_stmt}
use Rattle.cw_written.proofs.Rules.{form_alike}
use Rattle.cw_written.proofs.Alike.{alike_behind, alike_mapped, alike_through}
use Rattle.cw_written.proofs.Fronts.{label, MayHaveLabels, in_labels, behind_labels, led_by_labels, name_front}

abbrev repeated : Bool → Grammar a_stmt
repeated p = many label · unlabelled p ⇒ (λ x. stmt_tree x.0 x.1)

-- a label, and a statement with the labels before it
record Stated (n : ℕ) (p : Bool) (w : List Item) (x : RawStmt) : Type 0 where
  one : List Item
  two : List Item
  names : List RawName
  form : RawForm
  parts : one ++ two ≡ w
  gives : stmt_tree names form ≡ x
  first : Derives n (a_list a_name) (many label) one names
  second : Derives n a_form (unlabelled p) two form

stated_of : (n : ℕ) (p : Bool) {w : List Item} {x : RawStmt} → Derives n a_stmt (repeated p) w x → Stated n p w x
stated_of n p (is_map (is_then {u = u} {v = v} {x = ns} {y = f} d e)) = record { one = u; two = v; names = ns; form = f; parts = refl; gives = refl; first = d; second = e }

stated : (n : ℕ) (p : Bool) (w : List Item) (x : RawStmt) → Stated n p w x → Derives n a_stmt (repeated p) w x
stated n p w x s =
    let W : List Item → Type 0 = λ z. Derives n a_stmt (repeated p) z (stmt_tree s.names s.form) in
    let X : RawStmt → Type 0 = λ z. Derives n a_stmt (repeated p) w z in
    subst X s.gives (subst W s.parts (is_map {f = λ x. stmt_tree x.0 x.1} (is_then s.first s.second)))

labelled_more : (n : ℕ) (p : Bool) (a c v : List Item) (t : Item) (x : RawName) (y : RawStmt) → Derives n a_name name a x → Derives n a_token (symbol symbols.Colon) c t → Derives n a_stmt (repeated p) v y → Derives n a_stmt (repeated p) (a ++ (c ++ v)) (with_label x y)
labelled_more n p a c v t x y d e k =
    let s = stated_of n p k in
    let X : RawStmt → Type 0 = λ z. Derives n a_stmt (repeated p) (a ++ (c ++ v)) (with_label x z) in
    let parts : ((a ++ c) ++ s.one) ++ s.two ≡ a ++ (c ++ v) =
    append_assoc (a ++ c) s.one s.two ∙ append_assoc a c (s.one ++ s.two) ∙ subst (λ (z : List Item). a ++ (c ++ (s.one ++ s.two)) ≡ a ++ (c ++ z)) s.parts refl in
    subst X s.gives (stated n p (a ++ (c ++ v)) (stmt_tree (x ∷ s.names) s.form) (record { one = (a ++ c) ++ s.one; two = s.two; names = x ∷ s.names; form = s.form; parts = parts; gives = refl; first = is_more (is_map (is_then d e)) s.first; second = s.second }))

bare : (n : ℕ) (p : Bool) (w : List Item) (f : RawForm) → Derives n a_form (unlabelled p) w f → Derives n a_stmt (repeated p) w (stmt_tree [] f)
bare n p w f d = is_map {f = λ x. stmt_tree x.0 x.1} (is_then is_end d)

stmt_there : {n : ℕ} (p : Bool) {w : List Item} {x : RawStmt} → Derives n a_stmt (again (labelled p)) w x → Derives n a_stmt (repeated p) w x
unfolding again_rule stmt unlabelled
stmt_there {n = n} p (is_again (is_left (is_map (is_then {u = a} {x = x} d (is_left (is_map (is_map (is_then {u = c} {v = v} {x = t} {y = y} e k)))))))) = labelled_more n p a c v t x y d e (stmt_there p k)
stmt_there {n = n} p (is_again (is_left (is_map (is_then {u = a} {v = v} d (is_right (is_map e)))))) = bare n p (a ++ v) _ (is_left (is_map (is_then d (is_map e))))
stmt_there {n = n} p (is_again (is_right (is_left (is_map {u = u} d)))) = bare n p u _ (is_right (is_left (is_map d)))
stmt_there {n = n} p (is_again (is_right (is_right (is_left (is_map {u = u} d))))) = bare n p u _ (is_right (is_right (is_left (is_map d))))
stmt_there {n = n} p (is_again (is_right (is_right (is_right (is_map {u = u} d))))) = bare n p u _ (is_right (is_right (is_right (is_map d))))

stmt_bare : (n : ℕ) (p : Bool) {w : List Item} {f : RawForm} → Derives n a_form (unlabelled p) w f → Derives n a_stmt (again (labelled p)) w (stmt_tree [] f)
unfolding again_rule stmt unlabelled
stmt_bare n p (is_left (is_map (is_then d (is_map e)))) = is_again (is_left (is_map (is_then d (is_right (is_map e)))))
stmt_bare n p (is_right (is_left (is_map d))) = is_again (is_right (is_left (is_map d)))
stmt_bare n p (is_right (is_right (is_left (is_map d)))) = is_again (is_right (is_right (is_left (is_map d))))
stmt_bare n p (is_right (is_right (is_right (is_map d)))) = is_again (is_right (is_right (is_right (is_map d))))

stmt_labels : (n : ℕ) (p : Bool) {u v : List Item} {ns : List RawName} {f : RawForm} → Derives n (a_list a_name) (many label) u ns → Derives n a_form (unlabelled p) v f → Derives n a_stmt (again (labelled p)) (u ++ v) (stmt_tree ns f)
unfolding again_rule stmt
stmt_labels n p is_end d = stmt_bare n p d
stmt_labels n p {v = v} {f = f} (is_more {v = w} {xs = ns} (is_map (is_then {u = a} {v = c} {x = x} d e)) ls) k =
    let W : List Item → Type 0 = λ z. Derives n a_stmt (again (labelled p)) z (stmt_tree (x ∷ ns) f) in
    let parts : a ++ (c ++ (w ++ v)) ≡ ((a ++ c) ++ w) ++ v = sym (append_assoc (a ++ c) w v ∙ append_assoc a c (w ++ v)) in
    subst W parts (is_again (is_left (is_map (is_then d (is_left (is_map (is_map (is_then e (stmt_labels n p ls k)))))))))

stmt_back : (n : ℕ) (p : Bool) {w : List Item} {x : RawStmt} → Derives n a_stmt (repeated p) w x → Derives n a_stmt (again (labelled p)) w x
stmt_back n p (is_map (is_then d e)) = stmt_labels n p d e

-- ---- fronts

begins_label : (n : ℕ) (p : Bool) {w : List Item} → IsViablePrefix n a_name label w → IsViablePrefix n a_stmt (repeated p) w
begins_label n p q = of_map {f = λ x. stmt_tree x.0 x.1} (of_first (of_item q))

bare_form : (n : ℕ) (p : Bool) {w : List Item} → IsViablePrefix n a_form (unlabelled p) w → IsViablePrefix n a_stmt (repeated p) w
bare_form n p q = of_map {f = λ x. stmt_tree x.0 x.1} (of_second is_end q)

labelled_front : (n : ℕ) (p : Bool) (a c : List Item) (t : Item) (x : RawName) {v : List Item} → Derives n a_name name a x → Derives n a_token (symbol symbols.Colon) c t → IsViablePrefix n a_stmt (repeated p) v → IsViablePrefix n a_stmt (repeated p) (a ++ (c ++ v))
labelled_front n p a c t x d e no_token = subst (λ (z : List Item). IsViablePrefix n a_stmt (repeated p) z) (append_assoc a c []) (of_map {f = λ x. stmt_tree x.0 x.1} (of_first (of_more (is_map (is_then d e)) no_token)))
labelled_front n p a c t x d e (of_map no_token) = subst (λ (z : List Item). IsViablePrefix n a_stmt (repeated p) z) (append_assoc a c []) (of_map {f = λ x. stmt_tree x.0 x.1} (of_first (of_more (is_map (is_then d e)) no_token)))
labelled_front n p a c t x {v = v} d e (of_map (of_first q)) = subst (λ (z : List Item). IsViablePrefix n a_stmt (repeated p) z) (append_assoc a c v) (of_map {f = λ x. stmt_tree x.0 x.1} (of_first (of_more (is_map (is_then d e)) q)))
labelled_front n p a c t x d e (of_map (of_second {u = l} {v = m} ls q)) =
    subst (λ (z : List Item). IsViablePrefix n a_stmt (repeated p) z) (append_assoc (a ++ c) l m ∙ append_assoc a c (l ++ m)) (of_map {f = λ x. stmt_tree x.0 x.1} (of_second (is_more (is_map (is_then d e)) ls) q))

front_there : {n : ℕ} (p : Bool) {w : List Item} → IsViablePrefix n a_stmt (again (labelled p)) w → IsViablePrefix n a_stmt (repeated p) w
unfolding again_rule stmt unlabelled
front_there p no_token = no_token
front_there p (of_again no_token) = no_token
front_there p (of_again (of_left no_token)) = no_token
front_there p (of_again (of_left (of_map no_token))) = no_token
front_there {n = n} p (of_again (of_left (of_map (of_first q)))) = begins_label n p (of_map (of_first q))
front_there {n = n} p (of_again (of_left (of_map (of_second d no_token)))) = begins_label n p (of_map (of_second d no_token))
front_there {n = n} p (of_again (of_left (of_map (of_second d (of_left no_token))))) = begins_label n p (of_map (of_second d no_token))
front_there {n = n} p (of_again (of_left (of_map (of_second d (of_left (of_map no_token)))))) = begins_label n p (of_map (of_second d no_token))
front_there {n = n} p (of_again (of_left (of_map (of_second d (of_left (of_map (of_map no_token))))))) = begins_label n p (of_map (of_second d no_token))
front_there {n = n} p (of_again (of_left (of_map (of_second d (of_left (of_map (of_map (of_first q)))))))) = begins_label n p (of_map (of_second d q))
front_there {n = n} p (of_again (of_left (of_map (of_second {u = a} {x = x} d (of_left (of_map (of_map (of_second {u = c} {x = t} e k)))))))) = labelled_front n p a c t x d e (front_there p k)
front_there {n = n} p (of_again (of_left (of_map (of_second d (of_right no_token))))) = begins_label n p (of_map (of_second d no_token))
front_there {n = n} p (of_again (of_left (of_map (of_second d (of_right (of_map q)))))) = bare_form n p (of_left (of_map (of_second d (of_map q))))
front_there p (of_again (of_right no_token)) = no_token
front_there p (of_again (of_right (of_left no_token))) = no_token
front_there {n = n} p (of_again (of_right (of_left (of_map q)))) = bare_form n p (of_right (of_left (of_map q)))
front_there p (of_again (of_right (of_right no_token))) = no_token
front_there p (of_again (of_right (of_right (of_left no_token)))) = no_token
front_there {n = n} p (of_again (of_right (of_right (of_left (of_map q))))) = bare_form n p (of_right (of_right (of_left (of_map q))))
front_there p (of_again (of_right (of_right (of_right no_token)))) = no_token
front_there {n = n} p (of_again (of_right (of_right (of_right (of_map q))))) = bare_form n p (of_right (of_right (of_right (of_map q))))

-- the rest of a statement without labels, behind a name
behind_name : {n : ℕ} {p : Bool} {v : List Item} → IsViablePrefix n (a_from a_name a_form) (simple_behind ⇒ (λ f x. form_tree.Simple (f x))) v
    → IsViablePrefix n (a_from a_name a_stmt) (symbol symbols.Colon *> again (labelled p) ⇒ (λ s x. with_label x s) ∣ simple_behind ⇒ (λ f x. simple_stmt (f x))) v
behind_name no_token = no_token
behind_name (of_map q) = of_right (of_map q)

front_bare : (n : ℕ) (p : Bool) {w : List Item} → IsViablePrefix n a_form (unlabelled p) w → IsViablePrefix n a_stmt (again (labelled p)) w
unfolding again_rule stmt unlabelled
front_bare n p no_token = no_token
front_bare n p (of_left q) = of_again (of_left (name_front q (λ v r. behind_name {p = p} r)))
front_bare n p (of_right no_token) = no_token
front_bare n p (of_right (of_left no_token)) = no_token
front_bare n p (of_right (of_left (of_map q))) = of_again (of_right (of_left (of_map q)))
front_bare n p (of_right (of_right no_token)) = no_token
front_bare n p (of_right (of_right (of_left no_token))) = no_token
front_bare n p (of_right (of_right (of_left (of_map q)))) = of_again (of_right (of_right (of_left (of_map q))))
front_bare n p (of_right (of_right (of_right no_token))) = no_token
front_bare n p (of_right (of_right (of_right (of_map q)))) = of_again (of_right (of_right (of_right (of_map q))))

may_have_labels : (n : ℕ) (p : Bool) → MayHaveLabels n (λ (w : List Item). IsViablePrefix n a_stmt (again (labelled p)) w)
unfolding again_rule stmt
may_have_labels n p = led_by_labels (labelled p) (λ w q. of_again (of_left q))

front_back : (n : ℕ) (p : Bool) {w : List Item} → IsViablePrefix n a_stmt (repeated p) w → IsViablePrefix n a_stmt (again (labelled p)) w
front_back n p no_token = no_token
front_back n p (of_map no_token) = no_token
front_back n p (of_map (of_first q)) = in_labels (may_have_labels n p) q
front_back n p (of_map (of_second ls q)) = behind_labels (may_have_labels n p) ls (front_bare n p q)

-- ---- the statement's form with its alternatives written out

pub stmt_alike : (p : Bool) → IsAlike a_stmt (written_stmt p) (again (labelled p))
stmt_alike p = alike_through (alike_mapped (alike_behind (form_alike p))) (record {
  derives = λ n u x d. stmt_back n p d;
  derived = λ n u x d. stmt_there p d;
  front = λ n u q. front_back n p q;
  is_front = λ n u q. front_there p q;
})
