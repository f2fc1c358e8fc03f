-- Labels before a statement that is no IF and no FOR.
use Rattle.std.proofs.Common.{ℕ, Bool, List, [], ◌∷◌, ◌++◌, sym, subst, ◌∙◌, append_assoc}
use Rattle.cw_lex.specs.declared.token.Symbol.TheVariants as symbols
use Rattle.cw_tree.specs.declared.leaf.RawName.{RawName}
use Rattle.cw_tree.specs.declared.statement.RawSimple.{RawSimple}
use Rattle.cw_grammar.specs.Tokens.{Item}
use Rattle.cw_grammar.specs.Grammar.{Sort, a_token, a_pair, a_list, a_name, a_simple, Grammar, ◌·◌, many, again, labelled_simple}
use Rattle.cw_grammar.specs.Rules.{symbol, name}
use Rattle.cw_grammar.specs.Statements.{simple}
use Rattle.cw_grammar.specs.Labels.{unlabelled_simple}
use Rattle.cw_grammar.specs.Table.{again_rule}
use Rattle.cw_grammar.specs.Derives.{Derives, is_then, is_left, is_right, is_end, is_more, is_map, is_again, IsViablePrefix, no_token, of_first, of_second, of_left, of_right, of_item, of_more, of_map, of_again}
use Rattle.cw_written.specs.Alike.{IsAlike}
use Rattle.cw_written.specs.Written.{labelled_simple as written_simple}
use Rattle.cw_written.proofs.Rules.{simple_alike}
use Rattle.cw_written.proofs.Alike.{alike_behind, alike_through}
use Rattle.cw_written.proofs.Fronts.{label, MayHaveLabels, in_labels, behind_labels, led_by_labels, name_front}

abbrev Pair : Sort
Pair = a_pair (a_list a_name) a_simple

abbrev repeated : Bool → Grammar Pair
repeated p = many label · unlabelled_simple p

abbrev Front : ℕ → Bool → List Item → Type 0
Front n p w = IsViablePrefix n Pair (repeated p) w

labelled_more : (n : ℕ) (p : Bool) (a c : List Item) (t : Item) (x : RawName) {v : List Item} {y : List RawName × RawSimple} → Derives n a_name name a x → Derives n a_token (symbol symbols.Colon) c t → Derives n Pair (repeated p) v y → Derives n Pair (repeated p) (a ++ (c ++ v)) (x ∷ y.0, y.1)
labelled_more n p a c t x d e (is_then {u = l} {v = m} {x = ns} {y = f} ls k) =
    subst (λ (z : List Item). Derives n Pair (repeated p) z (x ∷ ns, f)) (append_assoc (a ++ c) l m ∙ append_assoc a c (l ++ m)) (is_then (is_more (is_map (is_then d e)) ls) k)

simple_there : {n : ℕ} (p : Bool) {w : List Item} {x : List RawName × RawSimple} → Derives n Pair (again (labelled_simple p)) w x → Derives n Pair (repeated p) w x
unfolding again_rule simple unlabelled_simple
simple_there {n = n} p (is_again (is_left (is_map (is_then {u = a} {x = x} d (is_left (is_map (is_map (is_then {u = c} {x = t} e k)))))))) = labelled_more n p a c t x d e (simple_there p k)
simple_there p (is_again (is_left (is_map (is_then d (is_right (is_map e)))))) = is_then is_end (is_left (is_map (is_then d e)))
simple_there p (is_again (is_right (is_map d))) = is_then is_end (is_right d)

simple_bare : (n : ℕ) (p : Bool) {w : List Item} {f : RawSimple} → Derives n a_simple (unlabelled_simple p) w f → Derives n Pair (again (labelled_simple p)) w ([], f)
unfolding again_rule simple unlabelled_simple
simple_bare n p (is_left (is_map (is_then d e))) = is_again (is_left (is_map (is_then d (is_right (is_map e)))))
simple_bare n p (is_right d) = is_again (is_right (is_map d))

simple_labels : (n : ℕ) (p : Bool) {u v : List Item} {ns : List RawName} {f : RawSimple} → Derives n (a_list a_name) (many label) u ns → Derives n a_simple (unlabelled_simple p) v f → Derives n Pair (again (labelled_simple p)) (u ++ v) (ns, f)
unfolding again_rule simple
simple_labels n p is_end d = simple_bare n p d
simple_labels n p {v = v} {f = f} (is_more {v = w} {xs = ns} (is_map (is_then {u = a} {v = c} {x = x} d e)) ls) k =
    subst (λ (z : List Item). Derives n Pair (again (labelled_simple p)) z (x ∷ ns, f)) (sym (append_assoc (a ++ c) w v ∙ append_assoc a c (w ++ v))) (is_again (is_left (is_map (is_then d (is_left (is_map (is_map (is_then e (simple_labels n p ls k)))))))))

simple_back : (n : ℕ) (p : Bool) {w : List Item} {x : List RawName × RawSimple} → Derives n Pair (repeated p) w x → Derives n Pair (again (labelled_simple p)) w x
simple_back n p (is_then d e) = simple_labels n p d e

-- ---- fronts

labelled_front : (n : ℕ) (p : Bool) (a c : List Item) (t : Item) (x : RawName) {v : List Item} → Derives n a_name name a x → Derives n a_token (symbol symbols.Colon) c t → Front n p v → Front n p (a ++ (c ++ v))
labelled_front n p a c t x d e no_token = subst (Front n p) (append_assoc a c []) (of_first (of_more (is_map (is_then d e)) no_token))
labelled_front n p a c t x {v = v} d e (of_first q) = subst (Front n p) (append_assoc a c v) (of_first (of_more (is_map (is_then d e)) q))
labelled_front n p a c t x d e (of_second {u = l} {v = m} ls q) =
    subst (Front n p) (append_assoc (a ++ c) l m ∙ append_assoc a c (l ++ m)) (of_second (is_more (is_map (is_then d e)) ls) q)

front_there : {n : ℕ} (p : Bool) {w : List Item} → IsViablePrefix n Pair (again (labelled_simple p)) w → Front n p w
unfolding again_rule simple unlabelled_simple
front_there p no_token = no_token
front_there p (of_again no_token) = no_token
front_there p (of_again (of_left no_token)) = no_token
front_there p (of_again (of_left (of_map no_token))) = no_token
front_there p (of_again (of_left (of_map (of_first q)))) = of_first (of_item (of_map (of_first q)))
front_there p (of_again (of_left (of_map (of_second d no_token)))) = of_first (of_item (of_map (of_second d no_token)))
front_there p (of_again (of_left (of_map (of_second d (of_left no_token))))) = of_first (of_item (of_map (of_second d no_token)))
front_there p (of_again (of_left (of_map (of_second d (of_left (of_map no_token)))))) = of_first (of_item (of_map (of_second d no_token)))
front_there p (of_again (of_left (of_map (of_second d (of_left (of_map (of_map no_token))))))) = of_first (of_item (of_map (of_second d no_token)))
front_there p (of_again (of_left (of_map (of_second d (of_left (of_map (of_map (of_first q)))))))) = of_first (of_item (of_map (of_second d q)))
front_there {n = n} p (of_again (of_left (of_map (of_second {u = a} {x = x} d (of_left (of_map (of_map (of_second {u = c} {x = t} e k)))))))) = labelled_front n p a c t x d e (front_there p k)
front_there p (of_again (of_left (of_map (of_second d (of_right no_token))))) = of_first (of_item (of_map (of_second d no_token)))
front_there p (of_again (of_left (of_map (of_second d (of_right (of_map q)))))) = of_second is_end (of_left (of_map (of_second d q)))
front_there p (of_again (of_right no_token)) = no_token
front_there p (of_again (of_right (of_map q))) = of_second is_end (of_right q)

front_bare : (n : ℕ) (p : Bool) {w : List Item} → IsViablePrefix n a_simple (unlabelled_simple p) w → IsViablePrefix n Pair (again (labelled_simple p)) w
unfolding again_rule simple unlabelled_simple
front_bare n p no_token = no_token
front_bare n p (of_left q) = of_again (of_left (name_front q (λ v r. of_right (of_map r))))
front_bare n p (of_right q) = of_again (of_right (of_map q))

may_have_labels : (n : ℕ) (p : Bool) → MayHaveLabels n (λ (w : List Item). IsViablePrefix n Pair (again (labelled_simple p)) w)
unfolding again_rule simple
may_have_labels n p = led_by_labels (labelled_simple p) (λ w q. of_again (of_left q))

front_back : (n : ℕ) (p : Bool) {w : List Item} → Front n p w → IsViablePrefix n Pair (again (labelled_simple p)) w
front_back n p no_token = no_token
front_back n p (of_first q) = in_labels (may_have_labels n p) q
front_back n p (of_second ls q) = behind_labels (may_have_labels n p) ls (front_bare n p q)

-- ---- the statement with its alternatives written out

pub labelled_simple_alike : (p : Bool) → IsAlike Pair (written_simple p) (again (labelled_simple p))
labelled_simple_alike p = alike_through (alike_behind (simple_alike p)) (record {
  derives = λ n u x d. simple_back n p d;
  derived = λ n u x d. simple_there p d;
  front = λ n u q. front_back n p q;
  is_front = λ n u q. front_there p q;
})
