-- The places of presets: the rule that leads back to itself is alike a repetition.
use Rattle.std.proofs.Common.{◌≡◌, ℕ, List, [], ◌∷◌, ◌++◌, refl, sym, subst, append_assoc}
use Rattle.cw_lex.specs.declared.token.Symbol.TheVariants as symbols
use Rattle.cw_tree.specs.declared.leaf.Position.{Position}
use Rattle.cw_tree.specs.declared.items.RawPlace.{RawPlace}
use Rattle.cw_grammar.specs.Tokens.{Item, position}
use Rattle.cw_grammar.specs.Grammar.{Sort, a_token, a_pair, a_list, a_from, a_position, a_place, Grammar, ◌·◌, ◌∣◌, many, ◌⇒◌, again, places}
use Rattle.cw_grammar.specs.Rules.{symbol}
use Rattle.cw_grammar.specs.Statements.{place, further_places, presets}
use Rattle.cw_grammar.specs.Table.{again_rule}
use Rattle.cw_grammar.specs.Derives.{Derives, is_none, is_then, is_left, is_right, is_end, is_more, is_map, is_again, IsViablePrefix, no_token, of_first, of_second, of_left, of_right, of_item, of_more, of_map, of_again}
use Rattle.cw_written.specs.Alike.{IsAlike}
use Rattle.cw_written.specs.Written.{presets as repeated, further_place, joined}

abbrev Places : Sort
Places = a_from a_position (a_list a_place)

abbrev Found : Type 0
Found = Position → List RawPlace

abbrev behind : List Item → List Item → List Item → List Item → Type 0
behind a c b l = a ++ ((c ++ b) ++ l) ≡ a ++ (c ++ (b ++ l))

moved : (a c b l : List Item) → behind a c b l
moved a c b l = subst (λ (z : List Item). a ++ ((c ++ b) ++ l) ≡ a ++ z) (append_assoc c b l) refl

place_more : (n : ℕ) (a c : List Item) (f : Found) (t : Item) {v : List Item} {g : Found} → Derives n Places place a f → Derives n a_token (symbol symbols.Comma) c t → Derives n Places repeated v g → Derives n Places repeated (a ++ (c ++ v)) (λ before. f before ++ g (position t))
place_more n a c f t d e (is_map (is_then {u = b} {v = l} {x = h} {y = ls} p q)) =
    subst (λ (z : List Item). Derives n Places repeated z (λ before. f before ++ (h (position t) ++ joined ls))) (moved a c b l) (is_map {f = λ x before. x.0 before ++ joined x.1} (is_then d (is_more (is_map (is_then e p)) q)))

places_there : {n : ℕ} {w : List Item} {x : Found} → Derives n Places (again places) w x → Derives n Places repeated w x
unfolding again_rule presets further_places
places_there {n = n} (is_again (is_map (is_then {u = a} {x = f} d (is_left (is_map (is_then {u = c} {x = t} e k)))))) = place_more n a c f t d e (places_there k)
places_there (is_again (is_map (is_then d (is_right is_none)))) = is_map {f = λ x before. x.0 before ++ joined x.1} (is_then d is_end)

places_from : (n : ℕ) {u v : List Item} {f : Found} {ls : List (List RawPlace)} → Derives n Places place u f → Derives n (a_list (a_list a_place)) (many further_place) v ls → Derives n Places (again places) (u ++ v) (λ before. f before ++ joined ls)
unfolding again_rule presets further_places
places_from n d is_end = is_again (is_map (is_then d (is_right is_none)))
places_from n {u = a} {f = f} d (is_more {v = w} {xs = ls} (is_map (is_then {u = c} {v = b} {x = t} {y = h} e p)) q) =
    subst (λ (z : List Item). Derives n Places (again places) z (λ before. f before ++ (h (position t) ++ joined ls))) (sym (moved a c b w)) (is_again (is_map (is_then d (is_left (is_map (is_then e (places_from n p q)))))))

places_back : (n : ℕ) {w : List Item} {x : Found} → Derives n Places repeated w x → Derives n Places (again places) w x
places_back n (is_map (is_then d q)) = places_from n d q

-- ---- fronts

place_front : (n : ℕ) (a c : List Item) (f : Found) (t : Item) {v : List Item} → Derives n Places place a f → Derives n a_token (symbol symbols.Comma) c t → IsViablePrefix n Places repeated v → IsViablePrefix n Places repeated (a ++ (c ++ v))
place_front n a c f t d e no_token = of_map {f = λ x before. x.0 before ++ joined x.1} (of_second d (of_item (of_map (of_second e no_token))))
place_front n a c f t d e (of_map no_token) = of_map {f = λ x before. x.0 before ++ joined x.1} (of_second d (of_item (of_map (of_second e no_token))))
place_front n a c f t d e (of_map (of_first q)) = of_map {f = λ x before. x.0 before ++ joined x.1} (of_second d (of_item (of_map (of_second e q))))
place_front n a c f t d e (of_map (of_second {u = b} {v = l} p q)) =
    subst (λ (z : List Item). IsViablePrefix n Places repeated z) (moved a c b l) (of_map {f = λ x before. x.0 before ++ joined x.1} (of_second d (of_more (is_map (is_then e p)) q)))

front_there : {n : ℕ} {w : List Item} → IsViablePrefix n Places (again places) w → IsViablePrefix n Places repeated w
unfolding again_rule presets further_places
front_there no_token = no_token
front_there (of_again no_token) = no_token
front_there (of_again (of_map no_token)) = no_token
front_there (of_again (of_map (of_first q))) = of_map {f = λ x before. x.0 before ++ joined x.1} (of_first q)
front_there (of_again (of_map (of_second d no_token))) = of_map {f = λ x before. x.0 before ++ joined x.1} (of_second d no_token)
front_there (of_again (of_map (of_second d (of_left no_token)))) = of_map {f = λ x before. x.0 before ++ joined x.1} (of_second d no_token)
front_there (of_again (of_map (of_second d (of_left (of_map no_token))))) = of_map {f = λ x before. x.0 before ++ joined x.1} (of_second d no_token)
front_there (of_again (of_map (of_second d (of_left (of_map (of_first q)))))) = of_map {f = λ x before. x.0 before ++ joined x.1} (of_second d (of_item (of_map (of_first q))))
front_there {n = n} (of_again (of_map (of_second {u = a} {x = f} d (of_left (of_map (of_second {u = c} {x = t} e k)))))) = place_front n a c f t d e (front_there k)
front_there (of_again (of_map (of_second d (of_right no_token)))) = of_map {f = λ x before. x.0 before ++ joined x.1} (of_second d no_token)

front_from : (n : ℕ) {u v : List Item} {f : Found} → Derives n Places place u f → IsViablePrefix n (a_list (a_list a_place)) (many further_place) v → IsViablePrefix n Places (again places) (u ++ v)
unfolding again_rule presets further_places
front_from n d no_token = of_again (of_map (of_second d no_token))
front_from n d (of_item no_token) = of_again (of_map (of_second d no_token))
front_from n d (of_item (of_map no_token)) = of_again (of_map (of_second d no_token))
front_from n d (of_item (of_map (of_first q))) = of_again (of_map (of_second d (of_left (of_map (of_first q)))))
front_from n d (of_item (of_map (of_second e q))) = of_again (of_map (of_second d (of_left (of_map (of_second e (of_again (of_map (of_first q))))))))
front_from n {u = a} d (of_more {v = w} (is_map (is_then {u = c} {v = b} e p)) q) =
    subst (λ (z : List Item). IsViablePrefix n Places (again places) z) (sym (moved a c b w)) (of_again (of_map (of_second d (of_left (of_map (of_second e (front_from n p q)))))))

front_back : (n : ℕ) {w : List Item} → IsViablePrefix n Places repeated w → IsViablePrefix n Places (again places) w
unfolding again_rule presets
front_back n no_token = no_token
front_back n (of_map no_token) = no_token
front_back n (of_map (of_first q)) = of_again (of_map (of_first q))
front_back n (of_map (of_second d q)) = front_from n d q

pub presets_alike : IsAlike Places repeated (again places)
presets_alike = record {
  derives = λ n u x d. places_back n d;
  derived = λ n u x d. places_there d;
  front = λ n u q. front_back n q;
  is_front = λ n u q. front_there q;
}
