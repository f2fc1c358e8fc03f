-- The elements of a table and its presets: the rule that leads back to itself is alike a repetition.
use Rattle.std.proofs.Common.{ℕ, List, [], ◌∷◌, ◌++◌, Option, sym, subst, ◌∙◌, append_assoc}
use Rattle.cw_lex.specs.declared.token.Symbol.TheVariants as symbols
use Rattle.cw_tree.specs.declared.items.RawElem.{RawElem}
use Rattle.cw_tree.specs.declared.items.RawPresets.{RawPresets}
use Rattle.cw_grammar.specs.Tokens.{Item}
use Rattle.cw_grammar.specs.Grammar.{Sort, a_token, a_pair, a_list, an_option, an_elem, a_presets, Grammar, ◌·◌, many, again, more_elems}
use Rattle.cw_grammar.specs.Rules.{symbol, ◌*>◌}
use Rattle.cw_grammar.specs.Statements.{elem, preset, elems_behind, table_body}
use Rattle.cw_grammar.specs.Table.{again_rule}
use Rattle.cw_grammar.specs.Derives.{Derives, is_none, is_then, is_left, is_right, is_end, is_more, is_map, is_again, IsViablePrefix, no_token, of_first, of_second, of_left, of_right, of_item, of_more, of_map, of_again}
use Rattle.cw_written.specs.Alike.{IsAlike}
use Rattle.cw_written.specs.Written.{table_body as written_body, table_presets}

abbrev Body : Sort
Body = a_pair (a_list an_elem) (an_option a_presets)

abbrev Made : Type 0
Made = List RawElem × Option RawPresets

abbrev more : Grammar an_elem
more = symbol symbols.Semicolon *> elem

abbrev repeated : Grammar Body
repeated = many more · table_presets

elem_more : (n : ℕ) (c a : List Item) (t : Item) (x : RawElem) {v : List Item} {y : Made} → Derives n a_token (symbol symbols.Semicolon) c t → Derives n an_elem elem a x → Derives n Body repeated v y → Derives n Body repeated (c ++ (a ++ v)) (x ∷ y.0, y.1)
elem_more n c a t x d e (is_then {u = l} {v = m} {x = xs} {y = o} ls k) =
    subst (λ (z : List Item). Derives n Body repeated z (x ∷ xs, o)) (append_assoc (c ++ a) l m ∙ append_assoc c a (l ++ m)) (is_then (is_more (is_map (is_then d e)) ls) k)

more_there : {n : ℕ} {w : List Item} {x : Made} → Derives n Body (again more_elems) w x → Derives n Body repeated w x
unfolding again_rule elems_behind
more_there {n = n} (is_again (is_left (is_map (is_then {u = c} {x = t} s (is_left (is_map (is_then {u = a} {x = x} e k))))))) = elem_more n c a t x s e (more_there k)
more_there (is_again (is_left (is_map (is_then s (is_right (is_map p)))))) = is_then is_end (is_left (is_map (is_map (is_then (is_left (is_map s)) p))))
more_there (is_again (is_right (is_left (is_map p)))) = is_then is_end (is_left (is_map (is_map (is_then (is_right is_none) p))))
more_there (is_again (is_right (is_right is_none))) = is_then is_end (is_right is_none)

none_more : (n : ℕ) {w : List Item} {o : Option RawPresets} → Derives n (an_option a_presets) table_presets w o → Derives n Body (again more_elems) w ([], o)
unfolding again_rule elems_behind
none_more n (is_left (is_map (is_map (is_then (is_left (is_map s)) p)))) = is_again (is_left (is_map (is_then s (is_right (is_map p)))))
none_more n (is_left (is_map (is_map (is_then (is_right is_none) p)))) = is_again (is_right (is_left (is_map p)))
none_more n (is_right is_none) = is_again (is_right (is_right is_none))

more_back : (n : ℕ) {u v : List Item} {xs : List RawElem} {o : Option RawPresets} → Derives n (a_list an_elem) (many more) u xs → Derives n (an_option a_presets) table_presets v o → Derives n Body (again more_elems) (u ++ v) (xs, o)
unfolding again_rule elems_behind
more_back n is_end d = none_more n d
more_back n {v = v} {o = o} (is_more {v = w} {xs = xs} (is_map (is_then {u = c} {v = a} {y = x} s e)) ls) k =
    subst (λ (z : List Item). Derives n Body (again more_elems) z (x ∷ xs, o)) (sym (append_assoc (c ++ a) w v ∙ append_assoc c a (w ++ v))) (is_again (is_left (is_map (is_then s (is_left (is_map (is_then e (more_back n ls k))))))))

-- ---- the body

body_elems : (n : ℕ) (a : List Item) (x : RawElem) {v : List Item} {y : Made} → Derives n an_elem elem a x → Derives n Body repeated v y → Derives n Body written_body (a ++ v) (x ∷ y.0, y.1)
body_elems n a x e (is_then {u = l} {v = m} {x = xs} {y = o} ls k) =
    subst (λ (z : List Item). Derives n Body written_body z (x ∷ xs, o)) (append_assoc a l m) (is_then (is_left (is_map (is_then e ls))) k)

body_there : {n : ℕ} {w : List Item} {x : Made} → Derives n Body table_body w x → Derives n Body written_body w x
unfolding table_body
body_there {n = n} (is_left (is_map (is_then {u = a} {x = x} e k))) = body_elems n a x e (more_there k)
body_there (is_right (is_left (is_map p))) = is_then (is_right is_none) (is_left (is_map (is_map (is_then (is_right is_none) p))))
body_there (is_right (is_right (is_left (is_map (is_then s (is_map p)))))) = is_then (is_right is_none) (is_left (is_map (is_map (is_then (is_left (is_map s)) p))))
body_there (is_right (is_right (is_right is_none))) = is_then (is_right is_none) (is_right is_none)

body_back : (n : ℕ) {w : List Item} {x : Made} → Derives n Body written_body w x → Derives n Body table_body w x
unfolding table_body
body_back n (is_then {v = m} {y = o} (is_left (is_map (is_then {u = a} {v = l} {x = x} {y = xs} e ls))) k) =
    subst (λ (z : List Item). Derives n Body table_body z (x ∷ xs, o)) (sym (append_assoc a l m)) (is_left (is_map (is_then e (more_back n ls k))))
body_back n (is_then (is_right is_none) (is_left (is_map (is_map (is_then (is_left (is_map s)) p))))) = is_right (is_right (is_left (is_map (is_then s (is_map p)))))
body_back n (is_then (is_right is_none) (is_left (is_map (is_map (is_then (is_right is_none) p))))) = is_right (is_left (is_map p))
body_back n (is_then (is_right is_none) (is_right is_none)) = is_right (is_right (is_right is_none))

-- ---- fronts

elem_front : (n : ℕ) (c a : List Item) (t : Item) (x : RawElem) {v : List Item} → Derives n a_token (symbol symbols.Semicolon) c t → Derives n an_elem elem a x → IsViablePrefix n Body repeated v → IsViablePrefix n Body repeated (c ++ (a ++ v))
elem_front n c a t x s e no_token = subst (λ (z : List Item). IsViablePrefix n Body repeated z) (append_assoc c a []) (of_first (of_more (is_map (is_then s e)) no_token))
elem_front n c a t x {v = v} s e (of_first q) = subst (λ (z : List Item). IsViablePrefix n Body repeated z) (append_assoc c a v) (of_first (of_more (is_map (is_then s e)) q))
elem_front n c a t x s e (of_second {u = l} {v = m} ls q) = subst (λ (z : List Item). IsViablePrefix n Body repeated z) (append_assoc (c ++ a) l m ∙ append_assoc c a (l ++ m)) (of_second (is_more (is_map (is_then s e)) ls) q)

more_front : {n : ℕ} {w : List Item} → IsViablePrefix n Body (again more_elems) w → IsViablePrefix n Body repeated w
unfolding again_rule elems_behind
more_front no_token = no_token
more_front (of_again no_token) = no_token
more_front (of_again (of_left no_token)) = no_token
more_front (of_again (of_left (of_map no_token))) = no_token
more_front (of_again (of_left (of_map (of_first q)))) = of_first (of_item (of_map (of_first q)))
more_front (of_again (of_left (of_map (of_second s no_token)))) = of_first (of_item (of_map (of_second s no_token)))
more_front (of_again (of_left (of_map (of_second s (of_left no_token))))) = of_first (of_item (of_map (of_second s no_token)))
more_front (of_again (of_left (of_map (of_second s (of_left (of_map no_token)))))) = of_first (of_item (of_map (of_second s no_token)))
more_front (of_again (of_left (of_map (of_second s (of_left (of_map (of_first q))))))) = of_first (of_item (of_map (of_second s q)))
more_front {n = n} (of_again (of_left (of_map (of_second {u = c} {x = t} s (of_left (of_map (of_second {u = a} {x = x} e k))))))) = elem_front n c a t x s e (more_front k)
more_front (of_again (of_left (of_map (of_second s (of_right no_token))))) = of_first (of_item (of_map (of_second s no_token)))
more_front (of_again (of_left (of_map (of_second s (of_right (of_map q)))))) = of_second is_end (of_left (of_map (of_map (of_second (is_left (is_map s)) q))))
more_front (of_again (of_right no_token)) = no_token
more_front (of_again (of_right (of_left no_token))) = no_token
more_front (of_again (of_right (of_left (of_map q)))) = of_second is_end (of_left (of_map (of_map (of_second (is_right is_none) q))))
more_front (of_again (of_right (of_right no_token))) = no_token

-- Such a front may be in a semicolon, or in presets, which may stand behind one.
record MayBePresets (n : ℕ) (Front : List Item → Type 0) : Type 0 where
  nothing : Front []
  in_semicolon : {w : List Item} → IsViablePrefix n a_token (symbol symbols.Semicolon) w → Front w
  alone : {w : List Item} → IsViablePrefix n a_presets preset w → Front w
  behind : {u w : List Item} {t : Item} → Derives n a_token (symbol symbols.Semicolon) u t → IsViablePrefix n a_presets preset w → Front (u ++ w)

in_presets : {n : ℕ} {Front : List Item → Type 0} → MayBePresets n Front → {w : List Item} → IsViablePrefix n (an_option a_presets) table_presets w → Front w
in_presets may no_token = may.nothing
in_presets may (of_left no_token) = may.nothing
in_presets may (of_left (of_map no_token)) = may.nothing
in_presets may (of_left (of_map (of_map no_token))) = may.nothing
in_presets may (of_left (of_map (of_map (of_first no_token)))) = may.nothing
in_presets may (of_left (of_map (of_map (of_first (of_left no_token))))) = may.nothing
in_presets may (of_left (of_map (of_map (of_first (of_left (of_map q)))))) = may.in_semicolon q
in_presets may (of_left (of_map (of_map (of_first (of_right no_token))))) = may.nothing
in_presets may (of_left (of_map (of_map (of_second (is_left (is_map s)) q)))) = may.behind s q
in_presets may (of_left (of_map (of_map (of_second (is_right is_none) q)))) = may.alone q
in_presets may (of_right no_token) = may.nothing

behind_elems : (n : ℕ) → MayBePresets n (λ (w : List Item). IsViablePrefix n Body (again more_elems) w)
unfolding again_rule elems_behind
behind_elems n = record {
  nothing = no_token;
  in_semicolon = λ q. of_again (of_left (of_map (of_first q)));
  alone = λ q. of_again (of_right (of_left (of_map q)));
  behind = λ s q. of_again (of_left (of_map (of_second s (of_right (of_map q)))));
}

front_elem : (n : ℕ) (c a v : List Item) (t : Item) (x : RawElem) → Derives n a_token (symbol symbols.Semicolon) c t → Derives n an_elem elem a x → IsViablePrefix n Body (again more_elems) v → IsViablePrefix n Body (again more_elems) ((c ++ a) ++ v)
unfolding again_rule elems_behind
front_elem n c a v t x s e k = subst (λ (z : List Item). IsViablePrefix n Body (again more_elems) z) (sym (append_assoc c a v)) (of_again (of_left (of_map (of_second s (of_left (of_map (of_second e k)))))))

front_elems : (n : ℕ) {w : List Item} → IsViablePrefix n (a_list an_elem) (many more) w → IsViablePrefix n Body (again more_elems) w
unfolding again_rule elems_behind
front_elems n no_token = no_token
front_elems n (of_item no_token) = no_token
front_elems n (of_item (of_map no_token)) = no_token
front_elems n (of_item (of_map (of_first q))) = of_again (of_left (of_map (of_first q)))
front_elems n (of_item (of_map (of_second s q))) = of_again (of_left (of_map (of_second s (of_left (of_map (of_first q))))))
front_elems n (of_more {v = v} (is_map (is_then {u = c} {v = a} {x = t} {y = x} s e)) q) = front_elem n c a v t x s e (front_elems n q)

front_after : (n : ℕ) {u v : List Item} {xs : List RawElem} → Derives n (a_list an_elem) (many more) u xs → IsViablePrefix n (an_option a_presets) table_presets v → IsViablePrefix n Body (again more_elems) (u ++ v)
front_after n is_end q = in_presets (behind_elems n) q
front_after n {v = v} (is_more {v = w} (is_map (is_then {u = c} {v = a} {x = t} {y = x} s e)) ls) q =
    subst (λ (z : List Item). IsViablePrefix n Body (again more_elems) z) (sym (append_assoc (c ++ a) w v)) (front_elem n c a (w ++ v) t x s e (front_after n ls q))

first_elem : (n : ℕ) (a : List Item) (x : RawElem) {v : List Item} → Derives n an_elem elem a x → IsViablePrefix n Body repeated v → IsViablePrefix n Body written_body (a ++ v)
first_elem n a x e no_token = of_first (of_left (of_map (of_second e no_token)))
first_elem n a x e (of_first q) = of_first (of_left (of_map (of_second e q)))
first_elem n a x e (of_second {u = l} {v = m} ls q) = subst (λ (z : List Item). IsViablePrefix n Body written_body z) (append_assoc a l m) (of_second (is_left (is_map (is_then e ls))) q)

body_front : {n : ℕ} {w : List Item} → IsViablePrefix n Body table_body w → IsViablePrefix n Body written_body w
unfolding table_body
body_front no_token = no_token
body_front (of_left no_token) = no_token
body_front (of_left (of_map no_token)) = no_token
body_front (of_left (of_map (of_first q))) = of_first (of_left (of_map (of_first q)))
body_front {n = n} (of_left (of_map (of_second {u = a} {x = x} e k))) = first_elem n a x e (more_front k)
body_front (of_right no_token) = no_token
body_front (of_right (of_left no_token)) = no_token
body_front (of_right (of_left (of_map q))) = of_second (is_right is_none) (of_left (of_map (of_map (of_second (is_right is_none) q))))
body_front (of_right (of_right no_token)) = no_token
body_front (of_right (of_right (of_left no_token))) = no_token
body_front (of_right (of_right (of_left (of_map no_token)))) = no_token
body_front (of_right (of_right (of_left (of_map (of_first q))))) = of_second (is_right is_none) (of_left (of_map (of_map (of_first (of_left (of_map q))))))
body_front (of_right (of_right (of_left (of_map (of_second s no_token))))) = of_second (is_right is_none) (of_left (of_map (of_map (of_second (is_left (is_map s)) no_token))))
body_front (of_right (of_right (of_left (of_map (of_second s (of_map q)))))) = of_second (is_right is_none) (of_left (of_map (of_map (of_second (is_left (is_map s)) q))))
body_front (of_right (of_right (of_right no_token))) = no_token

without_elems : (n : ℕ) → MayBePresets n (λ (w : List Item). IsViablePrefix n Body table_body w)
unfolding table_body
without_elems n = record {
  nothing = no_token;
  in_semicolon = λ q. of_right (of_right (of_left (of_map (of_first q))));
  alone = λ q. of_right (of_left (of_map q));
  behind = λ s q. of_right (of_right (of_left (of_map (of_second s (of_map q)))));
}

front_body : (n : ℕ) {w : List Item} → IsViablePrefix n Body written_body w → IsViablePrefix n Body table_body w
unfolding table_body
front_body n no_token = no_token
front_body n (of_first no_token) = no_token
front_body n (of_first (of_left no_token)) = no_token
front_body n (of_first (of_left (of_map no_token))) = no_token
front_body n (of_first (of_left (of_map (of_first q)))) = of_left (of_map (of_first q))
front_body n (of_first (of_left (of_map (of_second e q)))) = of_left (of_map (of_second e (front_elems n q)))
front_body n (of_first (of_right no_token)) = no_token
front_body n (of_second {v = m} (is_left (is_map (is_then {u = a} {v = l} e ls))) q) = subst (λ (z : List Item). IsViablePrefix n Body table_body z) (sym (append_assoc a l m)) (of_left (of_map (of_second e (front_after n ls q))))
front_body n (of_second (is_right is_none) q) = in_presets (without_elems n) q

pub table_body_alike : IsAlike Body written_body table_body
table_body_alike = record {
  derives = λ n u x d. body_back n d;
  derived = λ n u x d. body_there d;
  front = λ n u q. front_body n q;
  is_front = λ n u q. body_front q;
}
