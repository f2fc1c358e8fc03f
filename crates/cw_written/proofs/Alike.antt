-- What is alike in a part is alike in the whole.
use Rattle.std.proofs.Common.{ℕ, List}
use Rattle.cw_grammar.specs.Tokens.{Item}
use Rattle.cw_grammar.specs.Grammar.{Sort, a_pair, Value, Grammar, ◌·◌, ◌⇒◌}
use Rattle.cw_grammar.specs.Derives.{Derives, is_then, is_map, IsViablePrefix, no_token, of_first, of_second, of_map}
use Rattle.cw_written.specs.Alike.{IsAlike}

behind_derives : {n : ℕ} {s t : Sort} {e : Grammar s} {g h : Grammar t} → ((v : List Item) (y : Value t) → Derives n t g v y → Derives n t h v y)
    → {w : List Item} {x : Value s × Value t} → Derives n (a_pair s t) (e · g) w x → Derives n (a_pair s t) (e · h) w x
behind_derives k (is_then {v = v} {y = y} d i) = is_then d (k v y i)

behind_front : {n : ℕ} {s t : Sort} {e : Grammar s} {g h : Grammar t} → ((v : List Item) → IsViablePrefix n t g v → IsViablePrefix n t h v)
    → {w : List Item} → IsViablePrefix n (a_pair s t) (e · g) w → IsViablePrefix n (a_pair s t) (e · h) w
behind_front k no_token = no_token
behind_front k (of_first q) = of_first q
behind_front k (of_second {v = v} d q) = of_second d (k v q)

pub alike_behind : {s t : Sort} {e : Grammar s} {g h : Grammar t} → IsAlike t g h → IsAlike (a_pair s t) (e · g) (e · h)
alike_behind k = record {
  derives = λ n u x d. behind_derives (k.derives n) d;
  derived = λ n u x d. behind_derives (k.derived n) d;
  front = λ n u q. behind_front (k.front n) q;
  is_front = λ n u q. behind_front (k.is_front n) q;
}

mapped_derives : {n : ℕ} {s t : Sort} {f : Value s → Value t} {g h : Grammar s} → ((u : List Item) (x : Value s) → Derives n s g u x → Derives n s h u x)
    → {u : List Item} {y : Value t} → Derives n t (g ⇒ f) u y → Derives n t (h ⇒ f) u y
mapped_derives {f = f} k (is_map {u = u} {x = x} d) = is_map {f = f} (k u x d)

mapped_front : {n : ℕ} {s t : Sort} {f : Value s → Value t} {g h : Grammar s} → ((u : List Item) → IsViablePrefix n s g u → IsViablePrefix n s h u)
    → {u : List Item} → IsViablePrefix n t (g ⇒ f) u → IsViablePrefix n t (h ⇒ f) u
mapped_front k no_token = no_token
mapped_front {f = f} k (of_map {u = u} q) = of_map {f = f} (k u q)

pub alike_mapped : {s t : Sort} {f : Value s → Value t} {g h : Grammar s} → IsAlike s g h → IsAlike t (g ⇒ f) (h ⇒ f)
alike_mapped {f = f} k = record {
  derives = λ n u x d. mapped_derives {f = f} (k.derives n) d;
  derived = λ n u x d. mapped_derives {f = f} (k.derived n) d;
  front = λ n u q. mapped_front {f = f} (k.front n) q;
  is_front = λ n u q. mapped_front {f = f} (k.is_front n) q;
}

pub alike_through : {s : Sort} {f g h : Grammar s} → IsAlike s f g → IsAlike s g h → IsAlike s f h
alike_through a b = record {
  derives = λ n u x d. b.derives n u x (a.derives n u x d);
  derived = λ n u x d. a.derived n u x (b.derived n u x d);
  front = λ n u q. b.front n u (a.front n u q);
  is_front = λ n u q. a.is_front n u (b.is_front n u q);
}
