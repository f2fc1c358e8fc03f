-- What begins with a common part is the same written out: `from g (h ∣ k)` has the texts, the trees and the fronts of `from g h ∣ from g k`.
use Rattle.std.proofs.Common.{◌≡◌, ℕ, List, ◌++◌, refl, subst, inl, inr, ◌⊎◌}
use Rattle.cw_grammar.specs.Tokens.{Item}
use Rattle.cw_grammar.specs.Grammar.{Sort, a_pair, a_from, Value, Grammar, ◌·◌, ◌∣◌, ◌⇒◌}
use Rattle.cw_grammar.specs.Statements.{from}
use Rattle.cw_grammar.specs.Derives.{Derives, is_then, is_left, is_right, is_map, IsViablePrefix, no_token, of_first, of_second, of_left, of_right, of_map}

-- ---- what is led by a part: its texts, of which that part is the front, and their fronts

record Mapped (n : ℕ) (s t : Sort) (f : Value s → Value t) (g : Grammar s) (w : List Item) (x : Value t) : Type 0 where
  value : Value s
  gives : f value ≡ x
  derives : Derives n s g w value

record Parts (n : ℕ) (s t : Sort) (g : Grammar s) (h : Grammar t) (w : List Item) (z : Value s × Value t) : Type 0 where
  one : List Item
  two : List Item
  parts : one ++ two ≡ w
  first : Derives n s g one z.0
  second : Derives n t h two z.1

from_map : {n : ℕ} {s t : Sort} {f : Value s → Value t} {g : Grammar s} {w : List Item} {x : Value t} → Derives n t (g ⇒ f) w x → Mapped n s t f g w x
from_map (is_map {x = y} d) = record { value = y; gives = refl; derives = d }

from_then : {n : ℕ} {s t : Sort} {g : Grammar s} {h : Grammar t} {w : List Item} {z : Value (a_pair s t)} → Derives n (a_pair s t) (g · h) w z → Parts n s t g h w z
from_then (is_then {u = u} {v = v} d e) = record { one = u; two = v; parts = refl; first = d; second = e }

pub record Led (n : ℕ) (r s : Sort) (g : Grammar r) (h : Grammar (a_from r s)) (w : List Item) (x : Value s) : Type 0 where
  pub one : List Item
  pub two : List Item
  pub value : Value r
  pub rest : Value r → Value s
  pub parts : one ++ two ≡ w
  pub gives : rest value ≡ x
  pub first : Derives n r g one value
  pub second : Derives n (a_from r s) h two rest

pub led : (n : ℕ) (r s : Sort) (g : Grammar r) (h : Grammar (a_from r s)) (w : List Item) (x : Value s) → Derives n s (from g h) w x → Led n r s g h w x
led n r s g h w x d =
    let m = from_map d in
    let p = from_then m.derives in
    record { one = p.one; two = p.two; value = m.value.0; rest = m.value.1; parts = p.parts; gives = m.gives; first = p.first; second = p.second }

pub lead : (n : ℕ) (s t : Sort) (g : Grammar s) (h : Grammar (a_from s t)) (w a b : List Item) (y : Value s) (f : Value s → Value t) (x : Value t) → a ++ b ≡ w → f y ≡ x → Derives n s g a y → Derives n (a_from s t) h b f → Derives n t (from g h) w x
lead n s t g h w a b y f x e gives d k =
    let F : Value t → Type 0 = λ z. Derives n t (from g h) w z in
    let W : List Item → Type 0 = λ z. Derives n t (from g h) z (f y) in
    subst F gives (subst W e (is_map {s = a_pair s (a_from s t)} {f = λ x. x.1 x.0} (is_then d k)))

pub data LedFront (n : ℕ) (r s : Sort) (g : Grammar r) (h : Grammar (a_from r s)) (w : List Item) : Type 0 where
  at_first : IsViablePrefix n r g w → LedFront n r s g h w
  at_second : (u v : List Item) (x : Value r) → u ++ v ≡ w → Derives n r g u x → IsViablePrefix n (a_from r s) h v → LedFront n r s g h w

then_front : {n : ℕ} {r s : Sort} {g : Grammar r} {h : Grammar (a_from r s)} {w : List Item} → IsViablePrefix n (a_pair r (a_from r s)) (g · h) w → LedFront n r s g h w
then_front no_token = at_first no_token
then_front (of_first p) = at_first p
then_front (of_second {u = u} {v = v} {x = x} d e) = at_second u v x refl d e

pub map_front : {n : ℕ} {s t : Sort} {g : Grammar s} {f : Value s → Value t} {w : List Item} → IsViablePrefix n t (g ⇒ f) w → IsViablePrefix n s g w
map_front no_token = no_token
map_front (of_map p) = p

pub led_front : (n : ℕ) (r s : Sort) (g : Grammar r) (h : Grammar (a_from r s)) (w : List Item) → IsViablePrefix n s (from g h) w → LedFront n r s g h w
led_front n r s g h w p = then_front (map_front p)

pub lead_first : (n : ℕ) (r s : Sort) (g : Grammar r) (h : Grammar (a_from r s)) (w : List Item) → IsViablePrefix n r g w → IsViablePrefix n s (from g h) w
lead_first n r s g h w p = of_map {s = a_pair r (a_from r s)} {f = λ x. x.1 x.0} (of_first p)

pub lead_second : (n : ℕ) (r s : Sort) (g : Grammar r) (h : Grammar (a_from r s)) (w u v : List Item) (x : Value r) → u ++ v ≡ w → Derives n r g u x → IsViablePrefix n (a_from r s) h v → IsViablePrefix n s (from g h) w
lead_second n r s g h w u v x e d p =
    let W : List Item → Type 0 = λ z. IsViablePrefix n s (from g h) z in
    subst W e (of_map {s = a_pair r (a_from r s)} {f = λ x. x.1 x.0} (of_second d p))

-- ---- either

from_or : {n : ℕ} {s : Sort} {g h : Grammar s} {w : List Item} {x : Value s} → Derives n s (g ∣ h) w x → Derives n s g w x ⊎ Derives n s h w x
from_or (is_left d) = inl d
from_or (is_right d) = inr d

pub written_out : (n : ℕ) (s t : Sort) (g : Grammar s) (h k : Grammar (a_from s t)) (w : List Item) (x : Value t) → Derives n t (from g (h ∣ k)) w x → Derives n t (from g h ∣ from g k) w x
written_out n s t g h k w x d =
    let p = led n s t g (h ∣ k) w x d in
    elim (from_or p.second) [
      | inl e ↦ is_left (lead n s t g h w p.one p.two p.value p.rest x p.parts p.gives p.first e)
      | inr e ↦ is_right (lead n s t g k w p.one p.two p.value p.rest x p.parts p.gives p.first e)
    ]

pub taken_out : (n : ℕ) (s t : Sort) (g : Grammar s) (h k : Grammar (a_from s t)) (w : List Item) (x : Value t) → Derives n t (from g h ∣ from g k) w x → Derives n t (from g (h ∣ k)) w x
taken_out n s t g h k w x d = elim (from_or d) [
  | inl e ↦ (let p = led n s t g h w x e in lead n s t g (h ∣ k) w p.one p.two p.value p.rest x p.parts p.gives p.first (is_left p.second))
  | inr e ↦ (let p = led n s t g k w x e in lead n s t g (h ∣ k) w p.one p.two p.value p.rest x p.parts p.gives p.first (is_right p.second))
]

or_prefix : {n : ℕ} {s : Sort} {g h : Grammar s} {w : List Item} → IsViablePrefix n s (g ∣ h) w → IsViablePrefix n s g w ⊎ IsViablePrefix n s h w
or_prefix no_token = inl no_token
or_prefix (of_left p) = inl p
or_prefix (of_right p) = inr p

pub front_written_out : (n : ℕ) (s t : Sort) (g : Grammar s) (h k : Grammar (a_from s t)) (w : List Item) → IsViablePrefix n t (from g (h ∣ k)) w → IsViablePrefix n t (from g h ∣ from g k) w
front_written_out n s t g h k w p = elim (led_front n s t g (h ∣ k) w p) [
  | at_first q ↦ of_left (lead_first n s t g h w q)
  | at_second u v x e d q ↦ elim (or_prefix q) [
    | inl r ↦ of_left (lead_second n s t g h w u v x e d r)
    | inr r ↦ of_right (lead_second n s t g k w u v x e d r)
  ]
]

pub front_taken_out : (n : ℕ) (s t : Sort) (g : Grammar s) (h k : Grammar (a_from s t)) (w : List Item) → IsViablePrefix n t (from g h ∣ from g k) w → IsViablePrefix n t (from g (h ∣ k)) w
front_taken_out n s t g h k w p = elim (or_prefix p) [
  | inl q ↦ elim (led_front n s t g h w q) [ at_first r ↦ lead_first n s t g (h ∣ k) w r | at_second u v x e d r ↦ lead_second n s t g (h ∣ k) w u v x e d (of_left r) ]
  | inr q ↦ elim (led_front n s t g k w q) [ at_first r ↦ lead_first n s t g (h ∣ k) w r | at_second u v x e d r ↦ lead_second n s t g (h ∣ k) w u v x e d (of_right r) ]
]
