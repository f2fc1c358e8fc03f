-- A sequence of parts and what stands for them, and lists of such alternatives.
use Rattle.std.proofs.Common.{◌≡◌, ℕ, List, refl, ap, ◌∙◌}
use Rattle.cw_grammar.specs.Tokens.{Item}
use Rattle.cw_grammar.specs.Grammar.{Sort, a_from, Value, Grammar, none}
use Rattle.cw_grammar.specs.Statements.{from}
use Rattle.cw_grammar.proofs.Distribute.{led, lead, at_first, at_second, led_front, lead_first, lead_second}
use Rattle.cw_grammar.specs.Derives.{Derives, is_none, IsViablePrefix, no_token}

pub data Chain : Sort → Type 0 where
  ends : {s : Sort} → Value s → Chain s
  leads : {r s : Sort} → Grammar r → Chain (a_from r s) → Chain s

abbrev pub grammar : {s : Sort} → Chain s → Grammar s
grammar (ends x) = none x
grammar (leads g c) = from g (grammar c)

-- the same parts, with a function of what stands for them
abbrev pub push : (s t : Sort) → (Value s → Value t) → Chain s → Chain t
push s t f (ends x) = ends (f x)
push s t f (leads {r = r} g c) = leads g (push (a_from r s) (a_from r t) (λ k y. f (k y)) c)

-- ---- one sequence

pub pushed : (n : ℕ) (s t : Sort) (f : Value s → Value t) (c : Chain s) {u : List Item} {x : Value s} → Derives n s (grammar c) u x → Derives n t (grammar (push s t f c)) u (f x)
pushed n s t f (ends v) is_none = is_none
pushed n s t f (leads {r = r} g c) {u = u} {x = x} d =
    let p = led n r s g (grammar c) u x d in
    lead n r t g (grammar (push (a_from r s) (a_from r t) (λ k y. f (k y)) c)) u p.one p.two p.value (λ y. f (p.rest y)) (f x) p.parts (ap f p.gives) p.first (pushed n (a_from r s) (a_from r t) (λ k y. f (k y)) c p.second)

pub record Pulled (n : ℕ) (s t : Sort) (f : Value s → Value t) (c : Chain s) (u : List Item) (z : Value t) : Type 0 where
  pub value : Value s
  pub gives : f value ≡ z
  pub derives : Derives n s (grammar c) u value

pub pulled : (n : ℕ) (s t : Sort) (f : Value s → Value t) (c : Chain s) {u : List Item} {z : Value t} → Derives n t (grammar (push s t f c)) u z → Pulled n s t f c u z
pulled n s t f (ends v) is_none = record { value = v; gives = refl; derives = is_none }
pulled n s t f (leads {r = r} g c) {u = u} {z = z} d =
    let p = led n r t g (grammar (push (a_from r s) (a_from r t) (λ k y. f (k y)) c)) u z d in
    let q = pulled n (a_from r s) (a_from r t) (λ k y. f (k y)) c p.second in
    record {
      value = q.value p.value;
      gives = ap (λ (k : Value r → Value t). k p.value) q.gives ∙ p.gives;
      derives = lead n r s g (grammar c) u p.one p.two p.value q.value (q.value p.value) p.parts refl p.first q.derives;
    }

-- ---- fronts

pub pushed_front : (n : ℕ) (s t : Sort) (f : Value s → Value t) (c : Chain s) {u : List Item} → IsViablePrefix n s (grammar c) u → IsViablePrefix n t (grammar (push s t f c)) u
pushed_front n s t f (ends v) no_token = no_token
pushed_front n s t f (leads {r = r} g c) {u = u} p = elim (led_front n r s g (grammar c) u p) [
  | at_first q ↦ lead_first n r t g (grammar (push (a_from r s) (a_from r t) (λ k y. f (k y)) c)) u q
  | at_second a b x e d q ↦ lead_second n r t g (grammar (push (a_from r s) (a_from r t) (λ k y. f (k y)) c)) u a b x e d (pushed_front n (a_from r s) (a_from r t) (λ k y. f (k y)) c q)
]

pub pulled_front : (n : ℕ) (s t : Sort) (f : Value s → Value t) (c : Chain s) {u : List Item} → IsViablePrefix n t (grammar (push s t f c)) u → IsViablePrefix n s (grammar c) u
pulled_front n s t f (ends v) no_token = no_token
pulled_front n s t f (leads {r = r} g c) {u = u} p = elim (led_front n r t g (grammar (push (a_from r s) (a_from r t) (λ k y. f (k y)) c)) u p) [
  | at_first q ↦ lead_first n r s g (grammar c) u q
  | at_second a b x e d q ↦ lead_second n r s g (grammar c) u a b x e d (pulled_front n (a_from r s) (a_from r t) (λ k y. f (k y)) c q)
]
