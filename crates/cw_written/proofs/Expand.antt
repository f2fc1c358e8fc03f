-- A grammar as the list of its alternatives: two grammars with the same alternatives, in whatever order, are alike.
use Rattle.std.proofs.Common.{◌≡◌, ℕ, zero, suc, List, [], ◌∷◌, ◌++◌, map, refl, sym, ap, subst, inl, inr, ◌⊎◌, ◌∙◌, append_assoc}
use Rattle.std.proofs.lemmas.List.{append-nil}
use Rattle.cw_grammar.specs.Tokens.{Item}
use Rattle.cw_grammar.specs.Grammar.{Sort, a_pair, a_from, Value, Grammar, one, none, ◌·◌, ◌∣◌, many, ◌⇒◌, opens, again}
use Rattle.cw_grammar.specs.Derives.{Derives, is_none, is_then, is_left, is_right, is_map, IsViablePrefix, no_token, of_first, of_second, of_left, of_right, of_map}
use Rattle.cw_grammar.proofs.Whole.{text_is_front}
use Rattle.cw_written.specs.Alike.{IsAlike}
use Rattle.cw_grammar.proofs.Distribute.{led, lead, at_first, at_second, map_front, led_front, lead_first, lead_second}
use Rattle.cw_written.proofs.Chains.{Chain, ends, leads, grammar, push, pushed, pulled, pushed_front, pulled_front}

-- the alternatives of a grammar, each with one of these behind it
abbrev pub expand : {s : Sort} (t : Sort) → Grammar s → List (Chain (a_from s t)) → List (Chain t)
expand t (one k) cs = map (λ c. leads (one k) c) cs
expand t (none {s = s} x) cs = map (λ c. push (a_from s t) t (λ f. f x) c) cs
expand t (◌·◌ {s = a} {t = b} g h) cs = map (λ c. leads g c) (expand (a_from a t) h (map (λ c. push (a_from (a_pair a b) t) (a_from b (a_from a t)) (λ f y x. f (x, y)) c) cs))
expand t (g ∣ h) cs = expand t g cs ++ expand t h cs
expand t (many g) cs = map (λ c. leads (many g) c) cs
expand t (◌⇒◌ {s = a} {t = b} g f) cs = expand t g (map (λ c. push (a_from b t) (a_from a t) (λ k x. k (f x)) c) cs)
expand t (opens k r) cs = map (λ c. leads (opens k r) c) cs
expand t (again a) cs = map (λ c. leads (again a) c) cs

abbrev pub alternatives : (s : Sort) → Grammar s → List (Chain s)
alternatives s g = expand s g (ends {s = a_from s s} (λ x. x) ∷ [])

-- the items of a list at some places
abbrev pub at : {A : Type 0} → ℕ → List A → List A
at n [] = []
at zero (x ∷ xs) = x ∷ []
at (suc n) (x ∷ xs) = at n xs

abbrev pub pick : {A : Type 0} → List ℕ → List A → List A
pick [] xs = []
pick (i ∷ is) xs = at i xs ++ pick is xs

-- ---- one of a list derives a text

pub data Any (n : ℕ) (s : Sort) : List (Chain s) → List Item → Value s → Type 0 where
  here : {c : Chain s} {cs : List (Chain s)} {u : List Item} {x : Value s} → Derives n s (grammar c) u x → Any n s (c ∷ cs) u x
  later : {c : Chain s} {cs : List (Chain s)} {u : List Item} {x : Value s} → Any n s cs u x → Any n s (c ∷ cs) u x

any_lead : {n : ℕ} {s t : Sort} {g : Grammar s} {u v : List Item} {x : Value s} {f : Value s → Value t} (cs : List (Chain (a_from s t))) → Derives n s g u x → Any n (a_from s t) cs v f → Any n t (map (λ c. leads g c) cs) (u ++ v) (f x)
any_lead [] d k = elim k [ ]
any_lead {n = n} {s = s} {t = t} {g = g} {u = u} {v = v} {x = x} {f = f} (c ∷ cs) d (here k) = here (lead n s t g (grammar c) (u ++ v) u v x f (f x) refl refl d k)
any_lead (c ∷ cs) d (later k) = later (any_lead cs d k)

any_push : {n : ℕ} (s t : Sort) (f : Value s → Value t) {u : List Item} {x : Value s} (cs : List (Chain s)) → Any n s cs u x → Any n t (map (λ c. push s t f c) cs) u (f x)
any_push s t f [] d = elim d [ ]
any_push {n = n} s t f (c ∷ cs) (here d) = here (pushed n s t f c d)
any_push s t f (c ∷ cs) (later d) = later (any_push s t f cs d)

any_left : {n : ℕ} {s : Sort} {u : List Item} {x : Value s} (cs ds : List (Chain s)) → Any n s cs u x → Any n s (cs ++ ds) u x
any_left [] ds d = elim d [ ]
any_left (c ∷ cs) ds (here d) = here d
any_left (c ∷ cs) ds (later d) = later (any_left cs ds d)

any_right : {n : ℕ} {s : Sort} {u : List Item} {x : Value s} (cs ds : List (Chain s)) → Any n s ds u x → Any n s (cs ++ ds) u x
any_right [] ds d = d
any_right (c ∷ cs) ds d = later (any_right cs ds d)

any_either : {n : ℕ} {s : Sort} {u : List Item} {x : Value s} (cs ds : List (Chain s)) → Any n s (cs ++ ds) u x → Any n s cs u x ⊎ Any n s ds u x
any_either [] ds d = inr d
any_either (c ∷ cs) ds (here d) = inl (here d)
any_either (c ∷ cs) ds (later d) = elim (any_either cs ds d) [ inl e ↦ inl (later e) | inr e ↦ inr e ]

any_at : {n : ℕ} {s : Sort} {u : List Item} {x : Value s} (i : ℕ) (cs : List (Chain s)) → Any n s (at i cs) u x → Any n s cs u x
any_at i [] d = d
any_at zero (c ∷ cs) (here d) = here d
any_at zero (c ∷ cs) (later d) = elim d [ ]
any_at (suc i) (c ∷ cs) d = later (any_at i cs d)

any_pick : {n : ℕ} {s : Sort} {u : List Item} {x : Value s} (is : List ℕ) (cs : List (Chain s)) → Any n s (pick is cs) u x → Any n s cs u x
any_pick [] cs d = elim d [ ]
any_pick (i ∷ is) cs d = elim (any_either (at i cs) (pick is cs) d) [ inl e ↦ any_at i cs e | inr e ↦ any_pick is cs e ]

-- A text of the grammar with a text behind it is a text of an alternative,
there : {n : ℕ} {s : Sort} (t : Sort) (g : Grammar s) {u v : List Item} {x : Value s} {f : Value s → Value t} (cs : List (Chain (a_from s t))) → Derives n s g u x → Any n (a_from s t) cs v f → Any n t (expand t g cs) (u ++ v) (f x)
there t (one k) cs d k' = any_lead cs d k'
there t (none {s = s} y) {f = f} cs is_none k = any_push (a_from s t) t (λ h. h y) cs k
there {n = n} t (◌·◌ {s = a} {t = b} g h) {v = v} {f = f} cs (is_then {u = i} {v = j} {x = x} {y = y} d e) k =
    let behind = map (λ c. push (a_from (a_pair a b) t) (a_from b (a_from a t)) (λ f y x. f (x, y)) c) cs in
    let inner : Any n (a_from a t) (expand (a_from a t) h behind) (j ++ v) (λ z. f (z, y)) = there (a_from a t) h behind e (any_push (a_from (a_pair a b) t) (a_from b (a_from a t)) (λ f y x. f (x, y)) cs k) in
    let W : List Item → Type 0 = λ w. Any n t (map (λ c. leads g c) (expand (a_from a t) h behind)) w (f (x, y)) in
    subst W (sym (append_assoc i j v)) (any_lead (expand (a_from a t) h behind) d inner)
there t (g ∣ h) cs (is_left d) k = any_left (expand t g cs) (expand t h cs) (there t g cs d k)
there t (g ∣ h) cs (is_right d) k = any_right (expand t g cs) (expand t h cs) (there t h cs d k)
there t (many g) cs d k = any_lead cs d k
there t (◌⇒◌ {s = a} {t = b} g f) cs (is_map d) k = there t g (map (λ c. push (a_from b t) (a_from a t) (λ k x. k (f x)) c) cs) d (any_push (a_from b t) (a_from a t) (λ k x. k (f x)) cs k)
there t (opens j r) cs d k = any_lead cs d k
there t (again a) cs d k = any_lead cs d k

-- and the other way.
record Split (n : ℕ) (s t : Sort) (g : Grammar s) (cs : List (Chain (a_from s t))) (w : List Item) (z : Value t) : Type 0 where
  one : List Item
  two : List Item
  value : Value s
  rest : Value s → Value t
  parts : one ++ two ≡ w
  gives : rest value ≡ z
  first : Derives n s g one value
  second : Any n (a_from s t) cs two rest

record Taken (n : ℕ) (s t : Sort) (f : Value s → Value t) (cs : List (Chain s)) (u : List Item) (z : Value t) : Type 0 where
  value : Value s
  gives : f value ≡ z
  derives : Any n s cs u value

unlead : (n : ℕ) (s t : Sort) (g : Grammar s) (cs : List (Chain (a_from s t))) {w : List Item} {z : Value t} → Any n t (map (λ c. leads g c) cs) w z → Split n s t g cs w z
unlead n s t g [] d = elim d [ ]
unlead n s t g (c ∷ cs) {w = w} {z = z} (here d) =
    let p = led n s t g (grammar c) w z d in
    record { one = p.one; two = p.two; value = p.value; rest = p.rest; parts = p.parts; gives = p.gives; first = p.first; second = here p.second }
unlead n s t g (c ∷ cs) (later d) =
    let p = unlead n s t g cs d in
    record { one = p.one; two = p.two; value = p.value; rest = p.rest; parts = p.parts; gives = p.gives; first = p.first; second = later p.second }

unpush : (n : ℕ) (s t : Sort) (f : Value s → Value t) (cs : List (Chain s)) {u : List Item} {z : Value t} → Any n t (map (λ c. push s t f c) cs) u z → Taken n s t f cs u z
unpush n s t f [] d = elim d [ ]
unpush n s t f (c ∷ cs) (here d) = let p = pulled n s t f c d in record { value = p.value; gives = p.gives; derives = here p.derives }
unpush n s t f (c ∷ cs) (later d) = let p = unpush n s t f cs d in record { value = p.value; gives = p.gives; derives = later p.derives }

back : (n : ℕ) {s : Sort} (t : Sort) (g : Grammar s) (cs : List (Chain (a_from s t))) {w : List Item} {z : Value t} → Any n t (expand t g cs) w z → Split n s t g cs w z
back n {s = s} t (one k) cs d = unlead n s t (one k) cs d
back n t (none {s = s} y) cs {w = w} d =
    let p = unpush n (a_from s t) t (λ h. h y) cs d in
    record { one = []; two = w; value = y; rest = p.value; parts = refl; gives = p.gives; first = is_none; second = p.derives }
back n t (◌·◌ {s = a} {t = b} g h) cs d =
    let F : (Value a × Value b → Value t) → Value b → Value a → Value t = λ f y x. f (x, y) in
    let behind = map (λ c. push (a_from (a_pair a b) t) (a_from b (a_from a t)) F c) cs in
    let p = unlead n a t g (expand (a_from a t) h behind) d in
    let q = back n (a_from a t) h behind p.second in
    let m = unpush n (a_from (a_pair a b) t) (a_from b (a_from a t)) F cs q.second in
    record {
      one = p.one ++ q.one;
      two = q.two;
      value = (p.value, q.value);
      rest = m.value;
      parts = append_assoc p.one q.one q.two ∙ ap (λ (z : List Item). p.one ++ z) q.parts ∙ p.parts;
      gives = ap (λ (k : Value b → Value a → Value t). k q.value p.value) m.gives ∙ ap (λ (k : Value a → Value t). k p.value) q.gives ∙ p.gives;
      first = is_then p.first q.first;
      second = m.derives;
    }
back n {s = s} t (g ∣ h) cs d = elim (any_either (expand t g cs) (expand t h cs) d) [
  | inl e ↦ (let p = back n t g cs e in record { one = p.one; two = p.two; value = p.value; rest = p.rest; parts = p.parts; gives = p.gives; first = is_left p.first; second = p.second })
  | inr e ↦ (let p = back n t h cs e in record { one = p.one; two = p.two; value = p.value; rest = p.rest; parts = p.parts; gives = p.gives; first = is_right p.first; second = p.second })
]
back n {s = s} t (many g) cs d = unlead n s t (many g) cs d
back n t (◌⇒◌ {s = a} {t = b} g f) cs d =
    let F : (Value b → Value t) → Value a → Value t = λ k x. k (f x) in
    let p = back n t g (map (λ c. push (a_from b t) (a_from a t) F c) cs) d in
    let m = unpush n (a_from b t) (a_from a t) F cs p.second in
    record {
      one = p.one;
      two = p.two;
      value = f p.value;
      rest = m.value;
      parts = p.parts;
      gives = ap (λ (k : Value a → Value t). k p.value) m.gives ∙ p.gives;
      first = is_map p.first;
      second = m.derives;
    }
back n {s = s} t (opens j r) cs d = unlead n s t (opens j r) cs d
back n {s = s} t (again a) cs d = unlead n s t (again a) cs d

alternative_of : (n : ℕ) (s : Sort) (g : Grammar s) (u : List Item) (x : Value s) → Derives n s g u x → Any n s (alternatives s g) u x
alternative_of n s g u x d =
    let W : List Item → Type 0 = λ w. Any n s (alternatives s g) w x in
    let last : Any n (a_from s s) (ends {s = a_from s s} (λ y. y) ∷ []) [] (λ y. y) = here is_none in
    subst W (append-nil u) (there s g (ends {s = a_from s s} (λ y. y) ∷ []) d last)

only_end : (n : ℕ) (s : Sort) {v : List Item} {f : Value s → Value s} → Any n (a_from s s) (ends {s = a_from s s} (λ y. y) ∷ []) v f → (v ≡ []) × (f ≡ (λ y. y))
only_end n s (here is_none) = (refl, refl)
only_end n s (later d) = elim d [ ]

of_alternative : (n : ℕ) (s : Sort) (g : Grammar s) (u : List Item) (x : Value s) → Any n s (alternatives s g) u x → Derives n s g u x
of_alternative n s g u x d =
    let p = back n s g (ends {s = a_from s s} (λ y. y) ∷ []) d in
    let e = only_end n s p.second in
    let same : p.one ≡ u = sym (append-nil p.one) ∙ ap (λ (z : List Item). p.one ++ z) (sym e.0) ∙ p.parts in
    let value : p.value ≡ x = sym (ap (λ (k : Value s → Value s). k p.value) e.1) ∙ p.gives in
    let W : List Item → Type 0 = λ z. Derives n s g z x in
    let X : Value s → Type 0 = λ z. Derives n s g p.one z in
    subst W same (subst X value p.first)

-- Each text of a grammar is one of another that has the same alternatives among its own.
pub carried : (n : ℕ) (s : Sort) (g h : Grammar s) (is : List ℕ) → alternatives s g ≡ pick is (alternatives s h) → (u : List Item) (x : Value s) → Derives n s g u x → Derives n s h u x
carried n s g h is e u x d =
    let C : List (Chain s) → Type 0 = λ cs. Any n s cs u x in
    of_alternative n s h u x (any_pick is (alternatives s h) (subst C e (alternative_of n s g u x d)))

-- ---- one of a list has a front

pub data AnyFront (n : ℕ) (s : Sort) : List (Chain s) → List Item → Type 0 where
  front_here : {c : Chain s} {cs : List (Chain s)} {u : List Item} → IsViablePrefix n s (grammar c) u → AnyFront n s (c ∷ cs) u
  front_later : {c : Chain s} {cs : List (Chain s)} {u : List Item} → AnyFront n s cs u → AnyFront n s (c ∷ cs) u

front_first : (n : ℕ) (s t : Sort) (g : Grammar s) (w v : List Item) (cs : List (Chain (a_from s t))) → IsViablePrefix n s g w → AnyFront n (a_from s t) cs v → AnyFront n t (map (λ c. leads g c) cs) w
front_first n s t g w v [] p q = elim q [ ]
front_first n s t g w v (c ∷ cs) p (front_here q) = front_here (lead_first n s t g (grammar c) w p)
front_first n s t g w v (c ∷ cs) p (front_later q) = front_later (front_first n s t g w v cs p q)

front_second : (n : ℕ) (s t : Sort) (g : Grammar s) (u v : List Item) (x : Value s) (cs : List (Chain (a_from s t))) → Derives n s g u x → AnyFront n (a_from s t) cs v → AnyFront n t (map (λ c. leads g c) cs) (u ++ v)
front_second n s t g u v x [] d q = elim q [ ]
front_second n s t g u v x (c ∷ cs) d (front_here q) = front_here (lead_second n s t g (grammar c) (u ++ v) u v x refl d q)
front_second n s t g u v x (c ∷ cs) d (front_later q) = front_later (front_second n s t g u v x cs d q)

front_push : (n : ℕ) (s t : Sort) (f : Value s → Value t) (u : List Item) (cs : List (Chain s)) → AnyFront n s cs u → AnyFront n t (map (λ c. push s t f c) cs) u
front_push n s t f u [] p = elim p [ ]
front_push n s t f u (c ∷ cs) (front_here p) = front_here (pushed_front n s t f c p)
front_push n s t f u (c ∷ cs) (front_later p) = front_later (front_push n s t f u cs p)

front_pull : (n : ℕ) (s t : Sort) (f : Value s → Value t) (u : List Item) (cs : List (Chain s)) → AnyFront n t (map (λ c. push s t f c) cs) u → AnyFront n s cs u
front_pull n s t f u [] p = elim p [ ]
front_pull n s t f u (c ∷ cs) (front_here p) = front_here (pulled_front n s t f c p)
front_pull n s t f u (c ∷ cs) (front_later p) = front_later (front_pull n s t f u cs p)

front_left : (n : ℕ) (s : Sort) (u : List Item) (cs ds : List (Chain s)) → AnyFront n s cs u → AnyFront n s (cs ++ ds) u
front_left n s u [] ds p = elim p [ ]
front_left n s u (c ∷ cs) ds (front_here p) = front_here p
front_left n s u (c ∷ cs) ds (front_later p) = front_later (front_left n s u cs ds p)

front_right : (n : ℕ) (s : Sort) (u : List Item) (cs ds : List (Chain s)) → AnyFront n s ds u → AnyFront n s (cs ++ ds) u
front_right n s u [] ds p = p
front_right n s u (c ∷ cs) ds p = front_later (front_right n s u cs ds p)

front_either : (n : ℕ) (s : Sort) (u : List Item) (cs ds : List (Chain s)) → AnyFront n s (cs ++ ds) u → AnyFront n s cs u ⊎ AnyFront n s ds u
front_either n s u [] ds p = inr p
front_either n s u (c ∷ cs) ds (front_here p) = inl (front_here p)
front_either n s u (c ∷ cs) ds (front_later p) = elim (front_either n s u cs ds p) [ inl q ↦ inl (front_later q) | inr q ↦ inr q ]

front_at : (n : ℕ) (s : Sort) (u : List Item) (i : ℕ) (cs : List (Chain s)) → AnyFront n s (at i cs) u → AnyFront n s cs u
front_at n s u i [] p = p
front_at n s u zero (c ∷ cs) (front_here p) = front_here p
front_at n s u zero (c ∷ cs) (front_later p) = elim p [ ]
front_at n s u (suc i) (c ∷ cs) p = front_later (front_at n s u i cs p)

front_pick : (n : ℕ) (s : Sort) (u : List Item) (is : List ℕ) (cs : List (Chain s)) → AnyFront n s (pick is cs) u → AnyFront n s cs u
front_pick n s u [] cs p = elim p [ ]
front_pick n s u (i ∷ is) cs p = elim (front_either n s u (at i cs) (pick is cs) p) [ inl q ↦ front_at n s u i cs q | inr q ↦ front_pick n s u is cs q ]

-- A front of the grammar, or of what stands behind a text of it, is a front of an alternative,
front_there : (n : ℕ) {s : Sort} (t : Sort) (g : Grammar s) (u v : List Item) (cs : List (Chain (a_from s t))) → IsViablePrefix n s g u → AnyFront n (a_from s t) cs v → AnyFront n t (expand t g cs) u
front_there n {s = s} t (one k) u v cs p q = front_first n s t (one k) u v cs p q
front_there n t (none {s = s} y) u v cs no_token q = front_none cs q
  where
    front_none : (ds : List (Chain (a_from s t))) → AnyFront n (a_from s t) ds v → AnyFront n t (map (λ c. push (a_from s t) t (λ f. f y) c) ds) []
    front_none [] k = elim k [ ]
    front_none (c ∷ ds) k = front_here no_token
front_there n t (◌·◌ {s = a} {t = b} g h) u v cs no_token q =
    let F : (Value a × Value b → Value t) → Value b → Value a → Value t = λ f y x. f (x, y) in
    let behind = map (λ c. push (a_from (a_pair a b) t) (a_from b (a_from a t)) F c) cs in
    front_first n a t g [] [] (expand (a_from a t) h behind) no_token (front_there n (a_from a t) h [] v behind no_token (front_push n (a_from (a_pair a b) t) (a_from b (a_from a t)) F v cs q))
front_there n t (◌·◌ {s = a} {t = b} g h) u v cs (of_first r) q =
    let F : (Value a × Value b → Value t) → Value b → Value a → Value t = λ f y x. f (x, y) in
    let behind = map (λ c. push (a_from (a_pair a b) t) (a_from b (a_from a t)) F c) cs in
    front_first n a t g u [] (expand (a_from a t) h behind) r (front_there n (a_from a t) h [] v behind no_token (front_push n (a_from (a_pair a b) t) (a_from b (a_from a t)) F v cs q))
front_there n t (◌·◌ {s = a} {t = b} g h) u v cs (of_second {u = w} {v = z} {x = x} d r) q =
    let F : (Value a × Value b → Value t) → Value b → Value a → Value t = λ f y x. f (x, y) in
    let behind = map (λ c. push (a_from (a_pair a b) t) (a_from b (a_from a t)) F c) cs in
    front_second n a t g w z x (expand (a_from a t) h behind) d (front_there n (a_from a t) h z v behind r (front_push n (a_from (a_pair a b) t) (a_from b (a_from a t)) F v cs q))
front_there n {s = s} t (g ∣ h) u v cs no_token q = front_left n t [] (expand t g cs) (expand t h cs) (front_there n t g [] v cs no_token q)
front_there n {s = s} t (g ∣ h) u v cs (of_left p) q = front_left n t u (expand t g cs) (expand t h cs) (front_there n t g u v cs p q)
front_there n {s = s} t (g ∣ h) u v cs (of_right p) q = front_right n t u (expand t g cs) (expand t h cs) (front_there n t h u v cs p q)
front_there n {s = s} t (many g) u v cs p q = front_first n s t (many g) u v cs p q
front_there n t (◌⇒◌ {s = a} {t = b} g f) u v cs p q =
    let F : (Value b → Value t) → Value a → Value t = λ k x. k (f x) in
    front_there n t g u v (map (λ c. push (a_from b t) (a_from a t) F c) cs) (map_front p) (front_push n (a_from b t) (a_from a t) F v cs q)
front_there n {s = s} t (opens j r) u v cs p q = front_first n s t (opens j r) u v cs p q
front_there n {s = s} t (again a) u v cs p q = front_first n s t (again a) u v cs p q

-- and the other way.
data FrontBack (n : ℕ) (s t : Sort) (g : Grammar s) (cs : List (Chain (a_from s t))) (w : List Item) : Type 0 where
  in_it : IsViablePrefix n s g w → FrontBack n s t g cs w
  behind_it : (u v : List Item) (x : Value s) → u ++ v ≡ w → Derives n s g u x → AnyFront n (a_from s t) cs v → FrontBack n s t g cs w

front_unlead : (n : ℕ) (s t : Sort) (g : Grammar s) (w : List Item) (cs : List (Chain (a_from s t))) → AnyFront n t (map (λ c. leads g c) cs) w → FrontBack n s t g cs w
front_unlead n s t g w [] p = elim p [ ]
front_unlead n s t g w (c ∷ cs) (front_here p) = elim (led_front n s t g (grammar c) w p) [
  | at_first q ↦ in_it q
  | at_second u v x e d q ↦ behind_it u v x e d (front_here q)
]
front_unlead n s t g w (c ∷ cs) (front_later p) = elim (front_unlead n s t g w cs p) [
  | in_it q ↦ in_it q
  | behind_it u v x e d q ↦ behind_it u v x e d (front_later q)
]

front_back : (n : ℕ) {s : Sort} (t : Sort) (g : Grammar s) (w : List Item) (cs : List (Chain (a_from s t))) → AnyFront n t (expand t g cs) w → FrontBack n s t g cs w
front_back n {s = s} t (one k) w cs p = front_unlead n s t (one k) w cs p
front_back n t (none {s = s} y) w cs p = behind_it [] w y refl is_none (front_pull n (a_from s t) t (λ f. f y) w cs p)
front_back n t (◌·◌ {s = a} {t = b} g h) w cs p =
    let F : (Value a × Value b → Value t) → Value b → Value a → Value t = λ f y x. f (x, y) in
    let behind = map (λ c. push (a_from (a_pair a b) t) (a_from b (a_from a t)) F c) cs in
    elim (front_unlead n a t g w (expand (a_from a t) h behind) p) [
      | in_it q ↦ in_it (of_first q)
      | behind_it u v x e d q ↦ (elim (front_back n (a_from a t) h v behind q) [
        | in_it r ↦ (let W : List Item → Type 0 = λ z. IsViablePrefix n (a_pair a b) (g · h) z in in_it (subst W e (of_second d r)))
        | behind_it i j y k f r ↦ behind_it (u ++ i) j (x, y) (append_assoc u i j ∙ ap (λ (z : List Item). u ++ z) k ∙ e) (is_then d f) (front_pull n (a_from (a_pair a b) t) (a_from b (a_from a t)) F j cs r)
      ])
    ]
front_back n {s = s} t (g ∣ h) w cs p = elim (front_either n t w (expand t g cs) (expand t h cs) p) [
  | inl q ↦ (elim (front_back n t g w cs q) [ in_it r ↦ in_it (of_left r) | behind_it u v x e d r ↦ behind_it u v x e (is_left d) r ])
  | inr q ↦ (elim (front_back n t h w cs q) [ in_it r ↦ in_it (of_right r) | behind_it u v x e d r ↦ behind_it u v x e (is_right d) r ])
]
front_back n {s = s} t (many g) w cs p = front_unlead n s t (many g) w cs p
front_back n t (◌⇒◌ {s = a} {t = b} g f) w cs p =
    let F : (Value b → Value t) → Value a → Value t = λ k x. k (f x) in
    elim (front_back n t g w (map (λ c. push (a_from b t) (a_from a t) F c) cs) p) [
      | in_it q ↦ in_it (of_map q)
      | behind_it u v x e d q ↦ behind_it u v (f x) e (is_map d) (front_pull n (a_from b t) (a_from a t) F v cs q)
    ]
front_back n {s = s} t (opens j r) w cs p = front_unlead n s t (opens j r) w cs p
front_back n {s = s} t (again a) w cs p = front_unlead n s t (again a) w cs p

nothing_behind : (n : ℕ) (s : Sort) {v : List Item} → AnyFront n (a_from s s) (ends {s = a_from s s} (λ y. y) ∷ []) v → v ≡ []
nothing_behind n s (front_here no_token) = refl
nothing_behind n s (front_later p) = elim p [ ]

-- Each front of a grammar is one of another that has the same alternatives among its own.
pub front_carried : (n : ℕ) (s : Sort) (g h : Grammar s) (is : List ℕ) → alternatives s g ≡ pick is (alternatives s h) → (u : List Item) → IsViablePrefix n s g u → IsViablePrefix n s h u
front_carried n s g h is e u p =
    let last : List (Chain (a_from s s)) = ends {s = a_from s s} (λ y. y) ∷ [] in
    let C : List (Chain s) → Type 0 = λ cs. AnyFront n s cs u in
    let q = front_there n s g u [] last p (front_here no_token) in
    elim (front_back n s h u last (front_pick n s u is (alternatives s h) (subst C e q))) [
      | in_it r ↦ r
      | behind_it a b x f d r ↦ (
          let W : List Item → Type 0 = λ z. IsViablePrefix n s h z in
          let same : a ≡ u = sym (append-nil a) ∙ ap (λ (z : List Item). a ++ z) (sym (nothing_behind n s r)) ∙ f in
          subst W same (text_is_front d))
    ]

-- Grammars with the same alternatives, in whatever order, are alike.
pub alike : (s : Sort) (g h : Grammar s) (is js : List ℕ) → alternatives s g ≡ pick is (alternatives s h) → alternatives s h ≡ pick js (alternatives s g) → IsAlike s g h
alike s g h is js e f = record {
  derives = λ n u x d. carried n s g h is e u x d;
  derived = λ n u x d. carried n s h g js f u x d;
  front = λ n u p. front_carried n s g h is e u p;
  is_front = λ n u p. front_carried n s h g js f u p;
}
