-- What is read is derived, and a fault stands behind a front.
use Rattle.std.proofs.Common.{◌≡◌, ℕ, zero, suc, ◌+◌, Bool, true, false, cond, List, [], ◌∷◌, ◌++◌, length, Ok, Err, refl, sym, ap, subst, ◌∙◌, append_assoc, arith}
use Rattle.cw_grammar.specs.Tokens.{Item, same}
use Rattle.cw_lex.specs.declared.token.TokenKind.{TokenKind}
use Rattle.cw_grammar.specs.Grammar.{Sort, a_token, a_pair, a_list, Value, Rule, Grammar, one, none, ◌·◌, ◌∣◌, many, ◌⇒◌, opens, Again, again, first, starts}
use Rattle.cw_grammar.specs.Table.{rule, again_rule}
use Rattle.cw_grammar.specs.Derives.{Derives, is_one, is_none, is_then, is_left, is_right, is_end, is_more, is_map, is_opens, is_again, IsViablePrefix, no_token, of_first, of_second, of_left, of_right, of_item, of_more, of_map, of_opens, of_again}
use Rattle.cw_grammar.specs.Reading.{Fault, syntax_at, deep_at, Read, ◌>>=◌, take_one, repeat, Inside, read_with, reads, inside, Agains, turns, unbounded}

-- More levels may be opened.
pub derives_more : {n : ℕ} {s : Sort} {g : Grammar s} {u : List Item} {x : Value s} → Derives n s g u x → Derives (suc n) s g u x
derives_more (is_one e) = is_one e
derives_more is_none = is_none
derives_more (is_then d e) = is_then (derives_more d) (derives_more e)
derives_more (is_left d) = is_left (derives_more d)
derives_more (is_right d) = is_right (derives_more d)
derives_more is_end = is_end
derives_more (is_more d e) = is_more (derives_more d) (derives_more e)
derives_more (is_map d) = is_map (derives_more d)
derives_more (is_opens e d) = is_opens e (derives_more d)
derives_more (is_again d) = is_again (derives_more d)

-- what was read stands at the front
pub record Found (n : ℕ) (s : Sort) (g : Grammar s) (ts : List Item) (x : Value s) (rest : List Item) : Type 0 where
  pub text : List Item
  pub parts : ts ≡ text ++ rest
  pub derives : Derives n s g text x

-- the tokens before a fault are a front
pub record Stops (n : ℕ) (s : Sort) (g : Grammar s) (ts : List Item) (left : ℕ) : Type 0 where
  pub text : List Item
  pub rest : List Item
  pub parts : ts ≡ text ++ rest
  pub left_is : length rest ≡ left
  pub is_front : IsViablePrefix n s g text

-- the tokens before the fault are a front, and with the next one they are one that opens one level more
pub record Deep (n : ℕ) (s : Sort) (g : Grammar s) (ts : List Item) (left : ℕ) : Type 0 where
  pub stops : Stops n s g ts left
  pub opening : Item
  pub behind : List Item
  pub begins : stops.rest ≡ opening ∷ behind
  pub is_deep : IsViablePrefix (suc n) s g (stops.text ++ opening ∷ [])

abbrev pub Sound : (n : ℕ) (s : Sort) (g : Grammar s) (ts : List Item) → Read (Value s) → Type 0
Sound n s g ts (Ok x) = Found n s g ts x.0 x.1
Sound n s g ts (Err (syntax_at k)) = Stops n s g ts k
Sound n s g ts (Err (deep_at k)) = Deep n s g ts k

-- what is known of the inside of a level
abbrev pub SoundInside : (n : ℕ) (s : Sort) (r : Rule s) (ts : List Item) → Read (Value s) → Type 0
SoundInside zero s r ts o = o ≡ Err (deep_at (length ts + 1))
SoundInside (suc n) s r ts o = Sound n s (rule r) ts o

prepend : (t : Item) (a b c : List Item) → a ≡ b ++ c → t ∷ a ≡ (t ∷ b) ++ c
prepend t a b c e = ap (λ (z : List Item). t ∷ z) e

rejoin : (ts u r v q : List Item) → ts ≡ u ++ r → r ≡ v ++ q → ts ≡ (u ++ v) ++ q
rejoin ts u r v q e f = e ∙ ap (λ (z : List Item). u ++ z) f ∙ sym (append_assoc u v q)

abbrev stops_behind : (m n : ℕ) (s t : Sort) (g : Grammar s) (h : Grammar t) (ts u r : List Item) → ts ≡ u ++ r → ((v : List Item) → IsViablePrefix m s g v → IsViablePrefix n t h (u ++ v)) → (k : ℕ) → Stops m s g r k → Stops n t h ts k
stops_behind m n s t g h ts u r e here k p = record { text = u ++ p.text; rest = p.rest; parts = rejoin ts u r p.text p.rest e p.parts; left_is = p.left_is; is_front = here p.text p.is_front }

-- A fault of a part is one of the whole, if each front of the part, behind what was read before it, is one of the whole.
fault_behind : (m n : ℕ) (s t : Sort) (g : Grammar s) (h : Grammar t) (ts u r : List Item) → ts ≡ u ++ r → ((v : List Item) → IsViablePrefix m s g v → IsViablePrefix n t h (u ++ v)) → ((v : List Item) → IsViablePrefix (suc m) s g v → IsViablePrefix (suc n) t h (u ++ v))
    → (f : Fault) → Sound m s g r (Err f) → Sound n t h ts (Err f)
fault_behind m n s t g h ts u r e here deeper (syntax_at k) p = stops_behind m n s t g h ts u r e here k p
fault_behind m n s t g h ts u r e here deeper (deep_at k) p =
    record {
      stops = stops_behind m n s t g h ts u r e here k p.stops;
      opening = p.opening;
      behind = p.behind;
      begins = p.begins;
      is_deep = subst (λ (z : List Item). IsViablePrefix (suc n) t h z) (sym (append_assoc u p.stops.text (p.opening ∷ []))) (deeper (p.stops.text ++ p.opening ∷ []) p.is_deep);
    }

-- of the same tokens
fault_of : (n : ℕ) (s t : Sort) (g : Grammar s) (h : Grammar t) (ts : List Item) → ((m : ℕ) (v : List Item) → IsViablePrefix m s g v → IsViablePrefix m t h v) → (f : Fault) → Sound n s g ts (Err f) → Sound n t h ts (Err f)
fault_of n s t g h ts k f p = fault_behind n n s t g h ts [] ts refl (k n) (k (suc n)) f p

sound_take : (n : ℕ) (k : TokenKind) (ts : List Item) → Sound n a_token (one k) ts (take_one k ts)
sound_take n k [] = record { text = []; rest = []; parts = refl; left_is = refl; is_front = no_token }
sound_take n k (t ∷ ts) =
    elim (same t.kind k) as (λ b. same t.kind k ≡ b → Sound n a_token (one k) (t ∷ ts) (cond b (Ok (t, ts)) (Err (syntax_at (length ts + 1))))) [
      | true ↦ λ e. record { text = t ∷ []; parts = refl; derives = is_one e }
      | false ↦ λ e. record { text = []; rest = t ∷ ts; parts = refl; left_is = omega arith; is_front = no_token }
    ] refl

sound_map : (n : ℕ) (s t : Sort) (f : Value s → Value t) (g : Grammar s) (ts : List Item) (o : Read (Value s)) → Sound n s g ts o → Sound n t (g ⇒ f) ts (o >>= λ x. Ok (f x.0, x.1))
sound_map n s t f g ts (Ok x) h = record { text = h.text; parts = h.parts; derives = is_map h.derives }
sound_map n s t f g ts (Err k) h = fault_of n s t g (g ⇒ f) ts (λ m v p. of_map p) k h

sound_left : (n : ℕ) (s : Sort) (g h : Grammar s) (ts : List Item) (o : Read (Value s)) → Sound n s g ts o → Sound n s (g ∣ h) ts o
sound_left n s g h ts (Ok x) p = record { text = p.text; parts = p.parts; derives = is_left p.derives }
sound_left n s g h ts (Err k) p = fault_of n s s g (g ∣ h) ts (λ m v q. of_left q) k p

sound_right : (n : ℕ) (s : Sort) (g h : Grammar s) (ts : List Item) (o : Read (Value s)) → Sound n s h ts o → Sound n s (g ∣ h) ts o
sound_right n s g h ts (Ok x) p = record { text = p.text; parts = p.parts; derives = is_right p.derives }
sound_right n s g h ts (Err k) p = fault_of n s s h (g ∣ h) ts (λ m v q. of_right q) k p

-- the second part of a sequence, behind a text of the first
sound_second : (n : ℕ) (s t : Sort) (g : Grammar s) (h : Grammar t) (ts u r : List Item) (x : Value s) → ts ≡ u ++ r → Derives n s g u x → (o : Read (Value t)) → Sound n t h r o
    → Sound n (a_pair s t) (g · h) ts (o >>= λ y. Ok ((x, y.0), y.1))
sound_second n s t g h ts u r x e d (Ok y) p = record { text = u ++ p.text; parts = rejoin ts u r p.text y.1 e p.parts; derives = is_then d p.derives }
sound_second n s t g h ts u r x e d (Err k) p = fault_behind n n t (a_pair s t) h (g · h) ts u r e (λ v q. of_second d q) (λ v q. of_second (derives_more d) q) k p

sound_then : (n : ℕ) (s t : Sort) (g : Grammar s) (h : Grammar t) (ts : List Item) (o : Read (Value s)) (next : List Item → Read (Value t)) → Sound n s g ts o → ((us : List Item) → Sound n t h us (next us))
    → Sound n (a_pair s t) (g · h) ts (o >>= λ x. next x.1 >>= λ y. Ok ((x.0, y.0), y.1))
sound_then n s t g h ts (Ok x) next p q = sound_second n s t g h ts p.text x.1 x.0 p.parts p.derives (next x.1) (q x.1)
sound_then n s t g h ts (Err k) next p q = fault_of n s (a_pair s t) g (g · h) ts (λ m v q. of_first q) k p

-- more items behind an item
sound_more : (n : ℕ) (s : Sort) (g : Grammar s) (ts u r : List Item) (x : Value s) → ts ≡ u ++ r → Derives n s g u x → (o : Read (List (Value s))) → Sound n (a_list s) (many g) r o
    → Sound n (a_list s) (many g) ts (o >>= λ y. Ok (x ∷ y.0, y.1))
sound_more n s g ts u r x e d (Ok y) p = record { text = u ++ p.text; parts = rejoin ts u r p.text y.1 e p.parts; derives = is_more d p.derives }
sound_more n s g ts u r x e d (Err k) p = fault_behind n n (a_list s) (a_list s) (many g) (many g) ts u r e (λ v q. of_more d q) (λ v q. of_more (derives_more d) q) k p

sound_items : (n : ℕ) (s : Sort) (g : Grammar s) (ts : List Item) (o : Read (Value s)) (next : List Item → Read (List (Value s))) → Sound n s g ts o → ((us : List Item) → Sound n (a_list s) (many g) us (next us))
    → Sound n (a_list s) (many g) ts (o >>= λ x. next x.1 >>= λ y. Ok (x.0 ∷ y.0, y.1))
sound_items n s g ts (Ok x) next p q = sound_more n s g ts p.text x.1 x.0 p.parts p.derives (next x.1) (q x.1)
sound_items n s g ts (Err k) next p q = fault_of n s (a_list s) g (many g) ts (λ m v q. of_item q) k p

sound_repeat : (n : ℕ) (s : Sort) (g : Grammar s) (test : List Item → Bool) (item : List Item → Read (Value s)) → ((us : List Item) → Sound n s g us (item us)) → (k : ℕ) (ts : List Item)
    → Sound n (a_list s) (many g) ts (repeat k test item ts)
sound_repeat n s g test item q zero ts = record { text = []; parts = refl; derives = is_end }
sound_repeat n s g test item q (suc k) ts =
    elim (test ts) as (λ b. Sound n (a_list s) (many g) ts (cond b (item ts >>= λ x. repeat k test item x.1 >>= λ y. Ok (x.0 ∷ y.0, y.1)) (Ok ([], ts)))) [
      | true ↦ sound_items n s g ts (item ts) (repeat k test item) (q ts) (sound_repeat n s g test item q k)
      | false ↦ record { text = []; parts = refl; derives = is_end }
    ]

-- the inside of a level, behind the token that opens it
sound_inside : (n : ℕ) (s : Sort) (k : TokenKind) (r : Rule s) (t : Item) (ts : List Item) → same t.kind k ≡ true → (o : Read (Value s)) → SoundInside n s r ts o → Sound n (a_pair a_token s) (opens k r) (t ∷ ts) (o >>= λ y. Ok ((t, y.0), y.1))
sound_inside zero s k r t ts e o h =
    rw h (record { stops = record { text = []; rest = t ∷ ts; parts = refl; left_is = omega arith; is_front = no_token }; opening = t; behind = ts; begins = refl; is_deep = of_opens e no_token })
sound_inside (suc n) s k r t ts e (Ok x) p = record { text = t ∷ p.text; parts = prepend t ts p.text x.1 p.parts; derives = is_opens e p.derives }
sound_inside (suc n) s k r t ts e (Err m) p = fault_behind n (suc n) s (a_pair a_token s) (rule r) (opens k r) (t ∷ ts) (t ∷ []) ts refl (λ v q. of_opens e q) (λ v q. of_opens e q) m p

sound_opens : (n : ℕ) (s : Sort) (k : TokenKind) (r : Rule s) (inner : List Item → Read (Value s)) → ((us : List Item) → SoundInside n s r us (inner us)) → (ts : List Item)
    → Sound n (a_pair a_token s) (opens k r) ts (take_one k ts >>= λ x. inner x.1 >>= λ y. Ok ((x.0, y.0), y.1))
sound_opens n s k r inner q [] = record { text = []; rest = []; parts = refl; left_is = refl; is_front = no_token }
sound_opens n s k r inner q (t ∷ ts) =
    let taken : Bool → Read Item = λ b. cond b (Ok (t, ts)) (Err (syntax_at (length ts + 1))) in
    elim (same t.kind k) as (λ b. same t.kind k ≡ b → Sound n (a_pair a_token s) (opens k r) (t ∷ ts) (taken b >>= λ x. inner x.1 >>= λ y. Ok ((x.0, y.0), y.1))) [
      | true ↦ λ e. sound_inside n s k r t ts e (inner ts) (q ts)
      | false ↦ λ e. record { text = []; rest = t ∷ ts; parts = refl; left_is = omega arith; is_front = no_token }
    ] refl

sound_again : (n : ℕ) (s : Sort) (a : Again s) (ts : List Item) (o : Read (Value s)) → Sound n s (again_rule a) ts o → Sound n s (again a) ts o
sound_again n s a ts (Ok x) p = record { text = p.text; parts = p.parts; derives = is_again p.derives }
sound_again n s a ts (Err k) p = fault_of n s s (again_rule a) (again a) ts (λ m v q. of_again q) k p

abbrev pub SoundWithin : ℕ → Inside → Type 0
SoundWithin n within = (s : Sort) (r : Rule s) (us : List Item) → SoundInside n s r us (within s r us)

abbrev pub SoundAgains : ℕ → Agains → Type 0
SoundAgains n agains = (s : Sort) (a : Again s) (us : List Item) → Sound n s (again a) us (agains s a us)

pub sound_with : (n : ℕ) (within : Inside) (agains : Agains) → SoundWithin n within → SoundAgains n agains → {s : Sort} (g : Grammar s) (ts : List Item) → Sound n s g ts (read_with within agains g ts)
sound_with n within agains q r (one k) ts = sound_take n k ts
sound_with n within agains q r (none x) ts = record { text = []; parts = refl; derives = is_none }
sound_with n within agains q r (◌·◌ {s = s} {t = t} g h) ts = sound_then n s t g h ts (read_with within agains g ts) (λ us. read_with within agains h us) (sound_with n within agains q r g ts) (λ us. sound_with n within agains q r h us)
sound_with n within agains q r (◌∣◌ {s = s} g h) ts =
    elim (starts ts (first g)) as (λ b. Sound n s (g ∣ h) ts (cond b (read_with within agains g ts) (read_with within agains h ts))) [
      | true ↦ sound_left n s g h ts (read_with within agains g ts) (sound_with n within agains q r g ts)
      | false ↦ sound_right n s g h ts (read_with within agains h ts) (sound_with n within agains q r h ts)
    ]
sound_with n within agains q r (many {s = s} g) ts = sound_repeat n s g (λ us. starts us (first g)) (λ us. read_with within agains g us) (λ us. sound_with n within agains q r g us) (length ts) ts
sound_with n within agains q r (◌⇒◌ {s = s} {t = t} g f) ts = sound_map n s t f g ts (read_with within agains g ts) (sound_with n within agains q r g ts)
sound_with n within agains q r (opens {s = s} k w) ts = sound_opens n s k w (within s w) (q s w) ts
sound_with n within agains q r (again {s = s} a) ts = r s a ts

pub sound_turns : (n : ℕ) (within : Inside) → SoundWithin n within → (m : ℕ) → SoundAgains n (turns within m)
unfolding turns
sound_turns n within q zero s a us = record { text = []; rest = us; parts = refl; left_is = refl; is_front = no_token }
sound_turns n within q (suc m) s a us = sound_again n s a us (read_with within (turns within m) (again_rule a) us) (sound_with n within (turns within m) q (sound_turns n within q m) (again_rule a) us)

pub sound_unbounded : (n : ℕ) (within : Inside) → SoundWithin n within → SoundAgains n (unbounded within)
sound_unbounded n within q s a us = sound_turns n within q (suc (length us)) s a us

pub sound_inside_at : (n : ℕ) (s : Sort) (r : Rule s) (us : List Item) → SoundInside n s r us (inside n s r us)
unfolding inside
sound_inside_at zero s r us = refl
sound_inside_at (suc n) s r us = sound_with n (inside n) (unbounded (inside n)) (sound_inside_at n) (sound_unbounded n (inside n) (sound_inside_at n)) (rule r) us

-- What is read is derived, and a fault stands behind a front.
pub sound : (n : ℕ) (s : Sort) (g : Grammar s) (ts : List Item) → Sound n s g ts (reads n g ts)
sound n s g ts = sound_with n (inside n) (unbounded (inside n)) (sound_inside_at n) (sound_unbounded n (inside n) (sound_inside_at n)) g ts
