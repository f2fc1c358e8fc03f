-- A grammar that opens no level is read alike whatever levels are left.
use Rattle.std.proofs.Common.{◌≡◌, ℕ, zero, suc, Bool, true, false, cond, ◌&&◌, List, [], ◌∷◌, length, Ok, Err, refl, ap, subst, ◌∙◌}
use Rattle.std.proofs.lemmas.Bool.{and_parts}
use Rattle.cw_grammar.specs.Tokens.{Item}
use Rattle.cw_grammar.specs.declared.stop.Stop.{Stop}
use Rattle.cw_grammar.specs.Grammar.{Sort, Value, Again, labelled, labelled_simple, more_elems, places, Grammar, one, none, ◌·◌, ◌∣◌, many, ◌⇒◌, opens, again, first, starts}
use Rattle.cw_grammar.specs.Rules.{octal, int, sint, number_type}
use Rattle.cw_grammar.specs.Statements.{preset_value, place, further_places, presets, preset, elem, elems_behind}
use Rattle.cw_grammar.specs.Table.{again_rule}
use Rattle.cw_grammar.specs.Reading.{Read, ◌>>=◌, Fails, repeat, Inside, Agains, read_with, read, inside, turns, unbounded}
use Rattle.cw_grammar.proofs.Many.{with_item}

abbrev pub flat_again : {s : Sort} → Again s → Bool
flat_again (labelled p) = false
flat_again (labelled_simple p) = false
flat_again more_elems = true
flat_again places = true

abbrev pub flat : {s : Sort} → Grammar s → Bool
flat (one k) = true
flat (none x) = true
flat (g · h) = flat g && flat h
flat (g ∣ h) = flat g && flat h
flat (many g) = flat g
flat (g ⇒ f) = flat g
flat (opens k r) = false
flat (again a) = flat_again a

repeat_same : {A : Type 0} (test : List Item → Bool) (p q : List Item → Read A) → ((vs : List Item) → p vs ≡ q vs) → (k : ℕ) (us : List Item) → repeat k test p us ≡ repeat k test q us
repeat_same test p q e zero us = refl
repeat_same {A = A} test p q e (suc k) us =
    let go : (o : Read A) → (o >>= λ x. with_item x.0 (repeat k test p x.1)) ≡ (o >>= λ x. with_item x.0 (repeat k test q x.1)) =
    elim [
      | Ok x ↦ rw (repeat_same test p q e k x.1) refl
      | Err f ↦ refl
    ] in
    let there : (p us >>= λ x. with_item x.0 (repeat k test p x.1)) ≡ (q us >>= λ x. with_item x.0 (repeat k test q x.1)) =
    go (p us) ∙ ap (λ (o : Read A). o >>= λ x. with_item x.0 (repeat k test q x.1)) (e us) in
    ap (λ (z : Read (List A)). cond (test us) z (Ok ([], us))) there

abbrev with_first : {A B : Type 0} → A → Read B → Read (A × B)
with_first x o = o >>= λ y. Ok ((x, y.0), y.1)

module _ (i j : Inside) (p q : Agains) (alike : (s : Sort) (a : Again s) (us : List Item) → flat_again a ≡ true → p s a us ≡ q s a us) where
  flat_with : {s : Sort} (g : Grammar s) → flat g ≡ true → (ts : List Item) → read_with i p g ts ≡ read_with j q g ts
  flat_with (one k) h ts = refl
  flat_with (none x) h ts = refl
  flat_with (◌·◌ {s = s} {t = t} g k) h ts =
      let parts = and_parts (flat g) (flat k) h in
      let go : (o : Read (Value s)) → (o >>= λ x. with_first x.0 (read_with i p k x.1)) ≡ (o >>= λ x. with_first x.0 (read_with j q k x.1)) =
      elim [
        | Ok x ↦ rw (flat_with k parts.1 x.1) refl
        | Err f ↦ refl
      ] in
      go (read_with i p g ts) ∙ ap (λ (o : Read (Value s)). o >>= λ x. with_first x.0 (read_with j q k x.1)) (flat_with g parts.0 ts)
  flat_with (g ∣ k) h ts = let parts = and_parts (flat g) (flat k) h in rw (flat_with g parts.0 ts, flat_with k parts.1 ts) refl
  flat_with (many g) h ts = repeat_same (λ us. starts us (first g)) (λ us. read_with i p g us) (λ us. read_with j q g us) (flat_with g h) (length ts) ts
  flat_with (◌⇒◌ {s = s} g f) h ts = ap (λ (o : Read (Value s)). o >>= λ x. Ok (f x.0, x.1)) (flat_with g h ts)
  flat_with (opens k r) h ts = absurd cc
  flat_with (again {s = s} a) h ts = alike s a ts h

flat_rule : {s : Sort} (a : Again s) → flat_again a ≡ true → flat (again_rule a) ≡ true
unfolding again_rule presets place further_places preset_value octal elems_behind elem preset number_type int sint
flat_rule (labelled b) h = absurd cc
flat_rule (labelled_simple b) h = absurd cc
flat_rule more_elems h = refl
flat_rule places h = refl

flat_turns : (n m k : ℕ) (s : Sort) (a : Again s) (us : List Item) → flat_again a ≡ true → turns (inside n) k s a us ≡ turns (inside m) k s a us
unfolding turns
flat_turns n m zero s a us h = refl
flat_turns n m (suc k) s a us h = flat_with (inside n) (inside m) (turns (inside n) k) (turns (inside m) k) (flat_turns n m k) (again_rule a) (flat_rule a h) us

pub any_levels : (n m : ℕ) (s : Sort) (g : Grammar s) (ts : List Item) → flat g ≡ true → read n s g ts ≡ read m s g ts
any_levels n m s g ts h = flat_with (inside n) (inside m) (unbounded (inside n)) (unbounded (inside m)) (λ t a us k. flat_turns n m (suc (length us)) t a us k) g h ts

pub flat_ok : (n : ℕ) (s : Sort) (g : Grammar s) (ts us : List Item) (x : Value s) → flat g ≡ true → read 0 s g ts ≡ Ok (x, us) → read n s g ts ≡ Ok (x, us)
flat_ok n s g ts us x h e = any_levels n 0 s g ts h ∙ e

pub flat_fails : (n : ℕ) (s : Sort) (g : Grammar s) (ts : List Item) (e : Stop) → flat g ≡ true → Fails e (read 0 s g ts) → Fails e (read n s g ts)
flat_fails n s g ts e h p =
    let P : Read (Value s) → Type 0 = λ o. Fails e o in
    subst P (any_levels 0 n s g ts h) p
