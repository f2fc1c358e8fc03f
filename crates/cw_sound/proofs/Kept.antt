-- What the rules of a grammar keep of the values that they stand for, where a plain sort needs nothing.
use Rattle.std.proofs.Common.{◌≡◌, ℕ, suc, Bool, true, false, ◌&&◌, List, [], ◌∷◌, Option, Some, None, refl}
use Rattle.cw_lex.specs.declared.token.TokenKind.{TokenKind}
use Rattle.cw_grammar.specs.Tokens.{Item, same}
use Rattle.cw_grammar.specs.Grammar.{Sort, a_token, a_pair, a_list, an_option, an_either, a_from, an_expr, a_cond, a_cand, a_cmp, a_sum, a_term, a_differ, a_union, a_mask, a_prim, a_primary, a_ref, Value, Rule, Again, Grammar, one, none, ◌·◌, ◌∣◌, many, ◌⇒◌, opens, again}
use Rattle.cw_grammar.specs.Table.{rule, again_rule}
use Rattle.cw_grammar.specs.Derives.{Derives, is_one, is_none, is_then, is_left, is_right, is_end, is_more, is_map, is_opens, is_again}
use Rattle.cw_macro.specs.Premises.{Each}
use Rattle.cw_tokens.proofs.Kept.{OfOption, OfEither, Unless, option_known, either_known, first_kept, second_kept, left_kept, right_kept, item_kept, value_kept, map_kept, at_kept}
use Rattle.cw_sound.proofs.Items.Lists.{each-left, each-right}
use Rattle.cw_sound.proofs.Expressions.Truth.{parts}
use Rattle.cw_sound.proofs.Expressions.Schema.{Known}

-- ---- what is known of plain values

pub each_known : {A : Type 0} (P : A → Type 0) → ((x : A) → P x) → (xs : List A) → Each P xs
each_known P h [] = tt
each_known P h (x ∷ xs) = (h x, each_known P h xs)

-- ---- what is asked of trees

-- nothing is asked of a plain sort, nor ever of a token
pub data Ask (V : Type 0) : Type 1 where
  nothing : Ask V
  holds : (V → Type 0) → Ask V

abbrev pub is_nothing : {V : Type 0} → Ask V → Bool
is_nothing nothing = true
is_nothing (holds P) = false

abbrev pub Asked : {V : Type 0} → Ask V → V → Type 0
Asked nothing x = Unit {0}
Asked (holds P) x = P x

-- of expressions and their parts what is known of them, and of other trees the rest
abbrev pub of_expressions : Known → ((s : Sort) → Ask (Value s)) → (s : Sort) → Ask (Value s)
of_expressions known rest an_expr = holds known.Expr
of_expressions known rest a_cond = holds known.Cond
of_expressions known rest a_cand = holds known.Cand
of_expressions known rest a_cmp = holds known.Cmp
of_expressions known rest a_sum = holds known.Sum
of_expressions known rest a_term = holds known.Term
of_expressions known rest a_differ = holds known.Differ
of_expressions known rest a_union = holds known.Union
of_expressions known rest a_mask = holds known.Mask
of_expressions known rest a_prim = holds known.Prim
of_expressions known rest a_primary = holds known.Primary
of_expressions known rest a_ref = holds known.Ref
of_expressions known rest s = rest s

-- nothing more of the value of a map
abbrev pub AsItIs : (s : Sort) → Grammar s → Value s → Type 0 → Type 0
AsItIs s g x T = T

unasked : {V : Type 0} (a : Ask V) → is_nothing a ≡ true → (x : V) → Asked a x
unasked nothing h x = tt
unasked (holds P) h x = absurd (cc)

module _ (ask : (s : Sort) → Ask (Value s)) where
  abbrev pub plain : Sort → Bool
  plain a_token = true
  plain (a_pair s t) = plain s && plain t
  plain (a_list s) = plain s
  plain (an_option s) = plain s
  plain (an_either s t) = plain s && plain t
  plain (a_from s t) = plain t
  plain s = is_nothing (ask s)

  abbrev pub Good : (s : Sort) → Value s → Type 0
  Good a_token x = Unit {0}
  Good (a_pair s t) x = Good s x.0 × Good t x.1
  Good (a_list s) xs = Each (λ y. Good s y) xs
  Good (an_option s) o = OfOption (λ y. Good s y) o
  Good (an_either s t) x = OfEither (λ y. Good s y) (λ y. Good t y) x
  Good (a_from s t) f = (x : Value s) → Good s x → Good t (f x)
  Good s x = Asked (ask s) x

  pub known : (s : Sort) → plain s ≡ true → (x : Value s) → Good s x
  known a_token h x = tt
  known (a_pair s t) h x = (known s (parts (plain s) (plain t) h).0 x.0, known t (parts (plain s) (plain t) h).1 x.1)
  known (a_list s) h xs = each_known (λ y. Good s y) (λ y. known s h y) xs
  known (an_option s) h o = option_known (λ y. Good s y) (λ y. known s h y) o
  known (an_either s t) h x = either_known (λ y. Good s y) (λ y. Good t y) (λ y. known s (parts (plain s) (plain t) h).0 y) (λ y. known t (parts (plain s) (plain t) h).1 y) x
  known (a_from s t) h f = λ x k. known t h (f x)
  known s h x = unasked (ask s) h x

  -- Of is known of a token of a kind, Opened of what stands inside a level, behind a token; Behind is what a map may ask of its value.
  module _ (Of : TokenKind → Item → Type 0) (Opened : (s : Sort) → Rule s → Item → Value s → Type 0) (Behind : (s : Sort) → Grammar s → Value s → Type 0 → Type 0) where
    abbrev pub Given : {s : Sort} → Grammar s → Value s → Type 0
    Given (one k) t = Of k t
    Given (g · h) x = Given g x.0 × Given h x.1
    Given (opens {s = s} k r) x = Opened s r x.0 x.1
    Given {s = s} g x = Good s x

    abbrev pub Kept : {s : Sort} → Grammar s → Type 0
    Kept (one k) = Unit {0}
    Kept (none {s = s} v) = Good s v
    Kept (◌·◌ {s = s} {t = t} g h) = Unless (plain s) (Kept g) × Unless (plain t) (Kept h)
    Kept (◌∣◌ {s = s} g h) = Unless (plain s) (Kept g) × Unless (plain s) (Kept h)
    Kept (many {s = s} g) = Unless (plain s) (Kept g)
    Kept (◌⇒◌ {s = s} {t = t} g f) = Unless (plain s) (Kept g) × ((x : Value s) → Given g x → Behind s g x (Good t (f x)))
    Kept (opens k r) = Unit {0}
    Kept (again a) = Unit {0}

    abbrev pub Keeps : {s : Sort} → Grammar s → Type 0
    Keeps {s = s} g = Unless (plain s) (Kept g)

    module _ (opened_good : (s : Sort) (r : Rule s) (t : Item) (x : Value s) → Opened s r t x → Good s x) where
      pub given_good : {s : Sort} (g : Grammar s) (x : Value s) → Given g x → Good s x
      given_good (one k) x h = tt
      given_good (g · h) x k = (given_good g x.0 k.0, given_good h x.1 k.1)
      given_good (opens {s = s} k r) x h = (tt, opened_good s r x.0 x.1 h)
      given_good g x h = h

      -- Token holds of each token, and Levels of how many levels there are.
      module _ (Token : Item → Type 0) (Levels : ℕ → Type 0) (lower : (n : ℕ) → Levels (suc n) → Levels n) (one_of : (k : TokenKind) (t : Item) → same t.kind k ≡ true → Token t → Of k t)
          (open_of : (n : ℕ) (s : Sort) (r : Rule s) (t : Item) (u : List Item) (x : Value s) → Levels (suc n) → Derives n s (rule r) u x → Token t → Good s x → Opened s r t x)
          (behind_of : (n : ℕ) (s : Sort) (g : Grammar s) (u : List Item) (x : Value s) (T : Type 0) → Derives n s g u x → Behind s g x T → T)
          (rules : (s : Sort) (r : Rule s) → Keeps (rule r)) (agains : (s : Sort) (a : Again s) → Keeps (again_rule a)) where
        pub given : {n : ℕ} {s : Sort} {g : Grammar s} {u : List Item} {x : Value s} → Derives n s g u x → Levels n → Each Token u → Keeps g → Given g x
        given (is_one {k = k} {t = t} e) l b q = one_of k t e b.0
        given (is_none {s = s} {x = x}) l b q = value_kept (plain s) (Good s x) (λ e. known s e x) q
        given (is_then {s = s} {t = t} {g = g} {h = h} {u = u} {v = v} d e) l b q = (given d l (each-left Token u v b) (first_kept (plain s) (plain t) (Kept g) (Kept h) q), given e l (each-right Token u v b) (second_kept (plain s) (plain t) (Kept g) (Kept h) q))
        given (is_left {s = s} {g = g} {h = h} {x = x} d) l b q = given_good g x (given d l b (left_kept (plain s) (Kept g) (Kept h) q))
        given (is_right {s = s} {g = g} {h = h} {x = x} d) l b q = given_good h x (given d l b (right_kept (plain s) (Kept g) (Kept h) q))
        given is_end l b q = tt
        given (is_more {s = s} {g = g} {u = u} {v = v} {x = x} d e) l b q = (given_good g x (given d l (each-left Token u v b) (item_kept (plain s) (Kept g) q)), given e l (each-right Token u v b) q)
        given (is_map {n = n} {s = s} {t = t} {f = f} {g = g} {u = u} {x = x} d) l b q =
            map_kept (plain s) (plain t) (Kept g) (Given g x) (Good t (f x)) (λ e. known t e (f x)) (λ i. given d l b i)
            (at_kept (plain t) (Unless (plain s) (Kept g)) (Given g) (λ y. Behind s g y (Good t (f y))) (Good t (f x)) x (λ i. behind_of n s g u x (Good t (f x)) d i) q)
        given (is_opens {n = n} {s = s} {r = r} {t = t} {u = u} {x = x} e d) l b q = open_of n s r t u x l d b.0 (given_good (rule r) x (given d (lower n l) b.1 (rules s r)))
        given (is_again {s = s} {a = a} {x = x} d) l b q = given_good (again_rule a) x (given d l b (agains s a))

        pub good : {n : ℕ} {s : Sort} {g : Grammar s} {u : List Item} {x : Value s} → Derives n s g u x → Levels n → Each Token u → Keeps g → Good s x
        good {g = g} {x = x} d l b q = given_good g x (given d l b q)
