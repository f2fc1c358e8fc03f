-- Where the tokens of rows differ, each row is found by its token.
use Rattle.std.proofs.Common.{◌≡◌, ◌≢◌, ◌⊎◌, inl, inr, ℕ, Bool, true, false, cond, List, [], ◌∷◌, ◌++◌, Option, Some, None, refl, sym, ap, subst, ◌∙◌, arith, nat_eq}
use Rattle.std.specs.Prelude.{option_map, find}
use Rattle.std.proofs.lemmas.Bool.Decides.{nat_tests}
use Rattle.cw_table.specs.declared.table.Row.{Row}
use Rattle.cw_table.specs.Rows.{stands_at, item_of, item_at}
use Rattle.cw_sound.specs.Uses.Mentions.{In}
use Rattle.cw_sound.specs.Names.Placed.{tokens, Each, Differ}

pub eq_same : (a : ℕ) → nat_eq a a ≡ true
eq_same a = grind (arith, nat_tests)

pub eq_other : (a b : ℕ) → b ≢ a → nat_eq a b ≡ false
eq_other a b h = grind (arith, nat_tests, h)

module _ {T : Type 0} where
  pub at_first : (x : Row T) (xs : List (Row T)) (t : ℕ) → nat_eq t x.token ≡ true → item_at (x ∷ xs) t ≡ Some x.item
  at_first x xs t e = ap (λ b. option_map item_of (cond b (Some x) (find (stands_at t) xs))) e

  pub at_later : (x : Row T) (xs : List (Row T)) (t : ℕ) → nat_eq t x.token ≡ false → item_at (x ∷ xs) t ≡ item_at xs t
  at_later x xs t e = ap (λ b. option_map item_of (cond b (Some x) (find (stands_at t) xs))) e

  pub each_row : (P : ℕ → Type 0) (rs : List (Row T)) → Each P (tokens rs) → (r : Row T) → In r rs → P r.token
  each_row P [] h r i = absurd i
  each_row P (x ∷ xs) h r (inl e) = subst (λ y. P y.token) e h.0
  each_row P (x ∷ xs) h r (inr i) = each_row P xs h.1 r i

  pub found : (rs : List (Row T)) (r : Row T) → Differ (tokens rs) → In r rs → item_at rs r.token ≡ Some r.item
  found [] r d i = absurd i
  found (x ∷ xs) r d (inl e) = subst (λ y. item_at (x ∷ xs) y.token ≡ Some y.item) e (at_first x xs x.token (eq_same x.token))
  found (x ∷ xs) r d (inr i) = at_later x xs r.token (eq_other r.token x.token (each_row (λ s. x.token ≢ s) xs d.0 r i)) ∙ found xs r d.1 i
