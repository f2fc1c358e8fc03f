-- Items and their numbers: each thing is the item of its place, and the first row of its token has that number.
use Rattle.std.proofs.Common.{◌≡◌, ℕ, zero, suc, ◌+◌, ◌<◌, ◌≤◌, List, [], ◌∷◌, ◌++◌, length, map, Bool, true, false, cond, Option, Some, None, slice_get, nat_eq, refl, sym, ap, ◌∙◌, arith, inl, inr, eqb-true}
use Rattle.std.specs.Prelude.{find, option_map}
use Rattle.std.proofs.lemmas.Bool.{eq-eqb}
use Rattle.std.proofs.lemmas.Bool.Decides.{nat_tests}
use Rattle.std.proofs.lemmas.Option.{none-some, same_Some}
use Rattle.cw_table.specs.declared.table.Row.{Row}
use Rattle.cw_table.specs.Rows.{stands_at, item_at, place_at}
use Rattle.cw_facts.specs.declared.fact.Declaration.{Declaration}
use Rattle.cw_items.specs.declared.thing.Thing.{Thing}
use Rattle.cw_number.specs.declared.listed.Listing.{Listing}
use Rattle.cw_number.specs.declared.numbered.Numbered.{Numbered}
use Rattle.cw_number.specs.declared.numbered.Numbered.TheVariants as numbered
use Rattle.cw_number.specs.Numbers.{item_rows, next_long}
use Rattle.cw_unit.specs.declared.unit.Item.{Item}
use Rattle.cw_make_items.specs.Items.{Held, item_of, items_of}
use Rattle.cw_sound.specs.Items.Derived.{IsRising}
use Rattle.cw_sound.proofs.Items.Lists.{In, not-below}

abbrev pub token_of_thing : Thing → ℕ
token_of_thing t = t.at.token

abbrev pub tokens_of_things : List Thing → List ℕ
tokens_of_things ts = map token_of_thing ts

-- ---- tokens by places

pub token-at : (ts : List Thing) (i : ℕ) (t : Thing) → slice_get ts i ≡ Some t → In t.at.token (tokens_of_things ts)
token-at [] i t e = absurd (none-some t e)
token-at (x ∷ ts) zero t e = inl (ap token_of_thing (sym (same_Some x t e)))
token-at (x ∷ ts) (suc i) t e = inr (token-at ts i t e)

-- a thing with a lower token stands before one with a higher
pub lower-before : (n : ℕ) (ts : List Thing) (i j : ℕ) (t s : Thing) → IsRising n (tokens_of_things ts) → slice_get ts i ≡ Some t → slice_get ts j ≡ Some s → s.at.token < t.at.token → j < i
lower-before n [] i j t s r e f l = absurd (none-some t e)
lower-before n (x ∷ ts) zero zero t s r e f l =
    let a : x ≡ t = same_Some x t e in let b : x ≡ s = same_Some x s f in let c : t.at.token ≡ s.at.token = sym (ap token_of_thing a) ∙ ap token_of_thing b in absurd (omega (arith, l, c))
lower-before n (x ∷ ts) zero (suc j) t s r e f l =
    let a : x.at.token ≡ t.at.token = ap token_of_thing (same_Some x t e) in
    let b : suc x.at.token ≤ s.at.token = not-below (suc x.at.token) (tokens_of_things ts) s.at.token r.1 (token-at ts j s f) in
    absurd (omega (arith, a, b, l))
lower-before n (x ∷ ts) (suc i) zero t s r e f l = omega arith
lower-before n (x ∷ ts) (suc i) (suc j) t s r e f l = let k : j < i = lower-before (suc x.at.token) ts i j t s r.1 e f l in omega (arith, k)

-- ---- numbers

module _ {T : Type 0} where
  pub found-here : (r : Row T) (rs : List (Row T)) (token : ℕ) → token ≡ r.token → item_at (r ∷ rs) token ≡ Some r.item
  found-here r rs token e = ap (λ b. option_map (λ (x : Row T). x.item) (cond b (Some r) (find (stands_at token) rs))) (eq-eqb token r.token e)

  pub found-later : (r : Row T) (rs : List (Row T)) (token : ℕ) → (token ≡ r.token → ⊥) → item_at (r ∷ rs) token ≡ item_at rs token
  found-later r rs token h = ap (λ b. option_map (λ (x : Row T). x.item) (cond b (Some r) (find (stands_at token) rs))) (apart token r.token h)
    where
      apart : (a b : ℕ) → (a ≡ b → ⊥) → nat_eq a b ≡ false
      apart a b h = grind (arith, nat_tests)

next-number : (n : ℕ) → n < 65536 → next_long n ≡ n + 1
next-number n h = omega arith

pub numbered-from : (first n : ℕ) (ts : List Thing) (rest : List (Row Numbered)) (i : ℕ) (t : Thing) → IsRising first (tokens_of_things ts) → n + length ts ≤ 65535 → slice_get ts i ≡ Some t → item_at (item_rows n ts ++ rest) t.at.token ≡ Some (numbered.Item (n + i))
numbered-from first n [] rest i t r few e = absurd (none-some t e)
numbered-from first n (x ∷ ts) rest zero t r few e =
    let at : n ≡ n + 0 = omega arith in
    found-here (record { token = x.at.token; item = numbered.Item n }) (item_rows (next_long n) ts ++ rest) t.at.token (ap token_of_thing (sym (same_Some x t e)))
    ∙ ap (λ k. Some (numbered.Item k)) at
numbered-from first n (x ∷ ts) rest (suc i) t r few e =
    let b : suc x.at.token ≤ t.at.token = not-below (suc x.at.token) (tokens_of_things ts) t.at.token r.1 (token-at ts i t e) in
    let k : next_long n ≡ n + 1 = next-number n (omega (arith, few)) in
    let at : n + 1 + i ≡ n + suc i = omega arith in
    found-later (record { token = x.at.token; item = numbered.Item n }) (item_rows (next_long n) ts ++ rest) t.at.token (λ same. absurd (omega (arith, same, b)))
    ∙ ap (λ m. item_at (item_rows m ts ++ rest) t.at.token) k
    ∙ numbered-from (suc x.at.token) (n + 1) ts rest i t r.1 (omega (arith, few)) e
    ∙ ap (λ k. Some (numbered.Item k)) at

-- ---- items

module _ (declarations : List (Row Declaration)) (numbers : List (Row Numbered)) (listed : List (Row Listing)) (addresses : List (Row ℕ)) (held : List (Row Held)) where
  pub item-made : (ts : List Thing) (i : ℕ) (t : Thing) → slice_get ts i ≡ Some t → slice_get (items_of declarations numbers listed addresses held ts) i ≡ Some (item_of declarations numbers listed addresses held t)
  item-made [] i t e = absurd (none-some t e)
  item-made (x ∷ ts) zero t e = ap (λ (y : Thing). Some (item_of declarations numbers listed addresses held y)) (same_Some x t e)
  item-made (x ∷ ts) (suc i) t e = item-made ts i t e

  pub as-long : (ts : List Thing) → length (items_of declarations numbers listed addresses held ts) ≡ length ts
  as-long [] = refl
  as-long (t ∷ ts) = ap suc (as-long ts)

  pub made-of : (ts : List Thing) (i : ℕ) (x : Item) → slice_get (items_of declarations numbers listed addresses held ts) i ≡ Some x → (t : Thing) × (slice_get ts i ≡ Some t) × (item_of declarations numbers listed addresses held t ≡ x)
  made-of [] i x e = absurd (none-some x e)
  made-of (t ∷ ts) zero x e = (t, refl, same_Some (item_of declarations numbers listed addresses held t) x e)
  made-of (t ∷ ts) (suc i) x e = made-of ts i x e

-- ---- places of rows

module _ {T : Type 0} where
  RowAt : List (Row T) → (token d : ℕ) → Type 0
  RowAt rs token d = (r : Row T) × (slice_get rs d ≡ Some r) × (r.token ≡ token)

  row-next : (r : Row T) (rs : List (Row T)) (token d : ℕ) (b : Bool) (o : Option ℕ) → nat_eq token r.token ≡ b → place_at rs token ≡ o → ((k : ℕ) → place_at rs token ≡ Some k → RowAt rs token k) → cond b (Some 0) (option_map suc o) ≡ Some d → RowAt (r ∷ rs) token d
  unfolding RowAt
  row-next r rs token d true o t f rest e = (r, ap (slice_get (r ∷ rs)) (sym (same_Some 0 d e)), sym (eqb-true token r.token t))
  row-next r rs token d false None t f rest e = absurd (none-some d e)
  row-next r rs token d false (Some k) t f rest e = let x = rest k f in (x.0, ap (slice_get (r ∷ rs)) (sym (same_Some (suc k) d e)) ∙ x.1, x.2)

  in-rows : (rs : List (Row T)) (token d : ℕ) → place_at rs token ≡ Some d → RowAt rs token d
  in-rows [] token d e = absurd (none-some d e)
  in-rows (r ∷ rs) token d e = row-next r rs token d (nat_eq token r.token) (place_at rs token) refl refl (λ k f. in-rows rs token k f) e

  pub row-at : (rs : List (Row T)) (token d : ℕ) → place_at rs token ≡ Some d → (r : Row T) × (slice_get rs d ≡ Some r) × (r.token ≡ token)
  unfolding RowAt
  row-at rs token d e = in-rows rs token d e
