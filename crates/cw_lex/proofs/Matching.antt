-- The bracket that matches the first.
use Rattle.std.proofs.Common.{◌≡◌, ◌≢◌, ℕ, zero, suc, ◌+◌, ◌-◌, ◌≤◌, ◌<◌, Bool, true, false, cond, ◌==◌, List, [], ◌∷◌, ◌++◌, length, take, Option, Some, None, refl, sym, ap, subst, ◌∙◌, arith}
use Rattle.std.proofs.lemmas.Bool.{eqb-true}
use Rattle.std.proofs.lemmas.List.Sums.{sum_by-append}
use Rattle.cw_lex.specs.Items.{openings, closings, IsBracketed}
use Rattle.cw_lex.specs.Found.{bracket_end}

-- Bytes that close so many brackets, and not before their end.
pub record Shuts (d : ℕ) (w : List ℕ) : Type 0 where
  pub matched : closings w ≡ d + openings w
  pub first : (u v : List ℕ) → u ++ v ≡ w → v ≢ [] → closings u < d + openings u

abbrev opens : ℕ → ℕ
opens b = cond (b == 40) 1 0

abbrev closes : ℕ → ℕ
closes b = cond (b == 41) 1 0

alone : (t : Bool) → 0 + cond t 1 0 ≡ cond t 1 0
alone true = refl
alone false = refl

opened_byte : (b : ℕ) (w : List ℕ) → openings (b ∷ w) ≡ opens b + openings w
opened_byte b w = sum_by-append (λ x. cond (x == 40) 1 0) (b ∷ []) w ∙ ap (λ (n : ℕ). n + openings w) (alone (b == 40))

closed_byte : (b : ℕ) (w : List ℕ) → closings (b ∷ w) ≡ closes b + closings w
closed_byte b w = sum_by-append (λ x. cond (x == 41) 1 0) (b ∷ []) w ∙ ap (λ (n : ℕ). n + closings w) (alone (b == 41))

pub shuts_bracketed : (w : List ℕ) → Shuts 1 w → IsBracketed (40 ∷ w)
shuts_bracketed w s = record { matched = omega (arith, s.matched, opened_byte 40 w, closed_byte 40 w); first = λ u v h n m. before u v h n m }
  where
    before : (u v : List ℕ) → u ++ v ≡ 40 ∷ w → u ≢ [] → v ≢ [] → closings u < openings u
    before [] v h n m = absurd (n refl)
    before (b ∷ u) v h n m =
        let head : b ≡ 40 = cc in
        let less = s.first u v (cc) m in
        let F : ℕ → Type 0 = λ (z : ℕ). closings (z ∷ u) < openings (z ∷ u) in
        subst F (sym head) (omega (arith, less, opened_byte 40 u, closed_byte 40 u))

pub bracketed_shuts : (w : List ℕ) → IsBracketed (40 ∷ w) → Shuts 1 w
bracketed_shuts w s = record { matched = omega (arith, s.matched, opened_byte 40 w, closed_byte 40 w); first = λ u v h m. (let less = s.first (40 ∷ u) v (ap (λ (z : List ℕ). 40 ∷ z) h) (λ e. cc) m in omega (arith, less, opened_byte 40 u, closed_byte 40 u)) }

on_byte : (b d e : ℕ) (w : List ℕ) → 1 ≤ d → closes b + e ≡ d + opens b → Shuts e w → Shuts d (b ∷ w)
on_byte b d e w l q s = record { matched = omega (arith, q, s.matched, opened_byte b w, closed_byte b w); first = before }
  where
    before : (u v : List ℕ) → u ++ v ≡ b ∷ w → v ≢ [] → closings u < d + openings u
    before [] v h m = omega (arith, l)
    before (x ∷ u) v h m =
        let head : x ≡ b = cc in
        let less = s.first u v (cc) m in
        let F : ℕ → Type 0 = λ (z : ℕ). closings (z ∷ u) < d + openings (z ∷ u) in
        subst F (sym head) (omega (arith, less, q, opened_byte b u, closed_byte b u))

tail_of : (b d e : ℕ) (w : List ℕ) → closes b + e ≡ d + opens b → Shuts d (b ∷ w) → Shuts e w
tail_of b d e w q s = record { matched = omega (arith, q, s.matched, opened_byte b w, closed_byte b w); first = λ u v h m. (let less = s.first (b ∷ u) v (ap (λ (z : List ℕ). b ∷ z) h) m in omega (arith, less, q, opened_byte b u, closed_byte b u)) }

empty_shuts : (d : ℕ) → 1 ≤ d → Shuts d [] → ⊥
empty_shuts d l s = omega (arith, l, s.matched)

-- the first end, if any
pub data ShutsAt (d at : ℕ) (bs : List ℕ) : Option ℕ → Type 0 where
  shut : (n : ℕ) → suc n ≤ length bs → Shuts d (take (suc n) bs) → ShutsAt d at bs (Some (at + suc n))
  never : ((v r : List ℕ) → v ++ r ≡ bs → Shuts d v → ⊥) → ShutsAt d at bs None

further : (b d e at : ℕ) (bs : List ℕ) (o : Option ℕ) → 1 ≤ d → closes b + e ≡ d + opens b → ShutsAt e (at + 1) bs o → ShutsAt d at (b ∷ bs) o
further b d e at bs _ l q (shut n k s) =
    let F : Option ℕ → Type 0 = λ (z : Option ℕ). ShutsAt d at (b ∷ bs) z in
    let size : at + suc (suc n) ≡ at + 1 + suc n = omega arith in
    subst F (ap Some size) (shut (suc n) (omega (arith, k)) (on_byte b d e (take (suc n) bs) l q s))
further b d e at bs _ l q (never f) = never go
  where
    go : (v r : List ℕ) → v ++ r ≡ b ∷ bs → Shuts d v → ⊥
    go [] r h s = empty_shuts d l s
    go (x ∷ v) r h s =
        let head : x ≡ b = cc in
        let F : ℕ → Type 0 = λ (z : ℕ). Shuts d (z ∷ v) in
        f v r (cc) (tail_of b d e v q (subst F head s))

last_byte : (bs : List ℕ) → Shuts 1 (41 ∷ [])
last_byte bs = record { matched = refl; first = before }
  where
    before : (u v : List ℕ) → u ++ v ≡ 41 ∷ [] → v ≢ [] → closings u < 1 + openings u
    before [] v h m = omega arith
    before (x ∷ []) v h m = absurd (m (cc))
    before (x ∷ y ∷ u) v h m = absurd cc

ends_here : (d at : ℕ) (bs : List ℕ) → d ≡ 1 → ShutsAt d at (41 ∷ bs) (Some (at + 1))
ends_here d at bs e = let F : ℕ → Type 0 = λ (z : ℕ). ShutsAt z at (41 ∷ bs) (Some (at + 1)) in subst F (sym e) (shut zero (omega arith) (last_byte bs))

not_one : (d : ℕ) → 1 ≤ d → (d == 1) ≡ false → 2 ≤ d
not_one zero l e = absurd (omega (arith, l))
not_one (suc zero) l e = absurd cc
not_one (suc (suc d)) l e = omega arith

pub bracket_end_is : (d at : ℕ) (bs : List ℕ) → 1 ≤ d → ShutsAt d at bs (bracket_end d at bs)
bracket_end_is d at [] l = never (λ v r h s. nothing v r h s)
  where
    nothing : (v r : List ℕ) → v ++ r ≡ [] → Shuts d v → ⊥
    nothing [] r h s = empty_shuts d l s
    nothing (x ∷ v) r h s = cc
bracket_end_is d at (b ∷ bs) l =
    elim (b == 40) as (λ t. (b == 40) ≡ t → ShutsAt d at (b ∷ bs) (cond t (bracket_end (d + 1) (at + 1) bs) (cond (b == 41) (cond (d == 1) (Some (at + 1)) (bracket_end (d - 1) (at + 1) bs)) (bracket_end d (at + 1) bs)))) [
      | true ↦ λ p.
          let count : closes b + (d + 1) ≡ d + opens b = (let e : b ≡ 40 = eqb-true b 40 p in rw e (omega arith)) in
          further b d (d + 1) at bs (bracket_end (d + 1) (at + 1) bs) l count (bracket_end_is (d + 1) (at + 1) bs (omega (arith, l)))
      | false ↦ λ p.
          elim (b == 41) as (λ t. (b == 41) ≡ t → ShutsAt d at (b ∷ bs) (cond t (cond (d == 1) (Some (at + 1)) (bracket_end (d - 1) (at + 1) bs)) (bracket_end d (at + 1) bs))) [
            | true ↦ λ q.
                let e : b ≡ 41 = eqb-true b 41 q in
                elim (d == 1) as (λ t. (d == 1) ≡ t → ShutsAt d at (b ∷ bs) (cond t (Some (at + 1)) (bracket_end (d - 1) (at + 1) bs))) [
                  | true ↦ λ z. (let F : ℕ → Type 0 = λ (x : ℕ). ShutsAt d at (x ∷ bs) (Some (at + 1)) in subst F (sym e) (ends_here d at bs (eqb-true d 1 z)))
                  | false ↦ λ z.
                      let two : 2 ≤ d = not_one d l z in
                      let count : closes b + (d - 1) ≡ d + opens b = rw e (omega (arith, two)) in
                      further b d (d - 1) at bs (bracket_end (d - 1) (at + 1) bs) l count (bracket_end_is (d - 1) (at + 1) bs (omega (arith, two)))
                ] refl
            | false ↦ λ q.
                let count : closes b + d ≡ d + opens b = rw (p, q) (omega arith) in
                further b d d at bs (bracket_end d (at + 1) bs) l count (bracket_end_is d (at + 1) bs l)
          ] refl
    ] refl
