-- A token that was taken.
use Rattle.std.proofs.Common.{◌≡◌, ℕ, ◌+◌, ◌<◌, Bool, true, false, cond, List, [], ◌∷◌, length, Result, Ok, Err, refl, sym, ap, ◌∙◌, arith}
use Rattle.cw_lex.specs.declared.token.TokenKind.{TokenKind}
use Rattle.cw_grammar.specs.Tokens.{Item, same}
use Rattle.cw_grammar.specs.Grammar.{starts}
use Rattle.cw_grammar.specs.declared.stop.Stop.{Stop}
use Rattle.cw_grammar.specs.declared.stop.Stop.TheVariants as stops
use Rattle.cw_grammar.specs.Reading.{Fault, syntax_at, deep_at, Read, Fails, take_one}

abbrev pub done : {A : Type 0} → A × List Item → Read A
done x = Ok x

abbrev pub stopped : {A : Type 0} → Fault → Read A
stopped f = Err f

pub same_done : {A : Type 0} (p q : A × List Item) → done p ≡ done q → p ≡ q
same_done p q e = cc

-- It is of the kind, and the first.
pub took : (k : TokenKind) (ts : List Item) (t : Item) (us : List Item) → take_one k ts ≡ Ok (t, us) → (ts ≡ t ∷ us) × (same t.kind k ≡ true)
took k [] t us e = absurd cc
took k (s ∷ ss) t us e = go (same s.kind k) refl
  where
    go : (b : Bool) → same s.kind k ≡ b → (s ∷ ss ≡ t ∷ us) × (same t.kind k ≡ true)
    go true h =
        let p : (s, ss) ≡ (t, us) = same_done (s, ss) (t, us) (let f = e in rw h at f) in
        let a : s ≡ t = ap (λ (x : Item × List Item). x.0) p in
        let b : ss ≡ us = ap (λ (x : Item × List Item). x.1) p in
        (rw (a, b) refl, rw a at h)
    go false h = absurd (let f : Err (syntax_at (length ss + 1)) ≡ Ok (t, us) = (let f = e in rw h at f) in cc)

pub took_shorter : (k : TokenKind) (ts : List Item) (t : Item) (us : List Item) → take_one k ts ≡ Ok (t, us) → length us + 1 ≡ length ts
took_shorter k ts t us e = omega (arith, ap length (took k ts t us e).0)

not_failed : (k : TokenKind) (us : List Item) → starts us (k ∷ []) ≡ true → (g : Fault) → take_one k us ≡ Err g → ⊥
not_failed k [] h g f = cc
not_failed k (u ∷ us) h g f = go (same u.kind k) refl
  where
    go : (b : Bool) → same u.kind k ≡ b → ⊥
    go true e = let x = f in let y : done (u, us) ≡ Err g = rw e at x in cc
    go false e = let x = h in let y : false ≡ true = rw e at x in cc

-- A token of the kind is taken.
pub is_taken : (e : Stop) (A : Type 0) (k : TokenKind) (ts : List Item) (total : Read A) → starts ts (k ∷ []) ≡ true → Fails e (take_one k ts) → Fails e total
is_taken stops.Memory A k ts total h f = tt
is_taken (stops.Syntax j) A k ts total h f = absurd (not_failed k ts h (syntax_at j) f)
is_taken (stops.Deep j) A k ts total h f = absurd (not_failed k ts h (deep_at j) f)
