-- Facts about sets of kinds.
use Rattle.std.proofs.Common.{◌≡◌, ℕ, Bool, true, false, cond, not, ◌&&◌, ◌||◌, List, [], ◌∷◌, ◌++◌, refl, sym, ap, ◌∙◌, inl, inr, append_assoc}
use Rattle.std.proofs.lemmas.Bool.{eqb-true, and_parts, or_cases, not-true, both_ways}
use Rattle.cw_grammar.specs.Tokens.{Item, code, same}
use Rattle.cw_lex.specs.declared.token.TokenKind.{TokenKind}
use Rattle.cw_grammar.specs.Grammar.{member, disjoint, within, starts}

pub or_false : (x y : Bool) → (x || y) ≡ false → (x ≡ false) × (y ≡ false)
or_false true y e = absurd cc
or_false false y e = (refl, e)

pub or_left : (x y : Bool) → x ≡ true → (x || y) ≡ true
or_left true y e = refl
or_left false y e = absurd cc

pub or_right : (x y : Bool) → y ≡ true → (x || y) ≡ true
or_right true y e = refl
or_right false y e = e

pub member_same : (k l : TokenKind) (ks : List TokenKind) → same k l ≡ true → member k ks ≡ member l ks
member_same k l [] e = refl
member_same k l (j ∷ ks) e =
    let c : code k ≡ code l = eqb-true (code k) (code l) e in
    rw (c, member_same k l ks e) refl

pub disjoint_at : (k : TokenKind) (ks ls : List TokenKind) → disjoint ks ls ≡ true → member k ks ≡ true → member k ls ≡ false
disjoint_at k [] ls d e = absurd cc
disjoint_at k (j ∷ ks) ls d e =
    let p = and_parts (not (member j ls)) (disjoint ks ls) d in
    elim (or_cases (same k j) (member k ks) e) [
      | inl h ↦ member_same k j ls h ∙ not-true (member j ls) p.0
      | inr h ↦ disjoint_at k ks ls p.1 h
    ]

pub member_append : (k : TokenKind) (ks ls : List TokenKind) → member k (ks ++ ls) ≡ (member k ks || member k ls)
member_append k [] ls = refl
member_append k (j ∷ ks) ls =
    let or_assoc : (x y z : Bool) → (x || (y || z)) ≡ ((x || y) || z) = λ x y z. elim x as (λ b. (b || (y || z)) ≡ ((b || y) || z)) [ true ↦ refl | false ↦ refl ] in
    ap (λ b. same k j || b) (member_append k ks ls) ∙ or_assoc (same k j) (member k ks) (member k ls)

pub within_at : (k : TokenKind) (ks ls : List TokenKind) → within ks ls ≡ true → member k ks ≡ true → member k ls ≡ true
within_at k [] ls w e = absurd cc
within_at k (j ∷ ks) ls w e =
    let p = and_parts (member j ls) (within ks ls) w in
    elim (or_cases (same k j) (member k ks) e) [
      | inl h ↦ member_same k j ls h ∙ p.0
      | inr h ↦ within_at k ks ls p.1 h
    ]

pub starts_disjoint : (ts : List Item) (ks ls : List TokenKind) → disjoint ks ls ≡ true → starts ts ls ≡ true → starts ts ks ≡ false
starts_disjoint [] ks ls d e = refl
starts_disjoint (t ∷ ts) ks ls d e =
    let b = member t.kind ks in
    let at : (c : Bool) → b ≡ c → b ≡ false = elim [ true ↦ λ h. absurd (both_ways (member t.kind ls) (disjoint_at t.kind ks ls d h) e) | false ↦ λ h. h ] in
    at b refl

pub starts_append : (ts : List Item) (ks ls : List TokenKind) → starts ts (ks ++ ls) ≡ (starts ts ks || starts ts ls)
starts_append [] ks ls = refl
starts_append (t ∷ ts) ks ls = member_append t.kind ks ls

-- Neither of two sets begins what no kind of both begins.
pub starts_neither : (ts : List Item) (ks ls : List TokenKind) → starts ts (ks ++ ls) ≡ false → (starts ts ks ≡ false) × (starts ts ls ≡ false)
starts_neither ts ks ls e = or_false (starts ts ks) (starts ts ls) (sym (starts_append ts ks ls) ∙ e)

pub starts_left : (ts : List Item) (ks ls : List TokenKind) → starts ts ks ≡ true → starts ts (ks ++ ls) ≡ true
starts_left ts ks ls e = starts_append ts ks ls ∙ or_left (starts ts ks) (starts ts ls) e

pub starts_right : (ts : List Item) (ks ls : List TokenKind) → starts ts ls ≡ true → starts ts (ks ++ ls) ≡ true
starts_right ts ks ls e = starts_append ts ks ls ∙ or_right (starts ts ks) (starts ts ls) e

pub starts_within : (ts : List Item) (ks ls : List TokenKind) → within ks ls ≡ true → starts ts ls ≡ false → starts ts ks ≡ false
starts_within [] ks ls w e = refl
starts_within (t ∷ ts) ks ls w e =
    let b = member t.kind ks in
    let at : (c : Bool) → b ≡ c → b ≡ false = elim [ true ↦ λ h. absurd (both_ways (member t.kind ls) e (within_at t.kind ks ls w h)) | false ↦ λ h. h ] in
    at b refl

pub starts_into : (ts : List Item) (ks ls : List TokenKind) → within ks ls ≡ true → starts ts ks ≡ true → starts ts ls ≡ true
starts_into [] ks ls w e = absurd cc
starts_into (t ∷ ts) ks ls w e = within_at t.kind ks ls w e
