-- An object of version 1 with another header is one of version 2.
use Rattle.std.proofs.Common.{◌≡◌, ℕ, Bool, true, false, cond, ◌||◌, ◌&&◌, nat_eq, nat_lt, nat_le, List, [], ◌∷◌, ◌++◌, drop, refl, sym, ap, subst, ◌∙◌, inl, inr}
use Rattle.std.proofs.lemmas.Bool.{false≢true}
use Rattle.cw_view.specs.ObjectFormat.{Record, kind_of, last_kind, can_follow, IsVersion, header, front_bytes, IsFront, IsObjectOf}
use Rattle.cw_view.proofs.Splits.{tail_bytes, front_is}
use Rattle.cw_obj.specs.Migration.{IsMigrated}

left-true : (a b : Bool) → (a || false) ≡ true → (a || b) ≡ true
left-true true b h = refl
left-true false b h = absurd (false≢true h)

follow-if : (a b c d : Bool) (x y z w w' : Bool) → (w ≡ true → w' ≡ true) → cond a x (cond b y (cond c z (cond d false w))) ≡ true → cond a x (cond b y (cond c z (cond d false w'))) ≡ true
follow-if true b c d x y z w w' h e = e
follow-if false true c d x y z w w' h e = e
follow-if false false true d x y z w w' h e = e
follow-if false false false true x y z w w' h e = e
follow-if false false false false x y z w w' h e = h e

-- what may follow in version 1 may follow in version 2
follows : (last kind : ℕ) → can_follow 1 last kind ≡ true → can_follow 2 last kind ≡ true
follows last kind e =
    follow-if (nat_eq last 0) (nat_lt last 6) (nat_lt last 9) (nat_eq last 255) (nat_eq kind 1) (nat_le last kind && nat_le 2 kind && nat_le kind 6) (nat_le last kind && nat_le 7 kind && nat_le kind 9) (nat_eq kind 255 || false) (nat_eq kind 255 || nat_eq kind 10)
    (left-true (nat_eq kind 255) (nat_eq kind 10)) e

fronts : (rs : List Record) → IsFront 1 rs → IsFront 2 rs
fronts [] h = tt
fronts (r ∷ before) h = (fronts before h.0, record { in_order = follows (last_kind before) (kind_of r) h.1.in_order; fits = h.1.fits; short = h.1.short; allowed = h.1.allowed })

either : (v : ℕ) (rs : List Record) → IsVersion v → IsFront v rs → IsFront 2 rs
either v rs (inl e) h = fronts rs (subst (λ n. IsFront n rs) e h)
either v rs (inr e) h = subst (λ n. IsFront n rs) e h

behind : (v : ℕ) (rs : List Record) → drop 6 (front_bytes v rs) ≡ tail_bytes rs
behind v rs = ap (drop 6) (front_is v rs)

pub migrated : (bytes new : List ℕ) (v : ℕ) (rs : List Record) → IsObjectOf bytes v rs → new ≡ header 2 ++ drop 6 bytes → IsMigrated bytes new
migrated bytes new v rs o is = record {
  version = v;
  records = rs;
  from = o;
  to = record { version = inr refl; front = either v rs o.version o.front; ended = o.ended; spelled = is ∙ ap (λ bs. header 2 ++ bs) (ap (drop 6) o.spelled ∙ behind v rs) ∙ sym (front_is 2 rs) };
  spelled = is;
}
