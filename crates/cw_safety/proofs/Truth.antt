-- Parts of tests that hold, and of kinds that there are.
use Rattle.std.proofs.Common.{◌≡◌, ℕ, zero, suc, ◌+◌, List, [], ◌∷◌, Bool, true, false, IsTrue, ◌&&◌, Option, Some, None, refl, ap, subst, arith, slice_get, nat_eq}
use Rattle.std.proofs.lemmas.Bool.{eqb-true}
use Rattle.std.proofs.lemmas.Option.{none-some, same_Some}
use Rattle.cw_unit.specs.declared.unit.Proc.{Proc}
use Rattle.cw_safety.specs.Kinds.{Kind, WordKind, LabelKind, SwitchKind, ProcedureKind, weight, control_kinds, procedure_kind}
use Rattle.cw_safety.specs.WellFormed.{kind_if, kind_and}

pub no : {A : Type 0} → IsTrue false → A
no h = absurd (cc)

pub both : (a b : Bool) → IsTrue (a && b) → IsTrue a × IsTrue b
both true true h = (h, h)
both true false h = no h
both false b h = no h

pub nat_same : (a b : ℕ) → IsTrue (nat_eq a b) → a ≡ b
nat_same a b h = eqb-true a b h

pub if-kind : (b : Bool) (k m : Kind) → kind_if b k ≡ Some m → IsTrue b × (k ≡ m)
if-kind true k m e = (refl, same_Some k m e)
if-kind false k m e = absurd (none-some m e)

pub and-kinds : (a : Option Kind) (b : Option (List Kind)) (c : List Kind) → kind_and a b ≡ Some c → (m : Kind) × (ms : List Kind) × (a ≡ Some m) × (b ≡ Some ms) × (m ∷ ms ≡ c)
and-kinds None b c e = absurd (none-some c e)
and-kinds (Some m) None c e = absurd (none-some c e)
and-kinds (Some m) (Some ms) c e = (m, ms, refl, refl, same_Some (m ∷ ms) c e)

-- of a list whose items pass a test by their numbers, each passes it
pub each_numbered : {A : Type 0} (is : ℕ → A → Bool) (are : ℕ → List A → Bool) → ((n : ℕ) (x : A) (xs : List A) → are n (x ∷ xs) ≡ (is n x && are (suc n) xs))
    → (n k : ℕ) (xs : List A) (x : A) → IsTrue (are n xs) → slice_get xs k ≡ Some x → IsTrue (is (n + k) x)
each_numbered is are parts n k [] x h e = absurd (none-some x e)
each_numbered is are parts n zero (y ∷ xs) x h e =
    let first = (both (is n y) (are (suc n) xs) (subst IsTrue (parts n y xs) h)).0 in
    let at : n ≡ n + 0 = omega arith in
    subst (λ m. IsTrue (is m x)) at (subst (λ z. IsTrue (is n z)) (same_Some y x e) first)
each_numbered is are parts n (suc k) (y ∷ xs) x h e =
    let others = (both (is n y) (are (suc n) xs) (subst IsTrue (parts n y xs) h)).1 in
    let at : suc n + k ≡ n + suc k = omega arith in
    subst (λ m. IsTrue (is m x)) at (each_numbered is are parts (suc n) k xs x others e)

pub procedure-weight : (q : Option Proc) (m : Kind) → procedure_kind q ≡ Some m → 2 ≡ weight m
procedure-weight None m e = absurd (none-some m e)
procedure-weight (Some q) m e = ap weight (same_Some _ m e)

pub control-weight : (ks : List Kind) (n : ℕ) (m : Kind) → slice_get (control_kinds ks) n ≡ Some m → 2 ≡ weight m
control-weight [] n m e = absurd (none-some m e)
control-weight (WordKind ∷ ks) n m e = control-weight ks n m e
control-weight (LabelKind ∷ ks) zero m e = ap weight (same_Some LabelKind m e)
control-weight (SwitchKind ∷ ks) zero m e = ap weight (same_Some SwitchKind m e)
control-weight (ProcedureKind us ∷ ks) zero m e = ap weight (same_Some (ProcedureKind us) m e)
control-weight (_ ∷ ks) (suc n) m e = control-weight ks n m e
