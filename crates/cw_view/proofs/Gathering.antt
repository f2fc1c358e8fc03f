-- So many fields, gathered one after another.
use Rattle.std.proofs.Common.{◌≡◌, ℕ, suc, ◌-◌, ◌+◌, ◌≤◌, ◌<◌, List, [], ◌∷◌, ◌++◌, Option, Some, None, refl, sym, ap, ◌∙◌, append_assoc, arith}
use Rattle.std.proofs.lemmas.List.{append-nil}
use Rattle.cw_view.specs.declared.building.DescFault.{DescFault}
use Rattle.cw_view.specs.declared.building.DescFault.TheVariants.{NotDesc, NoMemory}
use Rattle.cw_fields.specs.Fields.{Reader, ◌>>=◌, counted, text_in}
use Rattle.cw_view.specs.Views.{BuiltOr}
use Rattle.cw_fields.specs.Names.{is_name, named, name_in}
use Rattle.cw_fields.proofs.Spelled.{some, nothing, tested}
use Rattle.cw_fields.proofs.Formats.{some_is, bind_some}

-- what was read before, and what is still read
abbrev pub with_front : {A : Type 0} → List A → Option (List A × List ℕ) → Option (List A × List ℕ)
with_front front read = read >>= λ x. Some (front ++ x.0, x.1)

ns : {A : Type 0} {x : A} → some x ≡ nothing → ⊥
ns e = cc

regroup : {A : Type 0} (front : List A) (n : A) (read : Option (List A × List ℕ)) → with_front front (read >>= λ x. Some (n ∷ x.0, x.1)) ≡ with_front (front ++ n ∷ []) read
regroup {A} front n (Some x) = ap (λ (ns : List A). some (ns, x.1)) (sym (append_assoc front (n ∷ []) x.0))
regroup front n None = refl

pub goes_on : {A : Type 0} (read : Reader A) (front : List A) (count i : ℕ) (bytes : List ℕ) (n : A) (after : List ℕ) (total : Option (List A × List ℕ)) → i < count → read bytes ≡ Some (n, after)
    → with_front front (counted (count - i) read bytes) ≡ total → with_front (front ++ n ∷ []) (counted (count - (i + 1)) read after) ≡ total
goes_on read front count i bytes n after total lt h so_far =
    let k : count - i ≡ suc (count - (i + 1)) = omega arith in
    let one : with_front front (counted (count - i) read bytes) ≡ with_front (front ++ n ∷ []) (counted (count - (i + 1)) read after) = rw (k, h) (regroup front n (counted (count - (i + 1)) read after)) in
    sym one ∙ so_far

pub ends : {A : Type 0} (read : Reader A) (f : DescFault) (front : List A) (count i : ℕ) (bytes : List ℕ) (total : Option (List A × List ℕ)) → i < count → BuiltOr f (read bytes)
    → with_front front (counted (count - i) read bytes) ≡ total → BuiltOr f total
ends read NotDesc front count i bytes total lt h so_far =
    let k : count - i ≡ suc (count - (i + 1)) = omega arith in
    let one : with_front front (counted (count - i) read bytes) ≡ None = rw (k, h) refl in
    sym so_far ∙ one
ends read NoMemory front count i bytes total lt h so_far = tt

pub is_done : {A : Type 0} (read : Reader A) (front : List A) (count i : ℕ) (bytes : List ℕ) (total : Option (List A × List ℕ)) → count ≤ i → with_front front (counted (count - i) read bytes) ≡ total → total ≡ Some (front, bytes)
is_done {A} read front count i bytes total le so_far =
    let k : count - i ≡ 0 = omega arith in
    let one : with_front front (counted (count - i) read bytes) ≡ Some (front, bytes) = rw k (ap (λ (ns : List A). some (ns, bytes)) (append-nil front)) in
    sym so_far ∙ one

only_first : {A B : Type 0} (x y : A) (a b : B) → some {A = A × B} (x, a) ≡ some {A = A × B} (y, b) → x ≡ y
only_first {A} {B} x y a b e = ap (λ (p : A × B). p.0) (some_is (x, a) (y, b) e)

none_some : {A : Type 0} (x : A) (o : Option A) → o ≡ Some x → o ≡ None → ⊥
none_some x o h k = ns (sym h ∙ k)

named_again : (x y : List ℕ) → named x ≡ Some y → named y ≡ Some y
named_again x y e = let t = tested (is_name x) x y e in ap named (sym t.1) ∙ e

-- a name that was read is one
pub is_named : (bytes text rest : List ℕ) → name_in bytes ≡ Some (text, rest) → named text ≡ None → ⊥
unfolding name_in
is_named bytes text rest e none =
    let first = bind_some (text_in bytes) (λ x. named x.0 >>= λ y. Some (y, x.1)) (text, rest) e in
    let second = bind_some (named first.0.0) (λ y. Some (y, first.0.1)) (text, rest) first.2 in
    let same : second.0 ≡ text = only_first second.0 text first.0.1 rest second.2 in
    none_some text (named text) (ap named (sym same) ∙ named_again first.0.0 second.0 second.1 ∙ ap some same) none

pub ruleset gathering = (goes_on, ends, is_done)
