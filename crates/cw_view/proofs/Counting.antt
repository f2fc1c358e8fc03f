-- So many fields, passed over one after another.
use Rattle.std.proofs.Common.{◌≡◌, ◌<◌, ◌≤◌, ◌+◌, ◌-◌, ℕ, suc, List, ◌∷◌, Option, Some, None, refl, sym, ◌∙◌, ap, arith}
use Rattle.cw_fields.specs.Fields.{Reader, ◌>>=◌, counted, rest_of}

kept_rest : {A B : Type 0} (read : Option (A × List ℕ)) (f : A → B) → rest_of (read >>= λ xs. Some (f xs.0, xs.1)) ≡ rest_of read
kept_rest None f = refl
kept_rest (Some x) f = refl

first_of_more : {A : Type 0} (n : ℕ) (a : Reader A) (read : Option (A × List ℕ)) (after : List ℕ) → rest_of read ≡ Some after
    → rest_of (read >>= λ x. counted n a x.1 >>= λ xs. Some (x.0 ∷ xs.0, xs.1)) ≡ rest_of (counted n a after)
first_of_more n a None after h = absurd cc
first_of_more n a (Some x) after h =
    let e : x.1 ≡ after = cc in
    kept_rest (counted n a x.1) (λ xs. x.0 ∷ xs) ∙ ap (λ r. rest_of (counted n a r)) e

first_off : {A : Type 0} (n : ℕ) (a : Reader A) (bytes after : List ℕ) → rest_of (a bytes) ≡ Some after → rest_of (counted (suc n) a bytes) ≡ rest_of (counted n a after)
first_off n a bytes after h = first_of_more n a (a bytes) after h

none_of_more : {A : Type 0} (n : ℕ) (a : Reader A) (read : Option (A × List ℕ)) → rest_of read ≡ None → rest_of (read >>= λ x. counted n a x.1 >>= λ xs. Some (x.0 ∷ xs.0, xs.1)) ≡ None
none_of_more n a None h = refl
none_of_more n a (Some x) h = absurd cc

none_off : {A : Type 0} (n : ℕ) (a : Reader A) (bytes : List ℕ) → rest_of (a bytes) ≡ None → rest_of (counted (suc n) a bytes) ≡ None
none_off n a bytes h = none_of_more n a (a bytes) h

pub goes_on : {A : Type 0} (a : Reader A) (n i : ℕ) (bytes after : List ℕ) (total : Option (List ℕ)) → i < n → rest_of (a bytes) ≡ Some after → rest_of (counted (n - i) a bytes) ≡ total → rest_of (counted (n - (i + 1)) a after) ≡ total
goes_on a n i bytes after total lt h so_far =
    let k : n - i ≡ suc (n - (i + 1)) = omega arith in
    let one : rest_of (counted (n - i) a bytes) ≡ rest_of (counted (n - (i + 1)) a after) = rw k (first_off (n - (i + 1)) a bytes after h) in
    sym one ∙ so_far

pub ends : {A : Type 0} (a : Reader A) (n i : ℕ) (bytes : List ℕ) (total : Option (List ℕ)) → i < n → rest_of (a bytes) ≡ None → rest_of (counted (n - i) a bytes) ≡ total → total ≡ None
ends a n i bytes total lt h so_far =
    let k : n - i ≡ suc (n - (i + 1)) = omega arith in
    let one : rest_of (counted (n - i) a bytes) ≡ None = rw k (none_off (n - (i + 1)) a bytes h) in
    sym so_far ∙ one

pub is_done : {A : Type 0} (a : Reader A) (n i : ℕ) (bytes : List ℕ) (total : Option (List ℕ)) → n ≤ i → rest_of (counted (n - i) a bytes) ≡ total → total ≡ Some bytes
is_done a n i bytes total le so_far =
    let k : n - i ≡ 0 = omega arith in
    let one : rest_of (counted (n - i) a bytes) ≡ Some bytes = rw k refl in
    sym so_far ∙ one

pub ruleset counting = (goes_on, ends, is_done)
