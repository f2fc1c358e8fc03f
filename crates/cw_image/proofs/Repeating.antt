-- Fields read one after another.
use Rattle.std.proofs.Common.{◌≡◌, ℕ, suc, ◌-◌, ◌+◌, ◌≤◌, ◌<◌, List, [], ◌∷◌, ◌++◌, Result, Ok, Err, Option, Some, None, Bool, true, false, cond, eqb, length, refl, sym, ap, ◌∙◌, append_assoc, arith}
use Rattle.std.proofs.lemmas.List.{append-nil}
use Rattle.cw_image.specs.declared.fault.ImageFault.{ImageFault}
use Rattle.cw_image.specs.declared.fault.ImageFault.TheVariants.{NotImage, BadVersion, Truncated, BadField, Trailing, NoMemory}
use Rattle.cw_image.specs.ImageFormat.{◌>>=◌, ended, repeated, Fails, field, checked, between, name_field}
use Rattle.cw_fields.specs.Fields.{byte_in, text_in}
use Rattle.cw_fields.specs.Names.{is_name, named}

-- what was read before, and what is still read
abbrev pub with_front : {A : Type 0} → List A → Result (List A × List ℕ) ImageFault → Result (List A × List ℕ) ImageFault
with_front front read = read >>= λ x. Ok (front ++ x.0, x.1)

abbrev osome : {A : Type 0} → A → Option A
osome x = Some x

abbrev onone : {A : Type 0} → Option A
onone = None

abbrev pub ok : {A : Type 0} → A → Result A ImageFault
ok x = Ok x

abbrev pub bad : {A : Type 0} → ImageFault → Result A ImageFault
bad f = Err f

ns : {A : Type 0} {x : A} → osome x ≡ onone → ⊥
ns e = cc

tf : true ≡ false → ⊥
tf e = cc

regroup : {A : Type 0} (front : List A) (n : A) (read : Result (List A × List ℕ) ImageFault) → with_front front (read >>= λ x. Ok (n ∷ x.0, x.1)) ≡ with_front (front ++ n ∷ []) read
regroup {A} front n (Ok x) = ap (λ (ns : List A). ok (ns, x.1)) (sym (append_assoc front (n ∷ []) x.0))
regroup front n (Err f) = refl

pub goes_on : {A : Type 0} (step : ℕ → List ℕ → Result (A × List ℕ) ImageFault) (front : List A) (count i : ℕ) (bytes : List ℕ) (n : A) (after : List ℕ) (total : Result (List A × List ℕ) ImageFault) → i < count → step (count - (i + 1)) bytes ≡ Ok (n, after)
    → with_front front (repeated step (count - i) bytes) ≡ total → with_front (front ++ n ∷ []) (repeated step (count - (i + 1)) after) ≡ total
goes_on step front count i bytes n after total lt h so_far =
    let k : count - i ≡ suc (count - (i + 1)) = omega arith in
    let one : with_front front (repeated step (count - i) bytes) ≡ with_front (front ++ n ∷ []) (repeated step (count - (i + 1)) after) = rw (k, h) (regroup front n (repeated step (count - (i + 1)) after)) in
    sym one ∙ so_far

stops : {A : Type 0} (step : ℕ → List ℕ → Result (A × List ℕ) ImageFault) (front : List A) (count i : ℕ) (bytes : List ℕ) (total : Result (List A × List ℕ) ImageFault) (f : ImageFault) → i < count → step (count - (i + 1)) bytes ≡ Err f
    → with_front front (repeated step (count - i) bytes) ≡ total → total ≡ Err f
stops step front count i bytes total f lt h so_far =
    let k : count - i ≡ suc (count - (i + 1)) = omega arith in
    let one : with_front front (repeated step (count - i) bytes) ≡ Err f = rw (k, h) refl in
    sym so_far ∙ one

pub ends : {A : Type 0} (step : ℕ → List ℕ → Result (A × List ℕ) ImageFault) (f : ImageFault) (front : List A) (count i : ℕ) (bytes : List ℕ) (total : Result (List A × List ℕ) ImageFault) → i < count → Fails f (step (count - (i + 1)) bytes)
    → with_front front (repeated step (count - i) bytes) ≡ total → Fails f total
ends step NotImage front count i bytes total lt h so_far = stops step front count i bytes total NotImage lt h so_far
ends step BadVersion front count i bytes total lt h so_far = stops step front count i bytes total BadVersion lt h so_far
ends step (Truncated a) front count i bytes total lt h so_far = stops step front count i bytes total (Truncated a) lt h so_far
ends step (BadField a) front count i bytes total lt h so_far = stops step front count i bytes total (BadField a) lt h so_far
ends step (Trailing a) front count i bytes total lt h so_far = stops step front count i bytes total (Trailing a) lt h so_far
ends step NoMemory front count i bytes total lt h so_far = tt

pub is_done : {A : Type 0} (step : ℕ → List ℕ → Result (A × List ℕ) ImageFault) (front : List A) (count i : ℕ) (bytes : List ℕ) (total : Result (List A × List ℕ) ImageFault) → count ≤ i → with_front front (repeated step (count - i) bytes) ≡ total → total ≡ Ok (front, bytes)
is_done {A} step front count i bytes total le so_far =
    let k : count - i ≡ 0 = omega arith in
    let one : with_front front (repeated step (count - i) bytes) ≡ Ok (front, bytes) = rw k (ap (λ (ns : List A). ok (ns, bytes)) (append-nil front)) in
    sym so_far ∙ one

pub bind_ok : {A B : Type 0} (r : Result A ImageFault) (f : A → Result B ImageFault) (y : B) → (r >>= f) ≡ Ok y → (x : A) × (r ≡ Ok x) × (f x ≡ Ok y)
bind_ok (Ok x) f y e = (x, refl, e)
bind_ok (Err d) f y e = absurd cc

in_range_ok : (test : Bool) (place : ℕ) (x y : List ℕ × List ℕ) → cond test (ok x) (bad (BadField place)) ≡ Ok y → (test ≡ true) × (x ≡ y)
in_range_ok true place x y e = (refl, cc)
in_range_ok false place x y e = absurd cc

checked_ok : (len place : ℕ) (o : Option (List ℕ × List ℕ)) (y : List ℕ × List ℕ) → checked len is_name place o ≡ Ok y → is_name y.0 ≡ true
checked_ok len place None y e = absurd cc
checked_ok len place (Some x) y e = let t = in_range_ok (is_name x.0) place x y e in ap (λ (p : List ℕ × List ℕ). is_name p.0) (sym t.1) ∙ t.0

none_some : (text : List ℕ) → (o : Option (List ℕ)) → o ≡ Some text → o ≡ None → ⊥
none_some text o h k = ns (sym h ∙ k)

-- a name that was read is one
pub is_named : (len : ℕ) (rest text after : List ℕ) → name_field len rest ≡ Ok (text, after) → named text ≡ None → ⊥
unfolding name_field
is_named len rest text after e none =
    let b = bind_ok (field len byte_in (between 1 31) rest) (λ n. field len text_in is_name rest) (text, after) e in
    let t = checked_ok len (len - length rest) (text_in rest) (text, after) b.2 in
    none_some text (named text) (ap (λ (x : Bool). cond x (Some text) None) t) none

some_same : (x y : List ℕ) → osome x ≡ osome y → x ≡ y
some_same x y e = cc

pub name_is : (len : ℕ) (rest text after name : List ℕ) → name_field len rest ≡ Ok (text, after) → Some name ≡ named text → name_field len rest ≡ Ok (name, after)
unfolding name_field
name_is len rest text after name e read =
    let b = bind_ok (field len byte_in (between 1 31) rest) (λ n. field len text_in is_name rest) (text, after) e in
    let t = checked_ok len (len - length rest) (text_in rest) (text, after) b.2 in
    let same : name ≡ text = some_same name text (read ∙ ap (λ (x : Bool). cond x (Some text) None) t) in
    e ∙ ap (λ (n : List ℕ). ok (n, after)) (sym same)

pub ruleset repeating = (goes_on, ends, is_done)

pub not_ended : {A : Type 0} (len : ℕ) (x : A) (rest : List ℕ) → (eqb (length rest) 0 ≡ false) → ended len x rest ≡ Err (Trailing (len - length rest))
not_ended len x [] h = absurd (tf h)
not_ended len x (b ∷ bs) h = refl
