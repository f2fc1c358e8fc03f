-- Bytes that fit by what is known of the end are those of some input.
use Rattle.std.proofs.Common.{◌≡◌, ℕ, ◌<◌, List, [], ◌∷◌, length, drop, Bool, true, false, Option, Some, None, refl, sym, ap, subst, ◌∙◌, arith}
use Rattle.std.proofs.lemmas.Bool.{ne_eqb}
use Rattle.std.proofs.lemmas.List.Elements.{All-nil, All-cons, All-head}
use Rattle.std.specs.Prelude.{◌==◌, slice_index, if◌then◌else◌}
use Rattle.cw_i86.specs.MachineRun.{Event, Silent, Takes, Gives, left_behind, FitsInput}
use Rattle.cw_cpu86.specs.Ports.{AreBytes, MayBeLeft, unless_there, at_end_after, at_end_behind, FitsUntold}

-- what a port gives and leaves, by which port it is
abbrev given : (p q : Bool) → List ℕ → ℕ
given p q input = if p then slice_index input 0 else if q then (if length input == 0 then 1 else 0) else 0

abbrev behind : (p : Bool) → List ℕ → List ℕ
behind p input = if p then drop 1 input else input

abbrev known : (p q : Bool) → (value : ℕ) → Option Bool → Option Bool
known p q value at_end = if p then unless_there at_end else if q then Some (value == 1) else at_end

-- a byte of some input that may be left is given, and another one may be left then
abbrev IsGiven : (p q : Bool) → (at_end : Option Bool) → (value : ℕ) → Type 0
IsGiven p q at_end value = (input : List ℕ) × AreBytes input × MayBeLeft at_end input × (value ≡ given p q input)

record Before (p q : Bool) (at_end : Option Bool) (value : ℕ) (rest : List ℕ) : Type 0 where
  input : List ℕ
  bytes : AreBytes input
  may : MayBeLeft at_end input
  gives : value ≡ given p q input
  leaves : behind p input ≡ rest

first_byte : (input : List ℕ) → AreBytes input → slice_index input 0 < 256
first_byte [] bytes = omega arith
first_byte (x ∷ input) bytes = All-head (λ b. b < 256) x input bytes

some_left : (x : ℕ) (input : List ℕ) → (length (x ∷ input) == 0) ≡ false
some_left x input = ne_eqb _ _ (λ e. let bad : length (x ∷ input) ≡ 0 = e in omega arith)

-- port 10h
one_more : (q : Bool) (at_end : Option Bool) (value : ℕ) (rest : List ℕ) → MayBeLeft at_end (value ∷ rest) → IsGiven true q at_end value → AreBytes rest → Before true q at_end value rest
one_more q at_end value rest may (was, were, left, is) bytes = record {
  input = value ∷ rest;
  bytes = All-cons (λ b. b < 256) value rest (subst (λ v. v < 256) (sym is) (first_byte was were)) bytes;
  may = may;
  gives = refl;
  leaves = refl;
}

taken_back : (q : Bool) (at_end : Option Bool) (value : ℕ) (rest : List ℕ) → IsGiven true q at_end value → AreBytes rest → MayBeLeft (unless_there at_end) rest → Before true q at_end value rest
taken_back q None value rest is bytes may = one_more q None value rest tt is bytes
taken_back q (Some false) value rest is bytes may =
    let some : 0 < length (value ∷ rest) = omega arith in
    one_more q (Some false) value rest some is bytes
taken_back q (Some true) value rest (was, were, left, is) bytes may = record {
  input = [];
  bytes = All-nil (λ b. b < 256);
  may = refl;
  gives = is ∙ ap (λ i. slice_index i 0) left;
  leaves = sym may;
}

-- port 11h
at_its_end : (value : ℕ) (rest : List ℕ) → value ≡ 1 → MayBeLeft (Some (value == 1)) rest → rest ≡ []
at_its_end value rest is may = subst (λ v. MayBeLeft (Some (v == 1)) rest) is may

not_at_its_end : (value : ℕ) (rest : List ℕ) → value ≡ 0 → MayBeLeft (Some (value == 1)) rest → 0 < length rest
not_at_its_end value rest is may = subst (λ v. MayBeLeft (Some (v == 1)) rest) is may

may_be_none : (at_end : Option Bool) → MayBeLeft at_end [] → (rest : List ℕ) → rest ≡ [] → MayBeLeft at_end rest
may_be_none at_end may rest none = subst (MayBeLeft at_end) (sym none) may

may_be_some : (at_end : Option Bool) (x : ℕ) (was : List ℕ) → MayBeLeft at_end (x ∷ was) → (rest : List ℕ) → 0 < length rest → MayBeLeft at_end rest
may_be_some None x was may rest some = tt
may_be_some (Some false) x was may rest some = some
may_be_some (Some true) x was may rest some = absurd (cc)

tells_some : (rest : List ℕ) → 0 < length rest → given false true rest ≡ 0
tells_some [] some = absurd (omega (arith, some))
tells_some (x ∷ rest) some = rw (some_left x rest) refl

told_back : (at_end : Option Bool) (value : ℕ) (rest was : List ℕ) → MayBeLeft at_end was → value ≡ given false true was → AreBytes rest → MayBeLeft (Some (value == 1)) rest → Before false true at_end value rest
told_back at_end value rest [] left is bytes may =
    let none : rest ≡ [] = at_its_end value rest is may in
    record { input = rest; bytes = bytes; may = may_be_none at_end left rest none; gives = is ∙ ap (given false true) (sym none); leaves = refl }
told_back at_end value rest (x ∷ was) left is bytes may =
    let zero_is : value ≡ 0 = is ∙ tells_some (x ∷ was) (omega arith) in
    let some : 0 < length rest = not_at_its_end value rest zero_is may in
    record { input = rest; bytes = bytes; may = may_be_some at_end x was left rest some; gives = zero_is ∙ sym (tells_some rest some); leaves = refl }

back : (p q : Bool) (at_end : Option Bool) (value : ℕ) (rest : List ℕ) → IsGiven p q at_end value → AreBytes rest → MayBeLeft (known p q value at_end) rest → Before p q at_end value rest
back true q at_end value rest is bytes may = taken_back q at_end value rest is bytes may
back false true at_end value rest (was, were, left, is) bytes may = told_back at_end value rest was left is bytes may
back false false at_end value rest (was, were, left, is) bytes may = record { input = rest; bytes = bytes; may = may; gives = is; leaves = refl }

pub fitting : (events : List Event) (at_end : Option Bool) (later : List ℕ) → FitsUntold at_end events → AreBytes later → MayBeLeft (at_end_behind events at_end) later
    → (input : List ℕ) × AreBytes input × MayBeLeft at_end input × FitsInput input events × (left_behind events input ≡ later)
fitting [] at_end later fits bytes may = (later, bytes, may, tt, refl)
fitting (Silent ∷ events) at_end later fits bytes may = fitting events at_end later fits bytes may
fitting (Gives port value ∷ events) at_end later fits bytes may = fitting events at_end later fits bytes may
fitting (Takes port value ∷ events) at_end later fits bytes may =
    let k = fitting events (at_end_after port value at_end) later fits.1 bytes may in
    let b = back (port == 0x10) (port == 0x11) at_end value k.0 fits.0 k.1 k.2 in
    (b.input, b.bytes, b.may, (b.gives, subst (λ i. FitsInput i events) (sym b.leaves) k.3), ap (left_behind events) b.leaves ∙ k.4)
