-- Calls follow one another on each side of the ports.
use Rattle.std.proofs.Common.{◌≡◌, ℕ, ◌+◌, Bool, true, false, List, [], ◌++◌, length, Option, None, Some}
use Rattle.std.proofs.Common.{refl, sym, ap, subst, ◌∙◌, length-append, append_assoc, append-nil}
use Rattle.std.proofs.Math.Nat.{add_assoc, add-zero}
use Rattle.cw_io.specs.Bytes.{before_told, after_told}
use Rattle.cw_ports.specs.Pieces.{Took, Wrote}
use Rattle.cw_ports.specs.Later.{InputSide, InputGoes, InputFrom, InputLater, SupplyCause, OutputSide, OutputGoes, OutputFrom, OutputLater, OutputCause}
use Rattle.cw_ports.specs.declared.supply.Supply.{Supply}
use Rattle.cw_ports.specs.declared.supply.Supply.TheVariants.{Open, Faulty, TooLong}

pub after_nothing : (told : Option (List ℕ)) → after_told told [] ≡ told
after_nothing None = refl
after_nothing (Some held) = ap Some (append-nil held)

pub before_nothing : (told : Option (List ℕ)) → before_told [] told ≡ told
before_nothing None = refl
before_nothing (Some held) = refl

pub after_told-append : (told : Option (List ℕ)) (xs ys : List ℕ) → after_told (after_told told xs) ys ≡ after_told told (xs ++ ys)
after_told-append None xs ys = refl
after_told-append (Some held) xs ys = ap (λ bytes. Some bytes) (append_assoc held xs ys)

before_told-append : (xs ys : List ℕ) (told : Option (List ℕ)) → before_told xs (before_told ys told) ≡ before_told (xs ++ ys) told
before_told-append xs ys None = refl
before_told-append xs ys (Some left) = ap (λ bytes. Some bytes) (sym (append_assoc xs ys left))

-- ---- the input

took_none : (left : Option (List ℕ)) (taken : ℕ) → Took left left taken taken
took_none left taken = ([], sym (before_nothing left), sym (add-zero taken))

took_more : (a b c : Option (List ℕ)) (k m n : ℕ) → Took a b k m → Took b c m n → Took a c k n
took_more a b c k m n (xs, is, count) (ys, also, more) = (
  xs ++ ys,
  is ∙ ap (before_told xs) also ∙ before_told-append xs ys c,
  more ∙ ap (λ m. m + length ys) count ∙ add_assoc k (length xs) (length ys)
      ∙ ap (λ m. k + m) (sym (length-append xs ys)),
)

input_stays_by : (supply : Supply) (a : InputSide) → a.supply ≡ supply → InputFrom supply a a
input_stays_by Open a is = λ within. record {
  name = refl;
  took = took_none a.left a.taken;
  cause = subst (λ s. SupplyCause s a.faults a) (sym is) (refl, within);
}
input_stays_by Faulty a is = refl
input_stays_by TooLong a is = refl

pub input_stays : (a : InputSide) → InputLater a a
input_stays a = input_stays_by a.supply a refl

cause_from : (supply : Supply) (f g : ℕ) (c : InputSide) → g ≡ f → SupplyCause supply g c → SupplyCause supply f c
cause_from supply f g c same cause = subst (λ n. SupplyCause supply n c) same cause

goes_twice : (supply : Supply) (a b c : InputSide) → b.supply ≡ supply → InputGoes a b → InputFrom supply b c → InputGoes a c
goes_twice Open a b c is first second =
    let cause : SupplyCause Open a.faults b = subst (λ s. SupplyCause s a.faults b) is first.cause in
    let next = second cause.1 in
    record {
      name = next.name ∙ first.name;
      took = took_more a.left b.left c.left a.taken b.taken c.taken first.took next.took;
      cause = cause_from c.supply a.faults b.faults c cause.0 next.cause;
    }
goes_twice Faulty a b c is first second = subst (λ z. InputGoes a z) (sym second) first
goes_twice TooLong a b c is first second = subst (λ z. InputGoes a z) (sym second) first

same_after : (supply : Supply) (a b c : InputSide) → a.supply ≡ supply → b ≡ a → InputFrom b.supply b c → InputFrom supply b c
same_after supply a b c is same later = subst (λ s. InputFrom s b c) (ap (λ x. x.supply) same ∙ is) later

input_goes_on_by : (supply : Supply) (a b c : InputSide) → a.supply ≡ supply → InputFrom supply a b → InputLater b c → InputFrom supply a c
input_goes_on_by Open a b c is first second = λ within. goes_twice b.supply a b c refl (first within) second
input_goes_on_by Faulty a b c is first second = same_after Faulty a b c is first second ∙ first
input_goes_on_by TooLong a b c is first second = same_after TooLong a b c is first second ∙ first

pub input_goes_on : (a b c : InputSide) → InputLater a b → InputLater b c → InputLater a c
input_goes_on a b c first second = input_goes_on_by a.supply a b c refl first second

-- ---- the output

output_stays_by : (is_broken : Bool) (a : OutputSide) → a.is_broken ≡ is_broken → OutputFrom is_broken a a
output_stays_by false a is = record {
  name = refl;
  wrote = ([], sym (after_nothing a.held));
  cause = subst (λ s. OutputCause s a.faults a.faults) (sym is) refl;
}
output_stays_by true a is = refl

pub output_stays : (a : OutputSide) → OutputLater a a
output_stays a = output_stays_by a.is_broken a refl

wrote_more : (a b c : Option (List ℕ)) → Wrote a b → Wrote b c → Wrote a c
wrote_more a b c (xs, is) (ys, also) = (xs ++ ys, also ∙ ap (λ t. after_told t ys) is ∙ after_told-append a xs ys)

writes_twice : (is_broken : Bool) (a b c : OutputSide) → b.is_broken ≡ is_broken → OutputGoes a b → OutputFrom is_broken b c → OutputGoes a c
writes_twice false a b c is first second =
    let cause : OutputCause false a.faults b.faults = subst (λ s. OutputCause s a.faults b.faults) is first.cause in
    record {
      name = second.name ∙ first.name;
      wrote = wrote_more a.held b.held c.held first.wrote second.wrote;
      cause = subst (λ n. OutputCause c.is_broken n c.faults) cause second.cause;
    }
writes_twice true a b c is first second = subst (λ z. OutputGoes a z) (sym second) first

output_goes_on_by : (is_broken : Bool) (a b c : OutputSide) → a.is_broken ≡ is_broken → OutputFrom is_broken a b → OutputLater b c → OutputFrom is_broken a c
output_goes_on_by false a b c is first second = writes_twice b.is_broken a b c refl first second
output_goes_on_by true a b c is first second = subst (λ s. OutputFrom s b c) (ap (λ x. x.is_broken) first ∙ is) second ∙ first

pub output_goes_on : (a b c : OutputSide) → OutputLater a b → OutputLater b c → OutputLater a c
output_goes_on a b c first second = output_goes_on_by a.is_broken a b c refl first second
