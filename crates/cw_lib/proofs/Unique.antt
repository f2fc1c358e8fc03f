-- Bytes are one library, or have one first fault: what is read at the front says which of the two, and where.
use Rattle.std.proofs.Common.{◌≡◌, ℕ, zero, suc, ◌+◌, ◌<◌, ◌≤◌, Bool, true, false, cond, ◌&&◌, ltb, leb, eqb, All, List, [], ◌∷◌, ◌++◌, length, take, drop, Option, Some, None, Result, Ok, Err, refl, sym, ap, subst, ◌∙◌, append_assoc, arith, inl, inr, ◌⊎◌}
use Rattle.std.specs.Str.{bytes_eq}
use Rattle.std.specs.List.{AllByRecursion}
use Rattle.std.proofs.lemmas.Slice.Eq.{bytes_eq-Decides}
use Rattle.std.proofs.lemmas.Bool.{cases_lt, lt-ltb, le-ltb, le-leb, leb-true, ne_eqb}
use Rattle.std.proofs.lemmas.List.{append-nil, length-append, take_all, take_at, get_or_past, get_or_default}
use Rattle.byteorder.specs.Endian.{little_number}
use Rattle.byteorder.specs.Numbers.{little_number-reads_back}
use Rattle.cw_fields.specs.Fields.{each, word_bytes, IsLong, long_bytes}
use Rattle.cw_fields.specs.Spelling.{IsBytes}
use Rattle.cw_fields.proofs.Formats.{some_is, IsBytes-take}
use Rattle.cw_view.specs.declared.fault.ObjFault.{ObjFault}
use Rattle.cw_view.specs.ObjectFormat.{IsObject, IsFirstObjectFault}
use Rattle.cw_view.proofs.Unique.{one_fault}
use Rattle.cw_view.proofs.NoFault.{not_both as object_no_fault}
use Rattle.cw_lib.specs.declared.fault.LibFault.{LibFault}
use Rattle.cw_lib.specs.declared.fault.LibFault.TheVariants.{NotLibrary, BadVersion, Truncated, BadField, BadMember, Trailing}
use Rattle.cw_lib.specs.LibraryFormat.{Bytes, mark, header, start, IsNumber, IsMember, member_bytes, front_bytes, library_bytes, IsLibrary, FailsBehind, no_length, cut, no_object, trailing, IsFirstLibraryFault, not_library, no_version, other_version, no_number, bad_number, behind}
use Rattle.cw_lib.specs.Reading.{first_member, members_in}
use Rattle.cw_lib.specs.Uniqueness.{HasOneLibrary, HasOneFault, HasNotBoth}
use Rattle.cw_lib.proofs.Members.{reads_member, in_front, members_again, in_length, in_member, cut_is_none, rest_fits}

-- ---- behind the first members

abbrev Split : Type 0
Split = Bytes × Bytes

abbrev skipped : (Bytes → Option Bytes) → Option Split → Option Bytes
skipped more None = None
skipped more (Some x) = more x.1

-- what follows the first k members
abbrev skip : (k : ℕ) → Bytes → Option Bytes
skip zero rest = Some rest
skip (suc k) rest = skipped (skip k) (first_member rest)

abbrev some : Bytes → Option Bytes
some x = Some x

abbrev some_split : Split → Option Split
some_split x = Some x

none_some : (x : Split) → None ≡ some_split x → ⊥
none_some x e = cc

some_one : {x y : Bytes} → some x ≡ some y → x ≡ y
some_one e = cc

split_is : (x y : Split) → some_split x ≡ some_split y → x ≡ y
split_is x y e = some_is x y e

skip_front : (ms : List Bytes) (rest : Bytes) → AllByRecursion IsMember ms → skip (length ms) (each member_bytes ms ++ rest) ≡ Some rest
skip_front [] rest h = refl
skip_front (m ∷ ms) rest h = ap (skipped (skip (length ms))) (in_front m ms rest h.0) ∙ skip_front ms rest h.1

-- an object stands at a place
record IsObjectAt (rest : Bytes) : Type 0 where
  split : Split
  is : first_member rest ≡ Some split
  object : IsObject split.0

member_at : (ms : List Bytes) (more rest : Bytes) (k : ℕ) → AllByRecursion IsMember ms → k < length ms → skip k (each member_bytes ms ++ more) ≡ Some rest → IsObjectAt rest
member_at [] more rest k h lt e = absurd (omega (arith, lt))
member_at (m ∷ ms) more rest zero h lt e =
    let same : each member_bytes (m ∷ ms) ++ more ≡ rest = some_one e in
    record { split = (m, each member_bytes ms ++ more); is = ap first_member (sym same) ∙ in_front m ms more h.0; object = h.0.object }
member_at (m ∷ ms) more rest (suc k) h lt e = member_at ms more rest k h.1 (omega (arith, lt)) (sym (ap (skipped (skip k)) (in_front m ms more h.0)) ∙ e)

-- ---- the fault at a place, by what is read there

data Stops (n k place len : ℕ) (rest : Bytes) (f : LibFault) : Type 0 where
  stops_cut : k < n → first_member rest ≡ None → f ≡ Truncated len → Stops n k place len rest f
  stops_bad : (x : Split) (fault : ObjFault) → k < n → first_member rest ≡ Some x → IsFirstObjectFault x.0 fault → f ≡ BadMember (k + 1) fault → Stops n k place len rest f
  stops_more : k ≡ n → (rest ≡ [] → ⊥) → f ≡ Trailing place → Stops n k place len rest f

member_read : (member after : Bytes) → IsLong (length member) → first_member (member_bytes member ++ after) ≡ Some (member, after)
member_read member after long = reads_member.again member after long

stops : (n place len : ℕ) (before : List Bytes) (rest : Bytes) (f : LibFault) → FailsBehind n before place len rest f → Stops n (length before) place len rest f
stops n place len before rest f (no_length lt few) = stops_cut lt (cut_is_none rest (in_length few)) refl
stops n place len before rest f (cut size part lt long few) = stops_cut lt (cut_is_none (long_bytes size ++ part) (in_member size part long few)) refl
stops n place len before rest f (no_object member after {fault} lt long wrong) = stops_bad (member, after) fault lt (member_read member after long) wrong refl
stops n place len before rest f (trailing all) = stops_more all (λ e. cc) refl

within : (n k place len : ℕ) (rest : Bytes) (f : LibFault) → Stops n k place len rest f → k ≤ n
within n k place len rest f (stops_cut lt none is) = omega (arith, lt)
within n k place len rest f (stops_bad x fault lt some wrong is) = omega (arith, lt)
within n k place len rest f (stops_more all there is) = omega (arith, all)

all_bytes : (bytes : Bytes) → All (λ b. b < 256) bytes → IsBytes bytes
all_bytes bytes h i = elim (cases_lt i (length bytes)) [ inl lt ↦ h i 0 lt | inr le ↦ subst (λ b. b < 256) (sym (get_or_past bytes i 0 le)) (omega arith) ]

fits_all : (bytes : Bytes) → IsBytes bytes → All (λ b. b < 256) bytes
fits_all bytes h i d lt = subst (λ b. b < 256) (sym (get_or_default bytes i d 0 lt)) (h i)

member_fits : (rest : Bytes) (x : Split) → IsBytes rest → first_member rest ≡ Some x → All (λ b. b < 256) x.0
member_fits rest x fits at =
    let t = reads_member.takes rest x fits at in
    let tail : IsBytes (x.0 ++ x.1) = rest_fits rest (long_bytes (length x.0)) (x.0 ++ x.1) fits (t.0 ∙ append_assoc (long_bytes (length x.0)) x.0 x.1) in
    fits_all x.0 (subst IsBytes (take_at x.0 x.1 (length x.0) refl) (IsBytes-take (length x.0) (x.0 ++ x.1) tail))

-- no fault stands where an object does
no_stop : (n k place len : ℕ) (rest : Bytes) (f : LibFault) → k < n → IsObjectAt rest → Stops n k place len rest f → ⊥
no_stop n k place len rest f lt o (stops_cut less none is) = none_some o.split (sym none ∙ o.is)
no_stop n k place len rest f lt o (stops_bad x fault less at wrong is) =
    let same : x ≡ o.split = split_is x o.split (sym at ∙ o.is) in
    let object = subst (λ (y : Split). IsObject y.0) (sym same) o.object in
    object_no_fault x.0 object.0 object.1 object.2 fault wrong
no_stop n k place len rest f lt o (stops_more all there is) = omega (arith, all, lt)

one_stop : (n k place len : ℕ) (rest : Bytes) (f g : LibFault) → IsBytes rest → Stops n k place len rest f → Stops n k place len rest g → f ≡ g
one_stop n k place len rest f g fits (stops_cut lt none is) (stops_cut lt' none' is') = is ∙ sym is'
one_stop n k place len rest f g fits (stops_cut lt none is) (stops_bad x fault lt' at wrong is') = absurd (none_some x (sym none ∙ at))
one_stop n k place len rest f g fits (stops_cut lt none is) (stops_more all there is') = absurd (omega (arith, lt, all))
one_stop n k place len rest f g fits (stops_bad x fault lt at wrong is) (stops_cut lt' none is') = absurd (none_some x (sym none ∙ at))
one_stop n k place len rest f g fits (stops_bad x fault lt at wrong is) (stops_bad x' fault' lt' at' wrong' is') =
    let same : x ≡ x' = split_is x x' (sym at ∙ at') in
    let bytes = member_fits rest x fits at in
    is ∙ ap (BadMember (k + 1)) (one_fault x.0 fault fault' bytes wrong (subst (λ (y : Split). IsFirstObjectFault y.0 fault') (sym same) wrong')) ∙ sym is'
one_stop n k place len rest f g fits (stops_bad x fault lt at wrong is) (stops_more all there is') = absurd (omega (arith, lt, all))
one_stop n k place len rest f g fits (stops_more all there is) (stops_cut lt none is') = absurd (omega (arith, lt, all))
one_stop n k place len rest f g fits (stops_more all there is) (stops_bad x fault lt at wrong is') = absurd (omega (arith, lt, all))
one_stop n k place len rest f g fits (stops_more all there is) (stops_more all' there' is') = is ∙ sym is'

no_stop_at_end : (n k place len : ℕ) (rest : Bytes) (f : LibFault) → k ≡ n → rest ≡ [] → Stops n k place len rest f → ⊥
no_stop_at_end n k place len rest f all none (stops_cut lt at is) = omega (arith, lt, all)
no_stop_at_end n k place len rest f all none (stops_bad x fault lt at wrong is) = omega (arith, lt, all)
no_stop_at_end n k place len rest f all none (stops_more same there is) = there none

-- ---- the front

abbrev number_status : ℕ → Result ℕ LibFault
number_status n = cond (leb 1 n && leb n 200) (Ok n) (Err (BadField 6))

abbrev after_version : Bytes → Result ℕ LibFault
after_version bytes = cond (ltb (length bytes) 8) (Err (Truncated (length bytes))) (number_status (little_number 2 (drop 6 bytes)))

abbrev after_mark : Bytes → Result ℕ LibFault
after_mark bytes = cond (ltb (length bytes) 6) (Err (Truncated (length bytes))) (cond (eqb (little_number 2 (drop 4 bytes)) 1) (after_version bytes) (Err BadVersion))

-- the number of members, or what is wrong before them
abbrev status : Bytes → Result ℕ LibFault
status bytes = cond (bytes_eq (take 4 bytes) (take (length bytes) mark)) (after_mark bytes) (Err NotLibrary)

abbrev ok : ℕ → Result ℕ LibFault
ok n = Ok n

abbrev err : LibFault → Result ℕ LibFault
err f = Err f

ok_is : (n m : ℕ) → ok n ≡ ok m → n ≡ m
ok_is n m e = cc

err_is : (f g : LibFault) → err f ≡ err g → f ≡ g
err_is f g e = cc

err_ok : (f : LibFault) (n : ℕ) → err f ≡ ok n → ⊥
err_ok f n e = cc

marked : (bytes : Bytes) → take 4 bytes ≡ take (length bytes) mark → status bytes ≡ after_mark bytes
marked bytes e = ap (λ b. cond b (after_mark bytes) (err NotLibrary)) ((bytes_eq-Decides (take 4 bytes) (take (length bytes) mark)).1 e)

-- bytes that begin with a header
module _ (bytes : Bytes) (v : ℕ) (rest : Bytes) (e : bytes ≡ header v ++ rest) (fits : v < 65536) where
  long : length bytes ≡ 6 + length rest
  long = omega (arith, ap length e, length-append (header v) rest)

  has_mark : take 4 bytes ≡ take (length bytes) mark
  has_mark = ap (take 4) e ∙ sym (take_all (length bytes) mark (omega (arith, long)))

  version_is : little_number 2 (drop 4 bytes) ≡ v
  version_is = ap (λ y. little_number 2 (drop 4 y)) e ∙ little_number-reads_back 2 v rest fits

  headed : status bytes ≡ cond (eqb v 1) (after_version bytes) (err BadVersion)
  headed =
      marked bytes has_mark ∙ ap (λ b. cond b (err (Truncated (length bytes))) (cond (eqb (little_number 2 (drop 4 bytes)) 1) (after_version bytes) (err BadVersion))) (le-ltb _ _ (omega (arith, long)))
      ∙ ap (λ w. cond (eqb w 1) (after_version bytes) (err BadVersion)) version_is

first_headed : (bytes rest : Bytes) → bytes ≡ header 1 ++ rest → status bytes ≡ after_version bytes
first_headed bytes rest e = headed bytes 1 rest e (omega arith)

numbered : (bytes : Bytes) (n : ℕ) (rest : Bytes) → bytes ≡ start n ++ rest → n < 65536 → status bytes ≡ number_status n
numbered bytes n rest e fits =
    let whole : bytes ≡ header 1 ++ (word_bytes n ++ rest) = e ∙ append_assoc (header 1) (word_bytes n) rest in
    let size : 8 ≤ length bytes = omega (arith, ap length e, length-append (start n) rest) in
    first_headed bytes (word_bytes n ++ rest) whole ∙ ap (λ b. cond b (err (Truncated (length bytes))) (number_status (little_number 2 (drop 6 bytes)))) (le-ltb _ _ size)
    ∙ ap number_status (ap (λ y. little_number 2 (drop 6 y)) whole ∙ little_number-reads_back 2 n rest fits)

both_true : (a b : Bool) → a ≡ true → b ≡ true → (a && b) ≡ true
both_true true b h k = k
both_true false b h k = absurd (cc)

number_ok : (n : ℕ) → IsNumber n → number_status n ≡ Ok n
number_ok n h = ap (λ b. cond b (ok n) (err (BadField 6))) (both_true (leb 1 n) (leb n 200) (le-leb _ _ h.0) (le-leb _ _ h.1))

number_small : (n : ℕ) → IsNumber n → n < 65536
number_small n h = omega (arith, h.1)

started : (bytes : Bytes) (n : ℕ) (before : List Bytes) (rest : Bytes) → IsNumber n → bytes ≡ front_bytes n before ++ rest → status bytes ≡ Ok n
started bytes n before rest number e = numbered bytes n (each member_bytes before ++ rest) (e ∙ append_assoc (start n) (each member_bytes before) rest) (number_small n number) ∙ number_ok n number

and_cases : (a b : Bool) → (a ≡ true → b ≡ true → ⊥) → (a && b) ≡ false
and_cases true true h = absurd (h refl refl)
and_cases true false h = refl
and_cases false b h = refl

number_err : (n : ℕ) → (IsNumber n → ⊥) → number_status n ≡ Err (BadField 6)
number_err n h = ap (λ b. cond b (ok n) (err (BadField 6))) (and_cases (leb 1 n) (leb n 200) (λ p q. h (leb-true _ _ p, leb-true _ _ q)))

-- ---- faults by the front

-- the fault stands behind the first members
record IsBehind (bytes : Bytes) (f : LibFault) : Type 0 where
  n : ℕ
  k : ℕ
  before : List Bytes
  rest : Bytes
  front : status bytes ≡ Ok n
  count : length before ≡ k
  members : AllByRecursion IsMember before
  spelled : bytes ≡ front_bytes n before ++ rest
  stop : Stops n k (length (front_bytes n before)) (length bytes) rest f

false_of : (b : Bool) → (b ≡ true → ⊥) → b ≡ false
false_of true h = absurd (h refl)
false_of false h = refl

where_it_is : (bytes : Bytes) (f : LibFault) → IsFirstLibraryFault bytes f → (status bytes ≡ Err f) ⊎ IsBehind bytes f
where_it_is bytes f (not_library other) =
    inl (ap (λ b. cond b (after_mark bytes) (err NotLibrary)) (false_of _ (λ e. other ((bytes_eq-Decides (take 4 bytes) (take (length bytes) mark)).0 e))))
where_it_is bytes f (no_version same few) =
    inl (marked bytes same ∙ ap (λ b. cond b (err (Truncated (length bytes))) (cond (eqb (little_number 2 (drop 4 bytes)) 1) (after_version bytes) (err BadVersion))) (lt-ltb _ _ few))
where_it_is bytes f (other_version {v} {rest} e fits other) = inl (headed bytes v rest e fits ∙ ap (λ b. cond b (after_version bytes) (err BadVersion)) (ne_eqb v 1 other))
where_it_is bytes f (no_number {rest} e few) =
    inl (first_headed bytes rest e ∙ ap (λ b. cond b (err (Truncated (length bytes))) (number_status (little_number 2 (drop 6 bytes)))) (lt-ltb _ _ (omega (arith, ap length e, length-append (header 1) rest, few))))
where_it_is bytes f (bad_number {n} {rest} e fits bad) = inl (numbered bytes n rest e fits ∙ number_err n bad)
where_it_is bytes f (behind {n} {before} {rest} number members e fails) =
    inr (record {
      n = n;
      k = length before;
      before = before;
      rest = rest;
      front = started bytes n before rest number e;
      count = refl;
      members = members;
      spelled = e;
      stop = stops n (length (front_bytes n before)) (length bytes) before rest f fails;
    })

tail_is : (bytes : Bytes) (n : ℕ) (before : List Bytes) (rest : Bytes) → bytes ≡ front_bytes n before ++ rest → drop 8 bytes ≡ each member_bytes before ++ rest
tail_is bytes n before rest e = ap (drop 8) (e ∙ append_assoc (start n) (each member_bytes before) rest)

skips : (bytes : Bytes) (n : ℕ) (before : List Bytes) (rest : Bytes) → AllByRecursion IsMember before → bytes ≡ front_bytes n before ++ rest → skip (length before) (drop 8 bytes) ≡ Some rest
skips bytes n before rest h e = ap (skip (length before)) (tail_is bytes n before rest e) ∙ skip_front before rest h

-- at an earlier place there is an object
earlier : (bytes : Bytes) (n m : ℕ) (before members : List Bytes) (rest more : Bytes) → AllByRecursion IsMember before → AllByRecursion IsMember members → bytes ≡ front_bytes n before ++ rest → bytes ≡ front_bytes m members ++ more
    → length before < length members → IsObjectAt rest
earlier bytes n m before members rest more h g e e' lt =
    member_at members more rest (length before) g lt (ap (skip (length before)) (sym (tail_is bytes m members more e')) ∙ skips bytes n before rest h e)

same_rest : (bytes : Bytes) (n m : ℕ) (before members : List Bytes) (rest more : Bytes) → AllByRecursion IsMember before → AllByRecursion IsMember members → bytes ≡ front_bytes n before ++ rest → bytes ≡ front_bytes m members ++ more
    → length before ≡ length members → rest ≡ more
same_rest bytes n m before members rest more h g e e' same =
    some_one (sym (skips bytes n before rest h e) ∙ ap (λ k. skip k (drop 8 bytes)) same ∙ skips bytes m members more g e')

front_size : (bytes : Bytes) (n : ℕ) (before : List Bytes) (rest : Bytes) → bytes ≡ front_bytes n before ++ rest → length (front_bytes n before) + length rest ≡ length bytes
front_size bytes n before rest e = sym (length-append (front_bytes n before) rest) ∙ ap length (sym e)

one_behind : (bytes : Bytes) (f g : LibFault) → IsBytes bytes → IsBehind bytes f → IsBehind bytes g → f ≡ g
one_behind bytes f g fits x y =
    let number : x.n ≡ y.n = ok_is x.n y.n (sym x.front ∙ y.front) in
    let upto = within x.n x.k (length (front_bytes x.n x.before)) (length bytes) x.rest f x.stop in
    let upto' = within y.n y.k (length (front_bytes y.n y.before)) (length bytes) y.rest g y.stop in
    elim (cases_lt x.k y.k) [
      | inl lt ↦
          let o = earlier bytes x.n y.n x.before y.before x.rest y.rest x.members y.members x.spelled y.spelled (omega (arith, lt, x.count, y.count)) in
          absurd (no_stop x.n x.k (length (front_bytes x.n x.before)) (length bytes) x.rest f (omega (arith, lt, upto', number)) o x.stop)
      | inr le ↦ elim (cases_lt y.k x.k) [
        | inl lt ↦
            let o = earlier bytes y.n x.n y.before x.before y.rest x.rest y.members x.members y.spelled x.spelled (omega (arith, lt, x.count, y.count)) in
            absurd (no_stop y.n y.k (length (front_bytes y.n y.before)) (length bytes) y.rest g (omega (arith, lt, upto, number)) o y.stop)
        | inr le' ↦
            let k : y.k ≡ x.k = omega (arith, le, le') in
            let rest : y.rest ≡ x.rest = same_rest bytes y.n x.n y.before x.before y.rest x.rest y.members x.members y.spelled x.spelled (omega (arith, k, x.count, y.count)) in
            let place : length (front_bytes y.n y.before) ≡ length (front_bytes x.n x.before) = omega (arith, front_size bytes x.n x.before x.rest x.spelled, front_size bytes y.n y.before y.rest y.spelled, ap length rest) in
            let there : IsBytes x.rest = rest_fits bytes (front_bytes x.n x.before) x.rest fits x.spelled in
            let stop = subst (λ r. Stops y.n y.k (length (front_bytes y.n y.before)) (length bytes) r g) rest y.stop in
            let stop' = subst (λ p. Stops y.n y.k p (length bytes) x.rest g) place stop in
            let stop'' = subst (λ j. Stops y.n j (length (front_bytes x.n x.before)) (length bytes) x.rest g) k stop' in
            one_stop x.n x.k (length (front_bytes x.n x.before)) (length bytes) x.rest f g there x.stop (subst (λ m. Stops m x.k (length (front_bytes x.n x.before)) (length bytes) x.rest g) (sym number) stop'')
      ]
    ]

pub one_library_fault : HasOneFault
one_library_fault bytes f g all p q =
    elim (where_it_is bytes f p) [
      | inl e ↦ elim (where_it_is bytes g q) [ inl e' ↦ err_is f g (sym e ∙ e') | inr y ↦ absurd (err_ok f y.n (sym e ∙ y.front)) ]
      | inr x ↦ elim (where_it_is bytes g q) [ inl e' ↦ absurd (err_ok g x.n (sym e' ∙ x.front)) | inr y ↦ one_behind bytes f g (all_bytes bytes all) x y ]
    ]

library_front : (bytes : Bytes) (members : List Bytes) → IsLibrary bytes members → bytes ≡ front_bytes (length members) members ++ []
library_front bytes members h = h.spelled ∙ sym (append-nil (library_bytes members))

not_behind : (bytes : Bytes) (members : List Bytes) (f : LibFault) → IsLibrary bytes members → IsBehind bytes f → ⊥
not_behind bytes members f h x =
    let e = library_front bytes members h in
    let number : x.n ≡ length members = ok_is x.n (length members) (sym x.front ∙ started bytes (length members) members [] h.number e) in
    let place = length (front_bytes x.n x.before) in
    elim (cases_lt x.k (length members)) [
      | inl lt ↦ no_stop x.n x.k place (length bytes) x.rest f (omega (arith, lt, number)) (earlier bytes x.n (length members) x.before members x.rest [] x.members h.objects x.spelled e (omega (arith, lt, x.count))) x.stop
      | inr le ↦
          let upto = within x.n x.k place (length bytes) x.rest f x.stop in
          let all : length x.before ≡ length members = omega (arith, le, upto, number, x.count) in
          let none : x.rest ≡ [] = same_rest bytes x.n (length members) x.before members x.rest [] x.members h.objects x.spelled e all in
          no_stop_at_end x.n x.k place (length bytes) x.rest f (omega (arith, all, number, x.count)) none x.stop
    ]

pub not_both_library : HasNotBoth
not_both_library bytes members f h p =
    elim (where_it_is bytes f p) [
      | inl e ↦ err_ok f (length members) (sym e ∙ started bytes (length members) members [] h.number (library_front bytes members h))
      | inr x ↦ not_behind bytes members f h x
    ]

pub one_library : HasOneLibrary
one_library bytes members others h g =
    let e = library_front bytes members h in
    let e' = library_front bytes others g in
    let number : length members ≡ length others = ok_is (length members) (length others) (sym (started bytes (length members) members [] h.number e) ∙ started bytes (length others) others [] g.number e') in
    let tail : each member_bytes members ++ [] ≡ each member_bytes others ++ [] = sym (tail_is bytes (length members) members [] e) ∙ tail_is bytes (length others) others [] e' in
    sym (members_again members [] h.objects) ∙ ap (members_in (length members)) tail ∙ ap (λ n. members_in n (each member_bytes others ++ [])) number ∙ members_again others [] g.objects

pub is_written : (members : List Bytes) → IsNumber (length members) → AllByRecursion IsMember members → IsLibrary (library_bytes members) members
is_written members number all = record { number = number; objects = all; spelled = refl }

pub ruleset laws = (one_library, one_library_fault, not_both_library, is_written)
