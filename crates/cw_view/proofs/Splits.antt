-- Bytes cut into records.
use Rattle.std.proofs.Common.{◌≡◌, ℕ, zero, suc, ◌+◌, ◌-◌, ◌<◌, ◌≤◌, ◌^◌, Bool, true, false, cond, ◌&&◌, leb, eqb, eq-eqb, List, [], ◌∷◌, ◌++◌, length, take, drop, get_or, Option, Some, None, refl, sym, ap, ◌∙◌, append_assoc, arith}
use Rattle.std.proofs.lemmas.Bool.{leb-true, le-leb, ne_eqb}
use Rattle.std.proofs.lemmas.List.{length-append, length-drop, drop_at, take_at, append-nil, drop-drop}
use Rattle.byteorder.specs.Endian.{little_number}
use Rattle.byteorder.specs.Numbers.{little_number-reads_back}
use Rattle.cw_fields.specs.Fields.{long_bytes}
use Rattle.cw_view.specs.ObjectFormat.{Record, kind_of, payload_of, record_bytes, framed, is_complete, front_bytes, header, IsFront, payloads, payload_if}
use Rattle.cw_view.specs.Splitting.{first_record, size_in, with_payload, payloads_within, payloads_in}
use Rattle.cw_fields.proofs.Spelled.{some, tested}

-- what is not complete is no record, and what follows a record is shorter
ff : false ≡ true → ⊥
ff e = cc

and_true : (a b : Bool) → (a && b) ≡ true → (a ≡ true) × (b ≡ true)
and_true true b h = (refl, h)
and_true false b h = absurd (ff h)

pub shorter : (rest : List ℕ) (r : ℕ × (List ℕ × List ℕ)) → first_record rest ≡ Some r → length r.1.1 < length rest
unfolding first_record
shorter rest r e =
    let t = tested (is_complete rest) (get_or rest 0 0, (take (size_in rest) (drop 5 rest), drop (5 + size_in rest) rest)) r e in
    let c = and_true (leb 5 (length rest)) (leb (5 + size_in rest) (length rest)) t.0 in
    let after : drop (5 + size_in rest) rest ≡ r.1.1 = ap (λ (p : ℕ × (List ℕ × List ℕ)). p.1.1) t.1 in
    omega (arith, ap length after, length-drop (5 + size_in rest) rest, leb-true _ _ c.1)

none_empty : first_record [] ≡ None
unfolding first_record
none_empty = refl

both : (a b : Bool) → a ≡ true → b ≡ true → (a && b) ≡ true
both true b h k = k
both false b h k = absurd (ff h)

joined : (b : Bool) (p : List ℕ) (more : List (List ℕ)) → with_payload b p more ≡ cond b (p ∷ []) [] ++ more
joined true p more = refl
joined false p more = refl

abbrev cut : (n kind : ℕ) → Option (ℕ × (List ℕ × List ℕ)) → List (List ℕ)
cut n kind None = []
cut n kind (Some r) = with_payload (eqb r.0 kind) r.1.0 (payloads_within n kind r.1.1)

same_elim : (n kind : ℕ) (o : Option (ℕ × (List ℕ × List ℕ))) → (elim o [ None ↦ [] | Some r ↦ with_payload (eqb r.0 kind) r.1.0 (payloads_within n kind r.1.1) ]) ≡ cut n kind o
same_elim n kind None = refl
same_elim n kind (Some r) = refl

cut_is : (n kind : ℕ) (rest : List ℕ) → payloads_within (suc n) kind rest ≡ cut n kind (first_record rest)
cut_is n kind rest = same_elim n kind (first_record rest)

none_within : (n kind : ℕ) → payloads_within n kind [] ≡ []
none_within zero kind = refl
none_within (suc n) kind = cut_is n kind [] ∙ ap (cut n kind) none_empty

nil_of : (rest : List ℕ) → length rest ≤ 0 → rest ≡ []
nil_of [] h = refl
nil_of (b ∷ bs) h = absurd (omega (arith, h))

-- how many records are looked at does not matter, where there are enough
pub enough : (n m kind : ℕ) (rest : List ℕ) → length rest ≤ n → length rest ≤ m → payloads_within n kind rest ≡ payloads_within m kind rest
enough zero m kind rest h k = ap (payloads_within zero kind) (nil_of rest h) ∙ sym (none_within m kind) ∙ ap (payloads_within m kind) (sym (nil_of rest h))
enough (suc n) zero kind rest h k = ap (payloads_within (suc n) kind) (nil_of rest k) ∙ none_within (suc n) kind ∙ ap (payloads_within zero kind) (sym (nil_of rest k))
enough (suc n) (suc m) kind rest h k =
    cut_is n kind rest
    ∙ (elim (first_record rest) as (λ (o : Option (ℕ × (List ℕ × List ℕ))). first_record rest ≡ o → cut n kind o ≡ cut m kind o) [
      | None ↦ λ e. refl
      | Some r ↦ λ e. let s = shorter rest r e in ap (with_payload (eqb r.0 kind) r.1.0) (enough n m kind r.1.1 (omega (arith, s, h)) (omega (arith, s, k)))
    ]) refl
    ∙ sym (cut_is m kind rest)

-- a record in front
pub in_front : (kind wanted : ℕ) (payload rest : List ℕ) → length payload < 2 ^ 32 → first_record (framed kind payload ++ rest) ≡ Some (kind, (payload, rest))
unfolding first_record
in_front kind wanted payload rest short =
    let all = framed kind payload ++ rest in
    let regrouped : all ≡ kind ∷ (long_bytes (length payload) ++ (payload ++ rest)) = ap (λ y. kind ∷ y) (append_assoc (long_bytes (length payload)) payload rest) in
    let size : size_in all ≡ length payload = ap (λ y. little_number 4 (drop 1 y)) regrouped ∙ little_number-reads_back 4 (length payload) (payload ++ rest) short in
    let tail : drop 5 all ≡ payload ++ rest = ap (drop 5) regrouped in
    let long : length all ≡ 5 + length payload + length rest = omega (arith, ap length regrouped, length-append payload rest) in
    let whole : is_complete all ≡ true = both (leb 5 (length all)) (leb (5 + size_in all) (length all)) (le-leb _ _ (omega (arith, long))) (le-leb _ _ (omega (arith, long, size))) in
    let p : take (size_in all) (drop 5 all) ≡ payload = ap (λ n. take n (drop 5 all)) size ∙ ap (take (length payload)) tail ∙ take_at payload rest (length payload) refl in
    let r : drop (5 + size_in all) all ≡ rest = ap (λ n. drop (5 + n) all) size ∙ sym (drop-drop (length payload) 5 all ∙ ap (λ n. drop n all) (omega arith)) ∙ ap (drop (length payload)) tail ∙ drop_at payload rest (length payload) refl in
    ap (λ b. cond b (some (get_or all 0 0, (take (size_in all) (drop 5 all), drop (5 + size_in all) all))) None) whole ∙ (λ i. Some (kind, (p i, r i)))

pub step : (kind : ℕ) (r : Record) (rest : List ℕ) → length (payload_of r) < 2 ^ 32 → payloads_in kind (record_bytes r ++ rest) ≡ payload_if kind r ++ payloads_in kind rest
step kind r rest short =
    let all = record_bytes r ++ rest in
    let long : length all ≡ suc (4 + length (payload_of r) + length rest) = omega (arith, length-append (record_bytes r) rest) in
    let n = 4 + length (payload_of r) + length rest in
    ap (λ k. payloads_within k kind all) long ∙ cut_is n kind all ∙ ap (cut n kind) (in_front (kind_of r) kind (payload_of r) rest short)
    ∙ ap (with_payload (eqb (kind_of r) kind) (payload_of r)) (enough n (length rest) kind rest (omega arith) (omega arith))
    ∙ joined (eqb (kind_of r) kind) (payload_of r) (payloads_in kind rest)

abbrev pub tail_bytes : List Record → List ℕ
tail_bytes [] = []
tail_bytes (r ∷ before) = tail_bytes before ++ record_bytes r

pub front_is : (v : ℕ) (records : List Record) → front_bytes v records ≡ header v ++ tail_bytes records
front_is v [] = refl
front_is v (r ∷ before) = ap (λ y. y ++ record_bytes r) (front_is v before) ∙ append_assoc (header v) (tail_bytes before) (record_bytes r)

along : (v kind : ℕ) (records : List Record) (rest : List ℕ) → IsFront v records → payloads_in kind (tail_bytes records ++ rest) ≡ payloads kind records ++ payloads_in kind rest
along v kind [] rest f = refl
along v kind (r ∷ before) rest f =
    ap (payloads_in kind) (append_assoc (tail_bytes before) (record_bytes r) rest) ∙ along v kind before (record_bytes r ++ rest) f.0
    ∙ ap (λ y. payloads kind before ++ y) (step kind r rest f.1.short) ∙ sym (append_assoc (payloads kind before) (payload_if kind r) (payloads_in kind rest))

-- the payloads of an object's records
pub all_payloads : (v kind : ℕ) (records : List Record) → IsFront v records → payloads_in kind (drop 6 (front_bytes v records)) ≡ payloads kind records
all_payloads v kind records f =
    ap (λ y. payloads_in kind (drop 6 y)) (front_is v records) ∙ ap (payloads_in kind) (sym (append-nil (tail_bytes records))) ∙ along v kind records [] f ∙ append-nil (payloads kind records)

-- what the first record leaves of an iterator
pub left_on : (kind : ℕ) (rest : List ℕ) (r : ℕ × (List ℕ × List ℕ)) → first_record rest ≡ Some r → payloads_in kind rest ≡ with_payload (eqb r.0 kind) r.1.0 (payloads_in kind r.1.1)
left_on kind rest r e =
    let s = shorter rest r e in
    let n = length rest - 1 in
    let long : length rest ≡ suc n = omega (arith, s) in
    ap (λ k. payloads_within k kind rest) long ∙ cut_is n kind rest ∙ ap (cut n kind) e ∙ ap (with_payload (eqb r.0 kind) r.1.0) (enough n (length r.1.1) kind r.1.1 (omega (arith, s, long)) (omega arith))

pub none_left : (kind : ℕ) (rest : List ℕ) → first_record rest ≡ None → payloads_in kind rest ≡ []
none_left kind [] e = refl
none_left kind (b ∷ bs) e = cut_is (length bs) kind (b ∷ bs) ∙ ap (cut (length bs) kind) e

pub left_wanted : (kind found : ℕ) (rest payload after : List ℕ) → first_record rest ≡ Some (found, (payload, after)) → found ≡ kind → payloads_in kind rest ≡ payload ∷ payloads_in kind after
left_wanted kind found rest payload after e same = left_on kind rest (found, (payload, after)) e ∙ ap (λ b. with_payload b payload (payloads_in kind after)) (eq-eqb found kind same)

pub left_other : (kind found : ℕ) (rest payload after : List ℕ) → first_record rest ≡ Some (found, (payload, after)) → (found ≡ kind → ⊥) → payloads_in kind rest ≡ payloads_in kind after
left_other kind found rest payload after e other = left_on kind rest (found, (payload, after)) e ∙ ap (λ b. with_payload b payload (payloads_in kind after)) (ne_eqb found kind other)
