-- Bytes have one reading: a computed one, with which every object and every fault agrees.
use Rattle.std.proofs.Common.{◌≡◌, ℕ, zero, suc, ◌+◌, ◌<◌, ◌≢◌, true, false, cond, ◌||◌, leb, eqb, eq-eqb, All, List, [], ◌∷◌, ◌++◌, length, take, drop, Option, Some, None, Result, Ok, Err, refl, sym, ap, subst, ◌∙◌, append_assoc, arith, inl, inr}
use Rattle.std.specs.Str.{bytes_eq}
use Rattle.std.proofs.lemmas.Slice.Eq.{bytes_eq-Decides}
use Rattle.std.proofs.lemmas.Bool.{le-leb, lt-leb, ne_eqb, cases_lt, false_from_ne_true as false_of}
use Rattle.std.proofs.lemmas.Bool.Decides.{nat_tests}
use Rattle.std.proofs.lemmas.List.{append-nil, take_all, take_at, drop_at, get_or_past}
use Rattle.byteorder.specs.Endian.{little_number}
use Rattle.byteorder.specs.Numbers.{little_number-reads_back}
use Rattle.cw_view.specs.declared.fault.ObjFault.{ObjFault}
use Rattle.cw_view.specs.declared.fault.ObjFault.TheVariants.{NotObject, BadVersion, Truncated, BadRecord, Trailing}
use Rattle.cw_view.specs.ObjectFormat.{Record, kind_of, payload_of, record_bytes, framed, FitsRecord, last_kind, facts_of, can_follow, is_allowed, next_record, mark, IsVersion, header, front_bytes, IsNext, IsFront, IsObjectOf, FailsBehind, no_end, out_of_order, cut, not_allowed, trailing, IsFirstObjectFault, not_object, no_version, other_version, behind}
use Rattle.cw_view.specs.Splitting.{first_record}
use Rattle.cw_view.specs.Uniqueness.{HasOneObject, HasOneFault, HasNotBoth}
use Rattle.cw_view.proofs.Recorded.{next_again, next_takes}
use Rattle.cw_fields.specs.Spelling.{IsBytes}
use Rattle.cw_fields.proofs.Formats.{IsBytes-drop, IsBytes-take}
use Rattle.cw_fields.specs.Fields.{long_bytes}
use Rattle.cw_view.proofs.Splits.{in_front, tail_bytes, front_is}
use Rattle.cw_view.proofs.NoFault.{no_record, version_small, not_both}

abbrev found : List Record → Result (List Record) ObjFault
found rs = Ok rs

abbrev fails : ObjFault → Result (List Record) ObjFault
fails f = Err f

abbrev at_end : (v : ℕ) → List Record → List ℕ → Result (List Record) ObjFault
at_end v before [] = Ok before
at_end v before (b ∷ bs) = Err (Trailing (length (front_bytes v before)))

abbrev bad : (v : ℕ) → List Record → Result (List Record) ObjFault
bad v before = Err (BadRecord (length (front_bytes v before)))

add-zero : (n : ℕ) → n + 0 ≡ n
add-zero n = omega arith

add-suc : (m n : ℕ) → m + suc n ≡ suc m + n
add-suc m n = omega arith

add-comm : (m n : ℕ) → m + n ≡ n + m
add-comm m n = omega arith

abbrev chosen_record : (v : ℕ) → List Record → (Record → List ℕ → Result (List Record) ObjFault) → List ℕ → Option Record → Result (List Record) ObjFault
chosen_record v before go after None = bad v before
chosen_record v before go after (Some r) = go r after

abbrev cut_record : (v len : ℕ) → List Record → (Record → List ℕ → Result (List Record) ObjFault) → Option (ℕ × (List ℕ × List ℕ)) → Result (List Record) ObjFault
cut_record v len before go None = Err (Truncated len)
cut_record v len before go (Some r) = chosen_record v before go r.1.1 (next_record (facts_of before) r.0 r.1.0)

abbrev begun : (v len : ℕ) → List Record → (Record → List ℕ → Result (List Record) ObjFault) → List ℕ → Result (List Record) ObjFault
begun v len before go [] = Err (Truncated len)
begun v len before go (kind ∷ more) = cond (can_follow v (last_kind before) kind) (cut_record v len before go (first_record (kind ∷ more))) (bad v before)

-- behind these records, with at most n more
abbrev scan : (n v len : ℕ) → List Record → List ℕ → Result (List Record) ObjFault
scan zero v len before rest = Ok before
scan (suc n) v len before rest = cond (eqb (last_kind before) 255) (at_end v before rest) (begun v len before (λ r after. scan n v len (r ∷ before) after) rest)

goes_on : (v last kind : ℕ) → can_follow v last kind ≡ true → last ≢ 255
goes_on v last kind h = grind (arith, nat_tests)

not_ended : (n v len : ℕ) (before : List Record) (rest : List ℕ) → last_kind before ≢ 255 → scan (suc n) v len before rest ≡ begun v len before (λ r after. scan n v len (r ∷ before) after) rest
not_ended n v len before rest other = ap (λ b. cond b (at_end v before rest) (begun v len before (λ r after. scan n v len (r ∷ before) after) rest)) (ne_eqb (last_kind before) 255 other)

step : (n v len : ℕ) (before : List Record) (r : Record) (rest : List ℕ) → IsNext v before r → scan (suc n) v len before (record_bytes r ++ rest) ≡ scan n v len (r ∷ before) rest
step n v len before r rest next =
    let go = λ (q : Record) (after : List ℕ). scan n v len (q ∷ before) after in
    let all = record_bytes r ++ rest in
    not_ended n v len before all (goes_on v (last_kind before) (kind_of r) next.in_order)
    ∙ ap (λ b. cond b (cut_record v len before (λ (q : Record) (after : List ℕ). scan n v len (q ∷ before) after) (first_record all)) (bad v before)) next.in_order
    ∙ ap (cut_record v len before (λ (q : Record) (after : List ℕ). scan n v len (q ∷ before) after)) (in_front (kind_of r) 0 (payload_of r) rest next.short)
    ∙ ap (chosen_record v before (λ (q : Record) (after : List ℕ). scan n v len (q ∷ before) after) rest) (next_again (facts_of before) (kind_of r) (payload_of r) r refl refl next.fits next.allowed)

along : (n v len : ℕ) (before : List Record) (rest : List ℕ) → IsFront v before → scan (n + length before) v len [] (tail_bytes before ++ rest) ≡ scan n v len before rest
along n v len [] rest f = ap (λ k. scan k v len [] rest) (add-zero n)
along n v len (r ∷ before) rest f =
    let count : n + suc (length before) ≡ suc n + length before = omega arith in
    ap (λ k. scan k v len [] ((tail_bytes before ++ record_bytes r) ++ rest)) count
    ∙ ap (scan (suc n + length before) v len []) (append_assoc (tail_bytes before) (record_bytes r) rest)
    ∙ along (suc n) v len before (record_bytes r ++ rest) f.0 ∙ step n v len before r rest f.1

none_allowed : (v : ℕ) (before : List Record) (kind : ℕ) (payload : List ℕ) → IsBytes payload
    → ((r : Record) → kind_of r ≡ kind → payload_of r ≡ payload → FitsRecord r → is_allowed (facts_of before) r ≡ true → ⊥)
    → (o : Option Record) → next_record (facts_of before) kind payload ≡ o → next_record (facts_of before) kind payload ≡ None
none_allowed v before kind payload fits none None e = e
none_allowed v before kind payload fits none (Some r) e =
    let t = next_takes (facts_of before) kind payload r fits e in
    absurd (none r t.0.kind_is t.0.payload_is t.0.fits t.1)

IsBytes-behind : (xs ys : List ℕ) → IsBytes (xs ++ ys) → IsBytes ys
IsBytes-behind xs ys h = subst IsBytes (drop_at xs ys (length xs) refl) (IsBytes-drop (length xs) (xs ++ ys) h)

IsBytes-before : (xs ys : List ℕ) → IsBytes (xs ++ ys) → IsBytes xs
IsBytes-before xs ys h = subst IsBytes (take_at xs ys (length xs) refl) (IsBytes-take (length xs) (xs ++ ys) h)

fails_so : (n v len : ℕ) (before : List Record) (place : ℕ) (rest : List ℕ) (f : ObjFault) → IsBytes rest → place ≡ length (front_bytes v before) → FailsBehind v before place len rest f → scan (suc n) v len before rest ≡ Err f
fails_so n v len before place rest f fits is (no_end other) = not_ended n v len before [] other
fails_so n v len before place rest f fits is (out_of_order {kind} {rest = more} other wrong) =
    not_ended n v len before (kind ∷ more) other
    ∙ ap (λ b. cond b (cut_record v len before (λ (q : Record) (after : List ℕ). scan n v len (q ∷ before) after) (first_record (kind ∷ more))) (bad v before)) wrong
    ∙ ap (λ k. fails (BadRecord k)) (sym is)
fails_so n v len before place rest f fits is (cut {kind} {rest = more} right short) =
    not_ended n v len before (kind ∷ more) (goes_on v (last_kind before) kind right)
    ∙ ap (λ b. cond b (cut_record v len before (λ (q : Record) (after : List ℕ). scan n v len (q ∷ before) after) (first_record (kind ∷ more))) (bad v before)) right
    ∙ ap (cut_record v len before (λ (q : Record) (after : List ℕ). scan n v len (q ∷ before) after)) (no_record (kind ∷ more) short)
fails_so n v len before place rest f fits is (not_allowed kind payload more right short none) =
    let all = framed kind payload ++ more in
    let payload_fits : IsBytes payload = IsBytes-before payload more (IsBytes-behind (kind ∷ long_bytes (length payload)) (payload ++ more) (subst IsBytes (append_assoc (kind ∷ long_bytes (length payload)) payload more) fits)) in
    not_ended n v len before all (goes_on v (last_kind before) kind right)
    ∙ ap (λ b. cond b (cut_record v len before (λ (q : Record) (after : List ℕ). scan n v len (q ∷ before) after) (first_record all)) (bad v before)) right
    ∙ ap (cut_record v len before (λ (q : Record) (after : List ℕ). scan n v len (q ∷ before) after)) (in_front kind 0 payload more short)
    ∙ ap (chosen_record v before (λ (q : Record) (after : List ℕ). scan n v len (q ∷ before) after) more) (none_allowed v before kind payload payload_fits none (next_record (facts_of before) kind payload) refl)
    ∙ ap (λ k. fails (BadRecord k)) (sym is)
fails_so n v len before place rest f fits is (trailing {byte} {rest = more} end) =
    ap (λ b. cond b (at_end v before (byte ∷ more)) (begun v len before (λ r after. scan n v len (r ∷ before) after) (byte ∷ more))) (eq-eqb (last_kind before) 255 end)
    ∙ ap (λ k. fails (Trailing k)) (sym is)

-- ---- the whole

abbrev versioned : (n : ℕ) → List ℕ → (v : ℕ) → Result (List Record) ObjFault
versioned n bytes v = cond (eqb v 1 || eqb v 2) (scan n v (length bytes) [] (drop 6 bytes)) (Err BadVersion)

abbrev long_or_short : (n : ℕ) → List ℕ → Result (List Record) ObjFault
long_or_short n bytes = cond (leb 6 (length bytes)) (versioned n bytes (little_number 2 (drop 4 bytes))) (Err (Truncated (length bytes)))

abbrev outcome : (n : ℕ) → List ℕ → Result (List Record) ObjFault
outcome n bytes = cond (bytes_eq (take 4 bytes) (take (length bytes) mark)) (long_or_short n bytes) (Err NotObject)

marked : (n : ℕ) (bytes : List ℕ) → take 4 bytes ≡ take (length bytes) mark → outcome n bytes ≡ long_or_short n bytes
marked n bytes h = ap (λ b. cond b (long_or_short n bytes) (fails NotObject)) ((bytes_eq-Decides (take 4 bytes) (take (length bytes) mark)).1 h)

headed : (n v : ℕ) (bytes rest : List ℕ) → v < 65536 → bytes ≡ header v ++ rest → outcome n bytes ≡ versioned n bytes v
headed n v bytes rest short e =
    let long : length bytes ≡ 6 + length rest = omega (arith, ap length e) in
    let same : take 4 bytes ≡ take (length bytes) mark = ap (take 4) e ∙ sym (take_all (length bytes) mark (omega (arith, long))) in
    let number : little_number 2 (drop 4 bytes) ≡ v = ap (λ y. little_number 2 (drop 4 y)) e ∙ little_number-reads_back 2 v rest short in
    marked n bytes same ∙ ap (λ b. cond b (versioned n bytes (little_number 2 (drop 4 bytes))) (fails (Truncated (length bytes)))) (le-leb 6 (length bytes) (omega (arith, long)))
    ∙ ap (versioned n bytes) number

version_test : (v : ℕ) → IsVersion v → (eqb v 1 || eqb v 2) ≡ true
version_test v (inl e) = ap (λ n. eqb n 1 || eqb n 2) e
version_test v (inr e) = ap (λ n. eqb n 1 || eqb n 2) e

no_version_test : (v : ℕ) → (IsVersion v → ⊥) → (eqb v 1 || eqb v 2) ≡ false
no_version_test v h =
    ap (λ b. b || eqb v 2) (ne_eqb v 1 (λ e. h (inl e))) ∙ ne_eqb v 2 (λ e. h (inr e))

behind_front : (m v : ℕ) (bytes : List ℕ) (before : List Record) (rest : List ℕ) → IsVersion v → IsFront v before → bytes ≡ front_bytes v before ++ rest → outcome (suc m + length before) bytes ≡ scan (suc m) v (length bytes) before rest
behind_front m v bytes before rest version f e =
    let regrouped : bytes ≡ header v ++ (tail_bytes before ++ rest) = e ∙ ap (λ y. y ++ rest) (front_is v before) ∙ append_assoc (header v) (tail_bytes before) rest in
    let n = suc m + length before in
    headed n v bytes (tail_bytes before ++ rest) (version_small v version) regrouped
    ∙ ap (λ b. cond b (scan n v (length bytes) [] (drop 6 bytes)) (fails BadVersion)) (version_test v version)
    ∙ ap (λ y. scan n v (length bytes) [] (drop 6 y)) regrouped ∙ along (suc m) v (length bytes) before rest f

-- with enough steps the outcome is this one
record Agrees (bytes : List ℕ) (r : Result (List Record) ObjFault) : Type 0 where
  count : ℕ
  is : (m : ℕ) → outcome (m + count) bytes ≡ r

object_agrees : (bytes : List ℕ) (v : ℕ) (records : List Record) → IsObjectOf bytes v records → Agrees bytes (Ok records)
object_agrees bytes v records o = record {
  count = suc (length records);
  is = λ m.
      ap (λ k. outcome k bytes) (add-suc m (length records)) ∙ behind_front m v bytes records [] o.version o.front (o.spelled ∙ sym (append-nil (front_bytes v records)))
      ∙ ap (λ b. cond b (found records) (begun v (length bytes) records (λ r after. scan m v (length bytes) (r ∷ records) after) [])) (eq-eqb (last_kind records) 255 o.ended);
}

fault_agrees : (bytes : List ℕ) (f : ObjFault) → IsBytes bytes → IsFirstObjectFault bytes f → Agrees bytes (Err f)
fault_agrees bytes f fits (not_object other) = record { count = 0; is = λ m. ap (λ b. cond b (long_or_short (m + 0) bytes) (fails NotObject)) (false_of (bytes_eq (take 4 bytes) (take (length bytes) mark)) (λ t. other ((bytes_eq-Decides (take 4 bytes) (take (length bytes) mark)).0 t))) }
fault_agrees bytes f fits (no_version same short) = record { count = 0; is = λ m. marked (m + 0) bytes same ∙ ap (λ b. cond b (versioned (m + 0) bytes (little_number 2 (drop 4 bytes))) (fails (Truncated (length bytes)))) (lt-leb 6 (length bytes) short) }
fault_agrees bytes f fits (other_version {v} {rest} e short other) = record { count = 0; is = λ m. headed (m + 0) v bytes rest short e ∙ ap (λ b. cond b (scan (m + 0) v (length bytes) [] (drop 6 bytes)) (fails BadVersion)) (no_version_test v other) }
fault_agrees bytes f fits (behind {v} {before} {rest} version front e fault) = record {
  count = suc (length before);
  is = λ m.
      ap (λ k. outcome k bytes) (add-suc m (length before)) ∙ behind_front m v bytes before rest version front e
      ∙ fails_so m v (length bytes) before (length (front_bytes v before)) rest f (IsBytes-behind (front_bytes v before) rest (subst IsBytes e fits)) refl fault;
}

same_outcome : (bytes : List ℕ) (r s : Result (List Record) ObjFault) → Agrees bytes r → Agrees bytes s → r ≡ s
same_outcome bytes r s a b = sym (a.is b.count) ∙ ap (λ k. outcome k bytes) (add-comm b.count a.count) ∙ b.is a.count

same_records : (rs ss : List Record) → found rs ≡ found ss → rs ≡ ss
same_records rs ss e = cc

same_faults : (f g : ObjFault) → fails f ≡ fails g → f ≡ g
same_faults f g e = cc

bytes_of : (bytes : List ℕ) → All (λ b. b < 256) bytes → IsBytes bytes
bytes_of bytes h i = elim (cases_lt i (length bytes)) [ inl lt ↦ h i 0 lt | inr le ↦ rw (get_or_past bytes i 0 le) (omega arith) ]

version_of : (bytes : List ℕ) (v : ℕ) (records : List Record) → IsObjectOf bytes v records → little_number 2 (drop 4 bytes) ≡ v
version_of bytes v records o =
    ap (λ y. little_number 2 (drop 4 y)) (o.spelled ∙ front_is v records) ∙ little_number-reads_back 2 v (tail_bytes records) (version_small v o.version)

pub one_object : HasOneObject
one_object bytes v w records others fits o p =
    (sym (version_of bytes v records o) ∙ version_of bytes w others p, same_records records others (same_outcome bytes (Ok records) (Ok others) (object_agrees bytes v records o) (object_agrees bytes w others p)))

pub one_fault : HasOneFault
one_fault bytes f g fits p q = same_faults f g (same_outcome bytes (Err f) (Err g) (fault_agrees bytes f (bytes_of bytes fits) p) (fault_agrees bytes g (bytes_of bytes fits) q))

pub neither_both : HasNotBoth
neither_both bytes v records f o p = not_both bytes v records o f p

pub ruleset laws = (one_object, one_fault, neither_both)
