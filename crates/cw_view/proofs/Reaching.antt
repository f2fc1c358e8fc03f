-- What the records so far tell, with one more.
use Rattle.std.proofs.Common.{◌≡◌, ℕ, zero, suc, ◌+◌, ◌*◌, ◌<◌, ◌≤◌, ◌≢◌, true, cond, ltb, eqb, List, [], ◌∷◌, ◌++◌, length, take, drop, Option, Some, None, refl, sym, ap, subst, ◌∙◌, append_assoc, arith, inl, inr}
use Rattle.std.specs.Prelude.{slice_get, if◌then◌else◌, ◌==◌}
use Rattle.std.proofs.lemmas.Bool.Decides.{nat_tests}
use Rattle.std.proofs.lemmas.Bool.{lt-ltb, le-ltb, cases_lt, eqb-true, eqb-false}
use Rattle.std.proofs.lemmas.List.{length-append, length-take, length-drop, append-nil}
use Rattle.std.proofs.lemmas.Option.{slice_get_past}
use Rattle.cw_unit.specs.declared.layout.Family.{Family}
use Rattle.cw_view.specs.declared.front.Front.{Front}
use Rattle.cw_fields.specs.Fields.{whole}
use Rattle.cw_view.specs.Payloads.{family_bytes}
use Rattle.cw_view.specs.Reading.{family_in}
use Rattle.cw_view.specs.ObjectFormat.{Record, SegmentName, Descriptor, StorageFamily, StoredItem, PresetWord, Code, Relocation, Definition, BodyFacts, Statement, End, kind_of, payload_of, number_of, framed, record_bytes, Facts, last_kind, descriptor_count, one_descriptor, families_of, one_family, code_of, code_or, facts_of, can_follow, is_allowed, next_record, record_in, IsVersion, front_bytes, FailsBehind, not_allowed, IsFirstObjectFault, behind}
use Rattle.cw_view.specs.declared.fault.ObjFault.{ObjFault}
use Rattle.cw_view.specs.declared.fault.ObjFault.TheVariants.{BadRecord}
use Rattle.cw_view.specs.Fronts.{family_record, facts_at, numbered, front_with, HasRecord, Reaches}
use Rattle.cw_fields.specs.Spelling.{IsBytes}
use Rattle.cw_fields.proofs.Formats.{some_is, bind_some}
use Rattle.cw_fields.proofs.Spelled.{some, test_cases}
use Rattle.cw_view.proofs.Recorded.{next_takes, none_next}

same_everywhere : (f g : ℕ → Option Family) → ((k : ℕ) → f k ≡ g k) → f ≡ g
same_everywhere f g h = λ i. λ k. h k i

facts_path : (a b : Facts) → a.kind ≡ b.kind → a.number ≡ b.number → a.descriptors ≡ b.descriptors → a.family ≡ b.family → a.code ≡ b.code → a ≡ b
facts_path a b p q r s t = λ i. record { kind = p i; number = q i; descriptors = r i; family = s i; code = t i }

-- the number of the next record, as the code has it
pub numbered_is : (o : Option Record) (n : ℕ) → numbered o ≡ Some n → (r : Record) × (o ≡ Some r) × (number_of r ≡ n)
numbered_is None n e = absurd cc
numbered_is (Some r) n e = (r, refl, some_is (number_of r) n e)

pub none_numbered : (o : Option Record) → numbered o ≡ None → o ≡ None
none_numbered None e = refl
none_numbered (Some r) e = absurd cc

-- ---- lists of families with one more

get_first : (fs : List Family) (f : Family) (k : ℕ) → k < length fs → slice_get (fs ++ f ∷ []) k ≡ slice_get fs k
get_first [] f k h = absurd (omega arith)
get_first (g ∷ fs) f zero h = refl
get_first (g ∷ fs) f (suc k) h = get_first fs f k (omega (arith, h))

get_last : (fs : List Family) (f : Family) → slice_get (fs ++ f ∷ []) (length fs) ≡ Some f
get_last [] f = refl
get_last (g ∷ fs) f = get_last fs f

-- ---- what is kept

-- what a front keeps of records up to a place
record Kept (bytes : List ℕ) (front : Front) (at : ℕ) (before : List Record) : Type 0 where
  facts : facts_at bytes front ≡ facts_of before
  count : length (families_of before) ≡ front.families
  families_within : front.families_at + 12 * front.families ≤ at
  code_within : front.code_at + front.code_len ≤ at
  few : front.descriptors + front.families ≤ at
  families_next : front.kind ≡ 3 → front.families_at + 12 * front.families ≡ at
  families_before : 0 < front.families → 3 ≤ front.kind

-- kinds come in their order
later : (v last kind : ℕ) → can_follow v last kind ≡ true → 3 ≤ last → 3 ≤ kind
later v last kind h three = grind (arith, nat_tests)

not_after : (v last : ℕ) → can_follow v last 3 ≡ true → last ≤ 3
not_after v last h = grind (arith, nat_tests)

-- a record that is no family's
kept_other : (v : ℕ) (bytes : List ℕ) (front next : Front) (at size : ℕ) (before : List Record) (r : Record) → Kept bytes front at before → can_follow v front.kind (kind_of r) ≡ true
    → next.kind ≡ kind_of r → next.number ≡ number_of r → next.descriptors ≡ front.descriptors + one_descriptor r → next.families ≡ front.families → next.families_at ≡ front.families_at
    → one_family r ≡ [] → take next.code_len (drop next.code_at bytes) ≡ code_of (r ∷ before) → next.code_at + next.code_len ≤ at + 5 + size → one_descriptor r ≤ 1 → kind_of r ≢ 3
    → Kept bytes next (at + 5 + size) (r ∷ before)
kept_other v bytes front next at size before r k follows kind number descriptors families families_at none code code_fits few other =
    let fs : families_of before ++ one_family r ≡ families_of before = ap (λ gs. families_of before ++ gs) none ∙ append-nil (families_of before) in
    let family : family_record bytes next.families_at next.families ≡ slice_get (families_of before ++ one_family r) =
    ap (λ n. family_record bytes next.families_at n) families ∙ ap (λ a. family_record bytes a front.families) families_at ∙ ap (λ (f : Facts). f.family) k.facts ∙ ap (λ gs. slice_get gs) (sym fs) in
    let count : descriptor_count before ≡ front.descriptors = sym (ap (λ (f : Facts). f.descriptors) k.facts) in
    record {
      facts = facts_path (facts_at bytes next) (facts_of (r ∷ before)) kind number (descriptors ∙ ap (λ n. n + one_descriptor r) (sym count)) family code;
      count = ap length fs ∙ k.count ∙ sym families;
      families_within = omega (arith, k.families_within, families, families_at);
      code_within = code_fits;
      few = omega (arith, k.few, few, descriptors, families);
      families_next = λ e. absurd (other (sym kind ∙ e));
      families_before = λ h. subst (λ n. 3 ≤ n) (sym kind) (later v front.kind (kind_of r) follows (k.families_before (omega (arith, h, families))));
    }

-- where the records of families begin, once there is one more at a place
record Starts (front : Front) (at start : ℕ) : Type 0 where
  next : start + 12 * front.families ≡ at
  same : 0 < front.families → start ≡ front.families_at

starts : (v : ℕ) (bytes : List ℕ) (front : Front) (at : ℕ) (before : List Record) → Kept bytes front at before → can_follow v front.kind 3 ≡ true → Starts front at (if front.families == 0 then at else front.families_at)
starts v bytes front at before k follows = elim (test_cases (eqb front.families 0)) [
  | inl none ↦
      let zero_ : front.families ≡ 0 = eqb-true front.families 0 none in
      rw none (record { next = omega (arith, zero_); same = λ h. absurd (omega (arith, h, zero_)) })
  | inr other ↦
      let positive : 0 < front.families = let ne : front.families ≢ 0 = eqb-false front.families 0 other in omega (arith, ne) in
      let three : front.kind ≡ 3 = omega (arith, k.families_before positive, not_after v front.kind follows) in
      rw other (record { next = k.families_next three; same = λ h. refl })
]

family_same : (bytes : List ℕ) (front : Front) (at start : ℕ) (before : List Record) (f : Family) (n : ℕ) → Kept bytes front at before → Starts front at start → whole family_in (take 7 (drop (at + 5) bytes)) ≡ Some f
    → family_record bytes start (front.families + 1) n ≡ slice_get (families_of before ++ f ∷ []) n
family_same bytes front at start before f n k s read = elim (cases_lt n front.families) [
  | inl lt ↦
      let yes_ : ltb n (front.families + 1) ≡ true = lt-ltb n (front.families + 1) (omega arith) in
      let was : ltb n front.families ≡ true = lt-ltb n front.families lt in
      let old : family_record bytes front.families_at front.families n ≡ slice_get (families_of before) n = ap (λ (g : Facts). g.family n) k.facts in
      let here : whole family_in (take 7 (drop (front.families_at + 12 * n + 5) bytes)) ≡ slice_get (families_of before) n = ap (λ b. cond b (whole family_in (take 7 (drop (front.families_at + 12 * n + 5) bytes))) None) (sym was) ∙ old in
      ap (λ b. cond b (whole family_in (take 7 (drop (start + 12 * n + 5) bytes))) None) yes_ ∙ ap (λ a. whole family_in (take 7 (drop (a + 12 * n + 5) bytes))) (s.same (omega (arith, lt))) ∙ here
      ∙ sym (get_first (families_of before) f n (omega (arith, lt, k.count)))
  | inr le ↦ elim (cases_lt n (front.families + 1)) [
    | inl last ↦
        let is : n ≡ front.families = omega (arith, le, last) in
        let yes_ : ltb n (front.families + 1) ≡ true = lt-ltb n (front.families + 1) last in
        let place : start + 12 * n + 5 ≡ at + 5 = omega (arith, s.next, is) in
        ap (λ b. cond b (whole family_in (take 7 (drop (start + 12 * n + 5) bytes))) None) yes_ ∙ ap (λ a. whole family_in (take 7 (drop a bytes))) place ∙ read
        ∙ sym (get_last (families_of before) f) ∙ ap (slice_get (families_of before ++ f ∷ [])) (k.count ∙ sym is)
    | inr past ↦
        ap (λ b. cond b (whole family_in (take 7 (drop (start + 12 * n + 5) bytes))) None) (le-ltb n (front.families + 1) past)
        ∙ sym (slice_get_past (families_of before ++ f ∷ []) n (omega (arith, length-append (families_of before) (f ∷ []), k.count, past)))
  ]
]

add-zero_ : (n : ℕ) → n + 0 ≡ n
add-zero_ n = omega arith

kept_family : (v : ℕ) (bytes : List ℕ) (front : Front) (at size number : ℕ) (before : List Record) (f : Family) → Kept bytes front at before → can_follow v front.kind 3 ≡ true
    → size ≡ 7 → number ≡ 0 → whole family_in (take 7 (drop (at + 5) bytes)) ≡ Some f → Kept bytes (front_with front at 3 size number) (at + 5 + size) (StorageFamily f ∷ before)
kept_family v bytes front at size number before f k follows long zero_ read =
    let start = (if front.families == 0 then at else front.families_at) in
    let s = starts v bytes front at before k follows in
    record {
      facts = facts_path (facts_at bytes (front_with front at 3 size number)) (facts_of (StorageFamily f ∷ before)) refl zero_ (ap (λ (g : Facts). g.descriptors) k.facts ∙ sym (add-zero_ (descriptor_count before)))
          (same_everywhere (family_record bytes start (front.families + 1)) (slice_get (families_of before ++ f ∷ [])) (λ n. family_same bytes front at start before f n k s read)) (ap (λ (g : Facts). g.code) k.facts);
      count = length-append (families_of before) (f ∷ []) ∙ ap (λ n. n + 1) k.count;
      families_within = omega (arith, s.next, long);
      code_within = omega (arith, k.code_within);
      few = omega (arith, k.few);
      families_next = λ e. omega (arith, s.next, long);
      families_before = λ h. omega arith;
    }

-- any record, by its kind
family_is : (x y : Family) → some (StorageFamily x) ≡ some (StorageFamily y) → x ≡ y
family_is x y e = cc

kept_plain : (v : ℕ) (bytes : List ℕ) (front : Front) (at size number : ℕ) (before : List Record) (r : Record) → Kept bytes front at before → can_follow v front.kind (kind_of r) ≡ true
    → number ≡ number_of r → front_with front at (kind_of r) size number ≡ record { kind = kind_of r; number = number; descriptors = front.descriptors; families = front.families; families_at = front.families_at; code_at = front.code_at; code_len = front.code_len }
    → one_descriptor r ≡ 0 → one_family r ≡ [] → code_or (code_of before) r ≡ code_of before → kind_of r ≢ 3
    → Kept bytes (front_with front at (kind_of r) size number) (at + 5 + size) (r ∷ before)
kept_plain v bytes front at size number before r k follows num is none nothing_ code other =
    let next : Front = record { kind = kind_of r; number = number; descriptors = front.descriptors; families = front.families; families_at = front.families_at; code_at = front.code_at; code_len = front.code_len } in
    subst (λ (f : Front). Kept bytes f (at + 5 + size) (r ∷ before)) (sym is)
    (kept_other v bytes front next at size before r k follows refl num (omega (arith, none)) refl refl nothing_ (ap (λ (g : Facts). g.code) k.facts ∙ sym code) (omega (arith, k.code_within)) (omega (arith, none)) other)

kept : (v : ℕ) (bytes : List ℕ) (front : Front) (at size number : ℕ) (before : List Record) (r : Record) → Kept bytes front at before → can_follow v front.kind (kind_of r) ≡ true
    → number ≡ number_of r → payload_of r ≡ take size (drop (at + 5) bytes) → length (payload_of r) ≡ size → record_in (kind_of r) (payload_of r) ≡ Some r
    → Kept bytes (front_with front at (kind_of r) size number) (at + 5 + size) (r ∷ before)
kept v bytes front at size number before (SegmentName x) k follows num payload long read = kept_plain v bytes front at size number before (SegmentName x) k follows num refl refl refl refl (λ e. absurd (omega (arith, e)))
kept v bytes front at size number before (Descriptor x) k follows num payload long read =
    kept_other v bytes front (front_with front at 2 size number) at size before (Descriptor x) k follows refl num refl refl refl refl (ap (λ (g : Facts). g.code) k.facts) (omega (arith, k.code_within)) (omega arith) (λ e. absurd (omega (arith, e)))
kept v bytes front at size number before (StorageFamily x) k follows num payload long read =
    let seven : size ≡ 7 = sym long in
    let b = bind_some (whole family_in (family_bytes x)) (λ y. Some (StorageFamily y)) (StorageFamily x) read in
    let same : b.0 ≡ x = family_is b.0 x b.2 in
    let there : whole family_in (take 7 (drop (at + 5) bytes)) ≡ Some x = ap (λ n. whole family_in (take n (drop (at + 5) bytes))) (sym seven) ∙ ap (whole family_in) (sym payload) ∙ b.1 ∙ ap some same in
    kept_family v bytes front at size number before x k follows seven num there
kept v bytes front at size number before (StoredItem x) k follows num payload long read = kept_plain v bytes front at size number before (StoredItem x) k follows num refl refl refl refl (λ e. absurd (omega (arith, e)))
kept v bytes front at size number before (PresetWord x) k follows num payload long read = kept_plain v bytes front at size number before (PresetWord x) k follows num refl refl refl refl (λ e. absurd (omega (arith, e)))
kept v bytes front at size number before (Code x) k follows num payload long read =
    kept_other v bytes front (front_with front at 6 size number) at size before (Code x) k follows refl num (omega arith) refl refl refl (sym payload) (omega arith) (omega arith) (λ e. absurd (omega (arith, e)))
kept v bytes front at size number before (Relocation x) k follows num payload long read = kept_plain v bytes front at size number before (Relocation x) k follows num refl refl refl refl (λ e. absurd (omega (arith, e)))
kept v bytes front at size number before (Definition x) k follows num payload long read = kept_plain v bytes front at size number before (Definition x) k follows num refl refl refl refl (λ e. absurd (omega (arith, e)))
kept v bytes front at size number before (BodyFacts x) k follows num payload long read = kept_plain v bytes front at size number before (BodyFacts x) k follows num refl refl refl refl (λ e. absurd (omega (arith, e)))
kept v bytes front at size number before (Statement x) k follows num payload long read = kept_plain v bytes front at size number before (Statement x) k follows num refl refl refl refl (λ e. absurd (omega (arith, e)))
kept v bytes front at size number before End k follows num payload long read = kept_plain v bytes front at size number before End k follows num refl refl refl refl (λ e. absurd (omega (arith, e)))

kept_of : (v : ℕ) (bytes : List ℕ) (front : Front) (at : ℕ) (h : Reaches v bytes front at) → Kept bytes front at h.before
kept_of v bytes front at h = record { facts = h.facts; count = h.count; families_within = h.families_within; code_within = h.code_within; few = h.few; families_next = h.families_next; families_before = h.families_before }

pub last_is : (v : ℕ) (bytes : List ℕ) (front : Front) (at : ℕ) (h : Reaches v bytes front at) → last_kind h.before ≡ front.kind
last_is v bytes front at h = sym (ap (λ (f : Facts). f.kind) h.facts)

framed_long : (kind : ℕ) (payload : List ℕ) → length (framed kind payload) ≡ 5 + length payload
framed_long kind payload = omega arith

pub reaches_on : (v : ℕ) (bytes : List ℕ) (front : Front) (at kind size number : ℕ) → IsBytes bytes → (h : Reaches v bytes front at) → HasRecord v front.kind bytes at kind size
    → IsBytes (take size (drop (at + 5) bytes)) → numbered (next_record (facts_at bytes front) kind (take size (drop (at + 5) bytes))) ≡ Some number
    → Reaches v bytes (front_with front at kind size number) (at + 5 + size)
reaches_on v bytes front at kind size number fits h has payload_fits next =
    let payload = take size (drop (at + 5) bytes) in
    let n = numbered_is (next_record (facts_at bytes front) kind payload) number next in
    let r = n.0 in
    let t = next_takes (facts_at bytes front) kind payload r payload_fits n.1 in
    let long : length payload ≡ size = omega (arith, length-take size (drop (at + 5) bytes), length-drop (at + 5) bytes, has.within) in
    let framed_is : record_bytes r ≡ framed kind payload = ap (λ j. framed j (payload_of r)) t.0.kind_is ∙ ap (framed kind) t.0.payload_is in
    let in_order : can_follow v front.kind (kind_of r) ≡ true = ap (can_follow v front.kind) t.0.kind_is ∙ has.in_order in
    let k : Kept bytes (front_with front at (kind_of r) size number) (at + 5 + size) (r ∷ h.before) =
    kept v bytes front at size number h.before r (kept_of v bytes front at h) in_order (sym n.2) t.0.payload_is (ap length t.0.payload_is ∙ long) (ap (λ j. record_in j (payload_of r)) t.0.kind_is ∙ ap (record_in kind) t.0.payload_is ∙ t.2) in
    let m = subst (λ j. Kept bytes (front_with front at j size number) (at + 5 + size) (r ∷ h.before)) t.0.kind_is k in
    let spelled : bytes ≡ (front_bytes v h.before ++ record_bytes r) ++ drop (at + 5 + size) bytes =
    h.spelled ∙ ap (λ x. front_bytes v h.before ++ x) (has.is ∙ ap (λ x. x ++ drop (at + 5 + size) bytes) (sym framed_is)) ∙ sym (append_assoc (front_bytes v h.before) (record_bytes r) (drop (at + 5 + size) bytes)) in
    record {
      before = r ∷ h.before;
      is_front = (h.is_front, record { in_order = ap (λ j. can_follow v j (kind_of r)) (last_is v bytes front at h) ∙ in_order; fits = t.0.fits; short = omega (arith, ap length t.0.payload_is, long, has.short); allowed = ap (λ g. is_allowed g r) (sym h.facts) ∙ t.1 });
      spelled = spelled;
      place = omega (arith, length-append (front_bytes v h.before) (record_bytes r), h.place, ap length framed_is, framed_long kind payload, long);
      within = has.within;
      facts = m.facts;
      count = m.count;
      families_within = m.families_within;
      code_within = m.code_within;
      few = m.few;
      families_next = m.families_next;
      families_before = m.families_before;
    }

-- ---- faults

pub fails_behind : (v : ℕ) (bytes : List ℕ) (front : Front) (at : ℕ) (fault : ObjFault) → IsVersion v → (h : Reaches v bytes front at)
    → ((before : List Record) → last_kind before ≡ front.kind → FailsBehind v before at (length bytes) (drop at bytes) fault) → IsFirstObjectFault bytes fault
fails_behind v bytes front at fault version h fails =
    behind version h.is_front h.spelled (subst (λ n. FailsBehind v h.before n (length bytes) (drop at bytes) fault) (sym h.place) (fails h.before (last_is v bytes front at h)))

pub fails_record : (v : ℕ) (bytes : List ℕ) (front : Front) (at kind size : ℕ) → IsVersion v → (h : Reaches v bytes front at) → HasRecord v front.kind bytes at kind size
    → numbered (next_record (facts_at bytes front) kind (take size (drop (at + 5) bytes))) ≡ None → IsFirstObjectFault bytes (BadRecord at)
fails_record v bytes front at kind size version h has none =
    let payload = take size (drop (at + 5) bytes) in
    let long : length payload ≡ size = omega (arith, length-take size (drop (at + 5) bytes), length-drop (at + 5) bytes, has.within) in
    behind version h.is_front h.spelled
    (subst (λ n. FailsBehind v h.before n (length bytes) (drop at bytes) (BadRecord at)) (sym h.place)
    (subst (λ (rest : List ℕ). FailsBehind v h.before at (length bytes) rest (BadRecord at)) (sym has.is)
    (not_allowed kind payload (drop (at + 5 + size) bytes) (ap (λ j. can_follow v j kind) (last_is v bytes front at h) ∙ has.in_order) (omega (arith, long, has.short))
    (λ r k p fits allowed. none_next (facts_at bytes front) kind payload (none_numbered (next_record (facts_at bytes front) kind payload) none) r k p fits (ap (λ g. is_allowed g r) h.facts ∙ allowed)))))
