-- An object has no fault. That needs no bound of its bytes: each record of the object is the one that the fault speaks of.
use Rattle.std.proofs.Common.{◌≡◌, ◌≢◌, ℕ, zero, suc, ◌+◌, ◌<◌, ◌^◌, Bool, true, false, cond, get_or, List, [], ◌∷◌, ◌++◌, length, take, drop, Option, Some, None, refl, sym, ap, subst, ◌∙◌, append_assoc, arith, inl, inr}
use Rattle.std.proofs.lemmas.Bool.Decides.{nat_tests}
use Rattle.std.proofs.lemmas.List.{append-nil, take_all}
use Rattle.byteorder.specs.Endian.{little_number}
use Rattle.byteorder.specs.Numbers.{little_number-reads_back}
use Rattle.cw_view.specs.declared.fault.ObjFault.{ObjFault}
use Rattle.cw_view.specs.ObjectFormat.{Record, kind_of, payload_of, record_bytes, framed, FitsRecord, last_kind, facts_of, can_follow, is_allowed, next_record, is_complete, mark, IsVersion, header, front_bytes, IsNext, IsFront, IsObjectOf, FailsBehind, no_end, out_of_order, cut, not_allowed, trailing, IsFirstObjectFault, not_object, no_version, other_version, behind}
use Rattle.cw_view.specs.Splitting.{first_record, size_in}
use Rattle.cw_fields.proofs.Formats.{some_is}
use Rattle.cw_fields.proofs.Spelled.{some}
use Rattle.cw_view.proofs.Recorded.{next_again}
use Rattle.cw_view.proofs.Splits.{in_front}

abbrev Cut : Type 0
Cut = ℕ × (List ℕ × List ℕ)

some_none : (x : Cut) → Some x ≡ None → ⊥
some_none x e = absurd (cc)

true_false : (b : Bool) → b ≡ true → b ≡ false → ⊥
true_false b e f = absurd (cc (e, f))

pub no_record : (rest : List ℕ) → is_complete rest ≡ false → first_record rest ≡ None
unfolding first_record
no_record rest h = ap (λ b. cond b (some (get_or rest 0 0, (take (size_in rest) (drop 5 rest), drop (5 + size_in rest) rest))) None) h

-- ---- records in order

abbrev bytes_of : List Record → List ℕ
bytes_of [] = []
bytes_of (r ∷ rs) = record_bytes r ++ bytes_of rs

-- behind those that are listed with the last one first
abbrev Follow : (v : ℕ) → (before rs : List Record) → Type 0
Follow v before [] = Unit {0}
Follow v before (r ∷ rs) = IsNext v before r × Follow v (r ∷ before) rs

abbrev turned : (before rs : List Record) → List Record
turned [] rs = rs
turned (r ∷ before) rs = turned before (r ∷ rs)

follow : (v : ℕ) (before rs : List Record) → IsFront v before → Follow v before rs → Follow v [] (turned before rs)
follow v [] rs front fs = fs
follow v (r ∷ before) rs front fs = follow v before (r ∷ rs) front.0 (front.1, fs)

spelled : (v : ℕ) (before rs : List Record) (more : List ℕ) → front_bytes v before ++ (bytes_of rs ++ more) ≡ header v ++ (bytes_of (turned before rs) ++ more)
spelled v [] rs more = refl
spelled v (r ∷ before) rs more =
    append_assoc (front_bytes v before) (record_bytes r) (bytes_of rs ++ more) ∙ ap (λ x. front_bytes v before ++ x) (sym (append_assoc (record_bytes r) (bytes_of rs) more)) ∙ spelled v before (r ∷ rs) more

turned_back : (before rs : List Record) → turned (turned before rs) [] ≡ turned rs before
turned_back [] rs = refl
turned_back (r ∷ before) rs = turned_back before (r ∷ rs)

-- ---- one record

frames : (k l : ℕ) (p q xs ys : List ℕ) → length p < 2 ^ 32 → length q < 2 ^ 32 → framed k p ++ xs ≡ framed l q ++ ys → ◌≡◌ {A = Cut} (k, (p, xs)) (l, (q, ys))
frames k l p q xs ys short also e = some_is (k, (p, xs)) (l, (q, ys)) (sym (in_front k 0 p xs short) ∙ ap first_record e ∙ in_front l 0 q ys also)

one_record : (v : ℕ) (before : List Record) (r q : Record) (xs ys : List ℕ) → IsNext v before r → IsNext v before q → record_bytes r ++ xs ≡ record_bytes q ++ ys → (r ≡ q) × (xs ≡ ys)
one_record v before r q xs ys x y e =
    let same = frames (kind_of r) (kind_of q) (payload_of r) (payload_of q) xs ys x.short y.short e in
    let facts = facts_of before in
    let first : next_record facts (kind_of r) (payload_of r) ≡ Some r = next_again facts (kind_of r) (payload_of r) r refl refl x.fits x.allowed in
    let second : next_record facts (kind_of q) (payload_of q) ≡ Some q = next_again facts (kind_of q) (payload_of q) q refl refl y.fits y.allowed in
    (some_is r q (sym first ∙ ap (λ (c : Cut). next_record facts c.0 c.1.0) same ∙ second), ap (λ (c : Cut). c.1.1) same)

goes_on : (v last kind : ℕ) → can_follow v last kind ≡ true → last ≡ 255 → ⊥
goes_on v last kind h e = absurd (grind (arith, nat_tests, h, e))

-- ---- no fault behind the records before

-- not at the end
no_fault_at_end : (v place len : ℕ) (before : List Record) (rest : List ℕ) (f : ObjFault) → last_kind before ≡ 255 → rest ≡ [] → FailsBehind v before place len rest f → ⊥
no_fault_at_end v place len before rest f ended e (no_end other) = other ended
no_fault_at_end v place len before rest f ended e _ = absurd (cc)

-- nor where a record follows
no_fault_at : (v place len : ℕ) (before : List Record) (r : Record) (xs rest : List ℕ) (f : ObjFault) → IsNext v before r → record_bytes r ++ xs ≡ rest → FailsBehind v before place len rest f → ⊥
no_fault_at v place len before r xs rest f next e (no_end other) = absurd (cc)
no_fault_at v place len before r xs rest f next e (out_of_order {kind} {rest = more} other wrong) =
    let same : kind_of r ≡ kind = ap (λ y. get_or y 0 0) e in
    true_false (can_follow v (last_kind before) kind) (ap (can_follow v (last_kind before)) (sym same) ∙ next.in_order) wrong
no_fault_at v place len before r xs rest f next e (cut {kind} {rest = more} right short) =
    some_none (kind_of r, (payload_of r, xs)) (sym (in_front (kind_of r) 0 (payload_of r) xs next.short) ∙ ap first_record e ∙ no_record (kind ∷ more) short)
no_fault_at v place len before r xs rest f next e (not_allowed kind payload more right short none) =
    let same = frames (kind_of r) kind (payload_of r) payload xs more next.short short e in
    none r (ap (λ (c : Cut). c.0) same) (ap (λ (c : Cut). c.1.0) same) next.fits next.allowed
no_fault_at v place len before r xs rest f next e (trailing end) = goes_on v (last_kind before) (kind_of r) next.in_order end

no_fault : (v place len : ℕ) (before rs bs : List Record) (rest : List ℕ) (f : ObjFault) → Follow v before rs → Follow v before bs → last_kind (turned rs before) ≡ 255 → bytes_of rs ++ [] ≡ bytes_of bs ++ rest
    → FailsBehind v (turned bs before) place len rest f → ⊥
no_fault v place len before [] [] rest f x y ended e fails = no_fault_at_end v place len before rest f ended (sym e) fails
no_fault v place len before [] (b ∷ bs) rest f x y ended e fails = absurd (cc)
no_fault v place len before (r ∷ rs) [] rest f x y ended e fails = no_fault_at v place len before r (bytes_of rs ++ []) rest f x.0 (sym (append_assoc (record_bytes r) (bytes_of rs) []) ∙ e) fails
no_fault v place len before (r ∷ rs) (b ∷ bs) rest f x y ended e fails =
    let (same, more) = one_record v before r b (bytes_of rs ++ []) (bytes_of bs ++ rest) x.0 y.0 (sym (append_assoc (record_bytes r) (bytes_of rs) []) ∙ e ∙ append_assoc (record_bytes b) (bytes_of bs) rest) in
    no_fault v place len (r ∷ before) rs bs rest f x.1 (subst (λ q. Follow v (q ∷ before) bs) (sym same) y.1) ended more
    (subst (λ q. FailsBehind v (turned bs (q ∷ before)) place len rest f) (sym same) fails)

-- ---- the whole

pub version_small : (v : ℕ) → IsVersion v → v < 65536
version_small v (inl e) = omega (arith, e)
version_small v (inr e) = omega (arith, e)

version_in : (bytes : List ℕ) (v : ℕ) (rest : List ℕ) → v < 65536 → bytes ≡ header v ++ rest → little_number 2 (drop 4 bytes) ≡ v
version_in bytes v rest short e = ap (λ y. little_number 2 (drop 4 y)) e ∙ little_number-reads_back 2 v rest short

module _ (bytes : List ℕ) (v : ℕ) (records : List Record) (o : IsObjectOf bytes v records) where
  is_spelled : bytes ≡ header v ++ (bytes_of (turned records []) ++ [])
  is_spelled = o.spelled ∙ sym (append-nil (front_bytes v records)) ∙ spelled v records [] []

  one_version : (w : ℕ) (rest : List ℕ) → w < 65536 → bytes ≡ header w ++ rest → w ≡ v
  one_version w rest short e = sym (version_in bytes w rest short e) ∙ version_in bytes v (bytes_of (turned records []) ++ []) (version_small v o.version) is_spelled

  not_behind : (before : List Record) (rest : List ℕ) (f : ObjFault) (place len : ℕ) → IsFront v before → bytes ≡ front_bytes v before ++ rest → FailsBehind v before place len rest f → ⊥
  not_behind before rest f place len front e fails =
      let there : bytes ≡ header v ++ (bytes_of (turned before []) ++ rest) = e ∙ spelled v before [] rest in
      let same : bytes_of (turned records []) ++ [] ≡ bytes_of (turned before []) ++ rest = ap (drop 6) (sym is_spelled ∙ there) in
      no_fault v place len [] (turned records []) (turned before []) rest f (follow v records [] o.front tt) (follow v before [] front tt) (ap last_kind (turned_back records []) ∙ o.ended) same
      (subst (λ b. FailsBehind v b place len rest f) (sym (turned_back before [])) fails)

  pub not_both : (f : ObjFault) → IsFirstObjectFault bytes f → ⊥
  not_both f (not_object other) = other (ap (take 4) is_spelled ∙ sym (take_all (length bytes) mark (omega (arith, ap length is_spelled))))
  not_both f (no_version same short) = absurd (omega (arith, short, ap length is_spelled))
  not_both f (other_version {v = w} {rest} e short other) = other (subst IsVersion (sym (one_version w rest short e)) o.version)
  not_both f (behind {v = w} {before} {rest} version front e fails) =
      let same : w ≡ v = one_version w (bytes_of (turned before []) ++ rest) (version_small w version) (e ∙ spelled w before [] rest) in
      not_behind before rest f (length (front_bytes w before)) (length bytes) (subst (λ x. IsFront x before) same front) (subst (λ x. bytes ≡ front_bytes x before ++ rest) same e)
      (subst (λ x. FailsBehind x before (length (front_bytes w before)) (length bytes) rest f) same fails)
