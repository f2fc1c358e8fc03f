-- Members behind their lengths, one after another.
use Rattle.std.proofs.Common.{◌≡◌, ℕ, zero, suc, ◌+◌, ◌-◌, ◌<◌, ◌≤◌, slice_get, Bool, true, false, cond, ltb, List, [], ◌∷◌, ◌++◌, length, take, drop, Option, Some, None, refl, sym, ap, subst, ◌∙◌, append_assoc, arith}
use Rattle.std.specs.List.{AllByRecursion}
use Rattle.std.proofs.lemmas.Bool.{ltb-true, lt-ltb}
use Rattle.std.proofs.lemmas.List.{append-nil, drop_at}
use Rattle.byteorder.specs.Endian.{little_number}
use Rattle.cw_fields.specs.Fields.{◌>>=◌, each, IsLong, long_bytes, long_in, number_in, bytes_in}
use Rattle.cw_fields.specs.Spelling.{IsBytes, Reads}
use Rattle.cw_fields.proofs.Formats.{bind_some, reads_bytes, IsBytes-drop}
use Rattle.cw_fields.proofs.Spelled.{reads_long}
use Rattle.cw_lib.specs.LibraryFormat.{Bytes, member_bytes, IsMember}
use Rattle.cw_lib.specs.Reading.{first_member, with_member, members_in}

pub reads_member : Reads member_bytes (λ (m : List ℕ). IsLong (length m)) first_member
unfolding first_member
reads_member = record {
  takes = λ bytes x fits e.
      let first = bind_some (long_in bytes) (λ n. bytes_in n.0 n.1) x e in
      let t = reads_long.takes bytes first.0 fits first.1 in
      let u = (reads_bytes first.0.0).takes first.0.1 x t.1 first.2 in
      (t.0 ∙ ap (λ y. long_bytes first.0.0 ++ y) u.0 ∙ ap (λ n. long_bytes n ++ (x.0 ++ x.1)) (sym u.2) ∙ sym (append_assoc (long_bytes (length x.0)) x.0 x.1), u.1, subst IsLong (sym u.2) t.2);
  again = λ m rest h.
      ap (λ y. long_in y >>= λ n. bytes_in n.0 n.1) (append_assoc (long_bytes (length m)) m rest)
      ∙ ap (λ o. o >>= λ n. bytes_in n.0 n.1) (reads_long.again (length m) (m ++ rest) h) ∙ (reads_bytes (length m)).again m rest refl;
}

-- what is none where a test holds
pub guard_none : {A : Type 0} (b : Bool) (x : A) → cond b None (Some x) ≡ None → b ≡ true
guard_none true x e = refl
guard_none false x e = absurd cc

long_none : (rest : Bytes) → long_in rest ≡ None → length rest < 4
unfolding number_in
long_none rest e = ltb-true _ _ (guard_none (ltb (length rest) 4) (little_number 4 rest, drop 4 rest) e)

bytes_none : (n : ℕ) (rest : Bytes) → bytes_in n rest ≡ None → length rest < n
bytes_none n rest e = ltb-true _ _ (guard_none (ltb (length rest) n) (take n rest, drop n rest) e)

-- no whole member begins there: the length is not whole, or fewer bytes follow it
pub data IsCut : Bytes → Type 0 where
  in_length : {rest : Bytes} → length rest < 4 → IsCut rest
  in_member : (size : ℕ) (part : Bytes) → IsLong size → length part < size → IsCut (long_bytes size ++ part)

pub is_cut : (rest : Bytes) → IsBytes rest → first_member rest ≡ None → IsCut rest
unfolding first_member
is_cut rest fits e =
    elim (long_in rest) as (λ o. long_in rest ≡ o → IsCut rest) [
      | None ↦ λ is. in_length (long_none rest is)
      | Some x ↦ λ is.
          let t = reads_long.takes rest x fits is in
          let none : bytes_in x.0 x.1 ≡ None = sym (ap (λ o. o >>= λ n. bytes_in n.0 n.1) is) ∙ e in
          subst IsCut (sym t.0) (in_member x.0 x.1 t.2 (bytes_none x.0 x.1 none))
    ] refl

pub member_again : (m rest : Bytes) → IsMember m → first_member (member_bytes m ++ rest) ≡ Some (m, rest)
member_again m rest h = reads_member.again m rest h.short

pub in_front : (m : Bytes) (ms : List Bytes) (rest : Bytes) → IsMember m → first_member (each member_bytes (m ∷ ms) ++ rest) ≡ Some (m, each member_bytes ms ++ rest)
in_front m ms rest h = ap first_member (append_assoc (member_bytes m) (each member_bytes ms) rest) ∙ member_again m (each member_bytes ms ++ rest) h

-- members that stand one after another are read again
pub members_again : (ms : List Bytes) (rest : Bytes) → AllByRecursion IsMember ms → members_in (length ms) (each member_bytes ms ++ rest) ≡ ms
members_again [] rest h = refl
members_again (m ∷ ms) rest h = ap (with_member (members_in (length ms))) (in_front m ms rest h.0) ∙ ap (λ xs. m ∷ xs) (members_again ms rest h.1)

-- one more member
pub AllByRecursion-push : {A : Type 0} (P : A → Type 0) (xs : List A) (x : A) → AllByRecursion P xs → P x → AllByRecursion P (xs ++ x ∷ [])
AllByRecursion-push P [] x h p = (p, tt)
AllByRecursion-push P (y ∷ ys) x h p = (h.0, AllByRecursion-push P ys x h.1 p)

pub each-push : (ms : List Bytes) (m : Bytes) → each member_bytes (ms ++ m ∷ []) ≡ each member_bytes ms ++ member_bytes m
each-push [] m = append-nil (member_bytes m)
each-push (x ∷ ms) m = ap (λ y. member_bytes x ++ y) (each-push ms m) ∙ sym (append_assoc (member_bytes x) (each member_bytes ms) (member_bytes m))

abbrev guarded : Option (ℕ × Bytes) → Option (Bytes × Bytes)
guarded o = o >>= λ n. bytes_in n.0 n.1

abbrev some_number : ℕ × Bytes → Option (ℕ × Bytes)
some_number x = Some x

abbrev some_member : Bytes × Bytes → Option (Bytes × Bytes)
some_member x = Some x

-- where no whole member begins, none is read
pub cut_is_none : (rest : Bytes) → IsCut rest → first_member rest ≡ None
unfolding first_member number_in
cut_is_none rest (in_length few) = ap (λ b. guarded (cond b None (some_number (little_number 4 rest, drop 4 rest)))) (lt-ltb _ _ few)
cut_is_none rest (in_member size part long few) = ap guarded (reads_long.again size part long) ∙ ap (λ b. cond b None (some_member (take size part, drop size part))) (lt-ltb _ _ few)

pub rest_fits : (bytes front rest : Bytes) → IsBytes bytes → bytes ≡ front ++ rest → IsBytes rest
rest_fits bytes front rest fits e = subst IsBytes (ap (drop (length front)) e ∙ drop_at front rest (length front) refl) (IsBytes-drop (length front) bytes fits)

-- ---- the member of a number

pub none_past : (n k : ℕ) (rest : Bytes) → n ≤ k → slice_get (members_in n rest) k ≡ None
none_past zero k rest h = refl
none_past (suc n) zero rest h = absurd (omega (arith, h))
none_past (suc n) (suc k) rest h = elim (first_member rest) as (λ (o : Option (Bytes × Bytes)). slice_get (with_member (members_in n) o) (suc k) ≡ None) [ None ↦ refl | Some x ↦ none_past n k x.1 (omega (arith, h)) ]

one_less : (n i : ℕ) → i < n → n - i ≡ suc (n - (i + 1))
one_less n i lt = omega (arith, lt)

-- where no member can be read, there is none
pub none_there : (n i : ℕ) (k : ℕ) (rest : Bytes) → i < n → first_member rest ≡ None → slice_get (members_in (n - i) rest) k ≡ None
none_there n i k rest lt none = ap (λ m. slice_get (members_in m rest) k) (one_less n i lt) ∙ ap (λ o. slice_get (with_member (members_in (n - (i + 1))) o) k) none

-- behind one member the numbers are one less
pub next_there : (n i k : ℕ) (rest : Bytes) (x : Bytes × Bytes) (total : Option Bytes) → i < n → i < k → first_member rest ≡ Some x → slice_get (members_in (n - i) rest) (k - i) ≡ total
    → slice_get (members_in (n - (i + 1)) x.1) (k - (i + 1)) ≡ total
next_there n i k rest x total lt lt' some h =
    sym (ap (λ m. slice_get (members_in m rest) (k - i)) (one_less n i lt) ∙ ap (λ o. slice_get (with_member (members_in (n - (i + 1))) o) (k - i)) some ∙ ap (slice_get (x.0 ∷ members_in (n - (i + 1)) x.1)) (one_less k i lt')) ∙ h

pub first_there : (n k : ℕ) (rest : Bytes) (x : Bytes × Bytes) → k < n → first_member rest ≡ Some x → slice_get (members_in (n - k) rest) (k - k) ≡ Some x.0
first_there n k rest x lt some =
    ap (λ m. slice_get (members_in m rest) (k - k)) (one_less n k lt) ∙ ap (λ o. slice_get (with_member (members_in (n - (k + 1))) o) (k - k)) some ∙ ap (slice_get (x.0 ∷ members_in (n - (k + 1)) x.1)) (let e : k - k ≡ 0 = omega arith in e)
