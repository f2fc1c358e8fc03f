-- What stands in the bytes of a file that is opened as a library.
use Rattle.std.proofs.Common.{◌≡◌, ℕ, ◌+◌, ◌-◌, ◌<◌, Bool, true, false, cond, ltb, eqb, eq-eqb, List, [], ◌∷◌, ◌++◌, length, drop, Some, None, refl, sym, ap, subst, ◌∙◌, append_assoc, arith}
use Rattle.std.proofs.lemmas.Bool.{ltb-true, eqb-true}
use Rattle.std.proofs.lemmas.List.{append-nil, length-append, length_push, nil_from_length}
use Rattle.byteorder.specs.Endian.{little_number}
use Rattle.cw_fields.specs.Fields.{each, word_bytes, word_in, number_in}
use Rattle.cw_fields.specs.Spelling.{IsBytes}
use Rattle.cw_fields.proofs.Formats.{IsBytes-drop}
use Rattle.cw_fields.proofs.Spelled.{reads_word}
use Rattle.cw_view.specs.declared.fault.ObjFault.{ObjFault}
use Rattle.cw_view.specs.ObjectFormat.{IsFirstObjectFault}
use Rattle.cw_lib.specs.declared.fault.LibFault.{LibFault}
use Rattle.cw_lib.specs.declared.fault.LibFault.TheVariants.{Truncated, BadField, BadMember, Trailing}
use Rattle.cw_lib.specs.declared.library.Lib.{Lib}
use Rattle.cw_lib.specs.LibraryFormat.{Bytes, header, start, IsNumber, IsMember, member_bytes, front_bytes, IsLibrary, FailsBehind, no_length, cut, no_object, trailing, IsFirstLibraryFault, no_number, bad_number, behind}
use Rattle.cw_lib.specs.Reading.{first_member, members_in, members_of, IsBehindMember, FailsMember, Reaches, IsLibOf}
use Rattle.cw_lib.proofs.Members.{reads_member, guard_none, IsCut, in_length, in_member, is_cut, rest_fits, members_again, AllByRecursion-push, each-push}

-- ---- the mark and the version

pub first_version : (bytes : Bytes) (v : ℕ) → bytes ≡ header v ++ drop 6 bytes → v ≡ 1 → bytes ≡ header 1 ++ drop 6 bytes
first_version bytes v e one = e ∙ ap (λ w. header w ++ drop 6 bytes) one

-- ---- the number of members

word_none : (rest : Bytes) → word_in rest ≡ None → length rest < 2
unfolding number_in
word_none rest e = ltb-true _ _ (guard_none (ltb (length rest) 2) (little_number 2 rest, drop 2 rest) e)

pub number_cut : (bytes : Bytes) → bytes ≡ header 1 ++ drop 6 bytes → word_in (drop 6 bytes) ≡ None → IsFirstLibraryFault bytes (Truncated (length bytes))
number_cut bytes e none = no_number e (word_none (drop 6 bytes) none)

pub started : (bytes : Bytes) (n : ℕ) (after : Bytes) → IsBytes bytes → bytes ≡ header 1 ++ drop 6 bytes → word_in (drop 6 bytes) ≡ Some (n, after) → bytes ≡ start n ++ drop 8 bytes
started bytes n after fits e some =
    let t = reads_word.takes (drop 6 bytes) (n, after) (IsBytes-drop 6 bytes fits) some in
    let whole : bytes ≡ start n ++ after = e ∙ ap (λ y. header 1 ++ y) t.0 ∙ sym (append_assoc (header 1) (word_bytes n) after) in
    whole ∙ ap (λ y. start n ++ y) (sym (ap (drop 8) whole))

pub number_bad : (bytes : Bytes) (n : ℕ) (after : Bytes) → IsBytes bytes → bytes ≡ header 1 ++ drop 6 bytes → word_in (drop 6 bytes) ≡ Some (n, after) → (IsNumber n → ⊥) → IsFirstLibraryFault bytes (BadField 6)
number_bad bytes n after fits e some bad =
    let t = reads_word.takes (drop 6 bytes) (n, after) (IsBytes-drop 6 bytes fits) some in
    bad_number (started bytes n after fits e some) t.2 bad

-- ---- members

cut_so : (n place len : ℕ) (before : List Bytes) (rest : Bytes) → length before < n → IsCut rest → FailsBehind n before place len rest (Truncated len)
cut_so n place len before rest lt (in_length short) = no_length lt short
cut_so n place len before rest lt (in_member size part long short) = cut size part lt long short

pub fails_cut : (len number : ℕ) (rest : Bytes) → IsBytes rest → first_member rest ≡ None → (n place : ℕ) (before : List Bytes) → length before < n → length before + 1 ≡ number → FailsBehind n before place len rest (Truncated len)
fails_cut len number rest fits none n place before lt is = cut_so n place len before rest lt (is_cut rest fits none)

pub fails_object : (len number : ℕ) (rest member after : Bytes) (fault : ObjFault) → IsBytes rest → first_member rest ≡ Some (member, after) → IsFirstObjectFault member fault
    → (n place : ℕ) (before : List Bytes) → length before < n → length before + 1 ≡ number → FailsBehind n before place len rest (BadMember number fault)
fails_object len number rest member after fault fits some bad n place before lt is =
    let t = reads_member.takes rest (member, after) fits some in
    subst (λ k. FailsBehind n before place len rest (BadMember k fault)) is (subst (λ r. FailsBehind n before place len r (BadMember (length before + 1) fault)) (sym t.0) (no_object member after lt t.2 bad))

pub begins : (bytes : Bytes) (n : ℕ) → bytes ≡ start n ++ drop 8 bytes → Reaches bytes n 0 (drop 8 bytes)
begins bytes n e = record { before = []; count = refl; members = tt; spelled = e ∙ ap (λ y. y ++ drop 8 bytes) (sym (append-nil (start n))) }

pub goes_on : (bytes : Bytes) (n k : ℕ) (rest after : Bytes) → IsBytes bytes → Reaches bytes n k rest → IsBehindMember rest after → Reaches bytes n (k + 1) after
goes_on bytes n k rest after fits h m =
    let member = m.member in
    let t = reads_member.takes rest (member, after) (rest_fits bytes (front_bytes n h.before) rest fits h.spelled) m.there in
    record {
      before = h.before ++ member ∷ [];
      count = length_push h.before member ∙ omega (arith, h.count);
      members = AllByRecursion-push IsMember h.before member h.members (record { object = m.object; short = t.2 });
      spelled =
          h.spelled ∙ ap (λ y. front_bytes n h.before ++ y) t.0 ∙ sym (append_assoc (front_bytes n h.before) (member_bytes member) after)
          ∙ ap (λ y. y ++ after) (append_assoc (start n) (each member_bytes h.before) (member_bytes member) ∙ ap (λ y. start n ++ y) (sym (each-push h.before member)));
    }

pub fails_at : (bytes : Bytes) (n k : ℕ) (rest : Bytes) (fault : LibFault) → IsNumber n → k < n → Reaches bytes n k rest → FailsMember (length bytes) (k + 1) rest fault → IsFirstLibraryFault bytes fault
fails_at bytes n k rest fault number lt h fails =
    behind number h.members h.spelled (fails n (length (front_bytes n h.before)) h.before (omega (arith, h.count, lt)) (omega (arith, h.count)))

place_of_rest : (bytes front rest : Bytes) → bytes ≡ front ++ rest → length bytes - length rest ≡ length front
place_of_rest bytes front rest e = omega (arith, ap length e, length-append front rest)

some_left : (rest : Bytes) (b : Bool) → eqb (length rest) 0 ≡ b → b ≡ false → length rest ≡ 0 → ⊥
some_left rest b is e none = let never : true ≡ false = sym (eq-eqb (length rest) 0 none) ∙ is ∙ e in cc

pub fails_trailing : (bytes : Bytes) (n : ℕ) (rest : Bytes) → IsNumber n → Reaches bytes n n rest → eqb (length rest) 0 ≡ false → IsFirstLibraryFault bytes (Trailing (length bytes - length rest))
fails_trailing bytes n [] number h some = absurd (some_left [] (eqb 0 0) refl some refl)
fails_trailing bytes n (b ∷ bs) number h some =
    behind number h.members h.spelled
    (subst (λ p. FailsBehind n h.before (length (front_bytes n h.before)) (length bytes) (b ∷ bs) (Trailing p)) (sym (place_of_rest bytes (front_bytes n h.before) (b ∷ bs) h.spelled)) (trailing h.count))

pub whole_library : (bytes : Bytes) (lib : Lib) (rest : Bytes) → IsNumber lib.count → bytes ≡ start lib.count ++ drop 8 bytes → lib.rest.now ≡ drop 8 bytes → Reaches bytes lib.count lib.count rest → eqb (length rest) 0 ≡ true → IsLibOf lib bytes
whole_library bytes lib rest number e is h none =
    let empty : rest ≡ [] = nil_from_length rest (eqb-true (length rest) 0 none) in
    let spelled : bytes ≡ front_bytes lib.count h.before ++ [] = h.spelled ∙ ap (λ y. front_bytes lib.count h.before ++ y) empty in
    let tail : lib.rest.now ≡ each member_bytes h.before ++ [] = is ∙ ap (drop 8) (spelled ∙ append_assoc (start lib.count) (each member_bytes h.before) []) in
    let members : members_of lib ≡ h.before = ap (members_in lib.count) tail ∙ ap (λ n. members_in n (each member_bytes h.before ++ [])) (sym h.count) ∙ members_again h.before [] h.members in
    let library : IsLibrary bytes h.before = record {
      number = subst IsNumber (sym h.count) number;
      objects = h.members;
      spelled = spelled ∙ append-nil (front_bytes lib.count h.before) ∙ ap (λ n. front_bytes n h.before) (sym h.count);
    } in record { library = subst (IsLibrary bytes) (sym members) library; count = sym h.count ∙ ap length (sym members) }
