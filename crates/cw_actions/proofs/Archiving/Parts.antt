-- The files of `link` as they are read.
use Rattle.std.proofs.Common.{◌≡◌, ℕ, Bool, true, false, List, map, None, sym, ap, ◌∙◌, subst, inl}
use Rattle.std.specs.Borrow.{Bor}
use Rattle.cw_io.specs.File.{Told}
use Rattle.cw_cpu86.specs.Ports.{AreBytes}
use Rattle.cw_view.specs.Uniqueness.{HasOneFault}
use Rattle.cw_view.proofs.NoFault.{not_both}
use Rattle.cw_lib.specs.Uniqueness.{HasOneLibrary, HasNotBoth}
use Rattle.cw_lib.specs.Uniqueness as libraries
use Rattle.cw_link_files.specs.Parts.{Part, Given, Members, begins_library, TellsPart, HasPart, IsBadPart}
use Rattle.cw_link_files.specs.Taken.{StopsParts}
use Rattle.cw_files.specs.Texts.{object_limit}
use Rattle.cw_files.specs.Reading.{Counts, AllTaken, Stopped}
use Rattle.cw_say.specs.declared.status.Bad.{Bad}
use Rattle.cw_say.specs.declared.status.Bad.TheVariants.{Object, Image as BadImage, Hex, Library}
use Rattle.cw_say.specs.declared.status.Status.{Status}
use Rattle.cw_say.specs.declared.status.Status.TheVariants.{BadFile}
use Rattle.cw_actions.proofs.Resulting.Readings.{Found, same_values}
use Rattle.cw_actions.proofs.Resulting.Told.{same_told}
use Rattle.cw_actions.proofs.Resulting.Outcomes.{Kind, BadStop, bad_stop, bad_files, FileRuns}

true_false : (b : Bool) → b ≡ true → b ≡ false → ⊥
true_false b e f = absurd (cc (e, f))

pub stop_is : (files : List Told) (texts : List (List ℕ)) (taken : ℕ) (before after : Counts) (s : Status) → StopsParts files texts taken before after s → BadStop Bad IsBadPart (λ fault. fault) files texts taken before after s
stop_is files texts taken before after (BadFile number fault) x = bad_stop Bad IsBadPart (λ fault. fault) files texts taken before after number fault x
stop_is files texts taken before after _ x = inl x

-- ---- what is taken is one thing, and is not refused

module _ (one_library : HasOneLibrary) where
  one_of : (b : Bool) (bytes : List ℕ) (x y : Part) → TellsPart b bytes x → TellsPart b bytes y → x ≡ y
  one_of true bytes (Given object) y is also = absurd is
  one_of true bytes (Members members) (Given object) is also = absurd also
  one_of true bytes (Members members) (Members others) is also = ap Members (one_library bytes members others is also)
  one_of false bytes (Members members) y is also = absurd is
  one_of false bytes (Given object) (Members members) is also = absurd also
  one_of false bytes (Given object) (Given other) is also = ap Given (is.1 ∙ sym also.1)

  pub one_part : (bytes : List ℕ) (x y : Part) → HasPart bytes x → HasPart bytes y → x ≡ y
  one_part bytes x y is also = one_of (begins_library bytes) bytes x y is also

module _ (no_fault : HasNotBoth) where
  pub not_bad : (bytes : List ℕ) (part : Part) (fault : Bad) → HasPart bytes part → IsBadPart bytes fault → ⊥
  not_bad bytes (Given object) (Object fault) is bad =
      let object_is = subst (λ b. TellsPart b bytes (Given object)) bad.0 is in
      not_both bytes object_is.0.0 object_is.0.1 object_is.0.2 fault bad.1
  not_bad bytes (Members members) (Object fault) is bad = absurd (subst (λ b. TellsPart b bytes (Members members)) bad.0 is)
  not_bad bytes (Given object) (Library fault) is bad = absurd (subst (λ b. TellsPart b bytes (Given object)) bad.0 is)
  not_bad bytes (Members members) (Library fault) is bad = no_fault bytes members fault (subst (λ b. TellsPart b bytes (Members members)) bad.0 is) bad.1
  not_bad bytes part (BadImage fault) is bad = absurd bad
  not_bad bytes part (Hex fault) is bad = absurd bad

  abbrev pub parts : Kind
  parts = bad_files Bad IsBadPart (λ fault. fault) Part HasPart not_bad StopsParts stop_is

-- of the names of a call
module _ (file : List ℕ → Told) (names : List (Bor (List ℕ))) where
  pub parts_taken : (parts : List Part) → AllTaken object_limit HasPart (map (λ name. file name.now) names) parts → AllTaken object_limit HasPart (map file (map (λ name. name.now) names)) parts
  parts_taken parts x = subst (λ files. AllTaken object_limit HasPart files parts) (same_told file names) x

  pub parts_stopped : (before after : Counts) (s : Status) → Stopped object_limit HasPart (λ texts taken. StopsParts (map (λ name. file name.now) names) texts taken before after s) (map (λ name. file name.now) names)
      → Stopped object_limit HasPart (λ texts taken. StopsParts (map file (map (λ name. name.now) names)) texts taken before after s) (map file (map (λ name. name.now) names))
  parts_stopped before after s x = subst (λ files. Stopped object_limit HasPart (λ texts taken. StopsParts files texts taken before after s) files) (same_told file names) x

pub same_parts : (no_fault : HasNotBoth) (one_library : HasOneLibrary) (found : List Found) (xs ys : List Part) → FileRuns (parts no_fault) found xs None → FileRuns (parts no_fault) found ys None → xs ≡ ys
same_parts no_fault one_library found xs ys x y = same_values object_limit HasPart IsBadPart BadFile (one_part one_library) 0 found xs ys x y

-- ---- bytes are refused for one thing

module _ (object_fault : HasOneFault) (library_fault : libraries.HasOneFault) where
  pub one_bad : (bytes : List ℕ) (f g : Bad) → AreBytes bytes → IsBadPart bytes f → IsBadPart bytes g → f ≡ g
  one_bad bytes (Object f) (Object g) fit x y = ap Object (object_fault bytes f g fit x.1 y.1)
  one_bad bytes (Object f) (Library g) fit x y = absurd (true_false (begins_library bytes) y.0 x.0)
  one_bad bytes (Library f) (Object g) fit x y = absurd (true_false (begins_library bytes) x.0 y.0)
  one_bad bytes (Library f) (Library g) fit x y = ap Library (library_fault bytes f g fit x.1 y.1)
  one_bad bytes (BadImage f) g fit x y = absurd x
  one_bad bytes (Hex f) g fit x y = absurd x
  one_bad bytes (Object f) (BadImage g) fit x y = absurd y
  one_bad bytes (Object f) (Hex g) fit x y = absurd y
  one_bad bytes (Library f) (BadImage g) fit x y = absurd y
  one_bad bytes (Library f) (Hex g) fit x y = absurd y
