-- The library file: a mark, a version, the number of its members, and the members one after another, each an object behind its length.
use Rattle.std.specs.Prelude.{◌≡◌, ◌≢◌, ◌≤◌, ◌<◌, ℕ, ◌+◌, List, [], ◌∷◌, ◌++◌, length, take}
use Rattle.std.specs.List.{AllByRecursion}
use Rattle.cw_fields.specs.Fields.{each, IsWord, word_bytes, IsLong, long_bytes}
use Rattle.cw_view.specs.declared.fault.ObjFault.{ObjFault}
use Rattle.cw_view.specs.ObjectFormat.{IsObject, IsFirstObjectFault}
use Rattle.cw_lib.specs.declared.fault.LibFault.{LibFault}
use Rattle.cw_lib.specs.declared.fault.LibFault.TheVariants.{NotLibrary, BadVersion, Truncated, BadField, BadMember, Trailing}

abbrev pub Bytes : Type 0
Bytes = List ℕ

abbrev pub mark : Bytes
mark = 67 ∷ 54 ∷ 54 ∷ 76 ∷ []

abbrev pub header : (version : ℕ) → Bytes
header v = mark ++ word_bytes v

-- what stands before the members
abbrev pub start : (number : ℕ) → Bytes
start n = header 1 ++ word_bytes n

abbrev pub IsNumber : ℕ → Type 0
IsNumber n = (1 ≤ n) × (n ≤ 200)

abbrev pub member_bytes : Bytes → Bytes
member_bytes member = long_bytes (length member) ++ member

pub record IsMember (bytes : Bytes) : Type 0 where
  pub object : IsObject bytes
  pub short : IsLong (length bytes)

-- the bytes up to the place behind these members
abbrev pub front_bytes : (number : ℕ) → List Bytes → Bytes
front_bytes n members = start n ++ each member_bytes members

-- the one spelling of a library
abbrev pub library_bytes : List Bytes → Bytes
library_bytes members = front_bytes (length members) members

-- the bytes are the library of these members
pub record IsLibrary (bytes : Bytes) (members : List Bytes) : Type 0 where
  pub number : IsNumber (length members)
  pub objects : AllByRecursion IsMember members
  pub spelled : bytes ≡ library_bytes members

-- ---- the first fault

-- what is wrong behind the first members of so many, at this place of bytes of this length
pub data FailsBehind (number : ℕ) (before : List Bytes) (place len : ℕ) : Bytes → LibFault → Type 0 where
  no_length : {rest : Bytes} → length before < number → length rest < 4 → FailsBehind number before place len rest (Truncated len)
  cut : (size : ℕ) (part : Bytes) → length before < number → IsLong size → length part < size
      → FailsBehind number before place len (long_bytes size ++ part) (Truncated len)
  no_object : (member rest : Bytes) {fault : ObjFault} → length before < number → IsLong (length member) → IsFirstObjectFault member fault
      → FailsBehind number before place len (member_bytes member ++ rest) (BadMember (length before + 1) fault)
  trailing : {byte : ℕ} {rest : Bytes} → length before ≡ number → FailsBehind number before place len (byte ∷ rest) (Trailing place)

pub data IsFirstLibraryFault (bytes : Bytes) : LibFault → Type 0 where
  not_library : take 4 bytes ≢ take (length bytes) mark → IsFirstLibraryFault bytes NotLibrary
  no_version : take 4 bytes ≡ take (length bytes) mark → length bytes < 6 → IsFirstLibraryFault bytes (Truncated (length bytes))
  other_version : {v : ℕ} {rest : Bytes} → bytes ≡ header v ++ rest → IsWord v → v ≢ 1 → IsFirstLibraryFault bytes BadVersion
  no_number : {rest : Bytes} → bytes ≡ header 1 ++ rest → length rest < 2 → IsFirstLibraryFault bytes (Truncated (length bytes))
  bad_number : {n : ℕ} {rest : Bytes} → bytes ≡ start n ++ rest → IsWord n → (IsNumber n → ⊥) → IsFirstLibraryFault bytes (BadField 6)
  behind : {n : ℕ} {before : List Bytes} {rest : Bytes} {fault : LibFault} → IsNumber n → AllByRecursion IsMember before → bytes ≡ front_bytes n before ++ rest
      → FailsBehind n before (length (front_bytes n before)) (length bytes) rest fault → IsFirstLibraryFault bytes fault
