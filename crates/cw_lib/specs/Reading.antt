-- Libraries as they are read.
use Rattle.std.specs.Prelude.{⊤, ◌≡◌, ◌<◌, ℕ, zero, suc, ◌+◌, List, [], ◌∷◌, ◌++◌, length, drop, Option, Some, None, Result, Ok, Err}
use Rattle.std.specs.List.{AllByRecursion}
use Rattle.cw_fields.specs.Fields.{Reader, ◌>>=◌, long_in, bytes_in}
use Rattle.cw_view.specs.ObjectFormat.{IsObject}
use Rattle.cw_lib.specs.declared.fault.LibFault.{LibFault}
use Rattle.cw_lib.specs.declared.library.Lib.{Lib}
use Rattle.cw_lib.specs.LibraryFormat.{Bytes, IsNumber, IsMember, start, header, front_bytes, IsLibrary, FailsBehind, IsFirstLibraryFault}

-- the first member and what follows it
unfoldable pub first_member : Reader Bytes
first_member rest = long_in rest >>= λ size. bytes_in size.0 size.1

abbrev pub with_member : (Bytes → List Bytes) → Option (Bytes × Bytes) → List Bytes
with_member more None = []
with_member more (Some x) = x.0 ∷ more x.1

-- the first so many members, as far as they are there
abbrev pub members_in : (n : ℕ) → Bytes → List Bytes
members_in zero rest = []
members_in (suc n) rest = with_member (members_in n) (first_member rest)

abbrev pub members_of : Lib → List Bytes
members_of lib = members_in lib.count lib.rest.now

-- what the parts of opening answer
abbrev pub AnswersHeader : Bytes → Result ⊤ LibFault → Type 0
AnswersHeader bytes (Ok _) = bytes ≡ header 1 ++ drop 6 bytes
AnswersHeader bytes (Err fault) = IsFirstLibraryFault bytes fault

abbrev pub AnswersNumber : Bytes → Result ℕ LibFault → Type 0
AnswersNumber bytes (Ok n) = IsNumber n × (bytes ≡ start n ++ drop 8 bytes)
AnswersNumber bytes (Err fault) = IsFirstLibraryFault bytes fault

-- an object stands there as a member, and this follows it
pub record IsBehindMember (rest after : Bytes) : Type 0 where
  pub member : Bytes
  pub object : IsObject member
  pub there : first_member rest ≡ Some (member, after)

-- what is wrong with the member of this number, from 1, which would begin there
abbrev pub FailsMember : (len number : ℕ) → Bytes → LibFault → Type 0
FailsMember len number rest fault = (n place : ℕ) (before : List Bytes) → length before < n
    → length before + 1 ≡ number → FailsBehind n before place len rest fault

-- up to a rest the bytes are the first k of n members
pub record Reaches (bytes : Bytes) (n k : ℕ) (rest : Bytes) : Type 0 where
  pub before : List Bytes
  pub count : length before ≡ k
  pub members : AllByRecursion IsMember before
  pub spelled : bytes ≡ front_bytes n before ++ rest

-- it shows the members of the library that the bytes are
pub record IsLibOf (lib : Lib) (bytes : Bytes) : Type 0 where
  pub library : IsLibrary bytes (members_of lib)
  pub count : lib.count ≡ length (members_of lib)

abbrev pub AnswersOpen : Bytes → Result Lib LibFault → Type 0
AnswersOpen bytes (Ok lib) = IsLibOf lib bytes
AnswersOpen bytes (Err fault) = IsFirstLibraryFault bytes fault
