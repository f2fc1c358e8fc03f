-- Bytes are one library, or have one first fault.
use Rattle.std.specs.Prelude.{◌≡◌, ◌<◌, List, All}
use Rattle.cw_lib.specs.declared.fault.LibFault.{LibFault}
use Rattle.cw_lib.specs.LibraryFormat.{Bytes, IsLibrary, IsFirstLibraryFault}

abbrev pub HasOneLibrary : Type 0
HasOneLibrary = (bytes : Bytes) (members others : List Bytes) → IsLibrary bytes members → IsLibrary bytes others → members ≡ others

abbrev pub HasOneFault : Type 0
HasOneFault = (bytes : Bytes) (f g : LibFault) → All (λ b. b < 256) bytes → IsFirstLibraryFault bytes f → IsFirstLibraryFault bytes g → f ≡ g

abbrev pub HasNotBoth : Type 0
HasNotBoth = (bytes : Bytes) (members : List Bytes) (f : LibFault) → IsLibrary bytes members → IsFirstLibraryFault bytes f → ⊥
