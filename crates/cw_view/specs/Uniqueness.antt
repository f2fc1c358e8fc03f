-- Bytes are one object, or have one first fault.
use Rattle.std.specs.Prelude.{◌≡◌, ◌<◌, ℕ, List, All}
use Rattle.cw_view.specs.declared.fault.ObjFault.{ObjFault}
use Rattle.cw_view.specs.ObjectFormat.{Record, IsObjectOf, IsFirstObjectFault}

abbrev pub HasOneObject : Type 0
HasOneObject = (bytes : List ℕ) (v w : ℕ) (records others : List Record) → All (λ b. b < 256) bytes
    → IsObjectOf bytes v records → IsObjectOf bytes w others → (v ≡ w) × (records ≡ others)

abbrev pub HasOneFault : Type 0
HasOneFault = (bytes : List ℕ) (f g : ObjFault) → All (λ b. b < 256) bytes → IsFirstObjectFault bytes f → IsFirstObjectFault bytes g → f ≡ g

abbrev pub HasNotBoth : Type 0
HasNotBoth = (bytes : List ℕ) (v : ℕ) (records : List Record) (f : ObjFault) → IsObjectOf bytes v records → IsFirstObjectFault bytes f → ⊥
