-- Objects of either version as those of version 2.
use Rattle.std.specs.Prelude.{◌≡◌, ℕ, List, ◌++◌, drop}
use Rattle.cw_view.specs.ObjectFormat.{Record, header, IsObjectOf, IsFirstObjectFault}
use Rattle.cw_obj.specs.declared.migrating.MigrateFault.{MigrateFault}
use Rattle.cw_obj.specs.declared.migrating.MigrateFault.TheVariants.{Object, NoMemory}

-- the object of version 2 has the same records, and the same bytes behind the header
pub record IsMigrated (bytes new : List ℕ) : Type 0 where
  pub version : ℕ
  pub records : List Record
  pub from : IsObjectOf bytes version records
  pub to : IsObjectOf new 2 records
  pub spelled : new ≡ header 2 ++ drop 6 bytes

abbrev pub FailsToMigrate : List ℕ → MigrateFault → Type 0
FailsToMigrate bytes (Object fault) = IsFirstObjectFault bytes fault
FailsToMigrate bytes NoMemory = Unit {0}
