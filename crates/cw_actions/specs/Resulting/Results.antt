-- What comes of what was read, by the status: the result, where it is written to; or why there is none.
use Rattle.std.specs.Prelude.{◌≡◌, ℕ, List, ◌++◌, codes}
use Rattle.cw_io.specs.File.{AllStay}
use Rattle.cw_unit.specs.declared.unit.Unit.{Unit as SourceUnit}
use Rattle.cw_unit.specs.declared.layout.Limits.{Limits}
use Rattle.cw_compile.specs.Texts.{IsCanonicalOf, IsRefused}
use Rattle.cw_compile.specs.declared.fault.UnitFault.{UnitFault}
use Rattle.cw_compile.specs.declared.fault.UnitFault.TheVariants as units
use Rattle.cw_link.specs.declared.fault.LinkFault.{LinkFault}
use Rattle.cw_link.specs.declared.fault.LinkFault.TheVariants as linking
use Rattle.cw_obj.specs.Migration.{IsMigrated}
use Rattle.cw_build.specs.Linking.{Links, IsLinkFault}
use Rattle.cw_correct.specs.Results.{IsMap}
use Rattle.cw_actions.specs.Resulting.Outside.{Files, Out}
use Rattle.cw_actions.specs.Resulting.Written.{GivesOut, GivesFile}
use Rattle.cw_say.specs.declared.status.Status.{Status}
use Rattle.cw_say.specs.declared.status.Status.TheVariants.{Refused, Unlinked, NoMemory}

-- the status of what does not link
abbrev pub unlinked_status : LinkFault → Status
unlinked_status linking.NoMemory = NoMemory
unlinked_status fault = Unlinked fault

-- and of a text that has no unit
abbrev pub faulty_status : UnitFault → Status
faulty_status (units.Refused refusal) = Refused 0 refusal
faulty_status units.NoMemory = NoMemory

-- units, of which a text is written
abbrev pub TellsUnits : (IsText : List SourceUnit → Limits → List ℕ → Type 0) → List SourceUnit → Limits → (out out' : Out) → Status → Type 0
TellsUnits IsText us limits out out' NoMemory = out' ≡ out
TellsUnits IsText us limits out out' (Unlinked fault) = IsLinkFault us limits fault × (out' ≡ out)
TellsUnits IsText us limits out out' status = (text : List ℕ) × Links us limits × IsText us limits text × GivesOut text out out' status

-- the storage map
abbrev pub MapsUnits : List SourceUnit → Limits → (out out' : Out) → Status → Type 0
MapsUnits us limits out out' status = TellsUnits IsMap us limits out out' status

-- a text, whose canonical text is written
abbrev pub ShowsText : (text : List ℕ) → (out out' : Out) → Status → Type 0
ShowsText text out out' NoMemory = out' ≡ out
ShowsText text out out' (Refused number refusal) = (number ≡ 0) × IsRefused text refusal × (out' ≡ out)
ShowsText text out out' status = (shown : List ℕ) × IsCanonicalOf text shown × GivesOut shown out out' status

-- an object, which is written in version 2
abbrev pub MigratesObject : (name object : List ℕ) → (files files' : Files) → Status → Type 0
MigratesObject name object files files' NoMemory = AllStay files.told files'.told
MigratesObject name object files files' status = (result : List ℕ) × IsMigrated object result × GivesFile (name ++ codes ".SG2") result files files' status
