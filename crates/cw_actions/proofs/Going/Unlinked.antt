-- What is answered of units that do not link.
use Rattle.std.specs.Prelude.{◌≡◌, List}
use Rattle.std.proofs.Common.{sym, subst}
use Rattle.cw_unit.specs.declared.unit.Unit.{Unit as SourceUnit}
use Rattle.cw_unit.specs.declared.layout.Limits.{Limits}
use Rattle.cw_link.specs.declared.fault.LinkFault.{LinkFault}
use Rattle.cw_link.specs.declared.fault.LinkFault.TheVariants.{NoMemory}
use Rattle.cw_build.specs.Building.{FailsToLink}
use Rattle.cw_say.specs.declared.status.Status.{Status}
use Rattle.cw_actions.specs.Going.Goes.{IsUnlinked}
use Rattle.cw_actions.specs.Resulting.Results.{unlinked_status}

answers : (us : List SourceUnit) (limits : Limits) (fault : LinkFault) → FailsToLink us limits fault → IsUnlinked us limits (unlinked_status fault)
answers us limits NoMemory fails = fails
answers us limits _ fails = fails

pub unlinked : (us : List SourceUnit) (limits : Limits) (fault : LinkFault) (status : Status) → status ≡ unlinked_status fault → FailsToLink us limits fault → IsUnlinked us limits status
unlinked us limits fault status e fails = subst (IsUnlinked us limits) (sym e) (answers us limits fault fails)
