-- What the types of a text come to.
use Rattle.std.specs.Prelude.{◌≡◌, Some, None}
use Rattle.std.specs.declared.result.Result.{Result}
use Rattle.std.specs.declared.result.Result.TheVariants as result
use Rattle.cw_scope.specs.declared.resolve.Named.{Named}
use Rattle.cw_scale.specs.declared.fault.Fault.{Fault}
use Rattle.cw_scale.specs.declared.fault.Rule.TheVariants as rule
use Rattle.cw_judge.specs.Judged.{first_type_fault}
use Rattle.cw_type.specs.declared.check.TypeFault.{TypeFault}
use Rattle.cw_type.specs.declared.check.TypeFault.TheVariants as fault

-- a fault as it is told
abbrev pub TellsFault : TypeFault → Fault → Type 0
TellsFault (fault.WrongArgs line) f = (f.rule ≡ rule.WrongArgs) × (line ≡ f.at.line)
TellsFault (fault.ScaleRange line) f = (f.rule ≡ rule.ScaleRange) × (line ≡ f.at.line)
TellsFault (fault.FieldRange line) f = (f.rule ≡ rule.FieldRange) × (line ≡ f.at.line)
TellsFault (fault.BadBounds line) f = (f.rule ≡ rule.BadBounds) × (line ≡ f.at.line)
TellsFault (fault.BadOverlay line) f = (f.rule ≡ rule.BadOverlay) × (line ≡ f.at.line)
TellsFault (fault.BadPreset line) f = (f.rule ≡ rule.BadPreset) × (line ≡ f.at.line)
TellsFault (fault.TooMany line) f = (f.rule ≡ rule.TooMany) × (line ≡ f.at.line)
TellsFault (fault.NumberRange line) f = (f.rule ≡ rule.NumberRange) × (line ≡ f.at.line)
TellsFault fault.NoMemory f = ⊥

-- want of memory is free
abbrev pub MatchesFault : Named → TypeFault → Type 0
MatchesFault named fault.NoMemory = Unit {0}
MatchesFault named e = (f : Fault) × (first_type_fault named ≡ Some f) × TellsFault e f

abbrev pub Judges : Named → Result (Unit {0}) TypeFault → Type 0
Judges named (result.Ok nothing) = first_type_fault named ≡ None
Judges named (result.Err e) = MatchesFault named e
