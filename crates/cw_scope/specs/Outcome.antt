-- What `resolve` answers.
use Rattle.std.specs.Prelude.{◌≡◌, Some, None}
use Rattle.std.specs.declared.result.Result.{Result}
use Rattle.std.specs.declared.result.Result.TheVariants as result
use Rattle.cw_tree.specs.declared.segment.Raw.{Raw}
use Rattle.cw_scope.specs.declared.fault.Fault.{Fault}
use Rattle.cw_scope.specs.declared.fault.Rule.TheVariants as rule
use Rattle.cw_scope.specs.declared.resolve.Named.{Named}
use Rattle.cw_scope.specs.declared.resolve.ScopeFault.{ScopeFault}
use Rattle.cw_scope.specs.declared.resolve.ScopeFault.TheVariants as fault
use Rattle.cw_scope.specs.Text.{first_name_fault, resolutions_of, declarations_of, signatures_of}

-- a fault as it is told
abbrev pub ResolveFault : ScopeFault → Fault → Type 0
ResolveFault (fault.Undeclared n line) f = (f.rule ≡ rule.Undeclared) × (n ≡ f.name.name) × (line ≡ f.name.at.line)
ResolveFault (fault.Twice n line) f = (f.rule ≡ rule.Twice) × (n ≡ f.name.name) × (line ≡ f.name.at.line)
ResolveFault (fault.WrongKind n line) f = (f.rule ≡ rule.WrongKind) × (n ≡ f.name.name) × (line ≡ f.name.at.line)
ResolveFault (fault.SpecDiffers n line) f = (f.rule ≡ rule.SpecDiffers) × (n ≡ f.name.name) × (line ≡ f.name.at.line)
ResolveFault fault.NoMemory f = ⊥

-- want of memory is free
abbrev pub MatchesFault : Raw → ScopeFault → Type 0
MatchesFault raw fault.NoMemory = Unit {0}
MatchesFault raw e = (f : Fault) × (first_name_fault raw ≡ Some f) × ResolveFault e f

abbrev pub Resolves : Raw → Result Named ScopeFault → Type 0
Resolves raw (result.Ok named) = (first_name_fault raw ≡ None) × (named.raw.now ≡ raw)
    × (named.uses ≡ resolutions_of raw) × (named.declarations ≡ declarations_of raw)
    × (named.signatures ≡ signatures_of raw)
Resolves raw (result.Err e) = MatchesFault raw e
