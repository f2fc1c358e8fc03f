-- A fault of names or of types is told in one way.
use Rattle.std.proofs.Common.{◌≡◌, ◌≢◌, ℕ, List, Some, refl, sym, ap, ◌∙◌}
use Rattle.cw_tree.specs.declared.segment.Raw.{Raw}
use Rattle.cw_scope.specs.declared.fault.Fault.{Fault as NameFault}
use Rattle.cw_scope.specs.declared.fault.Rule.{Rule as NameRule}
use Rattle.cw_scope.specs.declared.fault.Rule.TheVariants as name_rule
use Rattle.cw_scope.specs.declared.resolve.Named.{Named}
use Rattle.cw_scope.specs.declared.resolve.ScopeFault.{ScopeFault}
use Rattle.cw_scope.specs.declared.resolve.ScopeFault.TheVariants as naming
use Rattle.cw_scope.specs.Outcome.{ResolveFault, MatchesFault}
use Rattle.cw_scope.specs.Text.{first_name_fault}
use Rattle.cw_scale.specs.declared.fault.Fault.{Fault as TypeRuleFault}
use Rattle.cw_scale.specs.declared.fault.Rule.{Rule as TypeRule}
use Rattle.cw_scale.specs.declared.fault.Rule.TheVariants as type_rule
use Rattle.cw_type.specs.judge.Judged.{first_type_fault}
use Rattle.cw_type.specs.declared.check.TypeFault.{TypeFault}
use Rattle.cw_type.specs.declared.check.TypeFault.TheVariants as typing
use Rattle.cw_type.specs.Outcome.{TellsFault, MatchesFault as MatchesTypeFault}

-- ---- names

abbrev name_told : NameRule → List ℕ → ℕ → ScopeFault
name_told name_rule.Undeclared name line = naming.Undeclared name line
name_told name_rule.Twice name line = naming.Twice name line
name_told name_rule.WrongKind name line = naming.WrongKind name line
name_told name_rule.SpecDiffers name line = naming.SpecDiffers name line

abbrev told_of : NameFault → ScopeFault
told_of f = name_told f.rule f.name.name f.name.at.line

name_is : (e : ScopeFault) (f : NameFault) → ResolveFault e f → e ≡ told_of f
name_is (naming.Undeclared n line) f (r, a, b) = rw (r, a, b) refl
name_is (naming.Twice n line) f (r, a, b) = rw (r, a, b) refl
name_is (naming.WrongKind n line) f (r, a, b) = rw (r, a, b) refl
name_is (naming.SpecDiffers n line) f (r, a, b) = rw (r, a, b) refl
name_is naming.NoMemory f h = absurd h

pub name_fault : (raw : Raw) (e : ScopeFault) → MatchesFault raw e → e ≢ naming.NoMemory → (f : NameFault) × (first_name_fault raw ≡ Some f) × (e ≡ told_of f)
name_fault raw (naming.Undeclared n line) (f, is, tells) other = (f, is, name_is (naming.Undeclared n line) f tells)
name_fault raw (naming.Twice n line) (f, is, tells) other = (f, is, name_is (naming.Twice n line) f tells)
name_fault raw (naming.WrongKind n line) (f, is, tells) other = (f, is, name_is (naming.WrongKind n line) f tells)
name_fault raw (naming.SpecDiffers n line) (f, is, tells) other = (f, is, name_is (naming.SpecDiffers n line) f tells)
name_fault raw naming.NoMemory h other = absurd (other refl)

pub one_name_fault : (raw : Raw) (e g : ScopeFault) → MatchesFault raw e → MatchesFault raw g → e ≢ naming.NoMemory → g ≢ naming.NoMemory → e ≡ g
one_name_fault raw e g a b other also =
    let x = name_fault raw e a other in
    let y = name_fault raw g b also in
    let some : Some x.0 ≡ Some y.0 = sym x.1 ∙ y.1 in
    let same : x.0 ≡ y.0 = cc in
    x.2 ∙ ap told_of same ∙ sym y.2

-- ---- types

abbrev type_told : TypeRule → ℕ → TypeFault
type_told type_rule.WrongArgs line = typing.WrongArgs line
type_told type_rule.ScaleRange line = typing.ScaleRange line
type_told type_rule.FieldRange line = typing.FieldRange line
type_told type_rule.BadBounds line = typing.BadBounds line
type_told type_rule.BadOverlay line = typing.BadOverlay line
type_told type_rule.BadPreset line = typing.BadPreset line
type_told type_rule.TooMany line = typing.TooMany line
type_told type_rule.NumberRange line = typing.NumberRange line

abbrev told_type : TypeRuleFault → TypeFault
told_type f = type_told f.rule f.at.line

type_is : (e : TypeFault) (f : TypeRuleFault) → TellsFault e f → e ≡ told_type f
type_is (typing.WrongArgs line) f (r, a) = rw (r, a) refl
type_is (typing.ScaleRange line) f (r, a) = rw (r, a) refl
type_is (typing.FieldRange line) f (r, a) = rw (r, a) refl
type_is (typing.BadBounds line) f (r, a) = rw (r, a) refl
type_is (typing.BadOverlay line) f (r, a) = rw (r, a) refl
type_is (typing.BadPreset line) f (r, a) = rw (r, a) refl
type_is (typing.TooMany line) f (r, a) = rw (r, a) refl
type_is (typing.NumberRange line) f (r, a) = rw (r, a) refl
type_is typing.NoMemory f h = absurd h

pub type_fault : (named : Named) (e : TypeFault) → MatchesTypeFault named e → e ≢ typing.NoMemory → (f : TypeRuleFault) × (first_type_fault named ≡ Some f) × (e ≡ told_type f)
type_fault named (typing.WrongArgs line) (f, is, tells) other = (f, is, type_is (typing.WrongArgs line) f tells)
type_fault named (typing.ScaleRange line) (f, is, tells) other = (f, is, type_is (typing.ScaleRange line) f tells)
type_fault named (typing.FieldRange line) (f, is, tells) other = (f, is, type_is (typing.FieldRange line) f tells)
type_fault named (typing.BadBounds line) (f, is, tells) other = (f, is, type_is (typing.BadBounds line) f tells)
type_fault named (typing.BadOverlay line) (f, is, tells) other = (f, is, type_is (typing.BadOverlay line) f tells)
type_fault named (typing.BadPreset line) (f, is, tells) other = (f, is, type_is (typing.BadPreset line) f tells)
type_fault named (typing.TooMany line) (f, is, tells) other = (f, is, type_is (typing.TooMany line) f tells)
type_fault named (typing.NumberRange line) (f, is, tells) other = (f, is, type_is (typing.NumberRange line) f tells)
type_fault named typing.NoMemory h other = absurd (other refl)

pub one_type_fault : (m n : Named) (e g : TypeFault) → first_type_fault m ≡ first_type_fault n → MatchesTypeFault m e → MatchesTypeFault n g → e ≢ typing.NoMemory → g ≢ typing.NoMemory → e ≡ g
one_type_fault m n e g at a b other also =
    let x = type_fault m e a other in
    let y = type_fault n g b also in
    let some : Some x.0 ≡ Some y.0 = sym x.1 ∙ at ∙ y.1 in
    let same : x.0 ≡ y.0 = cc in
    x.2 ∙ ap told_type same ∙ sym y.2
