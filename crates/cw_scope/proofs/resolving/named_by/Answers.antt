use Rattle.std.proofs.Common.{◌≡◌, List, Option, Some, None, refl, sym, ap, ◌∙◌}
use Rattle.cw_tree.specs.declared.segment.Raw.{Raw}
use Rattle.cw_facts.specs.declared.fact.Fact.{Fact}
use Rattle.cw_facts.specs.Text.{text_facts}
use Rattle.cw_scope.specs.declared.fault.Fault.{Fault}
use Rattle.cw_scope.specs.declared.resolve.ScopeFault.{ScopeFault}
use Rattle.cw_scope.specs.declared.resolve.ScopeFault.TheVariants as told
use Rattle.cw_scope.specs.NameRules.{name_resolutions}
use Rattle.cw_scope.specs.Resolved.{text_declarations, text_signatures}
use Rattle.cw_scope.specs.Text.{text_fault, first_name_fault}
use Rattle.cw_scope.specs.Outcome.{ResolveFault, MatchesFault}
use Rattle.cw_scope.proofs.resolving.named_by.Goals as goal

fault_is : (items facts : List Fact) (raw : Raw) (first told : Option Fault) → items ≡ facts → facts ≡ text_facts raw → first ≡ text_fault items → first ≡ told → first_name_fault raw ≡ told
fault_is items facts raw first told same gathered is e = sym (ap text_fault (same ∙ gathered)) ∙ sym is ∙ e

matches : (raw : Raw) (e : ScopeFault) (f : Fault) → first_name_fault raw ≡ Some f → ResolveFault e f → MatchesFault raw e
matches raw (told.Undeclared n line) f h r = (f, h, r)
matches raw (told.Twice n line) f h r = (f, h, r)
matches raw (told.WrongKind n line) f h r = (f, h, r)
matches raw (told.SpecDiffers n line) f h r = (f, h, r)
matches raw told.NoMemory f h r = tt

pub returns-in-None : goal.returns-in-None
returns-in-None c =
    let same : c.as_slice.result.now ≡ text_facts c.args.raw.now = c.as_slice.ensures ∙ c.requires.facts in (
      fault_is c.as_slice.result.now c.args.facts c.args.raw.now c.in-Ok.field-0.first None c.as_slice.ensures c.requires.facts c.in-Ok.ensures.first (cc),
      refl,
      c.in-Ok.ensures.uses ∙ ap name_resolutions same,
      c.in-Ok.ensures.declarations ∙ ap text_declarations same,
      c.in-Ok.ensures.signatures ∙ ap text_signatures same,
    )

pub returns-in-Ok : goal.returns-in-Ok
returns-in-Ok c =
    let is : c.in-Ok.field-0.first ≡ Some c.in-Some.fault = cc in
    matches c.args.raw.now c.scope_fault.result c.in-Some.fault
    (fault_is c.as_slice.result.now c.args.facts c.args.raw.now c.in-Ok.field-0.first (Some c.in-Some.fault) c.as_slice.ensures c.requires.facts c.in-Ok.ensures.first is)
    c.scope_fault.ensures
