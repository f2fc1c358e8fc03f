-- Each definition of a text without faults that is of a procedure has the specification that its descriptor says.
use Rattle.std.proofs.Common.{◌≡◌, ℕ, List, IsTrue, Option, Some, slice_get, sym, ap, ◌∙◌}
use Rattle.std.specs.declared.result.Result.TheVariants as result
use Rattle.std.proofs.lemmas.Option.{same_Some}
use Rattle.cw_tree.specs.declared.leaf.RawType.{RawType}
use Rattle.cw_tree.specs.declared.segment.RawPs.{RawPs}
use Rattle.cw_tree.specs.declared.statement.RawProc.{out-RawProc}
use Rattle.cw_facts.specs.Signatures.{flattened}
use Rattle.cw_scope.specs.declared.resolve.Named.{Named}
use Rattle.cw_tree.specs.declared.leaf.RawName.{RawName}
use Rattle.cw_scope.specs.Outcome.{Resolves}
use Rattle.cw_scope.specs.Same.{same_signature}
use Rattle.cw_number.specs.Listed.{listed_of}
use Rattle.cw_items.specs.declared.thing.Thing.{Thing}
use Rattle.cw_make_items.specs.Descriptors.{descs_of}
use Rattle.cw_make_items.specs.Lookup.{Numbers}
use Rattle.cw_make_items.specs.Types.{spec_of}
use Rattle.cw_make.specs.Definitions.{outermost_declared, defs_from}
use Rattle.cw_make.specs.Procedures.{proc_of}
use Rattle.cw_unit.specs.declared.unit.Unit.{Unit as SourceUnit}
use Rattle.cw_unit.specs.declared.unit.Def.{Def}
use Rattle.cw_unit.specs.declared.unit.Def.TheVariants as def
use Rattle.cw_unit.specs.declared.descriptor.DescBody.{DescBody}
use Rattle.cw_unit.specs.declared.descriptor.DescBody.TheVariants as bodies
use Rattle.cw_sound.specs.Uses.Mentions.{In}
use Rattle.cw_sound.specs.Names.Placed.{Placed}
use Rattle.cw_sound.specs.Names.Standing.{CountsOwn}
use Rattle.cw_sound.proofs.Names.Inside.{ProcedureAt}
use Rattle.cw_sound.proofs.Names.OwnDeclarations.{Made}
use Rattle.cw_unit.specs.declared.unit.Proc.{Proc}
use Rattle.cw_depth.specs.CallGraph.{spec_of as proc_spec}
use Rattle.cw_sound.proofs.Calls.Names.Specs.{signature_spec}
use Rattle.cw_sound.proofs.Calls.Names.Taken.{declared_spec}
use Rattle.cw_sound.proofs.Storage.Definitions as definitions
use Rattle.cw_sound.proofs.Storage.Definitions.{MetAt}

-- ---- what a definition is of

module _ (u : SourceUnit) where
  -- a definition of a descriptor that says a procedure has its specification
  abbrev pub MeetsSaid : DescBody → Def → Type 0
  MeetsSaid (bodies.Proc s) (def.Proc q) = (x : Proc) → slice_get u.procs q ≡ Some x → proc_spec x ≡ s
  MeetsSaid b y = Unit {0}

module _ (named : Named) (numbers : Numbers) (u : SourceUnit) (resolves : Resolves named.raw.now (result.Ok named)) (placed : Placed named.raw.now)
    (counts : CountsOwn named numbers) (made : Made named numbers u) where
  procedure_met : (answer : Option RawType) (params : List RawPs) (n : RawName) (own_answer : Option RawType) (at : ProcedureAt named numbers u n own_answer)
      → IsTrue (same_signature (record { answer = answer; params = params }) (record { answer = own_answer; params = flattened (out-RawProc at.proc).params })) → MeetsSaid u (bodies.Proc (spec_of answer params)) (def.Proc at.number)
  procedure_met answer params n own_answer at same =
      let specs : List RawPs = flattened (out-RawProc at.proc).params in
      let ours : proc_spec (proc_of named numbers at.proc) ≡ spec_of answer params =
      declared_spec numbers named at.proc ∙ ap (λ a. spec_of a specs) at.is_answer ∙ sym (signature_spec (record { answer = answer; params = params }) (record { answer = own_answer; params = specs }) same) in
      λ z e. ap proc_spec (same_Some z (proc_of named numbers at.proc) (sym e ∙ at.is_proc)) ∙ ours

  pub all_met : (things : List Thing) → u.descs ≡ descs_of numbers (listed_of named.raw.now) things named.raw.now.comms
      → (x : ℕ × Def) → In x (defs_from named numbers (outermost_declared named.raw.now) 0 (listed_of named.raw.now)) → MetAt u (MeetsSaid u) x.0 x.1
  all_met = definitions.all_met named numbers u resolves placed counts made (MeetsSaid u) (λ d y own i e. tt) (λ d y own i e. tt) procedure_met
