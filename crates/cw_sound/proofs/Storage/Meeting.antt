-- Each definition of a text without faults meets its descriptor, as compiling asks.
use Rattle.std.proofs.Common.{◌≡◌, inl, inr, ℕ, List, [], ◌∷◌, Bool, true, IsTrue, Option, Some, None, slice_get, refl, sym, ap, ap₂, subst, ◌∙◌}
use Rattle.std.specs.List.{list_all}
use Rattle.std.specs.declared.result.Result.TheVariants as result
use Rattle.std.proofs.lemmas.Option.{same_Some}
use Rattle.cw_table.specs.Rows.{item_at}
use Rattle.cw_tree.specs.declared.leaf.RawType.{RawType}
use Rattle.cw_tree.specs.declared.segment.RawPs.{RawPs}
use Rattle.cw_tree.specs.declared.statement.RawProc.{out-RawProc}
use Rattle.cw_facts.specs.declared.fact.Declaration.{Declaration}
use Rattle.cw_facts.specs.Signatures.{flattened}
use Rattle.cw_facts.specs.Facts.{block_facts}
use Rattle.cw_scope.specs.declared.resolve.Named.{Named}
use Rattle.cw_tree.specs.declared.leaf.RawName.{RawName}
use Rattle.cw_scope.specs.Outcome.{Resolves}
use Rattle.cw_scope.specs.Same.{same_signature, same_answer, each_same}
use Rattle.cw_scope.specs.NameRules.{is_own_label, is_own_switch}
use Rattle.cw_number.specs.Listed.{listed_of}
use Rattle.cw_items.specs.declared.thing.Thing.{Thing}
use Rattle.cw_make_items.specs.Descriptors.{descs_of}
use Rattle.cw_make_items.specs.Lookup.{Numbers}
use Rattle.cw_make_items.specs.Types.{spec_of}
use Rattle.cw_make.specs.Definitions.{outermost_declared, def_in, defs_from}
use Rattle.cw_make.specs.Procedures.{proc_of}
use Rattle.cw_unit.specs.declared.unit.Unit.{Unit as SourceUnit}
use Rattle.cw_unit.specs.declared.unit.Def.{Def}
use Rattle.cw_unit.specs.declared.unit.Def.TheVariants as def
use Rattle.cw_unit.specs.declared.descriptor.DescBody.{DescBody}
use Rattle.cw_unit.specs.declared.descriptor.DescBody.TheVariants as bodies
use Rattle.cw_safety.specs.Kinds.{parameter_kinds, same_kinds}
use Rattle.cw_safety.specs.WellFormed.{takes_arguments}
use Rattle.cw_built.specs.Listed.{procedure_as}
use Rattle.cw_built.specs.Built.{defines_as, meets}
use Rattle.cw_sound.specs.Uses.Mentions.{In, here, declares, block_mentions}
use Rattle.cw_sound.specs.Uses.Stands.{FactsStand}
use Rattle.cw_sound.specs.Names.Placed.{Placed}
use Rattle.cw_sound.specs.Names.Standing.{CountsOwn}
use Rattle.cw_sound.proofs.Names.Inside.{ProcedureAt}
use Rattle.cw_sound.proofs.Names.OwnDeclarations.{Made}
use Rattle.cw_sound.proofs.Names.Params.{kinds_as_specified}
use Rattle.cw_sound.proofs.Names.ListedStands.{spec_kinds}
use Rattle.cw_sound.proofs.Storage.OwnNumbers.{label_found, switch_found}
use Rattle.cw_sound.proofs.Storage.SameKinds.{both_true, and_true, all_kinds}
use Rattle.cw_sound.proofs.Storage.Definitions as definitions

module _ (u : SourceUnit) where
  abbrev Meets : DescBody → Def → Type 0
  Meets b y = IsTrue (defines_as u b y)

  abbrev met : ℕ × Def → Bool
  met d = meets u (slice_get u.descs d.0) d.1

  each_met : (ds : List (ℕ × Def)) → ((x : ℕ × Def) → In x ds → definitions.MetAt u Meets x.0 x.1) → IsTrue (list_all met ds)
  each_met [] h = refl
  each_met (x ∷ xs) h =
      let m = h x (inl refl) in
      and_true (met x) (list_all met xs) (subst (λ o. IsTrue (meets u o x.1)) (sym m.is_there) m.meets_it) (each_met xs (λ y i. h y (inr i)))

module _ (named : Named) (numbers : Numbers) (u : SourceUnit) (resolves : Resolves named.raw.now (result.Ok named)) (placed : Placed named.raw.now)
    (counts : CountsOwn named numbers) (made : Made named numbers u) (stand : FactsStand named numbers u (block_facts named.raw.now.block true) None) where
  label_met : (d : Declaration) (y : Def) → is_own_label d.kind ≡ true → In (here None (declares d)) (block_mentions numbers named.raw.now) → def_in (item_at numbers d.name.at.token) ≡ Some y → Meets u bodies.Label y
  label_met d y own i e =
      let at = label_found named numbers u resolves placed counts made stand d own i in
      subst (Meets u bodies.Label) (same_Some (def.Label at.0) y (ap def_in (sym at.1) ∙ e)) at.2

  switch_met : (d : Declaration) (y : Def) → is_own_switch d.kind ≡ true → In (here None (declares d)) (block_mentions numbers named.raw.now) → def_in (item_at numbers d.name.at.token) ≡ Some y → Meets u bodies.Switch y
  switch_met d y own i e =
      let at = switch_found named numbers u resolves placed counts made stand d own i in
      subst (Meets u bodies.Switch) (same_Some (def.Switch at.0) y (ap def_in (sym at.1) ∙ e)) at.2

  procedure_met : (answer : Option RawType) (params : List RawPs) (n : RawName) (own_answer : Option RawType) (at : ProcedureAt named numbers u n own_answer)
      → IsTrue (same_signature (record { answer = answer; params = params }) (record { answer = own_answer; params = flattened (out-RawProc at.proc).params })) → Meets u (bodies.Proc (spec_of answer params)) (def.Proc at.number)
  procedure_met answer params n own_answer at same =
      let specs : List RawPs = flattened (out-RawProc at.proc).params in
      let kinds = all_kinds params specs (both_true (same_answer answer own_answer) (each_same params specs) same).1 in
      let ours : IsTrue (same_kinds (parameter_kinds (procedure_as (spec_of answer params))) (parameter_kinds (proc_of named numbers at.proc))) =
      subst IsTrue (ap₂ same_kinds (sym (spec_kinds params)) (sym (kinds_as_specified numbers (out-RawProc at.proc).params))) kinds in
      subst (λ o. IsTrue (takes_arguments o (parameter_kinds (procedure_as (spec_of answer params))))) (sym at.is_proc) ours

  pub all_met : (things : List Thing) → u.descs ≡ descs_of numbers (listed_of named.raw.now) things named.raw.now.comms
      → IsTrue (list_all (met u) (defs_from named numbers (outermost_declared named.raw.now) 0 (listed_of named.raw.now)))
  all_met things descs =
      each_met u (defs_from named numbers (outermost_declared named.raw.now) 0 (listed_of named.raw.now))
      (definitions.all_met named numbers u resolves placed counts made (Meets u) label_met switch_met procedure_met things descs)
