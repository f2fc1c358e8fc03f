-- Each item of a text's unit belongs to no procedure, or to one of the unit.
use Rattle.std.proofs.Common.{◌≡◌, inl, inr, ℕ, ◌<◌, List, [], ◌∷◌, length, true, Some, None, slice_get, refl, sym, ap, subst, ◌∙◌}
use Rattle.std.proofs.lemmas.Option.{none-some, same_Some, slice_get_within}
use Rattle.std.specs.declared.result.Result.TheVariants as result
use Rattle.cw_table.specs.Rows.{item_at}
use Rattle.cw_tree.specs.declared.segment.RawComm.{RawComm}
use Rattle.cw_tree.specs.declared.segment.RawComm.TheVariants as comm
use Rattle.cw_tree.specs.declared.segment.RawCitem.{RawCitem}
use Rattle.cw_tree.specs.declared.segment.RawCitem.TheVariants as citem
use Rattle.cw_tree.specs.declared.segment.RawAitem.{RawAitem}
use Rattle.cw_tree.specs.declared.segment.RawAitem.TheVariants as aitem
use Rattle.cw_scope.specs.declared.resolve.Named.{Named}
use Rattle.cw_scope.specs.Outcome.{Resolves}
use Rattle.cw_facts.specs.declared.fact.Kind.TheVariants as kind
use Rattle.cw_items.specs.declared.thing.Thing.{Thing}
use Rattle.cw_items.specs.Things.{base_at, aitem_things, aitems_things, citem_things, citems_things, communicator_things, communicators_things, block_things, text_things}
use Rattle.cw_number.specs.declared.numbered.Numbered.TheVariants as numbered
use Rattle.cw_make_items.specs.Lookup.{Numbers, proc_in}
use Rattle.cw_make_items.specs.Items.{proc_of_owner}
use Rattle.cw_make.specs.Procedures.{proc_of}
use Rattle.cw_unit.specs.declared.unit.Unit.{Unit as SourceUnit}
use Rattle.cw_sound.specs.Uses.Mentions.{here, declares, block_mentions}
use Rattle.cw_sound.specs.Names.Placed.{Placed}
use Rattle.cw_sound.specs.Names.Standing.{CountsOwn}
use Rattle.cw_sound.proofs.Names.OwnDeclarations.{Made, goals}
use Rattle.cw_sound.proofs.Items.Lists.{each-append, each-in, at-place}
use Rattle.cw_sound.proofs.Storage.Owners.{AllSo, Owned, data_own}
use Rattle.cw_sound.proofs.Storage.OwnersOfTrees.{block_owns}
use Rattle.cw_macro.specs.Premises.{Each}

-- ---- what communicators list has no owner

module _ (K : ℕ → Type 0) (numbers : Numbers) (named : Named) where
  abbrev Free : List Thing → Type 0
  Free = Each (Owned K numbers None)

  aitems_free : (is : List RawAitem) → Free (aitems_things is)
  aitems_free [] = tt
  aitems_free (i ∷ is) = each-append (Owned K numbers None) (aitem_things i) (aitems_things is) (one i) (aitems_free is)
    where
      one : (i : RawAitem) → Free (aitem_things i)
      one (aitem.Single t n a) = (inl refl, tt)
      one (aitem.Array t n b a) = (inl refl, tt)
      one (aitem.Table t a) = (inl refl, tt)

  citems_free : (is : List RawCitem) → Free (citems_things named is)
  citems_free [] = tt
  citems_free (i ∷ is) = each-append (Owned K numbers None) (citem_things named i) (citems_things named is) (one i) (citems_free is)
    where
      one : (i : RawCitem) → Free (citem_things named i)
      one (citem.Data d) = data_own K numbers None None d
      one (citem.Overlay at b d) = data_own K numbers None (Some (base_at named b)) d
      one (citem.Label at ns) = tt
      one (citem.Switch at ns) = tt
      one (citem.Spec s) = tt

  communicators_free : (cs : List RawComm) → Free (communicators_things named cs)
  communicators_free [] = tt
  communicators_free (c ∷ cs) = each-append (Owned K numbers None) (communicator_things named c) (communicators_things named cs) (one c) (communicators_free cs)
    where
      one : (c : RawComm) → Free (communicator_things named c)
      one (comm.Common at is) = citems_free is
      one (comm.Library at ss) = tt
      one (comm.Absolute at is) = aitems_free is

  -- a thing of a text has no owner, or its owner is a procedure of the outermost block
  pub thing_owned : AllSo K numbers (block_mentions numbers named.raw.now) → (i : ℕ) (t : Thing) → slice_get (text_things named named.raw.now) i ≡ Some t → Owned K numbers None t
  thing_owned so i t e =
      let raw = named.raw.now in
      each-in (Owned K numbers None) (text_things named raw)
      (each-append (Owned K numbers None) (communicators_things named raw.comms) (block_things named raw.block None) (communicators_free raw.comms) (block_owns K numbers named raw.block true None so)) t
      (at-place (text_things named raw) i t e)

-- ---- procedures of a unit

-- the token is that of a procedure of the unit
abbrev pub IsProcedure : Numbers → SourceUnit → (token : ℕ) → Type 0
IsProcedure numbers u token = (p : ℕ) × (item_at numbers token ≡ Some (numbered.Proc p)) × (p < length u.procs)

module _ (named : Named) (numbers : Numbers) (u : SourceUnit) (resolves : Resolves named.raw.now (result.Ok named)) (placed : Placed named.raw.now) (counts : CountsOwn named numbers) (made : Made named numbers u) where
  pub all_procedures : AllSo (IsProcedure numbers u) numbers (block_mentions numbers named.raw.now)
  all_procedures who n answer i =
      let p = goals named numbers u resolves placed counts made (here who (declares (record { name = n; kind = kind.Proc answer }))) i in
      (p.number, p.is_number, slice_get_within u.procs p.number (proc_of named numbers p.proc) p.is_proc)

  pub owner_within : (t : Thing) (q : ℕ) → Owned (IsProcedure numbers u) numbers None t → proc_of_owner numbers t.owner ≡ Some q → q < length u.procs
  owner_within t q (inl e) h = absurd (none-some q (sym (ap (proc_of_owner numbers) e) ∙ h))
  owner_within t q (inr r) h = subst (λ p. p < length u.procs) (sym (ap proc_in r.2.1) ∙ same_Some (proc_in (item_at numbers r.0.token)) q (sym (ap (proc_of_owner numbers) r.1) ∙ h)) r.2.2
