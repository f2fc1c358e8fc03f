-- The objects of units tell what the units are.
use Rattle.std.proofs.Common.{◌≡◌, ℕ, List, [], ◌∷◌, map, refl, ap, ap₂, ◌∙◌, subst}
use Rattle.std.specs.Prelude.{All, Result, Ok, Err}
use Rattle.std.proofs.lemmas.List.Elements.{All-nil, All-cons, All-head, All-tail}
use Rattle.cw_unit.specs.declared.unit.Unit.{Unit as SourceUnit}
use Rattle.cw_unit.specs.declared.layout.Limits.{Limits}
use Rattle.cw_unit.specs.Storage.{layout_of}
use Rattle.cw_unit.specs.StackBound.{unit_need}
use Rattle.cw_unit.specs.Allocation.{SegmentStorage, map_of, storage_of, storage_map}
use Rattle.cw_view.specs.ObjectFormat.{IsObject}
use Rattle.cw_link.specs.Contents.{Contents}
use Rattle.cw_link.specs.LinkedImage.{linked_map}
use Rattle.cw_link.specs.LinkedImage as linked
use Rattle.cw_link.specs.LinkFaults.{AnswersLink}
use Rattle.cw_link.specs.declared.fault.LinkFault.{LinkFault}
use Rattle.cw_link.specs.declared.fault.LinkFault.TheVariants.{SegmentTwice, Differs, DefinedTwice, Undefined, AbsoluteOutside, DataTooBig, ControlTooBig, PresetClash, CodeTooBig, NoMemory}
use Rattle.cw_link.specs.declared.linking.Linked.{Linked}
use Rattle.cw_object.specs.ObjectContents.{TellsItsUnit, contents_in}
use Rattle.cw_build.specs.Compiled.{IsCompilable, code_of, object_of, contents_of_unit, contents_of_units}
use Rattle.cw_build.specs.Linking.{image_of}
use Rattle.cw_build.specs.Building.{AnswersLinking}

-- ---- storage

storages-same : (us : List SourceUnit) → map linked.storage_of (contents_of_units us) ≡ map storage_of us
storages-same [] = refl
storages-same (u ∷ us) = ap (λ (ss : List SegmentStorage). storage_of u ∷ ss) (storages-same us)

pub map-same : (us : List SourceUnit) → linked_map (contents_of_units us) ≡ storage_map us
map-same us = ap map_of (storages-same us)

-- ---- objects

module _ (tells : TellsItsUnit) where
  is-object : (u : SourceUnit) → IsCompilable u → IsObject (object_of u)
  unfolding object_of
  is-object u e = (tells u (layout_of u) (code_of u) (unit_need u) e.writable).0

  contents-are : (u : SourceUnit) → IsCompilable u → contents_in (object_of u) ≡ contents_of_unit u
  unfolding object_of
  contents-are u e = (tells u (layout_of u) (code_of u) (unit_need u) e.writable).1

  pub all-objects : (us : List SourceUnit) → All IsCompilable us → All IsObject (map object_of us)
  all-objects [] h = All-nil IsObject
  all-objects (u ∷ us) h = All-cons IsObject (object_of u) (map object_of us) (is-object u (All-head IsCompilable u us h)) (all-objects us (All-tail IsCompilable u us h))

  pub all-contents : (us : List SourceUnit) → All IsCompilable us → map contents_in (map object_of us) ≡ contents_of_units us
  all-contents [] h = refl
  all-contents (u ∷ us) h = ap₂ (λ (c : Contents) (cs : List Contents). c ∷ cs) (contents-are u (All-head IsCompilable u us h)) (all-contents us (All-tail IsCompilable u us h))

-- ---- what linking answers

of-units : (us : List SourceUnit) (limits : Limits) (r : Result Linked LinkFault) → AnswersLink (contents_of_units us) limits r → AnswersLinking us limits r
unfolding image_of
of-units us limits (Ok l) h = record { links = record { words = h.0; code = h.1 }; image = h.2; map = h.3 ∙ map-same us }
of-units us limits (Err (SegmentTwice name)) h = record { first = h; is_fault = λ e. cc }
of-units us limits (Err (Differs name first second)) h = record { first = h; is_fault = λ e. cc }
of-units us limits (Err (DefinedTwice name first second)) h = record { first = h; is_fault = λ e. cc }
of-units us limits (Err (Undefined name)) h = record { first = h; is_fault = λ e. cc }
of-units us limits (Err (AbsoluteOutside segment address)) h = record { first = h; is_fault = λ e. cc }
of-units us limits (Err (DataTooBig need)) h = record { first = h; is_fault = λ e. cc }
of-units us limits (Err (ControlTooBig need)) h = record { first = h; is_fault = λ e. cc }
of-units us limits (Err (PresetClash address first second)) h = record { first = h; is_fault = λ e. cc }
of-units us limits (Err (CodeTooBig bytes)) h = record { first = h; is_fault = λ e. cc }
of-units us limits (Err NoMemory) h = tt

pub answers : (tells : TellsItsUnit) (us : List SourceUnit) (objects : List (List ℕ)) (limits : Limits) (r : Result Linked LinkFault) → objects ≡ map object_of us → All IsCompilable us
    → AnswersLink (map contents_in objects) limits r → AnswersLinking us limits r
answers tells us objects limits r is compiled h =
    of-units us limits r (subst (λ cs. AnswersLink cs limits r) (ap (map contents_in) is ∙ all-contents tells us compiled) h)
