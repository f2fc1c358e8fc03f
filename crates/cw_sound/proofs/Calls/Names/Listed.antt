-- What the communicators list as a procedure has the specification of its descriptor.
use Rattle.std.proofs.Common.{◌≡◌, ℕ, List, true, IsTrue, Option, None, refl, sym, ap, subst, ◌∙◌}
use Rattle.std.specs.declared.result.Result.TheVariants as result
use Rattle.cw_table.specs.declared.table.Row.{Row}
use Rattle.cw_tree.specs.declared.leaf.RawName.{RawName}
use Rattle.cw_tree.specs.declared.leaf.RawType.{RawType}
use Rattle.cw_tree.specs.declared.segment.RawPs.{RawPs}
use Rattle.cw_facts.specs.declared.fact.Declaration.{Declaration}
use Rattle.cw_facts.specs.declared.fact.Kind.{Kind as NameKind}
use Rattle.cw_facts.specs.declared.fact.Kind.TheVariants as kind
use Rattle.cw_facts.specs.Facts.{block_facts}
use Rattle.cw_facts.specs.Text.{communicators_facts}
use Rattle.cw_scope.specs.declared.resolve.Named.{Named}
use Rattle.cw_scope.specs.Outcome.{Resolves}
use Rattle.cw_scope.specs.Resolved.{text_signatures}
use Rattle.cw_items.specs.Things.{text_things}
use Rattle.cw_number.specs.declared.listed.Listing.{Listing}
use Rattle.cw_number.specs.declared.listed.Listing.TheVariants as listing
use Rattle.cw_number.specs.declared.numbered.Numbered.TheVariants as numbered
use Rattle.cw_number.specs.Listed.{listed_of}
use Rattle.cw_number.specs.Numbers.{numbers_of}
use Rattle.cw_make_items.specs.Descriptors.{descs_of}
use Rattle.cw_make_items.specs.Lookup.{Numbers}
use Rattle.cw_make_items.specs.Types.{spec_of}
use Rattle.cw_unit.specs.declared.unit.Unit.{Unit as SourceUnit}
use Rattle.cw_unit.specs.declared.descriptor.Desc.{Desc}
use Rattle.cw_unit.specs.declared.descriptor.DescBody.TheVariants as bodies
use Rattle.cw_deepest.specs.Linked.UnitFits.{spec_said}
use Rattle.cw_sound.specs.Uses.Mentions.{In, here, declares, listed_mentions}
use Rattle.cw_sound.specs.Names.Placed.{Placed}
use Rattle.cw_sound.specs.Names.Found.{Refers}
use Rattle.cw_sound.specs.Names.Standing.{is_other, ItemsStand}
use Rattle.cw_sound.proofs.Names.Lists.{in_left}
use Rattle.cw_sound.proofs.Names.MentionsOf.{signatures_append}
use Rattle.cw_sound.proofs.Names.ListedKinds.{is_listed, communicators_say}
use Rattle.cw_sound.proofs.Names.ListedDeclarations.{Told, ToldKind, told}
use Rattle.cw_sound.proofs.Names.StandingNames.{number_here, signature_here}
use Rattle.cw_sound.proofs.Calls.Names.Known.{HasSpec, SpecsAs}
use Rattle.cw_sound.proofs.Names.ListedTold as listed

module _ (named : Named) (numbers : Numbers) (u : SourceUnit) (resolves : Resolves named.raw.now (result.Ok named)) (placed : Placed named.raw.now) (items : ItemsStand named numbers u) (is : numbers ≡ numbers_of named)
    (descs : u.descs ≡ descs_of numbers (listed_of named.raw.now) (text_things named named.raw.now) named.raw.now.comms) where
  abbrev rows : List (Row Listing)
  rows = listed_of named.raw.now

  abbrev listed_descs : List Desc
  listed_descs = descs_of numbers rows (text_things named named.raw.now) named.raw.now.comms

  module _ (owner : Option ℕ) (d : Declaration) (i : In (here owner (declares d)) (listed_mentions numbers named.raw.now)) where
    procedure_told : (answer : Option RawType) (params : List RawPs) → IsTrue (is_other d.kind) → Told numbers named.signatures rows listed_descs d.name listing.Proc (bodies.Proc (spec_of answer params))
        → In (record { token = d.name.at.token; item = record { answer = answer; params = params } }) named.signatures → (who : Option ℕ) (n : RawName) → Refers named n d → SpecsAs named numbers u who (kind.Proc answer) n
    procedure_told answer params other t row_in who n r =
        let number = listed.number_told named numbers u placed items is owner d i listing.Proc (bodies.Proc (spec_of answer params)) (numbered.CommonProc t.place) other t refl in (
          params,
          signature_here named numbers u n d (record { answer = answer; params = params }) (listed.signatures_differ named resolves placed) r row_in,
          subst (HasSpec named numbers u (spec_of answer params)) (sym (number_here named numbers u n d r ∙ number)) (ap spec_said (listed.body_told named numbers u descs d listing.Proc (bodies.Proc (spec_of answer params)) t)),
        )

    by_kind : (k : NameKind) → d.kind ≡ k → IsTrue (is_listed k) → ToldKind numbers named.signatures rows listed_descs d.name k → (who : Option ℕ) (n : RawName) → Refers named n d → SpecsAs named numbers u who k n
    by_kind (kind.Proc answer) e h t who n r = procedure_told answer t.0 (ap is_other e) t.1 t.2 who n r
    by_kind kind.LabelParam e h t who n r = absurd (cc)
    by_kind kind.SwitchParam e h t who n r = absurd (cc)
    by_kind (kind.ProcParam answer) e h t who n r = absurd (cc)
    by_kind _ e h t who n r = tt

  pub listed_specs : (owner : Option ℕ) (d : Declaration) → In (here owner (declares d)) (listed_mentions numbers named.raw.now) → (who : Option ℕ) (n : RawName) → Refers named n d → SpecsAs named numbers u who d.kind n
  listed_specs owner d i who n r =
      by_kind owner d i d.kind refl (communicators_say numbers named.raw.now.comms None (here owner (declares d)) i).1
      (told numbers named.signatures (listed.here_parts named numbers) None
      (λ z j. subst (In z) (sym (resolves.4 ∙ signatures_append (communicators_facts named.raw.now.comms) (block_facts named.raw.now.block true))) (in_left z (text_signatures (communicators_facts named.raw.now.comms)) (text_signatures (block_facts named.raw.now.block true)) j))
      (here owner (declares d)) i)
      who n r
