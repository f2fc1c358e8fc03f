-- What the communicators list stands for what its descriptor says.
use Rattle.std.proofs.Common.{◌≡◌, ℕ, List, [], ◌∷◌, map, true, IsTrue, Option, Some, None, slice_get, refl, sym, ap, ap₂, subst, ◌∙◌}
use Rattle.std.specs.declared.result.Result.TheVariants as result
use Rattle.cw_table.specs.declared.table.Row.{Row}
use Rattle.cw_tree.specs.declared.leaf.RawName.{RawName}
use Rattle.cw_tree.specs.declared.leaf.RawType.{RawType}
use Rattle.cw_tree.specs.declared.segment.RawIps.{RawIps}
use Rattle.cw_tree.specs.declared.segment.RawPs.{RawPs}
use Rattle.cw_tree.specs.declared.segment.RawPs.TheVariants as ps
use Rattle.cw_facts.specs.declared.fact.Declaration.{Declaration}
use Rattle.cw_facts.specs.declared.fact.Kind.{Kind as NameKind}
use Rattle.cw_facts.specs.declared.fact.Kind.TheVariants as kind
use Rattle.cw_facts.specs.Facts.{block_facts}
use Rattle.cw_facts.specs.Text.{communicators_facts}
use Rattle.cw_scope.specs.declared.resolve.Named.{Named}
use Rattle.cw_scope.specs.Outcome.{Resolves}
use Rattle.cw_scope.specs.Resolved.{text_signatures}
use Rattle.cw_scale.specs.Kinds.{kind_of, answer_fraction}
use Rattle.cw_items.specs.Things.{text_things}
use Rattle.cw_number.specs.declared.listed.Listing.{Listing}
use Rattle.cw_number.specs.declared.listed.Listing.TheVariants as listing
use Rattle.cw_number.specs.declared.numbered.Numbered.TheVariants as numbered
use Rattle.cw_number.specs.Listed.{listed_of}
use Rattle.cw_number.specs.Numbers.{numbers_of}
use Rattle.cw_make_expr.specs.Parts.{target_of}
use Rattle.cw_make_items.specs.Lookup.{Numbers}
use Rattle.cw_make_items.specs.Types.{spec_of, each_taken, taken, plain_taken, plain_spec}
use Rattle.cw_unit.specs.declared.descriptor.SpecParam.TheVariants as takes
use Rattle.cw_unit.specs.declared.descriptor.SpecParam.TheOpen as spec_layer
use Rattle.cw_unit.specs.declared.descriptor.SpecParam.TheViews.{out-roll-SpecParam}
use Rattle.cw_make_items.specs.Descriptors.{descs_of}
use Rattle.cw_unit.specs.declared.unit.Unit.{Unit as SourceUnit}
use Rattle.cw_unit.specs.declared.unit.Proc.{Proc}
use Rattle.cw_unit.specs.declared.descriptor.Desc.{Desc}
use Rattle.cw_unit.specs.declared.descriptor.DescBody.TheVariants as bodies
use Rattle.cw_unit.specs.Program.{definition_of}
use Rattle.cw_unit.specs.Scales.{answer_scale, fraction_of_body, fraction_of_desc}
use Rattle.cw_unit.specs.Step.{procedure_of_def}
use Rattle.cw_safety.specs.Kinds.{ProcedureKind, kind_of_param}
use Rattle.cw_safety.specs.WellFormed.{procedure_of_place}
use Rattle.cw_built.specs.Listed.{are_named, param_as, param_in_layer, says_label, says_switch, body_in, body_at}
use Rattle.cw_built.specs.Built.{alone, at_work}
use Rattle.cw_built.proofs.Saying.{Means, label-as-said, switch-as-said, means-alone}
use Rattle.cw_sound.specs.Uses.Mentions.{In, here, declares, listed_mentions}
use Rattle.cw_sound.specs.Uses.Stands.{StandsAs, IsLabel, IsSwitch, IsProcedure, kind_specified, taken_by_plain}
use Rattle.cw_sound.specs.Names.Placed.{Placed}
use Rattle.cw_sound.specs.Names.Found.{Refers}
use Rattle.cw_sound.specs.Names.Standing.{is_other, is_common, StandsIn, StandsFrom, Stand, ItemsStand}
use Rattle.cw_sound.proofs.Names.Lists.{in_left}
use Rattle.cw_sound.proofs.Names.MentionsOf.{signatures_append}
use Rattle.std.proofs.lemmas.Option.{same_Some}
use Rattle.cw_sound.proofs.Names.Params.{all_taken_plain}
use Rattle.cw_sound.proofs.Names.ListedDeclarations.{Told, ToldKind, told}
use Rattle.cw_sound.proofs.Names.StandingNames.{number_here, signature_here, answer_same}
use Rattle.cw_sound.proofs.Names.ListedTold as listed
use Rattle.cw_tree.specs.declared.segment.RawIps.TheVariants as inner

-- ---- what a specified procedure takes

plain_kind : (p : RawIps) → kind_of_param (param_as (plain_taken p)) ≡ kind_specified (ps.Plain p)
unfolding Rattle.cw_unit.specs.declared.descriptor.SpecParam.TheViews.out-SpecParam denote.Hole.Carrier.out
plain_kind (inner.Value at t) = refl
plain_kind _ = refl

procedure_kind : (answer : Option RawType) (params : List RawIps) → kind_of_param (param_as (takes.Proc (plain_spec answer params))) ≡ ProcedureKind (map taken_by_plain params)
procedure_kind answer params =
    ap (λ s. kind_of_param (param_as s)) (sym (takes.rolls-Proc (plain_spec answer params)))
    ∙ ap (λ y. kind_of_param (param_in_layer y)) (out-roll-SpecParam (spec_layer.Proc (plain_spec answer params)))
    ∙ ap ProcedureKind (all_taken_plain params)

one_kind : (p : RawPs) → kind_of_param (param_as (taken p)) ≡ kind_specified p
one_kind (ps.Plain p) = plain_kind p
one_kind (ps.Proc answer at params) = procedure_kind answer params

pub spec_kinds : (params : List RawPs) → map kind_of_param (map param_as (each_taken params)) ≡ map kind_specified params
spec_kinds [] = refl
spec_kinds (p ∷ more) = ap₂ (λ k ks. k ∷ ks) (one_kind p) (spec_kinds more)

fraction_said : (o : Option Desc) (answer : Option RawType) (params : List RawPs) → body_in o ≡ Some (bodies.Proc (spec_of answer params)) → fraction_of_desc o ≡ answer_fraction answer
fraction_said None answer params e = absurd (cc)
fraction_said (Some d) answer params e = ap fraction_of_body (same_Some d.body (bodies.Proc (spec_of answer params)) e) ∙ answer_same answer

module _ (named : Named) (numbers : Numbers) (u : SourceUnit) (resolves : Resolves named.raw.now (result.Ok named)) (placed : Placed named.raw.now) (items : ItemsStand named numbers u) (is : numbers ≡ numbers_of named)
    (descs : u.descs ≡ descs_of numbers (listed_of named.raw.now) (text_things named named.raw.now) named.raw.now.comms) (known : IsTrue (are_named u.descs)) where
  abbrev rows : List (Row Listing)
  rows = listed_of named.raw.now

  abbrev listed_descs : List Desc
  listed_descs = descs_of numbers rows (text_things named named.raw.now) named.raw.now.comms

  module _ (owner : Option ℕ) (d : Declaration) (i : In (here owner (declares d)) (listed_mentions numbers named.raw.now)) where
    label_told : IsTrue (is_other d.kind) → Told numbers named.signatures rows listed_descs d.name listing.Label bodies.Label → (who : Option ℕ) (n : RawName) → Refers named n d → StandsAs named numbers u who kind.Label n
    label_told other t who n r =
        subst (IsLabel named numbers u who) (sym (number_here named numbers u n d r ∙ listed.number_told named numbers u placed items is owner d i listing.Label bodies.Label (numbered.CommonLabel t.place) other t refl))
        (label-as-said (alone u) (at_work who) (definition_of (alone u) 0 t.place) (body_at u t.place) (means-alone u t.place known) ∙ ap says_label (listed.body_told named numbers u descs d listing.Label bodies.Label t))

    switch_told : IsTrue (is_other d.kind) → Told numbers named.signatures rows listed_descs d.name listing.Switch bodies.Switch → (who : Option ℕ) (n : RawName) → Refers named n d → StandsAs named numbers u who kind.Switch n
    switch_told other t who n r =
        subst (IsSwitch named numbers u who) (sym (number_here named numbers u n d r ∙ listed.number_told named numbers u placed items is owner d i listing.Switch bodies.Switch (numbered.CommonSwitch t.place) other t refl))
        (switch-as-said (alone u) (at_work who) (definition_of (alone u) 0 t.place) (body_at u t.place) (means-alone u t.place known) ∙ ap says_switch (listed.body_told named numbers u descs d listing.Switch bodies.Switch t))

    procedure_told : (answer : Option RawType) (params : List RawPs) → IsTrue (is_other d.kind) → Told numbers named.signatures rows listed_descs d.name listing.Proc (bodies.Proc (spec_of answer params))
        → In (record { token = d.name.at.token; item = record { answer = answer; params = params } }) named.signatures → (who : Option ℕ) (n : RawName) → Refers named n d → StandsAs named numbers u who (kind.Proc answer) n
    procedure_told answer params other t row_in who n r =
        let body = listed.body_told named numbers u descs d listing.Proc (bodies.Proc (spec_of answer params)) t in
        let m = subst (Means (alone u) (definition_of (alone u) 0 t.place)) body (means-alone u t.place known) in
        let number = listed.number_told named numbers u placed items is owner d i listing.Proc (bodies.Proc (spec_of answer params)) (numbered.CommonProc t.place) other t refl in
        record {
          params = params;
          signature = signature_here named numbers u n d (record { answer = answer; params = params }) (listed.signatures_differ named resolves placed) r row_in;
          is = subst (IsProcedure named numbers u who params) (sym (number_here named numbers u n d r ∙ number))
              (m.2, ap (λ f. procedure_of_place (alone u) (procedure_of_def f)) m.3 ∙ m.4, m.5 ∙ spec_kinds params);
          scale = ap (λ o. answer_scale u (target_of (kind_of named n) o)) (number_here named numbers u n d r ∙ number) ∙ fraction_said (slice_get u.descs t.place) answer params body;
        }

    by_kind : (k : NameKind) → d.kind ≡ k → IsTrue (is_common k) → ToldKind numbers named.signatures rows listed_descs d.name k → (who : Option ℕ) → StandsIn named numbers u who d
    by_kind kind.Label e h t who n r = subst (λ z. StandsAs named numbers u who z n) (sym e) (label_told (ap is_other e) t who n r)
    by_kind kind.Switch e h t who n r = subst (λ z. StandsAs named numbers u who z n) (sym e) (switch_told (ap is_other e) t who n r)
    by_kind (kind.Proc answer) e h t who n r = subst (λ z. StandsAs named numbers u who z n) (sym e) (procedure_told answer t.0 (ap is_other e) t.1 t.2 who n r)
    by_kind _ e h x who n r = absurd (cc)

    by_owner : (o : Option ℕ) → ((who : Option ℕ) → StandsIn named numbers u who d) → StandsFrom named numbers u o d
    by_owner None s = s
    by_owner (Some p) s = s (Some p)

  pub listed_stand : Stand named numbers u is_common (listed_mentions numbers named.raw.now)
  listed_stand owner d h i =
      by_owner owner d i owner
      (by_kind owner d i d.kind refl h
      (told numbers named.signatures (listed.here_parts named numbers) None
      (λ r j. subst (In r) (sym (resolves.4 ∙ signatures_append (communicators_facts named.raw.now.comms) (block_facts named.raw.now.block true))) (in_left r (text_signatures (communicators_facts named.raw.now.comms)) (text_signatures (block_facts named.raw.now.block true)) j))
      (here owner (declares d)) i))
