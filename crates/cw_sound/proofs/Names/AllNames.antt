-- Where the declarations of a text stand, its uses do.
use Rattle.std.proofs.Common.{◌≡◌, ◌⊎◌, inl, inr, ℕ, ◌++◌, Bool, true, false, IsTrue, Option, Some, None, refl, sym, ap, subst, ◌∙◌}
use Rattle.std.specs.Prelude.{option_map, option_and_then}
use Rattle.cw_table.specs.Rows.{item_at}
use Rattle.cw_tree.specs.declared.leaf.RawName.{RawName}
use Rattle.cw_facts.specs.declared.fact.Declaration.{Declaration}
use Rattle.cw_facts.specs.declared.fact.Kind.{Kind as NameKind}
use Rattle.cw_facts.specs.declared.fact.Kind.TheVariants as kind
use Rattle.cw_facts.specs.declared.fact.Use.{Use}
use Rattle.cw_facts.specs.Facts.{block_facts}
use Rattle.cw_facts.specs.Text.{communicators_facts}
use Rattle.cw_scope.specs.declared.resolve.Named.{Named}
use Rattle.cw_scope.specs.NameRules.{is_own_label, is_own_switch}
use Rattle.cw_scale.specs.Kinds.{kind_in}
use Rattle.cw_scale.specs.Arguments.{answers_alone}
use Rattle.cw_make_items.specs.Lookup.{Numbers}
use Rattle.cw_unit.specs.declared.unit.Unit.{Unit as SourceUnit}
use Rattle.cw_sound.specs.Uses.Mentions.{In, Mention, here, declares, uses, stores, listed_mentions, block_mentions, text_mentions}
use Rattle.cw_sound.specs.Uses.Stands.{StandsAs, Stands, MentionStands, FactsStand}
use Rattle.cw_sound.specs.Names.Found.{Found, UsesFound}
use Rattle.cw_sound.specs.Names.Standing.{is_item, is_element, is_own_procedure, is_control, is_built_in, is_common, StandsFrom, Stand, ItemsStand, AnswersAreCalled}
use Rattle.cw_sound.proofs.Names.Lists.{in_either, in_right}
use Rattle.cw_sound.proofs.Names.Rows.{mentions_append}
use Rattle.cw_sound.proofs.Names.ListedKinds.{is_listed, communicators_say}
use Rattle.cw_sound.proofs.Names.StandingNames.{near_stands, item_from}

module _ (named : Named) (numbers : Numbers) (u : SourceUnit) where
  -- kinds that ask for nothing
  abbrev is_free : NameKind → Bool
  is_free kind.Bounds = true
  is_free (kind.Answer t) = true
  is_free _ = false

  free_kind : (who : Option ℕ) (n : RawName) (k : NameKind) → IsTrue (is_free k) → StandsAs named numbers u who k n
  free_kind who n kind.Bounds h = tt
  free_kind who n (kind.Answer t) h = tt
  free_kind who n _ h = absurd (cc)

  free_from : (owner : Option ℕ) (d : Declaration) → IsTrue (is_free d.kind) → StandsFrom named numbers u owner d
  free_from None d h = λ who n r. free_kind who n d.kind h
  free_from (Some p) d h = λ n r. free_kind (Some p) n d.kind h

  -- ---- each declaration

  module _ (items : ItemsStand named numbers u) (elements : Stand named numbers u is_element (text_mentions numbers named.raw.now)) (built : Stand named numbers u is_built_in (text_mentions numbers named.raw.now))
      (procedures : Stand named numbers u is_own_procedure (block_mentions numbers named.raw.now)) (parameters : Stand named numbers u is_control (block_mentions numbers named.raw.now))
      (labels : Stand named numbers u is_own_label (block_mentions numbers named.raw.now)) (switches : Stand named numbers u is_own_switch (block_mentions numbers named.raw.now))
      (listed : Stand named numbers u is_common (listed_mentions numbers named.raw.now)) where
    parted : text_mentions numbers named.raw.now ≡ listed_mentions numbers named.raw.now ++ block_mentions numbers named.raw.now
    parted = mentions_append numbers (communicators_facts named.raw.now.comms) (block_facts named.raw.now.block true) None

    abbrev Sides : Option ℕ → Declaration → Type 0
    Sides owner d = In (here owner (declares d)) (listed_mentions numbers named.raw.now) ⊎ In (here owner (declares d)) (block_mentions numbers named.raw.now)

    sides : (owner : Option ℕ) (d : Declaration) → In (here owner (declares d)) (text_mentions numbers named.raw.now) → Sides owner d
    sides owner d i = in_either (here owner (declares d)) (listed_mentions numbers named.raw.now) (block_mentions numbers named.raw.now) (subst (In (here owner (declares d))) parted i)

    no_parameter : (owner : Option ℕ) (d : Declaration) → IsTrue (is_control d.kind) → In (here owner (declares d)) (listed_mentions numbers named.raw.now) → ⊥
    no_parameter owner d h i = not_both d.kind h (communicators_say numbers named.raw.now.comms None (here owner (declares d)) i).1
      where
        not_both : (k : NameKind) → IsTrue (is_control k) → IsTrue (is_listed k) → ⊥
        not_both kind.LabelParam a b = cc
        not_both kind.SwitchParam a b = cc
        not_both (kind.ProcParam t) a b = cc
        not_both (kind.Single t) a b = cc
        not_both (kind.Array t s) a b = cc
        not_both (kind.Table s) a b = cc
        not_both (kind.Element t e) a b = cc
        not_both (kind.Value t) a b = cc
        not_both (kind.Location t) a b = cc
        not_both (kind.ArrayParam t) a b = cc
        not_both (kind.TableParam s) a b = cc
        not_both kind.Label a b = cc
        not_both kind.Switch a b = cc
        not_both (kind.Proc t) a b = cc
        not_both kind.ReadByte a b = cc
        not_both kind.WriteByte a b = cc
        not_both kind.Bounds a b = cc
        not_both (kind.Answer t) a b = cc

    parameter_side : (owner : Option ℕ) (d : Declaration) → IsTrue (is_control d.kind) → Sides owner d → StandsFrom named numbers u owner d
    parameter_side owner d h (inl i) = absurd (no_parameter owner d h i)
    parameter_side owner d h (inr i) = parameters owner d h i

    procedure_side : (owner : Option ℕ) (d : Declaration) → IsTrue (is_own_procedure d.kind) → IsTrue (is_common d.kind) → Sides owner d → StandsFrom named numbers u owner d
    procedure_side owner d h c (inl i) = listed owner d c i
    procedure_side owner d h c (inr i) = procedures owner d h i

    label_side : (owner : Option ℕ) (d : Declaration) → IsTrue (is_own_label d.kind) → IsTrue (is_common d.kind) → Sides owner d → StandsFrom named numbers u owner d
    label_side owner d h c (inl i) = listed owner d c i
    label_side owner d h c (inr i) = labels owner d h i

    switch_side : (owner : Option ℕ) (d : Declaration) → IsTrue (is_own_switch d.kind) → IsTrue (is_common d.kind) → Sides owner d → StandsFrom named numbers u owner d
    switch_side owner d h c (inl i) = listed owner d c i
    switch_side owner d h c (inr i) = switches owner d h i

    declared_stands : (owner : Option ℕ) (d : Declaration) → In (here owner (declares d)) (text_mentions numbers named.raw.now) → StandsFrom named numbers u owner d
    declared_stands owner d i = by_kind d.kind refl
      where
        item : IsTrue (is_item d.kind) → StandsFrom named numbers u owner d
        item h = item_from named numbers u owner d h (items.declared owner d h i)

        by_kind : (k : NameKind) → d.kind ≡ k → StandsFrom named numbers u owner d
        by_kind (kind.Element t x) e = elements owner d (ap is_element e) i
        by_kind kind.LabelParam e = parameter_side owner d (ap is_control e) (sides owner d i)
        by_kind kind.SwitchParam e = parameter_side owner d (ap is_control e) (sides owner d i)
        by_kind (kind.ProcParam t) e = parameter_side owner d (ap is_control e) (sides owner d i)
        by_kind kind.Label e = label_side owner d (ap is_own_label e) (ap is_common e) (sides owner d i)
        by_kind kind.Switch e = switch_side owner d (ap is_own_switch e) (ap is_common e) (sides owner d i)
        by_kind (kind.Proc t) e = procedure_side owner d (ap is_own_procedure e) (ap is_common e) (sides owner d i)
        by_kind kind.ReadByte e = built owner d (ap is_built_in e) i
        by_kind kind.WriteByte e = built owner d (ap is_built_in e) i
        by_kind kind.Bounds e = free_from owner d (ap is_free e)
        by_kind (kind.Answer t) e = free_from owner d (ap is_free e)
        by_kind _ e = item (ap is_item e)

    -- ---- each use

    module _ (found : UsesFound named numbers) (called : AnswersAreCalled named numbers) where
      use_stands : (who : Option ℕ) (x : Use) → Found named numbers who x → Stands named numbers u who x
      use_stands who x f =
          record {
            named_kind = f.declaration.kind;
            is_kind = ap (λ o. option_map kind_in (option_and_then (item_at named.declarations) o)) f.refers.0 ∙ ap (option_map kind_in) f.refers.1;
            fits_use = f.fits_use;
            called = λ h. called f.owner f.declaration f.is_declared (subst (λ o. IsTrue (answers_alone (option_and_then (item_at named.signatures) o))) f.refers.0 h);
            stands_as = near_stands named numbers u f.owner who f.declaration f.is_near (declared_stands f.owner f.declaration f.is_declared) x.name f.refers;
          }

      mention_stands : (who : Option ℕ) (m : Mention) → In (here who m) (text_mentions numbers named.raw.now) → MentionStands named numbers u who m
      mention_stands who (declares d) i = tt
      mention_stands who (uses x) i = use_stands who x (found who x i)
      mention_stands who (stores token words) i = items.unnamed who token words i

      pub all_names : FactsStand named numbers u (block_facts named.raw.now.block true) None
      all_names m i = mention_stands m.who m.mention (subst (In m) (sym parted) (in_right m (listed_mentions numbers named.raw.now) (block_mentions numbers named.raw.now) i))
