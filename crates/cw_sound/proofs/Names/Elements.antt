-- Each element stands for one of a table that its body may name.
use Rattle.std.proofs.Common.{◌≡◌, ◌⊎◌, inl, inr, ℕ, true, IsTrue, Option, Some, None, refl, sym, ap, subst}
use Rattle.std.specs.Prelude.{option_map}
use Rattle.std.specs.declared.result.Result.TheVariants as result
use Rattle.cw_table.specs.Rows.{item_at}
use Rattle.cw_tree.specs.declared.leaf.RawName.{RawName}
use Rattle.cw_tree.specs.declared.leaf.RawSize.{RawSize}
use Rattle.cw_facts.specs.declared.fact.Declaration.{Declaration}
use Rattle.cw_facts.specs.declared.fact.Kind.{Kind as NameKind}
use Rattle.cw_facts.specs.declared.fact.Kind.TheVariants as kind
use Rattle.cw_facts.specs.Facts.{block_facts}
use Rattle.cw_facts.specs.Text.{communicators_facts, text_facts}
use Rattle.cw_scope.specs.declared.resolve.Named.{Named}
use Rattle.cw_scope.specs.Outcome.{Resolves}
use Rattle.cw_scale.specs.Kinds.{kind_in}
use Rattle.cw_make_expr.specs.Parts.{kind_here}
use Rattle.cw_make_items.specs.Lookup.{Numbers}
use Rattle.cw_unit.specs.declared.unit.Unit.{Unit as SourceUnit}
use Rattle.cw_sound.specs.Uses.Mentions.{In, here, declares, text_mentions}
use Rattle.cw_sound.specs.Uses.Stands.{StandsAs, IsTable, IsItem}
use Rattle.cw_sound.specs.Names.Placed.{Placed}
use Rattle.cw_sound.specs.Names.Standing.{is_item, is_element, StandsFrom, Stand, ItemsStand, IsItemFrom}
use Rattle.cw_sound.proofs.Names.UsesFound.{is_declared}
use Rattle.cw_sound.proofs.Names.TreeParts.{block_parts}
use Rattle.cw_sound.proofs.Names.Tables.{is_table, TabledKind, Tabled, tabled_both, communicators_tabled, part_tabled}

table_item : (k : NameKind) → IsTrue (is_table k) → IsTrue (is_item k)
table_item (kind.Table s) h = refl
table_item (kind.TableParam s) h = refl
table_item _ h = absurd (cc)

module _ (named : Named) (numbers : Numbers) (u : SourceUnit) (resolves : Resolves named.raw.now (result.Ok named)) (placed : Placed named.raw.now) (items : ItemsStand named numbers u) where
  all_tabled : Tabled numbers (text_facts named.raw.now)
  all_tabled =
      tabled_both numbers (communicators_facts named.raw.now.comms) (block_facts named.raw.now.block true) (communicators_tabled numbers named.raw.now.comms) (part_tabled named numbers (block_parts named numbers named.raw.now.block true))

  sized : (token : ℕ) (k : NameKind) → IsTrue (is_table k) → kind_here named token ≡ Some k → (s : RawSize) × ((kind_here named token ≡ Some (kind.Table s)) ⊎ (kind_here named token ≡ Some (kind.TableParam s)))
  sized token (kind.Table s) h e = (s, inl e)
  sized token (kind.TableParam s) h e = (s, inr e)
  sized token _ h e = absurd (cc)

  -- the table of a name, in each body that may name it
  module _ (owner : Option ℕ) (table : Declaration) (i : In (here owner (declares table)) (text_mentions numbers named.raw.now)) (h : IsTrue (is_table table.kind)) where
    in_body : (who : Option ℕ) → IsItem named numbers u who 1 (item_at numbers table.name.at.token) → IsTable named numbers u who table.name.at.token
    in_body who x =
        let s = sized table.name.at.token table.kind h (ap (option_map kind_in) (is_declared named resolves placed numbers owner table i)) in
        (s.0, s.1, x)

    from_items : (o : Option ℕ) (k : NameKind) (d : Declaration) → d.kind ≡ k → IsItemFrom named numbers u o (item_at numbers table.name.at.token) → ((who : Option ℕ) → IsTable named numbers u who table.name.at.token → (n : RawName) → StandsAs named numbers u who k n) → StandsFrom named numbers u o d
    from_items None k d e x f = λ who n r. subst (λ z. StandsAs named numbers u who z n) (sym e) (f who (in_body who (x who)) n)
    from_items (Some p) k d e x f = λ n r. subst (λ z. StandsAs named numbers u (Some p) z n) (sym e) (f (Some p) (in_body (Some p) x) n)

  by_kind : (owner : Option ℕ) (d : Declaration) (k : NameKind) → d.kind ≡ k → IsTrue (is_element k) → TabledKind (text_mentions numbers named.raw.now) owner k → StandsFrom named numbers u owner d
  by_kind owner d (kind.Element table e) is h t =
      let token_is : t.0.name.at.token ≡ table.at.token = ap (λ (n : RawName). n.at.token) t.2 in
      from_items owner t.0 t.1 t.3 owner (kind.Element table e) d is (items.declared owner t.0 (table_item t.0.kind t.3) t.1)
      (λ who x n. subst (IsTable named numbers u who) token_is x)
  by_kind owner d _ is h x = absurd (cc)

  pub elements_stand : Stand named numbers u is_element (text_mentions numbers named.raw.now)
  elements_stand owner d h i = by_kind owner d d.kind refl h (all_tabled None (here owner (declares d)) i)
