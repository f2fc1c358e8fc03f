-- The declaration to which a use of a name refers: it allows the use, and stands in the same body or outside of procedures.
use Rattle.std.specs.Prelude.{◌≡◌, ◌⊎◌, ℕ, IsTrue, Option, Some, None}
use Rattle.cw_table.specs.Rows.{item_at}
use Rattle.cw_tree.specs.declared.leaf.RawName.{RawName}
use Rattle.cw_facts.specs.declared.fact.Declaration.{Declaration}
use Rattle.cw_facts.specs.declared.fact.Use.{Use}
use Rattle.cw_scope.specs.declared.resolve.Named.{Named}
use Rattle.cw_scope.specs.NameRules.{fits}
use Rattle.cw_make_items.specs.Lookup.{Numbers}
use Rattle.cw_sound.specs.Uses.Mentions.{In, here, declares, uses, text_mentions}

module _ (named : Named) where
  -- a name refers to a declaration
  abbrev pub Refers : RawName → Declaration → Type 0
  Refers n d = (item_at named.uses n.at.token ≡ Some d.name.at.token) × (item_at named.declarations d.name.at.token ≡ Some d)

  module _ (numbers : Numbers) where
    pub record Found (who : Option ℕ) (x : Use) : Type 0 where
      pub owner : Option ℕ
      pub declaration : Declaration
      pub is_declared : In (here owner (declares declaration)) (text_mentions numbers named.raw.now)
      pub is_near : (owner ≡ who) ⊎ (owner ≡ None)
      pub refers : Refers x.name declaration
      pub fits_use : IsTrue (fits x.form declaration.kind)

    abbrev pub UsesFound : Type 0
    UsesFound = (who : Option ℕ) (x : Use) → In (here who (uses x)) (text_mentions numbers named.raw.now) → Found who x
