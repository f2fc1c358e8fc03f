-- What a segment defines of what its communicators list: a label, switch or procedure of the same name that is declared in its outermost
-- block. By rising descriptor.
-- Official Definition of CORAL 66, "Communicators".
use Rattle.std.specs.Prelude.{ℕ, List, [], ◌∷◌, ◌++◌, true, Option, Some, None}
use Rattle.cw_table.specs.declared.table.Row.{Row}
use Rattle.cw_table.specs.Rows.{item_at}
use Rattle.cw_tree.specs.declared.segment.Raw.{Raw}
use Rattle.cw_facts.specs.declared.fact.Declaration.{Declaration}
use Rattle.cw_facts.specs.declared.fact.Fact.{Fact, Fact-F, out-Fact}
use Rattle.cw_facts.specs.declared.fact.Fact.TheOpen as layer
use Rattle.cw_facts.specs.Facts.{block_facts}
use Rattle.cw_scope.specs.declared.resolve.Named.{Named}
use Rattle.cw_scope.specs.Scope.{declared_in}
use Rattle.cw_number.specs.declared.listed.Listing.{Listing}
use Rattle.cw_number.specs.declared.listed.Listing.TheVariants as listing
use Rattle.cw_number.specs.declared.numbered.Numbered.{Numbered}
use Rattle.cw_number.specs.declared.numbered.Numbered.TheVariants as numbered
use Rattle.cw_number.specs.Listed.{listed_of}
use Rattle.cw_number.specs.Numbers.{next_short}
use Rattle.cw_unit.specs.declared.unit.Def.{Def}
use Rattle.cw_unit.specs.declared.unit.Def.TheVariants as def
use Rattle.cw_make_items.specs.Lookup.{Numbers}

-- ---- what is declared in the outermost block itself

abbrev pub declared_by : Fact-F Fact → List Declaration
declared_by (layer.Declares d) = d ∷ []
declared_by _ = []

abbrev pub all_declared : List Fact → List Declaration
all_declared [] = []
all_declared (f ∷ fs) = declared_by (out-Fact f) ++ all_declared fs

abbrev pub inside : Fact-F Fact → List Declaration
inside (layer.Block owner fs) = all_declared fs
inside _ = []

abbrev pub inside_first : List Fact → List Declaration
inside_first [] = []
inside_first (f ∷ fs) = inside (out-Fact f)

abbrev pub outermost_declared : Raw → List Declaration
outermost_declared raw = inside_first (block_facts raw.block true)

-- ---- definitions

abbrev pub def_in : Option Numbered → Option Def
def_in (Some (numbered.Proc p)) = Some (def.Proc p)
def_in (Some (numbered.Label l)) = Some (def.Label l)
def_in (Some (numbered.Switch s)) = Some (def.Switch s)
def_in _ = None

abbrev pub def_if : (descriptor : ℕ) → Option Def → List (ℕ × Def)
def_if d None = []
def_if d (Some x) = (d, x) ∷ []

abbrev pub def_by : Numbers → Option Declaration → Option Def
def_by numbers None = None
def_by numbers (Some d) = def_in (item_at numbers d.name.at.token)

module _ (named : Named) (numbers : Numbers) (own : List Declaration) where
  abbrev pub def_named : Option Declaration → Option Def
  def_named None = None
  def_named (Some listed) = def_by numbers (declared_in own listed.name.name)

  -- an item is defined by no segment
  abbrev pub def_of : Listing → (token : ℕ) → Option Def
  def_of listing.Data token = None
  def_of _ token = def_named (item_at named.declarations token)

  abbrev pub defs_from : (descriptor : ℕ) → List (Row Listing) → List (ℕ × Def)
  defs_from d [] = []
  defs_from d (r ∷ rs) = def_if d (def_of r.item r.token) ++ defs_from (next_short d) rs

abbrev pub defined_of : Named → Numbers → List (ℕ × Def)
defined_of named numbers = defs_from named numbers (outermost_declared named.raw.now) 0 (listed_of named.raw.now)
