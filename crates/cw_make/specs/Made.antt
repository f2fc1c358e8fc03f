-- The unit of a named text. It is made of a text that has no fault; but it is defined for every text: what is refused counts as 0, and what
-- is not there as what is first.
-- Official Definition of CORAL 66; BS 5905. The form of units is this project's profile.
use Rattle.std.specs.Prelude.{List, [], ◌∷◌, Bool, true, false, ◌||◌}
use Rattle.cw_table.specs.declared.table.Row.{Row}
use Rattle.cw_tree.specs.declared.segment.Raw.{Raw}
use Rattle.cw_facts.specs.declared.fact.Declaration.{Declaration}
use Rattle.cw_facts.specs.declared.fact.Kind.{Kind}
use Rattle.cw_facts.specs.declared.fact.Kind.TheVariants as kind
use Rattle.cw_scope.specs.declared.resolve.Named.{Named}
use Rattle.cw_number.specs.things.Things.{text_things}
use Rattle.cw_number.specs.Listed.{listed_of}
use Rattle.cw_number.specs.Numbers.{numbers_of}
use Rattle.cw_make_items.specs.Lookup.{Numbers}
use Rattle.cw_make_items.specs.Descriptors.{descs_of}
use Rattle.cw_make_items.specs.Items.{addresses_of, items_of}
use Rattle.cw_preset.specs.Held.{held_of}
use Rattle.cw_make_stmt.specs.Made.{block_of}
use Rattle.cw_unit.specs.declared.unit.Unit.{Unit as SourceUnit}
use Rattle.cw_make.specs.Definitions.{defined_of}
use Rattle.cw_make.specs.Labels.{labels_of}
use Rattle.cw_make.specs.Procedures.{procs_of}
use Rattle.cw_make.specs.Switches.{switches_of}

abbrev pub is_bounds : Kind → Bool
is_bounds kind.Bounds = true
is_bounds _ = false

-- whether LIBRARY lists BOUNDS
abbrev pub lists_bounds : List (Row Declaration) → Bool
lists_bounds [] = false
lists_bounds (r ∷ rs) = is_bounds r.item.kind || lists_bounds rs

-- the segment's body is its outermost block
abbrev pub unit_with : Named → Numbers → Raw → SourceUnit
unit_with named numbers raw =
    record {
      name = raw.name;
      tokens = raw.tokens;
      bounds = lists_bounds named.declarations;
      descs = descs_of numbers (listed_of raw) (text_things named raw) raw.comms;
      items = items_of named.declarations numbers (listed_of raw) (addresses_of raw.comms) (held_of raw) (text_things named raw);
      procs = procs_of named numbers raw;
      labels = labels_of numbers raw;
      switches = switches_of named numbers raw;
      defined = defined_of named numbers;
      body = block_of named numbers raw.block;
    }

abbrev pub unit_of : Named → SourceUnit
unit_of named = unit_with named (numbers_of named) named.raw.now
