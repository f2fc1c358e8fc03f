-- What is asked of the names that a text declares: each is an identifier, as each name of the grammar is.
use Rattle.std.specs.Prelude.{◌≡◌, true}
use Rattle.cw_table.specs.declared.table.Row.{Row}
use Rattle.cw_tree.specs.declared.segment.Raw.{Raw}
use Rattle.cw_facts.specs.declared.fact.Declaration.{Declaration}
use Rattle.cw_grammar.specs.Tokens.{is_identifier}
use Rattle.cw_scope.specs.Text.{declarations_of}
use Rattle.cw_sound.specs.Written.Counts.{Each}

abbrev pub IsIdentified : Row Declaration → Type 0
IsIdentified r = is_identifier r.item.name.name ≡ true

abbrev pub HasIdentifiers : Raw → Type 0
HasIdentifiers raw = Each IsIdentified (declarations_of raw)
