-- What a part is wanted for: its value or its place, or what it is as a whole argument.
use Rattle.std.specs.Prelude.{Bool, true, false}
use Rattle.cw_facts.specs.declared.fact.Reading.{Reading}
use Rattle.cw_facts.specs.declared.fact.Reading.TheVariants as reading

-- its value or its place
abbrev pub is_evaluated : Reading → Bool
is_evaluated reading.Argument = false
is_evaluated _ = true

-- its place
abbrev pub is_placed : Reading → Bool
is_placed reading.Target = true
is_placed reading.Whole = true
is_placed _ = false
