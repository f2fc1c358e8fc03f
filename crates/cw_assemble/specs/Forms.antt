-- Code with two forms, as a check or a jump at its end is short or not.
use Rattle.std.specs.Prelude.{ℕ, Bool, true, false, List}
use Rattle.cw_order.specs.declared.order.Comparator.{Comparator}
use Rattle.cw_tmpl.specs.declared.pieces.Coded.{Coded}
use Rattle.cw_tmpl.specs.Templates.{ended_back, jump_where, short_where}

-- code that may end with a check: where it does, the check is whole, or jumps back, by what the code has before it
abbrev pub ended_by : (short ends : Bool) → (whole before : List Coded) → (line place to : ℕ) → List Coded
ended_by true ends whole before line place to = ended_back ends whole before line place to
ended_by false ends whole before line place to = whole

-- goes to a place where a comparison of the two operands on top holds
abbrev pub where_by : (short : Bool) → Comparator → (place to : ℕ) → List Coded
where_by true c place to = short_where c place to
where_by false c place to = jump_where c place to
