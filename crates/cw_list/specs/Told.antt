-- The names of the COMMON items that have their line.
use Rattle.std.specs.Prelude.{ℕ, List, Bool, false, ◌&&◌, Option, None, Some}
use Rattle.std.specs.Borrow.{Bor}
use Rattle.std.specs.BTreeSet.{BTreeSet, contains_by}
use Rattle.std.specs.Ordering.{nat_cmp}
use Rattle.std.specs.Cmp.Lexicographic.{slice_cmp}
use Rattle.cw_unit.specs.Allocation.{Name}
use Rattle.cw_list.specs.declared.row.Row.{Row}

abbrev pub is_told : BTreeSet (Bor (List ℕ)) → Name → Bool
is_told told name = contains_by (λ k. slice_cmp nat_cmp name k.now) told

abbrev pub is_told_or_none : BTreeSet (Bor (List ℕ)) → Option Name → Bool
is_told_or_none told None = false
is_told_or_none told (Some name) = is_told told name

-- whether it is a COMMON item whose name has its line
abbrev pub is_repeated : BTreeSet (Bor (List ℕ)) → Row → Bool
is_repeated told r = r.common && is_told_or_none told r.name
