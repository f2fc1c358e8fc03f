-- Storage maps and the control stack need are computed.
use Rattle.std.proofs.Common.{◌≡◌, refl, [], ◌∷◌}
use Rattle.cw_unit.specs.Allocation.{storage_map}
use Rattle.cw_unit.specs.StackBound.{control_need}
use Rattle.cw_unit.specs.declared.unit.Arg.TheFolds.{fold-roll-Expr, fold-roll-Ref, fold-roll-Arg, fold-roll-Spot}
use Rattle.cw_unit.specs.declared.unit.Stmt.TheFolds.{fold-roll-Stmt}
use Rattle.cw_checks_meaning.specs.Examples.{first_sum, packed_table_overlay, filter_and_control, map_of_example, absolute_word, absolute_map, filter_map, packed_map}

pub absolute-placed : storage_map (absolute_word ∷ []) ≡ absolute_map
absolute-placed = refl

pub packed-placed : map_of_example packed_table_overlay ≡ packed_map
packed-placed = refl

pub filter-placed : map_of_example filter_and_control ≡ filter_map
filter-placed = refl

pub first_sum-need : control_need first_sum.segments 4096 ≡ 49228
first_sum-need = simp (fold-roll-Expr, fold-roll-Ref, fold-roll-Arg, fold-roll-Spot, fold-roll-Stmt) refl
