-- Calls open a level, or go to a smaller rule. Between a function and what it reads in a row stands what reads one.
use Rattle.std.proofs.Common.{ℕ, ◌+◌, ◌*◌}
use Rattle.cw_parse_expr.proofs.reading.+reader.Given as goal

abbrev pub decreases-read_bracketed : goal.decreases-read_bracketed
decreases-read_bracketed l = 100 * l.levels + 0

abbrev pub decreases-read_subscript : goal.decreases-read_subscript
decreases-read_subscript l = 100 * l.levels + 0

abbrev pub decreases-read_indexed : goal.decreases-read_indexed
decreases-read_indexed l = 100 * l.levels + 0

abbrev pub decreases-read_called : goal.decreases-read_called
decreases-read_called l = 100 * l.levels + 0

abbrev pub decreases-read_located : goal.decreases-read_located
decreases-read_located l = 100 * l.levels + 0

abbrev pub decreases-read_conditional : goal.decreases-read_conditional
decreases-read_conditional l = 100 * l.levels + 0

abbrev pub decreases-read_element : goal.decreases-read_element
decreases-read_element l = 100 * l.levels + 1

abbrev pub decreases-read_bare : goal.decreases-read_bare
decreases-read_bare l = 100 * l.levels + 1

abbrev pub decreases-read_reference : goal.decreases-read_reference
decreases-read_reference l = 100 * l.levels + 2

abbrev pub decreases-read_location : goal.decreases-read_location
decreases-read_location l = 100 * l.levels + 2

abbrev pub decreases-read_forced : goal.decreases-read_forced
decreases-read_forced l = 100 * l.levels + 2

abbrev pub decreases-read_worded : goal.decreases-read_worded
decreases-read_worded l = 100 * l.levels + 4

abbrev pub decreases-read_in_brackets : goal.decreases-read_in_brackets
decreases-read_in_brackets l = 100 * l.levels + 2

abbrev pub decreases-read_addressed : goal.decreases-read_addressed
decreases-read_addressed l = 100 * l.levels + 2

abbrev pub decreases-read_enclosed : goal.decreases-read_enclosed
decreases-read_enclosed l = 100 * l.levels + 4

abbrev pub decreases-read_named : goal.decreases-read_named
decreases-read_named l = 100 * l.levels + 2

abbrev pub decreases-read_primary : goal.decreases-read_primary
decreases-read_primary l = 100 * l.levels + 6

abbrev pub decreases-read_prim : goal.decreases-read_prim
decreases-read_prim l = 100 * l.levels + 8

abbrev pub decreases-read_mask : goal.decreases-read_mask
decreases-read_mask l = 100 * l.levels + 10

abbrev pub decreases-read_mask-operand : goal.decreases-read_mask-operand
decreases-read_mask-operand l = 100 * l.levels + 9

abbrev pub decreases-read_union : goal.decreases-read_union
decreases-read_union l = 100 * l.levels + 12

abbrev pub decreases-read_union-operand : goal.decreases-read_union-operand
decreases-read_union-operand l = 100 * l.levels + 11

abbrev pub decreases-read_differ : goal.decreases-read_differ
decreases-read_differ l = 100 * l.levels + 14

abbrev pub decreases-read_differ-operand : goal.decreases-read_differ-operand
decreases-read_differ-operand l = 100 * l.levels + 13

abbrev pub decreases-read_term : goal.decreases-read_term
decreases-read_term l = 100 * l.levels + 16

abbrev pub decreases-read_term-operand : goal.decreases-read_term-operand
decreases-read_term-operand l = 100 * l.levels + 15

abbrev pub decreases-read_sum : goal.decreases-read_sum
decreases-read_sum l = 100 * l.levels + 18

abbrev pub decreases-read_sum-operand : goal.decreases-read_sum-operand
decreases-read_sum-operand l = 100 * l.levels + 17

abbrev pub decreases-read_cmp : goal.decreases-read_cmp
decreases-read_cmp l = 100 * l.levels + 20

abbrev pub decreases-read_cand : goal.decreases-read_cand
decreases-read_cand l = 100 * l.levels + 22

abbrev pub decreases-read_cand-operand : goal.decreases-read_cand-operand
decreases-read_cand-operand l = 100 * l.levels + 21

abbrev pub decreases-read_condition : goal.decreases-read_condition
decreases-read_condition l = 100 * l.levels + 24

abbrev pub decreases-read_condition-operand : goal.decreases-read_condition-operand
decreases-read_condition-operand l = 100 * l.levels + 23

abbrev pub decreases-read_expr : goal.decreases-read_expr
decreases-read_expr l = 100 * l.levels + 20

abbrev pub decreases-read_second : goal.decreases-read_second
decreases-read_second l = 100 * l.levels + 26

abbrev pub decreases-read_arguments : goal.decreases-read_arguments
decreases-read_arguments l = 100 * l.levels + 26

abbrev pub decreases-read_arguments-item : goal.decreases-read_arguments-item
decreases-read_arguments-item l = 100 * l.levels + 25

abbrev pub decreases-read_branch : goal.decreases-read_branch
decreases-read_branch l = 100 * l.levels + 26
