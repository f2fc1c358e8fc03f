-- Calls open a level, or go to a smaller rule. Between a function and what it reads in a row stands what reads one.
use Rattle.std.proofs.Common.{◌+◌, ◌*◌}
use Rattle.cw_parse.proofs.statement.+statement_reader.Given as goal

abbrev pub decreases-read_else_rest : goal.decreases-read_else_rest
decreases-read_else_rest l = 100 * l.levels + 0

abbrev pub decreases-read_if_rest : goal.decreases-read_if_rest
decreases-read_if_rest l = 100 * l.levels + 0

abbrev pub decreases-read_for_rest : goal.decreases-read_for_rest
decreases-read_for_rest l = 100 * l.levels + 0

abbrev pub decreases-read_block_rest : goal.decreases-read_block_rest
decreases-read_block_rest l = 100 * l.levels + 0

abbrev pub decreases-read_proc_body : goal.decreases-read_proc_body
decreases-read_proc_body l = 100 * l.levels + 0

abbrev pub decreases-read_block : goal.decreases-read_block
decreases-read_block l = 100 * l.levels + 1

abbrev pub decreases-read_second : goal.decreases-read_second
decreases-read_second l = 100 * l.levels + 1

abbrev pub decreases-read_if : goal.decreases-read_if
decreases-read_if l = 100 * l.levels + 1

abbrev pub decreases-read_for : goal.decreases-read_for
decreases-read_for l = 100 * l.levels + 1

abbrev pub decreases-read_unnamed : goal.decreases-read_unnamed
decreases-read_unnamed l = 100 * l.levels + 2

abbrev pub decreases-read_simple : goal.decreases-read_simple
decreases-read_simple l = 100 * l.levels + 3

abbrev pub decreases-read_labelled_simple : goal.decreases-read_labelled_simple
decreases-read_labelled_simple l = 100 * l.levels + 4

abbrev pub decreases-read_form : goal.decreases-read_form
decreases-read_form l = 100 * l.levels + 4

abbrev pub decreases-read_stmt : goal.decreases-read_stmt
decreases-read_stmt l = 100 * l.levels + 5

abbrev pub decreases-read_stmts : goal.decreases-read_stmts
decreases-read_stmts l = 100 * l.levels + 7

abbrev pub decreases-read_stmts-item : goal.decreases-read_stmts-item
decreases-read_stmts-item l = 100 * l.levels + 6

abbrev pub decreases-read_proc_behind : goal.decreases-read_proc_behind
decreases-read_proc_behind l = 100 * l.levels + 3

abbrev pub decreases-read_outer_decl : goal.decreases-read_outer_decl
decreases-read_outer_decl l = 100 * l.levels + 4

abbrev pub decreases-read_decl : goal.decreases-read_decl
decreases-read_decl l = 100 * l.levels + 5

abbrev pub decreases-read_decls : goal.decreases-read_decls
decreases-read_decls l = 100 * l.levels + 7

abbrev pub decreases-read_decls-item : goal.decreases-read_decls-item
decreases-read_decls-item l = 100 * l.levels + 6

abbrev pub decreases-read_branches : goal.decreases-read_branches
decreases-read_branches l = 100 * l.levels + 6

abbrev pub decreases-read_controlled : goal.decreases-read_controlled
decreases-read_controlled l = 100 * l.levels + 7

abbrev pub decreases-read_params_and_body : goal.decreases-read_params_and_body
decreases-read_params_and_body l = 100 * l.levels + 2
