-- The loop over places.
use Rattle.std.proofs.Common.{◌≡◌, ℕ, ◌+◌, ◌*◌, ◌≤◌, cond, length}
use Rattle.cw_grammar.specs.Tokens.{behind}
use Rattle.cw_grammar.specs.Grammar.{a_from, a_position, a_list, a_place, again, places}
use Rattle.cw_grammar.specs.Reading.{read}
use Rattle.cw_grammar.specs.Reading.{applied}
use Rattle.cw_parse_items.proofs.Places.{Inv}
use Rattle.cw_parse_items.proofs.data.read_places.Given as goal

abbrev pub invariant-loop-behind_place : goal.invariant-loop-behind_place
invariant-loop-behind_place l = Inv l.behind_place l.depth l.found l.before l.fn.tokens l.next (applied l.fn.before (read 0 (a_from a_position (a_list a_place)) (again places) (behind l.fn.tokens l.fn.at)))

abbrev pub decreases-loop-behind_place : goal.decreases-loop-behind_place
decreases-loop-behind_place l = 2 * length (behind l.fn.tokens l.next) + cond l.behind_place 0 1
