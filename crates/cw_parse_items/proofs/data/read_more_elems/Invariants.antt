-- The loop over elements.
use Rattle.std.proofs.Common.{◌≡◌, ℕ, [], ◌∷◌, length}
use Rattle.cw_grammar.specs.Tokens.{behind}
use Rattle.cw_grammar.specs.Grammar.{a_pair, a_list, an_option, an_elem, a_presets, again, more_elems}
use Rattle.cw_grammar.specs.Reading.{read}
use Rattle.cw_parse_items.specs.Elems.{behind_elems}
use Rattle.cw_parse_items.proofs.data.read_more_elems.Given as goal

abbrev pub invariant-loop-after : goal.invariant-loop-after
invariant-loop-after l = behind_elems l.elems (read 0 (a_pair (a_list an_elem) (an_option a_presets)) (again more_elems) (behind l.fn.tokens l.next)) ≡ behind_elems
    (l.fn.first ∷ []) (read 0 (a_pair (a_list an_elem) (an_option a_presets)) (again more_elems) (behind l.fn.tokens l.fn.at))

abbrev pub decreases-loop-after : goal.decreases-loop-after
decreases-loop-after l = length (behind l.fn.tokens l.next)
