-- The loop over elements.
use Rattle.std.proofs.Common.{◌≡◌, ◌∙◌, sym, refl, ap, arith, [], ◌∷◌, length, true, false}
use Rattle.std.proofs.lemmas.Result.{err_from_is_err_and}
use Rattle.cw_grammar.specs.Tokens.{behind}
use Rattle.cw_grammar.specs.Grammar.{a_pair, a_list, an_option, an_elem, a_presets, again, more_elems}
use Rattle.cw_grammar.specs.Reading.{read}
use Rattle.cw_parse_items.specs.Elems.{behind_elems}
use Rattle.cw_parse_items.proofs.Elems.{elem_goes_on, elem_fails, preset_ends, preset_fails, bare_preset_ends, bare_preset_fails, no_preset_ends, elem_shorter}
use Rattle.cw_parse_items.proofs.data.read_more_elems.Goals as goal

pub returns-in_err-presets : goal.returns-in_err-presets
returns-in_err-presets c =
    let p = err_from_is_err_and c.from_residual-in_err-presets.result c.from_residual-in_err-presets.ensures.1 in
    rw (p.1, p.2) (preset_fails c.in_err-presets.field-0.0 c.loop-after.elems _ (behind c.args.tokens.now c.loop-after.next) (behind c.args.tokens.now c.taken-after.result.1)
    (behind_elems (c.args.first ∷ []) (read 0 (a_pair (a_list an_elem) (an_option a_presets)) (again more_elems) (behind c.args.tokens.now c.args.at))) c.taken-after.ensures
    (sym c.next_is-in-loop-after.ensures ∙ c.if-not-next_is.true) c.in_err-presets.ensures c.loop-after.invariant)

pub returns-then-not-next_is : goal.returns-then-not-next_is
returns-then-not-next_is c = preset_ends c.loop-after.elems _ c.in_ok-presets.presets (behind c.args.tokens.now c.loop-after.next)
    (behind c.args.tokens.now c.taken-after.result.1) (behind c.args.tokens.now c.in_ok-presets.end)
    (behind_elems (c.args.first ∷ []) (read 0 (a_pair (a_list an_elem) (an_option a_presets)) (again more_elems) (behind c.args.tokens.now c.args.at))) c.taken-after.ensures
    (sym c.next_is-in-loop-after.ensures ∙ c.if-not-next_is.true) c.in_ok-presets.ensures c.loop-after.invariant

pub returns-in_err-elem : goal.returns-in_err-elem
returns-in_err-elem c =
    let p = err_from_is_err_and c.from_residual-in_err-elem.result c.from_residual-in_err-elem.ensures.1 in
    rw (p.1, p.2) (elem_fails c.in_err-elem.field-0.0 c.loop-after.elems _ (behind c.args.tokens.now c.loop-after.next) (behind c.args.tokens.now c.taken-after.result.1)
    (behind_elems (c.args.first ∷ []) (read 0 (a_pair (a_list an_elem) (an_option a_presets)) (again more_elems) (behind c.args.tokens.now c.args.at))) c.taken-after.ensures
    (sym c.next_is-in-loop-after.ensures ∙ c.if-not-next_is.false) c.in_err-elem.ensures c.loop-after.invariant)

pub loop-after-smaller : goal.loop-after-smaller
loop-after-smaller c = elem_shorter _ c.in_ok-elem.elem (behind c.args.tokens.now c.loop-after.next) (behind c.args.tokens.now c.taken-after.result.1)
    (behind c.args.tokens.now c.in_ok-elem.after) c.taken-after.ensures c.in_ok-elem.ensures

pub loop-after-preserved : goal.loop-after-preserved
loop-after-preserved c =
    rw c.in_ok-push-2.ensures.ok (elem_goes_on c.loop-after.elems _ c.in_ok-elem.elem (behind c.args.tokens.now c.loop-after.next)
    (behind c.args.tokens.now c.taken-after.result.1) (behind c.args.tokens.now c.in_ok-elem.after)
    (behind_elems (c.args.first ∷ []) (read 0 (a_pair (a_list an_elem) (an_option a_presets)) (again more_elems) (behind c.args.tokens.now c.args.at))) c.taken-after.ensures
    (sym c.next_is-in-loop-after.ensures ∙ c.if-not-next_is.false) c.in_ok-elem.ensures c.loop-after.invariant)

pub returns-in_err-presets-2 : goal.returns-in_err-presets-2
returns-in_err-presets-2 c =
    let p = err_from_is_err_and c.from_residual-in_err-presets-2.result c.from_residual-in_err-presets-2.ensures.1 in
    rw (p.1, p.2) (bare_preset_fails c.in_err-presets-2.field-0.0 c.loop-after.elems (behind c.args.tokens.now c.loop-after.next)
    (behind_elems (c.args.first ∷ []) (read 0 (a_pair (a_list an_elem) (an_option a_presets)) (again more_elems) (behind c.args.tokens.now c.args.at)))
    (sym c.next_is.ensures ∙ c.loop-after-test.false) (sym c.next_is-2.ensures ∙ c.if-next_is.true) c.in_err-presets-2.ensures c.loop-after.invariant)

pub returns-then-next_is : goal.returns-then-next_is
returns-then-next_is c = bare_preset_ends c.loop-after.elems c.in_ok-presets-2.presets (behind c.args.tokens.now c.loop-after.next)
    (behind c.args.tokens.now c.in_ok-presets-2.end) (behind_elems (c.args.first ∷ [])
    (read 0 (a_pair (a_list an_elem) (an_option a_presets)) (again more_elems) (behind c.args.tokens.now c.args.at))) (sym c.next_is.ensures ∙ c.loop-after-test.false)
    (sym c.next_is-2.ensures ∙ c.if-next_is.true) c.in_ok-presets-2.ensures c.loop-after.invariant

pub returns : goal.returns
returns c = no_preset_ends c.loop-after.elems (behind c.args.tokens.now c.loop-after.next)
    (behind_elems (c.args.first ∷ []) (read 0 (a_pair (a_list an_elem) (an_option a_presets)) (again more_elems) (behind c.args.tokens.now c.args.at)))
    (sym c.next_is.ensures ∙ c.loop-after-test.false) (sym c.next_is-2.ensures ∙ c.if-next_is.false) c.loop-after.invariant
