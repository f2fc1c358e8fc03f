-- The loop over places.
use Rattle.std.proofs.Common.{◌≡◌, ◌∙◌, sym, refl, ap, arith, ◌+◌, ◌*◌, length, cond, true, false}
use Rattle.std.proofs.lemmas.Result.{err_from_is_err_and}
use Rattle.cw_grammar.specs.Tokens.{behind}
use Rattle.cw_grammar.specs.Grammar.{a_from, a_position, a_list, a_place, again, places}
use Rattle.cw_grammar.specs.Reading.{read}
use Rattle.cw_grammar.specs.Reading.{applied}
use Rattle.cw_parse_items.proofs.Places.{open_step, value_step, void_step, comma_step, close_step, last_step, value_step_fails, close_step_fails, deeper_fits, value_smaller}
use Rattle.cw_parse_items.proofs.data.read_places.Goals as goal

pub overflow_add-depth : goal.overflow_add-depth
overflow_add-depth c = let r = c.taken-after.type_inv in omega (
  arith,
  r,
  deeper_fits c.args.tokens.now c.loop-behind_place.depth c.loop-behind_place.next
      c.taken-after.result.1 _ (applied c.args.before (read 0 (a_from a_position (a_list a_place)) (again places) (behind c.args.tokens.now c.args.at))) c.taken-after.ensures
      c.loop-behind_place.invariant.1,
)

pub loop-behind_place-preserved-then-next_is : goal.loop-behind_place-preserved-then-next_is
loop-behind_place-preserved-then-next_is c =
    rw c.position-before.ensures (open_step c.loop-behind_place.behind_place c.loop-behind_place.depth c.loop-behind_place.found c.loop-behind_place.before _ c.args.tokens.now
    c.loop-behind_place.next c.taken-after.result.1 (applied c.args.before (read 0 (a_from a_position (a_list a_place)) (again places) (behind c.args.tokens.now c.args.at)))
    c.if-not-behind_place.true c.taken-after.ensures c.loop-behind_place.invariant)

pub returns-in_err-value : goal.returns-in_err-value
returns-in_err-value c =
    let p = err_from_is_err_and c.from_residual.result c.from_residual.ensures.1 in
    rw (p.1, p.2) (value_step_fails c.in_err-value.field-0.0 c.loop-behind_place.behind_place c.loop-behind_place.depth c.loop-behind_place.found c.loop-behind_place.before c.args.tokens.now c.loop-behind_place.next (applied c.args.before (read 0 (a_from a_position (a_list a_place)) (again places) (behind c.args.tokens.now c.args.at))) c.if-not-behind_place.true (sym c.next_is.ensures ∙ c.if-next_is.false) (sym c.is_value.ensures ∙ c.if-is_value.true) c.in_err-value.ensures c.loop-behind_place.invariant)

pub loop-behind_place-preserved-then-is_value : goal.loop-behind_place-preserved-then-is_value
loop-behind_place-preserved-then-is_value c =
    rw c.in_ok-push.ensures.ok (value_step c.loop-behind_place.behind_place c.loop-behind_place.depth c.loop-behind_place.found c.loop-behind_place.before c.in_ok-value.value c.args.tokens.now c.loop-behind_place.next c.in_ok-value.after (applied c.args.before (read 0 (a_from a_position (a_list a_place)) (again places) (behind c.args.tokens.now c.args.at))) c.if-not-behind_place.true (sym c.next_is.ensures ∙ c.if-next_is.false) (sym c.is_value.ensures ∙ c.if-is_value.true) c.in_ok-value.ensures c.loop-behind_place.invariant)

pub loop-behind_place-smaller-then-is_value : goal.loop-behind_place-smaller-then-is_value
loop-behind_place-smaller-then-is_value c =
    value_smaller c.loop-behind_place.behind_place (behind c.args.tokens.now c.loop-behind_place.next) (behind c.args.tokens.now c.in_ok-value.after) c.in_ok-value.value c.in_ok-value.ensures

pub loop-behind_place-preserved-else-is_value : goal.loop-behind_place-preserved-else-is_value
loop-behind_place-preserved-else-is_value c =
    rw c.in_ok-push-2.ensures.ok (void_step c.loop-behind_place.behind_place c.loop-behind_place.depth c.loop-behind_place.found c.loop-behind_place.before c.args.tokens.now c.loop-behind_place.next (applied c.args.before (read 0 (a_from a_position (a_list a_place)) (again places) (behind c.args.tokens.now c.args.at))) c.if-not-behind_place.true (sym c.next_is.ensures ∙ c.if-next_is.false) (sym c.is_value.ensures ∙ c.if-is_value.false) c.loop-behind_place.invariant)

pub loop-behind_place-preserved-then-next_is-2 : goal.loop-behind_place-preserved-then-next_is-2
loop-behind_place-preserved-then-next_is-2 c =
    rw c.position-before-then-next_is-2.ensures (comma_step c.loop-behind_place.behind_place c.loop-behind_place.depth c.loop-behind_place.found c.loop-behind_place.before _
    c.args.tokens.now c.loop-behind_place.next c.taken-after-then-next_is-2.result.1
    (applied c.args.before (read 0 (a_from a_position (a_list a_place)) (again places) (behind c.args.tokens.now c.args.at))) c.if-not-behind_place.false
    c.taken-after-then-next_is-2.ensures c.loop-behind_place.invariant)

pub returns-then-depth-eq0 : goal.returns-then-depth-eq0
returns-then-depth-eq0 c = last_step c.loop-behind_place.behind_place c.loop-behind_place.depth c.loop-behind_place.found c.loop-behind_place.before c.args.tokens.now c.loop-behind_place.next (applied c.args.before (read 0 (a_from a_position (a_list a_place)) (again places) (behind c.args.tokens.now c.args.at))) c.if-not-behind_place.false c.if-depth-eq0.true (sym c.next_is-else-not-behind_place.ensures ∙ c.if-next_is-2.false) c.loop-behind_place.invariant

pub returns-in_err-after : goal.returns-in_err-after
returns-in_err-after c =
    let p = err_from_is_err_and c.from_residual-in_err-after.result c.from_residual-in_err-after.ensures.1 in
    rw (p.1, p.2) (close_step_fails c.in_err-after.field-0.0 c.loop-behind_place.behind_place c.loop-behind_place.depth c.loop-behind_place.found c.loop-behind_place.before c.args.tokens.now c.loop-behind_place.next (applied c.args.before (read 0 (a_from a_position (a_list a_place)) (again places) (behind c.args.tokens.now c.args.at))) c.if-not-behind_place.false c.if-depth-eq0.false (sym c.next_is-else-not-behind_place.ensures ∙ c.if-next_is-2.false) c.in_err-after.ensures c.loop-behind_place.invariant)

pub loop-behind_place-preserved : goal.loop-behind_place-preserved
loop-behind_place-preserved c =
    close_step c.loop-behind_place.behind_place c.loop-behind_place.depth c.loop-behind_place.found c.loop-behind_place.before _ c.args.tokens.now c.loop-behind_place.next c.in_ok-after.after (applied c.args.before (read 0 (a_from a_position (a_list a_place)) (again places) (behind c.args.tokens.now c.args.at))) c.if-not-behind_place.false c.if-depth-eq0.false (sym c.next_is-else-not-behind_place.ensures ∙ c.if-next_is-2.false) c.in_ok-after.ensures c.loop-behind_place.invariant
