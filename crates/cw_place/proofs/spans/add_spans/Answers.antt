use Rattle.std.proofs.Common.{◌++◌, sym, ap, subst, ◌∙◌, append-nil}
use Rattle.std.specs.List.{All}
use Rattle.cw_place.specs.Sweep.{IsSpan}
use Rattle.cw_place.proofs.SameFits.{next_spans, more_spans}
use Rattle.cw_place.proofs.spans.add_spans.Goals as goal
use Rattle.cw_place.proofs.spans.add_spans.Goals.{in-Some+in_ok-push, in_default}

pub loop-k-preserved : goal.loop-k-preserved
loop-k-preserved c =
    let next = next_spans c.args.spans.now c.loop-k.spans c.args.families.now c.loop-k.k _ c.loop-k-test.true c.loop-k.invariant.added in
    elim c.match-span.branch [
      | in-Some+in_ok-push w ↦
          record {
            added = w.spans-is ∙ w.in_ok-push.ensures.ok ∙ ap (λ ss. c.loop-k.spans ++ ss) (sym w.in-Some.ensures.0) ∙ next;
            each = subst (All IsSpan) (sym (w.spans-is ∙ w.in_ok-push.ensures.ok)) (more_spans c.loop-k.spans w.in-Some.span c.loop-k.invariant.each w.in-Some.ensures.1);
          }
      | in_default w ↦
          record {
            added = w.spans-is ∙ sym (append-nil c.loop-k.spans) ∙ ap (λ ss. c.loop-k.spans ++ ss) (sym w.in_default.ensures) ∙ next;
            each = subst (All IsSpan) (sym w.spans-is) c.loop-k.invariant.each;
          }
    ]
