use Rattle.std.proofs.Common.{◌≡◌, ◌<◌, ◌∙◌, [], length, sym, arith}
use Rattle.std.proofs.lemmas.Option.{none-some, slice_get-get_or}
use Rattle.cw_comm.proofs.Naming.{next_name}
use Rattle.cw_comm.proofs.agreement.in_order.Goals as goal
use Rattle.cw_comm.proofs.agreement.in_order.Goals.{in-Some+in_ok-push, in_default}

pub loop-n-preserved : goal.loop-n-preserved
loop-n-preserved c =
    let keys = c.args.names.now.keys in
    elim c.match-name_at.branch [
      | in-Some+in_ok-push w ↦ rw (w.list-is, w.in_ok-push.ensures.ok) (next_name keys c.loop-n.list c.loop-n.n w.in-Some.name (sym w.in-Some.is ∙ c.name_at.ensures) c.loop-n.invariant)
      | in_default w ↦
          let lt : c.loop-n.n < length keys = omega (arith, c.loop-n-test.true, c.len-n-end.ensures.len) in
          absurd (none-some _ (sym w.in_default.is ∙ c.name_at.ensures ∙ slice_get-get_or keys c.loop-n.n [] lt))
    ]
