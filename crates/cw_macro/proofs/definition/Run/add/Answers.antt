use Rattle.std.proofs.Common.{length, ap}
use Rattle.cw_macro.proofs.Pieces.{on_ok, added_parts, added_run}
use Rattle.cw_macro.proofs.definition.Run.add.Goals as goal

pub returns-in_ok-push-in-None-clause-added : goal.returns-in_ok-push-in-None-clause-added
returns-in_ok-push-in-None-clause-added c =
    let old = c.args.self.now in
    on_ok c.push-in-None-2.result (λ p. added_parts old.numbers c.push-in-None.new.self old.picks c.push-in-None-2.new.self c.args.number _ c.in_ok-push-in-None.ensures.ok (ap length c.as_slice-place.ensures) p c.requires) c.push-in-None-2.ensures.ok

pub returns-in_ok-push-in-None-clause-is_run : goal.returns-in_ok-push-in-None-clause-is_run
returns-in_ok-push-in-None-clause-is_run c =
    let old = c.args.self.now in
    on_ok c.push-in-None-2.result (λ p. added_run old.numbers c.push-in-None.new.self old.picks c.push-in-None-2.new.self c.args.number _ c.in_ok-push-in-None.ensures.ok (ap length c.as_slice-place.ensures) p c.requires) c.push-in-None-2.ensures.ok
