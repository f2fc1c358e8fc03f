use Rattle.std.proofs.Common.{◌++◌, subst}
use Rattle.std.specs.Prelude.{ℕ, List, codes}
use Rattle.cw_write.specs.Said.{Says}
use Rattle.cw_write.proofs.Said.{says}
use Rattle.cw_actions.proofs.trace.closing.close_no_item.Goals as goal

pub returns-clause-line : goal.returns-clause-line
returns-clause-line g c =
    let P : List ℕ → Type 0 = λ name. Says (g.S.Sink.held c.args.say.now) (g.S.Sink.held c.write_name.new.say) (g.S.Sink.faults c.args.say.now) (g.S.Sink.faults c.write_name.new.say) (codes "no item: " ++ name ++ codes "\n") in
    subst P c.watched_text.ensures (says _ _ _ _ _ _ c.write_name.ensures)
