use Rattle.std.proofs.Common.{◌≡◌, List, None, subst}
use Rattle.std.specs.Prelude.{IfOk}
use Rattle.cw_scope.specs.declared.resolve.Named.{Named}
use Rattle.cw_items.specs.declared.thing.Thing.{Thing}
use Rattle.cw_judge.specs.Judged.{text_judged}
use Rattle.cw_judge.proofs.text.judge_text.Goals as goal

pub returns : goal.returns
returns c =
    subst (λ (things : List Thing). IfOk c.judge_stored.result (λ fault. fault ≡ text_judged c.args.text.now things None)) c.things.ensures
    (subst (λ (n : Named). IfOk c.judge_stored.result (λ fault. fault ≡ text_judged n c.things.result.now None)) c.named.ensures c.judge_stored.ensures)
