use Rattle.std.proofs.Common.{◌≡◌, drop}
use Rattle.cw_judge.specs.Judged.{citems_judged}
use Rattle.cw_judge.proofs.text.judge_citems.Given as goal

abbrev pub invariant-loop-item : goal.invariant-loop-item
invariant-loop-item l =
    citems_judged l.by.named.now l.by.sites.now l.by.absolute.now (drop l.item-index l.items) l.first
    ≡ citems_judged l.by.named.now l.by.sites.now l.by.absolute.now l.items l.initial.first
