use Rattle.std.proofs.Common.{◌≡◌, drop}
use Rattle.cw_judge.specs.Judged.{communicators_judged}
use Rattle.cw_judge.proofs.text.judge_communicators.Given as goal

abbrev pub invariant-loop-list : goal.invariant-loop-list
invariant-loop-list l =
    communicators_judged l.by.named.now l.by.sites.now l.by.absolute.now (drop l.list-index l.lists) l.first
    ≡ communicators_judged l.by.named.now l.by.sites.now l.by.absolute.now l.lists l.initial.first
