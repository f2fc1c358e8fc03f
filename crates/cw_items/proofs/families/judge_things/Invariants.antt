use Rattle.std.proofs.Common.{◌≡◌, ◌++◌, drop}
use Rattle.cw_items.specs.Families.{all_known, things_judged}
use Rattle.cw_items.proofs.families.judge_things.Given as goal

abbrev pub invariant-loop-thing : goal.invariant-loop-thing
invariant-loop-thing l = record {
  known : all_known l.known (drop l.thing-index l.things) ≡ all_known l.initial.known l.things;
  judged : things_judged l.known (drop l.thing-index l.things) l.first ≡ things_judged l.initial.known l.things l.initial.first;
}
