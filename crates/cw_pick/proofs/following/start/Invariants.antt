use Rattle.std.proofs.Common.{take}
use Rattle.std.specs.List.{list_any}
use Rattle.cw_pick.specs.Working.{is_asked, Marks, Keeps}
use Rattle.cw_pick.proofs.following.start.Given as goal

abbrev pub invariant-loop-offer : goal.invariant-loop-offer
invariant-loop-offer l = record {
  keeps : Keeps l.index l.state.asked.items l.state.work;
  marks : Marks (λ k. list_any (λ o. is_asked l.index o.lists k) (take l.offer-index l.given)) l.initial.state.work l.state.work;
}
