use Rattle.std.proofs.Common.{ap, sym, ◌∙◌, Bool}
use Rattle.cw_comm.specs.Agreement.{Name}
use Rattle.cw_pick.specs.declared.offer.Offer.{Offer}
use Rattle.cw_pick.specs.Picking.{is_in, is_among}
use Rattle.cw_pick.specs.Working.{definers}
use Rattle.std.specs.Prelude.{List, not, ◌&&◌, ◌||◌, nat_eq}
use Rattle.cw_pick.proofs.Indexing.{member_entered, all_entered}
use Rattle.cw_pick.proofs.index.indexed.Goals as goal

pub loop-k-preserved : goal.loop-k-preserved
loop-k-preserved c = record {
  lists = c.in_ok-enter_all.ensures.lists;
  entered = λ name j.
      let s : Bool = is_among c.args.settled.now.keys name in
      let old : Bool = is_in (definers c.loop-k.index name) j in
      member_entered c.args.members.now c.loop-k.k j c.index-members-k.result name s old _ c.loop-k-test.true c.index-members-k.is (c.loop-k.invariant.entered name j)
      (c.in_ok-enter_all.ensures.entered name j ∙ ap (λ (ns : List Name). old || ((is_among ns name && not s) && nat_eq j c.loop-k.k)) (c.as_slice.ensures ∙ ap (λ (o : Offer). o.defines) (sym c.index-members-k.is)));
}

pub returns-clause-entered : goal.returns-clause-entered
returns-clause-entered c = λ name j. all_entered c.args.members.now c.loop-k.k j name (is_among c.args.settled.now.keys name) _ c.loop-k-test.false (c.loop-k.invariant.entered name j)
