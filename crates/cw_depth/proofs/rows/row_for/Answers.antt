use Rattle.std.proofs.Common.{◌≡◌, ap, ◌∙◌, sym, List}
use Rattle.std.specs.Prelude.{slice_get}
use Rattle.std.proofs.lemmas.Option.{slice_get-get_or}
use Rattle.cw_depth.specs.declared.mention.Mention.{Mention}
use Rattle.cw_depth.specs.declared.mention.Mention.TheVariants.{Own}
use Rattle.cw_depth.specs.CallGraph.{mentions_of}
use Rattle.cw_depth.proofs.Adding.{row_more, extends_then}
use Rattle.cw_depth.proofs.rows.row_for.Goals as goal

pub loop-mention-preserved : goal.loop-mention-preserved
loop-mention-preserved c =
    let us = c.args.units.now in
    let a = c.args.node in
    let i = c.loop-mention.mention-index in
    let items = c.as_slice-mention-items.result.now in
    let adds = c.in_ok-add_mention.ensures in
    let are : items ≡ mentions_of us a = c.as_slice-mention-items.ensures ∙ c.in_ok-mentions.ensures in
    let at' = slice_get-get_or items i (Own 0) c.loop-mention-test.true in
    record {
      row = row_more us c.loop-mention.heads c.add_mention.new.heads a _ c.loop-mention.row _ i (sym (ap (λ (xs : List Mention). slice_get xs i) are) ∙ at') c.loop-mention.invariant.row adds;
      extends = extends_then c.args.heads.now c.loop-mention.heads c.add_mention.new.heads c.loop-mention.invariant.extends adds.extends;
    }
