use Rattle.std.proofs.Common.{ℕ, max, ap, ◌∙◌}
use Rattle.std.proofs.lemmas.Result.{IfOk-weaker}
use Rattle.cw_items.specs.Families.{Known, count_in}
use Rattle.cw_items.proofs.Counting.{site_added}
use Rattle.cw_items.proofs.families.Known.with_site.Goals as goal

pub returns : goal.returns
returns c =
    let extent = c.max-extent.ensures ∙ ap (λ (n : ℕ). max n c.end_of-end.result) c.of.ensures
    ∙ ap (λ (k : Known). max (count_in k.extents c.args.site.now.root) c.end_of-end.result) c.self.view_is in
    IfOk-weaker c.with_place.result _ _
    (λ placed h. site_added c.args.self c.count.new.self placed c.args.thing.now c.args.site.now c.end_of-end.result c.growth.result c.area_with-words.result c.max-extent.result
    c.end_of-end.ensures c.growth.ensures c.area_with-words.ensures extent c.in_ok-count.ensures h)
    c.with_place.ensures
