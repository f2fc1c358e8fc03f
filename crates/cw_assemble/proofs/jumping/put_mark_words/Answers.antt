use Rattle.std.proofs.Common.{ap, refl, ◌∙◌}
use Rattle.cw_tmpl.specs.declared.pieces.Coded.TheVariants as coded
use Rattle.cw_tmpl.specs.Names.{own, mark_place}
use Rattle.cw_tmpl.specs.Templates.{mark_words}
use Rattle.cw_assemble.proofs.Growing.{all_comes, next_word, last_came}
use Rattle.cw_assemble.proofs.jumping.put_mark_words.Goals as goal

pub loop-mark-init : goal.loop-mark-init
loop-mark-init c = all_comes c.args.code.now (mark_words c.args.names.now c.args.marks.now)

pub loop-mark-preserved : goal.loop-mark-preserved
loop-mark-preserved c =
    let names = c.args.names.now in
    next_word (mark_words names) c.args.marks.now (λ m. coded.Word (own (mark_place names m))) c.loop-mark.mark-index _ (coded.Word c.own.result) (λ m rest. refl) c.loop-mark-test.true
    (ap coded.Word (c.own.ensures ∙ ap own (c.from.ensures ∙ c.mark.ensures))) c.loop-mark.invariant c.put_all.ensures

pub returns : goal.returns
returns c = last_came (mark_words c.args.names.now) c.args.marks.now c.loop-mark.mark-index c.loop-mark-test.false refl c.loop-mark.invariant
