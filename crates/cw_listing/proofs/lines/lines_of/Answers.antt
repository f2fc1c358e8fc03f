use Rattle.std.proofs.Common.{◌+◌, sym, subst}
use Rattle.cw_listing.specs.Lines.{AreLinesBetween}
use Rattle.cw_listing.proofs.Following.{lines_and_one}
use Rattle.cw_listing.proofs.lines.lines_of.Goals as goal

pub loop-place-preserved : goal.loop-place-preserved
loop-place-preserved c =
    let told = lines_and_one c.args.code.now c.args.words.now.among 0 c.loop-place.place c.loop-place.lines c.line_at-line.result c.loop-place.invariant.told c.line_at-line.ensures.line in
    record { within = c.line_at-line.ensures.fits; told = subst (λ ls. AreLinesBetween c.args.code.now c.args.words.now.among 0 ls (c.loop-place.place + c.line_at-line.result.size)) (sym c.in_ok-push.ensures.ok) told }
