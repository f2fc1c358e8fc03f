use Rattle.std.proofs.Common.{◌≡◌, take, ◌+◌, ◌∙◌, sym, subst}
use Rattle.std.proofs.lemmas.List.{take_all}
use Rattle.cw_watch.specs.Watching.{MeanWords}
use Rattle.cw_watch.proofs.Means.{means_more, all_within, is_first_none}
use Rattle.cw_watch.proofs.finding.watched_words.Goals as goal

pub loop-k-preserved : goal.loop-k-preserved
loop-k-preserved c =
    subst (MeanWords c.args.lines.now c.args.area (take (c.loop-k.k + 1) c.args.watched.now)) (sym c.in_ok-push.ensures.ok)
    (means_more c.args.lines.now c.args.area c.args.watched.now c.loop-k.k c.index-watched-k.result c.loop-k.words _ c.loop-k-test.true c.index-watched-k.is c.loop-k.invariant
    (c.in_ok-text.ensures ∙ c.as_slice.ensures) (sym c.in-Some.ensures))

pub returns-in_default : goal.returns-in_default
returns-in_default c = record {
  answers = (c.loop-k.k, is_first_none c.args.lines.now c.args.area c.args.watched.now c.loop-k.k c.index-watched-k.result c.loop-k.words c.loop-k-test.true c.index-watched-k.is c.loop-k.invariant (sym c.in_default.ensures), c.min.ensures);
  within = tt;
}

pub returns : goal.returns
returns c =
    let whole : take c.loop-k.k c.args.watched.now ≡ c.args.watched.now = take_all c.loop-k.k c.args.watched.now c.loop-k-test.false in
    let means = subst (λ ws. MeanWords c.args.lines.now c.args.area ws c.loop-k.words) whole c.loop-k.invariant in
    record { answers = means; within = all_within c.args.lines.now c.args.area c.args.watched.now c.loop-k.words means }
