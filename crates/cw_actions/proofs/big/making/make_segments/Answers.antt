use Rattle.std.proofs.Common.{◌≡◌, ◌+◌, ◌==◌, ◌++◌, ◌∷◌, suc, false, length, [], Result, Ok, Err, sym, subst, ap, ◌∙◌, arith}
use Rattle.std.specs.Result.{OnOk, is_err}
use Rattle.cw_big.specs.LargeProgram.{large_text, first_texts}
use Rattle.cw_files.specs.Texts.{HasUnit}
use Rattle.cw_files.specs.Reading.{HaveValues}
use Rattle.cw_files.proofs.Taking.{one_more}
use Rattle.cw_files.proofs.Next.{segments_more, no_segments}
use Rattle.cw_say.specs.declared.status.Status.{Status}
use Rattle.cw_actions.proofs.Making.Texts.{have-more, count}
use Rattle.cw_actions.proofs.big.making.make_segments.Goals as goal

pub loop-before-init : goal.loop-before-init
loop-before-init c = record {
  units = subst (λ us. HaveValues HasUnit [] us) (sym c.new-segments.ensures.units) tt;
  so_far = ap length c.new-segments.ensures.units;
  segments = no_segments c.new-segments.result c.new-segments.ensures;
}

on_ok : {P : Type 0} (r : Result (Unit {0}) Status) → is_err r ≡ false → OnOk r P → P
on_ok (Ok x) e p = p
on_ok (Err s) e p = absurd (cc e)

pub loop-before-preserved : goal.loop-before-preserved
loop-before-preserved c =
    let so_far = c.loop-before.invariant in
    let copies = c.args.copies in
    let n = c.loop-before.before in
    let next : n + 1 ≡ suc n = omega (arith) in
    let segment = c.in_ok-segment.segment in
    let ok = sym c.is_err.ensures.value ∙ c.if-is_err.false in
    let units = on_ok c.push.result ok c.push.ensures.units in
    let unit = subst (λ k. HasUnit (large_text k (k == copies)) segment.unit) next c.in_ok-segment.ensures.unit in
    let more = have-more (first_texts copies n) c.loop-before.segments.units (large_text (suc n) (suc n == copies)) segment.unit (so_far.so_far ∙ sym (count copies n)) so_far.units unit in
    record {
      units = subst (λ us. HaveValues HasUnit (first_texts copies (n + 1)) us) (sym units) (subst (λ k. HaveValues HasUnit (first_texts copies k) (c.loop-before.segments.units ++ segment.unit ∷ [])) (sym next) more);
      so_far = one_more c.loop-before.segments.units c.push.new.self.units segment.unit n units so_far.so_far;
      segments = segments_more c.loop-before.segments c.push.new.self segment.unit segment.made so_far.segments c.in_ok-segment.ensures.made units
          (on_ok c.push.result ok c.push.ensures.layouts) (on_ok c.push.result ok c.push.ensures.objects);
    }
