use Rattle.std.proofs.Common.{[], ◌∷◌, ◌++◌, map, subst, ◌∙◌}
use Rattle.cw_view.specs.Reading.{preset_in}
use Rattle.cw_view.specs.Splitting.{payloads_left}
use Rattle.cw_link.specs.Contents.{records_of}
use Rattle.cw_link.specs.Filled.{HasFilled}
use Rattle.cw_link.specs.LinkedImage.{filled_word}
use Rattle.cw_link.proofs.Values.{next_value, skip_value, no_value}
use Rattle.cw_link.proofs.presets.fill_presets.Goals as goal

pub loop-payload-preserved-in-Some-read_preset : goal.loop-payload-preserved-in-Some-read_preset
loop-payload-preserved-in-Some-read_preset c =
    let f = filled_word c.args.segment c.args.homes.now in
    let all = map f (records_of preset_in 5 c.args.view.now) in
    let p = c.in-Some-read_preset.preset in
    record {
      count = c.fill_preset.ensures.count ∙ c.loop-payload.invariant.count;
      filled = λ ps h.
          let r = c.loop-payload.invariant.filled ps h in
          (r.0 ++ f p ∷ [], c.fill_preset.ensures.filled r.0 r.1, next_value preset_in f (payloads_left c.loop-payload.payload-iterator) (payloads_left c.next.new.self) c.in-Some.payload.now r.0 (ps ++ all) p c.in-Some.ensures.steps c.in-Some-read_preset.ensures r.2);
    }

pub loop-payload-preserved : goal.loop-payload-preserved
loop-payload-preserved c =
    let f = filled_word c.args.segment c.args.homes.now in
    let all = map f (records_of preset_in 5 c.args.view.now) in
    record {
      count = c.loop-payload.invariant.count;
      filled = λ ps h.
          let r = c.loop-payload.invariant.filled ps h in
          (r.0, r.1, skip_value preset_in f (payloads_left c.loop-payload.payload-iterator) (payloads_left c.next.new.self) c.in-Some.payload.now r.0 (ps ++ all) c.in-Some.ensures.steps c.in_default.ensures r.2);
    }

pub returns-clause-filled : goal.returns-clause-filled
returns-clause-filled c = λ ps h.
    let f = filled_word c.args.segment c.args.homes.now in
    let all = map f (records_of preset_in 5 c.args.view.now) in
    let r = c.loop-payload.invariant.filled ps h in
    subst (λ qs. HasFilled qs c.loop-payload.filled) (no_value preset_in f (payloads_left c.loop-payload.payload-iterator) (payloads_left c.next.new.self) [] r.0 (ps ++ all) c.in-None.ensures.steps.0 r.2) r.1
