use Rattle.std.proofs.Common.{[], inl, inr, ap, arith, refl}
use Rattle.cw_unit.specs.declared.layout.Map.{Map}
use Rattle.cw_big.specs.LargeProgram.{large_program}
use Rattle.cw_correct.specs.Making.{line_with, program_line}
use Rattle.cw_actions.proofs.Going.Library.{named_so, can_load}
use Rattle.cw_actions.proofs.Going.Called.{runs_as}
use Rattle.cw_actions.proofs.Making.Goes.{of_run, of_link, takes, keeps, idle}
use Rattle.cw_actions.proofs.big.running.big.Goals as goal

pub link_segments-requires : goal.link_segments-requires
link_segments-requires g c =
    let made = c.in-Ok.ensures in
    record { are = made.segments; compiled = c.compiled_units.ensures (large_program c.args.copies) c.in-Ok.segments.units made.units; few = omega (arith, made.all, c.requires.few); within = c.requires.limits }

pub load_and_run-status-requires : goal.load_and_run-status-requires
load_and_run-status-requires g c =
    let linked = c.in-Ok-link_segments.ensures in
    can_load c.linked_units.ensures.code c.in-Ok.segments.units c.args.limits.now c.requires.limits linked.links c.in-Ok-link_segments.linked.image linked.image

pub returns-in-Ok-link_segments : goal.returns-in-Ok-link_segments
returns-in-Ok-link_segments g c names files store_faults absences is_number =
    let us = c.in-Ok.segments.units in
    let made = c.in-Ok.ensures in
    let linked = c.in-Ok-link_segments.ensures in
    let line = line_with c.args.copies c.in-Ok-link_segments.linked.map.end in
    let runs = runs_as line (program_line c.args.copies us) _ _ _ _ _ _ (ap (λ (m : Map). line_with c.args.copies m.end) linked.map) linked.image (c.load_and_run-status.ensures line c.line_with-text.ensures) in
    keeps c.args.copies _ _ names _ _ is_number refl refl refl c.as_slice.result.now _ _ _ _ c.close.ensures.same (of_run _ _ _ _ _ _ runs) c.close.ensures.line c.close.ensures.ended
    c.promises.ensures.keeps c.requires.some c.requires.few c.requires.limits
    (inr (
      us,
      record { all = takes c.args.copies c.short_texts.ensures c.requires.few us made.units made.all; counts = (refl, refl) },
      inr (record { links = linked.links; named = named_so us c.args.limits.now _ _ linked.image c.as_slice.ensures; runs = runs }),
    ))

pub returns-in-Ok : goal.returns-in-Ok
returns-in-Ok g c names files store_faults absences is_number =
    let us = c.in-Ok.segments.units in
    let made = c.in-Ok.ensures in
    let closing = c.close-in-Err-link_segments.ensures in
    keeps c.args.copies _ _ names _ _ is_number refl refl refl [] _ _ _ _ closing.same (of_link _ _ _ c.in-Err-link_segments.ensures) closing.line closing.ended c.promises.ensures.keeps c.requires.some c.requires.few c.requires.limits
    (inr (us, record { all = takes c.args.copies c.short_texts.ensures c.requires.few us made.units made.all; counts = (refl, refl) }, inl (record { unlinked = c.in-Err-link_segments.ensures; same = refl })))

pub returns : goal.returns
returns g c names files store_faults absences is_number = idle c.args.copies _ _ names _ _ _ is_number _ c.close-in-Err.ensures.same c.close-in-Err.ensures.line c.promises.ensures.idle
