use Rattle.std.proofs.Common.{List, ℕ, map, Ok, refl, sym, ◌∙◌, subst}
use Rattle.std.specs.Prelude.{All, ◌≤◌}
use Rattle.cw_view.specs.ObjectFormat.{IsObject}
use Rattle.cw_link.specs.LinkedImage.{linked_size}
use Rattle.cw_object.specs.ObjectContents.{contents_in}
use Rattle.cw_watch.specs.declared.fault.WatchFault.TheVariants as faults
use Rattle.cw_build.specs.Linking.{map_text}
use Rattle.cw_actions.proofs.Going.Library.{named_so, can_load}
use Rattle.cw_actions.proofs.Tracing.Called.{watches_as, means_as, means_fault, closed_fault, closed_item, closed_run}
use Rattle.cw_actions.proofs.trace.tracing.trace_linked.Goals as goal

pub watch_for-requires-clause-opened : goal.watch_for-requires-clause-opened
watch_for-requires-clause-opened g c =
    let P : List (List ℕ) → Type 0 = λ objects. All IsObject objects in
    subst P (sym (c.as_slice.ensures ∙ c.requires.segments.objects)) (c.separate_objects.ensures.opened c.args.segments.now.units c.requires.compiled)

pub watch_for-requires-clause-short : goal.watch_for-requires-clause-short
watch_for-requires-clause-short g c =
    let P : List (List ℕ) → Type 0 = λ objects. linked_size (map contents_in objects) ≤ 65536 in
    subst P (sym (c.as_slice.ensures ∙ c.requires.segments.objects)) ((c.separate_objects.ensures.linked c.args.segments.now.units c.args.limits.now c.requires.compiled).1 c.requires.linked.links).code

pub storage_text-text-requires : goal.storage_text-text-requires
storage_text-text-requires g c = (c.requires.segments, (c.requires.linked, c.requires.limits))

pub load_and_watch-status-requires-clause-image : goal.load_and_watch-status-requires-clause-image
load_and_watch-status-requires-clause-image g c =
    can_load c.linked_units.ensures.code c.args.segments.now.units c.args.limits.now c.requires.limits c.requires.linked.links c.args.linked.now.image c.requires.linked.image

pub returns-in-Ok : goal.returns-in-Ok
returns-in-Ok g c told told_after faults_before faults_after absences absences_after some few all counts stay =
    let us = c.args.segments.now.units in
    let linked = c.requires.linked in
    let listing = map_text us c.args.limits.now in
    closed_run c.args.stop.now _ _ c.args.names.now _ _ _ _ c.requires.limits some few stay c.traces.ensures.run us c.in-Ok.watch c.as_slice-in-Ok.result.now _ _ c.close.ensures.same (named_so us c.args.limits.now _ _ linked.image c.as_slice-in-Ok.ensures)
    (record { all = all; counts = counts }) linked.links (means_as us c.args.limits.now c.args.stop.now _ _ (Ok c.in-Ok.watch) (c.as_slice.ensures ∙ c.requires.segments.objects) linked.map c.in-Ok.ensures.answers) c.in-Ok.ensures.once c.in-Ok.ensures.within
    (watches_as listing _ _ _ _ _ _ _ _ refl linked.image (c.load_and_watch-status.ensures listing c.storage_text-text.ensures)) c.close.ensures.line c.close.ensures.ended

pub returns-in-Err-NoPlace : goal.returns-in-Err-NoPlace
returns-in-Err-NoPlace g c told told_after faults_before faults_after absences absences_after some few all counts stay =
    let us = c.args.segments.now.units in
    let linked = c.requires.linked in
    closed_fault c.args.stop.now _ _ c.args.names.now _ _ _ _ c.requires.limits some few stay c.traces.ensures.fault us faults.NoPlace _ c.close_no_place.ensures.same (record { all = all; counts = counts }) linked.links
    (means_fault us c.args.limits.now c.args.stop.now _ _ c.in-Err-NoPlace.field-0 faults.NoPlace (c.as_slice.ensures ∙ c.requires.segments.objects) linked.map c.in-Err-NoPlace.field-0-is c.in-Err-NoPlace.ensures.answers) refl c.close_no_place.ensures.line (λ e. absurd (cc))

pub returns-in-Err-NoItem : goal.returns-in-Err-NoItem
returns-in-Err-NoItem g c told told_after faults_before faults_after absences absences_after some few all counts stay =
    let us = c.args.segments.now.units in
    let linked = c.requires.linked in
    closed_item c.args.stop.now _ _ c.args.names.now _ _ _ _ c.requires.limits some few stay c.traces.ensures.fault us c.in-Err-NoItem.index _ _ (sym c.in-Err-NoItem.index-is) c.close_no_item.ensures.same (record { all = all; counts = counts }) linked.links
    (means_fault us c.args.limits.now c.args.stop.now _ _ c.in-Err-NoItem.field-0 (faults.NoItem c.in-Err-NoItem.index) (c.as_slice.ensures ∙ c.requires.segments.objects) linked.map c.in-Err-NoItem.field-0-is c.in-Err-NoItem.ensures.answers) refl c.close_no_item.ensures.line

pub returns-in-Err-NoMemory : goal.returns-in-Err-NoMemory
returns-in-Err-NoMemory g c told told_after faults_before faults_after absences absences_after some few all counts stay =
    let us = c.args.segments.now.units in
    let linked = c.requires.linked in
    closed_fault c.args.stop.now _ _ c.args.names.now _ _ _ _ c.requires.limits some few stay c.traces.ensures.fault us faults.NoMemory _ c.close-in-Err-NoMemory.ensures.same (record { all = all; counts = counts }) linked.links
    (means_fault us c.args.limits.now c.args.stop.now _ _ c.in-Err-NoMemory.field-0 faults.NoMemory (c.as_slice.ensures ∙ c.requires.segments.objects) linked.map c.in-Err-NoMemory.field-0-is c.in-Err-NoMemory.ensures.answers) refl c.close-in-Err-NoMemory.ensures.line c.close-in-Err-NoMemory.ensures.ended
