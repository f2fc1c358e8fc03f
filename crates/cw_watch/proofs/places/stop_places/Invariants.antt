use Rattle.std.proofs.Common.{◌≡◌, ◌++◌, map, drop}
use Rattle.cw_link.specs.LinkedImage.{code_end, linked_size}
use Rattle.cw_object.specs.ObjectContents.{contents_in}
use Rattle.cw_watch.specs.Rising.{RisesFrom}
use Rattle.cw_watch.specs.Watching.{places_from, stop_places}
use Rattle.cw_watch.proofs.places.stop_places.Given as goal

abbrev pub invariant-loop-object : goal.invariant-loop-object
invariant-loop-object l = record {
  end : code_end l.start (map contents_in (drop l.object-index l.objects)) ≡ linked_size (map contents_in l.objects);
  rises : RisesFrom 0 l.places l.start;
  told : l.places ++ places_from l.start l.stop.segment l.stop.line (drop l.object-index l.objects) ≡ stop_places l.stop l.objects;
}
