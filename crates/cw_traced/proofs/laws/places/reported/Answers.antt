-- A run that is watched at the places of a stop tells of the statements that begin there, which are those that the source begins.
use Rattle.cw_run86.specs.Processor.{processor_after, processor_start, observed}
use Rattle.cw_traced.proofs.Places.Joined.{ReportLaws, reports}
use Rattle.cw_traced.proofs.laws.places.reported.Goals as goal

pub returns : goal.returns
returns c =
    let places = c.places_told.ensures in
    let laws : ReportLaws = record {
      told = places.told;
      named = places.named;
      loaded = c.loaded.ensures.started;
      statements = c.preservation.ensures.statements;
      begins = c.beginnings.ensures.some;
      tells = c.reports_of_begun.ensures;
    } in
    record {
      shown = λ us limits stop watch input s k shown events text some most compiled in_limits links bytes start means once within shows fits told.
          reports laws us limits stop watch input s some most compiled in_limits links bytes start means once within k shown events text shows fits told;
      some = λ us limits stop watch input s k events text some most compiled in_limits links bytes start means once within fits told.
          let shown = observed (processor_after k (processor_start s input)) in
          let shows = c.shows_the_run.ensures s input k bytes in
          (shown, shows, reports laws us limits stop watch input s some most compiled in_limits links bytes start means once within k shown events text shows fits told);
    }
