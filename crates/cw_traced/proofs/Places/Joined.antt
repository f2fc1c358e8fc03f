-- What is told of a watched run of the image of units is reported of their program.
use Rattle.std.proofs.Common.{◌≡◌, ◌≢◌, ℕ, ◌<◌, ◌≤◌, List, [], length, map, Ok, sym, ap, ◌∙◌, subst}
use Rattle.std.specs.Prelude.{ℤ, All, nat_eq}
use Rattle.std.specs.List.{IsDistinct}
use Rattle.cw_i86.specs.State.{State}
use Rattle.cw_i86.specs.MachineRun.{Event, Observed, IsStart, FitsInput, Shows}
use Rattle.cw_unit.specs.declared.unit.Unit.{Unit as SourceUnit}
use Rattle.cw_unit.specs.declared.layout.Limits.{Limits}
use Rattle.cw_unit.specs.declared.layout.Map.{Map}
use Rattle.cw_unit.specs.Allocation.{storage_map}
use Rattle.cw_unit.specs.Program.{program_at}
use Rattle.cw_unit.specs.Begun.{Begun}
use Rattle.cw_place.specs.Placement.{IsLimits}
use Rattle.cw_image.specs.Begun.{StatementPlace, Begins}
use Rattle.cw_build.specs.Compiled.{IsCompilable, object_of}
use Rattle.cw_build.specs.Linking.{Links, image_of}
use Rattle.cw_sim.specs.Preservation.{IsLoaded}
use Rattle.cw_sim.specs.Statements.{image_places, BeginsStatements}
use Rattle.cw_stop.specs.declared.stopping.Stop.{Stop}
use Rattle.cw_trace.specs.Reports.{Reports}
use Rattle.cw_trace.specs.Statements.{places_of, Watches, TellsOfBegun}
use Rattle.cw_trace.specs.declared.watch.Watch.{Watch}
use Rattle.cw_watch.specs.Watching.{stop_places}
use Rattle.cw_traced.specs.Places.Reported.{MeansInUnits, IsNamed, ReportsUnits}

-- what the laws of the crates below say, and that of places
pub record ReportLaws : Type 0 where
  pub told : (us : List SourceUnit) (limits : Limits) (segment : ℕ) (stop : Stop) → All IsCompilable us → Links us limits → IsNamed us segment stop.segment
      → stop_places stop (map object_of us) ≡ places_of segment stop.line (image_places us (storage_map us) limits)
  pub named : (us : List SourceUnit) (stop : Stop) → All IsCompilable us → 0 < length (stop_places stop (map object_of us)) → (segment : ℕ) × IsNamed us segment stop.segment
  pub loaded : (us : List SourceUnit) (limits : Limits) (input : List ℕ) (s : State) → us ≢ [] → length us ≤ 200 → All IsCompilable us → IsLimits limits → Links us limits → All (λ b. b < 256) input
      → IsStart (image_of us limits).code (image_of us limits).words s → IsLoaded us (storage_map us) limits input s
  pub statements : (us : List SourceUnit) (m : Map) (limits : Limits) (input : List ℕ) (s : State) (k : ℕ) (shown : Observed) (started : List Begun) → IsLoaded us m limits input s → Shows s input k shown
      → Begins (image_places us m limits) limits.area s input k started → BeginsStatements (program_at us m limits) input k shown started
  pub begins : (places : List StatementPlace) (area : ℕ) (s : State) (input : List ℕ) (n : ℕ) → All (λ b. b < 256) input → (begun : List (ℕ × ℕ × List ℤ)) × Begins places area s input n begun
  pub tells : TellsOfBegun

module _ (laws : ReportLaws) (us : List SourceUnit) (limits : Limits) (stop : Stop) (watch : Watch) (input : List ℕ) (s : State) where
  pub reports : us ≢ [] → length us ≤ 200 → All IsCompilable us → IsLimits limits → Links us limits → All (λ b. b < 256) input → IsStart (image_of us limits).code (image_of us limits).words s
      → MeansInUnits us limits stop (Ok watch) → IsDistinct nat_eq watch.places → All (λ word. word.address < limits.area) watch.words
      → (k : ℕ) (shown : Observed) (events : List Event) (text : List ℕ) → Shows s input k shown → FitsInput input events → Reports watch s events k text → ReportsUnits us limits stop input k shown text
  reports some most compiled in_limits links bytes start means once within k shown events text shows fits told =
      let (segment, named) = laws.named us stop compiled (by-places means.places means.some) in
      let places : List StatementPlace = image_places us (storage_map us) limits in
      let (started, begun) = laws.begins places limits.area s input k bytes in
      let watches : Watches watch segment places limits.area = record {
        places_are = means.places ∙ laws.told us limits segment stop compiled links named ∙ ap (λ line. places_of segment line places) (sym means.line);
        once = once;
        within = within;
      } in
      record {
        watch = watch;
        segment = segment;
        means = means;
        named = named;
        reported = record {
          started = started;
          begins = laws.statements us (storage_map us) limits input s k shown started (laws.loaded us limits input s some most compiled in_limits links bytes start) shows begun;
          lines = laws.tells watch segment places limits.area s input k events text started watches start.code_segment fits told begun;
        };
      }
    where
      by-places : watch.places ≡ stop_places stop (map object_of us) → 0 < length watch.places → 0 < length (stop_places stop (map object_of us))
      by-places is h = subst (λ (ns : List ℕ). 0 < length ns) is h
