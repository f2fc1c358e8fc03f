-- What a run of the image of texts shows is what the texts mean.
use Rattle.std.proofs.Common.{◌≡◌, ◌≢◌, ℕ, ◌+◌, ◌*◌, ◌<◌, ◌≤◌, List, [], length, ap, ◌∙◌, subst, inr, ⊎_elim, arith}
use Rattle.std.specs.Prelude.{All}
use Rattle.cw_i86.specs.State.{State}
use Rattle.cw_i86.specs.MachineRun as run
use Rattle.cw_unit.specs.declared.unit.Unit.{Unit as SourceUnit}
use Rattle.cw_unit.specs.declared.layout.Limits.{Limits}
use Rattle.cw_unit.specs.Allocation.{storage_map}
use Rattle.cw_unit.specs.ValidStorage.{ValidStorageMap}
use Rattle.cw_track.specs.Tracking.{step_ratio}
use Rattle.cw_unit.specs.Program.{program_of}
use Rattle.cw_unit.specs.Stop.{End, Running}
use Rattle.cw_unit.specs.Behaviour.{observed}
use Rattle.cw_sim.specs.Preservation.{TellsEnd, IsLoaded, Preserves}
use Rattle.cw_place.specs.Placement.{IsLimits}
use Rattle.cw_build.specs.Compiled.{IsCompilable}
use Rattle.cw_build.specs.Linking.{Links, image_of}
use Rattle.cw_files.specs.Texts.{HasUnit}
use Rattle.cw_files.specs.Reading.{HaveValues}
use Rattle.cw_actions.specs.Resulting.Texts.{AreCompilable}
use Rattle.cw_actions.proofs.Going.Given.{OnStorage, OnRuns}

-- ---- units of texts

pub valid : AreCompilable → OnStorage → (limits : Limits) (texts : List (List ℕ)) (us : List SourceUnit) → HaveValues HasUnit texts us → Links us limits → ValidStorageMap us limits (storage_map us)
valid compilable given limits texts us have links = given.map us limits (compilable texts us have) links

-- ---- runs

-- a run that is over shows the same ever after
over_stays : (s : State) (input : List ℕ) (k n : ℕ) (o : run.Observed) → k ≤ n → o.end ≢ run.Running → run.Shows s input k o → run.Shows s input n o
over_stays s input k n o le over shows = record {
  events = shows.events;
  fits = shows.fits;
  output = shows.output;
  end = ⊎_elim
      (λ (work : run.IsAtWork s k shows.events o.end). absurd (over work.2))
      (λ (is : run.IsOver s k shows.events o.end). inr (is.0, is.1, omega (arith, is.2, le), is.3, is.4))
      shows.end;
}

-- the 8086 is not running where the meaning is not
is_over : (e : run.End) (meant : End) → TellsEnd e meant → meant ≢ Running → e ≢ run.Running
is_over e meant tells over running = over (subst (λ x. TellsEnd x meant) running tells)

module _ (given : OnRuns) (us : List SourceUnit) (limits : Limits) (some : us ≢ []) (most : length us ≤ 200) (all : All IsCompilable us) (within : IsLimits limits) (links : Links us limits) (input : List ℕ) (bytes : All (λ b. b < 256) input)
    (s : State) (start : run.IsStart (image_of us limits).code (image_of us limits).words s) where
  loaded : IsLoaded us (storage_map us) limits input s
  loaded = given.loaded us limits input s some most all within links bytes start

  pub preserves : (k : ℕ) (o : run.Observed) → run.Shows s input k o → Preserves (program_of us limits) input k o
  preserves k o shows = given.preserves us (storage_map us) limits input s k o loaded shows

  pub never_bad : (k offset : ℕ) (o : run.Observed) → run.Shows s input k o → o.end ≡ run.Bad offset → ⊥
  never_bad k offset o shows e = subst (λ x. TellsEnd x (observed (program_of us limits) input (preserves k o shows).steps).end) e (preserves k o shows).shows.end

  pub never_divided : (k offset : ℕ) (o : run.Observed) → run.Shows s input k o → o.end ≡ run.Divided offset → ⊥
  never_divided k offset o shows e = subst (λ x. TellsEnd x (observed (program_of us limits) input (preserves k o shows).steps).end) e (preserves k o shows).shows.end

  -- where the meaning is over in time, so is the run
  pub never_running : (steps m : ℕ) → step_ratio * (m + 1) ≤ steps → (observed (program_of us limits) input m).end ≢ Running → (o : run.Observed) → run.Shows s input steps o → o.end ≡ run.Running → ⊥
  never_running steps m soon ends o shows running =
      let c = given.completes us (storage_map us) limits input s m loaded in
      let over : c.shown.end ≢ run.Running = is_over c.shown.end (observed (program_of us limits) input m).end c.shows.end ends in
      let early : c.k ≤ steps = omega (arith, c.pace, soon) in
      let same : c.shown ≡ o = given.once s input steps c.shown o (over_stays s input c.k steps c.shown early over c.shows_at) shows in
      over (ap (λ x. x.end) same ∙ running)
