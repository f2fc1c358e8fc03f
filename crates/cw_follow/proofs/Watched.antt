-- A processor that is watched by an observer who is told at which places of the code statements begin.
use Rattle.std.proofs.Common.{◌<◌, arith, ◌≡◌, ℕ, Bool, true, false, List, [], ◌++◌, refl, sym, ap, ap₂, ◌∙◌, subst}
use Rattle.std.specs.Prelude.{map}
use Rattle.cw_track.specs.Machine.{Machine}
use Rattle.cw_track.specs.Watching.{noted}
use Rattle.cw_track.proofs.Paths.{Path, stay, next}
use Rattle.cw_track.proofs.Watching.{Unnoted}
use Rattle.cw_i86.specs.MachineRun.{End, Running}
use Rattle.cw_image.specs.Begun.{StatementPlace, lines_at, data_words}
use Rattle.cw_run86.specs.Processor.{Processor, processor_machine, processor_step, observed}
use Rattle.cw_unit.specs.Begun.{Begun}
use Rattle.cw_unit.specs.Behaviour.{Observation}
use Rattle.cw_follow.specs.Showing.{shown_as}
use Rattle.cw_follow.specs.Passing.{at_work, passes}

-- the processor, the places that the observer is told and the words of the data area, whether the observer overlooks what begins at the
-- next instruction, and what was noted
pub record Watched : Type 0 where
  pub places : List StatementPlace
  pub area : ℕ
  pub processor : Processor
  pub overlooks : Bool
  pub begun : List Begun

-- nothing, where it is overlooked
abbrev pub unless : Bool → List Begun → List Begun
unless true begun = []
unless false begun = begun

-- before an instruction is noted what begins
unfoldable pub watched_step : Watched → Watched
watched_step t = record { places = t.places; area = t.area; processor = processor_step t.processor; overlooks = false; begun = t.begun ++ unless t.overlooks (passes t.places t.area t.processor) }

abbrev pub watched_machine : Machine (Observation × List Begun)
watched_machine = record { State = Watched; step = watched_step; shown = λ t. (shown_as (observed t.processor), t.begun); weight = λ t. 1 }

-- where nothing has been noted
abbrev pub fresh : List StatementPlace → (area : ℕ) → Processor → Watched
fresh places area q = record { places = places; area = area; processor = q; overlooks = false; begun = [] }

-- the same, where what begins at the next instruction is overlooked or is not
abbrev pub over : Bool → Watched → Watched
over first q = record { places = q.places; area = q.area; processor = q.processor; overlooks = first; begun = q.begun }

pub nothing_begins : (e : End) → at_work e [] ≡ []
nothing_begins Running = refl
nothing_begins _ = refl

-- where no statement begins nothing is noted
pub step_silent : (t : Watched) → lines_at t.places t.processor.state.instruction_pointer ≡ [] → t.begun ≡ [] → (watched_step t).begun ≡ []
unfolding watched_step
step_silent t none silent =
    let passed : passes t.places t.area t.processor ≡ [] = ap (λ ls. at_work t.processor.end (map (λ x. (x.0, x.1, data_words 0 t.area t.processor.state)) ls)) none ∙ nothing_begins t.processor.end in
    ap (λ es. es ++ unless t.overlooks (passes t.places t.area t.processor)) silent ∙ ap (unless t.overlooks) passed ∙ nothing_overlooked t.overlooks
  where
    nothing_overlooked : (b : Bool) → unless b [] ≡ []
    nothing_overlooked true = refl
    nothing_overlooked false = refl

-- nor where it is overlooked
pub step_overlooks : (t : Watched) → t.overlooks ≡ true → t.begun ≡ [] → (watched_step t).begun ≡ []
unfolding watched_step
step_overlooks t over silent = ap (λ es. es ++ unless t.overlooks (passes t.places t.area t.processor)) silent ∙ ap (λ b. unless b (passes t.places t.area t.processor)) over

-- ---- paths on which nothing is noted

start_silent : (P : Observation → Type 0) (w : ℕ) (t u : Watched) → Path (Unnoted P) watched_machine w t u → u.begun ≡ [] → t.begun ≡ []
start_silent P w t u (stay tu z) silent = ap (λ x. x.begun) tu ∙ silent
start_silent P w t u (next a st we p) silent = a.1

-- they are paths of the processor
pub unwatched : (P : Observation → Type 0) (w : ℕ) (t u : Watched) → t.overlooks ≡ false → Path (Unnoted P) watched_machine w t u → u.begun ≡ [] → Path (Unnoted P) (noted (processor_machine shown_as) (passes t.places t.area)) w t.processor u.processor
unfolding watched_step
unwatched P w t u sees (stay tu z) silent = stay (ap (λ x. x.processor) tu) z
unwatched P w t u sees (next {w' = w'} {t' = t'} a st we p) silent =
    let none : passes t.places t.area t.processor ≡ [] =
    sym (ap₂ (λ es b. es ++ unless b (passes t.places t.area t.processor)) a.1 sees) ∙ ap (λ x. x.begun) st ∙ start_silent P w' t' u p silent in
    next (a.0, none) (ap (λ x. x.processor) st) we
    (subst (λ x. Path (Unnoted P) (noted (processor_machine shown_as) (passes x.places x.area)) w' t'.processor u.processor) (sym st) (unwatched P w' t' u (ap (λ x. x.overlooks) (sym st)) p silent))

-- where they end in a state that has noted nothing, the observer overlooks nothing there
pub still_fresh : (P : Observation × List Begun → Type 0) (w : ℕ) (t u : Watched) → t.overlooks ≡ false → Path P watched_machine w t u → u.begun ≡ [] → u ≡ fresh t.places t.area u.processor
unfolding watched_step
still_fresh P w t u sees (stay tu z) silent =
    subst (λ x. u ≡ fresh x.places x.area u.processor) (sym tu) (ap₂ (λ b es. record { places = u.places; area = u.area; processor = u.processor; overlooks = b; begun = es }) (ap (λ x. x.overlooks) (sym tu) ∙ sees) silent)
still_fresh P w t u sees (next {w' = w'} {t' = t'} a st we p) silent = subst (λ x. u ≡ fresh x.places x.area u.processor) (sym st) (still_fresh P w' t' u (ap (λ x. x.overlooks) (sym st)) p silent)

pub fresh_behind : (P : Observation × List Begun → Type 0) (w : ℕ) (t u : Watched) → 0 < w → Path P watched_machine w t u → u.begun ≡ [] → u ≡ fresh t.places t.area u.processor
unfolding watched_step
fresh_behind P w t u some (stay tu z) silent = absurd (omega arith)
fresh_behind P w t u some (next {w' = w'} {t' = t'} a st we p) silent = subst (λ x. u ≡ fresh x.places x.area u.processor) (sym st) (still_fresh P w' t' u (ap (λ x. x.overlooks) (sym st)) p silent)
