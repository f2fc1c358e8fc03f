-- What the functions of the call answer, in the words of the call.
use Rattle.std.proofs.Common.{◌≡◌, ℕ, ◌≤◌, List, length, map, Option, Bor, refl, ap₂, ◌∙◌, subst, sym, arith}
use Rattle.std.proofs.lemmas.List.{length-map}
use Rattle.cw_io.specs.File.{AllStay}
use Rattle.cw_unit.specs.declared.unit.Unit.{Unit as SourceUnit}
use Rattle.cw_unit.specs.declared.layout.Limits.{Limits}
use Rattle.cw_unit.specs.declared.layout.Map.{Map}
use Rattle.cw_unit.specs.Allocation.{storage_map}
use Rattle.cw_unit.specs.Program.{program_at}
use Rattle.cw_image.specs.declared.image.Image.{Image}
use Rattle.cw_list.specs.Rows.{program_listing}
use Rattle.cw_build.specs.Linking.{map_text}
use Rattle.cw_place.specs.Placement.{IsLimits}
use Rattle.cw_words.specs.declared.action.Action.TheVariants.{Go}
use Rattle.cw_correct.specs.Calls.{Surroundings, surroundings_of, call_as}
use Rattle.cw_correct.specs.Closing.{Closes}
use Rattle.cw_correct.specs.Correct.{IsCorrectCall}
use Rattle.cw_write.specs.Said.{Says}
use Rattle.cw_say.specs.Closing.{closing_line}
use Rattle.cw_say.specs.declared.status.Status.{Status}
use Rattle.cw_say.specs.declared.status.Status.TheVariants.{Ended, NoMemory}
use Rattle.cw_actions.specs.Going.Runs.{Streams, Runs}
use Rattle.cw_actions.specs.Going.Goes.{Goes}
use Rattle.cw_actions.specs.Going.Laws.{KeepsPromise}

-- ---- the image

-- the listing of a program is that of its units
pub map_is : (units us : List SourceUnit) (m : Map) (limits : Limits) (text : List ℕ) → units ≡ us → m ≡ storage_map us → text ≡ program_listing (program_at units m limits) → text ≡ map_text us limits
unfolding map_text
map_is units us m limits text same is e = e ∙ ap₂ (λ vs x. program_listing (program_at vs x limits)) same is

pub runs_as : (text other : List ℕ) (image meant : Image) (steps : ℕ) (a b : Streams) (status : Status) → text ≡ other → image ≡ meant → Runs text image steps a b status → Runs other meant steps a b status
runs_as text other image meant steps a b status e f runs =
    let P : List ℕ → Type 0 = λ t. Runs t image steps a b status in
    let Q : Image → Type 0 = λ i. Runs other i steps a b status in
    subst Q f (subst P e runs)

-- ---- the closing line

-- what stands after the closing line, where this is said by then
abbrev pub after_line : Surroundings → (say : Option (List ℕ)) → (say_faults : ℕ) → Surroundings
after_line b say say_faults = surroundings_of b.files b.store_faults b.absences b.left b.input_faults b.out b.out_faults say say_faults

abbrev pub named : List (Bor (List ℕ)) → List (List ℕ)
named names = map (λ name. name.now) names

-- only `say` changes while the line is written
module _ (between : Surroundings) (say : Option (List ℕ)) (say_faults : ℕ) where
  pub closes_by : (names segments : List (List ℕ)) (status : Status) → Says between.say say between.say_faults say_faults (closing_line names segments status) → (status ≡ Ended → say_faults ≡ between.say_faults)
      → Closes between (after_line between say say_faults) names segments status
  closes_by names segments status says ended = record {
    says = says;
    ended = ended;
    files = refl;
    store_faults = refl;
    absences = refl;
    left = refl;
    input_faults = refl;
    out = refl;
    out_faults = refl;
  }

-- the line of want of memory names nothing
pub closes_wanted : (between after : Surroundings) (names segments others called : List (List ℕ)) → Closes between after names segments NoMemory → Closes between after others called NoMemory
closes_wanted between after names segments others called closes = record {
  says = closes.says;
  ended = closes.ended;
  files = closes.files;
  store_faults = closes.store_faults;
  absences = closes.absences;
  left = closes.left;
  input_faults = closes.input_faults;
  out = closes.out;
  out_faults = closes.out_faults;
}

-- what stood before it, where `say` held this
abbrev pub before_line : (after : Surroundings) → (said : Option (List ℕ)) → (faults : ℕ) → Surroundings
before_line a said faults = after_line a said faults

-- a call of `go` that goes so up to there
pub closed : KeepsPromise → (limits : Limits) (steps : ℕ) (names : List (Bor (List ℕ))) (segments : List (List ℕ)) (before after : Surroundings) (said : Option (List ℕ)) (faults : ℕ) (status result : Status)
    → result ≡ status → IsLimits limits → 1 ≤ length names → length names ≤ 200 → AllStay before.files after.files → Says said after.say faults after.say_faults (closing_line (named names) segments status) → (status ≡ Ended → after.say_faults ≡ faults)
    → Goes (λ us. map_text us limits) (call_as Go limits steps (named names) before (before_line after said faults)) segments status → IsCorrectCall (call_as Go limits steps (named names) before after) result
closed keeps limits steps names segments before after said faults status result same within some most stays says ended goes =
    let between = before_line after said faults in
    subst (IsCorrectCall (call_as Go limits steps (named names) before after)) (sym same)
    (keeps (λ us. map_text us limits) Go limits steps (named names) segments before between after status within (omega (arith, length-map names (λ (name : Bor (List ℕ)). name.now), some))
    (omega (arith, length-map names (λ (name : Bor (List ℕ)). name.now), most)) stays goes (closes_by between after.say after.say_faults (named names) segments status says ended))
