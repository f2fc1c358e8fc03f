-- A call of `lib` keeps its promise.
use Rattle.std.proofs.Common.{◌≡◌, ◌≢◌, ℕ, ◌≤◌, List, [], ◌∷◌, drop, length, Some, sym, ap, ◌∙◌, subst}
use Rattle.std.specs.List.{AllByRecursion}
use Rattle.std.proofs.lemmas.List.Elements.{All-drop}
use Rattle.std.specs.Prelude.{All, slice_index_or}
use Rattle.cw_io.specs.File.{Told}
use Rattle.cw_cpu86.specs.Ports.{AreBytes}
use Rattle.cw_view.specs.ObjectFormat.{IsObject}
use Rattle.cw_view.specs.Uniqueness.{HasOneFault}
use Rattle.cw_files.specs.Texts.{HasObject, object_limit}
use Rattle.cw_files.specs.Reading.{HaveBytes, HaveValues}
use Rattle.cw_unit.specs.declared.layout.Limits.{Limits}
use Rattle.cw_words.specs.declared.action.Action.TheVariants.{Lib}
use Rattle.cw_correct.specs.Calls.{Surroundings, call_as, Call, first_name, over_others, told_files, NoFault}
use Rattle.cw_correct.specs.Correct.{TellsBytes}
use Rattle.cw_correct.specs.Results.{MakesLibrary, LibsRight}
use Rattle.cw_actions.specs.Resulting.Idle.{IsIdle, AllowsIdle}
use Rattle.cw_actions.specs.Resulting.OneStatus.{AllowsOneStatus}
use Rattle.cw_say.specs.declared.status.Status.{Status}
use Rattle.cw_say.specs.declared.status.Status.TheVariants.{NoMemory}
use Rattle.cw_actions.proofs.Resulting.Fates.{one_ended}
use Rattle.cw_actions.proofs.Resulting.Statuses.{all_bytes}
use Rattle.cw_actions.proofs.Resulting.Objects.{objects as object_files}
use Rattle.cw_actions.proofs.Resulting.Readings.{Found, all_told}
use Rattle.cw_actions.proofs.Resulting.Told.{behind_first}
use Rattle.cw_actions.proofs.Resulting.Filing as filing
use Rattle.cw_actions.proofs.Resulting.Filing.{fate}
use Rattle.cw_actions.proofs.Resulting.Rights.{makes_library}

-- what was taken are objects that are not too long
pub opened : (texts objects : List (List ℕ)) → HaveValues HasObject texts objects → AllByRecursion IsObject objects
opened texts [] values = tt
opened [] (object ∷ objects) values = absurd values
opened (text ∷ texts) (object ∷ objects) values = (subst IsObject (sym values.0.1) values.0.0, opened texts objects values.1)

pub short : (files : List Told) (texts objects : List (List ℕ)) → HaveBytes object_limit files texts → HaveValues HasObject texts objects → AllByRecursion (λ m. length m ≤ 16777216) objects
short files texts [] have values = tt
short files [] (object ∷ objects) have values = absurd values
short [] (text ∷ texts) (object ∷ objects) have values = absurd have
short (file ∷ files) (text ∷ texts) (object ∷ objects) have values = (subst (λ t. length t ≤ 16777216) (sym values.0.1) have.1, short files texts objects have.2 values.1)

pub stopped : (name : List ℕ) → filing.KeepsStopped (makes_library name)
stopped name = filing.stopped (makes_library name)

pub written : (name : List ℕ) → filing.KeepsWritten (makes_library name)
written name = filing.written (makes_library name)

-- the line of a status that names no file is that of any names
over_others_idle : (c : Call) → IsIdle c → IsIdle (over_others c)
over_others_idle c idle = record {
  says = record { first = idle.says.first; middle = idle.says.middle; is_first = idle.says.is_first; later = idle.says.later; closing = idle.says.closing };
  untouched = idle.untouched;
  unwritten = idle.unwritten;
  stays = idle.stays;
}

pub idle : AllowsIdle LibsRight
idle c x = filing.allows_idle (makes_library (first_name c)) (over_others c) (over_others_idle c x)

library_once : (name : List ℕ) (c : Call) → HasOneFault → (a b : Status) (found : List Found) → told_files c ≡ all_told found → All TellsBytes found → NoFault c.before c.after → a ≢ NoMemory → b ≢ NoMemory → MakesLibrary name c a → MakesLibrary name c b → a ≡ b
library_once name c one_fault a b found told all quiet m n x y =
    one_ended object_files AreBytes one_fault found a b (all_bytes found all) m n
    (fate object_files c x.texts x.objects x.have_bytes x.have_objects a x.comes found told quiet) (fate object_files c y.texts y.objects y.have_bytes y.have_objects b y.comes found told quiet)

pub libs_once : HasOneFault → AllowsOneStatus LibsRight
libs_once one_fault c a b found told all quiet m n x y =
    library_once _ (over_others c) one_fault a b (drop 1 found) (behind_first c.before.files c.names ∙ ap (λ files. drop 1 files) told ∙ sym (behind_first Some found)) (All-drop TellsBytes 1 found all) quiet m n x y

pub renamed : (names : List (List ℕ)) (name : List ℕ) (objects : List (List ℕ)) (limits : Limits) (steps : ℕ) (before after : Surroundings) (s : Status) → name ≡ slice_index_or names 0 [] → objects ≡ drop 1 names
    → MakesLibrary name (call_as Lib limits steps objects before after) s → LibsRight (call_as Lib limits steps names before after) s
renamed names name objects limits steps before after s e f x =
    subst (λ n. MakesLibrary n (call_as Lib limits steps (drop 1 names) before after) s) e (subst (λ os. MakesLibrary name (call_as Lib limits steps os before after) s) f x)
