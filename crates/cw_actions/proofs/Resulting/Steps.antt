-- Parts of the actions: what does not link, and what was written of a result.
use Rattle.std.proofs.Common.{◌≡◌, ◌≢◌, ℕ, ◌≤◌, List, [], ◌∷◌, ◌++◌, map, length, refl, sym, ap, ◌∙◌, subst}
use Rattle.std.specs.Prelude.{codes, slice_index_or}
use Rattle.cw_io.specs.File.{Told, Is}
use Rattle.cw_unit.specs.declared.unit.Unit.{Unit as SourceUnit}
use Rattle.cw_unit.specs.declared.layout.Limits.{Limits}
use Rattle.cw_compile.specs.declared.fault.UnitFault.{UnitFault}
use Rattle.cw_compile.specs.declared.fault.UnitFault.TheVariants as units
use Rattle.cw_compile.specs.Texts.{text_limit, IsCanonicalOf, IsFaultOf}
use Rattle.cw_link.specs.declared.fault.LinkFault.{LinkFault}
use Rattle.cw_link.specs.declared.fault.LinkFault.TheVariants.{NoMemory as NoMemoryToLink}
use Rattle.cw_obj.specs.Migration.{IsMigrated}
use Rattle.cw_build.specs.Linking.{Links}
use Rattle.cw_files.specs.Reading.{Counts, HaveBytes, IsUnread}
use Rattle.cw_actions.specs.Going.Goes.{IsUnlinked}
use Rattle.cw_actions.specs.Resulting.Outside.{Files, Out}
use Rattle.cw_actions.specs.Resulting.Written.{GivesOut, GivesFile}
use Rattle.cw_actions.specs.Resulting.Results.{unlinked_status, faulty_status, TellsUnits, ShowsText, MigratesObject}
use Rattle.cw_say.specs.declared.status.Status.{Status}
use Rattle.cw_say.specs.declared.status.Status.TheVariants.{Unlinked, NoMemory}
use Rattle.cw_actions.proofs.Resulting.Cases.{gives_out, gives_file}
use Rattle.cw_actions.proofs.Resulting.Told.{told_one}

-- ---- units

pub unlinked_is : (fault : LinkFault) → fault ≢ NoMemoryToLink → Unlinked fault ≡ unlinked_status fault
unlinked_is NoMemoryToLink other = absurd (other refl)
unlinked_is _ other = refl

module _ (IsText : List SourceUnit → Limits → List ℕ → Type 0) (us : List SourceUnit) (limits : Limits) where
  pub tells_of : (out out' : Out) (s : Status) (text : List ℕ) → Links us limits → IsText us limits text → GivesOut text out out' s → TellsUnits IsText us limits out out' s
  tells_of out out' s text links is gives = gives_out (λ t. TellsUnits IsText us limits out out' t) text out out' (λ x. (text, links, is, x)) (λ x. (text, links, is, x)) (λ x. x) s gives

  -- no text for want of memory
  pub tells_nothing : (out : Out) → TellsUnits IsText us limits out out NoMemory
  tells_nothing out = refl

  -- nor of units that do not link
  pub unlinked_tells : (out : Out) (s : Status) → IsUnlinked us limits s → TellsUnits IsText us limits out out s
  unlinked_tells out NoMemory x = refl
  unlinked_tells out (Unlinked fault) x = (x, refl)
  unlinked_tells out _ x = absurd x

-- ---- texts

module _ (text : List ℕ) (out out' : Out) where
  pub shows_of : (s : Status) (shown : List ℕ) → IsCanonicalOf text shown → GivesOut shown out out' s → ShowsText text out out' s
  shows_of s shown is gives = gives_out (λ t. ShowsText text out out' t) shown out out' (λ x. (shown, is, x)) (λ x. (shown, is, x)) (λ x. x) s gives

faulty_shows_as : (text : List ℕ) (out : Out) (fault : UnitFault) → IsFaultOf text fault → ShowsText text out out (faulty_status fault)
faulty_shows_as text out (units.Refused refusal) x = (refl, x, refl)
faulty_shows_as text out units.NoMemory x = refl

pub faulty_shows : (text : List ℕ) (out : Out) (fault : UnitFault) (s : Status) → s ≡ faulty_status fault → IsFaultOf text fault → ShowsText text out out s
faulty_shows text out fault s e x = subst (λ t. ShowsText text out out t) (sym e) (faulty_shows_as text out fault x)

-- the one file
module _ (file : List ℕ → Told) (names : List (List ℕ)) (few : length names ≤ 1) (some : 1 ≤ length names) (name : List ℕ) (is_name : name ≡ slice_index_or names 0 []) where
  one : map file names ≡ file name ∷ []
  one = told_one file names few some ∙ ap (λ x. file x ∷ []) (sym is_name)

  pub have_one : (bytes text : List ℕ) → text ≡ bytes → Is (file name) bytes → length bytes ≤ text_limit → HaveBytes text_limit (map file names) (text ∷ [])
  have_one bytes text e is within = subst (λ t. HaveBytes text_limit (map file names) (t ∷ [])) (sym e) (subst (λ files. HaveBytes text_limit files (bytes ∷ [])) (sym one) (is, within, tt))

  pub unread_one : (before after : Counts) (s : Status) → IsUnread text_limit (file name ∷ []) 0 before after s → IsUnread text_limit (map file names) 0 before after s
  unread_one before after s x = subst (λ files. IsUnread text_limit files 0 before after s) (sym one) x

-- ---- objects

pub migrates_of : (name object result : List ℕ) (files files' : Files) (s : Status) → IsMigrated object result → GivesFile (name ++ codes ".SG2") result files files' s → MigratesObject name object files files' s
migrates_of name object result files files' s is gives =
    gives_file (λ t. MigratesObject name object files files' t) (name ++ codes ".SG2") result files files' (λ x. (result, is, x)) (λ x. (result, is, x)) (λ x. x) s gives
