-- An image that was loaded, and what was said before it runs.
use Rattle.std.proofs.Common.{◌≡◌, ℕ, List, Ok, Err, refl, ◌∙◌, subst, inl, inr}
use Rattle.cw_i86.specs.State.{State}
use Rattle.cw_i86.specs.MachineRun.{IsStart}
use Rattle.cw_ports.specs.Running.{RunTells}
use Rattle.cw_ports.specs.declared.running.ImageEnd.{ImageEnd}
use Rattle.cw_image.specs.declared.image.Image.{Image}
use Rattle.cw_say.specs.declared.status.Status.{Status}
use Rattle.cw_say.specs.declared.status.Status.TheVariants.{Outside}
use Rattle.cw_say.specs.declared.status.Which.TheVariants.{Say}
use Rattle.cw_actions.specs.Going.Runs.{Streams, status_of, Lists, ListsPart, Runs}
use Rattle.cw_actions.specs.Going.Loads.{Loads}

-- of code and words that are the image's, and a text that is what was to be said
module _ (image : Image) (text said : List ℕ) (a b : Streams) (same : text ≡ said) where
  pub loaded : (code words : List ℕ) (start : State) → code ≡ image.code → words ≡ image.words → IsStart code words start → Lists text a b → Loads said image a b (Ok start)
  loaded code words start is_code is_words is lists =
      (subst (λ ws. IsStart image.code ws start) is_words (subst (λ bytes. IsStart bytes words start) is_code is), subst (λ t. Lists t a b) same lists)

  pub cut_short : ListsPart text a b → Loads said image a b (Err (Outside Say))
  cut_short part = inr (refl, subst (λ t. ListsPart t a b) same part)

module _ (image : Image) (said : List ℕ) (steps : ℕ) (a b : Streams) (status : Status) where
  pub not_loaded : Loads said image a b (Err status) → Runs said image steps a b status
  not_loaded (inl x) = inl x
  not_loaded (inr x) = inr (inl x)

  -- the run says nothing itself
  pub ran : (between : Streams) (start : State) (end : ImageEnd) → Loads said image a between (Ok start) → b.say ≡ between.say → b.say_faults ≡ between.say_faults → status ≡ status_of steps end
      → RunTells end start steps a.outside b.outside → Runs said image steps a b status
  ran between start end loads say faults is tells =
      inr (inr (record {
        lists = record { said = say ∙ loads.1.said; same = faults ∙ loads.1.same };
        start = start;
        is_start = loads.0;
        end = end;
        is = is;
        tells = tells;
      }))
