-- The file of `exec` as it is read: an image, or a HEX text.
use Rattle.std.proofs.Common.{◌≡◌, ℕ, List, Bool, true, false, Result, Ok, sym, ap, ◌∙◌, subst, inl}
use Rattle.cw_io.specs.File.{Told}
use Rattle.cw_i86.specs.State.{State}
use Rattle.cw_i86.specs.MachineRun.{IsStart}
use Rattle.cw_hex.proofs.Faults.{not_both, one_state, one_fault}
use Rattle.cw_image.specs.declared.image.Image.{Image}
use Rattle.cw_image.specs.declared.fault.ImageFault.{ImageFault}
use Rattle.cw_files.specs.declared.images.Runnable.{Runnable}
use Rattle.cw_files.specs.Texts.{HasImage, TellsRunnable, HasRunnable, IsBadRunnable, begins_hex}
use Rattle.cw_files.specs.Reading.{Counts, StopsRunnables}
use Rattle.cw_say.specs.declared.status.Bad.{Bad}
use Rattle.cw_say.specs.declared.status.Bad.TheVariants as bad
use Rattle.cw_say.specs.declared.status.Status.{Status}
use Rattle.cw_say.specs.declared.status.Status.TheVariants.{BadFile}
use Rattle.cw_actions.proofs.Resulting.Outcomes.{Kind, BadStop, bad_stop, bad_files}
use Rattle.cw_actions.proofs.Resulting.Images as no_image

-- ---- bytes that tell what runs are not bad

hex_is_no_image : (bytes : List ℕ) → begins_hex bytes ≡ true → begins_hex bytes ≡ false → ⊥
hex_is_no_image bytes is other = absurd (cc (is, other))

-- by what they begin with
image_tells : (bytes : List ℕ) (runnable : Runnable) → begins_hex bytes ≡ false → HasRunnable bytes runnable → TellsRunnable false bytes runnable
image_tells bytes runnable is tells = subst (λ b. TellsRunnable b bytes runnable) is tells

hex_tells : (bytes : List ℕ) (runnable : Runnable) → begins_hex bytes ≡ true → HasRunnable bytes runnable → TellsRunnable true bytes runnable
hex_tells bytes runnable is tells = subst (λ b. TellsRunnable b bytes runnable) is tells

pub not_bad : (bytes : List ℕ) (runnable : Runnable) (fault : Bad) → HasRunnable bytes runnable → IsBadRunnable bytes fault → ⊥
not_bad bytes runnable (bad.Image fault) tells wrong =
    let x = image_tells bytes runnable wrong.0 tells in
    no_image.not_bad bytes x.0 fault x.1 wrong.1
not_bad bytes runnable (bad.Hex fault) tells wrong = not_both bytes runnable.cpu fault (hex_tells bytes runnable wrong.0 tells).0 wrong.1
not_bad bytes runnable _ tells wrong = absurd wrong

-- ---- they tell one thing, or are bad in one way

abbrev runnable_of : State → List (List ℕ) → Runnable
runnable_of cpu names = record { cpu = cpu; names = names }

same_runnable : (a b : Runnable) → a.cpu ≡ b.cpu → a.names ≡ b.names → a ≡ b
same_runnable a b e f = ap (λ cpu. runnable_of cpu a.names) e ∙ ap (λ names. runnable_of b.cpu names) f

module _ (starts : (code words : List ℕ) (s t : State) → IsStart code words s → IsStart code words t → s ≡ t) where
  same_image : (bytes : List ℕ) (i j : Image) → HasImage bytes i → HasImage bytes j → i ≡ j
  same_image bytes i j x y =
      let both : ◌≡◌ {A = Result Image ImageFault} (Ok i) (Ok j) = sym x ∙ y in
      cc (both)

  of_kind : (is_hex : Bool) (bytes : List ℕ) (a b : Runnable) → TellsRunnable is_hex bytes a → TellsRunnable is_hex bytes b → a ≡ b
  of_kind true bytes a b x y = same_runnable a b (one_state starts bytes a.cpu b.cpu x.0 y.0) (x.1 ∙ sym y.1)
  of_kind false bytes a b x y =
      let same : x.0 ≡ y.0 = same_image bytes x.0 y.0 x.1 y.1 in
      let start : IsStart y.0.code y.0.words a.cpu = subst (λ (i : Image). IsStart i.code i.words a.cpu) same x.2 in
      same_runnable a b (starts y.0.code y.0.words a.cpu b.cpu start y.2) (x.3 ∙ ap (λ (i : Image). i.names) same ∙ sym y.3)

  pub one_runnable : (bytes : List ℕ) (a b : Runnable) → HasRunnable bytes a → HasRunnable bytes b → a ≡ b
  one_runnable bytes a b x y = of_kind (begins_hex bytes) bytes a b x y

pub one_bad : (bytes : List ℕ) (f g : Bad) → IsBadRunnable bytes f → IsBadRunnable bytes g → f ≡ g
one_bad bytes (bad.Image f) (bad.Image g) x y = ap bad.Image (no_image.one_wrong bytes f g x.1 y.1)
one_bad bytes (bad.Image f) (bad.Hex g) x y = absurd (hex_is_no_image bytes y.0 x.0)
one_bad bytes (bad.Hex f) (bad.Image g) x y = absurd (hex_is_no_image bytes x.0 y.0)
one_bad bytes (bad.Hex f) (bad.Hex g) x y = ap bad.Hex (one_fault bytes f g x.1 y.1)
one_bad bytes (bad.Object f) g x y = absurd x
one_bad bytes (bad.Library f) g x y = absurd x
one_bad bytes (bad.Image f) _ x y = absurd y
one_bad bytes (bad.Hex f) _ x y = absurd y

-- ---- its kind

pub stop_is : (files : List Told) (texts : List (List ℕ)) (taken : ℕ) (before after : Counts) (s : Status) → StopsRunnables files texts taken before after s → BadStop Bad IsBadRunnable (λ fault. fault) files texts taken before after s
stop_is files texts taken before after (BadFile number fault) x = bad_stop Bad IsBadRunnable (λ fault. fault) files texts taken before after number fault x
stop_is files texts taken before after _ x = inl x

abbrev pub runnable_files : Kind
runnable_files = bad_files Bad IsBadRunnable (λ fault. fault) Runnable HasRunnable not_bad StopsRunnables stop_is
