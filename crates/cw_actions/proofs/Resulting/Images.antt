-- Images as they are read.
use Rattle.std.proofs.Common.{◌≡◌, ℕ, List, Result, Ok, Err, sym, ◌∙◌, inl}
use Rattle.cw_io.specs.File.{Told}
use Rattle.cw_image.specs.declared.image.Image.{Image}
use Rattle.cw_image.specs.declared.fault.ImageFault.{ImageFault}
use Rattle.cw_files.specs.Texts.{HasImage, IsBad}
use Rattle.cw_files.specs.Reading.{Counts, StopsImages}
use Rattle.cw_say.specs.declared.status.Bad.TheVariants.{Image as BadImage}
use Rattle.cw_say.specs.declared.status.Status.{Status}
use Rattle.cw_say.specs.declared.status.Status.TheVariants.{BadFile}
use Rattle.cw_actions.proofs.Resulting.Outcomes.{Kind, BadStop, bad_stop, bad_files}

-- the bytes are no image, by what is wrong first
abbrev IsNoImage : (bytes : List ℕ) → ImageFault → Type 0
IsNoImage bytes fault = IsBad bytes (BadImage fault)

pub not_bad : (bytes : List ℕ) (image : Image) (fault : ImageFault) → HasImage bytes image → IsNoImage bytes fault → ⊥
not_bad bytes image fault is bad =
    let both : ◌≡◌ {A = Result Image ImageFault} (Ok image) (Err fault) = sym is ∙ bad.0 in
    absurd (cc (both))

pub one_wrong : (bytes : List ℕ) (f g : ImageFault) → IsNoImage bytes f → IsNoImage bytes g → f ≡ g
one_wrong bytes f g x y =
    let both : ◌≡◌ {A = Result Image ImageFault} (Err f) (Err g) = sym x.0 ∙ y.0 in
    cc (both)

pub stop_is : (files : List Told) (texts : List (List ℕ)) (taken : ℕ) (before after : Counts) (s : Status) → StopsImages files texts taken before after s → BadStop ImageFault IsBad BadImage files texts taken before after s
stop_is files texts taken before after (BadFile number (BadImage fault)) x = bad_stop ImageFault IsBad BadImage files texts taken before after number fault x
stop_is files texts taken before after _ x = inl x

abbrev pub images : Kind
images = bad_files ImageFault IsBad BadImage Image HasImage not_bad StopsImages stop_is
