-- What runs: an image, or a HEX text.
use Rattle.std.proofs.Common.{◌≡◌, ℕ, ◌≤◌, false, List, [], ◌∷◌, length, slice_get, Option, Some, None, Result, Ok, Err, IfOk, IfErr, refl, ap, ◌∙◌}
use Rattle.cw_io.specs.File.{Told, Is}
use Rattle.cw_image.specs.declared.fault.ImageFault.{ImageFault}
use Rattle.cw_say.specs.declared.status.Status.{Status}
use Rattle.cw_say.specs.declared.status.Status.TheVariants.{BadFile}
use Rattle.cw_say.specs.declared.status.Bad.TheVariants.{Image as BadImage}
use Rattle.cw_files.specs.declared.images.Runnable.{Runnable}
use Rattle.cw_files.specs.Texts.{IsBad, begins_hex, HasRunnable, IsBadRunnable, object_limit}
use Rattle.cw_files.specs.Reading.{Counts, SameCounts, IsBadAt, IsUnread, StopsImages, StopsRunnables, AnswersRunnable}
use Rattle.cw_files.proofs.Taking.{takes_none, takes_more, takes_all, stops_unread, stops_refused}

some_is : (a b : List ℕ) → Some a ≡ Some b → a ≡ b
some_is a b e = cc

bad_image : (o : Option (List ℕ)) (bytes : List ℕ) (fault : ImageFault) → o ≡ Some bytes → begins_hex bytes ≡ false → IsBadAt IsBad o (BadImage fault) → IsBadAt IsBadRunnable o (BadImage fault)
bad_image None bytes fault at is wrong = absurd wrong
bad_image (Some other) bytes fault at is wrong = (ap begins_hex (some_is other bytes at) ∙ is, wrong)

-- what is no image, and is not taken for a HEX text, stops the reading
pub image_stops : (files : List Told) (texts : List (List ℕ)) (before after : Counts) (bytes : List ℕ) (status : Status) → begins_hex bytes ≡ false → slice_get texts 0 ≡ Some bytes
    → StopsImages files texts 0 before after status → StopsRunnables files texts 0 before after status
image_stops files texts before after bytes (BadFile number (BadImage fault)) is at x =
    (x.0, bad_image (slice_get texts number) bytes fault (ap (λ n. slice_get texts n) x.0 ∙ at) is x.1)
image_stops files texts before after bytes (BadFile number _) is at x = absurd x
image_stops files texts before after bytes _ is at x = x

-- ---- the one file

unread_runnable : (files : List Told) (texts : List (List ℕ)) (taken : ℕ) (before after : Counts) (status : Status) → IsUnread object_limit files taken before after status
    → StopsRunnables files texts taken before after status
unread_runnable files texts taken before after (BadFile file fault) unread = absurd unread
unread_runnable files texts taken before after _ unread = unread

pub runnable_taken : (file : Told) (bytes : List ℕ) (before after : Counts) (result : Result Runnable Status) → Is file bytes → length bytes ≤ object_limit → SameCounts before after
    → IfOk result (λ runnable. HasRunnable bytes runnable)
    → ((told : List Told) (texts : List (List ℕ)) (b a : Counts) → slice_get texts 0 ≡ Some bytes → IfErr result (λ status. StopsRunnables told texts 0 b a status))
    → AnswersRunnable file before after result
runnable_taken file bytes before after (Ok runnable) is within same made stops =
    (takes_all object_limit HasRunnable (file ∷ []) (runnable ∷ []) (takes_more object_limit HasRunnable (file ∷ []) [] file bytes runnable (takes_none object_limit HasRunnable (file ∷ [])) refl is within made) refl, same)
runnable_taken file bytes before after (Err status) is within same made stops =
    stops_refused object_limit HasRunnable (λ texts taken. StopsRunnables (file ∷ []) texts taken before after status) (file ∷ []) [] file bytes
    (takes_none object_limit HasRunnable (file ∷ [])) refl is within (λ texts here. stops (file ∷ []) texts before after here)

pub runnable_unread : (file : Told) (before after : Counts) (status : Status) → IsUnread object_limit (file ∷ []) 0 before after status → AnswersRunnable file before after (Err status)
runnable_unread file before after status unread =
    stops_unread object_limit HasRunnable (λ texts taken. StopsRunnables (file ∷ []) texts taken before after status) (file ∷ []) [] (takes_none object_limit HasRunnable (file ∷ []))
    (λ texts. unread_runnable (file ∷ []) texts 0 before after status unread)
