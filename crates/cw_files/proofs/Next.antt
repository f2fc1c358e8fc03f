-- A file that was not read stops the call, whatever its kind.
use Rattle.std.proofs.Common.{◌≡◌, ℕ, ◌<◌, ◌≤◌, List, [], ◌∷◌, ◌++◌, length, map, slice_get, Some, Result, Ok, Err, IfOk, IfErr, All, refl, ap, sym, subst, ◌∙◌}
use Rattle.cw_io.specs.File.{Told, Is}
use Rattle.cw_unit.specs.declared.unit.Unit.{Unit as SourceUnit}
use Rattle.cw_say.specs.compile.Texts.{text_limit, IsUnitOf}
use Rattle.cw_build.specs.Building.{IsMadeOf}
use Rattle.cw_image.specs.declared.image.Image.{Image}
use Rattle.cw_say.specs.declared.status.Status.{Status}
use Rattle.cw_say.specs.declared.status.Status.TheVariants.{Refused, NoMemory, BadFile}
use Rattle.cw_say.specs.declared.status.Bad.TheVariants.{Object, Image as BadImage}
use Rattle.cw_files.specs.declared.segments.Segment.{Segment}
use Rattle.cw_files.specs.declared.segments.Segments.{Segments}
use Rattle.cw_build.specs.declared.made.Made.{Made}
use Rattle.cw_build.specs.Compiled.{object_of}
use Rattle.cw_unit.specs.Storage.{layout_of}
use Rattle.std.proofs.lemmas.List.{map-append}
use Rattle.std.specs.Result.{IsErrAnd}
use Rattle.cw_files.specs.Texts.{HasUnit, HasObject, HasImage, object_limit}
use Rattle.cw_files.specs.Reading.{Counts, SameCounts, IsUnread, StopsTexts, StopsObjects, StopsImages, AnswersUnits, AnswersObjects, AnswersImage, AreSegmentsOf}
use Rattle.cw_files.specs.Taking.{Takes, AnswersUnit, AnswersObject}
use Rattle.cw_files.proofs.Taking.{takes_none, takes_more, takes_all, stops_unread, stops_refused, counts_same}

pub unread_text : (files : List Told) (texts : List (List ℕ)) (taken : ℕ) (before after : Counts) (status : Status) → IsUnread text_limit files taken before after status
    → StopsTexts files texts taken before after status
unread_text files texts taken before after (Refused file fault) unread = absurd unread
unread_text files texts taken before after _ unread = unread

pub unread_object : (files : List Told) (texts : List (List ℕ)) (taken : ℕ) (before after : Counts) (status : Status) → IsUnread object_limit files taken before after status
    → StopsObjects files texts taken before after status
unread_object files texts taken before after (BadFile file (Object fault)) unread = absurd unread
unread_object files texts taken before after _ unread = unread

pub unread_image : (files : List Told) (texts : List (List ℕ)) (taken : ℕ) (before after : Counts) (status : Status) → IsUnread object_limit files taken before after status
    → StopsImages files texts taken before after status
unread_image files texts taken before after (BadFile file (BadImage fault)) unread = absurd unread
unread_image files texts taken before after _ unread = unread

-- ---- texts

pub made_unit : (text : List ℕ) (u : SourceUnit) (segment : Segment) → All (λ b. b < 256) text → IsUnitOf text u → (segment.unit ≡ u) × IsMadeOf u segment.made
    → HasUnit text segment.unit × IsMadeOf segment.unit segment.made
made_unit text u segment bytes is_unit made =
    subst (λ v. HasUnit text v × IsMadeOf v segment.made) (sym made.0) (record { bytes = bytes; is_unit = is_unit }, made.1)

-- where memory was wanted, the call stops
pub unit_no_memory : (files : List Told) (texts : List (List ℕ)) (number : ℕ) (before after : Counts) (result : Result Segment Status) → IfErr result (λ status. status ≡ NoMemory)
    → IfErr result (λ status. StopsTexts files texts number before after status)
unit_no_memory files texts number before after (Ok segment) none = tt
unit_no_memory files texts number before after (Err status) none = subst (λ s. StopsTexts files texts number before after s) (sym none) tt

pub unit_taken : (files : List Told) (us : List SourceUnit) (file : Told) (text : List ℕ) (number : ℕ) (before after : Counts) (result : Result Segment Status)
    → Takes text_limit HasUnit files us → length us ≡ number → slice_get files number ≡ Some file → Is file text → length text ≤ text_limit → SameCounts before after
    → IfOk result (λ segment. HasUnit text segment.unit × IsMadeOf segment.unit segment.made)
    → ((told : List Told) (texts : List (List ℕ)) (b a : Counts) → slice_get texts number ≡ Some text → IfErr result (λ status. StopsTexts told texts number b a status))
    → AnswersUnit files us before after result
unit_taken files us file text number before after (Ok segment) takes count at is within same made stops =
    (takes_more text_limit HasUnit files us file text segment.unit takes (ap (λ n. slice_get files n) count ∙ at) is within made.0, made.1, same)
unit_taken files us file text number before after (Err status) takes count at is within same made stops =
    stops_refused text_limit HasUnit (λ texts taken. StopsTexts files texts taken before after status) files us file text takes (ap (λ n. slice_get files n) count ∙ at) is within
    (λ texts here. subst (λ n. StopsTexts files texts n before after status) (sym count) (stops files texts before after (ap (λ n. slice_get texts n) (sym count) ∙ here)))

pub unit_unread : (files : List Told) (us : List SourceUnit) (number : ℕ) (before after : Counts) (status : Status) → Takes text_limit HasUnit files us → length us ≡ number
    → IsUnread text_limit files number before after status → AnswersUnit files us before after (Err status)
unit_unread files us number before after status takes count unread =
    stops_unread text_limit HasUnit (λ texts taken. StopsTexts files texts taken before after status) files us takes
    (λ texts. subst (λ n. StopsTexts files texts n before after status) (sym count) (unread_text files texts number before after status unread))

-- what was taken before the file that ended the call
pub units_stopped : (files : List Told) (us : List SourceUnit) (before now after : Counts) (given : Status) (result : Result Segments Status) → SameCounts before now
    → AnswersUnit files us now after (Err given) → IsErrAnd result (λ status. status ≡ given) → AnswersUnits files before after result
units_stopped files us before now after given (Ok segments) same stops is = absurd is
units_stopped files us before now after given (Err status) same stops is =
    subst (λ s. AnswersUnits files before after (Err s)) (sym is) (subst (λ k. AnswersUnit files us k after (Err given)) (counts_same before now same) stops)

pub units_no_memory : (files : List Told) (us : List SourceUnit) (before after : Counts) (given : Status) (result : Result Segments Status) → Takes text_limit HasUnit files us
    → given ≡ NoMemory → IsErrAnd result (λ status. status ≡ given) → AnswersUnits files before after result
units_no_memory files us before after given (Ok segments) takes none is = absurd is
units_no_memory files us before after given (Err status) takes none is =
    subst (λ s. AnswersUnits files before after (Err s)) (sym (is ∙ none))
    (stops_unread text_limit HasUnit (λ texts taken. StopsTexts files texts taken before after NoMemory) files us takes (λ texts. tt))

-- no segments yet
pub no_segments : (segments : Segments) → AreSegmentsOf [] segments → AreSegmentsOf segments.units segments
no_segments segments none = subst (λ us. AreSegmentsOf us segments) (sym none.units) none

-- one more segment
pub segments_more : (old new : Segments) (u : SourceUnit) (made : Made) → AreSegmentsOf old.units old → IsMadeOf u made → new.units ≡ old.units ++ u ∷ []
    → new.layouts ≡ old.layouts ++ made.layout ∷ [] → new.objects ≡ old.objects ++ made.object ∷ [] → AreSegmentsOf new.units new
segments_more old new u made are is units layouts objects = record {
  units = refl;
  layouts = layouts ∙ ap (λ xs. xs ++ made.layout ∷ []) are.layouts ∙ ap (λ x. map layout_of old.units ++ x ∷ []) is.layout ∙ sym (map-append layout_of old.units (u ∷ [])) ∙ ap (λ us. map layout_of us) (sym units);
  objects = objects ∙ ap (λ xs. xs ++ made.object ∷ []) are.objects ∙ ap (λ x. map object_of old.units ++ x ∷ []) is.object ∙ sym (map-append object_of old.units (u ∷ [])) ∙ ap (λ us. map object_of us) (sym units);
}

-- ---- objects

pub object_taken : (files : List Told) (objects : List (List ℕ)) (file : Told) (bytes : List ℕ) (number : ℕ) (before after : Counts) (result : Result (List ℕ) Status)
    → Takes object_limit HasObject files objects → length objects ≡ number → slice_get files number ≡ Some file → Is file bytes → length bytes ≤ object_limit
    → SameCounts before after → IfOk result (λ object. HasObject bytes object)
    → ((told : List Told) (texts : List (List ℕ)) (b a : Counts) → slice_get texts number ≡ Some bytes → IfErr result (λ status. StopsObjects told texts number b a status))
    → AnswersObject files objects before after result
object_taken files objects file bytes number before after (Ok object) takes count at is within same made stops =
    (takes_more object_limit HasObject files objects file bytes object takes (ap (λ n. slice_get files n) count ∙ at) is within made, same)
object_taken files objects file bytes number before after (Err status) takes count at is within same made stops =
    stops_refused object_limit HasObject (λ texts taken. StopsObjects files texts taken before after status) files objects file bytes takes
    (ap (λ n. slice_get files n) count ∙ at) is within
    (λ texts here. subst (λ n. StopsObjects files texts n before after status) (sym count) (stops files texts before after (ap (λ n. slice_get texts n) (sym count) ∙ here)))

pub object_unread : (files : List Told) (objects : List (List ℕ)) (number : ℕ) (before after : Counts) (status : Status) → Takes object_limit HasObject files objects
    → length objects ≡ number → IsUnread object_limit files number before after status → AnswersObject files objects before after (Err status)
object_unread files objects number before after status takes count unread =
    stops_unread object_limit HasObject (λ texts taken. StopsObjects files texts taken before after status) files objects takes
    (λ texts. subst (λ n. StopsObjects files texts n before after status) (sym count) (unread_object files texts number before after status unread))

pub objects_stopped : (files : List Told) (objects : List (List ℕ)) (before now after : Counts) (given : Status) (result : Result (List (List ℕ)) Status) → SameCounts before now
    → AnswersObject files objects now after (Err given) → IsErrAnd result (λ status. status ≡ given) → AnswersObjects files before after result
objects_stopped files objects before now after given (Ok all) same stops is = absurd is
objects_stopped files objects before now after given (Err status) same stops is =
    subst (λ s. AnswersObjects files before after (Err s)) (sym is) (subst (λ k. AnswersObject files objects k after (Err given)) (counts_same before now same) stops)

pub objects_no_memory : (files : List Told) (objects : List (List ℕ)) (before after : Counts) (given : Status) (result : Result (List (List ℕ)) Status)
    → Takes object_limit HasObject files objects → given ≡ NoMemory → IsErrAnd result (λ status. status ≡ given) → AnswersObjects files before after result
objects_no_memory files objects before after given (Ok all) takes none is = absurd is
objects_no_memory files objects before after given (Err status) takes none is =
    subst (λ s. AnswersObjects files before after (Err s)) (sym (is ∙ none))
    (stops_unread object_limit HasObject (λ texts taken. StopsObjects files texts taken before after NoMemory) files objects takes (λ texts. tt))

-- ---- the one image

pub image_taken : (file : Told) (bytes : List ℕ) (before after : Counts) (result : Result Image Status) → Is file bytes → length bytes ≤ object_limit → SameCounts before after
    → IfOk result (λ image. HasImage bytes image)
    → ((told : List Told) (texts : List (List ℕ)) (b a : Counts) → slice_get texts 0 ≡ Some bytes → IfErr result (λ status. StopsImages told texts 0 b a status))
    → AnswersImage file before after result
image_taken file bytes before after (Ok image) is within same made stops =
    (takes_all object_limit HasImage (file ∷ []) (image ∷ []) (takes_more object_limit HasImage (file ∷ []) [] file bytes image (takes_none object_limit HasImage (file ∷ [])) refl is within made) refl, same)
image_taken file bytes before after (Err status) is within same made stops =
    stops_refused object_limit HasImage (λ texts taken. StopsImages (file ∷ []) texts taken before after status) (file ∷ []) [] file bytes
    (takes_none object_limit HasImage (file ∷ [])) refl is within (λ texts here. stops (file ∷ []) texts before after here)

pub image_unread : (file : Told) (before after : Counts) (status : Status) → IsUnread object_limit (file ∷ []) 0 before after status → AnswersImage file before after (Err status)
image_unread file before after status unread =
    stops_unread object_limit HasImage (λ texts taken. StopsImages (file ∷ []) texts taken before after status) (file ∷ []) [] (takes_none object_limit HasImage (file ∷ []))
    (λ texts. unread_image (file ∷ []) texts 0 before after status unread)
