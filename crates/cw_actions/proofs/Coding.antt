-- Source texts that are kept: none yet, one more, and the one at which the call stops; and the listing of their code.
use Rattle.std.proofs.Common.{◌≡◌, ℕ, ◌+◌, ◌<◌, ◌≤◌, List, [], ◌∷◌, ◌++◌, length, map, take, get_or, slice_get, Some, Result, Ok, Err, IfErr, ap, ap₂, sym, subst, ◌∙◌, arith, add-one, length-append}
use Rattle.std.proofs.Math.Seq.{take-suc}
use Rattle.std.proofs.lemmas.List.{map-append}
use Rattle.std.specs.Result.{IsErrAnd}
use Rattle.cw_io.specs.File.{Told, Is}
use Rattle.cw_unit.specs.declared.unit.Unit.{Unit as SourceUnit}
use Rattle.cw_unit.specs.declared.layout.Limits.{Limits}
use Rattle.cw_image.specs.declared.image.Image.{Image}
use Rattle.cw_tmpl.specs.declared.assembling.Code.{Code}
use Rattle.cw_build.specs.Compiled.{code_of}
use Rattle.cw_build.specs.Linking.{image_of}
use Rattle.cw_listing.specs.CodeListing.{IsCodeListing}
use Rattle.cw_correct.specs.Results.{IsCode}
use Rattle.cw_compile.specs.Texts.{text_limit}
use Rattle.cw_build.specs.Building.{IsMadeOf}
use Rattle.cw_build.specs.declared.made.Made.{Made}
use Rattle.cw_say.specs.declared.status.Status.{Status}
use Rattle.cw_say.specs.declared.status.Status.TheVariants.{NoMemory}
use Rattle.cw_files.specs.Texts.{HasUnit}
use Rattle.cw_files.specs.Reading.{HaveBytes, HaveValues, AllTaken, Counts, SameCounts, Stopped, StopsTexts, AreSegmentsOf}
use Rattle.cw_files.specs.Taking.{Takes}
use Rattle.cw_files.proofs.Taking.{have_bytes_more, have_values_more, stops_unread, stops_refused, counts_same}
use Rattle.cw_files.proofs.Next.{no_segments, segments_more}
use Rattle.cw_actions.specs.declared.code.reading.Source.{Source}
use Rattle.cw_actions.specs.declared.code.reading.Sources.{Sources}
use Rattle.cw_actions.specs.Coding.{Keeps, AnswersSources}

-- ---- what is kept

pub none_kept : (files : List Told) (sources : Sources) → sources.texts ≡ [] → AreSegmentsOf [] sources.segments → Keeps files sources
none_kept files sources none segments = record {
  have_texts = subst (λ texts. HaveBytes text_limit files texts) (sym none) tt;
  have_units = subst (λ us. HaveValues HasUnit sources.texts us) (sym segments.units) tt;
  same_length = ap (λ (texts : List (List ℕ)). length texts) none ∙ sym (ap (λ (us : List SourceUnit). length us) segments.units);
  segments = no_segments sources.segments segments;
}

pub one_kept : (files : List Told) (old new : Sources) (file : Told) (text : List ℕ) (u : SourceUnit) (made : Made) → Keeps files old
    → slice_get files (length old.segments.units) ≡ Some file → Is file text → length text ≤ text_limit → HasUnit text u → IsMadeOf u made
    → new.texts ≡ old.texts ++ text ∷ [] → new.segments.units ≡ old.segments.units ++ u ∷ []
    → new.segments.layouts ≡ old.segments.layouts ++ made.layout ∷ [] → new.segments.objects ≡ old.segments.objects ++ made.object ∷ [] → Keeps files new
one_kept files old new file text u made keeps at is within has is_made texts units layouts objects = record {
  have_texts = subst (λ ts. HaveBytes text_limit files ts) (sym texts) (have_bytes_more text_limit files old.texts file text keeps.have_texts (ap (λ n. slice_get files n) keeps.same_length ∙ at) is within);
  have_units = subst (λ ts. HaveValues HasUnit ts new.segments.units) (sym texts) (subst (λ us. HaveValues HasUnit (old.texts ++ text ∷ []) us) (sym units) (have_values_more HasUnit old.texts old.segments.units text u keeps.have_units keeps.same_length has));
  same_length = omega (arith, ap (λ (ts : List (List ℕ)). length ts) texts, length-append old.texts (text ∷ []), ap (λ (us : List SourceUnit). length us) units, length-append old.segments.units (u ∷ []), keeps.same_length);
  segments = segments_more old.segments new.segments u made keeps.segments is_made units layouts objects;
}

-- the units that were taken
abbrev pub units_of : (files : List Told) (sources : Sources) → Keeps files sources → Takes text_limit HasUnit files sources.segments.units
units_of files sources keeps = record { texts = sources.texts; have_bytes = keeps.have_texts; have_values = keeps.have_units; same_length = keeps.same_length }

-- all that were taken, where the names of the files are told otherwise
abbrev pub all_of : (files told : List Told) (sources : Sources) → files ≡ told → Keeps files sources → length sources.segments.units ≡ length files → AllTaken text_limit HasUnit told sources.segments.units
all_of files told sources same keeps all = record {
  texts = sources.texts;
  have_bytes = subst (λ fs. HaveBytes text_limit fs sources.texts) same keeps.have_texts;
  have_values = keeps.have_units;
  all = subst (λ (fs : List Told). length sources.segments.units ≡ length fs) same all;
}

-- ---- where the call stops

-- the text of the next file is refused
pub refused : (files : List Told) (us : List SourceUnit) (file : Told) (text : List ℕ) (number : ℕ) (before after : Counts) (result : Result Source Status) → Takes text_limit HasUnit files us
    → length us ≡ number → slice_get files number ≡ Some file → Is file text → length text ≤ text_limit
    → ((told : List Told) (texts : List (List ℕ)) (b a : Counts) → slice_get texts number ≡ Some text → IfErr result (λ status. StopsTexts told texts number b a status))
    → IfErr result (λ status. Stopped text_limit HasUnit (λ texts taken. StopsTexts files texts taken before after status) files)
refused files us file text number before after (Ok source) takes count at is within stops = tt
refused files us file text number before after (Err status) takes count at is within stops =
    stops_refused text_limit HasUnit (λ texts taken. StopsTexts files texts taken before after status) files us file text takes (ap (λ n. slice_get files n) count ∙ at) is within
    (λ texts here. subst (λ n. StopsTexts files texts n before after status) (sym count) (stops files texts before after (ap (λ n. slice_get texts n) (sym count) ∙ here)))

-- what was kept before the file that ended the call
pub stopped : (files : List Told) (before now after : Counts) (given : Status) (result : Result Sources Status) → SameCounts before now
    → Stopped text_limit HasUnit (λ texts taken. StopsTexts files texts taken now after given) files → IsErrAnd result (λ status. status ≡ given) → AnswersSources files before after result
stopped files before now after given (Ok sources) same stops is = absurd is
stopped files before now after given (Err status) same stops is =
    subst (λ s. AnswersSources files before after (Err s)) (sym is)
    (subst (λ k. Stopped text_limit HasUnit (λ texts taken. StopsTexts files texts taken k after given) files) (counts_same before now same) stops)

pub no_memory : (files : List Told) (sources : Sources) (before after : Counts) (given : Status) (result : Result Sources Status) → Keeps files sources
    → given ≡ NoMemory → IsErrAnd result (λ status. status ≡ given) → AnswersSources files before after result
no_memory files sources before after given (Ok all) keeps none is = absurd is
no_memory files sources before after given (Err status) keeps none is =
    subst (λ s. AnswersSources files before after (Err s)) (sym (is ∙ none))
    (stops_unread text_limit HasUnit (λ texts taken. StopsTexts files texts taken before after NoMemory) files sources.segments.units (units_of files sources keeps) (λ texts. tt))

-- ---- the code of units

-- the code of one unit more
pub one_code : (us : List SourceUnit) (k : ℕ) (u : SourceUnit) (code : Code) (old new : List Code) → k < length us → u ≡ get_or us k u → code ≡ code_of u
    → new ≡ old ++ code ∷ [] → old ≡ map code_of (take k us) → new ≡ map code_of (take (k + 1) us)
one_code us k u code old new less at is pushed so_far =
    pushed
    ∙ ap₂ (λ cs c. cs ++ c ∷ []) so_far (is ∙ ap code_of at)
    ∙ sym (map-append code_of (take k us) (get_or us k u ∷ []))
    ∙ ap (λ vs. map code_of vs) (sym (ap (λ n. take n us) (add-one k) ∙ take-suc us k u less))

-- ---- the listing

-- of code that is that of the image, with the codes of the units
pub listing_is : (us : List SourceUnit) (limits : Limits) (texts : List (List ℕ)) (image : Image) (code : List ℕ) (units : List SourceUnit) (made codes : List Code) (sources : List (List ℕ)) (text shown : List ℕ)
    → image ≡ image_of us limits → code ≡ image.code → units ≡ us → made ≡ map code_of units → codes ≡ made → sources ≡ texts → shown ≡ text
    → IsCodeListing code units codes sources text → IsCode texts us limits shown
listing_is us limits texts image code units made codes sources text shown is_image is_code are_units are_made are_codes are_texts is_shown is =
    subst (λ t. IsCode texts us limits t) (sym is_shown)
    (subst (λ x. IsCodeListing x us (map code_of us) texts text) (is_code ∙ ap (λ (i : Image). i.code) is_image)
    (subst (λ cs. IsCodeListing code us cs texts text) (are_codes ∙ are_made ∙ ap (λ vs. map code_of vs) are_units)
    (subst (λ ts. IsCodeListing code us codes ts text) are_texts
    (subst (λ vs. IsCodeListing code vs codes sources text) are_units is))))
