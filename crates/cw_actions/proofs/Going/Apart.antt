-- What is compiled apart and linked is what runs of the texts together.
use Rattle.std.proofs.Common.{◌≡◌, ℕ, Bool, true, false, List, [], ◌∷◌, ◌++◌, length, map, drop, None, Some, refl, sym, ap, ap₂, ◌∙◌, subst, arith}
use Rattle.std.proofs.lemmas.List.{length-map}
use Rattle.std.specs.Prelude.{◌↔◌, All}
use Rattle.cw_io.specs.File.{Told}
use Rattle.cw_unit.specs.declared.unit.Unit.{Unit as SourceUnit}
use Rattle.cw_unit.specs.declared.layout.Limits.{Limits}
use Rattle.cw_image.specs.ImageFormat.{image_bytes}
use Rattle.cw_image.specs.declared.image.Image.{Image}
use Rattle.cw_link.specs.Contents.{Contents}
use Rattle.cw_link.specs.LinkedImage.{linked_image}
use Rattle.cw_object.specs.ObjectContents.{contents_in}
use Rattle.cw_obj.specs.Migration.{IsMigrated}
use Rattle.cw_build.specs.Compiled.{IsCompilable, object_of}
use Rattle.cw_build.specs.Linking.{AreLinked, Links, image_of}
use Rattle.cw_view.specs.ObjectFormat.{header}
use Rattle.cw_link_files.specs.Parts.{Part, Given, Members, begins_library, TellsPart, HasPart, IsLinkList, LinksObjectsAlone}
use Rattle.cw_files.specs.Texts.{object_limit}
use Rattle.cw_files.specs.Reading.{HaveBytes, HaveValues}
use Rattle.cw_correct.specs.Calls.{Call, told_files}
use Rattle.cw_correct.specs.Meaning.{TellBytes}
use Rattle.cw_correct.specs.Results.{all_contents, LinksRight}
use Rattle.cw_say.specs.declared.status.Status.TheVariants.{Ended}
use Rattle.cw_actions.specs.Going.Apart.{WroteImage, LinksWhatRuns, AllMigrated, LinksAsMigrated}

abbrev as_told : List ℕ → Told
as_told text = Some (Some text)

abbrev bytes_in : Told → List ℕ
bytes_in None = []
bytes_in (Some None) = []
bytes_in (Some (Some bytes)) = bytes

-- bytes that begin as an object of version 2 does
abbrev BeginsObject : List ℕ → Type 0
BeginsObject bytes = (rest : List ℕ) × (bytes ≡ header 2 ++ rest)

abbrev AllBegin : List (List ℕ) → Type 0
AllBegin [] = Unit {0}
AllBegin (bytes ∷ found) = BeginsObject bytes × AllBegin found

no_library : (bytes : List ℕ) → BeginsObject bytes → begins_library bytes ≡ false
no_library bytes begins = ap begins_library begins.1

given_as : (b : Bool) (text : List ℕ) (part : Part) → b ≡ false → TellsPart b text part → part ≡ Given text
given_as true text part e has = absurd (cc (e))
given_as false text (Given object) e has = ap Given has.1
given_as false text (Members members) e has = absurd has

-- what was read is the objects that the store tells
parts_are : (found texts : List (List ℕ)) (parts : List Part) → AllBegin found → HaveBytes object_limit (map as_told found) texts → HaveValues HasPart texts parts → length parts ≡ length found → parts ≡ map Given found
parts_are [] texts [] begin have values all = refl
parts_are [] texts (part ∷ parts) begin have values all = absurd (omega (arith, all))
parts_are (bytes ∷ found) texts [] begin have values all = absurd (omega (arith, all))
parts_are (bytes ∷ found) [] (part ∷ parts) begin have values all = absurd values
parts_are (bytes ∷ found) (text ∷ texts) (part ∷ parts) begin (is, few, have) (accepted, values) all =
    let same : text ≡ bytes = sym (ap bytes_in is) in
    ap₂ (λ (x : Part) (xs : List Part). x ∷ xs) (given_as (begins_library text) text part (ap begins_library same ∙ no_library bytes begin.0) accepted ∙ ap Given same) (parts_are found texts parts begin.1 have values (omega (arith, all)))

-- of a call of `link` that ended
read : LinksObjectsAlone → (c : Call) (found : List (List ℕ)) → AllBegin found → TellBytes (told_files c) found → (right : LinksRight c Ended) → right.list ≡ found
read alone c found begin told right =
    let names : length c.names ≡ length found = sym (length-map c.names c.before.files) ∙ ap length told ∙ length-map found as_told in
    let parts : right.parts ≡ map Given found = parts_are found right.texts right.parts begin (subst (λ files. HaveBytes object_limit files right.texts) told right.have_bytes) right.have_parts (right.comes.0.all ∙ names) in
    alone found right.list (subst (λ ps. IsLinkList ps right.list) parts right.comes.0.listed)

abbrev image_for : Limits → List Contents → List ℕ
image_for limits cs = image_bytes (linked_image cs limits)

wrote : (c : Call) (cs : List Contents) (right : LinksRight c Ended) → all_contents right.list ≡ cs → AreLinked cs c.limits × WroteImage c (image_for c.limits cs)
wrote c cs right are = (subst (λ xs. AreLinked xs c.limits) are right.comes.2, subst (λ xs. WroteImage c (image_for c.limits xs)) are right.writes.0)

object_begins : (u : SourceUnit) → BeginsObject (object_of u)
unfolding object_of
object_begins u = (_, refl)

compiled_begin : (us : List SourceUnit) → AllBegin (map object_of us)
compiled_begin [] = tt
compiled_begin (u ∷ us) = (object_begins u, compiled_begin us)

pub links_what_runs : ((us : List SourceUnit) (limits : Limits) → All IsCompilable us → AreLinked (map contents_in (map object_of us)) limits ↔ Links us limits)
    → ((us : List SourceUnit) (limits : Limits) → All IsCompilable us → linked_image (map contents_in (map object_of us)) limits ≡ image_of us limits) → LinksObjectsAlone → LinksWhatRuns
links_what_runs linked image alone c us compiled told right =
    let (links, file) = wrote c (all_contents (map object_of us)) right (ap all_contents (read alone c (map object_of us) (compiled_begin us) told right)) in
    ((linked us c.limits compiled).0 links, subst (λ (i : Image). WroteImage c (image_bytes i)) (image us c.limits compiled) file)

contents_migrated : ((object migrated : List ℕ) → IsMigrated object migrated → contents_in migrated ≡ contents_in object)
    → (objects migrated : List (List ℕ)) → AllMigrated objects migrated → all_contents migrated ≡ all_contents objects
contents_migrated same [] [] all = refl
contents_migrated same [] (new ∷ migrated) all = absurd all
contents_migrated same (object ∷ objects) [] all = absurd all
contents_migrated same (object ∷ objects) (new ∷ migrated) (is, all) = ap₂ (λ (x : Contents) (xs : List Contents). x ∷ xs) (same object new is) (contents_migrated same objects migrated all)

migrated_begin : (objects migrated : List (List ℕ)) → AllMigrated objects migrated → AllBegin migrated
migrated_begin [] [] all = tt
migrated_begin [] (new ∷ migrated) all = absurd all
migrated_begin (object ∷ objects) [] all = absurd all
migrated_begin (object ∷ objects) (new ∷ migrated) (is, all) = ((drop 6 object, is.spelled), migrated_begin objects migrated all)

pub links_as_migrated : ((object migrated : List ℕ) → IsMigrated object migrated → contents_in migrated ≡ contents_in object) → LinksObjectsAlone → LinksAsMigrated
links_as_migrated same alone c objects migrated all told right =
    (wrote c (all_contents objects) right (ap all_contents (read alone c migrated (migrated_begin objects migrated all) told right) ∙ contents_migrated same objects migrated all)).1
