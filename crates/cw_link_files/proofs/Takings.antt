-- Files that were taken as objects or libraries, and one that was not.
use Rattle.std.proofs.Common.{◌≡◌, ℕ, ◌+◌, ◌*◌, ◌≤◌, Bool, true, false, List, [], ◌∷◌, ◌++◌, length, slice_get, Some, Result, Ok, Err, OnOk, IfErr, refl, ap, sym, subst, arith, ◌∙◌, append_assoc, length-append, All}
use Rattle.std.specs.Result.{IsErrAnd}
use Rattle.std.specs.List.{AllByRecursion}
use Rattle.std.proofs.lemmas.List.Elements.{All-nil, All-cons, All-append}
use Rattle.cw_io.specs.File.{Told, Is}
use Rattle.cw_view.specs.ObjectFormat.{IsObject}
use Rattle.cw_lib.specs.LibraryFormat.{IsMember, IsLibrary}
use Rattle.cw_files.specs.Texts.{object_limit}
use Rattle.cw_files.specs.Reading.{Counts, SameCounts, IsUnread, HaveValues, AllTaken}
use Rattle.cw_files.specs.Taking.{Takes}
use Rattle.cw_files.proofs.Taking.{takes_more, stops_unread, stops_refused, counts_same}
use Rattle.cw_link_files.specs.Parts.{Part, Given, Members, begins_library, TellsPart, HasPart, given_objects, all_members}
use Rattle.cw_link_files.specs.Taken.{StopsParts, AreFilesOf, AreObjects, AreMore, AnswersPart, TookFile, AnswersParts}
use Rattle.cw_link_files.specs.declared.reading.LinkFiles.{LinkFiles}
use Rattle.cw_files.specs.say.declared.status.Status.{Status}
use Rattle.cw_files.specs.say.declared.status.Status.TheVariants.{BadFile}

unread_part : (files : List Told) (texts : List (List ℕ)) (taken : ℕ) (before after : Counts) (status : Status) → IsUnread object_limit files taken before after status
    → StopsParts files texts taken before after status
unread_part files texts taken before after (BadFile file fault) unread = absurd unread
unread_part files texts taken before after _ unread = unread

-- ---- parts behind others

pub given_append : (xs ys : List Part) → given_objects (xs ++ ys) ≡ given_objects xs ++ given_objects ys
given_append [] ys = refl
given_append (Given object ∷ xs) ys = ap (λ more. object ∷ more) (given_append xs ys)
given_append (Members members ∷ xs) ys = given_append xs ys

pub members_append : (xs ys : List Part) → all_members (xs ++ ys) ≡ all_members xs ++ all_members ys
members_append [] ys = refl
members_append (Given object ∷ xs) ys = members_append xs ys
members_append (Members members ∷ xs) ys = ap (λ more. members ++ more) (members_append xs ys) ∙ sym (append_assoc members (all_members xs) (all_members ys))

pub files_of_more : (old new : LinkFiles) (parts : List Part) (part : Part) → AreFilesOf parts old → AreMore old new part → AreFilesOf (parts ++ part ∷ []) new
files_of_more old new parts part are more = record {
  objects = more.objects ∙ ap (λ xs. xs ++ given_objects (part ∷ [])) are.objects ∙ sym (given_append parts (part ∷ []));
  members = more.members ∙ ap (λ xs. xs ++ all_members (part ∷ [])) are.members ∙ sym (members_append parts (part ∷ []));
}

-- ---- one file

-- a library
pub has_library : (bytes : List ℕ) (members : List (List ℕ)) → begins_library bytes ≡ true → IsLibrary bytes members → HasPart bytes (Members members)
has_library bytes members begins is = subst (λ b. TellsPart b bytes (Members members)) (sym begins) is

-- an object
pub has_object : (bytes object : List ℕ) → begins_library bytes ≡ false → IsObject bytes → object ≡ bytes → HasPart bytes (Given object)
has_object bytes object begins is same = subst (λ b. TellsPart b bytes (Given object)) (sym begins) (is, same)

pub file_taken : (files : List Told) (parts : List Part) (file : Told) (bytes : List ℕ) (number : ℕ) (before after : Counts) (old new : LinkFiles) (result : Result (Unit {0}) Status)
    → Takes object_limit HasPart files parts → AreFilesOf parts old → length parts ≡ number → slice_get files number ≡ Some file → Is file bytes → length bytes ≤ object_limit → SameCounts before after
    → OnOk result (TookFile bytes old new)
    → ((told : List Told) (texts : List (List ℕ)) (b a : Counts) → slice_get texts number ≡ Some bytes → IfErr result (λ status. StopsParts told texts number b a status))
    → AnswersPart files parts before after new result
file_taken files parts file bytes number before after old new (Ok x) takes are count at is within same took stops =
    (took.0, takes_more object_limit HasPart files parts file bytes took.0 takes (ap (λ n. slice_get files n) count ∙ at) is within took.1, files_of_more old new parts took.0 are took.2, same)
file_taken files parts file bytes number before after old new (Err status) takes are count at is within same took stops =
    stops_refused object_limit HasPart (λ texts taken. StopsParts files texts taken before after status) files parts file bytes takes (ap (λ n. slice_get files n) count ∙ at) is within
    (λ texts here. subst (λ n. StopsParts files texts n before after status) (sym count) (stops files texts before after (ap (λ n. slice_get texts n) (sym count) ∙ here)))

pub file_unread : (files : List Told) (parts : List Part) (number : ℕ) (before after : Counts) (taken : LinkFiles) (status : Status) → Takes object_limit HasPart files parts
    → length parts ≡ number → IsUnread object_limit files number before after status → AnswersPart files parts before after taken (Err status)
file_unread files parts number before after taken status takes count unread =
    stops_unread object_limit HasPart (λ texts number. StopsParts files texts number before after status) files parts takes
    (λ texts. subst (λ n. StopsParts files texts n before after status) (sym count) (unread_part files texts number before after status unread))

-- what was taken before the file that ended the call
pub parts_stopped : (files : List Told) (parts : List Part) (before now after : Counts) (taken : LinkFiles) (given : Status) (result : Result LinkFiles Status) → SameCounts before now
    → AnswersPart files parts now after taken (Err given) → IsErrAnd result (λ status. status ≡ given) → AnswersParts files before after result
parts_stopped files parts before now after taken given (Ok all) same stops is = absurd is
parts_stopped files parts before now after taken given (Err status) same stops is =
    subst (λ s. AnswersParts files before after (Err s)) (sym is) (subst (λ k. AnswersPart files parts k after taken (Err given)) (counts_same before now same) stops)

-- ---- all files

all_from_recursion : (members : List (List ℕ)) → AllByRecursion IsMember members → All IsObject members
all_from_recursion [] all = All-nil IsObject
all_from_recursion (member ∷ members) all = All-cons IsObject member members all.0.object (all_from_recursion members all.1)

-- what was taken are objects, of each file one or no more than 200
pub record AreOpened (n : ℕ) (parts : List Part) : Type 0 where
  pub objects : All IsObject (given_objects parts)
  pub members : All IsObject (all_members parts)
  pub few : length (given_objects parts) ≤ n
  pub fewer : (k : ℕ) → n ≤ k → length (all_members parts) + 200 * k ≤ 200 * n + 200 * k

opened_part : (bytes : List ℕ) (part : Part) (n : ℕ) (parts : List Part) → HasPart bytes part → AreOpened n parts → AreOpened (n + 1) (part ∷ parts)
opened_part bytes part n parts has are = at (begins_library bytes) part has
  where
    at : (b : Bool) (part : Part) → TellsPart b bytes part → AreOpened (n + 1) (part ∷ parts)
    at true (Given object) x = absurd x
    at false (Given object) x = record {
      objects = All-cons IsObject object (given_objects parts) (subst IsObject (sym x.1) x.0) are.objects;
      members = are.members;
      few = omega (arith, are.few);
      fewer = λ k h. omega (arith, are.fewer k (omega (arith, h)));
    }
    at true (Members members) x = record {
      objects = are.objects;
      members = All-append IsObject members (all_members parts) (all_from_recursion members x.objects) are.members;
      few = omega (arith, are.few);
      fewer = λ k h. omega (arith, are.fewer k (omega (arith, h)), x.number.1, length-append members (all_members parts));
    }
    at false (Members members) x = absurd x

opened_parts : (texts : List (List ℕ)) (parts : List Part) → HaveValues HasPart texts parts → AreOpened (length parts) parts
opened_parts texts [] values = record { objects = All-nil IsObject; members = All-nil IsObject; few = omega arith; fewer = λ k h. omega arith }
opened_parts [] (part ∷ parts) values = absurd values
opened_parts (text ∷ texts) (part ∷ parts) values = subst (λ n. AreOpened n (part ∷ parts)) (omega arith) (opened_part text part (length parts) parts values.0 (opened_parts texts parts values.1))

pub all_objects : (files : List Told) (parts : List Part) (taken : LinkFiles) → length files ≤ 200 → AllTaken object_limit HasPart files parts → AreFilesOf parts taken → AreObjects taken
all_objects files parts taken few all are =
    let opened = opened_parts all.texts parts all.have_values in
    record {
      objects = subst (λ xs. All IsObject xs) (sym are.objects) opened.objects;
      members = subst (λ xs. All IsObject xs) (sym are.members) opened.members;
      few = omega (arith, ap length are.objects, opened.few, all.all, few);
      fewer = omega (arith, ap length are.members, opened.fewer (length parts) (omega arith), all.all, few);
    }
