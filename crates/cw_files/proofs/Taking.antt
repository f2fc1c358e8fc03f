-- Files that were taken, and one more at their end.
use Rattle.std.proofs.Common.{◌≡◌, ℕ, zero, suc, ◌+◌, ◌<◌, ◌≤◌, List, [], ◌∷◌, ◌++◌, length, map, slice_get, slice_index_or, Some, refl, ap, sym, subst, arith, ◌∙◌, length-append}
use Rattle.std.proofs.lemmas.List.{length-map}
use Rattle.std.specs.Borrow.{Bor}
use Rattle.cw_io.specs.File.{Told, Is, AllStay}
use Rattle.cw_files.specs.Reading.{HaveBytes, HaveValues, AllTaken, Stopped, Counts, counts_at, SameCounts}
use Rattle.cw_files.specs.Taking.{Takes}

pub have_bytes_more : (limit : ℕ) (files : List Told) (texts : List (List ℕ)) (file : Told) (text : List ℕ) → HaveBytes limit files texts
    → slice_get files (length texts) ≡ Some file → Is file text → length text ≤ limit → HaveBytes limit files (texts ++ text ∷ [])
have_bytes_more limit [] [] file text have at is within = absurd (cc)
have_bytes_more limit (f ∷ files) [] file text have at is within =
    let same : f ≡ file = cc in
    (subst (λ f. Is f text) (sym same) is, within, tt)
have_bytes_more limit [] (t ∷ texts) file text have at is within = absurd have
have_bytes_more limit (f ∷ files) (t ∷ texts) file text have at is within = (have.0, have.1, have_bytes_more limit files texts file text have.2 at is within)

pub have_values_more : {X : Type 0} (Accepts : List ℕ → X → Type 0) (texts : List (List ℕ)) (xs : List X) (text : List ℕ) (x : X) → HaveValues Accepts texts xs
    → length texts ≡ length xs → Accepts text x → HaveValues Accepts (texts ++ text ∷ []) (xs ++ x ∷ [])
have_values_more Accepts [] [] text x have same accepted = (accepted, tt)
have_values_more Accepts (t ∷ texts) [] text x have same accepted = absurd (omega (arith, same))
have_values_more Accepts [] (y ∷ xs) text x have same accepted = absurd have
have_values_more Accepts (t ∷ texts) (y ∷ xs) text x have same accepted = (have.0, have_values_more Accepts texts xs text x have.1 (omega (arith, same)) accepted)

-- a text behind these that is not accepted
have_values_still : {X : Type 0} (Accepts : List ℕ → X → Type 0) (texts more : List (List ℕ)) (xs : List X) → HaveValues Accepts texts xs → HaveValues Accepts (texts ++ more) xs
have_values_still Accepts texts more [] have = tt
have_values_still Accepts [] more (x ∷ xs) have = absurd have
have_values_still Accepts (text ∷ texts) more (x ∷ xs) have = (have.0, have_values_still Accepts texts more xs have.1)

pub last_text : (texts : List (List ℕ)) (text : List ℕ) → slice_get (texts ++ text ∷ []) (length texts) ≡ Some text
last_text [] text = refl
last_text (t ∷ texts) text = last_text texts text

-- ---- what was taken so far

pub takes_none : {X : Type 0} (limit : ℕ) (Accepts : List ℕ → X → Type 0) (files : List Told) → Takes limit Accepts files []
takes_none limit Accepts files = record { texts = []; have_bytes = tt; have_values = tt; same_length = refl }

pub takes_more : {X : Type 0} (limit : ℕ) (Accepts : List ℕ → X → Type 0) (files : List Told) (xs : List X) (file : Told) (text : List ℕ) (x : X) → Takes limit Accepts files xs
    → slice_get files (length xs) ≡ Some file → Is file text → length text ≤ limit → Accepts text x → Takes limit Accepts files (xs ++ x ∷ [])
takes_more limit Accepts files xs file text x takes at is within accepted =
    let same = takes.same_length in
    record {
      texts = takes.texts ++ text ∷ [];
      have_bytes = have_bytes_more limit files takes.texts file text takes.have_bytes (ap (λ n. slice_get files n) same ∙ at) is within;
      have_values = have_values_more Accepts takes.texts xs text x takes.have_values same accepted;
      same_length = omega (arith, length-append takes.texts (text ∷ []), same, length-append xs (x ∷ []));
    }

pub takes_all : {X : Type 0} (limit : ℕ) (Accepts : List ℕ → X → Type 0) (files : List Told) (xs : List X) → Takes limit Accepts files xs → length xs ≡ length files
    → AllTaken limit Accepts files xs
takes_all limit Accepts files xs takes all = record { texts = takes.texts; have_bytes = takes.have_bytes; have_values = takes.have_values; all = all }

-- ---- the file that was not taken

pub stops_unread : {X : Type 0} (limit : ℕ) (Accepts : List ℕ → X → Type 0) (Stops : List (List ℕ) → (taken : ℕ) → Type 0) (files : List Told) (xs : List X) → Takes limit Accepts files xs
    → ((texts : List (List ℕ)) → Stops texts (length xs)) → Stopped limit Accepts Stops files
stops_unread limit Accepts Stops files xs takes stops = record { texts = takes.texts; values = xs; have_bytes = takes.have_bytes; have_values = takes.have_values; stops = stops takes.texts }

-- it was read, and is refused
pub stops_refused : {X : Type 0} (limit : ℕ) (Accepts : List ℕ → X → Type 0) (Stops : List (List ℕ) → (taken : ℕ) → Type 0) (files : List Told) (xs : List X) (file : Told) (text : List ℕ) → Takes limit Accepts files xs
    → slice_get files (length xs) ≡ Some file → Is file text → length text ≤ limit
    → ((texts : List (List ℕ)) → slice_get texts (length xs) ≡ Some text → Stops texts (length xs)) → Stopped limit Accepts Stops files
stops_refused limit Accepts Stops files xs file text takes at is within stops =
    let same = takes.same_length in
    record {
      texts = takes.texts ++ text ∷ [];
      values = xs;
      have_bytes = have_bytes_more limit files takes.texts file text takes.have_bytes (ap (λ n. slice_get files n) same ∙ at) is within;
      have_values = have_values_still Accepts takes.texts (text ∷ []) xs takes.have_values;
      stops = stops (takes.texts ++ text ∷ []) (ap (λ n. slice_get (takes.texts ++ text ∷ []) n) (sym same) ∙ last_text takes.texts text);
    }

-- ---- the files of the names, and the counts

abbrev pub told_of : (file_of : List ℕ → Told) → List (Bor (List ℕ)) → List Told
told_of file_of names = map (λ name. file_of name.now) names

told_at : (file_of : List ℕ → Told) (names : List (Bor (List ℕ))) (i : ℕ) (d : Bor (List ℕ)) → i < length names
    → slice_get (map (λ name. file_of name.now) names) i ≡ Some (file_of (slice_index_or names i d).now)
told_at file_of [] i d within = absurd (omega arith)
told_at file_of (name ∷ names) zero d within = refl
told_at file_of (name ∷ names) (suc i) d within = told_at file_of names i d (omega arith)

-- what no name has
abbrev pub no_name : Bor (List ℕ)
no_name = record { ref_ptr = (0, 0); now = [] }

-- the file of the next name, where no file changed so far
pub told_now : (file_of file_now : List ℕ → Told) (names : List (Bor (List ℕ))) (i number : ℕ) → i < length names
    → AllStay file_of file_now → number ≡ i → slice_get (told_of file_of names) number ≡ Some (file_now (slice_index_or names i no_name).now)
told_now file_of file_now names i number within stay same =
    ap (λ n. slice_get (told_of file_of names) n) same ∙ told_at file_of names i no_name within ∙ ap (λ told. Some told) (sym (stay (slice_index_or names i no_name).now))

-- as many as the names
pub all_names : {X : Type 0} (file_of : List ℕ → Told) (names : List (Bor (List ℕ))) (xs : List X) (i : ℕ) → length xs ≡ i → i ≡ length names → length xs ≡ length (told_of file_of names)
all_names file_of names xs i count all = count ∙ all ∙ sym (length-map names (λ name. file_of name.now))

pub counts_same : (before after : Counts) → SameCounts before after → after ≡ before
counts_same before after same = ap (λ n. counts_at n after.absences) same.0 ∙ ap (λ n. counts_at before.faults n) same.1

pub same_then : (a b c : Counts) → SameCounts a b → SameCounts b c → SameCounts a c
same_then a b c first second = (second.0 ∙ first.0, second.1 ∙ first.1)

pub one_more : {X : Type 0} (xs ys : List X) (x : X) (i : ℕ) → ys ≡ xs ++ x ∷ [] → length xs ≡ i → length ys ≡ i + 1
one_more xs ys x i is count = omega (arith, ap (λ zs. length zs) is, length-append xs (x ∷ []), count)
