-- A call that reads its files, and writes what comes of all of them to one file, whatever they are read as.
use Rattle.std.proofs.Common.{◌≡◌, ◌⊎◌, ℕ, List, [], length, map, Some, refl, ◌∙◌, subst, sym, inl, inr}
use Rattle.std.proofs.lemmas.List.{length-map}
use Rattle.cw_io.specs.Count.{Rose}
use Rattle.cw_io.specs.File.{AllStay}
use Rattle.cw_files.specs.Reading.{HaveBytes, HaveValues, AllTaken, Stopped, IsUnread, SameCounts}
use Rattle.cw_correct.specs.Calls.{Call, told_files, NoFault, IsUntouched, IsUnwritten}
use Rattle.cw_correct.specs.Files.{counts_before, counts_after, AllAccepted}
use Rattle.cw_correct.specs.Meaning.{TellBytes}
use Rattle.cw_correct.specs.Saying.{SaysLast}
use Rattle.cw_correct.specs.Results.{WritesFile, IsDone}
use Rattle.cw_say.specs.declared.status.Status.{Status}
use Rattle.cw_say.specs.declared.status.Status.TheVariants.{Ended, Outside, NoMemory}
use Rattle.cw_say.specs.declared.status.Which.TheVariants.{Store, Say}
use Rattle.cw_actions.specs.Resulting.Outside.{Files, files_at}
use Rattle.cw_actions.specs.Resulting.Written.{GivesFile}
use Rattle.cw_actions.specs.Resulting.Idle.{IsIdle, AllowsIdle}
use Rattle.cw_actions.proofs.Resulting.Cases.{gives_file}
use Rattle.cw_actions.proofs.Resulting.Keeping.{Closed, says_last, writes_file}
use Rattle.cw_actions.proofs.Resulting.Readings.{Found, all_told, tells}
use Rattle.cw_actions.proofs.Resulting.Outcomes.{IsRefusal, IsRefusedAs, Kind, all_run, stop_runs, stop_done}
use Rattle.cw_actions.proofs.Resulting.Fates as fates
use Rattle.cw_actions.proofs.Resulting.Fates.{Fate, Ends}

module _ (k : Kind) (c : Call) where
  -- the reading stopped behind so many files
  abbrev StopsAt : (texts : List (List ℕ)) → (taken : ℕ) → Status → Type 0
  StopsAt texts taken s = k.Stops (told_files c) texts taken (counts_before c) (counts_after c) s

  -- why a status comes: all files were accepted, or the result was not written, or memory was wanted, or the reading stopped
  abbrev pub Comes : (texts : List (List ℕ)) → (xs : List k.Value) → Status → Type 0
  Comes texts xs Ended = AllAccepted c xs
  Comes texts xs (Outside Store) = Rose c.before.store_faults c.after.store_faults
  Comes texts xs NoMemory = Unit {0}
  Comes texts xs s = StopsAt texts (length xs) s

  by_cases : (P : Status → Type 0) (texts : List (List ℕ)) (xs : List k.Value) → (AllAccepted c xs → P Ended) → (Rose c.before.store_faults c.after.store_faults → P (Outside Store)) → P NoMemory
      → ((s : Status) → StopsAt texts (length xs) s → P s) → (s : Status) → Comes texts xs s → P s
  by_cases P texts xs ended failed wanted stops Ended x = ended x
  by_cases P texts xs ended failed wanted stops (Outside Store) x = failed x
  by_cases P texts xs ended failed wanted stops NoMemory x = wanted
  by_cases P texts xs ended failed wanted stops s x = stops s x

  -- ---- where the reading stopped

  module _ (texts : List (List ℕ)) (taken : ℕ) where
    unless_refused : (s : Status) → (IsRefusal s → ⊥) → StopsAt texts taken s → IsUnread k.limit (told_files c) taken (counts_before c) (counts_after c) s
    unless_refused s other x = at (k.stop_is (told_files c) texts taken (counts_before c) (counts_after c) s x)
      where
        at : IsUnread k.limit (told_files c) taken (counts_before c) (counts_after c) s ⊎ IsRefusedAs k.Wrong k.Refuses k.status_of texts taken s → IsUnread k.limit (told_files c) taken (counts_before c) (counts_after c) s
        at (inl y) = y
        at (inr (number, w, count, y, is)) = absurd (other (subst IsRefusal (sym is) (k.is_refusal number w)))

    -- all files stay
    pub keeps_file : AllStay c.before.files c.after.files → (name result : List ℕ) (all : Type 0) (s : Status) → StopsAt texts taken s → WritesFile c name result all s
    keeps_file stay name result all Ended x = absurd (unless_refused Ended (λ is. is) x)
    keeps_file stay name result all (Outside Store) x = inl stay
    keeps_file stay name result all _ x = stay

  stops_come : (texts : List (List ℕ)) (xs : List k.Value) (s : Status) → StopsAt texts (length xs) s → Comes texts xs s
  stops_come texts xs Ended x = absurd (unless_refused texts (length xs) Ended (λ is. is) x)
  stops_come texts xs (Outside Store) x = unless_refused texts (length xs) (Outside Store) (λ is. is) x
  stops_come texts xs NoMemory x = tt
  stops_come texts xs _ x = x

  -- ---- what is promised of the reading

  pub record Reads (texts : List (List ℕ)) (xs : List k.Value) (s : Status) : Type 0 where
    pub have_bytes : HaveBytes k.limit (told_files c) texts
    pub have_values : HaveValues k.Accepts texts xs
    pub comes : Comes texts xs s
    pub says : SaysLast c.before c.after c.names [] s
    pub completes : (told : List (List ℕ)) (others : List k.Value) → TellBytes (told_files c) told → AllTaken k.limit k.Accepts (told_files c) others → NoFault c.before c.after → IsDone s

  abbrev pub StopsReading : Status → Type 0
  StopsReading s = Stopped k.limit k.Accepts (λ texts taken. StopsAt texts taken s) (told_files c)

  abbrev pub files_after : Files
  files_after = files_at c.after.files c.after.store_faults c.after.absences

  pub accepted : (xs : List k.Value) → AllTaken k.limit k.Accepts (told_files c) xs → AllAccepted c xs
  accepted xs x = x.all ∙ length-map c.names c.before.files

  module _ (s : Status) (closed : Closed c s) where
    reads : (texts : List (List ℕ)) (xs : List k.Value) → HaveBytes k.limit (told_files c) texts → HaveValues k.Accepts texts xs → Comes texts xs s → Reads texts xs s
    reads texts xs have values comes = record {
      have_bytes = have;
      have_values = values;
      comes = comes;
      says = says_last c s (λ e. unless_refused texts (length xs) (Outside Say) (λ is. is) (subst (λ t. Comes texts xs t) e comes)) closed;
      completes = λ told others tell taken quiet.
          by_cases IsDone texts xs (λ all. tt) (λ rose. absurd (quiet.store rose)) tt
          (stop_done k c (map Some told) (tell ∙ tells told) texts xs have values quiet others taken) s comes;
    }

    pub read_stopped : (x : StopsReading s) → Reads x.texts x.values s
    read_stopped x = reads x.texts x.values x.have_bytes x.have_values (stops_come x.texts x.values s x.stops)

    pub read_all : (xs : List k.Value) (x : AllTaken k.limit k.Accepts (told_files c) xs) (between : Files) → SameCounts (counts_before c) between.counts → (name result : List ℕ) → GivesFile name result between files_after s → Reads x.texts xs s
    read_all xs x between same name result gives =
        reads x.texts xs x.have_bytes x.have_values
        (gives_file (λ t. Comes x.texts xs t) name result between files_after (λ y. accepted xs x) (λ y. subst (λ faults. Rose faults c.after.store_faults) same.0 y.2) (λ y. tt) s gives)

  -- where memory was wanted behind all files
  pub wanted : Closed c NoMemory → (xs : List k.Value) (x : AllTaken k.limit k.Accepts (told_files c) xs) → Reads x.texts xs NoMemory
  wanted closed xs x = reads NoMemory closed x.texts xs x.have_bytes x.have_values tt

  pub idle : IsIdle c → Reads [] [] NoMemory
  idle x = record { have_bytes = tt; have_values = tt; comes = tt; says = x.says; completes = λ told others tell taken quiet. tt }

  -- ---- one status

  pub fate : (texts : List (List ℕ)) (xs : List k.Value) → HaveBytes k.limit (told_files c) texts → HaveValues k.Accepts texts xs → (s : Status) → Comes texts xs s → (found : List Found) → told_files c ≡ all_told found → NoFault c.before c.after
      → Fate k (Ends k) found s
  fate texts xs have values s comes found told quiet =
      by_cases (λ t. Fate k (Ends k) found t) texts xs
      (λ all. inr (inr (xs, all_run k c found told texts xs have values all, refl)))
      (λ rose. absurd (quiet.store rose))
      (inl refl)
      (λ t x. fates.stopped k (Ends k) found xs t (stop_runs k c found told texts xs have values quiet t x))
      s comes

-- ---- a promise of a call that writes what comes of all its files to one file

-- What its files are read as, the name of that file and its bytes, and how it follows of the reading and the writing.
pub record FilePromise : Type 1 where
  pub kind : Kind
  pub name : Call → List ℕ
  pub result : List kind.Value → List ℕ
  pub Right : Call → Status → Type 0
  pub right : (c : Call) → IsUntouched c.before c.after → IsUnwritten c.before c.after → (texts : List (List ℕ)) (xs : List kind.Value) (s : Status) → Reads kind c texts xs s
      → WritesFile c (name c) (result xs) (AllAccepted c xs) s → Right c s

module _ (p : FilePromise) where
  pub allows_idle : AllowsIdle p.Right
  allows_idle c x = p.right c x.untouched x.unwritten [] [] NoMemory (idle p.kind c x) x.stays

  -- where the call was closed so
  abbrev pub KeepsStopped : Type 0
  KeepsStopped =
      (c : Call) → IsUntouched c.before c.after → IsUnwritten c.before c.after → (s result : Status) → result ≡ s → Closed c s → AllStay c.before.files c.after.files → StopsReading p.kind c s → p.Right c result

  pub stopped : KeepsStopped
  stopped c untouched unwritten s result same closed stay x =
      subst (p.Right c) (sym same)
      (p.right c untouched unwritten x.texts x.values s (read_stopped p.kind c s closed x) (keeps_file p.kind c x.texts (length x.values) stay (p.name c) (p.result x.values) (AllAccepted c x.values) s x.stops))

  abbrev pub KeepsWritten : Type 0
  KeepsWritten =
      (c : Call) → IsUntouched c.before c.after → IsUnwritten c.before c.after → (s result : Status) → result ≡ s → Closed c s → (xs : List p.kind.Value) → AllTaken p.kind.limit p.kind.Accepts (told_files c) xs
      → (between : Files) → AllStay c.before.files between.told → SameCounts (counts_before c) between.counts → GivesFile (p.name c) (p.result xs) between (files_after p.kind c) s → p.Right c result

  pub written : KeepsWritten
  written c untouched unwritten s result same closed xs x between stay counts gives =
      subst (p.Right c) (sym same)
      (p.right c untouched unwritten x.texts xs s (read_all p.kind c s closed xs x between counts (p.name c) (p.result xs) gives)
      (writes_file c untouched (p.name c) (p.result xs) (AllAccepted c xs) s (accepted p.kind c xs x) unwritten between stay counts closed gives))
