-- What comes of the files of a call, where the store tells them and no count rose, whatever they are read as.
use Rattle.std.proofs.Common.{◌≡◌, ◌⊎◌, ℕ, List, length, Option, Some, None, refl, sym, ap, ◌∙◌, subst, inl, inr, slice_get}
use Rattle.std.proofs.lemmas.List.{length-map}
use Rattle.cw_io.specs.File.{Told}
use Rattle.cw_files.specs.Texts.{object_limit}
use Rattle.cw_files.specs.Reading.{Counts, HaveBytes, HaveValues, AllTaken, IsLongerAt, IsBadAt, IsUnread}
use Rattle.cw_correct.specs.Calls.{Call, told_files, NoFault}
use Rattle.cw_correct.specs.Files.{counts_before, counts_after, AllAccepted}
use Rattle.cw_correct.specs.Results.{IsDone}
use Rattle.cw_say.specs.declared.status.Bad.{Bad}
use Rattle.cw_say.specs.declared.status.Status.{Status}
use Rattle.cw_say.specs.declared.status.Status.TheVariants.{Refused, NoMemory, BadFile, TooLong}
use Rattle.cw_say.specs.declared.status.Long.TheVariants.{File}
use Rattle.cw_actions.proofs.Resulting.Cases.{unread}
use Rattle.cw_actions.proofs.Resulting.Readings.{Found, all_told, RefusesAt, bad_at, Runs, of_stop, of_all, taken_runs, from_zero, never}

-- of a file, and of no result: it was refused
abbrev pub IsRefusal : Status → Type 0
IsRefusal (Refused number fault) = Unit {0}
IsRefusal (BadFile number fault) = Unit {0}
IsRefusal status = ⊥

-- a file was refused, and the status says which and for what
abbrev pub IsRefusedAs : (W : Type 0) → (Refuses : List ℕ → W → Type 0) → (status_of : ℕ → W → Status) → (texts : List (List ℕ)) → (taken : ℕ) → Status → Type 0
IsRefusedAs W Refuses status_of texts taken s = (number : ℕ) × (w : W) × (number ≡ taken) × RefusesAt Refuses (slice_get texts number) w × (s ≡ status_of number w)

-- What files are read as: how long they may be, what they are accepted as and for what they are refused, which are never both; and what stops their reading.
pub record Kind : Type 1 where
  pub Value : Type 0
  pub Wrong : Type 0
  pub limit : ℕ
  pub Accepts : List ℕ → Value → Type 0
  pub Refuses : List ℕ → Wrong → Type 0
  pub status_of : ℕ → Wrong → Status
  pub is_refusal : (number : ℕ) (w : Wrong) → IsRefusal (status_of number w)
  pub not_both : (bytes : List ℕ) (x : Value) (w : Wrong) → Accepts bytes x → Refuses bytes w → ⊥
  pub Stops : List Told → (texts : List (List ℕ)) → (taken : ℕ) → (before after : Counts) → Status → Type 0
  pub stop_is : (files : List Told) (texts : List (List ℕ)) (taken : ℕ) (before after : Counts) (s : Status) → Stops files texts taken before after s
      → IsUnread limit files taken before after s ⊎ IsRefusedAs Wrong Refuses status_of texts taken s

-- Files of which a bad one is refused, in these of the ways in which bytes are bad.
module _ (Wrong : Type 0) (Refuses : List ℕ → Bad → Type 0) (of : Wrong → Bad) where
  -- the file behind those that were taken was not read, or is bad in one of them
  abbrev pub BadStop : List Told → (texts : List (List ℕ)) → (taken : ℕ) → (before after : Counts) → Status → Type 0
  BadStop files texts taken before after s =
      IsUnread object_limit files taken before after s ⊎ IsRefusedAs Wrong (λ bytes w. Refuses bytes (of w)) (λ number w. BadFile number (of w)) texts taken s

  pub bad_stop : (files : List Told) (texts : List (List ℕ)) (taken : ℕ) (before after : Counts) (number : ℕ) (w : Wrong) → (number ≡ taken) × IsBadAt Refuses (slice_get texts number) (of w)
      → BadStop files texts taken before after (BadFile number (of w))
  bad_stop files texts taken before after number w x = inr (number, w, x.0, bad_at Refuses of (slice_get texts number) w x.1, refl)

  abbrev pub bad_files : (Value : Type 0) (Accepts : List ℕ → Value → Type 0) → ((bytes : List ℕ) (x : Value) (w : Wrong) → Accepts bytes x → Refuses bytes (of w) → ⊥)
      → (Stops : List Told → (texts : List (List ℕ)) → (taken : ℕ) → (before after : Counts) → Status → Type 0)
      → ((files : List Told) (texts : List (List ℕ)) (taken : ℕ) (before after : Counts) (s : Status) → Stops files texts taken before after s → BadStop files texts taken before after s) → Kind
  bad_files Value Accepts not_both Stops stop_is = record {
    Value = Value;
    Wrong = Wrong;
    limit = object_limit;
    Accepts = Accepts;
    Refuses = λ bytes w. Refuses bytes (of w);
    status_of = λ number w. BadFile number (of w);
    is_refusal = λ number w. tt;
    not_both = not_both;
    Stops = Stops;
    stop_is = stop_is;
  }

abbrev pub FileRuns : (k : Kind) → List Found → List k.Value → Option Status → Type 0
FileRuns k found xs s = Runs k.limit k.Accepts k.Refuses k.status_of 0 found xs s

module _ (k : Kind) (c : Call) (found : List Found) (told : told_files c ≡ all_told found) where
  pub all_taken : (xs : List k.Value) → AllTaken k.limit k.Accepts (told_files c) xs → FileRuns k found xs None
  all_taken xs x = taken_runs k.limit k.Accepts k.Refuses k.status_of found xs (subst (λ files. AllTaken k.limit k.Accepts files xs) told x)

  module _ (texts : List (List ℕ)) (xs : List k.Value) (have : HaveBytes k.limit (told_files c) texts) (values : HaveValues k.Accepts texts xs) where
    have_told : HaveBytes k.limit (all_told found) texts
    have_told = subst (λ files. HaveBytes k.limit files texts) told have

    pub all_run : AllAccepted c xs → FileRuns k found xs None
    all_run all = of_all k.limit k.Accepts k.Refuses k.status_of 0 found texts xs have_told values (all ∙ sym (length-map c.names c.before.files) ∙ ap length told)

    pub stop_runs : NoFault c.before c.after → (s : Status) → k.Stops (told_files c) texts (length xs) (counts_before c) (counts_after c) s → (s ≡ NoMemory) ⊎ FileRuns k found xs (Some s)
    stop_runs quiet s x = at (k.stop_is (told_files c) texts (length xs) (counts_before c) (counts_after c) s x)
      where
        at : IsUnread k.limit (told_files c) (length xs) (counts_before c) (counts_after c) s ⊎ IsRefusedAs k.Wrong k.Refuses k.status_of texts (length xs) s → (s ≡ NoMemory) ⊎ FileRuns k found xs (Some s)
        at (inl y) =
            unread (λ t. (t ≡ NoMemory) ⊎ FileRuns k found xs (Some t)) (told_files c) (length xs) (counts_before c) (counts_after c) k.limit
            (λ number z. absurd (quiet.absences z.2))
            (λ z. absurd (quiet.store z))
            (λ number z. inr (of_stop k.limit k.Accepts k.Refuses k.status_of 0 found texts xs (TooLong (File number)) have_told values
            (inl (subst (λ (files : List Told). IsLongerAt (slice_get files (length xs)) k.limit) told (subst (λ n. IsLongerAt (slice_get (told_files c) n) k.limit) z.0 z.1), ap (λ n. TooLong (File n)) (z.0 ∙ from_zero (length xs))))))
            (inl refl) s y
        at (inr (number, w, count, y, is)) =
            inr (of_stop k.limit k.Accepts k.Refuses k.status_of 0 found texts xs s have_told values
            (inr (w, subst (λ n. RefusesAt k.Refuses (slice_get texts n) w) count y, is ∙ ap (λ n. k.status_of n w) (count ∙ from_zero (length xs)))))

    -- where all are accepted, nothing but want of memory stops the reading
    pub stop_done : NoFault c.before c.after → (others : List k.Value) → AllTaken k.limit k.Accepts (told_files c) others → (s : Status) → k.Stops (told_files c) texts (length xs) (counts_before c) (counts_after c) s → IsDone s
    stop_done quiet others taken s x = at (stop_runs quiet s x)
      where
        at : (s ≡ NoMemory) ⊎ FileRuns k found xs (Some s) → IsDone s
        at (inl e) = subst IsDone (sym e) tt
        at (inr run) = absurd (never k.limit k.Accepts k.Refuses k.status_of k.not_both 0 found others xs s (all_taken others taken) run)
