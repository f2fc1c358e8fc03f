-- A call that tells a text of units, their storage map or another, keeps its promise.
use Rattle.std.proofs.Common.{◌≡◌, ◌⊎◌, ℕ, List, [], map, Some, None, refl, sym, ap, ◌∙◌, subst, inl, inr}
use Rattle.std.proofs.lemmas.List.{length-map}
use Rattle.cw_io.specs.File.{AllStay}
use Rattle.cw_unit.specs.declared.unit.Unit.{Unit as SourceUnit}
use Rattle.cw_unit.specs.declared.layout.Limits.{Limits}
use Rattle.cw_compile.specs.Texts.{text_limit}
use Rattle.cw_link.specs.declared.fault.LinkFault.{LinkFault}
use Rattle.cw_build.specs.Compiled.{contents_of_units}
use Rattle.cw_build.specs.Linking.{Links, IsLinkFault}
use Rattle.cw_files.specs.Texts.{HasUnit}
use Rattle.cw_files.specs.Reading.{HaveBytes, HaveValues, AllTaken, Stopped, StopsTexts, SameCounts}
use Rattle.cw_correct.specs.Calls.{Call, told_files, NoFault, IsUntouched, IsUnwritten}
use Rattle.cw_correct.specs.Files.{counts_before, counts_after, AllAccepted}
use Rattle.cw_correct.specs.Saying.{SaysLast}
use Rattle.cw_correct.specs.Results.{WritesOut, IsDone, IsWritten, MapComes, TellsOfUnits}
use Rattle.cw_actions.specs.Resulting.Outside.{Out, out_at}
use Rattle.cw_actions.specs.Resulting.Written.{GivesOut}
use Rattle.cw_actions.specs.Resulting.Idle.{AllowsIdle}
use Rattle.cw_actions.specs.Resulting.Results.{TellsUnits}
use Rattle.cw_say.specs.declared.status.Status.{Status}
use Rattle.cw_say.specs.declared.status.Status.TheVariants.{Ended, Unlinked, NoMemory}
use Rattle.cw_actions.proofs.Resulting.Cases.{gives_out, tells_units, map_comes, map_stops, none_written, none_out}
use Rattle.cw_actions.proofs.Resulting.Keeping.{Closed, says_last, unwritten, writes_out}
use Rattle.cw_actions.proofs.Resulting.Links.{links_not_faulty, one_fault}
use Rattle.cw_actions.proofs.Resulting.Readings.{Found, all_told, tells}
use Rattle.cw_actions.specs.Resulting.Texts.{OneOfText, HasSizes}
use Rattle.cw_actions.proofs.Resulting.Outcomes.{FileRuns, all_run, all_taken, stop_runs, stop_done}
use Rattle.cw_actions.proofs.Resulting.Fates.{Fate, stopped as stopped_fate}
use Rattle.cw_actions.proofs.Resulting.Sizes.{same_length, cause}
use Rattle.cw_actions.proofs.Resulting.Units.{units, same_units}

module _ (given : OneOfText) (IsText : (texts : List (List ℕ)) → List SourceUnit → Limits → List ℕ → Type 0) where
  module _ (c : Call) (untouched : IsUntouched c.before c.after) (stay : AllStay c.before.files c.after.files) (s : Status) where
    right : SaysLast c.before c.after c.names [] s → (texts : List (List ℕ)) (us : List SourceUnit) (text : List ℕ) → HaveBytes text_limit (told_files c) texts → HaveValues HasUnit texts us → MapComes c texts us s → IsWritten (IsText texts us c.limits) text s
        → WritesOut c text s → TellsOfUnits IsText c s
    right says texts us text have values comes is writes = record {
      texts = texts;
      units = us;
      text = text;
      have_texts = have;
      have_units = values;
      comes = comes;
      is_text = is;
      says = says;
      writes = writes;
      untouched = untouched;
      stays = stay;
      completes = λ told ws tell taken links quiet.
          map_comes (λ t. WritesOut c text t → IsDone t) c texts us (λ x w. tt) (λ x w. absurd (quiet.out w.3))
          (λ fault x w.
          let tell_all = tell ∙ tells told in
          let same : ws ≡ us = same_units given (map Some told) ws us (all_taken (units given) c (map Some told) tell_all ws taken) (all_run (units given) c (map Some told) tell_all texts us have values x.0) in
          absurd (links_not_faulty (contents_of_units us) c.limits fault (subst (λ vs. Links vs c.limits) same links) x.1))
          (λ t x w. stop_done (units given) c (map Some told) (tell ∙ tells told) texts us have values quiet ws taken t x) s comes writes;
    }

  pub idle : AllowsIdle (TellsOfUnits IsText)
  idle c x = right c x.untouched x.stays NoMemory x.says [] [] [] tt tt tt tt x.unwritten

  -- where the call was closed so
  module _ (c : Call) (untouched : IsUntouched c.before c.after) (stay : AllStay c.before.files c.after.files) (s result : Status) (answers : result ≡ s) (closed : Closed c s) where
    make : (texts : List (List ℕ)) (us : List SourceUnit) (text : List ℕ) → HaveBytes text_limit (told_files c) texts → HaveValues HasUnit texts us → MapComes c texts us s → IsWritten (IsText texts us c.limits) text s → WritesOut c text s → TellsOfUnits IsText c result
    make texts us text have values comes is writes =
        subst (TellsOfUnits IsText c) (sym answers) (right c untouched stay s (says_last c s (λ e. subst (λ t. MapComes c texts us t) e comes) closed) texts us text have values comes is writes)

    pub stopped : IsUnwritten c.before c.after → Stopped text_limit HasUnit (λ texts taken. StopsTexts (told_files c) texts taken (counts_before c) (counts_after c) s) (told_files c) → TellsOfUnits IsText c result
    stopped none x =
        make x.texts x.values [] x.have_bytes x.have_values
        (map_stops c x.texts x.values s x.stops) (none_written c x.texts x.values (IsText x.texts x.values c.limits) s x.stops) (none_out c x.texts x.values none s x.stops)

    pub written : HasSizes → (us : List SourceUnit) → (taken : AllTaken text_limit HasUnit (told_files c) us) → SameCounts (counts_before c) (counts_after c)
        → TellsUnits (IsText taken.texts) us c.limits (out_at c.before.out c.before.out_faults) (out_at c.after.out c.after.out_faults) s → TellsOfUnits IsText c result
    written sizes us x same told =
        tells_units (λ t. t ≡ s → TellsOfUnits IsText c result) (IsText x.texts) us c.limits old new
        (λ fault y e. make x.texts us [] x.have_bytes x.have_values
        (subst (λ u. MapComes c x.texts us u) e (all, y.0, cause given sizes c.limits x.texts us x.have_values (same_length (told_files c) x.texts us x.have_bytes x.have_values x.all) fault y.0))
        (subst (λ u. IsWritten (IsText x.texts us c.limits) [] u) e tt) (subst (λ u. WritesOut c [] u) e (unwritten c y.1)))
        (λ y e. make x.texts us [] x.have_bytes x.have_values (subst (λ u. MapComes c x.texts us u) e tt) (subst (λ u. IsWritten (IsText x.texts us c.limits) [] u) e tt) (subst (λ u. WritesOut c [] u) e (unwritten c y)))
        (λ t text links is gives e. make x.texts us text x.have_bytes x.have_values
        (subst (λ u. MapComes c x.texts us u) e (gives_out (λ u. MapComes c x.texts us u) text old new (λ y. (all, links)) (λ y. (all, links)) (λ y. tt) t gives))
        (subst (λ u. IsWritten (IsText x.texts us c.limits) text u) e (gives_out (λ u. IsWritten (IsText x.texts us c.limits) text u) text old new (λ y. is) (λ y. is) (λ y. tt) t gives))
        (writes_out c untouched text s same closed (subst (λ u. GivesOut text old new u) e gives)))
        s told refl
      where
        all : AllAccepted c us
        all = x.all ∙ length-map c.names c.before.files

        old : Out
        old = out_at c.before.out c.before.out_faults

        new : Out
        new = out_at c.after.out c.after.out_faults

-- ---- one status

module _ (given : OneOfText) (IsText : (texts : List (List ℕ)) → List SourceUnit → Limits → List ℕ → Type 0) (c : Call) where
  abbrev pub After : List SourceUnit → Status → Type 0
  After us s = ((s ≡ Ended) × Links us c.limits) ⊎ ((fault : LinkFault) × IsLinkFault us c.limits fault × (s ≡ Unlinked fault))

  pub one_after : (us vs : List SourceUnit) (s t : Status) → us ≡ vs → After us s → After vs t → s ≡ t
  one_after us vs s t same (inl (e, links)) (inl (f, also)) = e ∙ sym f
  one_after us vs s t same (inl (e, links)) (inr (g, y, f)) = absurd (links_not_faulty (contents_of_units vs) c.limits g (subst (λ ws. Links ws c.limits) same links) y)
  one_after us vs s t same (inr (g, x, e)) (inl (f, links)) = absurd (links_not_faulty (contents_of_units vs) c.limits g links (subst (λ ws. IsLinkFault ws c.limits g) same x))
  one_after us vs s t same (inr (g, x, e)) (inr (h, y, f)) = e ∙ ap Unlinked (one_fault (contents_of_units vs) c.limits g h (subst (λ ws. IsLinkFault ws c.limits g) same x) y) ∙ sym f

  pub fate : (s : Status) → TellsOfUnits IsText c s → (found : List Found) → told_files c ≡ all_told found → NoFault c.before c.after → Fate (units given) After found s
  fate s x found told quiet =
      map_comes (λ t. WritesOut c x.text t → Fate (units given) After found t) c x.texts x.units
      (λ y w. inr (inr (x.units, run y.0, inl (refl, y.1))))
      (λ y w. absurd (quiet.out w.3))
      (λ fault y w. inr (inr (x.units, run y.0, inr (fault, y.1, refl))))
      (λ t stops w. stopped_fate (units given) After found x.units t (stop_runs (units given) c found told x.texts x.units x.have_texts x.have_units quiet t stops))
      s x.comes x.writes
    where
      run : AllAccepted c x.units → FileRuns (units given) found x.units None
      run all = all_run (units given) c found told x.texts x.units x.have_texts x.have_units all
