-- A call of `list` keeps its promise.
use Rattle.std.proofs.Common.{◌≡◌, ℕ, List, [], ◌∷◌, map, length, Some, refl, sym, ◌∙◌, subst, inr, slice_get}
use Rattle.cw_io.specs.File.{AllStay}
use Rattle.cw_compile.specs.Texts.{text_limit, IsCanonicalOf}
use Rattle.cw_files.specs.Reading.{HaveBytes, HaveValues, AllTaken, IsRefusedAt, IsUnread, StopsTexts, SameCounts}
use Rattle.cw_files.proofs.Next.{unread_text}
use Rattle.cw_correct.specs.Calls.{Call, told_files, NoFault, IsUntouched, IsUnwritten}
use Rattle.cw_correct.specs.Files.{counts_before, counts_after, AllAccepted}
use Rattle.cw_correct.specs.Meaning.{TellBytes}
use Rattle.cw_correct.specs.Saying.{SaysLast}
use Rattle.cw_correct.specs.Results.{WritesOut, IsDone, ShowComes, first_shown, ShowsRight}
use Rattle.cw_actions.specs.Resulting.Outside.{out_at}
use Rattle.cw_actions.specs.Resulting.Idle.{AllowsIdle}
use Rattle.cw_actions.specs.Resulting.Results.{ShowsText}
use Rattle.cw_say.specs.declared.status.Status.{Status}
use Rattle.cw_say.specs.declared.status.Status.TheVariants.{Ended, Refused, NoMemory}
use Rattle.cw_actions.proofs.Resulting.Cases.{unread, gives_out, shows_text, show_comes}
use Rattle.cw_actions.proofs.Resulting.Keeping.{Closed, says_last, unwritten, writes_out}
use Rattle.cw_actions.proofs.Resulting.Readings.{Found, all_told, tells}
use Rattle.cw_actions.proofs.Resulting.Outcomes.{Kind, all_run, stop_runs, stop_done}
use Rattle.cw_actions.proofs.Resulting.Fates.{Fate, Ends, stopped as stopped_fate}
use Rattle.cw_actions.specs.Resulting.Texts.{OneOfText}
use Rattle.cw_actions.proofs.Resulting.Units.{shown_texts}

module _ (given : OneOfText) (c : Call) where
  abbrev kind : Kind
  kind = shown_texts given

  module _ (texts shown : List (List ℕ)) (have : HaveBytes text_limit (told_files c) texts) (values : HaveValues IsCanonicalOf texts shown) where
    -- what stopped the reading, by its status
    module _ (quiet : NoFault c.before c.after) (P : Status → Type 0)
        (stops : (s : Status) → StopsTexts (told_files c) texts (length shown) (counts_before c) (counts_after c) s → P s) (ended : AllAccepted c shown → P Ended) where
      by_status : (s : Status) → ShowComes c texts shown s → WritesOut c (first_shown shown) s → P s
      by_status s comes writes =
          show_comes (λ t. WritesOut c (first_shown shown) t → P t) c texts shown
          (λ all w. ended all)
          (λ all w. absurd (quiet.out w.3))
          (λ number refusal x w. stops (Refused number refusal) x)
          (λ t x w. stops t (unread_text (told_files c) texts (length shown) (counts_before c) (counts_after c) t x))
          s comes writes

    pub fate : (s : Status) → ShowComes c texts shown s → WritesOut c (first_shown shown) s → (found : List Found) → told_files c ≡ all_told found → NoFault c.before c.after → Fate kind (Ends kind) found s
    fate s comes writes found told quiet =
        by_status quiet (λ t. Fate kind (Ends kind) found t)
        (λ t x. stopped_fate kind (Ends kind) found shown t (stop_runs kind c found told texts shown have values quiet t x))
        (λ all. inr (inr (shown, all_run kind c found told texts shown have values all, refl)))
        s comes writes

    completes : (s : Status) → ShowComes c texts shown s → WritesOut c (first_shown shown) s → (told others : List (List ℕ)) → TellBytes (told_files c) told → AllTaken text_limit IsCanonicalOf (told_files c) others → NoFault c.before c.after → IsDone s
    completes s comes writes told others tell taken quiet =
        let told_all = tell ∙ tells told in
        by_status quiet IsDone (stop_done kind c (map Some told) told_all texts shown have values quiet others taken) (λ all. tt) s comes writes

  module _ (untouched : IsUntouched c.before c.after) (stay : AllStay c.before.files c.after.files) (s : Status) where
    right : SaysLast c.before c.after c.names [] s → (texts shown : List (List ℕ)) → HaveBytes text_limit (told_files c) texts → HaveValues IsCanonicalOf texts shown → ShowComes c texts shown s → WritesOut c (first_shown shown) s → ShowsRight c s
    right says texts shown have values comes writes = record {
      texts = texts;
      shown = shown;
      have_texts = have;
      have_shown = values;
      comes = comes;
      says = says;
      writes = writes;
      untouched = untouched;
      stays = stay;
      completes = completes texts shown have values s comes writes;
    }

    make : Closed c s → (texts shown : List (List ℕ)) → HaveBytes text_limit (told_files c) texts → HaveValues IsCanonicalOf texts shown → ShowComes c texts shown s → WritesOut c (first_shown shown) s → ShowsRight c s
    make closed texts shown have values comes writes = right (says_last c s (λ e. subst (λ t. ShowComes c texts shown t) e comes) closed) texts shown have values comes writes

  module _ (untouched : IsUntouched c.before c.after) (stay : AllStay c.before.files c.after.files) where
    pub unread_shows : (s : Status) → Closed c s → IsUnwritten c.before c.after → IsUnread text_limit (told_files c) 0 (counts_before c) (counts_after c) s → ShowsRight c s
    unread_shows s closed none x =
        make untouched stay s closed [] [] tt tt
        (unread (λ t. ShowComes c [] [] t) (told_files c) 0 (counts_before c) (counts_after c) text_limit (λ number y. y) (λ y. y) (λ number y. y) tt s x)
        (unread (λ t. WritesOut c [] t) (told_files c) 0 (counts_before c) (counts_after c) text_limit (λ number y. none) (λ y. none) (λ number y. none) none s x)

    pub shows : (s : Status) → Closed c s → (text : List ℕ) → HaveBytes text_limit (told_files c) (text ∷ []) → length c.names ≡ 1 → SameCounts (counts_before c) (counts_after c)
        → ShowsText text (out_at c.before.out c.before.out_faults) (out_at c.after.out c.after.out_faults) s → ShowsRight c s
    shows s closed text have one same x =
        let old = out_at c.before.out c.before.out_faults in
        let new = out_at c.after.out c.after.out_faults in
        shows_text (λ t. Closed c t → ShowsRight c t) text old new
        (λ number refusal y end. make untouched stay (Refused number refusal) end (text ∷ []) [] have tt (y.0, subst (λ n. IsRefusedAt (slice_get (text ∷ []) n) refusal) (sym y.0) y.1) (unwritten c y.2))
        (λ y end. make untouched stay NoMemory end (text ∷ []) [] have tt tt (unwritten c y))
        (λ t shown is gives end.
        make untouched stay t end (text ∷ []) (shown ∷ []) have (is, tt)
        (gives_out (λ u. ShowComes c (text ∷ []) (shown ∷ []) u) shown old new (λ y. sym one) (λ y. sym one) (λ y. tt) t gives)
        (writes_out c untouched shown t same end gives))
        s x closed

pub idle : OneOfText → AllowsIdle ShowsRight
idle given c x = right given c x.untouched x.stays NoMemory x.says [] [] tt tt tt x.unwritten
