-- A call of `link` keeps its promise.
use Rattle.std.proofs.Common.{◌≡◌, ◌⊎◌, ℕ, ◌<◌, List, [], map, length, Some, None, refl, sym, ap, ◌∙◌, subst, inl, inr, arith}
use Rattle.std.specs.Prelude.{codes}
use Rattle.std.proofs.lemmas.List.{length-map}
use Rattle.cw_io.specs.Count.{Rose}
use Rattle.cw_io.specs.File.{AllStay}
use Rattle.cw_cpu86.specs.Ports.{AreBytes}
use Rattle.cw_link.specs.declared.fault.LinkFault.{LinkFault}
use Rattle.cw_build.specs.Linking.{AreLinked, IsFault}
use Rattle.cw_view.specs.Uniqueness.{HasOneFault}
use Rattle.cw_lib.specs.Uniqueness.{HasOneLibrary, HasNotBoth}
use Rattle.cw_lib.specs.Uniqueness as libraries
use Rattle.cw_link_files.specs.Parts.{Part, HasPart, IsListOf, IsLinkList, HasOneLinkList, all_members}
use Rattle.cw_link_files.specs.Taken.{StopsParts, AreFilesOf}
use Rattle.cw_link_files.specs.declared.reading.LinkFiles.{LinkFiles}
use Rattle.cw_files.specs.Texts.{object_limit}
use Rattle.cw_files.specs.Reading.{HaveBytes, HaveValues, AllTaken, Stopped, SameCounts}
use Rattle.cw_correct.specs.Calls.{Call, told_files, NoFault, IsUntouched, IsUnwritten}
use Rattle.cw_correct.specs.Files.{counts_before, counts_after}
use Rattle.cw_correct.specs.Saying.{SaysLast}
use Rattle.cw_correct.specs.Results.{WritesFile, IsDone, AreListed, AreFew, all_contents, image_file, LinkComes, LinksRight}
use Rattle.cw_actions.specs.Resulting.Outside.{Files, files_at}
use Rattle.cw_actions.specs.Resulting.Idle.{AllowsIdle}
use Rattle.cw_actions.specs.Resulting.OneStatus.{AllowsOneStatus}
use Rattle.cw_actions.specs.Archiving.Linking.{LinksList, LinksTaken}
use Rattle.cw_say.specs.declared.status.Status.{Status}
use Rattle.cw_say.specs.declared.status.Status.TheVariants.{Ended, Unlinked, NoMemory, TooMany}
use Rattle.cw_actions.proofs.Resulting.Cases.{gives_file}
use Rattle.cw_actions.proofs.Resulting.Keeping.{Closed, says_last, writes_file}
use Rattle.cw_actions.proofs.Resulting.Links.{links_not_faulty, one_fault}
use Rattle.cw_actions.proofs.Resulting.Outcomes.{Kind, FileRuns, all_taken, all_run, stop_runs, stop_done}
use Rattle.cw_actions.proofs.Resulting.Fates.{Fate, stopped as stopped_fate, one_fate}
use Rattle.cw_actions.proofs.Resulting.Statuses.{all_bytes}
use Rattle.cw_actions.proofs.Resulting.Readings.{Found, all_told, tells}
use Rattle.cw_actions.proofs.Resulting.Filing.{keeps_file}
use Rattle.cw_actions.proofs.Archiving.Cases.{links_objects, links_list, links_taken, link_comes, stops_come}
use Rattle.cw_actions.proofs.Archiving.Parts.{parts as part_kind, one_bad, same_parts}

-- the laws that the promise rests on
pub record OneOfFiles : Type 0 where
  pub library : HasOneLibrary
  pub no_fault : HasNotBoth
  pub list : HasOneLinkList

module _ (given : OneOfFiles) where
  abbrev kind : Kind
  kind = part_kind given.no_fault

  one_list : (parts : List Part) (a b : List (List ℕ)) → IsLinkList parts a → IsLinkList parts b → a ≡ b
  one_list parts a b x y =
      let found = given.list parts in
      found.2 a x ∙ sym (found.2 b y)

  module _ (c : Call) where
    abbrev AreAll : (parts : List Part) → (list : List (List ℕ)) → Type 0
    AreAll parts list = AreListed c parts list × AreFew list × AreLinked (all_contents list) c.limits

    same_list : (found : List Found) (xs ys : List Part) (a b : List (List ℕ)) → FileRuns kind found xs None → FileRuns kind found ys None → IsLinkList xs a → IsLinkList ys b → a ≡ b
    same_list found xs ys a b x y listed also =
        let same : xs ≡ ys = same_parts given.no_fault given.library found xs ys x y in
        one_list ys a b (subst (λ zs. IsLinkList zs a) same listed) also

    module _ (untouched : IsUntouched c.before c.after) (unwritten : IsUnwritten c.before c.after) (s : Status) where
      right : SaysLast c.before c.after c.names [] s → (texts : List (List ℕ)) (parts : List Part) (list : List (List ℕ)) → HaveBytes object_limit (told_files c) texts → HaveValues HasPart texts parts → LinkComes c texts parts list s
          → WritesFile c (codes "A.IMG") (image_file list c.limits) (AreAll parts list) s → LinksRight c s
      right says texts parts list have values comes writes = record {
        texts = texts;
        parts = parts;
        list = list;
        have_bytes = have;
        have_parts = values;
        comes = comes;
        says = says;
        writes = writes;
        untouched = untouched;
        unwritten = unwritten;
        completes = λ told others also tell taken listed few links quiet.
            let tell_all = tell ∙ tells told in
            let one : AreListed c parts list → also ≡ list = λ x. same_list (map Some told) others parts also list (all_taken kind c (map Some told) tell_all others taken) (all_run kind c (map Some told) tell_all texts parts have values x.all) listed x.listed in
            link_comes IsDone c texts parts list (λ x. tt) (λ x. absurd (quiet.store x))
            (λ fault x. absurd (links_not_faulty (all_contents list) c.limits fault (subst (λ xs. AreLinked (all_contents xs) c.limits) (one x.0) links) x.2))
            (λ count x. absurd (omega (arith, x.1, x.2, few, ap length (one x.0))))
            (λ t x. stop_done kind c (map Some told) tell_all texts parts have values quiet others taken t x) s comes;
      }

    -- where the call was closed so
    module _ (untouched : IsUntouched c.before c.after) (unwritten : IsUnwritten c.before c.after) (s result : Status) (answers : result ≡ s) (closed : Closed c s) where
      make : (texts : List (List ℕ)) (parts : List Part) (list : List (List ℕ)) → HaveBytes object_limit (told_files c) texts → HaveValues HasPart texts parts → LinkComes c texts parts list s
          → WritesFile c (codes "A.IMG") (image_file list c.limits) (AreAll parts list) s → LinksRight c result
      make texts parts list have values comes writes =
          subst (LinksRight c) (sym answers) (right untouched unwritten s (says_last c s (λ e. subst (λ t. LinkComes c texts parts list t) e comes) closed) texts parts list have values comes writes)

      pub stopped : AllStay c.before.files c.after.files → Stopped object_limit HasPart (λ texts taken. StopsParts (told_files c) texts taken (counts_before c) (counts_after c) s) (told_files c) → LinksRight c result
      stopped stay x =
          make x.texts x.values [] x.have_bytes x.have_values
          (stops_come c x.texts x.values s x.stops)
          (keeps_file kind c x.texts (length x.values) stay (codes "A.IMG") (image_file [] c.limits) (AreAll x.values []) s x.stops)

      -- nothing came of the files for want of memory
      unlisted : (parts : List Part) → AllTaken object_limit HasPart (told_files c) parts → s ≡ NoMemory → AllStay c.before.files c.after.files → LinksRight c result
      unlisted parts x wanted stay =
          make x.texts parts [] x.have_bytes x.have_values (subst (λ t. LinkComes c x.texts parts [] t) (sym wanted) tt) (subst (λ t. WritesFile c (codes "A.IMG") (image_file [] c.limits) (AreAll parts []) t) (sym wanted) stay)

      module _ (parts : List Part) (x : AllTaken object_limit HasPart (told_files c) parts) (between : Files) (stay : AllStay c.before.files between.told) (same : SameCounts (counts_before c) between.counts) where
        abbrev after : Files
        after = files_at c.after.files c.after.store_faults c.after.absences

        listed_all : (list : List (List ℕ)) → IsLinkList parts list → AreListed c parts list
        listed_all list is = record { all = x.all ∙ length-map c.names c.before.files; listed = is }

        of_list : (list : List (List ℕ)) → IsLinkList parts list → LinksList list c.limits between after s → LinksRight c result
        of_list list is links =
            let are : AreListed c parts list = listed_all list is in
            make x.texts parts list x.have_bytes x.have_values
            (links_list (λ t. LinkComes c x.texts parts list t) list c.limits between after
            (λ count y. (are, y.0, y.1))
            (λ t few linked. links_objects (λ u. LinkComes c x.texts parts list u) list c.limits between after
            (λ fault y. (are, few, y.0))
            (λ y. tt)
            (λ u links gives. gives_file (λ v. LinkComes c x.texts parts list v) (codes "A.IMG") (image_file list c.limits) between after
            (λ y. (are, few, links)) (λ y. subst (λ faults. Rose faults c.after.store_faults) same.0 y.2) (λ y. tt) u gives)
            t linked)
            s links)
            (links_list (λ t. Closed c t → WritesFile c (codes "A.IMG") (image_file list c.limits) (AreAll parts list) t) list c.limits between after
            (λ count y end. λ other. y.2 other ∙ stay other)
            (λ t few linked. links_objects (λ u. Closed c u → WritesFile c (codes "A.IMG") (image_file list c.limits) (AreAll parts list) u) list c.limits between after
            (λ fault y end. λ other. y.1 other ∙ stay other)
            (λ y end. λ other. y other ∙ stay other)
            (λ u links gives end. writes_file c untouched (codes "A.IMG") (image_file list c.limits) (AreAll parts list) u (are, few, links) unwritten between stay same end gives)
            t linked)
            s links closed)

        pub written : (taken : LinkFiles) → AreFilesOf parts taken → LinksTaken taken.objects taken.members c.limits between after s → LinksRight c result
        written taken are links =
            links_taken (λ t. t ≡ s → LinksRight c result) taken.objects taken.members c.limits between after
            (λ y e. unlisted parts x (sym e) (λ other. y other ∙ stay other))
            (λ t list is linked e.
            of_list list
            (subst (λ objects. IsListOf objects (all_members parts) list) are.objects (subst (λ members. IsListOf taken.objects members list) are.members is))
            (subst (λ u. LinksList list c.limits between after u) e linked))
            s links refl

    -- ---- one status

    abbrev pub After : List Part → Status → Type 0
    After parts s =
        (list : List (List ℕ)) × IsLinkList parts list ×
        (((s ≡ Ended) × AreFew list × AreLinked (all_contents list) c.limits)
        ⊎ (((fault : LinkFault) × AreFew list × IsFault (all_contents list) c.limits fault × (s ≡ Unlinked fault))
        ⊎ ((count : ℕ) × (count ≡ length list) × (200 < count) × (s ≡ TooMany count))))

    one_of_list : (a b : List (List ℕ)) (s t : Status) → a ≡ b
        → ((s ≡ Ended) × AreFew a × AreLinked (all_contents a) c.limits) ⊎ (((fault : LinkFault) × AreFew a × IsFault (all_contents a) c.limits fault × (s ≡ Unlinked fault)) ⊎ ((count : ℕ) × (count ≡ length a) × (200 < count) × (s ≡ TooMany count)))
        → ((t ≡ Ended) × AreFew b × AreLinked (all_contents b) c.limits) ⊎ (((fault : LinkFault) × AreFew b × IsFault (all_contents b) c.limits fault × (t ≡ Unlinked fault)) ⊎ ((count : ℕ) × (count ≡ length b) × (200 < count) × (t ≡ TooMany count)))
        → s ≡ t
    one_of_list a b s t same (inl (e, few, links)) (inl (f, also, linked)) = e ∙ sym f
    one_of_list a b s t same (inl (e, few, links)) (inr (inl (fault, also, wrong, f))) = absurd (links_not_faulty (all_contents b) c.limits fault (subst (λ xs. AreLinked (all_contents xs) c.limits) same links) wrong)
    one_of_list a b s t same (inl (e, few, links)) (inr (inr (count, is, many, f))) = absurd (omega (arith, few, is, many, ap length same))
    one_of_list a b s t same (inr (inl (fault, few, wrong, e))) (inl (f, also, links)) = absurd (links_not_faulty (all_contents b) c.limits fault links (subst (λ xs. IsFault (all_contents xs) c.limits fault) same wrong))
    one_of_list a b s t same (inr (inl (fault, few, wrong, e))) (inr (inl (other, also, bad, f))) = e ∙ ap Unlinked (one_fault (all_contents b) c.limits fault other (subst (λ xs. IsFault (all_contents xs) c.limits fault) same wrong) bad) ∙ sym f
    one_of_list a b s t same (inr (inl (fault, few, wrong, e))) (inr (inr (count, is, many, f))) = absurd (omega (arith, few, is, many, ap length same))
    one_of_list a b s t same (inr (inr (count, is, many, e))) (inl (f, also, links)) = absurd (omega (arith, also, is, many, ap length same))
    one_of_list a b s t same (inr (inr (count, is, many, e))) (inr (inl (fault, also, wrong, f))) = absurd (omega (arith, also, is, many, ap length same))
    one_of_list a b s t same (inr (inr (count, is, many, e))) (inr (inr (other, also, more, f))) = e ∙ ap TooMany (is ∙ ap length same ∙ sym also) ∙ sym f

    one_after : (found : List Found) (xs ys : List Part) (s t : Status) → FileRuns kind found xs None → FileRuns kind found ys None → After xs s → After ys t → s ≡ t
    one_after found xs ys s t runs others (a, listed, x) (b, also, y) = one_of_list a b s t (same_list found xs ys a b runs others listed also) x y

    fate : (s : Status) → LinksRight c s → (found : List Found) → told_files c ≡ all_told found → NoFault c.before c.after → Fate kind After found s
    fate s x found told quiet =
        link_comes (λ t. Fate kind After found t) c x.texts x.parts x.list
        (λ y. inr (inr (x.parts, run y.0, (x.list, y.0.listed, inl (refl, y.1, y.2)))))
        (λ rose. absurd (quiet.store rose))
        (λ fault y. inr (inr (x.parts, run y.0, (x.list, y.0.listed, inr (inl (fault, y.1, y.2, refl))))))
        (λ count y. inr (inr (x.parts, run y.0, (x.list, y.0.listed, inr (inr (count, y.1, y.2, refl))))))
        (λ t stops. stopped_fate kind After found x.parts t (stop_runs kind c found told x.texts x.parts x.have_bytes x.have_parts quiet t stops))
        s x.comes
      where
        run : AreListed c x.parts x.list → FileRuns kind found x.parts None
        run are = all_run kind c found told x.texts x.parts x.have_bytes x.have_parts are.all

  pub idle : AllowsIdle LinksRight
  idle c x = right c x.untouched x.unwritten NoMemory x.says [] [] [] tt tt tt x.stays

  pub links_once : HasOneFault → libraries.HasOneFault → AllowsOneStatus LinksRight
  links_once object_fault library_fault c a b found told all quiet m n x y =
      one_fate kind (After c) AreBytes (one_bad object_fault library_fault) found a b (λ us vs runs others after other. one_after c found us vs a b runs others after other)
      (all_bytes found all) m n (fate c a x found told quiet) (fate c b y found told quiet)
