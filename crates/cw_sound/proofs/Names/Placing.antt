-- Where a part stands in the block: what the whole mentions before it and behind it, and which procedures come before it and behind it.
use Rattle.std.proofs.Common.{◌≡◌, ◌⊎◌, inl, inr, ℕ, ◌+◌, List, [], ◌∷◌, ◌++◌, length, true, Option, Some, None, slice_get, refl, sym, ap, ap₂, subst, ◌∙◌, append_assoc, append-nil, length-append}
use Rattle.cw_table.specs.Rows.{item_at}
use Rattle.cw_tree.specs.declared.statement.RawProc.{RawProc, out-RawProc}
use Rattle.cw_facts.specs.declared.fact.Fact.{Fact}
use Rattle.cw_facts.specs.declared.fact.Fact.TheVariants as fact
use Rattle.cw_facts.specs.declared.fact.Declaration.{Declaration}
use Rattle.cw_facts.specs.declared.fact.Kind.TheVariants as kind
use Rattle.cw_facts.specs.Facts.{parameters_facts}
use Rattle.cw_scope.specs.declared.resolve.Named.{Named}
use Rattle.cw_scope.specs.Resolved.{fact_signatures, text_signatures}
use Rattle.cw_number.specs.declared.numbers.Counts.{Counts}
use Rattle.cw_number.specs.declared.numbered.Numbered.TheVariants as numbered
use Rattle.cw_number.specs.Numbers.{none_counted, counted}
use Rattle.cw_make_items.specs.Lookup.{Numbers, proc_in, proc_here}
use Rattle.cw_make.specs.Procedures.{proc_of}
use Rattle.cw_unit.specs.declared.unit.Unit.{Unit as SourceUnit}
use Rattle.cw_unit.specs.declared.unit.Proc.{Proc}
use Rattle.cw_sound.specs.Uses.Mentions.{In, Here, here, declares as declared, facts_mentions, block_mentions}
use Rattle.cw_sound.specs.Names.Placed.{Placed}
use Rattle.cw_sound.specs.Names.Standing.{is_control, is_own_procedure, counted_from, CountsOwn, FewParameters}
use Rattle.cw_sound.proofs.Names.Parts.{procedure_with}
use Rattle.cw_sound.proofs.Names.Lists.{in_either, Sub, sub_left, sub_right}
use Rattle.cw_sound.proofs.Names.Rows.{mentions_append}
use Rattle.cw_sound.proofs.Names.Picking.{pick_append}
use Rattle.cw_sound.proofs.Names.Sorts.{of_kind, few_before, procedures_before}
use Rattle.cw_sound.proofs.Names.MentionsOf.{block_alone, signatures_append, signatures_block}
use Rattle.cw_sound.proofs.Names.Params.{controls}
use Rattle.cw_sound.proofs.Names.InProcedure.{control_number, controls_before, counted_append}
use Rattle.cw_sound.proofs.Names.Signed.{row_of, rows_signed, inner_signed}
use Rattle.cw_sound.proofs.Names.PartKinds.{procs_in, within_it, first_mention, answers, params, body, shape, no_procs_before}

slice_at : {X : Type 0} → (xs ys : List X) (y : X) → slice_get (xs ++ y ∷ ys) (length xs) ≡ Some y
slice_at [] ys y = refl
slice_at (x ∷ xs) ys y = slice_at xs ys y

module _ (named : Named) (numbers : Numbers) (u : SourceUnit) where
  -- facts that give procedures, and what stands around them in the block
  pub record At (fs : List Fact) (ps : List Proc) (q : Option ℕ) (before after : List Here) (pb pa : List Proc) : Type 0 where
    pub parted : block_mentions numbers named.raw.now ≡ before ++ (facts_mentions numbers fs q ++ after)
    pub made : u.procs ≡ pb ++ (ps ++ pa)
    pub count : length (procs_in before) ≡ length pb
    pub sub : Sub (text_signatures fs) named.signatures

  -- ---- two parts

  module _ (fs gs : List Fact) (ps qs : List Proc) (q : Option ℕ) (before after : List Here) (pb pa : List Proc) (at : At (fs ++ gs) (ps ++ qs) q before after pb pa) where
    abbrev f : List Here
    f = facts_mentions numbers fs q

    abbrev g : List Here
    g = facts_mentions numbers gs q

    subs : Sub (text_signatures fs ++ text_signatures gs) named.signatures
    subs = subst (λ rs. Sub rs named.signatures) (signatures_append fs gs) at.sub

    parted : block_mentions numbers named.raw.now ≡ before ++ (f ++ (g ++ after))
    parted = at.parted ∙ ap (λ ms. before ++ (ms ++ after)) (mentions_append numbers fs gs q) ∙ ap (λ ms. before ++ ms) (append_assoc f g after)

    made : u.procs ≡ pb ++ (ps ++ (qs ++ pa))
    made = at.made ∙ ap (λ zs. pb ++ zs) (append_assoc ps qs pa)

    pub first_at : At fs ps q before (g ++ after) pb (qs ++ pa)
    first_at = record { parted = parted; made = made; count = at.count; sub = sub_left (text_signatures fs) (text_signatures gs) named.signatures subs }

    pub second_at : length (procs_in f) ≡ length ps → At gs qs q (before ++ f) after (pb ++ ps) pa
    second_at same = record {
      parted = parted ∙ sym (append_assoc before f (g ++ after));
      made = made ∙ sym (append_assoc pb ps (qs ++ pa));
      count = ap length (pick_append (of_kind is_own_procedure) before f) ∙ length-append (procs_in before) (procs_in f) ∙ ap₂ (λ x y. x + y) at.count same ∙ sym (length-append pb ps);
      sub = sub_right (text_signatures fs) (text_signatures gs) named.signatures subs;
    }

  -- ---- a block

  pub inner_at : (fs : List Fact) (ps : List Proc) (q : Option ℕ) (before after : List Here) (pb pa : List Proc) → At (fact.Block None fs ∷ []) ps q before after pb pa → At fs ps q before after pb pa
  inner_at fs ps q before after pb pa at = record {
    parted = at.parted ∙ ap (λ ms. before ++ (ms ++ after)) (block_alone numbers None fs q);
    made = at.made;
    count = at.count;
    sub = subst (λ rs. Sub rs named.signatures) (append-nil (fact_signatures (fact.Block None fs)) ∙ signatures_block None fs) at.sub;
  }

  -- ---- a procedure

  -- what it mentions: itself, its answer, its parameters, and what its body does
  pub in_procedure : (p : RawProc) (fs : List Fact) (q : Option ℕ) (P : Here → Type 0) → P (first_mention named numbers p fs q) → ((m : Here) → In m (answers named numbers p fs q) → P m) → ((m : Here) → In m (params named numbers p fs q) → P m)
      → ((m : Here) → In m (body named numbers p fs q) → P m) → (m : Here) → In m (facts_mentions numbers (procedure_with named numbers p fs) q) → P m
  in_procedure p fs q P head answered xs ys m i = by_side (subst (In m) (shape named numbers p fs q) i)
    where
      inner : In m (params named numbers p fs q) ⊎ In m (body named numbers p fs q) → P m
      inner (inl k) = xs m k
      inner (inr k) = ys m k

      outer : In m (answers named numbers p fs q) ⊎ In m (params named numbers p fs q ++ body named numbers p fs q) → P m
      outer (inl k) = answered m k
      outer (inr k) = inner (in_either m (params named numbers p fs q) (body named numbers p fs q) k)

      by_side : In m (first_mention named numbers p fs q ∷ (answers named numbers p fs q ++ (params named numbers p fs q ++ body named numbers p fs q))) → P m
      by_side (inl e) = subst P e head
      by_side (inr j) = outer (in_either m (answers named numbers p fs q) (params named numbers p fs q ++ body named numbers p fs q) j)

  -- its number, its control parameters, and where its body stands
  pub record Stands (p : RawProc) (fs : List Fact) (ps : List Proc) (q : Option ℕ) (before after : List Here) (pb pa : List Proc) : Type 0 where
    pub is_number : item_at numbers (out-RawProc p).name.at.token ≡ Some (numbered.Proc (length pb))
    pub is_proc : slice_get u.procs (length pb) ≡ Some (proc_of named numbers p)
    pub here_proc : slice_get u.procs (proc_here numbers (out-RawProc p).name.at.token) ≡ Some (proc_of named numbers p)
    pub signed : In (row_of p) named.signatures
    pub sub_params : Sub (text_signatures (parameters_facts (out-RawProc p).params)) named.signatures
    pub number_at : FewParameters named → (a b : List Here) (w : Option ℕ) (d : Declaration) → params named numbers p fs q ≡ a ++ here w (declared d) ∷ b → is_control d.kind ≡ true → item_at numbers d.name.at.token ≡ Some (numbered.Control (length (controls numbers a)))
    pub body_at : At fs ps (within_it named numbers p fs q) (before ++ first_mention named numbers p fs q ∷ (answers named numbers p fs q ++ params named numbers p fs q)) after (pb ++ proc_of named numbers p ∷ []) pa

  module _ (placed : Placed named.raw.now) (counts : CountsOwn named numbers) (p : RawProc) (fs : List Fact) (ps : List Proc) (q : Option ℕ) (before after : List Here) (pb pa : List Proc) (at : At (procedure_with named numbers p fs) (proc_of named numbers p ∷ ps) q before after pb pa) where
    abbrev head : Here
    head = first_mention named numbers p fs q

    abbrev answered : List Here
    answered = answers named numbers p fs q

    abbrev xs : List Here
    xs = params named numbers p fs q

    abbrev ys : List Here
    ys = body named numbers p fs q

    parted_here : block_mentions numbers named.raw.now ≡ before ++ head ∷ ((answered ++ (xs ++ ys)) ++ after)
    parted_here = at.parted ∙ ap (λ ms. before ++ (ms ++ after)) (shape named numbers p fs q)

    is_number : item_at numbers (out-RawProc p).name.at.token ≡ Some (numbered.Proc (length pb))
    is_number =
        let n = procedures_before before (few_before numbers named.raw.now placed is_own_procedure before ((answered ++ (xs ++ ys)) ++ after) head parted_here) ∙ at.count in
        counts before ((answered ++ (xs ++ ys)) ++ after) q (record { name = (out-RawProc p).name; kind = kind.Proc (out-RawProc p).answer }) (numbered.Proc (length pb)) parted_here (ap (λ k. Some (numbered.Proc k)) n)

    is_proc : slice_get u.procs (length pb) ≡ Some (proc_of named numbers p)
    is_proc = ap (λ zs. slice_get zs (length pb)) at.made ∙ slice_at pb (ps ++ pa) (proc_of named numbers p)

    signed : In (row_of p) named.signatures
    signed = rows_signed named numbers p fs q at.sub (row_of p) (inl refl)

    inside : Sub (text_signatures (parameters_facts (out-RawProc p).params) ++ text_signatures fs) named.signatures
    inside = inner_signed named numbers p fs q at.sub

    sub_params : Sub (text_signatures (parameters_facts (out-RawProc p).params)) named.signatures
    sub_params = sub_left (text_signatures (parameters_facts (out-RawProc p).params)) (text_signatures fs) named.signatures inside

    rearranged : (a b : List Here) (m : Here) → before ++ head ∷ ((answered ++ ((a ++ m ∷ b) ++ ys)) ++ after) ≡ (before ++ head ∷ (answered ++ a)) ++ m ∷ (b ++ (ys ++ after))
    rearranged a b m =
        ap (λ zs. before ++ head ∷ (zs ++ after)) (ap (λ zs. answered ++ zs) (append_assoc a (m ∷ b) ys) ∙ sym (append_assoc answered a (m ∷ b ++ ys)))
        ∙ ap (λ zs. before ++ head ∷ zs) (append_assoc (answered ++ a) (m ∷ b ++ ys) after ∙ ap (λ zs. (answered ++ a) ++ m ∷ zs) (append_assoc b ys after))
        ∙ sym (append_assoc before (head ∷ (answered ++ a)) (m ∷ (b ++ (ys ++ after))))

    -- a control parameter has the number of its place
    number_at : FewParameters named → (a b : List Here) (w : Option ℕ) (d : Declaration) → xs ≡ a ++ here w (declared d) ∷ b → is_control d.kind ≡ true → item_at numbers d.name.at.token ≡ Some (numbered.Control (length (controls numbers a)))
    number_at few a b w d cut test =
        let c = counted (counted_from none_counted before) (kind.Proc (out-RawProc p).answer) in
        let count_there = controls_before numbers named.signatures (out-RawProc p).answer (out-RawProc p).params (within_it named numbers p fs q) sub_params a b (here w (declared d)) cut test (few (row_of p) signed) c refl in
        let ahead : List Here = before ++ head ∷ (answered ++ a) in
        let whole : block_mentions numbers named.raw.now ≡ ahead ++ here w (declared d) ∷ (b ++ (ys ++ after)) = parted_here ∙ ap (λ zs. before ++ head ∷ ((answered ++ (zs ++ ys)) ++ after)) cut ∙ rearranged a b (here w (declared d)) in
        let so_many : (counted_from none_counted ahead).controls ≡ length (controls numbers a) = ap (λ (k : Counts). k.controls) (counted_append none_counted before (head ∷ (answered ++ a))) ∙ count_there in
        counts ahead (b ++ (ys ++ after)) w d (numbered.Control (length (controls numbers a))) whole (control_number d.kind (counted_from none_counted ahead) test ∙ ap (λ k. Some (numbered.Control k)) so_many)

    body_at : At fs ps (within_it named numbers p fs q) (before ++ head ∷ (answered ++ xs)) after (pb ++ proc_of named numbers p ∷ []) pa
    body_at = record {
      parted = parted_here ∙ ap (λ zs. before ++ head ∷ zs) (ap (λ zs. zs ++ after) (sym (append_assoc answered xs ys)) ∙ append_assoc (answered ++ xs) ys after) ∙ sym (append_assoc before (head ∷ (answered ++ xs)) (ys ++ after));
      made = at.made ∙ sym (append_assoc pb (proc_of named numbers p ∷ []) (ps ++ pa));
      count = ap length (pick_append (of_kind is_own_procedure) before (head ∷ (answered ++ xs))) ∙ length-append (procs_in before) (head ∷ procs_in (answered ++ xs))
          ∙ ap₂ (λ a b. a + length (head ∷ b)) at.count (no_procs_before named numbers p fs q) ∙ sym (length-append pb (proc_of named numbers p ∷ []));
      sub = sub_right (text_signatures (parameters_facts (out-RawProc p).params)) (text_signatures fs) named.signatures inside;
    }

    pub procedure_stands : Stands p fs ps q before after pb pa
    procedure_stands = record {
      is_number = is_number;
      is_proc = is_proc;
      here_proc = ap (λ o. slice_get u.procs (proc_in o)) is_number ∙ is_proc;
      signed = signed;
      sub_params = sub_params;
      number_at = number_at;
      body_at = body_at;
    }
