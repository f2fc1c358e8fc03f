-- The control parameters of each procedure have the numbers from 0 on, and the specifications of their declarations: part by part, each part with
-- what the whole mentions before it and behind it, and with the procedures before it and behind it.
use Rattle.std.proofs.Common.{◌≡◌, ◌⊎◌, inl, inr, ℕ, ◌+◌, List, [], ◌∷◌, ◌++◌, length, Bool, true, false, IsTrue, Option, Some, None, is_some, refl, ap, subst, ◌∙◌, arith}
use Rattle.cw_table.specs.Rows.{item_at}
use Rattle.cw_tree.specs.declared.leaf.RawName.{RawName}
use Rattle.cw_tree.specs.declared.leaf.RawType.{RawType}
use Rattle.cw_tree.specs.declared.segment.RawIps.{RawIps}
use Rattle.cw_tree.specs.declared.statement.RawProc.{RawProc, out-RawProc}
use Rattle.cw_facts.specs.declared.fact.Fact.{Fact}
use Rattle.cw_facts.specs.declared.fact.Declaration.{Declaration}
use Rattle.cw_facts.specs.declared.fact.Kind.{Kind as NameKind}
use Rattle.cw_facts.specs.declared.fact.Kind.TheVariants as kind
use Rattle.cw_facts.specs.Facts.{each_uses, answer_facts, answer_name, type_position}
use Rattle.cw_facts.specs.Signatures.{plain as as_plain}
use Rattle.cw_scope.specs.declared.resolve.Named.{Named}
use Rattle.cw_number.specs.declared.numbered.Numbered.TheVariants as numbered
use Rattle.cw_make_items.specs.Lookup.{Numbers, control_in, control_here}
use Rattle.cw_make_items.specs.Types.{plain_spec}
use Rattle.cw_make.specs.Procedures.{params_of, proc_of}
use Rattle.cw_unit.specs.declared.descriptor.Spec.{Spec}
use Rattle.cw_unit.specs.declared.unit.Unit.{Unit as SourceUnit}
use Rattle.cw_unit.specs.declared.unit.Proc.{Proc}
use Rattle.cw_unit.specs.declared.unit.Param.{Param}
use Rattle.cw_unit.specs.declared.unit.Switch.{Switch}
use Rattle.cw_depth.specs.CallGraph.{spec_in, spec_in_procedure}
use Rattle.cw_deepest.specs.Programs.Fitting.{AreNumbered}
use Rattle.cw_deepest.specs.Linked.UnitFits.{parameter_in}
use Rattle.cw_sound.specs.Uses.Mentions.{In, Mention, Here, here, declares as declared, uses, stores, facts_mentions}
use Rattle.cw_sound.specs.Names.Placed.{Placed}
use Rattle.cw_sound.specs.Names.Standing.{is_control, CountsOwn, FewParameters}
use Rattle.cw_sound.proofs.Names.Params.{controls}
use Rattle.cw_sound.proofs.Names.Parts.{Part, empty, both, plain, items as data_items, label, switch, block, procedure, more, procedure_with}
use Rattle.cw_sound.proofs.Names.Lists.{in_either, split}
use Rattle.cw_sound.proofs.Names.Rows.{mentions_append}
use Rattle.cw_sound.proofs.Names.Picking.{Zip, zip_at, picked_at}
use Rattle.cw_sound.proofs.Names.Sorts.{of_kind}
use Rattle.cw_sound.proofs.Names.MentionsOf.{declared_first, block_alone}
use Rattle.cw_sound.proofs.Names.InProcedure.{IsParameter, parameters_say}
use Rattle.cw_sound.proofs.Names.PartKinds.{is_data, data_say, uses_say, within_it, params, body, part_procs, data_not, plain_not}
use Rattle.cw_sound.proofs.Names.Placing.{At, first_at, second_at, inner_at, in_procedure, Stands, procedure_stands}
use Rattle.cw_sound.proofs.Calls.Names.Taken.{controls_listed, numbered_from, spec_at}
use Rattle.cw_sound.proofs.Calls.Names.Controls.{Control, ControlOfKind, ControlOf, picked_of, all_controls}

either : {A B C : Type 0} → A ⊎ B → (A → C) → (B → C) → C
either (inl x) h k = h x
either (inr y) h k = k y

module _ (named : Named) (numbers : Numbers) (u : SourceUnit) where
  -- ---- what a control parameter is in the unit

  abbrev pub ControlAt : Option ℕ → (token : ℕ) → Option Spec → Type 0
  ControlAt q t o = (c : ℕ) × (item_at numbers t ≡ Some (numbered.Control c)) × (parameter_in u q c ≡ o) × IsTrue (is_some q)

  abbrev pub Goal : Option ℕ → RawName → NameKind → Type 0
  Goal q n kind.LabelParam = ControlAt q n.at.token None
  Goal q n kind.SwitchParam = ControlAt q n.at.token None
  Goal q n (kind.ProcParam answer) = (params : List RawIps) × ControlAt q n.at.token (Some (plain_spec answer params)) × In (record { token = n.at.token; item = record { answer = answer; params = as_plain params } }) named.signatures
  Goal q n _ = Unit {0}

  abbrev MentionGoal : Option ℕ → Mention → Type 0
  MentionGoal q (declared d) = Goal q d.name d.kind
  MentionGoal q (uses x) = Unit {0}
  MentionGoal q (stores token n) = Unit {0}

  abbrev pub HereGoal : Here → Type 0
  HereGoal m = MentionGoal m.who m.mention

  quiet_kind : (q : Option ℕ) (n : RawName) (k : NameKind) → is_control k ≡ false → Goal q n k
  quiet_kind q n kind.LabelParam h = absurd (cc)
  quiet_kind q n kind.SwitchParam h = absurd (cc)
  quiet_kind q n (kind.ProcParam t) h = absurd (cc)
  quiet_kind q n _ h = tt

  quiet : (q : Option ℕ) (m : Mention) → of_kind is_control m ≡ false → MentionGoal q m
  quiet q (declared d) h = quiet_kind q d.name d.kind h
  quiet q (uses x) h = tt
  quiet q (stores token n) h = tt

  from_control : (q : Option ℕ) (n : RawName) (k : NameKind) (x : Control) (c : ℕ) → item_at numbers n.at.token ≡ Some (numbered.Control c) → parameter_in u q c ≡ x.1 → IsTrue (is_some q) → ControlOfKind numbers named.signatures k n.at.token x → Goal q n k
  from_control q n kind.LabelParam x c is e w h = (c, is, e ∙ ap (λ (y : Control). y.1) h, w)
  from_control q n kind.SwitchParam x c is e w h = (c, is, e ∙ ap (λ (y : Control). y.1) h, w)
  from_control q n (kind.ProcParam answer) x c is e w h = (h.0, (c, is, e ∙ ap (λ (y : Control). y.1) h.1, w), h.2)
  from_control q n _ x c is e w h = absurd h

  its_number : (k : NameKind) (t : ℕ) (x : Control) → ControlOfKind numbers named.signatures k t x → x.0 ≡ control_here numbers t
  its_number kind.LabelParam t x h = ap (λ (y : Control). y.0) h
  its_number kind.SwitchParam t x h = ap (λ (y : Control). y.0) h
  its_number (kind.ProcParam answer) t x h = ap (λ (y : Control). y.0) h.1
  its_number _ t x h = absurd h

-- ---- what declares no control parameter

data_kind : (k : NameKind) → IsTrue (is_data k) → is_control k ≡ false
data_kind kind.LabelParam h = absurd (cc)
data_kind kind.SwitchParam h = absurd (cc)
data_kind (kind.ProcParam t) h = absurd (cc)
data_kind _ h = refl

answer_quiet : (numbers : Numbers) (o : Option RawType) (q : Option ℕ) (m : Here) → In m (facts_mentions numbers (answer_facts o) q) → of_kind is_control m.mention ≡ false
answer_quiet numbers None q m i = absurd i
answer_quiet numbers (Some t) q m i = by_side (subst (In m) (declared_first numbers (answer_name (type_position t)) (kind.Answer t) [] q) i)
  where
    by_side : In m (here q (declared (record { name = answer_name (type_position t); kind = kind.Answer t })) ∷ []) → of_kind is_control m.mention ≡ false
    by_side (inl e) = subst (λ n. of_kind is_control n.mention ≡ false) e refl
    by_side (inr j) = absurd j

module _ (named : Named) (numbers : Numbers) (u : SourceUnit) (placed : Placed named.raw.now) (counts : CountsOwn named numbers) (few : FewParameters named) where
  abbrev AllGoals : List Here → Type 0
  AllGoals ms = (m : Here) → In m ms → HereGoal named numbers u m

  abbrev AllNumbered : List Proc → Type 0
  AllNumbered ps = (x : Proc) → In x ps → AreNumbered 0 x.params

  -- what a part of the block comes to
  abbrev InContext : List Fact → List Proc → Type 0
  InContext fs ps = (q : Option ℕ) (before after : List Here) (pb pa : List Proc) → At named numbers u fs ps q before after pb pa → AllGoals (facts_mentions numbers fs q) × AllNumbered ps

  none_numbered : AllNumbered []
  none_numbered x i = absurd i

  -- ---- a procedure, whose body comes to this

  module _ (p : RawProc) (fs : List Fact) (ps : List Proc) (inside : InContext fs ps) (q : Option ℕ) (before after : List Here) (pb pa : List Proc) (at : At named numbers u (procedure_with named numbers p fs) (proc_of named numbers p ∷ ps) q before after pb pa) where
    stands : Stands named numbers u p fs ps q before after pb pa
    stands = procedure_stands named numbers u placed counts p fs ps q before after pb pa at

    abbrev xs : List Here
    xs = params named numbers p fs q

    abbrev who : Option ℕ
    who = within_it named numbers p fs q

    abbrev qs : List Param
    qs = params_of numbers (out-RawProc p).params

    zipped : Zip (ControlOf numbers named.signatures) (controls numbers xs) (controls_listed qs)
    zipped = all_controls numbers named.signatures (out-RawProc p).params who stands.sub_params

    place_number : (i k : ℕ) (o : Option Spec) (a b : List Here) (w : Option ℕ) (x : Mention) → xs ≡ a ++ here w x ∷ b → length (controls numbers a) ≡ i → of_kind is_control x ≡ true → ControlOf numbers named.signatures (here w x) (k, o) → k ≡ 0 + i
    place_number i k o a b w (declared d) cut place test r =
        let n : k ≡ length (controls numbers a) = its_number named numbers u d.kind d.name.at.token (k, o) r ∙ ap control_in (stands.number_at few a b w d cut test) in
        omega (arith, n, place)
    place_number i k o a b w (uses x) cut place test r = absurd r
    place_number i k o a b w (stores token n) cut place test r = absurd r

    numbered_here : AreNumbered 0 qs
    numbered_here =
        numbered_from qs 0 (λ i k o e.
        let f = picked_of (of_kind is_control) (ControlOf numbers named.signatures) xs (controls_listed qs) i (k, o) zipped e in
        place_number i k o f.before f.after f.mention.who f.mention.mention f.is_there f.is_place f.is_picked f.related)

    -- a parameter
    of_control : (q' : Option ℕ) (d : Declaration) → q' ≡ who → is_control d.kind ≡ true → In (here q' (declared d)) xs → Goal named numbers u q' d.name d.kind
    of_control q' d same test i =
        let cut = split (here q' (declared d)) xs i in
        let c : ℕ = length (controls numbers cut.0) in
        let picked : controls numbers xs ≡ controls numbers cut.0 ++ here q' (declared d) ∷ controls numbers cut.1 = ap (controls numbers) cut.2 ∙ picked_at (of_kind is_control) cut.0 cut.1 (here q' (declared d)) test in
        let there = zip_at (ControlOf numbers named.signatures) (controls numbers cut.0) (controls numbers cut.1) (here q' (declared d)) (controls_listed qs) (subst (λ ms. Zip (ControlOf numbers named.signatures) ms (controls_listed qs)) picked zipped) in
        let start : c ≡ 0 + c = omega arith in
        let spec : spec_in c qs ≡ there.0.1 = spec_at qs 0 c c there.0 start numbered_here there.1 in
        let here_spec : parameter_in u q' c ≡ there.0.1 = ap (λ o. parameter_in u o c) same ∙ ap (spec_in_procedure c) stands.here_proc ∙ spec in
        from_control named numbers u q' d.name d.kind there.0 c (stands.number_at few cut.0 cut.1 q' d cut.2 test) here_spec (ap is_some same) there.2

    of_param : (m : Here) → In m xs → HereGoal named numbers u m
    of_param m i = by_mention m.who m.mention i (parameters_say numbers (out-RawProc p).params who m i)
      where
        by_test : (q' : Option ℕ) (d : Declaration) (b : Bool) → is_control d.kind ≡ b → q' ≡ who → In (here q' (declared d)) xs → Goal named numbers u q' d.name d.kind
        by_test q' d true e same j = of_control q' d same e j
        by_test q' d false e same j = quiet_kind named numbers u q' d.name d.kind e

        by_mention : (q' : Option ℕ) (x : Mention) → In (here q' x) xs → (q' ≡ who) × IsParameter x → MentionGoal named numbers u q' x
        by_mention q' (declared d) j h = by_test q' d (is_control d.kind) refl h.0 j
        by_mention q' (uses x) j h = tt
        by_mention q' (stores token n) j h = tt

    -- the body
    of_body : AllGoals (body named numbers p fs q) × AllNumbered ps
    of_body = inside who _ _ _ _ stands.body_at

    of_procedure : AllGoals (facts_mentions numbers (procedure_with named numbers p fs) q)
    of_procedure = in_procedure named numbers u p fs q (HereGoal named numbers u) tt (λ m i. quiet named numbers u m.who m.mention (answer_quiet numbers (out-RawProc p).answer who m i)) of_param of_body.0

    procedures_numbered : AllNumbered (proc_of named numbers p ∷ ps)
    procedures_numbered x (inl e) = subst (λ (y : Proc). AreNumbered 0 y.params) e numbered_here
    procedures_numbered x (inr j) = of_body.1 x j

  -- ---- each part

  pub in_part : {fs : List Fact} {ws : Option ℕ → List Switch} {ps : List Proc} {s : ℕ → Bool} → Part named numbers fs ws ps s → InContext fs ps
  in_part empty q before after pb pa at = (λ m i. absurd i, none_numbered)
  in_part (both {fs} {gs} {ws} {xs} {ps} {qs} {s} {t} a b) q before after pb pa at =
      let x = in_part a q _ _ _ _ (first_at named numbers u fs gs ps qs q before after pb pa at) in
      let y = in_part b q _ _ _ _ (second_at named numbers u fs gs ps qs q before after pb pa at (part_procs named numbers a q)) in (
        λ m i. either (in_either m (facts_mentions numbers fs q) (facts_mentions numbers gs q) (subst (In m) (mentions_append numbers fs gs q) i)) (x.0 m) (y.0 m),
        λ z i. either (in_either z ps qs i) (x.1 z) (y.1 z),
      )
  in_part (plain {fs} h) q before after pb pa at = (λ m i. quiet named numbers u m.who m.mention (plain_not is_control m.mention (h.mentions q m i).1), none_numbered)
  in_part (data_items d) q before after pb pa at = (λ m i. quiet named numbers u m.who m.mention (data_not is_control data_kind m.mention (data_say numbers d q m i).1), none_numbered)
  in_part (label n) q before after pb pa at = (λ m i. by_side m (subst (In m) (declared_first numbers n kind.Label [] q) i), none_numbered)
    where
      by_side : (m : Here) → In m (here q (declared (record { name = n; kind = kind.Label })) ∷ []) → HereGoal named numbers u m
      by_side m (inl e) = subst (HereGoal named numbers u) e tt
      by_side m (inr j) = absurd j
  in_part (switch n labels) q before after pb pa at = (λ m i. by_side m (subst (In m) (declared_first numbers n kind.Switch (each_uses labels) q) i), none_numbered)
    where
      by_side : (m : Here) → In m (here q (declared (record { name = n; kind = kind.Switch })) ∷ facts_mentions numbers (each_uses labels) q) → HereGoal named numbers u m
      by_side m (inl e) = subst (HereGoal named numbers u) e tt
      by_side m (inr j) = quiet named numbers u m.who m.mention (plain_not is_control m.mention (uses_say numbers labels q m j).1)
  in_part (block {fs} {ws} {ps} a) q before after pb pa at =
      let x = in_part a q _ _ _ _ (inner_at named numbers u fs ps q before after pb pa at) in
      (λ m i. x.0 m (subst (In m) (block_alone numbers None fs q) i), x.1)
  in_part (procedure p {fs} {ws} {ps} a) q before after pb pa at = (of_procedure p fs ps (in_part a) q before after pb pa at, procedures_numbered p fs ps (in_part a) q before after pb pa at)
  in_part (more h a) q before after pb pa at = in_part a q before after pb pa at
