-- What the declarations of each part of a block stand for.
use Rattle.std.proofs.Common.{◌≡◌, ◌⊎◌, inl, inr, ℕ, List, [], ◌∷◌, length, Bool, true, false, IsTrue, Option, Some, None, slice_get, refl, sym, ap, subst, ◌∙◌}
use Rattle.cw_tree.specs.declared.leaf.RawType.{RawType}
use Rattle.cw_tree.specs.declared.statement.RawProc.{RawProc, out-RawProc}
use Rattle.cw_facts.specs.declared.fact.Fact.{Fact}
use Rattle.cw_facts.specs.declared.fact.Declaration.{Declaration}
use Rattle.cw_facts.specs.declared.fact.Kind.{Kind as NameKind}
use Rattle.cw_facts.specs.declared.fact.Kind.TheVariants as kind
use Rattle.cw_facts.specs.Facts.{each_uses, answer_facts, answer_name, type_position}
use Rattle.cw_scope.specs.declared.resolve.Named.{Named}
use Rattle.cw_make_items.specs.Lookup.{Numbers}
use Rattle.cw_make_stmt.specs.Made.{statement_of}
use Rattle.cw_make.specs.Procedures.{proc_of}
use Rattle.cw_unit.specs.declared.unit.Unit.{Unit as SourceUnit}
use Rattle.cw_unit.specs.declared.unit.Proc.{Proc}
use Rattle.cw_unit.specs.declared.unit.Switch.{Switch}
use Rattle.cw_safety.specs.WellFormed.{sets, sets_in_procedure, controls_in}
use Rattle.cw_sound.specs.Uses.Mentions.{In, Mention, Here, here, declares as declared, uses, stores, facts_mentions}
use Rattle.cw_sound.specs.Names.Placed.{Placed}
use Rattle.cw_sound.specs.Names.Standing.{is_control, CountsOwn}
use Rattle.cw_sound.proofs.Expressions.Truth.{or_left, or_right}
use Rattle.cw_sound.proofs.Names.Parts.{Part, empty, both, plain, items as data_items, label, switch, block, procedure, more, procedure_with, label_number}
use Rattle.cw_sound.proofs.Names.Lists.{in_either, split}
use Rattle.cw_sound.proofs.Names.FoundRows.{eq_same}
use Rattle.cw_sound.proofs.Names.Rows.{mentions_append}
use Rattle.cw_sound.proofs.Names.Sorts.{of_kind}
use Rattle.cw_sound.proofs.Names.MentionsOf.{declared_first, block_alone}
use Rattle.cw_sound.proofs.Names.Params.{controls}
use Rattle.cw_sound.proofs.Names.InProcedure.{IsParameter, is_parameter, parameters_say, kind_there}
use Rattle.cw_sound.proofs.Names.PartKinds.{IsData, IsPlain, is_data, data_say, uses_say, within_it, first_mention, params, body, part_procs}
use Rattle.cw_sound.proofs.Names.Placing.{At, first_at, second_at, inner_at, in_procedure, Stands, procedure_stands}
use Rattle.cw_sound.proofs.Names.Inside.{SetIn, controls_at, Goal, MentionGoal, HereGoal, is_quiet, is_quiet_mention, quiet, from_control}

-- ---- what asks for nothing

data_quiet : (k : NameKind) → IsTrue (is_data k) → IsTrue (is_quiet k)
data_quiet (kind.Proc t) h = absurd (cc)
data_quiet kind.Label h = absurd (cc)
data_quiet kind.LabelParam h = absurd (cc)
data_quiet kind.SwitchParam h = absurd (cc)
data_quiet (kind.ProcParam t) h = absurd (cc)
data_quiet _ h = refl

data_mention : (m : Mention) → IsData m → IsTrue (is_quiet_mention m)
data_mention (declared d) h = data_quiet d.kind h
data_mention (uses x) h = refl
data_mention (stores token n) h = refl

plain_mention : (m : Mention) → IsPlain m → IsTrue (is_quiet_mention m)
plain_mention (declared d) h = absurd (cc)
plain_mention (uses x) h = refl
plain_mention (stores token n) h = refl

parameter_quiet : (k : NameKind) → IsTrue (is_parameter k) → is_control k ≡ false → IsTrue (is_quiet k)
parameter_quiet (kind.Proc t) h e = absurd (cc)
parameter_quiet kind.Label h e = absurd (cc)
parameter_quiet kind.LabelParam h e = absurd (cc)
parameter_quiet kind.SwitchParam h e = absurd (cc)
parameter_quiet (kind.ProcParam t) h e = absurd (cc)
parameter_quiet _ h e = refl

answer_quiet : (numbers : Numbers) (o : Option RawType) (q : Option ℕ) (m : Here) → In m (facts_mentions numbers (answer_facts o) q) → IsTrue (is_quiet_mention m.mention)
answer_quiet numbers None q m i = absurd i
answer_quiet numbers (Some t) q m i = by_side (subst (In m) (declared_first numbers (answer_name (type_position t)) (kind.Answer t) [] q) i)
  where
    by_side : In m (here q (declared (record { name = answer_name (type_position t); kind = kind.Answer t })) ∷ []) → IsTrue (is_quiet_mention m.mention)
    by_side (inl e) = subst (λ n. IsTrue (is_quiet_mention n.mention)) e refl
    by_side (inr j) = absurd j

module _ (named : Named) (numbers : Numbers) (u : SourceUnit) (placed : Placed named.raw.now) (counts : CountsOwn named numbers) where
  -- what a part of the block comes to
  abbrev pub InContext : List Fact → List Proc → (ℕ → Bool) → Type 0
  InContext fs ps s =
      (q : Option ℕ) (before after : List Here) (pb pa : List Proc) → At named numbers u fs ps q before after pb pa → ((l : ℕ) → IsTrue (s l) → SetIn named numbers u q l) → (m : Here) → In m (facts_mentions numbers fs q)
      → HereGoal named numbers u m

  -- ---- a procedure, whose body comes to this

  module _ (p : RawProc) (fs : List Fact) (ps : List Proc) (inside : InContext fs ps (λ l. sets l (statement_of named numbers (out-RawProc p).body))) (q : Option ℕ) (before after : List Here) (pb pa : List Proc)
      (at : At named numbers u (procedure_with named numbers p fs) (proc_of named numbers p ∷ ps) q before after pb pa) where
    stands : Stands named numbers u p fs ps q before after pb pa
    stands = procedure_stands named numbers u placed counts p fs ps q before after pb pa at

    abbrev xs : List Here
    xs = params named numbers p fs q

    abbrev who : Option ℕ
    who = within_it named numbers p fs q

    of_head : HereGoal named numbers u (first_mention named numbers p fs q)
    of_head = record { number = length pb; proc = p; is_number = stands.is_number; is_proc = stands.is_proc; is_answer = refl; signature = stands.signed }

    -- a parameter
    of_control : (q' : Option ℕ) (d : Declaration) → q' ≡ who → is_control d.kind ≡ true → In (here q' (declared d)) xs → Goal named numbers u q' d.name d.kind
    of_control q' d same test i =
        let cut = split (here q' (declared d)) xs i in
        let there = kind_there numbers named.signatures (out-RawProc p).answer (out-RawProc p).params who stands.sub_params cut.0 cut.1 (here q' (declared d)) cut.2 test in
        let kinds_here : slice_get (controls_at named numbers u q') (length (controls numbers cut.0)) ≡ Some there.0 =
        ap (λ o. slice_get (controls_at named numbers u o) (length (controls numbers cut.0))) same ∙ ap (λ o. slice_get (controls_in o) (length (controls numbers cut.0))) stands.here_proc ∙ there.1 in
        from_control named numbers u q' d.name d.kind there.0 there.2 (λ few. (length (controls numbers cut.0), stands.number_at few cut.0 cut.1 q' d cut.2 test, kinds_here))

    of_param : (m : Here) → In m xs → HereGoal named numbers u m
    of_param m i = by_mention m.who m.mention i (parameters_say numbers (out-RawProc p).params who m i)
      where
        by_test : (q' : Option ℕ) (d : Declaration) (b : Bool) → is_control d.kind ≡ b → q' ≡ who → IsTrue (is_parameter d.kind) → In (here q' (declared d)) xs → Goal named numbers u q' d.name d.kind
        by_test q' d true e same h j = of_control q' d same e j
        by_test q' d false e same h j = quiet named numbers u q' (declared d) (parameter_quiet d.kind h e)

        by_mention : (q' : Option ℕ) (x : Mention) → In (here q' x) xs → (q' ≡ who) × IsParameter x → MentionGoal named numbers u q' x
        by_mention q' (declared d) j h = by_test q' d (is_control d.kind) refl h.0 h.1 j
        by_mention q' (uses x) j h = tt
        by_mention q' (stores token n) j h = tt

    -- the body
    of_body : (m : Here) → In m (body named numbers p fs q) → HereGoal named numbers u m
    of_body m i = inside who _ _ _ _ stands.body_at (λ l h. subst (λ o. IsTrue (sets_in_procedure l o)) (sym stands.here_proc) h) m i

    of_procedure : (m : Here) → In m (facts_mentions numbers (procedure_with named numbers p fs) q) → HereGoal named numbers u m
    of_procedure = in_procedure named numbers u p fs q (HereGoal named numbers u) of_head (λ m i. quiet named numbers u m.who m.mention (answer_quiet numbers (out-RawProc p).answer who m i)) of_param of_body

  -- ---- each part

  pub in_part : {fs : List Fact} {ws : Option ℕ → List Switch} {ps : List Proc} {s : ℕ → Bool} → Part named numbers fs ws ps s → InContext fs ps s
  in_part empty q before after pb pa at set m i = absurd i
  in_part (both {fs} {gs} {ws} {xs} {ps} {qs} {s} {t} a b) q before after pb pa at set m i =
      either (in_either m (facts_mentions numbers fs q) (facts_mentions numbers gs q) (subst (In m) (mentions_append numbers fs gs q) i))
      (in_part a q _ _ _ _ (first_at named numbers u fs gs ps qs q before after pb pa at) (λ l h. set l (or_left (s l) (t l) h)) m)
      (in_part b q _ _ _ _ (second_at named numbers u fs gs ps qs q before after pb pa at (part_procs named numbers a q)) (λ l h. set l (or_right (s l) (t l) h)) m)
    where
      either : {A B C : Type 0} → A ⊎ B → (A → C) → (B → C) → C
      either (inl x) h k = h x
      either (inr y) h k = k y
  in_part (plain {fs} h) q before after pb pa at set m i = quiet named numbers u m.who m.mention (plain_mention m.mention (h.mentions q m i).1)
  in_part (data_items d) q before after pb pa at set m i = quiet named numbers u m.who m.mention (data_mention m.mention (data_say numbers d q m i).1)
  in_part (label n) q before after pb pa at set m i = by_side (subst (In m) (declared_first numbers n kind.Label [] q) i)
    where
      by_side : In m (here q (declared (record { name = n; kind = kind.Label })) ∷ []) → HereGoal named numbers u m
      by_side (inl e) = subst (HereGoal named numbers u) e (set (label_number named numbers n) (eq_same (label_number named numbers n)))
      by_side (inr j) = absurd j
  in_part (switch n labels) q before after pb pa at set m i = by_side (subst (In m) (declared_first numbers n kind.Switch (each_uses labels) q) i)
    where
      by_side : In m (here q (declared (record { name = n; kind = kind.Switch })) ∷ facts_mentions numbers (each_uses labels) q) → HereGoal named numbers u m
      by_side (inl e) = subst (HereGoal named numbers u) e tt
      by_side (inr j) = quiet named numbers u m.who m.mention (plain_mention m.mention (uses_say numbers labels q m j).1)
  in_part (block {fs} {ws} {ps} a) q before after pb pa at set m i = in_part a q _ _ _ _ (inner_at named numbers u fs ps q before after pb pa at) set m (subst (In m) (block_alone numbers None fs q) i)
  in_part (procedure p {fs} {ws} {ps} a) q before after pb pa at set m i = of_procedure p fs ps (in_part a) q before after pb pa at m i
  in_part (more h a) q before after pb pa at set m i = in_part a q before after pb pa at (λ l k. set l (h l k)) m i
