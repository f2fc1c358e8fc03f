-- What the names of a body pass and take, by what they stand for and by the specifications of their declarations.
use Rattle.std.proofs.Common.{◌≡◌, ℕ, List, [], ◌∷◌, ◌++◌, map, Bool, true, false, IsTrue, ◌&&◌, Option, Some, None, slice_get, refl, sym, ap, subst, ◌∙◌}
use Rattle.std.proofs.lemmas.Option.{same_Some}
use Rattle.cw_tree.specs.declared.leaf.RawName.{RawName}
use Rattle.cw_tree.specs.declared.leaf.RawType.{RawType}
use Rattle.cw_tree.specs.declared.leaf.RawSize.{RawSize}
use Rattle.cw_tree.specs.declared.segment.RawIps.{RawIps}
use Rattle.cw_tree.specs.declared.segment.RawIps.TheVariants as inner
use Rattle.cw_tree.specs.declared.segment.RawPs.{RawPs}
use Rattle.cw_tree.specs.declared.segment.RawPs.TheVariants as ps
use Rattle.cw_facts.specs.declared.fact.Fact.{Fact}
use Rattle.cw_facts.specs.declared.fact.Fact.TheVariants as fact
use Rattle.cw_facts.specs.declared.fact.Form.{Form}
use Rattle.cw_facts.specs.declared.fact.Form.TheVariants as form
use Rattle.cw_facts.specs.declared.fact.Kind.{Kind as NameKind}
use Rattle.cw_facts.specs.declared.fact.Kind.TheVariants as kind
use Rattle.cw_facts.specs.declared.fact.Signature.{Signature}
use Rattle.cw_facts.specs.declared.fact.Use.{Use}
use Rattle.cw_facts.specs.Signatures.{plain}
use Rattle.cw_facts.specs.Uses.{uses_of}
use Rattle.cw_scope.specs.declared.resolve.Named.{Named}
use Rattle.cw_scope.specs.NameRules.{fits, answers, is_procedure, is_label, is_switch}
use Rattle.cw_scale.specs.Arguments.{is_array, is_table, is_passed, is_passed_if, specified_so, kind_fits, kind_fits_if, takes_procedure}
use Rattle.cw_scale.specs.Kinds.{kind_of, signature_of}
use Rattle.cw_number.specs.declared.numbered.Numbered.{Numbered}
use Rattle.cw_number.specs.declared.numbered.Numbered.TheVariants as numbered
use Rattle.cw_make.specs.Labels.{proc_within}
use Rattle.cw_make_expr.specs.Parts.{Numbers, number_of, bound, is_called, target_of, params_of, handed, handed_item}
use Rattle.cw_make_expr.specs.Made.{target}
use Rattle.cw_make_items.specs.Types as types
use Rattle.cw_make_items.specs.Types.{plain_spec, each_taken, each_plain_taken, plain_taken}
use Rattle.cw_unit.specs.declared.unit.Unit.{Unit as SourceUnit}
use Rattle.cw_unit.specs.declared.unit.Goal.TheVariants as goal
use Rattle.cw_unit.specs.declared.unit.Arg.{Arg, roll-Arg}
use Rattle.cw_unit.specs.declared.unit.Cond.{Cond}
use Rattle.cw_unit.specs.declared.unit.Expr.{Expr}
use Rattle.cw_unit.specs.declared.unit.Spot.{Spot}
use Rattle.cw_unit.specs.declared.unit.Ref.{Ref}
use Rattle.cw_unit.specs.declared.unit.Arg.TheOpen as layer
use Rattle.cw_unit.specs.declared.unit.Arg.TheOpen.{Arg-F}
use Rattle.cw_unit.specs.declared.descriptor.Scale.{Scale}
use Rattle.cw_unit.specs.declared.descriptor.Spec.{Spec}
use Rattle.cw_unit.specs.declared.descriptor.SpecParam.{SpecParam}
use Rattle.cw_safety.specs.Kinds.{WordKind}
use Rattle.cw_built.specs.Listed.{body_at}
use Rattle.cw_depth.specs.CallGraph.{spec_of}
use Rattle.cw_deepest.specs.Programs.Calls.{Argument, passed_by, of_argument}
use Rattle.cw_deepest.specs.Programs.Fitting.{Scope, spec_passed, TakenAs, Takes, Fits, spec_if}
use Rattle.cw_deepest.specs.Linked.UnitFits.{spec_said, parameter_in, scope_in}
use Rattle.cw_sound.specs.Uses.Mentions.{In, Here, here, uses, facts_mentions}
use Rattle.cw_sound.specs.Uses.Stands.{kind_specified, IsItem, IsLabel, IsSwitch, IsReader, IsWriter, StandsAs, FactsStand}
use Rattle.cw_sound.proofs.Expressions.Standing.{split, all_left, all_right, use_is_in, use_stands, owned_is_in}
use Rattle.cw_sound.proofs.Calls.Names.Specs.{passed_spec}
use Rattle.cw_sound.proofs.Calls.Names.Taken.{taken_of_spec}
use Rattle.cw_sound.proofs.Calls.Trees.Parts.{plain_wanted, wanted, is_call_form, Context}
use Rattle.cw_sound.proofs.Calls.Trees.Nodes.{argument_layer, argument_rolled}

no : {A : Type 0} → IsTrue false → A
no h = absurd (cc)

both_true : (a b : Bool) → IsTrue (a && b) → IsTrue a × IsTrue b
both_true true b h = (refl, h)
both_true false b h = no h

-- what a procedure that is a parameter is specified as
plain_each : (params : List RawIps) → each_taken (plain params) ≡ each_plain_taken params
plain_each [] = refl
plain_each (p ∷ more) = ap (λ xs. plain_taken p ∷ xs) (plain_each more)

plain_of : (answer : Option RawType) (params : List RawIps) → types.spec_of answer (plain params) ≡ plain_spec answer params
plain_of answer params = ap (λ (xs : List SpecParam). spec_with (types.answer_of answer) xs) (plain_each params)
  where
    spec_with : Option Scale → List SpecParam → Spec
    spec_with a xs = record { answer = a; params = xs }

-- what takes one word takes no procedure, label or switch
word_wanted : (params : List RawPs) → map kind_specified params ≡ WordKind ∷ [] → wanted params ≡ []
word_wanted [] e = absurd (cc)
word_wanted (ps.Plain (inner.Label at) ∷ []) e = absurd (cc)
word_wanted (ps.Plain (inner.Switch at) ∷ []) e = absurd (cc)
word_wanted (ps.Proc answer at params ∷ []) e = absurd (cc)
word_wanted (p ∷ q ∷ more) e = absurd (cc)
word_wanted _ e = refl

module _ (named : Named) (numbers : Numbers) (u : SourceUnit) where
  -- ---- the specification that a name has in the unit

  abbrev pub HasSpec : Spec → Option Numbered → Type 0
  HasSpec s (Some (numbered.Proc p)) = spec_if (slice_get u.procs p) ≡ Some s
  HasSpec s (Some (numbered.CommonProc d)) = spec_said (body_at u d) ≡ Some s
  HasSpec s _ = ⊥

  abbrev pub SpecsAs : (who : Option ℕ) → NameKind → RawName → Type 0
  SpecsAs who kind.LabelParam n = (c : ℕ) × (number_of named numbers n ≡ Some (numbered.Control c)) × (parameter_in u who c ≡ None)
  SpecsAs who kind.SwitchParam n = (c : ℕ) × (number_of named numbers n ≡ Some (numbered.Control c)) × (parameter_in u who c ≡ None)
  SpecsAs who (kind.ProcParam answer) n =
      (params : List RawIps) × (c : ℕ) × (number_of named numbers n ≡ Some (numbered.Control c)) × (parameter_in u who c ≡ Some (plain_spec answer params)) × (signature_of named n ≡ Some (record { answer = answer; params = plain params }))
  SpecsAs who (kind.Proc answer) n = (params : List RawPs) × (signature_of named n ≡ Some (record { answer = answer; params = params })) × HasSpec (types.spec_of answer params) (number_of named numbers n)
  SpecsAs who _ n = Unit {0}

  abbrev pub SpecsKnown : (who : Option ℕ) → RawName → Type 0
  SpecsKnown who n = (k : NameKind) → kind_of named n ≡ Some k → SpecsAs who k n

  abbrev pub UsesKnown : List Fact → (who : Option ℕ) → Type 0
  UsesKnown facts who = (m : Here) → In m (facts_mentions numbers facts who) → (x : Use) → m.mention ≡ uses x → SpecsKnown m.who x.name

  pub record Known (who : Option ℕ) (n : RawName) : Type 0 where
    pub named_kind : NameKind
    pub is_kind : kind_of named n ≡ Some named_kind
    pub stands_as : StandsAs named numbers u who named_kind n
    pub specs_as : SpecsAs who named_kind n

  module _ (who : Option ℕ) where
    abbrev pub scope : Scope
    scope = scope_in u who

    abbrev pub Stood : List Fact → Type 0
    Stood facts = FactsStand named numbers u facts who × UsesKnown facts who

    pub stood_split : (fs gs : List Fact) → Stood (fs ++ gs) → Stood fs × Stood gs
    stood_split fs gs h =
        let facts = split named numbers u who fs gs h.0 in
        ((facts.0, λ m i. h.1 m (all_left named numbers u who m fs gs i)), (facts.1, λ m i. h.1 m (all_right named numbers u who m fs gs i)))

    pub known_of : (n : RawName) (f : Form) → Stood (uses_of n f) → Known who n
    known_of n f h =
        let s = use_stands named numbers u who n f h.0 in
        let x : Use = record { name = n; form = f } in
        record { named_kind = s.named_kind; is_kind = s.is_kind; stands_as = s.stands_as; specs_as = h.1 (here who (uses x)) (use_is_in named numbers u who n f) x refl s.named_kind s.is_kind }

    answers_called : (k : NameKind) → IsTrue (answers k) → IsTrue (is_called (Some k))
    answers_called (kind.Proc t) h = refl
    answers_called (kind.ProcParam t) h = refl
    answers_called kind.ReadByte h = refl
    answers_called _ h = no h

    procedure_called : (k : NameKind) → IsTrue (is_procedure k) → IsTrue (is_called (Some k))
    procedure_called (kind.Proc t) h = refl
    procedure_called (kind.ProcParam t) h = refl
    procedure_called kind.ReadByte h = refl
    procedure_called kind.WriteByte h = refl
    procedure_called _ h = no h

    form_called : (f : Form) (k : NameKind) → IsTrue (is_call_form f) → IsTrue (fits f k) → IsTrue (is_called (Some k))
    form_called form.CallValue k h e = answers_called k e
    form_called form.Call k h e = procedure_called k e
    form_called _ k h e = no h

    pub callable_of : (n : RawName) (f : Form) → IsTrue (is_call_form f) → Stood (uses_of n f) → IsTrue (is_called (kind_of named n))
    callable_of n f is h =
        let s = use_stands named numbers u who n f h.0 in
        subst (λ (o : Option NameKind). IsTrue (is_called o)) (sym s.is_kind) (form_called f s.named_kind is s.fits_use)

    -- ---- what a name passes

    abbrev pub Hands : Arg → List (Option Spec) → Type 0
    Hands a ws = (map (spec_passed scope) (of_argument a).passed ≡ ws) × ((of_argument a).calls ≡ [])

    hands_of : (x : Arg-F Arg Cond Expr Spot Ref) (ws : List (Option Spec)) → map (spec_passed scope) (argument_layer x).passed ≡ ws → (argument_layer x).calls ≡ [] → Hands (roll-Arg x) ws
    hands_of x ws e f = (ap (λ (a : Argument). map (spec_passed scope) a.passed) (argument_rolled x) ∙ e, ap (λ (a : Argument). a.calls) (argument_rolled x) ∙ f)

    item_hands : (k : NameKind) (number : Option Numbered) → IsItem named numbers u who 1 number → ((i : ℕ) → Hands (handed_item (Some k) i) []) → Hands (handed (Some k) number) []
    item_hands k number x h = subst (λ (o : Option Numbered). Hands (handed (Some k) o) []) (sym x.1) (h x.0)

    array_hands : (t : RawType) (k : NameKind) (n : RawName) → StandsAs named numbers u who k n → IsTrue (is_array t k) → Hands (handed (Some k) (number_of named numbers n)) []
    array_hands t (kind.Array v b) n x h = item_hands (kind.Array v b) (number_of named numbers n) x (λ i. hands_of (layer.Array i (bound b.first.lower)) [] refl refl)
    array_hands t (kind.ArrayParam v) n x h = item_hands (kind.ArrayParam v) (number_of named numbers n) x (λ i. hands_of (layer.Same i) [] refl refl)
    array_hands t _ n x h = no h

    table_hands : (s : RawSize) (k : NameKind) (n : RawName) → StandsAs named numbers u who k n → IsTrue (is_table s k) → Hands (handed (Some k) (number_of named numbers n)) []
    table_hands s (kind.Table z) n x h = item_hands (kind.Table z) (number_of named numbers n) x (λ i. hands_of (layer.Base i) [] refl refl)
    table_hands s (kind.TableParam z) n x h = item_hands (kind.TableParam z) (number_of named numbers n) x (λ i. hands_of (layer.Same i) [] refl refl)
    table_hands s _ n x h = no h

    control_hands : (k : NameKind) (number : Option Numbered) (c : ℕ) (o : Option Spec) → number ≡ Some (numbered.Control c) → parameter_in u who c ≡ o → Hands (handed (Some k) number) (o ∷ [])
    control_hands k number c o is e = subst (λ (z : Option Numbered). Hands (handed (Some k) z) (o ∷ [])) (sym is) (hands_of (layer.Special c) (o ∷ []) (ap (λ (z : Option Spec). z ∷ []) e) refl)

    own_label_hands : (k : NameKind) (number : Option Numbered) → IsLabel named numbers u who number → Hands (handed (Some k) number) (None ∷ [])
    own_label_hands k (Some (numbered.Label l)) x = hands_of (layer.Goal (goal.Own l)) (None ∷ []) refl refl
    own_label_hands k (Some (numbered.CommonLabel d)) x = hands_of (layer.Goal (goal.Common d)) (None ∷ []) refl refl
    own_label_hands k _ x = absurd x

    own_switch_hands : (k : NameKind) (number : Option Numbered) → IsSwitch named numbers u who number → Hands (handed (Some k) number) (None ∷ [])
    own_switch_hands k (Some (numbered.Switch l)) x = hands_of (layer.Switch l) (None ∷ []) refl refl
    own_switch_hands k (Some (numbered.CommonSwitch d)) x = hands_of (layer.CommonSwitch d) (None ∷ []) refl refl
    own_switch_hands k _ x = absurd x

    label_hands : (k : NameKind) (n : RawName) → StandsAs named numbers u who k n → SpecsAs who k n → IsTrue (is_label k) → Hands (handed (Some k) (number_of named numbers n)) (None ∷ [])
    label_hands kind.Label n x s h = own_label_hands kind.Label (number_of named numbers n) x
    label_hands kind.LabelParam n x s h = control_hands kind.LabelParam (number_of named numbers n) s.0 None s.1 s.2
    label_hands _ n x s h = no h

    switch_hands : (k : NameKind) (n : RawName) → StandsAs named numbers u who k n → SpecsAs who k n → IsTrue (is_switch k) → Hands (handed (Some k) (number_of named numbers n)) (None ∷ [])
    switch_hands kind.Switch n x s h = own_switch_hands kind.Switch (number_of named numbers n) x
    switch_hands kind.SwitchParam n x s h = control_hands kind.SwitchParam (number_of named numbers n) s.0 None s.1 s.2
    switch_hands _ n x s h = no h

    plain_hands : (p : RawIps) (k : NameKind) (n : RawName) → StandsAs named numbers u who k n → SpecsAs who k n → IsTrue (kind_fits p k) → Hands (handed (Some k) (number_of named numbers n)) (plain_wanted p)
    plain_hands (inner.Value at t) k n x s h = no h
    plain_hands (inner.Location at t) k n x s h = no h
    plain_hands (inner.Array t) k n x s h = array_hands t k n x h
    plain_hands (inner.Table at z) k n x s h = table_hands z k n x h
    plain_hands (inner.Label at) k n x s h = label_hands k n x s h
    plain_hands (inner.Switch at) k n x s h = switch_hands k n x s h

    pub plain_of_name : (n : RawName) (p : RawIps) → Known who n → IsTrue (kind_fits_if p (kind_of named n)) → Hands (handed (kind_of named n) (number_of named numbers n)) (plain_wanted p)
    plain_of_name n p k h =
        subst (λ (o : Option NameKind). Hands (handed o (number_of named numbers n)) (plain_wanted p)) (sym k.is_kind)
        (plain_hands p k.named_kind n k.stands_as k.specs_as (subst (λ (o : Option NameKind). IsTrue (kind_fits_if p o)) k.is_kind h))

    -- ---- procedures that are passed

    spec_hands : (k : NameKind) (number : Option Numbered) (s : Spec) → HasSpec s number → Hands (handed (Some k) number) (Some s ∷ [])
    spec_hands k (Some (numbered.Proc p)) s h = hands_of (layer.Proc p) (Some s ∷ []) (ap (λ (z : Option Spec). z ∷ []) h) refl
    spec_hands k (Some (numbered.CommonProc d)) s h = hands_of (layer.CommonProc d) (Some s ∷ []) (ap (λ (z : Option Spec). z ∷ []) h) refl
    spec_hands k _ s h = absurd h

    passed_as : (n : RawName) (s : Signature) (answer : Option RawType) (params : List RawIps) → signature_of named n ≡ Some s → IsTrue (specified_so (signature_of named n) answer params) → types.spec_of s.answer s.params ≡ plain_spec answer params
    passed_as n s answer params is h = passed_spec s answer params (subst (λ (o : Option Signature). IsTrue (specified_so o answer params)) is h)

    procedure_hands : (k : NameKind) (n : RawName) (answer : Option RawType) (params : List RawIps) → SpecsAs who k n → IsTrue (is_passed k) → IsTrue (specified_so (signature_of named n) answer params) → Hands (handed (Some k) (number_of named numbers n)) (Some (plain_spec answer params) ∷ [])
    procedure_hands (kind.Proc own) n answer params s h e =
        subst (λ (z : Spec). Hands (handed (Some (kind.Proc own)) (number_of named numbers n)) (Some z ∷ [])) (passed_as n (record { answer = own; params = s.0 }) answer params s.1 e)
        (spec_hands (kind.Proc own) (number_of named numbers n) (types.spec_of own s.0) s.2)
    procedure_hands (kind.ProcParam own) n answer params s h e =
        subst (λ (z : Spec). Hands (handed (Some (kind.ProcParam own)) (number_of named numbers n)) (Some z ∷ []))
        (sym (plain_of own s.0) ∙ passed_as n (record { answer = own; params = plain s.0 }) answer params s.4 e)
        (control_hands (kind.ProcParam own) (number_of named numbers n) s.1 (Some (plain_spec own s.0)) s.2 s.3)
    procedure_hands _ n answer params s h e = no h

    pub procedure_of_name : (n : RawName) (answer : Option RawType) (params : List RawIps) → Known who n → IsTrue (takes_procedure named answer params (Some n)) → Hands (handed (kind_of named n) (number_of named numbers n)) (Some (plain_spec answer params) ∷ [])
    procedure_of_name n answer params k h =
        let halves = both_true (is_passed_if (kind_of named n)) (specified_so (signature_of named n) answer params) h in
        subst (λ (o : Option NameKind). Hands (handed o (number_of named numbers n)) (Some (plain_spec answer params) ∷ [])) (sym k.is_kind)
        (procedure_hands k.named_kind n answer params k.specs_as (subst (λ (o : Option NameKind). IsTrue (is_passed_if o)) k.is_kind halves.0) halves.1)

    -- ---- what is called takes what is wanted

    taken_so : (o : Option Spec) (answer : Option RawType) (params : List RawPs) (taken : List (Option Spec)) → o ≡ Some (types.spec_of answer params) → TakenAs scope o taken → wanted params ≡ taken
    taken_so o answer params taken is h =
        let same : spec_of h.0 ≡ types.spec_of answer params = same_Some (spec_of h.0) (types.spec_of answer params) (sym h.1.0 ∙ is) in
        sym (taken_of_spec h.0 answer params same) ∙ sym h.1.1

    spec_takes : (k : NameKind) (number : Option Numbered) (answer : Option RawType) (params : List RawPs) (taken : List (Option Spec)) → HasSpec (types.spec_of answer params) number → Takes scope (target_of (Some k) number) taken → wanted params ≡ taken
    spec_takes k (Some (numbered.Proc p)) answer params taken h t = taken_so (spec_if (slice_get u.procs p)) answer params taken h t
    spec_takes k (Some (numbered.CommonProc d)) answer params taken h t = taken_so (spec_said (body_at u d)) answer params taken h t
    spec_takes k None answer params taken h t = absurd h
    spec_takes k (Some (numbered.Item i)) answer params taken h t = absurd h
    spec_takes k (Some (numbered.Label i)) answer params taken h t = absurd h
    spec_takes k (Some (numbered.CommonLabel i)) answer params taken h t = absurd h
    spec_takes k (Some (numbered.Switch i)) answer params taken h t = absurd h
    spec_takes k (Some (numbered.CommonSwitch i)) answer params taken h t = absurd h
    spec_takes k (Some (numbered.Control i)) answer params taken h t = absurd h
    spec_takes k (Some numbered.ReadByte) answer params taken h t = absurd h
    spec_takes k (Some numbered.WriteByte) answer params taken h t = absurd h

    control_takes : (k : NameKind) (number : Option Numbered) (c : ℕ) (answer : Option RawType) (params : List RawIps) (taken : List (Option Spec)) → number ≡ Some (numbered.Control c) → parameter_in u who c ≡ Some (plain_spec answer params)
        → Takes scope (target_of (Some k) number) taken → wanted (plain params) ≡ taken
    control_takes k number c answer params taken is e t =
        taken_so (parameter_in u who c) answer (plain params) taken (e ∙ ap (λ (s : Spec). Some s) (sym (plain_of answer params))) (subst (λ (o : Option Numbered). Takes scope (target_of (Some k) o) taken) is t)

    reader_takes : (k : NameKind) (number : Option Numbered) (params : List RawPs) (taken : List (Option Spec)) → IsReader named numbers u who params number → Takes scope (target_of (Some k) number) taken → wanted params ≡ taken
    reader_takes k number params taken x t =
        let none : taken ≡ [] = subst (λ (o : Option Numbered). Takes scope (target_of (Some k) o) taken) x.1 t in
        ap wanted x.0 ∙ sym none

    writer_takes : (k : NameKind) (number : Option Numbered) (params : List RawPs) (taken : List (Option Spec)) → IsWriter named numbers u who params number → Takes scope (target_of (Some k) number) taken → wanted params ≡ taken
    writer_takes k number params taken x t =
        let none : taken ≡ [] = subst (λ (o : Option Numbered). Takes scope (target_of (Some k) o) taken) x.1 t in
        word_wanted params x.0 ∙ sym none

    wanted_of : (n : RawName) (s : Signature) → signature_of named n ≡ Some s → wanted (params_of (signature_of named n)) ≡ wanted s.params
    wanted_of n s is = ap (λ (o : Option Signature). wanted (params_of o)) is

    call_takes : (k : NameKind) (n : RawName) (taken : List (Option Spec)) → StandsAs named numbers u who k n → SpecsAs who k n → IsTrue (is_called (Some k)) → Takes scope (target_of (Some k) (number_of named numbers n)) taken → wanted (params_of (signature_of named n)) ≡ taken
    call_takes (kind.Proc answer) n taken x s h t = wanted_of n (record { answer = answer; params = s.0 }) s.1 ∙ spec_takes (kind.Proc answer) (number_of named numbers n) answer s.0 taken s.2 t
    call_takes (kind.ProcParam answer) n taken x s h t =
        wanted_of n (record { answer = answer; params = plain s.0 }) s.4 ∙ control_takes (kind.ProcParam answer) (number_of named numbers n) s.1 answer s.0 taken s.2 s.3 t
    call_takes kind.ReadByte n taken x s h t =
        let c = x.1 in
        wanted_of n (record { answer = x.0; params = c.params }) c.signature ∙ reader_takes kind.ReadByte (number_of named numbers n) c.params taken c.is t
    call_takes kind.WriteByte n taken x s h t =
        let c = x.1 in
        wanted_of n (record { answer = x.0; params = c.params }) c.signature ∙ writer_takes kind.WriteByte (number_of named numbers n) c.params taken c.is t
    call_takes _ n taken x s h t = no h

    pub called_of : (n : RawName) (args : List Argument) → Known who n → IsTrue (is_called (kind_of named n)) → map (spec_passed scope) (passed_by args) ≡ wanted (params_of (signature_of named n)) → Fits scope (record { target = target named numbers n; passed = passed_by args })
    called_of n args k h e taken t =
        e
        ∙ call_takes k.named_kind n taken k.stands_as k.specs_as (subst (λ (o : Option NameKind). IsTrue (is_called o)) k.is_kind h)
        (subst (λ (o : Option NameKind). Takes scope (target_of o (number_of named numbers n)) taken) k.is_kind t)

    abbrev pub inside : Context named numbers
    inside = record {
      Fit = Fits scope;
      spec = spec_passed scope;
      Stood = Stood;
      Known = Known who;
      split = stood_split;
      known = known_of;
      callable = callable_of;
      plain = plain_of_name;
      procedure = procedure_of_name;
      called = called_of;
    }

  -- what is in a block stands in the procedure whose body it is, or where the block does
  pub owned : (who owner : Option ℕ) (fs : List Fact) → Stood who (fact.Block owner fs ∷ []) → Stood (proc_within numbers owner who) fs
  owned who owner fs h = (λ m i. h.0 m (owned_is_in named numbers u who m owner fs i), λ m i. h.1 m (owned_is_in named numbers u who m owner fs i))
