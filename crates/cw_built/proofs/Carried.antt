-- Where names mean in a program what the unit's descriptors say, a body is well formed there just as where the unit is judged.
use mathlib.Core.Path.{fun_ext}
use Rattle.std.proofs.Common.{◌≡◌, ℕ, List, [], ◌∷◌, map, Bool, true, false, ◌&&◌, Option, Some, None, is_some, nat_eq, slice_get, refl, sym, ap, ap₂, eq-eqb, ◌∙◌}
use Rattle.std.specs.Prelude.{option_map}
use Rattle.cw_unit.specs.declared.unit.Unit.{Unit as SourceUnit}
use Rattle.cw_unit.specs.declared.unit.Proc.{Proc}
use Rattle.cw_unit.specs.declared.unit.Goal.{Goal}
use Rattle.cw_unit.specs.declared.unit.Goal.TheVariants as goal_of
use Rattle.cw_unit.specs.declared.unit.Stmt.{Stmt, Stmt-F, fold-Stmt}
use Rattle.cw_unit.specs.declared.unit.Stmt.TheOpen as statement
use Rattle.cw_unit.specs.declared.unit.Dest.{Dest}
use Rattle.cw_unit.specs.declared.unit.Dest.TheVariants as dest
use Rattle.cw_unit.specs.declared.unit.Target.{Target}
use Rattle.cw_unit.specs.declared.unit.Target.TheVariants as target
use Rattle.cw_unit.specs.declared.unit.Felem.{Felem}
use Rattle.cw_unit.specs.declared.unit.Felem.TheVariants as element
use Rattle.cw_unit.specs.declared.unit.Expr.{Expr, Expr-F, fold-Expr}
use Rattle.cw_unit.specs.declared.unit.Arg.{Arg, fold-Arg}
use Rattle.cw_unit.specs.declared.unit.Cond.{Cond, fold-Cond}
use Rattle.cw_unit.specs.declared.unit.Ref.{Ref, fold-Ref}
use Rattle.cw_unit.specs.declared.unit.Arg.TheOpen as layer
use Rattle.cw_unit.specs.declared.unit.Arg.TheOpen.{Arg-F}
use Rattle.cw_unit.specs.declared.layout.Limits.{Limits}
use Rattle.cw_unit.specs.declared.layout.Map.{Map}
use Rattle.cw_unit.specs.Program.{Program, program_at, definition_of}
use Rattle.cw_unit.specs.Step.{switch_of_def, procedure_of_def, label_of_goal, goals_of, switch_in}
use Rattle.cw_unit.specs.Configuration.{procedure_in, procedure_at}
use Rattle.cw_unit.specs.declared.unit.Label.{Label}
use Rattle.cw_safety.specs.Kinds.{Kind, LabelKind, SwitchKind, ProcedureKind, taken_of, parameter_kinds, procedure_kind, same_kinds}
use Rattle.cw_safety.specs.WellFormed.{sets, sets_in_procedure, is_at, reaches_label, reaches_unit, controls_in, kind_if, kinds_of, is_label, is_switch, takes_arguments, parameter_takes, condition_step, spot_step, reference_step, reaches, reaches_goals, reaches_list, reaches_switch, controls_of, procedure_of_place, is_call, argument_step, expression_step, is_expression, kind_of, is_condition, is_reference, is_element, are_elements, is_goal, statement_step, is_statement}
use Rattle.cw_built.specs.Listed.{body_at}
use Rattle.cw_built.specs.Built.{alone, at_work}
use Rattle.cw_built.proofs.Saying.{Means, kinds_at, label-as-said, switch-as-said, kinds-as-said}

-- the procedure at work, in the segment of this number
abbrev pub work_at : (segment : ℕ) → Option ℕ → Option (ℕ × ℕ)
work_at g None = None
work_at g (Some q) = Some (g, q)

abbrev by_owner : SourceUnit → (segment label : ℕ) → (at_work : Option (ℕ × ℕ)) → Option ℕ → Bool
by_owner u h l o v = elim v [ None ↦ sets l u.body | Some q ↦ is_at h q o && sets_in_procedure l (slice_get u.procs q) ]

-- ---- procedures by the kinds of their parameters

abbrev procedure_of : Option (List Kind) → Option Kind
procedure_of None = None
procedure_of (Some ks) = Some (ProcedureKind (map taken_of ks))

abbrev pub kinds_taken : Option (List Kind) → List Kind → Bool
kinds_taken None ks = false
kinds_taken (Some ms) ks = same_kinds ks ms

pub by-kinds-taken : (v : Option Proc) (ks : List Kind) → takes_arguments v ks ≡ kinds_taken (option_map parameter_kinds v) ks
by-kinds-taken None ks = refl
by-kinds-taken (Some x) ks = refl

pub by-kinds : (v : Option Proc) → procedure_kind v ≡ procedure_of (option_map parameter_kinds v)
by-kinds None = refl
by-kinds (Some x) = refl

-- ---- bodies

module _ (us : List SourceUnit) (m : Map) (limits : Limits) (g : ℕ) (u : SourceUnit) (here : slice_get us g ≡ Some u)
    (judged : (d : ℕ) → Means (alone u) (definition_of (alone u) 0 d) (body_at u d)) (meant : (d : ℕ) → Means (program_at us m limits) (definition_of (program_at us m limits) g d) (body_at u d)) where
  abbrev p : Program
  p = alone u

  abbrev q : Program
  q = program_at us m limits

  same-segment : (n : ℕ) → true ≡ nat_eq n n
  same-segment n = sym (eq-eqb n n refl)

  module _ (who : Option ℕ) where
    abbrev o : Option (ℕ × ℕ)
    o = at_work who

    abbrev w : Option (ℕ × ℕ)
    w = work_at g who

    owner-same : (v who' : Option ℕ) (l : ℕ) → by_owner u 0 l (at_work who') v ≡ by_owner u g l (work_at g who') v
    owner-same None who' l = refl
    owner-same (Some k) None l = refl
    owner-same (Some k) (Some n) l = ap (λ b. (b && nat_eq n k) && sets_in_procedure l (slice_get u.procs k)) (same-segment g)

    label-same : (v : Option Label) (l : ℕ) → reaches_label (record u { defined = [] }) v 0 l o ≡ reaches_label u v g l w
    label-same None l = refl
    label-same (Some x) l = owner-same x.proc who l

    own-label : (l : ℕ) → reaches p o (Some (0, l)) ≡ reaches q w (Some (g, l))
    own-label l = label-same (slice_get u.labels l) l ∙ sym (ap (λ v. reaches_unit v g l w) here)

    reaches-goal : (x : Goal) → reaches p o (label_of_goal p 0 x) ≡ reaches q w (label_of_goal q g x)
    reaches-goal (goal_of.Own l) = own-label l
    reaches-goal (goal_of.Common d) = label-as-said p o (definition_of p 0 d) (body_at u d) (judged d) ∙ sym (label-as-said q w (definition_of q g d) (body_at u d) (meant d))

    goals-same : (xs : List Goal) → reaches_goals p o 0 xs ≡ reaches_goals q w g xs
    goals-same [] = refl
    goals-same (x ∷ xs) = ap₂ (λ a b. a && b) (reaches-goal x) (goals-same xs)

    list-same : (xs : Option (List Goal)) → reaches_list p o 0 xs ≡ reaches_list q w g xs
    list-same None = refl
    list-same (Some xs) = goals-same xs

    own-switch : (n : ℕ) → reaches_switch p o (Some (0, n)) ≡ reaches_switch q w (Some (g, n))
    own-switch n = list-same (goals_of (slice_get u.switches n)) ∙ sym (ap (λ v. reaches_list q w g (switch_in v n)) here)

    switch-of : (d : ℕ) → reaches_switch p o (switch_of_def (definition_of p 0 d)) ≡ reaches_switch q w (switch_of_def (definition_of q g d))
    switch-of d = switch-as-said p o (definition_of p 0 d) (body_at u d) (judged d) ∙ sym (switch-as-said q w (definition_of q g d) (body_at u d) (meant d))

    own-procedure : (n : ℕ) → procedure_at p 0 n ≡ procedure_at q g n
    own-procedure n = sym (ap (λ v. procedure_in v n) here)

    controls-by : (who' : Option ℕ) → controls_of p (at_work who') ≡ controls_of q (work_at g who')
    controls-by None = refl
    controls-by (Some n) = ap controls_in (own-procedure n)

    control-same : (k : ℕ) → slice_get (controls_of p o) k ≡ slice_get (controls_of q w) k
    control-same k = ap (λ ks. slice_get ks k) (controls-by who)

    kinds-of : (d : ℕ) → kinds_at p (definition_of p 0 d) ≡ kinds_at q (definition_of q g d)
    kinds-of d = kinds-as-said p (definition_of p 0 d) (body_at u d) (judged d) ∙ sym (kinds-as-said q (definition_of q g d) (body_at u d) (meant d))

    common-takes : (d : ℕ) (ks : List Kind)
        → takes_arguments (procedure_of_place p (procedure_of_def (definition_of p 0 d))) ks ≡ takes_arguments (procedure_of_place q (procedure_of_def (definition_of q g d))) ks
    common-takes d ks = by-kinds-taken (procedure_of_place p (procedure_of_def (definition_of p 0 d))) ks ∙ ap (λ o. kinds_taken o ks) (kinds-of d) ∙ sym (by-kinds-taken (procedure_of_place q (procedure_of_def (definition_of q g d))) ks)

    common-kind : (d : ℕ) → procedure_kind (procedure_of_place p (procedure_of_def (definition_of p 0 d))) ≡ procedure_kind (procedure_of_place q (procedure_of_def (definition_of q g d)))
    common-kind d = by-kinds (procedure_of_place p (procedure_of_def (definition_of p 0 d))) ∙ ap procedure_of (kinds-of d) ∙ sym (by-kinds (procedure_of_place q (procedure_of_def (definition_of q g d))))

    works-by : (who' : Option ℕ) → is_some (at_work who') ≡ is_some (work_at g who')
    works-by None = refl
    works-by (Some n) = refl

    call-same : (wanted : Bool) (t : Target) (ks : Option (List Kind)) → is_call p 0 o wanted t ks ≡ is_call q g w wanted t ks
    call-same wanted t None = refl
    call-same wanted (target.Own n) (Some ks) = ap (λ x. takes_arguments x ks) (own-procedure n)
    call-same wanted (target.Common d) (Some ks) = common-takes d ks
    call-same wanted (target.Special k f) (Some ks) = ap (λ x. parameter_takes x ks) (control-same k)
    call-same wanted target.Read (Some ks) = refl
    call-same wanted target.Write (Some ks) = refl

    argument-same : (x : Arg-F (Option Kind) Bool Bool Bool Bool) → argument_step p 0 o x ≡ argument_step q g w x
    argument-same (layer.Goal x) = ap (λ b. kind_if b LabelKind) (reaches-goal x)
    argument-same (layer.Switch n) = ap (λ b. kind_if b SwitchKind) (own-switch n)
    argument-same (layer.CommonSwitch d) = ap (λ b. kind_if b SwitchKind) (switch-of d)
    argument-same (layer.Proc n) = ap procedure_kind (own-procedure n)
    argument-same (layer.CommonProc d) = common-kind d
    argument-same (layer.Special k) = control-same k
    argument-same _ = refl

    expression-layer : (x : Expr-F (Option Kind) Bool Bool Bool Bool) → expression_step p 0 o x ≡ expression_step q g w x
    expression-layer (layer.Call t args) = call-same true t (kinds_of args)
    expression-layer _ = refl

    arguments-are : argument_step p 0 o ≡ argument_step q g w
    arguments-are = fun_ext argument-same

    expressions-are : expression_step p 0 o ≡ expression_step q g w
    expressions-are = fun_ext expression-layer

    expression-same : (e : Expr) → is_expression p 0 o e ≡ is_expression q g w e
    expression-same e = ap₂ (λ a x. fold-Expr (Option Kind) Bool Bool Bool Bool a condition_step x spot_step reference_step e) arguments-are expressions-are

    kind-same : (e : Arg) → kind_of p 0 o e ≡ kind_of q g w e
    kind-same e = ap₂ (λ a x. fold-Arg (Option Kind) Bool Bool Bool Bool a condition_step x spot_step reference_step e) arguments-are expressions-are

    condition-same : (e : Cond) → is_condition p 0 o e ≡ is_condition q g w e
    condition-same e = ap₂ (λ a x. fold-Cond (Option Kind) Bool Bool Bool Bool a condition_step x spot_step reference_step e) arguments-are expressions-are

    reference-same : (e : Ref) → is_reference p 0 o e ≡ is_reference q g w e
    reference-same e = ap₂ (λ a x. fold-Ref (Option Kind) Bool Bool Bool Bool a condition_step x spot_step reference_step e) arguments-are expressions-are

    kinds-same : (args : List Arg) → kinds_of (map (kind_of p 0 o) args) ≡ kinds_of (map (kind_of q g w) args)
    kinds-same args = ap (λ f. kinds_of (map f args)) (fun_ext kind-same)

    element-same : (e : Felem) → is_element p 0 o e ≡ is_element q g w e
    element-same (element.One e) = expression-same e
    element-same (element.While e c) = ap₂ (λ a b. a && b) (expression-same e) (condition-same c)
    element-same (element.Step a b d) = ap₂ (λ x y. x && y) (expression-same a) (ap₂ (λ x y. x && y) (expression-same b) (expression-same d))

    elements-same : (es : List Felem) → are_elements p 0 o es ≡ are_elements q g w es
    elements-same [] = refl
    elements-same (e ∷ es) = ap₂ (λ a b. a && b) (element-same e) (elements-same es)

    jump-same : (d : Dest) → is_goal p 0 o d ≡ is_goal q g w d
    jump-same (dest.Goal x) = reaches-goal x
    jump-same (dest.Special k) = ap is_label (control-same k)
    jump-same (dest.Switch n e) = ap₂ (λ a b. a && b) (expression-same e) (own-switch n)
    jump-same (dest.CommonSwitch d e) = ap₂ (λ a b. a && b) (expression-same e) (switch-of d)
    jump-same (dest.SpecialSwitch k e) = ap₂ (λ a b. a && b) (expression-same e) (ap is_switch (control-same k))

    statement-layer : (x : Stmt-F Bool) → statement_step p 0 o x ≡ statement_step q g w x
    statement-layer (statement.Put line r e) = ap₂ (λ a b. a && b) (reference-same r) (expression-same e)
    statement-layer (statement.PutBits line t b r e) = ap₂ (λ x y. x && y) (reference-same r) (expression-same e)
    statement-layer (statement.Go line d) = jump-same d
    statement-layer (statement.Call line t args) = call-same false t (kinds_of (map (kind_of p 0 o) args)) ∙ ap (is_call q g w false t) (kinds-same args)
    statement-layer (statement.Answer line e) = ap₂ (λ a b. a && b) (works-by who) (expression-same e)
    statement-layer (statement.If line c a b) = ap (λ x. x && (a && b)) (condition-same c)
    statement-layer (statement.For line item r es b) = ap₂ (λ x y. x && (y && b)) (reference-same r) (elements-same es)
    statement-layer (statement.Seq ss) = refl
    statement-layer (statement.Mark ls b) = refl

    pub statement-same : (t : Stmt) → is_statement p 0 o t ≡ is_statement q g w t
    statement-same t = ap (λ f. fold-Stmt Bool f t) (fun_ext statement-layer)
