-- What a well-formed tree becomes finds the operands that it takes, within the depth of the tree.
use Rattle.std.proofs.Common.{◌≡◌, ℕ, ◌+◌, ◌≤◌, ℤ, pos, ◌-ℤ◌, List, [], ◌∷◌, map, Bool, true, false, IsTrue, ◌&&◌, Option, Some, None, is_some, refl, sym, ap, subst, ◌∙◌, arith, slice_get}
use Rattle.std.proofs.lemmas.Option.{none-some, same_Some}
use Rattle.cw_unit.specs.declared.unit.Unit.{Unit as SourceUnit}
use Rattle.cw_unit.specs.declared.unit.Stmt.{Stmt, Stmt-F, out-Stmt, map-Stmt}
use Rattle.cw_unit.specs.declared.unit.Stmt.TheOpen as statement
use Rattle.cw_unit.specs.declared.unit.Dest.{Dest}
use Rattle.cw_unit.specs.declared.unit.Dest.TheVariants as dest
use Rattle.cw_unit.specs.declared.unit.Target.{Target}
use Rattle.cw_unit.specs.declared.unit.Felem.{Felem}
use Rattle.cw_unit.specs.declared.unit.Felem.TheVariants as element
use Rattle.cw_unit.specs.declared.unit.Expr.{Expr, Expr-F, out-Expr, map-Expr}
use Rattle.cw_unit.specs.declared.unit.Arg.{Arg, out-Arg, map-Arg}
use Rattle.cw_unit.specs.declared.unit.Cond.{Cond, out-Cond, map-Cond}
use Rattle.cw_unit.specs.declared.unit.Spot.{Spot, out-Spot, map-Spot, fold-Spot}
use Rattle.cw_unit.specs.declared.unit.Ref.{Ref, out-Ref}
use Rattle.cw_unit.specs.declared.unit.Arg.TheOpen as layer
use Rattle.cw_unit.specs.declared.unit.Arg.TheOpen.{Arg-F, Cond-F, Spot-F, Ref-F}
use Rattle.cw_unit.specs.declared.unit.Arg.TheFolds.{fold_out-Expr, fold_out-Arg, fold_out-Cond, fold_out-Spot, fold_out-Ref}
use Rattle.cw_unit.specs.declared.unit.Stmt.TheFolds.{fold_out-Stmt}
use Rattle.cw_unit.specs.Program.{Program, definition_of}
use Rattle.cw_unit.specs.Step.{label_of_goal, switch_of_def, procedure_of_def}
use Rattle.cw_unit.specs.Configuration.{procedure_at}
use Rattle.cw_unit.specs.Work.{Work, index_work, FormAt, Do, Enter, Loop, statement_work, expression_work, spot_work, condition_work, element_work, run_all, give_all, go_work}
use Rattle.cw_unit.specs.Operation.{Rescale}
use Rattle.cw_unit.specs.Scales.{answer_scale}
use Rattle.cw_unit.specs.StackBound as bound
use Rattle.cw_unit.specs.StackBound.{ArgumentNeed, operand_depth, argument_depth, condition_depth, address_depth, body_depth, argument_depths, arguments_depth}
use Rattle.cw_safety.specs.Kinds.{Kind, WordKind, LabelKind, SwitchKind, weight, parameter_kinds}
use Rattle.cw_safety.specs.WellFormed as formed
use Rattle.cw_safety.specs.WellFormed.{is_call, kind_of, is_expression, is_reference, is_condition, is_spot, are_elements, is_element, is_statement, kinds_of, controls_of, procedure_of_place}
use Rattle.cw_safety.proofs.Truth.{no, both, if-kind, and-kinds, procedure-weight, control-weight}
use Rattle.cw_safety.proofs.Typing.{Hand, Plain, Between, weigh, onto, result, Pop, After, spot_shape, AreBetween, Typed, IsLoop}

abbrev pub spot_depth : Spot → ℕ
spot_depth = fold-Spot ArgumentNeed ℕ ℕ ℕ ℕ bound.argument_step bound.condition_step bound.expression_step bound.spot_step bound.ref_step

abbrev pub depths : Expr-F Arg Cond Expr Spot Ref → Expr-F ArgumentNeed ℕ ℕ ℕ ℕ
depths = map-Expr Arg Cond Expr Spot Ref ArgumentNeed ℕ ℕ ℕ ℕ argument_depth condition_depth operand_depth spot_depth address_depth

abbrev pub arg_depths : Arg-F Arg Cond Expr Spot Ref → Arg-F ArgumentNeed ℕ ℕ ℕ ℕ
arg_depths = map-Arg Arg Cond Expr Spot Ref ArgumentNeed ℕ ℕ ℕ ℕ argument_depth condition_depth operand_depth spot_depth address_depth

abbrev pub cond_depths : Cond-F Arg Cond Expr Spot Ref → Cond-F ArgumentNeed ℕ ℕ ℕ ℕ
cond_depths = map-Cond Arg Cond Expr Spot Ref ArgumentNeed ℕ ℕ ℕ ℕ argument_depth condition_depth operand_depth spot_depth address_depth

abbrev pub spot_depths : Spot-F Arg Cond Expr Spot Ref → Spot-F ArgumentNeed ℕ ℕ ℕ ℕ
spot_depths = map-Spot Arg Cond Expr Spot Ref ArgumentNeed ℕ ℕ ℕ ℕ argument_depth condition_depth operand_depth spot_depth address_depth

-- what a number, a constant or a string puts at once
abbrev pub pushed : Expr-F Arg Cond Expr Spot Ref → List Hand → List Hand
pushed (layer.Num n) ks = Plain WordKind ∷ ks
pushed (layer.Const z) ks = Plain WordKind ∷ ks
pushed (layer.Text i) ks = Plain WordKind ∷ ks
pushed _ ks = ks

-- what a direct reference puts at once
abbrev pub placed : Spot-F Arg Cond Expr Spot Ref → List Hand → List Hand
placed (layer.Direct i) ks = Plain WordKind ∷ ks
placed _ ks = ks

pub depth-expression : (e : Expr) → operand_depth e ≡ bound.expression_step (depths (out-Expr e))
depth-expression = fold_out-Expr ArgumentNeed ℕ ℕ ℕ ℕ bound.argument_step bound.condition_step bound.expression_step bound.spot_step bound.ref_step

pub depth-argument : (a : Arg) → argument_depth a ≡ bound.argument_step (arg_depths (out-Arg a))
depth-argument = fold_out-Arg ArgumentNeed ℕ ℕ ℕ ℕ bound.argument_step bound.condition_step bound.expression_step bound.spot_step bound.ref_step

pub depth-condition : (c : Cond) → condition_depth c ≡ bound.condition_step (cond_depths (out-Cond c))
depth-condition = fold_out-Cond ArgumentNeed ℕ ℕ ℕ ℕ bound.argument_step bound.condition_step bound.expression_step bound.spot_step bound.ref_step

pub depth-spot : (s : Spot) → spot_depth s ≡ bound.spot_step (spot_depths (out-Spot s))
depth-spot = fold_out-Spot ArgumentNeed ℕ ℕ ℕ ℕ bound.argument_step bound.condition_step bound.expression_step bound.spot_step bound.ref_step

pub depth-reference : (r : Ref) → address_depth r ≡ spot_depth (out-Ref r).at
depth-reference = fold_out-Ref ArgumentNeed ℕ ℕ ℕ ℕ bound.argument_step bound.condition_step bound.expression_step bound.spot_step bound.ref_step

pub depth-statement : (s : Stmt) → body_depth s ≡ bound.statement_step (map-Stmt Stmt ℕ body_depth (out-Stmt s))
depth-statement = fold_out-Stmt ℕ bound.statement_step

pub depths-mapped : (args : List Arg) → argument_depths args ≡ map argument_depth args
depths-mapped [] = refl
depths-mapped (a ∷ args) = ap (λ xs. argument_depth a ∷ xs) (depths-mapped args)

module _ (p : Program) (g : ℕ) (o : Option (ℕ × ℕ)) where
  abbrev pub kinds : Expr-F Arg Cond Expr Spot Ref → Expr-F (Option Kind) Bool Bool Bool Bool
  kinds = map-Expr Arg Cond Expr Spot Ref (Option Kind) Bool Bool Bool Bool (kind_of p g o) (is_condition p g o) (is_expression p g o) (is_spot p g o) (is_reference p g o)

  abbrev pub arg_kinds : Arg-F Arg Cond Expr Spot Ref → Arg-F (Option Kind) Bool Bool Bool Bool
  arg_kinds = map-Arg Arg Cond Expr Spot Ref (Option Kind) Bool Bool Bool Bool (kind_of p g o) (is_condition p g o) (is_expression p g o) (is_spot p g o) (is_reference p g o)

  abbrev pub cond_kinds : Cond-F Arg Cond Expr Spot Ref → Cond-F (Option Kind) Bool Bool Bool Bool
  cond_kinds = map-Cond Arg Cond Expr Spot Ref (Option Kind) Bool Bool Bool Bool (kind_of p g o) (is_condition p g o) (is_expression p g o) (is_spot p g o) (is_reference p g o)

  abbrev pub spot_kinds : Spot-F Arg Cond Expr Spot Ref → Spot-F (Option Kind) Bool Bool Bool Bool
  spot_kinds = map-Spot Arg Cond Expr Spot Ref (Option Kind) Bool Bool Bool Bool (kind_of p g o) (is_condition p g o) (is_expression p g o) (is_spot p g o) (is_reference p g o)

  -- ---- arguments

  controls-weight : (m : ℕ) (k : Kind) → slice_get (controls_of p o) m ≡ Some k → 2 ≡ weight k
  controls-weight m k e = at o refl e
    where
      at : (w : Option (ℕ × ℕ)) → w ≡ o → slice_get (controls_of p w) m ≡ Some k → 2 ≡ weight k
      at None i e = absurd (none-some k e)
      at (Some w) i e = inside (procedure_at p w.0 w.1) e
        where
          inside : (q : _) → slice_get (formed.controls_in q) m ≡ Some k → 2 ≡ weight k
          inside None e = absurd (none-some k e)
          inside (Some q) e = control-weight (parameter_kinds q) m k e

  kept-weight : (l : Arg-F Arg Cond Expr Spot Ref) (m : Kind) → formed.argument_step p g o (arg_kinds l) ≡ Some m → (bound.argument_step (arg_depths l)).kept ≡ weight m
  kept-weight (layer.Value e f) m i = ap weight (if-kind (is_expression p g o e) WordKind m i).1
  kept-weight (layer.Place r) m i = ap weight (if-kind (is_reference p g o r) WordKind m i).1
  kept-weight (layer.Array j l) m i = ap weight (same_Some WordKind m i)
  kept-weight (layer.Same j) m i = ap weight (same_Some WordKind m i)
  kept-weight (layer.Base j) m i = ap weight (same_Some WordKind m i)
  kept-weight (layer.Goal l) m i = ap weight (if-kind (formed.reaches p o (label_of_goal p g l)) LabelKind m i).1
  kept-weight (layer.Switch n) m i = ap weight (if-kind (formed.reaches_switch p o (Some (g, n))) SwitchKind m i).1
  kept-weight (layer.CommonSwitch d) m i = ap weight (if-kind (formed.reaches_switch p o (switch_of_def (definition_of p g d))) SwitchKind m i).1
  kept-weight (layer.Proc q) m i = procedure-weight (procedure_at p g q) m i
  kept-weight (layer.CommonProc d) m i = procedure-weight (procedure_of_place p (procedure_of_def (definition_of p g d))) m i
  kept-weight (layer.Special k) m i = controls-weight k m i

  -- ---- what is well formed, layer by layer

  pub formed-expression : (e : Expr) → is_expression p g o e ≡ formed.expression_step p g o (kinds (out-Expr e))
  formed-expression = fold_out-Expr (Option Kind) Bool Bool Bool Bool (formed.argument_step p g o) formed.condition_step (formed.expression_step p g o) formed.spot_step formed.reference_step

  pub formed-argument : (a : Arg) → kind_of p g o a ≡ formed.argument_step p g o (arg_kinds (out-Arg a))
  formed-argument = fold_out-Arg (Option Kind) Bool Bool Bool Bool (formed.argument_step p g o) formed.condition_step (formed.expression_step p g o) formed.spot_step formed.reference_step

  pub formed-condition : (c : Cond) → is_condition p g o c ≡ formed.condition_step (cond_kinds (out-Cond c))
  formed-condition = fold_out-Cond (Option Kind) Bool Bool Bool Bool (formed.argument_step p g o) formed.condition_step (formed.expression_step p g o) formed.spot_step formed.reference_step

  pub formed-spot : (s : Spot) → is_spot p g o s ≡ formed.spot_step (spot_kinds (out-Spot s))
  formed-spot = fold_out-Spot (Option Kind) Bool Bool Bool Bool (formed.argument_step p g o) formed.condition_step (formed.expression_step p g o) formed.spot_step formed.reference_step

  pub formed-reference : (r : Ref) → is_reference p g o r ≡ is_spot p g o (out-Ref r).at
  formed-reference = fold_out-Ref (Option Kind) Bool Bool Bool Bool (formed.argument_step p g o) formed.condition_step (formed.expression_step p g o) formed.spot_step formed.reference_step

  pub formed-statement : (s : Stmt) → is_statement p g o s ≡ formed.statement_step p g o (map-Stmt Stmt Bool (is_statement p g o) (out-Stmt s))
  formed-statement = fold_out-Stmt Bool (formed.statement_step p g o)

  argument-kept : (a : Arg) (m : Kind) → kind_of p g o a ≡ Some m → (argument_depth a).kept ≡ weight m
  argument-kept a m e = ap (λ x. x.kept) (depth-argument a) ∙ kept-weight (out-Arg a) m (sym (formed-argument a) ∙ e)

  call-kinds : (wanted : Bool) (t : Target) (c : Option (List Kind)) → IsTrue (is_call p g o wanted t c) → (args : List Kind) × (c ≡ Some args) × IsTrue (is_call p g o wanted t (Some args))
  call-kinds wanted t None h = no h
  call-kinds wanted t (Some args) h = (args, refl, h)

  module _ (h : ℕ) where
    abbrev Ty : Work → List Hand → Type 0
    Ty = Typed p g o h

    gives-typed : (args : List Arg) (kinds : List Kind) (line : ℕ) (k : Work) (ks : List Hand) → kinds_of (map (kind_of p g o) args) ≡ Some kinds → arguments_depth (map argument_depth args) + weigh ks ≤ h → Ty k (onto kinds ks) → Ty (give_all args line k) ks
    gives-typed [] ms line k ks e d t = subst (λ xs. Ty k (onto xs ks)) (sym (same_Some [] ms e)) t
    gives-typed (a ∷ args) ms line k ks e d t =
        let parts = and-kinds (kind_of p g o a) (kinds_of (map (kind_of p g o) args)) ms e in
        let w : (argument_depth a).kept ≡ weight parts.0 = argument-kept a parts.0 parts.2 in (
          parts.0,
          parts.2,
          omega (arith, d),
          gives-typed args parts.1 line k (Plain parts.0 ∷ ks) parts.3 (omega (arith, d, w)) (subst (λ xs. Ty k (onto xs ks)) (sym parts.4) t),
        )

    call-typed : (wanted : Bool) (t : Target) (args : List Arg) (line : ℕ) (k : Work) (ks : List Hand) → IsTrue (is_call p g o wanted t (kinds_of (map (kind_of p g o) args))) → arguments_depth (map argument_depth args) + weigh ks ≤ h → weigh (result wanted ks) ≤ h → Ty k (result wanted ks) → Ty (give_all args line (Enter t line wanted k)) ks
    call-typed wanted t args line k ks c d r n =
        let found = call-kinds wanted t (kinds_of (map (kind_of p g o) args)) c in
        gives-typed args found.0 line (Enter t line wanted k) ks found.1 d (found.0, ks, refl, found.2, r, n)

    -- ---- expressions

    two-typed : (a b : Expr) (ks : List Hand) {T : Type 0} → IsTrue (is_expression p g o a && is_expression p g o b) → bound.two_depth (operand_depth a) (operand_depth b) + weigh ks ≤ h → T → IsTrue (is_expression p g o a) × (operand_depth a + weigh ks ≤ h) × (IsTrue (is_expression p g o b) × (operand_depth b + weigh (Plain WordKind ∷ ks) ≤ h) × T)
    two-typed a b ks e d t =
        let parts = both (is_expression p g o a) (is_expression p g o b) e in (parts.0, omega (arith, d), (parts.1, omega (arith, d), t))

    pub expression-typed : (u : SourceUnit) (l : Expr-F Arg Cond Expr Spot Ref) (f line : ℕ) (k : Work) (ks : List Hand) → IsTrue (formed.expression_step p g o (kinds l)) → bound.expression_step (depths l) + weigh ks ≤ h → Ty k (Plain WordKind ∷ ks) → Ty (expression_work u l f line k) (pushed l ks)
    expression-typed u (layer.Num n) f line k ks e d t = t
    expression-typed u (layer.Const z) f line k ks e d t = t
    expression-typed u (layer.Text i) f line k ks e d t = t
    expression-typed u (layer.Read r) f line k ks e d t = (e, d, t)
    expression-typed u (layer.Call c args) f line k ks e d t =
        call-typed true c args line (Do (Rescale (answer_scale u c) f) line k) ks e (omega (arith, d)) (omega (arith, d)) t
    expression-typed u (layer.Force n a) f line k ks e d t = (e, d, t)
    expression-typed u (layer.Locate r) f line k ks e d t = (e, d, t)
    expression-typed u (layer.Bits n b a) f line k ks e d t = (e, d, t)
    expression-typed u (layer.Logic op a b) f line k ks e d t = two-typed a b ks e d t
    expression-typed u (layer.Sum a b) f line k ks e d t = two-typed a b ks e d t
    expression-typed u (layer.Less a b) f line k ks e d t = two-typed a b ks e d t
    expression-typed u (layer.Minus a) f line k ks e d t = (e, d, t)
    expression-typed u (layer.Times a b) f line k ks e d t = two-typed a b ks e d t
    expression-typed u (layer.Over a b) f line k ks e d t = two-typed a b ks e d t
    expression-typed u (layer.Choice c a b) f line k ks e d t =
        let parts = both (is_condition p g o c) (is_expression p g o a && is_expression p g o b) e in
        let sides = both (is_expression p g o a) (is_expression p g o b) parts.1 in
        (parts.0, omega (arith, d), (sides.0, omega (arith, d), t), (sides.1, omega (arith, d), t))

    pub condition-typed : (u : SourceUnit) (l : Cond-F Arg Cond Expr Spot Ref) (line : ℕ) (pass fail : Work) (ks : List Hand) → IsTrue (formed.condition_step (cond_kinds l)) → bound.condition_step (cond_depths l) + weigh ks ≤ h → Ty pass ks → Ty fail ks → Ty (condition_work u l line pass fail) ks
    condition-typed u (layer.Cmp op a b) line pass fail ks e d t n = two-typed a b ks e d (t, n)
    condition-typed u (layer.And a b) line pass fail ks e d t n =
        let parts = both (is_condition p g o a) (is_condition p g o b) e in
        (parts.0, omega (arith, d), (parts.1, omega (arith, d), t, n), n)
    condition-typed u (layer.Or a b) line pass fail ks e d t n =
        let parts = both (is_condition p g o a) (is_condition p g o b) e in
        (parts.0, omega (arith, d), t, (parts.1, omega (arith, d), t, n))

    -- the address is formed from the indexes that were put
    abbrev indexed : (compared : Bool) → (lower upper : ℤ) → Hand
    indexed true l u = Between l u
    indexed false l u = Plain WordKind

    index-typed : (c : Bool) (a : Expr) (l u : ℤ) (line : ℕ) (k : Work) (ks : List Hand) → IsTrue (is_expression p g o a) → operand_depth a + weigh ks ≤ h → Ty k (indexed c l u ∷ ks) → Ty (index_work c a l u line k) ks
    index-typed true a l u line k ks e d t = (e, d, t)
    index-typed false a l u line k ks e d t = (e, d, t)

    -- an index alone
    alone-typed : (c : Bool) (a : Expr) (l u : ℤ) (line : ℕ) (k n : Work) (ks : List Hand) → IsTrue (is_expression p g o a) → operand_depth a + weigh ks ≤ h
        → ((js : List Hand) → Pop (λ r. Ty n (Plain WordKind ∷ r)) js → Ty k js) → Ty n (Plain WordKind ∷ ks) → Ty (index_work c a l u line k) ks
    alone-typed true a l u line k n ks e d form t = index-typed true a l u line k ks e d (form (Between l u ∷ ks) t)
    alone-typed false a l u line k n ks e d form t = index-typed false a l u line k ks e d (form (Plain WordKind ∷ ks) t)

    pub spot-typed : (c : Bool) (s : Spot) (l : Spot-F Arg Cond Expr Spot Ref) (line : ℕ) (k : Work) (ks : List Hand) → IsTrue (formed.spot_step (spot_kinds l)) → bound.spot_step (spot_depths l) + weigh ks ≤ h
        → ((js : List Hand) → After h (spot_shape l) (Ty k) js → AreBetween l c js → Ty (FormAt s line k) js) → Ty k (Plain WordKind ∷ ks) → Ty (spot_work c s l line k) (placed l ks)
    spot-typed c s (layer.Direct i) line k ks e d form t = t
    spot-typed c s (layer.Through i) line k ks e d form t = form ks (d, t) tt
    spot-typed c s (layer.One i l u a) line k ks e d form t = alone-typed c a l u line (FormAt s line k) k ks e d (λ js q. form js q tt) t
    spot-typed true s (layer.Two i l1 u1 l2 u2 n a b) line k ks e d form t =
        let now = FormAt s line k in
        let parts = two-typed a b ks e d (form (Between l2 u2 ∷ Between l1 u1 ∷ ks) t (ks, refl)) in
        index-typed true a l1 u1 line (index_work true b l2 u2 line now) ks parts.0 parts.1 (index-typed true b l2 u2 line now (Between l1 u1 ∷ ks) parts.2.0 parts.2.1 parts.2.2)
    spot-typed false s (layer.Two i l1 u1 l2 u2 n a b) line k ks e d form t = two-typed a b ks e d (form (Plain WordKind ∷ Plain WordKind ∷ ks) t tt)
    spot-typed c s (layer.ParamArray i a) line k ks e d form t = (e, d, form (Plain WordKind ∷ ks) t tt)
    spot-typed c s (layer.Word i t' n a) line k ks e d form t = alone-typed c a (pos 0) (pos n -ℤ pos 1) line (FormAt s line k) k ks e d (λ js q. form js q tt) t
    spot-typed c s (layer.Elem i t' w n q a) line k ks e d form t = alone-typed c a (pos 0) (pos n -ℤ pos 1) line (FormAt s line k) k ks e d (λ js q. form js q tt) t
    spot-typed c s (layer.Bare a) line k ks e d form t = (e, d, form (Plain WordKind ∷ ks) t tt)

    -- ---- statements

    go-typed : (d : Dest) (line : ℕ) → IsTrue (formed.is_goal p g o d) → bound.jump_depth d ≤ h → Ty (go_work d d line) []
    go-typed (dest.Goal l) line e b = (refl, e)
    go-typed (dest.Special k) line e b = e
    go-typed (dest.Switch n a) line e b =
        let parts = both (is_expression p g o a) (formed.reaches_switch p o (Some (g, n))) e in (parts.0, omega (arith, b), (refl, parts.1))
    go-typed (dest.CommonSwitch m a) line e b =
        let parts = both (is_expression p g o a) (formed.reaches_switch p o (switch_of_def (definition_of p g m))) e in (parts.0, omega (arith, b), (tt, parts.1))
    go-typed (dest.SpecialSwitch k a) line e b =
        let parts = both (is_expression p g o a) (formed.is_switch (slice_get (controls_of p o) k)) e in (parts.0, omega (arith, b), (tt, parts.1))

    pub all-typed : (ss : List Stmt) (k : Work) → IsTrue (formed.all (map (is_statement p g o) ss)) → bound.largest (map body_depth ss) ≤ h → Ty k [] → Ty (run_all ss k) []
    all-typed [] k e d t = t
    all-typed (s ∷ ss) k e d t =
        let parts = both (is_statement p g o s) (formed.all (map (is_statement p g o) ss)) e in
        (refl, parts.0, omega (arith, d), all-typed ss k parts.1 (omega (arith, d)) t)

    pub statement-typed : (f : ℕ) (l : Stmt-F Stmt) (k : Work) → IsTrue (formed.statement_step p g o (map-Stmt Stmt Bool (is_statement p g o) l)) → bound.statement_step (map-Stmt Stmt ℕ body_depth l) ≤ h → Ty k [] → Ty (statement_work f l k) []
    statement-typed f (statement.Put line r a) k e d t =
        let parts = both (is_reference p g o r) (is_expression p g o a) e in (parts.1, omega (arith, d), (parts.0, omega (arith, d), t))
    statement-typed f (statement.PutBits line n b r a) k e d t =
        let parts = both (is_reference p g o r) (is_expression p g o a) e in (parts.1, omega (arith, d), (parts.0, omega (arith, d), t))
    statement-typed f (statement.Go line m) k e d t = go-typed m line e d
    statement-typed f (statement.Call line c args) k e d t =
        let q : arguments_depth (argument_depths args) ≡ arguments_depth (map argument_depth args) = ap arguments_depth (depths-mapped args) in
        call-typed false c args line k [] e (omega (arith, d, q)) (omega arith) t
    statement-typed f (statement.Answer line a) k e d t =
        let parts = both (is_some o) (is_expression p g o a) e in (parts.1, omega (arith, d), (tt, parts.0))
    statement-typed f (statement.If line c a b) k e d t =
        let parts = both (is_condition p g o c) (is_statement p g o a && is_statement p g o b) e in
        let sides = both (is_statement p g o a) (is_statement p g o b) parts.1 in
        (parts.0, omega (arith, d), (refl, sides.0, omega (arith, d), t), (refl, sides.1, omega (arith, d), t))
    statement-typed f (statement.For line item r es s) k e d t =
        let parts = both (is_reference p g o r) (are_elements p g o es && is_statement p g o s) e in
        let rest = both (are_elements p g o es) (is_statement p g o s) parts.1 in
        (parts.0, omega (arith, d), (refl, (rest.0, omega (arith, d), rest.1, omega (arith, d)), t))
    statement-typed f (statement.Seq ss) k e d t = all-typed ss k e d t
    statement-typed f (statement.Mark ls s) k e d t = (refl, e, d, t)

    pub element-typed : (e : Felem) (i : ℕ) (c : Loop) (k : Work) → IsLoop p g o h c → IsTrue (is_element p g o e) → bound.element_depth e ≤ h → Ty k [] → Ty (element_work e i c k) []
    element-typed (element.One a) i c k l e d t =
        (e, omega (arith, d), (refl, l.2, l.3, (refl, l, t)))
    element-typed (element.While a b) i c k l e d t =
        let parts = both (is_expression p g o a) (is_condition p g o b) e in
        (parts.0, omega (arith, d), (parts.1, omega (arith, d), (refl, l.2, l.3, (refl, l, t)), (refl, l, t)))
    element-typed (element.Step a b d') i c k l e d t =
        let parts = both (is_expression p g o a) (is_expression p g o b && is_expression p g o d') e in
        let rest = both (is_expression p g o b) (is_expression p g o d') parts.1 in
        (parts.0, omega (arith, d), (rest.0, omega (arith, d), (rest.1, omega (arith, d), (refl, l, t))))
