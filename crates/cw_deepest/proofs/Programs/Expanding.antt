-- What a tree of a body becomes is work in that body.
use Rattle.std.proofs.Common.{◌≡◌, ℕ, ℤ, pos, ◌-ℤ◌, List, [], ◌∷◌, ◌++◌, map, Bool, true, false, Option, refl, ap, subst}
use Rattle.std.specs.List.{AllByRecursion}
use Rattle.cw_unit.specs.declared.unit.Unit.{Unit as SourceUnit}
use Rattle.cw_unit.specs.declared.unit.Stmt.{Stmt, Stmt-F, out-Stmt, map-Stmt}
use Rattle.cw_unit.specs.declared.unit.Stmt.TheOpen as statement
use Rattle.cw_unit.specs.declared.unit.Dest.{Dest}
use Rattle.cw_unit.specs.declared.unit.Dest.TheVariants as dest
use Rattle.cw_unit.specs.declared.unit.Target.{Target}
use Rattle.cw_unit.specs.declared.unit.Felem.{Felem}
use Rattle.cw_unit.specs.declared.unit.Felem.TheVariants as element
use Rattle.cw_unit.specs.declared.unit.Expr.{Expr, Expr-F, out-Expr}
use Rattle.cw_unit.specs.declared.unit.Arg.{Arg, out-Arg}
use Rattle.cw_unit.specs.declared.unit.Cond.{Cond, out-Cond}
use Rattle.cw_unit.specs.declared.unit.Spot.{Spot, out-Spot}
use Rattle.cw_unit.specs.declared.unit.Ref.{Ref, out-Ref}
use Rattle.cw_unit.specs.declared.unit.Arg.TheOpen as layer
use Rattle.cw_unit.specs.declared.unit.Arg.TheOpen.{Arg-F, Cond-F, Spot-F, Ref-F}
use Rattle.cw_unit.specs.declared.unit.Arg.TheFolds.{fold_out-Expr, fold_out-Arg, fold_out-Cond, fold_out-Spot, fold_out-Ref}
use Rattle.cw_unit.specs.declared.unit.Stmt.TheFolds.{fold_out-Stmt}
use Rattle.cw_unit.specs.declared.descriptor.Spec.{Spec}
use Rattle.cw_unit.specs.Operation.{Rescale}
use Rattle.cw_unit.specs.Scales.{answer_scale}
use Rattle.cw_unit.specs.Work.{Work, FormAt, Do, Enter, Loop, index_work, statement_work, expression_work, spot_work, condition_work, element_work, run_all, give_all, go_work}
use Rattle.cw_depth.specs.declared.node.Node.{Node}
use Rattle.cw_depth.specs.declared.mention.Mention.{Mention}
use Rattle.cw_depth.specs.Gathered as gathered
use Rattle.cw_depth.specs.Mentions as mentions
use Rattle.cw_depth.specs.CallGraph.{Mentioned}
use Rattle.cw_depth.proofs.Layers.{expression_layer, condition_layer, spot_layer, statement_layer}
use Rattle.cw_deepest.specs.Programs.Calls as calls
use Rattle.cw_deepest.specs.Programs.Calls.{Argument, Call, Calls, Passed}
use Rattle.cw_deepest.specs.Programs.Fitting.{spec_passed, Fits, scope_of}
use Rattle.cw_deepest.proofs.Programs.Holding.{onto}
use Rattle.cw_deepest.proofs.Programs.Typing.{Stand, IsLoop, Typed}

-- ---- the calls of a tree, by its first layer

abbrev pub expression_calls : Expr-F Arg Cond Expr Spot Ref → Calls
expression_calls = gathered.expression_layer calls.argument_step calls.of_call

abbrev pub argument_calls : Arg-F Arg Cond Expr Spot Ref → Argument
argument_calls = gathered.argument_layer calls.argument_step calls.of_call

abbrev pub condition_calls : Cond-F Arg Cond Expr Spot Ref → Calls
condition_calls = gathered.condition_layer calls.argument_step calls.of_call

abbrev pub spot_calls : Spot-F Arg Cond Expr Spot Ref → Calls
spot_calls = gathered.spot_layer calls.argument_step calls.of_call

abbrev pub statement_calls : Stmt-F Stmt → Calls
statement_calls x = calls.statement_step (map-Stmt Stmt Calls calls.in_statement x)

pub calls-of_expression : (x : Expr) → calls.in_expression x ≡ expression_calls (out-Expr x)
calls-of_expression = fold_out-Expr Argument Calls Calls Calls Calls calls.argument_step calls.condition_step calls.expression_step calls.spot_step calls.ref_step

pub calls-of_argument : (x : Arg) → calls.of_argument x ≡ argument_calls (out-Arg x)
calls-of_argument = fold_out-Arg Argument Calls Calls Calls Calls calls.argument_step calls.condition_step calls.expression_step calls.spot_step calls.ref_step

pub calls-of_condition : (x : Cond) → calls.in_condition x ≡ condition_calls (out-Cond x)
calls-of_condition = fold_out-Cond Argument Calls Calls Calls Calls calls.argument_step calls.condition_step calls.expression_step calls.spot_step calls.ref_step

pub calls-of_spot : (x : Spot) → calls.in_spot x ≡ spot_calls (out-Spot x)
calls-of_spot = fold_out-Spot Argument Calls Calls Calls Calls calls.argument_step calls.condition_step calls.expression_step calls.spot_step calls.ref_step

pub calls-of_reference : (x : Ref) → calls.in_reference x ≡ calls.in_spot (out-Ref x).at
calls-of_reference = fold_out-Ref Argument Calls Calls Calls Calls calls.argument_step calls.condition_step calls.expression_step calls.spot_step calls.ref_step

pub calls-of_statement : (x : Stmt) → calls.in_statement x ≡ statement_calls (out-Stmt x)
calls-of_statement = fold_out-Stmt Calls calls.statement_step

-- ---- lists

parted : {X : Type 0} (P : X → Type 0) (xs ys : List X) → AllByRecursion P (xs ++ ys) → AllByRecursion P xs × AllByRecursion P ys
parted P [] ys h = (tt, h)
parted P (x ∷ xs) ys h = let rest = parted P xs ys h.1 in ((h.0, rest.0), rest.1)

onto-more : (f : Passed → Option Spec) (xs ys : List Passed) (os : List (Option Spec)) → onto (map f (xs ++ ys)) os ≡ onto (map f ys) (onto (map f xs) os)
onto-more f [] ys os = refl
onto-more f (x ∷ xs) ys os = onto-more f xs ys (f x ∷ os)

module _ (us : List SourceUnit) (a : Node) where
  abbrev Ty : Work → List (Option Spec) → Type 0
  Ty = Typed us a

  pub both : (ms ms' : List Mention) (cs cs' : List Call) → Stand us a (ms ++ ms') (cs ++ cs') → Stand us a ms cs × Stand us a ms' cs'
  both ms ms' cs cs' h =
      let one = parted (Mentioned us a) ms ms' h.0 in
      let other = parted (Fits (scope_of us a)) cs cs' h.1 in
      ((one.0, other.0), (one.1, other.1))

  pub both-expressions : (x y : Expr) → Stand us a (mentions.in_expression x ++ mentions.in_expression y) (calls.in_expression x ++ calls.in_expression y) → Stand us a (mentions.in_expression x) (calls.in_expression x) × Stand us a (mentions.in_expression y) (calls.in_expression y)
  both-expressions x y h = both (mentions.in_expression x) (mentions.in_expression y) (calls.in_expression x) (calls.in_expression y) h

  -- ---- calls

  gives-typed : (args : List Arg) (line : ℕ) (k : Work) (os : List (Option Spec)) → Stand us a (mentions.joined (map mentions.in_argument args)) (calls.calls_by (map calls.of_argument args)) → Ty k (onto (map (spec_passed (scope_of us a)) (calls.passed_by (map calls.of_argument args))) os) → Ty (give_all args line k) os
  gives-typed [] line k os h t = t
  gives-typed (x ∷ args) line k os h t =
      let parts = both (mentions.in_argument x) (mentions.joined (map mentions.in_argument args)) (calls.of_argument x).calls (calls.calls_by (map calls.of_argument args)) h in (
        parts.0,
        gives-typed args line k (onto (map (spec_passed (scope_of us a)) (calls.of_argument x).passed) os) parts.1
            (subst (Ty k) (onto-more (spec_passed (scope_of us a)) (calls.of_argument x).passed (calls.passed_by (map calls.of_argument args)) os) t),
      )

  pub call-typed : (wanted : Bool) (t : Target) (args : List Arg) (line : ℕ) (k : Work) (os : List (Option Spec)) → Stand us a (mentions.called t ++ mentions.joined (map mentions.in_argument args)) (calls.of_call t (map calls.of_argument args)) → Ty k os → Ty (give_all args line (Enter t line wanted k)) os
  call-typed wanted t args line k os h n =
      let ms = parted (Mentioned us a) (mentions.called t) (mentions.joined (map mentions.in_argument args)) h.0 in
      gives-typed args line (Enter t line wanted k) os (ms.1, h.1.1) (os, (λ taken e. ap (λ ts. onto ts os) (h.1.0 taken e)), ms.0, n)

  -- ---- expressions

  pub expression-typed : (u : SourceUnit) (l : Expr-F Arg Cond Expr Spot Ref) (f line : ℕ) (k : Work) (os : List (Option Spec)) → Stand us a (expression_layer l) (expression_calls l) → Ty k os → Ty (expression_work u l f line k) os
  expression-typed u (layer.Num n) f line k os h t = t
  expression-typed u (layer.Const z) f line k os h t = t
  expression-typed u (layer.Text i) f line k os h t = t
  expression-typed u (layer.Read r) f line k os h t = (h, t)
  expression-typed u (layer.Call c args) f line k os h t = call-typed true c args line (Do (Rescale (answer_scale u c) f) line k) os h t
  expression-typed u (layer.Force n x) f line k os h t = (h, t)
  expression-typed u (layer.Locate r) f line k os h t = (h, t)
  expression-typed u (layer.Bits n b x) f line k os h t = (h, t)
  expression-typed u (layer.Logic op x y) f line k os h t = let parts = both-expressions x y h in (parts.0, (parts.1, t))
  expression-typed u (layer.Sum x y) f line k os h t = let parts = both-expressions x y h in (parts.0, (parts.1, t))
  expression-typed u (layer.Less x y) f line k os h t = let parts = both-expressions x y h in (parts.0, (parts.1, t))
  expression-typed u (layer.Minus x) f line k os h t = (h, t)
  expression-typed u (layer.Times x y) f line k os h t = let parts = both-expressions x y h in (parts.0, (parts.1, t))
  expression-typed u (layer.Over x y) f line k os h t = let parts = both-expressions x y h in (parts.0, (parts.1, t))
  expression-typed u (layer.Choice c x y) f line k os h t =
      let parts = both (mentions.in_condition c) (mentions.in_expression x ++ mentions.in_expression y) (calls.in_condition c) (calls.in_expression x ++ calls.in_expression y) h in
      let sides = both-expressions x y parts.1 in
      (parts.0, (sides.0, t), (sides.1, t))

  pub condition-typed : (u : SourceUnit) (l : Cond-F Arg Cond Expr Spot Ref) (line : ℕ) (pass fail : Work) (os : List (Option Spec)) → Stand us a (condition_layer l) (condition_calls l) → Ty pass os → Ty fail os → Ty (condition_work u l line pass fail) os
  condition-typed u (layer.Cmp op x y) line pass fail os h t n = let parts = both-expressions x y h in (parts.0, (parts.1, (t, n)))
  condition-typed u (layer.And c d) line pass fail os h t n =
      let parts = both (mentions.in_condition c) (mentions.in_condition d) (calls.in_condition c) (calls.in_condition d) h in (parts.0, (parts.1, t, n), n)
  condition-typed u (layer.Or c d) line pass fail os h t n =
      let parts = both (mentions.in_condition c) (mentions.in_condition d) (calls.in_condition c) (calls.in_condition d) h in (parts.0, t, (parts.1, t, n))

  index-typed : (c : Bool) (x : Expr) (l u : ℤ) (line : ℕ) (k : Work) (os : List (Option Spec)) → Stand us a (mentions.in_expression x) (calls.in_expression x) → Ty k os → Ty (index_work c x l u line k) os
  index-typed true x l u line k os h t = (h, t)
  index-typed false x l u line k os h t = (h, t)

  pub spot-typed : (c : Bool) (s : Spot) (l : Spot-F Arg Cond Expr Spot Ref) (line : ℕ) (k : Work) (os : List (Option Spec)) → Stand us a (spot_layer l) (spot_calls l) → Ty k os → Ty (spot_work c s l line k) os
  spot-typed c s (layer.Direct i) line k os h t = t
  spot-typed c s (layer.Through i) line k os h t = t
  spot-typed c s (layer.One i l u x) line k os h t = index-typed c x l u line (FormAt s line k) os h t
  spot-typed c s (layer.Two i l1 u1 l2 u2 n x y) line k os h t =
      let parts = both-expressions x y h in
      index-typed c x l1 u1 line (index_work c y l2 u2 line (FormAt s line k)) os parts.0 (index-typed c y l2 u2 line (FormAt s line k) os parts.1 t)
  spot-typed c s (layer.ParamArray i x) line k os h t = (h, t)
  spot-typed c s (layer.Word i p n x) line k os h t = index-typed c x (pos 0) (pos n -ℤ pos 1) line (FormAt s line k) os h t
  spot-typed c s (layer.Elem i p w n q x) line k os h t = index-typed c x (pos 0) (pos n -ℤ pos 1) line (FormAt s line k) os h t
  spot-typed c s (layer.Bare x) line k os h t = (h, t)

  -- ---- statements

  go-typed : (d : Dest) (line : ℕ) (os : List (Option Spec)) → Stand us a (mentions.in_jump d) (calls.in_jump d) → Ty (go_work d d line) os
  go-typed (dest.Goal l) line os h = tt
  go-typed (dest.Special k) line os h = tt
  go-typed (dest.Switch n x) line os h = (h, tt)
  go-typed (dest.CommonSwitch m x) line os h = (h, tt)
  go-typed (dest.SpecialSwitch k x) line os h = (h, tt)

  pub all-typed : (ss : List Stmt) (k : Work) (os : List (Option Spec)) → Stand us a (mentions.joined (map mentions.in_statement ss)) (calls.joined (map calls.in_statement ss)) → Ty k os → Ty (run_all ss k) os
  all-typed [] k os h t = t
  all-typed (s ∷ ss) k os h t =
      let parts = both (mentions.in_statement s) (mentions.joined (map mentions.in_statement ss)) (calls.in_statement s) (calls.joined (map calls.in_statement ss)) h in
      (parts.0, all-typed ss k os parts.1 t)

  pub statement-typed : (f : ℕ) (l : Stmt-F Stmt) (k : Work) (os : List (Option Spec)) → Stand us a (statement_layer l) (statement_calls l) → Ty k os → Ty (statement_work f l k) os
  statement-typed f (statement.Put line r x) k os h t =
      let parts = both (mentions.in_reference r) (mentions.in_expression x) (calls.in_reference r) (calls.in_expression x) h in (parts.1, (parts.0, t))
  statement-typed f (statement.PutBits line n b r x) k os h t =
      let parts = both (mentions.in_reference r) (mentions.in_expression x) (calls.in_reference r) (calls.in_expression x) h in (parts.1, (parts.0, t))
  statement-typed f (statement.Go line d) k os h t = go-typed d line os h
  statement-typed f (statement.Call line c args) k os h t = call-typed false c args line k os h t
  statement-typed f (statement.Answer line x) k os h t = (h, tt)
  statement-typed f (statement.If line c s s') k os h t =
      let parts = both (mentions.in_condition c) (mentions.in_statement s ++ mentions.in_statement s') (calls.in_condition c) (calls.in_statement s ++ calls.in_statement s') h in
      let sides = both (mentions.in_statement s) (mentions.in_statement s') (calls.in_statement s) (calls.in_statement s') parts.1 in
      (parts.0, (sides.0, t), (sides.1, t))
  statement-typed f (statement.For line item r es s) k os h t =
      let parts = both (mentions.in_reference r) (mentions.joined (map mentions.in_element es) ++ mentions.in_statement s) (calls.in_reference r) (calls.joined (map calls.in_element es) ++ calls.in_statement s) h in
      let rest = both (mentions.joined (map mentions.in_element es)) (mentions.in_statement s) (calls.joined (map calls.in_element es)) (calls.in_statement s) parts.1 in
      (parts.0, (rest, t))
  statement-typed f (statement.Seq ss) k os h t = all-typed ss k os h t
  statement-typed f (statement.Mark ls s) k os h t = (h, t)

  pub element-typed : (e : Felem) (i : ℕ) (c : Loop) (k : Work) (os : List (Option Spec)) → IsLoop us a c → Stand us a (mentions.in_element e) (calls.in_element e) → Ty k os → Ty (element_work e i c k) os
  element-typed (element.One x) i c k os l h t = (h, (l.1, (l, t)))
  element-typed (element.While x y) i c k os l h t =
      let parts = both (mentions.in_expression x) (mentions.in_condition y) (calls.in_expression x) (calls.in_condition y) h in
      (parts.0, (parts.1, (l.1, (l, t)), (l, t)))
  element-typed (element.Step x y z) i c k os l h t =
      let parts = both (mentions.in_expression x) (mentions.in_expression y ++ mentions.in_expression z) (calls.in_expression x) (calls.in_expression y ++ calls.in_expression z) h in
      let rest = both-expressions y z parts.1 in
      (parts.0, (rest.0, (rest.1, (l, t))))
