-- The rules of statements, procedures and blocks keep what is known.
use Rattle.std.proofs.Common.{ℕ, suc, ◌+◌, ◌*◌, ◌≤◌, ◌<◌, Bool, true, false, ◌&&◌, nat_lt, IsTrue, List, [], ◌∷◌, length, map, Option, Some, None, refl, subst, arith}
use Rattle.cw_tree.specs.declared.leaf.Position.{Position}
use Rattle.cw_tree.specs.declared.leaf.RawName.{RawName}
use Rattle.cw_tree.specs.declared.leaf.RawType.{RawType}
use Rattle.cw_tree.specs.declared.expression.RawBits.{RawBits}
use Rattle.cw_tree.specs.declared.expression.RawExpr.{RawExpr}
use Rattle.cw_tree.specs.declared.expression.RawCond.{RawCond}
use Rattle.cw_tree.specs.declared.expression.RawRef.{RawRef}
use Rattle.cw_tree.specs.declared.expression.RawRef.TheVariants as ref_tree
use Rattle.cw_tree.specs.declared.items.RawBase.{RawBase}
use Rattle.cw_tree.specs.declared.items.RawData.{RawData}
use Rattle.cw_tree.specs.declared.statement.RawPtag.{RawPtag}
use Rattle.cw_tree.specs.declared.statement.RawParam.{RawParam}
use Rattle.cw_tree.specs.declared.statement.RawFelem.{RawFelem}
use Rattle.cw_tree.specs.declared.statement.RawFelem.TheVariants as felem_tree
use Rattle.cw_tree.specs.declared.statement.RawStmt.{RawStmt, out-RawStmt}
use Rattle.cw_tree.specs.declared.statement.RawBlock.{RawBlock}
use Rattle.cw_tree.specs.declared.statement.RawForm.{RawForm}
use Rattle.cw_tree.specs.declared.statement.RawForm.TheVariants as form_tree
use Rattle.cw_tree.specs.declared.statement.RawSimple.{RawSimple}
use Rattle.cw_tree.specs.declared.statement.RawSimple.TheVariants as simple_tree
use Rattle.cw_tree.specs.declared.statement.RawDecl.{RawDecl}
use Rattle.cw_tree.specs.declared.statement.RawDecl.TheVariants as decl_tree
use Rattle.cw_tree.specs.declared.statement.RawDecl.TheOpen as layer
use Rattle.cw_grammar.specs.Tokens.{Item, position}
use Rattle.cw_grammar.specs.Grammar.{Sort, Rule, bracketed, subscript, indexed, called, located, conditional, if_rest, else_rest, for_rest, block_rest, proc_body, Again}
use Rattle.cw_grammar.specs.Rules.{indexed_name, reference, condition, expr}
use Rattle.cw_grammar.specs.Statements.{simple_behind, jump, block_tree, unnamed, stmt_tree, simple_stmt, with_label, simple, if_tree, for_tree, stmt, felem, proc_tree, proc_behind, worded_decl, decl, text}
use Rattle.cw_grammar.specs.Table.{rule, again_rule}
use Rattle.cw_grammar.proofs.Table.{each_again}
use Rattle.cw_tokens.specs.TreeTokens as tokens
use Rattle.cw_tokens.specs.LeastTokens.{separated}
use Rattle.cw_tree.proofs.Statements.{of_simple}
use Rattle.cw_sound.proofs.Statements.Folds.{regular_pass}
use Rattle.cw_sound.specs.Expressions.Regular as expressions
use Rattle.cw_sound.proofs.Expressions.Truth.{both, lt_true}
use Rattle.cw_sound.specs.Statements.Bodies as bodies
use Rattle.cw_sound.specs.Statements.Levels.{statement_levels}
use Rattle.cw_sound.specs.Statements.Regular as regular
use Rattle.cw_sound.proofs.Regular.Lists.{all_each, two_each}
use Rattle.cw_sound.proofs.Regular.Fits.{Fits, fitted}
use Rattle.cw_sound.proofs.Regular.Smalls.{BodyFits, Sound, stmt_opened, small, rolled}
use Rattle.cw_sound.proofs.Regular.Expressions.{name_fits, index_fits, bare_fits, reference_keeps, condition_keeps, expr_keeps}
use Rattle.cw_sound.proofs.Regular.Good.{Keeps, given_good}
use Rattle.cw_tokens.proofs.Kept.{OfOption}
use Rattle.cw_macro.specs.Premises.{Each}
use Rattle.cw_sound.proofs.Items.Lists.{each-append}

-- ---- elements of FOR

abbrev ElementFits : RawFelem → Type 0
ElementFits x = Fits (regular.is_regular_element x) (tokens.felem_tokens x)

one_fits : (x : RawExpr) → fitted.Expr x → ElementFits (felem_tree.One x)
one_fits x h = h

while_fits : (x : RawExpr) (c : RawCond) → fitted.Expr x → fitted.Cond c → ElementFits (felem_tree.While x c)
while_fits x c h k = record { right = both (expressions.is_regular x) (expressions.is_regular_condition c) h.right k.right; some = omega arith }

step_fits : (x y z : RawExpr) → fitted.Expr x → fitted.Expr y → fitted.Expr z → ElementFits (felem_tree.Step x y z)
step_fits x y z h k l =
    record { right = both (expressions.is_regular x) (expressions.is_regular y && expressions.is_regular z) h.right (both (expressions.is_regular y) (expressions.is_regular z) k.right l.right); some = omega arith }

-- ---- trees

module _ (m : ℕ) where
  none_in : (is : Bool) → IsTrue is → Sound m is []
  none_in is h = record { right = h; inner = tt }

  empty_small : (small m).Simple simple_tree.Empty
  empty_small = subst ((small m).Simple) simple_tree.rolls-Empty ((rolled m).simple layer.Empty (λ few. none_in true refl))

  assign_small : (r : RawRef) (x : RawExpr) → fitted.Ref r → fitted.Expr x → (small m).Simple (simple_tree.Assign r x)
  assign_small r x h k =
      subst ((small m).Simple) (simple_tree.rolls-Assign r x)
      ((rolled m).simple (layer.Assign r x) (λ few. none_in (expressions.is_regular_reference r && expressions.is_regular x) (both (expressions.is_regular_reference r) (expressions.is_regular x) h.right k.right)))

  assign_bits_small : (z : RawBits) (r : RawRef) (x : RawExpr) → fitted.Ref r → fitted.Expr x → (small m).Simple (simple_tree.AssignBits z r x)
  assign_bits_small z r x h k =
      subst ((small m).Simple) (simple_tree.rolls-AssignBits z r x)
      ((rolled m).simple (layer.AssignBits z r x) (λ few. none_in (expressions.is_regular_reference r && expressions.is_regular x) (both (expressions.is_regular_reference r) (expressions.is_regular x) h.right k.right)))

  jump_small : (t : Item) (f : RawName) (o : Option (Item × RawExpr)) → OfOption (λ y. Unit {0} × fitted.Expr y.1) o → (small m).Simple (jump t f o)
  jump_small t f None h = subst ((small m).Simple) (simple_tree.rolls-Goto (position t) f) ((rolled m).simple (layer.Goto (position t) f) (λ few. none_in true refl))
  jump_small t f (Some y) h =
      subst ((small m).Simple) (simple_tree.rolls-GotoSwitch (position t) f y.1) ((rolled m).simple (layer.GotoSwitch (position t) f y.1) (λ few. none_in (expressions.is_regular y.1) h.1.right))

  call_small : (f : RawName) (xs : List RawExpr) → Each fitted.Expr xs → (small m).Simple (simple_tree.Call f xs)
  call_small f xs h =
      subst ((small m).Simple) (simple_tree.rolls-Call f xs)
      ((rolled m).simple (layer.Call f xs) (λ few. none_in (expressions.all (map expressions.is_regular xs)) (all_each expressions.is_regular tokens.expr_tokens xs h)))

  answer_small : (at : Position) (x : RawExpr) → fitted.Expr x → (small m).Simple (simple_tree.Answer at x)
  answer_small at x h = subst ((small m).Simple) (simple_tree.rolls-Answer at x) ((rolled m).simple (layer.Answer at x) (λ few. none_in (expressions.is_regular x) h.right))

  block_small : (b : RawBlock) → (small m).Block b → (small m).Simple (simple_tree.Block b)
  block_small b h = subst ((small m).Simple) (simple_tree.rolls-Block b) ((rolled m).simple (layer.Block b) h)

  simple_small : (s : RawSimple) → (small m).Simple s → (small m).Form (form_tree.Simple s)
  simple_small s h = subst ((small m).Form) (form_tree.rolls-Simple s) ((rolled m).form (layer.Simple s) h)

  if_small : (at : Position) (c : RawCond) (ls : List RawName) (s : RawSimple) (o : Option RawStmt) → fitted.Cond c → (small m).Simple s → OfOption (λ y. (small m).Stmt y) o → (small m).Form (form_tree.If at c ls s o)
  if_small at c ls s None h k l =
      subst ((small m).Form) (form_tree.rolls-If at c ls s None)
      ((rolled m).form (layer.If at c ls s None) (λ few.
      let count : 2 + (tokens.cond_tokens c + ((2 * length ls + tokens.simple_tokens s) + 0)) ≤ 65535 = few in
      let p = k (omega (arith, count)) in
      record {
        right = both (expressions.is_regular_condition c) (of_simple regular_pass s && true) h.right (both (of_simple regular_pass s) true p.right refl);
        inner = each-append (BodyFits m) (bodies.simple_bodies s) [] p.inner tt;
      }))
  if_small at c ls s (Some x) h k l =
      subst ((small m).Form) (form_tree.rolls-If at c ls s (Some x))
      ((rolled m).form (layer.If at c ls s (Some x)) (λ few.
      let count : 2 + (tokens.cond_tokens c + ((2 * length ls + tokens.simple_tokens s) + tokens.stmt_tokens x)) ≤ 65535 = few in
      let p = k (omega (arith, count)) in
      let q = l (omega (arith, count)) in
      record {
        right = both (expressions.is_regular_condition c) (of_simple regular_pass s && regular.is_regular_statement x) h.right (both (of_simple regular_pass s) (regular.is_regular_statement x) p.right q.right);
        inner = each-append (BodyFits m) (bodies.simple_bodies s) (bodies.statement_bodies x) p.inner q.inner;
      }))

  -- A FOR has two tokens for each element, and more.
  for_small : (at : Position) (r : RawRef) (xs : List RawFelem) (s : RawStmt) → fitted.Ref r → Each ElementFits xs → (small m).Stmt s → (small m).Form (form_tree.For at r xs s)
  for_small at r xs s h k l =
      subst ((small m).Form) (form_tree.rolls-For at r xs s)
      ((rolled m).form (layer.For at r xs s) (λ few.
      let count : 2 + (tokens.ref_tokens r + (separated (map tokens.felem_tokens xs) + tokens.stmt_tokens s)) ≤ 65535 = few in
      let p = l (omega (arith, count)) in
      let all_of = expressions.all (map regular.is_regular_element xs) in
      let rest = regular.is_regular_statement s in
      let two = two_each regular.is_regular_element tokens.felem_tokens xs k in
      let less : length xs < 32767 = omega (arith, count, two, h.some) in
      record {
        right = both (expressions.is_regular_reference r) (nat_lt (length xs) 32767 && (all_of && rest)) h.right
            (both (nat_lt (length xs) 32767) (all_of && rest) (lt_true (length xs) 32767 less) (both all_of rest (all_each regular.is_regular_element tokens.felem_tokens xs k) p.right));
        inner = p.inner;
      }))

  stmt_small : (ls : List RawName) (f : RawForm) → (small m).Form f → (small m).Stmt (stmt_tree ls f)
  stmt_small ls f h = (rolled m).stmt (record { labels = ls; form = f }) (λ few. let count : 2 * length ls + tokens.form_tokens f ≤ 65535 = few in let p = h (omega (arith, count)) in record { right = p.right; inner = p.inner })

  labelled_small : (n : RawName) (s : RawStmt) → (small m).Stmt s → (small m).Stmt (with_label n s)
  labelled_small n s h =
      let k = stmt_opened m s h in
      (rolled m).stmt (record { labels = n ∷ (out-RawStmt s).labels; form = (out-RawStmt s).form }) (λ few. let count : 2 * suc (length (out-RawStmt s).labels) + tokens.form_tokens (out-RawStmt s).form ≤ 65535 = few in let p = k (omega (arith, count)) in record { right = p.right; inner = p.inner })

  form_alone : (f : RawForm) → (small m).Form f → (small m).Stmt (stmt_tree [] f)
  form_alone f h = stmt_small [] f h

  simple_alone : (s : RawSimple) → (small m).Simple s → (small m).Stmt (simple_stmt s)
  simple_alone s h = form_alone (form_tree.Simple s) (simple_small s h)

  -- ---- blocks and procedures

  statements_in : (ss : List RawStmt) → Each ((small m).Stmt) ss → separated (map tokens.stmt_tokens ss) ≤ 65535 → Sound m (expressions.all (map regular.is_regular_statement ss)) (bodies.joined (map (λ s. (s, bodies.statement_bodies s)) ss))
  statements_in [] h few = none_in true refl
  statements_in (s ∷ ss) h few =
      let p = h.0 (omega (arith, few)) in
      let q = statements_in ss h.1 (omega (arith, few)) in
      record {
        right = both (regular.is_regular_statement s) (expressions.all (map regular.is_regular_statement ss)) p.right q.right;
        inner = each-append (BodyFits m) (bodies.statement_bodies s) (bodies.joined (map (λ z. (z, bodies.statement_bodies z)) ss)) p.inner q.inner;
      }

  declarations_in : (ds : List RawDecl) → Each ((small m).Decl) ds → tokens.total (map tokens.decl_tokens ds) ≤ 65535 → Each (BodyFits m) (bodies.joined (map (λ d. (d, bodies.declaration_bodies d)) ds))
  declarations_in [] h few = tt
  declarations_in (d ∷ ds) h few =
      each-append (BodyFits m) (bodies.declaration_bodies d) (bodies.joined (map (λ z. (z, bodies.declaration_bodies z)) ds)) (h.0 (omega (arith, few))).inner (declarations_in ds h.1 (omega (arith, few)))

  whole_small : (t : Item) (ds : List RawDecl) (ss : List RawStmt) → Each ((small m).Decl) ds → Each ((small m).Stmt) ss → (small m).Block (block_tree t ds ss)
  whole_small t ds ss h k =
      (rolled m).block (record { at = position t; decls = ds; stmts = ss }) (λ few.
      let count : suc (tokens.total (map tokens.decl_tokens ds) + separated (map tokens.stmt_tokens ss)) ≤ 65535 = few in
      let p = statements_in ss k (omega (arith, count)) in
      record {
        right = p.right;
        inner = each-append (BodyFits m) (bodies.joined (map (λ d. (d, bodies.declaration_bodies d)) ds)) (bodies.joined (map (λ s. (s, bodies.statement_bodies s)) ss)) (declarations_in ds h (omega (arith, count))) p.inner;
      })

  data_small : (d : RawData) → (small m).Decl (decl_tree.Data d)
  data_small d = subst ((small m).Decl) (decl_tree.rolls-Data d) ((rolled m).decl (layer.Data d) (λ few. none_in true refl))

  overlay_small : (at : Position) (b : RawBase) (d : RawData) → (small m).Decl (decl_tree.Overlay at b d)
  overlay_small at b d = subst ((small m).Decl) (decl_tree.rolls-Overlay at b d) ((rolled m).decl (layer.Overlay at b d) (λ few. none_in true refl))

  switch_small : (at : Position) (f : RawName) (xs : List RawName) → (small m).Decl (decl_tree.Switch at f xs)
  switch_small at f xs = subst ((small m).Decl) (decl_tree.rolls-Switch at f xs) ((rolled m).decl (layer.Switch at f xs) (λ few. none_in true refl))

  proc_small : (o : Option RawType) (g : RawPtag) (f : RawName) (ps : List RawParam) (s : RawStmt) → (small m).Stmt s → statement_levels s ≤ m → (small m).Decl (decl_tree.Proc (proc_tree o g f ps s))
  proc_small o g f ps s h l =
      let made : (small m).Proc (proc_tree o g f ps s) =
      (rolled m).proc (record { answer = o; tag = g; name = f; params = ps; body = s }) (λ few.
      let count : 4 + (tokens.total (map tokens.param_tokens ps) + tokens.stmt_tokens s) ≤ 65535 = few in
      let p = h (omega (arith, count)) in
      record { right = p.right; inner = (record { right = p.right; few = l }, p.inner) }) in
      subst ((small m).Decl) (decl_tree.rolls-Proc (proc_tree o g f ps s)) ((rolled m).decl (layer.Proc (proc_tree o g f ps s)) (λ few. let p = made few in record { right = refl; inner = p.inner }))

  -- ---- rules

  behind_keeps : Keeps m simple_behind
  unfolding simple_behind
  behind_keeps = (
    (((tt, expr_keeps m), λ x h. given_good m expr x.1 h.1), λ e h n k. assign_small (ref_tree.Name n) e (name_fits n) h),
    (
      ((tt, ((tt, expr_keeps m), λ x h. given_good m expr x.1 h.1)), λ x h n k. assign_small (indexed_name n x.0.1.0 x.0.1.1) x.1 (index_fits n x.0.1.0 x.0.1.1 h.0.0 h.0.1) h.1),
      ((tt, λ x h n k. call_small n x.1 h), λ n k. call_small n [] tt),
    ),
  )

  unnamed_keeps : (p : Bool) → Keeps m (unnamed p)
  unfolding unnamed
  unnamed_keeps p = (
    ((tt, ((tt, expr_keeps m), λ x h. given_good m expr x.1 h.1)), λ x h. assign_small (ref_tree.Bare (position x.0.0) x.0.1) x.1 (bare_fits (position x.0.0) x.0.1 h.0) h.1),
    (
      ((tt, (reference_keeps m, ((tt, expr_keeps m), λ x h. given_good m expr x.1 h.1))), λ x h. assign_bits_small x.0 x.1.0 x.1.1 (given_good m reference x.1.0 h.1.0) h.1.1),
      (
        ((tt, (tt, ((tt, λ x h. (tt, h)), tt))), λ x h. jump_small x.0 x.1.0 x.1.1 h.1.1),
        (
          ((tt, expr_keeps m), λ x h. answer_small (position x.0) x.1 (given_good m expr x.1 h.1)),
          ((tt, λ x h. block_small (block_tree x.0 x.1.0 x.1.1) (whole_small x.0 x.1.0 x.1.1 h.0 h.1)), empty_small),
        ),
      ),
    ),
  )

  simple_keeps : (p : Bool) → Keeps m (simple p)
  unfolding simple
  simple_keeps p = (
    ((tt, ((((tt, tt), λ x h. h.1), λ x h n k. ((tt, h.0), h.1)), (behind_keeps, λ f h n k. (tt, given_good m simple_behind f h n tt)))), λ x h. h.1 x.0 tt),
    (unnamed_keeps p, λ s h. (tt, given_good m (unnamed p) s h)),
  )

  stmt_keeps : (p : Bool) → Keeps m (stmt p)
  unfolding stmt
  stmt_keeps p = (
    ((tt, ((((tt, tt), λ x h. h.1), λ s h n k. labelled_small n s h), (behind_keeps, λ f h n k. simple_alone (f n) (given_good m simple_behind f h n tt)))), λ x h. h.1 x.0 tt),
    (
      (tt, λ x h. form_alone (if_tree x.0 x.1) (if_small (position x.0) x.1.0 x.1.1.0.0 x.1.1.0.1 x.1.1.1 h.0 h.1.0.1 h.1.1)),
      (
        (tt, λ x h. form_alone (for_tree x.0 x.1) (for_small (position x.0) x.1.0 x.1.1.0 x.1.1.1 h.0 h.1.0 h.1.1)),
        (unnamed_keeps p, λ s h. simple_alone s (given_good m (unnamed p) s h)),
      ),
    ),
  )

  felem_keeps : Keeps m felem
  unfolding felem
  felem_keeps = (
    (
      expr_keeps m,
      (
        (((tt, condition_keeps m), λ x h. given_good m condition x.1 h.1), λ c h e k. while_fits e c k h),
        (
          (((tt, (expr_keeps m, ((tt, expr_keeps m), λ x h. given_good m expr x.1 h.1))), λ x h. (given_good m expr x.1.0 h.1.0, h.1.1)), λ x h e k. step_fits e x.0 x.1 k h.0 h.1),
          λ e k. one_fits e k,
        ),
      ),
    ),
    λ x h. h.1 x.0 (given_good m expr x.0 h.0),
  )

  proc_keeps : Keeps m proc_behind
  unfolding proc_behind
  proc_keeps = ((tt, (tt, (tt, tt))), λ x h t k. proc_small t x.0 x.1.0 x.1.1.0 x.1.1.1.1 h.1.1.1.0 h.1.1.1.1)

  worded_keeps : Keeps m worded_decl
  unfolding worded_decl
  worded_keeps = ((tt, λ d h. data_small d), ((tt, λ x h. overlay_small (position x.0) x.1.0 x.1.1), (tt, λ x h. switch_small (position x.0) x.1.0 x.1.1)))

  decl_keeps : (p : Bool) → Keeps m (decl p)
  unfolding decl
  decl_keeps true = (((tt, ((tt, λ f h t k. data_small (f t)), (tt, λ f h t k. data_small (f t)))), λ x h. h.1 x.0 tt), worded_keeps)
  decl_keeps false = (
    ((tt, ((tt, λ f h t k. data_small (f t)), ((tt, λ f h t k. data_small (f t)), (proc_keeps, λ f h t k. given_good m proc_behind f h (Some t) tt)))), λ x h. h.1 x.0 tt),
    (worded_keeps, (proc_keeps, λ f h. given_good m proc_behind f h None tt)),
  )

  pub rule_keeps : {s : Sort} (r : Rule s) → Keeps m (rule r)
  unfolding rule
  rule_keeps bracketed = ((expr_keeps m, tt), λ x h. given_good m expr x.0 h.0)
  rule_keeps subscript = ((expr_keeps m, tt), λ x h. given_good m expr x.0 h.0)
  rule_keeps indexed = (expr_keeps m, ((((((tt, expr_keeps m), λ x h. given_good m expr x.1 h.1), λ x h. h), tt), tt), λ x h. h.0))
  rule_keeps called = ((((expr_keeps m, ((tt, expr_keeps m), λ x h. given_good m expr x.1 h.1)), λ x h. (given_good m expr x.0 h.0, h.1)), tt), λ x h. h.0)
  rule_keeps located = ((reference_keeps m, tt), λ x h. given_good m reference x.0 h.0)
  rule_keeps conditional = (condition_keeps m, (((tt, expr_keeps m), λ x h. given_good m expr x.1 h.1), ((tt, expr_keeps m), λ x h. given_good m expr x.1 h.1)))
  rule_keeps (if_rest p) = (condition_keeps m, (((tt, tt), λ x h. h.1), (((tt, λ x h. h), λ x h. h), tt)))
  rule_keeps (else_rest p) = tt
  rule_keeps (for_rest p) = (
    reference_keeps m,
    (((tt, ((felem_keeps, ((tt, felem_keeps), λ x h. given_good m felem x.1 h.1)), λ x h. (given_good m felem x.0 h.0, h.1))), λ x h. h.1), ((tt, tt), λ x h. h.1)),
  )
  rule_keeps (block_rest p) = (((decl_keeps p, tt), λ x h. given_good m (decl p) x.0 h.0), ((((tt, ((tt, tt), λ x h. h.1)), λ x h. (h.0, h.1)), tt), λ x h. h.0))
  rule_keeps proc_body = tt

  pub again_keeps : {s : Sort} (a : Again s) → Keeps m (again_rule a)
  unfolding again_rule
  again_keeps = each_again (λ s a. Keeps m (again_rule a)) stmt_keeps simple_keeps tt tt

  pub text_keeps : Keeps m text
  unfolding text
  text_keeps = ((tt, (tt, (tt, tt))), λ x h. whole_small x.1.1.0.0 x.1.1.0.1.0 x.1.1.0.1.1 h.1.1.0.0 h.1.1.0.1)
