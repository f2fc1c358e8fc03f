-- The induction over all rules of statements: what is so of each statement whose parts it is so of, where names stand for right things and no
-- type has a fault.
use Rattle.std.proofs.Common.{◌≡◌, ℕ, suc, max, List, [], ◌∷◌, ◌++◌, length, map, Bool, false, IsTrue, ◌&&◌, nat_lt, Option, Some, None, sym, ap, subst, subst₂}
use Rattle.cw_table.specs.declared.table.Row.{Row}
use Rattle.cw_tree.specs.declared.leaf.Position.{Position}
use Rattle.cw_tree.specs.declared.leaf.RawName.{RawName}
use Rattle.cw_tree.specs.declared.expression.RawBits.{RawBits}
use Rattle.cw_tree.specs.declared.expression.RawExpr.{RawExpr}
use Rattle.cw_tree.specs.declared.expression.RawCond.{RawCond}
use Rattle.cw_tree.specs.declared.expression.RawRef.{RawRef}
use Rattle.cw_tree.specs.declared.statement.RawDecl.{RawDecl}
use Rattle.cw_tree.specs.declared.statement.RawDecl.TheOpen as layer
use Rattle.cw_tree.specs.declared.statement.RawBlock.{RawBlock}
use Rattle.cw_tree.specs.declared.statement.RawStmt.{RawStmt}
use Rattle.cw_tree.specs.declared.statement.RawFelem.{RawFelem}
use Rattle.cw_facts.specs.declared.fact.Fact.{Fact}
use Rattle.cw_facts.specs.declared.fact.Fact.TheVariants as fact
use Rattle.cw_facts.specs.declared.fact.Form.TheVariants as form
use Rattle.cw_facts.specs.declared.fact.Kind.TheVariants as kind
use Rattle.cw_facts.specs.declared.fact.Reading.TheVariants as reading
use Rattle.cw_facts.specs.Uses.{uses_of, expression_uses, condition_uses, reference_uses, argument_uses}
use Rattle.cw_facts.specs.Facts.{BlockFacts, joined, each_declares, felems_facts, facts_if, answer_name}
use Rattle.cw_facts.specs.Facts as facts
use Rattle.cw_scope.specs.declared.resolve.Named.{Named}
use Rattle.cw_scale.specs.Faults.{Judgement, both}
use Rattle.cw_scale.specs.Kinds.{kind_of, signature_of, fraction_of_kind}
use Rattle.cw_scale.specs.Types.{bits_judged}
use Rattle.cw_scale.specs.TypeRules.{expression, call_faults}
use Rattle.cw_items.specs.declared.families.Site.{Site}
use Rattle.cw_judge.specs.Judged.{expression_judged, condition_judged, reference_judged, arguments_counted, scale_of, all_judged, judged_if, felems_judged}
use Rattle.cw_judge.specs.Judged as judged
use Rattle.cw_make_expr.specs.Parts.{Numbers, item_here}
use Rattle.cw_make_expr.specs.Made.{condition_of, reference_of}
use Rattle.cw_make_stmt.specs.Made.{line_of, row_if}
use Rattle.cw_make_stmt.specs.Made as made
use Rattle.cw_unit.specs.declared.unit.Unit.{Unit as SourceUnit}
use Rattle.cw_unit.specs.declared.unit.Stmt.{Stmt}
use Rattle.cw_sound.specs.Expressions.Levels.{largest, then_levels, condition_levels, reference_levels}
use Rattle.cw_sound.specs.Expressions.Levels.{by_largest}
use Rattle.cw_sound.specs.Statements.Gathered.{gathered_if}
use Rattle.cw_tree.proofs.Statements.{of_form, of_simple}
use Rattle.cw_sound.specs.Expressions.Regular.{by_all, all, is_regular, is_regular_condition, is_regular_reference}
use Rattle.cw_sound.proofs.Expressions.Truth.{parts}
use Rattle.cw_sound.proofs.Expressions.Judging.{NoFault, keeps_fine}
use Rattle.cw_sound.specs.Statements.Levels.{element_levels}
use Rattle.cw_sound.specs.Statements.Levels as levels
use Rattle.cw_sound.specs.Statements.Regular.{is_regular_element}
use Rattle.cw_sound.specs.Statements.Regular as regular
use Rattle.cw_sound.proofs.Statements.Keeping.{simple_keeps, statement_keeps}
use Rattle.cw_sound.proofs.Statements.Halves.{in_unit, if_parts, loop_parts, block_parts, next_parts}
use Rattle.cw_sound.proofs.Statements.Parts.{Stood, halves_of}
use Rattle.cw_sound.proofs.Statements.Folds.{facts_pass, judged_pass, made_pass, levels_pass, regular_pass}
use Rattle.cw_sound.proofs.Statements.Passes.{layered, rolls, LayersKnown, Rolled, rules_of}
use Rattle.cw_sound.proofs.Statements.Layers as layers
use Rattle.cw_sound.proofs.Statements.Layers.{Known, WithStmt, FormParts, SimpleParts, BlockParts, StmtParts, form_layer, simple_layer, block_layer, stmt_layer, Rules}

-- what is so of the statements of a row, of which the one with the most levels needs so many
pub data AllGood (Good : Stmt → ℕ → Type 0) : List Stmt → ℕ → Type 0 where
  no_statement : AllGood Good [] 0
  one_more : {s : Stmt} {ss : List Stmt} {l k : ℕ} → Good s l → AllGood Good ss k → AllGood Good (s ∷ ss) (max l k)

module _ (Good : Stmt → ℕ → Type 0) (Row : List Stmt → ℕ → Type 0) (nothing : Row [] 0) (more : (s : Stmt) (ss : List Stmt) (l k : ℕ) → Good s l → Row ss k → Row (s ∷ ss) (max l k)) where
  all_good : {ss : List Stmt} {l : ℕ} → AllGood Good ss l → Row ss l
  all_good no_statement = nothing
  all_good (one_more {s = s} {ss = ss} {l = l} {k = k} g gs) = more s ss l k g (all_good gs)

  -- so it is of a row, by what is so of all its statements together
  pub row_right : ((ss : List Stmt) (l : ℕ) → Row ss l → Good (made.row ss) l) → {ss : List Stmt} {l : ℕ} → AllGood Good ss l → Good (made.row ss) l
  row_right whole {ss = ss} {l = l} gs = whole ss l (all_good gs)

-- what is so of a statement that needs so many levels, wherever it is so of its parts
pub record Closed (named : Named) (numbers : Numbers) (u : SourceUnit) (who : Option ℕ) (Good : Stmt → ℕ → Type 0) : Type 0 where
  pub row : {ss : List Stmt} {l : ℕ} → AllGood Good ss l → Good (made.row ss) l
  pub marked : (ns : List RawName) (s : Stmt) (l : ℕ) → Good s l → Good (made.marked numbers ns s) l
  pub conditional : (at : Position) (test : RawCond) (a b : Stmt) (l k : ℕ) → IsTrue (is_regular_condition test) → Stood named numbers u who (condition_uses test reading.Value) → NoFault (condition_judged named test) → Good a l → Good b k
      → Good (made.conditional (line_of at) (condition_of named numbers test) a b) (max (condition_levels test) (max (suc l) k))
  pub repetition : (at : Position) (variable : RawRef) (elems : List RawFelem) (s : Stmt) (l : ℕ) → IsTrue (is_regular_reference variable) → IsTrue (nat_lt (length elems) 32767) → IsTrue (all (map is_regular_element elems))
      → Stood named numbers u who (fact.Loop at ∷ []) → Stood named numbers u who (reference_uses variable reading.Whole) → Stood named numbers u who (felems_facts elems) → NoFault (reference_judged named variable) → NoFault (felems_judged named (scale_of named variable) elems) → Good s l
      → Good (made.repetition (line_of at) (item_here numbers at.token) (reference_of named numbers variable) (map (made.felem_of named numbers) elems) s) (max (reference_levels variable) (max (largest (map element_levels elems)) (max 1 l)))
  pub goto : (at : Position) (n : RawName) → Stood named numbers u who (uses_of n form.Goto) → Good (made.jump named numbers at n) 0
  pub switch : (at : Position) (n : RawName) (e : RawExpr) → IsTrue (is_regular e) → Stood named numbers u who (uses_of n form.GotoSwitch ++ expression_uses e reading.Value) → NoFault (expression_judged named 0 e) → Good (made.switch_jump named numbers at n e) (then_levels e)
  pub call : (n : RawName) (es : List RawExpr) → IsTrue (all (map is_regular es)) → Stood named numbers u who (uses_of n form.Call ++ argument_uses es) → NoFault (both (call_faults named (signature_of named n) n (map (expression named) es)) (arguments_counted es))
      → Good (made.call_statement named numbers n es) (largest (map then_levels es))
  pub assign : (r : RawRef) (e : RawExpr) → IsTrue (is_regular_reference r && is_regular e) → Stood named numbers u who (reference_uses r reading.Target ++ expression_uses e reading.Value) → NoFault (both (reference_judged named r) (expression_judged named (scale_of named r) e))
      → Good (made.assignment named numbers r e) (max (reference_levels r) (then_levels e))
  pub bits : (bits : RawBits) (r : RawRef) (e : RawExpr) → IsTrue (is_regular_reference r && is_regular e) → Stood named numbers u who (reference_uses r reading.Whole ++ expression_uses e reading.Value) → NoFault (both (bits_judged bits) (both (reference_judged named r) (expression_judged named 0 e)))
      → Good (made.bits_assignment named numbers bits r e) (max (reference_levels r) (then_levels e))
  pub answer : (at : Position) (e : RawExpr) → IsTrue (is_regular e) → Stood named numbers u who (uses_of (answer_name at) form.Answer ++ expression_uses e reading.Value) → NoFault (expression_judged named (fraction_of_kind (kind_of named (answer_name at))) e) → Good (made.answer named numbers at e) (then_levels e)

module _ (named : Named) (sites : List (Row Site)) (numbers : Numbers) (u : SourceUnit) (who : Option ℕ) (Good : Stmt → ℕ → Type 0) (closed : Closed named numbers u who Good) where
  -- what is so of a tree where it is regular, its names stand for right things, and its types have no fault
  abbrev So : Bool → List Fact → Judgement → Stmt → ℕ → Type 0
  So b fs j s l = IsTrue b → Stood named numbers u who fs → NoFault j → Good s l

  so : {a b : Bool} {fs gs : List Fact} {j k : Judgement} {s z : Stmt} {l m : ℕ} → a ≡ b → fs ≡ gs → j ≡ k → s ≡ z → l ≡ m → So b gs k z m → So a fs j s l
  so e f g i d h r t free = subst₂ Good (sym i) (sym d) (h (subst IsTrue e r) (subst (Stood named numbers u who) f t) (subst NoFault g free))

  abbrev known : Known
  known = record {
    Decl = λ x. Unit {0};
    Form = λ x. So (of_form regular_pass x) (facts.form_facts x) (judged.form_judged named sites x) (made.form_of named numbers x) (of_form levels_pass x);
    Simple = λ x. So (of_simple regular_pass x) (facts.simple_facts x) (judged.simple_judged named sites x) (made.simple_of named numbers x) (of_simple levels_pass x);
    Block = λ x. (outermost : Bool) → So (regular.is_regular_block x) (facts.block_facts x outermost) (judged.block_judged named sites x) (made.block_of named numbers x) (levels.block_levels x);
    Proc = λ x. Unit {0};
    Stmt = λ x. So (regular.is_regular_statement x) (facts.statement_facts x) (judged.statement_judged named sites x) (made.statement_of named numbers x) (levels.statement_levels x);
  }

  abbrev layers_so : LayersKnown
  layers_so = record {
    Decl = λ y. Unit {0};
    Form = λ y. So ((layered regular_pass).form y) ((layered facts_pass).form y) ((layered (judged_pass named sites)).form y) ((layered (made_pass named numbers)).form y) ((layered levels_pass).form y);
    Simple = λ y. So ((layered regular_pass).simple y) ((layered facts_pass).simple y) ((layered (judged_pass named sites)).simple y) ((layered (made_pass named numbers)).simple y) ((layered levels_pass).simple y);
    Block = λ y. (outermost : Bool) → So ((layered regular_pass).block y) ((layered facts_pass).block y outermost) ((layered (judged_pass named sites)).block y) ((layered (made_pass named numbers)).block y) ((layered levels_pass).block y);
    Proc = λ y. Unit {0};
    Stmt = λ y. So ((layered regular_pass).stmt y) ((layered facts_pass).stmt y) ((layered (judged_pass named sites)).stmt y) ((layered (made_pass named numbers)).stmt y) ((layered levels_pass).stmt y);
  }

  rolled : Rolled known layers_so
  rolled = record {
    decl = λ y h. tt;
    form = λ y h. so ((rolls regular_pass).form y) ((rolls facts_pass).form y) ((rolls (judged_pass named sites)).form y) ((rolls (made_pass named numbers)).form y) ((rolls levels_pass).form y) h;
    simple = λ y h. so ((rolls regular_pass).simple y) ((rolls facts_pass).simple y) ((rolls (judged_pass named sites)).simple y) ((rolls (made_pass named numbers)).simple y) ((rolls levels_pass).simple y) h;
    block = λ y h outermost. so ((rolls regular_pass).block y) (ap (λ (f : BlockFacts). f outermost) ((rolls facts_pass).block y)) ((rolls (judged_pass named sites)).block y) ((rolls (made_pass named numbers)).block y) ((rolls levels_pass).block y) (h outermost);
    proc = λ y h. tt;
    stmt = λ y h. so ((rolls regular_pass).stmt y) ((rolls facts_pass).stmt y) ((rolls (judged_pass named sites)).stmt y) ((rolls (made_pass named numbers)).stmt y) ((rolls levels_pass).stmt y) h;
  }

  -- ---- rows of statements

  rows : (ts : List (WithStmt known)) → let zs : List RawStmt = map (λ y. y.0) ts in
      IsTrue (all (map regular.is_regular_statement zs)) → Stood named numbers u who (joined (map facts.statement_facts zs)) → NoFault (all_judged (map (judged.statement_judged named sites) zs)) → AllGood Good (map (made.statement_of named numbers) zs) (largest (map levels.statement_levels zs))
  rows [] r s free = no_statement
  rows (t ∷ ts) r s free =
      let zs : List RawStmt = map (λ y. y.0) ts in
      let ok = parts (regular.is_regular_statement t.0) (all (map regular.is_regular_statement zs)) r in
      let p = next_parts named numbers (in_unit named numbers u) who facts.statement_facts (judged.statement_judged named sites) (statement_keeps named sites) t.0 zs s free in
      one_more (t.1 ok.0 p.0 p.1) (rows ts ok.1 p.2 p.3)

  form_rule : (y : FormParts known) → layers_so.Form (form_layer known y)
  form_rule (layer.Simple x) r s free = x.1 r s free
  form_rule (layer.If at test labels first None) r s free =
      let oks = parts (is_regular_condition test) (of_simple regular_pass first.0 && gathered_if by_all None) r in
      let arms = parts (of_simple regular_pass first.0) (gathered_if by_all None) oks.1 in
      let p = if_parts named numbers (in_unit named numbers u) who test labels (facts.simple_facts first.0) (facts_if None) (judged.simple_judged named sites first.0) (judged_if None) (simple_keeps named sites first.0) keeps_fine s free in
      closed.conditional at test (made.marked numbers labels (made.simple_of named numbers first.0)) (row_if None) (of_simple levels_pass first.0) (gathered_if by_largest None) oks.0 p.0 p.1
      (closed.marked labels (made.simple_of named numbers first.0) (of_simple levels_pass first.0) (first.1 arms.0 p.2 p.3)) (closed.row no_statement)
  form_rule (layer.If at test labels first (Some second)) r s free =
      let oks = parts (is_regular_condition test) (of_simple regular_pass first.0 && gathered_if by_all (Some (regular.is_regular_statement second.0))) r in
      let arms = parts (of_simple regular_pass first.0) (gathered_if by_all (Some (regular.is_regular_statement second.0))) oks.1 in
      let p = if_parts named numbers (in_unit named numbers u) who test labels (facts.simple_facts first.0) (facts_if (Some (facts.statement_facts second.0))) (judged.simple_judged named sites first.0) (judged_if (Some (judged.statement_judged named sites second.0))) (simple_keeps named sites first.0) (statement_keeps named sites second.0) s free in
      closed.conditional at test (made.marked numbers labels (made.simple_of named numbers first.0)) (row_if (Some (made.statement_of named numbers second.0))) (of_simple levels_pass first.0) (gathered_if by_largest (Some (levels.statement_levels second.0))) oks.0 p.0 p.1
      (closed.marked labels (made.simple_of named numbers first.0) (of_simple levels_pass first.0) (first.1 arms.0 p.2 p.3)) (second.1 arms.1 p.4 p.5)
  form_rule (layer.For at variable elems body) r s free =
      let oks = parts (is_regular_reference variable) (nat_lt (length elems) 32767 && (all (map is_regular_element elems) && regular.is_regular_statement body.0)) r in
      let more = parts (nat_lt (length elems) 32767) (all (map is_regular_element elems) && regular.is_regular_statement body.0) oks.1 in
      let last = parts (all (map is_regular_element elems)) (regular.is_regular_statement body.0) more.1 in
      let p = loop_parts named numbers (in_unit named numbers u) who at variable elems (facts.statement_facts body.0) (judged.statement_judged named sites body.0) (statement_keeps named sites body.0) s free in
      closed.repetition at variable elems (made.statement_of named numbers body.0) (levels.statement_levels body.0) oks.0 more.0 last.0 p.0 p.1 p.3 p.2 p.4 (body.1 last.1 p.5 p.6)

  simple_rule : (y : SimpleParts known) → layers_so.Simple (simple_layer known y)
  simple_rule layer.Empty r s free = closed.row no_statement
  simple_rule (layer.Assign x e) r s free = closed.assign x e r s free
  simple_rule (layer.AssignBits bits x e) r s free = closed.bits bits x e r s free
  simple_rule (layer.Goto at n) r s free = closed.goto at n s
  simple_rule (layer.GotoSwitch at n e) r s free = closed.switch at n e r s free
  simple_rule (layer.Call n es) r s free = closed.call n es r s free
  simple_rule (layer.Answer at e) r s free = closed.answer at e r s free
  simple_rule (layer.Block b) r s free = b.1 false r s free

  block_rule : (y : BlockParts known) → layers_so.Block (block_layer known y)
  block_rule y outermost r s free =
      let ds : List RawDecl = map (λ z. z.0) y.decls in
      let zs : List RawStmt = map (λ z. z.0) y.stmts in
      let p = block_parts named numbers (in_unit named numbers u) who sites outermost ds zs s free in
      closed.row (rows y.stmts r p.2 p.3)

  statement_rule : (y : StmtParts known) → layers_so.Stmt (stmt_layer known y)
  statement_rule y r s free =
      let sides = halves_of named numbers u who (each_declares kind.Label y.labels) (facts.form_facts y.form.0) s in
      closed.marked y.labels (made.form_of named numbers y.form.0) (of_form levels_pass y.form.0) (y.form.1 r sides.1 free)

  rules : Rules known
  rules = rules_of rolled (record { decl = λ y. tt; form = form_rule; simple = simple_rule; block = block_rule; proc = λ y. tt; stmt = statement_rule })

  pub each_statement : (x : RawStmt) → known.Stmt x
  each_statement = layers.each_stmt known rules

  pub each_block : (x : RawBlock) → known.Block x
  each_block = layers.each_block known rules
