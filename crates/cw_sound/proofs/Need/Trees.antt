-- How many words are in hand in what is made of a tree in normal form, by its levels: a level has at most 72. A call has two for each of at most
-- 32 arguments, and the operators of the six rules one each.
use Rattle.std.proofs.Common.{◌≡◌, ℕ, suc, ◌+◌, ◌*◌, ◌≤◌, max, List, [], ◌∷◌, ◌++◌, map, length, Bool, true, false, ◌==◌, if◌then◌else◌, Option, Some, None, refl, sym, ap, subst, ◌∙◌, arith}
use Rattle.cw_tree.specs.declared.leaf.Position.{Position}
use Rattle.cw_tree.specs.declared.leaf.RawName.{RawName}
use Rattle.cw_tree.specs.declared.leaf.RawSign.{RawSign}
use Rattle.cw_tree.specs.declared.leaf.RawFactorSign.{RawFactorSign}
use Rattle.cw_tree.specs.declared.leaf.RawCompareSign.{RawCompareSign}
use Rattle.cw_tree.specs.declared.expression.RawBits.{RawBits}
use Rattle.cw_tree.specs.declared.expression.RawExpr.{RawExpr}
use Rattle.cw_tree.specs.declared.expression.RawPrimary.{RawPrimary}
use Rattle.cw_tree.specs.declared.expression.RawCand.{RawCand}
use Rattle.cw_tree.specs.declared.expression.RawCmp.{RawCmp}
use Rattle.cw_tree.specs.declared.expression.RawDiffer.{RawDiffer}
use Rattle.cw_tree.specs.declared.expression.RawMask.{RawMask}
use Rattle.cw_tree.specs.declared.expression.RawPrim.{RawPrim, roll-RawPrim}
use Rattle.cw_tree.specs.declared.expression.RawSum.{RawSum}
use Rattle.cw_tree.specs.declared.expression.RawTerm.{RawTerm}
use Rattle.cw_tree.specs.declared.expression.RawUnion.{RawUnion}
use Rattle.cw_tree.specs.declared.statement.RawDecl.{RawDecl}
use Rattle.cw_tree.specs.declared.statement.RawBlock.{roll-RawBlock}
use Rattle.cw_tree.specs.declared.statement.RawStmt.{RawStmt}
use Rattle.cw_tree.specs.declared.expression.RawExpr.TheVariants as expr_tree
use Rattle.cw_tree.specs.declared.expression.RawPrimary.TheVariants as primary_tree
use Rattle.cw_tree.specs.declared.expression.RawRef.TheVariants as ref_tree
use Rattle.cw_tree.specs.declared.expression.RawExpr.TheOpen as layer
use Rattle.cw_tree.specs.declared.statement.RawDecl.TheOpen as shape
use Rattle.cw_tree.specs.declared.statement.RawDecl.TheVariants as decl_tree
use Rattle.cw_tree.specs.declared.statement.RawForm.TheVariants as form_tree
use Rattle.cw_tree.specs.declared.statement.RawSimple.TheVariants as simple_tree
use Rattle.cw_tree.specs.declared.statement.RawFelem.{RawFelem}
use Rattle.cw_grammar.specs.Grammar.{Sort, a_pair, a_list, a_position, a_sign, a_factor_sign, an_expr, a_cond, a_cand, a_cmp, a_sum, a_term, a_differ, a_union, a_mask, a_prim, a_primary, a_ref, a_stmt, a_form, a_simple, a_felem, a_block, a_decl, Value}
use Rattle.cw_grammar.specs.Trees.{Operands, extended, mask_tree, union_tree, differ_tree, term_tree, cand_tree, cond_tree, comparison_tree, sum_tree, more_terms}
use Rattle.cw_grammar.specs.Statements.{proc_tree}
use Rattle.cw_derived.specs.NormalForm as normal
use Rattle.cw_derived.specs.NormalForm.{IsNormal}
use Rattle.cw_amount.specs.Amounts.{octal_word, place_amount}
use Rattle.cw_word.specs.Word.{signed}
use Rattle.cw_scope.specs.declared.resolve.Named.{Named}
use Rattle.cw_scale.specs.Kinds.{fraction_of}
use Rattle.cw_number.specs.declared.numbered.Numbered.{Numbered}
use Rattle.cw_make_expr.specs.Parts.{Numbers, within, item_here, number_of}
use Rattle.cw_make_expr.specs.Nodes.{call, choice, comparator, comparison, constant, force, locate, number, string}
use Rattle.cw_make_expr.specs.Made as made
use Rattle.cw_make_expr.specs.Made.{Made, Placed, expression_of, reference_of, arguments, target, logic_of, term_of, all_of, any_of}
use Rattle.cw_make_stmt.specs.Made as statements
use Rattle.cw_make_stmt.specs.Made.{line_of, ref_position, goal_of, switch_of, labels_of, mark, felem_of}
use Rattle.cw_unit.specs.declared.unit.Cond.{Cond}
use Rattle.cw_unit.specs.declared.unit.Expr.{Expr}
use Rattle.cw_unit.specs.declared.unit.Ref.{Ref}
use Rattle.cw_unit.specs.declared.unit.Stmt.{Stmt}
use Rattle.cw_unit.specs.declared.unit.Stmt.TheOpen as statement
use Rattle.cw_unit.specs.declared.unit.CompareOp.{CompareOp}
use Rattle.cw_unit.specs.declared.unit.LogicOp.TheVariants as logic_op
use Rattle.cw_unit.specs.declared.unit.Arg.TheOpen as node
use Rattle.cw_unit.specs.StackBound.{operand_depth, argument_depth, arguments_depth, condition_depth, address_depth, body_depth, jump_depth, element_depth, elements_depth, largest, two_depth}
use Rattle.cw_sound.proofs.Expressions.Folds.{made_steps}
use Rattle.cw_tokens.proofs.Passes.{cand_rolled, cmp_rolled, cond_rolled, differ_rolled, mask_rolled, prim_rolled, sum_rolled, term_rolled, union_rolled}
use Rattle.cw_sound.specs.Statements.Bodies.{Body, Bodies}
use Rattle.cw_sound.specs.Statements.Bodies as bodies
use Rattle.cw_sound.specs.Names.Standing.{FewParameters}
use Rattle.cw_sound.proofs.Need.Nodes.{expression_rolled, condition_rolled, statement_rolled, part_within}
use Rattle.cw_sound.proofs.Need.Rules.{Shallow, ShallowPlace, ShallowTest, Each, lifted, no_argument_small, simple_shallow, logic_shallow, term_shallow, sum_shallow, prim_shallow, all_shallow, any_shallow}
use Rattle.cw_sound.proofs.Need.Calls.{mapped_depths, call_depth, name_shallow, one_shallow, two_shallow, bare_shallow}
use Rattle.cw_sound.proofs.Need.Layers.{expression_is, primary_is, reference_is, BodiesWithin, Kept, form_is, simple_is, block_is, statement_is, declaration_is, procedure_is}
use Rattle.cw_number.specs.declared.numbered.Numbered.TheVariants as numbered

-- ---- words by levels

abbrev primary_words : ℕ → ℕ
primary_words n = suc (72 * n)

abbrev mask_words : ℕ → ℕ
mask_words n = suc (primary_words n)

abbrev union_words : ℕ → ℕ
union_words n = suc (mask_words n)

abbrev differ_words : ℕ → ℕ
differ_words n = suc (union_words n)

abbrev term_words : ℕ → ℕ
term_words n = suc (differ_words n)

abbrev sum_words : ℕ → ℕ
sum_words n = suc (term_words n)

abbrev pub test_words : ℕ → ℕ
test_words n = suc (sum_words n)

-- ---- lists

each_map : {A B : Type 0} (f : A → B) (P : B → Type 0) (xs : List A) → Each (λ x. P (f x)) xs → Each P (map f xs)
each_map f P [] h = tt
each_map f P (x ∷ xs) h = (h.0, each_map f P xs h.1)

pub each_append : {A : Type 0} (P : A → Type 0) (xs ys : List A) → Each P xs → Each P ys → Each P (xs ++ ys)
each_append P [] ys h k = k
each_append P (x ∷ xs) ys h k = (h.0, each_append P xs ys h.1 k)

each_more : {A : Type 0} (P Q : A → Type 0) → ((x : A) → P x → Q x) → (xs : List A) → Each P xs → Each Q xs
each_more P Q f [] h = tt
each_more P Q f (x ∷ xs) h = (f x h.0, each_more P Q f xs h.1)

each_operand : {A B : Type 0} (P : A → Type 0) (us : List A) (os : List B) (rest : List (B × A)) → Each P us → Each (λ x. Unit {0} × P x.1) rest → Each P ((extended (us, os) rest).0)
each_operand P us os [] h k = h
each_operand P us os (x ∷ xs) h k = each_operand P (us ++ x.1 ∷ []) (os ++ x.0 ∷ []) xs (each_append P us (x.1 ∷ []) h (k.0.1, tt)) k.1

each_joined : {X : Type 0} (P : Body → Type 0) (f : X → Bodies) (xs : List X) → Each (λ x. Each P (f x)) xs → Each P (bodies.joined (map (λ z. (z, f z)) xs))
each_joined P f [] h = tt
each_joined P f (x ∷ xs) h = each_append P (f x) (bodies.joined (map (λ z. (z, f z)) xs)) h.0 (each_joined P f xs h.1)

largest_within : (k : ℕ) (ss : List Stmt) → Each (λ s. body_depth s ≤ k) ss → largest (map body_depth ss) ≤ k
largest_within k [] h = omega arith
largest_within k (s ∷ ss) h =
    let a = h.0 in
    let b = largest_within k ss h.1 in
    omega (arith, a, b)

jump_is : (o : Option Numbered) → jump_depth (goal_of o) ≡ 0
jump_is (Some (numbered.Label l)) = refl
jump_is _ = refl

switch_is : (o : Option Numbered) (e : Expr) → jump_depth (switch_of o e) ≡ operand_depth e
switch_is (Some (numbered.Switch s)) e = refl
switch_is _ e = refl

module _ (named : Named) (numbers : Numbers) (few : FewParameters named) where
  -- ---- what holds of each tree

  abbrev ElementShallow : ℕ → RawFelem → Type 0
  ElementShallow k x = element_depth (felem_of named numbers x) ≤ k

  abbrev pub Holds : ℕ → (z : Sort) → Value z → Type 0
  Holds n (a_list z) x = Each (λ y. Holds n z y) x
  Holds n (a_pair z w) x = Holds n z x.0 × Holds n w x.1
  Holds n an_expr x = Shallow (sum_words n) (made.expression_made named numbers x)
  Holds n a_primary x = Shallow (primary_words n) (made.primary_made named numbers x)
  Holds n a_ref x = ShallowPlace (primary_words n) (made.reference_made named numbers x)
  Holds n a_cand x = ShallowTest (test_words n) (made.conjunction_made named numbers x)
  Holds n a_cmp x = ShallowTest (test_words n) (made.comparison_made named numbers x)
  Holds n a_cond x = ShallowTest (test_words n) (made.condition_made named numbers x)
  Holds n a_prim x = Shallow (primary_words n) (made.prim_made named numbers x)
  Holds n a_mask x = Shallow (mask_words n) (made.mask_made named numbers x)
  Holds n a_union x = Shallow (union_words n) (made.union_made named numbers x)
  Holds n a_differ x = Shallow (differ_words n) (made.differ_made named numbers x)
  Holds n a_term x = Shallow (term_words n) (made.term_made named numbers x)
  Holds n a_sum x = Shallow (sum_words n) (made.sum_made named numbers x)
  Holds n a_decl x = BodiesWithin named numbers (test_words n) (bodies.declaration_bodies x)
  Holds n a_form x = Kept named numbers (test_words n) (statements.form_of named numbers x) (bodies.form_bodies x)
  Holds n a_simple x = Kept named numbers (test_words n) (statements.simple_of named numbers x) (bodies.simple_bodies x)
  Holds n a_block x = Kept named numbers (test_words n) (statements.block_of named numbers x) (bodies.block_bodies x)
  Holds n a_stmt x = Kept named numbers (test_words n) (statements.statement_of named numbers x) (bodies.statement_bodies x)
  Holds n a_felem x = ElementShallow (test_words n) x
  Holds n _ x = Unit {0}

  -- ---- expressions

  from_below : (n : ℕ) (m : Made) → Shallow (sum_words n) m → Shallow (primary_words (suc n)) m
  from_below n m h = lifted (sum_words n) (primary_words (suc n)) m (omega arith) h

  at_one : (n : ℕ) → 1 ≤ primary_words n
  at_one n = omega arith

  bracketed : (n : ℕ) (m : Made) → Shallow (sum_words n) m → Shallow (primary_words (suc n)) (made.plainly (m.made false))
  bracketed n m h =
      let l = from_below n m h in
      record { made = λ operand. part_within operand (m.made false) (primary_words (suc n)) (l.made false); handed = no_argument_small }

  locate_shallow : (n : ℕ) (p : Placed) → ShallowPlace (primary_words n) p → Shallow (primary_words (suc n)) (made.simply (locate p.place))
  locate_shallow n p h =
      let d = h.place in
      simple_shallow (primary_words (suc n)) (locate p.place) (subst (λ (x : ℕ). x ≤ primary_words (suc n)) (sym (expression_rolled (node.Locate p.place))) (deeper (address_depth p.place) d))
    where
      deeper : (d : ℕ) → d ≤ primary_words n → d ≤ primary_words (suc n)
      deeper d l = omega (arith, l)

  forced_shallow : (n f : ℕ) (m : Made) → Shallow (sum_words n) m → Shallow (primary_words (suc n)) (made.simply (force f (m.made false)))
  forced_shallow n f m h =
      let l = from_below n m h in
      simple_shallow (primary_words (suc n)) (force f (m.made false)) (subst (λ (x : ℕ). x ≤ primary_words (suc n)) (sym (expression_rolled (node.Force f (m.made false)))) (l.made false))

  called_shallow : (n : ℕ) (g : RawName) (ms : List Made) → Each (Shallow (sum_words n)) ms → Shallow (primary_words (suc n)) (made.primary_step named numbers (layer.Call g ms))
  called_shallow n g ms h =
      let d = call_depth named few numbers (sum_words n) g ms (omega arith) h in
      simple_shallow (primary_words (suc n)) (call (target named numbers g) (arguments named numbers g ms))
      (subst (λ (x : ℕ). x ≤ primary_words (suc n)) (sym (expression_rolled (node.Call (target named numbers g) (arguments named numbers g ms)))) (deep (arguments_depth (map argument_depth (arguments named numbers g ms))) d))
    where
      deep : (d : ℕ) → d ≤ 64 + sum_words n → max 1 d ≤ primary_words (suc n)
      deep d l = omega (arith, l)

  choice_shallow : (n : ℕ) (c : Cond) (x y : Made) → ShallowTest (test_words n) c → Shallow (sum_words n) x → Shallow (sum_words n) y → Shallow (sum_words (suc n)) (made.simply (choice c (x.made false) (y.made false)))
  choice_shallow n c x y h k l =
      let a = k.made false in
      let b = l.made false in
      simple_shallow (sum_words (suc n)) (choice c (x.made false) (y.made false))
      (subst (λ (z : ℕ). z ≤ sum_words (suc n)) (sym (expression_rolled (node.Choice c (x.made false) (y.made false)))) (deep (condition_depth c) (operand_depth (x.made false)) (operand_depth (y.made false)) h a b))
    where
      deep : (c a b : ℕ) → c ≤ test_words n → a ≤ sum_words n → b ≤ sum_words n → max c (max a b) ≤ sum_words (suc n)
      deep c a b g i j = omega (arith, g, i, j)

  sole_shallow : (k : ℕ) (p : Placed) → ShallowPlace k p → Shallow k (made.primary_step named numbers (layer.Ref p))
  sole_shallow k p h = record { made = λ operand. h.value; handed = h.handed }

  place_deeper : (n : ℕ) (k : ℕ) (p : Placed) → k ≤ primary_words (suc n) → ShallowPlace k p → ShallowPlace (primary_words (suc n)) p
  place_deeper n k p l h = record { place = deeper (address_depth p.place) h.place; value = deeper (operand_depth p.value) h.value; handed = h.handed }
    where
      deeper : (d : ℕ) → d ≤ k → d ≤ primary_words (suc n)
      deeper d g = omega (arith, l, g)

  compared : (n : ℕ) (x y : Made) (c : CompareOp) → Shallow (sum_words n) x → Shallow (sum_words n) y → ShallowTest (test_words n) (comparison c (x.made false) (y.made false))
  compared n x y c h k =
      let a = h.made false in
      let b = k.made false in
      subst (λ (z : ℕ). z ≤ test_words n) (sym (condition_rolled (node.Cmp c (x.made false) (y.made false)))) (deep (operand_depth (x.made false)) (operand_depth (y.made false)) a b)
    where
      deep : (a b : ℕ) → a ≤ sum_words n → b ≤ sum_words n → two_depth a b ≤ test_words n
      deep a b g i = omega (arith, g, i)

  -- ---- statements

  -- where no procedure is declared
  alone : (k : ℕ) (s : Stmt) (d : ℕ) → body_depth s ≡ d → d ≤ k → Kept named numbers k s []
  alone k s d e h = record { depth = subst (λ (z : ℕ). z ≤ k) (sym e) h; bodies = tt }

  assigned : (n d r : ℕ) → d ≤ sum_words n → r ≤ primary_words n → two_depth d r ≤ test_words n
  assigned n d r h k = omega (arith, h, k)

  call_statement : (n : ℕ) (g : RawName) (xs : List RawExpr) → Each (λ x. Shallow (sum_words n) (made.expression_made named numbers x)) xs → Kept named numbers (test_words (suc n)) (statements.call_statement named numbers g xs) []
  call_statement n g xs h =
      let ms : List Made = map (made.expression_made named numbers) xs in
      let d = call_depth named few numbers (sum_words n) g ms (omega arith) (each_map (made.expression_made named numbers) (Shallow (sum_words n)) xs h) in
      alone (test_words (suc n)) (statements.call_statement named numbers g xs) (arguments_depth (map argument_depth (arguments named numbers g ms)))
      (statement_rolled (statement.Call (line_of g.at) (target named numbers g) (arguments named numbers g ms)) ∙ ap arguments_depth (mapped_depths (arguments named numbers g ms)))
      (deep (arguments_depth (map argument_depth (arguments named numbers g ms))) d)
    where
      deep : (d : ℕ) → d ≤ 64 + sum_words n → d ≤ test_words (suc n)
      deep d l = omega (arith, l)

  bodies_more : (n : ℕ) (bs : Bodies) → BodiesWithin named numbers (test_words n) bs → BodiesWithin named numbers (test_words (suc n)) bs
  bodies_more n bs h =
      each_more (λ b. body_depth (statements.statement_of named numbers b.statement) ≤ test_words n) (λ b. body_depth (statements.statement_of named numbers b.statement) ≤ test_words (suc n)) (λ b l. deeper (body_depth (statements.statement_of named numbers b.statement)) l) bs h
    where
      deeper : (d : ℕ) → d ≤ test_words n → d ≤ test_words (suc n)
      deeper d g = omega (arith, g)

  kept_more : (n : ℕ) (s : Stmt) (bs : Bodies) → Kept named numbers (test_words n) s bs → Kept named numbers (test_words (suc n)) s bs
  kept_more n s bs h = record { depth = deeper (body_depth s) h.depth; bodies = bodies_more n bs h.bodies }
    where
      deeper : (d : ℕ) → d ≤ test_words n → d ≤ test_words (suc n)
      deeper d g = omega (arith, g)

  marked_depth : (b : Bool) (k : ℕ) (ls : List ℕ) (s : Stmt) → body_depth s ≤ k → body_depth (if b then s else mark ls s) ≤ k
  marked_depth true k ls s h = h
  marked_depth false k ls s h = subst (λ (z : ℕ). z ≤ k) (sym (statement_rolled (statement.Mark ls s))) h

  statement_marked : (k : ℕ) (ns : List RawName) (s : Stmt) → body_depth s ≤ k → body_depth (statements.marked numbers ns s) ≤ k
  statement_marked k ns s h = marked_depth (length ns == 0) k (labels_of numbers ns) s h

  row_depth : (k : ℕ) (ss : List Stmt) → Each (λ s. body_depth s ≤ k) ss → body_depth (statements.row ss) ≤ k
  row_depth k ss h = subst (λ (z : ℕ). z ≤ k) (sym (statement_rolled (statement.Seq ss))) (largest_within k ss h)

  conditional_depth : (n line : ℕ) (c : Cond) (a b : Stmt) → condition_depth c ≤ test_words n → body_depth a ≤ test_words n → body_depth b ≤ test_words n → body_depth (statements.conditional line c a b) ≤ test_words (suc n)
  conditional_depth n line c a b h k l = subst (λ (z : ℕ). z ≤ test_words (suc n)) (sym (statement_rolled (statement.If line c a b))) (deep (condition_depth c) (body_depth a) (body_depth b) h k l)
    where
      deep : (c a b : ℕ) → c ≤ test_words n → a ≤ test_words n → b ≤ test_words n → max c (max a b) ≤ test_words (suc n)
      deep c a b g i j = omega (arith, g, i, j)

  elements_within : (k : ℕ) (xs : List RawFelem) → Each (ElementShallow k) xs → elements_depth (map (felem_of named numbers) xs) ≤ k
  elements_within k [] h = omega arith
  elements_within k (x ∷ xs) h =
      let a = h.0 in
      let b = elements_within k xs h.1 in
      deep (element_depth (felem_of named numbers x)) (elements_depth (map (felem_of named numbers) xs)) a b
    where
      deep : (a b : ℕ) → a ≤ k → b ≤ k → max a b ≤ k
      deep a b g i = omega (arith, g, i)

  repetition_depth : (n line item : ℕ) (p : Placed) (xs : List RawFelem) (s : Stmt) → ShallowPlace (primary_words n) p → Each (ElementShallow (test_words n)) xs → body_depth s ≤ test_words n → body_depth (statements.repetition line item p.place (map (felem_of named numbers) xs) s) ≤ test_words (suc n)
  repetition_depth n line item p xs s h k l =
      subst (λ (z : ℕ). z ≤ test_words (suc n)) (sym (statement_rolled (statement.For line item p.place (map (felem_of named numbers) xs) s)))
      (deep (address_depth p.place) (elements_depth (map (felem_of named numbers) xs)) (body_depth s) h.place (elements_within (test_words n) xs k) l)
    where
      deep : (r e b : ℕ) → r ≤ primary_words n → e ≤ test_words n → b ≤ test_words n → max r (max e b) ≤ test_words (suc n)
      deep r e b g i j = omega (arith, g, i, j)

  one_within : (n d : ℕ) → d ≤ sum_words n → d ≤ test_words n
  one_within n d h = omega (arith, h)

  while_within : (n d c : ℕ) → d ≤ sum_words n → c ≤ test_words n → max d c ≤ test_words n
  while_within n d c h k = omega (arith, h, k)

  next_within : (n d : ℕ) → d ≤ sum_words n → d ≤ test_words (suc n)
  next_within n d h = omega (arith, h)

  step_within : (n a b d : ℕ) → a ≤ sum_words n → b ≤ sum_words n → d ≤ sum_words n → max a (max b d) ≤ test_words n
  step_within n a b d h k l = omega (arith, h, k, l)

  -- ---- operands of one rule

  operands_made : {X O M : Type 0} (P : M → Type 0) (made_of : X → M) (x : X) (rest : List (O × X)) → P (made_of x) → Each (λ z. Unit {0} × P (made_of z.1)) rest → Each P (map made_of (extended (x ∷ [], []) rest).0)
  operands_made P made_of x rest h k = each_map made_of P (extended (x ∷ [], []) rest).0 (each_operand (λ y. P (made_of y)) (x ∷ []) [] rest (h, tt) k)

  operated : {X O M N : Type 0} (P : M → Type 0) (Q : N → Type 0) (of : X → M) (whole : Operands X O → N) (make : List M → List O → N)
      → ((xs : List X) (os : List O) → whole (xs, os) ≡ make (map of xs) os) → ((ms : List M) (os : List O) → Each P ms → Q (make ms os))
      → (x : X) (rest : List (O × X)) → P (of x) → Each (λ z. Unit {0} × P (of z.1)) rest → Q (whole (extended (x ∷ [], []) rest))
  operated P Q of whole make is right x rest h k =
      subst Q (sym (is (extended (x ∷ [], []) rest).0 (extended (x ∷ [], []) rest).1)) (right (map of (extended (x ∷ [], []) rest).0) (extended (x ∷ [], []) rest).1 (operands_made P of x rest h k))

  masks : (n : ℕ) (x : RawPrim) (rest : List (Position × RawPrim)) → Holds n a_prim x → Holds n (a_list (a_pair a_position a_prim)) rest → Holds n a_mask (mask_tree (extended (x ∷ [], []) rest))
  masks n = operated (Shallow (primary_words n)) (Shallow (mask_words n)) (made.prim_made named numbers) (λ ops. made.mask_made named numbers (mask_tree ops)) (λ ms os. logic_of logic_op.Mask ms) (λ xs os. mask_rolled (made_steps named numbers) (record { operands = xs; operators = os })) (λ ms os. logic_shallow logic_op.Mask (primary_words n) ms)

  unions : (n : ℕ) (x : RawMask) (rest : List (Position × RawMask)) → Holds n a_mask x → Holds n (a_list (a_pair a_position a_mask)) rest → Holds n a_union (union_tree (extended (x ∷ [], []) rest))
  unions n = operated (Shallow (mask_words n)) (Shallow (union_words n)) (made.mask_made named numbers) (λ ops. made.union_made named numbers (union_tree ops)) (λ ms os. logic_of logic_op.Union ms) (λ xs os. union_rolled (made_steps named numbers) (record { operands = xs; operators = os })) (λ ms os. logic_shallow logic_op.Union (mask_words n) ms)

  differs : (n : ℕ) (x : RawUnion) (rest : List (Position × RawUnion)) → Holds n a_union x → Holds n (a_list (a_pair a_position a_union)) rest → Holds n a_differ (differ_tree (extended (x ∷ [], []) rest))
  differs n = operated (Shallow (union_words n)) (Shallow (differ_words n)) (made.union_made named numbers) (λ ops. made.differ_made named numbers (differ_tree ops)) (λ ms os. logic_of logic_op.Differ ms) (λ xs os. differ_rolled (made_steps named numbers) (record { operands = xs; operators = os })) (λ ms os. logic_shallow logic_op.Differ (union_words n) ms)

  terms : (n : ℕ) (x : RawDiffer) (rest : List (RawFactorSign × RawDiffer)) → Holds n a_differ x → Holds n (a_list (a_pair a_factor_sign a_differ)) rest → Holds n a_term (term_tree (extended (x ∷ [], []) rest))
  terms n = operated (Shallow (differ_words n)) (Shallow (term_words n)) (made.differ_made named numbers) (λ ops. made.term_made named numbers (term_tree ops)) term_of (λ xs os. term_rolled (made_steps named numbers) (record { operands = xs; operators = os })) (λ ms os. term_shallow (differ_words n) ms os)

  cands : (n : ℕ) (x : RawCmp) (rest : List (Position × RawCmp)) → Holds n a_cmp x → Holds n (a_list (a_pair a_position a_cmp)) rest → Holds n a_cand (cand_tree (extended (x ∷ [], []) rest))
  cands n = operated (ShallowTest (test_words n)) (ShallowTest (test_words n)) (made.comparison_made named numbers) (λ ops. made.conjunction_made named numbers (cand_tree ops)) (λ ms os. all_of ms) (λ xs os. cand_rolled (made_steps named numbers) (record { operands = xs; operators = os })) (λ ms os. all_shallow (test_words n) ms (omega arith))

  conds : (n : ℕ) (x : RawCand) (rest : List (Position × RawCand)) → Holds n a_cand x → Holds n (a_list (a_pair a_position a_cand)) rest → Holds n a_cond (cond_tree (extended (x ∷ [], []) rest))
  conds n = operated (ShallowTest (test_words n)) (ShallowTest (test_words n)) (made.conjunction_made named numbers) (λ ops. made.condition_made named numbers (cond_tree ops)) (λ ms os. any_of ms) (λ xs os. cond_rolled (made_steps named numbers) (record { operands = xs; operators = os })) (λ ms os. any_shallow (test_words n) ms (omega arith))

  sums : (n : ℕ) (sign : Option RawSign) (x : RawTerm) (rest : List (RawSign × RawTerm)) → Holds n a_term x → Holds n (a_list (a_pair a_sign a_term)) rest → Holds n a_sum (sum_tree (more_terms (sign, (x ∷ [], [])) rest))
  sums n sign x rest h k =
      let xs : List RawTerm = (extended (x ∷ [], []) rest).0 in
      let os : List RawSign = (extended (x ∷ [], []) rest).1 in
      let parts = operands_made (Shallow (term_words n)) (made.term_made named numbers) x rest h k in
      subst (Shallow (sum_words n)) (sym (sum_rolled (made_steps named numbers) (record { sign = sign; operands = xs; operators = os })))
      (sum_shallow (term_words n) sign (map (made.term_made named numbers) xs) os parts)

  prims : (n : ℕ) (bits : List RawBits) (x : RawPrimary) → Holds n a_primary x → Holds n a_prim (roll-RawPrim (record { bits = bits; primary = x }))
  prims n bits x h =
      subst (Shallow (primary_words n)) (sym (prim_rolled (made_steps named numbers) (record { bits = bits; primary = x })))
      (prim_shallow (primary_words n) bits (made.primary_made named numbers x) h)

  comparisons : (n : ℕ) (x y : RawSum) (op : RawCompareSign) → Holds n a_sum x → Holds n a_sum y → Holds n a_cmp (comparison_tree x op y)
  comparisons n x y op h k =
      subst (ShallowTest (test_words n)) (sym (cmp_rolled (made_steps named numbers) (record { left = x; operator = op; right = y })))
      (compared n (made.sum_made named numbers x) (made.sum_made named numbers y) (comparator op.op) h k)

  leaf : (n : ℕ) (e : Expr) → operand_depth e ≡ 1 → Shallow (primary_words n) (made.simply e)
  leaf n e is = simple_shallow (primary_words n) e (subst (λ (d : ℕ). d ≤ primary_words n) (sym is) (at_one n))

  -- ---- blocks

  blocks : (n : ℕ) (at : Position) (ds : List RawDecl) (ss : List RawStmt) → Holds n (a_list a_decl) ds → Holds n (a_list a_stmt) ss → Holds (suc n) a_block (roll-RawBlock (record { at = at; decls = ds; stmts = ss }))
  blocks n at ds ss h k =
      let P : Body → Type 0 = λ b. body_depth (statements.statement_of named numbers b.statement) ≤ test_words n in
      let whole = each_append P (bodies.joined (map (λ z. (z, bodies.declaration_bodies z)) ds)) (bodies.joined (map (λ z. (z, bodies.statement_bodies z)) ss))
      (each_joined P bodies.declaration_bodies ds h)
      (each_joined P bodies.statement_bodies ss (each_more (λ s. Kept named numbers (test_words n) (statements.statement_of named numbers s) (bodies.statement_bodies s)) (λ s. Each P (bodies.statement_bodies s)) (λ s g. g.bodies) ss k)) in
      let depths = each_map (statements.statement_of named numbers) (λ (s : Stmt). body_depth s ≤ test_words n) ss (each_more (λ s. Kept named numbers (test_words n) (statements.statement_of named numbers s) (bodies.statement_bodies s)) (λ s. body_depth (statements.statement_of named numbers s) ≤ test_words n) (λ s g. g.depth) ss k) in
      block_is named numbers (test_words (suc n)) (record { at = at; decls = ds; stmts = ss })
      (kept_more n (statements.row (map (statements.statement_of named numbers) ss)) (bodies.joined (map (λ z. (z, bodies.declaration_bodies z)) ds) ++ bodies.joined (map (λ z. (z, bodies.statement_bodies z)) ss))
      (record { depth = row_depth (test_words n) (map (statements.statement_of named numbers) ss) depths; bodies = whole }))

  -- ---- so of each tree

  pub holds : {n : ℕ} {p : Bool} {z : Sort} {x : Value z} {a : List ℕ} → IsNormal n p z x a → Holds n z x
  holds normal.no_more = tt
  holds (normal.one_more h k) = (holds h, holds k)
  holds (normal.both h k) = (holds h, holds k)
  holds (normal.number {n = n} {x = x} h) = primary_is named numbers (primary_words n) (primary_tree.Number x) (layer.Number x) (primary_tree.rolls-Number x) (leaf n (number x.number) (expression_rolled (node.Num x.number)))
  holds (normal.octal {n = n} {x = x} h) =
      let z = signed (within 65535 (octal_word x.number.number)) in
      primary_is named numbers (primary_words n) (primary_tree.Octal x) (layer.Octal x) (primary_tree.rolls-Octal x) (leaf n (constant z) (expression_rolled (node.Const z)))
  holds (normal.literal {n = n} {x = x} h) = primary_is named numbers (primary_words n) (primary_tree.Literal x) (layer.Literal x) (primary_tree.rolls-Literal x) (leaf n (constant (signed x.byte)) (expression_rolled (node.Const (signed x.byte))))
  holds (normal.string {n = n} at cs) =
      primary_is named numbers (primary_words n) (primary_tree.Text at cs) (layer.Text at cs) (primary_tree.rolls-Text at cs) (leaf n (string (item_here numbers at.token)) (expression_rolled (node.Text (item_here numbers at.token))))
  holds (normal.location {n = n} at {x = x} h) =
      primary_is named numbers (primary_words (suc n)) (primary_tree.Location at x) (layer.Location at x) (primary_tree.rolls-Location at x) (locate_shallow n (made.reference_made named numbers x) (holds h))
  holds (normal.forced {n = n} {t = z} {x = x} h k) =
      primary_is named numbers (primary_words (suc n)) (primary_tree.Forced z x) (layer.Forced z x) (primary_tree.rolls-Forced z x) (forced_shallow n (fraction_of z) (made.expression_made named numbers x) (holds k))
  holds (normal.bracket {n = n} at {x = x} h) =
      primary_is named numbers (primary_words (suc n)) (primary_tree.Bracket at x) (layer.Bracket at x) (primary_tree.rolls-Bracket at x) (bracketed n (made.expression_made named numbers x) (holds h))
  holds (normal.referred {n = n} {x = x} h) =
      primary_is named numbers (primary_words n) (primary_tree.Ref x) (layer.Ref x) (primary_tree.rolls-Ref x) (sole_shallow (primary_words n) (made.reference_made named numbers x) (holds h))
  holds (normal.call {n = n} {f = g} {x = x} {xs = xs} h k) =
      primary_is named numbers (primary_words (suc n)) (primary_tree.Call g (x ∷ xs)) (layer.Call g (x ∷ xs)) (primary_tree.rolls-Call g (x ∷ xs))
      (called_shallow n g (map (made.expression_made named numbers) (x ∷ xs)) (each_map (made.expression_made named numbers) (Shallow (sum_words n)) (x ∷ xs) (holds k)))
  holds (normal.named {n = n} {f = g} h) = reference_is named numbers (primary_words n) (ref_tree.Name g) (layer.Name g) (ref_tree.rolls-Name g) (name_shallow named numbers (primary_words n) g (at_one n))
  holds (normal.one_index {n = n} {f = g} {x = x} h k) =
      let m : Made = made.expression_made named numbers x in
      reference_is named numbers (primary_words (suc n)) (ref_tree.One g x) (layer.One g x) (ref_tree.rolls-One g x) (one_shallow named numbers (primary_words (suc n)) g m (from_below n m (holds k)))
  holds (normal.two_indexes {n = n} {f = g} {x = x} {y = y} h k l) =
      let m : Made = made.expression_made named numbers x in
      let o : Made = made.expression_made named numbers y in
      reference_is named numbers (primary_words (suc n)) (ref_tree.Two g x y) (layer.Two g x y) (ref_tree.rolls-Two g x y)
      (place_deeper n (test_words n) (made.reference_step named numbers (layer.Two g m o)) (omega arith) (two_shallow named numbers (sum_words n) g m o (holds k) (holds l)))
  holds (normal.bare {n = n} at {x = x} h) =
      let m : Made = made.expression_made named numbers x in
      reference_is named numbers (primary_words (suc n)) (ref_tree.Bare at x) (layer.Bare at x) (ref_tree.rolls-Bare at x) (bare_shallow named numbers (primary_words (suc n)) at m (from_below n m (holds h)))
  holds (normal.is_prim {n = n} {bits = bits} {x = x} h k q) = prims n bits x (holds k)
  holds (normal.is_mask {n = n} {x = x} {rest = rest} h q k) = masks n x rest (holds h) (holds k)
  holds (normal.is_union {n = n} {x = x} {rest = rest} h q k) = unions n x rest (holds h) (holds k)
  holds (normal.is_differ {n = n} {x = x} {rest = rest} h q k) = differs n x rest (holds h) (holds k)
  holds (normal.is_term {n = n} {x = x} {rest = rest} h q k) = terms n x rest (holds h) (holds k)
  holds (normal.plain_sum {n = n} {x = x} {rest = rest} h q k) = sums n None x rest (holds h) (holds k)
  holds (normal.signed_sum {n = n} {sign = sign} {x = x} {rest = rest} o h k) = sums n (Some sign) x rest (holds h) (holds k)
  holds (normal.is_cmp {n = n} {x = x} {y = y} {op = op} h o k) = comparisons n x y op (holds h) (holds k)
  holds (normal.is_cand {n = n} {x = x} {rest = rest} h k) = cands n x rest (holds h) (holds k)
  holds (normal.is_cond {n = n} {x = x} {rest = rest} h k) = conds n x rest (holds h) (holds k)
  holds (normal.sum_expr {n = n} {x = x} h q) = expression_is named numbers (sum_words n) (expr_tree.Sum x) (layer.Sum x) (expr_tree.rolls-Sum x) (holds h)
  holds (normal.choice {n = n} at {c = c} {x = x} {y = y} h k l) =
      expression_is named numbers (sum_words (suc n)) (expr_tree.Choice at c x y) (layer.Choice at c x y) (expr_tree.rolls-Choice at c x y)
      (choice_shallow n (made.condition_made named numbers c) (made.expression_made named numbers x) (made.expression_made named numbers y) (holds h) (holds k) (holds l))
  holds (normal.no_statement {n = n}) = simple_is named numbers (test_words n) simple_tree.Empty shape.Empty simple_tree.rolls-Empty (alone (test_words n) (statements.row []) 0 (statement_rolled (statement.Seq [])) (omega arith))
  holds (normal.assignment {n = n} {r = r} {x = x} h k) =
      let e : Expr = expression_of named numbers x in
      let p : Ref = reference_of named numbers r in
      simple_is named numbers (test_words n) (simple_tree.Assign r x) (shape.Assign r x) (simple_tree.rolls-Assign r x)
      (alone (test_words n) (statements.assignment named numbers r x) (two_depth (operand_depth e) (address_depth p)) (statement_rolled (statement.Put (line_of (ref_position r)) p e)) (assigned n (operand_depth e) (address_depth p) ((holds k).made false) (holds h).place))
  holds (normal.bits_assignment {n = n} {z = z} {r = r} {x = x} o h k) =
      let e : Expr = expression_of named numbers x in
      let p : Ref = reference_of named numbers r in
      simple_is named numbers (test_words n) (simple_tree.AssignBits z r x) (shape.AssignBits z r x) (simple_tree.rolls-AssignBits z r x)
      (alone (test_words n) (statements.bits_assignment named numbers z r x) (two_depth (operand_depth e) (address_depth p))
      (statement_rolled (statement.PutBits (line_of z.at) (within 255 (place_amount z.size.first)) (within 255 (place_amount z.size.second)) p e)) (assigned n (operand_depth e) (address_depth p) ((holds k).made false) (holds h).place))
  holds (normal.jump_to {n = n} at {f = g} h) =
      simple_is named numbers (test_words n) (simple_tree.Goto at g) (shape.Goto at g) (simple_tree.rolls-Goto at g)
      (alone (test_words n) (statements.jump named numbers at g) 0 (statement_rolled (statement.Go (line_of at) (goal_of (number_of named numbers g))) ∙ jump_is (number_of named numbers g)) (omega arith))
  holds (normal.jump_through {n = n} at {f = g} {x = x} h k) =
      let e : Expr = expression_of named numbers x in
      simple_is named numbers (test_words (suc n)) (simple_tree.GotoSwitch at g x) (shape.GotoSwitch at g x) (simple_tree.rolls-GotoSwitch at g x)
      (alone (test_words (suc n)) (statements.switch_jump named numbers at g x) (operand_depth e) (statement_rolled (statement.Go (line_of at) (switch_of (number_of named numbers g) e)) ∙ switch_is (number_of named numbers g) e) (next_within n (operand_depth e) ((holds k).made false)))
  holds (normal.called_alone {n = n} {f = g} h) =
      simple_is named numbers (test_words n) (simple_tree.Call g []) (shape.Call g []) (simple_tree.rolls-Call g []) (alone (test_words n) (statements.call_statement named numbers g []) 0 (statement_rolled (statement.Call (line_of g.at) (target named numbers g) [])) (omega arith))
  holds (normal.called_with {n = n} {f = g} {x = x} {xs = xs} h k) =
      simple_is named numbers (test_words (suc n)) (simple_tree.Call g (x ∷ xs)) (shape.Call g (x ∷ xs)) (simple_tree.rolls-Call g (x ∷ xs)) (call_statement n g (x ∷ xs) (holds k))
  holds (normal.is_answer {n = n} at {x = x} h) =
      let e : Expr = expression_of named numbers x in
      simple_is named numbers (test_words n) (simple_tree.Answer at x) (shape.Answer at x) (simple_tree.rolls-Answer at x)
      (alone (test_words n) (statements.answer named numbers at x) (operand_depth e) (statement_rolled (statement.Answer (line_of at) e)) (one_within n (operand_depth e) ((holds h).made false)))
  holds (normal.inner_block {n = n} {x = x} h) = simple_is named numbers (test_words n) (simple_tree.Block x) (shape.Block x) (simple_tree.rolls-Block x) (holds h)
  holds (normal.is_block {n = n} at {ds = ds} {x = x} {xs = xs} h k) = blocks n at ds (x ∷ xs) (holds h) (holds k)
  holds (normal.is_stmt {n = n} {ls = ls} {x = x} h k) =
      let g = holds k in
      statement_is named numbers (test_words n) (record { labels = ls; form = x }) (record { depth = statement_marked (test_words n) ls (statements.form_of named numbers x) g.depth; bodies = g.bodies })
  holds (normal.simple_form {n = n} {x = x} h) = form_is named numbers (test_words n) (form_tree.Simple x) (shape.Simple x) (form_tree.rolls-Simple x) (holds h)
  holds (normal.if_form {n = n} at {t = c} {ls = ls} {x = x} h l k) =
      let g = holds k in
      let s : Stmt = statements.simple_of named numbers x in
      form_is named numbers (test_words (suc n)) (form_tree.If at c ls x None) (shape.If at c ls x None) (form_tree.rolls-If at c ls x None)
      (record {
        depth = conditional_depth n (line_of at) (made.condition_made named numbers c) (statements.marked numbers ls s) (statements.row []) (holds h) (statement_marked (test_words n) ls s g.depth) (row_depth (test_words n) [] tt);
        bodies = bodies_more n (bodies.simple_bodies x ++ []) (each_append (λ b. body_depth (statements.statement_of named numbers b.statement) ≤ test_words n) (bodies.simple_bodies x) [] g.bodies tt);
      })
  holds (normal.else_form {n = n} at {t = c} {ls = ls} {x = x} {y = y} h l k m) =
      let g = holds k in
      let o = kept_more n (statements.statement_of named numbers y) (bodies.statement_bodies y) (holds m) in
      let s : Stmt = statements.simple_of named numbers x in
      form_is named numbers (test_words (suc (suc n))) (form_tree.If at c ls x (Some y)) (shape.If at c ls x (Some y)) (form_tree.rolls-If at c ls x (Some y))
      (record {
        depth = conditional_depth (suc n) (line_of at) (made.condition_made named numbers c) (statements.marked numbers ls s) (statements.statement_of named numbers y) (holds h) (statement_marked (test_words (suc n)) ls s g.depth) o.depth;
        bodies = bodies_more (suc n) (bodies.simple_bodies x ++ bodies.statement_bodies y) (each_append (λ b. body_depth (statements.statement_of named numbers b.statement) ≤ test_words (suc n)) (bodies.simple_bodies x) (bodies.statement_bodies y) g.bodies o.bodies);
      })
  holds (normal.for_form {n = n} at {r = r} {x = x} {xs = xs} {y = y} h k l) =
      let g = holds l in
      form_is named numbers (test_words (suc n)) (form_tree.For at r (x ∷ xs) y) (shape.For at r (x ∷ xs) y) (form_tree.rolls-For at r (x ∷ xs) y)
      (record {
        depth = repetition_depth n (line_of at) (item_here numbers at.token) (made.reference_made named numbers r) (x ∷ xs) (statements.statement_of named numbers y) (holds h) (holds k) g.depth;
        bodies = bodies_more n (bodies.statement_bodies y) g.bodies;
      })
  holds (normal.one_felem {n = n} {x = x} h) = one_within n (operand_depth (expression_of named numbers x)) ((holds h).made false)
  holds (normal.while_felem {n = n} {x = x} {t = c} h k) = while_within n (operand_depth (expression_of named numbers x)) (condition_depth (made.condition_made named numbers c)) ((holds h).made false) (holds k)
  holds (normal.step_felem {n = n} {x = x} {y = y} {z = z} h k l) =
      step_within n (operand_depth (expression_of named numbers x)) (operand_depth (expression_of named numbers y)) (operand_depth (expression_of named numbers z)) ((holds h).made false) ((holds k).made false) ((holds l).made false)
  holds (normal.data_decl {n = n} {x = x} h) = declaration_is named numbers (test_words n) (decl_tree.Data x) (shape.Data x) (decl_tree.rolls-Data x) tt
  holds (normal.overlay_decl {n = n} at {x = x} {y = y} h k) = declaration_is named numbers (test_words n) (decl_tree.Overlay at x y) (shape.Overlay at x y) (decl_tree.rolls-Overlay at x y) tt
  holds (normal.switch_decl {n = n} at {f = g} {x = x} {xs = xs} h k) = declaration_is named numbers (test_words n) (decl_tree.Switch at g (x ∷ xs)) (shape.Switch at g (x ∷ xs)) (decl_tree.rolls-Switch at g (x ∷ xs)) tt
  holds (normal.proc_decl {n = n} {o = o} {t = t} {f = g} {xs = xs} {x = x} ko kt kf kx y) =
      declaration_is named numbers (test_words (suc n)) (decl_tree.Proc (proc_tree o t g xs x)) (shape.Proc (proc_tree o t g xs x)) (decl_tree.rolls-Proc (proc_tree o t g xs x))
      (procedure_is named numbers (test_words (suc n)) (record { answer = o; tag = t; name = g; params = xs; body = x }) (kept_more n (statements.statement_of named numbers x) (bodies.statement_bodies x) (holds y)))
  holds _ = tt
