-- What holds of each tree in normal form, where it holds of each shape, if it holds of the parts: of what is folded over expressions and over statements.
use Rattle.std.proofs.Common.{◌≡◌, ℕ, suc, Bool, true, false, List, [], ◌∷◌, ◌++◌, length, map, Option, Some, None, refl, sym, ap, subst, ◌∙◌}
use Rattle.cw_tree.specs.declared.leaf.Position.{Position}
use Rattle.cw_tree.specs.declared.leaf.RawName.{RawName}
use Rattle.cw_tree.specs.declared.leaf.RawNumber.{RawNumber}
use Rattle.cw_tree.specs.declared.leaf.RawOctal.{RawOctal}
use Rattle.cw_tree.specs.declared.leaf.RawLiteral.{RawLiteral}
use Rattle.cw_tree.specs.declared.leaf.RawType.{RawType}
use Rattle.cw_tree.specs.declared.leaf.RawSign.{RawSign}
use Rattle.cw_tree.specs.declared.leaf.RawFactorSign.{RawFactorSign}
use Rattle.cw_tree.specs.declared.leaf.RawCompareSign.{RawCompareSign}
use Rattle.cw_tree.specs.declared.expression.RawBits.{RawBits}
use Rattle.cw_tree.specs.declared.expression.RawExpr.{RawExpr}
use Rattle.cw_tree.specs.declared.expression.RawPrimary.{RawPrimary}
use Rattle.cw_tree.specs.declared.expression.RawRef.{RawRef}
use Rattle.cw_tree.specs.declared.expression.RawCand.{RawCand}
use Rattle.cw_tree.specs.declared.expression.RawCmp.{RawCmp}
use Rattle.cw_tree.specs.declared.expression.RawCond.{RawCond}
use Rattle.cw_tree.specs.declared.expression.RawDiffer.{RawDiffer}
use Rattle.cw_tree.specs.declared.expression.RawMask.{RawMask}
use Rattle.cw_tree.specs.declared.expression.RawPrim.{RawPrim, roll-RawPrim}
use Rattle.cw_tree.specs.declared.expression.RawSum.{RawSum}
use Rattle.cw_tree.specs.declared.expression.RawTerm.{RawTerm}
use Rattle.cw_tree.specs.declared.expression.RawUnion.{RawUnion}
use Rattle.cw_tree.specs.declared.expression.RawExpr.TheVariants as expr_tree
use Rattle.cw_tree.specs.declared.expression.RawPrimary.TheVariants as primary_tree
use Rattle.cw_tree.specs.declared.expression.RawRef.TheVariants as ref_tree
use Rattle.cw_tree.specs.declared.expression.RawExpr.TheOpen as layer
use Rattle.cw_tree.specs.declared.statement.RawDecl.{RawDecl}
use Rattle.cw_tree.specs.declared.statement.RawForm.{RawForm}
use Rattle.cw_tree.specs.declared.statement.RawSimple.{RawSimple}
use Rattle.cw_tree.specs.declared.statement.RawBlock.{RawBlock, roll-RawBlock}
use Rattle.cw_tree.specs.declared.statement.RawProc.{RawProc}
use Rattle.cw_tree.specs.declared.statement.RawStmt.{RawStmt}
use Rattle.cw_tree.specs.declared.statement.RawForm.TheVariants as form_tree
use Rattle.cw_tree.specs.declared.statement.RawSimple.TheVariants as simple_tree
use Rattle.cw_tree.specs.declared.statement.RawDecl.TheVariants as decl_tree
use Rattle.cw_tree.specs.declared.statement.RawFelem.{RawFelem}
use Rattle.cw_tree.specs.declared.statement.RawFelem.TheVariants as felem_tree
use Rattle.cw_tree.specs.declared.statement.RawPtag.{RawPtag}
use Rattle.cw_tree.specs.declared.statement.RawParam.{RawParam}
use Rattle.cw_tree.specs.declared.statement.RawDecl.TheOpen as shape
use Rattle.cw_tree.specs.declared.items.RawData.{RawData}
use Rattle.cw_tree.specs.declared.items.RawBase.{RawBase}
use Rattle.cw_grammar.specs.Grammar.{Sort, a_pair, a_list, an_option, a_name, a_literal, a_type, a_data, a_base, a_stmt, a_form, a_simple, a_felem, a_block, a_decl, a_ptag, a_param, Value}
use Rattle.cw_grammar.specs.Trees.{extended, mask_tree, union_tree, differ_tree, term_tree, cand_tree, cond_tree, comparison_tree, sum_tree, more_terms}
use Rattle.cw_grammar.specs.Statements.{stmt_tree, proc_tree}
use Rattle.cw_derived.specs.Marks.{mark, Within}
use Rattle.cw_derived.specs.NormalForm as normal
use Rattle.cw_derived.specs.NormalForm.{IsNormal}
use Rattle.cw_derived.proofs.Withins.{all_within, none_within, join, beyond}
use Rattle.cw_tree.proofs.Expressions.{of_expression, of_primary, of_reference, of_conjunction, of_comparison, of_condition, of_differ, of_mask, of_prim, of_sum, of_term, of_union}
use Rattle.cw_tree.proofs.Statements.{of_declaration, of_form, of_simple, of_block, of_procedure, of_statement}
use Rattle.cw_tokens.proofs.Passes.{Pass, cand_rolled, cmp_rolled, cond_rolled, differ_rolled, expr_rolled, mask_rolled, prim_rolled, primary_rolled, ref_rolled, sum_rolled, term_rolled, union_rolled}
use Rattle.cw_sound.proofs.Statements.Passes.{Pass as StatementPass, rolls}
use Rattle.cw_sound.proofs.Trees.Many.{Many, none, more, PairOf, pair, many_map, gathered, evenly, same_lengths}
use Rattle.cw_sound.proofs.Kept.{Ask, nothing, holds as asks, Asked, of_expressions}
use Rattle.cw_sound.proofs.Expressions.Passes.{related}

-- ---- what holds of each shape of an expression

pub record Closed (C : Type 0) (s : Pass C) (R : ℕ → C → List ℕ → Type 0) : Type 0 where
  pub wider : {n : ℕ} {c : C} {a b : List ℕ} → Within a b → R n c a → R n c b
  pub deeper : {n : ℕ} {c : C} {a : List ℕ} → R n c a → R (suc n) c a
  pub number : (n : ℕ) (x : RawNumber) → R n (s.primary (layer.Number x)) []
  pub octal : (n : ℕ) (x : RawOctal) → R n (s.primary (layer.Octal x)) []
  pub literal : {n : ℕ} {p : Bool} {x : RawLiteral} {a : List ℕ} → IsNormal n p a_literal x a → R n (s.primary (layer.Literal x)) []
  pub string : (n : ℕ) (at : Position) (cs : List ℕ) → R n (s.primary (layer.Text at cs)) (mark at ∷ [])
  pub location : {n : ℕ} (at : Position) {c : C} {a : List ℕ} → R n c a → R n (s.primary (layer.Location at c)) a
  pub forced : {n : ℕ} (t : RawType) {c : C} {a : List ℕ} → R n c a → R n (s.primary (layer.Forced t c)) a
  pub bracket : {n : ℕ} (at : Position) {c : C} {a : List ℕ} → R n c a → R n (s.primary (layer.Bracket at c)) a
  pub referred : {n : ℕ} {c : C} {a : List ℕ} → R n c a → R n (s.primary (layer.Ref c)) a
  pub call : {n : ℕ} (f : RawName) {cs : List C} {a : List ℕ} → Many C (R n) cs a → R n (s.primary (layer.Call f cs)) (mark f.at ∷ a)
  pub named : (n : ℕ) (f : RawName) → R n (s.reference (layer.Name f)) (mark f.at ∷ [])
  pub one_index : {n : ℕ} (f : RawName) {c : C} {a : List ℕ} → R n c a → R n (s.reference (layer.One f c)) (mark f.at ∷ a)
  pub two_indexes : {n : ℕ} (f : RawName) {c d : C} {a b : List ℕ} → R n c a → R n d b → R n (s.reference (layer.Two f c d)) (mark f.at ∷ (a ++ b))
  pub bare : {n : ℕ} (at : Position) {c : C} {a : List ℕ} → R n c a → R n (s.reference (layer.Bare at c)) a
  pub prim : {n : ℕ} (bits : List RawBits) {c : C} {a : List ℕ} → R n c a → R n (s.prim (record { bits = bits; primary = c })) a
  pub mask : {n : ℕ} (os : List Position) {cs : List C} {a : List ℕ} → Many C (R n) cs a → R n (s.mask (record { operands = cs; operators = os })) a
  pub union : {n : ℕ} (os : List Position) {cs : List C} {a : List ℕ} → Many C (R n) cs a → R n (s.union (record { operands = cs; operators = os })) a
  pub differ : {n : ℕ} (os : List Position) {cs : List C} {a : List ℕ} → Many C (R n) cs a → R n (s.differ (record { operands = cs; operators = os })) a
  pub conjunction : {n : ℕ} (os : List Position) {cs : List C} {a : List ℕ} → Many C (R n) cs a → R n (s.conjunction (record { operands = cs; operators = os })) a
  pub condition : {n : ℕ} (os : List Position) {cs : List C} {a : List ℕ} → Many C (R n) cs a → R n (s.condition (record { operands = cs; operators = os })) a
  pub term : {n : ℕ} (os : List RawFactorSign) {cs : List C} {a : List ℕ} → length cs ≡ suc (length os) → Many C (R n) cs a → R n (s.term (record { operands = cs; operators = os })) a
  pub sum : {n : ℕ} (sign : Option RawSign) (os : List RawSign) {cs : List C} {a : List ℕ} → length cs ≡ suc (length os) → Many C (R n) cs a → R n (s.sum (record { sign = sign; operands = cs; operators = os })) a
  pub comparison : {n : ℕ} (op : RawCompareSign) {c d : C} {a b : List ℕ} → R n c a → R n d b → R n (s.comparison (record { left = c; operator = op; right = d })) (a ++ b)
  pub sole : {n : ℕ} {c : C} {a : List ℕ} → R n c a → R n (s.expression (layer.Sum c)) a
  pub choice : {n : ℕ} (at : Position) {c d e : C} {a b g : List ℕ} → R n c a → R n d b → R n e g → R (suc n) (s.expression (layer.Choice at c d e)) (a ++ (b ++ g))

-- ---- what holds of each shape of a statement

pub data Element (C : Type 0) (s : Pass C) (R : C → List ℕ → Type 0) : RawFelem → List ℕ → Type 0 where
  one : {x : RawExpr} {a : List ℕ} → R (of_expression s x) a → Element C s R (felem_tree.One x) a
  while : {x : RawExpr} {c : RawCond} {a b : List ℕ} → R (of_expression s x) a → R (of_condition s c) b → Element C s R (felem_tree.While x c) (a ++ b)
  step : {x y z : RawExpr} {a b c : List ℕ} → R (of_expression s x) a → R (of_expression s y) b → R (of_expression s z) c → Element C s R (felem_tree.Step x y z) (a ++ (b ++ c))

pub record StatementsClosed (C : Type 0) (s : Pass C) (R : ℕ → C → List ℕ → Type 0) (D B : Type 0) (t : StatementPass D B) (S : ℕ → Bool → D → List ℕ → Type 0) (K : ℕ → Bool → B → List ℕ → Type 0) : Type 0 where
  pub wider : {n : ℕ} {p : Bool} {c : D} {a b : List ℕ} → Within a b → S n p c a → S n p c b
  pub deeper : {n : ℕ} {p : Bool} {c : D} {a : List ℕ} → S n p c a → S (suc n) p c a
  pub block_wider : {n : ℕ} {p : Bool} {c : B} {a b : List ℕ} → Within a b → K n p c a → K n p c b
  pub block_deeper : {n : ℕ} {p : Bool} {c : B} {a : List ℕ} → K n p c a → K (suc n) p c a
  pub empty : (n : ℕ) (p : Bool) → S n p (t.simple shape.Empty) []
  pub assign : {n : ℕ} {p : Bool} {r : RawRef} {x : RawExpr} {a b : List ℕ} → R n (of_reference s r) a → R n (of_expression s x) b → S n p (t.simple (shape.Assign r x)) (a ++ b)
  pub assign_bits : {n : ℕ} {p : Bool} (z : RawBits) {r : RawRef} {x : RawExpr} {a b : List ℕ} → R n (of_reference s r) a → R n (of_expression s x) b → S n p (t.simple (shape.AssignBits z r x)) (a ++ b)
  pub jump : (n : ℕ) (p : Bool) (at : Position) (f : RawName) → S n p (t.simple (shape.Goto at f)) (mark f.at ∷ [])
  pub jump_through : {n : ℕ} {p : Bool} (at : Position) (f : RawName) {x : RawExpr} {a : List ℕ} → R n (of_expression s x) a → S n p (t.simple (shape.GotoSwitch at f x)) (mark f.at ∷ a)
  pub called : {n : ℕ} {p : Bool} (f : RawName) {xs : List RawExpr} {a : List ℕ} → Many RawExpr (λ x. R n (of_expression s x)) xs a → S n p (t.simple (shape.Call f xs)) (mark f.at ∷ a)
  pub answer : {n : ℕ} {p : Bool} (at : Position) {x : RawExpr} {a : List ℕ} → R n (of_expression s x) a → S n p (t.simple (shape.Answer at x)) (mark at ∷ a)
  pub inner_block : {n : ℕ} {p : Bool} {b : B} {a : List ℕ} → K n p b a → S n p (t.simple (shape.Block b)) a
  pub whole_block : {n : ℕ} {p : Bool} (at : Position) {ds ss : List D} {a b : List ℕ} → Many D (S n p) ds a → Many D (S n p) ss b → K n p (t.block (record { at = at; decls = ds; stmts = ss })) (a ++ b)
  pub labelled : {n : ℕ} {p : Bool} {ls : List RawName} {f : D} {a b : List ℕ} → IsNormal n p (a_list a_name) ls a → S n p f b → S n p (t.statement (record { labels = ls; form = f })) (a ++ b)
  pub simple : {n : ℕ} {p : Bool} {x : D} {a : List ℕ} → S n p x a → S n p (t.form (shape.Simple x)) a
  pub if_alone : {n : ℕ} {p : Bool} (at : Position) {c : RawCond} {ls : List RawName} {x : D} {a b d : List ℕ} → R n (of_condition s c) a → IsNormal n p (a_list a_name) ls b → S n p x d → S (suc n) p (t.form (shape.If at c ls x None)) (a ++ (b ++ d))
  pub if_else : {n : ℕ} {p : Bool} (at : Position) {c : RawCond} {ls : List RawName} {x y : D} {a b d e : List ℕ} → R n (of_condition s c) a → IsNormal n p (a_list a_name) ls b → S n p x d → S n p y e → S (suc n) p (t.form (shape.If at c ls x (Some y))) (a ++ ((b ++ d) ++ e))
  pub loop : {n : ℕ} {p : Bool} (at : Position) {r : RawRef} {es : List RawFelem} {y : D} {a b d : List ℕ} → R n (of_reference s r) a → Many RawFelem (Element C s (R n)) es b → S n p y d → S (suc n) p (t.form (shape.For at r es y)) (mark at ∷ (a ++ (b ++ d)))
  pub data_declared : {n : ℕ} {p : Bool} {x : RawData} {a : List ℕ} → IsNormal n p a_data x a → S n p (t.declaration (shape.Data x)) a
  pub overlay : {n : ℕ} {p : Bool} (at : Position) {x : RawBase} {y : RawData} {a b : List ℕ} → IsNormal n p a_base x a → IsNormal n p a_data y b → S n p (t.declaration (shape.Overlay at x y)) (a ++ b)
  pub switch : {n : ℕ} {p : Bool} (at : Position) {f : RawName} {xs : List RawName} {a b : List ℕ} → IsNormal n p a_name f a → IsNormal n p (a_list a_name) xs b → S n p (t.declaration (shape.Switch at f xs)) (a ++ b)
  pub procedure : {n : ℕ} {o : Option RawType} {g : RawPtag} {f : RawName} {xs : List RawParam} {y : D} {a b c d e : List ℕ} → IsNormal (suc n) false (an_option a_type) o a → IsNormal (suc n) false a_ptag g b → IsNormal (suc n) false a_name f c → IsNormal (suc n) false (a_list a_param) xs d → S n true y e
      → S (suc n) false (t.declaration (shape.Proc (t.procedure (record { answer = o; tag = g; name = f; params = xs; body = y })))) (a ++ (b ++ (c ++ (d ++ e))))

-- ---- so of each tree

module _ (C : Type 0) (s : Pass C) (R : ℕ → C → List ℕ → Type 0) (D B : Type 0) (t : StatementPass D B) (S : ℕ → Bool → D → List ℕ → Type 0) (K : ℕ → Bool → B → List ℕ → Type 0) where
  -- of trees that are no expressions
  abbrev others : ℕ → Bool → List ℕ → (z : Sort) → Ask (Value z)
  others n p a a_decl = asks (λ x. S n p (of_declaration t x) a)
  others n p a a_form = asks (λ x. S n p (of_form t x) a)
  others n p a a_simple = asks (λ x. S n p (of_simple t x) a)
  others n p a a_block = asks (λ x. K n p (of_block t x) a)
  others n p a a_stmt = asks (λ x. S n p (of_statement t x) a)
  others n p a a_felem = asks (λ x. Element C s (R n) x a)
  others n p a _ = nothing

  abbrev pub Holds : ℕ → Bool → (z : Sort) → Value z → List ℕ → Type 0
  Holds n p (a_list z) x a = Many (Value z) (λ y b. Holds n p z y b) x a
  Holds n p (a_pair z w) x a = PairOf (Value z) (Value w) (λ y b. Holds n p z y b) (λ y b. Holds n p w y b) x a
  Holds n p z x a = Asked (of_expressions (related s s (λ c d. R n c a)) (others n p a) z) x

  -- a layer of each shape

  number_layer : {n : ℕ} (x : RawNumber) {a : List ℕ} → R n (s.primary (layer.Number x)) a → R n (of_primary s (primary_tree.Number x)) a
  number_layer {n = n} x {a = a} h = subst (λ (c : C). R n c a) (sym (ap (of_primary s) (sym (primary_tree.rolls-Number x)) ∙ primary_rolled s (layer.Number x))) h

  octal_layer : {n : ℕ} (x : RawOctal) {a : List ℕ} → R n (s.primary (layer.Octal x)) a → R n (of_primary s (primary_tree.Octal x)) a
  octal_layer {n = n} x {a = a} h = subst (λ (c : C). R n c a) (sym (ap (of_primary s) (sym (primary_tree.rolls-Octal x)) ∙ primary_rolled s (layer.Octal x))) h

  literal_layer : {n : ℕ} (x : RawLiteral) {a : List ℕ} → R n (s.primary (layer.Literal x)) a → R n (of_primary s (primary_tree.Literal x)) a
  literal_layer {n = n} x {a = a} h = subst (λ (c : C). R n c a) (sym (ap (of_primary s) (sym (primary_tree.rolls-Literal x)) ∙ primary_rolled s (layer.Literal x))) h

  text_layer : {n : ℕ} (at : Position) (cs : List ℕ) {a : List ℕ} → R n (s.primary (layer.Text at cs)) a → R n (of_primary s (primary_tree.Text at cs)) a
  text_layer {n = n} at cs {a = a} h = subst (λ (c : C). R n c a) (sym (ap (of_primary s) (sym (primary_tree.rolls-Text at cs)) ∙ primary_rolled s (layer.Text at cs))) h

  location_layer : {n : ℕ} (at : Position) (x : RawRef) {a : List ℕ} → R n (s.primary (layer.Location at (of_reference s x))) a → R n (of_primary s (primary_tree.Location at x)) a
  location_layer {n = n} at x {a = a} h = subst (λ (c : C). R n c a) (sym (ap (of_primary s) (sym (primary_tree.rolls-Location at x)) ∙ primary_rolled s (layer.Location at x))) h

  forced_layer : {n : ℕ} (z : RawType) (x : RawExpr) {a : List ℕ} → R n (s.primary (layer.Forced z (of_expression s x))) a → R n (of_primary s (primary_tree.Forced z x)) a
  forced_layer {n = n} z x {a = a} h = subst (λ (c : C). R n c a) (sym (ap (of_primary s) (sym (primary_tree.rolls-Forced z x)) ∙ primary_rolled s (layer.Forced z x))) h

  bracket_layer : {n : ℕ} (at : Position) (x : RawExpr) {a : List ℕ} → R n (s.primary (layer.Bracket at (of_expression s x))) a → R n (of_primary s (primary_tree.Bracket at x)) a
  bracket_layer {n = n} at x {a = a} h = subst (λ (c : C). R n c a) (sym (ap (of_primary s) (sym (primary_tree.rolls-Bracket at x)) ∙ primary_rolled s (layer.Bracket at x))) h

  referred_layer : {n : ℕ} (x : RawRef) {a : List ℕ} → R n (s.primary (layer.Ref (of_reference s x))) a → R n (of_primary s (primary_tree.Ref x)) a
  referred_layer {n = n} x {a = a} h = subst (λ (c : C). R n c a) (sym (ap (of_primary s) (sym (primary_tree.rolls-Ref x)) ∙ primary_rolled s (layer.Ref x))) h

  call_layer : {n : ℕ} (f : RawName) (xs : List RawExpr) {a : List ℕ} → R n (s.primary (layer.Call f (map (of_expression s) xs))) a → R n (of_primary s (primary_tree.Call f xs)) a
  call_layer {n = n} f xs {a = a} h = subst (λ (c : C). R n c a) (sym (ap (of_primary s) (sym (primary_tree.rolls-Call f xs)) ∙ primary_rolled s (layer.Call f xs))) h

  named_layer : {n : ℕ} (f : RawName) {a : List ℕ} → R n (s.reference (layer.Name f)) a → R n (of_reference s (ref_tree.Name f)) a
  named_layer {n = n} f {a = a} h = subst (λ (c : C). R n c a) (sym (ap (of_reference s) (sym (ref_tree.rolls-Name f)) ∙ ref_rolled s (layer.Name f))) h

  one_layer : {n : ℕ} (f : RawName) (x : RawExpr) {a : List ℕ} → R n (s.reference (layer.One f (of_expression s x))) a → R n (of_reference s (ref_tree.One f x)) a
  one_layer {n = n} f x {a = a} h = subst (λ (c : C). R n c a) (sym (ap (of_reference s) (sym (ref_tree.rolls-One f x)) ∙ ref_rolled s (layer.One f x))) h

  two_layer : {n : ℕ} (f : RawName) (x y : RawExpr) {a : List ℕ} → R n (s.reference (layer.Two f (of_expression s x) (of_expression s y))) a → R n (of_reference s (ref_tree.Two f x y)) a
  two_layer {n = n} f x y {a = a} h = subst (λ (c : C). R n c a) (sym (ap (of_reference s) (sym (ref_tree.rolls-Two f x y)) ∙ ref_rolled s (layer.Two f x y))) h

  bare_layer : {n : ℕ} (at : Position) (x : RawExpr) {a : List ℕ} → R n (s.reference (layer.Bare at (of_expression s x))) a → R n (of_reference s (ref_tree.Bare at x)) a
  bare_layer {n = n} at x {a = a} h = subst (λ (c : C). R n c a) (sym (ap (of_reference s) (sym (ref_tree.rolls-Bare at x)) ∙ ref_rolled s (layer.Bare at x))) h

  sum_layer : {n : ℕ} (x : RawSum) {a : List ℕ} → R n (s.expression (layer.Sum (of_sum s x))) a → R n (of_expression s (expr_tree.Sum x)) a
  sum_layer {n = n} x {a = a} h = subst (λ (c : C). R n c a) (sym (ap (of_expression s) (sym (expr_tree.rolls-Sum x)) ∙ expr_rolled s (layer.Sum x))) h

  choice_layer : {n : ℕ} (at : Position) (c : RawCond) (x y : RawExpr) {a : List ℕ} → R n (s.expression (layer.Choice at (of_condition s c) (of_expression s x) (of_expression s y))) a → R n (of_expression s (expr_tree.Choice at c x y)) a
  choice_layer {n = n} at c x y {a = a} h = subst (λ (c : C). R n c a) (sym (ap (of_expression s) (sym (expr_tree.rolls-Choice at c x y)) ∙ expr_rolled s (layer.Choice at c x y))) h

  empty_layer : {n : ℕ} {p : Bool} {a : List ℕ} → S n p (t.simple shape.Empty) a → S n p (of_simple t simple_tree.Empty) a
  empty_layer {n = n} {p = p} {a = a} h = subst (λ (c : D). S n p c a) (sym (ap (of_simple t) (sym simple_tree.rolls-Empty) ∙ (rolls t).simple (shape.Empty))) h

  assign_layer : {n : ℕ} {p : Bool} (r : RawRef) (x : RawExpr) {a : List ℕ} → S n p (t.simple (shape.Assign r x)) a → S n p (of_simple t (simple_tree.Assign r x)) a
  assign_layer {n = n} {p = p} r x {a = a} h = subst (λ (c : D). S n p c a) (sym (ap (of_simple t) (sym (simple_tree.rolls-Assign r x)) ∙ (rolls t).simple (shape.Assign r x))) h

  assign_bits_layer : {n : ℕ} {p : Bool} (z : RawBits) (r : RawRef) (x : RawExpr) {a : List ℕ} → S n p (t.simple (shape.AssignBits z r x)) a → S n p (of_simple t (simple_tree.AssignBits z r x)) a
  assign_bits_layer {n = n} {p = p} z r x {a = a} h = subst (λ (c : D). S n p c a) (sym (ap (of_simple t) (sym (simple_tree.rolls-AssignBits z r x)) ∙ (rolls t).simple (shape.AssignBits z r x))) h

  goto_layer : {n : ℕ} {p : Bool} (at : Position) (f : RawName) {a : List ℕ} → S n p (t.simple (shape.Goto at f)) a → S n p (of_simple t (simple_tree.Goto at f)) a
  goto_layer {n = n} {p = p} at f {a = a} h = subst (λ (c : D). S n p c a) (sym (ap (of_simple t) (sym (simple_tree.rolls-Goto at f)) ∙ (rolls t).simple (shape.Goto at f))) h

  goto_switch_layer : {n : ℕ} {p : Bool} (at : Position) (f : RawName) (x : RawExpr) {a : List ℕ} → S n p (t.simple (shape.GotoSwitch at f x)) a → S n p (of_simple t (simple_tree.GotoSwitch at f x)) a
  goto_switch_layer {n = n} {p = p} at f x {a = a} h = subst (λ (c : D). S n p c a) (sym (ap (of_simple t) (sym (simple_tree.rolls-GotoSwitch at f x)) ∙ (rolls t).simple (shape.GotoSwitch at f x))) h

  called_layer : {n : ℕ} {p : Bool} (f : RawName) (xs : List RawExpr) {a : List ℕ} → S n p (t.simple (shape.Call f xs)) a → S n p (of_simple t (simple_tree.Call f xs)) a
  called_layer {n = n} {p = p} f xs {a = a} h = subst (λ (c : D). S n p c a) (sym (ap (of_simple t) (sym (simple_tree.rolls-Call f xs)) ∙ (rolls t).simple (shape.Call f xs))) h

  answer_layer : {n : ℕ} {p : Bool} (at : Position) (x : RawExpr) {a : List ℕ} → S n p (t.simple (shape.Answer at x)) a → S n p (of_simple t (simple_tree.Answer at x)) a
  answer_layer {n = n} {p = p} at x {a = a} h = subst (λ (c : D). S n p c a) (sym (ap (of_simple t) (sym (simple_tree.rolls-Answer at x)) ∙ (rolls t).simple (shape.Answer at x))) h

  block_layer : {n : ℕ} {p : Bool} (x : RawBlock) {a : List ℕ} → S n p (t.simple (shape.Block (of_block t x))) a → S n p (of_simple t (simple_tree.Block x)) a
  block_layer {n = n} {p = p} x {a = a} h = subst (λ (c : D). S n p c a) (sym (ap (of_simple t) (sym (simple_tree.rolls-Block x)) ∙ (rolls t).simple (shape.Block x))) h

  simple_layer : {n : ℕ} {p : Bool} (x : RawSimple) {a : List ℕ} → S n p (t.form (shape.Simple (of_simple t x))) a → S n p (of_form t (form_tree.Simple x)) a
  simple_layer {n = n} {p = p} x {a = a} h = subst (λ (c : D). S n p c a) (sym (ap (of_form t) (sym (form_tree.rolls-Simple x)) ∙ (rolls t).form (shape.Simple x))) h

  if_layer : {n : ℕ} {p : Bool} (at : Position) (c : RawCond) (ls : List RawName) (x : RawSimple) {a : List ℕ} → S n p (t.form (shape.If at c ls (of_simple t x) None)) a → S n p (of_form t (form_tree.If at c ls x None)) a
  if_layer {n = n} {p = p} at c ls x {a = a} h = subst (λ (c : D). S n p c a) (sym (ap (of_form t) (sym (form_tree.rolls-If at c ls x None)) ∙ (rolls t).form (shape.If at c ls x None))) h

  else_layer : {n : ℕ} {p : Bool} (at : Position) (c : RawCond) (ls : List RawName) (x : RawSimple) (y : RawStmt) {a : List ℕ} → S n p (t.form (shape.If at c ls (of_simple t x) (Some (of_statement t y)))) a → S n p (of_form t (form_tree.If at c ls x (Some y))) a
  else_layer {n = n} {p = p} at c ls x y {a = a} h = subst (λ (c : D). S n p c a) (sym (ap (of_form t) (sym (form_tree.rolls-If at c ls x (Some y))) ∙ (rolls t).form (shape.If at c ls x (Some y)))) h

  for_layer : {n : ℕ} {p : Bool} (at : Position) (r : RawRef) (es : List RawFelem) (y : RawStmt) {a : List ℕ} → S n p (t.form (shape.For at r es (of_statement t y))) a → S n p (of_form t (form_tree.For at r es y)) a
  for_layer {n = n} {p = p} at r es y {a = a} h = subst (λ (c : D). S n p c a) (sym (ap (of_form t) (sym (form_tree.rolls-For at r es y)) ∙ (rolls t).form (shape.For at r es y))) h

  data_layer : {n : ℕ} {p : Bool} (x : RawData) {a : List ℕ} → S n p (t.declaration (shape.Data x)) a → S n p (of_declaration t (decl_tree.Data x)) a
  data_layer {n = n} {p = p} x {a = a} h = subst (λ (c : D). S n p c a) (sym (ap (of_declaration t) (sym (decl_tree.rolls-Data x)) ∙ (rolls t).decl (shape.Data x))) h

  overlay_layer : {n : ℕ} {p : Bool} (at : Position) (x : RawBase) (y : RawData) {a : List ℕ} → S n p (t.declaration (shape.Overlay at x y)) a → S n p (of_declaration t (decl_tree.Overlay at x y)) a
  overlay_layer {n = n} {p = p} at x y {a = a} h = subst (λ (c : D). S n p c a) (sym (ap (of_declaration t) (sym (decl_tree.rolls-Overlay at x y)) ∙ (rolls t).decl (shape.Overlay at x y))) h

  switch_layer : {n : ℕ} {p : Bool} (at : Position) (f : RawName) (xs : List RawName) {a : List ℕ} → S n p (t.declaration (shape.Switch at f xs)) a → S n p (of_declaration t (decl_tree.Switch at f xs)) a
  switch_layer {n = n} {p = p} at f xs {a = a} h = subst (λ (c : D). S n p c a) (sym (ap (of_declaration t) (sym (decl_tree.rolls-Switch at f xs)) ∙ (rolls t).decl (shape.Switch at f xs))) h

  proc_layer : {n : ℕ} {p : Bool} (x : RawProc) {a : List ℕ} → S n p (t.declaration (shape.Proc (of_procedure t x))) a → S n p (of_declaration t (decl_tree.Proc x)) a
  proc_layer {n = n} {p = p} x {a = a} h = subst (λ (c : D). S n p c a) (sym (ap (of_declaration t) (sym (decl_tree.rolls-Proc x)) ∙ (rolls t).decl (shape.Proc x))) h

  module _ (e : Closed C s R) (f : StatementsClosed C s R D B t S K) where
    -- the operands of a chain hold where its first one and those behind do
    chained : {X O : Type 0} (of : X → C) {n : ℕ} {x : X} {rest : List (O × X)} {a b : List ℕ} → R n (of x) a → Many (O × X) (PairOf O X (λ y b. Unit {0}) (λ y b. R n (of y) b)) rest b → Many C (R n) (map of (extended (x ∷ [], []) rest).0) (a ++ b)
    chained of {n = n} h k = many_map of (R n) (gathered (λ y b. R n (of y) b) (λ y c d w q. e.wider w q) h k)

    masks : {n : ℕ} (x : RawPrim) {rest : List (Position × RawPrim)} {a b : List ℕ} → R n (of_prim s x) a → Many (Position × RawPrim) (PairOf Position RawPrim (λ y b. Unit {0}) (λ y b. R n (of_prim s y) b)) rest b → R n (of_mask s (mask_tree (extended (x ∷ [], []) rest))) (a ++ b)
    masks {n = n} x {rest = rest} {a = a} {b = b} h k =
        subst (λ (c : C). R n c (a ++ b)) (sym (mask_rolled s (record { operands = (extended (x ∷ [], []) rest).0; operators = (extended (x ∷ [], []) rest).1 }))) (e.mask (extended (x ∷ [], []) rest).1 (chained (of_prim s) h k))

    unions : {n : ℕ} (x : RawMask) {rest : List (Position × RawMask)} {a b : List ℕ} → R n (of_mask s x) a → Many (Position × RawMask) (PairOf Position RawMask (λ y b. Unit {0}) (λ y b. R n (of_mask s y) b)) rest b → R n (of_union s (union_tree (extended (x ∷ [], []) rest))) (a ++ b)
    unions {n = n} x {rest = rest} {a = a} {b = b} h k =
        subst (λ (c : C). R n c (a ++ b)) (sym (union_rolled s (record { operands = (extended (x ∷ [], []) rest).0; operators = (extended (x ∷ [], []) rest).1 }))) (e.union (extended (x ∷ [], []) rest).1 (chained (of_mask s) h k))

    differs : {n : ℕ} (x : RawUnion) {rest : List (Position × RawUnion)} {a b : List ℕ} → R n (of_union s x) a → Many (Position × RawUnion) (PairOf Position RawUnion (λ y b. Unit {0}) (λ y b. R n (of_union s y) b)) rest b → R n (of_differ s (differ_tree (extended (x ∷ [], []) rest))) (a ++ b)
    differs {n = n} x {rest = rest} {a = a} {b = b} h k =
        subst (λ (c : C). R n c (a ++ b)) (sym (differ_rolled s (record { operands = (extended (x ∷ [], []) rest).0; operators = (extended (x ∷ [], []) rest).1 }))) (e.differ (extended (x ∷ [], []) rest).1 (chained (of_union s) h k))

    terms : {n : ℕ} (x : RawDiffer) {rest : List (RawFactorSign × RawDiffer)} {a b : List ℕ} → R n (of_differ s x) a → Many (RawFactorSign × RawDiffer) (PairOf RawFactorSign RawDiffer (λ y b. Unit {0}) (λ y b. R n (of_differ s y) b)) rest b → R n (of_term s (term_tree (extended (x ∷ [], []) rest))) (a ++ b)
    terms {n = n} x {rest = rest} {a = a} {b = b} h k =
        subst (λ (c : C). R n c (a ++ b)) (sym (term_rolled s (record { operands = (extended (x ∷ [], []) rest).0; operators = (extended (x ∷ [], []) rest).1 }))) (e.term (extended (x ∷ [], []) rest).1 (same_lengths (of_differ s) (extended (x ∷ [], []) rest).0 (extended (x ∷ [], []) rest).1 (evenly (x ∷ []) [] rest refl)) (chained (of_differ s) h k))

    cands : {n : ℕ} (x : RawCmp) {rest : List (Position × RawCmp)} {a b : List ℕ} → R n (of_comparison s x) a → Many (Position × RawCmp) (PairOf Position RawCmp (λ y b. Unit {0}) (λ y b. R n (of_comparison s y) b)) rest b → R n (of_conjunction s (cand_tree (extended (x ∷ [], []) rest))) (a ++ b)
    cands {n = n} x {rest = rest} {a = a} {b = b} h k =
        subst (λ (c : C). R n c (a ++ b)) (sym (cand_rolled s (record { operands = (extended (x ∷ [], []) rest).0; operators = (extended (x ∷ [], []) rest).1 }))) (e.conjunction (extended (x ∷ [], []) rest).1 (chained (of_comparison s) h k))

    sums : {n : ℕ} (sign : Option RawSign) (x : RawTerm) {rest : List (RawSign × RawTerm)} {a b : List ℕ} → R n (of_term s x) a → Many (RawSign × RawTerm) (PairOf RawSign RawTerm (λ y b. Unit {0}) (λ y b. R n (of_term s y) b)) rest b → R n (of_sum s (sum_tree (more_terms (sign, (x ∷ [], [])) rest))) (a ++ b)
    sums {n = n} sign x {rest = rest} {a = a} {b = b} h k =
        subst (λ (c : C). R n c (a ++ b)) (sym (sum_rolled s (record { sign = sign; operands = (extended (x ∷ [], []) rest).0; operators = (extended (x ∷ [], []) rest).1 }))) (e.sum sign (extended (x ∷ [], []) rest).1 (same_lengths (of_term s) (extended (x ∷ [], []) rest).0 (extended (x ∷ [], []) rest).1 (evenly (x ∷ []) [] rest refl)) (chained (of_term s) h k))

    conds : {n : ℕ} (x : RawCand) {rest : List (Position × RawCand)} {a b : List ℕ} → R n (of_conjunction s x) a → Many (Position × RawCand) (PairOf Position RawCand (λ y b. Unit {0}) (λ y b. R n (of_conjunction s y) b)) rest b → R n (of_condition s (cond_tree (extended (x ∷ [], []) rest))) (a ++ b)
    conds {n = n} x {rest = rest} {a = a} {b = b} h k =
        subst (λ (c : C). R n c (a ++ b)) (sym (cond_rolled s (record { operands = (extended (x ∷ [], []) rest).0; operators = (extended (x ∷ [], []) rest).1 }))) (e.condition (extended (x ∷ [], []) rest).1 (chained (of_conjunction s) h k))

    prims : {n : ℕ} (bits : List RawBits) (x : RawPrimary) {a : List ℕ} → R n (of_primary s x) a → R n (of_prim s (roll-RawPrim (record { bits = bits; primary = x }))) a
    prims {n = n} bits x {a = a} h = subst (λ (c : C). R n c a) (sym (prim_rolled s (record { bits = bits; primary = x }))) (e.prim bits h)

    comparisons : {n : ℕ} (x y : RawSum) (op : RawCompareSign) {a b : List ℕ} → R n (of_sum s x) a → R n (of_sum s y) b → R n (of_comparison s (comparison_tree x op y)) (a ++ b)
    comparisons {n = n} x y op {a = a} {b = b} h k = subst (λ (c : C). R n c (a ++ b)) (sym (cmp_rolled s (record { left = x; operator = op; right = y }))) (e.comparison op h k)

    blocks : {n : ℕ} {p : Bool} (at : Position) {ds : List RawDecl} {ss : List RawStmt} {a b : List ℕ} → Many RawDecl (λ x b. S n p (of_declaration t x) b) ds a → Many RawStmt (λ x b. S n p (of_statement t x) b) ss b → K n p (of_block t (roll-RawBlock (record { at = at; decls = ds; stmts = ss }))) (a ++ b)
    blocks {n = n} {p = p} at {ds = ds} {ss = ss} {a = a} {b = b} h k =
        subst (λ (c : B). K n p c (a ++ b)) (sym ((rolls t).block (record { at = at; decls = ds; stmts = ss }))) (f.whole_block at (many_map (of_declaration t) (S n p) h) (many_map (of_statement t) (S n p) k))

    labels : {n : ℕ} {p : Bool} (ls : List RawName) (x : RawForm) {a b : List ℕ} → IsNormal n p (a_list a_name) ls a → S n p (of_form t x) b → S n p (of_statement t (stmt_tree ls x)) (a ++ b)
    labels {n = n} {p = p} ls x {a = a} {b = b} h k = subst (λ (c : D). S n p c (a ++ b)) (sym ((rolls t).stmt (record { labels = ls; form = x }))) (f.labelled h k)

    procedures : {n : ℕ} {o : Option RawType} {g : RawPtag} {h : RawName} {xs : List RawParam} (y : RawStmt) {a b c d i : List ℕ} → IsNormal (suc n) false (an_option a_type) o a → IsNormal (suc n) false a_ptag g b → IsNormal (suc n) false a_name h c → IsNormal (suc n) false (a_list a_param) xs d → S n true (of_statement t y) i → S (suc n) false (of_declaration t (decl_tree.Proc (proc_tree o g h xs y))) (a ++ (b ++ (c ++ (d ++ i))))
    procedures {n = n} {o = o} {g = g} {h = h} {xs = xs} y {a = a} {b = b} {c = c} {d = d} {i = i} ko kg kh kx ky =
        proc_layer (proc_tree o g h xs y)
        (subst (λ (z : D). S (suc n) false (t.declaration (shape.Proc z)) (a ++ (b ++ (c ++ (d ++ i))))) (sym ((rolls t).proc (record { answer = o; tag = g; name = h; params = xs; body = y }))) (f.procedure ko kg kh kx ky))

    name_first : {n : ℕ} {p : Bool} {g : RawName} {a b : List ℕ} → IsNormal n p a_name g a → Within (mark g.at ∷ b) (a ++ b)
    name_first {b = b} (normal.is_name x h) = all_within (mark x.at ∷ b)

    name_alone : {n : ℕ} {p : Bool} {g : RawName} {a : List ℕ} → IsNormal n p a_name g a → Within (mark g.at ∷ []) a
    name_alone (normal.is_name x h) = all_within (mark x.at ∷ [])

    pub holds : {n : ℕ} {p : Bool} {z : Sort} {x : Value z} {a : List ℕ} → IsNormal n p z x a → Holds n p z x a
    holds normal.no_more = none
    holds (normal.one_more h k) = more (holds h) (holds k)
    holds (normal.both h k) = pair (holds h) (holds k)
    holds (normal.number {n = n} {x = x} {a = a} h) = number_layer x (e.wider (none_within a) (e.number n x))
    holds (normal.octal {n = n} {x = x} {a = a} h) = octal_layer x (e.wider (none_within a) (e.octal n x))
    holds (normal.literal {x = x} {a = a} h) = literal_layer x (e.wider (none_within a) (e.literal h))
    holds (normal.string {n = n} at cs) = text_layer at cs (e.string n at cs)
    holds (normal.location at {x = x} {a = a} h) = location_layer at x (e.wider (beyond (mark at ∷ []) (all_within a)) (e.deeper (e.location at (holds h))))
    holds (normal.forced {t = z} {x = x} {a = a} {b = b} h k) = forced_layer z x (e.wider (beyond a (all_within b)) (e.deeper (e.forced z (holds k))))
    holds (normal.bracket at {x = x} {a = a} h) = bracket_layer at x (e.wider (beyond (mark at ∷ []) (all_within a)) (e.deeper (e.bracket at (holds h))))
    holds (normal.referred {x = x} h) = referred_layer x (e.referred (holds h))
    holds (normal.call {n = n} {f = g} {x = x} {xs = xs} h k) = call_layer g (x ∷ xs) (e.wider (name_first h) (e.deeper (e.call g (many_map (of_expression s) (R n) (holds k)))))
    holds (normal.named {n = n} {f = g} h) = named_layer g (e.wider (name_alone h) (e.named n g))
    holds (normal.one_index {f = g} {x = x} h k) = one_layer g x (e.wider (name_first h) (e.deeper (e.one_index g (holds k))))
    holds (normal.two_indexes {f = g} {x = x} {y = y} h k l) = two_layer g x y (e.wider (name_first h) (e.deeper (e.two_indexes g (holds k) (holds l))))
    holds (normal.bare at {x = x} {a = a} h) = bare_layer at x (e.wider (beyond (mark at ∷ []) (all_within a)) (e.deeper (e.bare at (holds h))))
    holds (normal.is_prim {bits = bits} {x = x} {a = a} {b = b} h k q) = e.wider (beyond a (all_within b)) (prims bits x (holds k))
    holds (normal.is_mask {x = x} h q k) = masks x (holds h) (holds k)
    holds (normal.is_union {x = x} h q k) = unions x (holds h) (holds k)
    holds (normal.is_differ {x = x} h q k) = differs x (holds h) (holds k)
    holds (normal.is_term {x = x} h q k) = terms x (holds h) (holds k)
    holds (normal.plain_sum {x = x} h q k) = sums None x (holds h) (holds k)
    holds (normal.signed_sum {sign = sign} {x = x} {a = a} {b = b} {c = c} o h k) = e.wider (beyond a (all_within (b ++ c))) (sums (Some sign) x (holds h) (holds k))
    holds (normal.is_cmp {x = x} {y = y} {op = op} {a = a} {b = b} {c = c} h o k) = e.wider (join (all_within a) (beyond b (all_within c))) (comparisons x y op (holds h) (holds k))
    holds (normal.is_cand {x = x} h k) = cands x (holds h) (holds k)
    holds (normal.is_cond {x = x} h k) = conds x (holds h) (holds k)
    holds (normal.sum_expr {x = x} h q) = sum_layer x (e.sole (holds h))
    holds (normal.choice at {c = c} {x = x} {y = y} {a = a} {b = b} {d = d} h k l) = choice_layer at c x y (e.wider (beyond (mark at ∷ []) (all_within (a ++ (b ++ d)))) (e.choice at (holds h) (holds k) (holds l)))
    holds (normal.no_statement {n = n} {p = p}) = empty_layer (f.empty n p)
    holds (normal.assignment {r = r} {x = x} h k) = assign_layer r x (f.assign (holds h) (holds k))
    holds (normal.bits_assignment {z = z} {r = r} {x = x} {a = a} {b = b} {c = c} o h k) = assign_bits_layer z r x (f.wider (beyond a (all_within (b ++ c))) (f.assign_bits z (holds h) (holds k)))
    holds (normal.jump_to {n = n} {p = p} at {f = g} h) = goto_layer at g (f.wider (beyond (mark at ∷ []) (name_alone h)) (f.jump n p at g))
    holds (normal.jump_through at {f = g} {x = x} h k) = goto_switch_layer at g x (f.wider (beyond (mark at ∷ []) (name_first h)) (f.deeper (f.jump_through at g (holds k))))
    holds (normal.called_alone {f = g} h) = called_layer g [] (f.wider (name_alone h) (f.called g none))
    holds (normal.called_with {f = g} {x = x} {xs = xs} h k) = called_layer g (x ∷ xs) (f.wider (name_first h) (f.deeper (f.called g (holds k))))
    holds (normal.is_answer at {x = x} h) = answer_layer at x (f.answer at (holds h))
    holds (normal.inner_block {x = x} h) = block_layer x (f.inner_block (holds h))
    holds (normal.is_block at {a = a} {b = b} h k) = f.block_wider (beyond (mark at ∷ []) (all_within (a ++ b))) (f.block_deeper (blocks at (holds h) (holds k)))
    holds (normal.is_stmt {ls = ls} {x = x} h k) = labels ls x h (holds k)
    holds (normal.simple_form {x = x} h) = simple_layer x (f.simple (holds h))
    holds (normal.if_form at {t = c} {ls = ls} {x = x} {a = a} {b = b} {c = d} h l k) = if_layer at c ls x (f.wider (beyond (mark at ∷ []) (all_within (a ++ (b ++ d)))) (f.if_alone at (holds h) l (holds k)))
    holds (normal.else_form at {t = c} {ls = ls} {x = x} {y = y} {a = a} {b = b} {c = d} {d = i} h l k m) = else_layer at c ls x y (f.wider (beyond (mark at ∷ []) (all_within (a ++ ((b ++ d) ++ i)))) (f.if_else at (holds h) l (holds k) (f.deeper (holds m))))
    holds (normal.for_form at {r = r} {x = x} {xs = xs} {y = y} h k l) = for_layer at r (x ∷ xs) y (f.loop at (holds h) (holds k) (holds l))
    holds (normal.one_felem h) = one (holds h)
    holds (normal.while_felem h k) = while (holds h) (holds k)
    holds (normal.step_felem h k l) = step (holds h) (holds k) (holds l)
    holds (normal.data_decl {x = x} h) = data_layer x (f.data_declared h)
    holds (normal.overlay_decl at {x = x} {y = y} {a = a} {b = b} h k) = overlay_layer at x y (f.wider (beyond (mark at ∷ []) (all_within (a ++ b))) (f.overlay at h k))
    holds (normal.switch_decl at {f = g} {x = x} {xs = xs} {a = a} {b = b} h k) = switch_layer at g (x ∷ xs) (f.wider (beyond (mark at ∷ []) (all_within (a ++ b))) (f.switch at h k))
    holds (normal.proc_decl {x = x} o g h xs y) = procedures x o g h xs (holds y)
    holds _ = tt
