-- What is judged of statements and declarations, by their forms.
use Rattle.std.proofs.Common.{◌≡◌, ℕ, ◌≤◌, List, length, map, drop, refl, sym, ap, ap₂, ◌∙◌, Option, Some, None}
use Rattle.cw_table.specs.declared.table.Row.{Row}
use Rattle.cw_tree.specs.declared.leaf.Position.{Position}
use Rattle.cw_tree.specs.declared.leaf.RawName.{RawName}
use Rattle.cw_tree.specs.declared.items.RawBase.{RawBase}
use Rattle.cw_tree.specs.declared.items.RawData.{RawData}
use Rattle.cw_tree.specs.declared.expression.RawBits.{RawBits}
use Rattle.cw_tree.specs.declared.expression.RawCond.{RawCond}
use Rattle.cw_tree.specs.declared.expression.RawExpr.{RawExpr}
use Rattle.cw_tree.specs.declared.expression.RawRef.{RawRef}
use Rattle.cw_tree.specs.declared.statement.RawFelem.{RawFelem}
use Rattle.cw_tree.specs.declared.statement.RawFelem.TheVariants as felem
use Rattle.cw_tree.specs.declared.statement.RawDecl.TheVariants as decl
use Rattle.cw_tree.specs.declared.statement.RawForm.TheVariants as form
use Rattle.cw_tree.specs.declared.statement.RawSimple.TheVariants as simple
use Rattle.cw_tree.specs.declared.statement.RawBlock.{RawBlock, out-RawBlock}
use Rattle.cw_tree.specs.declared.statement.RawDecl.{RawDecl}
use Rattle.cw_tree.specs.declared.statement.RawForm.{RawForm}
use Rattle.cw_tree.specs.declared.statement.RawProc.{RawProc, out-RawProc}
use Rattle.cw_tree.specs.declared.statement.RawSimple.{RawSimple}
use Rattle.cw_tree.specs.declared.statement.RawStmt.{RawStmt, out-RawStmt}
use Rattle.cw_tree.specs.declared.statement.RawParam.{RawParam}
use Rattle.cw_tree.proofs.Statements.{StatementSteps, statement_steps, of_block-out, of_declaration-Data, of_declaration-Overlay, of_declaration-Proc, of_declaration-Switch, of_form-For, of_form-If-None, of_form-If-Some, of_form-Simple, of_procedure-out, of_simple-Answer, of_simple-Assign, of_simple-AssignBits, of_simple-Block, of_simple-Call, of_simple-GotoSwitch, of_statement-out}
use Rattle.cw_facts.specs.Facts.{answer_name}
use Rattle.cw_scope.specs.declared.resolve.Named.{Named}
use Rattle.cw_scale.specs.declared.fault.Fault.{Fault}
use Rattle.cw_scale.specs.Faults.{Judgement}
use Rattle.cw_scale.specs.Kinds.{kind_of, signature_of, fraction_of_kind}
use Rattle.cw_scale.specs.Types.{bits_judged}
use Rattle.cw_scale.specs.TypeRules.{expression, call_faults}
use Rattle.cw_data.specs.Specifications.{heading_judged, switch_judged}
use Rattle.cw_items.specs.declared.families.Site.{Site}
use Rattle.cw_judge.specs.Declarations.{declared_judged, overlaid_judged}
use Rattle.cw_judge.specs.Judged.{expression_judged, condition_judged, reference_judged, arguments_counted, scale_of, all_judged, felem_judged, felems_judged}
use Rattle.cw_judge.specs.Judged.{declaration_step, form_step, simple_step, block_step, procedure_step, statement_step}
use Rattle.cw_judge.specs.Judged.{declaration_judged, form_judged, simple_judged, block_judged, procedure_judged, statement_judged}
use Rattle.cw_judge.proofs.Joining.{as_judged, no_more}

-- ---- an element of a FOR

module _ (named : Named) (scale : ℕ) where
  pub one_judged : (x : RawFelem) (e e' : RawExpr) (o0 o1 : Option Fault) → x ≡ felem.One e → e' ≡ e → o1 ≡ expression_judged named scale e' o0 → o1 ≡ felem_judged named scale x o0
  one_judged x e e' o0 o1 is same k = k ∙ ap (λ j. felem_judged named scale j o0) (sym (is ∙ ap felem.One (sym same)))

  pub while_judged : (x : RawFelem) (e e' : RawExpr) (c c' : RawCond) (o0 o1 o2 : Option Fault) → x ≡ felem.While e c → e' ≡ e → c' ≡ c
      → o1 ≡ expression_judged named scale e' o0 → o2 ≡ condition_judged named c' o1 → o2 ≡ felem_judged named scale x o0
  while_judged x e e' c c' o0 o1 o2 is he hc e1 e2 =
      e2 ∙ ap (condition_judged named c') e1 ∙ ap (λ j. felem_judged named scale j o0) (sym (is ∙ ap₂ felem.While (sym he) (sym hc)))

  pub step_judged : (x : RawFelem) (a a' b b' c c' : RawExpr) (o0 o1 o2 o3 : Option Fault) → x ≡ felem.Step a b c → a' ≡ a → b' ≡ b → c' ≡ c
      → o1 ≡ expression_judged named scale a' o0 → o2 ≡ expression_judged named scale b' o1 → o3 ≡ expression_judged named scale c' o2 → o3 ≡ felem_judged named scale x o0
  step_judged x a a' b b' c c' o0 o1 o2 o3 is ha hb hc e1 e2 e3 =
      e3 ∙ ap (expression_judged named scale c') (e2 ∙ ap (expression_judged named scale b') e1)
      ∙ ap (λ j. felem_judged named scale j o0) (sym (is ∙ ap (λ k. felem.Step k b c) (sym ha) ∙ ap₂ (felem.Step a') (sym hb) (sym hc)))

module _ (named : Named) (sites : List (Row Site)) where
  abbrev steps : StatementSteps Judgement Judgement Judgement Judgement Judgement Judgement
  steps =
      statement_steps (declaration_step named sites) (form_step named sites) (simple_step named sites) (block_step named sites) (procedure_step named sites)
      (statement_step named sites)

  -- ---- statements

  pub simple_form : (f : RawForm) (s s' : RawSimple) (o0 o1 : Option Fault) → f ≡ form.Simple s → s' ≡ s → o1 ≡ simple_judged named sites s' o0 → o1 ≡ form_judged named sites f o0
  simple_form f s s' o0 o1 is same =
      as_judged (form_judged named sites f) (simple_judged named sites s') o0 o1 (ap (form_judged named sites) (is ∙ ap form.Simple (sym same)) ∙ of_form-Simple steps s')

  pub if_form : (f : RawForm) (at : Position) (t t' : RawCond) (labels : List RawName) (a a' : RawSimple) (second : Option RawStmt) (o0 o1 o2 : Option Fault)
      → f ≡ form.If at t labels a second → t' ≡ t → a' ≡ a → second ≡ None → o1 ≡ condition_judged named t' o0 → o2 ≡ simple_judged named sites a' o1
      → o2 ≡ form_judged named sites f o0
  if_form f at t t' labels a a' second o0 o1 o2 is ht ha none e1 e2 =
      let parts : f ≡ form.If at t' labels a' None = is ∙ ap (form.If at t labels a) none ∙ ap₂ (λ u b. form.If at u labels b None) (sym ht) (sym ha) in
      e2 ∙ ap (simple_judged named sites a') e1 ∙ ap (λ (j : Judgement). j o0) (sym (ap (form_judged named sites) parts ∙ of_form-If-None steps at t' labels a'))

  pub if_else_form : (f : RawForm) (at : Position) (t t' : RawCond) (labels : List RawName) (a a' : RawSimple) (second : Option RawStmt) (b b' : RawStmt)
      (o0 o1 o2 o3 : Option Fault)
      → f ≡ form.If at t labels a second → t' ≡ t → a' ≡ a → second ≡ Some b → b' ≡ b
      → o1 ≡ condition_judged named t' o0 → o2 ≡ simple_judged named sites a' o1 → o3 ≡ statement_judged named sites b' o2 → o3 ≡ form_judged named sites f o0
  if_else_form f at t t' labels a a' second b b' o0 o1 o2 o3 is ht ha some hb e1 e2 e3 =
      let parts : f ≡ form.If at t' labels a' (Some b') =
      is ∙ ap (form.If at t labels a) (some ∙ ap Some (sym hb)) ∙ ap₂ (λ u c. form.If at u labels c (Some b')) (sym ht) (sym ha) in
      e3 ∙ ap (statement_judged named sites b') (e2 ∙ ap (simple_judged named sites a') e1)
      ∙ ap (λ (j : Judgement). j o0) (sym (ap (form_judged named sites) parts ∙ of_form-If-Some steps at t' labels a' b'))

  pub for_form : (f : RawForm) (at : Position) (v v' : RawRef) (elems elems' : List RawFelem) (b b' : RawStmt) (scale : ℕ) (o0 o1 o2 o3 : Option Fault)
      → f ≡ form.For at v elems b → v' ≡ v → elems' ≡ elems → b' ≡ b → scale ≡ scale_of named v'
      → o1 ≡ reference_judged named v' o0 → o2 ≡ felems_judged named scale elems' o1 → o3 ≡ statement_judged named sites b' o2 → o3 ≡ form_judged named sites f o0
  for_form f at v v' elems elems' b b' scale o0 o1 o2 o3 is hv he hb hs e1 e2 e3 =
      let parts : f ≡ form.For at v' elems' b' = is ∙ ap (λ w. form.For at w elems b) (sym hv) ∙ ap₂ (form.For at v') (sym he) (sym hb) in
      e3 ∙ ap (statement_judged named sites b') (e2 ∙ ap₂ (λ n o. felems_judged named n elems' o) hs e1)
      ∙ ap (λ (j : Judgement). j o0) (sym (ap (form_judged named sites) parts ∙ of_form-For steps at v' elems' b'))

  pub assign : (s : RawSimple) (r r' : RawRef) (e e' : RawExpr) (scale : ℕ) (o0 o1 o2 : Option Fault) → s ≡ simple.Assign r e → r' ≡ r → e' ≡ e → scale ≡ scale_of named r'
      → o1 ≡ reference_judged named r' o0 → o2 ≡ expression_judged named scale e' o1 → o2 ≡ simple_judged named sites s o0
  assign s r r' e e' scale o0 o1 o2 is hr he hs e1 e2 =
      e2 ∙ ap₂ (λ n o. expression_judged named n e' o) hs e1
      ∙ ap (λ (j : Judgement). j o0) (sym (ap (simple_judged named sites) (is ∙ ap₂ simple.Assign (sym hr) (sym he)) ∙ of_simple-Assign steps r' e'))

  pub assign_bits : (s : RawSimple) (bits bits' : RawBits) (r r' : RawRef) (e e' : RawExpr) (o0 o1 o2 o3 : Option Fault) → s ≡ simple.AssignBits bits r e → bits' ≡ bits → r' ≡ r
      → e' ≡ e
      → o1 ≡ bits_judged bits' o0 → o2 ≡ reference_judged named r' o1 → o3 ≡ expression_judged named 0 e' o2 → o3 ≡ simple_judged named sites s o0
  assign_bits s bits bits' r r' e e' o0 o1 o2 o3 is hb hr he e1 e2 e3 =
      let parts : s ≡ simple.AssignBits bits' r' e' = is ∙ ap (λ b. simple.AssignBits b r e) (sym hb) ∙ ap₂ (simple.AssignBits bits') (sym hr) (sym he) in
      e3 ∙ ap (expression_judged named 0 e') (e2 ∙ ap (reference_judged named r') e1)
      ∙ ap (λ (j : Judgement). j o0) (sym (ap (simple_judged named sites) parts ∙ of_simple-AssignBits steps bits' r' e'))

  pub goto_switch : (s : RawSimple) (at : Position) (n : RawName) (e e' : RawExpr) (o0 o1 : Option Fault) → s ≡ simple.GotoSwitch at n e → e' ≡ e
      → o1 ≡ expression_judged named 0 e' o0
      → o1 ≡ simple_judged named sites s o0
  goto_switch s at n e e' o0 o1 is same =
      as_judged (simple_judged named sites s) (expression_judged named 0 e') o0 o1 (ap (simple_judged named sites) (is ∙ ap (simple.GotoSwitch at n) (sym same))
      ∙ of_simple-GotoSwitch steps at n e')

  pub call : (s : RawSimple) (n : RawName) (es es' : List RawExpr) (o0 o1 o2 : Option Fault) → s ≡ simple.Call n es → es' ≡ es
      → o1 ≡ call_faults named (signature_of named n) n (map (expression named) es') o0 → o2 ≡ arguments_counted es' o1 → o2 ≡ simple_judged named sites s o0
  call s n es es' o0 o1 o2 is same e1 e2 =
      e2 ∙ ap (arguments_counted es') e1 ∙ ap (λ (j : Judgement). j o0) (sym (ap (simple_judged named sites) (is ∙ ap (simple.Call n) (sym same)) ∙ of_simple-Call steps n es'))

  pub answer : (s : RawSimple) (at : Position) (e e' : RawExpr) (n : RawName) (scale : ℕ) (o0 o1 : Option Fault) → s ≡ simple.Answer at e → e' ≡ e → n ≡ answer_name at
      → scale ≡ fraction_of_kind (kind_of named n) → o1 ≡ expression_judged named scale e' o0 → o1 ≡ simple_judged named sites s o0
  answer s at e e' n scale o0 o1 is same hn hs k =
      k ∙ ap (λ f. expression_judged named f e' o0) (hs ∙ ap (λ m. fraction_of_kind (kind_of named m)) hn)
      ∙ ap (λ (j : Judgement). j o0) (sym (ap (simple_judged named sites) (is ∙ ap (simple.Answer at) (sym same)) ∙ of_simple-Answer steps at e'))

  pub inner_block : (s : RawSimple) (b b' : RawBlock) (o0 o1 : Option Fault) → s ≡ simple.Block b → b' ≡ b → o1 ≡ block_judged named sites b' o0
      → o1 ≡ simple_judged named sites s o0
  inner_block s b b' o0 o1 is same =
      as_judged (simple_judged named sites s) (block_judged named sites b') o0 o1 (ap (simple_judged named sites) (is ∙ ap simple.Block (sym same)) ∙ of_simple-Block steps b')

  pub statement : (s : RawStmt) (f : RawForm) (o0 o1 : Option Fault) → f ≡ (out-RawStmt s).form → o1 ≡ form_judged named sites f o0 → o1 ≡ statement_judged named sites s o0
  statement s f o0 o1 same k = k ∙ ap (λ g. form_judged named sites g o0) same ∙ ap (λ (j : Judgement). j o0) (sym (of_statement-out steps s))

  -- ---- declarations and blocks

  pub declared_data : (d : RawDecl) (items : RawData) (o0 o1 : Option Fault) → d ≡ decl.Data items → o1 ≡ declared_judged sites items o0 → o1 ≡ declaration_judged named sites d o0
  declared_data d items o0 o1 is =
      as_judged (declaration_judged named sites d) (declared_judged sites items) o0 o1 (ap (declaration_judged named sites) is ∙ of_declaration-Data steps items)

  pub overlay : (d : RawDecl) (at : Position) (b : RawBase) (items : RawData) (o0 o1 : Option Fault) → d ≡ decl.Overlay at b items → o1 ≡ overlaid_judged named sites b items o0
      → o1 ≡ declaration_judged named sites d o0
  overlay d at b items o0 o1 is =
      as_judged (declaration_judged named sites d) (overlaid_judged named sites b items) o0 o1 (ap (declaration_judged named sites) is ∙ of_declaration-Overlay steps at b items)

  pub switch : (d : RawDecl) (at : Position) (n : RawName) (labels labels' : List RawName) (o0 o1 : Option Fault) → d ≡ decl.Switch at n labels → labels' ≡ labels
      → o1 ≡ switch_judged n labels' o0
      → o1 ≡ declaration_judged named sites d o0
  switch d at n labels labels' o0 o1 is same =
      as_judged (declaration_judged named sites d) (switch_judged n labels') o0 o1 (ap (declaration_judged named sites) (is ∙ ap (decl.Switch at n) (sym same))
      ∙ of_declaration-Switch steps at n labels')

  pub inner_procedure : (d : RawDecl) (p p' : RawProc) (o0 o1 : Option Fault) → d ≡ decl.Proc p → p' ≡ p → o1 ≡ procedure_judged named sites p' o0
      → o1 ≡ declaration_judged named sites d o0
  inner_procedure d p p' o0 o1 is same =
      as_judged (declaration_judged named sites d) (procedure_judged named sites p') o0 o1 (ap (declaration_judged named sites) (is ∙ ap decl.Proc (sym same))
      ∙ of_declaration-Proc steps p')

  pub procedure : (p : RawProc) (params : List RawParam) (body : RawStmt) (o0 o1 o2 : Option Fault) → params ≡ (out-RawProc p).params → body ≡ (out-RawProc p).body
      → o1 ≡ heading_judged named (out-RawProc p).answer (out-RawProc p).name params o0 → o2 ≡ statement_judged named sites body o1 → o2 ≡ procedure_judged named sites p o0
  procedure p params body o0 o1 o2 hp hb e1 e2 =
      e2 ∙ ap₂ (λ s o. statement_judged named sites s o) hb (e1 ∙ ap (λ l. heading_judged named (out-RawProc p).answer (out-RawProc p).name l o0) hp)
      ∙ ap (λ (j : Judgement). j o0) (sym (of_procedure-out steps p))

  -- both loops have ended
  pub block : (b : RawBlock) (ds : List RawDecl) (ss : List RawStmt) (i j : ℕ) (o0 o1 o2 : Option Fault) → ds ≡ (out-RawBlock b).decls → ss ≡ (out-RawBlock b).stmts
      → length ds ≤ i → length ss ≤ j
      → all_judged (map (declaration_judged named sites) (drop i ds)) o1 ≡ all_judged (map (declaration_judged named sites) ds) o0
      → all_judged (map (statement_judged named sites) (drop j ss)) o2 ≡ all_judged (map (statement_judged named sites) ss) o1 → o2 ≡ block_judged named sites b o0
  block b ds ss i j o0 o1 o2 hd hs hi hj e1 e2 =
      let declared : o1 ≡ all_judged (map (declaration_judged named sites) ds) o0 = no_more (λ l. all_judged (map (declaration_judged named sites) l))
      (declaration_judged named sites) (λ o. refl) ds i o1 _ hi e1 in
      let stated : o2 ≡ all_judged (map (statement_judged named sites) ss) o1 = no_more (λ l. all_judged (map (statement_judged named sites) l)) (statement_judged named sites)
      (λ o. refl) ss j o2 _ hj e2 in
      stated ∙ ap (all_judged (map (statement_judged named sites) ss)) declared
      ∙ ap₂ (λ l m. all_judged (map (statement_judged named sites) m) (all_judged (map (declaration_judged named sites) l) o0)) hd hs
      ∙ ap (λ (j : Judgement). j o0) (sym (of_block-out steps b))
