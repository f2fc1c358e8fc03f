-- The switches in a part of a text, by the form of the part.
use Rattle.std.proofs.Common.{◌≡◌, ◌≤◌, ℕ, List, [], ◌∷◌, ◌++◌, map, length, drop, Option, Some, None, refl, sym, ap, ap₂, ◌∙◌, append-nil}
use Rattle.cw_tree.specs.declared.leaf.Position.{Position}
use Rattle.cw_tree.specs.declared.leaf.RawName.{RawName}
use Rattle.cw_tree.specs.declared.expression.RawRef.{RawRef}
use Rattle.cw_tree.specs.declared.expression.RawCond.{RawCond}
use Rattle.cw_tree.specs.declared.statement.RawFelem.{RawFelem}
use Rattle.cw_tree.specs.declared.statement.RawDecl.TheVariants as decl
use Rattle.cw_tree.specs.declared.statement.RawForm.TheVariants as form
use Rattle.cw_tree.specs.declared.statement.RawSimple.TheVariants as simple
use Rattle.cw_tree.specs.declared.statement.RawBlock.{RawBlock, out-RawBlock}
use Rattle.cw_tree.specs.declared.statement.RawDecl.{RawDecl}
use Rattle.cw_tree.specs.declared.statement.RawForm.{RawForm}
use Rattle.cw_tree.specs.declared.statement.RawProc.{RawProc, out-RawProc}
use Rattle.cw_tree.specs.declared.statement.RawSimple.{RawSimple}
use Rattle.cw_tree.specs.declared.statement.RawStmt.{RawStmt, out-RawStmt}
use Rattle.cw_tree.proofs.Statements.{StatementSteps, statement_steps, of_block-out, of_declaration-Proc, of_declaration-Switch, of_form-For, of_form-If-None, of_form-If-Some, of_form-Simple, of_procedure-out, of_simple-Block, of_statement-out}
use Rattle.cw_scope.specs.declared.resolve.Named.{Named}
use Rattle.cw_unit.specs.declared.unit.Goal.{Goal}
use Rattle.cw_unit.specs.declared.unit.Switch.{Switch}
use Rattle.cw_make_items.specs.Lookup.{Numbers, proc_here}
use Rattle.cw_make.specs.Switches.{Switches, joined, goals_of, declaration_step, form_step, simple_step, block_step, procedure_step, statement_step}
use Rattle.cw_make.proofs.Adding.{as_whole, two_more, no_more}
use Rattle.cw_make.specs.Switches.{declaration_switches, form_switches, simple_switches, block_switches, procedure_switches, statement_switches}

module _ (named : Named) (numbers : Numbers) (q : Option ℕ) where
  abbrev steps : StatementSteps Switches Switches Switches Switches Switches Switches
  steps =
      statement_steps (declaration_step named numbers) (form_step named numbers) (simple_step named numbers) (block_step named numbers) (procedure_step named numbers)
      (statement_step named numbers)

  pub statement_more : (s : RawStmt) (f : RawForm) (o0 o1 : List Switch) → f ≡ (out-RawStmt s).form → o1 ≡ o0 ++ form_switches named numbers f q
      → o1 ≡ o0 ++ statement_switches named numbers s q
  statement_more s f o0 o1 same =
      as_whole (statement_switches named numbers s q) (form_switches named numbers f q) o0 o1 (ap (λ (j : Switches). j q) (of_statement-out steps s)
      ∙ ap (λ g. form_switches named numbers g q) (sym same))

  pub simple_form_more : (f : RawForm) (s s' : RawSimple) (o0 o1 : List Switch) → f ≡ form.Simple s → s' ≡ s → o1 ≡ o0 ++ simple_switches named numbers s' q
      → o1 ≡ o0 ++ form_switches named numbers f q
  simple_form_more f s s' o0 o1 is same =
      as_whole (form_switches named numbers f q) (simple_switches named numbers s' q) o0 o1
      (ap (λ (j : Switches). j q) (ap (form_switches named numbers) (is ∙ ap form.Simple (sym same)) ∙ of_form-Simple steps s'))

  pub if_more : (f : RawForm) (at : Position) (test : RawCond) (labels : List RawName) (a a' : RawSimple) (second : Option RawStmt) (o0 o1 : List Switch)
      → f ≡ form.If at test labels a second → a' ≡ a → second ≡ None → o1 ≡ o0 ++ simple_switches named numbers a' q → o1 ≡ o0 ++ form_switches named numbers f q
  if_more f at test labels a a' second o0 o1 is same none e =
      let parts : f ≡ form.If at test labels a' None = is ∙ ap₂ (form.If at test labels) (sym same) none in
      e ∙ ap (λ l. o0 ++ l) (sym (append-nil (simple_switches named numbers a' q)))
      ∙ ap (λ (j : Switches). o0 ++ j q) (sym (ap (form_switches named numbers) parts ∙ of_form-If-None steps at test labels a'))

  pub if_else_more : (f : RawForm) (at : Position) (test : RawCond) (labels : List RawName) (a a' : RawSimple) (second : Option RawStmt) (b b' : RawStmt) (o0 o1 o2 : List Switch)
      → f ≡ form.If at test labels a second → a' ≡ a → second ≡ Some b → b' ≡ b → o1 ≡ o0 ++ simple_switches named numbers a' q
      → o2 ≡ o1 ++ statement_switches named numbers b' q → o2 ≡ o0 ++ form_switches named numbers f q
  if_else_more f at test labels a a' second b b' o0 o1 o2 is ha some hb =
      let parts : f ≡ form.If at test labels a' (Some b') = is ∙ ap₂ (form.If at test labels) (sym ha) (some ∙ ap Some (sym hb)) in
      two_more (form_switches named numbers f q) (simple_switches named numbers a' q) (statement_switches named numbers b' q) o0 o1 o2
      (ap (λ (j : Switches). j q) (ap (form_switches named numbers) parts ∙ of_form-If-Some steps at test labels a' b'))

  pub for_more : (f : RawForm) (at : Position) (v : RawRef) (elems : List RawFelem) (b b' : RawStmt) (o0 o1 : List Switch) → f ≡ form.For at v elems b → b' ≡ b
      → o1 ≡ o0 ++ statement_switches named numbers b' q → o1 ≡ o0 ++ form_switches named numbers f q
  for_more f at v elems b b' o0 o1 is same =
      as_whole (form_switches named numbers f q) (statement_switches named numbers b' q) o0 o1
      (ap (λ (j : Switches). j q) (ap (form_switches named numbers) (is ∙ ap (form.For at v elems) (sym same)) ∙ of_form-For steps at v elems b'))

  pub inner_block_more : (s : RawSimple) (b b' : RawBlock) (o0 o1 : List Switch) → s ≡ simple.Block b → b' ≡ b → o1 ≡ o0 ++ block_switches named numbers b' q
      → o1 ≡ o0 ++ simple_switches named numbers s q
  inner_block_more s b b' o0 o1 is same =
      as_whole (simple_switches named numbers s q) (block_switches named numbers b' q) o0 o1
      (ap (λ (j : Switches). j q) (ap (simple_switches named numbers) (is ∙ ap simple.Block (sym same)) ∙ of_simple-Block steps b'))

  pub switch_more : (d : RawDecl) (at : Position) (n : RawName) (labels labels' : List RawName) (list : List Goal) (o0 o1 : List Switch) → d ≡ decl.Switch at n labels
      → labels' ≡ labels
      → list ≡ goals_of named numbers labels' → o1 ≡ o0 ++ record { proc = q; list = list } ∷ [] → o1 ≡ o0 ++ declaration_switches named numbers d q
  switch_more d at n labels labels' list o0 o1 is same listed e =
      e ∙ ap (λ l. o0 ++ record { proc = q; list = l } ∷ []) listed
      ∙ ap (λ (j : Switches). o0 ++ j q) (sym (ap (declaration_switches named numbers) (is ∙ ap (decl.Switch at n) (sym same)) ∙ of_declaration-Switch steps at n labels'))

  pub inner_procedure_more : (d : RawDecl) (p p' : RawProc) (o0 o1 : List Switch) → d ≡ decl.Proc p → p' ≡ p → o1 ≡ o0 ++ procedure_switches named numbers p' q
      → o1 ≡ o0 ++ declaration_switches named numbers d q
  inner_procedure_more d p p' o0 o1 is same =
      as_whole (declaration_switches named numbers d q) (procedure_switches named numbers p' q) o0 o1
      (ap (λ (j : Switches). j q) (ap (declaration_switches named numbers) (is ∙ ap decl.Proc (sym same)) ∙ of_declaration-Proc steps p'))

  pub procedure_more : (p : RawProc) (body : RawStmt) (n : ℕ) (o0 o1 : List Switch) → body ≡ (out-RawProc p).body → n ≡ proc_here numbers (out-RawProc p).name.at.token
      → o1 ≡ o0 ++ statement_switches named numbers body (Some n) → o1 ≡ o0 ++ procedure_switches named numbers p q
  procedure_more p body n o0 o1 same hn =
      as_whole (procedure_switches named numbers p q) (statement_switches named numbers body (Some n)) o0 o1
      (ap (λ (j : Switches). j q) (of_procedure-out steps p) ∙ ap₂ (λ b m. statement_switches named numbers b (Some m)) (sym same) (sym hn))

  -- both loops have ended
  pub block_more : (b : RawBlock) (ds : List RawDecl) (ss : List RawStmt) (i j : ℕ) (o0 o1 o2 : List Switch) → ds ≡ (out-RawBlock b).decls → ss ≡ (out-RawBlock b).stmts
      → length ds ≤ i → length ss ≤ j
      → o1 ++ joined (map (declaration_switches named numbers) (drop i ds)) q ≡ o0 ++ joined (map (declaration_switches named numbers) ds) q
      → o2 ++ joined (map (statement_switches named numbers) (drop j ss)) q ≡ o1 ++ joined (map (statement_switches named numbers) ss) q
      → o2 ≡ o0 ++ block_switches named numbers b q
  block_more b ds ss i j o0 o1 o2 hd hs hi hj e1 e2 =
      two_more (block_switches named numbers b q) (joined (map (declaration_switches named numbers) ds) q) (joined (map (statement_switches named numbers) ss) q) o0 o1 o2
      (ap (λ (j : Switches). j q) (of_block-out steps b)
      ∙ ap₂ (λ l m. joined (map (declaration_switches named numbers) l) q ++ joined (map (statement_switches named numbers) m) q) (sym hd) (sym hs))
      (no_more (λ l. joined (map (declaration_switches named numbers) l) q) refl ds i o1 _ hi e1) (no_more (λ l. joined (map (statement_switches named numbers) l) q) refl ss j o2
      _ hj e2)
