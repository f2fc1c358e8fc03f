-- The procedures in a part of a text, by what the part consists of.
use Rattle.std.proofs.Common.{◌≡◌, ◌≤◌, ℕ, List, [], ◌∷◌, ◌++◌, map, length, drop, Option, Some, None, refl, sym, ap, ◌∙◌, append_assoc, append-nil}
use Rattle.std.proofs.lemmas.List.{drop_all}
use Rattle.cw_tree.specs.declared.leaf.Position.{Position}
use Rattle.cw_tree.specs.declared.leaf.RawName.{RawName}
use Rattle.cw_tree.specs.declared.expression.RawRef.{RawRef}
use Rattle.cw_tree.specs.declared.expression.RawCond.{RawCond}
use Rattle.cw_tree.specs.declared.statement.RawFelem.{RawFelem}
use Rattle.cw_tree.specs.declared.statement.RawDecl.TheVariants as decl
use Rattle.cw_tree.specs.declared.statement.RawForm.TheVariants as form
use Rattle.cw_tree.specs.declared.statement.RawSimple.TheVariants as simple
use Rattle.cw_tree.specs.declared.statement.RawDecl.{RawDecl, RawDecl-F, out-RawDecl, roll-RawDecl}
use Rattle.cw_tree.specs.declared.statement.RawForm.{RawForm, out-RawForm, roll-RawForm}
use Rattle.cw_tree.specs.declared.statement.RawSimple.{RawSimple, out-RawSimple, roll-RawSimple}
use Rattle.cw_tree.specs.declared.statement.RawBlock.{RawBlock, out-RawBlock, roll-RawBlock}
use Rattle.cw_tree.specs.declared.statement.RawProc.{RawProc, out-RawProc, roll-RawProc}
use Rattle.cw_tree.specs.declared.statement.RawStmt.{RawStmt, out-RawStmt, roll-RawStmt}
use Rattle.cw_tree.specs.declared.statement.RawDecl.TheOpen as layer
use Rattle.cw_tree.specs.declared.statement.RawDecl.TheOpen.{RawForm-F, RawSimple-F, RawBlock-F, RawProc-F, RawStmt-F}
use Rattle.cw_tree.specs.declared.statement.RawDecl.TheViews.{roll-out-RawDecl, roll-out-RawForm, roll-out-RawSimple, roll-out-RawBlock, roll-out-RawProc, roll-out-RawStmt}
use Rattle.cw_tree.specs.declared.statement.RawDecl.TheFolds.{para-roll-RawDecl, para-roll-RawForm, para-roll-RawSimple, para-roll-RawBlock, para-roll-RawProc, para-roll-RawStmt}
use Rattle.cw_scope.specs.declared.resolve.Named.{Named}
use Rattle.cw_unit.specs.declared.unit.Proc.{Proc}
use Rattle.cw_make_items.specs.Lookup.{Numbers}
use Rattle.cw_make.specs.Procedures.{Procs, joined, proc_of, declaration_step, form_step, simple_step, block_step, procedure_step, statement_step, declaration_procs, form_procs, simple_procs, block_procs, procedure_procs, statement_procs}

module _ (named : Named) (numbers : Numbers) where
  abbrev pub declaration_layer : RawDecl-F RawDecl RawForm RawSimple RawBlock RawProc RawStmt → Procs
  declaration_layer (layer.Data d) = []
  declaration_layer (layer.Overlay at b d) = []
  declaration_layer (layer.Switch at n labels) = []
  declaration_layer (layer.Proc p) = proc_of named numbers p ∷ procedure_procs named numbers p

  in_declaration : (x : RawDecl-F RawDecl RawForm RawSimple RawBlock RawProc RawStmt) → declaration_procs named numbers (roll-RawDecl x) ≡ declaration_layer x
  unfolding declaration_procs form_procs simple_procs block_procs procedure_procs statement_procs
  in_declaration (layer.Data d) = para-roll-RawDecl Procs Procs Procs Procs Procs Procs (declaration_step named numbers) (form_step named numbers) (simple_step named numbers) (block_step named numbers) (procedure_step named numbers) (statement_step named numbers) (layer.Data d)
  in_declaration x = para-roll-RawDecl Procs Procs Procs Procs Procs Procs (declaration_step named numbers) (form_step named numbers) (simple_step named numbers) (block_step named numbers) (procedure_step named numbers) (statement_step named numbers) x

  pub declaration_alone : (d : RawDecl) → ((p : RawProc) → d ≡ decl.Proc p → ⊥) → declaration_procs named numbers d ≡ []
  declaration_alone d other = ap (declaration_procs named numbers) (sym (roll-out-RawDecl d)) ∙ go (out-RawDecl d) (roll-out-RawDecl d)
    where
      go : (x : RawDecl-F RawDecl RawForm RawSimple RawBlock RawProc RawStmt) → roll-RawDecl x ≡ d → declaration_procs named numbers (roll-RawDecl x) ≡ []
      go (layer.Proc p) is = absurd (other p (sym is ∙ decl.rolls-Proc p))
      go x is = in_declaration x

  pub of_proc : (p : RawProc) → declaration_procs named numbers (decl.Proc p) ≡ proc_of named numbers p ∷ procedure_procs named numbers p
  of_proc p = ap (declaration_procs named numbers) (sym (decl.rolls-Proc p)) ∙ in_declaration (layer.Proc p)

  abbrev pub statements_if : Option RawStmt → Procs
  statements_if None = []
  statements_if (Some s) = statement_procs named numbers s

  abbrev pub form_layer : RawForm-F RawDecl RawForm RawSimple RawBlock RawProc RawStmt → Procs
  form_layer (layer.Simple s) = simple_procs named numbers s
  form_layer (layer.If at test labels first second) = simple_procs named numbers first ++ statements_if second
  form_layer (layer.For at variable elems body) = statement_procs named numbers body

  in_form : (x : RawForm-F RawDecl RawForm RawSimple RawBlock RawProc RawStmt) → form_procs named numbers (roll-RawForm x) ≡ form_layer x
  unfolding declaration_procs form_procs simple_procs block_procs procedure_procs statement_procs
  in_form (layer.If at test labels first None) = para-roll-RawForm Procs Procs Procs Procs Procs Procs (declaration_step named numbers) (form_step named numbers) (simple_step named numbers) (block_step named numbers) (procedure_step named numbers) (statement_step named numbers) (layer.If at test labels first None)
  in_form (layer.If at test labels first (Some s)) = para-roll-RawForm Procs Procs Procs Procs Procs Procs (declaration_step named numbers) (form_step named numbers) (simple_step named numbers) (block_step named numbers) (procedure_step named numbers) (statement_step named numbers) (layer.If at test labels first (Some s))
  in_form x = para-roll-RawForm Procs Procs Procs Procs Procs Procs (declaration_step named numbers) (form_step named numbers) (simple_step named numbers) (block_step named numbers) (procedure_step named numbers) (statement_step named numbers) x

  pub of_simple_form : (x : RawSimple) → form_procs named numbers (form.Simple x) ≡ simple_procs named numbers x
  of_simple_form x = ap (form_procs named numbers) (sym (form.rolls-Simple x)) ∙ in_form (layer.Simple x)

  pub of_if : (at : Position) (test : RawCond) (labels : List RawName) (first : RawSimple) → form_procs named numbers (form.If at test labels first None) ≡ simple_procs named numbers first ++ []
  of_if at test labels first = ap (form_procs named numbers) (sym (form.rolls-If at test labels first None)) ∙ in_form (layer.If at test labels first None)

  pub of_if_else : (at : Position) (test : RawCond) (labels : List RawName) (first : RawSimple) (x : RawStmt)
      → form_procs named numbers (form.If at test labels first (Some x)) ≡ simple_procs named numbers first ++ statement_procs named numbers x
  of_if_else at test labels first x = ap (form_procs named numbers) (sym (form.rolls-If at test labels first (Some x))) ∙ in_form (layer.If at test labels first (Some x))

  pub of_for : (at : Position) (variable : RawRef) (elems : List RawFelem) (body : RawStmt) → form_procs named numbers (form.For at variable elems body) ≡ statement_procs named numbers body
  of_for at variable elems body = ap (form_procs named numbers) (sym (form.rolls-For at variable elems body)) ∙ in_form (layer.For at variable elems body)

  abbrev pub simple_layer : RawSimple-F RawDecl RawForm RawSimple RawBlock RawProc RawStmt → Procs
  simple_layer (layer.Block b) = block_procs named numbers b
  simple_layer _ = []

  in_simple : (x : RawSimple-F RawDecl RawForm RawSimple RawBlock RawProc RawStmt) → simple_procs named numbers (roll-RawSimple x) ≡ simple_layer x
  unfolding declaration_procs form_procs simple_procs block_procs procedure_procs statement_procs
  in_simple layer.Empty = para-roll-RawSimple Procs Procs Procs Procs Procs Procs (declaration_step named numbers) (form_step named numbers) (simple_step named numbers) (block_step named numbers) (procedure_step named numbers) (statement_step named numbers) layer.Empty
  in_simple x = para-roll-RawSimple Procs Procs Procs Procs Procs Procs (declaration_step named numbers) (form_step named numbers) (simple_step named numbers) (block_step named numbers) (procedure_step named numbers) (statement_step named numbers) x

  pub simple_alone : (s : RawSimple) → ((b : RawBlock) → s ≡ simple.Block b → ⊥) → simple_procs named numbers s ≡ []
  simple_alone s other = ap (simple_procs named numbers) (sym (roll-out-RawSimple s)) ∙ go (out-RawSimple s) (roll-out-RawSimple s)
    where
      go : (x : RawSimple-F RawDecl RawForm RawSimple RawBlock RawProc RawStmt) → roll-RawSimple x ≡ s → simple_procs named numbers (roll-RawSimple x) ≡ []
      go (layer.Block b) is = absurd (other b (sym is ∙ simple.rolls-Block b))
      go x is = in_simple x

  pub of_inner_block : (b : RawBlock) → simple_procs named numbers (simple.Block b) ≡ block_procs named numbers b
  of_inner_block b = ap (simple_procs named numbers) (sym (simple.rolls-Block b)) ∙ in_simple (layer.Block b)

  abbrev pub all_declared : List RawDecl → Procs
  all_declared [] = []
  all_declared (d ∷ ds) = declaration_procs named numbers d ++ all_declared ds

  abbrev pub all_in : List RawStmt → Procs
  all_in [] = []
  all_in (s ∷ ss) = statement_procs named numbers s ++ all_in ss

  declared_beside : (ds : List RawDecl) → joined (map (λ d. (d, declaration_procs named numbers d)) ds) ≡ all_declared ds
  declared_beside [] = refl
  declared_beside (d ∷ ds) = ap (λ ps. declaration_procs named numbers d ++ ps) (declared_beside ds)

  all_beside : (ss : List RawStmt) → joined (map (λ s. (s, statement_procs named numbers s)) ss) ≡ all_in ss
  all_beside [] = refl
  all_beside (s ∷ ss) = ap (λ ps. statement_procs named numbers s ++ ps) (all_beside ss)

  in_block : (x : RawBlock-F RawDecl RawForm RawSimple RawBlock RawProc RawStmt) → block_procs named numbers (roll-RawBlock x) ≡ joined (map (λ d. (d, declaration_procs named numbers d)) x.decls) ++ joined (map (λ s. (s, statement_procs named numbers s)) x.stmts)
  unfolding declaration_procs form_procs simple_procs block_procs procedure_procs statement_procs
  in_block x = para-roll-RawBlock Procs Procs Procs Procs Procs Procs (declaration_step named numbers) (form_step named numbers) (simple_step named numbers) (block_step named numbers) (procedure_step named numbers) (statement_step named numbers) x

  pub of_block : (b : RawBlock) → block_procs named numbers b ≡ all_declared (out-RawBlock b).decls ++ all_in (out-RawBlock b).stmts
  of_block b =
      ap (block_procs named numbers) (sym (roll-out-RawBlock b)) ∙ in_block (out-RawBlock b)
      ∙ ap (λ ps. ps ++ joined (map (λ s. (s, statement_procs named numbers s)) (out-RawBlock b).stmts)) (declared_beside (out-RawBlock b).decls)
      ∙ ap (λ ps. all_declared (out-RawBlock b).decls ++ ps) (all_beside (out-RawBlock b).stmts)

  in_procedure : (x : RawProc-F RawDecl RawForm RawSimple RawBlock RawProc RawStmt) → procedure_procs named numbers (roll-RawProc x) ≡ statement_procs named numbers x.body
  unfolding declaration_procs form_procs simple_procs block_procs procedure_procs statement_procs
  in_procedure x = para-roll-RawProc Procs Procs Procs Procs Procs Procs (declaration_step named numbers) (form_step named numbers) (simple_step named numbers) (block_step named numbers) (procedure_step named numbers) (statement_step named numbers) x

  pub of_procedure : (p : RawProc) → procedure_procs named numbers p ≡ statement_procs named numbers (out-RawProc p).body
  of_procedure p = ap (procedure_procs named numbers) (sym (roll-out-RawProc p)) ∙ in_procedure (out-RawProc p)

  in_statement : (x : RawStmt-F RawDecl RawForm RawSimple RawBlock RawProc RawStmt) → statement_procs named numbers (roll-RawStmt x) ≡ form_procs named numbers x.form
  unfolding declaration_procs form_procs simple_procs block_procs procedure_procs statement_procs
  in_statement x = para-roll-RawStmt Procs Procs Procs Procs Procs Procs (declaration_step named numbers) (form_step named numbers) (simple_step named numbers) (block_step named numbers) (procedure_step named numbers) (statement_step named numbers) x

  pub of_statement : (s : RawStmt) → statement_procs named numbers s ≡ form_procs named numbers (out-RawStmt s).form
  of_statement s = ap (statement_procs named numbers) (sym (roll-out-RawStmt s)) ∙ in_statement (out-RawStmt s)

  -- both loops have ended
  pub block_done : (b : RawBlock) (ds : List RawDecl) (ss : List RawStmt) (i j : ℕ) (o0 o1 o2 : Procs) → ds ≡ (out-RawBlock b).decls → ss ≡ (out-RawBlock b).stmts
      → length ds ≤ i → length ss ≤ j → o1 ++ all_declared (drop i ds) ≡ o0 ++ all_declared ds → o2 ++ all_in (drop j ss) ≡ o1 ++ all_in ss → o2 ≡ o0 ++ block_procs named numbers b
  block_done b ds ss i j o0 o1 o2 ed es hi hj h1 h2 =
      sym (append-nil o2) ∙ ap (λ l. o2 ++ all_in l) (sym (drop_all j ss hj)) ∙ h2
      ∙ ap (λ o. o ++ all_in ss) (sym (append-nil o1) ∙ ap (λ l. o1 ++ all_declared l) (sym (drop_all i ds hi)) ∙ h1)
      ∙ append_assoc o0 (all_declared ds) (all_in ss)
      ∙ ap (λ l. o0 ++ (all_declared l ++ all_in ss)) ed ∙ ap (λ l. o0 ++ (all_declared (out-RawBlock b).decls ++ all_in l)) es
      ∙ ap (λ ps. o0 ++ ps) (sym (of_block b))

  pub proc_more : (d : RawDecl) (p p' p'' : RawProc) (made : Proc) (o0 o1 o2 : Procs) → d ≡ decl.Proc p → p' ≡ p → p'' ≡ p → made ≡ proc_of named numbers p'
      → o1 ≡ o0 ++ made ∷ [] → o2 ≡ o1 ++ procedure_procs named numbers p'' → o2 ≡ o0 ++ declaration_procs named numbers d
  proc_more d p p' p'' made o0 o1 o2 ed ep eq em e1 e2 =
      e2 ∙ ap (λ o. o ++ procedure_procs named numbers p'') e1 ∙ append_assoc o0 (made ∷ []) (procedure_procs named numbers p'')
      ∙ ap (λ m. o0 ++ m ∷ procedure_procs named numbers p'') (em ∙ ap (proc_of named numbers) ep)
      ∙ ap (λ q. o0 ++ proc_of named numbers p ∷ procedure_procs named numbers q) eq
      ∙ ap (λ ps. o0 ++ ps) (sym (of_proc p)) ∙ ap (λ x. o0 ++ declaration_procs named numbers x) (sym ed)

  pub if_done : (f : RawForm) (at : Position) (test : RawCond) (labels : List RawName) (first first' : RawSimple) (second : Option RawStmt) (o0 o1 : Procs)
      → f ≡ form.If at test labels first second → second ≡ None → first' ≡ first → o1 ≡ o0 ++ simple_procs named numbers first' → o1 ≡ o0 ++ form_procs named numbers f
  if_done f at test labels first first' second o0 o1 ef es e1 e =
      e ∙ ap (λ x. o0 ++ simple_procs named numbers x) e1 ∙ ap (λ ps. o0 ++ ps) (sym (append-nil (simple_procs named numbers first)) ∙ sym (of_if at test labels first))
      ∙ ap (λ x. o0 ++ form_procs named numbers (form.If at test labels first x)) (sym es) ∙ ap (λ x. o0 ++ form_procs named numbers x) (sym ef)

  pub if_else_done : (f : RawForm) (at : Position) (test : RawCond) (labels : List RawName) (first first' : RawSimple) (second : Option RawStmt) (x x' : RawStmt) (o0 o1 o2 : Procs)
      → f ≡ form.If at test labels first second → second ≡ Some x → first' ≡ first → x' ≡ x → o1 ≡ o0 ++ simple_procs named numbers first'
      → o2 ≡ o1 ++ statement_procs named numbers x' → o2 ≡ o0 ++ form_procs named numbers f
  if_else_done f at test labels first first' second x x' o0 o1 o2 ef es e1 ex e e' =
      e' ∙ ap (λ o. o ++ statement_procs named numbers x') e ∙ append_assoc o0 (simple_procs named numbers first') (statement_procs named numbers x')
      ∙ ap (λ y. o0 ++ (simple_procs named numbers y ++ statement_procs named numbers x')) e1 ∙ ap (λ y. o0 ++ (simple_procs named numbers first ++ statement_procs named numbers y)) ex
      ∙ ap (λ ps. o0 ++ ps) (sym (of_if_else at test labels first x))
      ∙ ap (λ y. o0 ++ form_procs named numbers (form.If at test labels first y)) (sym es) ∙ ap (λ y. o0 ++ form_procs named numbers y) (sym ef)

pub nothing_more : (procs o : Procs) → procs ≡ [] → o ≡ o ++ procs
nothing_more procs o none = sym (append-nil o) ∙ ap (λ l. o ++ l) (sym none)
