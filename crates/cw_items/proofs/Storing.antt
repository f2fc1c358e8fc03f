-- What is stored is added to what is before, by what a statement or a declaration consists of.
use Rattle.std.proofs.Common.{◌≡◌, ◌<◌, ◌≤◌, ℕ, zero, suc, ◌+◌, Bool, List, [], ◌∷◌, ◌++◌, length, map, drop, get_or, Option, Some, None, sym, ap, ap₂, ◌∙◌}
use Rattle.std.proofs.Common.{append_assoc, append-nil, add-one, arith}
use Rattle.std.proofs.lemmas.List.{drop_all}
use Rattle.cw_tree.specs.declared.leaf.Position.{Position}
use Rattle.cw_tree.specs.declared.leaf.RawName.{RawName}
use Rattle.cw_tree.specs.declared.expression.RawBits.{RawBits}
use Rattle.cw_tree.specs.declared.expression.RawCond.{RawCond}
use Rattle.cw_tree.specs.declared.expression.RawExpr.{RawExpr}
use Rattle.cw_tree.specs.declared.expression.RawRef.{RawRef}
use Rattle.cw_tree.specs.declared.items.RawBase.{RawBase}
use Rattle.cw_tree.specs.declared.items.RawData.{RawData}
use Rattle.cw_tree.specs.declared.statement.RawFelem.{RawFelem}
use Rattle.cw_tree.specs.declared.statement.RawParam.{RawParam}
use Rattle.cw_tree.specs.declared.statement.RawDecl.TheVariants as decl
use Rattle.cw_tree.specs.declared.statement.RawForm.TheVariants as form
use Rattle.cw_tree.specs.declared.statement.RawSimple.TheVariants as simple
use Rattle.cw_tree.specs.declared.statement.RawDecl.{RawDecl}
use Rattle.cw_tree.specs.declared.statement.RawForm.{RawForm}
use Rattle.cw_tree.specs.declared.statement.RawSimple.{RawSimple}
use Rattle.cw_tree.specs.declared.statement.RawBlock.{RawBlock, out-RawBlock}
use Rattle.cw_tree.specs.declared.statement.RawProc.{RawProc, out-RawProc}
use Rattle.cw_tree.specs.declared.statement.RawStmt.{RawStmt, out-RawStmt}
use Rattle.cw_tree.proofs.Statements.{StatementSteps, statement_steps, of_block-out, of_declaration-Data, of_declaration-Overlay, of_declaration-Proc, of_declaration-Switch, of_form-For, of_form-If-None, of_form-If-Some, of_form-Simple, of_procedure-out, of_simple-Answer, of_simple-Assign, of_simple-AssignBits, of_simple-Block, of_simple-Call, of_simple-Empty, of_simple-Goto, of_simple-GotoSwitch, of_statement-out}
use Rattle.cw_facts.specs.declared.fact.Reading.TheVariants as reading
use Rattle.cw_facts.specs.Uses.{expression_uses, condition_uses, reference_uses, argument_uses}
use Rattle.cw_scope.specs.declared.resolve.Named.{Named}
use Rattle.cw_items.specs.declared.thing.Base.{Base}
use Rattle.cw_items.specs.declared.thing.Owner.{Owner}
use Rattle.cw_items.specs.declared.thing.Sort.TheVariants as sort
use Rattle.cw_items.specs.declared.thing.Thing.{Thing}
use Rattle.cw_items.specs.Things.{Things, thing, base_at, data_things, parameters_things, texts, joined, felems_things, is_recursive}
use Rattle.cw_items.specs.Things.{declaration_step, form_step, simple_step, block_step, procedure_step, statement_step}
use Rattle.cw_items.specs.Things.{declaration_things, form_things, simple_things, block_things, procedure_things, statement_things}

-- nothing is added for what stores nothing
pub nothing_more : (whole out : List Thing) → whole ≡ [] → out ≡ out ++ whole
nothing_more whole out e = sym (append-nil out) ∙ ap (λ l. out ++ l) (sym e)

pub two_parts : (xs ys o0 o1 o2 : List Thing) → o1 ≡ o0 ++ xs → o2 ≡ o1 ++ ys → o2 ≡ o0 ++ (xs ++ ys)
two_parts xs ys o0 o1 o2 e1 e2 = e2 ∙ ap (λ l. l ++ ys) e1 ∙ append_assoc o0 xs ys

-- what is added is the whole
pub as_whole : (whole part o0 o1 : List Thing) → whole ≡ part → o1 ≡ o0 ++ part → o1 ≡ o0 ++ whole
as_whole whole part o0 o1 is e = e ∙ ap (λ l. o0 ++ l) (sym is)

-- ---- loops over parts

next_joined : {X : Type 0} (part : X → Things) (xs : List X) (i : ℕ) (x : X) (o : Option Owner) → i < length xs → x ≡ get_or xs i x
    → joined (map part (drop i xs)) o ≡ part x o ++ joined (map part (drop (suc i) xs)) o
next_joined part [] i x o h e = absurd (omega arith)
next_joined part (y ∷ ys) zero x o h e = ap (λ z. part z o ++ joined (map part ys) o) (sym e)
next_joined part (y ∷ ys) (suc i) x o h e = next_joined part ys i x o (omega arith) e

pub one_joined : {X : Type 0} (part : X → Things) (xs : List X) (i : ℕ) (x : X) (o : Option Owner) (o0 o1 o2 : List Thing) → i < length xs → x ≡ get_or xs i x
    → o2 ≡ o1 ++ part x o
    → o1 ++ joined (map part (drop i xs)) o ≡ o0 ++ joined (map part xs) o → o2 ++ joined (map part (drop (i + 1) xs)) o ≡ o0 ++ joined (map part xs) o
one_joined part xs i x o o0 o1 o2 h is e before =
    let rest = joined (map part (drop (suc i) xs)) o in
    rw add-one (ap (λ l. l ++ rest) e ∙ append_assoc o1 (part x o) rest ∙ ap (λ l. o1 ++ l) (sym (next_joined part xs i x o h is)) ∙ before)

all_joined : {X : Type 0} (part : X → Things) (xs : List X) (i : ℕ) (o : Option Owner) (o0 o1 : List Thing) → length xs ≤ i
    → o1 ++ joined (map part (drop i xs)) o ≡ o0 ++ joined (map part xs) o → o1 ≡ o0 ++ joined (map part xs) o
all_joined part xs i o o0 o1 h e = sym (append-nil o1) ∙ ap (λ l. o1 ++ joined (map part l) o) (sym (drop_all i xs h)) ∙ e

module _ (named : Named) where
  -- ---- of a layer whose parts are trees

  abbrev steps : StatementSteps Things Things Things Things Things Things
  steps = statement_steps (declaration_step named) (form_step named) (simple_step named) (block_step named) (procedure_step named) (statement_step named)

  -- ---- declarations

  pub data_more : (d : RawDecl) (o : Option Owner) (x : RawData) (o0 o1 : List Thing) → d ≡ decl.Data x → o1 ≡ o0 ++ data_things o None x
      → o1 ≡ o0 ++ declaration_things named d o
  data_more d o x o0 o1 is =
      as_whole (declaration_things named d o) (data_things o None x) o0 o1
      (ap (λ (y : RawDecl). declaration_things named y o) is ∙ ap (λ (z : Things). z o) (of_declaration-Data steps x))

  pub overlay_more : (d : RawDecl) (o : Option Owner) (at : Position) (b : RawBase) (x : RawData) (k : Base) (o0 o1 : List Thing) → d ≡ decl.Overlay at b x
      → k ≡ base_at named b
      → o1 ≡ o0 ++ data_things o (Some k) x → o1 ≡ o0 ++ declaration_things named d o
  overlay_more d o at b x k o0 o1 is at_base =
      as_whole (declaration_things named d o) (data_things o (Some k) x) o0 o1
      (ap (λ (y : RawDecl). declaration_things named y o) is ∙ ap (λ (z : Things). z o) (of_declaration-Overlay steps at b x)
      ∙ ap (λ y. data_things o (Some y) x) (sym at_base))

  pub switch_stores : (d : RawDecl) (o : Option Owner) (at : Position) (n : RawName) (labels : List RawName) → d ≡ decl.Switch at n labels → declaration_things named d o ≡ []
  switch_stores d o at n labels is =
      ap (λ (y : RawDecl). declaration_things named y o) is ∙ ap (λ (z : Things). z o) (of_declaration-Switch steps at n labels)

  pub procedure_more : (d : RawDecl) (o : Option Owner) (p p' : RawProc) (o0 o1 : List Thing) → d ≡ decl.Proc p → p' ≡ p → o1 ≡ o0 ++ procedure_things named p' o
      → o1 ≡ o0 ++ declaration_things named d o
  procedure_more d o p p' o0 o1 is same =
      as_whole (declaration_things named d o) (procedure_things named p' o) o0 o1
      (ap (λ (y : RawDecl). declaration_things named y o) is ∙ ap (λ (z : Things). z o) (of_declaration-Proc steps p)
      ∙ ap (λ (y : RawProc). procedure_things named y o) (sym same))

  pub owned_more : (p : RawProc) (around : Option Owner) (recursive : Bool) (s : RawStmt) (params : List RawParam) (o0 o1 o2 : List Thing)
      → recursive ≡ is_recursive (out-RawProc p).tag → params ≡ (out-RawProc p).params → s ≡ (out-RawProc p).body
      → o1 ≡ o0 ++ parameters_things (Some (record { token = (out-RawProc p).name.at.token; recursive = recursive })) params
      → o2 ≡ o1 ++ statement_things named s (Some (record { token = (out-RawProc p).name.at.token; recursive = recursive }))
      → o2 ≡ o0 ++ procedure_things named p around
  owned_more p around recursive s params o0 o1 o2 r ps b e1 e2 =
      let own : Bool → Option Owner = λ y. Some (record { token = (out-RawProc p).name.at.token; recursive = y }) in
      let here = own (is_recursive (out-RawProc p).tag) in
      two_parts (parameters_things (own recursive) params) (statement_things named s (own recursive)) o0 o1 o2 e1 e2
      ∙ ap (λ y. o0 ++ (parameters_things (own y) params ++ statement_things named s (own y))) r
      ∙ ap₂ (λ (l : List RawParam) (y : RawStmt). o0 ++ (parameters_things here l ++ statement_things named y here)) ps b
      ∙ ap (λ l. o0 ++ l) (sym (ap (λ (f : Things). f around) (of_procedure-out steps p)))

  -- ---- statements

  pub statement_more : (s : RawStmt) (o : Option Owner) (f : RawForm) (o0 o1 : List Thing) → f ≡ (out-RawStmt s).form → o1 ≡ o0 ++ form_things named f o
      → o1 ≡ o0 ++ statement_things named s o
  statement_more s o f o0 o1 same =
      as_whole (statement_things named s o) (form_things named f o) o0 o1
      (ap (λ (g : Things). g o) (of_statement-out steps s)
      ∙ ap (λ (y : RawForm). form_things named y o) (sym same))

  pub simple_more : (f : RawForm) (o : Option Owner) (s s' : RawSimple) (o0 o1 : List Thing) → f ≡ form.Simple s → s' ≡ s → o1 ≡ o0 ++ simple_things named s' o
      → o1 ≡ o0 ++ form_things named f o
  simple_more f o s s' o0 o1 is same =
      as_whole (form_things named f o) (simple_things named s' o) o0 o1
      (ap (λ (y : RawForm). form_things named y o) is ∙ ap (λ (z : Things). z o) (of_form-Simple steps s)
      ∙ ap (λ (y : RawSimple). simple_things named y o) (sym same))

  tested : (o : Option Owner) (test test' : RawCond) (s s' : RawSimple) (o0 o1 o2 : List Thing) → test' ≡ test → s' ≡ s
      → o1 ≡ o0 ++ texts o (condition_uses test' reading.Value)
      → o2 ≡ o1 ++ simple_things named s' o → o2 ≡ o0 ++ (texts o (condition_uses test reading.Value) ++ simple_things named s o)
  tested o test test' s s' o0 o1 o2 ht hs e1 e2 =
      two_parts (texts o (condition_uses test' reading.Value)) (simple_things named s' o) o0 o1 o2 e1 e2
      ∙ ap₂ (λ (x : RawCond) (y : RawSimple). o0 ++ (texts o (condition_uses x reading.Value) ++ simple_things named y o)) ht hs

  pub if_more : (f : RawForm) (o : Option Owner) (at : Position) (test test' : RawCond) (labels : List RawName) (s s' : RawSimple) (second : Option RawStmt) (o0 o1 o2 : List Thing)
      → f ≡ form.If at test labels s second → second ≡ None → test' ≡ test → s' ≡ s → o1 ≡ o0 ++ texts o (condition_uses test' reading.Value)
      → o2 ≡ o1 ++ simple_things named s' o
      → o2 ≡ o0 ++ form_things named f o
  if_more f o at test test' labels s s' second o0 o1 o2 is none ht hs e1 e2 =
      tested o test test' s s' o0 o1 o2 ht hs e1 e2
      ∙ ap (λ l. o0 ++ (texts o (condition_uses test reading.Value) ++ l)) (sym (append-nil (simple_things named s o)))
      ∙ ap (λ l. o0 ++ l) (sym (ap (λ (y : RawForm). form_things named y o) (is ∙ ap (form.If at test labels s) none) ∙ ap (λ (z : Things). z o) (of_form-If-None steps at test labels s)))

  pub if_else_more : (f : RawForm) (o : Option Owner) (at : Position) (test test' : RawCond) (labels : List RawName) (s s' : RawSimple) (second : Option RawStmt)
      (x x' : RawStmt) (o0 o1 o2 o3 : List Thing)
      → f ≡ form.If at test labels s second → second ≡ Some x → test' ≡ test → s' ≡ s → x' ≡ x → o1 ≡ o0 ++ texts o (condition_uses test' reading.Value)
      → o2 ≡ o1 ++ simple_things named s' o
      → o3 ≡ o2 ++ statement_things named x' o → o3 ≡ o0 ++ form_things named f o
  if_else_more f o at test test' labels s s' second x x' o0 o1 o2 o3 is some ht hs hx e1 e2 e3 =
      let t = texts o (condition_uses test reading.Value) in
      let first = simple_things named s o in
      two_parts (t ++ first) (statement_things named x o) o0 o2 o3 (tested o test test' s s' o0 o1 o2 ht hs e1 e2)
      (e3 ∙ ap (λ (y : RawStmt). o2 ++ statement_things named y o) hx)
      ∙ ap (λ l. o0 ++ l) (append_assoc t first (statement_things named x o))
      ∙ ap (λ l. o0 ++ l) (sym (ap (λ (y : RawForm). form_things named y o) (is ∙ ap (form.If at test labels s) some) ∙ ap (λ (z : Things). z o) (of_form-If-Some steps at test labels s x)))

  pub for_more : (f : RawForm) (o : Option Owner) (at : Position) (v v' : RawRef) (es es' : List RawFelem) (b b' : RawStmt) (o0 o1 o2 o3 o4 : List Thing)
      → f ≡ form.For at v es b → v' ≡ v → es' ≡ es → b' ≡ b → o1 ≡ o0 ++ thing sort.Loop at o None 4 ∷ [] → o2 ≡ o1 ++ texts o (reference_uses v' reading.Whole)
      → o3 ≡ o2 ++ felems_things es' o → o4 ≡ o3 ++ statement_things named b' o → o4 ≡ o0 ++ form_things named f o
  for_more f o at v v' es es' b b' o0 o1 o2 o3 o4 is hv hes hb e1 e2 e3 e4 =
      let word = thing sort.Loop at o None 4 ∷ [] in
      let variable = texts o (reference_uses v reading.Whole) in
      let values = felems_things es o in
      let body = statement_things named b o in
      let e2' = e2 ∙ ap (λ (y : RawRef). o1 ++ texts o (reference_uses y reading.Whole)) hv in
      let e3' = e3 ∙ ap (λ (y : List RawFelem). o2 ++ felems_things y o) hes in
      let e4' = e4 ∙ ap (λ (y : RawStmt). o3 ++ statement_things named y o) hb in
      two_parts word (variable ++ (values ++ body)) o0 o1 o4 e1 (two_parts variable (values ++ body) o1 o2 o4 e2' (two_parts values body o2 o3 o4 e3' e4'))
      ∙ ap (λ l. o0 ++ l) (sym (ap (λ (y : RawForm). form_things named y o) is ∙ ap (λ (z : Things). z o) (of_form-For steps at v es b)))

  -- ---- simple statements

  pub empty_stores : (s : RawSimple) (o : Option Owner) → s ≡ simple.Empty → simple_things named s o ≡ []
  empty_stores s o is = ap (λ (y : RawSimple). simple_things named y o) is ∙ ap (λ (z : Things). z o) (of_simple-Empty steps)

  pub goto_stores : (s : RawSimple) (o : Option Owner) (at : Position) (n : RawName) → s ≡ simple.Goto at n → simple_things named s o ≡ []
  goto_stores s o at n is = ap (λ (y : RawSimple). simple_things named y o) is ∙ ap (λ (z : Things). z o) (of_simple-Goto steps at n)

  pub assign_more : (s : RawSimple) (o : Option Owner) (r r' : RawRef) (e e' : RawExpr) (o0 o1 : List Thing) → s ≡ simple.Assign r e → r' ≡ r → e' ≡ e
      → o1 ≡ o0 ++ texts o (reference_uses r' reading.Target ++ expression_uses e' reading.Value) → o1 ≡ o0 ++ simple_things named s o
  assign_more s o r r' e e' o0 o1 is hr he =
      as_whole (simple_things named s o) (texts o (reference_uses r' reading.Target ++ expression_uses e' reading.Value)) o0 o1
      (ap (λ (y : RawSimple). simple_things named y o) is ∙ ap (λ (z : Things). z o) (of_simple-Assign steps r e)
      ∙ ap₂ (λ (x : RawRef) (y : RawExpr). texts o (reference_uses x reading.Target ++ expression_uses y reading.Value)) (sym hr) (sym he))

  pub assign_bits_more : (s : RawSimple) (o : Option Owner) (bits : RawBits) (r r' : RawRef) (e e' : RawExpr) (o0 o1 : List Thing) → s ≡ simple.AssignBits bits r e → r' ≡ r
      → e' ≡ e
      → o1 ≡ o0 ++ texts o (reference_uses r' reading.Whole ++ expression_uses e' reading.Value) → o1 ≡ o0 ++ simple_things named s o
  assign_bits_more s o bits r r' e e' o0 o1 is hr he =
      as_whole (simple_things named s o) (texts o (reference_uses r' reading.Whole ++ expression_uses e' reading.Value)) o0 o1
      (ap (λ (y : RawSimple). simple_things named y o) is ∙ ap (λ (z : Things). z o) (of_simple-AssignBits steps bits r e)
      ∙ ap₂ (λ (x : RawRef) (y : RawExpr). texts o (reference_uses x reading.Whole ++ expression_uses y reading.Value)) (sym hr) (sym he))

  pub goto_switch_more : (s : RawSimple) (o : Option Owner) (at : Position) (n : RawName) (e e' : RawExpr) (o0 o1 : List Thing) → s ≡ simple.GotoSwitch at n e → e' ≡ e
      → o1 ≡ o0 ++ texts o (expression_uses e' reading.Value) → o1 ≡ o0 ++ simple_things named s o
  goto_switch_more s o at n e e' o0 o1 is he =
      as_whole (simple_things named s o) (texts o (expression_uses e' reading.Value)) o0 o1
      (ap (λ (y : RawSimple). simple_things named y o) is ∙ ap (λ (z : Things). z o) (of_simple-GotoSwitch steps at n e) ∙ ap (λ (y : RawExpr). texts o (expression_uses y reading.Value)) (sym he))

  pub call_statement_more : (s : RawSimple) (o : Option Owner) (n : RawName) (es es' : List RawExpr) (o0 o1 : List Thing) → s ≡ simple.Call n es → es' ≡ es
      → o1 ≡ o0 ++ texts o (argument_uses es') → o1 ≡ o0 ++ simple_things named s o
  call_statement_more s o n es es' o0 o1 is same =
      as_whole (simple_things named s o) (texts o (argument_uses es')) o0 o1
      (ap (λ (y : RawSimple). simple_things named y o) is ∙ ap (λ (z : Things). z o) (of_simple-Call steps n es) ∙ ap (λ (l : List RawExpr). texts o (argument_uses l)) (sym same))

  pub answer_more : (s : RawSimple) (o : Option Owner) (at : Position) (e e' : RawExpr) (o0 o1 : List Thing) → s ≡ simple.Answer at e → e' ≡ e
      → o1 ≡ o0 ++ texts o (expression_uses e' reading.Value) → o1 ≡ o0 ++ simple_things named s o
  answer_more s o at e e' o0 o1 is he =
      as_whole (simple_things named s o) (texts o (expression_uses e' reading.Value)) o0 o1
      (ap (λ (y : RawSimple). simple_things named y o) is ∙ ap (λ (z : Things). z o) (of_simple-Answer steps at e) ∙ ap (λ (y : RawExpr). texts o (expression_uses y reading.Value)) (sym he))

  pub block_more : (s : RawSimple) (o : Option Owner) (b b' : RawBlock) (o0 o1 : List Thing) → s ≡ simple.Block b → b' ≡ b → o1 ≡ o0 ++ block_things named b' o
      → o1 ≡ o0 ++ simple_things named s o
  block_more s o b b' o0 o1 is same =
      as_whole (simple_things named s o) (block_things named b' o) o0 o1
      (ap (λ (y : RawSimple). simple_things named y o) is ∙ ap (λ (z : Things). z o) (of_simple-Block steps b) ∙ ap (λ (y : RawBlock). block_things named y o) (sym same))

  -- the declarations of a block, and then its statements
  pub block_done : (b : RawBlock) (o : Option Owner) (ds : List RawDecl) (ss : List RawStmt) (i j : ℕ) (o0 o1 o2 : List Thing) → ds ≡ (out-RawBlock b).decls
      → ss ≡ (out-RawBlock b).stmts
      → length ds ≤ i → length ss ≤ j
      → o1 ++ joined (map (declaration_things named) (drop i ds)) o ≡ o0 ++ joined (map (declaration_things named) ds) o
      → o2 ++ joined (map (statement_things named) (drop j ss)) o ≡ o1 ++ joined (map (statement_things named) ss) o
      → o2 ≡ o0 ++ block_things named b o
  block_done b o ds ss i j o0 o1 o2 hd hs hi hj e1 e2 =
      two_parts (joined (map (declaration_things named) ds) o) (joined (map (statement_things named) ss) o) o0 o1 o2
      (all_joined (declaration_things named) ds i o o0 o1 hi e1) (all_joined (statement_things named) ss j o o1 o2 hj e2)
      ∙ ap₂ (λ (xs : List RawDecl) (ys : List RawStmt). o0 ++ (joined (map (declaration_things named) xs) o ++ joined (map (statement_things named) ys) o)) hd hs
      ∙ ap (λ l. o0 ++ l) (sym (ap (λ (f : Things). f o) (of_block-out steps b)))
