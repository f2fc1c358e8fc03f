-- Facts are added to those before, by what a statement or a declaration consists of.
use Rattle.std.proofs.Common.{◌≡◌, ◌<◌, ◌≤◌, ℕ, zero, suc, ◌+◌, List, [], ◌∷◌, ◌++◌, length, map, drop, get_or, Option, Some, None, sym, ap, ap₂, ◌∙◌}
use Rattle.std.proofs.Common.{append_assoc, append-nil, add-one, arith}
use Rattle.std.proofs.lemmas.List.{drop_all}
use Rattle.cw_tree.specs.declared.leaf.Position.{Position}
use Rattle.cw_tree.specs.declared.leaf.RawName.{RawName}
use Rattle.cw_tree.specs.declared.expression.RawBits.{RawBits}
use Rattle.cw_tree.specs.declared.expression.RawCond.{RawCond}
use Rattle.cw_tree.specs.declared.expression.RawExpr.{RawExpr}
use Rattle.cw_tree.specs.declared.expression.RawRef.{RawRef}
use Rattle.cw_tree.specs.declared.items.RawBase.{RawBase}
use Rattle.cw_tree.specs.declared.items.RawData.{RawData}
use Rattle.cw_tree.specs.declared.statement.RawFelem.{RawFelem}
use Rattle.cw_tree.specs.declared.statement.RawDecl.TheVariants as decl
use Rattle.cw_tree.specs.declared.statement.RawForm.TheVariants as forms
use Rattle.cw_tree.specs.declared.statement.RawSimple.TheVariants as simple
use Rattle.cw_tree.specs.declared.statement.RawDecl.{RawDecl}
use Rattle.cw_tree.specs.declared.statement.RawForm.{RawForm}
use Rattle.cw_tree.specs.declared.statement.RawSimple.{RawSimple}
use Rattle.cw_tree.specs.declared.statement.RawBlock.{RawBlock, out-RawBlock}
use Rattle.cw_tree.specs.declared.statement.RawProc.{RawProc}
use Rattle.cw_tree.specs.declared.statement.RawStmt.{RawStmt, out-RawStmt}
use Rattle.cw_tree.proofs.Statements.{StatementSteps, statement_steps, of_declaration-Data, of_declaration-Overlay, of_declaration-Proc, of_declaration-Switch, of_form-For, of_form-If-None, of_form-If-Some, of_form-Simple, of_simple-Answer, of_simple-Assign, of_simple-AssignBits, of_simple-Call, of_simple-Goto, of_simple-GotoSwitch, of_statement-out}
use Rattle.cw_facts.specs.declared.fact.Fact.{Fact}
use Rattle.cw_facts.specs.declared.fact.Fact.TheVariants as fact
use Rattle.cw_facts.specs.declared.fact.Form.TheVariants as form
use Rattle.cw_facts.specs.declared.fact.Kind.TheVariants as kind
use Rattle.cw_facts.specs.declared.fact.Reading.TheVariants as reading
use Rattle.cw_facts.specs.Uses.{uses_of, expression_uses, condition_uses, reference_uses, argument_uses}
use Rattle.cw_facts.specs.Facts.{BlockFacts, joined, declares, each_declares, each_uses, data_facts, base_facts, answer_name, felems_facts}
use Rattle.cw_facts.specs.Facts.{declaration_step, form_step, simple_step, block_step, procedure_step, statement_step}
use Rattle.cw_facts.specs.Facts.{declaration_facts, form_facts, simple_facts, procedure_facts, statement_facts}
use Rattle.cw_facts.proofs.Adding.{two_more, three_more, as_whole}

-- ---- loops over parts

next_joined : {X : Type 0} (part : X → List Fact) (xs : List X) (i : ℕ) (x : X) → i < length xs → x ≡ get_or xs i x
    → joined (map part (drop i xs)) ≡ part x ++ joined (map part (drop (suc i) xs))
next_joined part [] i x h e = absurd (omega arith)
next_joined part (y ∷ ys) zero x h e = ap (λ z. part z ++ joined (map part ys)) (sym e)
next_joined part (y ∷ ys) (suc i) x h e = next_joined part ys i x (omega arith) e

pub one_joined : {X : Type 0} (part : X → List Fact) (xs : List X) (i : ℕ) (x : X) (o0 o1 o2 : List Fact) → i < length xs → x ≡ get_or xs i x → o2 ≡ o1 ++ part x
    → o1 ++ joined (map part (drop i xs)) ≡ o0 ++ joined (map part xs) → o2 ++ joined (map part (drop (i + 1) xs)) ≡ o0 ++ joined (map part xs)
one_joined part xs i x o0 o1 o2 h is e before =
    let rest = joined (map part (drop (suc i) xs)) in
    rw add-one (ap (λ l. l ++ rest) e ∙ append_assoc o1 (part x) rest ∙ ap (λ l. o1 ++ l) (sym (next_joined part xs i x h is)) ∙ before)

all_joined : {X : Type 0} (part : X → List Fact) (xs : List X) (i : ℕ) (o0 o1 : List Fact) → length xs ≤ i
    → o1 ++ joined (map part (drop i xs)) ≡ o0 ++ joined (map part xs) → o1 ≡ o0 ++ joined (map part xs)
all_joined part xs i o0 o1 h e = sym (append-nil o1) ∙ ap (λ l. o1 ++ joined (map part l)) (sym (drop_all i xs h)) ∙ e

-- the declarations of a block, and then its statements
pub parts_done : (b : RawBlock) (ds : List RawDecl) (ss : List RawStmt) (i j : ℕ) (o0 o1 o2 : List Fact) → ds ≡ (out-RawBlock b).decls → ss ≡ (out-RawBlock b).stmts
    → length ds ≤ i → length ss ≤ j
    → o1 ++ joined (map declaration_facts (drop i ds)) ≡ o0 ++ joined (map declaration_facts ds)
    → o2 ++ joined (map statement_facts (drop j ss)) ≡ o1 ++ joined (map statement_facts ss)
    → o2 ≡ o0 ++ (joined (map declaration_facts (out-RawBlock b).decls) ++ joined (map statement_facts (out-RawBlock b).stmts))
parts_done b ds ss i j o0 o1 o2 hd hs hi hj e1 e2 =
    two_more (joined (map declaration_facts ds)) (joined (map statement_facts ss)) o0 o1 o2
    (all_joined declaration_facts ds i o0 o1 hi e1) (all_joined statement_facts ss j o1 o2 hj e2)
    ∙ ap₂ (λ (xs : List RawDecl) (ys : List RawStmt). o0 ++ (joined (map declaration_facts xs) ++ joined (map statement_facts ys))) hd hs

abbrev steps : StatementSteps (List Fact) (List Fact) (List Fact) BlockFacts (List Fact) (List Fact)
steps = statement_steps declaration_step form_step simple_step block_step procedure_step statement_step

-- ---- declarations

pub data_more : (d : RawDecl) (x : RawData) (o0 o1 : List Fact) → d ≡ decl.Data x → o1 ≡ o0 ++ data_facts x → o1 ≡ o0 ++ declaration_facts d
data_more d x o0 o1 is =
    as_whole (declaration_facts d) (data_facts x) o0 o1 (ap declaration_facts is ∙ of_declaration-Data steps x)

pub overlay_more : (d : RawDecl) (at : Position) (b : RawBase) (x : RawData) (o0 o1 o2 : List Fact) → d ≡ decl.Overlay at b x
    → o1 ≡ o0 ++ base_facts b → o2 ≡ o1 ++ data_facts x → o2 ≡ o0 ++ declaration_facts d
overlay_more d at b x o0 o1 o2 is e1 e2 =
    two_more (base_facts b) (data_facts x) o0 o1 o2 e1 e2
    ∙ ap (λ l. o0 ++ l) (sym (ap declaration_facts is ∙ of_declaration-Overlay steps at b x))

pub switch_more : (d : RawDecl) (at : Position) (n : RawName) (ls ls' : List RawName) (o0 o1 o2 : List Fact) → d ≡ decl.Switch at n ls → ls' ≡ ls
    → o1 ≡ o0 ++ declares n kind.Switch ∷ [] → o2 ≡ o1 ++ each_uses ls' → o2 ≡ o0 ++ declaration_facts d
switch_more d at n ls ls' o0 o1 o2 is same e1 e2 =
    two_more (declares n kind.Switch ∷ []) (each_uses ls') o0 o1 o2 e1 e2
    ∙ ap (λ (l : List RawName). o0 ++ (declares n kind.Switch ∷ [] ++ each_uses l)) same
    ∙ ap (λ l. o0 ++ l) (sym (ap declaration_facts is ∙ of_declaration-Switch steps at n ls))

pub procedure_more : (d : RawDecl) (p p' : RawProc) (o0 o1 : List Fact) → d ≡ decl.Proc p → p' ≡ p → o1 ≡ o0 ++ procedure_facts p' → o1 ≡ o0 ++ declaration_facts d
procedure_more d p p' o0 o1 is same =
    as_whole (declaration_facts d) (procedure_facts p') o0 o1
    (ap declaration_facts is ∙ of_declaration-Proc steps p ∙ ap procedure_facts (sym same))

-- ---- statements

pub statement_more : (s : RawStmt) (ls : List RawName) (f : RawForm) (o0 o1 o2 : List Fact) → ls ≡ (out-RawStmt s).labels → f ≡ (out-RawStmt s).form
    → o1 ≡ o0 ++ each_declares kind.Label ls → o2 ≡ o1 ++ form_facts f → o2 ≡ o0 ++ statement_facts s
statement_more s ls f o0 o1 o2 hl hf e1 e2 =
    two_more (each_declares kind.Label ls) (form_facts f) o0 o1 o2 e1 e2
    ∙ ap₂ (λ (l : List RawName) (x : RawForm). o0 ++ (each_declares kind.Label l ++ form_facts x)) hl hf
    ∙ ap (λ l. o0 ++ l)
    (sym (of_statement-out steps s))

pub simple_more : (f : RawForm) (s s' : RawSimple) (o0 o1 : List Fact) → f ≡ forms.Simple s → s' ≡ s → o1 ≡ o0 ++ simple_facts s' → o1 ≡ o0 ++ form_facts f
simple_more f s s' o0 o1 is same =
    as_whole (form_facts f) (simple_facts s') o0 o1 (ap form_facts is ∙ of_form-Simple steps s ∙ ap simple_facts (sym same))

tested : (test test' : RawCond) (ls ls' : List RawName) (s s' : RawSimple) (o0 o1 o2 o3 : List Fact) → test' ≡ test → ls' ≡ ls → s' ≡ s
    → o1 ≡ o0 ++ condition_uses test' reading.Value → o2 ≡ o1 ++ each_declares kind.Label ls' → o3 ≡ o2 ++ simple_facts s'
    → o3 ≡ o0 ++ (condition_uses test reading.Value ++ (each_declares kind.Label ls ++ simple_facts s))
tested test test' ls ls' s s' o0 o1 o2 o3 ht hl hs e1 e2 e3 =
    three_more (condition_uses test reading.Value) (each_declares kind.Label ls) (simple_facts s) o0 o1 o2 o3
    (e1 ∙ ap (λ (x : RawCond). o0 ++ condition_uses x reading.Value) ht) (e2 ∙ ap (λ (l : List RawName). o1 ++ each_declares kind.Label l) hl)
    (e3 ∙ ap (λ (x : RawSimple). o2 ++ simple_facts x) hs)

pub if_more : (f : RawForm) (at : Position) (test test' : RawCond) (ls ls' : List RawName) (s s' : RawSimple) (second : Option RawStmt) (o0 o1 o2 o3 : List Fact)
    → f ≡ forms.If at test ls s second → second ≡ None → test' ≡ test → ls' ≡ ls → s' ≡ s
    → o1 ≡ o0 ++ condition_uses test' reading.Value → o2 ≡ o1 ++ each_declares kind.Label ls' → o3 ≡ o2 ++ simple_facts s' → o3 ≡ o0 ++ form_facts f
if_more f at test test' ls ls' s s' second o0 o1 o2 o3 is none ht hl hs e1 e2 e3 =
    tested test test' ls ls' s s' o0 o1 o2 o3 ht hl hs e1 e2 e3
    ∙ ap (λ l. o0 ++ (condition_uses test reading.Value ++ (each_declares kind.Label ls ++ l))) (sym (append-nil (simple_facts s)))
    ∙ ap (λ l. o0 ++ l) (sym (ap form_facts (is ∙ ap (forms.If at test ls s) none) ∙ of_form-If-None steps at test ls s))

pub if_else_more : (f : RawForm) (at : Position) (test test' : RawCond) (ls ls' : List RawName) (s s' : RawSimple) (second : Option RawStmt)
    (x x' : RawStmt) (o0 o1 o2 o3 o4 : List Fact)
    → f ≡ forms.If at test ls s second → second ≡ Some x → test' ≡ test → ls' ≡ ls → s' ≡ s → x' ≡ x
    → o1 ≡ o0 ++ condition_uses test' reading.Value → o2 ≡ o1 ++ each_declares kind.Label ls' → o3 ≡ o2 ++ simple_facts s' → o4 ≡ o3 ++ statement_facts x'
    → o4 ≡ o0 ++ form_facts f
if_else_more f at test test' ls ls' s s' second x x' o0 o1 o2 o3 o4 is some ht hl hs hx e1 e2 e3 e4 =
    let t = condition_uses test reading.Value in
    let labels = each_declares kind.Label ls in
    let first = simple_facts s in
    let other = statement_facts x in
    two_more (t ++ (labels ++ first)) other o0 o3 o4 (tested test test' ls ls' s s' o0 o1 o2 o3 ht hl hs e1 e2 e3) (e4 ∙ ap (λ (y : RawStmt). o3 ++ statement_facts y) hx)
    ∙ ap (λ l. o0 ++ l) (append_assoc t (labels ++ first) other ∙ ap (λ l. t ++ l) (append_assoc labels first other))
    ∙ ap (λ l. o0 ++ l) (sym (ap form_facts (is ∙ ap (forms.If at test ls s) some) ∙ of_form-If-Some steps at test ls s x))

pub for_more : (f : RawForm) (at : Position) (v v' : RawRef) (es es' : List RawFelem) (b b' : RawStmt) (o0 o1 o2 o3 o4 : List Fact)
    → f ≡ forms.For at v es b → v' ≡ v → es' ≡ es → b' ≡ b → o1 ≡ o0 ++ fact.Loop at ∷ [] → o2 ≡ o1 ++ reference_uses v' reading.Whole
    → o3 ≡ o2 ++ felems_facts es' → o4 ≡ o3 ++ statement_facts b' → o4 ≡ o0 ++ form_facts f
for_more f at v v' es es' b b' o0 o1 o2 o3 o4 is hv hes hb e1 e2 e3 e4 =
    let variable = reference_uses v reading.Whole in
    let values = felems_facts es in
    let body = statement_facts b in
    two_more (fact.Loop at ∷ []) (variable ++ (values ++ body)) o0 o1 o4 e1
    (three_more variable values body o1 o2 o3 o4
    (e2 ∙ ap (λ (x : RawRef). o1 ++ reference_uses x reading.Whole) hv) (e3 ∙ ap (λ (l : List RawFelem). o2 ++ felems_facts l) hes)
    (e4 ∙ ap (λ (y : RawStmt). o3 ++ statement_facts y) hb))
    ∙ ap (λ l. o0 ++ l) (sym (ap form_facts is ∙ of_form-For steps at v es b))

-- ---- simple statements

pub assign_more : (s : RawSimple) (r r' : RawRef) (e e' : RawExpr) (o0 o1 o2 : List Fact) → s ≡ simple.Assign r e → r' ≡ r → e' ≡ e
    → o1 ≡ o0 ++ reference_uses r' reading.Target → o2 ≡ o1 ++ expression_uses e' reading.Value → o2 ≡ o0 ++ simple_facts s
assign_more s r r' e e' o0 o1 o2 is hr he e1 e2 =
    two_more (reference_uses r' reading.Target) (expression_uses e' reading.Value) o0 o1 o2 e1 e2
    ∙ ap₂ (λ (x : RawRef) (y : RawExpr). o0 ++ (reference_uses x reading.Target ++ expression_uses y reading.Value)) hr he
    ∙ ap (λ l. o0 ++ l) (sym (ap simple_facts is ∙ of_simple-Assign steps r e))

pub assign_bits_more : (s : RawSimple) (bits : RawBits) (r r' : RawRef) (e e' : RawExpr) (o0 o1 o2 : List Fact) → s ≡ simple.AssignBits bits r e → r' ≡ r → e' ≡ e
    → o1 ≡ o0 ++ reference_uses r' reading.Whole → o2 ≡ o1 ++ expression_uses e' reading.Value → o2 ≡ o0 ++ simple_facts s
assign_bits_more s bits r r' e e' o0 o1 o2 is hr he e1 e2 =
    two_more (reference_uses r' reading.Whole) (expression_uses e' reading.Value) o0 o1 o2 e1 e2
    ∙ ap₂ (λ (x : RawRef) (y : RawExpr). o0 ++ (reference_uses x reading.Whole ++ expression_uses y reading.Value)) hr he
    ∙ ap (λ l. o0 ++ l) (sym (ap simple_facts is ∙ of_simple-AssignBits steps bits r e))

pub goto_more : (s : RawSimple) (at : Position) (n : RawName) (o0 o1 : List Fact) → s ≡ simple.Goto at n → o1 ≡ o0 ++ uses_of n form.Goto → o1 ≡ o0 ++ simple_facts s
goto_more s at n o0 o1 is =
    as_whole (simple_facts s) (uses_of n form.Goto) o0 o1 (ap simple_facts is ∙ of_simple-Goto steps at n)

pub goto_switch_more : (s : RawSimple) (at : Position) (n : RawName) (e e' : RawExpr) (o0 o1 o2 : List Fact) → s ≡ simple.GotoSwitch at n e → e' ≡ e
    → o1 ≡ o0 ++ uses_of n form.GotoSwitch → o2 ≡ o1 ++ expression_uses e' reading.Value → o2 ≡ o0 ++ simple_facts s
goto_switch_more s at n e e' o0 o1 o2 is he e1 e2 =
    two_more (uses_of n form.GotoSwitch) (expression_uses e' reading.Value) o0 o1 o2 e1 e2
    ∙ ap (λ (y : RawExpr). o0 ++ (uses_of n form.GotoSwitch ++ expression_uses y reading.Value)) he
    ∙ ap (λ l. o0 ++ l) (sym (ap simple_facts is ∙ of_simple-GotoSwitch steps at n e))

pub call_statement_more : (s : RawSimple) (n : RawName) (es es' : List RawExpr) (o0 o1 o2 : List Fact) → s ≡ simple.Call n es → es' ≡ es
    → o1 ≡ o0 ++ uses_of n form.Call → o2 ≡ o1 ++ argument_uses es' → o2 ≡ o0 ++ simple_facts s
call_statement_more s n es es' o0 o1 o2 is same e1 e2 =
    two_more (uses_of n form.Call) (argument_uses es') o0 o1 o2 e1 e2
    ∙ ap (λ (l : List RawExpr). o0 ++ (uses_of n form.Call ++ argument_uses l)) same
    ∙ ap (λ l. o0 ++ l) (sym (ap simple_facts is ∙ of_simple-Call steps n es))

pub answer_more : (s : RawSimple) (at : Position) (n : RawName) (e e' : RawExpr) (o0 o1 o2 : List Fact) → s ≡ simple.Answer at e → n ≡ answer_name at → e' ≡ e
    → o1 ≡ o0 ++ uses_of n form.Answer → o2 ≡ o1 ++ expression_uses e' reading.Value → o2 ≡ o0 ++ simple_facts s
answer_more s at n e e' o0 o1 o2 is hn he e1 e2 =
    two_more (uses_of n form.Answer) (expression_uses e' reading.Value) o0 o1 o2 e1 e2
    ∙ ap₂ (λ (m : RawName) (y : RawExpr). o0 ++ (uses_of m form.Answer ++ expression_uses y reading.Value)) hn he
    ∙ ap (λ l. o0 ++ l) (sym (ap simple_facts is ∙ of_simple-Answer steps at e))
