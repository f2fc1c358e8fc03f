-- Statements, procedures and blocks have lines where their parts have them.
use Rattle.std.proofs.Common.{◌<◌, Bool, true, ◌&&◌, IsTrue, List, [], ◌∷◌, map, Option, Some, None, refl, sym, subst}
use Rattle.std.specs.List.{list_all}
use Rattle.cw_tree.specs.declared.leaf.Position.{Position}
use Rattle.cw_tree.specs.declared.leaf.RawName.{RawName}
use Rattle.cw_tree.specs.declared.leaf.RawType.{RawType}
use Rattle.cw_tree.specs.declared.expression.RawBits.{RawBits}
use Rattle.cw_tree.specs.declared.expression.RawExpr.{RawExpr}
use Rattle.cw_tree.specs.declared.expression.RawExpr.TheOpen as reference_layer
use Rattle.cw_tree.specs.declared.expression.RawExpr.TheOpen.{RawRef-F}
use Rattle.cw_tree.specs.declared.expression.RawExpr.TheViews.{out-roll-RawRef}
use Rattle.cw_tree.specs.declared.expression.RawCond.{RawCond}
use Rattle.cw_tree.specs.declared.expression.RawCand.{RawCand}
use Rattle.cw_tree.specs.declared.expression.RawCmp.{RawCmp}
use Rattle.cw_tree.specs.declared.expression.RawSum.{RawSum}
use Rattle.cw_tree.specs.declared.expression.RawTerm.{RawTerm}
use Rattle.cw_tree.specs.declared.expression.RawDiffer.{RawDiffer}
use Rattle.cw_tree.specs.declared.expression.RawUnion.{RawUnion}
use Rattle.cw_tree.specs.declared.expression.RawMask.{RawMask}
use Rattle.cw_tree.specs.declared.expression.RawPrim.{RawPrim}
use Rattle.cw_tree.specs.declared.expression.RawPrimary.{RawPrimary}
use Rattle.cw_tree.specs.declared.expression.RawRef.{RawRef, roll-RawRef}
use Rattle.cw_tree.specs.declared.expression.RawRef.TheVariants as ref_tree
use Rattle.cw_tree.specs.declared.items.RawBase.{RawBase}
use Rattle.cw_tree.specs.declared.items.RawData.{RawData}
use Rattle.cw_tree.specs.declared.statement.RawPtag.{RawPtag}
use Rattle.cw_tree.specs.declared.statement.RawParam.{RawParam}
use Rattle.cw_tree.specs.declared.statement.RawFelem.{RawFelem}
use Rattle.cw_tree.specs.declared.statement.RawStmt.{RawStmt, out-RawStmt}
use Rattle.cw_tree.specs.declared.statement.RawBlock.{RawBlock}
use Rattle.cw_tree.specs.declared.statement.RawForm.{RawForm}
use Rattle.cw_tree.specs.declared.statement.RawForm.TheVariants as form_tree
use Rattle.cw_tree.specs.declared.statement.RawSimple.{RawSimple}
use Rattle.cw_tree.specs.declared.statement.RawSimple.TheVariants as simple_tree
use Rattle.cw_tree.specs.declared.statement.RawDecl.{RawDecl}
use Rattle.cw_tree.specs.declared.statement.RawDecl.TheVariants as decl_tree
use Rattle.cw_tree.specs.declared.statement.RawDecl.TheOpen as layer
use Rattle.cw_tree.specs.declared.segment.RawComm.{RawComm}
use Rattle.cw_grammar.specs.Tokens.{Item, position}
use Rattle.cw_grammar.specs.Rules.{indexed_name, ref_behind}
use Rattle.cw_grammar.specs.Statements.{jump, block_tree, stmt_tree, simple_stmt, with_label, proc_tree, raw}
use Rattle.cw_make_stmt.specs.Made.{ref_position, ref_position_in}
use Rattle.cw_writable.specs.Back.Ready.{all}
use Rattle.cw_sound.proofs.Expressions.Truth.{both}
use Rattle.cw_sound.specs.Statements.Bodies as bodies
use Rattle.cw_macro.specs.Premises.{Each}
use Rattle.cw_macro.proofs.Lists.{each_append}
use Rattle.cw_sound.specs.Ready.Lined as lined
use Rattle.cw_sound.specs.Ready.Lined.{is_numbered, PositionsFit}
use Rattle.cw_tree.proofs.Statements.{of_simple}
use Rattle.cw_sound.proofs.Statements.Folds.{lined_pass}
use Rattle.cw_sound.proofs.Lines.Layers.{BodyLined, HasLines, statement_opened, has_lines, rolled}
use Rattle.cw_tokens.proofs.Kept.{OfOption}

-- ---- references

abbrev pub RefLined : RawRef → Type 0
RefLined r = IsTrue (is_numbered (ref_position r))

abbrev RefLayer : Type 0
RefLayer = RawRef-F RawExpr RawPrimary RawRef RawCand RawCmp RawCond RawDiffer RawMask RawPrim RawSum RawTerm RawUnion

ref_rolled : (l : RefLayer) → IsTrue (is_numbered (ref_position_in l)) → RefLined (roll-RawRef l)
ref_rolled l h = subst (λ (z : RefLayer). IsTrue (is_numbered (ref_position_in z))) (sym (out-roll-RawRef l)) h

pub name_lined : (f : RawName) → IsTrue (is_numbered f.at) → RefLined (ref_tree.Name f)
name_lined f h = subst RefLined (ref_tree.rolls-Name f) (ref_rolled (reference_layer.Name f) h)

pub index_lined : (f : RawName) (x : RawExpr) (o : Option RawExpr) → IsTrue (is_numbered f.at) → RefLined (indexed_name f x o)
index_lined f x None h = subst RefLined (ref_tree.rolls-One f x) (ref_rolled (reference_layer.One f x) h)
index_lined f x (Some y) h = subst RefLined (ref_tree.rolls-Two f x y) (ref_rolled (reference_layer.Two f x y) h)

pub bare_lined : (at : Position) (x : RawExpr) → IsTrue (is_numbered at) → RefLined (ref_tree.Bare at x)
bare_lined at x h = subst RefLined (ref_tree.rolls-Bare at x) (ref_rolled (reference_layer.Bare at x) h)

pub ref_lined : (f : RawName) (o : Option (Item × (RawExpr × Option RawExpr))) → IsTrue (is_numbered f.at) → RefLined (ref_behind f o)
ref_lined f None h = name_lined f h
ref_lined f (Some x) h = index_lined f x.1.0 x.1.1 h

-- ---- statements

none_in : {is : Bool} → IsTrue is → HasLines is []
none_in h = record { right = h; inner = tt }

pub empty_lined : has_lines.Simple simple_tree.Empty
empty_lined = subst has_lines.Simple simple_tree.rolls-Empty (rolled.simple layer.Empty (none_in refl))

pub assign_lined : (r : RawRef) (x : RawExpr) → RefLined r → has_lines.Simple (simple_tree.Assign r x)
assign_lined r x h = subst has_lines.Simple (simple_tree.rolls-Assign r x) (rolled.simple (layer.Assign r x) (none_in h))

pub assign_bits_lined : (z : RawBits) (r : RawRef) (x : RawExpr) → IsTrue (is_numbered z.at) → has_lines.Simple (simple_tree.AssignBits z r x)
assign_bits_lined z r x h = subst has_lines.Simple (simple_tree.rolls-AssignBits z r x) (rolled.simple (layer.AssignBits z r x) (none_in h))

pub jump_lined : (t : Item) (f : RawName) (o : Option (Item × RawExpr)) → IsTrue (is_numbered (position t)) → has_lines.Simple (jump t f o)
jump_lined t f None h = subst has_lines.Simple (simple_tree.rolls-Goto (position t) f) (rolled.simple (layer.Goto (position t) f) (none_in h))
jump_lined t f (Some y) h = subst has_lines.Simple (simple_tree.rolls-GotoSwitch (position t) f y.1) (rolled.simple (layer.GotoSwitch (position t) f y.1) (none_in h))

pub call_lined : (f : RawName) (xs : List RawExpr) → IsTrue (is_numbered f.at) → has_lines.Simple (simple_tree.Call f xs)
call_lined f xs h = subst has_lines.Simple (simple_tree.rolls-Call f xs) (rolled.simple (layer.Call f xs) (none_in h))

pub answer_lined : (at : Position) (x : RawExpr) → IsTrue (is_numbered at) → has_lines.Simple (simple_tree.Answer at x)
answer_lined at x h = subst has_lines.Simple (simple_tree.rolls-Answer at x) (rolled.simple (layer.Answer at x) (none_in h))

pub block_lined : (b : RawBlock) → has_lines.Block b → has_lines.Simple (simple_tree.Block b)
block_lined b h = subst has_lines.Simple (simple_tree.rolls-Block b) (rolled.simple (layer.Block b) h)

simple_lined : (s : RawSimple) → has_lines.Simple s → has_lines.Form (form_tree.Simple s)
simple_lined s h = subst has_lines.Form (form_tree.rolls-Simple s) (rolled.form (layer.Simple s) h)

pub if_lined : (at : Position) (c : RawCond) (ls : List RawName) (s : RawSimple) (o : Option RawStmt) → IsTrue (is_numbered at) → has_lines.Simple s → OfOption (λ y. has_lines.Stmt y) o → has_lines.Form (form_tree.If at c ls s o)
if_lined at c ls s None h k l =
    subst has_lines.Form (form_tree.rolls-If at c ls s None)
    (rolled.form (layer.If at c ls s None)
    (record {
      right = both (is_numbered at) (of_simple lined_pass s && true) h (both (of_simple lined_pass s) true k.right refl);
      inner = each_append BodyLined (bodies.simple_bodies s) [] k.inner tt;
    }))
if_lined at c ls s (Some x) h k l =
    subst has_lines.Form (form_tree.rolls-If at c ls s (Some x))
    (rolled.form (layer.If at c ls s (Some x))
    (record {
      right = both (is_numbered at) (of_simple lined_pass s && lined.is_lined_statement x) h (both (of_simple lined_pass s) (lined.is_lined_statement x) k.right l.right);
      inner = each_append BodyLined (bodies.simple_bodies s) (bodies.statement_bodies x) k.inner l.inner;
    }))

pub for_lined : (at : Position) (r : RawRef) (xs : List RawFelem) (s : RawStmt) → IsTrue (is_numbered at) → has_lines.Stmt s → has_lines.Form (form_tree.For at r xs s)
for_lined at r xs s h k =
    subst has_lines.Form (form_tree.rolls-For at r xs s) (rolled.form (layer.For at r xs s) (record { right = both (is_numbered at) (lined.is_lined_statement s) h k.right; inner = k.inner }))

pub form_alone : (f : RawForm) → has_lines.Form f → has_lines.Stmt (stmt_tree [] f)
form_alone f h = rolled.stmt (record { labels = []; form = f }) h

pub labelled_lined : (n : RawName) (s : RawStmt) → has_lines.Stmt s → has_lines.Stmt (with_label n s)
labelled_lined n s h = rolled.stmt (record { labels = n ∷ (out-RawStmt s).labels; form = (out-RawStmt s).form }) (statement_opened s h)

pub simple_alone : (s : RawSimple) → has_lines.Simple s → has_lines.Stmt (simple_stmt s)
simple_alone s h = form_alone (form_tree.Simple s) (simple_lined s h)

-- ---- blocks and procedures

statements_in : (ss : List RawStmt) → Each has_lines.Stmt ss → HasLines (all (map lined.is_lined_statement ss)) (bodies.joined (map (λ s. (s, bodies.statement_bodies s)) ss))
statements_in [] h = none_in refl
statements_in (s ∷ ss) h =
    let q = statements_in ss h.1 in
    record {
      right = both (lined.is_lined_statement s) (all (map lined.is_lined_statement ss)) h.0.right q.right;
      inner = each_append BodyLined (bodies.statement_bodies s) (bodies.joined (map (λ z. (z, bodies.statement_bodies z)) ss)) h.0.inner q.inner;
    }

declarations_in : (ds : List RawDecl) → Each has_lines.Decl ds → Each BodyLined (bodies.joined (map (λ d. (d, bodies.declaration_bodies d)) ds))
declarations_in [] h = tt
declarations_in (d ∷ ds) h = each_append BodyLined (bodies.declaration_bodies d) (bodies.joined (map (λ z. (z, bodies.declaration_bodies z)) ds)) h.0.inner (declarations_in ds h.1)

pub whole_lined : (t : Item) (ds : List RawDecl) (ss : List RawStmt) → Each has_lines.Decl ds → Each has_lines.Stmt ss → has_lines.Block (block_tree t ds ss)
whole_lined t ds ss h k =
    let q = statements_in ss k in
    rolled.block (record { at = position t; decls = ds; stmts = ss })
    (record {
      right = q.right;
      inner = each_append BodyLined (bodies.joined (map (λ d. (d, bodies.declaration_bodies d)) ds)) (bodies.joined (map (λ s. (s, bodies.statement_bodies s)) ss)) (declarations_in ds h) q.inner;
    })

pub data_lined : (d : RawData) → has_lines.Decl (decl_tree.Data d)
data_lined d = subst has_lines.Decl (decl_tree.rolls-Data d) (rolled.decl (layer.Data d) (none_in refl))

pub overlay_lined : (at : Position) (b : RawBase) (d : RawData) → has_lines.Decl (decl_tree.Overlay at b d)
overlay_lined at b d = subst has_lines.Decl (decl_tree.rolls-Overlay at b d) (rolled.decl (layer.Overlay at b d) (none_in refl))

pub switch_lined : (at : Position) (f : RawName) (xs : List RawName) → has_lines.Decl (decl_tree.Switch at f xs)
switch_lined at f xs = subst has_lines.Decl (decl_tree.rolls-Switch at f xs) (rolled.decl (layer.Switch at f xs) (none_in refl))

pub proc_lined : (o : Option RawType) (g : RawPtag) (f : RawName) (ps : List RawParam) (s : RawStmt) → has_lines.Stmt s → has_lines.Decl (decl_tree.Proc (proc_tree o g f ps s))
proc_lined o g f ps s h =
    let made : has_lines.Proc (proc_tree o g f ps s) = rolled.proc (record { answer = o; tag = g; name = f; params = ps; body = s }) (record { right = h.right; inner = (h.right, h.inner) }) in
    subst has_lines.Decl (decl_tree.rolls-Proc (proc_tree o g f ps s)) (rolled.decl (layer.Proc (proc_tree o g f ps s)) (record { right = refl; inner = made.inner }))

-- ---- texts

bodies_lined : (bs : bodies.Bodies) → Each BodyLined bs → IsTrue (list_all (λ (x : bodies.Body). lined.is_lined_statement x.statement) bs)
bodies_lined [] h = refl
bodies_lined (b ∷ bs) h = both (lined.is_lined_statement b.statement) (list_all (λ (x : bodies.Body). lined.is_lined_statement x.statement) bs) h.0 (bodies_lined bs h.1)

pub fits : (cs : List RawComm) (n : RawName) (b : Item × (List RawDecl × List RawStmt)) (finish : Item) → has_lines.Block (block_tree b.0 b.1.0 b.1.1) → finish.number < 4294967296 → PositionsFit (raw cs n b finish)
fits cs n b finish h few = record { tokens = few; block = h.right; bodies = bodies_lined (bodies.block_bodies (block_tree b.0 b.1.0 b.1.1)) h.inner }
