-- The rules of statements, procedures, blocks and texts keep what is known.
use Rattle.std.proofs.Common.{Bool, true, false, List, [], ◌∷◌, ◌++◌, Option, Some, None, sym, subst}
use Rattle.cw_lex.specs.declared.token.Symbol.TheVariants as symbols
use Rattle.cw_lex.specs.declared.token.Word.TheVariants as words
use Rattle.cw_tree.specs.declared.leaf.Position.{Position}
use Rattle.cw_tree.specs.declared.leaf.RawName.{RawName}
use Rattle.cw_tree.specs.declared.leaf.RawType.{RawType}
use Rattle.cw_tree.specs.declared.expression.RawBits.{RawBits}
use Rattle.cw_tree.specs.declared.expression.RawExpr.{RawExpr}
use Rattle.cw_tree.specs.declared.expression.RawCond.{RawCond}
use Rattle.cw_tree.specs.declared.expression.RawRef.{RawRef}
use Rattle.cw_tree.specs.declared.expression.RawRef.TheVariants as ref_tree
use Rattle.cw_tree.specs.declared.items.RawBase.{RawBase}
use Rattle.cw_tree.specs.declared.items.RawData.{RawData}
use Rattle.cw_tree.specs.declared.statement.RawPtag.{RawPtag}
use Rattle.cw_tree.specs.declared.statement.RawParam.{RawParam}
use Rattle.cw_tree.specs.declared.statement.RawParam.TheVariants as param_tree
use Rattle.cw_tree.specs.declared.statement.RawFelem.{RawFelem}
use Rattle.cw_tree.specs.declared.statement.RawFelem.TheVariants as felem_tree
use Rattle.cw_tree.specs.declared.statement.RawStmt.{RawStmt, out-RawStmt}
use Rattle.cw_tree.specs.declared.statement.RawBlock.{RawBlock}
use Rattle.cw_tree.specs.declared.statement.RawForm.{RawForm}
use Rattle.cw_tree.specs.declared.statement.RawForm.TheVariants as form_tree
use Rattle.cw_tree.specs.declared.statement.RawSimple.{RawSimple}
use Rattle.cw_tree.specs.declared.statement.RawSimple.TheVariants as simple_tree
use Rattle.cw_tree.specs.declared.statement.RawDecl.{RawDecl}
use Rattle.cw_tree.specs.declared.statement.RawDecl.TheVariants as decl_tree
use Rattle.cw_tree.specs.declared.statement.RawDecl.TheViews.{roll-out-RawStmt}
use Rattle.cw_tree.specs.declared.segment.RawComm.{RawComm}
use Rattle.cw_tree.specs.declared.segment.RawIps.{RawIps}
use Rattle.cw_grammar.specs.Tokens.{Item, position}
use Rattle.cw_grammar.specs.Grammar.{Sort, Rule, bracketed, subscript, indexed, called, located, conditional, if_rest, else_rest, for_rest, block_rest, proc_body, Again, labelled, labelled_simple, more_elems, places}
use Rattle.cw_grammar.specs.Rules.{indexed_name, reference, condition, expr}
use Rattle.cw_grammar.specs.Statements.{table, data_table, singles, arrays, comm, simple_behind, jump, block_tree, unnamed, stmt_tree, simple_stmt, with_label, simple, if_tree, for_tree, stmt, felem, procedure_param, param, proc_tree, proc_behind, worded_decl, decl, raw, text}
use Rattle.cw_grammar.specs.Table.{rule, again_rule}
use Rattle.cw_show.specs.Canonical.{comma, semicolon}
use Rattle.cw_show.specs.ExpressionTokens.{expr_tokens, cond_tokens, ref_tokens}
use Rattle.cw_show.specs.ItemTokens.{data_tokens, overlay_tokens}
use Rattle.cw_show.specs.SegmentTokens.{comm_tokens}
use Rattle.cw_show.specs.StatementTokens.{param_tokens, felem_tokens, label_tokens, labels_tokens, decl_tokens, form_tokens, simple_tokens, block_tokens, stmt_tokens, canonical_tokens}
use Rattle.cw_read_back.proofs.Expressions.Reading.{Each}
use Rattle.cw_read_back.proofs.Trees.StatementLayers.{data_decl-tokens, overlay_decl-tokens, switch_decl-tokens, proc_decl-tokens, simple_form-tokens, if_alone-tokens, if_else-tokens, for_form-tokens, empty-tokens, assign-tokens, assign_bits-tokens, goto-tokens, goto_switch-tokens, call-tokens, answer-tokens, block_form-tokens, block-tokens, proc-tokens, stmt-tokens}
use Rattle.cw_read_back.proofs.Texts.Spelled.{Spelled, nothing, the_word, the_symbol, ◌&◌, front_of, rest_of, in_squares, list_between, list_in_brackets, list_joined, list_ended}
use Rattle.cw_read_back.proofs.Texts.Plain.{type_spelled, one_bits_spelled, answer_spelled, tag_spelled, ips_listed}
use Rattle.cw_tokens.proofs.Kept.{OfOption}
use Rattle.cw_read_back.proofs.Texts.Good.{Keeps, given_good}
use Rattle.cw_read_back.proofs.Texts.Expressions.{NameGood, ExprGood, name_good, index_good, bare_good, name_keeps, names_keep, reference_keeps, condition_keeps, expr_keeps}
use Rattle.cw_read_back.proofs.Texts.Items.{names_good, table_good, presets_keep, table_keeps, elems_keep, data_table_keeps, singles_keep, arrays_keep, overlay_keeps, overlaid, comm_keeps}

-- ---- statements

abbrev SimpleGood : RawSimple → Type 0
SimpleGood x = Spelled (simple_tokens x)

abbrev StmtGood : RawStmt → Type 0
StmtGood x = Spelled (stmt_tokens x)

abbrev FormGood : RawForm → Type 0
FormGood x = Spelled (form_tokens x)

abbrev DeclGood : RawDecl → Type 0
DeclGood x = Spelled (decl_tokens x)

assign_good : (r : RawRef) (x : RawExpr) → Spelled (ref_tokens r) → ExprGood x → SimpleGood (simple_tree.Assign r x)
assign_good r x h k = subst Spelled (sym (assign-tokens r x)) (h & the_symbol symbols.Assign & k)

assign_bits_good : (z : RawBits) (r : RawRef) (x : RawExpr) → Spelled (ref_tokens r) → ExprGood x → SimpleGood (simple_tree.AssignBits z r x)
assign_bits_good z r x h k = subst Spelled (sym (assign_bits-tokens z r x)) (one_bits_spelled z & h & the_symbol symbols.Assign & k)

jump_good : (t : Item) (f : RawName) (o : Option (Item × RawExpr)) → NameGood f → OfOption (λ y. Unit {0} × ExprGood y.1) o → SimpleGood (jump t f o)
jump_good t f None n h = subst Spelled (sym (goto-tokens (position t) f)) (the_word words.Goto & n)
jump_good t f (Some y) n h = subst Spelled (sym (goto_switch-tokens (position t) f y.1)) (the_word words.Goto & n & in_squares h.1)

call_good : (f : RawName) (xs : List RawExpr) → NameGood f → Each ExprGood xs → SimpleGood (simple_tree.Call f xs)
call_good f xs n h = subst Spelled (sym (call-tokens f xs)) (n & list_in_brackets expr_tokens comma tt xs h)

answer_good : (at : Position) (x : RawExpr) → ExprGood x → SimpleGood (simple_tree.Answer at x)
answer_good at x h = subst Spelled (sym (answer-tokens at x)) (the_word words.Answer & h)

empty_good : SimpleGood simple_tree.Empty
empty_good = subst Spelled (sym empty-tokens) nothing

block_good : (t : Item) (ds : List RawDecl) (ss : List RawStmt) → Each DeclGood ds → Each StmtGood ss → Spelled (block_tokens (block_tree t ds ss))
block_good t ds ss h k = subst Spelled (sym (block-tokens (position t) ds ss)) (the_word words.Begin & list_ended decl_tokens ds h & list_between stmt_tokens semicolon tt ss k & the_word words.End)

block_alone : (x : RawBlock) → Spelled (block_tokens x) → SimpleGood (simple_tree.Block x)
block_alone x h = subst Spelled (sym (block_form-tokens x)) h

simple_form : (x : RawSimple) → SimpleGood x → FormGood (form_tree.Simple x)
simple_form x h = subst Spelled (sym (simple_form-tokens x)) h

label_good : (f : RawName) → NameGood f → Spelled (label_tokens f)
label_good f h = h & the_symbol symbols.Colon

each_label : (ls : List RawName) → Each NameGood ls → Each (λ f. Spelled (label_tokens f)) ls
each_label [] h = tt
each_label (f ∷ ls) h = (label_good f h.0, each_label ls h.1)

labels_good : (ls : List RawName) → Each NameGood ls → Spelled (labels_tokens ls)
labels_good ls h = list_joined label_tokens ls (each_label ls h)

if_good : (at : Position) (c : RawCond) (ls : List RawName) (s : RawSimple) (o : Option RawStmt) → Spelled (cond_tokens c) → Each NameGood ls → SimpleGood s → OfOption StmtGood o → FormGood (form_tree.If at c ls s o)
if_good at c ls s None h k l m = subst Spelled (sym (if_alone-tokens at c ls s)) (the_word words.If & h & the_word words.Then & labels_good ls k & l & nothing)
if_good at c ls s (Some x) h k l m = subst Spelled (sym (if_else-tokens at c ls s x)) (the_word words.If & h & the_word words.Then & labels_good ls k & l & the_word words.Else & m)

abbrev FelemGood : RawFelem → Type 0
FelemGood x = Spelled (felem_tokens x)

for_good : (at : Position) (r : RawRef) (xs : List RawFelem) (s : RawStmt) → Spelled (ref_tokens r) → Each FelemGood xs → StmtGood s → FormGood (form_tree.For at r xs s)
for_good at r xs s h k l =
    subst Spelled (sym (for_form-tokens at r xs s)) ((the_word words.For & h & the_symbol symbols.Assign & list_between felem_tokens comma tt xs k & the_word words.Do) & l)

while_good : (x : RawExpr) (c : RawCond) → ExprGood x → Spelled (cond_tokens c) → FelemGood (felem_tree.While x c)
while_good x c h k = h & the_word words.While & k

step_good : (x y z : RawExpr) → ExprGood x → ExprGood y → ExprGood z → FelemGood (felem_tree.Step x y z)
step_good x y z h k l = h & the_word words.Step & k & the_word words.Until & l

stmt_good : (ls : List RawName) (f : RawForm) → Spelled (labels_tokens ls) → FormGood f → StmtGood (stmt_tree ls f)
stmt_good ls f h k = subst Spelled (sym (stmt-tokens ls f)) (h & k)

labelled_good : (f : RawName) (s : RawStmt) → NameGood f → StmtGood s → StmtGood (with_label f s)
labelled_good f s n h =
    let y = out-RawStmt s in
    let k : Spelled (labels_tokens y.labels ++ form_tokens y.form) = subst Spelled (stmt-tokens y.labels y.form) (subst (λ (z : RawStmt). Spelled (stmt_tokens z)) (sym (roll-out-RawStmt s)) h) in
    stmt_good (f ∷ y.labels) y.form (label_good f n & front_of (labels_tokens y.labels) (form_tokens y.form) k) (rest_of (labels_tokens y.labels) (form_tokens y.form) k)

simple_alone : (s : RawSimple) → SimpleGood s → StmtGood (simple_stmt s)
simple_alone s h = stmt_good [] (form_tree.Simple s) nothing (simple_form s h)

-- ---- declarations

data_good : (d : RawData) → Spelled (data_tokens d) → DeclGood (decl_tree.Data d)
data_good d h = subst Spelled (sym (data_decl-tokens d)) h

overlay_good : (at : Position) (b : RawBase) (d : RawData) → Spelled (overlay_tokens b d) → DeclGood (decl_tree.Overlay at b d)
overlay_good at b d h = subst Spelled (sym (overlay_decl-tokens at b d)) h

switch_good : (at : Position) (f : RawName) (ns : List RawName) → NameGood f → Each NameGood ns → DeclGood (decl_tree.Switch at f ns)
switch_good at f ns h k = subst Spelled (sym (switch_decl-tokens at f ns)) (the_word words.Switch & h & the_symbol symbols.Assign & names_good ns k)

abbrev ParamGood : RawParam → Type 0
ParamGood x = Spelled (param_tokens x)

proc_good : (o : Option RawType) (g : RawPtag) (f : RawName) (ps : List RawParam) (s : RawStmt) → NameGood f → Each ParamGood ps → StmtGood s → DeclGood (decl_tree.Proc (proc_tree o g f ps s))
proc_good o g f ps s h k l =
    let head = answer_spelled o & tag_spelled g & h & list_in_brackets param_tokens semicolon tt ps k & the_symbol symbols.Semicolon in
    subst Spelled (sym (proc_decl-tokens (proc_tree o g f ps s))) (subst Spelled (sym (proc-tokens o g f ps s)) (head & l))

procedure_param_good : (o : Option RawType) (at : Position) (f : RawName) (is : List RawIps) → NameGood f → ParamGood (param_tree.Proc o at f is)
procedure_param_good o at f is h = answer_spelled o & the_word words.Procedure & h & ips_listed is

-- ---- rules

behind_keeps : Keeps simple_behind
unfolding simple_behind
behind_keeps = (
  (((tt, expr_keeps), λ x h. given_good expr x.1 h.1), λ e h n k. assign_good (ref_tree.Name n) e (name_good n k) h),
  (
    ((tt, ((tt, expr_keeps), λ x h. given_good expr x.1 h.1)), λ x h n k. assign_good (indexed_name n x.0.1.0 x.0.1.1) x.1 (index_good n x.0.1.0 x.0.1.1 k h.0.1.0 h.0.1.1) h.1),
    ((tt, λ x h n k. call_good n x.1 k h.1), λ n k. call_good n [] k tt),
  ),
)

unnamed_keeps : (p : Bool) → Keeps (unnamed p)
unfolding unnamed
unnamed_keeps p = (
  ((tt, ((tt, expr_keeps), λ x h. given_good expr x.1 h.1)), λ x h. assign_good (ref_tree.Bare (position x.0.0) x.0.1) x.1 (bare_good (position x.0.0) x.0.1 h.0.1) h.1),
  (
    ((tt, (reference_keeps, ((tt, expr_keeps), λ x h. given_good expr x.1 h.1))), λ x h. assign_bits_good x.0 x.1.0 x.1.1 (given_good reference x.1.0 h.1.0) h.1.1),
    (
      ((tt, (name_keeps, ((tt, λ x h. h), tt))), λ x h. jump_good x.0 x.1.0 x.1.1 h.1.0 h.1.1),
      (
        ((tt, expr_keeps), λ x h. answer_good (position x.0) x.1 (given_good expr x.1 h.1)),
        ((tt, λ x h. block_alone (block_tree x.0 x.1.0 x.1.1) (block_good x.0 x.1.0 x.1.1 h.1.0 h.1.1)), empty_good),
      ),
    ),
  ),
)

simple_keeps : (p : Bool) → Keeps (simple p)
unfolding simple
simple_keeps p = (
  ((name_keeps, ((((tt, tt), λ x h. h.1), λ x h n k. ((k, h.0), h.1)), (behind_keeps, λ f h n k. (tt, given_good simple_behind f h n k)))), λ x h. h.1 x.0 h.0),
  (unnamed_keeps p, λ s h. (tt, given_good (unnamed p) s h)),
)

stmt_keeps : (p : Bool) → Keeps (stmt p)
unfolding stmt
stmt_keeps p = (
  ((name_keeps, ((((tt, tt), λ x h. h.1), λ s h n k. labelled_good n s k h), (behind_keeps, λ f h n k. simple_alone (f n) (given_good simple_behind f h n k)))), λ x h. h.1 x.0 h.0),
  (
    (tt, λ x h. stmt_good [] (if_tree x.0 x.1) nothing (if_good (position x.0) x.1.0 x.1.1.0.0 x.1.1.0.1 x.1.1.1 h.1.0 h.1.1.0.0 h.1.1.0.1 h.1.1.1)),
    (
      (tt, λ x h. stmt_good [] (for_tree x.0 x.1) nothing (for_good (position x.0) x.1.0 x.1.1.0 x.1.1.1 h.1.0 h.1.1.0 h.1.1.1)),
      (unnamed_keeps p, λ s h. simple_alone s (given_good (unnamed p) s h)),
    ),
  ),
)

felem_keeps : Keeps felem
unfolding felem
felem_keeps = (
  (
    expr_keeps,
    (
      (((tt, condition_keeps), λ x h. given_good condition x.1 h.1), λ c h e k. while_good e c k h),
      (
        (((tt, (expr_keeps, ((tt, expr_keeps), λ x h. given_good expr x.1 h.1))), λ x h. (given_good expr x.1.0 h.1.0, h.1.1)), λ x h e k. step_good e x.0 x.1 k h.0 h.1),
        λ e k. k,
      ),
    ),
  ),
  λ x h. h.1 x.0 (given_good expr x.0 h.0),
)

procedure_param_keeps : Keeps procedure_param
unfolding procedure_param
procedure_param_keeps = ((tt, (name_keeps, tt)), λ x h t k. procedure_param_good t (position x.0) x.1.0 x.1.1 h.1.0)

param_keeps : Keeps param
unfolding param
param_keeps = (
  (
    (tt, ((((tt, names_keep), λ x h. h.1), λ ns h t k. type_spelled t & the_word words.Array & names_good ns h), (procedure_param_keeps, λ f h t k. given_good procedure_param f h (Some t) tt))),
    λ x h. h.1 x.0 tt,
  ),
  (
    (procedure_param_keeps, λ f h. given_good procedure_param f h None tt),
    (
      ((tt, (tt, names_keep)), λ x h. the_word words.Value & type_spelled x.1.0 & names_good x.1.1 h.1.1),
      (
        ((tt, (tt, names_keep)), λ x h. the_word words.Location & type_spelled x.1.0 & names_good x.1.1 h.1.1),
        (
          (table_keeps, λ t h. table_good t [] (given_good table t h) nothing),
          (((tt, names_keep), λ x h. the_word words.Label & names_good x.1 h.1), ((tt, names_keep), λ x h. the_word words.Switch & names_good x.1 h.1)),
        ),
      ),
    ),
  ),
)

proc_keeps : Keeps proc_behind
unfolding proc_behind
proc_keeps = (
  (tt, (name_keeps, ((((tt, ((((param_keeps, ((tt, param_keeps), λ x h. given_good param x.1 h.1)), λ x h. (given_good param x.0 h.0, h.1)), tt), λ x h. h.0)), λ x h. h.1), tt), tt))),
  λ x h t k. proc_good t x.0 x.1.0 x.1.1.0 x.1.1.1.1 h.1.0 h.1.1.0 h.1.1.1.1,
)

worded_keeps : Keeps worded_decl
unfolding worded_decl
worded_keeps = (
  (data_table_keeps, λ d h. data_good d (given_good data_table d h)),
  (
    (overlay_keeps, λ x h. overlay_good (position x.0) x.1.0 x.1.1 (overlaid x h)),
    ((tt, (name_keeps, ((tt, names_keep), λ x h. h.1))), λ x h. switch_good (position x.0) x.1.0 x.1.1 h.1.0 h.1.1),
  ),
)

decl_keeps : (p : Bool) → Keeps (decl p)
unfolding decl
decl_keeps true =
    (((tt, ((singles_keep, λ f h t k. data_good (f t) (given_good singles f h t k)), (arrays_keep, λ f h t k. data_good (f t) (given_good arrays f h t k)))), λ x h. h.1 x.0 tt), worded_keeps)
decl_keeps false = (
  (
    (tt, ((singles_keep, λ f h t k. data_good (f t) (given_good singles f h t k)), ((arrays_keep, λ f h t k. data_good (f t) (given_good arrays f h t k)), (proc_keeps, λ f h t k. given_good proc_behind f h (Some t) tt)))),
    λ x h. h.1 x.0 tt,
  ),
  (worded_keeps, (proc_keeps, λ f h. given_good proc_behind f h None tt)),
)

pub rule_keeps : {s : Sort} (r : Rule s) → Keeps (rule r)
unfolding rule
rule_keeps bracketed = ((expr_keeps, tt), λ x h. given_good expr x.0 h.0)
rule_keeps subscript = ((expr_keeps, tt), λ x h. given_good expr x.0 h.0)
rule_keeps indexed = (expr_keeps, ((((((tt, expr_keeps), λ x h. given_good expr x.1 h.1), λ x h. h), tt), tt), λ x h. h.0))
rule_keeps called = ((((expr_keeps, ((tt, expr_keeps), λ x h. given_good expr x.1 h.1)), λ x h. (given_good expr x.0 h.0, h.1)), tt), λ x h. h.0)
rule_keeps located = ((reference_keeps, tt), λ x h. given_good reference x.0 h.0)
rule_keeps conditional = (condition_keeps, (((tt, expr_keeps), λ x h. given_good expr x.1 h.1), ((tt, expr_keeps), λ x h. given_good expr x.1 h.1)))
rule_keeps (if_rest p) = (condition_keeps, (((tt, tt), λ x h. h.1), (((tt, λ x h. h.1), λ x h. h), tt)))
rule_keeps (else_rest p) = tt
rule_keeps (for_rest p) = (reference_keeps, (((tt, ((felem_keeps, ((tt, felem_keeps), λ x h. given_good felem x.1 h.1)), λ x h. (given_good felem x.0 h.0, h.1))), λ x h. h.1), ((tt, tt), λ x h. h.1)))
rule_keeps (block_rest p) = (
  ((decl_keeps p, tt), λ x h. given_good (decl p) x.0 h.0),
  ((((tt, ((tt, tt), λ x h. h.1)), λ x h. (h.0, h.1)), (tt, ((name_keeps, λ x h. h), tt))), λ x h. h.0),
)
rule_keeps proc_body = tt

pub again_keeps : {s : Sort} (a : Again s) → Keeps (again_rule a)
unfolding again_rule
again_keeps (labelled p) = stmt_keeps p
again_keeps (labelled_simple p) = simple_keeps p
again_keeps more_elems = elems_keep
again_keeps places = presets_keep

-- ---- texts

raw_good : (cs : List RawComm) (f : RawName) (b : Item × (List RawDecl × List RawStmt)) (finish : Item) → Each (λ x. Spelled (comm_tokens x)) cs → NameGood f → Each DeclGood b.1.0 → Each StmtGood b.1.1 → Spelled (canonical_tokens (raw cs f b finish))
raw_good cs f b finish h k l m = list_ended comm_tokens cs h & the_word words.Segment & k & block_good b.0 b.1.0 b.1.1 l m & the_word words.Finish

pub text_keeps : Keeps text
unfolding text
text_keeps = (
  (((comm_keeps, tt), λ x h. given_good comm x.0 h.0), (((tt, name_keeps), λ x h. h.1), (tt, tt))),
  λ x h. raw_good x.0 x.1.0 x.1.1.0 x.1.1.1 h.0 h.1.0 h.1.1.0.1.0 h.1.1.0.1.1,
)
