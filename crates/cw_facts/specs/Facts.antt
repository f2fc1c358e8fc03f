-- What a text says about names, and which words it asks for: the facts of each block, in order of the text.
-- Official Definition of CORAL 66, "Scoping", "Blocks", "Labels"; BS 5905, "Block structure".
use Rattle.std.specs.Prelude.{ℕ, ◌==◌, List, [], ◌∷◌, ◌++◌, length, codes, Bool, true, false, not, ◌||◌, Option, Some, None}
use Rattle.cw_tree.specs.declared.leaf.RawName.{RawName}
use Rattle.cw_tree.specs.declared.leaf.Position.{Position}
use Rattle.cw_tree.specs.declared.leaf.RawType.{RawType}
use Rattle.cw_tree.specs.declared.leaf.RawType.TheVariants as type
use Rattle.cw_tree.specs.declared.items.RawData.{RawData}
use Rattle.cw_tree.specs.declared.items.RawData.TheVariants as items
use Rattle.cw_tree.specs.declared.items.RawGroup.{RawGroup}
use Rattle.cw_tree.specs.declared.items.RawTable.{RawTable}
use Rattle.cw_tree.specs.declared.items.RawElem.{RawElem}
use Rattle.cw_tree.specs.declared.items.RawElem.TheVariants as elem
use Rattle.cw_tree.specs.declared.items.RawBase.{RawBase}
use Rattle.cw_tree.specs.declared.items.RawBase.TheVariants as base
use Rattle.cw_tree.specs.declared.segment.RawIps.{RawIps}
use Rattle.cw_tree.specs.declared.segment.RawPs.{RawPs}
use Rattle.cw_tree.specs.declared.statement.RawParam.{RawParam}
use Rattle.cw_tree.specs.declared.statement.RawParam.TheVariants as param
use Rattle.cw_tree.specs.declared.statement.RawFelem.{RawFelem}
use Rattle.cw_tree.specs.declared.statement.RawFelem.TheVariants as felem
use Rattle.cw_tree.specs.declared.statement.RawDecl.{RawDecl, fold-RawDecl}
use Rattle.cw_tree.specs.declared.statement.RawDecl.TheOpen as layer
use Rattle.cw_tree.specs.declared.statement.RawDecl.TheOpen.{RawDecl-F, RawForm-F, RawSimple-F, RawBlock-F, RawProc-F, RawStmt-F}
use Rattle.cw_tree.specs.declared.statement.RawForm.{RawForm, fold-RawForm}
use Rattle.cw_tree.specs.declared.statement.RawSimple.{RawSimple, fold-RawSimple}
use Rattle.cw_tree.specs.declared.statement.RawBlock.{RawBlock, fold-RawBlock}
use Rattle.cw_tree.specs.declared.statement.RawProc.{RawProc, fold-RawProc}
use Rattle.cw_tree.specs.declared.statement.RawStmt.{RawStmt, fold-RawStmt}
use Rattle.cw_facts.specs.declared.fact.Fact.{Fact}
use Rattle.cw_facts.specs.declared.fact.Fact.TheVariants as fact
use Rattle.cw_facts.specs.declared.fact.Kind.{Kind}
use Rattle.cw_facts.specs.declared.fact.Kind.TheVariants as kind
use Rattle.cw_facts.specs.declared.fact.Form.TheVariants as form
use Rattle.cw_facts.specs.declared.fact.Reading.TheVariants as reading
use Rattle.cw_facts.specs.Signatures.{plain, flattened}
use Rattle.cw_facts.specs.Uses.{uses_of, expression_uses, condition_uses, reference_uses, argument_uses}

abbrev pub joined : List (List Fact) → List Fact
joined [] = []
joined (fs ∷ more) = fs ++ joined more

abbrev pub declares : RawName → Kind → Fact
declares n k = fact.Declares (record { name = n; kind = k })

abbrev pub specifies : (token : ℕ) → (answer : Option RawType) → List RawPs → Fact
specifies token answer params = fact.Specifies token (record { answer = answer; params = params })

abbrev pub each_declares : Kind → List RawName → List Fact
each_declares k [] = []
each_declares k (n ∷ ns) = declares n k ∷ each_declares k ns

abbrev pub each_uses : List RawName → List Fact
each_uses [] = []
each_uses (n ∷ ns) = uses_of n form.Listed ++ each_uses ns

-- ---- data

abbrev pub groups_facts : RawType → List RawGroup → List Fact
groups_facts t [] = []
groups_facts t (g ∷ gs) = each_declares (kind.Array t g.bounds) g.names ++ groups_facts t gs

abbrev pub element_name : RawElem → RawName
element_name (elem.Word n t w) = n
element_name (elem.Part n u t f w b) = n

-- elements are declared in the block of their table
abbrev pub elements_facts : (table : RawName) → List RawElem → List Fact
elements_facts table [] = []
elements_facts table (e ∷ es) = declares (element_name e) (kind.Element table e) ∷ elements_facts table es

abbrev pub table_facts : Kind → RawTable → List Fact
table_facts k t = declares t.name k ∷ elements_facts t.name t.elems

abbrev pub data_facts : RawData → List Fact
data_facts (items.Singles t ns presets) = each_declares (kind.Single t) ns
data_facts (items.Arrays t gs presets) = groups_facts t gs
data_facts (items.Table t inside behind) = table_facts (kind.Table t.size) t

abbrev pub base_name : RawBase → RawName
base_name (base.Name n) = n
base_name (base.One n i) = n
base_name (base.Two n i j) = n

abbrev pub base_facts : RawBase → List Fact
base_facts b = uses_of (base_name b) form.Base

-- ---- procedures

abbrev pub procedure_parameter_facts : (answer : Option RawType) → RawName → List RawIps → List Fact
procedure_parameter_facts answer n params = declares n (kind.ProcParam answer) ∷ specifies n.at.token answer (plain params) ∷ []

abbrev pub parameter_facts : RawParam → List Fact
parameter_facts (param.Value at t ns) = each_declares (kind.Value t) ns
parameter_facts (param.Location at t ns) = each_declares (kind.Location t) ns
parameter_facts (param.Array t ns) = each_declares (kind.ArrayParam t) ns
parameter_facts (param.Table t) = table_facts (kind.TableParam t.size) t
parameter_facts (param.Label at ns) = each_declares kind.LabelParam ns
parameter_facts (param.Switch at ns) = each_declares kind.SwitchParam ns
parameter_facts (param.Proc answer at n params) = procedure_parameter_facts answer n params

abbrev pub parameters_facts : List RawParam → List Fact
parameters_facts [] = []
parameters_facts (p ∷ ps) = parameter_facts p ++ parameters_facts ps

abbrev pub answer_name : Position → RawName
answer_name at = record { at = at; name = codes "ANSWER" }

abbrev pub type_position : RawType → Position
type_position (type.Integer at) = at
type_position (type.Fixed at t f) = at

-- a typed procedure declares ANSWER in its body
abbrev pub answer_facts : Option RawType → List Fact
answer_facts None = []
answer_facts (Some t) = declares (answer_name (type_position t)) (kind.Answer t) ∷ []

-- ---- statements

abbrev pub felem_facts : RawFelem → List Fact
felem_facts (felem.One e) = expression_uses e reading.Value
felem_facts (felem.While e c) = expression_uses e reading.Value ++ condition_uses c reading.Value
felem_facts (felem.Step a b c) = expression_uses a reading.Value ++ (expression_uses b reading.Value ++ expression_uses c reading.Value)

abbrev pub felems_facts : List RawFelem → List Fact
felems_facts [] = []
felems_facts (e ∷ es) = felem_facts e ++ felems_facts es

-- a block with declarations is one within, and so is a segment's outermost block; the names of another one belong to what is around it
abbrev pub enclosed : Bool → List Fact → List Fact
enclosed true facts = fact.Block None facts ∷ []
enclosed false facts = facts

abbrev pub BlockFacts : Type 0
BlockFacts = (outermost : Bool) → List Fact

abbrev pub declaration_step : RawDecl-F (List Fact) (List Fact) (List Fact) BlockFacts (List Fact) (List Fact) → List Fact
declaration_step (layer.Data d) = data_facts d
declaration_step (layer.Overlay at b d) = base_facts b ++ data_facts d
declaration_step (layer.Switch at n labels) = declares n kind.Switch ∷ each_uses labels
declaration_step (layer.Proc p) = p

abbrev pub facts_if : Option (List Fact) → List Fact
facts_if None = []
facts_if (Some facts) = facts

abbrev pub form_step : RawForm-F (List Fact) (List Fact) (List Fact) BlockFacts (List Fact) (List Fact) → List Fact
form_step (layer.Simple s) = s
form_step (layer.If at test labels first second) =
    condition_uses test reading.Value ++ (each_declares kind.Label labels ++ (first ++ facts_if second))
form_step (layer.For at variable elems body) = fact.Loop at ∷ reference_uses variable reading.Whole ++ (felems_facts elems ++ body)

abbrev pub simple_step : RawSimple-F (List Fact) (List Fact) (List Fact) BlockFacts (List Fact) (List Fact) → List Fact
simple_step layer.Empty = []
simple_step (layer.Assign r e) = reference_uses r reading.Target ++ expression_uses e reading.Value
simple_step (layer.AssignBits bits r e) = reference_uses r reading.Whole ++ expression_uses e reading.Value
simple_step (layer.Goto at n) = uses_of n form.Goto
simple_step (layer.GotoSwitch at n e) = uses_of n form.GotoSwitch ++ expression_uses e reading.Value
simple_step (layer.Call n es) = uses_of n form.Call ++ argument_uses es
simple_step (layer.Answer at e) = uses_of (answer_name at) form.Answer ++ expression_uses e reading.Value
simple_step (layer.Block b) = b false

abbrev pub block_step : RawBlock-F (List Fact) (List Fact) (List Fact) BlockFacts (List Fact) (List Fact) → BlockFacts
block_step b outermost = enclosed (outermost || not (length b.decls == 0)) (joined b.decls ++ joined b.stmts)

-- a procedure's body is a block, in which its parameters and the labels that belong to it are declared
abbrev pub procedure_step : RawProc-F (List Fact) (List Fact) (List Fact) BlockFacts (List Fact) (List Fact) → List Fact
procedure_step p =
    declares p.name (kind.Proc p.answer) ∷ specifies p.name.at.token p.answer (flattened p.params)
    ∷ fact.Block (Some p.name.at.token) (answer_facts p.answer ++ (parameters_facts p.params ++ p.body)) ∷ []

-- a label belongs to the block in which its statement stands
abbrev pub statement_step : RawStmt-F (List Fact) (List Fact) (List Fact) BlockFacts (List Fact) (List Fact) → List Fact
statement_step s = each_declares kind.Label s.labels ++ s.form

abbrev pub declaration_facts : RawDecl → List Fact
declaration_facts = fold-RawDecl (List Fact) (List Fact) (List Fact) BlockFacts (List Fact) (List Fact)
    declaration_step form_step simple_step block_step procedure_step statement_step

abbrev pub form_facts : RawForm → List Fact
form_facts = fold-RawForm (List Fact) (List Fact) (List Fact) BlockFacts (List Fact) (List Fact) declaration_step
    form_step simple_step block_step procedure_step statement_step

abbrev pub simple_facts : RawSimple → List Fact
simple_facts = fold-RawSimple (List Fact) (List Fact) (List Fact) BlockFacts (List Fact) (List Fact) declaration_step
    form_step simple_step block_step procedure_step statement_step

abbrev pub block_facts : RawBlock → BlockFacts
block_facts = fold-RawBlock (List Fact) (List Fact) (List Fact) BlockFacts (List Fact) (List Fact) declaration_step
    form_step simple_step block_step procedure_step statement_step

abbrev pub procedure_facts : RawProc → List Fact
procedure_facts = fold-RawProc (List Fact) (List Fact) (List Fact) BlockFacts (List Fact) (List Fact)
    declaration_step form_step simple_step block_step procedure_step statement_step

abbrev pub statement_facts : RawStmt → List Fact
statement_facts = fold-RawStmt (List Fact) (List Fact) (List Fact) BlockFacts (List Fact) (List Fact)
    declaration_step form_step simple_step block_step procedure_step statement_step
