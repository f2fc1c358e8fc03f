-- The rules of types in statements, and the judgement of a whole text.
-- Official Definition of CORAL 66, "Statements"; BS 5905, "Statements".
use Rattle.std.specs.Prelude.{ℕ, nat_le, List, [], ◌∷◌, ◌++◌, map, Option, Some, None, if◌then◌else◌}
use Rattle.cw_table.specs.declared.table.Row.{Row}
use Rattle.cw_tree.specs.declared.expression.RawExpr.{RawExpr}
use Rattle.cw_tree.specs.declared.expression.RawCond.{RawCond}
use Rattle.cw_tree.specs.declared.expression.RawRef.{RawRef}
use Rattle.cw_tree.specs.declared.statement.RawFelem.{RawFelem}
use Rattle.cw_tree.specs.declared.statement.RawFelem.TheVariants as felem
use Rattle.cw_tree.specs.declared.statement.RawDecl.{RawDecl, RawDecl-F, fold-RawDecl}
use Rattle.cw_tree.specs.declared.statement.RawDecl.TheOpen as layer
use Rattle.cw_tree.specs.declared.statement.RawDecl.TheOpen.{RawForm-F, RawSimple-F, RawBlock-F, RawProc-F, RawStmt-F}
use Rattle.cw_tree.specs.declared.statement.RawForm.{RawForm, fold-RawForm}
use Rattle.cw_tree.specs.declared.statement.RawSimple.{RawSimple, fold-RawSimple}
use Rattle.cw_tree.specs.declared.statement.RawBlock.{RawBlock, fold-RawBlock}
use Rattle.cw_tree.specs.declared.statement.RawProc.{RawProc, fold-RawProc}
use Rattle.cw_tree.specs.declared.statement.RawStmt.{RawStmt, fold-RawStmt}
use Rattle.cw_tree.specs.declared.segment.Raw.{Raw}
use Rattle.cw_tree.specs.declared.segment.RawComm.{RawComm}
use Rattle.cw_tree.specs.declared.segment.RawComm.TheVariants as comm
use Rattle.cw_tree.specs.declared.segment.RawCitem.{RawCitem}
use Rattle.cw_tree.specs.declared.segment.RawCitem.TheVariants as citem
use Rattle.cw_tree.specs.declared.segment.RawAitem.{RawAitem}
use Rattle.cw_tree.specs.declared.segment.RawAitem.TheVariants as aitem
use Rattle.cw_facts.specs.Facts.{answer_name}
use Rattle.cw_scope.specs.declared.resolve.Named.{Named}
use Rattle.cw_scale.specs.declared.fault.Fault.{Fault}
use Rattle.cw_scale.specs.Faults.{Judgement, fine, both}
use Rattle.cw_scale.specs.Kinds.{kind_of, signature_of, fraction_of_kind}
use Rattle.cw_scale.specs.Types.{bits_judged}
use Rattle.cw_scale.specs.TypeRules.{expression, condition, reference, call_faults}
use Rattle.cw_data.specs.Specifications.{spec_judged, specs_judged, aitems_judged, heading_judged, switch_judged}
use Rattle.cw_amount.specs.Amounts.{place_amount}
use Rattle.cw_items.specs.declared.families.Site.{Site}
use Rattle.cw_items.specs.declared.thing.Thing.{Thing}
use Rattle.cw_items.specs.Families.{things_judged, nothing_known, all_known}
use Rattle.cw_items.specs.Things.{text_things}
use Rattle.cw_judge.specs.Declarations.{declared_judged, overlaid_judged, common_overlaid_judged}
use Rattle.cw_judge.specs.Operators.{expression_operators, condition_operators, reference_operators, few_operators, few_each}

-- ---- an expression that is no part of another: it is evaluated at a scale, and has at most 1,024 operators

abbrev pub expression_judged : Named → (scale : ℕ) → RawExpr → Judgement
expression_judged named f e = both ((expression named e).faults f) (few_operators (expression_operators e))

abbrev pub condition_judged : Named → RawCond → Judgement
condition_judged named c = both ((condition named c).faults 0) (few_operators (condition_operators c))

-- a reference that is no part of an expression: each of its indexes is an expression of its own
abbrev pub reference_judged : Named → RawRef → Judgement
reference_judged named r = both ((reference named r).faults 0) (few_each (reference_operators r))

abbrev pub arguments_counted : List RawExpr → Judgement
arguments_counted [] = fine
arguments_counted (e ∷ es) = both (few_operators (expression_operators e)) (arguments_counted es)

-- the scale at which a reference is assigned to
abbrev pub scale_of : Named → RawRef → ℕ
scale_of named r = (reference named r).shape.natural

-- ---- statements

abbrev pub all_judged : List Judgement → Judgement
all_judged [] = fine
all_judged (x ∷ xs) = both x (all_judged xs)

abbrev pub judged_if : Option Judgement → Judgement
judged_if None = fine
judged_if (Some x) = x

-- the expressions of a FOR's element are evaluated at the scale of its control variable
abbrev pub felem_judged : Named → (scale : ℕ) → RawFelem → Judgement
felem_judged named f (felem.One e) = expression_judged named f e
felem_judged named f (felem.While e c) = both (expression_judged named f e) (condition_judged named c)
felem_judged named f (felem.Step a b c) = both (expression_judged named f a) (both (expression_judged named f b) (expression_judged named f c))

abbrev pub felems_judged : Named → (scale : ℕ) → List RawFelem → Judgement
felems_judged named f [] = fine
felems_judged named f (e ∷ es) = both (felem_judged named f e) (felems_judged named f es)

module _ (named : Named) (sites : List (Row Site)) where
  abbrev pub declaration_step : RawDecl-F Judgement Judgement Judgement Judgement Judgement Judgement → Judgement
  declaration_step (layer.Data d) = declared_judged sites d
  declaration_step (layer.Overlay at b d) = overlaid_judged named sites b d
  declaration_step (layer.Switch at n labels) = switch_judged n labels
  declaration_step (layer.Proc p) = p

  abbrev pub form_step : RawForm-F Judgement Judgement Judgement Judgement Judgement Judgement → Judgement
  form_step (layer.Simple s) = s
  form_step (layer.If at test labels first second) = both (condition_judged named test) (both first (judged_if second))
  form_step (layer.For at variable elems body) = both (reference_judged named variable) (both (felems_judged named (scale_of named variable) elems) body)

  -- what is assigned is evaluated at the scale of the left side, which of BITS is 0, an index at 0, and an answer at that of its procedure
  abbrev pub simple_step : RawSimple-F Judgement Judgement Judgement Judgement Judgement Judgement → Judgement
  simple_step layer.Empty = fine
  simple_step (layer.Assign r e) = both (reference_judged named r) (expression_judged named (scale_of named r) e)
  simple_step (layer.AssignBits bits r e) = both (bits_judged bits) (both (reference_judged named r) (expression_judged named 0 e))
  simple_step (layer.Goto at n) = fine
  simple_step (layer.GotoSwitch at n e) = expression_judged named 0 e
  simple_step (layer.Call n es) = both (call_faults named (signature_of named n) n (map (expression named) es)) (arguments_counted es)
  simple_step (layer.Answer at e) = expression_judged named (fraction_of_kind (kind_of named (answer_name at))) e
  simple_step (layer.Block b) = b

  abbrev pub block_step : RawBlock-F Judgement Judgement Judgement Judgement Judgement Judgement → Judgement
  block_step b = both (all_judged b.decls) (all_judged b.stmts)

  abbrev pub procedure_step : RawProc-F Judgement Judgement Judgement Judgement Judgement Judgement → Judgement
  procedure_step p = both (heading_judged named p.answer p.name p.params) p.body

  abbrev pub statement_step : RawStmt-F Judgement Judgement Judgement Judgement Judgement Judgement → Judgement
  statement_step s = s.form

  abbrev pub declaration_judged : RawDecl → Judgement
  declaration_judged = fold-RawDecl Judgement Judgement Judgement Judgement Judgement Judgement declaration_step
      form_step simple_step block_step procedure_step statement_step

  abbrev pub form_judged : RawForm → Judgement
  form_judged = fold-RawForm Judgement Judgement Judgement Judgement Judgement Judgement declaration_step form_step
      simple_step block_step procedure_step statement_step

  abbrev pub simple_judged : RawSimple → Judgement
  simple_judged = fold-RawSimple Judgement Judgement Judgement Judgement Judgement Judgement declaration_step
      form_step simple_step block_step procedure_step statement_step

  abbrev pub block_judged : RawBlock → Judgement
  block_judged = fold-RawBlock Judgement Judgement Judgement Judgement Judgement Judgement declaration_step form_step
      simple_step block_step procedure_step statement_step

  abbrev pub procedure_judged : RawProc → Judgement
  procedure_judged = fold-RawProc Judgement Judgement Judgement Judgement Judgement Judgement declaration_step
      form_step simple_step block_step procedure_step statement_step

  abbrev pub statement_judged : RawStmt → Judgement
  statement_judged = fold-RawStmt Judgement Judgement Judgement Judgement Judgement Judgement declaration_step
      form_step simple_step block_step procedure_step statement_step

-- ---- communicators

abbrev pub address_or_none : Option ℕ → ℕ
address_or_none None = 0
address_or_none (Some a) = if nat_le a 32767 then a else 0

-- where each name of the ABSOLUTE lists stands, by the token of the name
abbrev pub aitem_address : RawAitem → Row ℕ
aitem_address (aitem.Single t n a) = record { token = n.at.token; item = address_or_none (place_amount a) }
aitem_address (aitem.Array t n b a) = record { token = n.at.token; item = address_or_none (place_amount a) }
aitem_address (aitem.Table t a) = record { token = t.name.at.token; item = address_or_none (place_amount a) }

abbrev pub aitems_addresses : List RawAitem → List (Row ℕ)
aitems_addresses [] = []
aitems_addresses (i ∷ is) = aitem_address i ∷ aitems_addresses is

abbrev pub communicator_addresses : RawComm → List (Row ℕ)
communicator_addresses (comm.Common at is) = []
communicator_addresses (comm.Library at ss) = []
communicator_addresses (comm.Absolute at is) = aitems_addresses is

abbrev pub absolute_addresses : List RawComm → List (Row ℕ)
absolute_addresses [] = []
absolute_addresses (c ∷ cs) = communicator_addresses c ++ absolute_addresses cs

module _ (named : Named) (sites : List (Row Site)) (absolute : List (Row ℕ)) where
  abbrev pub citem_judged : RawCitem → Judgement
  citem_judged (citem.Data d) = declared_judged sites d
  citem_judged (citem.Overlay at b d) = common_overlaid_judged named sites absolute b d
  citem_judged (citem.Label at ns) = fine
  citem_judged (citem.Switch at ns) = fine
  citem_judged (citem.Spec s) = spec_judged s

  abbrev pub citems_judged : List RawCitem → Judgement
  citems_judged [] = fine
  citems_judged (i ∷ is) = both (citem_judged i) (citems_judged is)

  abbrev pub communicator_judged : RawComm → Judgement
  communicator_judged (comm.Common at is) = citems_judged is
  communicator_judged (comm.Library at ss) = specs_judged ss
  communicator_judged (comm.Absolute at is) = aitems_judged is

  abbrev pub communicators_judged : List RawComm → Judgement
  communicators_judged [] = fine
  communicators_judged (c ∷ cs) = both (communicator_judged c) (communicators_judged cs)

-- ---- the text

-- where things stand
abbrev pub sites_of : List Thing → List (Row Site)
sites_of things = (all_known nothing_known things).sites

-- a text that stores these things
abbrev pub text_judged : Named → List Thing → Judgement
text_judged named things =
    both (things_judged nothing_known things)
    (both (communicators_judged named (sites_of things) (absolute_addresses named.raw.now.comms) named.raw.now.comms)
    (block_judged named (sites_of things) named.raw.now.block))

-- the first fault of the types of a text
abbrev pub first_type_fault : Named → Option Fault
first_type_fault named = text_judged named (text_things named named.raw.now) None
