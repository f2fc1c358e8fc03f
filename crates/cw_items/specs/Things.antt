-- What a text stores, in order of the text: its declared items, the parameters that have a word, its strings, and four words for each FOR.
-- Official Definition of CORAL 66, "Data", "Overlay declarations"; BS 5905, "Overlaying of data". That a string is an item of a length
-- word and a word for each character, and the words of a FOR, are this project's profile.
use Rattle.std.specs.Prelude.{ℕ, nat_le, ◌+◌, ◌-◌, ◌*◌, List, [], ◌∷◌, ◌++◌, map, Bool, true, false, Option, Some, None, if◌then◌else◌}
use Rattle.cw_tree.specs.declared.leaf.Position.{Position}
use Rattle.cw_tree.specs.declared.leaf.RawName.{RawName}
use Rattle.cw_tree.specs.declared.leaf.RawSint.{RawSint}
use Rattle.cw_tree.specs.declared.items.RawBase.{RawBase}
use Rattle.cw_tree.specs.declared.items.RawBase.TheVariants as base
use Rattle.cw_tree.specs.declared.items.RawRange.{RawRange}
use Rattle.cw_tree.specs.declared.items.RawGroup.{RawGroup}
use Rattle.cw_tree.specs.declared.items.RawTable.{RawTable}
use Rattle.cw_tree.specs.declared.items.RawData.{RawData}
use Rattle.cw_tree.specs.declared.items.RawData.TheVariants as items
use Rattle.cw_tree.specs.declared.segment.Raw.{Raw}
use Rattle.cw_tree.specs.declared.segment.RawComm.{RawComm}
use Rattle.cw_tree.specs.declared.segment.RawComm.TheVariants as comm
use Rattle.cw_tree.specs.declared.segment.RawCitem.{RawCitem}
use Rattle.cw_tree.specs.declared.segment.RawCitem.TheVariants as citem
use Rattle.cw_tree.specs.declared.segment.RawAitem.{RawAitem}
use Rattle.cw_tree.specs.declared.segment.RawAitem.TheVariants as aitem
use Rattle.cw_tree.specs.declared.statement.RawParam.{RawParam}
use Rattle.cw_tree.specs.declared.statement.RawParam.TheVariants as param
use Rattle.cw_tree.specs.declared.statement.RawPtag.{RawPtag}
use Rattle.cw_tree.specs.declared.statement.RawPtag.TheVariants as tag
use Rattle.cw_tree.specs.declared.statement.RawFelem.{RawFelem}
use Rattle.cw_tree.specs.declared.statement.RawFelem.TheVariants as felem
use Rattle.cw_tree.specs.declared.statement.RawDecl.{RawDecl, RawDecl-F, fold-RawDecl}
use Rattle.cw_tree.specs.declared.statement.RawDecl.TheOpen as layer
use Rattle.cw_tree.specs.declared.statement.RawDecl.TheOpen.{RawForm-F, RawSimple-F, RawBlock-F, RawProc-F, RawStmt-F}
use Rattle.cw_tree.specs.declared.statement.RawForm.{RawForm, fold-RawForm}
use Rattle.cw_tree.specs.declared.statement.RawSimple.{RawSimple, fold-RawSimple}
use Rattle.cw_tree.specs.declared.statement.RawBlock.{RawBlock, fold-RawBlock}
use Rattle.cw_tree.specs.declared.statement.RawProc.{RawProc, fold-RawProc}
use Rattle.cw_tree.specs.declared.statement.RawStmt.{RawStmt, fold-RawStmt}
use Rattle.cw_facts.specs.declared.fact.Fact.{Fact, Fact-F, out-Fact}
use Rattle.cw_facts.specs.declared.fact.Fact.TheOpen as fact
use Rattle.cw_facts.specs.declared.fact.Kind.{Kind}
use Rattle.cw_facts.specs.declared.fact.Kind.TheVariants as kind
use Rattle.cw_facts.specs.declared.fact.Reading.TheVariants as reading
use Rattle.cw_facts.specs.Facts.{base_name}
use Rattle.cw_facts.specs.Uses.{expression_uses, condition_uses, reference_uses, argument_uses}
use Rattle.cw_scope.specs.declared.resolve.Named.{Named}
use Rattle.cw_table.specs.Rows.{item_at}
use Rattle.cw_amount.specs.Amounts.{place_amount, place_sint}
use Rattle.cw_data.specs.scale.Kinds.{kind_of}
use Rattle.cw_data.specs.Data.{range_span}
use Rattle.cw_data.specs.Presets.{array_words, table_words}
use Rattle.cw_data.specs.Overlays.{can_be_laid_on}
use Rattle.cw_items.specs.declared.thing.Owner.{Owner}
use Rattle.cw_items.specs.declared.thing.Base.{Base}
use Rattle.cw_items.specs.declared.thing.Sort.{Sort}
use Rattle.cw_items.specs.declared.thing.Sort.TheVariants as sort
use Rattle.cw_items.specs.declared.thing.Thing.{Thing}

-- beyond the limit nothing is counted
abbrev pub capped : (words : ℕ) → ℕ
capped n = if nat_le n 32768 then n else 32769

abbrev pub is_fixed : Sort → Bool
is_fixed sort.Text = true
is_fixed _ = false

abbrev pub thing : Sort → Position → Option Owner → Option Base → (words : ℕ) → Thing
thing s at o b w = record { sort = s; at = at; owner = o; base = b; words = w }

-- ---- overlays

-- how many words there are from a bound to an index
abbrev pub steps_to : RawSint → RawSint → ℕ
steps_to lower i = range_span (record { lower = lower; upper = i }) - 1

abbrev pub array_word : RawRange → Option RawRange → RawBase → ℕ
array_word r None (base.One n i) = steps_to r.lower i
array_word r (Some s) (base.Two n i j) = steps_to r.lower i * range_span s + steps_to s.lower j
array_word r _ _ = 0

abbrev pub amount_or_none : Option ℕ → ℕ
amount_or_none None = 0
amount_or_none (Some n) = n

abbrev pub table_word : RawBase → ℕ
table_word (base.One n i) = amount_or_none (place_amount i.value)
table_word _ = 0

abbrev pub word_of_base : Option Kind → RawBase → ℕ
word_of_base (Some (kind.Array t bounds)) b = array_word bounds.first bounds.second b
word_of_base (Some (kind.Table s)) b = table_word b
word_of_base _ b = 0

-- a base that is refused counts as the first word
abbrev pub base_at : Named → RawBase → Base
base_at named b = record {
  token = amount_or_none (item_at named.uses (base_name b).at.token);
  word = if can_be_laid_on (kind_of named (base_name b)) b then capped (word_of_base (kind_of named (base_name b)) b) else 0;
}

-- what is laid behind so many words
abbrev pub moved : (words : ℕ) → Option Base → Option Base
moved w None = None
moved w (Some b) = Some (record { token = b.token; word = capped (b.word + w) })

abbrev pub moved_past : (words : ℕ) → List RawName → Option Base → Option Base
moved_past w [] b = b
moved_past w (n ∷ ns) b = moved_past w ns (moved w b)

-- ---- data

-- items of so many words each, one behind the other
abbrev pub named_things : Option Owner → (words : ℕ) → Option Base → List RawName → List Thing
named_things o w b [] = []
named_things o w b (n ∷ ns) = thing sort.Named n.at o b w ∷ named_things o w (moved w b) ns

abbrev pub group_words : RawGroup → ℕ
group_words g = array_words g.bounds.first g.bounds.second

abbrev pub groups_things : Option Owner → Option Base → List RawGroup → List Thing
groups_things o b [] = []
groups_things o b (g ∷ gs) = named_things o (group_words g) b g.names ++ groups_things o (moved_past (group_words g) g.names b) gs

abbrev pub words_of_table : RawTable → ℕ
words_of_table t = table_words (place_amount t.size.first) (place_amount t.size.second)

abbrev pub data_things : Option Owner → Option Base → RawData → List Thing
data_things o b (items.Singles t ns presets) = named_things o 1 b ns
data_things o b (items.Arrays t gs presets) = groups_things o b gs
data_things o b (items.Table t inside behind) = thing sort.Named t.name.at o b (words_of_table t) ∷ []

-- ---- parameters: one word for a value or an address, none for what is no word

abbrev pub parameter_things : Option Owner → RawParam → List Thing
parameter_things o (param.Value at t ns) = named_things o 1 None ns
parameter_things o (param.Location at t ns) = named_things o 1 None ns
parameter_things o (param.Array t ns) = named_things o 1 None ns
parameter_things o (param.Table t) = thing sort.Named t.name.at o None 1 ∷ []
parameter_things o (param.Label at ns) = []
parameter_things o (param.Switch at ns) = []
parameter_things o (param.Proc answer at n params) = []

abbrev pub parameters_things : Option Owner → List RawParam → List Thing
parameters_things o [] = []
parameters_things o (p ∷ ps) = parameter_things o p ++ parameters_things o ps

-- ---- strings

abbrev pub fact_texts : Option Owner → Fact-F Fact → List Thing
fact_texts o (fact.Text at n) = thing sort.Text at o None (capped (n + 1)) ∷ []
fact_texts o _ = []

abbrev pub texts : Option Owner → List Fact → List Thing
texts o [] = []
texts o (f ∷ fs) = fact_texts o (out-Fact f) ++ texts o fs

-- ---- what stands at an address

abbrev pub aitem_things : RawAitem → List Thing
aitem_things (aitem.Single t n a) = thing sort.Named n.at None None 1 ∷ []
aitem_things (aitem.Array t n b a) = thing sort.Named n.at None None (array_words b.first b.second) ∷ []
aitem_things (aitem.Table t a) = thing sort.Named t.name.at None None (words_of_table t) ∷ []

abbrev pub aitems_things : List RawAitem → List Thing
aitems_things [] = []
aitems_things (i ∷ is) = aitem_things i ++ aitems_things is

-- ---- statements: what they store, by the procedure to which they belong

abbrev pub Things : Type 0
Things = Option Owner → List Thing

abbrev pub joined : List Things → Things
joined [] o = []
joined (x ∷ xs) o = x o ++ joined xs o

abbrev pub things_if : Option Things → Things
things_if None o = []
things_if (Some x) o = x o

abbrev pub felem_things : RawFelem → Things
felem_things (felem.One e) o = texts o (expression_uses e reading.Value)
felem_things (felem.While e c) o = texts o (expression_uses e reading.Value ++ condition_uses c reading.Value)
felem_things (felem.Step a b c) o = texts o (expression_uses a reading.Value ++ (expression_uses b reading.Value ++ expression_uses c reading.Value))

abbrev pub felems_things : List RawFelem → Things
felems_things [] o = []
felems_things (e ∷ es) o = felem_things e o ++ felems_things es o

abbrev pub is_recursive : RawPtag → Bool
is_recursive (tag.Procedure at) = false
is_recursive (tag.Recursive at) = true

module _ (named : Named) where
  abbrev pub declaration_step : RawDecl-F Things Things Things Things Things Things → Things
  declaration_step (layer.Data d) o = data_things o None d
  declaration_step (layer.Overlay at b d) o = data_things o (Some (base_at named b)) d
  declaration_step (layer.Switch at n labels) o = []
  declaration_step (layer.Proc p) o = p o

  abbrev pub form_step : RawForm-F Things Things Things Things Things Things → Things
  form_step (layer.Simple s) o = s o
  form_step (layer.If at test labels first second) o = texts o (condition_uses test reading.Value) ++ (first o ++ things_if second o)
  form_step (layer.For at variable elems body) o =
      thing sort.Loop at o None 4 ∷ texts o (reference_uses variable reading.Whole) ++ (felems_things elems o ++ body o)

  abbrev pub simple_step : RawSimple-F Things Things Things Things Things Things → Things
  simple_step layer.Empty o = []
  simple_step (layer.Assign r e) o = texts o (reference_uses r reading.Target ++ expression_uses e reading.Value)
  simple_step (layer.AssignBits bits r e) o = texts o (reference_uses r reading.Whole ++ expression_uses e reading.Value)
  simple_step (layer.Goto at n) o = []
  simple_step (layer.GotoSwitch at n e) o = texts o (expression_uses e reading.Value)
  simple_step (layer.Call n es) o = texts o (argument_uses es)
  simple_step (layer.Answer at e) o = texts o (expression_uses e reading.Value)
  simple_step (layer.Block b) o = b o

  abbrev pub block_step : RawBlock-F Things Things Things Things Things Things → Things
  block_step b o = joined b.decls o ++ joined b.stmts o

  -- a procedure owns what stands in it
  abbrev pub procedure_step : RawProc-F Things Things Things Things Things Things → Things
  procedure_step p o =
      let own = Some (record { token = p.name.at.token; recursive = is_recursive p.tag }) in
      parameters_things own p.params ++ p.body own

  abbrev pub statement_step : RawStmt-F Things Things Things Things Things Things → Things
  statement_step s o = s.form o

  abbrev pub declaration_things : RawDecl → Things
  declaration_things = fold-RawDecl Things Things Things Things Things Things declaration_step form_step simple_step block_step procedure_step statement_step

  abbrev pub form_things : RawForm → Things
  form_things = fold-RawForm Things Things Things Things Things Things declaration_step form_step simple_step block_step procedure_step statement_step

  abbrev pub simple_things : RawSimple → Things
  simple_things = fold-RawSimple Things Things Things Things Things Things declaration_step form_step simple_step block_step procedure_step statement_step

  abbrev pub block_things : RawBlock → Things
  block_things = fold-RawBlock Things Things Things Things Things Things declaration_step form_step simple_step block_step procedure_step statement_step

  abbrev pub procedure_things : RawProc → Things
  procedure_things = fold-RawProc Things Things Things Things Things Things declaration_step form_step simple_step block_step procedure_step statement_step

  abbrev pub statement_things : RawStmt → Things
  statement_things = fold-RawStmt Things Things Things Things Things Things declaration_step form_step simple_step block_step procedure_step statement_step

  -- ---- communicators

  abbrev pub citem_things : RawCitem → List Thing
  citem_things (citem.Data d) = data_things None None d
  citem_things (citem.Overlay at b d) = data_things None (Some (base_at named b)) d
  citem_things (citem.Label at ns) = []
  citem_things (citem.Switch at ns) = []
  citem_things (citem.Spec s) = []

  abbrev pub citems_things : List RawCitem → List Thing
  citems_things [] = []
  citems_things (i ∷ is) = citem_things i ++ citems_things is

  abbrev pub communicator_things : RawComm → List Thing
  communicator_things (comm.Common at is) = citems_things is
  communicator_things (comm.Library at ss) = []
  communicator_things (comm.Absolute at is) = aitems_things is

  abbrev pub communicators_things : List RawComm → List Thing
  communicators_things [] = []
  communicators_things (c ∷ cs) = communicator_things c ++ communicators_things cs

  abbrev pub text_things : Raw → List Thing
  text_things raw = communicators_things raw.comms ++ block_things raw.block None
