-- Short words for the trees of example programs.
use Rattle.std.specs.Prelude.{pos, ℕ, ℤ, List, [], ◌∷◌, Bool, false, Option, Some, None}
use Rattle.cw_unit.specs.declared.unit.Unit.{Unit as SourceUnit}
use Rattle.cw_unit.specs.declared.unit.Item.{Item}
use Rattle.cw_unit.specs.declared.unit.ItemKind.{ItemKind}
use Rattle.cw_unit.specs.declared.unit.ItemKind.TheVariants as kind
use Rattle.cw_unit.specs.declared.unit.Home.{Home}
use Rattle.cw_unit.specs.declared.unit.Home.TheVariants as home
use Rattle.cw_unit.specs.declared.unit.Proc.{Proc}
use Rattle.cw_unit.specs.declared.unit.Param.{Param}
use Rattle.cw_unit.specs.declared.unit.Label.{Label}
use Rattle.cw_unit.specs.declared.unit.Switch.{Switch}
use Rattle.cw_unit.specs.declared.unit.Goal.{Goal}
use Rattle.cw_unit.specs.declared.unit.Goal.TheVariants as goal
use Rattle.cw_unit.specs.declared.unit.Def.{Def}
use Rattle.cw_unit.specs.declared.unit.Field.{Field}
use Rattle.cw_unit.specs.declared.unit.Stmt.{Stmt, roll-Stmt}
use Rattle.cw_unit.specs.declared.unit.Stmt.TheOpen as statement
use Rattle.cw_unit.specs.declared.unit.Felem.{Felem}
use Rattle.cw_unit.specs.declared.unit.Dest.{Dest}
use Rattle.cw_unit.specs.declared.unit.Dest.TheVariants as dest
use Rattle.cw_unit.specs.declared.unit.CompareOp.{CompareOp}
use Rattle.cw_unit.specs.declared.unit.LogicOp.{LogicOp}
use Rattle.cw_unit.specs.declared.unit.Target.{Target}
use Rattle.cw_unit.specs.declared.unit.Target.TheVariants as target
use Rattle.cw_unit.specs.declared.unit.Expr.{Expr, roll-Expr}
use Rattle.cw_unit.specs.declared.unit.Arg.{Arg, roll-Arg}
use Rattle.cw_unit.specs.declared.unit.Cond.{Cond, roll-Cond}
use Rattle.cw_unit.specs.declared.unit.Spot.{Spot, roll-Spot}
use Rattle.cw_unit.specs.declared.unit.Ref.{Ref, roll-Ref}
use Rattle.cw_unit.specs.declared.unit.Arg.TheOpen as layer
use Rattle.cw_unit.specs.declared.unit.Arg.TheOpen.{Arg-F, Cond-F, Spot-F, Ref-F}
use Rattle.cw_unit.specs.declared.descriptor.Scale.{Scale}
use Rattle.cw_unit.specs.declared.descriptor.Desc.{Desc}
use Rattle.cw_unit.specs.declared.descriptor.DescBody.{DescBody}

-- ---- references

abbrev pub ref_layer : Spot → (f : ℕ) → Option Field → Ref-F Arg Cond Expr Spot Ref
ref_layer s f field = record { at = s; f = f; field = field }

abbrev pub ref_to : Spot → Ref
ref_to s = roll-Ref (ref_layer s 0 None)

-- an item of f bits after the point
abbrev pub fixed : (f item : ℕ) → Ref
fixed f i = roll-Ref (ref_layer (roll-Spot (layer.Direct i)) f None)

abbrev pub item : ℕ → Ref
item i = fixed 0 i

abbrev pub through : ℕ → Ref
through i = ref_to (roll-Spot (layer.Through i))

abbrev pub element_between : (item : ℕ) → (lower upper : ℤ) → Expr → Ref
element_between i l u e = ref_to (roll-Spot (layer.One i l u e))

-- of an array that ends at 32,767
abbrev pub element : (item : ℕ) → (lower : ℤ) → Expr → Ref
element i l e = element_between i l (pos 32767) e

abbrev pub array_element : ℕ → Expr → Ref
array_element i e = ref_to (roll-Spot (layer.ParamArray i e))

-- a whole word of a table's entry, of which there are two
abbrev pub entry_word : (item : ℕ) → (parameter : Bool) → (width word : ℕ) → Expr → Ref
entry_word i t n q e = ref_to (roll-Spot (layer.Elem i t n 2 q e))

-- t bits from bit b of the word of a table's entry, which has one, of four entries
abbrev pub entry_part : (item : ℕ) → (unsigned : Bool) → (t b : ℕ) → Expr → Ref
entry_part i u t b e = roll-Ref (ref_layer (roll-Spot (layer.Elem i false 1 4 0 e)) 0 (Some (record { t = t; b = b; unsigned = u })))

abbrev pub element_2 : (item : ℕ) → (lower upper lower2 upper2 : ℤ) → (width : ℕ) → Expr → Expr → Ref
element_2 i l u l2 u2 n e g = ref_to (roll-Spot (layer.Two i l u l2 u2 n e g))

abbrev pub bare : Expr → Ref
bare e = ref_to (roll-Spot (layer.Bare e))

-- ---- expressions

abbrev pub number : ℕ → Expr
number n = roll-Expr (layer.Num (record { whole = n; digits = 0; places = 0 }))

abbrev pub decimal : (whole digits places : ℕ) → Expr
decimal n d k = roll-Expr (layer.Num (record { whole = n; digits = d; places = k }))

abbrev pub constant : ℤ → Expr
constant z = roll-Expr (layer.Const z)

abbrev pub read : Ref → Expr
read r = roll-Expr (layer.Read r)

abbrev pub value : ℕ → Expr
value i = read (item i)

abbrev pub locate : Ref → Expr
locate r = roll-Expr (layer.Locate r)

abbrev pub bits : (t b : ℕ) → Expr → Expr
bits t b e = roll-Expr (layer.Bits t b e)

abbrev pub logic : LogicOp → Expr → Expr → Expr
logic op a b = roll-Expr (layer.Logic op a b)

abbrev pub string : (item : ℕ) → Expr
string i = roll-Expr (layer.Text i)

abbrev pub sum : Expr → Expr → Expr
sum a b = roll-Expr (layer.Sum a b)

abbrev pub less : Expr → Expr → Expr
less a b = roll-Expr (layer.Less a b)

abbrev pub minus : Expr → Expr
minus a = roll-Expr (layer.Minus a)

abbrev pub times : Expr → Expr → Expr
times a b = roll-Expr (layer.Times a b)

abbrev pub over : Expr → Expr → Expr
over a b = roll-Expr (layer.Over a b)

abbrev pub asks : Target → List Arg → Expr
asks t args = roll-Expr (layer.Call t args)

abbrev pub compares : CompareOp → Expr → Expr → Cond
compares op a b = roll-Cond (layer.Cmp op a b)

-- ---- arguments

abbrev pub by_value : Expr → Arg
by_value e = roll-Arg (layer.Value e 0)

abbrev pub by_place : Ref → Arg
by_place r = roll-Arg (layer.Place r)

abbrev pub the_array : (item : ℕ) → (lower : ℤ) → Arg
the_array i l = roll-Arg (layer.Array i l)

abbrev pub the_table : ℕ → Arg
the_table i = roll-Arg (layer.Base i)

abbrev pub the_label : ℕ → Arg
the_label l = roll-Arg (layer.Goal (goal.Own l))

abbrev pub the_switch : ℕ → Arg
the_switch n = roll-Arg (layer.Switch n)

abbrev pub the_procedure : ℕ → Arg
the_procedure q = roll-Arg (layer.Proc q)

abbrev pub handed_on : ℕ → Arg
handed_on k = roll-Arg (layer.Special k)

-- ---- statements, on line 1 where no line is given

abbrev pub put_on : (line : ℕ) → Ref → Expr → Stmt
put_on line r e = roll-Stmt (statement.Put line r e)

abbrev pub put : Ref → Expr → Stmt
put r e = put_on 1 r e

abbrev pub put_bits : (t b : ℕ) → Ref → Expr → Stmt
put_bits t b r e = roll-Stmt (statement.PutBits 1 t b r e)

abbrev pub assign : (item : ℕ) → Expr → Stmt
assign i e = put (item i) e

abbrev pub call_on : (line : ℕ) → Target → List Arg → Stmt
call_on line t args = roll-Stmt (statement.Call line t args)

abbrev pub call : Target → List Arg → Stmt
call t args = call_on 1 t args

abbrev pub writes : Expr → Stmt
writes e = call target.Write (by_value e ∷ [])

abbrev pub row : List Stmt → Stmt
row ss = roll-Stmt (statement.Seq ss)

abbrev pub nothing : Stmt
nothing = row []

abbrev pub choice : Cond → Stmt → Stmt → Stmt
choice c a b = roll-Stmt (statement.If 1 c a b)

abbrev pub answer : Expr → Stmt
answer e = roll-Stmt (statement.Answer 1 e)

abbrev pub loop : (item variable : ℕ) → List Felem → Stmt → Stmt
loop i v es s = roll-Stmt (statement.For 1 i (item v) es s)

abbrev pub marked : (label : ℕ) → Stmt → Stmt
marked l s = roll-Stmt (statement.Mark (l ∷ []) s)

abbrev pub go : Dest → Stmt
go d = roll-Stmt (statement.Go 1 d)

abbrev pub go_to : (label : ℕ) → Stmt
go_to l = go (dest.Goal (goal.Own l))

-- ---- declarations

abbrev pub integer : Scale
integer = record { t = 16; f = 0 }

abbrev pub stored : Option ℕ → ItemKind → Home → (words : ℕ) → List (ℕ × ℕ) → Item
stored owner k h n presets =
    record { name = Some (88 ∷ []); owner = owner; line = 0; kind = k; scale = integer; home = h; words = n; presets = presets }

abbrev pub single : Item
single = stored None kind.Single home.Own 1 []

abbrev pub array_of : ℕ → Item
array_of n = stored None kind.Array home.Own n []

abbrev pub table_of : ℕ → Item
table_of n = stored None kind.Table home.Own n []

abbrev pub local_of : (procedure : ℕ) → Item
local_of q = stored (Some q) kind.Single home.Own 1 []

abbrev pub framed : (procedure words : ℕ) → Item
framed q n = stored (Some q) kind.Single home.Frame n []

abbrev pub loop_of : Option ℕ → Item
loop_of owner = record { name = None; owner = owner; line = 1; kind = kind.Loop; scale = integer; home = home.Own; words = 4; presets = [] }

abbrev pub loop_words : Item
loop_words = loop_of None

abbrev pub common_item : (descriptor words : ℕ) → Item
common_item d n = stored None kind.Single (home.Common d) n []

abbrev pub procedure_of : (recursive : Bool) → Option Scale → List Param → (controls : ℕ) → Stmt → Proc
procedure_of r a ps n s = record { name = 80 ∷ []; answer = a; recursive = r; params = ps; specials = n; body = s }

abbrev pub body_label : Label
body_label = record { proc = None; line = 1 }

abbrev pub switch_of : List Goal → Switch
switch_of gs = record { proc = None; list = gs }

abbrev pub described : (letter : ℕ) → DescBody → Desc
described n b = record { name = n ∷ []; library = false; over = None; body = b }

abbrev pub unit_of : (letter : ℕ) → List Desc → List Item → List Proc → List Label → List Switch → List (ℕ × Def) → Stmt → SourceUnit
unit_of n descs items procs labels switches defined body =
    record {
      name = n ∷ [];
      tokens = 0;
      bounds = false;
      descs = descs;
      items = items;
      procs = procs;
      labels = labels;
      switches = switches;
      defined = defined;
      body = body;
    }

-- a segment that shares no names
abbrev pub segment_of : List Item → List Proc → List Label → List Switch → List Stmt → SourceUnit
segment_of items procs labels switches ss = unit_of 65 [] items procs labels switches [] (row ss)
