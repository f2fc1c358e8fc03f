-- Pending work, and what statements, expressions, references and conditions become: the rows of the table of steps (docs/MEANING).
-- Official Definition of CORAL 66, "Statements" and "Expressions".
use Rattle.std.specs.Prelude.{ℕ, zero, suc, ◌+◌, max, ℤ, pos, ◌-ℤ◌, List, [], ◌∷◌, Bool, true, false, Option, Some, None, slice_get}
use Rattle.cw_unit.specs.declared.unit.Unit.{Unit as SourceUnit}
use Rattle.cw_unit.specs.declared.unit.Stmt.{Stmt, Stmt-F}
use Rattle.cw_unit.specs.declared.unit.Stmt.TheOpen as statement
use Rattle.cw_unit.specs.declared.unit.Dest.{Dest}
use Rattle.cw_unit.specs.declared.unit.Dest.TheVariants as dest
use Rattle.cw_unit.specs.declared.unit.Felem.{Felem}
use Rattle.cw_unit.specs.declared.unit.Felem.TheVariants as element
use Rattle.cw_unit.specs.declared.unit.Target.{Target}
use Rattle.cw_unit.specs.declared.unit.CompareOp.{CompareOp}
use Rattle.cw_unit.specs.declared.unit.Expr.{Expr, Expr-F}
use Rattle.cw_unit.specs.declared.unit.Arg.{Arg}
use Rattle.cw_unit.specs.declared.unit.Cond.{Cond}
use Rattle.cw_unit.specs.declared.unit.Spot.{Spot}
use Rattle.cw_unit.specs.declared.unit.Ref.{Ref, out-Ref}
use Rattle.cw_unit.specs.declared.unit.Arg.TheOpen as layer
use Rattle.cw_unit.specs.declared.unit.Arg.TheOpen.{Arg-F, Cond-F, Spot-F, Ref-F}
use Rattle.cw_unit.specs.Scales.{natural_scale, operand_scale, answer_scale}
use Rattle.cw_unit.specs.Operation.{Operation, Rescale, Fetch, Store, StoreBits, Add, Subtract, Negate, Multiply, Divide, Combine, Extract, InBounds}

-- a FOR at work: its line, its loop item, the scale of its control variable, its elements and its body
pub record Loop : Type 0 where
  pub line : ℕ
  pub item : ℕ
  pub scale : ℕ
  pub elements : List Felem
  pub body : Stmt

-- pending work: each constructor is its first work, and holds the work that follows it. Each that can stop has the line of its statement
pub data Work : Type 0 where
  -- the end of a segment's body
  Nothing : Work
  -- a statement
  Run : Stmt → Work → Work
  -- an expression at a context scale, and the address of a reference, whose indexes come first
  Eval : Expr → (scale line : ℕ) → Work → Work
  Address : Ref → (line : ℕ) → Work → Work
  FormAt : Spot → (line : ℕ) → Work → Work
  -- an operation on words
  Do : Operation → (line : ℕ) → Work → Work
  -- a condition, and a comparison of the two words in hand: each holds what follows where it holds and where it fails
  Test : Cond → (line : ℕ) → (pass fail : Work) → Work
  Choose : CompareOp → (line : ℕ) → (pass fail : Work) → Work
  -- a jump, after the index of its switch, if it has one
  Jump : Dest → (line : ℕ) → Work
  -- an argument, the entry of a call and whether its answer is wanted, the return with an answer and at the end of a body
  Give : Arg → (line : ℕ) → Work → Work
  Enter : Target → (line : ℕ) → (wanted : Bool) → Work → Work
  Return : Work
  Leave : Work
  -- of a FOR: a word is kept in one of its loop words, the control variable is set, an element begins, a turn of a STEP element, its
  -- step, and what comes after the body
  KeepAt : (word : ℕ) → Loop → Work → Work
  SetVar : Loop → Work → Work
  Element : (number : ℕ) → Loop → Work → Work
  Turn : (number : ℕ) → Loop → Work → Work
  Bump : (number : ℕ) → Loop → Work → Work
  On : Loop → Work → Work

-- the bits after the point of what a reference names
abbrev pub scale_of : Ref → ℕ
scale_of r = (out-Ref r).f

abbrev pub loop_of : (line item : ℕ) → Ref → List Felem → Stmt → Loop
loop_of line item r es s = record { line = line; item = item; scale = scale_of r; elements = es; body = s }

abbrev pub run_all : List Stmt → Work → Work
run_all [] k = k
run_all (s ∷ ss) k = Run s (run_all ss k)

abbrev pub give_all : List Arg → (line : ℕ) → Work → Work
give_all [] line k = k
give_all (a ∷ args) line k = Give a line (give_all args line k)

-- a jump's index, if it has one, and the jump
abbrev pub go_work : Dest → Dest → (line : ℕ) → Work
go_work d (dest.Goal g) line = Jump d line
go_work d (dest.Special n) line = Jump d line
go_work d (dest.Switch n e) line = Eval e 0 line (Jump d line)
go_work d (dest.CommonSwitch n e) line = Eval e 0 line (Jump d line)
go_work d (dest.SpecialSwitch n e) line = Eval e 0 line (Jump d line)

-- what a statement becomes, in a procedure whose answer has this scale
abbrev pub statement_work : (answer : ℕ) → Stmt-F Stmt → Work → Work
statement_work f (statement.Put line r e) k = Eval e (scale_of r) line (Address r line (Do (Store (out-Ref r).field) line k))
statement_work f (statement.PutBits line t b r e) k = Eval e 0 line (Address r line (Do (StoreBits t b) line k))
statement_work f (statement.Go line d) k = go_work d d line
statement_work f (statement.Call line t args) k = give_all args line (Enter t line false k)
statement_work f (statement.Answer line e) k = Eval e f line Return
statement_work f (statement.If line c a b) k = Test c line (Run a k) (Run b k)
statement_work f (statement.For line item r es s) k =
    Address r line (KeepAt 0 (loop_of line item r es s) (Element 1 (loop_of line item r es s) k))
statement_work f (statement.Seq ss) k = run_all ss k
statement_work f (statement.Mark ls s) k = Run s k

-- what an expression becomes; the step itself puts the word of a number, a constant or a string
abbrev pub expression_work : SourceUnit → Expr-F Arg Cond Expr Spot Ref → (scale line : ℕ) → Work → Work
expression_work u (layer.Num n) f line k = k
expression_work u (layer.Const z) f line k = Do (Rescale 0 f) line k
expression_work u (layer.Text i) f line k = Do (Rescale 0 f) line k
expression_work u (layer.Read r) f line k = Address r line (Do (Fetch (out-Ref r).field) line (Do (Rescale (scale_of r) f) line k))
expression_work u (layer.Call t args) f line k = give_all args line (Enter t line true (Do (Rescale (answer_scale u t) f) line k))
expression_work u (layer.Force g e) f line k = Eval e g line (Do (Rescale g f) line k)
expression_work u (layer.Locate r) f line k = Address r line (Do (Rescale 0 f) line k)
expression_work u (layer.Bits t b e) f line k = Eval e (operand_scale u e) line (Do (Extract t b) line (Do (Rescale 0 f) line k))
expression_work u (layer.Logic op a b) f line k =
    Eval a (operand_scale u a) line (Eval b (operand_scale u b) line (Do (Combine op) line (Do (Rescale 0 f) line k)))
expression_work u (layer.Sum a b) f line k = Eval a f line (Eval b f line (Do Add line k))
expression_work u (layer.Less a b) f line k = Eval a f line (Eval b f line (Do Subtract line k))
expression_work u (layer.Minus a) f line k = Eval a f line (Do Negate line k)
expression_work u (layer.Times a b) f line k =
    let g = operand_scale u a in
    let h = operand_scale u b in
    Eval a g line (Eval b h line (Do (Multiply (pos f -ℤ pos (g + h))) line k))
expression_work u (layer.Over a b) f line k =
    let g = operand_scale u a in
    let h = operand_scale u b in
    Eval a g line (Eval b h line (Do (Divide (pos (f + h) -ℤ pos g)) line k))
expression_work u (layer.Choice c a b) f line k = Test c line (Eval a f line k) (Eval b f line k)

-- an index, compared with its bounds or not
abbrev pub index_work : (compared : Bool) → Expr → (lower upper : ℤ) → (line : ℕ) → Work → Work
index_work true e l u line k = Eval e 0 line (Do (InBounds l u) line k)
index_work false e l u line k = Eval e 0 line k

-- the indexes of a reference, compared with their bounds where these are declared and the unit asks for it, and then its address. The
-- words of a table and its entries count from 0
abbrev pub spot_work : (compared : Bool) → Spot → Spot-F Arg Cond Expr Spot Ref → (line : ℕ) → Work → Work
spot_work c s (layer.Direct i) line k = k
spot_work c s (layer.Through i) line k = FormAt s line k
spot_work c s (layer.One i l u e) line k = index_work c e l u line (FormAt s line k)
spot_work c s (layer.Two i l1 u1 l2 u2 n e g) line k = index_work c e l1 u1 line (index_work c g l2 u2 line (FormAt s line k))
spot_work c s (layer.ParamArray i e) line k = Eval e 0 line (FormAt s line k)
spot_work c s (layer.Word i p n e) line k = index_work c e (pos 0) (pos n -ℤ pos 1) line (FormAt s line k)
spot_work c s (layer.Elem i p w n q e) line k = index_work c e (pos 0) (pos n -ℤ pos 1) line (FormAt s line k)
spot_work c s (layer.Bare e) line k = Eval e 0 line (FormAt s line k)

abbrev pub condition_work : SourceUnit → Cond-F Arg Cond Expr Spot Ref → (line : ℕ) → (pass fail : Work) → Work
condition_work u (layer.Cmp op a b) line pass fail =
    let f = max (natural_scale u a) (natural_scale u b) in
    Eval a f line (Eval b f line (Choose op line pass fail))
condition_work u (layer.And c d) line pass fail = Test c line (Test d line pass fail) fail
condition_work u (layer.Or c d) line pass fail = Test c line pass (Test d line pass fail)

-- ---- FOR

-- what an element becomes, past the note of its number
abbrev pub element_work : Felem → (number : ℕ) → Loop → Work → Work
element_work (element.One e) i c k = Eval e c.scale c.line (SetVar c (Run c.body (On c k)))
element_work (element.While e t) i c k = Eval e c.scale c.line (SetVar c (Test t c.line (Run c.body (On c k)) (Element (i + 1) c k)))
element_work (element.Step a b d) i c k =
    Eval a c.scale c.line (SetVar c (Eval b c.scale c.line (KeepAt 1 c (Eval d c.scale c.line (KeepAt 2 c (Turn i c k))))))

-- what follows the body of an element
abbrev pub next_work : Felem → (number : ℕ) → Loop → Work → Work
next_work (element.One e) i c k = Element (i + 1) c k
next_work (element.While e t) i c k = Element i c k
next_work (element.Step a b d) i c k = Bump i c k

-- elements are counted from 1
abbrev pub element_at : List Felem → ℕ → Option Felem
element_at es zero = None
element_at es (suc n) = slice_get es n

abbrev pub next_element : Option Felem → (number : ℕ) → Loop → Work → Work
next_element None i c k = k
next_element (Some e) i c k = next_work e i c k
