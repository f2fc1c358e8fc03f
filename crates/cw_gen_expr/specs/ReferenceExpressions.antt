-- The orders of expressions, conditions, references and arguments.
use Rattle.std.specs.Prelude.{ℕ, zero, suc, ◌+◌, ◌-◌, ◌%◌, max, ◌==◌, nat_lt, if◌then◌else◌, ℤ, pos, negsuc, ◌-ℤ◌, List}
use Rattle.std.specs.Prelude.{[], ◌∷◌, ◌++◌, Bool, true, false, not, Option, Some, None, slice_get, slice_index_or}
use Rattle.cw_word.specs.Decimal.{decimal_floor}
use Rattle.cw_word.specs.Word.{signed, unsigned}
use Rattle.cw_order.specs.declared.order.Order.{Order}
use Rattle.cw_order.specs.declared.order.Order.TheVariants as order
use Rattle.cw_order.specs.declared.order.Comparator.{Comparator}
use Rattle.cw_order.specs.declared.order.Comparator.TheVariants as comparator
use Rattle.cw_unit.specs.declared.layout.Layout.{Layout}
use Rattle.cw_unit.specs.declared.layout.Family.{Family}
use Rattle.cw_unit.specs.declared.layout.Sort.{Sort}
use Rattle.cw_unit.specs.declared.layout.Sort.TheVariants as sort
use Rattle.cw_unit.specs.declared.unit.Unit.{Unit as SourceUnit}
use Rattle.cw_unit.specs.declared.unit.Field.{Field}
use Rattle.cw_unit.specs.declared.unit.LogicOp.{LogicOp}
use Rattle.cw_unit.specs.declared.unit.LogicOp.TheVariants as logic
use Rattle.cw_unit.specs.declared.unit.Param.{Param}
use Rattle.cw_unit.specs.declared.unit.Param.TheVariants as param
use Rattle.cw_unit.specs.declared.unit.Target.{Target}
use Rattle.cw_unit.specs.declared.unit.Target.TheVariants as target
use Rattle.cw_unit.specs.declared.unit.Goal.{Goal}
use Rattle.cw_unit.specs.declared.unit.Goal.TheVariants as goal
use Rattle.cw_unit.specs.declared.unit.CompareOp.{CompareOp}
use Rattle.cw_unit.specs.declared.unit.CompareOp.TheVariants as compare
use Rattle.cw_unit.specs.declared.unit.Cond.{Cond, fold-Cond}
use Rattle.cw_unit.specs.declared.unit.Expr.{Expr, Expr-F, out-Expr, map-Expr, fold-Expr}
use Rattle.cw_unit.specs.declared.unit.Arg.{Arg, fold-Arg}
use Rattle.cw_unit.specs.declared.unit.Ref.{Ref, fold-Ref}
use Rattle.cw_unit.specs.declared.unit.Spot.{Spot, out-Spot, map-Spot, fold-Spot}
use Rattle.cw_unit.specs.declared.unit.Arg.TheOpen as layer
use Rattle.cw_unit.specs.declared.unit.Arg.TheOpen.{Arg-F, Cond-F, Spot-F, Ref-F}
use Rattle.cw_unit.specs.Scales.{answer_scale, number_scale}
use Rattle.cw_gen_expr.specs.Pieces.{Piece, plain, followed_by, sequence, with_end}
use Rattle.cw_gen_expr.specs.KnownValues.{of_known, of_both, known_sum, known_difference, known_negative, known_rescaled, known_product, known_quotient}
use Rattle.cw_gen_expr.specs.KnownValues.{known_logic, known_bits, from_lower, element_word, element_of_two_word, entry_word, all_inside}

-- ---- the body at work

-- the words of an argument: a control argument takes two
abbrev pub parameter_words : Param → ℕ
parameter_words (param.Value i s) = 1
parameter_words (param.Location i s) = 1
parameter_words (param.Array i s) = 1
parameter_words (param.Table i n) = 1
parameter_words (param.Label k) = 2
parameter_words (param.Switch k) = 2
parameter_words (param.Proc k s) = 2

abbrev pub argument_words : List Param → ℕ
argument_words [] = 0
argument_words (q ∷ qs) = parameter_words q + argument_words qs

-- how many words of arguments follow that of a control parameter, which is named by its number among them
abbrev pub control_place_from : Param → (k rest : ℕ) → (ℕ → ℕ) → ℕ
control_place_from (param.Value i s) k rest f = f k
control_place_from (param.Location i s) k rest f = f k
control_place_from (param.Array i s) k rest f = f k
control_place_from (param.Table i n) k rest f = f k
control_place_from _ zero rest f = rest
control_place_from _ (suc k) rest f = f k

abbrev pub control_place : List Param → ℕ → ℕ
control_place [] k = 0
control_place (q ∷ qs) k = control_place_from q k (argument_words qs) (control_place qs)

-- the unit of a body, its storage layout, the parameters of the procedure whose body it is, none for a segment's, and the line that
-- orders name
pub record Scope : Type 0 where
  pub unit : SourceUnit
  pub layout : Layout
  pub parameters : List Param
  pub line : ℕ

-- at no line
abbrev pub scope_with : SourceUnit → Layout → List Param → Scope
scope_with u y ps = record { unit = u; layout = y; parameters = ps; line = 0 }

abbrev pub at_line : (line : ℕ) → Scope → Scope
at_line n s = record { unit = s.unit; layout = s.layout; parameters = s.parameters; line = n }

-- ---- items

-- a word of a storage family, which stands in the frame at work or at a place of its own
abbrev pub placed_by : Sort → (family offset : ℕ) → Order
placed_by (sort.Frame base) f o = order.FrameHome ((base + o) % 65536)
placed_by _ f o = order.Home f (o % 65536)

abbrev pub placed_in : Option Family → (family offset : ℕ) → Order
placed_in None f o = order.Home f (o % 65536)
placed_in (Some x) f o = placed_by x.sort f o

-- the address of a word of an item
abbrev pub item_order : Layout → (item word : ℕ) → Order
item_order y i n = let home = slice_index_or y.homes i (0, 0) in placed_in (slice_get y.families home.0) home.0 (home.1 + n)

-- the base of a table: its address, or the word of a table parameter
abbrev pub table_orders : Layout → Bool → (item : ℕ) → List Order
table_orders y true i = item_order y i 0 ∷ order.Load ∷ []
table_orders y false i = item_order y i 0 ∷ []

-- How many words are known to be in the data area from an item on: those of its family, where that is not in a frame.
abbrev pub span_by : Sort → (extent offset : ℕ) → ℕ
span_by (sort.Frame base) e o = 0
span_by _ e o = (e - o) % 65536

abbrev pub span_in : Option Family → (offset : ℕ) → ℕ
span_in None o = 0
span_in (Some x) o = span_by x.sort x.extent o

abbrev pub item_span : Layout → (item : ℕ) → ℕ
item_span y i = let home = slice_index_or y.homes i (0, 0) in span_in (slice_get y.families home.0) home.1

-- nothing is known of where a table parameter leads
abbrev pub table_span : Layout → Bool → (item : ℕ) → ℕ
table_span y true i = 0
table_span y false i = item_span y i

-- two indexes whose word is known to be in the data area make its address without a test
abbrev pub row_order : (inside : Bool) → (lower second : ℤ) → (width span line : ℕ) → Order
row_order true lower second width span line = order.ElementInside lower second width span
row_order false lower second width span line = order.ElementOfTwo lower second width line

-- the address of a reference whose indexes stand on the operand stack, compared with their bounds or not
abbrev pub form_orders : {A C E S R : Type 0} → Layout → (compared : Bool) → (line : ℕ) → Spot-F A C E S R → List Order
form_orders y c line (layer.Direct i) = item_order y i 0 ∷ []
form_orders y c line (layer.Through i) = item_order y i 0 ∷ order.Load ∷ order.InArea line ∷ []
form_orders y c line (layer.One i l u e) = order.Save ∷ item_order y i 0 ∷ order.Element l (item_span y i) line ∷ []
form_orders y c line (layer.Two i l1 u1 l2 u2 n e g) =
    let span = item_span y i in order.Save ∷ item_order y i 0 ∷ row_order (all_inside c span l1 u1 l2 u2 n) l1 l2 n span line ∷ []
form_orders y c line (layer.ParamArray i e) = order.Save ∷ item_order y i 0 ∷ order.Load ∷ order.Element (pos 0) 0 line ∷ []
form_orders y c line (layer.Word i t n e) = order.Save ∷ (table_orders y t i ++ order.Element (pos 0) (table_span y t i) line ∷ [])
form_orders y c line (layer.Elem i t n m w e) = order.Save ∷ (table_orders y t i ++ order.Entry n w (table_span y t i) line ∷ [])
form_orders y c line (layer.Bare e) = order.InArea line ∷ []

-- ---- operations

-- an index is compared with its bounds where the unit asks for it
abbrev pub bounds_orders : (compared : Bool) → (line : ℕ) → (lower upper : ℤ) → List Order
bounds_orders true line l u = order.InBounds l u line ∷ []
bounds_orders false line l u = []

abbrev pub load_orders : Option Field → List Order
load_orders None = order.Load ∷ []
load_orders (Some s) = order.LoadPart s.t s.b (not s.unsigned) ∷ []

abbrev pub store_orders : Option Field → List Order
store_orders None = order.Store ∷ []
store_orders (Some s) = order.StorePart s.t s.b ∷ []

abbrev pub rescale_orders : (line from to : ℕ) → List Order
rescale_orders line from to = if from == to then [] else (order.Rescale from to line ∷ [])

abbrev pub logic_order : LogicOp → Order
logic_order logic.Mask = order.And
logic_order logic.Union = order.Or
logic_order logic.Differ = order.Xor

-- the power of two of a product or a quotient, in the range that an order can hold
abbrev pub narrow : ℤ → ℤ
narrow (pos n) = if nat_lt n 128 then pos n else pos 0
narrow (negsuc n) = if nat_lt n 128 then negsuc n else pos 0

abbrev pub number_order : (word : ℕ) → Order
number_order n = order.Const (n % 65536)

-- the comparison that holds where this one does, and the one that holds where it does not
abbrev pub comparator_for : Bool → CompareOp → Comparator
comparator_for true compare.Less = comparator.Less
comparator_for true compare.LessEq = comparator.LessEqual
comparator_for true compare.Equal = comparator.Equal
comparator_for true compare.GreaterEq = comparator.GreaterEqual
comparator_for true compare.Greater = comparator.Greater
comparator_for true compare.Unequal = comparator.Unequal
comparator_for false compare.Less = comparator.GreaterEqual
comparator_for false compare.LessEq = comparator.Greater
comparator_for false compare.Equal = comparator.Unequal
comparator_for false compare.GreaterEq = comparator.Less
comparator_for false compare.Greater = comparator.LessEqual
comparator_for false compare.Unequal = comparator.Equal

abbrev pub pick_mark : Bool → ℕ → ℕ → ℕ
pick_mark true m n = m
pick_mark false m n = n

-- ---- trees

-- a condition: the orders that jump to a mark where its truth is this one, and go on after them elsewhere
abbrev pub ConditionPiece : Type 0
ConditionPiece = (when : Bool) → (mark : ℕ) → Piece

-- an expression: its natural scale, its scale as an operand, and its orders at a context scale
pub record Computed : Type 0 where
  pub natural : ℕ
  pub operand : ℕ
  pub at : ℕ → Piece

-- the same with its value at a scale, where that is known
pub record Value : Type 0 where
  pub natural : ℕ
  pub operand : ℕ
  pub known : ℕ → Option ℤ
  pub at : ℕ → Piece

-- a reference: the orders that put its address, and how its word is read
pub record Reference : Type 0 where
  pub address : Piece
  pub scale : ℕ
  pub field : Option Field

-- one of two, by a condition
abbrev pub choice_piece : ConditionPiece → Piece → Piece → Piece
choice_piece c a b =
    with_end (λ end. followed_by (with_end (λ other. followed_by (c false other) (followed_by a (plain (order.Jump end ∷ []))))) b)

-- the top operand goes to the stack, and the accumulator is free for the next one
abbrev pub saved : Piece
saved = plain (order.Save ∷ [])

-- two values, and what is done with them
abbrev pub two_values : Piece → Piece → List Order → Piece
two_values a b os = followed_by a (followed_by saved (followed_by b (plain os)))

-- of a value that has no scale of its own
abbrev pub unscaled : (ℕ → Piece) → Computed
unscaled p = record { natural = 0; operand = 0; at = p }

abbrev pub scaled : ℕ → (ℕ → Piece) → Computed
scaled f p = record { natural = f; operand = f; at = p }

-- a value that is known is one constant, and a word that is known is named by one order
abbrev pub known_or : Option ℤ → Piece → Piece
known_or (Some z) p = plain (number_order (unsigned z) ∷ [])
known_or None p = p

abbrev pub named_or : Layout → (item : ℕ) → (word : Option ℕ) → Piece → Piece
named_or y i (Some n) p = plain (item_order y i n ∷ [])
named_or y i None p = p

abbrev pub known_value : Expr-F Piece ConditionPiece Value Piece Reference → (scale : ℕ) → Option ℤ
known_value (layer.Num n) f = Some (signed (decimal_floor n.whole n.digits n.places f % 65536))
known_value (layer.Const z) f = known_rescaled 0 f z
known_value (layer.Force g e) f = of_known (known_rescaled g f) (e.known g)
known_value (layer.Bits t b e) f = of_known (known_rescaled 0 f) (of_known (known_bits t b) (e.known e.operand))
known_value (layer.Logic op a b) f = of_known (known_rescaled 0 f) (of_both (known_logic op) (a.known a.operand) (b.known b.operand))
known_value (layer.Sum a b) f = of_both known_sum (a.known f) (b.known f)
known_value (layer.Less a b) f = of_both known_difference (a.known f) (b.known f)
known_value (layer.Minus a) f = of_known known_negative (a.known f)
known_value (layer.Times a b) f = of_both (known_product (narrow (pos f -ℤ pos (a.operand + b.operand)))) (a.known a.operand) (b.known b.operand)
known_value (layer.Over a b) f = of_both (known_quotient (narrow (pos (f + b.operand) -ℤ pos a.operand))) (a.known a.operand) (b.known b.operand)
known_value _ f = None

module _ (s : Scope) where
  abbrev pub call_order : Target → Order
  call_order (target.Own q) = order.CallProc q s.line
  call_order (target.Common d) = order.CallCommon d s.line
  call_order (target.Special k f) = order.CallSpecial (control_place s.parameters k) s.line
  call_order target.Read = order.ReadByte
  call_order target.Write = order.WriteByte

  abbrev pub label_order : Goal → Order
  label_order (goal.Own l) = order.LabelOut l
  label_order (goal.Common d) = order.LabelCommon d

  -- an index that has bounds
  abbrev pub bounded_piece : Value → (lower upper : ℤ) → Piece
  bounded_piece e l u = followed_by (e.at 0) (plain (bounds_orders s.unit.bounds s.line l u))

  -- the indexes of a reference; the words of a table and its entries count from 0
  abbrev pub index_piece : Spot-F Piece ConditionPiece Value Piece Reference → Piece
  index_piece (layer.Direct i) = plain []
  index_piece (layer.Through i) = plain []
  index_piece (layer.One i l u e) = bounded_piece e l u
  index_piece (layer.Two i l1 u1 l2 u2 n e g) = followed_by (bounded_piece e l1 u1) (followed_by saved (bounded_piece g l2 u2))
  index_piece (layer.ParamArray i e) = e.at 0
  index_piece (layer.Word i t n e) = bounded_piece e (pos 0) (pos n -ℤ pos 1)
  index_piece (layer.Elem i t n m w e) = bounded_piece e (pos 0) (pos m -ℤ pos 1)
  index_piece (layer.Bare e) = e.at 0

  -- the item of a reference with indexes, and its word, where that is known
  abbrev pub known_item : Spot-F Piece ConditionPiece Value Piece Reference → ℕ
  known_item (layer.One i l u e) = i
  known_item (layer.Two i l1 u1 l2 u2 n e g) = i
  known_item (layer.Word i t n e) = i
  known_item (layer.Elem i t n m w e) = i
  known_item _ = 0

  abbrev pub known_word : Spot-F Piece ConditionPiece Value Piece Reference → Option ℕ
  known_word (layer.One i l u e) = element_word (item_span s.layout i) (from_lower s.unit.bounds l u (e.known 0))
  known_word (layer.Two i l1 u1 l2 u2 n e g) =
      element_of_two_word (item_span s.layout i) n (from_lower s.unit.bounds l1 u1 (e.known 0)) (from_lower s.unit.bounds l2 u2 (g.known 0))
  known_word (layer.Word i t n e) = element_word (table_span s.layout t i) (from_lower s.unit.bounds (pos 0) (pos n -ℤ pos 1) (e.known 0))
  known_word (layer.Elem i t n m w e) = entry_word (table_span s.layout t i) n w (from_lower s.unit.bounds (pos 0) (pos m -ℤ pos 1) (e.known 0))
  known_word _ = None

  -- the address of a reference that its indexes make
  abbrev pub indexed_piece : Spot-F Piece ConditionPiece Value Piece Reference → Piece
  indexed_piece x = followed_by (index_piece x) (plain (form_orders s.layout s.unit.bounds s.line x))

  abbrev pub spot_step : Spot-F Piece ConditionPiece Value Piece Reference → Piece
  spot_step x = named_or s.layout (known_item x) (known_word x) (indexed_piece x)

  abbrev pub reference_step : Ref-F Piece ConditionPiece Value Piece Reference → Reference
  reference_step r = record { address = r.at; scale = r.f; field = r.field }

  abbrev pub computed_step : Expr-F Piece ConditionPiece Value Piece Reference → Computed
  computed_step (layer.Num n) =
      record { natural = 0; operand = number_scale (nat_lt 0 n.places) n; at = λ f. plain (number_order (decimal_floor n.whole n.digits n.places f) ∷ []) }
  computed_step (layer.Const z) = unscaled (λ f. plain (number_order (unsigned z) ∷ rescale_orders s.line 0 f))
  computed_step (layer.Text i) = unscaled (λ f. plain (item_order s.layout i 0 ∷ rescale_orders s.line 0 f))
  computed_step (layer.Read r) = scaled r.scale (λ f. followed_by r.address (plain (load_orders r.field ++ rescale_orders s.line r.scale f)))
  computed_step (layer.Call t args) =
      scaled (answer_scale s.unit t) (λ f. followed_by (sequence args) (plain (call_order t ∷ rescale_orders s.line (answer_scale s.unit t) f)))
  computed_step (layer.Force g e) = scaled g (λ f. followed_by (e.at g) (plain (rescale_orders s.line g f)))
  computed_step (layer.Locate r) = unscaled (λ f. followed_by r.address (plain (rescale_orders s.line 0 f)))
  computed_step (layer.Bits t b e) = unscaled (λ f. followed_by (e.at e.operand) (plain (order.Take t b ∷ rescale_orders s.line 0 f)))
  computed_step (layer.Logic op a b) = unscaled (λ f. two_values (a.at a.operand) (b.at b.operand) (logic_order op ∷ rescale_orders s.line 0 f))
  computed_step (layer.Sum a b) = scaled (max a.natural b.natural) (λ f. two_values (a.at f) (b.at f) (order.Add s.line ∷ []))
  computed_step (layer.Less a b) = scaled (max a.natural b.natural) (λ f. two_values (a.at f) (b.at f) (order.Sub s.line ∷ []))
  computed_step (layer.Minus a) = scaled a.natural (λ f. followed_by (a.at f) (plain (order.Neg s.line ∷ [])))
  computed_step (layer.Times a b) =
      scaled (max a.natural b.natural) (λ f. two_values (a.at a.operand) (b.at b.operand)
      (order.Mul (narrow (pos f -ℤ pos (a.operand + b.operand))) s.line ∷ []))
  computed_step (layer.Over a b) =
      scaled (max a.natural b.natural) (λ f. two_values (a.at a.operand) (b.at b.operand)
      (order.Div (narrow (pos (f + b.operand) -ℤ pos a.operand)) s.line ∷ []))
  computed_step (layer.Choice c a b) = scaled (max a.natural b.natural) (λ f. choice_piece c (a.at f) (b.at f))

  abbrev pub expression_step : Expr-F Piece ConditionPiece Value Piece Reference → Value
  expression_step x =
      let v = computed_step x in
      record { natural = v.natural; operand = v.operand; known = known_value x; at = λ f. known_or (known_value x f) (v.at f) }

  -- an argument stands on the stack
  abbrev pub argument_step : Arg-F Piece ConditionPiece Value Piece Reference → Piece
  argument_step (layer.Value e f) = followed_by (e.at f) saved
  argument_step (layer.Place r) = followed_by r.address saved
  argument_step (layer.Array i l) = plain (item_order s.layout i 0 ∷ order.IndexLess l s.line ∷ order.Save ∷ [])
  argument_step (layer.Same i) = plain (item_order s.layout i 0 ∷ order.Load ∷ order.Save ∷ [])
  argument_step (layer.Base i) = plain (item_order s.layout i 0 ∷ order.Save ∷ [])
  argument_step (layer.Goal g) = plain (label_order g ∷ [])
  argument_step (layer.Switch n) = plain (order.SwitchOut n ∷ [])
  argument_step (layer.CommonSwitch d) = plain (order.SwitchCommon d ∷ [])
  argument_step (layer.Proc q) = plain (order.ProcOut q ∷ [])
  argument_step (layer.CommonProc d) = plain (order.ProcCommon d ∷ [])
  argument_step (layer.Special k) = plain (order.SpecialOut (control_place s.parameters k) ∷ [])

  -- The second condition of an AND is past a jump for a first one that fails, that of an OR past one for a first one that holds
  abbrev pub condition_step : Cond-F Piece ConditionPiece Value Piece Reference → ConditionPiece
  condition_step (layer.Cmp op a b) when mark =
      let f = max a.natural b.natural in
      two_values (a.at f) (b.at f) (order.JumpIf (comparator_for when op) mark ∷ [])
  condition_step (layer.And c d) when mark = with_end (λ end. followed_by (c false (pick_mark when end mark)) (d when mark))
  condition_step (layer.Or c d) when mark = with_end (λ end. followed_by (c true (pick_mark when mark end)) (d when mark))

  abbrev pub value_of : Expr → Value
  value_of = fold-Expr Piece ConditionPiece Value Piece Reference argument_step condition_step expression_step spot_step reference_step

  abbrev pub condition_piece : Cond → ConditionPiece
  condition_piece = fold-Cond Piece ConditionPiece Value Piece Reference argument_step condition_step expression_step spot_step reference_step

  abbrev pub argument_piece : Arg → Piece
  argument_piece = fold-Arg Piece ConditionPiece Value Piece Reference argument_step condition_step expression_step spot_step reference_step

  abbrev pub reference_of : Ref → Reference
  reference_of = fold-Ref Piece ConditionPiece Value Piece Reference argument_step condition_step expression_step spot_step reference_step

  abbrev pub spot_piece : Spot → Piece
  spot_piece = fold-Spot Piece ConditionPiece Value Piece Reference argument_step condition_step expression_step spot_step reference_step

  abbrev pub expression_piece : Expr → (scale : ℕ) → Piece
  expression_piece e = (value_of e).at

  -- the orders of an expression whose value is not known, by its parts
  abbrev pub computed_piece : Expr → (scale : ℕ) → Piece
  computed_piece e = (computed_step (map-Expr Arg Cond Expr Spot Ref Piece ConditionPiece Value Piece Reference
      argument_piece condition_piece value_of spot_piece reference_of (out-Expr e))).at

  -- the layer of a reference, and its indexes
  abbrev pub pieces_of : Spot → Spot-F Piece ConditionPiece Value Piece Reference
  pieces_of a = map-Spot Arg Cond Expr Spot Ref Piece ConditionPiece Value Piece Reference argument_piece
      condition_piece value_of spot_piece reference_of (out-Spot a)

  abbrev pub indexes_of : Spot → Piece
  indexes_of a = index_piece (pieces_of a)
