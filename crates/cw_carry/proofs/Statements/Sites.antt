-- Where statements, jumps and the parts of loops stand.
use Rattle.std.proofs.Common.{◌≡◌, ◌⊎◌, ℕ, ◌+◌, ◌<◌, ◌≤◌, pos, List, [], ◌∷◌, length, Bool, false, Option, Some, None}
use Rattle.std.specs.Prelude.{slice_get, IsTrue}
use Rattle.cw_unit.specs.declared.unit.Unit.{Unit as SourceUnit}
use Rattle.cw_unit.specs.declared.unit.Stmt.{Stmt}
use Rattle.cw_unit.specs.declared.unit.Felem.{Felem}
use Rattle.cw_unit.specs.declared.unit.Felem.TheVariants as element
use Rattle.cw_unit.specs.declared.unit.Expr.{Expr}
use Rattle.cw_unit.specs.declared.unit.Ref.{Ref, out-Ref}
use Rattle.cw_unit.specs.Work.{Loop, element_at}
use Rattle.cw_order.specs.declared.order.Order.{Order}
use Rattle.cw_order.specs.declared.order.Order.TheVariants as order
use Rattle.cw_order.specs.declared.order.Orders.{Orders}
use Rattle.cw_order.specs.OrderChanges.{mark_of_number}
use Rattle.cw_gen_expr.specs.ReferenceExpressions.{Scope, at_line, item_order}
use Rattle.cw_carry.proofs.Expressions.Standing.{Stands, Made}
use Rattle.cw_carry.proofs.Expressions.Carried.{Leads, Places}
use Rattle.cw_gen_expr.specs.ReferenceEntries.{scope_of}
use Rattle.cw_gen_unit.specs.ReferenceStatements.{jump_order, statement_piece, set_orders, bump_orders, element_piece, way_mark, loop_place, first_turn, simple_beginning}
use Rattle.cw_gen_expr.specs.BuiltExpressions.{built_reference}
use Rattle.cw_gen_unit.specs.declared.simple.SimpleStep.{SimpleStep}
use Rattle.cw_gen_unit.specs.SimpleLoops.{simple_step}
use Rattle.cw_gen_unit.specs.BuiltStatements.{is_statement, is_element, are_elements}
use Rattle.cw_gen_unit.specs.ReferenceUnits.{answer_of}

module _ (orders_for : SourceUnit → Orders) (u : SourceUnit) (who : Option ℕ) (has_words : (item words : ℕ) → Bool) where
  abbrev code : List Order
  code = (orders_for u).list

  abbrev marks : List ℕ
  marks = (orders_for u).marks

  abbrev scope : Scope
  scope = scope_of u who

  abbrev answer : ℕ
  answer = answer_of u who

  abbrev pub StatementSite : (q : ℕ) → Stmt → (levels next : ℕ) → Type 0
  StatementSite q s levels next =
      (free : ℕ) × (last : ℕ) × IsTrue (is_statement u has_words who answer s levels) × Made code marks (statement_piece scope who answer s q free) q next free last

  -- the body of a FOR between its marks, and the way on behind it
  pub record BodySite (c : Loop) (next : ℕ) (behind : (body : ℕ) → List Order) : Type 0 where
    pub words : IsTrue (has_words c.item 4)
    pub body : ℕ
    pub end : ℕ
    pub head : ℕ
    pub head_is : slice_get marks body ≡ Some head
    pub head_marks : slice_get code head ≡ Some order.Mark
    pub on : ℕ
    pub body_at : StatementSite (head + 1) c.body 64 on
    pub out : ℕ
    pub goes_on : Stands code on (behind body) out
    pub end_is : slice_get marks end ≡ Some out
    pub out_marks : slice_get code out ≡ Some order.Mark
    pub next_is : out + 1 ≡ next

  -- a FOR, from its elements on
  pub record LoopSite (c : Loop) (next : ℕ) : Type 0 where
    pub ways : List ℕ
    pub at_body : BodySite c next (λ body. item_order scope.layout c.item 3 ∷ order.Load ∷ order.LoopWay ways ∷ [])
    pub open at_body use *
    pub few : length c.elements < 32767
    pub built : IsTrue (are_elements u has_words who answer c.scale c.elements)
    -- the tail that sets the control variable
    pub set : ℕ
    pub tail : ℕ
    pub tail_is : slice_get marks set ≡ Some tail
    pub tail_marks : slice_get code tail ≡ Some order.Mark
    pub sets : Stands code (tail + 1) (set_orders scope.layout c.line c.item) head
    -- the elements, and what stands behind them
    pub place : ℕ → ℕ
    pub free : ℕ → ℕ
    pub each : (i : ℕ) (e : Felem) → element_at c.elements i ≡ Some e → Made code marks (element_piece (at_line c.line scope) c.item c.scale set body i e (place i) (free i)) (place i) (place (i + 1)) (free i) (free (i + 1))
    pub way : (i : ℕ) (e : Felem) → element_at c.elements i ≡ Some e → mark_of_number ways (pos i) ≡ Some (way_mark e (free i))
    pub no_way : (i : ℕ) → element_at c.elements i ≡ None → mark_of_number ways (pos i) ≡ None
    pub last : slice_get code (place (length c.elements + 1)) ≡ Some (order.Jump end)

  abbrev pub ElementSite : (q number : ℕ) → Loop → (next : ℕ) → Type 0
  ElementSite q i c next = (site : LoopSite c next) × (q ≡ site.place i) × (1 ≤ i) × (i ≤ length c.elements + 1)

  abbrev pub TurnSite : (q number : ℕ) → Loop → (next : ℕ) → Type 0
  TurnSite q i c next =
      (site : LoopSite c next) × (mark : ℕ) × (x : ℕ) × (y : ℕ) × Stands code q (item_order scope.layout c.item 0 ∷ order.PutVariable c.line ∷ order.Exhausted mark ∷ order.Jump site.body ∷ []) x × (slice_get marks mark ≡ Some y) × Leads code marks 0 y false (site.place (i + 1)) false × (i ≤ length c.elements)

  abbrev pub BumpSite : (q number : ℕ) → Loop → (next : ℕ) → Type 0
  BumpSite q i c next = (x : ℕ) × Stands code q (bump_orders scope.layout c.line c.item) x × (slice_get code x ≡ Some order.Mark) × TurnSite (x + 1) i c next

  abbrev pub OnSite : (q : ℕ) → Loop → (next : ℕ) → Type 0
  OnSite q c next = (site : LoopSite c next) × (q ≡ site.on)

  -- ---- a FOR of one STEP element

  -- from the mark before the body on
  pub record SteppedSite (c : Loop) (next : ℕ) : Type 0 where
    pub at_body : BodySite c next (λ body. order.NextStep (loop_place scope.layout c.item) c.line body ∷ [])
    pub open at_body use *
    pub first : Expr
    pub step : Expr
    pub limit : Expr
    pub elements : c.elements ≡ element.Step first step limit ∷ []
    pub built : IsTrue (is_element u has_words who answer c.scale (element.Step first step limit))

  -- its values by the general way, and its first turn
  abbrev pub FirstSite : (q number : ℕ) → Loop → (next : ℕ) → Type 0
  FirstSite q i c next =
      (site : SteppedSite c next) × (i ≡ 1) × (free : ℕ) × (last : ℕ) × Made code marks (first_turn (at_line c.line scope) c.item c.scale site.first site.step site.limit site.end q free) q site.head free last

  abbrev pub FirstTurnSite : (q number : ℕ) → Loop → (next : ℕ) → Type 0
  FirstTurnSite q i c next =
      (site : SteppedSite c next) × (i ≡ 1) × Stands code q (item_order scope.layout c.item 0 ∷ order.PutVariable c.line ∷ order.Exhausted site.end ∷ []) site.head

  abbrev pub NextSite : (q : ℕ) → Loop → (next : ℕ) → Type 0
  NextSite q c next = (site : SteppedSite c next) × (q ≡ site.on)

  -- the whole beginning, without the library
  abbrev pub BeginningSite : (q : ℕ) → Ref → Loop → (next : ℕ) → Type 0
  BeginningSite q r c next =
      (site : SteppedSite c next) × (x : SimpleStep) × IsTrue (built_reference u has_words r).good × ((out-Ref r).f ≡ c.scale) × (simple_step scope.layout c.item r c.elements ≡ Some x) × Stands code q (simple_beginning scope.layout c.item x site.end) site.head

  abbrev pub sites : Places
  sites = record {
    StatementAt = StatementSite;
    JumpAt = λ line q d. slice_get code q ≡ Some (jump_order (at_line line scope) who d);
    ElementAt = λ q i c next. ElementSite q i c next ⊎ FirstSite q i c next;
    TurnAt = λ q i c next. TurnSite q i c next ⊎ FirstTurnSite q i c next;
    BumpAt = BumpSite;
    OnAt = λ q c next. OnSite q c next ⊎ NextSite q c next;
    BeginningAt = BeginningSite;
  }
