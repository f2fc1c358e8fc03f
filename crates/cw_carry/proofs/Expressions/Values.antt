-- The orders follow the source through expressions.
use Rattle.std.proofs.Common.{◌≡◌, ℕ, suc, ◌+◌, ◌%◌, ◌<◌, ◌≤◌, ℤ, pos, negsuc, ◌-ℤ◌, List, [], ◌∷◌, ◌++◌, map, Bool, true, false, Some, refl, sym, ap, ◌∙◌, subst, arith}
use Rattle.std.specs.Prelude.{slice_get, nat_le, nat_lt, IsTrue, ◌&&◌, if◌then◌else◌}
use Rattle.std.proofs.lemmas.Bool.{ltb-true, lt-ltb}
use Rattle.std.proofs.lemmas.Bool.Decides.{nat_tests}
use Rattle.std.proofs.lemmas.Int.{ints}
use Rattle.cw_word.specs.FixedPoint.{fits_word}
use Rattle.cw_word.specs.Decimal.{decimal_floor}
use Rattle.cw_word.specs.Word.{signed, unsigned}
use Rattle.cw_word.proofs.Words.{signed-unsigned, unsigned-lt}
use Rattle.cw_unit.specs.declared.unit.Target.{Target}
use Rattle.cw_unit.specs.declared.unit.Arg.{Arg}
use Rattle.cw_unit.specs.declared.unit.Cond.{Cond}
use Rattle.cw_unit.specs.declared.unit.Expr.{Expr, Expr-F, out-Expr}
use Rattle.cw_unit.specs.declared.unit.Spot.{Spot}
use Rattle.cw_unit.specs.declared.unit.Ref.{Ref, out-Ref}
use Rattle.cw_unit.specs.declared.unit.Arg.TheOpen as layer
use Rattle.cw_unit.specs.Scales.{operand_scale, answer_scale}
use Rattle.cw_unit.specs.Stop.{Running}
use Rattle.cw_unit.specs.Words.{Words, Changed, put}
use Rattle.cw_unit.specs.Operation.{Operation, Rescale, Fetch, Add, Subtract, Negate, Multiply, Divide, Combine, Extract}
use Rattle.cw_unit.specs.Work.{Work, Eval, Address, Do, Test, Enter, scale_of, give_all, expression_work}
use Rattle.cw_unit.specs.Configuration.{at as configuration, address_at}
use Rattle.cw_unit.specs.Step.{in_unit, stuck, put_constant}
use Rattle.cw_order.specs.declared.order.Order.{Order}
use Rattle.cw_order.specs.declared.order.Order.TheVariants as order
use Rattle.cw_order.proofs.FittingWords.{tested-fits}
use Rattle.cw_gen_expr.specs.Pieces.{plain, followed_by, sequence}
use Rattle.cw_gen_expr.specs.ReferenceExpressions.{at_line, two_values, item_order, load_orders, rescale_orders, narrow, number_order, logic_order, call_order, value_of, expression_piece, condition_piece, argument_piece, reference_of}
use Rattle.cw_gen_expr.specs.BuiltExpressions.{BuiltValue, whole, within, all_built, answers, built_value, is_condition, is_argument, is_expression, most_levels}
use Rattle.cw_gen_expr.proofs.Layers.{computed_layer, reference-made, built_value_layer, value-built, expression_size, expression-size, expression_size_layer, argument_size, reference_size, condition_size, total}
use Rattle.cw_gen_expr.proofs.Scales.{operand-is, built-operand-is}
use Rattle.cw_safety.proofs.Truth.{both}
use Rattle.cw_carry.proofs.Expressions.Standing.{Stands, parted, Made, both_made, one_made, two_made, parted_made}
use Rattle.cw_carry.proofs.Expressions.Carried.{Leads, here, past, over as leap, Via, wider, OperationFits, operation_orders, gives_word}
use Rattle.cw_carry.proofs.Expressions.Operations.{behind_item}
use Rattle.cw_carry.proofs.Expressions.Stepping.{Compiled, source, target, work_size}
use Rattle.cw_carry.proofs.Expressions.Moments.{a_level, IsLight, light_order, silent_and, Moment, here_in, layout, scope, has_words, code, marks, At, Leads_to, Close, at_close, past_save, Steps, next, run, Facts, at_once, becomes, done_by}
use Rattle.cw_carry.proofs.Expressions.Addresses.{item_and}

-- ---- numbers

pub number-is : (n : ℕ) → IsTrue (nat_lt n 32768) → signed (n % 65536) ≡ pos n
number-is n h = let lt : n < 32768 = ltb-true n 32768 h in let e : n % 65536 ≡ n = omega arith in ap signed e ∙ (let z : signed n ≡ pos n = omega (arith, ints) in z)

pub constant-is : (z : ℤ) → IsTrue (fits_word z) → signed (unsigned z % 65536) ≡ z
constant-is z h =
    let fits = tested-fits z h in
    let lt = unsigned-lt z fits in
    let e : unsigned z % 65536 ≡ unsigned z = omega (arith, lt) in
    ap signed e ∙ signed-unsigned z fits

-- a power of two that an order can hold
pub narrowed : (z : ℤ) (f n : ℕ) → z ≡ pos f -ℤ pos n → f ≤ 30 → n ≤ 30 → narrow z ≡ z
narrowed (pos k) f n e l m = let lt : k < 128 = omega (arith, ints, e, l, m) in ap (λ b. if b then pos k else pos 0) (lt-ltb k 128 lt)
narrowed (negsuc k) f n e l m = let lt : k < 128 = omega (arith, ints, e, l, m) in ap (λ b. if b then negsuc k else pos 0) (lt-ltb k 128 lt)

pub at_most : (f : ℕ) → IsTrue (nat_le f 15) → f ≤ 15
at_most f h = grind (arith, nat_tests)

-- ---- expressions

module _ (c : Compiled) (t : Moment c) where
  abbrev pub built_of : Expr → BuiltValue
  built_of e = built_value t.unit (has_words c t) e

  -- what is known of an operand of a product or a quotient
  pub operand_built : (a : Expr) → IsTrue (whole (built_of a) (built_of a).operand) → IsTrue (whole (built_of a) (operand_scale t.unit a))
  operand_built a b = subst (λ g. IsTrue (whole (built_of a) g)) (built-operand-is t.unit (has_words c t) a) b

  pub scale_small : (a : Expr) (g : ℕ) → IsTrue (whole (built_of a) g) → g ≤ 15
  scale_small a g b = at_most g (both (nat_le g 15) ((built_of a).at g most_levels) b).0

  pub wide : (j n : ℕ) (l r : Bool) (k : Work) → j ≤ most_levels → Via (code c t) (marks c t) j n l (λ y m. At c t y m r k) → Leads_to c t n l r k
  wide j n l r k le (y, m, way, carried) = (y, m, wider (code c t) (marks c t) j most_levels n l y m le way, carried)

  pub evaluates : (e : Expr) (x : Expr-F Arg Cond Expr Spot Ref) (f line : ℕ) (k : Work) (w : Words) → out-Expr e ≡ x → next c t (Eval e f line k) w ≡ configuration t.segment (expression_work t.unit x f line k) t.acts (put_constant (source c) x t.segment f t.acts w) Running
  evaluates e x f line k w h =
      ap (λ v. in_unit (source c) v (λ u. configuration t.segment (expression_work u (out-Expr e) f line k) t.acts (put_constant (source c) (out-Expr e) t.segment f t.acts w) Running) (stuck (source c) t.segment (Eval e f line k) t.acts w)) t.unit_is
      ∙ ap (λ y. configuration t.segment (expression_work t.unit y f line k) t.acts (put_constant (source c) y t.segment f t.acts w) Running) h

  -- a value at a place, with all its levels
  value_at : (e : Expr) (f line q n free last : ℕ) (k : Work) → IsTrue (whole (built_of e) f) → Made (code c t) (marks c t) (expression_piece (at_line line (scope c t)) e f q free) q n free last → Close c t n true false k → At c t q false false (Eval e f line k)
  value_at e f line q n free last k b made carried = (n, 64, 0, free, last, b, made, (let z : 0 + 64 ≤ 64 = omega arith in z), refl, carried)

  -- an operation at a place
  do_at : (op : Operation) (line q n : ℕ) (k : Work) → OperationFits op false → Stands (code c t) q (operation_orders line op) n → Leads_to c t n (gives_word op) false k → At c t q true false (Do op line k)
  do_at op line q n k f stands carried = (n, f, stands, refl, carried)

  -- one value, and then an operation
  one_at : (e : Expr) (f line q n free last : ℕ) (k : Work) (os : List Order) → IsTrue (whole (built_of e) f) → Made (code c t) (marks c t) (followed_by (expression_piece (at_line line (scope c t)) e f) (plain os) q free) q n free last → ((y : ℕ) → Stands (code c t) y os n → At c t y true false k) → At c t q false false (Eval e f line k)
  one_at e f line q n free last k os b made carried =
      let parts = one_made (code c t) (marks c t) (expression_piece (at_line line (scope c t)) e f) os q n free last made in
      value_at e f line q parts.0 free parts.1 k b parts.2 (at_close c t parts.0 true false k (carried parts.0 parts.3))

  -- two, the first one saved
  pub two_at : (a b : Expr) (fa fb line q n free last : ℕ) (k : Work) (os : List Order) → IsTrue (whole (built_of a) fa) → IsTrue (whole (built_of b) fb) → Made (code c t) (marks c t) (two_values (expression_piece (at_line line (scope c t)) a fa) (expression_piece (at_line line (scope c t)) b fb) os q free) q n free last → ((y : ℕ) → Stands (code c t) y os n → At c t y true false k) → At c t q false false (Eval a fa line (Eval b fb line k))
  two_at a b fa fb line q n free last k os ba bb made carried =
      let parts = two_made (code c t) (marks c t) (expression_piece (at_line line (scope c t)) a fa) (expression_piece (at_line line (scope c t)) b fb) os q n free last made in
      value_at a fa line q parts.0 free parts.1 (Eval b fb line k) ba parts.4
      (past_save c t 0 parts.0 false (Eval b fb line k) parts.5
      (at_close c t (parts.0 + 1) false false (Eval b fb line k)
      (value_at b fb line (parts.0 + 1) parts.2 parts.1 parts.3 k bb parts.6 (at_close c t parts.2 true false k (carried parts.2 parts.7)))))

  -- two operands, each at its own scale
  operands_small : (a b : Expr) → IsTrue (whole (built_of a) (built_of a).operand && whole (built_of b) (built_of b).operand) → (operand_scale t.unit a ≤ 15) × (operand_scale t.unit b ≤ 15)
  operands_small a b h =
      let bs = both (whole (built_of a) (built_of a).operand) (whole (built_of b) (built_of b).operand) h in
      (scale_small a (operand_scale t.unit a) (operand_built a bs.0), scale_small b (operand_scale t.unit b) (operand_built b bs.1))

  operands_at : (a b : Expr) (os : (g h : ℕ) → List Order) (line q n free last : ℕ) (k : Work) → IsTrue (whole (built_of a) (built_of a).operand && whole (built_of b) (built_of b).operand)
      → Made (code c t) (marks c t) (two_values (expression_piece (at_line line (scope c t)) a (value_of (at_line line (scope c t)) a).operand) (expression_piece (at_line line (scope c t)) b (value_of (at_line line (scope c t)) b).operand) (os (value_of (at_line line (scope c t)) a).operand (value_of (at_line line (scope c t)) b).operand) q free) q n free last
      → ((y : ℕ) → Stands (code c t) y (os (operand_scale t.unit a) (operand_scale t.unit b)) n → At c t y true false k) → At c t q false false (Eval a (operand_scale t.unit a) line (Eval b (operand_scale t.unit b) line k))
  operands_at a b os line q n free last k h made carried =
      let s = at_line line (scope c t) in
      let fa = operand_scale t.unit a in
      let fb = operand_scale t.unit b in
      let bs = both (whole (built_of a) (built_of a).operand) (whole (built_of b) (built_of b).operand) h in
      two_at a b fa fb line q n free last k (os fa fb) (operand_built a bs.0) (operand_built b bs.1)
      (subst (λ z. Made (code c t) (marks c t) (two_values (expression_piece s a fa) (expression_piece s b z) (os fa z) q free) q n free last) (operand-is s b)
      (subst (λ z. Made (code c t) (marks c t) (two_values (expression_piece s a z) (expression_piece s b (value_of s b).operand) (os z (value_of s b).operand) q free) q n free last) (operand-is s a) made)) carried

  -- a change of scale behind an order
  then_rescaled : (from to line q n : ℕ) (k : Work) → Stands (code c t) q (rescale_orders line from to) n → Leads_to c t n true false k → At c t q true false (Do (Rescale from to) line k)
  then_rescaled from to line q n k stands carried = do_at (Rescale from to) line q n k tt stands carried

  -- arguments, and then the entry of the call
  pub given_at : (args : List Arg) (line q n free last : ℕ) (k : Work) (r : Bool) → IsTrue (all_built (map (is_argument t.unit (has_words c t)) args)) → Made (code c t) (marks c t) (sequence (map (argument_piece (at_line line (scope c t))) args) q free) q n free last → ((b : Bool) → At c t n false b k) → At c t q false r (give_all args line k)
  given_at [] line q n free last k r b made carried = subst (λ z. At c t z false r k) (sym made.0) (carried r)
  given_at (a ∷ args) line q n free last k r b made carried =
      let bs = both (is_argument t.unit (has_words c t) a) (all_built (map (is_argument t.unit (has_words c t)) args)) b in
      let parts = both_made (code c t) (marks c t) (argument_piece (at_line line (scope c t)) a) (sequence (map (argument_piece (at_line line (scope c t))) args)) q n free last made in
      (parts.0, free, parts.1, bs.0, parts.2, refl, λ b'. (parts.0, false, here refl refl, given_at args line parts.0 n parts.1 last k b' bs.1 parts.3 carried))

  given_size : (args : List Arg) (line : ℕ) (t' : Target) (wanted : Bool) (k : Work) → work_size c (give_all args line (Enter t' line wanted k)) ≤ total (map argument_size args)
  given_size [] line t' wanted k = omega arith
  given_size (a ∷ args) line t' wanted k = omega arith

  small_and : (f levels : ℕ) (v : BuiltValue) → IsTrue (nat_le f 15) → IsTrue (v.at f levels) → IsTrue (nat_le f 15 && v.at f levels)
  small_and f levels v h g = silent_and (nat_le f 15) (v.at f levels) h g

  -- an order that puts a word
  word_put : (now k : Work) (line q n : ℕ) (o : Order) (z : ℤ) (w : Words) → slice_get (code c t) q ≡ Some o → q + 1 ≡ n → IsLight line false true (o ∷ []) → Facts c t now w → next c t now w ≡ configuration t.segment k t.acts (put z w) Running → run c t (o ∷ []) w ≡ Changed (put z w) → Leads_to c t n true false k → Steps c t now q false w
  word_put now k line q n o z w h end light facts e runs carried =
      done_by c t now k line q n false true (o ∷ []) w false (Changed (put z w)) (h, end) light facts e (λ ok. runs) (λ v d. tt) carried

  pub evaluated : (e : Expr) (x : Expr-F Arg Cond Expr Spot Ref) (f line : ℕ) (k : Work) (q n levels j free last : ℕ) (w : Words) → out-Expr e ≡ x → IsTrue (nat_le f 15) → IsTrue ((built_value_layer t.unit (has_words c t) x).at f levels) → Made (code c t) (marks c t) ((computed_layer (at_line line (scope c t)) x).at f q free) q n free last → j + levels ≤ most_levels → Via (code c t) (marks c t) j n true (λ y m. At c t y m false k) → Facts c t (Eval e f line k) w → Steps c t (Eval e f line k) q false w
  evaluated e (layer.Num m) f line k q n levels j free last w is small b made le via facts =
      let v = decimal_floor m.whole m.digits m.places f in
      word_put (Eval e f line k) k line q n (number_order v) (pos v) w made.0.0 made.0.1 (light_order line false true (number_order v) refl (omega arith) (omega arith) tt refl) facts
      (evaluates e (layer.Num m) f line k w is) (ap (λ z. Changed (put z w)) (number-is v b))
      (wide j n true false k (let z : j ≤ 64 = omega (arith, le) in z) via)
  evaluated e (layer.Const z) f line k q n levels j free last w is small b made le via facts =
      word_put (Eval e f line k) (Do (Rescale 0 f) line k) line q (q + 1) (number_order (unsigned z)) z w made.0.0 refl (light_order line false true (number_order (unsigned z)) refl (omega arith) (omega arith) tt refl) facts
      (evaluates e (layer.Const z) f line k w is) (ap (λ y. Changed (put y w)) (constant-is z b))
      (at_once c t (q + 1) true false (Do (Rescale 0 f) line k) (then_rescaled 0 f line (q + 1) n k made.0.1 (wide j n true false k (let y : j ≤ 64 = omega (arith, le) in y) via)))
  evaluated e (layer.Text i) f line k q n levels j free last w is small b made le via facts =
      let a = address_at (source c) t.segment t.acts i in
      word_put (Eval e f line k) (Do (Rescale 0 f) line k) line q (q + 1) (item_order (layout c t) i 0) (pos a) w made.0.0 refl (item_and (layout c t) line true i [] refl (omega arith) (omega arith) tt refl) facts
      (evaluates e (layer.Text i) f line k w is)
      (behind_item (target c) (here_in c t) t.calls_below (source c) t.segment t.acts (layout c t) (has_words c t) t.in_words t.stand i 1 [] w b (let y : 0 < 1 = omega arith in y))
      (at_once c t (q + 1) true false (Do (Rescale 0 f) line k) (then_rescaled 0 f line (q + 1) n k made.0.1 (wide j n true false k (let y : j ≤ 64 = omega (arith, le) in y) via)))
  evaluated e (layer.Read a) f line k q n levels j free last w is small b made le via facts =
      let r = reference_of (at_line line (scope c t)) a in
      let parts = one_made (code c t) (marks c t) r.address (load_orders r.field ++ rescale_orders line r.scale f) q n free last made in
      let two = parted (code c t) parts.0 (load_orders r.field) (rescale_orders line r.scale f) n parts.3 in
      let ra = reference-made (at_line line (scope c t)) a in
      let loads = subst (λ z. Stands (code c t) parts.0 (load_orders z) two.0) (ap (λ z. z.field) ra) two.1 in
      let scales = subst (λ z. Stands (code c t) two.0 (rescale_orders line z f) n) (ap (λ z. z.scale) ra) two.2 in
      becomes c t (Eval e f line k) (Address a line (Do (Fetch (out-Ref a).field) line (Do (Rescale (scale_of a) f) line k))) q false w (evaluates e (layer.Read a) f line k w is)
      (parts.0, free, parts.1, b, parts.2, refl, (parts.0, true, here refl refl, (two.0, refl, loads, refl, (two.0, true, here refl refl, then_rescaled (scale_of a) f line two.0 n k scales (wide j n true false k (let y : j ≤ 64 = omega (arith, le) in y) via)))))
      (let z : reference_size a < expression_size e = omega (arith, expression-size e ∙ ap expression_size_layer is) in z)
  evaluated e (layer.Call t' args) f line k q n levels j free last w is small b made le via facts =
      let parts = one_made (code c t) (marks c t) (sequence (map (argument_piece (at_line line (scope c t))) args)) (call_order (at_line line (scope c t)) t' ∷ rescale_orders line (answer_scale t.unit t') f) q n free last made in
      let k' = Do (Rescale (answer_scale t.unit t') f) line k in
      let bs = both (answers t') (all_built (map (is_argument t.unit (has_words c t)) args)) b in
      let after = then_rescaled (answer_scale t.unit t') f line (parts.0 + 1) n k parts.3.1 (wide j n true false k (let y : j ≤ 64 = omega (arith, le) in y) via) in
      becomes c t (Eval e f line k) (give_all args line (Enter t' line true k')) q false w (evaluates e (layer.Call t' args) f line k w is)
      (given_at args line q parts.0 free parts.1 (Enter t' line true k') false bs.1 parts.2 (λ r. (parts.0 + 1, (parts.3.0, refl), bs.0, refl, (parts.0 + 1, true, here refl refl, after))))
      (let z : work_size c (give_all args line (Enter t' line true k')) < expression_size e = omega (arith, given_size args line t' true k', expression-size e ∙ ap expression_size_layer is) in z)
  evaluated e (layer.Force g a) f line k q n levels j free last w is small b made le via facts =
      becomes c t (Eval e f line k) (Eval a g line (Do (Rescale g f) line k)) q false w (evaluates e (layer.Force g a) f line k w is)
      (one_at a g line q n free last (Do (Rescale g f) line k) (rescale_orders line g f) b made (λ y stands. then_rescaled g f line y n k stands (wide j n true false k (let y : j ≤ 64 = omega (arith, le) in y) via)))
      (let z : expression_size a < expression_size e = omega (arith, expression-size e ∙ ap expression_size_layer is) in z)
  evaluated e (layer.Locate a) f line k q n levels j free last w is small b made le via facts =
      let parts = one_made (code c t) (marks c t) (reference_of (at_line line (scope c t)) a).address (rescale_orders line 0 f) q n free last made in
      becomes c t (Eval e f line k) (Address a line (Do (Rescale 0 f) line k)) q false w (evaluates e (layer.Locate a) f line k w is)
      (parts.0, free, parts.1, b, parts.2, refl, (parts.0, true, here refl refl, (n, tt, parts.3, refl, wide j n true false k (let y : j ≤ 64 = omega (arith, le) in y) via)))
      (let z : reference_size a < expression_size e = omega (arith, expression-size e ∙ ap expression_size_layer is) in z)
  evaluated e (layer.Bits d b' a) f line k q n levels j free last w is small b made le via facts =
      let g = operand_scale t.unit a in
      becomes c t (Eval e f line k) (Eval a g line (Do (Extract d b') line (Do (Rescale 0 f) line k))) q false w (evaluates e (layer.Bits d b' a) f line k w is)
      (one_at a g line q n free last (Do (Extract d b') line (Do (Rescale 0 f) line k)) (order.Take d b' ∷ rescale_orders line 0 f)
      (operand_built a b)
      (subst (λ z. Made (code c t) (marks c t) (followed_by (expression_piece (at_line line (scope c t)) a z) (plain (order.Take d b' ∷ rescale_orders line 0 f)) q free) q n free last) (operand-is (at_line line (scope c t)) a) made)
      (λ y stands. (y + 1, tt, (stands.0, refl), refl, (y + 1, true, here refl refl, then_rescaled 0 f line (y + 1) n k stands.1 (wide j n true false k (let y : j ≤ 64 = omega (arith, le) in y) via)))))
      (let z : expression_size a < expression_size e = omega (arith, expression-size e ∙ ap expression_size_layer is) in z)
  evaluated e (layer.Logic op a a') f line k q n levels j free last w is small b made le via facts =
      let g = operand_scale t.unit a in
      let h = operand_scale t.unit a' in
      becomes c t (Eval e f line k) (Eval a g line (Eval a' h line (Do (Combine op) line (Do (Rescale 0 f) line k)))) q false w (evaluates e (layer.Logic op a a') f line k w is)
      (operands_at a a' (λ i i'. logic_order op ∷ rescale_orders line 0 f) line q n free last (Do (Combine op) line (Do (Rescale 0 f) line k)) b made
      (λ y stands. (y + 1, tt, (stands.0, refl), refl, (y + 1, true, here refl refl, then_rescaled 0 f line (y + 1) n k stands.1 (wide j n true false k (let y : j ≤ 64 = omega (arith, le) in y) via)))))
      (let z : expression_size a < expression_size e = omega (arith, expression-size e ∙ ap expression_size_layer is) in z)
  evaluated e (layer.Sum a a') f line k q n levels j free last w is small b made le via facts =
      let bs = both (whole (built_of a) f) (whole (built_of a') f) b in
      becomes c t (Eval e f line k) (Eval a f line (Eval a' f line (Do Add line k))) q false w (evaluates e (layer.Sum a a') f line k w is)
      (two_at a a' f f line q n free last (Do Add line k) (order.Add line ∷ []) bs.0 bs.1 made (λ y stands. do_at Add line y n k tt stands (wide j n true false k (let y : j ≤ 64 = omega (arith, le) in y) via)))
      (let z : expression_size a < expression_size e = omega (arith, expression-size e ∙ ap expression_size_layer is) in z)
  evaluated e (layer.Less a a') f line k q n levels j free last w is small b made le via facts =
      let bs = both (whole (built_of a) f) (whole (built_of a') f) b in
      becomes c t (Eval e f line k) (Eval a f line (Eval a' f line (Do Subtract line k))) q false w (evaluates e (layer.Less a a') f line k w is)
      (two_at a a' f f line q n free last (Do Subtract line k) (order.Sub line ∷ []) bs.0 bs.1 made (λ y stands. do_at Subtract line y n k tt stands (wide j n true false k (let y : j ≤ 64 = omega (arith, le) in y) via)))
      (let z : expression_size a < expression_size e = omega (arith, expression-size e ∙ ap expression_size_layer is) in z)
  evaluated e (layer.Minus a) f line k q n levels j free last w is small b made le via facts =
      becomes c t (Eval e f line k) (Eval a f line (Do Negate line k)) q false w (evaluates e (layer.Minus a) f line k w is)
      (one_at a f line q n free last (Do Negate line k) (order.Neg line ∷ []) b made (λ y stands. do_at Negate line y n k tt stands (wide j n true false k (let y : j ≤ 64 = omega (arith, le) in y) via)))
      (let z : expression_size a < expression_size e = omega (arith, expression-size e ∙ ap expression_size_layer is) in z)
  evaluated e (layer.Times a a') f line k q n levels j free last w is small b made le via facts =
      let g = operand_scale t.unit a in
      let h = operand_scale t.unit a' in
      let low = operands_small a a' b in
      let s = pos f -ℤ pos (g + h) in
      becomes c t (Eval e f line k) (Eval a g line (Eval a' h line (Do (Multiply s) line k))) q false w (evaluates e (layer.Times a a') f line k w is)
      (operands_at a a' (λ i i'. order.Mul (narrow (pos f -ℤ pos (i + i'))) line ∷ []) line q n free last (Do (Multiply s) line k) b made
      (λ y stands. do_at (Multiply s) line y n k (narrowed s f (g + h) refl (let y : f ≤ 30 = omega (arith, at_most f small) in y) (let y : g + h ≤ 30 = omega (arith, low.0, low.1) in y)) stands (wide j n true false k (let y : j ≤ 64 = omega (arith, le) in y) via)))
      (let z : expression_size a < expression_size e = omega (arith, expression-size e ∙ ap expression_size_layer is) in z)
  evaluated e (layer.Over a a') f line k q n levels j free last w is small b made le via facts =
      let g = operand_scale t.unit a in
      let h = operand_scale t.unit a' in
      let low = operands_small a a' b in
      let s = pos (f + h) -ℤ pos g in
      becomes c t (Eval e f line k) (Eval a g line (Eval a' h line (Do (Divide s) line k))) q false w (evaluates e (layer.Over a a') f line k w is)
      (operands_at a a' (λ i i'. order.Div (narrow (pos (f + i') -ℤ pos i)) line ∷ []) line q n free last (Do (Divide s) line k) b made
      (λ y stands. do_at (Divide s) line y n k (narrowed s (f + h) g refl (let y : f + h ≤ 30 = omega (arith, at_most f small, low.1) in y) (let y : g ≤ 30 = omega (arith, low.0) in y)) stands (wide j n true false k (let y : j ≤ 64 = omega (arith, le) in y) via)))
      (let z : expression_size a < expression_size e = omega (arith, expression-size e ∙ ap expression_size_layer is) in z)
  evaluated e (layer.Choice d a a') f line k q n levels j free last w is small b made le via facts =
      let tests = both (is_condition t.unit (has_words c t) d) (within levels ((built_of a).at f) && (built_of a').at f levels) b in
      let branches = both (within levels ((built_of a).at f)) ((built_of a').at f levels) tests.1 in
      let level = a_level levels ((built_of a).at f) branches.0 in
      let at = parted_made (code c t) (marks c t) (condition_piece (at_line line (scope c t)) d) (λ past. order.Jump past ∷ []) (expression_piece (at_line line (scope c t)) a f) (expression_piece (at_line line (scope c t)) a' f) q n free last made in
      let end : Via (code c t) (marks c t) j at.end true (λ y m. At c t y m false k) = (via.0, via.1, past at.end_marks (subst (λ x. Leads (code c t) (marks c t) j x true via.0 via.1) (sym at.next_is) via.2), via.3) in
      let holds : At c t at.first false false (Eval a f line k) = (at.middle, level.0, suc j, at.first_free, at.second_free, small_and f level.0 (built_of a) small level.2, at.first_made, (let y : suc j + level.0 ≤ 64 = omega (arith, le, level.1) in y), refl, (end.0, end.1, leap at.between_made.0 at.end_is refl end.2, end.3)) in
      let fails : At c t at.second false false (Eval a' f line k) = (at.end, levels, j, at.second_free, last, small_and f levels (built_of a') small branches.1, at.second_made, le, refl, end) in
      becomes c t (Eval e f line k) (Test d line (Eval a f line k) (Eval a' f line k)) q false w (evaluates e (layer.Choice d a a') f line k w is)
      (false, free + 1, at.other, at.first, free + 1 + 1, at.first_free, tests.0, at.condition_made, at.other_is, refl, (at.first, false, here refl refl, holds), (at.second, false, past at.other_marks (here at.second_is refl), fails))
      (let z : condition_size d < expression_size e = omega (arith, expression-size e ∙ ap expression_size_layer is) in z)

  -- as the relation has it, where the value is not known
  pub evaluation_follows : (e : Expr) (f line : ℕ) (k : Work) (q n levels j free last : ℕ) (w : Words) → IsTrue (is_expression t.unit (has_words c t) e f levels) → Made (code c t) (marks c t) ((computed_layer (at_line line (scope c t)) (out-Expr e)).at f q free) q n free last → j + levels ≤ most_levels → Via (code c t) (marks c t) j n true (λ y m. At c t y m false k) → Facts c t (Eval e f line k) w → Steps c t (Eval e f line k) q false w
  evaluation_follows e f line k q n levels j free last w b made le via facts =
      let bs = both (nat_le f 15) ((built_of e).at f levels) b in
      evaluated e (out-Expr e) f line k q n levels j free last w refl bs.0 (sym (ap (λ v. v.at f levels) (value-built t.unit (has_words c t) e)) ∙ bs.1) made le via facts
