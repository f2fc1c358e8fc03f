-- Primaries, references and comparisons, by what their parts count.
use Rattle.std.proofs.Common.{◌≡◌, ℕ, suc, ◌+◌, ◌≤◌, List, [], ◌∷◌, map, Bool, true, false, Option, Some, None, ℤ, ◌∙◌, arith}
use Rattle.cw_word.specs.Number.{Number}
use Rattle.cw_tree.specs.declared.leaf.RawName.{RawName}
use Rattle.cw_tree.specs.declared.leaf.Position.{Position}
use Rattle.cw_tree.specs.declared.expression.RawExpr.TheOpen as raw
use Rattle.cw_tree.specs.declared.items.RawRange.{RawRange}
use Rattle.cw_tree.specs.declared.segment.RawIps.TheVariants as inner
use Rattle.cw_tree.specs.declared.segment.RawPs.{RawPs}
use Rattle.cw_tree.specs.declared.segment.RawPs.TheVariants as ps
use Rattle.cw_facts.specs.declared.fact.Kind.{Kind}
use Rattle.cw_facts.specs.declared.fact.Kind.TheVariants as kind
use Rattle.cw_scope.specs.declared.resolve.Named.{Named}
use Rattle.cw_scale.specs.Kinds.{kind_of, fraction_of, fraction_of_kind}
use Rattle.cw_number.specs.declared.numbered.Numbered.{Numbered}
use Rattle.cw_number.specs.declared.numbered.Numbered.TheVariants as numbered
use Rattle.cw_make_expr.specs.Nodes.{number, constant, string, read, call, force, locate, choice, comparison, reference}
use Rattle.cw_make_expr.specs.Parts.{Numbers, bound, row_length, number_of, item_here, handed_item, handed, named_spot, words_of, width_of, entries_of, element_word, element_field, element_spot, double_spot, twice_indexed_spot, indexed_spot, kind_here, field_of, is_called}
use Rattle.cw_make_expr.specs.Made as made
use Rattle.cw_make_expr.specs.Made.{Made, Placed, simply, plainly, argument_for, arguments_for, value_of_name, place_read, reference_at}
use Rattle.cw_unit.specs.declared.unit.Arg.TheOpen as layer
use Rattle.cw_unit.specs.declared.unit.Cond.{Cond}
use Rattle.cw_unit.specs.declared.unit.CompareOp.{CompareOp}
use Rattle.cw_unit.specs.declared.unit.Expr.{Expr}
use Rattle.cw_unit.specs.declared.unit.Field.{Field}
use Rattle.cw_unit.specs.declared.unit.Goal.TheVariants as goal
use Rattle.cw_unit.specs.declared.unit.Ref.{Ref}
use Rattle.cw_unit.specs.declared.unit.Spot.{Spot, roll-Spot}
use Rattle.cw_unit.specs.declared.unit.Target.{Target}
use Rattle.cw_tokens.specs.LeastTokens.{separated, arguments, argument_tokens, condition_tokens, expression_tokens, reference_tokens}
use Rattle.cw_sound.proofs.Tokens.Nodes.{spot_tokens, expression_rolled, argument_rolled, condition_rolled, spot_rolled, reference_rolled, whole_part_if_least, value_given, place_given}
use Rattle.cw_sound.proofs.Tokens.Parts.{Sized, SizedPlace, Sizes, none, more, no_argument_tokens, no_argument_least, simply_sized}

at_most : (a b : ℕ) → a ≡ b → a ≤ b
at_most a b is = omega (arith, is)

-- ---- values

pub number_sized : (n : Number) → Sized (simply (number n)) 1
number_sized n = simply_sized (number n) 1 (omega arith) (at_most (expression_tokens (number n)) 1 (expression_rolled (layer.Num n)))

pub constant_sized : (z : ℤ) → Sized (simply (constant z)) 1
constant_sized z = simply_sized (constant z) 1 (omega arith) (at_most (expression_tokens (constant z)) 1 (expression_rolled (layer.Const z)))

pub string_sized : (i : ℕ) → Sized (simply (string i)) 1
string_sized i = simply_sized (string i) 1 (omega arith) (at_most (expression_tokens (string i)) 1 (expression_rolled (layer.Text i)))

pub locate_sized : {r : Placed} {n : ℕ} → SizedPlace r n → Sized (simply (locate r.place)) (3 + n)
locate_sized {r = r} {n = n} h =
    let a = h.place in
    let b : expression_tokens (locate r.place) ≡ 3 + reference_tokens r.place = expression_rolled (layer.Locate r.place) in
    simply_sized (locate r.place) (3 + n) (omega arith) (omega (arith, a, b))

pub force_sized : (f : ℕ) {m : Made} {n : ℕ} → Sized m n → Sized (simply (force f (m.made false))) (3 + n)
force_sized f {m = m} {n = n} h =
    let a = h.made false in
    let b : expression_tokens (force f (m.made false)) ≡ 3 + expression_tokens (m.made false) = expression_rolled (layer.Force f (m.made false)) in
    simply_sized (force f (m.made false)) (3 + n) (omega arith) (omega (arith, a, b))

pub bracket_sized : {m : Made} {n : ℕ} → Sized m n → Sized (plainly (m.made false)) n
bracket_sized {m = m} {n = n} h =
    let a = h.made false in
    record {
      some = h.some;
      made = λ operand. let b = whole_part_if_least operand (m.made false) in omega (arith, a, b);
      handed = no_argument_least n h.some;
    }

pub referred_sized : {r : Placed} {n : ℕ} → SizedPlace r n → Sized (record { made = λ operand. r.value; handed = r.handed }) n
referred_sized h = record { some = h.some; made = λ operand. h.value; handed = h.handed }

pub choice_sized : (c : Cond) {a b : Made} {n m k : ℕ} → condition_tokens c ≤ n → Sized a m → Sized b k → Sized (simply (choice c (a.made false) (b.made false))) (3 + (n + (m + k)))
choice_sized c {a = a} {b = b} {n = n} {m = m} {k = k} h i j =
    let x = i.made false in
    let y = j.made false in
    let z : expression_tokens (choice c (a.made false) (b.made false)) ≡ 3 + (condition_tokens c + (expression_tokens (a.made false) + expression_tokens (b.made false))) = expression_rolled (layer.Choice c (a.made false) (b.made false)) in
    simply_sized (choice c (a.made false) (b.made false)) (3 + (n + (m + k))) (omega arith) (omega (arith, h, x, y, z))

pub comparison_sized : (op : CompareOp) {a b : Made} {n m : ℕ} → Sized a n → Sized b m → condition_tokens (comparison op (a.made false) (b.made false)) ≤ suc (n + m)
comparison_sized op {a = a} {b = b} h k =
    let x = h.made false in
    let y = k.made false in
    let z : condition_tokens (comparison op (a.made false) (b.made false)) ≡ suc (expression_tokens (a.made false) + expression_tokens (b.made false)) = condition_rolled (layer.Cmp op (a.made false) (b.made false)) in
    omega (arith, x, y, z)

-- ---- arguments

argument_least : (p : RawPs) {m : Made} {n : ℕ} → Sized m n → argument_tokens (argument_for p m) ≤ n
argument_least (ps.Plain (inner.Value at t)) {m = m} h =
    let a = h.made false in
    let b = value_given (m.made false) (fraction_of t) in
    omega (arith, a, b)
argument_least (ps.Plain (inner.Location at t)) {m = m} h =
    let a = h.made false in
    let b = place_given (m.made false) (fraction_of t) in
    omega (arith, a, b)
argument_least _ h = h.handed

separated_least : {ms : List Made} {ns : List ℕ} (params : List RawPs) → Sizes ms ns → separated (map argument_tokens (arguments_for ms params)) ≤ separated ns
separated_least params none = omega arith
separated_least [] (more h k) = omega arith
separated_least (p ∷ params) (more h k) =
    let a = argument_least p h in
    let b = separated_least params k in
    omega (arith, a, b)

pub arguments_least : {ms : List Made} {ns : List ℕ} (params : List RawPs) → Sizes ms ns → arguments (map argument_tokens (arguments_for ms params)) ≤ arguments ns
arguments_least params none = omega arith
arguments_least [] (more h k) = omega arith
arguments_least (p ∷ params) (more h k) = let a = separated_least (p ∷ params) (more h k) in omega (arith, a)

pub call_sized : (t : Target) (params : List RawPs) {ms : List Made} {ns : List ℕ} → Sizes ms ns → Sized (simply (call t (arguments_for ms params))) (suc (arguments ns))
call_sized t params {ms = ms} {ns = ns} h =
    let a = arguments_least params h in
    let b : expression_tokens (call t (arguments_for ms params)) ≡ suc (arguments (map argument_tokens (arguments_for ms params))) = expression_rolled (layer.Call t (arguments_for ms params)) in
    simply_sized (call t (arguments_for ms params)) (suc (arguments ns)) (omega arith) (omega (arith, a, b))

-- ---- a name by itself

item_handed : (k : Option Kind) (i : ℕ) → argument_tokens (handed_item k i) ≡ 1
item_handed (Some (kind.Array t bounds)) i = argument_rolled (layer.Array i (bound bounds.first.lower))
item_handed (Some (kind.Table size)) i = argument_rolled (layer.Base i)
item_handed _ i = argument_rolled (layer.Same i)

name_handed : (k : Option Kind) (x : Option Numbered) → argument_tokens (handed k x) ≡ 1
name_handed k (Some (numbered.Item i)) = item_handed k i
name_handed k (Some (numbered.Label l)) = argument_rolled (layer.Goal (goal.Own l))
name_handed k (Some (numbered.CommonLabel d)) = argument_rolled (layer.Goal (goal.Common d))
name_handed k (Some (numbered.Switch s)) = argument_rolled (layer.Switch s)
name_handed k (Some (numbered.CommonSwitch d)) = argument_rolled (layer.CommonSwitch d)
name_handed k (Some (numbered.Proc p)) = argument_rolled (layer.Proc p)
name_handed k (Some (numbered.CommonProc d)) = argument_rolled (layer.CommonProc d)
name_handed k (Some (numbered.Control c)) = argument_rolled (layer.Special c)
name_handed k _ = no_argument_tokens

named_spot_tokens : (k : Option Kind) (i : ℕ) → spot_tokens (named_spot k i) (field_of k) ≡ 1
named_spot_tokens (Some (kind.Location t)) i = spot_rolled (layer.Through i) None
named_spot_tokens k i = spot_rolled (layer.Direct i) (field_of k)

name_read : (called : Bool) (t : Target) (r : Ref) → reference_tokens r ≡ 1 → expression_tokens (value_of_name called t r) ≡ 1
name_read true t r is = expression_rolled (layer.Call t [])
name_read false t r is = expression_rolled (layer.Read r) ∙ is

-- ---- indexes

bare_tokens : (e : Expr) (field : Option Field) → spot_tokens (roll-Spot (layer.Bare e)) field ≡ 2 + expression_tokens e
bare_tokens e field = spot_rolled (layer.Bare e) field

element_least : (k : Option Kind) (i p : ℕ) (e : Expr) (field : Option Field) → spot_tokens (element_spot k i p e) field ≤ 3 + expression_tokens e
element_least (Some (kind.Table s)) i p e field =
    at_most (spot_tokens (element_spot (Some (kind.Table s)) i p e) field) (3 + expression_tokens e) (spot_rolled (layer.Elem i false (width_of s) (entries_of s) p e) field)
element_least (Some (kind.TableParam s)) i p e field =
    at_most (spot_tokens (element_spot (Some (kind.TableParam s)) i p e) field) (3 + expression_tokens e) (spot_rolled (layer.Elem i true (width_of s) (entries_of s) p e) field)
element_least _ i p e field = let a = bare_tokens e field in omega (arith, a)

double_least : (r : RawRange) (o : Option RawRange) (i : ℕ) (e g : Expr) → spot_tokens (double_spot r o i e g) None ≤ 4 + (expression_tokens e + expression_tokens g)
double_least r (Some s) i e g =
    let n = 4 + (0 + (expression_tokens e + expression_tokens g)) in
    let a : spot_tokens (double_spot r (Some s) i e g) None ≡ n = spot_rolled (layer.Two i (bound r.lower) (bound r.upper) (bound s.lower) (bound s.upper) (row_length s) e g) None in
    omega (arith, a)
double_least r None i e g = let a = bare_tokens e None in omega (arith, a)

twice_least : (k : Option Kind) (i : ℕ) (e g : Expr) → spot_tokens (twice_indexed_spot k i e g) (field_of k) ≤ 4 + (expression_tokens e + expression_tokens g)
twice_least (Some (kind.Array t bounds)) i e g = double_least bounds.first bounds.second i e g
twice_least k i e g = let a = bare_tokens e (field_of k) in omega (arith, a)

module _ (named : Named) (numbers : Numbers) where
  once_least : (k : Option Kind) (i : ℕ) (e : Expr) → spot_tokens (indexed_spot named numbers k i e) (field_of k) ≤ 3 + expression_tokens e
  once_least (Some (kind.Array t bounds)) i e =
      at_most (spot_tokens (indexed_spot named numbers (Some (kind.Array t bounds)) i e) None) (3 + expression_tokens e) (spot_rolled (layer.One i (bound bounds.first.lower) (bound bounds.first.upper) e) None)
  once_least (Some (kind.ArrayParam t)) i e = at_most (spot_tokens (indexed_spot named numbers (Some (kind.ArrayParam t)) i e) None) (3 + expression_tokens e) (spot_rolled (layer.ParamArray i e) None)
  once_least (Some (kind.Table s)) i e = at_most (spot_tokens (indexed_spot named numbers (Some (kind.Table s)) i e) None) (3 + expression_tokens e) (spot_rolled (layer.Word i false (words_of s) e) None)
  once_least (Some (kind.TableParam s)) i e = at_most (spot_tokens (indexed_spot named numbers (Some (kind.TableParam s)) i e) None) (3 + expression_tokens e) (spot_rolled (layer.Word i true (words_of s) e) None)
  once_least (Some (kind.Element table x)) i e = element_least (kind_here named table.at.token) (item_here numbers table.at.token) (element_word x) e (element_field x)
  once_least k i e = let a = bare_tokens e (field_of k) in omega (arith, a)

  -- ---- references

  read_sized : (r : Ref) (n : ℕ) → 1 ≤ n → reference_tokens r ≤ n → SizedPlace (place_read r) n
  read_sized r n h k =
      let a : expression_tokens (read r) ≡ reference_tokens r = expression_rolled (layer.Read r) in
      record { some = h; place = k; value = omega (arith, a, k); handed = no_argument_least n h }

  spot_read : (r : RawName) (s : Spot) (n : ℕ) → 1 ≤ n → spot_tokens s (field_of (kind_of named r)) ≤ n → SizedPlace (place_read (reference_at named r s)) n
  spot_read r s n h k =
      let a = reference_rolled s (fraction_of_kind (kind_of named r)) (field_of (kind_of named r)) in
      read_sized (reference_at named r s) n h (omega (arith, a, k))

  pub name_sized : (n : RawName) → SizedPlace (made.reference_step named numbers (raw.Name n)) 1
  name_sized n =
      let s : Spot = named_spot (kind_of named n) (made.item_of named numbers n) in
      let is : reference_tokens (reference_at named n s) ≡ 1 = reference_rolled s (fraction_of_kind (kind_of named n)) (field_of (kind_of named n)) ∙ named_spot_tokens (kind_of named n) (made.item_of named numbers n) in
      let v = name_read (is_called (kind_of named n)) (made.target named numbers n) (reference_at named n s) is in
      let h = name_handed (kind_of named n) (number_of named numbers n) in
      record { some = omega arith; place = omega (arith, is); value = omega (arith, v); handed = omega (arith, h) }

  pub one_sized : (n : RawName) {m : Made} {k : ℕ} → Sized m k → SizedPlace (made.reference_step named numbers (raw.One n m)) (3 + k)
  one_sized n {m = m} {k = k} h =
      let s : Spot = indexed_spot named numbers (kind_of named n) (made.item_of named numbers n) (m.made false) in
      let a = once_least (kind_of named n) (made.item_of named numbers n) (m.made false) in
      let b = h.made false in
      spot_read n s (3 + k) (omega arith) (omega (arith, a, b))

  pub two_sized : (n : RawName) {m l : Made} {k i : ℕ} → Sized m k → Sized l i → SizedPlace (made.reference_step named numbers (raw.Two n m l)) (4 + (k + i))
  two_sized n {m = m} {l = l} {k = k} {i = i} h j =
      let s : Spot = twice_indexed_spot (kind_of named n) (made.item_of named numbers n) (m.made false) (l.made false) in
      let a = twice_least (kind_of named n) (made.item_of named numbers n) (m.made false) (l.made false) in
      let b = h.made false in
      let c = j.made false in
      spot_read n s (4 + (k + i)) (omega arith) (omega (arith, a, b, c))

  pub bare_sized : (at : Position) {m : Made} {k : ℕ} → Sized m k → SizedPlace (made.reference_step named numbers (raw.Bare at m)) (2 + k)
  bare_sized at {m = m} {k = k} h =
      let r : Ref = reference (roll-Spot (layer.Bare (m.made false))) 0 None in
      let a = bare_tokens (m.made false) None in
      let b = reference_rolled (roll-Spot (layer.Bare (m.made false))) 0 None in
      let c = h.made false in
      read_sized r (2 + k) (omega arith) (omega (arith, a, b, c))
