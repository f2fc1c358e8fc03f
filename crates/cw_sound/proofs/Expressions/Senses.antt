-- What the nodes of trees keep of a sense in which these are right: a node is right where its parts are, and the names that it uses stand for right
-- things.
use Rattle.std.proofs.Common.{◌≡◌, ℕ, suc, ◌≤◌, max, ℤ, List, [], Bool, true, false, IsTrue, ◌&&◌, ◌||◌, not, ◌==◌, Option, Some, None, refl, sym}
use Rattle.cw_word.specs.FixedPoint.{fits_word}
use Rattle.cw_tree.specs.declared.leaf.AddOp.{AddOp}
use Rattle.cw_tree.specs.declared.leaf.MulOp.TheVariants as mul
use Rattle.cw_tree.specs.declared.leaf.Position.{Position}
use Rattle.cw_tree.specs.declared.leaf.RawName.{RawName}
use Rattle.cw_tree.specs.declared.leaf.RawNumber.{RawNumber}
use Rattle.cw_tree.specs.declared.leaf.RawType.{RawType}
use Rattle.cw_tree.specs.declared.expression.RawExpr.TheOpen as layer
use Rattle.cw_tree.specs.declared.segment.RawIps.{RawIps}
use Rattle.cw_tree.specs.declared.segment.RawIps.TheVariants as inner
use Rattle.cw_tree.specs.declared.segment.RawPs.TheVariants as ps
use Rattle.cw_facts.specs.declared.fact.Form.{Form}
use Rattle.cw_facts.specs.declared.fact.Form.TheVariants as form
use Rattle.cw_facts.specs.declared.fact.Kind.{Kind as NameKind}
use Rattle.cw_facts.specs.declared.fact.Reading.{Reading}
use Rattle.cw_facts.specs.declared.fact.Reading.TheVariants as reading
use Rattle.cw_facts.specs.Uses as uses
use Rattle.cw_scope.specs.declared.resolve.Named.{Named}
use Rattle.cw_scope.specs.NameRules.{is_reference, is_part as is_element_part, answers, fits_reading}
use Rattle.cw_scale.specs.declared.fault.Rule.TheVariants as rule
use Rattle.cw_scale.specs.Faults.{unless}
use Rattle.cw_scale.specs.Arguments.{takes_name, takes_procedure}
use Rattle.cw_scale.specs.Kinds.{kind_of, signature_of, fraction_of, fraction_of_kind}
use Rattle.cw_scale.specs.TypeRules as judged
use Rattle.cw_scale.specs.TypeRules.{fits_at, can_divide, call_faults}
use Rattle.cw_make_expr.specs.Parts.{Numbers, no_argument, number_of, handed}
use Rattle.cw_make_expr.specs.Nodes as nodes
use Rattle.cw_make_expr.specs.Nodes.{number, constant, string, call, force, locate, choice, nothing, read, reference, logic, bits, minus, added, multiplied, whole_part, comparison, value_argument, place_argument}
use Rattle.cw_make_expr.specs.Made.{simply, target, value_of, place_of_name, indexed_place, twice_indexed_place}
use Rattle.cw_unit.specs.declared.unit.Unit.{Unit as SourceUnit}
use Rattle.cw_unit.specs.declared.unit.LogicOp.{LogicOp}
use Rattle.cw_unit.specs.declared.unit.CompareOp.{CompareOp}
use Rattle.cw_unit.specs.declared.unit.Field.{Field}
use Rattle.cw_unit.specs.declared.unit.Arg.{Arg}
use Rattle.cw_unit.specs.declared.unit.Expr.{Expr}
use Rattle.cw_unit.specs.declared.unit.Cond.{Cond}
use Rattle.cw_unit.specs.declared.unit.Spot.{Spot, roll-Spot}
use Rattle.cw_unit.specs.declared.unit.Ref.{Ref}
use Rattle.cw_unit.specs.declared.unit.Arg.TheOpen as unit_layer
use Rattle.cw_gen_expr.specs.NamedItems.{has_words}
use Rattle.cw_gen_expr.specs.BuiltExpressions.{most_levels}
use Rattle.cw_built.specs.Coded.{is_part}
use Rattle.cw_sound.specs.Uses.Stands.{Stands}
use Rattle.cw_sound.specs.Expressions.Readings.{is_placed}
use Rattle.cw_sound.proofs.Expressions.Truth.{no, parts}
use Rattle.cw_sound.proofs.Expressions.Judging.{NoFault}
use Rattle.cw_sound.proofs.Expressions.Parts.{Sense, AsValue, Ready, Result, Addend, WholePart, Good, EachGiven}
use Rattle.cw_sound.proofs.Expressions.Calls.{Callable}

-- a name with indexes is one of an array or a table
by_value : (a b c : Bool) → b ≡ false → IsTrue (a || (b && c)) → IsTrue a
by_value true b c e x = refl
by_value false true c e x = no (sym e)
by_value false false c e x = no x

pub indexed_reading : (r : Reading) (n : ℕ) (k : NameKind) → (n == 0) ≡ false → IsTrue (fits_reading (uses.indexed r) n k) → IsTrue (is_reference k n)
indexed_reading reading.Argument n k some h = by_value (is_reference k n) (n == 0) (answers k) some h
indexed_reading reading.Value n k some h = by_value (is_reference k n) (n == 0) (answers k) some h
indexed_reading reading.Target n k some h = h
indexed_reading reading.Whole n k some h = (parts (is_reference k n) (not (is_element_part k)) h).0

module _ (named : Named) (numbers : Numbers) (u : SourceUnit) (who : Option ℕ) where
  abbrev pub Used : RawName → Form → Type 0
  Used n f = Stands named numbers u who (record { name = n; form = f })

  module _ (sense : Sense) where
    pub record IsKept : Type 0 where
      pub more : (l k f : ℕ) (e : Expr) → l ≤ k → sense.At l f e → sense.At k f e
      -- operators
      pub nothing_result : (f : ℕ) → Result sense 0 f nothing
      pub logic_result : (op : LogicOp) (f : ℕ) (a b : Expr) → Ready sense a → Ready sense b → Result sense 0 f (logic op a b)
      pub bits_result : (t b f : ℕ) (a : Expr) → IsTrue (is_part t b) → Ready sense a → Result sense 0 f (bits t b a)
      pub times_result : (f : ℕ) (a b : Expr) → Ready sense a → Ready sense b → Result sense (max (sense.natural a) (sense.natural b)) f (multiplied mul.Times a b)
      pub over_result : (f : ℕ) (a b : Expr) → IsTrue (can_divide f (sense.operand a) (sense.operand b)) → Ready sense a → Ready sense b
          → Result sense (max (sense.natural a) (sense.natural b)) f (multiplied mul.Divide a b)
      pub added_addend : (op : AddOp) (f n m l : ℕ) (a b : Expr) → f ≤ 15 → l ≤ most_levels → Addend sense f n l a → Addend sense f m l b → Addend sense f (max n m) l (added op a b)
      pub minus_addend : (f n l : ℕ) (a : Expr) → f ≤ 15 → l ≤ most_levels → Addend sense f n l a → Addend sense f n l (minus a)
      pub whole_part_is : (e : Expr) → WholePart sense e (whole_part e)
      -- primaries and conditional expressions
      pub number_good : (n : RawNumber) (f : ℕ) → NoFault (unless (fits_at n.number f) rule.NumberRange n.at) → Good sense (judged.primary_step named (layer.Number n)) (simply (number n.number)) 0 f
      pub constant_result : (f : ℕ) (z : ℤ) → IsTrue (fits_word z) → Result sense 0 f (constant z)
      pub string_result : (f i : ℕ) → IsTrue (has_words u who i 1) → Result sense 0 f (string i)
      pub locate_result : (f : ℕ) (x : Ref) → sense.Place x → Result sense 0 f (locate x)
      pub force_result : (f g : ℕ) (e : Expr) → g ≤ 15 → sense.At most_levels g e → Result sense g f (force g e)
      pub called_result : (f : ℕ) (n : RawName) (args : List Arg) (c : Callable named numbers u who true n) → EachGiven sense c.params args → Result sense (fraction_of_kind (kind_of named n)) f (call (target named numbers n) args)
      pub choice_natural : (t : Cond) (a b : Expr) → sense.natural (choice t a b) ≡ max (sense.natural a) (sense.natural b)
      pub choice_operand : (t : Cond) (a b : Expr) → sense.operand (choice t a b) ≡ max (sense.natural a) (sense.natural b)
      pub choice_at : (t : Cond) (a b : Expr) (l i k f : ℕ) → suc l ≤ k → i ≤ k → sense.Test t → sense.At l f a → sense.At i f b → sense.At k f (choice t a b)
      -- conditions
      pub both_tests : (c d : Cond) → sense.Test c → sense.Test d → sense.Test (nodes.both c d)
      pub either_test : (c d : Cond) → sense.Test c → sense.Test d → sense.Test (nodes.either c d)
      pub comparison_test : (op : CompareOp) (a b : Expr) (f : ℕ) → max (sense.natural a) (sense.natural b) ≡ f → f ≤ 15 → sense.At most_levels f a → sense.At most_levels f b → sense.Test (comparison op a b)
      -- names by themselves
      pub nothing_handed : (r : Reading) → sense.Handed named numbers r None no_argument
      pub name_handed : (n : RawName) (r : Reading) → Used n (form.Reference r 0) → sense.Handed named numbers r (Some n) (handed (kind_of named n) (number_of named numbers n))
      pub name_result : (f : ℕ) (n : RawName) (r : Reading) → Used n (form.Reference r 0) → AsValue named r (Some n) → NoFault (call_faults named (signature_of named n) n [])
          → Result sense (fraction_of_kind (kind_of named n)) f (value_of named numbers n)
      pub name_place : (n : RawName) (r : Reading) → Used n (form.Reference r 0) → IsTrue (is_placed r) → sense.Place (place_of_name named numbers n)
      -- places with indexes, which are evaluated at the scale 0
      pub place_scale : (s : Spot) (f : ℕ) (field : Option Field) → sense.scale (reference s f field) ≡ f
      pub read_result : (f : ℕ) (x : Ref) → sense.Place x → Result sense (sense.scale x) f (read x)
      pub bare_place : (e : Expr) → sense.At most_levels 0 e → sense.Place (reference (roll-Spot (unit_layer.Bare e)) 0 None)
      pub one_place : (n : RawName) (r : Reading) (e : Expr) → Used n (form.Reference (uses.indexed r) 1) → sense.At most_levels 0 e
          → sense.Place (indexed_place named numbers n e)
      pub two_place : (n : RawName) (r : Reading) (e g : Expr) → Used n (form.Reference (uses.indexed r) 2) → sense.At most_levels 0 e → sense.At most_levels 0 g
          → sense.Place (twice_indexed_place named numbers n e g)
      -- arguments
      pub value_given : (at : Position) (t : RawType) (e : Expr) → sense.At most_levels (fraction_of t) e → sense.Given (ps.Plain (inner.Value at t)) (value_argument e (fraction_of t))
      pub place_given : (at : Position) (t : RawType) (e : Expr) (x : Ref) → e ≡ read x → sense.At most_levels 0 e → sense.Given (ps.Plain (inner.Location at t)) (place_argument e (fraction_of t))
      pub plain_given : (p : RawIps) (b : Option RawName) (a : Arg) → IsTrue (takes_name named p b) → sense.Handed named numbers reading.Argument b a → sense.Given (ps.Plain p) a
      pub procedure_given : (answer : Option RawType) (at : Position) (params : List RawIps) (b : Option RawName) (a : Arg) → IsTrue (takes_procedure named answer params b)
          → sense.Handed named numbers reading.Argument b a → sense.Given (ps.Proc answer at params) a
