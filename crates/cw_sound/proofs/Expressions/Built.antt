-- Trees are right in that they are built and well formed.
use Rattle.std.proofs.Common.{◌≡◌, ℕ, ◌≤◌, Bool, IsTrue, ◌&&◌, nat_le, Option, Some, arith}
use Rattle.cw_tree.specs.declared.leaf.RawName.{RawName}
use Rattle.cw_facts.specs.declared.fact.Form.TheVariants as form
use Rattle.cw_facts.specs.declared.fact.Reading.{Reading}
use Rattle.cw_scope.specs.declared.resolve.Named.{Named}
use Rattle.cw_scale.specs.Kinds.{kind_of}
use Rattle.cw_make_expr.specs.Parts.{Numbers, number_of, handed}
use Rattle.cw_unit.specs.declared.unit.Unit.{Unit as SourceUnit}
use Rattle.cw_unit.specs.declared.unit.Arg.{Arg}
use Rattle.cw_unit.specs.declared.unit.Expr.{Expr}
use Rattle.cw_unit.specs.declared.unit.Cond.{Cond}
use Rattle.cw_unit.specs.declared.unit.Ref.{Ref}
use Rattle.cw_safety.specs.Kinds.{Kind}
use Rattle.cw_safety.specs.WellFormed as formed
use Rattle.cw_gen_expr.specs.NamedItems.{has_words}
use Rattle.cw_gen_expr.specs.BuiltExpressions.{BuiltValue, most_levels, whole, built_value, built_reference, is_condition, is_argument}
use Rattle.cw_built.specs.Built.{alone, at_work}
use Rattle.cw_sound.specs.Uses.Stands.{Stands, kind_specified}
use Rattle.cw_sound.proofs.Expressions.Truth.{both, le_true}
use Rattle.cw_sound.proofs.Expressions.Parts.{Sense, Ready}

module _ (u : SourceUnit) (who : Option ℕ) where
  abbrev pub value : Expr → BuiltValue
  value = built_value u (has_words u who)

  abbrev pub is_formed : Expr → Bool
  is_formed = formed.is_expression (alone u) 0 (at_work who)

  pub record BuiltAt (l f : ℕ) (e : Expr) : Type 0 where
    pub built : (levels : ℕ) → l ≤ levels → levels ≤ most_levels → IsTrue ((value e).at f levels)
    pub formed : IsTrue (is_formed e)

  pub record BuiltTest (c : Cond) : Type 0 where
    pub built : IsTrue (is_condition u (has_words u who) c)
    pub formed : IsTrue (formed.is_condition (alone u) 0 (at_work who) c)

  pub record BuiltPlace (r : Ref) : Type 0 where
    pub built : IsTrue (built_reference u (has_words u who) r).good
    pub formed : IsTrue (formed.is_reference (alone u) 0 (at_work who) r)

  -- an argument of a kind
  pub record BuiltArgument (a : Arg) (k : Kind) : Type 0 where
    pub built : IsTrue (is_argument u (has_words u who) a)
    pub kind : formed.kind_of (alone u) 0 (at_work who) a ≡ Some k

  -- a name that is handed on stands for what the text means by it
  abbrev pub HandedOn : Named → Numbers → Reading → Option RawName → Arg → Type 0
  HandedOn named numbers r b a = (n : RawName) → b ≡ Some n → Stands named numbers u who (record { name = n; form = form.Reference r 0 }) × (a ≡ handed (kind_of named n) (number_of named numbers n))

  abbrev pub built_well : Sense
  built_well = record {
    natural = λ e. (value e).natural;
    operand = λ e. (value e).operand;
    At = BuiltAt;
    Test = BuiltTest;
    scale = λ r. (built_reference u (has_words u who) r).scale;
    Place = BuiltPlace;
    Handed = HandedOn;
    Given = λ p a. BuiltArgument a (kind_specified p);
  }

  pub whole_at : (f l : ℕ) (e : Expr) → f ≤ 15 → l ≤ most_levels → BuiltAt l f e → IsTrue (whole (value e) f)
  whole_at f l e small few h = both (nat_le f 15) ((value e).at f most_levels) (le_true f 15 small) (h.built most_levels few (omega arith))

  pub ready_whole : (e : Expr) → Ready built_well e → IsTrue (whole (value e) (value e).operand)
  ready_whole e h = whole_at (value e).operand most_levels e h.small (omega arith) h.at
