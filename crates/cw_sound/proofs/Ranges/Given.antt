-- The numbers of arguments are in range.
use Rattle.std.proofs.Common.{◌≡◌, ℕ, ◌≤◌, List, map, Bool, IsTrue, nat_le, Option, Some, None, refl, sym, ap, subst}
use Rattle.cw_tree.specs.declared.segment.RawPs.{RawPs}
use Rattle.cw_facts.specs.declared.fact.Kind.{Kind as NameKind}
use Rattle.cw_facts.specs.declared.fact.Kind.TheVariants as kind
use Rattle.cw_number.specs.declared.numbered.Numbered.{Numbered}
use Rattle.cw_number.specs.declared.numbered.Numbered.TheVariants as numbered
use Rattle.cw_make_expr.specs.Nodes.{read, value_argument, place_in, place_argument}
use Rattle.cw_make_expr.specs.Parts.{bound, handed, handed_item, no_argument}
use Rattle.cw_unit.specs.declared.unit.Unit.{Unit as SourceUnit}
use Rattle.cw_unit.specs.declared.unit.Goal.TheVariants as goal
use Rattle.cw_unit.specs.declared.unit.Arg.{Arg, roll-Arg}
use Rattle.cw_unit.specs.declared.unit.Cond.{Cond}
use Rattle.cw_unit.specs.declared.unit.Expr.{Expr}
use Rattle.cw_unit.specs.declared.unit.Spot.{Spot}
use Rattle.cw_unit.specs.declared.unit.Ref.{Ref}
use Rattle.cw_unit.specs.declared.unit.Arg.TheOpen as layer
use Rattle.cw_unit.specs.declared.unit.Arg.TheOpen.{Arg-F}
use Rattle.cw_unit.specs.declared.unit.Arg.TheFolds.{fold-roll-Arg}
use Rattle.cw_unit.specs.declared.unit.Arg.TheViews.{out-roll-Expr}
use Rattle.cw_writable.specs.Coded.RangedExpressions as ranged
use Rattle.cw_writable.specs.Coded.RangedExpressions.{RangedValue, RangedReference, all_ranged, is_ranged_argument, ranged_reference}
use Rattle.cw_writable.proofs.Coded.RangedLayers.{ranged_argument_layer}
use Rattle.cw_sound.proofs.Expressions.Truth.{both, le_true}
use Rattle.cw_sound.proofs.Expressions.Parts.{EachGiven, none_given, more_given}
use Rattle.cw_sound.proofs.Ranges.InRanges.{value, in_ranges}
use Rattle.cw_sound.proofs.Ranges.Nodes.{value_rolled}
use Rattle.cw_sound.proofs.Ranges.Places.{bound_is_word}

module _ (u : SourceUnit) where
  argument_rolled : (x : Arg-F Arg Cond Expr Spot Ref) → is_ranged_argument u (roll-Arg x) ≡ ranged_argument_layer u x
  argument_rolled = fold-roll-Arg Bool Bool RangedValue Bool RangedReference ranged.argument_step ranged.condition_step (ranged.expression_step u) ranged.spot_step ranged.reference_step

  abbrev Given : Arg → Type 0
  Given a = IsTrue (is_ranged_argument u a)

  given_of : (x : Arg-F Arg Cond Expr Spot Ref) → IsTrue (ranged_argument_layer u x) → Given (roll-Arg x)
  given_of x h = subst IsTrue (sym (argument_rolled x)) h

  pub value_given : (e : Expr) (f : ℕ) → f ≤ 15 → IsTrue ((value u e).at f) → Given (value_argument e f)
  value_given e f small h = given_of (layer.Value e f) (both (nat_le f 15) ((value u e).at f) (le_true f 15 small) h)

  -- what is read is a place
  pub read_given : (e : Expr) (r : Ref) (f : ℕ) → e ≡ read r → IsTrue ((value u e).at 0) → Given (place_argument e f)
  read_given e r f is h =
      let good : IsTrue (ranged_reference u r).good = subst (λ (v : RangedValue). IsTrue (v.at 0)) (value_rolled u (layer.Read r)) (subst (λ (x : Expr). IsTrue ((value u x).at 0)) is h) in
      subst (λ (x : Expr). Given (place_argument x f)) (sym is) (subst Given (sym (ap (place_in (read r) f) (out-roll-Expr (layer.Read r)))) (given_of (layer.Place r) good))

  -- ---- names that are handed on

  item_given : (o : Option NameKind) (i : ℕ) → Given (handed_item o i)
  item_given (Some (kind.Array t b)) i = given_of (layer.Array i (bound b.first.lower)) (bound_is_word b.first.lower)
  item_given (Some (kind.Table s)) i = given_of (layer.Base i) refl
  item_given None i = given_of (layer.Same i) refl
  item_given (Some _) i = given_of (layer.Same i) refl

  pub handed_given : (o : Option NameKind) (number : Option Numbered) → Given (handed o number)
  handed_given o (Some (numbered.Item i)) = item_given o i
  handed_given o (Some (numbered.Label l)) = given_of (layer.Goal (goal.Own l)) refl
  handed_given o (Some (numbered.CommonLabel d)) = given_of (layer.Goal (goal.Common d)) refl
  handed_given o (Some (numbered.Switch n)) = given_of (layer.Switch n) refl
  handed_given o (Some (numbered.CommonSwitch d)) = given_of (layer.CommonSwitch d) refl
  handed_given o (Some (numbered.Proc p)) = given_of (layer.Proc p) refl
  handed_given o (Some (numbered.CommonProc d)) = given_of (layer.CommonProc d) refl
  handed_given o (Some (numbered.Control c)) = given_of (layer.Special c) refl
  handed_given o (Some numbered.ReadByte) = given_of (layer.Special 0) refl
  handed_given o (Some numbered.WriteByte) = given_of (layer.Special 0) refl
  handed_given o None = given_of (layer.Special 0) refl

  pub nothing_given : Given no_argument
  nothing_given = given_of (layer.Special 0) refl

  -- ---- all arguments

  pub all_in_ranges : {params : List RawPs} {args : List Arg} → EachGiven (in_ranges u) params args → IsTrue (all_ranged (map (is_ranged_argument u) args))
  all_in_ranges none_given = refl
  all_in_ranges (more_given {a = a} {args = args} g gs) = both (is_ranged_argument u a) (all_ranged (map (is_ranged_argument u) args)) g (all_in_ranges gs)
