-- The units whose numbers are in the ranges of the language.
use Rattle.std.specs.Prelude.{ℕ, suc, nat_le, nat_lt, List, [], ◌∷◌, map, length, Bool, true, ◌&&◌, Some}
use Rattle.std.specs.List.{list_all}
use Rattle.cw_unit.specs.declared.unit.Unit.{Unit as SourceUnit}
use Rattle.cw_unit.specs.declared.unit.Proc.{Proc}
use Rattle.cw_unit.specs.declared.unit.Switch.{Switch}
use Rattle.cw_unit.specs.declared.unit.Dest.{Dest}
use Rattle.cw_unit.specs.declared.unit.Dest.TheVariants as dest
use Rattle.cw_unit.specs.declared.unit.Felem.{Felem}
use Rattle.cw_unit.specs.declared.unit.Felem.TheVariants as element
use Rattle.cw_unit.specs.declared.unit.Ref.{out-Ref}
use Rattle.cw_unit.specs.declared.unit.Stmt.{Stmt, Stmt-F, fold-Stmt}
use Rattle.cw_unit.specs.declared.unit.Stmt.TheOpen as statement
use Rattle.cw_unit.specs.Storage.{frame_size}
use Rattle.cw_gen_unit.specs.ReferenceUnits.{answer_of}
use Rattle.cw_built.specs.Coded.{is_part, has_few}
use Rattle.cw_writable.specs.Coded.RangedExpressions.{all_ranged, is_ranged_expression, is_ranged_condition, is_ranged_argument, ranged_reference}

-- ---- statements

abbrev pub is_line : ℕ → Bool
is_line n = nat_lt n 65536

module _ (u : SourceUnit) where
  abbrev pub is_ranged_jump : Dest → Bool
  is_ranged_jump (dest.Goal g) = true
  is_ranged_jump (dest.Special k) = true
  is_ranged_jump (dest.Switch n e) = is_ranged_expression u e 0
  is_ranged_jump (dest.CommonSwitch d e) = is_ranged_expression u e 0
  is_ranged_jump (dest.SpecialSwitch k e) = is_ranged_expression u e 0

  abbrev pub is_ranged_element : (scale : ℕ) → Felem → Bool
  is_ranged_element f (element.One e) = is_ranged_expression u e f
  is_ranged_element f (element.While e c) = is_ranged_expression u e f && is_ranged_condition u c
  is_ranged_element f (element.Step a b d) = is_ranged_expression u a f && (is_ranged_expression u b f && is_ranged_expression u d f)

  abbrev pub are_ranged_elements : (scale : ℕ) → List Felem → Bool
  are_ranged_elements f [] = true
  are_ranged_elements f (e ∷ es) = is_ranged_element f e && are_ranged_elements f es

module _ (u : SourceUnit) (answer : ℕ) where
  -- the elements of a FOR are counted by a word
  abbrev pub statement_step : Stmt-F Bool → Bool
  statement_step (statement.Put line r e) = is_line line && ((ranged_reference u r).good && is_ranged_expression u e (out-Ref r).f)
  statement_step (statement.PutBits line t b r e) = is_line line && (is_part t b && ((ranged_reference u r).good && is_ranged_expression u e 0))
  statement_step (statement.Go line d) = is_line line && is_ranged_jump u d
  statement_step (statement.Call line t args) = is_line line && all_ranged (map (is_ranged_argument u) args)
  statement_step (statement.Answer line e) = is_line line && is_ranged_expression u e answer
  statement_step (statement.If line c a b) = is_line line && (is_ranged_condition u c && (a && b))
  statement_step (statement.For line item r es s) =
      is_line line && ((ranged_reference u r).good && (nat_lt (length es) 32768 && (are_ranged_elements u (out-Ref r).f es && s)))
  statement_step (statement.Seq ss) = all_ranged ss
  statement_step (statement.Mark ls s) = s

  abbrev pub is_ranged_statement : Stmt → Bool
  is_ranged_statement = fold-Stmt Bool statement_step

-- ---- procedures

-- a frame has at most 32,768 words
abbrev pub is_ranged_procedure : SourceUnit → (procedure : ℕ) → Proc → Bool
is_ranged_procedure u p q = is_ranged_statement u (answer_of u (Some p)) q.body && nat_le (frame_size u p) 32768

abbrev pub are_ranged_procedures : SourceUnit → (procedure : ℕ) → List Proc → Bool
are_ranged_procedures u p [] = true
are_ranged_procedures u p (q ∷ qs) = is_ranged_procedure u p q && are_ranged_procedures u (suc p) qs

-- ---- units

-- the numbers of a unit's bodies are in range, and its switches have few labels
abbrev pub is_ranged : SourceUnit → Bool
is_ranged u = is_ranged_statement u 0 u.body && (are_ranged_procedures u 0 u.procs && list_all (λ (s : Switch). has_few s.list) u.switches)
