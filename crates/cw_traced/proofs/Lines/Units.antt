-- The orders of a unit begin the statements of its lines, and its code tells them.
use Rattle.std.proofs.Common.{◌≡◌, ℕ, suc, List, [], ◌∷◌, map, Some, None, refl, ◌∙◌}
use Rattle.std.specs.Prelude.{flat_map}
use Rattle.cw_order.specs.declared.order.Order.TheVariants as order
use Rattle.cw_unit.specs.declared.unit.Unit.{Unit as SourceUnit}
use Rattle.cw_unit.specs.declared.unit.Proc.{Proc}
use Rattle.cw_unit.specs.Storage.{layout_of}
use Rattle.cw_gen_expr.specs.ReferenceEntries.{scope_of}
use Rattle.cw_gen_expr.specs.UnitTables.{first_mark}
use Rattle.cw_gen_unit.specs.ReferenceUnits.{answer_of, leave_orders, entry_orders, procedure_piece, procedures_piece, body_piece, unit_piece, unit_orders}
use Rattle.cw_tmpl.specs.ReferenceCode.{order_places, orders_code}
use Rattle.cw_traced.specs.Lines.Lines.{lines_in, unit_lines}
use Rattle.cw_gen_unit.proofs.Layers.{leave-holds}
use Rattle.cw_traced.proofs.Lines.Starting.{begun_in, lines-told, Begins, plainly, both, before}
use Rattle.cw_traced.proofs.Lines.Silent.{bind-silent}
use Rattle.cw_traced.proofs.Lines.Statements.{statement-begins}

module _ (u : SourceUnit) where
  procedure-begins : (p : ℕ) (q : Proc) → Begins (procedure_piece u p q) (lines_in q.body)
  procedure-begins p q =
      both (plainly (entry_orders u p q) (bind-silent (layout_of u) q.params))
      (before (statement-begins (scope_of u (Some p)) (Some p) (answer_of u (Some p)) q.body) (plainly (leave_orders q) (leave-holds (λ os. begun_in os ≡ []) q refl refl)))

  procedures-begin : (p : ℕ) (qs : List Proc) → Begins (procedures_piece u p qs) (flat_map (λ (q : Proc). lines_in q.body) qs)
  procedures-begin p [] = plainly [] refl
  procedures-begin p (q ∷ qs) = both (procedure-begins p q) (procedures-begin (suc p) qs)

  body-begins : Begins (body_piece u) (lines_in u.body)
  body-begins = before (statement-begins (scope_of u None) None 0 u.body) (plainly (order.NextBody ∷ []) refl)

  unit-begins : Begins (unit_piece u) (unit_lines u)
  unit-begins = both body-begins (procedures-begin 0 u.procs)

  pub code-tells : map (λ (s : ℕ × ℕ). s.1) (orders_code (unit_orders u)).statements ≡ unit_lines u
  code-tells = lines-told 0 (order_places (unit_orders u)) (unit_orders u).list ∙ unit-begins.at 0 (first_mark u)
