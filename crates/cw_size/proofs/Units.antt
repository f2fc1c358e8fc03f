-- The code of a unit is short by the tokens that a text of it has at least.
use Rattle.std.proofs.Common.{◌≡◌, ℕ, zero, suc, ◌+◌, ◌*◌, ◌≤◌, List, [], ◌∷◌, length, Some, None, slice_index, refl, ap, arith}
use Rattle.cw_order.specs.declared.order.Order.TheVariants as order
use Rattle.cw_order.specs.declared.order.Orders.{Orders}
use Rattle.cw_unit.specs.declared.unit.Unit.{Unit as SourceUnit}
use Rattle.cw_unit.specs.declared.unit.Proc.{Proc}
use Rattle.cw_unit.specs.declared.unit.Label.{Label}
use Rattle.cw_unit.specs.declared.unit.Switch.{Switch}
use Rattle.cw_unit.specs.Storage.{layout_of}
use Rattle.cw_gen_expr.specs.ReferenceEntries.{scope_of, bind_orders}
use Rattle.cw_gen_expr.specs.UnitTables.{first_mark}
use Rattle.cw_gen_unit.specs.ReferenceUnits.{answer_of, leave_orders, entry_orders, procedure_piece, procedures_piece, unit_piece, label_marks, switch_lists, unit_orders}
use Rattle.cw_gen_unit.proofs.Layers.{leave-holds}
use Rattle.cw_tokens.specs.LeastTokens.{statement_tokens, procedure_tokens, procedures_tokens, switches_tokens, least_tokens}
use Rattle.cw_tmpl.specs.Names.{landing_size}
use Rattle.cw_tmpl.specs.Pieces.{blanks}
use Rattle.cw_tmpl.specs.Templates.{entered_size}
use Rattle.cw_tmpl.specs.Sizes.{listed_sizes}
use Rattle.cw_tmpl.specs.ReferenceCode.{entry_size, switch_sizes, pieces_of, orders_code}
use Rattle.cw_tokens.specs.SetLabels.{set_labels, set_in_procedures, LabelsStand}
use Rattle.cw_size.proofs.Short.{first_short, Short, plainly, both_short, eased}
use Rattle.cw_size.proofs.OrderSizes.{bind-short}
use Rattle.cw_size.proofs.Statements.{statement_short}

labels-long : (u : SourceUnit) (l : ℕ) (ms : List Label) → length (label_marks u l ms) ≡ length ms
labels-long u l [] = refl
labels-long u l (m ∷ ms) = ap suc (labels-long u (suc l) ms)

switches-short : (ss : List Switch) → switch_sizes (switch_lists ss) ≤ 32 * switches_tokens ss
switches-short [] = omega arith
switches-short (s ∷ ss) =
    let h = switches-short ss in
    let z : 29 + 2 * length s.list + switch_sizes (switch_lists ss) ≤ 32 * (3 + 2 * length s.list + switches_tokens ss) = omega (arith, h) in
    z

entered-short : (size : ℕ) → entered_size size ≤ 34
entered-short zero = omega arith
entered-short (suc n) = omega arith

module _ (u : SourceUnit) where
  procedure_short : (p : ℕ) (q : Proc) → Short (procedure_piece u p q) (15 * set_labels q.body) (32 * procedure_tokens q)
  procedure_short p q =
      eased
      (both_short (plainly (entry_orders u p q) (34 + 13 * length q.params) (first_short (order.Enter (slice_index (layout_of u).frames p)) (bind_orders (layout_of u) q.params) 34 (13 * length q.params) (entered-short (slice_index (layout_of u).frames p)) (bind-short (layout_of u) q.params)))
      (both_short (statement_short (scope_of u (Some p)) (Some p) (answer_of u (Some p)) q.body) (plainly (leave_orders q) 9 (leave-holds (λ os. listed_sizes os ≤ 9) q (let z : 2 + (6 + 0) ≤ 9 = omega arith in z) (let z : 0 ≤ 9 = omega arith in z)))))
      (let z : 34 + 13 * length q.params + (32 * statement_tokens q.body + 9) + 15 * set_labels q.body ≤ 32 * (4 + (2 * length q.params + statement_tokens q.body)) + (0 + (15 * set_labels q.body + 0)) = omega arith in z)

  procedures_short : (p : ℕ) (qs : List Proc) → Short (procedures_piece u p qs) (15 * set_in_procedures qs) (32 * procedures_tokens qs)
  procedures_short p [] = eased (plainly [] 0 (let z : 0 ≤ 0 = omega arith in z)) (let z : 0 + 15 * 0 ≤ 32 * 0 + 0 = omega arith in z)
  procedures_short p (q ∷ qs) =
      eased (both_short (procedure_short p q) (procedures_short (suc p) qs))
      (let z : 32 * procedure_tokens q + 32 * procedures_tokens qs + 15 * (set_labels q.body + set_in_procedures qs) ≤ 32 * (procedure_tokens q + procedures_tokens qs) + (15 * set_labels q.body + 15 * set_in_procedures qs) = omega arith in z)

  unit_short : Short (unit_piece u) (15 * set_labels u.body + 0 + 15 * set_in_procedures u.procs) (32 * statement_tokens u.body + 5 + 32 * procedures_tokens u.procs)
  unit_short = both_short (both_short (statement_short (scope_of u None) None 0 u.body) (plainly (order.NextBody ∷ []) 5 (let z : 5 + 0 ≤ 5 = omega arith in z))) (procedures_short 0 u.procs)

  -- by the sizes of what the code of a segment has
  pub short : ((o : Orders) → length (blanks (pieces_of o)) ≤ entry_size + (listed_sizes o.list + (landing_size * length o.labels + switch_sizes o.switches))) → LabelsStand u → length (orders_code (unit_orders u)).bytes ≤ 32 * least_tokens u
  short segment stand =
      let o = unit_orders u in
      let all : length (orders_code o).bytes ≤ 11 + (listed_sizes o.list + (15 * length o.labels + switch_sizes o.switches)) = segment o in
      let orders : listed_sizes o.list + (15 * set_labels u.body + 0 + 15 * set_in_procedures u.procs) ≤ 32 * statement_tokens u.body + 5 + 32 * procedures_tokens u.procs = unit_short.at 0 (first_mark u) in
      let labels : length o.labels ≡ length u.labels = labels-long u 0 u.labels in
      let few : length u.labels ≤ set_labels u.body + set_in_procedures u.procs = stand.few in
      let switches : switch_sizes o.switches ≤ 32 * switches_tokens u.switches = switches-short u.switches in
      let z : length (orders_code o).bytes ≤ 32 * (4 + (procedures_tokens u.procs + (switches_tokens u.switches + statement_tokens u.body))) = omega (arith, all, orders, labels, few, switches) in
      z
