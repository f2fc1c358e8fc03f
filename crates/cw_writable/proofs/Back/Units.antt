-- The orders of a unit that is built name what there is, and begin each statement with its line.
use Rattle.std.proofs.Common.{ℕ, suc, ◌+◌, ◌≤◌, nat_le, List, [], ◌∷◌, ◌++◌, length, Bool, true, false, IsTrue, ◌&&◌, Some, None, refl}
use Rattle.std.proofs.lemmas.Bool.{leb-true}
use Rattle.std.specs.List.{list_all}
use Rattle.cw_order.specs.declared.order.Order.{Order}
use Rattle.cw_order.specs.declared.order.Order.TheVariants as order
use Rattle.cw_unit.specs.declared.unit.Unit.{Unit as SourceUnit}
use Rattle.cw_unit.specs.declared.unit.Proc.{Proc}
use Rattle.cw_unit.specs.Storage.{layout_of}
use Rattle.cw_unit.specs.ValidStorage.{IsStorable}
use Rattle.cw_safety.specs.WellFormed as formed
use Rattle.cw_gen_expr.specs.NamedItems.{has_words}
use Rattle.cw_gen_expr.specs.ReferenceExpressions.{argument_words}
use Rattle.cw_gen_expr.specs.ReferenceEntries.{scope_of}
use Rattle.cw_gen_expr.specs.UnitTables.{first_mark}
use Rattle.cw_gen_unit.specs.BuiltStatements.{is_statement}
use Rattle.cw_gen_unit.specs.BuiltUnits.{items_fit, is_procedure, are_procedures, are_built}
use Rattle.cw_gen_unit.specs.ReferenceStatements.{statement_piece}
use Rattle.cw_gen_unit.specs.ReferenceUnits.{answer_of, leave_orders, entry_orders, procedure_piece, procedures_piece, body_piece, unit_orders}
use Rattle.cw_built.specs.Listed.{are_named}
use Rattle.cw_built.specs.Stored.{are_bases, are_items, are_frames, is_stored}
use Rattle.cw_built.specs.Built.{alone, is_formed, are_met, is_built}
use Rattle.cw_built.proofs.Layouts.{storable}
use Rattle.cw_writable.proofs.Coded.Fine.{parts}
use Rattle.cw_writable.specs.Back.Ready.{has_lines, IsReady}
use Rattle.cw_gen_unit.proofs.Layers.{leave-holds}
use Rattle.cw_writable.proofs.Back.Fit.{names_well, Fit, Good, plainly, both_good}
use Rattle.cw_writable.proofs.Back.Names.{bind-named}
use Rattle.cw_writable.proofs.Back.Statements.{statement_good}

-- ---- the unit

module _ (u : SourceUnit) where
  pub record Known : Type 0 where
    pub named : IsTrue (are_named u.descs)
    pub few : length u.items ≤ 65535
    pub storable : IsStorable u
    pub body_formed : IsTrue (formed.is_statement (alone u) 0 None u.body)
    pub procedures_formed : IsTrue (formed.are_procedures (alone u) 0 0 u.procs)
    pub met : IsTrue (are_met u)
    pub body_built : IsTrue (is_statement u (has_words u None) None 0 u.body 64)
    pub procedures_built : IsTrue (are_procedures u 0 u.procs)

  pub parts-of : IsTrue (is_built u) → Known
  parts-of h =
      let a = parts (are_named u.descs) (is_stored u && (is_formed u && (are_met u && are_built (u ∷ [])))) h in
      let b = parts (is_stored u) (is_formed u && (are_met u && are_built (u ∷ []))) a.1 in
      let c = parts (is_formed u) (are_met u && are_built (u ∷ [])) b.1 in
      let d = parts (are_met u) (are_built (u ∷ [])) c.1 in
      let e = parts (is_statement u (has_words u None) None 0 u.body 64 && are_procedures u 0 u.procs) true d.1 in
      let f = parts (is_statement u (has_words u None) None 0 u.body 64) (are_procedures u 0 u.procs) e.0 in
      let g = parts (formed.is_statement (alone u) 0 None u.body) (formed.are_procedures (alone u) 0 0 u.procs) c.0 in
      let s = parts (nat_le (length u.items) 65535) (are_bases u && (are_items u 0 u.items && are_frames u 0 u.procs)) b.0 in
      let t = parts (are_bases u) (are_items u 0 u.items && are_frames u 0 u.procs) s.1 in
      let v = parts (are_items u 0 u.items) (are_frames u 0 u.procs) t.1 in
      record {
        named = a.0;
        few = leb-true (length u.items) 65535 s.0;
        storable = storable u v.0;
        body_formed = g.0;
        procedures_formed = g.1;
        met = d.0;
        body_built = f.0;
        procedures_built = f.1;
      }

  module _ (h : Known) where
    procedure_good : (p : ℕ) (q : Proc) → IsTrue (is_procedure u p q) → IsTrue (formed.is_statement (alone u) 0 (Some (0, p)) q.body) → IsTrue (has_lines q.body) → Good (length u.descs) (layout_of u).families (procedure_piece u p q)
    procedure_good p q b f l =
        let last = items_fit (λ i. has_words u (Some p) i 1) q.params in
        let x = parts (is_statement u (has_words u (Some p)) (Some p) (answer_of u (Some p)) q.body 64) (nat_le (length q.params) 32 && last) b in
        let y = parts (nat_le (length q.params) 32) last x.1 in
        both_good (plainly (entry_orders u p q) (bind-named u h.storable h.few (Some p) q.params y.1))
        (both_good (statement_good u h.storable h.few h.named (Some p) (Some (0, p)) (answer_of u (Some p)) q.body 64 x.0 f l) (plainly (leave_orders q) (leave-holds (λ os. IsTrue (list_all (names_well (length u.descs) (layout_of u).families) os)) q refl refl)))

    procedures_good : (p : ℕ) (qs : List Proc) → IsTrue (are_procedures u p qs) → IsTrue (formed.are_procedures (alone u) 0 p qs) → IsTrue (list_all (λ (q : Proc). has_lines q.body) qs) → Good (length u.descs) (layout_of u).families (procedures_piece u p qs)
    procedures_good p [] b f l = plainly [] refl
    procedures_good p (q ∷ qs) b f l =
        let x = parts (is_procedure u p q) (are_procedures u (suc p) qs) b in
        let y = parts (formed.is_statement (alone u) 0 (Some (0, p)) q.body) (formed.are_procedures (alone u) 0 (suc p) qs) f in
        let z = parts (has_lines q.body) (list_all (λ (r : Proc). has_lines r.body) qs) l in
        both_good (procedure_good p q x.0 y.0 z.0) (procedures_good (suc p) qs x.1 y.1 z.1)

    pub unit-fit : IsReady u → Fit (length u.descs) (layout_of u).families (unit_orders u).list
    unit-fit r =
        (both_good
        (both_good (statement_good u h.storable h.few h.named None None 0 u.body 64 h.body_built h.body_formed r.body) (plainly (order.NextBody ∷ []) refl))
        (procedures_good 0 u.procs h.procedures_built h.procedures_formed r.procedures)).at 0 (first_mark u)
