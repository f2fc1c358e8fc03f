-- The code of a unit and the records behind it are in the format of objects.
use Rattle.std.proofs.Common.{◌≡◌, ℕ, zero, suc, ◌+◌, ◌<◌, ◌≤◌, nat_eq, nat_lt, List, [], ◌∷◌, length, Bool, true, false, IsTrue, ◌&&◌, Option, Some, None, slice_get, refl, sym, ap, ◌∙◌, arith, length-append}
use Rattle.std.specs.Prelude.{is_some}
use Rattle.std.proofs.lemmas.Option.{same_Some}
use Rattle.std.specs.List.{list_all}
use Rattle.cw_unit.specs.declared.unit.Unit.{Unit as SourceUnit}
use Rattle.cw_unit.specs.declared.unit.Switch.{Switch}
use Rattle.cw_unit.specs.declared.unit.Label.{Label}
use Rattle.cw_unit.specs.declared.unit.Def.{Def}
use Rattle.cw_unit.specs.declared.unit.Def.TheVariants as def
use Rattle.cw_unit.specs.declared.descriptor.Desc.{Desc}
use Rattle.cw_unit.specs.declared.descriptor.DescBody.{DescBody}
use Rattle.cw_unit.specs.declared.descriptor.DescBody.TheVariants as bodies
use Rattle.cw_safety.specs.WellFormed.{sets, sets_in_procedure, is_at, reaches_label}
use Rattle.cw_order.specs.declared.order.LabelMark.{LabelMark}
use Rattle.cw_unit.specs.Storage.{layout_of}
use Rattle.cw_unit.specs.StackBound.{unit_need}
use Rattle.cw_order.specs.declared.order.Order.TheVariants as order
use Rattle.cw_gen_expr.specs.ReferenceEntries.{scope_of}
use Rattle.cw_gen_expr.specs.UnitTables.{label_mark, first_mark}
use Rattle.cw_gen_unit.specs.ReferenceStatements.{statement_piece}
use Rattle.cw_gen_unit.specs.ReferenceUnits.{procedures_piece, body_piece, label_marks, switch_lists, unit_orders}
use Rattle.cw_tmpl.specs.Pieces.{blanks, relocations}
use Rattle.cw_tmpl.specs.ReferenceCode.{entry_size, pieces_of}
use Rattle.cw_tmpl.proofs.Blank.{all_blank, all_rise}
use Rattle.cw_obj.specs.ReferenceObject.{body_of}
use Rattle.cw_object.specs.Fits.{is_word, is_long, fits_body_facts}
use Rattle.cw_object.specs.IsWritable.{is_coded, are_filled, are_defined, are_begun}
use Rattle.cw_built.specs.Built.{defines_as, meets, is_built}
use Rattle.cw_built.specs.Coded.{has_code, is_mark, has_few, is_entry, have_code}
use Rattle.cw_carry.proofs.Runs.Beginnings.{unit_begun}
use Rattle.cw_writable.proofs.Coded.Fine.{no, both, parts}
use Rattle.cw_writable.proofs.Coded.Numbers.{lt_true}
use Rattle.cw_writable.specs.Back.Ready.{code_of, is_goal, IsReady}
use Rattle.cw_writable.proofs.Back.Units.{parts-of, unit-fit}
use Rattle.cw_writable.proofs.Back.Targets.{pieces-sound, fields, filled}
use Rattle.cw_writable.proofs.Back.Places.{code-long, statements, definitions, Outside}

module _ (u : SourceUnit) where
  abbrev size : ℕ
  size = length (code_of u).bytes

  pub body : IsReady u → size ≤ 2097120 → unit_need u < 65536 → IsTrue (is_coded u (code_of u) (unit_need u))
  body ready small need =
      let o = unit_orders u in
      let long = code-long o in
      let entry : entry_size ≡ 11 = refl in
      let some : 0 < size = omega (arith, long, entry) in
      let fits : size < 4294967296 = omega (arith, small) in
      let tokens = ready.tokens in
      both (is_long size) (fits_body_facts (body_of u (code_of u) (unit_need u)) && nat_lt 0 size) (lt_true size 4294967296 fits)
      (both (fits_body_facts (body_of u (code_of u) (unit_need u))) (nat_lt 0 size)
      (both (is_word (unit_need u)) (is_long u.tokens) (lt_true (unit_need u) 65536 need) (lt_true u.tokens 4294967296 tokens))
      (lt_true 0 size some))

  goals-listed : (n : ℕ) (ss : List Switch) → IsTrue (list_all (λ (s : Switch). list_all (is_goal n) s.list) ss) → IsTrue (list_all (list_all (is_goal n)) (switch_lists ss))
  goals-listed n [] h = refl
  goals-listed n (s ∷ ss) h =
      let p = parts (list_all (is_goal n) s.list) (list_all (λ (x : Switch). list_all (is_goal n) x.list) ss) h in
      both (list_all (is_goal n) s.list) (list_all (list_all (is_goal n)) (switch_lists ss)) p.0 (goals-listed n ss p.1)

  pub relocations_filled : IsTrue (is_built u) → IsReady u → size ≤ 2097120 → IsTrue (are_filled (length u.descs) (layout_of u).families (code_of u).bytes 0 (code_of u).relocs)
  relocations_filled built ready small =
      let o = unit_orders u in
      let n = length u.descs in
      let fs = (layout_of u).families in
      let sound = pieces-sound n fs o (unit-fit u (parts-of u built) ready) (goals-listed n u.switches ready.goals) in
      let le : 0 ≤ 0 = omega arith in
      filled n fs (blanks (pieces_of o)) 0 (relocations 0 (pieces_of o)) small (all_blank [] (pieces_of o)) (all_rise 0 0 (pieces_of o) le) (fields n fs 0 (pieces_of o) ready.descriptors sound)

  record Codes : Type 0 where
    orders : IsTrue (list_all has_code (unit_orders u).list)
    marks : IsTrue (list_all (is_mark (unit_orders u).list) (unit_orders u).marks)
    entries : IsTrue (list_all (is_entry (unit_orders u).list (unit_orders u).marks) (unit_orders u).procedures)

  codes : IsTrue (have_code (unit_orders u)) → Codes
  codes h =
      let o = unit_orders u in
      let last = list_all has_few o.switches && list_all (is_entry o.list o.marks) o.procedures in
      let a = parts (nat_eq o.entry 0) (list_all has_code o.list && (list_all (is_mark o.list) o.marks && last)) h in
      let b = parts (list_all has_code o.list) (list_all (is_mark o.list) o.marks && last) a.1 in
      let c = parts (list_all (is_mark o.list) o.marks) last b.1 in
      record { orders = b.0; marks = c.0; entries = (parts (list_all has_few o.switches) (list_all (is_entry o.list o.marks) o.procedures) c.1).1 }

  -- a label that is defined in common stands in no procedure
  no-owner : (v : SourceUnit) (l : ℕ) (r : Option ℕ) → IsTrue (elim r [ None ↦ sets l v.body | Some q ↦ is_at 0 q None && sets_in_procedure l (slice_get v.procs q) ]) → is_some r ≡ false
  no-owner v l None t = refl
  no-owner v l (Some q) t = no t

  in-body : (v : SourceUnit) (n k l : ℕ) (xs : List Label) (m : LabelMark) → IsTrue (reaches_label v (slice_get xs k) 0 l None) → slice_get (label_marks u n xs) k ≡ Some m → m.in_procedure ≡ false
  in-body v n k l [] m t e = no t
  in-body v n zero l (x ∷ xs) m t e = ap (λ (y : LabelMark). y.in_procedure) (sym (same_Some (record { mark = label_mark u n; in_procedure = is_some x.proc }) m e)) ∙ no-owner v l x.proc t
  in-body v n (suc k) l (x ∷ xs) m t e = in-body v (suc n) k l xs m t e

  outside : (y : Option Desc) (x : Def) → IsTrue (meets u y x) → Outside (unit_orders u) x
  outside None x h = no h
  outside (Some y) (def.Proc q) h = tt
  outside (Some y) (def.Switch k) h = tt
  outside (Some y) (def.Label l) h = by y.body h
    where
      by : (b : DescBody) → IsTrue (defines_as u b (def.Label l)) → Outside (unit_orders u) (def.Label l)
      by bodies.Label t = λ m e. in-body (record u { defined = [] }) 0 l l u.labels m t e
      by _ t = no t

  pub definitions_placed : IsTrue (is_built u) → IsTrue (have_code (unit_orders u)) → IsReady u → size ≤ 2097120 → IsTrue (are_defined (length u.descs) (code_of u) 0 u.defined)
  definitions_placed built coded ready small =
      definitions (unit_orders u) (codes coded).marks (codes coded).entries u ready.descriptors small outside 0 u.defined ready.defined (parts-of u built).met

  pub statements_begun : IsTrue (is_built u) → IsTrue (have_code (unit_orders u)) → IsReady u → size ≤ 2097120 → IsTrue (are_begun size 0 (code_of u).statements)
  statements_begun built coded ready small =
      statements (unit_orders u) (length u.descs) (layout_of u).families small (unit-fit u (parts-of u built) ready) (unit_begun u) (codes coded).orders
