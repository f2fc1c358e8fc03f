-- The lists of a unit's orders tell what its tables tell.
use Rattle.std.proofs.Common.{◌≡◌, ℕ, zero, suc, ◌+◌, List, [], ◌∷◌, Option, Some, None, refl, ap, ◌∙◌, arith}
use Rattle.std.specs.Prelude.{slice_get, is_some, option_map}
use Rattle.std.proofs.lemmas.Option.{none-some, same_Some}
use Rattle.cw_unit.specs.declared.unit.Unit.{Unit as SourceUnit}
use Rattle.cw_unit.specs.declared.unit.Label.{Label}
use Rattle.cw_unit.specs.declared.unit.Proc.{Proc}
use Rattle.cw_unit.specs.declared.unit.Switch.{Switch}
use Rattle.cw_unit.specs.declared.unit.Goal.{Goal}
use Rattle.cw_unit.specs.Step.{goals_of}
use Rattle.cw_order.specs.declared.order.LabelMark.{LabelMark}
use Rattle.cw_order.specs.OrderProgram.{LabelEntry, ProcedureEntry}
use Rattle.cw_order.specs.NamesAgree.{NamesAgree}
use Rattle.cw_gen_expr.specs.UnitTables.{label_mark, procedure_mark, label_entry, procedure_entry, tables_of}
use Rattle.cw_gen_unit.specs.ReferenceUnits.{label_marks, procedure_marks, switch_lists, unit_orders}

abbrev entry : LabelEntry → LabelMark
entry e = record { mark = e.mark; in_procedure = e.in_procedure }

abbrev marked : SourceUnit → (label : ℕ) → Label → LabelMark
marked u l x = record { mark = label_mark u l; in_procedure = is_some x.proc }

label-at : (u : SourceUnit) (n l : ℕ) (xs : List Label) (x : Label) → slice_get xs l ≡ Some x → slice_get (label_marks u n xs) l ≡ Some (marked u (n + l) x)
label-at u n l [] x h = absurd (none-some x h)
label-at u n zero (y ∷ xs) x h = ap (λ z. Some (marked u n z)) (same_Some y x h) ∙ ap (λ k. Some (marked u k x)) (let e : n ≡ n + 0 = omega arith in e)
label-at u n (suc l) (y ∷ xs) x h = label-at u (suc n) l xs x h ∙ ap (λ k. Some (marked u k x)) (let e : suc n + l ≡ n + suc l = omega arith in e)

labels_agree : (u : SourceUnit) (l : ℕ) (v : Option Label) (e : LabelEntry) → slice_get u.labels l ≡ v → option_map (label_entry u l) v ≡ Some e
    → slice_get (label_marks u 0 u.labels) l ≡ Some (entry e)
labels_agree u l None e is h = absurd (none-some e h)
labels_agree u l (Some x) e is h =
    label-at u 0 l u.labels x is ∙ ap (λ k. Some (marked u k x)) (let same : 0 + l ≡ l = omega arith in same) ∙ ap (λ y. Some (entry y)) (same_Some (label_entry u l x) e h)

number-at : (u : SourceUnit) (n k : ℕ) (xs : List Proc) (x : Proc) → slice_get xs k ≡ Some x → slice_get (procedure_marks u n xs) k ≡ Some (procedure_mark u (n + k))
number-at u n k [] x h = absurd (none-some x h)
number-at u n zero (y ∷ xs) x h = ap (λ m. Some (procedure_mark u m)) (let e : n ≡ n + 0 = omega arith in e)
number-at u n (suc k) (y ∷ xs) x h = number-at u (suc n) k xs x h ∙ ap (λ m. Some (procedure_mark u m)) (let e : suc n + k ≡ n + suc k = omega arith in e)

procedures_agree : (u : SourceUnit) (q : ℕ) (v : Option Proc) (e : ProcedureEntry) → slice_get u.procs q ≡ v → option_map (procedure_entry u q) v ≡ Some e
    → slice_get (procedure_marks u 0 u.procs) q ≡ Some e.mark
procedures_agree u q None e is h = absurd (none-some e h)
procedures_agree u q (Some x) e is h =
    number-at u 0 q u.procs x is ∙ ap (λ m. Some (procedure_mark u m)) (let same : 0 + q ≡ q = omega arith in same) ∙ ap (λ y. Some y.mark) (same_Some (procedure_entry u q x) e h)

switch-at : (ss : List Switch) (n : ℕ) (gs : List Goal) → goals_of (slice_get ss n) ≡ Some gs → slice_get (switch_lists ss) n ≡ Some gs
switch-at [] n gs h = absurd (none-some gs h)
switch-at (s ∷ ss) zero gs h = h
switch-at (s ∷ ss) (suc n) gs h = switch-at ss n gs h

pub agree : (us : List SourceUnit) (u : SourceUnit) → NamesAgree (tables_of us u) (unit_orders u)
agree us u = record {
  labels = λ l e h. labels_agree u l (slice_get u.labels l) e refl h;
  procedures = λ q e h. procedures_agree u q (slice_get u.procs q) e refl h;
  switches = λ n gs h. switch-at u.switches n gs h;
}
