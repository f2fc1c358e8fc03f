use Rattle.std.proofs.Common.{◌≡◌, ℕ, List, [], ◌++◌, length, drop}
use Rattle.cw_gen_unit.specs.ReferenceUnits.{procedures_piece, entries_of, procedure_labels, label_places}
use Rattle.cw_gen_unit.proofs.unit.emit_procedures.Given as goal

abbrev pub invariant-loop-i : goal.invariant-loop-i
invariant-loop-i l = record {
  orders : l.out.orders ++ (procedures_piece l.unit l.i (drop l.i l.procedures) (length l.out.orders) (length l.out.marks.items)).orders ≡ l.initial.out.orders ++ (procedures_piece l.unit 0 l.procedures (length l.initial.out.orders) (length l.initial.out.marks.items)).orders;
  marks : l.out.marks.items ++ (procedures_piece l.unit l.i (drop l.i l.procedures) (length l.out.orders) (length l.out.marks.items)).marks ≡ l.initial.out.marks.items ++ (procedures_piece l.unit 0 l.procedures (length l.initial.out.orders) (length l.initial.out.marks.items)).marks;
  labels : l.out.labels ≡ [];
  entries : l.entries.items ++ entries_of l.unit l.i (drop l.i l.procedures) (length l.out.orders) (length l.out.marks.items) ≡ l.initial.entries.items ++ entries_of l.unit 0 l.procedures (length l.initial.out.orders) (length l.initial.out.marks.items);
  places : (b : List (ℕ × ℕ)) → l.initial.places.items ≡ label_places 0 l.unit.labels b [] → (done : List (List (ℕ × ℕ))) × (length done ≡ l.i) × (done ++ procedure_labels l.unit l.i (drop l.i l.procedures) (length l.out.orders) (length l.out.marks.items) ≡ procedure_labels l.unit 0 l.procedures (length l.initial.out.orders) (length l.initial.out.marks.items)) × (l.places.items ≡ label_places 0 l.unit.labels b done);
}
