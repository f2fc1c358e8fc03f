use Rattle.std.proofs.Common.{◌≡◌, ◌++◌, map, drop}
use Rattle.cw_gen_expr.proofs.output.Output.set_labels.Given as goal

abbrev pub invariant-loop-label : goal.invariant-loop-label
invariant-loop-label l = record {
  labels : l.self.labels ++ map (λ n. (n, l.place)) (drop l.label-index l.labels) ≡ l.initial.self.labels ++ map (λ n. (n, l.place)) l.labels;
  orders : l.self.orders ≡ l.initial.self.orders;
  marks : l.self.marks ≡ l.initial.self.marks;
  failed : l.self.failed ≡ l.initial.self.failed;
}
