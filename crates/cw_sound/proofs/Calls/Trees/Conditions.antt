-- Conditions: where their parts are right, so are they.
use Rattle.std.proofs.Common.{ℕ, max, List, [], ◌∷◌, ◌++◌, false}
use Rattle.cw_tree.specs.declared.leaf.Position.{Position}
use Rattle.cw_tree.specs.declared.leaf.RawCompareSign.{RawCompareSign}
use Rattle.cw_facts.specs.declared.fact.Reading.TheVariants as reading
use Rattle.cw_facts.specs.Uses.{Uses, each_for}
use Rattle.cw_scope.specs.declared.resolve.Named.{Named}
use Rattle.cw_scale.specs.TypeRules as judged
use Rattle.cw_scale.specs.TypeRules.{Judged, each_at}
use Rattle.cw_make_expr.specs.Parts.{Numbers}
use Rattle.cw_make_expr.specs.Nodes as nodes
use Rattle.cw_make_expr.specs.Made.{Made, all_from, any_from, all_of, any_of}
use Rattle.cw_unit.specs.declared.unit.CompareOp.TheVariants as compare
use Rattle.cw_unit.specs.declared.unit.Cond.{Cond}
use Rattle.cw_deepest.specs.Programs.Calls.{in_condition}
use Rattle.cw_sound.proofs.Expressions.Judging.{Keeps, NoFault, keeps_fine, keeps_both, both_free}
use Rattle.cw_sound.proofs.Calls.Trees.Parts.{Context, AllFit, Right, RightTest, RightTests, no_test, more_tests, Tests, no_tests, more_tested}
use Rattle.cw_sound.proofs.Calls.Trees.Nodes.{nothing_fits, comparison_fits, both_fit, either_fits}

module _ (named : Named) (numbers : Numbers) (body : Context named numbers) where
  abbrev All : Cond → Type 0
  All c = AllFit named numbers body (in_condition c)

  tests_of : {js : List Judged} {cs : List Cond} {xs : List Uses} → RightTests named numbers body js cs xs → body.Stood (each_for reading.Value xs) → Tests named numbers body js cs
  tests_of no_test h = no_tests
  tests_of (more_tests {x = x} {xs = xs} t ts) h =
      let halves = body.split (x reading.Value) (each_for reading.Value xs) h in
      more_tested (t reading.Value halves.0) (tests_of ts halves.1)

  tests_keep : {js : List Judged} {cs : List Cond} → Tests named numbers body js cs → Keeps (each_at 0 js)
  tests_keep no_tests = keeps_fine
  tests_keep (more_tested {j = j} {js = js} t ts) = keeps_both (t.keeps 0) (tests_keep ts)

  data Conditions : List Cond → Type 0 where
    no_condition : Conditions []
    more_conditions : {c : Cond} {cs : List Cond} → All c → Conditions cs → Conditions (c ∷ cs)

  conditions_of : {js : List Judged} {cs : List Cond} → Tests named numbers body js cs → NoFault (each_at 0 js) → Conditions cs
  conditions_of no_tests free = no_condition
  conditions_of (more_tested {j = j} {js = js} t ts) free =
      let frees = both_free (j.faults 0) (each_at 0 js) (tests_keep ts) free in
      more_conditions (t.fits 0 frees.0) (conditions_of ts frees.1)

  nothing_tested : All nodes.no_condition
  nothing_tested = comparison_fits body.Fit compare.Equal nodes.nothing nodes.nothing (nothing_fits body.Fit) (nothing_fits body.Fit)

  all_fit : (c : Cond) {cs : List Cond} → All c → Conditions cs → All (all_from c cs)
  all_fit c h no_condition = h
  all_fit c h (more_conditions {c = d} k ks) = all_fit (nodes.both c d) (both_fit body.Fit c d h k) ks

  any_fit : (c : Cond) {cs : List Cond} → All c → Conditions cs → All (any_from c cs)
  any_fit c h no_condition = h
  any_fit c h (more_conditions {c = d} k ks) = any_fit (nodes.either c d) (either_fits body.Fit c d h k) ks

  all_of_fit : {cs : List Cond} → Conditions cs → All (all_of cs)
  all_of_fit no_condition = nothing_tested
  all_of_fit (more_conditions {c = c} k ks) = all_fit c k ks

  any_of_fit : {cs : List Cond} → Conditions cs → All (any_of cs)
  any_of_fit no_condition = nothing_tested
  any_of_fit (more_conditions {c = c} k ks) = any_fit c k ks

  pub conjunction_right : (positions : List Position) {js : List Judged} {cs : List Cond} {xs : List Uses} → RightTests named numbers body js cs xs
      → RightTest named numbers body (judged.conjunction_step named (record { operands = js; operators = positions })) (all_of cs) (λ r. each_for reading.Value xs)
  conjunction_right positions rs r h =
      let ts = tests_of rs h in
      record { keeps = λ f. tests_keep ts; fits = λ f free. all_of_fit (conditions_of ts free) }

  pub condition_right : (positions : List Position) {js : List Judged} {cs : List Cond} {xs : List Uses} → RightTests named numbers body js cs xs
      → RightTest named numbers body (judged.condition_step named (record { operands = js; operators = positions })) (any_of cs) (λ r. each_for reading.Value xs)
  condition_right positions rs r h =
      let ts = tests_of rs h in
      record { keeps = λ f. tests_keep ts; fits = λ f free. any_of_fit (conditions_of ts free) }

  pub comparison_right : (o : RawCompareSign) (j k : Judged) (m n : Made) (x y : Uses) → Right named numbers body j m x → Right named numbers body k n y
      → RightTest named numbers body (judged.comparison_step named (record { left = j; operator = o; right = k })) (nodes.comparison (nodes.comparator o.op) (m.made false) (n.made false)) (λ r. x reading.Value ++ y reading.Value)
  comparison_right o j k m n x y s t r h =
      let halves = body.split (x reading.Value) (y reading.Value) h in
      let v = s reading.Value halves.0 in
      let w = t reading.Value halves.1 in
      let top : ℕ = max j.shape.natural k.shape.natural in
      record {
        keeps = λ f. keeps_both (v.keeps top) (w.keeps top);
        fits = λ f free.
            let frees = both_free (j.faults top) (k.faults top) (w.keeps top) free in
            comparison_fits body.Fit (nodes.comparator o.op) (m.made false) (n.made false) (v.fits top frees.0 false) (w.fits top frees.1 false);
      }
