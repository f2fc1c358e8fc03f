-- Conditions: where their parts are right, so are they.
use Rattle.std.proofs.Common.{◌≡◌, ℕ, ◌≤◌, max, List, [], ◌∷◌, ◌++◌, false, Option, ap₂, arith}
use Rattle.cw_tree.specs.declared.leaf.Position.{Position}
use Rattle.cw_tree.specs.declared.leaf.RawCompareSign.{RawCompareSign}
use Rattle.cw_facts.specs.declared.fact.Reading.TheVariants as reading
use Rattle.cw_facts.specs.Uses.{Uses, each_for}
use Rattle.cw_scope.specs.declared.resolve.Named.{Named}
use Rattle.cw_scale.specs.TypeRules as judged
use Rattle.cw_scale.specs.TypeRules.{Judged, each_at}
use Rattle.cw_make_expr.specs.Parts.{Numbers}
use Rattle.cw_make_expr.specs.Nodes as nodes
use Rattle.cw_make_expr.specs.Nodes.{nothing, comparator, comparison, no_condition}
use Rattle.cw_make_expr.specs.Made.{Made, all_from, any_from, all_of, any_of}
use Rattle.cw_unit.specs.declared.unit.Unit.{Unit as SourceUnit}
use Rattle.cw_unit.specs.declared.unit.CompareOp.TheVariants as compare
use Rattle.cw_unit.specs.declared.unit.Cond.{Cond}
use Rattle.cw_gen_expr.specs.BuiltExpressions.{most_levels}
use Rattle.cw_sound.specs.Uses.Stands.{FactsStand}
use Rattle.cw_sound.specs.Expressions.Levels.{largest}
use Rattle.cw_sound.proofs.Expressions.Truth.{max_small}
use Rattle.cw_sound.proofs.Expressions.Judging.{Keeps, NoFault, keeps_both, both_free}
use Rattle.cw_sound.proofs.Expressions.Standing.{split}
use Rattle.cw_sound.proofs.Expressions.Parts.{Sense, Tested, Right, RightTest, RightTests}
use Rattle.cw_sound.proofs.Expressions.Senses.{IsKept}
use Rattle.cw_sound.proofs.Expressions.Lists.{All, all_keeping, all_stand, all_none, all_more}
use Rattle.cw_sound.proofs.Expressions.Several.{each_keeps}

module _ (sense : Sense) where
  abbrev AllTested : List Judged → List Cond → List ℕ → Type 0
  AllTested = All Cond (Tested sense)

  tests_keep : {js : List Judged} {cs : List Cond} {ls : List ℕ} → AllTested js cs ls → Keeps (each_at 0 js)
  tests_keep ts = each_keeps 0 (all_keeping Cond (Tested sense) (λ j c l t. t.keeps) ts)

  data Tests : List Cond → Type 0 where
    none_tests : Tests []
    one_test : {c : Cond} {cs : List Cond} → sense.Test c → Tests cs → Tests (c ∷ cs)

  tests_of : {js : List Judged} {cs : List Cond} {ls : List ℕ} → AllTested js cs ls → largest ls ≤ most_levels → NoFault (each_at 0 js) → Tests cs
  tests_of all_none few free = none_tests
  tests_of (all_more {j = j} {l = l} {js = js} {ls = ls} t ts) few free =
      let frees = both_free (j.faults 0) (each_at 0 js) (tests_keep ts) free in
      one_test (t.good 0 (omega (arith, few)) frees.0) (tests_of ts (omega (arith, few)) frees.1)

module _ (named : Named) (numbers : Numbers) (u : SourceUnit) (who : Option ℕ) (sense : Sense) (kept : IsKept named numbers u who sense) where
  no_test_at_all : sense.Test no_condition
  no_test_at_all =
      let n = kept.nothing_result 0 in
      let at = kept.more 0 most_levels 0 nothing (omega arith) n.at in
      kept.comparison_test compare.Equal nothing nothing 0 (ap₂ max n.natural n.natural) (omega arith) at at

  all_test : (c : Cond) {cs : List Cond} → sense.Test c → Tests sense cs → sense.Test (all_from c cs)
  all_test c h none_tests = h
  all_test c h (one_test {c = d} k ks) = all_test (nodes.both c d) (kept.both_tests c d h k) ks

  any_test : (c : Cond) {cs : List Cond} → sense.Test c → Tests sense cs → sense.Test (any_from c cs)
  any_test c h none_tests = h
  any_test c h (one_test {c = d} k ks) = any_test (nodes.either c d) (kept.either_test c d h k) ks

  all_of_test : {cs : List Cond} → Tests sense cs → sense.Test (all_of cs)
  all_of_test none_tests = no_test_at_all
  all_of_test (one_test {c = c} k ks) = all_test c k ks

  any_of_test : {cs : List Cond} → Tests sense cs → sense.Test (any_of cs)
  any_of_test none_tests = no_test_at_all
  any_of_test (one_test {c = c} k ks) = any_test c k ks

  all_tested : {js : List Judged} {cs : List Cond} {xs : List Uses} {ls : List ℕ} → RightTests named numbers u who sense js cs xs ls → FactsStand named numbers u (each_for reading.Value xs) who → AllTested sense js cs ls
  all_tested rs h = all_stand named numbers u who Cond (λ r. Tested sense) reading.Value rs h

  pub conjunction_right : (positions : List Position) {js : List Judged} {cs : List Cond} {xs : List Uses} {ls : List ℕ} → RightTests named numbers u who sense js cs xs ls
      → RightTest named numbers u who sense (judged.conjunction_step named (record { operands = js; operators = positions })) (all_of cs) (λ r. each_for reading.Value xs) (largest ls)
  conjunction_right positions rs r h = let ts = all_tested rs h in record { keeps = λ f. tests_keep sense ts; good = λ f few free. all_of_test (tests_of sense ts few free) }

  pub condition_right : (positions : List Position) {js : List Judged} {cs : List Cond} {xs : List Uses} {ls : List ℕ} → RightTests named numbers u who sense js cs xs ls
      → RightTest named numbers u who sense (judged.condition_step named (record { operands = js; operators = positions })) (any_of cs) (λ r. each_for reading.Value xs) (largest ls)
  condition_right positions rs r h = let ts = all_tested rs h in record { keeps = λ f. tests_keep sense ts; good = λ f few free. any_of_test (tests_of sense ts few free) }

  -- both sides are evaluated at the larger of their natural scales
  pub comparison_right : (o : RawCompareSign) (j k : Judged) (m n : Made) (x y : Uses) (l i : ℕ) → Right named numbers u who sense j m x l → Right named numbers u who sense k n y i
      → RightTest named numbers u who sense (judged.comparison_step named (record { left = j; operator = o; right = k })) (comparison (comparator o.op) (m.made false) (n.made false)) (λ r. x reading.Value ++ y reading.Value) (max l i)
  comparison_right o j k m n x y l i s t r h =
      let halves = split named numbers u who (x reading.Value) (y reading.Value) h in
      let v = (s reading.Value halves.0).valued tt in
      let w = (t reading.Value halves.1).valued tt in
      let top : ℕ = max j.shape.natural k.shape.natural in
      let small : top ≤ 15 = max_small j.shape.natural k.shape.natural 15 v.natural_small w.natural_small in
      record {
        keeps = λ f. keeps_both (v.keeps top) (w.keeps top);
        good = λ f few free.
            let frees = both_free (j.faults top) (k.faults top) (w.keeps top) free in
            let few_left : l ≤ most_levels = omega (arith, few) in
            let few_right : i ≤ most_levels = omega (arith, few) in
            let g = v.good top small few_left frees.0 in
            let q = w.good top small few_right frees.1 in
            kept.comparison_test (comparator o.op) (m.made false) (n.made false) top (ap₂ max (g.natural false) (q.natural false)) small
            (kept.more l most_levels top (m.made false) few_left g.at) (kept.more i most_levels top (n.made false) few_right q.at);
      }
