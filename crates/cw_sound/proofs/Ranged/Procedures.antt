-- The numbers of a unit's procedures are in range, by their bodies.
use Rattle.std.proofs.Common.{◌≡◌, inl, inr, ℕ, suc, ◌+◌, ◌<◌, ◌≤◌, List, [], ◌∷◌, length, true, IsTrue, nat_le, Option, Some, None, refl, sym, subst, arith}
use Rattle.cw_table.specs.declared.table.Row.{Row}
use Rattle.cw_tree.specs.declared.statement.RawBlock.{RawBlock}
use Rattle.cw_facts.specs.Facts.{block_facts}
use Rattle.cw_scope.specs.declared.resolve.Named.{Named}
use Rattle.cw_items.specs.declared.families.Site.{Site}
use Rattle.cw_judge.specs.Judged.{block_judged}
use Rattle.cw_make.specs.Labels.{proc_within}
use Rattle.cw_make.specs.Procedures.{block_procs}
use Rattle.cw_make_expr.specs.Parts.{Numbers}
use Rattle.cw_unit.specs.declared.unit.Unit.{Unit as SourceUnit}
use Rattle.cw_unit.specs.declared.unit.Proc.{Proc}
use Rattle.cw_unit.specs.declared.unit.Stmt.{Stmt}
use Rattle.cw_unit.specs.Storage.{frame_size}
use Rattle.cw_gen_unit.specs.ReferenceUnits.{answer_of}
use Rattle.cw_writable.specs.Coded.RangedUnits.{is_ranged_statement, is_ranged_procedure, are_ranged_procedures}
use Rattle.cw_sound.specs.Uses.Mentions.{In}
use Rattle.cw_sound.proofs.Expressions.Truth.{both, le_true}
use Rattle.cw_sound.proofs.Expressions.Judging.{NoFault}
use Rattle.cw_sound.specs.Ranges.Declared.{DeclarationsInRange}
use Rattle.cw_sound.specs.Statements.Bodies.{Body, Bodies, block_bodies}
use Rattle.cw_sound.specs.Statements.Counted.{Counted, BodiesFit}
use Rattle.cw_sound.proofs.Statements.Parts.{Stood}
use Rattle.cw_sound.proofs.Statements.InBodies.{bodies_are_right}
use Rattle.cw_sound.proofs.Statements.Halves.{in_unit}
use Rattle.cw_sound.proofs.Statements.SameBodies.{bodies_are_same}
use Rattle.cw_sound.proofs.Statements.UnitBodies.{made, Paired, paired}
use Rattle.cw_sound.specs.Storage.Frames.{FramesFit}
use Rattle.cw_sound.proofs.Ranged.Trees.{statement_is_right}

module _ (named : Named) (numbers : Numbers) (u : SourceUnit) (declared : DeclarationsInRange named) where
  abbrev RangedBody : Body → Type 0
  RangedBody x = IsTrue (is_ranged_statement u (answer_of u (proc_within numbers (Some x.token) None)) (made named numbers u x))

  all_ranged : (n : ℕ) (qs : List Proc) (xs : Bodies) → Paired named numbers u n qs xs → ((x : Body) → In x xs → RangedBody x) → ((k : ℕ) → k < n + length qs → frame_size u k ≤ 32768) → IsTrue (are_ranged_procedures u n qs)
  all_ranged n [] [] p h small = refl
  all_ranged n [] (x ∷ xs) p h small = absurd p
  all_ranged n (q ∷ qs) [] p h small = absurd p
  all_ranged n (q ∷ qs) (x ∷ xs) p h small =
      let here : n < n + suc (length qs) = omega arith in
      let body : IsTrue (is_ranged_statement u (answer_of u (Some n)) q.body) =
      subst (λ (s : Stmt). IsTrue (is_ranged_statement u (answer_of u (Some n)) s)) (sym p.0) (subst (λ (w : Option ℕ). IsTrue (is_ranged_statement u (answer_of u w) (made named numbers u x))) p.1 (h x (inl refl))) in
      both (is_ranged_procedure u n q) (are_ranged_procedures u (suc n) qs) (both (is_ranged_statement u (answer_of u (Some n)) q.body) (nat_le (frame_size u n) 32768) body (le_true (frame_size u n) 32768 (small n here)))
      (all_ranged (suc n) qs xs p.2 (λ z i. h z (inr i)) (λ k l. let next : k < n + suc (length qs) = omega (arith, l) in small k next))

  module _ (sites : List (Row Site)) (b : RawBlock) (fits : BodiesFit (block_bodies b)) (counted : Counted numbers 0 (block_bodies b)) (stood : Stood named numbers u None (block_facts b true)) (free : NoFault (block_judged named sites b)) where
    bodies_ranged : (x : Body) → In x (block_bodies b) → RangedBody x
    bodies_ranged x i =
        let r = bodies_are_right named sites numbers (in_unit named numbers u) b true None stood free x i in
        let f = fits x i in
        statement_is_right named sites numbers u (proc_within numbers (Some x.token) None) declared x.statement f.0 r.0 r.1 f.1

    pub procedures_ranged : u.procs ≡ block_procs named numbers b → FramesFit u → IsTrue (are_ranged_procedures u 0 u.procs)
    procedures_ranged made_of frames =
        let bodies = bodies_are_same named numbers b in
        let pairs : Paired named numbers u 0 u.procs (block_bodies b) = subst (λ (qs : List Proc). Paired named numbers u 0 qs (block_bodies b)) (sym made_of) (paired named numbers u 0 (block_procs named numbers b) (block_bodies b) bodies counted) in
        all_ranged 0 u.procs (block_bodies b) pairs bodies_ranged (λ k l. let small : k < length u.procs = omega (arith, l) in frames k small)
