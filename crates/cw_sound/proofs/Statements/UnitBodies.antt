-- The bodies of a unit: the block of a text, and those of its procedures by their numbers.
use Rattle.std.proofs.Common.{◌≡◌, inl, inr, ℕ, zero, suc, ◌+◌, ◌≤◌, List, [], ◌∷◌, map, drop, get_or, Bool, true, IsTrue, Option, Some, None, slice_get, refl, sym, ap, subst, ◌∙◌, arith}
use Rattle.std.proofs.lemmas.Option.{none-some, same_Some}
use Rattle.cw_table.specs.declared.table.Row.{Row}
use Rattle.cw_tree.specs.declared.statement.RawBlock.{RawBlock}
use Rattle.cw_facts.specs.Facts.{block_facts}
use Rattle.cw_scope.specs.declared.resolve.Named.{Named}
use Rattle.cw_items.specs.declared.families.Site.{Site}
use Rattle.cw_judge.specs.Judged.{block_judged}
use Rattle.cw_make.specs.Labels.{proc_within}
use Rattle.cw_make.specs.Procedures.{block_procs}
use Rattle.cw_make_expr.specs.Parts.{Numbers}
use Rattle.cw_make_stmt.specs.Made.{statement_of, block_of}
use Rattle.cw_unit.specs.declared.unit.Unit.{Unit as SourceUnit}
use Rattle.cw_unit.specs.declared.unit.Proc.{Proc}
use Rattle.cw_unit.specs.declared.unit.Stmt.{Stmt}
use Rattle.cw_safety.specs.WellFormed as formed
use Rattle.cw_gen_expr.specs.NamedItems.{has_words}
use Rattle.cw_gen_expr.specs.BuiltExpressions.{most_levels}
use Rattle.cw_gen_unit.specs.BuiltStatements.{is_statement}
use Rattle.cw_gen_unit.specs.ReferenceUnits.{answer_of}
use Rattle.cw_built.specs.Built.{alone, is_formed, at_work}
use Rattle.cw_sound.specs.Uses.Mentions.{In}
use Rattle.cw_sound.proofs.Expressions.Truth.{both}
use Rattle.cw_sound.proofs.Expressions.Judging.{NoFault}
use Rattle.cw_sound.specs.Statements.Bodies.{Body, Bodies, block_bodies}
use Rattle.cw_sound.specs.Statements.Counted.{Counted, BodiesFit, BodiesBuilt}
use Rattle.cw_sound.specs.Statements.Levels.{statement_levels, block_levels}
use Rattle.cw_sound.specs.Statements.Regular.{is_regular_block}
use Rattle.cw_sound.proofs.Statements.Parts.{Stood}
use Rattle.cw_sound.proofs.Statements.Nodes.{Good}
use Rattle.cw_sound.proofs.Statements.Trees.{statement_is_right, block_is_right}
use Rattle.cw_sound.proofs.Statements.InBodies.{bodies_are_right}
use Rattle.cw_sound.proofs.Statements.Halves.{in_unit}
use Rattle.cw_sound.proofs.Statements.SameBodies.{bodies_are_same}

module _ (named : Named) (numbers : Numbers) (u : SourceUnit) where
  abbrev pub made : Body → Stmt
  made x = statement_of named numbers x.statement

  -- procedures from a number on, each with its body
  abbrev pub Paired : ℕ → List Proc → Bodies → Type 0
  Paired n [] [] = Unit {0}
  Paired n (q ∷ qs) (x ∷ xs) = (q.body ≡ made x) × (proc_within numbers (Some x.token) None ≡ Some n) × Paired (suc n) qs xs
  Paired n _ _ = ⊥

  pub paired : (n : ℕ) (qs : List Proc) (xs : Bodies) → map (λ (q : Proc). q.body) qs ≡ map made xs → Counted numbers n xs → Paired n qs xs
  paired n [] [] e c = tt
  paired n [] (x ∷ xs) e c = absurd (cc)
  paired n (q ∷ qs) [] e c = absurd (cc)
  paired n (q ∷ qs) (x ∷ xs) e c = (ap (λ (l : List Stmt). get_or l 0 q.body) e, c.0, paired (suc n) qs xs (ap (λ (l : List Stmt). drop 1 l) e) c.1)

  abbrev GoodBody : Body → Type 0
  GoodBody x = Good u (proc_within numbers (Some x.token) None) (made x) (statement_levels x.statement)

  all_formed : (n : ℕ) (qs : List Proc) (xs : Bodies) → Paired n qs xs → ((x : Body) → In x xs → GoodBody x × (statement_levels x.statement ≤ most_levels)) → IsTrue (formed.are_procedures (alone u) 0 n qs)
  all_formed n [] [] p h = refl
  all_formed n [] (x ∷ xs) p h = absurd p
  all_formed n (q ∷ qs) [] p h = absurd p
  all_formed n (q ∷ qs) (x ∷ xs) p h =
      let g = h x (inl refl) in
      let first : IsTrue (formed.is_statement (alone u) 0 (Some (0, n)) q.body) =
      subst (λ (s : Stmt). IsTrue (formed.is_statement (alone u) 0 (Some (0, n)) s)) (sym p.0) (subst (λ (w : Option ℕ). IsTrue (formed.is_statement (alone u) 0 (at_work w) (made x))) p.1 (g.0.formed g.1)) in
      both (formed.is_statement (alone u) 0 (Some (0, n)) q.body) (formed.are_procedures (alone u) 0 (suc n) qs) first (all_formed (suc n) qs xs p.2 (λ z i. h z (inr i)))

  abbrev is_built_at : ℕ → Stmt → Bool
  is_built_at k s = is_statement u (has_words u (Some k)) (Some k) (answer_of u (Some k)) s 64

  all_built : (n : ℕ) (qs : List Proc) (xs : Bodies) → Paired n qs xs → ((x : Body) → In x xs → GoodBody x × (statement_levels x.statement ≤ most_levels)) → (p : ℕ) (q : Proc) → slice_get qs p ≡ Some q → IsTrue (is_built_at (n + p) q.body)
  all_built n [] xs d h p q e = absurd (none-some q e)
  all_built n (r ∷ qs) [] d h p q e = absurd d
  all_built n (r ∷ qs) (x ∷ xs) d h zero q e =
      let g = h x (inl refl) in
      let here : n + 0 ≡ n = omega arith in
      let body : made x ≡ q.body = sym d.0 ∙ ap (λ (z : Proc). z.body) (same_Some r q e) in
      subst (λ (k : ℕ). IsTrue (is_built_at k q.body)) (sym here) (subst (λ (s : Stmt). IsTrue (is_built_at n s)) body (subst (λ (w : Option ℕ). IsTrue (is_statement u (has_words u w) w (answer_of u w) (made x) 64)) d.1 (g.0.built most_levels g.1 (omega arith))))
  all_built n (r ∷ qs) (x ∷ xs) d h (suc p) q e =
      let next : suc n + p ≡ n + suc p = omega arith in
      subst (λ (k : ℕ). IsTrue (is_built_at k q.body)) next (all_built (suc n) qs xs d.2 (λ z i. h z (inr i)) p q e)

  module _ (sites : List (Row Site)) (b : RawBlock) (regular : IsTrue (is_regular_block b)) (few : block_levels b ≤ most_levels) (fits : BodiesFit (block_bodies b)) (counted : Counted numbers 0 (block_bodies b))
      (stood : Stood named numbers u None (block_facts b true)) (free : NoFault (block_judged named sites b)) where
    good_bodies : (x : Body) → In x (block_bodies b) → GoodBody x × (statement_levels x.statement ≤ most_levels)
    good_bodies x i =
        let r = bodies_are_right named sites numbers (in_unit named numbers u) b true None stood free x i in
        let f = fits x i in
        (statement_is_right named sites numbers u (proc_within numbers (Some x.token) None) x.statement f.0 r.0 r.1, f.1)

    main : Good u None (block_of named numbers b) (block_levels b)
    main = block_is_right named sites numbers u None b true regular stood free

    pairs : Paired 0 (block_procs named numbers b) (block_bodies b)
    pairs = paired 0 (block_procs named numbers b) (block_bodies b) (bodies_are_same named numbers b) counted

    pub unit_formed : u.body ≡ block_of named numbers b → u.procs ≡ block_procs named numbers b → IsTrue (is_formed u)
    unit_formed eb ep =
        both (formed.is_statement (alone u) 0 None u.body) (formed.are_procedures (alone u) 0 0 u.procs)
        (subst (λ (s : Stmt). IsTrue (formed.is_statement (alone u) 0 None s)) (sym eb) (main.formed few))
        (subst (λ (qs : List Proc). IsTrue (formed.are_procedures (alone u) 0 0 qs)) (sym ep) (all_formed 0 (block_procs named numbers b) (block_bodies b) pairs good_bodies))

    pub unit_built : u.body ≡ block_of named numbers b → u.procs ≡ block_procs named numbers b → BodiesBuilt u
    unit_built eb ep = record {
      body = subst (λ (s : Stmt). IsTrue (is_statement u (has_words u None) None 0 s 64)) (sym eb) (main.built most_levels few (omega arith));
      procedures = λ p q e.
          let start : 0 + p ≡ p = omega arith in
          subst (λ (k : ℕ). IsTrue (is_built_at k q.body)) start (all_built 0 (block_procs named numbers b) (block_bodies b) pairs good_bodies p q (ap (λ (qs : List Proc). slice_get qs p) (sym ep) ∙ e));
    }
