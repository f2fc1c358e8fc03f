-- The words of the records of a unit: no procedure has more than 255 control parameters, by the numbers that these have.
use Rattle.std.proofs.Common.{◌≡◌, inl, inr, ℕ, ◌+◌, ◌*◌, ◌<◌, ◌≤◌, max, List, [], ◌∷◌, map, Bool, true, false, if◌then◌else◌, refl, sym, subst, arith}
use Rattle.cw_tree.specs.declared.statement.RawBlock.{RawBlock}
use Rattle.cw_tree.specs.declared.statement.RawProc.{out-RawProc}
use Rattle.cw_facts.specs.declared.fact.Fact.{Fact}
use Rattle.cw_scope.specs.declared.resolve.Named.{Named}
use Rattle.cw_number.specs.Numbers.{next_byte}
use Rattle.cw_make_items.specs.Lookup.{Numbers}
use Rattle.cw_make_stmt.specs.Made.{statement_of, block_of}
use Rattle.cw_make.specs.Procedures.{params_of, is_control, controls_from, block_procs}
use Rattle.cw_unit.specs.declared.unit.Param.{Param}
use Rattle.cw_unit.specs.declared.unit.Proc.{Proc}
use Rattle.cw_unit.specs.declared.unit.Stmt.{Stmt}
use Rattle.cw_unit.specs.StackBound.{body_depth, body_need, procedures_need}
use Rattle.cw_sound.specs.Uses.Mentions.{In}
use Rattle.cw_sound.specs.Statements.Bodies.{Body, Bodies, block_bodies}
use Rattle.cw_sound.proofs.Names.Parts.{Switches, Part, both, block, procedure, more}
use Rattle.cw_sound.proofs.Names.TreeParts.{block_parts}
use Rattle.cw_sound.proofs.Need.Rules.{Each}
use Rattle.cw_sound.proofs.Need.Trees.{each_append}

-- ---- control parameters

next_within : (n : ℕ) → n ≤ 255 → next_byte n ≤ 255
next_within n h = omega arith

counted_within : (b : Bool) (n : ℕ) → n ≤ 255 → (if b then next_byte n else n) ≤ 255
counted_within true n h = next_within n h
counted_within false n h = h

controls_within : (n : ℕ) (xs : List Param) → n ≤ 255 → controls_from n xs ≤ 255
controls_within n [] h = h
controls_within n (x ∷ xs) h = controls_within (if is_control x then next_byte n else n) xs (counted_within (is_control x) n h)

abbrev HasFew : Proc → Type 0
HasFew q = q.specials ≤ 255

module _ (named : Named) (numbers : Numbers) where
  few_controls : {fs : List Fact} {ws : Switches} {qs : List Proc} {s : ℕ → Bool} → Part named numbers fs ws qs s → Each HasFew qs
  few_controls (both {ps = ps} {qs = qs} a b) = each_append HasFew ps qs (few_controls a) (few_controls b)
  few_controls (block a) = few_controls a
  few_controls (procedure p a) = (controls_within 0 (params_of numbers (out-RawProc p).params) (omega arith), few_controls a)
  few_controls (more h a) = few_controls a
  few_controls _ = tt

  -- ---- records

  record_within : (c d k : ℕ) → c ≤ 255 → d ≤ k → 8 + 3 * c + 2 * d ≤ 773 + 2 * k
  record_within c d k h l = omega (arith, h, l)

  largest_within : (a b k : ℕ) → a ≤ k → b ≤ k → max a b ≤ k
  largest_within a b k h l = omega (arith, h, l)

  all_within : (k : ℕ) (qs : List Proc) (bs : Bodies) → map (λ (q : Proc). q.body) qs ≡ map (λ (x : Body). statement_of named numbers x.statement) bs → Each HasFew qs → ((x : Body) → In x bs → body_depth (statement_of named numbers x.statement) ≤ k) → procedures_need qs ≤ 773 + 2 * k
  all_within k [] bs e few h = omega arith
  all_within k (q ∷ qs) [] e few h = absurd (cc)
  all_within k (q ∷ qs) (x ∷ xs) e few h =
      let same : q.body ≡ statement_of named numbers x.statement = cc in
      let rest : map (λ (q : Proc). q.body) qs ≡ map (λ (x : Body). statement_of named numbers x.statement) xs = cc in
      let d : body_depth q.body ≤ k = subst (λ (s : Stmt). body_depth s ≤ k) (sym same) (h x (inl refl)) in
      largest_within (body_need q.specials q.body) (procedures_need qs) (773 + 2 * k) (record_within q.specials (body_depth q.body) k few.0 d) (all_within k qs xs rest few.1 (λ z i. h z (inr i)))

  unit_words : (n a b : ℕ) → n ≤ 64 → a ≤ 8 + 3 * 0 + 2 * (72 * n + 7) → b ≤ 773 + 2 * (72 * n + 7) → max a b < 65536
  unit_words n a b h k l = omega (arith, h, k, l)

  pub unit_within : (n : ℕ) (b : RawBlock) → n ≤ 64 → body_depth (block_of named numbers b) ≤ 72 * n + 7 → ((x : Body) → In x (block_bodies b) → body_depth (statement_of named numbers x.statement) ≤ 72 * n + 7)
      → map (λ (q : Proc). q.body) (block_procs named numbers b) ≡ map (λ (x : Body). statement_of named numbers x.statement) (block_bodies b)
      → max (body_need 0 (block_of named numbers b)) (procedures_need (block_procs named numbers b)) < 65536
  unit_within n b h d hs same =
      let k : ℕ = 72 * n + 7 in
      unit_words n (body_need 0 (block_of named numbers b)) (procedures_need (block_procs named numbers b)) h (own (body_depth (block_of named numbers b)) k d)
      (all_within k (block_procs named numbers b) (block_bodies b) same (few_controls (block_parts named numbers b true)) hs)
    where
      own : (d k : ℕ) → d ≤ k → 8 + 3 * 0 + 2 * d ≤ 8 + 3 * 0 + 2 * k
      own d k g = omega (arith, g)
