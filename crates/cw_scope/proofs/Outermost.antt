-- The outermost block is the last of the facts of a text.
use Rattle.std.proofs.Common.{◌≡◌, ◌≤◌, ℕ, ◌+◌, ◌-◌, List, [], ◌∷◌, ◌++◌, length, take, drop, true, refl, sym, ap, ◌∙◌, subst, arith, length-append}
use Rattle.std.proofs.Math.Seq.{drop-append_seam}
use Rattle.cw_tree.specs.declared.segment.Raw.{Raw}
use Rattle.cw_tree.specs.declared.statement.RawBlock.{RawBlock}
use Rattle.cw_tree.specs.declared.statement.RawDecl.TheFolds.{fold_out-RawBlock}
use Rattle.cw_facts.specs.declared.fact.Fact.{Fact}
use Rattle.cw_facts.specs.declared.fact.Fact.TheVariants as fact
use Rattle.cw_facts.specs.Facts.{BlockFacts, declaration_step, form_step, simple_step, block_step, procedure_step, statement_step, block_facts}
use Rattle.cw_facts.specs.Text.{communicators_facts}
use Rattle.cw_scope.specs.Gathered.{Gathers}

one_block : (b : RawBlock) → (f : Fact) × (block_facts b true ≡ f ∷ [])
one_block b = (_, ap (λ (facts : BlockFacts). facts true) (fold_out-RawBlock (List Fact) (List Fact) (List Fact) BlockFacts (List Fact) (List Fact) declaration_step form_step simple_step block_step procedure_step statement_step b))

last_of : {A : Type 0} → (before : List A) (x : A) (n : ℕ) → n ≡ length before + 1 → take (n - (n - 1)) (drop (n - 1) (before ++ x ∷ [])) ≡ x ∷ []
last_of before x n e =
    let there : n - 1 ≡ length before = omega arith in
    let one : n - length before ≡ 1 = omega arith in
    rw there (rw one (ap (take 1) (drop-append_seam before (x ∷ []))))

module _ (items facts : List Fact) (raw : Raw) (same : items ≡ facts) (gathered : Gathers facts raw) where
  parted : items ≡ communicators_facts raw.comms ++ (one_block raw.block).0 ∷ []
  unfolding Gathers
  parted = same ∙ gathered ∙ ap (λ block. communicators_facts raw.comms ++ block) (one_block raw.block).1

  counted : length items ≡ length (communicators_facts raw.comms) + 1
  counted = ap length parted ∙ length-append (communicators_facts raw.comms) ((one_block raw.block).0 ∷ [])

  pub some_facts : 1 ≤ length items
  some_facts = let n = counted in omega (arith, n)

  pub last_block : take (length items - (length items - 1)) (drop (length items - 1) items) ≡ block_facts raw.block true
  last_block =
      ap (λ all. take (length items - (length items - 1)) (drop (length items - 1) all)) parted
      ∙ last_of (communicators_facts raw.comms) (one_block raw.block).0 (length items) counted ∙ sym (one_block raw.block).1
