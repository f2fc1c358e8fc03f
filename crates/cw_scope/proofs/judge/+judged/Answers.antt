use Rattle.std.proofs.Common.{◌++◌, map, refl, ap, ◌∙◌}
use Rattle.cw_scope.proofs.Keeping.{next_said, first_goes_on, resolved_goes_on, declares_first, declares_resolved, uses_first, uses_resolved, block_first, block_resolved, left}
use Rattle.cw_scope.specs.NameRules.{said, all_faults, all_resolved}
use Rattle.cw_scope.proofs.judge.+judged.Goals as goal

pub judge_facts-loop-fact-preserved : goal.judge_facts-loop-fact-preserved
judge_facts-loop-fact-preserved t c =
    let next = next_said c.args.facts.now c.loop-fact.fact-index c.fact-item.result c.loop-fact-test.true c.fact-item.is in
    let blocks = c.loop-fact.invariant.blocks in
    let step = c.in_ok-judge_fact.ensures in
    record {
      blocks = step.blocks ∙ blocks;
      first = first_goes_on c.args.blocks.now.items c.loop-fact.blocks.items _ _ (said c.fact-item.result) blocks next c.loop-fact.findings.first c.judge_fact.new.findings.first _ step.first c.loop-fact.invariant.first;
      resolved = resolved_goes_on c.args.blocks.now.items c.loop-fact.blocks.items _ _ (said c.fact-item.result) blocks next c.loop-fact.findings.resolved c.judge_fact.new.findings.resolved _ step.resolved c.loop-fact.invariant.resolved;
    }

pub judge_fact-returns-in-Declares : goal.judge_fact-returns-in-Declares
judge_fact-returns-in-Declares t c =
    let f = c.args.fact.now in
    let env = c.args.blocks.now.items in
    let now = c.as_slice.result.now in
    let d = c.in-Declares.declaration in
    let one = c.get.result.now in
    record {
      blocks = refl;
      first = declares_first f env now c.as_slice.ensures.value d one c.in-Declares.is c.get.ensures _ _ c.judge_declaration.ensures.first;
      resolved = declares_resolved f env now c.as_slice.ensures.value d one c.in-Declares.is c.get.ensures _ _ c.judge_declaration.ensures.resolved;
    }

pub judge_fact-returns-in-Uses-clause-first : goal.judge_fact-returns-in-Uses-clause-first
judge_fact-returns-in-Uses-clause-first t c =
    rw (uses_first c.args.fact.now c.args.blocks.now.items c.as_slice-in-Uses.result.now c.as_slice-in-Uses.ensures.value c.in-Uses.usage _ c.in-Uses.is c.declaration_of-found.ensures c.args.findings.now.first)
    at c.judge_use.ensures.first

pub judge_fact-returns-in-Uses-clause-resolved : goal.judge_fact-returns-in-Uses-clause-resolved
judge_fact-returns-in-Uses-clause-resolved t c =
    rw (uses_resolved c.args.fact.now c.args.blocks.now.items c.as_slice-in-Uses.result.now c.as_slice-in-Uses.ensures.value c.in-Uses.usage _ c.in-Uses.is c.declaration_of-found.ensures c.args.findings.now.resolved)
    at c.judge_use.ensures.resolved

pub judge_fact-returns-in-Block-clause-first : goal.judge_fact-returns-in-Block-clause-first
judge_fact-returns-in-Block-clause-first t c =
    rw (block_first c.args.fact.now c.args.blocks.now.items c.in-Block.field-0 c.in-Block.inner c.as_slice-in-Block.result.now c.in-Block.is c.as_slice-in-Block.ensures c.args.findings.now.first)
    at c.judge_block.ensures.first

pub judge_fact-returns-in-Block-clause-resolved : goal.judge_fact-returns-in-Block-clause-resolved
judge_fact-returns-in-Block-clause-resolved t c =
    rw (block_resolved c.args.fact.now c.args.blocks.now.items c.in-Block.field-0 c.in-Block.inner c.as_slice-in-Block.result.now c.in-Block.is c.as_slice-in-Block.ensures c.args.findings.now.resolved)
    at c.judge_block.ensures.resolved

pub judge_block-returns : goal.judge_block-returns
judge_block-returns t c =
    let xs = map said c.args.facts.now in
    let inside = c.in_ok-enter.ensures in
    let judged = c.in_ok-judge_facts.ensures in
    record {
      blocks = c.truncate.ensures.items ∙ left c.args.blocks.now.items c.enter.new.blocks.items c.judge_facts.new.blocks.items xs c.len-outer.result (c.len-outer.ensures ∙ c.args.blocks.now.ok.0) inside judged.blocks;
      first = judged.first ∙ ap (λ env. all_faults env xs c.args.findings.now.first) inside;
      resolved = judged.resolved ∙ ap (λ env. c.args.findings.now.resolved ++ all_resolved env xs) inside;
    }
