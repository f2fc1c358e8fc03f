use Rattle.cw_scope.proofs.Outermost.{some_facts, last_block}
use Rattle.cw_scope.proofs.resolve.Named.block_facts.Goals as goal

pub overflow_sub-result : goal.overflow_sub-result
overflow_sub-result c = some_facts c.as_slice-facts.result.now c.args.self.now.facts c.args.self.now.raw.now c.as_slice-facts.ensures c.args.self.now.gathered

pub returns : goal.returns
returns c = last_block c.as_slice-facts.result.now c.args.self.now.facts c.args.self.now.raw.now c.as_slice-facts.ensures c.args.self.now.gathered
