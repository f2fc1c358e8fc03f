use Rattle.std.proofs.Common.{[]}
use Rattle.cw_show.specs.ItemTokens.{bounds_tokens, table_with, data_tokens, base_tokens}
use Rattle.cw_show.specs.SegmentTokens.{ips_tokens, ps_tokens, spec_tokens, citem_tokens, aitem_tokens, comm_tokens}
use Rattle.cw_read_back.specs.Trees.UnplacedItems.{unplaced_bounds, unplaced_table, unplaced_data, unplaced_base, unplaced_ips, unplaced_ps, unplaced_spec, unplaced_citem, unplaced_aitem, unplaced_comm}
use Rattle.cw_read_back.proofs.Expressions.Back.{said}
use Rattle.cw_read_back.proofs.Trees.Back.{back}
use Rattle.cw_read_back.proofs.laws.trees.items.Goals as goal

pub returns-clause-bounds : goal.returns-clause-bounds
returns-clause-bounds c p n x marks h ts e = said bounds_tokens unplaced_bounds x (back h) ts e

pub returns-clause-table : goal.returns-clause-table
returns-clause-table c p n x marks h ts e = said (λ t. table_with t []) unplaced_table x (back h) ts e

pub returns-clause-item_data : goal.returns-clause-item_data
returns-clause-item_data c p n x marks h ts e = said data_tokens unplaced_data x (back h).alone ts e

pub returns-clause-base : goal.returns-clause-base
returns-clause-base c p n x marks h ts e = said base_tokens unplaced_base x (back h) ts e

pub returns-clause-ips : goal.returns-clause-ips
returns-clause-ips c p n x marks h ts e = said ips_tokens unplaced_ips x (back h).0 ts e

pub returns-clause-ps : goal.returns-clause-ps
returns-clause-ps c p n x marks h ts e = said ps_tokens unplaced_ps x (back h) ts e

pub returns-clause-spec : goal.returns-clause-spec
returns-clause-spec c p n x marks h ts e = said spec_tokens unplaced_spec x (back h).0 ts e

pub returns-clause-citem : goal.returns-clause-citem
returns-clause-citem c p n x marks h ts e = said citem_tokens unplaced_citem x (back h) ts e

pub returns-clause-aitem : goal.returns-clause-aitem
returns-clause-aitem c p n x marks h ts e = said aitem_tokens unplaced_aitem x (back h) ts e

pub returns-clause-comm : goal.returns-clause-comm
returns-clause-comm c p n x marks h ts e = said comm_tokens unplaced_comm x (back h) ts e
