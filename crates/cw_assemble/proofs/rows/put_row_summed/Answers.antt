use Rattle.std.proofs.Common.{◌∷◌, []}
use Rattle.cw_tmpl.specs.declared.pieces.Coded.TheVariants as coded
use Rattle.cw_assemble.proofs.Composed.{◌⨟◌, by_same}
use Rattle.cw_assemble.proofs.rows.put_row_summed.Goals as goal

pub returns : goal.returns
returns c = let all = c.put_entry_formed.ensures ⨟ by_same (λ i. coded.Whole i ∷ []) c.add.ensures c.put_all.ensures in all
