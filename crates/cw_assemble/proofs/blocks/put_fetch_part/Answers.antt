use Rattle.std.proofs.Common.{◌∷◌, []}
use Rattle.cw_assemble.proofs.Composed.{◌⨟◌, by_same}
use Rattle.cw_assemble.proofs.blocks.put_fetch_part.Goals as goal

pub returns : goal.returns
returns c = let all = c.put_address.ensures ⨟ by_same (λ p. p ∷ []) c.load_place.ensures.value c.put_all.ensures ⨟ c.put_part_taken.ensures in all
