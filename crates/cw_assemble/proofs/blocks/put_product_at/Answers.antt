use Rattle.std.proofs.Common.{◌∷◌, []}
use Rattle.cw_tmpl.specs.declared.pieces.Coded.TheVariants as coded
use Rattle.cw_tmpl.specs.Templates.{load_place}
use Rattle.cw_assemble.proofs.Composed.{◌⨟◌, by_same}
use Rattle.cw_assemble.proofs.blocks.put_product_at.Goals as goal

pub returns : goal.returns
returns c =
    let last = by_same (λ i. load_place c.args.place ∷ coded.Whole i ∷ []) c.multiply.ensures (by_same (λ p. p ∷ coded.Whole c.multiply.result ∷ []) c.load_place.ensures.value c.put_all-2.ensures) in
    let all = by_same (λ i. coded.Whole i ∷ []) c.copy.ensures c.put_all.ensures ⨟ c.put_address.ensures ⨟ last in
    all
