use Rattle.std.proofs.Common.{◌≡◌, sym, refl, ◌∙◌, rules}
use Rattle.cw_show.proofs.Adding.{bytes_in_order, bytes_become}
use Rattle.cw_show.proofs.leaf.put_digits.Goals as goal

pub returns-then-places-eq0 : goal.returns-then-places-eq0
returns-then-places-eq0 c =
    let none : c.args.number.now.places ≡ 0 = sym c.places.ensures.value ∙ c.if-places-eq0.true in
    bytes_become c.put_decimal.ensures (rw (c.whole.ensures.value, none) refl)

pub returns : goal.returns
returns c = bytes_become (bytes_in_order c.put_decimal.ensures (bytes_in_order c.put.ensures c.put_fraction.ensures)) (search rules)
