-- A list in brackets, or none.
use Rattle.std.proofs.Common.{◌∙◌, sym, refl}
use Rattle.cw_series.proofs.lists.read_listed.Goals as goal

pub returns-then-next_is : goal.returns-then-next_is
returns-then-next_is g c item p =
    let told = sym c.next_is.ensures ∙ c.if-next_is.true in
    rw told (c.read_bracketed.ensures item p)

pub returns : goal.returns
returns g c item p =
    let told = sym c.next_is.ensures ∙ c.if-next_is.false in
    rw (told, c.new.ensures) refl
