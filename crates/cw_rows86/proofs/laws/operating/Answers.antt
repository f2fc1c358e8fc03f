use Rattle.cw_rows86.proofs.Operating.{into, onto, number, number_onto, byte_onto, negate}
use Rattle.cw_rows86.proofs.laws.operating.Goals as goal

pub returns : goal.returns
returns c =
    let finds = c.fetching.ensures.finds in
    record { into = into finds; onto = onto finds; number = number finds; number_onto = number_onto finds; byte_onto = byte_onto finds; negate = negate finds }
