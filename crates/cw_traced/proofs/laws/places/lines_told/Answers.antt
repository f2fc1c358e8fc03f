-- The object of a unit tells the statements of its code, and that tells their lines.
use Rattle.cw_traced.proofs.Places.Told.{is-told, lines-in}
use Rattle.cw_traced.proofs.laws.places.lines_told.Goals as goal

pub returns : goal.returns
returns c =
    let object = c.object_written.ensures in
    lines-in (is-told c.writable.ensures c.object_of_unit.ensures object.format object.tells) c.lines_of_code.ensures
