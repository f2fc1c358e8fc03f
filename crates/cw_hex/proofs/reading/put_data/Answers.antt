use Rattle.std.proofs.Common.{◌≡◌, ◌+◌, ◌<◌, ◌∙◌, ap, arith, length}
use Rattle.cw_hex.specs.HexFormat.{bytes_of, word_of, data_of, place_of, length_of}
use Rattle.cw_hex.proofs.Data.{put_step, length-data, datum}
use Rattle.cw_hex.proofs.reading.put_data.Goals as goal

pub loop-i-preserved : goal.loop-i-preserved
loop-i-preserved c =
    let bytes = bytes_of c.args.digits.now in
    let inside : c.loop-i.i < length_of bytes = omega (arith, c.byte-i-end.ensures, c.loop-i-test.true) in
    let within : c.loop-i.i < length (data_of bytes) = omega (arith, inside, length-data c.args.digits.now c.requires) in
    let address : c.from-first.result + c.from.result ≡ word_of bytes 1 + c.loop-i.i = omega (arith, c.from-first.ensures, c.from.ensures, c.word.ensures) in
    put_step c.args.base (word_of bytes 1) c.loop-i.i (data_of bytes) c.loop-i.cpu c.put_byte.new.self _ c.place-address.result c.byte.result
    within
    (c.place-address.ensures.is ∙ ap (place_of c.args.base) address)
    (rw (c.byte.ensures, c.from-in-loop-i.ensures) (datum bytes c.loop-i.i inside))
    c.put_byte.ensures
    c.loop-i.invariant
