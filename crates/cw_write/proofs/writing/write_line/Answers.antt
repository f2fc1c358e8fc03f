use Rattle.std.proofs.Common.{◌≡◌, arith, rules}
use Rattle.cw_write.proofs.Said.{line_is_cut}
use Rattle.std.proofs.lemmas.Grind.{common_steps}
use Rattle.cw_io.specs.Bytes.{after_told}
use Rattle.cw_write.specs.Said.{joined}
use Rattle.cw_write.proofs.writing.write_line.Goals as goal

pub returns-in-Err : goal.returns-in-Err
returns-in-Err g c =
    let cut = c.in-Err.ensures.cut in
    record {
      later = search rules;
      ok = search rules;
      ok_faults = search rules;
      cut = line_is_cut _ _ _ c.args.pieces.now c.loop-piece.piece-index cut.0 _ (search rules) c.loop-piece.invariant.held cut.1 cut.2;
      err = search rules;
    }

pub returns : goal.returns
returns g c =
    let whole : g.S.Sink.held c.loop-piece.sink ≡ after_told (g.S.Sink.held c.args.sink.now) (joined c.args.pieces.now) = grind (arith, common_steps) in
    record {
      later = search rules;
      ok = whole;
      ok_faults = search rules;
      cut = tt;
      err = search rules;
    }
