use Rattle.std.proofs.Common.{◌∙◌, refl, inl}
use Rattle.cw_actions.specs.Going.Loads.{beside}
use Rattle.cw_actions.proofs.Going.Loading.{loaded, cut_short}
use Rattle.cw_actions.proofs.go.running.load.Goals as goal

pub returns-in-Ok-write_piece : goal.returns-in-Ok-write_piece
returns-in-Ok-write_piece g c = λ said outside told.
    let a = beside outside (g.S.Sink.held c.args.say.now) (g.S.Sink.faults c.args.say.now) in
    let b = beside outside (g.S.Sink.held c.write_piece.new.sink) (g.S.Sink.faults c.write_piece.new.sink) in
    let is = c.as_slice.ensures.value ∙ (rw c.in-Ok.is at told) in
    loaded c.args.image.now c.as_slice.result.now said a b is c.as_slice-code.result.now c.as_slice-words.result.now c.in-Ok-start.cpu c.as_slice-code.ensures c.as_slice-words.ensures c.in-Ok-start.ensures
    (record { said = c.in-Ok-write_piece.ensures.ok; same = c.in-Ok-write_piece.ensures.ok_faults })

pub returns-in-Ok-start : goal.returns-in-Ok-start
returns-in-Ok-start g c = λ said outside told.
    let a = beside outside (g.S.Sink.held c.args.say.now) (g.S.Sink.faults c.args.say.now) in
    let b = beside outside (g.S.Sink.held c.write_piece.new.sink) (g.S.Sink.faults c.write_piece.new.sink) in
    let is = c.as_slice.ensures.value ∙ (rw c.in-Ok.is at told) in
    let cut = c.in-Err-write_piece.ensures.cut in
    cut_short c.args.image.now c.as_slice.result.now said a b is
    (record { count = cut.0; proper = cut.1; said = cut.2; later = c.in-Err-write_piece.ensures.later; rose = c.in-Err-write_piece.ensures.err; outside = refl })

pub returns-in-Ok : goal.returns-in-Ok
returns-in-Ok g c = λ said outside told. inl (refl, refl)

pub returns : goal.returns
returns g c = λ said outside told. inl (refl, refl)
