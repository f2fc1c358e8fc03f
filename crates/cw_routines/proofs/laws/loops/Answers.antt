use Rattle.std.proofs.Common.{◌+◌, ◌<◌, ℕ, arith}
use Rattle.cw_routines.specs.Results.{Quiet}
use Rattle.cw_routines.proofs.Loops.{sets, adds, puts, exhausts}
use Rattle.cw_routines.proofs.NextStep.{goes_on}
use Rattle.cw_routines.proofs.laws.loops.Goals as goal

first_inside : (a area : ℕ) → a + 1 < area → a < area
first_inside a area lt = omega arith

pub returns : goal.returns
returns c =
    let finds = c.fetching.ensures.finds in
    let words = c.word_laws.ensures.words in
    record {
      set_variable = λ quiet code stands library area a line bp n r segment back cx bx si x flags cells stack input told w p fx small h line_small n_low way value back_small record_is s.
          sets finds words (Quiet quiet) code stands library area a line bp n r segment back stack input told small line_small way back_small x fx n_low value record_is w h s;
      add_step = λ quiet code stands library area a line bp n r segment back cx bx si flags cells stack input told w p small h line_small n_low way back_small record_is s.
          adds finds words (Quiet quiet) code stands library area a line bp n r segment back stack input told
          (first_inside a area small) line_small way back_small n_low record_is small w h s;
      put_variable = λ quiet code stands library area a line bp n r segment back cx bx si flags cells stack input told memory p small h line_small n_low way back_small record_is s.
          puts finds words (Quiet quiet) code stands library area a line bp n r segment back stack input told small line_small way back_small n_low record_is memory h s;
      exhausted = λ quiet code stands library area a bp n back cx dx bx si x flags cells stack input told memory p fx small h n_low way value back_small s.
          exhausts finds words (Quiet quiet) code stands library area a bp n back cells stack input told memory x fx small h n_low way value back_small s;
      next_step = λ quiet code stands library area a m line bp n r segment back ax cx dx si flags cells stack input told w p small h line_there line_small n_low way back_small record_is s.
          goes_on finds words (Quiet quiet) code stands library area a m line bp n r segment back dx stack input told small line_there line_small n_low way back_small record_is w h s;
    }
