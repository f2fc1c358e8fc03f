use Rattle.cw_routines.specs.Results.{Quiet}
use Rattle.cw_routines.proofs.Begins.{tests, exchanges}
use Rattle.cw_routines.proofs.ByNumbers.{by_number, quotient_fits}
use Rattle.cw_routines.proofs.laws.pieces.Goals as goal

pub returns : goal.returns
returns c =
    let finds = c.fetching.ensures.finds in
    record {
      quotient = λ code v r x n has fx fn two low high by. by_number c.readings.ensures.back finds code v r x n has fx fn two low high by;
      quotient_fits = λ x n f two. quotient_fits x n f two;
      exchange = λ code v r has. exchanges finds code v r has;
      divisor = λ quiet code at by silent h small ax cx dx bx sp bp si di flags cells stack input told p s. tests finds (Quiet quiet) code at by silent h small s;
    }
