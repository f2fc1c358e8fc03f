use Rattle.std.proofs.Common.{◌<◌, ℕ, List, [], ◌∷◌, arith, lit<}
use Rattle.std.specs.Prelude.{All, slice_index}
use Rattle.cw_routines.specs.Results.{Quiet}
use Rattle.cw_routines.proofs.Begins.{enters, leaves_it, reads_byte}
use Rattle.cw_routines.proofs.Frames.{begins_framed}
use Rattle.cw_routines.proofs.laws.calls.Goals as goal

first_byte : (input : List ℕ) → All (λ b. b < 256) input → slice_index input 0 < 256
first_byte [] bytes = lit< tt
first_byte (b ∷ input) bytes = bytes 0 0 (omega arith)

pub returns : goal.returns
returns c =
    let finds = c.fetching.ensures.finds in
    record {
      enter = λ quiet code stands library m at line r segment calls base rest number size ax cx bx bp si area flags cells stack input told p low there words names small few byte size_small rest_low area_low i s.
          enters finds (Quiet quiet) code stands library m at line r segment calls base rest number size low there words names small few byte size_small rest_low area_low i s;
      beginning = λ quiet code stands library at size place number by there named silent h m line r segment calls base rest ax cx bx bp si area flags cells stack input told p low names few byte size_small rest_low area_low i s.
          begins_framed finds (Quiet quiet) code stands library m at line r segment calls base rest number size place by low names few byte size_small rest_low area_low i there named silent h s;
      leaving = λ quiet code at words silent h b caller back ax cx dx bx sp si di flags cells stack input told p low c r small s.
          leaves_it finds (Quiet quiet) code at b words caller back low c r small h silent s;
      read = λ quiet code stands library n back ax cx dx bx bp si area flags cells stack input told p bytes low there small s.
          reads_byte finds (Quiet quiet) code stands library n back input (first_byte input bytes) low there small s;
    }
