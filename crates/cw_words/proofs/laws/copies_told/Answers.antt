use Rattle.cw_words.proofs.Copies.{told}
use Rattle.cw_words.proofs.laws.copies_told.Goals as goal

pub returns : goal.returns
returns c = record {
  copies = λ words parts are. (told words parts are).copies;
  stop = λ words parts are. (told words parts are).stop;
}
