use Rattle.cw_word.proofs.ManyPlaces.{down_signed_is, down_signed_fits, pair_down, pair_up, upper_is, floor_div-twice}
use Rattle.cw_word.proofs.laws.many_places.Goals as goal

pub returns : goal.returns
returns c = record {
  down = down_signed_is;
  down_fits = down_signed_fits;
  pair_down = pair_down;
  pair_up = pair_up;
  upper = upper_is;
  again = floor_div-twice;
}
