use Rattle.cw_routines.proofs.laws.word_laws.Goals as goal

pub returns : goal.returns
returns c = record {
  words = record { signed_is = c.readings.ensures.signed_is; unsigned_fits = c.readings.ensures.unsigned_fits; back = c.readings.ensures.back; forth = c.readings.ensures.forth; sum = c.sums.ensures.sum };
  product_fits = c.products.ensures.product_fits;
  high = c.products.ensures.high;
  low = c.products.ensures.low;
  halves = c.products.ensures.halves;
  pair_fits = c.products.ensures.fits;
  pair_value = c.products.ensures.value;
  quotient_up = c.quotients.ensures.up;
  quotient_down = c.quotients.ensures.down;
  quotient_fits = c.quotients.ensures.fits;
  quotient_value = c.quotients.ensures.value;
  divides = c.quotients.ensures.divides;
  scaled_down = c.scaling.ensures.down;
  down_fits = c.many_places.ensures.down_fits;
  pair_down = c.many_places.ensures.pair_down;
  pair_up = c.many_places.ensures.pair_up;
}
