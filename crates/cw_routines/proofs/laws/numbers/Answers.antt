use Rattle.std.proofs.Common.{◌≢◌, ◌≤◌, ◌<◌, ℕ, suc, ℤ, pos, negsuc, refl, sym, ap, ◌∙◌, arith}
use Rattle.cw_word.specs.FixedPoint.{FitsWord, fits_word, scaled_product, scaled_quotient}
use Rattle.cw_word.specs.Word.{signed, unsigned}
use Rattle.cw_routines.specs.Results.{Quiet}
use Rattle.cw_routines.specs.WordLaws.{WordLaws}
use Rattle.cw_routines.proofs.Quotients.{product_comes, down_comes, up_comes}
use Rattle.cw_routines.proofs.laws.numbers.Goals as goal

few_places : (j : ℕ) → j < 15 → suc j ≤ 15
few_places j lt = omega arith

-- the word of a number other than 0
not_zero : (laws : WordLaws) (y : ℤ) → FitsWord y → y ≢ pos 0 → unsigned y ≢ 0
not_zero laws y fy ne e = ne (sym (laws.back y fy) ∙ ap signed e)

pub returns : goal.returns
returns c =
    let finds = c.fetching.ensures.finds in
    let laws = c.word_laws.ensures in
    record {
      product = λ quiet code stands library x y j fx fy few dx si bp n back area flags cells stack input told p low way small s.
          product_comes finds laws (Quiet quiet) code stands library bp n back area cells stack input told low way small x y fx fy j (suc j) refl (few_places j few)
          (fits_word (scaled_product x y (negsuc j))) refl s;
      quotient_down = λ quiet code stands library x y j fx fy ne few dx si bp n back area flags cells stack input told p low way small s.
          down_comes finds laws (Quiet quiet) code stands library bp n back area cells stack input told low way small x y fx fy (not_zero laws.words y fy ne) j (suc j) refl
          (few_places j few) (fits_word (scaled_quotient x y (negsuc j))) refl s;
      quotient_up = λ quiet code stands library x y k fx fy ne few dx si bp n back area flags cells stack input told p low way small s.
          up_comes finds laws (Quiet quiet) code stands library bp n back area cells stack input told low way small x y fx fy (not_zero laws.words y fy ne) k few
          (fits_word (scaled_quotient x y (pos k))) refl s;
    }
