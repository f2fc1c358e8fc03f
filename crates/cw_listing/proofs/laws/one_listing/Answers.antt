use Rattle.cw_listing.specs.CodeListing.{notes_of, words_of, data_of}
use Rattle.cw_listing.proofs.Once.{one_text}
use Rattle.cw_listing.proofs.laws.one_listing.Goals as goal

pub returns : goal.returns
returns c = λ code us cs sources text other is also. one_text code (notes_of us cs sources) (words_of us cs) (data_of cs) text other is also
