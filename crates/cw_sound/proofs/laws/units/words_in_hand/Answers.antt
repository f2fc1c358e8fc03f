-- The words in hand of a text's bodies.
use Rattle.cw_sound.proofs.Need.Texts.{block_words, procedure_words}
use Rattle.cw_sound.proofs.laws.units.words_in_hand.Goals as goal

pub returns-clause-block : goal.returns-clause-block
returns-clause-block c n ts raw named numbers d few = block_words named numbers few n ts raw d

pub returns-clause-procedures : goal.returns-clause-procedures
returns-clause-procedures c n ts raw named numbers x d few i = procedure_words named numbers few n ts raw x d i
