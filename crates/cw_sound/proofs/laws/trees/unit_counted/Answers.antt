-- A text that is derived is in normal form.
use Rattle.cw_sound.proofs.Tokens.Statements.{unit_least}
use Rattle.cw_grammar.specs.Tokens.{numbered}
use Rattle.cw_sound.proofs.laws.trees.unit_counted.Goals as goal

pub returns : goal.returns
returns c n ts named d = unit_least named (c.in_normal_form.ensures.text n (numbered 1 ts) named.raw.now d).normal
