use Rattle.cw_lex.specs.Lexical.{view}
use Rattle.cw_macro.specs.Premises.{IsWithin}
use Rattle.cw_macro.proofs.Lists.{each_at_map}
use Rattle.cw_macro.proofs.definition.pieces.Goals as goal

pub parameter_number-number-requires : goal.parameter_number-number-requires
parameter_number-number-requires c = each_at_map IsWithin view c.args.tokens.now c.loop-token.token-index _ c.loop-token-test.true c.requires
