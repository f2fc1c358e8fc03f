-- The tokens of an expansion.
use Rattle.cw_sound.proofs.Presets.Tokens.{expanded_bytes}
use Rattle.cw_sound.proofs.laws.storage.bytes_kept.Goals as goal

pub returns : goal.returns
returns c text tokens expanded h d l = expanded_bytes text tokens expanded h d l
