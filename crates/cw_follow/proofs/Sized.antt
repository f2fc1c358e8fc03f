-- Each piece of code has a byte.
use Rattle.std.proofs.Common.{◌<◌, lit<}
use Rattle.cw_tmpl.specs.declared.pieces.Coded.{Coded}
use Rattle.cw_tmpl.specs.declared.pieces.Coded.TheVariants as coded
use Rattle.cw_tmpl.specs.Pieces.{size_of}
use Rattle.cw_run86.proofs.Sizes.{some_bytes}

pub piece_some : (p : Coded) → 0 < size_of p
piece_some (coded.Whole i) = some_bytes i
piece_some _ = lit< tt
