use Rattle.std.proofs.Common.{◌++◌, drop, length}
use Rattle.cw_tmpl.specs.Pieces.{AllCoded, blanks, relocations}
use Rattle.cw_tmpl.proofs.Growing.{Coming}
use Rattle.cw_tmpl.proofs.assembling.Assembly.put_all.Given as goal

abbrev pub invariant-loop-piece : goal.invariant-loop-piece
invariant-loop-piece l = record {
  coded : AllCoded (drop l.piece-index l.pieces);
  coming : Coming l.self (drop l.piece-index l.pieces) (l.initial.self.bytes ++ blanks l.pieces) (l.initial.self.relocs ++ relocations (length l.initial.self.bytes) l.pieces);
}
