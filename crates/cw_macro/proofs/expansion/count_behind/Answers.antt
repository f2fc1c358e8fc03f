use Rattle.std.proofs.Common.{ℕ, length, arith, ap}
use Rattle.std.specs.List.{flat_map}
use Rattle.cw_macro.specs.declared.definition.Piece.{Piece}
use Rattle.cw_macro.specs.Expansion.{tokens_of}
use Rattle.cw_macro.specs.Views.{lists_of, parts_of}
use Rattle.cw_macro.proofs.Pieces.{more_than, is_over, over_told}
use Rattle.cw_macro.proofs.expansion.count_behind.Goals as goal

pub returns-in-None : goal.returns-in-None
returns-in-None c =
    let size : Piece → ℕ = λ p. length (flat_map (tokens_of (lists_of c.args.arguments.now)) (parts_of p)) in
    is_over _ (omega (
      arith,
      c.loop-piece.invariant.same,
      over_told _ c.in-None.ensures,
      ap size c.piece-item.is,
      more_than (tokens_of (lists_of c.args.arguments.now)) parts_of c.args.body.now c.loop-piece.piece-index c.piece-item.result c.loop-piece-test.true,
    ))
