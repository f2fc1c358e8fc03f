use Rattle.std.proofs.Common.{◌≡◌, ◌+◌, Some, length, sym, subst, ◌∙◌}
use Rattle.std.specs.List.{flat_map}
use Rattle.cw_macro.specs.declared.definition.Piece.{Piece}
use Rattle.cw_macro.specs.Expansion.{tokens_of}
use Rattle.cw_macro.specs.Views.{lists_of, parts_of, within_limit}
use Rattle.cw_macro.proofs.Pieces.{brings_none, same_count}
use Rattle.cw_macro.proofs.expansion.count_piece.Goals as goal

pub returns-then-brings_nothing : goal.returns-then-brings_nothing
returns-then-brings_nothing c =
    let run = c.in-Parameters.parameters in
    let args = lists_of c.args.arguments.now in
    let P : Piece → Type 0 = λ p. Some c.args.count ≡ within_limit (c.args.count + length (flat_map (tokens_of args) (parts_of p))) in
    subst P (sym c.in-Parameters.is) (same_count c.args.count _ c.requires (brings_none args run.numbers run.picks (sym c.brings_nothing.ensures ∙ c.if-brings_nothing.true)))
