use Rattle.std.proofs.Common.{◌≡◌, ◌++◌, List, map, sym, subst, ◌∙◌, ap}
use Rattle.cw_macro.specs.declared.definition.Piece.{Piece}
use Rattle.cw_macro.specs.Expansion.{Leveled, brought, replacement}
use Rattle.cw_macro.specs.Views.{left_of, leveled, lists_of, parts_of}
use Rattle.cw_macro.proofs.Pieces.{brings_none}
use Rattle.cw_macro.proofs.expansion.put_piece.Goals as goal

pub returns-then-brings_nothing : goal.returns-then-brings_nothing
returns-then-brings_nothing c =
    let run = c.in-Parameters.parameters in
    let args = lists_of c.args.arguments.now in
    let t = leveled c.args.call in
    let P : Piece → Type 0 = λ p. left_of c.args.left.now ≡ replacement t (parts_of p) args ++ left_of c.args.left.now in
    let none = brings_none args run.numbers run.picks (sym c.brings_nothing.ensures ∙ c.if-brings_nothing.true) in
    subst P (sym c.in-Parameters.is) (ap (λ (z : List Leveled). map (brought t) z ++ left_of c.args.left.now) (sym none))
