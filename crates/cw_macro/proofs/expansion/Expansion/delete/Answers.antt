use Rattle.std.proofs.Common.{Bool, ◌&&◌, ap, ap₂, sym, ◌∙◌}
use Rattle.cw_macro.specs.Expansion.{Definitions, Moved}
use Rattle.cw_macro.specs.Views.{leveled, left_of, expansion_of, moves}
use Rattle.cw_macro.proofs.Steps.{deleted_is}
use Rattle.cw_macro.proofs.expansion.Expansion.delete.Goals as goal

pub returns : goal.returns
returns c =
    let e = expansion_of c.args.self.now in
    let left = left_of c.take_pair.new.self in
    let form = ap₂ (λ (a b : Bool). a && b) (sym c.is_name.ensures ∙ c.if-not-is_name.false) (sym c.is_semicolon.ensures ∙ c.if-not-is_semicolon.false) in
    let is = deleted_is e c.args.line e.left left (leveled c.in-Some.name) (leveled c.in-Some.mark) c.in-Some.ensures form (sym c.remove.ensures.found ∙ c.if-not-remove.false) in
    moves (is ∙ ap (λ (d : Definitions). Moved (record e { definitions = d; left = left })) (sym c.remove.ensures.removed))
