use Rattle.std.proofs.Common.{◌++◌, drop, ap, ◌∙◌, append_assoc}
use Rattle.cw_gen_unit.specs.ReferenceUnits.{definition_places}
use Rattle.cw_gen_unit.proofs.unit.all_marks.Goals as goal

pub returns : goal.returns
returns c =
    let z = c.args.places.now in
    let e = c.args.entries.now in
    let ds = definition_places z e c.args.defined.now in
    let own = drop c.args.first c.args.made.now in
    c.of.ensures ∙ c.in_ok-extend-3.ensures
    ∙ ap (λ a. a ++ own) (c.in_ok-extend-2.ensures ∙ ap (λ a. a ++ e) (c.in_ok-extend.ensures ∙ ap (λ a. a ++ z) c.in_ok-marks.ensures))
    ∙ append_assoc (ds ++ z) e own
    ∙ append_assoc ds z (e ++ own)
