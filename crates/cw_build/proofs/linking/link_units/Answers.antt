use Rattle.std.proofs.Common.{length, ap, sym, ◌∙◌, subst, arith}
use Rattle.std.proofs.lemmas.List.{length-map}
use Rattle.std.specs.Prelude.{All}
use Rattle.cw_view.specs.ObjectFormat.{IsObject}
use Rattle.cw_build.specs.Compiled.{object_of}
use Rattle.cw_build.proofs.Objects.{all-objects, answers}
use Rattle.cw_build.proofs.linking.link_units.Goals as goal

pub link_objects-requires-clause-few : goal.link_objects-requires-clause-few
link_objects-requires-clause-few g c =
    let same = ap length c.requires.0 ∙ length-map g.us object_of in
    omega (arith, same, c.requires.1.1.0)

pub link_objects-requires-clause-opened : goal.link_objects-requires-clause-opened
link_objects-requires-clause-opened g c = subst (All IsObject) (sym c.requires.0) (all-objects c.object_of_unit.ensures g.us c.requires.1.0)

pub returns : goal.returns
returns g c = answers c.object_of_unit.ensures g.us c.args.objects.now c.args.limits.now c.link_objects.result c.requires.0 c.requires.1.0 c.link_objects.ensures
