use Rattle.std.proofs.Common.{sym, ◌∙◌, ap}
use Rattle.cw_unit.specs.Scales.{natural_scale}
use Rattle.cw_unit.proofs.Equations.{natural_scale-Read, natural_scale-Sum, natural_scale-Less, natural_scale-Times, natural_scale-Over, natural_scale-Choice, two_scales}
use Rattle.cw_unit.proofs.scales.+natural_scale.Goals as goal

pub returns-in-Read : goal.returns-in-Read
returns-in-Read t c =
    ap (λ r. r.f) c.get.ensures ∙ sym (natural_scale-Read c.args.unit.now c.in-Read.reference) ∙ sym (ap (natural_scale c.args.unit.now) c.in-Read.is)

pub returns-in-Sum : goal.returns-in-Sum
returns-in-Sum t c =
    two_scales c.args.unit.now (natural_scale-Sum c.args.unit.now c.in-Sum.a c.in-Sum.b) c.in-Sum.is c.max.ensures
    c.natural_scale-in-Sum.ensures
    c.get-in-Sum.ensures
    c.natural_scale-in-Sum-2.ensures
    c.get-in-Sum-2.ensures

pub returns-in-Less : goal.returns-in-Less
returns-in-Less t c =
    two_scales c.args.unit.now (natural_scale-Less c.args.unit.now c.in-Less.a c.in-Less.b) c.in-Less.is c.max-in-Less.ensures
    c.natural_scale-in-Less.ensures
    c.get-in-Less.ensures
    c.natural_scale-in-Less-2.ensures
    c.get-in-Less-2.ensures

pub returns-in-Times : goal.returns-in-Times
returns-in-Times t c =
    two_scales c.args.unit.now (natural_scale-Times c.args.unit.now c.in-Times.a c.in-Times.b) c.in-Times.is c.max-in-Times.ensures
    c.natural_scale-in-Times.ensures
    c.get-in-Times.ensures
    c.natural_scale-in-Times-2.ensures
    c.get-in-Times-2.ensures

pub returns-in-Over : goal.returns-in-Over
returns-in-Over t c =
    two_scales c.args.unit.now (natural_scale-Over c.args.unit.now c.in-Over.a c.in-Over.b) c.in-Over.is c.max-in-Over.ensures
    c.natural_scale-in-Over.ensures
    c.get-in-Over.ensures
    c.natural_scale-in-Over-2.ensures
    c.get-in-Over-2.ensures

pub returns-in-Choice : goal.returns-in-Choice
returns-in-Choice t c =
    two_scales c.args.unit.now (natural_scale-Choice c.args.unit.now c.in-Choice._test c.in-Choice.a c.in-Choice.b) c.in-Choice.is c.max-in-Choice.ensures
    c.natural_scale-in-Choice.ensures
    c.get-in-Choice.ensures
    c.natural_scale-in-Choice-2.ensures
    c.get-in-Choice-2.ensures
