use Rattle.std.proofs.Common.{◌≤◌, length, sym, subst, arith}
use Rattle.std.specs.declared.result.Result.TheVariants.{Ok}
use Rattle.cw_tree.specs.declared.segment.Raw.{Raw}
use Rattle.cw_scope.specs.Outcome.{Resolves}
use Rattle.cw_make.specs.Made.{unit_of}
use Rattle.cw_sound.specs.Units.TreeFits.{TreeFits}
use Rattle.cw_sound.specs.Ready.Lined.{PositionsFit}
use Rattle.cw_sound.proofs.laws.units.unit_ready.Goals as goal

pub returns : goal.returns
returns c raw named resolves fine fits positions =
    let own = subst (λ (x : Raw). Resolves x (Ok named)) (sym resolves.1) resolves in
    let tree = subst TreeFits (sym resolves.1) fits in
    let at = subst PositionsFit (sym resolves.1) positions in
    let items = c.items_declared.ensures named own (c.items_stand.ensures raw named resolves fine fits.rising fits.plain) in
    let few = c.definitions.ensures.few named tree.rising in
    record {
      tokens = at.tokens;
      descriptors = (let z : length (unit_of named).descs ≤ 65536 = omega (arith, few) in z);
      body = c.lines.ensures.body named at;
      procedures = c.lines.ensures.procedures named at;
      goals = c.goals.ensures named own tree.placed items;
      defined = c.definitions.ensures.rising named tree.rising;
    }
