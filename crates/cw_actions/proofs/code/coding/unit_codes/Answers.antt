use Rattle.std.proofs.Common.{sym, subst}
use Rattle.std.proofs.lemmas.List.Elements.{All-get_or}
use Rattle.cw_build.specs.Compiled.{IsCompilable}
use Rattle.cw_actions.proofs.Coding.{one_code}
use Rattle.cw_actions.proofs.code.coding.unit_codes.Goals as goal

pub unit_code-requires-clause-compiled : goal.unit_code-requires-clause-compiled
unit_code-requires-clause-compiled c =
    subst IsCompilable (sym c.index-units-k.is) (All-get_or IsCompilable c.args.units.now c.loop-k.k c.index-units-k.result c.loop-k-test.true c.requires.compiled)

pub loop-k-preserved : goal.loop-k-preserved
loop-k-preserved c =
    one_code c.args.units.now c.loop-k.k c.index-units-k.result c.in_ok-code.code c.loop-k.codes c.push.new.self c.loop-k-test.true c.index-units-k.is c.in_ok-code.ensures
    c.in_ok-push.ensures.ok c.loop-k.invariant
