use Rattle.std.proofs.Common.{Option, refl, subst}
use Rattle.cw_macro.specs.Expansion.{Macro, naming}
use Rattle.cw_macro.specs.Views.{IsFaultOf, expansion_of, leveled}
use Rattle.cw_macro.proofs.expansion.Expansion.name.Goals as goal

pub returns-in-Err : goal.returns-in-Err
returns-in-Err c =
    let e = expansion_of c.args.self.now in
    let P : Option Macro → Type 0 = λ o. IsFaultOf (naming e (leveled c.args.item) o e.left) c.in-Err.fault in
    subst P c.in-Some.ensures (c.in-Err.ensures e refl)
