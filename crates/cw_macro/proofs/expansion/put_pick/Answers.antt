use Rattle.std.proofs.Common.{◌≡◌, ℕ, ◌++◌, List, Option, map, refl, sym, subst}
use Rattle.std.specs.Prelude.{OnOk}
use Rattle.std.specs.List.{slice_get}
use Rattle.std.proofs.lemmas.Option.{slice_get_past}
use Rattle.cw_macro.specs.Expansion.{Leveled, brought, replacement}
use Rattle.cw_macro.specs.Views.{left_of, leveled, lists_of, picked}
use Rattle.cw_macro.proofs.Pieces.{one_pick, got}
use Rattle.cw_macro.proofs.expansion.put_pick.Goals as goal

pub returns-in-Some : goal.returns-in-Some
returns-in-Some c =
    let found = c.in-Some.ensures in
    let P : List Leveled → Type 0 = λ z. OnOk c.put_parameter.result (left_of c.put_parameter.new.left ≡ map (brought (leveled c.args.call)) z ++ left_of c.args.left.now) in
    subst P (one_pick (lists_of c.args.arguments.now) (slice_get c.args.numbers.now c.args.pick) c.in-Some.number.now (got c.args.numbers.now c.args.pick c.in-Some.number.now found.lookup.3.0 found.lookup.1)) c.put_parameter.ensures

pub returns-in-None : goal.returns-in-None
returns-in-None c =
    let missing = c.in-None.ensures in
    let P : Option ℕ → Type 0 = λ o. left_of c.args.left.now ≡ replacement (leveled c.args.call) (picked o) (lists_of c.args.arguments.now) ++ left_of c.args.left.now in
    subst P (sym (slice_get_past c.args.numbers.now c.args.pick missing.lookup.3)) refl
