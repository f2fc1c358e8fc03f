-- The arguments of a call, one by one.
use Rattle.std.proofs.Common.{◌≡◌, ℕ, List, [], ◌∷◌, map, max, refl, sym, ap, ◌∙◌, arith}
use Rattle.cw_unit.specs.declared.unit.Arg.{Arg}
use Rattle.cw_unit.specs.StackBound.{argument_depth, argument_depths, arguments_depth}
use Rattle.cw_need.specs.Told.{told}

pub depths-each : (args : List Arg) → argument_depths args ≡ map argument_depth args
depths-each [] = refl
depths-each (a ∷ args) = ap (λ ds. argument_depth a ∷ ds) (depths-each args)

pub with_answer : (args bs : List Arg) (n m d : ℕ) → bs ≡ args → n ≡ told (arguments_depth (argument_depths bs)) → m ≡ max n 1 → d ≡ max 1 (arguments_depth (map argument_depth args)) → m ≡ told d
with_answer args bs n m d same n-is m-is d-is =
    let e : arguments_depth (argument_depths bs) ≡ arguments_depth (map argument_depth args) = ap (λ xs. arguments_depth (argument_depths xs)) same ∙ ap arguments_depth (depths-each args) in
    omega (arith, e, n-is, m-is, d-is)
