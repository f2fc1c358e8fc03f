-- Each step goes on from those before it.
use Rattle.std.proofs.Common.{◌≡◌, List, Result, Ok, Err, map, refl, sym, ap, subst, arith}
use Rattle.std.proofs.lemmas.List.{length-map}
use Rattle.std.specs.Result.{IsErr, IsErrAnd}
use Rattle.cw_lex.specs.declared.token.Token.{Token}
use Rattle.cw_lex.specs.Lexical.{Lexeme, view}
use Rattle.cw_macro.specs.declared.fault.MacroFault.{MacroFault}
use Rattle.cw_macro.specs.Expansion.{Expansion, IsExpansion}
use Rattle.cw_macro.specs.Premises.{IsSound}
use Rattle.cw_macro.specs.Views.{expansion_of, left_of, leveled}
use Rattle.cw_macro.proofs.Steps.{follows_in, faults_in}
use Rattle.cw_macro.proofs.Next.{next_is}
use Rattle.cw_macro.proofs.Runs.{Goes, goes_on, fails_at, ends, start_sound}
use Rattle.cw_macro.proofs.expansion.expand.Goals as goal

told : (tokens : List Lexeme) (r : Result (List Token) MacroFault) (fault : MacroFault) → IsErr r → IsErrAnd r (λ f. f ≡ fault) → IsExpansion tokens (Err fault) → IsExpansion tokens r
told tokens (Ok x) fault h g q = absurd cc
told tokens (Err f) fault h g q = let P : MacroFault → Type 0 = λ z. IsExpansion tokens (Err z) in subst P (sym g) q

pub steps-init : goal.steps-init
steps-init c =
    let e = sym c.in_ok-expansion.ensures in
    let P : Expansion → Type 0 = λ z. Goes (map view c.args.tokens.now) z in
    record {
      sound = subst IsSound e (start_sound (map view c.args.tokens.now) c.requires);
      small = omega (arith, ap (λ (z : Expansion). z.count) e, length-map c.args.tokens.now view);
      leads = subst P e (λ r l. l);
    }

pub steps-smaller : goal.steps-smaller
steps-smaller c =
    let e = expansion_of c.steps.expansion in
    let follows = follows_in e (expansion_of c.step.new.self) (leveled c.in-Some.item) (left_of c.take.new.self) c.in-Some.item.token.kind c.in-Some.ensures refl c.in_ok-step.ensures in
    (next_is e (expansion_of c.step.new.self) c.steps.invariant.sound c.steps.invariant.small follows).less

pub steps-preserved : goal.steps-preserved
steps-preserved c =
    let e = expansion_of c.steps.expansion in
    let follows = follows_in e (expansion_of c.step.new.self) (leveled c.in-Some.item) (left_of c.take.new.self) c.in-Some.item.token.kind c.in-Some.ensures refl c.in_ok-step.ensures in
    let next = next_is e (expansion_of c.step.new.self) c.steps.invariant.sound c.steps.invariant.small follows in
    record { sound = next.sound; small = next.small; leads = goes_on (map view c.args.tokens.now) e (expansion_of c.step.new.self) c.steps.invariant.leads follows }

pub returns-in_err-step : goal.returns-in_err-step
returns-in_err-step c =
    let e = expansion_of c.steps.expansion in
    let fault = faults_in e c.in_err-step.field-0.0 (leveled c.in-Some.item) (left_of c.take.new.self) c.in-Some.item.token.kind c.in-Some.ensures refl c.in_err-step.ensures in
    told (map view c.args.tokens.now) c.from_residual-in_err-step.result c.in_err-step.field-0.0 c.from_residual-in_err-step.ensures.0 c.from_residual-in_err-step.ensures.1
    (fails_at (map view c.args.tokens.now) e c.in_err-step.field-0.0 c.steps.invariant.leads fault)

pub returns : goal.returns
returns c = ends (map view c.args.tokens.now) (expansion_of c.steps.expansion) c.steps.invariant.leads c.in_default.ensures
