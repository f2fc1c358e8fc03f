-- The step at hand goes on from those before it.
use Rattle.std.proofs.Common.{◌^◌, ◌<◌, List, Result, map}
use Rattle.cw_lex.specs.Lexical.{Lexeme, view}
use Rattle.cw_macro.specs.declared.fault.MacroFault.{MacroFault}
use Rattle.cw_macro.specs.Expansion.{Leads, start}
use Rattle.cw_macro.specs.Premises.{IsSound}
use Rattle.cw_macro.specs.Views.{expansion_of}
use Rattle.cw_macro.proofs.Next.{work}
use Rattle.cw_macro.proofs.expansion.expand.Given as goal

abbrev pub invariant-steps : goal.invariant-steps
invariant-steps l = record {
  sound : IsSound (expansion_of l.expansion);
  small : l.expansion.count < 2 ^ 63;
  leads : (r : Result (List Lexeme) MacroFault) → Leads (expansion_of l.expansion) r → Leads (start (map view l.tokens)) r;
}

abbrev pub decreases-steps : goal.decreases-steps
decreases-steps l = work (expansion_of l.expansion)
