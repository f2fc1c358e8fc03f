-- Runs of steps.
use Rattle.std.proofs.Common.{◌≡◌, List, [], false, arith, Result, Ok, Err, sym, ap, subst}
use Rattle.cw_lex.specs.Lexical.{Lexeme}
use Rattle.cw_macro.specs.declared.fault.MacroFault.{MacroFault}
use Rattle.cw_macro.specs.declared.fault.MacroFault.TheVariants as faults
use Rattle.cw_macro.specs.Expansion.{Expansion, step_in, expansion_step, Leads, finished, refused, moved, with_body, no_body, start, IsExpansion}
use Rattle.cw_macro.specs.Premises.{AreOfText, IsSound}
use Rattle.cw_macro.specs.Views.{Follows, moves, defines, Faults, refuses, lacks_body, IsFaultOf}
use Rattle.cw_macro.proofs.Sound.{placed_tokens}

-- the steps so far, before those to come
abbrev pub Goes : List Lexeme → Expansion → Type 0
Goes tokens e = (r : Result (List Lexeme) MacroFault) → Leads e r → Leads (start tokens) r

pub goes_on : (tokens : List Lexeme) (e next : Expansion) → Goes tokens e → Follows e (expansion_step e) next → Goes tokens next
goes_on tokens e next g (moves m) r l = g r (moved m l)
goes_on tokens e next g (defines d b n) r l = let P : Expansion → Type 0 = λ z. Leads z r in g r (with_body d b (subst P n l))

fails : (tokens : List Lexeme) (e : Expansion) (fault : MacroFault) → Goes tokens e → Faults (expansion_step e) fault → Leads (start tokens) (Err fault)
fails tokens e fault g (refuses h) = g (Err fault) (refused h)
fails tokens e fault g (lacks_body d b q) = let P : MacroFault → Type 0 = λ z. Leads (start tokens) (Err z) in subst P (sym q) (g (Err _) (no_body d b))

pub fails_at : (tokens : List Lexeme) (e : Expansion) (fault : MacroFault) → Goes tokens e → IsFaultOf (expansion_step e) fault → IsExpansion tokens (Err fault)
fails_at tokens e faults.NoMemory g h = tt
fails_at tokens e (faults.BadDefine line) g h = fails tokens e (faults.BadDefine line) g h
fails_at tokens e (faults.BadCall line) g h = fails tokens e (faults.BadCall line) g h
fails_at tokens e (faults.TooDeep line) g h = fails tokens e (faults.TooDeep line) g h
fails_at tokens e (faults.TooLong line) g h = fails tokens e (faults.TooLong line) g h
fails_at tokens e (faults.NoSuchMacro line) g h = fails tokens e (faults.NoSuchMacro line) g h

pub ends : (tokens : List Lexeme) (e : Expansion) → Goes tokens e → e.left ≡ [] → Leads (start tokens) (Ok e.done)
ends tokens e g h = g (Ok e.done) (finished (ap (step_in e) h))

pub start_sound : (tokens : List Lexeme) → AreOfText tokens → IsSound (start tokens)
start_sound tokens t = record { left = placed_tokens [] t.text false tokens t.tokenizes (omega (arith, t.short)); definitions = λ name. tt }
