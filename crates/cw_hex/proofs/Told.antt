-- What is told from a line on.
use Rattle.std.proofs.Common.{◌≡◌, ℕ, suc, List, [], ◌∷◌, true, false, Some, Ok, Err, eqb, length, refl, sym, ◌∙◌, arith}
use Rattle.std.proofs.lemmas.Bool.{eqb-true}
use Rattle.cw_i86.specs.State.{State}
use Rattle.cw_hex.specs.declared.fault.HexFault.{HexFault}
use Rattle.cw_hex.specs.declared.fault.HexFault.TheVariants.{NoEnd}
use Rattle.cw_hex.specs.declared.reading.Reading.{Reading}
use Rattle.cw_hex.specs.HexFormat.{lines_of, line_fault}
use Rattle.cw_hex.specs.HexTold.{IsCleared, TellsHex, AnswersHex}
use Rattle.cw_hex.proofs.Fold.{lines_told, hex_told}
use Rattle.cw_hex.proofs.Faults.{told_ok, answers_err}

not_empty : {A : Type 0} (n : ℕ) → eqb (suc n) 0 ≡ true → A
not_empty n e = let z = eqb-true (suc n) 0 e in absurd (omega arith)

pub fault_here : (s : State) (text rest line after : List ℕ) (number : ℕ) (r : Reading) (fault : HexFault)
    → lines_of rest ≡ line ∷ lines_of after → line_fault r.is_ended number line ≡ Some fault
    → lines_told number r (lines_of rest) ≡ hex_told s text → AnswersHex text (Err fault)
fault_here s text rest line after number r fault lines wrong so_far =
    let here : lines_told number r (lines_of rest) ≡ Err fault = rw (lines, wrong) refl in
    answers_err s text fault (sym so_far ∙ here)

pub ends_here : (s : State) (text rest : List ℕ) (number : ℕ) (r : Reading) → IsCleared s → eqb (length rest) 0 ≡ true → r.is_ended ≡ true
    → lines_told number r (lines_of rest) ≡ hex_told s text → TellsHex text r.cpu
ends_here s text [] number r clear empty ended so_far =
    let here : lines_told number r (lines_of []) ≡ Ok r.cpu = rw ended refl in
    told_ok s text r.cpu clear (sym so_far ∙ here)
ends_here s text (c ∷ cs) number r clear empty ended so_far = not_empty (length cs) empty

pub no_end_here : (s : State) (text rest : List ℕ) (number : ℕ) (r : Reading) → eqb (length rest) 0 ≡ true → r.is_ended ≡ false
    → lines_told number r (lines_of rest) ≡ hex_told s text → AnswersHex text (Err (NoEnd number))
no_end_here s text [] number r empty ended so_far =
    let here : lines_told number r (lines_of []) ≡ Err (NoEnd number) = rw ended refl in
    answers_err s text (NoEnd number) (sym so_far ∙ here)
no_end_here s text (c ∷ cs) number r empty ended so_far = not_empty (length cs) empty
