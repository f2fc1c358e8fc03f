-- The lines of the library, in code in which no word is known there.
use Rattle.std.proofs.Common.{◌≡◌, ℕ, ◌+◌, ◌<◌, ◌≤◌, false, ◌&&◌, nat_lt, List, [], ◌∷◌, ◌++◌, length, drop}
use Rattle.std.proofs.Common.{None, refl, sym, ap, ap₂, ◌∙◌, subst, arith, append_assoc, append-nil, length-append}
use Rattle.std.proofs.Math.Seq.{drop-append_seam}
use Rattle.cw_i86.specs.Encoding.{bytes_of, IsInstr}
use Rattle.cw_i86.specs.declared.instr.Instr.{Instr}
use Rattle.cw_dec86.specs.Rows.{instr_at, row, plain_row, middle_row}
use Rattle.cw_dec86.specs.Decoding.{BeginsNone}
use Rattle.cw_dec86.proofs.Decide.{unknown}
use Rattle.cw_tmpl.specs.Mnemonics.{bytes_of_all}
use Rattle.cw_tmpl.specs.Library.{front, joined, routines, library_bytes, no_instruction}
use Rattle.cw_listing.specs.declared.line.Shown.TheVariants.{Byte}
use Rattle.cw_listing.specs.declared.line.Line.{Line}
use Rattle.cw_listing.specs.Lines.{is_among, IsLineAt, AreLinesBetween}
use Rattle.cw_run86.proofs.Sizes.{some_bytes}
use Rattle.cw_listed.specs.ProgramLines.{instruction_lines, library_lines}
use Rattle.cw_listed.proofs.Lines.{instruction_shown}

-- lines, and others behind them
pub lines_then : (code words : List ℕ) (a b c : ℕ) (ls ms : List Line) → AreLinesBetween code words a ls b
    → AreLinesBetween code words b ms c → AreLinesBetween code words a (ls ++ ms) c
lines_then code words a b c [] ms h k = subst (λ n. AreLinesBetween code words n ms c) (sym h) k
lines_then code words a b c (l ∷ ls) ms h k = (h.0, lines_then code words (a + l.size) b c ls ms h.1 k)

abbrev pub AllInstructions : List Instr → Type 0
AllInstructions [] = Unit {0}
AllInstructions (i ∷ is) = IsInstr i × AllInstructions is

-- no word is known before a place
abbrev pub KnowsNone : (words : List ℕ) → (end : ℕ) → Type 0
KnowsNone words end = (place : ℕ) → place < end → is_among words place ≡ false

instructions_between : (code words before behind : List ℕ) (end at : ℕ) (is : List Instr) → at ≡ length before → code ≡ before ++ (bytes_of_all is ++ behind)
    → at + length (bytes_of_all is) ≤ end → KnowsNone words end → AllInstructions is
    → AreLinesBetween code words at (instruction_lines at is) (at + length (bytes_of_all is))
instructions_between code words before behind end at [] f e le none all = omega arith
instructions_between code words before behind end at (i ∷ is) f e le none all =
    let B = bytes_of i in
    let R = bytes_of_all is in
    let some : 0 < length B = some_bytes i in
    let next : code ≡ (before ++ B) ++ (R ++ behind) = e ∙ ap (λ l. before ++ l) (append_assoc B R behind) ∙ sym (append_assoc before B (R ++ behind)) in
    let here : drop at code ≡ B ++ (R ++ behind) = ap₂ (λ n l. drop n l) f
    (next ∙ append_assoc before B (R ++ behind)) ∙ drop-append_seam before (B ++ (R ++ behind)) in
    let inside : at + length B ≤ length code = omega (arith, f, ap length next, length-append (before ++ B) (R ++ behind), length-append before B) in
    let further : at + length B + length R ≡ at + length (bytes_of_all (i ∷ is)) = omega (arith, length-append B R) in (
      record {
        at = refl;
        inside = omega (arith, inside, some);
        shows = instruction_shown code words at i (R ++ behind) (length B) here
            (none at (omega (arith, le, some, further))) all.0 refl;
      },
      subst (λ n. AreLinesBetween code words (at + length B) (instruction_lines (at + length B) is) n) further
          (instructions_between code words (before ++ B) behind end (at + length B) is
          (omega (arith, f, length-append before B)) next (omega (arith, le, further)) none all.1),
    )

no_row : (rest : List ℕ) → instr_at (0xCC ∷ rest) ≡ None
unfolding instr_at row plain_row middle_row
no_row rest = refl

begins_none : (rest : List ℕ) → BeginsNone (0xCC ∷ rest)
begins_none rest i is (behind, begins) = unknown (0xCC ∷ rest) (no_row rest) (i, is, [], (behind, append-nil (0xCC ∷ rest) ∙ begins))

-- the byte with which none begins
byte_line : (code words before behind : List ℕ) (at : ℕ) → at ≡ length before → code ≡ before ++ (no_instruction ∷ behind) → is_among words at ≡ false
    → IsLineAt code words at (record { place = at; size = 1; shown = Byte })
byte_line code words before behind at f e none =
    let here : drop at code ≡ no_instruction ∷ behind = ap₂ (λ n l. drop n l) f e ∙ drop-append_seam before (no_instruction ∷ behind) in
    record {
      at = refl;
      inside = omega (arith, f, ap length e, length-append before (no_instruction ∷ behind));
      shows = (ap (λ b. b && nat_lt (at + 1) (length code)) none, subst (λ l. BeginsNone l) (sym here) (begins_none behind), refl);
    }

pub library_shown : (code words behind : List ℕ) → code ≡ library_bytes ++ behind
    → KnowsNone words (length library_bytes) → AllInstructions front → AllInstructions (joined routines)
    → AreLinesBetween code words 0 library_lines (length library_bytes)
library_shown code words behind e none first last =
    let F = bytes_of_all front in
    let R = bytes_of_all (joined routines) in
    let long : length library_bytes ≡ length F + (1 + length R) = length-append F (no_instruction ∷ R) ∙ (omega arith) in
    let whole : code ≡ F ++ (no_instruction ∷ (R ++ behind)) = e ∙ append_assoc F (no_instruction ∷ R) behind in
    let second : code ≡ (F ++ no_instruction ∷ []) ++ (R ++ behind) = whole ∙ sym (append_assoc F (no_instruction ∷ []) (R ++ behind)) in
    let start : length F + 1 ≡ length (F ++ no_instruction ∷ []) = sym (length-append F (no_instruction ∷ [])) in
    lines_then code words 0 (length F) (length library_bytes) (instruction_lines 0 front)
    (record { place = length F; size = 1; shown = Byte } ∷ instruction_lines (length F + 1) (joined routines))
    (subst (λ n. AreLinesBetween code words 0 (instruction_lines 0 front) n) (let same : 0 + length F ≡ length F = omega arith in same)
    (instructions_between code words [] (no_instruction ∷ (R ++ behind)) (length library_bytes) 0 front refl whole (omega (arith, long)) none first)) (
      byte_line code words F (R ++ behind) (length F) refl whole (none (length F) (omega (arith, long))),
      subst (λ n. AreLinesBetween code words (length F + 1) (instruction_lines (length F + 1) (joined routines)) n)
          (let same : length F + 1 + length R ≡ length library_bytes = omega (arith, long) in same)
          (instructions_between code words (F ++ no_instruction ∷ []) behind (length library_bytes) (length F + 1)
          (joined routines) start second (omega (arith, long)) none last),
    )
