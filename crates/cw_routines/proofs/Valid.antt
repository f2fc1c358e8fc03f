-- The library stands in each code that begins with its bytes.
use Rattle.std.proofs.Common.{◌≡◌, ℕ, ◌+◌, ◌<◌, Bool, true, List, [], ◌∷◌, ◌++◌, length, refl, sym, ap, ◌∙◌, arith, append_assoc, length-append, get_or}
use Rattle.std.specs.Prelude.{◌&&◌, slice_index}
use Rattle.std.proofs.lemmas.List.{get_or_append_left, get_or-append-add}
use Rattle.cw_i86.specs.declared.instr.Instr.{Instr}
use Rattle.cw_i86.specs.Encoding.{bytes_of, IsInstr}
use Rattle.cw_run86.specs.Fetching.{is_instr}
use Rattle.cw_run86.specs.Views.{Has}
use Rattle.cw_run86.proofs.Tests.{instr_tells, left_of, right_of}
use Rattle.cw_tmpl.specs.Mnemonics.{bytes_of_all}
use Rattle.cw_tmpl.specs.Library.{library_bytes, front, joined, routines, no_instruction}
use Rattle.cw_routines.specs.Ways.{HasAll}
use Rattle.cw_routines.specs.Results.{Stands}

-- ---- several

abbrev AllInstr : List Instr → Type 0
AllInstr [] = Unit {0}
AllInstr (i ∷ is) = IsInstr i × AllInstr is

pub byte_there : (before bytes behind : List ℕ) (k : ℕ) → k < length bytes → get_or (before ++ (bytes ++ behind)) (length before + k) 0 ≡ get_or bytes k 0
byte_there before bytes behind k lt = get_or-append-add before (bytes ++ behind) k 0 ∙ get_or_append_left bytes behind 0 k lt

pub one_there : (image before behind : List ℕ) (place : ℕ) (i : Instr) → IsInstr i → place ≡ length before → image ≡ before ++ (bytes_of i ++ behind) → Has image place i
one_there image before behind place i instr at e = record {
  is_instr = instr;
  within = omega (arith, ap length e, length-append before (bytes_of i ++ behind), length-append (bytes_of i) behind);
  bytes = λ k lt. ap (λ l. get_or l (place + k) 0) e ∙ ap (λ n. get_or (before ++ (bytes_of i ++ behind)) (n + k) 0) at ∙ byte_there before (bytes_of i) behind k lt;
}

-- Where their bytes stand, the instructions do.
all_there : (image before behind : List ℕ) (place : ℕ) (is : List Instr) → AllInstr is → place ≡ length before → image ≡ before ++ (bytes_of_all is ++ behind)
    → HasAll image place is
all_there image before behind place [] instrs at e = tt
all_there image before behind place (i ∷ is) instrs at e =
    let B = bytes_of i in
    let R = bytes_of_all is in
    let flat : image ≡ before ++ (B ++ (R ++ behind)) = e ∙ ap (λ l. before ++ l) (append_assoc B R behind) in
    let further : place + length B ≡ length (before ++ B) = omega (arith, length-append before B) in (
      one_there image before (R ++ behind) place i instrs.0 at flat,
      all_there image (before ++ B) behind (place + length B) is instrs.1 further (flat ∙ sym (append_assoc before B (R ++ behind))),
    )

abbrev all_of : List Instr → Bool
all_of [] = true
all_of (i ∷ is) = is_instr i && all_of is

-- ---- the library

valid : (is : List Instr) → all_of is ≡ true → AllInstr is
valid [] e = tt
valid (i ∷ is) e = ((instr_tells i).yes (left_of (is_instr i) (all_of is) e), valid is (right_of (is_instr i) (all_of is) e))

front_valid : AllInstr front
front_valid = valid front refl

routines_valid : AllInstr (joined routines)
routines_valid = valid (joined routines) refl

pub library_stands : (code behind : List ℕ) → code ≡ library_bytes ++ behind → Stands code
library_stands code behind e =
    let F = bytes_of_all front in
    let R = bytes_of_all (joined routines) in
    let first : code ≡ [] ++ (F ++ ((no_instruction ∷ R) ++ behind)) = e ∙ append_assoc F (no_instruction ∷ R) behind in
    let second : code ≡ (F ++ no_instruction ∷ []) ++ (R ++ behind) = e ∙ append_assoc F (no_instruction ∷ R) behind ∙ sym (append_assoc F (no_instruction ∷ []) (R ++ behind)) in (
      all_there code [] ((no_instruction ∷ R) ++ behind) 0 front front_valid refl first,
      all_there code (F ++ no_instruction ∷ []) behind 5
          (joined routines) routines_valid refl second,
    )

-- ---- the entries of earlier libraries

pub retired_byte : (code behind : List ℕ) → code ≡ library_bytes ++ behind → (4 < length code) × (slice_index code 4 ≡ no_instruction)
retired_byte code behind e =
    let F = bytes_of_all front in
    let R = bytes_of_all (joined routines) in
    let there : code ≡ F ++ (no_instruction ∷ (R ++ behind)) = e ∙ append_assoc F (no_instruction ∷ R) behind in
    (omega (arith, ap length there, length-append F (no_instruction ∷ (R ++ behind))), ap (λ l. slice_index l 4) there)
