-- Where a word is known exactly at the places of words, the lines of filled code are its pieces.
use Rattle.std.proofs.Common.{◌≡◌, ℕ, ◌+◌, ◌*◌, ◌/◌, ◌%◌, ◌<◌, ◌≤◌, ◌^◌, Bool, true, false, ◌&&◌, nat_lt, List, [], ◌∷◌, ◌++◌, length}
use Rattle.std.proofs.Common.{drop, refl, sym, ap, ap₂, ◌∙◌, subst, arith, append_assoc, length-append, lt-ltb, true≢false}
use Rattle.std.proofs.Math.Seq.{drop-append_seam}
use Rattle.cw_i86.specs.Encoding.{bytes_of, word, IsInstr}
use Rattle.cw_i86.specs.declared.instr.Instr.{Instr}
use Rattle.cw_i86.specs.declared.instr.Imm.TheVariants as imm
use Rattle.cw_i86.specs.declared.instr.Instr.TheVariants as i86
use Rattle.cw_i86.specs.declared.instr.Place.TheVariants as places
use Rattle.cw_i86.specs.declared.instr.Rm.{Rm}
use Rattle.cw_i86.specs.declared.instr.Rm.TheVariants as rms
use Rattle.cw_run86.specs.Views.{with_memory}
use Rattle.cw_tmpl.specs.declared.pieces.Coded.{Coded}
use Rattle.cw_tmpl.specs.declared.pieces.Coded.TheVariants as coded
use Rattle.cw_tmpl.specs.Mnemonics.{entry_of_table, change_memory, operate_number, load, memory, code_at}
use Rattle.cw_tmpl.specs.Pieces.{bytes_with, size_of, target_of, blanks, Filling, word_before, filled, IsCoded, AllCoded}
use Rattle.cw_tmpl.proofs.Filling.{size_with}
use Rattle.cw_tmpl.proofs.Growing.{blanks-append}
use Rattle.cw_listing.specs.declared.line.Shown.TheVariants.{Instruction, Word}
use Rattle.cw_listing.specs.Lines.{is_among, Shows, AreLinesBetween}
use Rattle.cw_listed.specs.Behind.{is_word, Stands}
use Rattle.cw_listed.specs.PieceLines.{shown_with, piece_lines}
use Rattle.cw_listed.proofs.Walk.{whole}
use Rattle.cw_follow.proofs.Sized.{piece_some}

pub instruction_shown : (code words : List ℕ) (place : ℕ) (i : Instr) (rest : List ℕ) (n : ℕ)
    → drop place code ≡ bytes_of i ++ rest → is_among words place ≡ false
    → IsInstr i → n ≡ length (bytes_of i) → Shows code words place (Instruction i) n
instruction_shown code words place i rest n e known is long = (ap (λ b. b && nat_lt (place + 1) (length code)) known, (is, (rest, e), long))

word_shown : (code words : List ℕ) (place n : ℕ) → is_among words place ≡ true → n ≡ 2 → place + n ≤ length code → Shows code words place Word n
word_shown code words place n known two inside =
    (whole (is_among words place) (nat_lt (place + 1) (length code)) known (lt-ltb (place + 1) (length code) (omega arith)), two)

abbrev is_memory : Rm → Bool
is_memory (rms.Mem m) = true
is_memory (rms.Reg r) = false

shown : (code words : List ℕ) (place w : ℕ) (p : Coded) (rest : List ℕ) → drop place code ≡ bytes_with w p ++ rest → place + size_of p ≤ length code
    → is_among words place ≡ is_word p → IsCoded p → w < 2 ^ 16 → Shows code words place (shown_with w p) (size_of p)
shown code words place w (coded.Whole i) rest e inside known is less = instruction_shown code words place i rest _ e known is refl
shown code words place w (coded.Move reg t) rest e inside known is less = instruction_shown code words place
    (i86.MovImm reg (imm.Word w)) rest 3 e known (is.0, less) refl
shown code words place w (coded.Sum reg t) rest e inside known is less = instruction_shown code words place
    (operate_number 0 reg w) rest 4 e known (is.0, is.1, less) refl
shown code words place w (coded.Fetch reg t) rest e inside known is less = instruction_shown code words place
    (load reg (memory (places.Direct w))) rest 4 e known (is.0, less) refl
shown code words place w (coded.Load t) rest e inside known is less = instruction_shown code words place
    (i86.MovAcc false true false w) rest 3 e known less refl
shown code words place w (coded.Store t) rest e inside known is less = instruction_shown code words place
    (i86.MovAcc false true true w) rest 3 e known less refl
shown code words place w (coded.PushCode t) rest e inside known is less = instruction_shown code words place
    (i86.PushRm (code_at w)) rest 5 e known (less, λ h. true≢false (ap is_memory h)) refl
shown code words place w (coded.Operate op reg t) rest e inside known is less = instruction_shown code words place
    (with_memory op reg w) rest 4 e known (is.0, is.1, less) refl
shown code words place w (coded.Change op reg t) rest e inside known is less = instruction_shown code words place
    (change_memory op w reg) rest 4 e known (is.0, is.1, less) refl
shown code words place w (coded.Call t) rest e inside known is less = instruction_shown code words place (i86.Call w) rest 3 e known less refl
shown code words place w (coded.Jump t) rest e inside known is less = instruction_shown code words place (i86.Jump w) rest 3 e known less refl
shown code words place w (coded.Word t) rest e inside known is less = word_shown code words place 2 known refl inside
shown code words place w (coded.Data n) rest e inside known is less = word_shown code words place 2 known refl inside
shown code words place w (coded.Way t) rest e inside known is less = instruction_shown code words place
    (i86.JumpRm (entry_of_table w)) rest 5 e known (omega arith, less) refl

-- of what is filled in a word holds what fits
same_word : (w : ℕ) → word (w % 65536) ≡ word w
same_word w = ap₂ (λ a b. a ∷ b ∷ []) (let low : w % 65536 % 256 ≡ w % 256 = omega arith in low)
    (let high : w % 65536 / 256 % 256 ≡ w / 256 % 256 = omega arith in high)

same_bytes : (w : ℕ) (p : Coded) → bytes_with w p ≡ bytes_with (w % 65536) p
same_bytes w (coded.Whole i) = refl
same_bytes w (coded.Move reg t) = ap (λ l. (0xB8 + reg) ∷ l) (sym (same_word w))
same_bytes w (coded.Sum reg t) = ap (λ l. 0x81 ∷ (64 * 3 + 8 * 0 + reg) ∷ l) (sym (same_word w))
same_bytes w (coded.Fetch reg t) = ap (λ l. 0x8B ∷ (64 * 0 + 8 * reg + 6) ∷ l) (sym (same_word w))
same_bytes w (coded.Load t) = ap (λ l. 0xA1 ∷ l) (sym (same_word w))
same_bytes w (coded.Store t) = ap (λ l. 0xA3 ∷ l) (sym (same_word w))
same_bytes w (coded.PushCode t) = ap (λ l. 0x2E ∷ 0xFF ∷ 0x36 ∷ l) (sym (same_word w))
same_bytes w (coded.Operate op reg t) = ap (λ l. (8 * op + 2 * 1 + 1) ∷ (64 * 0 + 8 * reg + 6) ∷ l) (sym (same_word w))
same_bytes w (coded.Change op reg t) = ap (λ l. (8 * op + 2 * 0 + 1) ∷ (64 * 0 + 8 * reg + 6) ∷ l) (sym (same_word w))
same_bytes w (coded.Call t) = ap (λ l. 0xE8 ∷ l) (sym (same_word w))
same_bytes w (coded.Jump t) = ap (λ l. 0xE9 ∷ l) (sym (same_word w))
same_bytes w (coded.Word t) = sym (same_word w)
same_bytes w (coded.Data n) = refl
same_bytes w (coded.Way t) = ap (λ l. 0x2E ∷ 0xFF ∷ 0xA7 ∷ l) (sym (same_word w))

word_small : (w : ℕ) → w % 65536 < 2 ^ 16
word_small w = omega arith

-- in code, with pieces before these
abbrev pub KnowsWords : (words : List ℕ) → (base : ℕ) → List Coded → Type 0
KnowsWords words base pieces = (offset : ℕ) (p : Coded) → Stands pieces offset p → is_among words (base + offset) ≡ is_word p

pub lines_from : (code words front behind : List ℕ) (value : Filling) (done ps : List Coded) (base at : ℕ)
    → at ≡ length front → at ≡ base + length (blanks done)
    → code ≡ front ++ (filled value at ps ++ behind) → KnowsWords words base (done ++ ps) → AllCoded ps
    → AreLinesBetween code words at (piece_lines value at ps) (at + length (blanks ps))
lines_from code words front behind value done [] base at f b e knows coded = omega arith
lines_from code words front behind value done (p ∷ ps) base at f b e knows coded =
    let end = at + size_of p in
    let w = word_before value end (target_of p) in
    let B = bytes_with w p in
    let F = filled value end ps in
    let long : length B ≡ size_of p = size_with w p in
    let next : code ≡ (front ++ B) ++ (F ++ behind) = e ∙ ap (λ l. front ++ l) (append_assoc B F behind) ∙ sym (append_assoc front B (F ++ behind)) in
    let here : drop at code ≡ bytes_with (w % 65536) p ++ (F ++ behind) =
    ap₂ (λ n l. drop n l) f (next ∙ append_assoc front B (F ++ behind)) ∙ drop-append_seam front (B ++ (F ++ behind))
    ∙ ap (λ l. l ++ (F ++ behind)) (same_bytes w p) in
    let inside : end ≤ length code = omega (arith, ap length next, length-append (front ++ B) (F ++ behind), length-append front B) in
    let known : is_among words at ≡ is_word p = ap (λ n. is_among words n) b
    ∙ knows (length (blanks done)) p (record { before = done; behind = ps; is = refl; offset_is = refl }) in
    let further : AreLinesBetween code words end (piece_lines value end ps) (end + length (blanks ps)) =
    lines_from code words (front ++ B) behind value (done ++ p ∷ []) ps base end (omega (arith, length-append front B))
    (omega (arith, ap length (blanks-append done (p ∷ [])), length-append (blanks done) (blanks (p ∷ [])), length-append (bytes_with 0 p) []))
    next (subst (λ (l : List Coded). KnowsWords words base l) (sym (append_assoc done (p ∷ []) ps)) knows) coded.1 in (
      record {
        at = refl;
        inside = omega (arith, piece_some p);
        shows = shown code words at (w % 65536) p (F ++ behind) here inside known coded.0 (word_small w);
      },
      subst (λ n. AreLinesBetween code words end (piece_lines value end ps) n) (omega (arith, length-append (bytes_with 0 p) (blanks ps))) further,
    )
