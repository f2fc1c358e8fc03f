-- Code grows piece by piece.
use Rattle.std.proofs.Common.{rules, lit<, subst, None, ◌≡◌, ℕ, ◌+◌, ◌-◌, ◌*◌, ◌^◌, pow_mono, pow_pos, pow-add, ◌<◌, ◌≤◌, List, [], ◌∷◌, ◌++◌, length, refl, sym, ap, ap₂, ◌∙◌, arith, append_assoc, length-append, Some}
use Rattle.std.proofs.lemmas.List.{append-nil}
use Rattle.std.proofs.lemmas.Option.{none-some}
use Rattle.cw_i86.specs.Encoding.{bytes_of, IsInstr}
use Rattle.cw_i86.specs.declared.instr.Instr.{Instr}
use Rattle.cw_unit.specs.declared.layout.Reloc.{Reloc}
use Rattle.cw_tmpl.specs.declared.assembling.Assembly.{Assembly}
use Rattle.cw_tmpl.specs.declared.pieces.Target.{Target}
use Rattle.cw_tmpl.specs.declared.pieces.Coded.{Coded}
use Rattle.cw_tmpl.specs.declared.pieces.Coded.TheVariants as coded
use Rattle.cw_tmpl.specs.Pieces.{bytes_with, size_of, target_of, instruction_of, IsCoded, blanks, relocation_of, relocation_before, relocations}
use Rattle.cw_tmpl.specs.Assembling.{Adds}
use Rattle.cw_word.specs.BitField.{field_mask}

pub blanks-append : (ps qs : List Coded) → blanks (ps ++ qs) ≡ blanks ps ++ blanks qs
blanks-append [] qs = refl
blanks-append (p ∷ ps) qs = ap (λ l. bytes_with 0 p ++ l) (blanks-append ps qs) ∙ sym (append_assoc (bytes_with 0 p) (blanks ps) (blanks qs))

pub relocations-append : (at : ℕ) (ps qs : List Coded) → relocations at (ps ++ qs) ≡ relocations at ps ++ relocations (at + length (blanks ps)) qs
relocations-append at [] qs = ap (λ n. relocations n qs) (omega arith)
relocations-append at (p ∷ ps) qs =
    let end = at + size_of p in
    let far : end + length (blanks ps) ≡ at + length (blanks (p ∷ ps)) = omega (arith, length-append (bytes_with 0 p) (blanks ps)) in
    let here = relocation_before end (target_of p) in
    ap (λ l. here ++ l) (relocations-append end ps qs)
    ∙ sym (append_assoc here (relocations end ps) (relocations (end + length (blanks ps)) qs))
    ∙ ap (λ n. (here ++ relocations end ps) ++ relocations n qs) far

-- ---- one piece

pub whole_added : (old new : Assembly) (i : Instr) → new.bytes ≡ old.bytes ++ bytes_of i → new.relocs ≡ old.relocs → Adds old (coded.Whole i ∷ []) new
whole_added old new i bytes relocs = record {
  bytes = bytes ∙ ap (λ l. old.bytes ++ l) (sym (append-nil (bytes_of i)));
  relocs = relocs ∙ sym (append-nil old.relocs);
}

pub word_added : (old new : Assembly) (p : Coded) (t : Target) → target_of p ≡ Some t → new.bytes ≡ old.bytes ++ bytes_with 0 p
    → new.relocs ≡ old.relocs ++ relocation_of (length new.bytes - 2) t ∷ [] → Adds old (p ∷ []) new
word_added old new p t target bytes relocs =
    let long : length new.bytes ≡ length old.bytes + size_of p = ap length bytes ∙ length-append old.bytes (bytes_with 0 p) in
    record {
      bytes = bytes ∙ ap (λ l. old.bytes ++ l) (sym (append-nil (bytes_with 0 p)));
      relocs = relocs ∙ ap (λ n. old.relocs ++ relocation_of (n - 2) t ∷ []) long
          ∙ ap (λ o. old.relocs ++ (relocation_before (length old.bytes + size_of p) o ++ [])) (sym target);
    }

pub plain_added : (old new : Assembly) (p : Coded) → target_of p ≡ None → new.bytes ≡ old.bytes ++ bytes_with 0 p → new.relocs ≡ old.relocs → Adds old (p ∷ []) new
plain_added old new p target bytes relocs = record {
  bytes = bytes ∙ ap (λ l. old.bytes ++ l) (sym (append-nil (bytes_with 0 p)));
  relocs = relocs ∙ sym (append-nil old.relocs) ∙ ap (λ o. old.relocs ++ (relocation_before (length old.bytes + size_of p) o ++ [])) (sym target);
}

-- the instruction of a piece
same_instruction : (i j : Instr) → Some i ≡ Some j → i ≡ j
same_instruction i j e = cc

as_bytes : (i j : Instr) → Some i ≡ Some j → bytes_of j ≡ bytes_of i
as_bytes i j e = ap bytes_of (sym (same_instruction i j e))

as_instruction : (i j : Instr) → Some i ≡ Some j → IsInstr i → IsInstr j
as_instruction i j e = subst IsInstr (same_instruction i j e)

pub instruction_bytes : (p : Coded) (i : Instr) → instruction_of p ≡ Some i → bytes_of i ≡ bytes_with 0 p
instruction_bytes (coded.Whole j) i e = as_bytes _ i e
instruction_bytes (coded.Move reg t) i e = as_bytes _ i e
instruction_bytes (coded.Sum reg t) i e = as_bytes _ i e
instruction_bytes (coded.Fetch reg t) i e = as_bytes _ i e
instruction_bytes (coded.Load t) i e = as_bytes _ i e
instruction_bytes (coded.Store t) i e = as_bytes _ i e
instruction_bytes (coded.PushCode t) i e = as_bytes _ i e
instruction_bytes (coded.Operate op reg t) i e = as_bytes _ i e
instruction_bytes (coded.Change op reg t) i e = as_bytes _ i e
instruction_bytes (coded.Call t) i e = as_bytes _ i e
instruction_bytes (coded.Jump t) i e = as_bytes _ i e
instruction_bytes (coded.Way t) i e = as_bytes _ i e
instruction_bytes (coded.Word t) i e = absurd (none-some i e)
instruction_bytes (coded.Data n) i e = absurd (none-some i e)

pub instruction_coded : (p : Coded) (i : Instr) → IsCoded p → instruction_of p ≡ Some i → IsInstr i
instruction_coded (coded.Whole j) i h e = as_instruction _ i e h
instruction_coded (coded.Move reg t) i h e = as_instruction _ i e h
instruction_coded (coded.Sum reg t) i h e = as_instruction _ i e h
instruction_coded (coded.Fetch reg t) i h e = as_instruction _ i e h
instruction_coded (coded.Load t) i h e = as_instruction _ i e (lit< tt)
instruction_coded (coded.Store t) i h e = as_instruction _ i e (lit< tt)
instruction_coded (coded.PushCode t) i h e = as_instruction _ i e (search rules)
instruction_coded (coded.Operate op reg t) i h e = as_instruction _ i e h
instruction_coded (coded.Change op reg t) i h e = as_instruction _ i e h
instruction_coded (coded.Call t) i h e = as_instruction _ i e (lit< tt)
instruction_coded (coded.Jump t) i h e = as_instruction _ i e (lit< tt)
instruction_coded (coded.Way t) i h e = as_instruction _ i e (search rules)
instruction_coded (coded.Word t) i h e = absurd (none-some i e)
instruction_coded (coded.Data n) i h e = absurd (none-some i e)

-- a piece with a word that is filled has room for it
pub word_room : (p : Coded) (t : Target) → target_of p ≡ Some t → 2 ≤ size_of p
word_room (coded.Whole i) t e = absurd (none-some t e)
word_room (coded.Data n) t e = absurd (none-some t e)
word_room _ t e = omega arith

-- ---- many pieces

-- With the rest behind it the code has these bytes and relocations.
pub record Coming (now : Assembly) (rest : List Coded) (bytes : List ℕ) (relocs : List Reloc) : Type 0 where
  pub bytes_whole : now.bytes ++ blanks rest ≡ bytes
  pub relocs_whole : now.relocs ++ relocations (length now.bytes) rest ≡ relocs

pub coming_all : (now : Assembly) (rest : List Coded) → Coming now rest (now.bytes ++ blanks rest) (now.relocs ++ relocations (length now.bytes) rest)
coming_all now rest = record { bytes_whole = refl; relocs_whole = refl }

pub coming_more : (old new : Assembly) (ps rest : List Coded) (bytes : List ℕ) (relocs : List Reloc) → Adds old ps new
    → Coming old (ps ++ rest) bytes relocs → Coming new rest bytes relocs
coming_more old new ps rest bytes relocs added coming =
    let long : length new.bytes ≡ length old.bytes + length (blanks ps) = ap length added.bytes ∙ length-append old.bytes (blanks ps) in
    record {
      bytes_whole =
          ap (λ l. l ++ blanks rest) added.bytes ∙ append_assoc old.bytes (blanks ps) (blanks rest)
          ∙ ap (λ l. old.bytes ++ l) (sym (blanks-append ps rest)) ∙ coming.bytes_whole;
      relocs_whole =
          ap₂ (λ l n. l ++ relocations n rest) added.relocs long
          ∙ append_assoc old.relocs (relocations (length old.bytes) ps) (relocations (length old.bytes + length (blanks ps)) rest)
          ∙ ap (λ l. old.relocs ++ l) (sym (relocations-append (length old.bytes) ps rest)) ∙ coming.relocs_whole;
    }

pub coming_done : (old new : Assembly) (ps : List Coded) → Coming new [] (old.bytes ++ blanks ps) (old.relocs ++ relocations (length old.bytes) ps) → Adds old ps new
coming_done old new ps coming = record {
  bytes = sym (append-nil new.bytes) ∙ coming.bytes_whole;
  relocs = sym (append-nil new.relocs) ∙ coming.relocs_whole;
}

-- pieces, and pieces behind them
pub adds_then : (a b c : Assembly) (ps qs : List Coded) → Adds a ps b → Adds b qs c → Adds a (ps ++ qs) c
adds_then a b c ps qs f s =
    let long : length b.bytes ≡ length a.bytes + length (blanks ps) = ap length f.bytes ∙ length-append a.bytes (blanks ps) in
    record {
      bytes = s.bytes ∙ ap (λ l. l ++ blanks qs) f.bytes ∙ append_assoc a.bytes (blanks ps) (blanks qs) ∙ ap (λ l. a.bytes ++ l) (sym (blanks-append ps qs));
      relocs =
          s.relocs ∙ ap₂ (λ l n. l ++ relocations n qs) f.relocs long ∙ append_assoc a.relocs (relocations (length a.bytes) ps) (relocations (length a.bytes + length (blanks ps)) qs)
          ∙ ap (λ l. a.relocs ++ l) (sym (relocations-append (length a.bytes) ps qs));
    }

-- a mask of a part is a word
pub mask_small : (t b : ℕ) → t + b ≤ 16 → field_mask t b < 65536
mask_small t b room =
    let power : 2 ^ (t + b) ≤ 2 ^ 16 = pow_mono room in
    let e : 2 ^ (t + b) ≡ 2 ^ t * 2 ^ b = pow-add 2 t b in
    let some : 0 < 2 ^ t = pow_pos t in
    let one : 2 ^ t - 1 + 1 ≡ 2 ^ t = omega arith in
    let some' : 0 < 2 ^ b = pow_pos b in
    omega (arith, ap (λ x. x * 2 ^ b) one)
