-- The code of an operation on AX and a simple operand, and its bytes.
use Rattle.std.proofs.Common.{◌≡◌, ℕ, ◌+◌, ◌*◌, ◌%◌, Bool, true, false, List, [], ◌∷◌, ◌++◌, length, refl, sym, subst, arith}
use Rattle.std.proofs.lemmas.List.{append-nil}
use Rattle.cw_i86.specs.declared.instr.Instr.{Instr}
use Rattle.cw_i86.specs.declared.instr.Instr.TheVariants as i86
use Rattle.cw_run86.specs.Views.{with_number, with_memory}
use Rattle.cw_rows86.specs.Operations.{WordOperation, Add, Subtract, Compare, number_of, And, Or, Xor}
use Rattle.cw_order.specs.declared.order.Comparator.{Comparator}
use Rattle.cw_order.specs.declared.order.Order.TheVariants as order
use Rattle.cw_tmpl.specs.declared.pieces.Coded.{Coded}
use Rattle.cw_tmpl.specs.declared.pieces.Coded.TheVariants as pieces
use Rattle.cw_order.specs.declared.order.Place.TheVariants as cell
use Rattle.cw_tmpl.specs.declared.blocks.Element.{Element}
use Rattle.cw_tmpl.specs.declared.blocks.Simple.{Simple}
use Rattle.cw_tmpl.specs.declared.blocks.Simple.TheVariants as simple
use Rattle.cw_tmpl.specs.declared.blocks.Use.{Use}
use Rattle.cw_tmpl.specs.declared.blocks.Use.TheVariants as uses
use Rattle.cw_tmpl.specs.declared.blocks.Block.TheVariants as block
use Rattle.cw_tmpl.specs.Mnemonics.{ax, bx, slot, base_slot, field, at_si, operate, load}
use Rattle.cw_tmpl.specs.Pieces.{Filling, blanks}
use Rattle.cw_tmpl.specs.Names.{no_names, mark_place}
use Rattle.cw_tmpl.specs.Templates.{frame_size, with_operand, pieces_size, element_address, block_size}
use Rattle.cw_tmpl.specs.Sizes.{element_size}
use Rattle.cw_tmpl.proofs.Lengths.{field_operated, appended_long}
use Rattle.cw_tmpl.proofs.Sizes.{frame_with_long, element_long_as}
use Rattle.cw_tmpl.proofs.Endings.{compared_long}
use Rattle.cw_follow.proofs.Standing.{HasPieces, stand_both, Has, HasAll, Image}
use Rattle.cw_follow.proofs.Branches.{branch_size}

-- where the operation stands, and how many bytes it has
abbrev pub named_at : Simple → ℕ → ℕ
named_at (simple.Number x) from = from
named_at (simple.Contents (cell.Word f n)) from = from
named_at (simple.Contents (cell.Frame n)) from = from + 3
named_at (simple.Element e) from = from + element_size e e.test

abbrev pub named_size : Simple → ℕ
named_size (simple.Number x) = 3
named_size (simple.Contents (cell.Word f n)) = 4
named_size (simple.Contents (cell.Frame n)) = frame_size n + 2
named_size (simple.Element e) = 2

-- the instruction, where a word of a family stands at this offset
abbrev pub naming : (offset : ℕ) → Simple → WordOperation → Instr
naming w (simple.Number x) op = with_number (number_of op) x
naming w (simple.Contents (cell.Word f n)) op = with_memory (number_of op) ax w
naming w (simple.Contents (cell.Frame n)) op = i86.AluRm (number_of op) true true ax (field (2 * n % 65536))
naming w (simple.Element e) op = i86.AluRm (number_of op) true true ax at_si

-- what comes before it
abbrev pub Addressed : Image → Filling → Simple → ℕ → Type 0
Addressed image value (simple.Element e) from = HasPieces image value from (element_address e)
Addressed image value (simple.Contents (cell.Frame n)) from = HasAll image from (load bx (slot base_slot) ∷ [])
Addressed image value s from = Unit {0}

-- what an instruction at a place has filled in
abbrev pub offset_at : Filling → Simple → ℕ → ℕ
offset_at value (simple.Contents (cell.Word f n)) from = value 2 f n (from + 4)
offset_at value s from = 0

-- the bytes of an operation on AX and an element
pub element_operation : (e : Element) (op : ℕ) → length (blanks (with_operand op (simple.Element e))) ≡ element_size e e.test + 2
element_operation e op = omega (arith, appended_long (element_address e) (pieces.Whole (operate op ax at_si) ∷ []), element_long_as e)

pub operand_code : (image : Image) (value : Filling) (from : ℕ) (s : Simple) (op : WordOperation) (rest : List Coded) → HasPieces image value from (with_operand (number_of op) s ++ rest)
    → Addressed image value s from × Has image (named_at s from) (naming (offset_at value s from) s op) × HasPieces image value (named_at s from + named_size s) rest
operand_code image value from (simple.Number x) op rest h = (tt, h.0, h.1)
operand_code image value from (simple.Contents (cell.Word f n)) op rest h = (tt, h.0, h.1)
operand_code image value from (simple.Contents (cell.Frame n)) op rest h =
    ((h.0, tt), h.1.0, subst (λ k. HasPieces image value (from + 3 + k) rest) (field_operated (number_of op) ax (2 * n % 65536)) h.1.1)
operand_code image value from (simple.Element e) op rest h =
    let o = number_of op in
    let both = stand_both image value from (with_operand o (simple.Element e)) rest h in
    let address = stand_both image value from (element_address e) (pieces.Whole (operate o ax at_si) ∷ []) both.0 in
    let size : from + length (blanks (with_operand o (simple.Element e))) ≡ from + element_size e e.test + 2 = omega (arith, element_operation e o) in
    (address.0, subst (λ n. Has image (from + n) (operate o ax at_si)) (element_long_as e) address.1.0, subst (λ n. HasPieces image value n rest) size both.1)

-- the same without more behind it
pub alone_code : (image : Image) (value : Filling) (from : ℕ) (s : Simple) (op : ℕ) → HasPieces image value from (with_operand op s) → HasPieces image value from (with_operand op s ++ [])
alone_code image value from (simple.Number x) op h = h
alone_code image value from (simple.Contents (cell.Word f n)) op h = h
alone_code image value from (simple.Contents (cell.Frame n)) op h = h
alone_code image value from (simple.Element e) op h = subst (HasPieces image value from) (sym (append-nil (with_operand op (simple.Element e)))) h

-- ---- sizes

abbrev pub operand_size : Simple → ℕ
operand_size (simple.Number x) = 3
operand_size (simple.Contents (cell.Word f n)) = 4
operand_size (simple.Contents (cell.Frame n)) = frame_size n + 5
operand_size (simple.Element e) = element_size e e.test + 2

pub named_end : (s : Simple) (from : ℕ) → named_at s from + named_size s ≡ from + operand_size s
named_end (simple.Number x) from = refl
named_end (simple.Contents (cell.Word f n)) from = refl
named_end (simple.Contents (cell.Frame n)) from = omega arith
named_end (simple.Element e) from = omega arith

-- the bytes of the jumps behind the operation
abbrev pub rest_size : Use → ℕ
rest_size (uses.Compare c m) = 5
rest_size u = 0

abbrev pub OneOperation : Use → Type 0
OneOperation (uses.Multiply line) = ⊥
OneOperation u = Unit {0}

-- without a check behind it
abbrev pub Unchecked : Use → Type 0
Unchecked (uses.Add line) = ⊥
Unchecked (uses.Subtract line) = ⊥
Unchecked (uses.Multiply line) = ⊥
Unchecked u = Unit {0}

-- the bytes of the code up to a check or a jump behind it
pub operand_long : (op : WordOperation) (s : Simple) → pieces_size (with_operand (number_of op) s) ≡ operand_size s
operand_long Add (simple.Number x) = refl
operand_long Subtract (simple.Number x) = refl
operand_long Compare (simple.Number x) = refl
operand_long op (simple.Number x) = refl
operand_long op (simple.Element e) = element_operation e (number_of op)
operand_long op (simple.Contents (cell.Word f n)) = refl
operand_long op (simple.Contents (cell.Frame n)) = frame_with_long (number_of op) n

pub compare_size : (s : Simple) → pieces_size (with_operand 7 s) ≡ operand_size s
compare_size s = operand_long Compare s

pub compared_size : (short : Bool) (s : Simple) (c : Comparator) (m : ℕ) → block_size short (block.Operate s (uses.Compare c m)) order.Save ≡ operand_size s + branch_size short
compared_size true s c m = omega (arith, compared_long true (with_operand 7 s) c (0 + pieces_size (with_operand 7 s)) (mark_place no_names m), compare_size s)
compared_size false s c m = omega (arith, compared_long false (with_operand 7 s) c (0 + pieces_size (with_operand 7 s)) (mark_place no_names m), compare_size s)

pub tested_size : (s : Simple) (u : Use) → Unchecked u → block_size false (block.Operate s u) order.Save ≡ operand_size s + rest_size u
tested_size s uses.Mask h = omega (arith, operand_long And s)
tested_size s uses.Union h = omega (arith, operand_long Or s)
tested_size s uses.Differ h = omega (arith, operand_long Xor s)
tested_size s (uses.Compare c m) h = compared_size false s c m
tested_size s _ h = absurd h
