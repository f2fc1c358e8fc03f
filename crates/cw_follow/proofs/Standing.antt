-- Instructions and words that stand one after another in an image, and where those of each order do.
use Rattle.std.proofs.Common.{◌≡◌, ℕ, zero, suc, ◌+◌, ◌<◌, Bool, true, false, List, [], ◌∷◌, ◌++◌, length, drop, Option, Some, None, refl, subst, arith, length-append}
use Rattle.std.specs.Prelude.{◌&&◌, slice_get}
use Rattle.cw_i86.specs.Encoding.{bytes_of}
use Rattle.cw_i86.specs.declared.instr.Instr.{Instr}
use Rattle.cw_i86.specs.declared.instr.Instr.TheVariants as i86
use Rattle.cw_i86.specs.declared.instr.Imm.TheVariants as imm
use Rattle.cw_i86.specs.declared.instr.Place.TheVariants as places
use Rattle.cw_image.specs.Begun.{StatementPlace, lines_at}
use Rattle.cw_run86.specs.Views as view
use Rattle.cw_run86.specs.Views.{with_memory}
use Rattle.cw_unit.specs.declared.unit.Goal.{Goal}
use Rattle.cw_order.specs.declared.order.LabelMark.{LabelMark}
use Rattle.cw_order.specs.declared.order.Order.{Order}
use Rattle.cw_order.specs.declared.order.Order.TheVariants as order
use Rattle.cw_order.specs.declared.order.Orders.{Orders}
use Rattle.cw_order.specs.OrderProgram.{OrderProgram}
use Rattle.cw_tmpl.specs.declared.pieces.Coded.{Coded}
use Rattle.cw_tmpl.specs.declared.pieces.Coded.TheVariants as coded
use Rattle.cw_tmpl.specs.Pieces.{Filling, bytes_with, size_of, target_of, word_before, blanks}
use Rattle.cw_tmpl.specs.Mnemonics.{entry_of_table, change_memory, operate_number, load, memory, code_at}
use Rattle.cw_tmpl.specs.Names.{landing_start, switch_start, has_landing}
use Rattle.cw_tmpl.specs.Named.{is_named_label, is_named_switch}
use Rattle.cw_tmpl.specs.Library.{entry_place, library_bytes}
use Rattle.cw_routines.specs.Ways as ways
use Rattle.cw_routines.specs.Results.{Stands as LibraryStands}
use Rattle.cw_tmpl.specs.Templates.{entry_pieces, segment_word, landing_pieces, switch_pieces}
use Rattle.cw_tmpl.specs.Blocks.{block_at, left_at}
use Rattle.cw_tmpl.specs.ReferenceCode.{names_of}
use Rattle.cw_follow.specs.Placing.{Fills, base_of}
use Rattle.cw_follow.proofs.Bytes.{Filled}
use Rattle.cw_tmpl.proofs.Sizes.{own_place, pieces_by}

-- the bytes of an image, and the places where statements begin in it
pub record Image : Type 0 where
  pub bytes : List ℕ
  pub places : List StatementPlace

-- the observer is told the places of an image, and none is one of the library
pub record Ignores (image : Image) (places : List StatementPlace) : Type 0 where
  pub told : places ≡ image.places
  pub library : (place : ℕ) → place < length library_bytes → lines_at places place ≡ []

-- this instruction stands there, and no statement begins at it, but where it is the first one of a block with which one may begin
pub record HasAt (first : Bool) (image : Image) (place : ℕ) (i : Instr) : Type 0 where
  pub there : view.Has image.bytes place i
  pub free : first ≡ false → lines_at image.places place ≡ []

abbrev pub Has : Image → ℕ → Instr → Type 0
Has image place i = HasAt false image place i

-- these instructions, one after another
abbrev pub HasFrom : Bool → Image → ℕ → List Instr → Type 0
HasFrom first image place [] = Unit {0}
HasFrom first image place (i ∷ is) = HasAt first image place i × HasFrom false image (place + length (bytes_of i)) is

abbrev pub HasAll : Image → ℕ → List Instr → Type 0
HasAll image place is = HasFrom false image place is

-- a word stands in the code
abbrev pub HasWord : Image → (place word : ℕ) → Type 0
HasWord image place word = ways.HasWord image.bytes place word

-- a piece stands there with its word filled in
abbrev pub HasPieceAt : Bool → Image → (word place : ℕ) → Coded → Type 0
HasPieceAt first code w place (coded.Whole i) = HasAt first code place i
HasPieceAt first code w place (coded.Move reg t) = HasAt first code place (i86.MovImm reg (imm.Word w))
HasPieceAt first code w place (coded.Sum reg t) = HasAt first code place (operate_number 0 reg w)
HasPieceAt first code w place (coded.Fetch reg t) = HasAt first code place (load reg (memory (places.Direct w)))
HasPieceAt first code w place (coded.Load t) = HasAt first code place (i86.MovAcc false true false w)
HasPieceAt first code w place (coded.Store t) = HasAt first code place (i86.MovAcc false true true w)
HasPieceAt first code w place (coded.PushCode t) = HasAt first code place (i86.PushRm (code_at w))
HasPieceAt first code w place (coded.Operate op reg t) = HasAt first code place (with_memory op reg w)
HasPieceAt first code w place (coded.Change op reg t) = HasAt first code place (change_memory op w reg)
HasPieceAt first code w place (coded.Call t) = HasAt first code place (i86.Call w)
HasPieceAt first code w place (coded.Jump t) = HasAt first code place (i86.Jump w)
HasPieceAt first code w place (coded.Word t) = HasWord code place w
HasPieceAt first code w place (coded.Data n) = HasWord code place n
HasPieceAt first code w place (coded.Way t) = HasAt first code place (i86.JumpRm (entry_of_table w))

-- these pieces stand one after another from a place
abbrev pub HasPiecesFrom : Bool → Image → Filling → ℕ → List Coded → Type 0
HasPiecesFrom first code value at [] = Unit {0}
HasPiecesFrom first code value at (p ∷ ps) = HasPieceAt first code (word_before value (at + size_of p) (target_of p)) at p × HasPiecesFrom false code value (at + size_of p) ps

abbrev pub HasPieces : Image → Filling → ℕ → List Coded → Type 0
HasPieces code value at ps = HasPiecesFrom false code value at ps

pub stand_both : (code : Image) (value : Filling) (at : ℕ) (ps qs : List Coded) → HasPieces code value at (ps ++ qs) → HasPieces code value at ps × HasPieces code value (at + length (blanks ps)) qs
stand_both code value at [] qs h = let here : at ≡ at + 0 = omega arith in (tt, subst (λ n. HasPieces code value n qs) here h)
stand_both code value at (p ∷ ps) qs h =
    let rest = stand_both code value (at + size_of p) ps qs h.1 in
    let there : at + size_of p + length (blanks ps) ≡ at + length (blanks (p ∷ ps)) = omega (arith, length-append (bytes_with 0 p) (blanks ps)) in
    ((h.0, rest.0), subst (λ n. HasPieces code value n qs) there rest.1)

-- what stands behind some pieces, the first of which may be the first one of a block
pub stand_behind : (first : Bool) (code : Image) (value : Filling) (at : ℕ) (ps qs : List Coded) → 0 < length ps → HasPiecesFrom first code value at (ps ++ qs) → HasPieces code value (at + length (blanks ps)) qs
stand_behind first code value at [] qs some h = absurd (omega arith)
stand_behind first code value at (p ∷ ps) qs some h =
    let there : at + size_of p + length (blanks ps) ≡ at + length (blanks (p ∷ ps)) = omega (arith, length-append (bytes_with 0 p) (blanks ps)) in
    subst (λ n. HasPieces code value n qs) there (stand_both code value (at + size_of p) ps qs h.1).1

-- where the code of the order at a place of the list begins in the image
abbrev pub order_place : (base : ℕ) → Orders → (place : ℕ) → ℕ
order_place base o k = base + own_place o k

-- the code of the block that begins with the order at a place of the list; none where the order stands in one that has begun
abbrev pub pieces_at : Orders → (place : ℕ) → Order → List Coded
pieces_at o k it = pieces_by (names_of o) (own_place o k) k (block_at (left_at 0 o.list k) (drop k o.list)) it

-- whether a statement may begin with an order
abbrev pub may_begin : Order → Bool
may_begin (order.Const w) = true
may_begin (order.Home f n) = true
may_begin (order.FrameHome n) = true
may_begin order.ReadByte = true
may_begin order.WriteByte = true
may_begin (order.CallProc q line) = true
may_begin (order.CallCommon d line) = true
may_begin (order.CallSpecial k line) = true
may_begin (order.LabelOut l) = true
may_begin (order.LabelCommon d) = true
may_begin (order.SwitchOut n) = true
may_begin (order.SwitchCommon d) = true
may_begin (order.ProcOut q) = true
may_begin (order.ProcCommon d) = true
may_begin (order.SpecialOut k) = true
may_begin (order.Jump m) = true
may_begin (order.GoMain m) = true
may_begin (order.GoCommon d) = true
may_begin (order.GoSpecial k) = true
may_begin _ = false

-- and whether one does at the first instruction of its code
abbrev pub first_of : Order → (behind : Bool) → Bool
first_of o behind = may_begin o && behind

abbrev pub is_start : Option Order → Bool
is_start (Some (order.Start line)) = true
is_start _ = false

-- whether the order before a place of a list is a Start
abbrev pub behind_start : List Order → (place : ℕ) → Bool
behind_start list zero = false
behind_start list (suc j) = is_start (slice_get list j)

-- a segment's code in an image: its filled words, its entry, each order's pieces, the landings of the labels that have one and the routines of
-- the switches that something names
pub record Stands (p : OrderProgram) (image : Image) (g : ℕ) (o : Orders) : Type 0 where
  pub filled : Filled p g
  pub open filled use *
  pub entry : HasPieces image value (base_of p g) entry_pieces
  pub orders : (k : ℕ) (it : Order) → slice_get o.list k ≡ Some it → HasPiecesFrom (first_of it (behind_start o.list k)) image value (order_place (base_of p g) o k) (pieces_at o k it)
  pub landings : (l : ℕ) (m : LabelMark) → slice_get o.labels l ≡ Some m → has_landing (is_named_label o) l m ≡ true → HasPieces image value (base_of p g + landing_start (names_of o) l) (landing_pieces (names_of o) (landing_start (names_of o) l) m)
  pub switches : (n : ℕ) (gs : List Goal) → slice_get o.switches n ≡ Some gs → is_named_switch o n ≡ true → HasPieces image value (base_of p g + switch_start (names_of o) n) (switch_pieces (names_of o) (switch_start (names_of o) n) gs)

-- the number of a segment stands in its entry
pub number_there : {p : OrderProgram} {image : Image} {g next base : ℕ} {value : Filling} → Fills p g next value → HasPieces image value base entry_pieces → g < 255
    → HasWord image (base + segment_word) (suc g)
number_there {image = image} {g = g} {base = base} {value = value} fills h few =
    let number_is = fills.number (base + 3 + 2 + 2 + 2 + 2) in
    let number : value 8 3 0 (base + 3 + 2 + 2 + 2 + 2) ≡ suc g = omega arith in
    let nine : segment_word ≡ 9 = refl in
    let there : base + 3 + 2 + 2 + 2 ≡ base + segment_word = omega arith in
    subst (λ m. HasWord image m (suc g)) there (subst (HasWord image (base + 3 + 2 + 2 + 2)) number h.1.1.1.1.0)

-- all segments' codes, and the library
pub record AllStand (p : OrderProgram) (image : Image) : Type 0 where
  pub library : LibraryStands image.bytes
  pub stands : (g : ℕ) (o : Orders) → slice_get p.units g ≡ Some o → Stands p image g o
  -- the way on from a segment
  pub last : (g : ℕ) (o : Orders) (is : slice_get p.units g ≡ Some o) → slice_get p.units (suc g) ≡ None → (stands g o is).next_place ≡ entry_place 0
  pub goes_on : (g : ℕ) (o n : Orders) (is : slice_get p.units g ≡ Some o) → slice_get p.units (suc g) ≡ Some n → (stands g o is).next_place ≡ base_of p (suc g)
