-- Instructions and words that stand one after another in the bytes of an image, and where those of each order do.
use Rattle.std.proofs.Common.{◌≡◌, ℕ, suc, ◌+◌, ◌≤◌, true, false, List, [], ◌∷◌, ◌++◌, length, drop, Some, None, subst, arith, length-append}
use Rattle.std.specs.Prelude.{slice_get}
use Rattle.cw_i86.specs.declared.instr.Instr.TheVariants as i86
use Rattle.cw_i86.specs.declared.instr.Imm.TheVariants as imm
use Rattle.cw_i86.specs.declared.instr.Place.TheVariants as places
use Rattle.cw_run86.specs.Views.{Has, with_memory}
use Rattle.cw_unit.specs.declared.unit.Goal.{Goal}
use Rattle.cw_order.specs.declared.order.LabelMark.{LabelMark}
use Rattle.cw_order.specs.declared.order.Order.{Order}
use Rattle.cw_order.specs.declared.order.Orders.{Orders}
use Rattle.cw_order.specs.OrderProgram.{OrderProgram}
use Rattle.cw_tmpl.specs.declared.pieces.Coded.{Coded}
use Rattle.cw_tmpl.specs.declared.pieces.Coded.TheVariants as coded
use Rattle.cw_tmpl.specs.Pieces.{Filling, bytes_with, size_of, target_of, word_before, blanks}
use Rattle.cw_tmpl.specs.Mnemonics.{entry_of_table, change_memory, operate_number, load, memory, code_at}
use Rattle.cw_tmpl.specs.Names.{landing_start, switch_start, has_landing}
use Rattle.cw_tmpl.specs.Named.{is_named_label, is_named_switch}
use Rattle.cw_tmpl.specs.Library.{entry_place}
use Rattle.cw_routines.specs.Ways.{HasWord}
use Rattle.cw_routines.specs.Results.{Stands as LibraryStands}
use Rattle.cw_tmpl.specs.Templates.{entry_pieces, landing_pieces, switch_pieces}
use Rattle.cw_tmpl.specs.Blocks.{block_at, left_at}
use Rattle.cw_tmpl.specs.ReferenceCode.{names_of, pieces_of, landings_place, switches_place}
use Rattle.cw_follow.specs.Placing.{Fills, base_of}
use Rattle.cw_tmpl.proofs.Sizes.{own_place, pieces_by}

-- a piece stands there with its word filled in
abbrev pub HasPiece : List ℕ → (word place : ℕ) → Coded → Type 0
HasPiece code w place (coded.Whole i) = Has code place i
HasPiece code w place (coded.Move reg t) = Has code place (i86.MovImm reg (imm.Word w))
HasPiece code w place (coded.Sum reg t) = Has code place (operate_number 0 reg w)
HasPiece code w place (coded.Fetch reg t) = Has code place (load reg (memory (places.Direct w)))
HasPiece code w place (coded.Load t) = Has code place (i86.MovAcc false true false w)
HasPiece code w place (coded.Store t) = Has code place (i86.MovAcc false true true w)
HasPiece code w place (coded.PushCode t) = Has code place (i86.PushRm (code_at w))
HasPiece code w place (coded.Operate op reg t) = Has code place (with_memory op reg w)
HasPiece code w place (coded.Change op reg t) = Has code place (change_memory op w reg)
HasPiece code w place (coded.Call t) = Has code place (i86.Call w)
HasPiece code w place (coded.Jump t) = Has code place (i86.Jump w)
HasPiece code w place (coded.Word t) = HasWord code place w
HasPiece code w place (coded.Data n) = HasWord code place n
HasPiece code w place (coded.Way t) = Has code place (i86.JumpRm (entry_of_table w))

-- these pieces stand one after another from a place
abbrev pub HasPieces : List ℕ → Filling → ℕ → List Coded → Type 0
HasPieces code value at [] = Unit {0}
HasPieces code value at (p ∷ ps) = HasPiece code (word_before value (at + size_of p) (target_of p)) at p × HasPieces code value (at + size_of p) ps

pub stand_both : (code : List ℕ) (value : Filling) (at : ℕ) (ps qs : List Coded) → HasPieces code value at (ps ++ qs) → HasPieces code value at ps × HasPieces code value (at + length (blanks ps)) qs
stand_both code value at [] qs h = let here : at ≡ at + 0 = omega arith in (tt, subst (λ n. HasPieces code value n qs) here h)
stand_both code value at (p ∷ ps) qs h =
    let rest = stand_both code value (at + size_of p) ps qs h.1 in
    let there : at + size_of p + length (blanks ps) ≡ at + length (blanks (p ∷ ps)) = omega (arith, length-append (bytes_with 0 p) (blanks ps)) in
    ((h.0, rest.0), subst (λ n. HasPieces code value n qs) there rest.1)

-- where the code of the order at a place of the list begins in the image
abbrev pub order_place : (base : ℕ) → Orders → (place : ℕ) → ℕ
order_place base o k = base + own_place o k

-- the code of the block that begins with the order at a place of the list; none where the order stands in one that has begun
abbrev pub pieces_at : Orders → (place : ℕ) → Order → List Coded
pieces_at o k order = pieces_by (names_of o) (own_place o k) k (block_at (left_at 0 o.list k) (drop k o.list)) order

-- how the relocated words of a segment are filled, by the place where the next segment begins
pub record Filled (p : OrderProgram) (g : ℕ) : Type 0 where
  pub value : Filling
  pub next_place : ℕ
  pub fills : Fills p g next_place value

-- a segment's code in an image: its filled words, its entry, each order's pieces, the landings of the labels that have one and the routines of
-- the switches that something names
pub record Stands (p : OrderProgram) (image : List ℕ) (g : ℕ) (o : Orders) : Type 0 where
  pub filled : Filled p g
  pub open filled use *
  pub entry : HasPieces image value (base_of p g) entry_pieces
  pub orders : (k : ℕ) (order : Order) → slice_get o.list k ≡ Some order → HasPieces image value (order_place (base_of p g) o k) (pieces_at o k order)
  pub landings : (l : ℕ) (m : LabelMark) → slice_get o.labels l ≡ Some m → has_landing (is_named_label o) l m ≡ true → HasPieces image value (base_of p g + landing_start (names_of o) l) (landing_pieces (names_of o) (landing_start (names_of o) l) m)
  pub landings_within : (l : ℕ) (m : LabelMark) → slice_get o.labels l ≡ Some m → has_landing (is_named_label o) l m ≡ true
      → (landings_place o ≤ landing_start (names_of o) l) × (landing_start (names_of o) l + length (blanks (landing_pieces (names_of o) (landing_start (names_of o) l) m)) ≤ length (blanks (pieces_of o)))
  pub switches_within : (n : ℕ) (gs : List Goal) → slice_get o.switches n ≡ Some gs → is_named_switch o n ≡ true
      → (switches_place o ≤ switch_start (names_of o) n) × (switch_start (names_of o) n + length (blanks (switch_pieces (names_of o) (switch_start (names_of o) n) gs)) ≤ length (blanks (pieces_of o)))
  pub switches : (n : ℕ) (gs : List Goal) → slice_get o.switches n ≡ Some gs → is_named_switch o n ≡ true → HasPieces image value (base_of p g + switch_start (names_of o) n) (switch_pieces (names_of o) (switch_start (names_of o) n) gs)

-- all segments' codes, and the library
pub record AllStand (p : OrderProgram) (image : List ℕ) : Type 0 where
  pub library : LibraryStands image
  pub stands : (g : ℕ) (o : Orders) → slice_get p.units g ≡ Some o → Stands p image g o
  -- the way on from a segment
  pub last : (g : ℕ) (o : Orders) (is : slice_get p.units g ≡ Some o) → slice_get p.units (suc g) ≡ None → (stands g o is).next_place ≡ entry_place 0
  pub goes_on : (g : ℕ) (o n : Orders) (is : slice_get p.units g ≡ Some o) → slice_get p.units (suc g) ≡ Some n → (stands g o is).next_place ≡ base_of p (suc g)
