-- The image of a program of orders: its code with all words filled, as the orders mean them.
use Rattle.std.specs.Prelude.{◌≡◌, ◌≢◌, ◌⊎◌, ℕ, ◌+◌, ◌-◌, ◌*◌, ◌%◌, ◌<◌, ◌≤◌, ℤ, pos, List, [], ◌∷◌, ◌++◌, length}
use Rattle.std.specs.Prelude.{take, All, Option, None, Some, slice_get, slice_index, slice_index_or}
use Rattle.cw_word.specs.Word.{signed}
use Rattle.cw_track.specs.Machine.{shown_after}
use Rattle.cw_unit.specs.Stop.{Stuck}
use Rattle.cw_unit.specs.declared.unit.Goal.{Goal}
use Rattle.cw_unit.specs.declared.unit.Def.{Def}
use Rattle.cw_unit.specs.declared.unit.Def.TheVariants as def
use Rattle.cw_order.specs.declared.order.Orders.{Orders}
use Rattle.cw_order.specs.declared.order.Order.{Order}
use Rattle.cw_order.specs.declared.order.Order.TheVariants as order
use Rattle.cw_order.specs.OrderProgram.{Tables, OrderProgram, order_at, place_of, defined_at}
use Rattle.cw_order.specs.OrderActions.{home_word}
use Rattle.cw_order.specs.OrderMachine.{order_machine, order_start}
use Rattle.cw_order.specs.NamesAgree.{NamesAgree}
use Rattle.cw_order.specs.HasCode.{HasCode}
use Rattle.cw_order.specs.BeginsStatement.{BeginsStatement}
use Rattle.cw_order.specs.FittingWords.{ConstantsFit, LinesFit}
use Rattle.cw_order.specs.Spans.{SpansInside}
use Rattle.cw_order.specs.Sharing.{DefinitionsShared}
use Rattle.cw_order.specs.Activations.{Callable}
use Rattle.cw_tmpl.specs.Names.{label_start, switch_start, procedure_start}
use Rattle.cw_tmpl.specs.Pieces.{Filling, blanks, filled}
use Rattle.cw_tmpl.specs.Library.{places_of_entries, library_bytes, entry_place}
use Rattle.cw_tmpl.specs.ReferenceCode.{names_of, pieces_of}

-- ---- places in the image

-- the bytes of the codes of segments
abbrev pub total_size : List Orders → ℕ
total_size [] = 0
total_size (o ∷ os) = length (blanks (pieces_of o)) + total_size os

module _ (p : OrderProgram) where
  -- where the code of a segment begins
  abbrev pub base_of : (segment : ℕ) → ℕ
  base_of g = length library_bytes + total_size (take g p.units)

  abbrev pub start_in : (segment : ℕ) → Option Orders → (Orders → ℕ) → ℕ
  start_in g None f = 0
  start_in g (Some o) f = (base_of g + f o) % 65536

  -- where the landing of a label or its code, the routine of a switch and the code of a procedure begin
  abbrev pub label_place : (segment label : ℕ) → ℕ
  label_place g l = start_in g (slice_get p.units g) (λ o. label_start (names_of o) l)

  abbrev pub switch_place : (segment switch : ℕ) → ℕ
  switch_place g n = start_in g (slice_get p.units g) (λ o. switch_start (names_of o) n)

  abbrev pub procedure_place : (segment procedure : ℕ) → ℕ
  procedure_place g q = start_in g (slice_get p.units g) (λ o. procedure_start (names_of o) q)

  -- where what defines a descriptor begins; 0 where nothing does
  abbrev pub definition_place : Option (ℕ × Def) → ℕ
  definition_place (Some (g, def.Label l)) = label_place g l
  definition_place (Some (g, def.Switch n)) = switch_place g n
  definition_place (Some (g, def.Proc q)) = procedure_place g q
  definition_place None = 0

-- ---- filled words

-- What the relocated words of a segment's code get. Places of the segment and the words of limits and of the segment's number are modulo
-- 65,536, and the way to an entry of the library or to a definition is counted from the place after the word.
pub record Fills (p : OrderProgram) (segment next : ℕ) (value : Filling) : Type 0 where
  pub homes : (family offset after : ℕ) → value 1 family offset after ≡ home_word p.addresses segment family offset
  pub bytes : (family offset after : ℕ) → value 2 family offset after ≡ 2 * home_word p.addresses segment family offset % 65536
  pub places : (add after : ℕ) → value 3 0 add after ≡ (base_of p segment + add) % 65536
  pub definitions : (d after : ℕ) → value 4 d 0 after ≡ definition_place p (defined_at p segment d)
  pub ahead : (d after : ℕ) → value 5 d 0 after ≡ (definition_place p (defined_at p segment d) + (65536 - after % 65536)) % 65536
  pub library : (entry after : ℕ) → entry < length places_of_entries → value 7 entry 0 after ≡ (entry_place entry + (65536 - after % 65536)) % 65536
  pub area : (after : ℕ) → value 8 0 0 after ≡ p.limits.area % 65536
  pub frames : (after : ℕ) → value 8 1 0 after ≡ p.limits.frames % 65536
  pub depth : (after : ℕ) → value 8 2 0 after ≡ p.limits.depth % 65536
  pub number : (after : ℕ) → value 8 3 0 after ≡ (segment + 1) % 65536
  pub next_is : (after : ℕ) → value 9 0 0 after ≡ next

-- the way on from a body: the code of the next segment, or the end
abbrev pub place_after : List Orders → (end : ℕ) → ℕ
place_after [] end = entry_place 0
place_after (o ∷ os) end = end

-- the codes of segments one after another, the first at a place
pub data AreCodes (p : OrderProgram) : (segment place : ℕ) → List Orders → List ℕ → Type 0 where
  no_code : {segment place : ℕ} → AreCodes p segment place [] []
  a_code : {segment place : ℕ} {o : Orders} {os : List Orders} {codes : List ℕ} (value : Filling)
      → Fills p segment (place_after os (place + length (blanks (pieces_of o)))) value
      → AreCodes p (segment + 1) (place + length (blanks (pieces_of o))) os codes
      → AreCodes p segment place (o ∷ os) (filled value place (pieces_of o) ++ codes)

-- the library, then the codes of the segments; the number of a segment is a byte
pub record IsImage (p : OrderProgram) (image : List ℕ) : Type 0 where
  pub codes : List ℕ
  pub is : image ≡ library_bytes ++ codes
  pub coded : AreCodes p 0 (length library_bytes) p.units codes
  pub fits : length image ≤ 65536
  pub few : length p.units ≤ 255

-- the orders that can stand behind others in a block
abbrev pub StandsBehind : Order → Type 0
StandsBehind order.Save = Unit {0}
StandsBehind (order.Const w) = Unit {0}
StandsBehind (order.Home f n) = Unit {0}
StandsBehind (order.FrameHome n) = Unit {0}
StandsBehind order.Load = Unit {0}
StandsBehind order.Store = Unit {0}
StandsBehind (order.LoadPart t b is_signed) = Unit {0}
StandsBehind (order.StorePart t b) = Unit {0}
StandsBehind (order.Element lower span line) = Unit {0}
StandsBehind (order.ElementInside lower second width span) = Unit {0}
StandsBehind (order.Entry width word span line) = Unit {0}
StandsBehind (order.InBounds lower upper line) = Unit {0}
StandsBehind (order.Add line) = Unit {0}
StandsBehind (order.Sub line) = Unit {0}
StandsBehind (order.JumpIf c m) = Unit {0}
StandsBehind (order.Mul s line) = Unit {0}
StandsBehind (order.Div s line) = Unit {0}
StandsBehind order.And = Unit {0}
StandsBehind order.Or = Unit {0}
StandsBehind order.Xor = Unit {0}
StandsBehind order.WriteByte = Unit {0}
StandsBehind _ = ⊥

-- What templates need of the orders: their numbers are words, what those of references count on is in the data area, the unit's lists tell
-- what the tables tell, and an index of a switch is a word with a sign. Calls and control arguments are in order, and
-- what descriptors stand for is shared. Each body begins with the
-- first order of its list, a mark stands there or at an order that begins a block wherever it stands and no statement, an order with code that may
-- begin a statement stands behind each Start, the frame area lies in the data area, and operands and records leave room on the control stack.
pub record Codable (p : OrderProgram) : Type 0 where
  pub codes : (g place : ℕ) (o : Order) → order_at p g place ≡ Some o → HasCode o
  pub constants : ConstantsFit p
  pub spans : SpansInside p
  pub lines : LinesFit p
  pub tables : (g : ℕ) (t : Tables) (o : Orders) → slice_get p.tables g ≡ Some t → slice_get p.units g ≡ Some o → NamesAgree t o
  pub paired : (g : ℕ) (t : Tables) → slice_get p.tables g ≡ Some t → (o : Orders) × (slice_get p.units g ≡ Some o)
  pub switches : (g n : ℕ) (o : Orders) (gs : List Goal) → slice_get p.units g ≡ Some o → slice_get o.switches n ≡ Some gs → length gs < 32768
  pub callable : Callable p
  pub shared : DefinitionsShared p
  pub entries : (g : ℕ) (o : Orders) → slice_get p.units g ≡ Some o → o.entry ≡ 0
  pub marks : (g m place : ℕ) → place_of p g m ≡ Some place
      → (place ≡ 0) ⊎ ((o : Order) × (order_at p g place ≡ Some o) × (StandsBehind o → ⊥) × (BeginsStatement o → ⊥))
  pub begins : (g place line : ℕ) → order_at p g place ≡ Some (order.Start line) → (o : Order) × (order_at p g (place + 1) ≡ Some o) × BeginsStatement o
  pub frames : p.limits.frames ≤ p.limits.area
  pub depth : p.limits.depth < 65536
  pub room : p.room ≤ 32000

-- The words of an image are those that the orders begin with; all others are 0.
pub record BeginsWith (p : OrderProgram) (memory : List ℤ) (words : List ℕ) : Type 0 where
  pub area : p.limits.area ≤ 32768
  pub long : length memory ≡ p.limits.area
  pub few : length words ≤ p.limits.area
  pub are_words : All (λ w. w < 65536) words
  pub same : (k : ℕ) → k < p.limits.area → slice_index_or memory k (pos 0) ≡ signed (slice_index words k)

-- The orders do not get stuck.
abbrev pub NeverStuck : (p : OrderProgram) → (memory : List ℤ) → (input : List ℕ) → Type 0
NeverStuck p memory input = (k : ℕ) → (shown_after (order_machine p) k (order_start p memory input)).end ≢ Stuck

-- from the first instruction to the first order: the way past the library, and the entry of the first segment
abbrev pub startup_cost : ℕ
startup_cost = 12
