-- The places of the statements of an image: where the code of the order behind a Start begins, its statement does, and nowhere else any.
use Rattle.std.proofs.Common.{◌≡◌, ◌⊎◌, ⊎_elim, ℕ, zero, suc, ◌+◌, ◌-◌, ◌<◌, ◌≤◌, Bool, true, false, List, [], ◌∷◌, ◌++◌, length, take, drop, Option, None, Some, refl, sym, ap, ap₂, ◌∙◌, subst, inl, inr, arith, length-append, lit<}
use Rattle.std.proofs.lemmas.Bool.{cases_order, eq-eqb, ne_eqb}
use Rattle.std.proofs.lemmas.List.{append-nil}
use Rattle.std.proofs.lemmas.Option.{slice_get_within}
use Rattle.std.specs.Prelude.{◌==◌, if◌then◌else◌, slice_get, slice_index}
use Rattle.cw_image.specs.Begun.{StatementPlace, lines_at}
use Rattle.cw_order.specs.BeginsStatement.{BeginsStatement}
use Rattle.cw_order.specs.declared.order.Order.{Order}
use Rattle.cw_order.specs.declared.order.Order.TheVariants as order
use Rattle.cw_order.specs.declared.order.Orders.{Orders}
use Rattle.cw_order.specs.declared.order.Place.{Place}
use Rattle.cw_order.specs.declared.order.Place.TheVariants as cell
use Rattle.cw_order.specs.OrderProgram.{OrderProgram, order_in}
use Rattle.cw_tmpl.specs.declared.blocks.Element.{Element}
use Rattle.cw_tmpl.specs.declared.blocks.Block.{Block}
use Rattle.cw_tmpl.specs.declared.blocks.Block.TheVariants as block
use Rattle.cw_tmpl.specs.declared.pieces.Coded.{Coded}
use Rattle.cw_tmpl.specs.declared.pieces.Coded.TheVariants as coded
use Rattle.cw_tmpl.specs.Mnemonics.{at_si, ax, load}
use Rattle.cw_tmpl.specs.Pieces.{blanks, bytes_with}
use Rattle.cw_tmpl.specs.Blocks.{is_part, joined, compared_or, both_or, fetched_behind, block_alone, fetched, fetched_from, fetched_or, element_orders, element_fetched, element_at, block_at, orders_left, left_at}
use Rattle.cw_tmpl.specs.Templates.{address_pieces, load_place, part_taken, element_address, block_size, order_size, entry_pieces}
use Rattle.cw_tmpl.specs.ShortForms.{is_short}
use Rattle.cw_tmpl.specs.Named.{is_named_label, is_named_switch}
use Rattle.cw_tmpl.specs.ReferenceCode.{templates, landings, switches, entry_size, order_places, landings_place, switches_place, names_of, pieces_of, orders_code, statements_from, reach_of}
use Rattle.cw_follow.specs.Placing.{total_size, base_of, StandsBehind, Codable}
use Rattle.cw_follow.specs.Passing.{size_at, moved_places, places_from, statement_places, NotBehindStart, PlacesStand}
use Rattle.cw_tmpl.proofs.Growing.{blanks-append}
use Rattle.cw_tmpl.proofs.Shapes.{front_is}
use Rattle.cw_tmpl.proofs.Sizes.{listed, size_to, size_next, left_next, places_are, own_place, size_of_templates, landings_at, size_by}
use Rattle.cw_follow.proofs.InBlocks.{size_split, begins_at}
use Rattle.cw_follow.proofs.Sized.{piece_some}

-- ---- lists of places

lines_at-append : (xs ys : List StatementPlace) (at : ℕ) → lines_at (xs ++ ys) at ≡ lines_at xs at ++ lines_at ys at
lines_at-append [] ys at = refl
lines_at-append (x ∷ xs) ys at =
    let more = lines_at-append xs ys at in
    let either : (b : Bool) → (if b then (x.segment, x.line) ∷ lines_at (xs ++ ys) at else lines_at (xs ++ ys) at) ≡ (if b then (x.segment, x.line) ∷ lines_at xs at else lines_at xs at) ++ lines_at ys at =
    elim [ true ↦ ap (λ l. (x.segment, x.line) ∷ l) more | false ↦ more ] in
    either (x.place == at)

-- where the first place is this one, and where it is another
first_there : (x : StatementPlace) (xs : List StatementPlace) (at : ℕ) → x.place ≡ at → lines_at (x ∷ xs) at ≡ (x.segment, x.line) ∷ lines_at xs at
first_there x xs at is = ap (λ b. if b then (x.segment, x.line) ∷ lines_at xs at else lines_at xs at) (eq-eqb x.place at is)

first_elsewhere : (x : StatementPlace) (xs : List StatementPlace) (at : ℕ) → (x.place ≡ at → ⊥) → lines_at (x ∷ xs) at ≡ lines_at xs at
first_elsewhere x xs at other = ap (λ b. if b then (x.segment, x.line) ∷ lines_at xs at else lines_at xs at) (ne_eqb x.place at other)

-- ---- the statements of one segment

module _ (base n : ℕ) (places : List ℕ) where
  abbrev place_at : ℕ → ℕ
  place_at k = base + slice_index places k

  -- those of orders, the first of which has this number
  abbrev begun_from : ℕ → List Order → List StatementPlace
  begun_from k list = moved_places base n (statements_from k places list)

  place_zero : (k : ℕ) → place_at (k + 0) ≡ place_at k
  place_zero k = let e : k + 0 ≡ k = omega arith in ap place_at e

  place_next : (k j : ℕ) → place_at (k + suc j) ≡ place_at (k + 1 + j)
  place_next k j = let e : k + suc j ≡ k + 1 + j = omega arith in ap place_at e

  -- no Start has this place
  none_there : (k : ℕ) (list : List Order) (at : ℕ) → ((j line : ℕ) → slice_get list j ≡ Some (order.Start line) → place_at (k + j) ≡ at → ⊥) → lines_at (begun_from k list) at ≡ []
  none_there k [] at none = refl
  none_there k (order.Start line ∷ os) at none =
      first_elsewhere (record { place = place_at k; segment = n; line = line }) (begun_from (k + 1) os) at (λ e. none 0 line refl (place_zero k ∙ e))
      ∙ none_there (k + 1) os at (λ j l f e. none (suc j) l f (place_next k j ∙ e))
  none_there k (o ∷ os) at none = none_there (k + 1) os at (λ j l f e. none (suc j) l f (place_next k j ∙ e))

  -- one has it
  one_there : (k : ℕ) (list : List Order) (at j line : ℕ) → slice_get list j ≡ Some (order.Start line) → place_at (k + j) ≡ at
      → ((i l : ℕ) → slice_get list i ≡ Some (order.Start l) → place_at (k + i) ≡ at → i ≡ j) → lines_at (begun_from k list) at ≡ (n, line) ∷ []
  one_there k [] at j line e is only = absurd (cc)
  one_there k (order.Start l ∷ os) at zero line e is only =
      let same : l ≡ line = cc in
      let others : (j' l' : ℕ) → slice_get os j' ≡ Some (order.Start l') → place_at (k + 1 + j') ≡ at → ⊥ = λ j' l' f g. let z : suc j' ≡ 0 = only (suc j') l' f (place_next k j' ∙ g) in omega arith in
      first_there (record { place = place_at k; segment = n; line = l }) (begun_from (k + 1) os) at (sym (place_zero k) ∙ is)
      ∙ ap (λ x. (n, l) ∷ x) (none_there (k + 1) os at others) ∙ ap (λ x. (n, x) ∷ []) same
  one_there k (order.Start l ∷ os) at (suc j) line e is only =
      let elsewhere : place_at k ≡ at → ⊥ = λ g. let z : 0 ≡ suc j = only 0 l refl (place_zero k ∙ g) in omega arith in
      let further : (i l' : ℕ) → slice_get os i ≡ Some (order.Start l') → place_at (k + 1 + i) ≡ at → i ≡ j = λ i l' f g. let z : suc i ≡ suc j = only (suc i) l' f (place_next k i ∙ g) in omega arith in
      first_elsewhere (record { place = place_at k; segment = n; line = l }) (begun_from (k + 1) os) at elsewhere
      ∙ one_there (k + 1) os at j line e (sym (place_next k j) ∙ is) further
  one_there k (o ∷ os) at zero line e is only = absurd (cc)
  one_there k (o ∷ os) at (suc j) line e is only =
      one_there (k + 1) os at j line e (sym (place_next k j) ∙ is) (λ i l' f g. let z : suc i ≡ suc j = only (suc i) l' f (place_next k i ∙ g) in let y : i ≡ j = omega arith in y)

-- ---- the segments

pub total_next : (os : List Orders) (g : ℕ) (o : Orders) → slice_get os g ≡ Some o → total_size (take (suc g) os) ≡ total_size (take g os) + length (blanks (pieces_of o))
total_next [] g o e = absurd (cc)
total_next (x ∷ os) zero o e = let same : x ≡ o = cc in let size : length (blanks (pieces_of x)) ≡ length (blanks (pieces_of o)) = ap (λ y. length (blanks (pieces_of y))) same in omega arith
total_next (x ∷ os) (suc g) o e = omega (arith, total_next os g o e)

total_rises : (os : List Orders) (g n : ℕ) → total_size (take g os) ≤ total_size (take (g + n) os)
total_rises os zero n = omega arith
total_rises [] (suc g) n = omega arith
total_rises (x ∷ os) (suc g) n =
    let e : suc g + n ≡ suc (g + n) = omega arith in
    let same = ap (λ m. total_size (take m (x ∷ os))) e in
    omega (arith, same, total_rises os g n)

module _ (p : OrderProgram) where
  -- the statements of a segment at a place of the image
  abbrev begun_in : (at : ℕ) (o : Orders) (g : ℕ) → List (ℕ × ℕ)
  begun_in at o g = lines_at (moved_places (base_of p g) (g + 1) (orders_code o).statements) at

  begun_zero : (at : ℕ) (o : Orders) (g : ℕ) → begun_in at o g ≡ begun_in at o (g + 0)
  begun_zero at o g = let e : g ≡ g + 0 = omega arith in ap (begun_in at o) e

  begun_next : (at : ℕ) (o : Orders) (g j : ℕ) → begun_in at o (g + 1 + j) ≡ begun_in at o (g + suc j)
  begun_next at o g j = let e : g + 1 + j ≡ g + suc j = omega arith in ap (begun_in at o) e

  -- where those of no segment are there
  none_in : (at g : ℕ) (os : List Orders) → ((j : ℕ) (o : Orders) → slice_get os j ≡ Some o → begun_in at o (g + j) ≡ []) → lines_at (places_from p g os) at ≡ []
  none_in at g [] none = refl
  none_in at g (o ∷ os) none =
      lines_at-append (moved_places (base_of p g) (g + 1) (orders_code o).statements) (places_from p (g + 1) os) at
      ∙ ap₂ (λ x y. x ++ y) (begun_zero at o g ∙ none 0 o refl) (none_in at (g + 1) os (λ j o' e. begun_next at o' g j ∙ none (suc j) o' e))

  -- where those of one segment alone are
  one_in : (at g : ℕ) (os : List Orders) (j : ℕ) (o : Orders) (found : List (ℕ × ℕ)) → slice_get os j ≡ Some o → begun_in at o (g + j) ≡ found
      → ((i : ℕ) (o' : Orders) → slice_get os i ≡ Some o' → (i ≡ j → ⊥) → begun_in at o' (g + i) ≡ []) → lines_at (places_from p g os) at ≡ found
  one_in at g [] j o found e is none = absurd (cc)
  one_in at g (x ∷ os) zero o found e is none =
      let same : x ≡ o = cc in
      let here : begun_in at x g ≡ found = ap (λ y. begun_in at y g) same ∙ begun_zero at o g ∙ is in
      lines_at-append (moved_places (base_of p g) (g + 1) (orders_code x).statements) (places_from p (g + 1) os) at
      ∙ ap₂ (λ a b. a ++ b) here (none_in at (g + 1) os (λ i o' f. begun_next at o' g i ∙ none (suc i) o' f (λ z. omega arith))) ∙ append-nil found
  one_in at g (x ∷ os) (suc j) o found e is none =
      lines_at-append (moved_places (base_of p g) (g + 1) (orders_code x).statements) (places_from p (g + 1) os) at
      ∙ ap₂ (λ a b. a ++ b) (begun_zero at x g ∙ none 0 x refl (λ z. omega arith))
      (one_in at (g + 1) os j o found e (begun_next at o g j ∙ is) (λ i o' f ne. begun_next at o' g i ∙ none (suc i) o' f (λ z. let y : i ≡ j = omega arith in ne y)))

from_zero : (n : ℕ) → 0 + n ≡ n
from_zero n = omega arith

-- ---- the places of orders that have code

abbrev size_before : Orders → (place : ℕ) → ℕ
size_before o k = size_to (is_short (reach_of o)) 0 0 o.list k

size_behind : (o : Orders) (k : ℕ) (a : Order) → slice_get o.list k ≡ Some a → size_before o (suc k) ≡ size_before o k + size_at o k a
size_behind o k a e = size_next (is_short (reach_of o)) 0 0 o.list k k a (omega arith) e

sizes_rise : (o : Orders) (k m : ℕ) → k ≤ m → size_before o k ≤ size_before o m
sizes_rise o k m le =
    let e : k + (m - k) ≡ m = omega arith in
    let same = ap (size_before o) e in
    omega (arith, size_split (is_short (reach_of o)) 0 0 o.list k (m - k) k (omega arith))

pub own_is : (o : Orders) (k : ℕ) (a : Order) → slice_get o.list k ≡ Some a → slice_index (order_places o) k ≡ own_place o k
own_is o k a e = let inside = slice_get_within o.list k a e in places_are (is_short (reach_of o)) entry_size 0 0 o.list k (omega arith)

-- an order that begins a block wherever it stands
here_is : (o : Orders) (k : ℕ) (a : Order) → slice_get o.list k ≡ Some a → (StandsBehind a → ⊥) → size_at o k a ≡ size_by (is_short (reach_of o)) k (block_at 0 (a ∷ drop (suc k) o.list)) a
here_is o k a e never = ap (λ b. size_by (is_short (reach_of o)) k b a) (ap₂ block_at (begins_at o.list k a e never) (front_is o.list k a e))

-- a Start has no code, so the code of the next order begins where it stands
start_size : (o : Orders) (k line : ℕ) → slice_get o.list k ≡ Some (order.Start line) → size_at o k (order.Start line) ≡ 0
start_size o k line e = here_is o k (order.Start line) e (λ x. x)

pieces_some : (p : Coded) (ps : List Coded) → 0 < length (blanks (p ∷ ps))
pieces_some p ps = let some = piece_some p in omega (arith, length-append (bytes_with 0 p) (blanks ps))

behind_some : (xs : List Coded) (p : Coded) (ps : List Coded) → 0 < length (blanks (xs ++ p ∷ ps))
behind_some xs p ps = let some = pieces_some p ps in omega (arith, ap length (blanks-append xs (p ∷ ps)) ∙ length-append (blanks xs) (blanks (p ∷ ps)))

-- an order with which a statement begins has code, alone and at the beginning of a block
single_some : (a : Order) → BeginsStatement a → 0 < order_size a
single_some (order.Const zero) b = lit< tt
single_some (order.Const (suc w)) b = lit< tt
single_some (order.Home f n) b = lit< tt
single_some (order.FrameHome n) b = lit< tt
single_some order.ReadByte b = lit< tt
single_some order.WriteByte b = lit< tt
single_some (order.Jump m) b = lit< tt
single_some (order.GoMain m) b = lit< tt
single_some (order.GoCommon d) b = lit< tt
single_some (order.GoSpecial k) b = omega (arith, listed (order.GoSpecial k))
single_some (order.CallProc q line) b = lit< tt
single_some (order.CallCommon d line) b = lit< tt
single_some (order.CallSpecial k line) b = omega (arith, listed (order.CallSpecial k line))
single_some (order.LabelOut l) b = lit< tt
single_some (order.LabelCommon d) b = lit< tt
single_some (order.SwitchOut n) b = lit< tt
single_some (order.SwitchCommon d) b = lit< tt
single_some (order.ProcOut q) b = lit< tt
single_some (order.ProcCommon d) b = lit< tt
single_some (order.SpecialOut k) b = omega (arith, listed (order.SpecialOut k))
single_some _ b = absurd b

-- the blocks that begin with the address of a place
abbrev Addresses : Block → Type 0
Addresses block.Single = Unit {0}
Addresses (block.Fetch x) = Unit {0}
Addresses (block.FetchPart x t b is_signed) = Unit {0}
Addresses (block.FetchElement e) = Unit {0}
Addresses (block.CompareWord n w c m) = Unit {0}
Addresses (block.FetchBoth n m) = Unit {0}
Addresses _ = ⊥

fetched_addresses : (x : Place) (o : Option Order) → Addresses (fetched x o)
fetched_addresses x None = tt
fetched_addresses x (Some order.Load) = tt
fetched_addresses x (Some (order.LoadPart t b is_signed)) = part (is_part t b)
  where
    part : (c : Bool) → Addresses (if c then block.FetchPart x t b is_signed else block.Single)
    part true = tt
    part false = tt
fetched_addresses x (Some _) = tt

element_addresses : (e : Element) (o : Option Order) (other : Block) → Addresses other → Addresses (element_fetched e o other)
element_addresses e None other h = h
element_addresses e (Some order.Load) other h = tt
element_addresses e (Some _) other h = h

or_addresses : (e : Option Element) (os : List Order) (other : Block) → Addresses other → Addresses (fetched_or e os other)
or_addresses None os other h = h
or_addresses (Some e) os other h = element_addresses e (slice_get os (length (element_orders e))) other h

joined_addresses : (b : Block) (os : List Order) → Addresses b → Addresses (joined b os)
joined_addresses (block.Fetch (cell.Frame n)) os h = compared (slice_get os 2) (slice_get os 3) (slice_get os 4) (fetched_behind n os) (both (slice_get os 2) (block_alone (drop 2 os)) (block_alone (drop 3 os)))
  where
    both : (saves : Option Order) (saved next : Block) → Addresses (both_or n saves saved next (block.Fetch (cell.Frame n)))
    both (Some order.Save) block.Single (block.Fetch (cell.Frame m)) = tt
    both _ _ _ = tt

    compared : (saves puts jumps : Option Order) (other : Block) → Addresses other → Addresses (compared_or n saves puts jumps other)
    compared (Some order.Save) (Some (order.Const w)) (Some (order.JumpIf c m)) other h = tt
    compared _ _ _ other h = h
joined_addresses b os h = h

begins_addresses : (a : Order) (os : List Order) → BeginsStatement a → Addresses (block_at 0 (a ∷ os))
begins_addresses (order.Home f n) os b =
    let l = order.Home f n ∷ os in
    joined_addresses _ l (or_addresses (element_at (Some (cell.Word f n)) l) l (fetched_from (Some (cell.Word f n)) l) (fetched_addresses (cell.Word f n) (slice_get l 1)))
begins_addresses (order.FrameHome n) os b =
    let l = order.FrameHome n ∷ os in
    joined_addresses _ l (or_addresses (element_at (Some (cell.Frame n)) l) l (fetched_from (Some (cell.Frame n)) l) (fetched_addresses (cell.Frame n) (slice_get l 1)))
begins_addresses (order.Const w) os b = tt
begins_addresses order.ReadByte os b = tt
begins_addresses order.WriteByte os b = tt
begins_addresses (order.Jump m) os b = tt
begins_addresses (order.GoMain m) os b = tt
begins_addresses (order.GoCommon d) os b = tt
begins_addresses (order.GoSpecial k) os b = tt
begins_addresses (order.CallProc q line) os b = tt
begins_addresses (order.CallCommon d line) os b = tt
begins_addresses (order.CallSpecial k line) os b = tt
begins_addresses (order.LabelOut l) os b = tt
begins_addresses (order.LabelCommon d) os b = tt
begins_addresses (order.SwitchOut n) os b = tt
begins_addresses (order.SwitchCommon d) os b = tt
begins_addresses (order.ProcOut q) os b = tt
begins_addresses (order.ProcCommon d) os b = tt
begins_addresses (order.SpecialOut k) os b = tt
begins_addresses _ os b = absurd b

-- whatever its form: a short one saves not all of it
single_some_by : (short : Bool) (a : Order) → BeginsStatement a → 0 < block_size short block.Single a
single_some_by false a b = single_some a b
single_some_by true (order.Add line) b = absurd b
single_some_by true (order.Sub line) b = absurd b
single_some_by true (order.Neg line) b = absurd b
single_some_by true (order.Rescale from to line) b = absurd b
single_some_by true (order.Mul s line) b = absurd b
single_some_by true (order.Div s line) b = absurd b
single_some_by true (order.Jump m) b = lit< tt
single_some_by true (order.JumpIf c m) b = absurd b
single_some_by true (order.LoopWay marks) b = absurd b
single_some_by true a b = single_some a b

addresses_some : (short : Bool) (b : Block) (a : Order) → Addresses b → 0 < block_size short block.Single a → 0 < block_size short b a
addresses_some short block.Single a h some = some
addresses_some short (block.Fetch x) a h some = behind_some (address_pieces x) (load_place x) []
addresses_some short (block.FetchPart x t b is_signed) a h some = behind_some (address_pieces x) (load_place x) (part_taken t b is_signed)
addresses_some short (block.FetchElement e) a h some = behind_some (element_address e) (coded.Whole (load ax at_si)) []
addresses_some short (block.FetchBoth n m) a h some = omega arith
addresses_some short (block.CompareWord n w c m) a h some = omega arith
addresses_some short _ a h some = absurd h

begins_some : (short : Bool) (a : Order) (os : List Order) → BeginsStatement a → 0 < block_size short (block_at 0 (a ∷ os)) a
begins_some short a os b = addresses_some short (block_at 0 (a ∷ os)) a (begins_addresses a os b) (single_some_by short a b)

-- at the beginning of a block
pub statement_here : (o : Orders) (k : ℕ) (a : Order) → slice_get o.list k ≡ Some a → left_at 0 o.list k ≡ 0 → BeginsStatement a → 0 < size_at o k a
statement_here o k a e first begins =
    let b = block_at 0 (a ∷ drop (suc k) o.list) in
    subst (λ n. 0 < n) (sym (ap (λ x. size_by (is_short (reach_of o)) k x a) (ap₂ block_at first (front_is o.list k a e)))) (begins_some (is_short (reach_of o) k b a) a (drop (suc k) o.list) begins)

-- and so it is behind a Start
behind_a_start : (list : List Order) (k line : ℕ) → slice_get list k ≡ Some (order.Start line) → left_at 0 list (suc k) ≡ 0
behind_a_start list k line e = left_next 0 list k (order.Start line) e ∙ ap orders_left (ap₂ block_at (begins_at list k (order.Start line) e (λ x. x)) (front_is list k (order.Start line) e))

statement_size : (o : Orders) (k line : ℕ) (a : Order) → slice_get o.list k ≡ Some (order.Start line) → slice_get o.list (suc k) ≡ Some a → BeginsStatement a → 0 < size_at o (suc k) a
statement_size o k line a start e begins = statement_here o (suc k) a e (behind_a_start o.list k line start) begins

-- the code of the orders lies in that of their segment
orders_within : (o : Orders) → own_place o (length o.list) ≤ length (blanks (pieces_of o))
orders_within o =
    let N = names_of o in
    let T = templates N entry_size 0 0 o.list in
    let R = landings N (is_named_label o) (landings_place o) 0 o.labels ++ switches N (is_named_switch o) (switches_place o) 0 o.switches in
    let first = ap length (blanks-append entry_pieces (T ++ R)) ∙ length-append (blanks entry_pieces) (blanks (T ++ R)) in
    let second = ap length (blanks-append T R) ∙ length-append (blanks T) (blanks R) in
    omega (arith, first, second, size_of_templates N entry_size 0 0 o.list)

-- the order at a place of the list of a segment has code there
record CodeAt (p : OrderProgram) (g k : ℕ) (o : Orders) (a : Order) : Type 0 where
  unit : slice_get p.units g ≡ Some o
  listed : slice_get o.list k ≡ Some a
  some : 0 < size_at o k a

module _ (p : OrderProgram) where
  -- where the code of an order begins
  abbrev code_place : (g : ℕ) (o : Orders) (k : ℕ) → ℕ
  code_place g o k = base_of p g + slice_index (order_places o) k

  bases_rise : (g h : ℕ) → g ≤ h → base_of p g ≤ base_of p h
  bases_rise g h le =
      let e : g + (h - g) ≡ h = omega arith in
      let same = ap (λ n. total_size (take n p.units)) e in
      omega (arith, total_rises p.units g (h - g))

  before_next : {g k : ℕ} {o : Orders} {a : Order} → CodeAt p g k o a → code_place g o k + size_at o k a ≤ base_of p (suc g)
  before_next {g} {k} {o} {a} s =
      let inside = slice_get_within o.list k a s.listed in
      omega (arith, own_is o k a s.listed, size_behind o k a s.listed, sizes_rise o (suc k) (length o.list) inside, orders_within o, total_next p.units g o s.unit)

  order_below : (g : ℕ) {k m : ℕ} {o : Orders} {a b : Order} → CodeAt p g k o a → slice_get o.list m ≡ Some b → k < m → code_place g o k + size_at o k a ≤ code_place g o m
  order_below g {k} {m} {o} {a} {b} s listed lt =
      omega (arith, own_is o k a s.listed, own_is o m b listed, size_behind o k a s.listed, sizes_rise o (suc k) m lt)

  -- no code begins in that of another order
  same_code : {g k h m : ℕ} {o u : Orders} {a b : Order} (n : ℕ) → CodeAt p g k o a → CodeAt p h m u b → n < size_at o k a → code_place h u m ≡ code_place g o k + n → (g ≡ h) × (k ≡ m)
  same_code {g} {k} {h} {m} {o} {u} {a} {b} n s t lt e = elim (cases_order g h) [
    | inl same ↦
        let here : slice_get p.units g ≡ Some u = ap (slice_get p.units) same ∙ t.unit in
        let orders : u ≡ o = let unit = s.unit in cc in
        let there : slice_get o.list m ≡ Some b = ap (λ x. slice_get x.list m) (sym orders) ∙ t.listed in
        let at : code_place g o m ≡ code_place g o k + n = sym (ap (λ x. code_place x u m) (sym same) ∙ ap (λ x. code_place g x m) orders) ∙ e in
        let some : 0 < size_at o m b = subst (λ x. 0 < size_at x m b) orders t.some in
        let code : CodeAt p g m o b = record { unit = s.unit; listed = there; some = some } in (
          same,
          elim (cases_order k m) [
            | inl is ↦ is
            | inr (inl less) ↦ absurd (let x = order_below g s there less in omega arith)
            | inr (inr more) ↦ absurd (let x = order_below g code s.listed more in omega arith)
          ],
        )
    | inr (inl less) ↦ absurd (let x = before_next s in let y = bases_rise (suc g) h less in omega arith)
    | inr (inr more) ↦ absurd (let x = before_next t in let y = bases_rise (suc h) g more in let z = t.some in omega arith)
  ]

  -- behind each Start stands an order with code
  abbrev StartsHaveCode : Type 0
  StartsHaveCode = (g k line : ℕ) (o : Orders) → slice_get p.units g ≡ Some o → slice_get o.list k ≡ Some (order.Start line) → (a : Order) × CodeAt p g (suc k) o a

  start_place : (g k line : ℕ) (o : Orders) (a : Order) → slice_get o.list k ≡ Some (order.Start line) → slice_get o.list (suc k) ≡ Some a → code_place g o k ≡ code_place g o (suc k)
  start_place g k line o a listed next =
      omega (arith, own_is o k (order.Start line) listed, own_is o (suc k) a next, size_behind o k (order.Start line) listed, start_size o k line listed)

  -- no Start stands at this place of the image
  none_begins : (at : ℕ) → ((g k line : ℕ) (o : Orders) → slice_get p.units g ≡ Some o → slice_get o.list k ≡ Some (order.Start line) → code_place g o k ≡ at → ⊥) → lines_at (statement_places p) at ≡ []
  none_begins at none = none_in p at 0 p.units (λ g o unit. ap (begun_in p at o) (from_zero g) ∙ none_there (base_of p g) (g + 1) (order_places o) 0 o.list at (λ k line listed e. none g k line o unit listed (ap (code_place g o) (sym (from_zero k)) ∙ e)))

  module _ (have : StartsHaveCode) where
    -- two Starts with the same place are one
    same_start : (g k line h m line' : ℕ) (o u : Orders) → slice_get p.units g ≡ Some o → slice_get o.list k ≡ Some (order.Start line) → slice_get p.units h ≡ Some u → slice_get u.list m ≡ Some (order.Start line')
        → code_place h u m ≡ code_place g o k → (g ≡ h) × (k ≡ m)
    same_start g k line h m line' o u unit listed unit' listed' e =
        let s = have g k line o unit listed in
        let t = have h m line' u unit' listed' in
        let here = start_place g k line o s.0 listed s.1.listed in
        let there = start_place h m line' u t.0 listed' t.1.listed in
        let both = same_code 0 s.1 t.1 s.1.some (let x : code_place h u (suc m) ≡ code_place g o (suc k) + 0 = omega arith in x) in
        let places = both.1 in
        (both.0, (let x : k ≡ m = omega arith in x))

    -- the one at this place
    one_begins : (g k line : ℕ) (o : Orders) → slice_get p.units g ≡ Some o → slice_get o.list k ≡ Some (order.Start line) → lines_at (statement_places p) (code_place g o k) ≡ (g + 1, line) ∷ []
    one_begins g k line o unit listed =
        let at = code_place g o k in
        let only : (i l : ℕ) → slice_get o.list i ≡ Some (order.Start l) → code_place g o (0 + i) ≡ at → i ≡ k =
        λ i l f e. sym (same_start g k line g i l o o unit listed unit f (ap (code_place g o) (sym (from_zero i)) ∙ e)).1 in
        let here : begun_in p at o g ≡ (g + 1, line) ∷ [] = one_there (base_of p g) (g + 1) (order_places o) 0 o.list at k line listed (ap (code_place g o) (from_zero k)) only in
        let others : (h : ℕ) (u : Orders) → slice_get p.units h ≡ Some u → (h ≡ g → ⊥) → begun_in p at u (0 + h) ≡ [] = λ h u unit' other.
        ap (begun_in p at u) (from_zero h) ∙ none_there (base_of p h) (h + 1) (order_places u) 0 u.list at (λ i l f e. other (sym (same_start g k line h i l o u unit listed unit' f (ap (code_place h u) (sym (from_zero i)) ∙ e)).0)) in
        one_in p at 0 p.units g o ((g + 1, line) ∷ []) unit (ap (begun_in p at o) (from_zero g) ∙ here) others

    -- in the code of an order, but at its first byte, none begins
    none_inside : (g k n : ℕ) (o : Orders) (a : Order) → CodeAt p g k o a → 0 < n → n < size_at o k a → lines_at (statement_places p) (code_place g o k + n) ≡ []
    none_inside g k n o a s some lt = none_begins (code_place g o k + n) (λ h m line u unit listed e.
        let t = have h m line u unit listed in
        let there = start_place h m line u t.0 listed t.1.listed in
        let both = same_code n s t.1 lt (let x : code_place h u (suc m) ≡ code_place g o k + n = omega arith in x) in
        let here : slice_get p.units g ≡ Some u = ap (slice_get p.units) both.0 ∙ unit in
        let orders : u ≡ o = let x = s.unit in cc in
        let at : code_place h u (suc m) ≡ code_place g o k = ap (λ x. code_place x u (suc m)) (sym both.0) ∙ ap (λ x. code_place g x (suc m)) orders ∙ ap (code_place g o) (sym both.1) in
        omega arith)

    -- nor at its first byte, where it does not stand behind a Start
    none_at : (g k : ℕ) (o : Orders) (a : Order) → CodeAt p g k o a → NotBehindStart o.list k → lines_at (statement_places p) (code_place g o k) ≡ []
    none_at g k o a s not_behind = none_begins (code_place g o k) (λ h m line u unit listed e.
        let t = have h m line u unit listed in
        let there = start_place h m line u t.0 listed t.1.listed in
        let both = same_code 0 s t.1 s.some (let x : code_place h u (suc m) ≡ code_place g o k + 0 = omega arith in x) in
        let here : slice_get p.units g ≡ Some u = ap (slice_get p.units) both.0 ∙ unit in
        let orders : u ≡ o = let x = s.unit in cc in
        not_behind m line both.1 (ap (λ x. slice_get x.list m) (sym orders) ∙ listed))

    -- nor before the code of the orders of a segment, nor behind it
    none_around : (g at : ℕ) (o : Orders) → slice_get p.units g ≡ Some o → base_of p g ≤ at → at < base_of p (suc g) → (at < base_of p g + entry_size) ⊎ (base_of p g + own_place o (length o.list) ≤ at) → lines_at (statement_places p) at ≡ []
    none_around g at o unit from to outside = none_begins at (λ h m line u unit' listed e.
        let t = have h m line u unit' listed in
        let there = start_place h m line u t.0 listed t.1.listed in
        let inside = slice_get_within u.list (suc m) t.0 t.1.listed in
        let own = own_is u (suc m) t.0 t.1.listed in
        let size = size_behind u (suc m) t.0 t.1.listed in
        let rise = sizes_rise u (suc (suc m)) (length u.list) inside in
        let some = t.1.some in
        let end = before_next t.1 in
        elim (cases_order g h) [
          | inl same ↦
              let here : slice_get p.units g ≡ Some u = ap (slice_get p.units) same ∙ unit' in
              let orders : u ≡ o = cc in
              let base : base_of p h ≡ base_of p g = ap (base_of p) (sym same) in
              let last : own_place u (length u.list) ≡ own_place o (length o.list) = ap (λ x. own_place x (length x.list)) orders in
              ⊎_elim (λ (l : at < base_of p g + entry_size). omega arith) (λ (l : base_of p g + own_place o (length o.list) ≤ at). omega arith) outside
          | inr (inl less) ↦ let x = bases_rise (suc g) h less in omega arith
          | inr (inr more) ↦ let x = bases_rise (suc h) g more in omega arith
        ])

-- ---- the whole

module _ (p : OrderProgram) (image : List ℕ) (coded : Codable p) where
  have_code : StartsHaveCode p
  have_code g k line o unit listed =
      let b = coded.begins g k line (ap (λ u. order_in u k) unit ∙ listed) in
      let next : k + 1 ≡ suc k = omega arith in
      let there : slice_get o.list (suc k) ≡ Some b.0 = ap (slice_get o.list) (sym next) ∙ sym (ap (λ u. order_in u (k + 1)) unit) ∙ b.1 in
      (b.0, record { unit = unit; listed = there; some = statement_size o k line b.0 listed there b.2 })

  pub places_stand : PlacesStand p image (statement_places p)
  places_stand = record {
    starts = λ g k line o unit listed.
        let c = have_code g k line o unit listed in
        ap (lines_at (statement_places p)) (sym (start_place p g k line o c.0 listed c.1.listed)) ∙ one_begins p have_code g k line o unit listed;
    others = λ g k o a unit listed some not_behind. none_at p have_code g k o a (record { unit = unit; listed = listed; some = some }) not_behind;
    inside = λ g k n o a unit listed some lt. none_inside p have_code g k n o a (record { unit = unit; listed = listed; some = omega arith }) some lt;
    around = λ g at o unit from to outside.
        none_around p have_code g at o unit from to
        (⊎_elim (λ (l : at < base_of p g + entry_size). inl l) (λ (l : base_of p g + landings_place o ≤ at). inr (let e = landings_at o in let x : base_of p g + own_place o (length o.list) ≤ at = omega arith in x)) outside);
    library = λ place below. none_begins p place (λ g k line o unit listed e. omega arith);
  }
