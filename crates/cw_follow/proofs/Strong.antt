-- In an image with the places of its statements, instructions stand at which no statement begins, but for the first one of a block.
use Rattle.std.proofs.Common.{◌≡◌, ℕ, zero, suc, ◌+◌, ◌<◌, ◌≤◌, Bool, true, false, List, [], ◌∷◌, ◌++◌, length, drop, Some, refl, sym, ap, ap₂, ◌∙◌, inl, inr, ◌⊎◌, arith, length-append}
use Rattle.std.proofs.lemmas.Bool.{true≢false}
use Rattle.std.specs.Prelude.{◌&&◌, slice_get, slice_index}
use Rattle.cw_image.specs.Begun.{lines_at}
use Rattle.cw_order.specs.declared.order.Order.{Order}
use Rattle.cw_order.specs.declared.order.Orders.{Orders}
use Rattle.cw_order.specs.OrderProgram.{OrderProgram}
use Rattle.cw_tmpl.specs.declared.pieces.Coded.{Coded}
use Rattle.cw_tmpl.specs.declared.pieces.Coded.TheVariants as coded
use Rattle.cw_tmpl.specs.Pieces.{Filling, blanks, size_of, target_of, word_before}
use Rattle.cw_tmpl.specs.Templates.{entry_pieces, landing_pieces, switch_pieces}
use Rattle.cw_tmpl.specs.ShortForms.{is_short}
use Rattle.cw_tmpl.specs.Blocks.{block_at, left_at}
use Rattle.cw_tmpl.specs.Names.{landing_start, switch_start}
use Rattle.cw_tmpl.specs.Named.{is_named_label, is_named_switch}
use Rattle.cw_tmpl.specs.ReferenceCode.{names_of, pieces_of, templates, landings, switches, entry_size, order_places, landings_place, switches_place, reach_of}
use Rattle.cw_tmpl.proofs.Growing.{blanks-append}
use Rattle.cw_tmpl.proofs.Sizes.{size_everywhere, own_place}
use Rattle.cw_order.specs.BeginsStatement.{BeginsStatement}
use Rattle.cw_order.specs.declared.order.Order.TheVariants as order
use Rattle.cw_order.specs.OrderProgram.{order_in}
use Rattle.cw_run86.proofs.Sizes.{some_bytes}
use Rattle.cw_follow.specs.Placing.{base_of, Codable}
use Rattle.cw_follow.proofs.Sized.{piece_some}
use Rattle.cw_follow.specs.Passing.{size_at, NotBehindStart, PlacesStand}
use Rattle.cw_follow.proofs.Bytes as raw
use Rattle.cw_follow.proofs.Standing.{Image, HasPieceAt, HasPiecesFrom, may_begin, first_of, is_start, behind_start, order_place, pieces_at, Stands, AllStand}
use Rattle.cw_follow.proofs.StatementPlaces.{total_next, own_is}

-- ---- pieces

one_strong : (first : Bool) (image : Image) (w place : ℕ) (p : Coded) → raw.HasPiece image.bytes w place p → (first ≡ false → lines_at image.places place ≡ []) → HasPieceAt first image w place p
one_strong first image w place (coded.Word t) h free = h
one_strong first image w place (coded.Data n) h free = h
one_strong first image w place _ h free = record { there = h; free = free }

pieces_strong : (first : Bool) (image : Image) (value : Filling) (at : ℕ) (ps : List Coded) → raw.HasPieces image.bytes value at ps
    → ((n : ℕ) → n < length (blanks ps) → (n ≡ 0 → first ≡ false) → lines_at image.places (at + n) ≡ []) → HasPiecesFrom first image value at ps
pieces_strong first image value at [] h free = tt
pieces_strong first image value at (p ∷ ps) h free =
    let w = word_before value (at + size_of p) (target_of p) in
    let none : at + 0 ≡ at = omega arith in
    let long : length (blanks (p ∷ ps)) ≡ size_of p + length (blanks ps) = length-append _ (blanks ps) in
    let some = piece_some p in (
      one_strong first image w at p h.0 (λ e. ap (lines_at image.places) (sym none) ∙ free 0 (omega arith) (λ z. e)),
      pieces_strong false image value (at + size_of p) ps h.1 (λ n lt no.
          let there : at + (size_of p + n) ≡ at + size_of p + n = omega arith in
          ap (lines_at image.places) (sym there) ∙ free (size_of p + n) (omega arith) (λ z. absurd (omega arith))),
    )

-- ---- the whole

-- pieces that stand there begin in the image
piece_below : (first : Bool) (image : Image) (w place : ℕ) (p : Coded) → HasPieceAt first image w place p → place < length image.bytes
piece_below first image w place (coded.Word t) h = let within = h.within in omega arith
piece_below first image w place (coded.Data n) h = let within = h.within in omega arith
piece_below first image w place (coded.Whole i) h = let within = h.there.within in let some = some_bytes i in omega arith
piece_below first image w place _ h = let within = h.there.within in omega arith

pub pieces_below : (first : Bool) (image : Image) (value : Filling) (at : ℕ) (ps : List Coded) → 0 < length (blanks ps) → HasPiecesFrom first image value at ps → at < length image.bytes
pieces_below first image value at [] some h = absurd (omega arith)
pieces_below first image value at (p ∷ ps) some h = piece_below first image (word_before value (at + size_of p) (target_of p)) at p h.0

-- a statement may begin with an order, or it does not
statement_or_not : (a : Order) → (BeginsStatement a × (may_begin a ≡ true)) ⊎ ((may_begin a ≡ false) × (BeginsStatement a → ⊥))
statement_or_not (order.Const w) = inl (tt, refl)
statement_or_not (order.Home f n) = inl (tt, refl)
statement_or_not (order.FrameHome n) = inl (tt, refl)
statement_or_not order.ReadByte = inl (tt, refl)
statement_or_not order.WriteByte = inl (tt, refl)
statement_or_not (order.Jump m) = inl (tt, refl)
statement_or_not (order.GoMain m) = inl (tt, refl)
statement_or_not (order.GoCommon d) = inl (tt, refl)
statement_or_not (order.GoSpecial k) = inl (tt, refl)
statement_or_not (order.CallProc q line) = inl (tt, refl)
statement_or_not (order.CallCommon d line) = inl (tt, refl)
statement_or_not (order.CallSpecial k line) = inl (tt, refl)
statement_or_not (order.LabelOut l) = inl (tt, refl)
statement_or_not (order.LabelCommon d) = inl (tt, refl)
statement_or_not (order.SwitchOut n) = inl (tt, refl)
statement_or_not (order.SwitchCommon d) = inl (tt, refl)
statement_or_not (order.ProcOut q) = inl (tt, refl)
statement_or_not (order.ProcCommon d) = inl (tt, refl)
statement_or_not (order.SpecialOut k) = inl (tt, refl)
statement_or_not _ = inr (refl, λ b. b)

pub may_of : (a : Order) → BeginsStatement a → may_begin a ≡ true
may_of a b = elim (statement_or_not a) [ inl is ↦ is.1 | inr none ↦ absurd (none.1 b) ]

pub begins_statement : (a : Order) → may_begin a ≡ true → BeginsStatement a
begins_statement a may = elim (statement_or_not a) [ inl is ↦ is.0 | inr none ↦ absurd (true≢false (sym may ∙ none.0)) ]

module _ (p : OrderProgram) (image : Image) (coded : Codable p) (stand : PlacesStand p image.bytes image.places) where
  module _ (g : ℕ) (o : Orders) (unit : slice_get p.units g ≡ Some o) (s : raw.Stands p image.bytes g o) where
    base_next : base_of p (suc g) ≡ base_of p g + length (blanks (pieces_of o))
    base_next = let t = total_next p.units g o unit in omega arith

    entry_within : entry_size ≤ length (blanks (pieces_of o))
    entry_within =
        let T = templates (names_of o) entry_size 0 0 o.list ++ (landings (names_of o) (is_named_label o) (landings_place o) 0 o.labels ++ switches (names_of o) (is_named_switch o) (switches_place o) 0 o.switches) in
        omega (arith, ap length (blanks-append entry_pieces T) ∙ length-append (blanks entry_pieces) (blanks T))

    -- behind a Start stands an order with which a statement may begin
    behind_may : (k : ℕ) (a : Order) → slice_get o.list k ≡ Some a → first_of a (behind_start o.list k) ≡ false → NotBehindStart o.list k
    behind_may k a listed none j line e start =
        let next : j + 1 ≡ k = omega arith in
        let b = coded.begins g j line (ap (λ u. order_in u j) unit ∙ start) in
        let here : slice_get o.list k ≡ Some b.0 = ap (slice_get o.list) (sym next) ∙ sym (ap (λ u. order_in u (j + 1)) unit) ∙ b.1 in
        let same : b.0 ≡ a = cc in
        let may : may_begin a ≡ true = ap may_begin (sym same) ∙ may_of b.0 b.2 in
        let behind : behind_start o.list k ≡ true = ap (behind_start o.list) e ∙ ap is_start start in
        let both : first_of a (behind_start o.list k) ≡ true = ap₂ (λ x y. x && y) may behind in
        true≢false (sym both ∙ none)

    free_in : (k : ℕ) (a : Order) → slice_get o.list k ≡ Some a → (n : ℕ) → n < size_at o k a → (n ≡ 0 → first_of a (behind_start o.list k) ≡ false) → lines_at image.places (base_of p g + slice_index (order_places o) k + n) ≡ []
    free_in k a listed zero lt none =
        let here : base_of p g + slice_index (order_places o) k ≡ base_of p g + slice_index (order_places o) k + 0 = omega arith in
        ap (lines_at image.places) (sym here) ∙ stand.others g k o a unit listed lt (behind_may k a listed (none refl))
    free_in k a listed (suc n) lt none = stand.inside g k (suc n) o a unit listed (omega arith) lt

    -- no line begins in the code behind the orders
    free_behind : (start long n : ℕ) → landings_place o ≤ start → start + long ≤ length (blanks (pieces_of o)) → n < long → lines_at image.places (base_of p g + start + n) ≡ []
    free_behind start long n from to lt =
        let next = base_next in
        let at = base_of p g + start + n in
        stand.around g at o unit (omega arith) (let x : at < base_of p (suc g) = omega arith in x) (inr (let x : base_of p g + landings_place o ≤ at = omega arith in x))

    abbrev strong_here : Stands p image g o
    strong_here = record {
      filled = s.filled;
      entry = pieces_strong false image s.value (base_of p g) entry_pieces s.entry (λ n lt no.
          let next = base_next in
          let within = entry_within in
          stand.around g (base_of p g + n) o unit (omega arith) (let l : base_of p g + n < base_of p (suc g) = omega arith in l) (inl (let l : base_of p g + n < base_of p g + entry_size = omega arith in l)));
      orders = λ k a listed. pieces_strong (first_of a (behind_start o.list k)) image s.value (order_place (base_of p g) o k) (pieces_at o k a) (s.orders k a listed) (λ n lt none.
          let long = size_everywhere (names_of o) (own_place o k) k (is_short (reach_of o) k (block_at (left_at 0 o.list k) (drop k o.list)) a) (block_at (left_at 0 o.list k) (drop k o.list)) a in
          let own = own_is o k a listed in
          let there : base_of p g + slice_index (order_places o) k + n ≡ order_place (base_of p g) o k + n = omega arith in
          ap (lines_at image.places) (sym there) ∙ free_in k a listed n (let l : n < size_at o k a = omega arith in l) none);
      landings = λ l m listed has. pieces_strong false image s.value (base_of p g + landing_start (names_of o) l) (landing_pieces (names_of o) (landing_start (names_of o) l) m) (s.landings l m listed has) (λ n lt no.
          let within = s.landings_within l m listed has in
          free_behind (landing_start (names_of o) l) _ n within.0 within.1 lt);
      switches = λ j gs listed named. pieces_strong false image s.value (base_of p g + switch_start (names_of o) j) (switch_pieces (names_of o) (switch_start (names_of o) j) gs) (s.switches j gs listed named) (λ n lt no.
          let within = s.switches_within j gs listed named in
          let from = within.0 in
          free_behind (switch_start (names_of o) j) _ n (let x : landings_place o ≤ switch_start (names_of o) j = omega arith in x) within.1 lt);
    }

  pub all_strong : raw.AllStand p image.bytes → AllStand p image
  all_strong all = record {
    library = all.library;
    stands = λ g o is. strong_here g o is (all.stands g o is);
    last = λ g o is none. all.last g o is none;
    goes_on = λ g o n is next. all.goes_on g o n is next;
  }
