-- A check that jumps back goes to a CALL of the overflow stop, with its line behind it.
use Rattle.std.proofs.Common.{◌≡◌, ⊎_elim, inl, inr, ◌⊎◌, ℕ, zero, suc, ◌+◌, ◌<◌, Bool, true, false, List, [], ◌∷◌, ◌++◌, length, drop, Option, Some, None, refl, sym, ap, ap₂, ◌∙◌, subst, arith, append_assoc}
use Rattle.std.specs.Prelude.{slice_get, slice_index, nat_lt, ◌==◌, ◌&&◌, if◌then◌else◌}
use Rattle.std.proofs.lemmas.Bool.{ltb-true, eqb-true}
use Rattle.cw_order.specs.declared.order.Order.{Order}
use Rattle.cw_order.specs.declared.order.Orders.{Orders}
use Rattle.cw_tmpl.specs.declared.blocks.Block.{Block}
use Rattle.cw_tmpl.specs.declared.pieces.Coded.{Coded}
use Rattle.cw_tmpl.specs.declared.pieces.Coded.TheVariants as coded
use Rattle.cw_tmpl.specs.declared.reach.Call.{Call}
use Rattle.cw_tmpl.specs.Library.{overflow_entry}
use Rattle.cw_tmpl.specs.Mnemonics.{jump_if_no_overflow}
use Rattle.cw_tmpl.specs.Names.{call_place}
use Rattle.cw_tmpl.specs.Pieces.{blanks}
use Rattle.cw_tmpl.specs.Blocks.{block_at, orders_left, left_at}
use Rattle.cw_tmpl.specs.Templates.{entry_pieces, block_pieces, block_size, call_stop, checked, is_close}
use Rattle.cw_tmpl.specs.ShortForms.{Forms, all_near, reaches, is_short, check_of}
use Rattle.cw_tmpl.specs.Backward.{call_for, call_after, calls_from}
use Rattle.cw_tmpl.specs.ReferenceCode.{templates, longest_places, entry_size, reach_of, order_places, names_of, StandsAt, GoesBack}
use Rattle.cw_tmpl.proofs.Lengths.{appended_long}
use Rattle.cw_tmpl.proofs.Endings.{saves, no_jump, check_saved, EndsChecked, ends_checked}
use Rattle.cw_tmpl.proofs.Sizes.{size_to, size_by, size_next, size_everywhere, places_are, own_place, pieces_by, stands_at}
use Rattle.cw_tmpl.proofs.Reaching.{close_is, is_close_where, no_further, next_within}

-- ---- the CALLs of a list

-- the last block with a CALL of its own before a place of the list
abbrev last_to : (longest : List ℕ) → Option Call → (number left : ℕ) → List Order → (place : ℕ) → Option Call
last_to longest last number left os zero = last
last_to longest last number left [] (suc k) = last
last_to longest last number left (o ∷ os) (suc k) =
    let b = block_at left (o ∷ os) in
    let call = call_for longest last number (check_of b o) in
    last_to longest (call_after last (number + 1) call (check_of b o)) (suc number) (orders_left b) os k

call_is : (longest : List ℕ) (last : Option Call) (number left : ℕ) (list : List Order) (k here : ℕ) (o : Order) → here ≡ number + k → slice_get list k ≡ Some o
    → slice_index (calls_from longest last number left list) k ≡ call_for longest (last_to longest last number left list k) here (check_of (block_at (left_at left list k) (drop k list)) o)
call_is longest last number left [] k here o is e = absurd (cc)
call_is longest last number left (x ∷ xs) zero here o is e =
    let same : x ≡ o = cc in
    let first : number ≡ here = omega (arith, is) in
    ap₂ (λ n y. call_for longest last n (check_of (block_at left (x ∷ xs)) y)) first same
call_is longest last number left (x ∷ xs) (suc k) here o is e =
    let b = block_at left (x ∷ xs) in
    let call = call_for longest last number (check_of b x) in
    call_is longest (call_after last (number + 1) call (check_of b x)) (suc number) (orders_left b) xs k here o (omega (arith, is)) e

-- a block before a place of the list has this CALL: its check has its line, and is whole
record Earlier (longest : List ℕ) (last : Option Call) (number left : ℕ) (list : List Order) (k : ℕ) (c : Call) : Type 0 where
  place : ℕ
  it : Order
  before : place < k
  listed : slice_get list place ≡ Some it
  check : check_of (block_at (left_at left list place) (drop place list)) it ≡ Some c.line
  whole : slice_index (calls_from longest last number left list) place ≡ 0
  behind : c.behind ≡ number + place + 1

found : (longest : List ℕ) (last : Option Call) (number left : ℕ) (list : List Order) (k : ℕ) (c : Call) → last_to longest last number left list k ≡ Some c → (last ≡ Some c) ⊎ Earlier longest last number left list k c
found longest last number left list zero c e = inl e
found longest last number left [] (suc k) c e = inl e
found longest last number left (o ∷ os) (suc k) c e =
    ⊎_elim (λ (is : call_after last (number + 1) call check ≡ Some c). after call check refl refl is) (λ (f : Earlier longest next (suc number) (orders_left b) os k c). inr (later f))
    (found longest next (suc number) (orders_left b) os k c e)
  where
    b : Block
    b = block_at left (o ∷ os)

    check : Option ℕ
    check = check_of b o

    call : ℕ
    call = call_for longest last number check

    next : Option Call
    next = call_after last (number + 1) call check

    after : (n : ℕ) (line : Option ℕ) → call ≡ n → check ≡ line → call_after last (number + 1) n line ≡ Some c → (last ≡ Some c) ⊎ Earlier longest last number left (o ∷ os) (suc k) c
    after zero (Some line) is_call is_check is =
        let same : record { line = line; behind = number + 1 } ≡ c = cc in
        inr (record { place = 0; it = o; before = omega arith; listed = refl; check = is_check ∙ ap (λ x. Some x.line) same; whole = is_call; behind = sym (ap (λ x. x.behind) same) ∙ (omega arith) })
    after zero None is_call is_check is = inl is
    after (suc n) (Some line) is_call is_check is = inl is
    after (suc n) None is_call is_check is = inl is

    later : Earlier longest next (suc number) (orders_left b) os k c → Earlier longest last number left (o ∷ os) (suc k) c
    later f = record { place = suc f.place; it = f.it; before = omega (arith, f.before); listed = f.listed; check = f.check; whole = f.whole; behind = omega (arith, f.behind) }

-- ---- the block with the CALL

-- An earlier block ends with the check whole, the CALL of which is the one that the check of a block jumps back to.
pub record CallBefore (o : Orders) (k line : ℕ) : Type 0 where
  pub earlier : ℕ
  pub it : Order
  pub before : earlier < k
  pub listed : slice_get o.list earlier ≡ Some it
  pub ends : EndsChecked (pieces_by (names_of o) (own_place o earlier) earlier (block_at (left_at 0 o.list earlier) (drop earlier o.list)) it) line
  pub place_is : own_place o earlier + length (blanks ends.body) + 2 ≡ call_place (names_of o) k
  -- its end in the code, and in the longest one
  pub ends_at : slice_index (order_places o) (earlier + 1) ≡ own_place o earlier + length (blanks ends.body) + 7
  pub chosen : is_close (slice_index (longest_places o.list) (k + 1)) (slice_index (longest_places o.list) (earlier + 1)) ≡ true

split : (a b : Bool) → a && b ≡ true → (a ≡ true) × (b ≡ true)
split true true e = (refl, refl)
split true false e = absurd (cc)
split false b e = absurd (cc)

pub call_before : (o : Orders) (k line : ℕ) (x : Order) → slice_get o.list k ≡ Some x → check_of (block_at (left_at 0 o.list k) (drop k o.list)) x ≡ Some line
    → is_short (reach_of o) k (block_at (left_at 0 o.list k) (drop k o.list)) x ≡ true → CallBefore o k line
call_before o k line x listed checks short = cases (last_to longest None 0 0 o.list k) refl
  where
    longest : List ℕ
    longest = longest_places o.list

    calls : List ℕ
    calls = calls_from longest None 0 0 o.list

    forms : Forms
    forms = is_short (reach_of o)

    here : Block
    here = block_at (left_at 0 o.list k) (drop k o.list)

    some : 0 < slice_index calls k
    some = ltb-true 0 (slice_index calls k) (sym (ap₂ (λ j c. reaches (reach_of o) k j c) (no_jump here x line checks) checks) ∙ short)

    call : (last : Option Call) → last_to longest None 0 0 o.list k ≡ last → slice_index calls k ≡ call_for longest last k (Some line)
    call last is = call_is longest None 0 0 o.list k k x (omega arith) listed ∙ ap₂ (λ l c. call_for longest l k c) is checks

    from : (c : Call) → c.line ≡ line → slice_index calls k ≡ c.behind → is_close (slice_index longest (k + 1)) (slice_index longest c.behind) ≡ true → Earlier longest None 0 0 o.list k c → CallBefore o k line
    from c same is near f =
        let b = block_at (left_at 0 o.list f.place) (drop f.place o.list) in
        let check : check_of b f.it ≡ Some line = f.check ∙ ap Some same in
        let whole : forms f.place b f.it ≡ false = ap₂ (λ j c. reaches (reach_of o) f.place j c) (no_jump b f.it line check) check ∙ ap (nat_lt 0) f.whole in
        let N = names_of o in
        let own = own_place o f.place in
        let ends : EndsChecked (pieces_by N own f.place b f.it) line =
        subst (λ t. EndsChecked (block_pieces N own f.place t b f.it) line) (sym whole) (ends_checked N own f.place b f.it line check) in
        let size : length (blanks ends.body) + 7 ≡ size_by forms f.place b f.it =
        sym (appended_long ends.body (checked line)) ∙ sym (ap (λ p. length (blanks p)) ends.is) ∙ size_everywhere N own f.place (forms f.place b f.it) b f.it in
        let grows = size_next forms 0 0 o.list f.place f.place f.it (omega arith) f.listed in
        let next : f.place + 1 ≡ suc f.place = omega arith in
        let ends_at : slice_index (order_places o) (f.place + 1) ≡ own + length (blanks ends.body) + 7 =
        omega (arith, places_are forms entry_size 0 0 o.list (f.place + 1) (next_within o.list f.place f.it f.listed), ap (size_to forms 0 0 o.list) next, grows, size) in
        let behind : c.behind ≡ f.place + 1 = omega (arith, f.behind) in
        let at : slice_index (order_places o) (slice_index calls k) ≡ own + length (blanks ends.body) + 7 = ap (slice_index (order_places o)) (is ∙ behind) ∙ ends_at in
        record {
          earlier = f.place;
          it = f.it;
          before = f.before;
          listed = f.listed;
          ends = ends;
          place_is = omega (arith, at);
          ends_at = ends_at;
          chosen = ap (λ n. is_close (slice_index longest (k + 1)) (slice_index longest n)) (sym behind) ∙ near;
        }

    cases : (last : Option Call) → last_to longest None 0 0 o.list k ≡ last → CallBefore o k line
    cases None is = absurd (let none = call None is in omega (arith, some, none))
    cases (Some c) is = both ((c.line == line) && is_close (slice_index longest (k + 1)) (slice_index longest c.behind)) refl
      where
        both : (t : Bool) → ((c.line == line) && is_close (slice_index longest (k + 1)) (slice_index longest c.behind)) ≡ t → CallBefore o k line
        both false fails = absurd (let none : slice_index calls k ≡ 0 = call (Some c) is ∙ ap (λ t. if t then c.behind else 0) fails in omega (arith, some, none))
        both true serves =
            let parts = split (c.line == line) (is_close (slice_index longest (k + 1)) (slice_index longest c.behind)) serves in
            ⊎_elim (λ (none : None ≡ Some c). absurd (cc))
            (λ (f : Earlier longest None 0 0 o.list k c). from c (eqb-true c.line line parts.0) (call (Some c) is ∙ ap (λ t. if t then c.behind else 0) serves) parts.1 f)
            (found longest None 0 0 o.list k c is)

-- ---- the jump

-- the end of the block is close to it
pub back_close : (o : Orders) (k line : ℕ) (x : Order) → slice_get o.list k ≡ Some x → check_of (block_at (left_at 0 o.list k) (drop k o.list)) x ≡ Some line
    → is_short (reach_of o) k (block_at (left_at 0 o.list k) (drop k o.list)) x ≡ true → CallBefore o k line
    → (own_place o k + block_size true (block_at (left_at 0 o.list k) (drop k o.list)) x ≡ slice_index (order_places o) (k + 1)) × (is_close (slice_index (order_places o) (k + 1)) (call_place (names_of o) k) ≡ true)
back_close o k line x listed checks short c =
    let b = block_at (left_at 0 o.list k) (drop k o.list) in
    let forms = is_short (reach_of o) in
    let near = close_is (slice_index (longest_places o.list) (k + 1)) (slice_index (longest_places o.list) (c.earlier + 1)) c.chosen in
    let later = c.before in
    let long_k = places_are all_near entry_size 0 0 o.list (k + 1) (next_within o.list k x listed) in
    let long_c = places_are all_near entry_size 0 0 o.list (c.earlier + 1) (next_within o.list c.earlier c.it c.listed) in
    let our_k = places_are forms entry_size 0 0 o.list (k + 1) (next_within o.list k x listed) in
    let our_c = places_are forms entry_size 0 0 o.list (c.earlier + 1) (next_within o.list c.earlier c.it c.listed) in
    let next : k + 1 ≡ suc k = omega arith in
    let long_next = ap (size_to all_near 0 0 o.list) next in
    let our_next = ap (size_to forms 0 0 o.list) next in
    let long_size = size_next all_near 0 0 o.list k k x (omega arith) listed in
    let our_size = size_next forms 0 0 o.list k k x (omega arith) listed in
    let sized : size_by forms k b x ≡ block_size true b x = ap (λ t. block_size t b x) short in
    let fewer : block_size true b x + 5 ≡ block_size false b x = ap (λ n. block_size true b x + n) (sym (check_saved b x line checks)) ∙ saves b x in
    let far = no_further forms 0 0 o.list (c.earlier + 1) k (omega (arith, later)) in
    let end : own_place o k + block_size true b x ≡ slice_index (order_places o) (k + 1) = omega (arith, our_k, our_next, our_size, sized) in (
      end,
      is_close_where (slice_index (order_places o) (k + 1)) (call_place (names_of o) k)
          (record {
            back = omega (arith, near.back, long_k, long_c, our_k, our_c, long_next, our_next, long_size, our_size, sized, fewer, far.1, c.place_is, c.ends_at);
            ahead = omega (arith, our_k, our_c, our_next, our_size, far.0, c.place_is, c.ends_at);
          }),
    )

pub goes_back : (o : Orders) (k line : ℕ) (x : Order) → slice_get o.list k ≡ Some x → check_of (block_at (left_at 0 o.list k) (drop k o.list)) x ≡ Some line
    → is_short (reach_of o) k (block_at (left_at 0 o.list k) (drop k o.list)) x ≡ true → GoesBack o k line
goes_back o k line x listed checks short =
    let c = call_before o k line x listed checks short in
    let N = names_of o in
    let T = templates N entry_size 0 0 o.list in
    let b = block_at (left_at 0 o.list c.earlier) (drop c.earlier o.list) in
    let own : slice_index (order_places o) c.earlier ≡ own_place o c.earlier = places_are (is_short (reach_of o)) entry_size 0 0 o.list c.earlier (let n = next_within o.list c.earlier c.it c.listed in omega arith) in
    let s : StandsAt T (own_place o c.earlier) (pieces_by N (own_place o c.earlier) c.earlier b c.it) = subst (λ n. StandsAt T n (pieces_by N n c.earlier b c.it)) own (stands_at N o.list c.earlier c.it c.listed) in
    let stop = call_stop overflow_entry line in
    let body : List Coded = c.ends.body ++ coded.Whole (jump_if_no_overflow 5) ∷ [] in
    let parted : c.ends.body ++ checked line ≡ body ++ stop = sym (append_assoc c.ends.body (coded.Whole (jump_if_no_overflow 5) ∷ []) stop) in
    let regrouped : (c.ends.body ++ checked line) ++ s.behind ≡ body ++ (stop ++ s.behind) = ap (λ l. l ++ s.behind) parted ∙ append_assoc body stop s.behind in
    let long = appended_long entry_pieces s.before in
    let all = appended_long entry_pieces (s.before ++ body) in
    let inner = appended_long s.before body in
    let last = appended_long c.ends.body (coded.Whole (jump_if_no_overflow 5) ∷ []) in
    record {
      stops = record {
        before = s.before ++ body;
        behind = s.behind;
        is = s.is ∙ ap (λ p. s.before ++ (p ++ s.behind)) c.ends.is ∙ ap (λ l. s.before ++ l) regrouped ∙ sym (append_assoc s.before body (stop ++ s.behind));
        place_is = sym c.place_is ∙ (omega (arith, s.place_is, long, all, inner, last));
      };
      close = (back_close o k line x listed checks short c).1;
    }
