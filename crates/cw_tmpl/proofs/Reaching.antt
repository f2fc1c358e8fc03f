-- A short jump reaches its mark.
use Rattle.std.proofs.Common.{◌≡◌, ℕ, zero, suc, ◌+◌, ◌%◌, ◌<◌, ◌≤◌, Bool, true, false, List, [], ◌∷◌, length, drop, get_or, Some, refl, sym, ap, ◌∙◌, arith}
use Rattle.std.specs.Prelude.{slice_get, slice_index, nat_le, nat_lt, ◌&&◌, if◌then◌else◌}
use Rattle.std.proofs.lemmas.Bool.{and_from, leb-true, leb-false, le-leb, ltb-true, ltb-false}
use Rattle.cw_i86.specs.State.{sign_extended}
use Rattle.cw_order.specs.declared.order.Order.{Order}
use Rattle.cw_order.specs.declared.order.Orders.{Orders}
use Rattle.cw_tmpl.specs.declared.blocks.Block.{Block}
use Rattle.cw_tmpl.specs.Blocks.{block_at, orders_left, left_at}
use Rattle.cw_tmpl.specs.Templates.{block_size, distance, short_distance, is_close}
use Rattle.cw_tmpl.specs.ShortForms.{Forms, all_near, reaches, is_short, jump_of, check_of}
use Rattle.cw_tmpl.specs.ReferenceCode.{places_from, places_by, longest_places, entry_size, reach_of, order_places, mark_starts}
use Rattle.cw_tmpl.proofs.Endings.{shorter_by}
use Rattle.cw_tmpl.proofs.Sizes.{size_to, size_by, size_next, places_are, own_place, jump_arrives}

-- ---- places that are close

pub record Close (from to : ℕ) : Type 0 where
  pub back : from ≤ to + 127
  pub ahead : to ≤ from + 127

pub close_is : (from to : ℕ) → is_close from to ≡ true → Close from to
close_is from to e = cases (nat_le from (to + 127)) refl (nat_le to (from + 127)) refl e
  where
    cases : (a : Bool) → nat_le from (to + 127) ≡ a → (b : Bool) → nat_le to (from + 127) ≡ b → a && b ≡ true → Close from to
    cases false ea b eb e = absurd (cc)
    cases true ea false eb e = absurd (cc)
    cases true ea true eb e = record { back = leb-true from (to + 127) ea; ahead = leb-true to (from + 127) eb }

pub is_close_where : (from to : ℕ) → Close from to → is_close from to ≡ true
is_close_where from to c = and_from (nat_le from (to + 127)) (nat_le to (from + 127)) (le-leb from (to + 127) c.back) (le-leb to (from + 127) c.ahead)

-- a byte with its sign has their distance
pub as_far : (from to : ℕ) → is_close from to ≡ true → sign_extended (short_distance from to) ≡ distance from to
as_far from to e = cases (nat_lt (short_distance from to) 128) refl
  where
    close : Close from to
    close = close_is from to e

    back : from ≤ to + 127
    back = close.back

    ahead : to ≤ from + 127
    ahead = close.ahead

    cases : (b : Bool) → nat_lt (short_distance from to) 128 ≡ b → (if b then short_distance from to else short_distance from to + 65280) ≡ distance from to
    cases true is = omega (arith, back, ahead, ltb-true (short_distance from to) 128 is)
    cases false is = omega (arith, back, ahead, ltb-false (short_distance from to) 128 is)

-- ---- no two places of the code with short jumps are further apart than those of the longest code

pub no_longer : (forms : Forms) (number left : ℕ) (os : List Order) (k : ℕ) → size_to forms number left os k ≤ size_to all_near number left os k
no_longer forms number left os zero = omega arith
no_longer forms number left [] (suc k) = omega arith
no_longer forms number left (o ∷ os) (suc k) =
    let b = block_at left (o ∷ os) in
    omega (arith, shorter_by (forms number b o) b o, no_longer forms (suc number) (orders_left b) os k)

pub no_further : (forms : Forms) (number left : ℕ) (os : List Order) (i k : ℕ) → i ≤ k
    → (size_to forms number left os i ≤ size_to forms number left os k) × (size_to forms number left os k + size_to all_near number left os i ≤ size_to all_near number left os k + size_to forms number left os i)
no_further forms number left os zero k le = (omega arith, omega (arith, no_longer forms number left os k))
no_further forms number left os (suc i) zero le = absurd (omega (arith, le))
no_further forms number left [] (suc i) (suc k) le = (omega arith, omega arith)
no_further forms number left (o ∷ os) (suc i) (suc k) le =
    let b = block_at left (o ∷ os) in
    let rest = no_further forms (suc number) (orders_left b) os i k (omega (arith, le)) in
    (omega (arith, rest.0), omega (arith, rest.1))

-- past the end of the list of places there is none
places_end : (forms : Forms) (at number left : ℕ) (os : List Order) (k : ℕ) → length os < k → get_or (places_from forms at number left os) k 0 ≡ 0
places_end forms at number left os zero lt = absurd (omega (arith, lt))
places_end forms at number left [] (suc k) lt = refl
places_end forms at number left (o ∷ os) (suc k) lt =
    let b = block_at left (o ∷ os) in
    places_end forms (at + size_by forms number b o) (suc number) (orders_left b) os k (omega (arith, lt))

-- so two places that are close in the longest code are close in it
stays : (forms : Forms) (os : List Order) (k m : ℕ) → k ≤ length os
    → Close (slice_index (places_by all_near os) k) (slice_index (places_by all_near os) m) → Close (slice_index (places_by forms os) k) (slice_index (places_by forms os) m)
stays forms os k m le c = cases (nat_le m (length os)) refl
  where
    longest : slice_index (places_by all_near os) k ≡ entry_size + size_to all_near 0 0 os k
    longest = places_are all_near entry_size 0 0 os k le

    ours : slice_index (places_by forms os) k ≡ entry_size + size_to forms 0 0 os k
    ours = places_are forms entry_size 0 0 os k le

    back : slice_index (places_by all_near os) k ≤ slice_index (places_by all_near os) m + 127
    back = c.back

    ahead : slice_index (places_by all_near os) m ≤ slice_index (places_by all_near os) k + 127
    ahead = c.ahead

    order : (b : Bool) → nat_le k m ≡ b → slice_index (places_by all_near os) m ≡ entry_size + size_to all_near 0 0 os m → slice_index (places_by forms os) m ≡ entry_size + size_to forms 0 0 os m
        → Close (slice_index (places_by forms os) k) (slice_index (places_by forms os) m)
    order true is there here =
        let n = no_further forms 0 0 os k m (leb-true k m is) in
        record { back = omega (arith, longest, ours, there, here, back, ahead, n.0, n.1); ahead = omega (arith, longest, ours, there, here, back, ahead, n.0, n.1) }
    order false is there here =
        let le : m ≤ k = omega (arith, leb-false k m is) in
        let n = no_further forms 0 0 os m k le in
        record { back = omega (arith, longest, ours, there, here, back, ahead, n.0, n.1); ahead = omega (arith, longest, ours, there, here, back, ahead, n.0, n.1) }

    cases : (b : Bool) → nat_le m (length os) ≡ b → Close (slice_index (places_by forms os) k) (slice_index (places_by forms os) m)
    cases true is =
        let inside = leb-true m (length os) is in
        order (nat_le k m) refl (places_are all_near entry_size 0 0 os m inside) (places_are forms entry_size 0 0 os m inside)
    cases false is =
        let past : length os < m = leb-false m (length os) is in
        let there : slice_index (places_by all_near os) m ≡ 0 = places_end all_near entry_size 0 0 os m past in
        let here : slice_index (places_by forms os) m ≡ 0 = places_end forms entry_size 0 0 os m past in
        record { back = omega (arith, longest, ours, there, here, back, no_longer forms 0 0 os k); ahead = omega (arith, here) }

pub next_within : (os : List Order) (k : ℕ) (x : Order) → slice_get os k ≡ Some x → k + 1 ≤ length os
next_within [] k x e = absurd (cc)
next_within (y ∷ ys) zero x e = omega arith
next_within (y ∷ ys) (suc k) x e = omega (arith, next_within ys k x e)

pub close : (o : Orders) (k m : ℕ) (x : Order) → slice_get o.list k ≡ Some x → jump_of (block_at (left_at 0 o.list k) (drop k o.list)) x ≡ Some m
    → is_short (reach_of o) k (block_at (left_at 0 o.list k) (drop k o.list)) x ≡ true → is_close (slice_index (order_places o) (k + 1)) (mark_starts o m) ≡ true
close o k m x listed jumps short =
    let check = check_of (block_at (left_at 0 o.list k) (drop k o.list)) x in
    let chosen : reaches (reach_of o) k (Some m) check ≡ true = ap (λ j. reaches (reach_of o) k j check) (sym jumps) ∙ short in
    let far = close_is (slice_index (longest_places o.list) (k + 1)) (slice_index (longest_places o.list) (slice_index o.marks m)) chosen in
    is_close_where (slice_index (order_places o) (k + 1)) (mark_starts o m) (stays (is_short (reach_of o)) o.list (k + 1) (slice_index o.marks m) (next_within o.list k x listed) far)

-- from where the block that begins with an order of the list stands: its end is that of its jump
pub closes : (o : Orders) (k m : ℕ) (b : Block) (x : Order) → slice_get o.list k ≡ Some x → block_at (left_at 0 o.list k) (drop k o.list) ≡ b → jump_of b x ≡ Some m → is_short (reach_of o) k b x ≡ true
    → is_close (own_place o k + block_size true b x) (mark_starts o m) ≡ true
closes o k m b x listed same jumps short =
    let c = block_at (left_at 0 o.list k) (drop k o.list) in
    let forms = is_short (reach_of o) in
    let here : jump_of c x ≡ Some m = ap (λ y. jump_of y x) same ∙ jumps in
    let chosen : is_short (reach_of o) k c x ≡ true = ap (λ y. is_short (reach_of o) k y x) same ∙ short in
    let next : k + 1 ≡ suc k = omega arith in
    let sized : size_by forms k c x ≡ block_size true b x = ap (λ y. size_by forms k y x) same ∙ ap (λ t. block_size t b x) short in
    let size = size_next forms 0 0 o.list k k x (omega arith) listed in
    let behind : size_to forms 0 0 o.list (k + 1) ≡ size_to forms 0 0 o.list (suc k) = ap (size_to forms 0 0 o.list) next in
    let end : slice_index (order_places o) (k + 1) ≡ own_place o k + block_size true b x = omega (arith, places_are forms entry_size 0 0 o.list (k + 1) (next_within o.list k x listed), behind, size, sized) in
    ap (λ n. is_close n (mark_starts o m)) (sym end) ∙ close o k m x listed here chosen

-- a short jump by the distance to a place
pub short_arrives : (base own n to : ℕ) → is_close (own + n) to ≡ true → (base + own + n + sign_extended (short_distance (own + n) to)) % 65536 ≡ (base + to) % 65536
short_arrives base own n to c = ap (λ d. (base + own + n + d) % 65536) (as_far (own + n) to c) ∙ jump_arrives base own n to
