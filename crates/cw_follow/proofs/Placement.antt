-- In the image of a program of orders, the instructions of each order stand at their places.
use Rattle.std.proofs.Common.{◌≡◌, ℕ, zero, suc, ◌+◌, ◌<◌, ◌≤◌, List, [], ◌∷◌, ◌++◌, length, take, drop, refl, sym, ap, ◌∙◌, subst, arith, lit<, append_assoc, length-append, Some, None}
use Rattle.std.specs.Prelude.{Bool, true, false, slice_get, slice_index}
use Rattle.cw_unit.specs.declared.unit.Goal.{Goal}
use Rattle.cw_order.specs.declared.order.LabelMark.{LabelMark}
use Rattle.cw_order.specs.declared.order.Order.{Order}
use Rattle.cw_order.specs.declared.order.Order.TheVariants as order
use Rattle.cw_order.specs.declared.order.Orders.{Orders}
use Rattle.cw_order.specs.OrderProgram.{OrderProgram, order_in, order_at}
use Rattle.cw_tmpl.specs.declared.pieces.Coded.{Coded}
use Rattle.cw_tmpl.specs.Pieces.{Filling, blanks, filled}
use Rattle.cw_tmpl.specs.Library.{library_bytes, entry_place}
use Rattle.cw_routines.specs.Results.{Stands as LibraryStands}
use Rattle.cw_tmpl.specs.Templates.{entry_pieces, landing_pieces, switch_pieces}
use Rattle.cw_tmpl.specs.ShortForms.{is_short}
use Rattle.cw_tmpl.specs.Blocks.{block_at, left_at}
use Rattle.cw_tmpl.specs.Names.{Names, mark_place, landing_start, has_landing, landing_bytes, switch_start, switch_bytes, place_of_one}
use Rattle.cw_tmpl.specs.Named.{is_named_label, is_named_switch}
use Rattle.cw_tmpl.specs.ReferenceCode.{templates, landing_where, landings, switch_where, switches, landing_places, landing_sizes, switch_places, landings_place, switches_place, names_of, pieces_of, entry_size, reach_of}
use Rattle.cw_follow.specs.Placing.{Fills, total_size, base_of, place_after, AreCodes, no_code, a_code, IsImage, Codable}
use Rattle.cw_follow.proofs.Fits.{OrderFits, NumberFits, fits_at}
use Rattle.cw_follow.proofs.Fine.{AllFine, pieces_there, entry_fine, base_fine, switch_fine, block_fine}
use Rattle.cw_tmpl.proofs.Growing.{blanks-append}
use Rattle.cw_tmpl.proofs.Filling.{filled-append, length-filled}
use Rattle.cw_tmpl.proofs.Sizes.{in_middle, own_place, size_to, size_of_templates, landings_at, pieces_by}
use Rattle.cw_tmpl.proofs.Ways.{landing_long, routine_long, size_of_landings}
use Rattle.cw_follow.proofs.Bytes.{HasPieces, order_place, pieces_at, Stands, AllStand}

-- ---- one segment

-- a part of pieces, in the middle of the others, so many bytes behind the first one
record InMiddle (all : List Coded) (offset : ℕ) (part : List Coded) : Type 0 where
  before : List Coded
  rest : List Coded
  is : all ≡ before ++ (part ++ rest)
  long : length (blanks before) ≡ offset

behind_first : (first : List Coded) (all : List Coded) (n offset : ℕ) (part : List Coded) → length (blanks first) ≡ n → InMiddle all offset part → InMiddle (first ++ all) (n + offset) part
behind_first first all n offset part e m = record {
  before = first ++ m.before;
  rest = m.rest;
  is = ap (λ l. first ++ l) m.is ∙ sym (append_assoc first m.before (part ++ m.rest));
  long = omega (arith, ap length (blanks-append first m.before), length-append (blanks first) (blanks m.before), e, m.long);
}

before_others : (all others : List Coded) (offset : ℕ) (part : List Coded) → InMiddle all offset part → InMiddle (all ++ others) offset part
before_others all others offset part m = record {
  before = m.before;
  rest = m.rest ++ others;
  is = ap (λ l. l ++ others) m.is ∙ append_assoc m.before (part ++ m.rest) others ∙ ap (λ l. m.before ++ l) (append_assoc part m.rest others);
  long = m.long;
}

first_of_all : (part rest : List Coded) → InMiddle (part ++ rest) 0 part
first_of_all part rest = record { before = []; rest = rest; is = refl; long = refl }

at_offset : (all : List Coded) (m n : ℕ) (part : List Coded) → m ≡ n → InMiddle all m part → InMiddle all n part
at_offset all m n part e i = subst (λ k. InMiddle all k part) e i

order_in_middle : (names : Names) (at : ℕ) (list : List Order) (k : ℕ) (o : Order) → slice_get list k ≡ Some o
    → InMiddle (templates names at 0 0 list) (size_to (is_short names.reach) 0 0 list k) (pieces_by names (at + size_to (is_short names.reach) 0 0 list k) k (block_at (left_at 0 list k) (drop k list)) o)
order_in_middle names at list k o e = let m = in_middle names at 0 0 list k k o (omega arith) e in record { before = m.before; rest = m.behind; is = m.is; long = m.size }

first_landing : (has : Bool) (names : Names) (at : ℕ) (m : LabelMark) (rest : List Coded) → has ≡ true → InMiddle (landing_where has names at m ++ rest) 0 (landing_pieces names at m)
first_landing true names at m rest e = first_of_all (landing_pieces names at m) rest
first_landing false names at m rest e = absurd (cc)

-- the place of a landing less that of the first one
landing_in_middle : (names : Names) (named : ℕ → Bool) (at l : ℕ) (list : List LabelMark) (k : ℕ) (m : LabelMark) → slice_get list k ≡ Some m → has_landing named (l + k) m ≡ true
    → (offset : ℕ) × (slice_index (landing_places named at l list) k ≡ at + offset) × InMiddle (landings names named at l list) offset (landing_pieces names (at + offset) m)
landing_in_middle names named at l [] k m e has = absurd (cc)
landing_in_middle names named at l (x ∷ xs) zero m e has =
    let same : x ≡ m = cc in
    let here : at ≡ at + 0 = omega arith in
    let number : l + 0 ≡ l = omega arith in
    let has' : has_landing named l x ≡ true = ap (has_landing named l) same ∙ ap (λ n. has_landing named n m) (sym number) ∙ has in
    let rest = landings names named (at + landing_bytes (has_landing named l x)) (suc l) xs in (
      0,
      ap (λ b. place_of_one b at) has' ∙ here,
      subst (λ y. InMiddle (landings names named at l (x ∷ xs)) 0 (landing_pieces names (at + 0) y)) same
          (subst (λ n. InMiddle (landings names named at l (x ∷ xs)) 0 (landing_pieces names n x)) here (first_landing (has_landing named l x) names at x rest has')),
    )
landing_in_middle names named at l (x ∷ xs) (suc k) m e has =
    let own = has_landing named l x in
    let next = at + landing_bytes own in
    let number : l + suc k ≡ suc l + k = omega arith in
    let i = landing_in_middle names named next (suc l) xs k m e (ap (λ n. has_landing named n m) (sym number) ∙ has) in
    let there : next + i.0 ≡ at + (landing_bytes own + i.0) = omega arith in (
      landing_bytes own + i.0,
      i.1 ∙ there,
      subst (λ n. InMiddle (landings names named at l (x ∷ xs)) (landing_bytes own + i.0) (landing_pieces names n m)) there
          (behind_first (landing_where own names at x) (landings names named next (suc l) xs) (landing_bytes own) i.0 (landing_pieces names (next + i.0) m) (landing_long own names at x) i.2),
    )

first_switch : (has : Bool) (names : Names) (at : ℕ) (gs : List Goal) (rest : List Coded) → has ≡ true → InMiddle (switch_where has names at gs ++ rest) 0 (switch_pieces names at gs)
first_switch true names at gs rest e = first_of_all (switch_pieces names at gs) rest
first_switch false names at gs rest e = absurd (cc)

-- the same of the routine of a switch
switch_in_middle : (names : Names) (named : ℕ → Bool) (at n : ℕ) (list : List (List Goal)) (k : ℕ) (gs : List Goal) → slice_get list k ≡ Some gs → named (n + k) ≡ true
    → (offset : ℕ) × (slice_index (switch_places named at n list) k ≡ at + offset) × InMiddle (switches names named at n list) offset (switch_pieces names (at + offset) gs)
switch_in_middle names named at n [] k gs e has = absurd (cc)
switch_in_middle names named at n (x ∷ xs) zero gs e has =
    let same : x ≡ gs = cc in
    let here : at ≡ at + 0 = omega arith in
    let number : n + 0 ≡ n = omega arith in
    let has' : named n ≡ true = ap named (sym number) ∙ has in
    let rest = switches names named (at + switch_bytes (named n) x) (suc n) xs in (
      0,
      ap (λ b. place_of_one b at) has' ∙ here,
      subst (λ y. InMiddle (switches names named at n (x ∷ xs)) 0 (switch_pieces names (at + 0) y)) same
          (subst (λ m. InMiddle (switches names named at n (x ∷ xs)) 0 (switch_pieces names m x)) here (first_switch (named n) names at x rest has')),
    )
switch_in_middle names named at n (x ∷ xs) (suc k) gs e has =
    let next = at + switch_bytes (named n) x in
    let number : n + suc k ≡ suc n + k = omega arith in
    let i = switch_in_middle names named next (suc n) xs k gs e (ap named (sym number) ∙ has) in
    let there : next + i.0 ≡ at + (switch_bytes (named n) x + i.0) = omega arith in (
      switch_bytes (named n) x + i.0,
      i.1 ∙ there,
      subst (λ m. InMiddle (switches names named at n (x ∷ xs)) (switch_bytes (named n) x + i.0) (switch_pieces names m gs)) there
          (behind_first (switch_where (named n) names at x) (switches names named next (suc n) xs) (switch_bytes (named n) x) i.0 (switch_pieces names (next + i.0) gs) (routine_long (named n) names at x) i.2),
    )

whole_within : (all : List Coded) (offset : ℕ) (part : List Coded) → InMiddle all offset part → offset + length (blanks part) ≤ length (blanks all)
whole_within all offset part m =
    let long = m.long in
    omega (arith, ap (λ l. length (blanks l)) m.is, ap length (blanks-append m.before (part ++ m.rest)) ∙ length-append (blanks m.before) (blanks (part ++ m.rest)), ap length (blanks-append part m.rest) ∙ length-append (blanks part) (blanks m.rest))

regroup : (a b c d e : List ℕ) → a ++ ((b ++ (c ++ d)) ++ e) ≡ (a ++ b) ++ (c ++ (d ++ e))
regroup a b c d e = simp append_assoc

module _ (p : OrderProgram) (image before behind : List ℕ) (g next : ℕ) (value : Filling) (o : Orders) (fills : Fills p g next value) (near : next < 65536) where
  module _ (fits : (k : ℕ) (order : Order) → slice_get o.list k ≡ Some order → OrderFits order) (few : (n : ℕ) (gs : List Goal) → slice_get o.switches n ≡ Some gs → length gs < 32768)
      (at : base_of p g ≡ length before) (whole : image ≡ before ++ (filled value (base_of p g) (pieces_of o) ++ behind)) where
    -- a part of the pieces stands
    part_there : (offset : ℕ) (part : List Coded) → InMiddle (pieces_of o) offset part → AllFine value part → HasPieces image value (base_of p g + offset) part
    part_there offset part m fine =
        let base = base_of p g in
        let F = filled value base m.before in
        let P = filled value (base + length (blanks m.before)) part in
        let R = filled value (base + length (blanks m.before) + length (blanks part)) m.rest in
        let long = m.long in
        let code : filled value base (pieces_of o) ≡ F ++ (P ++ R) =
        ap (filled value base) m.is ∙ filled-append value base m.before (part ++ m.rest) ∙ ap (λ l. F ++ l) (filled-append value (base + length (blanks m.before)) part m.rest) in
        let there : image ≡ (before ++ F) ++ (P ++ (R ++ behind)) = whole ∙ ap (λ l. before ++ (l ++ behind)) code ∙ regroup before F P R behind in
        let far : base + length (blanks m.before) ≡ length (before ++ F) = omega (arith, length-append before F, length-filled value base m.before) in
        let same : base + length (blanks m.before) ≡ base + offset = omega arith in
        subst (λ n. HasPieces image value n part) same (pieces_there image (before ++ F) (R ++ behind) (base + length (blanks m.before)) value part fine far there)

    abbrev pub names : Names
    names = names_of o

    abbrev orders_code : List Coded
    orders_code = templates names entry_size 0 0 o.list

    abbrev landings_code : List Coded
    landings_code = landings names (is_named_label o) (landings_place o) 0 o.labels

    abbrev switches_code : List Coded
    switches_code = switches names (is_named_switch o) (switches_place o) 0 o.switches

    entry_there : HasPieces image value (base_of p g) entry_pieces
    entry_there =
        let e : base_of p g + 0 ≡ base_of p g = omega arith in
        subst (λ n. HasPieces image value n entry_pieces) e
        (part_there 0 entry_pieces (first_of_all entry_pieces (orders_code ++ (landings_code ++ switches_code))) (entry_fine p g next value fills near))

    order_there : (k : ℕ) (order : Order) → slice_get o.list k ≡ Some order → HasPieces image value (order_place (base_of p g) o k) (pieces_at o k order)
    order_there k order e =
        part_there (own_place o k) (pieces_at o k order)
        (behind_first entry_pieces (orders_code ++ (landings_code ++ switches_code)) entry_size (size_to (is_short (reach_of o)) 0 0 o.list k) (pieces_at o k order) refl
        (before_others orders_code (landings_code ++ switches_code) (size_to (is_short (reach_of o)) 0 0 o.list k) (pieces_at o k order) (order_in_middle names entry_size o.list k order e)))
        (block_fine p g next value fills near names (own_place o k) k (is_short (reach_of o) k (block_at (left_at 0 o.list k) (drop k o.list)) order) (block_at (left_at 0 o.list k) (drop k o.list)) order (fits_at (left_at 0 o.list k) o.list k order e fits))

    landing_placed : (l : ℕ) (m : LabelMark) → slice_get o.labels l ≡ Some m → has_landing (is_named_label o) l m ≡ true
        → (landings_place o ≤ landing_start names l) × InMiddle (pieces_of o) (landing_start names l) (landing_pieces names (landing_start names l) m)
    landing_placed l m e has =
        let number : 0 + l ≡ l = omega arith in
        let i = landing_in_middle names (is_named_label o) (landings_place o) 0 o.labels l m e (ap (λ k. has_landing (is_named_label o) k m) number ∙ has) in
        let start = landings_place o + i.0 in
        let part = landing_pieces names start m in
        let size = size_of_templates names entry_size 0 0 o.list in
        let begins = landings_at o in
        subst (λ k. (landings_place o ≤ k) × InMiddle (pieces_of o) k (landing_pieces names k m)) (sym i.1) (
          (omega arith),
          at_offset (pieces_of o) (entry_size + (size_to (is_short (reach_of o)) 0 0 o.list (length o.list) + i.0)) start part (omega arith)
              (behind_first entry_pieces (orders_code ++ (landings_code ++ switches_code)) entry_size (size_to (is_short (reach_of o)) 0 0 o.list (length o.list) + i.0) part refl
              (behind_first orders_code (landings_code ++ switches_code) (size_to (is_short (reach_of o)) 0 0 o.list (length o.list)) i.0 part size
              (before_others landings_code switches_code i.0 part i.2))),
        )

    landing_there : (l : ℕ) (m : LabelMark) → slice_get o.labels l ≡ Some m → has_landing (is_named_label o) l m ≡ true → HasPieces image value (base_of p g + landing_start names l) (landing_pieces names (landing_start names l) m)
    landing_there l m e has = part_there (landing_start names l) (landing_pieces names (landing_start names l) m) (landing_placed l m e has).1 (base_fine p g next value fills near (landing_start names l) (mark_place names m.mark))

    switch_placed : (n : ℕ) (gs : List Goal) → slice_get o.switches n ≡ Some gs → is_named_switch o n ≡ true
        → (switches_place o ≤ switch_start names n) × InMiddle (pieces_of o) (switch_start names n) (switch_pieces names (switch_start names n) gs)
    switch_placed n gs e named =
        let number : 0 + n ≡ n = omega arith in
        let i = switch_in_middle names (is_named_switch o) (switches_place o) 0 o.switches n gs e (ap (is_named_switch o) number ∙ named) in
        let start = switches_place o + i.0 in
        let part = switch_pieces names start gs in
        let size = size_of_templates names entry_size 0 0 o.list in
        let begins = landings_at o in
        let landed = size_of_landings names (is_named_label o) (landings_place o) 0 o.labels in
        let long = landing_sizes (is_named_label o) 0 o.labels in
        subst (λ k. (switches_place o ≤ k) × InMiddle (pieces_of o) k (switch_pieces names k gs)) (sym i.1) (
          (omega arith),
          at_offset (pieces_of o) (entry_size + (size_to (is_short (reach_of o)) 0 0 o.list (length o.list) + (long + i.0))) start part (omega arith)
              (behind_first entry_pieces (orders_code ++ (landings_code ++ switches_code)) entry_size (size_to (is_short (reach_of o)) 0 0 o.list (length o.list) + (long + i.0)) part refl
              (behind_first orders_code (landings_code ++ switches_code) (size_to (is_short (reach_of o)) 0 0 o.list (length o.list)) (long + i.0) part size
              (behind_first landings_code switches_code long i.0 part landed i.2))),
        )

    switch_there : (n : ℕ) (gs : List Goal) → slice_get o.switches n ≡ Some gs → is_named_switch o n ≡ true → HasPieces image value (base_of p g + switch_start names n) (switch_pieces names (switch_start names n) gs)
    switch_there n gs e named =
        part_there (switch_start names n) (switch_pieces names (switch_start names n) gs) (switch_placed n gs e named).1
        (switch_fine p g next value fills near names (switch_start names n) gs (let x = few n gs e in let y : length gs < 65536 = omega arith in y))

    abbrev stands_here : Stands p image g o
    stands_here = record {
      filled = record { value = value; next_place = next; fills = fills };
      entry = entry_there;
      orders = order_there;
      landings = landing_there;
      landings_within = λ l m e has. ((landing_placed l m e has).0, whole_within (pieces_of o) (landing_start names l) (landing_pieces names (landing_start names l) m) (landing_placed l m e has).1);
      switches_within = λ n gs e named. ((switch_placed n gs e named).0, whole_within (pieces_of o) (switch_start names n) (switch_pieces names (switch_start names n) gs) (switch_placed n gs e named).1);
      switches = switch_there;
    }

-- ---- all segments

-- a segment's code stands, and the way on from it is this
record Found (p : OrderProgram) (image : List ℕ) (o : Orders) (g next : ℕ) : Type 0 where
  stands : Stands p image g o
  way : stands.next_place ≡ next

moved : (p : OrderProgram) (image : List ℕ) (o : Orders) (g g' next next' : ℕ) → g ≡ g' → next ≡ next' → Found p image o g next → Found p image o g' next'
moved p image o g g' next next' e h found = subst (λ (n : ℕ). Found p image o g' n) h (subst (λ (n : ℕ). Found p image o n next) e found)

-- all behind the entry
abbrev behind_entry : Orders → List Coded
behind_entry o =
    templates (names_of o) entry_size 0 0 o.list
    ++ (landings (names_of o) (is_named_label o) (landings_place o) 0 o.labels ++ switches (names_of o) (is_named_switch o) (switches_place o) 0 o.switches)

-- the way on is a place
way_near : {p : OrderProgram} {segment place : ℕ} {os : List Orders} {codes : List ℕ} → AreCodes p segment place os codes → place + length codes ≤ 65536 → place_after os place < 65536
way_near no_code le = lit< tt
way_near {place = place} (a_code {o = o} {codes = codes} value fills more) le =
    omega (arith, length-append (filled value place (pieces_of o)) codes, length-filled value place (pieces_of o), length-append (blanks entry_pieces) (blanks (behind_entry o)), ap length (blanks-append entry_pieces (behind_entry o)))

found : {p : OrderProgram} {image : List ℕ} {segment place : ℕ} {os : List Orders} {codes : List ℕ} → AreCodes p segment place os codes
    → (before : List ℕ) → place ≡ length before → image ≡ before ++ codes → length image ≤ 65536
    → ((n : ℕ) → base_of p (segment + n) ≡ place + total_size (take n os))
    → ((g k : ℕ) (o : Orders) (order : Order) → slice_get os g ≡ Some o → slice_get o.list k ≡ Some order → OrderFits order)
    → ((g n : ℕ) (o : Orders) (gs : List Goal) → slice_get os g ≡ Some o → slice_get o.switches n ≡ Some gs → length gs < 32768)
    → (g : ℕ) (o : Orders) → slice_get os g ≡ Some o
    → Found p image o (segment + g) (place_after (drop (suc g) os) (base_of p (segment + suc g)))
found no_code before at e near bases fits few g o is = absurd (cc)
found {p = p} {image = image} {segment = segment} {place = place} (a_code {o = x} {os = os} {codes = codes} value fills more) before at e near bases fits few zero o is =
    let size = length (blanks (pieces_of x)) in
    let C = filled value place (pieces_of x) in
    let same : x ≡ o = cc in
    let within : place + size + length codes ≤ 65536 = omega (arith, ap length e, length-append before (C ++ codes), length-append C codes, length-filled value place (pieces_of x)) in
    let none : segment ≡ segment + 0 = omega arith in
    let base_zero = bases 0 in
    let base_is : place ≡ base_of p segment = (let f : place ≡ base_of p (segment + 0) = omega arith in f) ∙ ap (base_of p) (sym none) in
    let base_next = bases 1 in
    let one : segment + 1 ≡ segment + suc 0 = omega arith in
    let end : place + size ≡ base_of p (segment + suc 0) = (let f : place + size ≡ base_of p (segment + 1) = omega arith in f) ∙ ap (base_of p) one in
    let here : Found p image x segment (place_after os (place + size)) =
    record {
      stands =
          stands_here p image before codes segment (place_after os (place + size)) value x fills (way_near more within) (λ k order. fits 0 k x order refl) (λ n gs. few 0 n x gs refl)
          (sym base_is ∙ at)
          (e ∙ ap (λ b. before ++ (filled value b (pieces_of x) ++ codes)) base_is);
      way = refl {a = place_after os (place + size)};
    } in
    subst (λ (y : Orders). Found p image y (segment + 0) (place_after os (base_of p (segment + suc 0)))) same
    (moved p image x segment (segment + 0) (place_after os (place + size)) (place_after os (base_of p (segment + suc 0))) none (ap (place_after os) end) here)
found {p = p} {image = image} {segment = segment} {place = place} (a_code {o = x} {os = os} {codes = codes} value fills more) before at e near bases fits few (suc g) o is =
    let size = length (blanks (pieces_of x)) in
    let C = filled value place (pieces_of x) in
    let long : place + size ≡ length (before ++ C) = omega (arith, length-append before C, length-filled value place (pieces_of x)) in
    let further : (n : ℕ) → base_of p (segment + 1 + n) ≡ place + size + total_size (take n os) = λ n.
    let a : segment + 1 + n ≡ segment + suc n = omega arith in
    let b : place + (size + total_size (take n os)) ≡ place + size + total_size (take n os) = omega arith in
    ap (base_of p) a ∙ bases (suc n) ∙ b in
    let there = found more (before ++ C) long (e ∙ sym (append_assoc before C codes)) near further (λ n. fits (suc n)) (λ n. few (suc n)) g o is in
    let f : segment + 1 + suc g ≡ segment + suc (suc g) = omega arith in
    moved p image o (segment + 1 + g) (segment + suc g) (place_after (drop (suc g) os) (base_of p (segment + 1 + suc g))) (place_after (drop (suc g) os) (base_of p (segment + suc (suc g)))) (omega arith)
    (ap (λ n. place_after (drop (suc g) os) (base_of p n)) f) there

-- ---- the whole

-- the order at a place has numbers that fit
order_fits : (p : OrderProgram) → Codable p → (g k : ℕ) (o : Orders) (order : Order) → slice_get p.units g ≡ Some o → slice_get o.list k ≡ Some order → OrderFits order
order_fits p codable g k o it is e =
    let at = ap (λ u. order_in u k) is ∙ e in
    (numbers it at, codable.codes g k it at, codable.lines g k it at)
  where
    numbers : (it : Order) → order_at p g k ≡ Some it → NumberFits it
    numbers (order.Const w) at = codable.constants g k w at
    numbers _ at = tt

way_last : (os : List Orders) (n end : ℕ) → slice_get os n ≡ None → place_after (drop n os) end ≡ entry_place 0
way_last [] zero end is = refl
way_last [] (suc n) end is = refl
way_last (o ∷ os) zero end is = absurd (cc)
way_last (o ∷ os) (suc n) end is = way_last os n end is

way_on : (os : List Orders) (n end : ℕ) (o : Orders) → slice_get os n ≡ Some o → place_after (drop n os) end ≡ end
way_on [] n end o is = absurd (cc)
way_on (x ∷ os) zero end o is = refl
way_on (x ∷ os) (suc n) end o is = way_on os n end o is

each_found : (p : OrderProgram) (image : List ℕ) → IsImage p image → Codable p → (g : ℕ) (o : Orders) → slice_get p.units g ≡ Some o
    → Found p image o g (place_after (drop (suc g) p.units) (base_of p (suc g)))
each_found p image i codable g o is =
    let bases : (n : ℕ) → base_of p (0 + n) ≡ length library_bytes + total_size (take n p.units) = λ n. ap (base_of p) (let e : 0 + n ≡ n = omega arith in e) in
    moved p image o (0 + g) g (place_after (drop (suc g) p.units) (base_of p (0 + suc g))) (place_after (drop (suc g) p.units) (base_of p (suc g))) (omega arith) (ap (λ n. place_after (drop (suc g) p.units) (base_of p n)) (let e : 0 + suc g ≡ suc g = omega arith in e))
    (found i.coded library_bytes refl i.is i.fits bases (order_fits p codable) codable.switches g o is)

-- In the image of a program, the library and the code of each segment stand, with the instructions of each order at its place.
pub all_stand : ((code behind : List ℕ) → code ≡ library_bytes ++ behind → LibraryStands code) → (p : OrderProgram) (image : List ℕ) → IsImage p image → Codable p → AllStand p image
all_stand library p image i codable =
    let each = each_found p image i codable in
    record {
      library = library image i.codes i.is;
      stands = λ g o is. (each g o is).stands;
      last = λ g o is none. (each g o is).way ∙ way_last p.units (suc g) (base_of p (suc g)) none;
      goes_on = λ g o n is next. (each g o is).way ∙ way_on p.units (suc g) (base_of p (suc g)) n next;
    }
