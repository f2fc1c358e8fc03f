-- The entry of a segment, and the way from its body to the next one, or to the end.
use Rattle.std.proofs.Common.{◌≡◌, inl, ℕ, suc, ◌+◌, ◌-◌, ◌*◌, ◌%◌, ◌<◌, ◌≤◌, false, ℤ, List, [], ◌∷◌, length, Option, Some, None, refl, sym, ap, ◌∙◌, subst, arith, lit<, lit≤, Bool}
use Rattle.std.specs.Prelude.{slice_get}
use Rattle.std.proofs.lemmas.Option.{slice_get_within}
use Rattle.cw_run86.specs.Processor.{Told}
use Rattle.cw_run86.specs.Views.{put_word, View}
use Rattle.cw_word.specs.Word.{unsigned}
use Rattle.cw_unit.specs.Stop.{Running, Ended, Stuck}
use Rattle.cw_unit.specs.Words.{word_at, with_operands, Words}
use Rattle.cw_order.specs.declared.order.Order.TheVariants as order
use Rattle.cw_order.specs.declared.order.Orders.{Orders}
use Rattle.cw_order.specs.OrderProgram.{OrderProgram}
use Rattle.cw_order.specs.OrderState.{OrderActivation, at}
use Rattle.cw_order.specs.OrderMachine.{next_body, end_body, step}
use Rattle.cw_tmpl.specs.Blocks.{left_at}
use Rattle.cw_tmpl.specs.Library.{start_entry, start_place}
use Rattle.cw_tmpl.specs.Pieces.{Filling}
use Rattle.cw_tmpl.specs.Templates.{entry_pieces, segment_word}
use Rattle.cw_routines.specs.Results.{Stands}
use Rattle.cw_routines.proofs.Facts.{put_at}
use Rattle.cw_follow.specs.Placing.{Fills, base_of}
use Rattle.cw_follow.proofs.Watched.{Watched}
use Rattle.cw_follow.proofs.Standing.{HasPieces, order_place, HasWord, Image, number_there}
use Rattle.cw_follow.proofs.Rows.{Rows}
use Rattle.cw_follow.proofs.Chains.{Is, Leads, view, seen, to_place, number, call, jump_to, more}
use Rattle.cw_follow.proofs.Routines.{Stacked, quiet_in, quiet_library, flags_of, arrives, returned, lifted, ends, leads_on}
use Rattle.cw_follow.proofs.Stacks.{record_of, top_is}
use Rattle.cw_follow.proofs.Orders.{Landed, further}
use Rattle.cw_follow.proofs.States.{Given, Sound, Arrived, never_on, not_stuck, before_block}
use Rattle.cw_follow.proofs.Steps.{Arrives, Follow, leads_to, step_is, weight_is, fits_next, stands_next, Alone, code, under, under_low, under_is}

-- a body begins, with the base record made and no operands
pub record Begun (image : Image) (at segment calls frames area : ℕ) (cells : ℕ → ℕ) (input : List ℕ) (told : Told) (p : Watched) : Type 0 where
  pub stack : ℕ → ℕ
  pub number : stack 32767 ≡ segment
  pub left : stack 32766 ≡ calls
  pub base : stack 32765 ≡ frames
  pub rest : stack 32764 ≡ frames
  pub stacked : Stacked image at 32764 0 area cells stack input told p

-- the same as what the orders begin with
pub begun_landed : (p : OrderProgram) {image : Image} {at g : ℕ} {cells : ℕ → ℕ} {left : List ℕ} {told : Told} {q : Watched} (to : ℕ) (memory : List ℤ) (input output : List ℕ) → at ≡ to → g < 255 → p.limits.frames ≤ p.limits.area
    → ((k : ℕ) → k < p.limits.area → cells k ≡ unsigned (word_at memory k)) → length memory ≡ p.limits.area → left ≡ input → told.output ≡ output → told.kind ≡ 0
    → Begun image at (suc g) p.limits.depth p.limits.frames p.limits.area cells left told q
    → Landed p image to g false [] (record { operands = []; memory = memory; input = input; output = output }) q
begun_landed p {image} {at} {g} {cells} {left} {told} {q} to memory input output there few inside words long read wrote kind b =
    let z = b.stacked in
    record {
      top = 32764;
      cells = cells;
      stack = b.stack;
      input = left;
      told = told;
      stacked = record { ax = z.ax; cx = z.cx; dx = z.dx; bx = z.bx; si = z.si; overflow = z.overflow; is = seen there refl z.is };
      operands = refl;
      kept = record {
        words = words;
        long = long;
        piled = (
          record {
            rest_is = b.rest ∙ (let x : p.limits.frames ≡ p.limits.area - (p.limits.area - p.limits.frames) = omega arith in x);
            base_is = b.base;
            left_is = b.left ∙ (let x : p.limits.depth ≡ p.limits.depth - 0 = omega arith in x);
            number_is = b.number ∙ (let x : suc g ≡ g + 1 = omega arith in x);
            few = few;
          },
          tt,
        );
        read = read;
        wrote = wrote;
        kind = kind;
      };
    }

-- the entry of a segment, with a word of the stack where the place of its words goes
pub enters : Rows
    → {image : Image} {q : Watched} (p : OrderProgram) (g next_place : ℕ) (value : Filling) (base ax cx dx bx bp si di n : ℕ) (overflow : Bool) (cells stack : ℕ → ℕ) (input : List ℕ) (told : Told)
    → Stands image.bytes → Fills p g next_place value → HasPieces image value base entry_pieces → g < 255 → n < 32768 → p.limits.area ≤ 32768 → p.limits.frames ≤ p.limits.area → p.limits.depth < 65536
    → (sp : ℕ) → sp ≡ 2 * suc n % 65536 → Is image base (view ax cx dx bx sp bp si di overflow cells stack input told) q
    → Leads told.output 11 q (Begun image (base + 11) (suc g) p.limits.depth p.limits.frames p.limits.area cells input told)
enters rows {image} {q} p g next_place value base ax cx dx bx bp si di n overflow cells stack input told library fills h few lt low within deep sp top s =
    let by = value 7 start_entry 0 (base + 3) in
    let by_is : by ≡ (start_place + (65536 - (base + 3) % 65536)) % 65536 = fills.library start_entry (base + 3) (lit< tt) in
    let arrives_there : (base + 3 + by) % 65536 ≡ start_place % 65536 = omega arith in
    let inside = h.1.0.within in
    let fits = s.sees.fits in
    let behind : (base + 3) % 65536 ≡ base + 3 = omega arith in
    let area_is = fills.area (base + 3 + 2) in
    let frames_is = fills.frames (base + 3 + 2 + 2) in
    let depth_is = fills.depth (base + 3 + 2 + 2 + 2) in
    let area : value 8 0 0 (base + 3 + 2) ≡ p.limits.area = omega arith in
    let frames : value 8 1 0 (base + 3 + 2 + 2) ≡ p.limits.frames = omega arith in
    let depth : value 8 2 0 (base + 3 + 2 + 2 + 2) ≡ p.limits.depth = omega arith in
    let four : base + 3 + 2 + 2 ≡ base + 3 + 4 = omega arith in
    let nine : segment_word ≡ 9 = refl in
    let six : base + segment_word ≡ base + 3 + 6 = omega arith in
    let few' : suc g < 256 = omega arith in
    more rows {to = start_place} {w = view ax cx dx bx (2 * n) bp si di overflow cells (put_word stack n (base + 3)) input told} s refl (to_place arrives_there (call rows by n (base + 3) lt top behind h.0 s)) (λ q t.
    lifted rows {n = 10} t.overlooks t.silent
    (rows.routines.start (quiet_in q.places) image.bytes library (quiet_library t.ignores) (base + 3) n p.limits.area p.limits.frames p.limits.depth (suc g) ax cx dx bx bp si di (flags_of q) cells (put_word stack n (base + 3)) input told q.processor
    lt (put_at stack n (base + 3)) within low few'
    (subst (HasWord image (base + 3)) area h.1.0)
    (subst (HasWord image (base + 3 + 2)) frames h.1.1.0)
    (subst (λ m. HasWord image m p.limits.depth) four (subst (HasWord image (base + 3 + 2 + 2)) depth h.1.1.1.0))
    (subst (λ m. HasWord image m (suc g)) six (number_there fills h few))
    (arrives t))
    (λ r b. record {
      stack = b.stack;
      number = b.record_is.number;
      left = b.record_is.left;
      base = b.record_is.base_is;
      rest = b.record_is.rest_is;
      stacked = let x = b.here in record { ax = x.ax; cx = x.cx; dx = x.dx; bx = x.bx; si = x.si; overflow = x.flags.of; is = seen (let e : base + 3 + 8 ≡ base + 11 = omega arith in e) refl (returned q t.ignores x.is) };
    }))

module _ (known : Given) where
  open known use {rows, p, image, all, coded, few, low}

  module _ {q : Watched} {g place : ℕ} {acts : List OrderActivation} {w : Words} (s : Sound p image g place false acts w q) (a : Alone p image g place false acts w q s.orders) where
    -- where the code of the order stands
    abbrev here : ℕ
    here = order_place (base_of p g) s.orders place

    -- the word of the code that tells the place of the next body
    abbrev next_word : ℕ
    next_word = (all.stands g s.orders s.unit).value 9 0 0 (here + 3)

    -- it comes to AX, and the code goes on there
    leaves_body : {to n : ℕ} {T : Watched → Type 0} → slice_get s.orders.list place ≡ Some order.NextBody → next_word ≡ to % 65536
        → ((r : Watched) → Is image to (view next_word a.landed.stacked.cx a.landed.stacked.dx a.landed.stacked.bx (2 * a.landed.top) (record_of acts) a.landed.stacked.si p.limits.area a.landed.stacked.overflow a.landed.cells a.landed.stack a.landed.input a.landed.told) r → Leads w.output n r T)
        → Leads w.output (suc (suc n)) q T
    leaves_body {to} e to_is on =
        let l = a.landed in
        let r = l.stacked in
        let i = code known s a order.NextBody e in
        let V : View = view next_word r.cx r.dx r.bx (2 * l.top) (record_of acts) r.si p.limits.area r.overflow l.cells l.stack l.input l.told in
        more rows {to = here + 3} {w = V} r.is l.kept.wrote (number rows 0 next_word i.0 r.is) (λ q t. more rows {to = to} {w = V} t l.kept.wrote (jump_to rows 0 to to_is i.1.0 t) on)

    -- the next body, or the end
    ends_body : slice_get s.orders.list place ≡ Some order.NextBody → acts ≡ [] → (u : Option Orders) → slice_get p.units (g + 1) ≡ u → Follow known (at g place false acts w Running) q
    ends_body e none None is =
        let same : suc g ≡ g + 1 = omega arith in
        let to : next_word ≡ 3 = (all.stands g s.orders s.unit).fills.next_is (here + 3) ∙ all.last g s.orders s.unit (ap (slice_get p.units) same ∙ is) in
        let goes : step p (at g place false acts w Running) ≡ at g place false [] w Ended = step_is known s (Some order.NextBody) e ∙ ap (λ x. end_body p g place false x w) none ∙ ap (λ x. next_body x g place false w) is in
        leads_to known g place false acts w (at g place false [] w Ended) 22 goes (weight_is known s order.NextBody e)
        (further 3 (lit≤ tt) (lit< tt) (leaves_body {to = 3} e to (λ r t. ends rows all.library refl a.landed.kept.kind a.landed.kept.wrote t)))
    ends_body e none (Some u) is =
        let l = a.landed in
        let r = l.stacked in
        let same : suc g ≡ g + 1 = omega arith in
        let base = base_of p (g + 1) in
        let to : next_word ≡ base = (all.stands g s.orders s.unit).fills.next_is (here + 3) ∙ all.goes_on g s.orders u s.unit (ap (slice_get p.units) same ∙ is) ∙ ap (base_of p) same in
        let su = all.stands (g + 1) u is in
        let within = su.entry.0.there.within in
        let fits = r.is.sees.fits in
        let short : base + 3 ≤ length image.bytes = within in
        let below : base ≡ base % 65536 = omega arith in
        let next_state = at (g + 1) u.entry false [] (with_operands w []) Running in
        let goes : step p (at g place false acts w Running) ≡ next_state = step_is known s (Some order.NextBody) e ∙ ap (λ x. end_body p g place false x w) none ∙ ap (λ x. next_body x g place false w) is in
        let t = top_is p acts l.stack l.top w.operands l.operands in
        let most : l.top ≤ 32764 = omega arith in
        leads_to known g place false acts w next_state 22 goes (weight_is known s order.NextBody e)
        (further 13 (lit≤ tt) (lit< tt)
        (leaves_body {to = base} e (to ∙ below) (λ q t.
        subst (λ x. Leads x 11 q (Arrives known next_state)) l.kept.wrote
        (leads_on (λ r b. inl (begins goes is b))
        (enters rows p (g + 1) su.next_place su.value base next_word r.cx r.dx r.bx (record_of acts) r.si p.limits.area (under l.top) r.overflow l.cells l.stack l.input l.told
        all.library su.fills su.entry (few_next u is) (under_low l.top most) low coded.frames coded.depth (2 * l.top) (under_is l.top most) t)))))
      where
        few_next : (u : Orders) → slice_get p.units (g + 1) ≡ Some u → g + 1 < 255
        few_next u is = let lt = slice_get_within p.units (g + 1) u is in omega arith

        begins : {r : Watched} → step p (at g place false acts w Running) ≡ at (g + 1) u.entry false [] (with_operands w []) Running → slice_get p.units (g + 1) ≡ Some u
            → Begun image (base_of p (g + 1) + 11) (suc (g + 1)) p.limits.depth p.limits.frames p.limits.area a.landed.cells a.landed.input a.landed.told r
            → Arrived p image (g + 1) u.entry false [] (with_operands w []) r
        begins {r} goes is b =
            let k = a.landed.kept in
            let first : u.entry ≡ 0 = coded.entries (g + 1) u is in
            let place_is : base_of p (g + 1) + 11 ≡ order_place (base_of p (g + 1)) u 0 = omega arith in
            let there : base_of p (g + 1) + 11 ≡ order_place (base_of p (g + 1)) u u.entry = place_is ∙ ap (order_place (base_of p (g + 1)) u) (sym first) in
            let t = at (g + 1) u.entry false [] (with_operands w []) Running in
            before_block u is (ap (left_at 0 u.list) first)
            (begun_landed p (order_place (base_of p (g + 1)) u u.entry) w.memory w.input w.output there (few_next u is) coded.frames k.words k.long k.read k.wrote k.kind b)
            (fits_next known s t goes) (stands_next known s t goes) tt tt (never_on p (at g place false acts w Running) t goes s.never)

    pub ends_or_not : slice_get s.orders.list place ≡ Some order.NextBody → (others : List OrderActivation) → acts ≡ others → Follow known (at g place false acts w Running) q
    ends_or_not e [] is = ends_body e is (slice_get p.units (g + 1)) refl
    ends_or_not e (b ∷ others) is =
        absurd (not_stuck p g place false (b ∷ others) w (never_on p (at g place false acts w Running) (at g place false (b ∷ others) w Stuck) (step_is known s (Some order.NextBody) e ∙ ap (λ x. end_body p g place false x w) is) s.never))
