-- What the code of calls does: the call, and the beginning of an activation.
use Rattle.std.proofs.Common.{◌≡◌, ℕ, zero, suc, ◌+◌, ◌-◌, ◌*◌, ◌%◌, ◌<◌, ◌≤◌, Bool, true, false, List, [], ◌∷◌, ◌++◌, length, refl, sym, ap, ◌∙◌, subst, arith, lit<, lit≤}
use Rattle.std.specs.Prelude.{nat_lt, nat_le}
use Rattle.std.proofs.lemmas.Bool.Decides.{nat_tests}
use Rattle.cw_i86.specs.declared.instr.Instr.TheVariants as i86
use Rattle.cw_i86.specs.declared.instr.Imm.TheVariants as imm
use Rattle.cw_run86.specs.Processor.{Processor, Told}
use Rattle.cw_run86.specs.Views.{put_word}
use Rattle.cw_unit.specs.Stop.{FramesFull, DepthReached, Stopped}
use Rattle.cw_unit.specs.Words.{Words}
use Rattle.cw_order.specs.OrderProgram.{OrderProgram}
use Rattle.cw_order.specs.OrderState.{OrderActivation, operand_words, stack_words, frame_end}
use Rattle.cw_order.proofs.StandingActivations.{words_split}
use Rattle.cw_tmpl.specs.Library.{enter_place, enter_stop_place}
use Rattle.cw_routines.specs.Results as results
use Rattle.cw_routines.specs.Results.{Begins, begin}
use Rattle.cw_routines.proofs.Facts.{put_at}
use Rattle.cw_follow.proofs.Watched.{Watched, fresh}
use Rattle.cw_follow.proofs.Rows.{Rows}
use Rattle.cw_follow.proofs.Chains.{Is, Leads, view, seen, to_place, number, call, more, last, IsAt}
use Rattle.cw_follow.proofs.Routines.{Over, quiet_in, quiet_library, quiet_all, there_all, flags_of, arrives, returned, lifted, over}
use Rattle.cw_follow.proofs.Stacks.{level, record_of, code_place, base_word, words_behind, StackIs, Piled, words_append, top_is, SameFrom, same_put, same_above, stack_same, piled_same}
use Rattle.cw_follow.proofs.Orders.{Kept, kept_under, kept_same, Landed, Leading, CalledAt, further, LandedAt, Few, and_few}
use Rattle.cw_follow.proofs.Standing.{Has, HasAll, HasWord, Image, Ignores, HasFrom}

-- the tests of the machine of orders are those of the library
left_tests : (n depth : ℕ) → nat_lt 0 (depth - n) ≡ nat_lt n depth
left_tests n depth = grind (arith, nat_tests)

frame_tests : (base size area : ℕ) → base ≤ area → nat_le size (area - base) ≡ nat_le (base + size) area
frame_tests base size area le = grind (arith, nat_tests)

module _ (rows : Rows) (prog : OrderProgram) (image : Image) where
  -- ---- the call

  calls_from : {q : Watched} {first : Bool} {at ax cx dx bx si : ℕ} {overflow : Bool} {cells stack : ℕ → ℕ} {left : List ℕ} {told : Told} (to by line n : ℕ) (a : OrderActivation) (acts : List OrderActivation) (w : Words)
      → a.line ≡ line → line < 65536 → (at + 6 + by) % 65536 ≡ to % 65536 → (at + 6) % 65536 ≡ code_place prog a.segment a.place → StackIs prog acts stack (suc n) (a.arguments ++ a.operands)
      → Kept prog a.segment acts w.memory w.input w.output cells stack left told → HasFrom first image at (i86.MovImm 2 (imm.Word line) ∷ i86.Call by ∷ [])
      → IsAt first image at (view ax cx dx bx (2 * suc n) (record_of acts) si prog.limits.area overflow cells stack left told) q → Leads w.output 2 q (CalledAt prog image to a acts w)
  calls_from {q} {first} {at} {ax} {cx} {dx} {bx} {si} {overflow} {cells} {stack} {left} {told} to by line n a acts w line_is fits arrives_at back h k i s =
      let xs = a.arguments ++ a.operands in
      let t = top_is prog acts stack (suc n) xs h in
      let place = code_place prog a.segment a.place in
      let lt : n < 32768 = omega arith in
      let top : 2 * suc n ≡ 2 * suc n % 65536 = omega arith in
      let new : ℕ → ℕ = put_word stack n place in
      let back' : (at + 3 + 3) % 65536 ≡ place = (let e : (at + 3 + 3) % 65536 ≡ (at + 6) % 65536 = omega arith in e) ∙ back in
      let there : (at + 3 + 3 + by) % 65536 ≡ to % 65536 = (let e : (at + 3 + 3 + by) % 65536 ≡ (at + 6 + by) % 65536 = omega arith in e) ∙ arrives_at in
      more rows {to = at + 3} {w = view ax cx line bx (2 * suc n) (record_of acts) si prog.limits.area overflow cells stack left told} s k.wrote (number rows 2 line i.0 s) (λ q u.
      last rows u k.wrote (record {
        called = record {
          ax = ax;
          cx = cx;
          bx = bx;
          si = si;
          around = record { overflow = overflow; top = n; cells = cells; stack = new; left = left; told = told };
          small = omega arith;
          back = put_at stack n place;
          operands = stack_same prog acts stack new (suc n) xs (same_put stack n place (suc n) (omega arith)) h;
          kept = kept_under n place (omega arith) k;
        };
        is = seen refl (ap (λ d. view ax cx d bx (2 * n) (record_of acts) si prog.limits.area overflow cells new left told) (sym line_is)) (to_place there (call rows by n place lt top back' i.1.0 u));
      }))

  pub calls : {q : Watched} {first : Bool} {at : ℕ} (to by line : ℕ) (a : OrderActivation) (acts : List OrderActivation) (w : Words) → a.line ≡ line → line < 65536 → stack_words [] (a ∷ acts) ≤ 32000
      → w.operands ≡ a.arguments ++ a.operands
      → (at + 6 + by) % 65536 ≡ to % 65536 → (at + 6) % 65536 ≡ code_place prog a.segment a.place → HasFrom first image at (i86.MovImm 2 (imm.Word line) ∷ i86.Call by ∷ [])
      → LandedAt first prog image at a.segment false acts w q
      → Leading w.output 2 q (CalledAt prog image to a acts w)
  calls {q} {first} {at} to by line a acts w line_is fits room same arrives_at back i l = from l.top refl
    where
      from : (top : ℕ) → l.top ≡ top → Leading w.output 2 q (CalledAt prog image to a acts w)
      from zero e =
          let t = top_is prog acts l.stack l.top w.operands l.operands in
          let ws = words_append a.arguments a.operands in
          let sp = words_split a.operands acts in
          let long : operand_words w.operands ≡ operand_words (a.arguments ++ a.operands) = ap operand_words same in
          absurd (omega arith)
      from (suc n) e =
          let s = l.stacked in
          let h = subst (λ m. StackIs prog acts l.stack m (a.arguments ++ a.operands)) e (subst (StackIs prog acts l.stack l.top) same l.operands) in
          further 2 (lit≤ tt) (lit< tt)
          (calls_from to by line n a acts w line_is fits arrives_at back h l.kept i
          (subst (λ m. IsAt first image at (view s.ax s.cx s.dx s.bx (2 * m) (record_of acts) s.si prog.limits.area s.overflow l.cells l.stack l.input l.told) q) e s.is))

  -- ---- the beginning of an activation

  module _ (a : OrderActivation) (acts : List OrderActivation) (w : Words) (g size : ℕ) (few : g < 255) where
    abbrev pub begun : OrderActivation
    begun = record a { entered = true; frame_top = a.frame_base + size }

    -- what Enter leads to, where there are calls left or not, and the frame fits or not
    abbrev pub EntersTo : (shallow fits : Bool) → (to : ℕ) → Watched → Type 0
    EntersTo false fits to q = Over (record { output = w.output; end = Stopped DepthReached (a.segment + 1) a.line }) q
    EntersTo true false to q = Over (record { output = w.output; end = Stopped FramesFull (a.segment + 1) a.line }) q
    EntersTo true true to q = Landed prog image to g false (begun ∷ acts) w q

    module _ (none : w.operands ≡ []) (base_is : a.frame_base ≡ frame_end prog acts) (base_low : a.frame_base ≤ prog.limits.area) (room : stack_words [] (a ∷ acts) ≤ 32000) where
      -- the record has been made
      entered : {q : Processor} {cells before : ℕ → ℕ} {input : List ℕ} {told : Told} (u : Watched) (at to : ℕ) → at % 65536 ≡ to % 65536 → Ignores image u.places
          → before (level (begun ∷ acts) + 5) ≡ code_place prog a.segment a.place → StackIs prog acts before (level (begun ∷ acts) + 6) (a.arguments ++ a.operands)
          → Kept prog a.segment acts w.memory w.input w.output cells before input told
          → results.Entered image.bytes at (level (begun ∷ acts)) (record_of acts) (g + 1) (prog.limits.depth - length acts - 1) (2 * (prog.limits.area - words_behind prog acts) % 65536) (words_behind prog acts - size) prog.limits.area cells before input told q
          → Landed prog image to g false (begun ∷ acts) w (fresh u.places u.area q)
      entered {q} {cells} {before} {input} {told} u at to there ignores back h k e =
          let r = level (begun ∷ acts) in
          let t = top_is prog acts before (r + 6) (a.arguments ++ a.operands) h in
          let same : SameFrom (r + 5) before e.stack = λ n le. e.above n (omega arith) in
          let made = e.record_is in
          let below : Piled prog e.stack a.segment acts = piled_same prog before e.stack a.segment acts (same_above before e.stack (r + 5) (level acts) (omega arith) same) k.piled in
          let record_at : 2 * (r + 4) ≡ record_of (begun ∷ acts) = omega arith in
          let begins_at : prog.limits.area - words_behind prog acts ≡ a.frame_base = omega arith in
          let behind : words_behind prog acts - size ≡ prog.limits.area - (a.frame_base + size) = omega arith in
          record {
            top = r;
            cells = cells;
            stack = e.stack;
            input = input;
            told = told;
            stacked = let x = e.here in record { ax = x.ax; cx = x.cx; dx = x.dx; bx = x.bx; si = x.si; overflow = x.flags.of; is = seen refl (ap (λ b. view x.ax x.cx x.dx x.bx (2 * r) b x.si prog.limits.area x.flags.of cells e.stack input told) record_at) (to_place there (returned u ignores x.is)) };
            operands = subst (StackIs prog (begun ∷ acts) e.stack r) (sym none) refl;
            kept = record {
              words = k.words;
              long = k.long;
              piled = (
                record {
                  rest_is = made.rest_is ∙ behind;
                  base_is = made.base_is ∙ ap (λ n. 2 * n % 65536) begins_at;
                  left_is = made.left ∙ (let f : prog.limits.depth - length acts - 1 ≡ prog.limits.depth - length (begun ∷ acts) = omega arith in f);
                  number_is = made.number;
                  few = few;
                },
                (
                  record {
                    caller = e.caller;
                    back = same (r + 5) (omega arith) ∙ back;
                    operands = stack_same prog acts before e.stack (r + 6) (a.arguments ++ a.operands) (same_above before e.stack (r + 5) (r + 6) (omega arith) same) h;
                  },
                  below.0,
                  below.1,
                ),
              );
              read = k.read;
              wrote = k.wrote;
              kind = k.kind;
            };
          }

      -- one of the three ends of the routine
      ends : {q : Processor} (T : Processor → Type 0) (u : Watched) (deeper fits : Bool) (to : ℕ) (output : List ℕ) → output ≡ w.output
          → (T q → Landed prog image to g false (begun ∷ acts) w (fresh u.places u.area q))
          → Begins image.bytes output deeper fits a.line (a.segment + 1) T q → EntersTo deeper fits to (fresh u.places u.area q)
      ends {q} T u false fits to output e begins d = subst (λ o. Over (record { output = o; end = Stopped DepthReached (a.segment + 1) a.line }) (fresh u.places u.area q)) e (over u d)
      ends {q} T u true false to output e begins d = subst (λ o. Over (record { output = o; end = Stopped FramesFull (a.segment + 1) a.line }) (fresh u.places u.area q)) e (over u d)
      ends T u true true to output e begins d = begins d

      -- the caller's record
      caller_is : {cells stack : ℕ → ℕ} {input : List ℕ} {told : Told} → level acts < 32765 → Kept prog a.segment acts w.memory w.input w.output cells stack input told
          → results.RecordIs stack (record_of acts) (level acts) (a.segment + 1) (prog.limits.depth - length acts) (base_word prog acts) (words_behind prog acts)
      caller_is low k = record {
        there = (let e : record_of acts ≡ 2 * (level acts + 4) % 65536 = omega arith in e);
        low = low;
        number = k.piled.0.number_is;
        few = (let f = k.piled.0.few in omega arith);
        left = k.piled.0.left_is;
        base_is = k.piled.0.base_is;
        rest_is = k.piled.0.rest_is;
      }

      -- by the tests of the machine of orders
      tested : (q : Processor) (u : Watched) (to : ℕ) → EntersTo (nat_lt 0 (prog.limits.depth - length acts)) (nat_le size (words_behind prog acts)) to (fresh u.places u.area q)
          → EntersTo (nat_lt (length acts) prog.limits.depth) (nat_le (a.frame_base + size) prog.limits.area) to (fresh u.places u.area q)
      tested q u to h =
          let area = prog.limits.area in
          let fit_is : nat_le size (words_behind prog acts) ≡ nat_le (a.frame_base + size) area = ap (λ n. nat_le size (area - n)) (sym base_is) ∙ frame_tests a.frame_base size area base_low in
          subst (λ b. EntersTo b (nat_le (a.frame_base + size) area) to (fresh u.places u.area q)) (left_tests (length acts) prog.limits.depth)
          (subst (λ b. EntersTo (nat_lt 0 (prog.limits.depth - length acts)) b to (fresh u.places u.area q)) fit_is h)

      -- the routine, with the place of its words on the stack
      routine : {u : Watched} {cells stack : ℕ → ℕ} {input : List ℕ} {told : Told} (at to ax cx bx si : ℕ) (overflow : Bool) → results.Stands image.bytes → prog.limits.area ≤ 32768
          → size < 65536 → prog.limits.depth < 65536 → a.line < 65536
          → stack (level (begun ∷ acts) + 4) ≡ at → HasWord image at size → HasWord image (at + 2) (g + 1) → (at + 4) % 65536 ≡ to % 65536
          → stack (level (begun ∷ acts) + 5) ≡ code_place prog a.segment a.place → StackIs prog acts stack (level (begun ∷ acts) + 6) (a.arguments ++ a.operands)
          → Kept prog a.segment acts w.memory w.input w.output cells stack input told
          → Is image enter_place (view ax cx a.line bx (2 * (level (begun ∷ acts) + 4)) (record_of acts) si prog.limits.area overflow cells stack input told) u
          → Few w.output 18 u (EntersTo (nat_lt (length acts) prog.limits.depth) (nat_le (a.frame_base + size) prog.limits.area) to)
      routine {u} {cells} {stack} {input} {told} at to ax cx bx si overflow library low small depth_low line_small at_is size_there number_there there return h k s =
          let r = level (begun ∷ acts) in
          let l = level acts in
          let bp = record_of acts in
          let area = prog.limits.area in
          let calls_left = prog.limits.depth - length acts in
          let rest = words_behind prog acts in
          let t = top_is prog acts stack (r + 6) (a.arguments ++ a.operands) h in
          let caller = caller_is (omega arith) k in
          let law = rows.routines.enter (quiet_in u.places) image.bytes library (quiet_library s.ignores) r at a.line l (a.segment + 1) calls_left (base_word prog acts) rest
          (g + 1) size ax cx bx bp si area (flags_of u) cells stack input told u.processor
          (omega arith) at_is size_there number_there line_small (omega arith) (omega arith) small (omega arith) low caller (arrives s) in
          record {
            spent = law.spent;
            within = law.within;
            leads = subst (λ o. Leads o law.spent u (EntersTo (nat_lt (length acts) prog.limits.depth) (nat_le (a.frame_base + size) area) to)) k.wrote
                (lifted rows {n = law.spent} {U = EntersTo (nat_lt (length acts) prog.limits.depth) (nat_le (a.frame_base + size) area) to} s.overlooks s.silent law.leads (λ t d.
                tested t u to
                (ends (results.Entered image.bytes (at + 4) r bp (g + 1) (calls_left - 1) (2 * (area - rest) % 65536) (rest - size) area cells stack input told) u (nat_lt 0 calls_left) (nat_le size rest) to told.output k.wrote
                (entered u (at + 4) to there s.ignores return h k) d)));
          }

      -- the code of Enter, in the called procedure
      pub begins : {q : Watched} (at by segment : ℕ) → results.Stands image.bytes → prog.limits.area ≤ 32768 → size < 65536 → prog.limits.depth < 65536 → segment ≡ g + 1
          → (at + 3 + by) % 65536 ≡ enter_place % 65536
          → Has image at (i86.Call by) → HasWord image (at + 3) size → HasWord image (at + 3 + 2) segment → CalledAt prog image at a acts w q
          → Leading w.output 21 q (EntersTo (nat_lt (length acts) prog.limits.depth) (nat_le (a.frame_base + size) prog.limits.area) (at + 7))
      begins {q} at by segment library low small depth_low number_is arrives_at i size_there number_there c =
          let r = level (begun ∷ acts) in
          let xs = a.arguments ++ a.operands in
          let t = top_is prog acts c.stack (suc c.top) xs c.operands in
          let ws = words_append a.arguments a.operands in
          let sp = words_split a.operands acts in
          let area = prog.limits.area in
          let bp = record_of acts in
          let l = level acts in
          let top_at : c.top ≡ suc (r + 4) = omega arith in
          let inside = size_there.within in
          let fits = c.is.sees.fits in
          let behind : (at + 3) % 65536 ≡ at + 3 = omega arith in
          let stack : ℕ → ℕ = put_word c.stack (r + 4) (at + 3) in
          let same : SameFrom (r + 5) c.stack stack = same_put c.stack (r + 4) (at + 3) (r + 5) (omega arith) in
          let k = kept_same stack (same_above c.stack stack (r + 5) l (omega arith) same) c.kept in
          let six : suc c.top ≡ r + 6 = omega arith in
          let h : StackIs prog acts stack (r + 6) xs = stack_same prog acts c.stack stack (r + 6) xs (same_above c.stack stack (r + 5) (r + 6) (omega arith) same) (subst (λ n. StackIs prog acts c.stack n xs) six c.operands) in
          let five : r + 5 ≡ c.top = omega arith in
          let return : stack (r + 5) ≡ code_place prog a.segment a.place = same (r + 5) (omega arith) ∙ ap c.stack five ∙ c.back in
          let sp_top : 2 * suc (r + 4) ≡ 2 * suc (r + 4) % 65536 = omega arith in
          let below : r + 4 < 32768 = omega arith in
          let past : (at + 3 + 4) % 65536 ≡ (at + 7) % 65536 = omega arith in
          let start : Is image at (view c.ax c.cx a.line c.bx (2 * suc (r + 4)) bp c.si area c.overflow c.cells c.stack c.left c.told) q =
          seen refl (ap (λ n. view c.ax c.cx a.line c.bx (2 * n) bp c.si area c.overflow c.cells c.stack c.left c.told) top_at) c.is in
          and_few {T = Is image enter_place (view c.ax c.cx a.line c.bx (2 * (r + 4)) bp c.si area c.overflow c.cells stack c.left c.told)} 1 18 21 (lit< tt) (lit≤ tt)
          (last rows start c.kept.wrote (to_place arrives_at (call rows by (r + 4) (at + 3) below sp_top behind i start)))
          (λ q u.
          routine (at + 3) (at + 7) c.ax c.cx c.bx c.si c.overflow library low small depth_low c.small (put_at c.stack (r + 4) (at + 3)) size_there (subst (HasWord image (at + 3 + 2)) number_is number_there) past return h k u)

      -- the code of Enter where the frame has words
      pub begins_framed : {q : Watched} (at place by : ℕ) → results.Stands image.bytes → prog.limits.area ≤ 32768 → size < 65536 → prog.limits.depth < 65536
          → (at + 22 + by) % 65536 ≡ enter_stop_place → HasWord image place (g + 1) → HasAll image at (begin size place by) → CalledAt prog image at a acts w q
          → Leading w.output 21 q (EntersTo (nat_lt (length acts) prog.limits.depth) (nat_le (a.frame_base + size) prog.limits.area) (at + 34))
      begins_framed {q} at place by library low small depth_low arrives_at named i c =
          let r = level (begun ∷ acts) in
          let xs = a.arguments ++ a.operands in
          let l = level acts in
          let bp = record_of acts in
          let area = prog.limits.area in
          let calls_left = prog.limits.depth - length acts in
          let rest = words_behind prog acts in
          let shallow = nat_lt (length acts) prog.limits.depth in
          let fits = nat_le (a.frame_base + size) area in
          let t = top_is prog acts c.stack (suc c.top) xs c.operands in
          let ws = words_append a.arguments a.operands in
          let sp = words_split a.operands acts in
          let top_at : c.top ≡ suc (r + 4) = omega arith in
          let five : r + 5 ≡ c.top = omega arith in
          let six : suc c.top ≡ r + 6 = omega arith in
          let h : StackIs prog acts c.stack (r + 6) xs = subst (λ n. StackIs prog acts c.stack n xs) six c.operands in
          let return : c.stack (r + 5) ≡ code_place prog a.segment a.place = ap c.stack five ∙ c.back in
          let start : Is image at (view c.ax c.cx a.line c.bx (2 * suc (r + 4)) bp c.si area c.overflow c.cells c.stack c.left c.told) q =
          seen refl (ap (λ n. view c.ax c.cx a.line c.bx (2 * n) bp c.si area c.overflow c.cells c.stack c.left c.told) top_at) c.is in
          let law = rows.routines.beginning (quiet_in q.places) image.bytes library (quiet_library start.ignores) at size place (g + 1) by arrives_at named
          (quiet_all start.ignores at (begin size place by) i) (there_all image at (begin size place by) i) r a.line l (a.segment + 1) calls_left (base_word prog acts) rest
          c.ax c.cx c.bx bp c.si area (flags_of q) c.cells c.stack c.left c.told q.processor
          (omega arith) c.small (omega arith) (omega arith) small (omega arith) low (caller_is (omega arith) c.kept) (arrives start) in
          subst (λ o. Leading o 21 q (EntersTo shallow fits (at + 34))) c.kept.wrote
          (and_few {T = λ u. Few c.told.output 20 u (EntersTo shallow fits (at + 34))} 1 20 21 (lit< tt) (lit≤ tt)
          (lifted rows {n = 1} {U = λ u. Few c.told.output 20 u (EntersTo shallow fits (at + 34))} start.overlooks start.silent law (λ t d.
          record {
            spent = d.spent;
            within = d.within;
            leads = lifted rows {n = d.spent} {p = fresh q.places q.area t} {U = EntersTo shallow fits (at + 34)} refl refl d.leads (λ v e.
                tested v q (at + 34)
                (ends (results.Entered image.bytes (at + 34) r bp (g + 1) (calls_left - 1) (2 * (area - rest) % 65536) (rest - size) area c.cells c.stack c.left c.told) q (nat_lt 0 calls_left) (nat_le size rest) (at + 34) c.told.output c.kept.wrote
                (entered q (at + 34) (at + 34) refl start.ignores return h c.kept) e));
          }))
          (λ u f. f))
