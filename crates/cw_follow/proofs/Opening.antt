-- The first instruction of a block with which a statement may begin shows nothing.
use Rattle.std.proofs.Common.{◌≡◌, ℕ, zero, suc, ◌+◌, ◌*◌, ◌/◌, ◌%◌, ◌<◌, Bool, true, false, List, ◌∷◌, ◌++◌, drop, Some, refl, ap, ◌∙◌, arith, lit<}
use Rattle.std.specs.Prelude.{slice_get}
use Rattle.std.proofs.lemmas.Bool.{false≢true}
use Rattle.cw_i86.specs.declared.instr.Instr.TheVariants as i86
use Rattle.cw_i86.specs.declared.instr.Imm.TheVariants as imm
use Rattle.cw_i86.specs.declared.instr.Place.TheVariants as places
use Rattle.cw_i86.specs.declared.instr.Rm.TheVariants as rms
use Rattle.cw_rows86.specs.Acts.{Into}
use Rattle.cw_rows86.specs.Locations.{InData}
use Rattle.cw_run86.specs.Processor.{processor_step, observed}
use Rattle.cw_run86.specs.Views.{View}
use Rattle.cw_unit.specs.Stop.{Running}
use Rattle.cw_unit.specs.Words.{Words}
use Rattle.cw_order.specs.declared.order.Comparator.{Comparator}
use Rattle.cw_order.specs.declared.order.Order.{Order}
use Rattle.cw_order.specs.declared.order.Order.TheVariants as order
use Rattle.cw_order.specs.declared.order.Place.{Place}
use Rattle.cw_order.specs.declared.order.Place.TheVariants as cell
use Rattle.cw_order.specs.OrderActions.{home_word}
use Rattle.cw_order.specs.OrderProgram.{OrderProgram}
use Rattle.cw_order.specs.OrderState.{OrderActivation}
use Rattle.cw_tmpl.specs.declared.blocks.Element.{Element}
use Rattle.cw_tmpl.specs.declared.blocks.Test.{Test}
use Rattle.cw_tmpl.specs.declared.blocks.Test.TheVariants as test
use Rattle.cw_tmpl.specs.declared.blocks.Block.TheVariants as block
use Rattle.cw_tmpl.specs.declared.pieces.Coded.{Coded}
use Rattle.cw_tmpl.specs.Blocks.{address_orders, element_orders, block_at}
use Rattle.cw_tmpl.specs.Mnemonics.{slot, argument, load, memory}
use Rattle.cw_tmpl.specs.Templates.{element_tested, template_by}
use Rattle.cw_follow.specs.Showing.{shown_as}
use Rattle.cw_follow.proofs.Acting.{act}
use Rattle.cw_follow.proofs.Chains.{Is, shows, number, near, push, pop, call, load_at, short}
use Rattle.cw_follow.proofs.ElementBlocks.{begun_code}
use Rattle.cw_follow.proofs.ElementTests.{formed_list_is}
use Rattle.cw_follow.proofs.Orders.{LandedAt, over_landed}
use Rattle.cw_follow.proofs.Rows.{Rows}
use Rattle.cw_follow.proofs.Stacks.{record_of, top_is}
use Rattle.cw_follow.proofs.Standing.{Image, HasAt, HasPiecesFrom, may_begin, first_of, behind_start, order_place}
use Rattle.cw_follow.proofs.States.{Given, Sound}
use Rattle.cw_follow.proofs.Steps.{Alone, wrong_way, code, block_code, start_place, landed_here, begins_block, begun_block, short_alone}
use Rattle.cw_follow.proofs.Straight.{One, LoadSlot, LoadArgument, step}
use Rattle.cw_follow.proofs.Watched.{Watched, watched_step}
use Rattle.cw_tmpl.specs.ReferenceCode.{names_of}
use Rattle.cw_tmpl.proofs.Sizes.{own_place}
use Rattle.cw_follow.specs.Placing.{base_of}

module _ (rows : Rows) (prog : OrderProgram) (image : Image) {first : Bool} {at g : ℕ} {loaded : Bool} {acts : List OrderActivation} {w : Words} {q : Watched} (l : LandedAt first prog image at g loaded acts w q) where
  -- behind the first instruction the processor is at work, and what was written is what it was
  abbrev pub ShowsNothing : Type 0
  ShowsNothing = shown_as (observed (processor_step q.processor)) ≡ record { output = w.output; end = Running }

  opens : {to : ℕ} {u : View} → u.told.output ≡ w.output → Is image to u (watched_step q) → ShowsNothing
  unfolding watched_step
  opens e i = ap (λ o. o.0) (shows rows i e)

  number_opens : (r x : ℕ) → HasAt first image at (i86.MovImm r (imm.Word x)) → ShowsNothing
  number_opens r x h = opens l.kept.wrote (number rows r x h l.stacked.is)

  zero_opens : HasAt first image at (i86.AluRm 6 true true 0 (rms.Reg 0)) → ShowsNothing
  zero_opens h = opens l.kept.wrote (step rows (One 0 0) h tt l.stacked.is)

  short_opens : (by : ℕ) → HasAt first image at (i86.JumpShort by) → ShowsNothing
  short_opens by h = opens l.kept.wrote (short rows by h l.stacked.is)

  jump_opens : (by : ℕ) → HasAt first image at (i86.Jump by) → ShowsNothing
  jump_opens by h = opens l.kept.wrote (near rows by h l.stacked.is)

  slot_opens : (r : ℕ) → HasAt first image at (load r (slot 0xFA)) → ShowsNothing
  slot_opens r h =
      let k = (record_of acts + 65530) % 65536 / 2 in
      let low : k < 32768 = omega arith in
      let there : (record_of acts + 65530) % 65536 ≡ 2 * k = omega arith in
      opens l.kept.wrote (step rows (LoadSlot r 0xFA k (l.stack k)) h (low, there, refl) l.stacked.is)

  argument_opens : (r n : ℕ) → HasAt first image at (load r (argument n)) → ShowsNothing
  argument_opens r n h =
      let k = (record_of acts + (4 + 2 * n)) % 65536 / 2 in
      let low : k < 32768 = omega arith in
      let there : (record_of acts + (4 + 2 * n)) % 65536 ≡ 2 * k = omega arith in
      opens l.kept.wrote (step rows (LoadArgument r n k (l.stack k)) h (low, there, refl) l.stacked.is)

  load_opens : (offset x : ℕ) → offset ≡ 2 * x % 65536 → HasAt first image at (i86.MovAcc false true false offset) → ShowsNothing
  load_opens offset x e h =
      let k = x % 32768 in
      let low : k < 32768 = omega arith in
      let there : offset ≡ 2 * k = omega arith in
      opens l.kept.wrote (load_at rows offset k low there h l.stacked.is)

  into_opens : (offset x : ℕ) → offset ≡ 2 * x % 65536 → HasAt first image at (load 6 (memory (places.Direct offset))) → ShowsNothing
  into_opens offset x e h =
      let k = x % 32768 in
      let low : k < 32768 = omega arith in
      let there : offset ≡ 2 * k = omega arith in
      opens l.kept.wrote (act rows (Into 6 (memory (places.Direct offset)) (InData k) (l.cells k)) (lit< tt) h ((refl, refl, low, there), refl) l.stacked.is).is

  push_opens : l.top < 32768 → (r : ℕ) → HasAt first image at (i86.Push r) → ShowsNothing
  push_opens low r h =
      let n = (l.top + 32767) % 32768 in
      let lt : n < 32768 = omega arith in
      let top : 2 * l.top ≡ 2 * suc n % 65536 = omega arith in
      opens l.kept.wrote (push rows r n lt top h l.stacked.is)

  pop_opens : l.top < 32768 → (r : ℕ) → HasAt first image at (i86.Pop r) → ShowsNothing
  pop_opens low r h =
      let top : 2 * l.top ≡ 2 * l.top % 65536 = omega arith in
      opens l.kept.wrote (pop rows r l.top (2 * suc l.top % 65536) low top refl h l.stacked.is)

  call_opens : l.top < 32768 → (by : ℕ) → HasAt first image at (i86.Call by) → ShowsNothing
  call_opens low by h =
      let n = (l.top + 32767) % 32768 in
      let lt : n < 32768 = omega arith in
      let top : 2 * l.top ≡ 2 * suc n % 65536 = omega arith in
      opens l.kept.wrote (call rows by n ((at + 3) % 65536) lt top refl h l.stacked.is)

module _ (known : Given) where
  open known use {rows, p, image, all, coded, few, low}

  module _ {q : Watched} {g place : ℕ} {acts : List OrderActivation} {w : Words} where
    low_top : (s : Sound p image g place false acts w q) (a : Alone p image g place false acts w q s.orders) → (landed_here known s a).top < 32768
    low_top s a = let l = landed_here known s a in let t = top_is p acts l.stack l.top w.operands l.operands in omega arith

    jump_shows : (loaded : Bool) (s : Sound p image g place loaded acts w q) (a : Alone p image g place loaded acts w q s.orders) (m : ℕ) (short : Bool)
        → HasPiecesFrom (first_of (order.Jump m) (behind_start s.orders.list place)) image (all.stands g s.orders s.unit).value (order_place (base_of p g) s.orders place) (template_by short (names_of s.orders) (own_place s.orders place) place (order.Jump m))
        → shown_as (observed (processor_step q.processor)) ≡ record { output = w.output; end = Running }
    jump_shows loaded s a m true i = short_opens rows p image (landed_here known s a) _ i.0
    jump_shows loaded s a m false i = jump_opens rows p image (landed_here known s a) _ i.0

    pub single_opens : (loaded : Bool) (s : Sound p image g place loaded acts w q) (a : Alone p image g place loaded acts w q s.orders) (o : Order) → slice_get s.orders.list place ≡ Some o → may_begin o ≡ true
        → shown_as (observed (processor_step q.processor)) ≡ record { output = w.output; end = Running }
    single_opens loaded s a (order.Jump m) e may = jump_shows loaded s a m (short_alone known s a (order.Jump m)) (code known s a (order.Jump m) e)
    single_opens false s a (order.Const zero) e may = zero_opens rows p image (landed_here known s a) (code known s a (order.Const zero) e).0
    single_opens false s a (order.Const (suc n)) e may = number_opens rows p image (landed_here known s a) 0 (suc n) (code known s a (order.Const (suc n)) e).0
    single_opens false s a (order.Home f n) e may = number_opens rows p image (landed_here known s a) 0 _ (code known s a (order.Home f n) e).0
    single_opens false s a (order.FrameHome n) e may = slot_opens rows p image (landed_here known s a) 0 (code known s a (order.FrameHome n) e).0
    single_opens false s a order.ReadByte e may = call_opens rows p image (landed_here known s a) (low_top s a) _ (code known s a order.ReadByte e).0
    single_opens false s a order.WriteByte e may = pop_opens rows p image (landed_here known s a) (low_top s a) 0 (code known s a order.WriteByte e).0
    single_opens false s a (order.CallProc n line) e may = number_opens rows p image (landed_here known s a) 2 _ (code known s a (order.CallProc n line) e).0
    single_opens false s a (order.CallCommon d line) e may = number_opens rows p image (landed_here known s a) 2 _ (code known s a (order.CallCommon d line) e).0
    single_opens false s a (order.CallSpecial k line) e may = number_opens rows p image (landed_here known s a) 2 _ (code known s a (order.CallSpecial k line) e).0
    single_opens false s a (order.LabelOut l) e may = push_opens rows p image (landed_here known s a) (low_top s a) 5 (code known s a (order.LabelOut l) e).0
    single_opens false s a (order.LabelCommon d) e may = push_opens rows p image (landed_here known s a) (low_top s a) 5 (code known s a (order.LabelCommon d) e).0
    single_opens false s a (order.SwitchOut n) e may = push_opens rows p image (landed_here known s a) (low_top s a) 5 (code known s a (order.SwitchOut n) e).0
    single_opens false s a (order.SwitchCommon d) e may = push_opens rows p image (landed_here known s a) (low_top s a) 5 (code known s a (order.SwitchCommon d) e).0
    single_opens false s a (order.ProcOut n) e may = push_opens rows p image (landed_here known s a) (low_top s a) 5 (code known s a (order.ProcOut n) e).0
    single_opens false s a (order.ProcCommon d) e may = push_opens rows p image (landed_here known s a) (low_top s a) 5 (code known s a (order.ProcCommon d) e).0
    single_opens false s a (order.SpecialOut k) e may = argument_opens rows p image (landed_here known s a) 0 (k + 1) (code known s a (order.SpecialOut k) e).0
    single_opens false s a (order.GoMain m) e may = number_opens rows p image (landed_here known s a) 5 _ (code known s a (order.GoMain m) e).0
    single_opens false s a (order.GoCommon d) e may = jump_opens rows p image (landed_here known s a) _ (code known s a (order.GoCommon d) e).0
    single_opens false s a (order.GoSpecial k) e may = argument_opens rows p image (landed_here known s a) 3 k (code known s a (order.GoSpecial k) e).0
    single_opens true s a (order.Const n) e may = absurd (wrong_way known s (order.Const n) e refl)
    single_opens true s a (order.Home f n) e may = absurd (wrong_way known s (order.Home f n) e refl)
    single_opens true s a (order.FrameHome n) e may = absurd (wrong_way known s (order.FrameHome n) e refl)
    single_opens true s a order.ReadByte e may = absurd (wrong_way known s order.ReadByte e refl)
    single_opens true s a order.WriteByte e may = absurd (wrong_way known s order.WriteByte e refl)
    single_opens true s a (order.CallProc n line) e may = absurd (wrong_way known s (order.CallProc n line) e refl)
    single_opens true s a (order.CallCommon d line) e may = absurd (wrong_way known s (order.CallCommon d line) e refl)
    single_opens true s a (order.CallSpecial k line) e may = absurd (wrong_way known s (order.CallSpecial k line) e refl)
    single_opens true s a (order.LabelOut l) e may = absurd (wrong_way known s (order.LabelOut l) e refl)
    single_opens true s a (order.LabelCommon d) e may = absurd (wrong_way known s (order.LabelCommon d) e refl)
    single_opens true s a (order.SwitchOut n) e may = absurd (wrong_way known s (order.SwitchOut n) e refl)
    single_opens true s a (order.SwitchCommon d) e may = absurd (wrong_way known s (order.SwitchCommon d) e refl)
    single_opens true s a (order.ProcOut n) e may = absurd (wrong_way known s (order.ProcOut n) e refl)
    single_opens true s a (order.ProcCommon d) e may = absurd (wrong_way known s (order.ProcCommon d) e refl)
    single_opens true s a (order.SpecialOut k) e may = absurd (wrong_way known s (order.SpecialOut k) e refl)
    single_opens true s a (order.GoMain m) e may = absurd (wrong_way known s (order.GoMain m) e refl)
    single_opens true s a (order.GoCommon d) e may = absurd (wrong_way known s (order.GoCommon d) e refl)
    single_opens true s a (order.GoSpecial k) e may = absurd (wrong_way known s (order.GoSpecial k) e refl)
    single_opens loaded s a _ e may = absurd (false≢true may)

  module _ {q : Watched} {g place : ℕ} {loaded : Bool} {acts : List OrderActivation} {w : Words} (s : Sound p image g place loaded acts w q) where
    abbrev LandedThere : Type 0
    LandedThere = LandedAt (begins_block known s) p image (start_place known s) g s.loaded_before acts s.before (begun_block known s)

    landed_there : LandedThere
    landed_there = over_landed (begins_block known s) s.landed

    same_output : shown_as (observed (processor_step q.processor)) ≡ record { output = s.before.output; end = Running } → shown_as (observed (processor_step q.processor)) ≡ record { output = w.output; end = Running }
    same_output e = e ∙ ap (λ o. record { output = o; end = Running }) s.wrote

    word_opens : (f n : ℕ) → HasAt (begins_block known s) image (start_place known s) (i86.MovAcc false true false ((all.stands g s.orders s.unit).value 2 f n (start_place known s + 3))) → shown_as (observed (processor_step q.processor)) ≡ record { output = w.output; end = Running }
    word_opens f n h = same_output (load_opens rows p image landed_there _ (home_word p.addresses g f n) ((all.stands g s.orders s.unit).fills.bytes f n (start_place known s + 3)) h)

    frame_opens : HasAt (begins_block known s) image (start_place known s) (load 3 (slot 0xFA)) → shown_as (observed (processor_step q.processor)) ≡ record { output = w.output; end = Running }
    frame_opens h = same_output (slot_opens rows p image landed_there 3 h)

    -- a word that is fetched, and a part of one
    pub fetch_opens : (x : Place) (rest : List Order) → drop s.from s.orders.list ≡ address_orders x ++ order.Load ∷ rest → block_at 0 (drop s.from s.orders.list) ≡ block.Fetch x
        → shown_as (observed (processor_step q.processor)) ≡ record { output = w.output; end = Running }
    fetch_opens (cell.Word f n) rest e is = word_opens f n (block_code known s (block.Fetch (cell.Word f n)) (order.Home f n) (order.Load ∷ rest) e is).0
    fetch_opens (cell.Frame n) rest e is = frame_opens (block_code known s (block.Fetch (cell.Frame n)) (order.FrameHome n) (order.Load ∷ rest) e is).0

    pub part_opens : (x : Place) (t b : ℕ) (is_signed : Bool) (rest : List Order) → drop s.from s.orders.list ≡ address_orders x ++ order.LoadPart t b is_signed ∷ rest → block_at 0 (drop s.from s.orders.list) ≡ block.FetchPart x t b is_signed
        → shown_as (observed (processor_step q.processor)) ≡ record { output = w.output; end = Running }
    part_opens (cell.Word f n) t b is_signed rest e is = word_opens f n (block_code known s (block.FetchPart (cell.Word f n) t b is_signed) (order.Home f n) (order.LoadPart t b is_signed ∷ rest) e is).0
    part_opens (cell.Frame n) t b is_signed rest e is = frame_opens (block_code known s (block.FetchPart (cell.Frame n) t b is_signed) (order.FrameHome n) (order.LoadPart t b is_signed ∷ rest) e is).0

    pub fetch_both_opens : (n m : ℕ) (rest : List Order) → drop s.from s.orders.list ≡ order.FrameHome n ∷ order.Load ∷ order.Save ∷ order.FrameHome m ∷ order.Load ∷ rest
        → block_at 0 (drop s.from s.orders.list) ≡ block.FetchBoth n m → shown_as (observed (processor_step q.processor)) ≡ record { output = w.output; end = Running }
    fetch_both_opens n m rest e is = frame_opens (block_code known s (block.FetchBoth n m) (order.FrameHome n) (order.Load ∷ order.Save ∷ order.FrameHome m ∷ order.Load ∷ rest) e is).0

    pub compare_word_opens : (n x : ℕ) (c : Comparator) (m : ℕ) (rest : List Order) → drop s.from s.orders.list ≡ order.FrameHome n ∷ order.Load ∷ order.Save ∷ order.Const x ∷ order.JumpIf c m ∷ rest
        → block_at 0 (drop s.from s.orders.list) ≡ block.CompareWord n x c m → shown_as (observed (processor_step q.processor)) ≡ record { output = w.output; end = Running }
    compare_word_opens n x c m rest e is = frame_opens (block_code known s (block.CompareWord n x c m) (order.FrameHome n) (order.Load ∷ order.Save ∷ order.Const x ∷ order.JumpIf c m ∷ rest) e is).0

    -- a word of an element
    address_opens : (e : Element) (t : Test) (x : Place) (tail : List Coded) → HasPiecesFrom (begins_block known s) image (all.stands g s.orders s.unit).value (start_place known s) (element_tested (record e { index = x }) t ++ tail)
        → shown_as (observed (processor_step q.processor)) ≡ record { output = w.output; end = Running }
    address_opens e (test.Address origin) (cell.Word f n) tail h = same_output (number_opens rows p image landed_there 6 _ h.0)
    address_opens e (test.Address origin) (cell.Frame n) tail h = frame_opens h.0
    address_opens e (test.Bounds upper line) (cell.Word f n) tail h =
        same_output (into_opens rows p image landed_there _ (home_word p.addresses g f n) ((all.stands g s.orders s.unit).fills.bytes f n (start_place known s + 4)) h.0)
    address_opens e (test.Bounds upper line) (cell.Frame n) tail h = frame_opens h.0

    pub element_opens : (e : Element) (rest : List Order) → drop s.from s.orders.list ≡ element_orders e ++ order.Load ∷ rest → block_at 0 (drop s.from s.orders.list) ≡ block.FetchElement e
        → shown_as (observed (processor_step q.processor)) ≡ record { output = w.output; end = Running }
    element_opens e rest shape is = address_opens e e.test e.index _ (begun_code known s e _ (block.FetchElement e) (shape ∙ formed_list_is e (order.Load ∷ rest)) is)
