-- What the code of a switch's way does: the index is tested, and its label is found in a table of the code.
use Rattle.std.proofs.Common.{◌≡◌, ℕ, zero, suc, ◌+◌, ◌*◌, ◌%◌, ◌<◌, ◌≤◌, Bool, true, false, ℤ, pos, List, [], ◌∷◌, length, Some, refl, subst, arith, lit<, lit≤}
use Rattle.std.specs.Prelude.{slice_get}
use Rattle.std.specs.List.{All}
use Rattle.std.proofs.lemmas.Option.{slice_get_within}
use Rattle.cw_i86.specs.declared.instr.Instr.TheVariants as i86
use Rattle.cw_i86.specs.declared.instr.Imm.TheVariants as imm
use Rattle.cw_i86.specs.declared.instr.Rm.TheVariants as rms
use Rattle.cw_run86.specs.Views.{View, put_word, with_number, word_difference, difference_overflows}
use Rattle.cw_rows86.specs.Acts.{Count}
use Rattle.cw_word.specs.Word.{unsigned}
use Rattle.cw_unit.specs.Stop.{SwitchRange, Stopped}
use Rattle.cw_unit.specs.Words.{Operand, Word}
use Rattle.cw_order.specs.OrderProgram.{OrderProgram}
use Rattle.cw_order.specs.OrderState.{OrderActivation, operand_words}
use Rattle.cw_order.specs.OrderChanges.{way_of_one, to_mark_of_switch, mark_of_number}
use Rattle.cw_order.specs.FittingWords.{OperandFits}
use Rattle.cw_tmpl.specs.Mnemonics.{entry_of_table}
use Rattle.cw_tmpl.specs.Library.{stop_place}
use Rattle.cw_routines.specs.Results.{Stands}
use Rattle.cw_follow.proofs.Watched.{Watched}
use Rattle.cw_follow.proofs.Standing.{HasAll, HasWord, Image}
use Rattle.cw_follow.proofs.Rows.{Rows}
use Rattle.cw_follow.proofs.Chains.{Is, IsCompared, Leads, view, seen, to_place, call, compare_number, jump_below, pass_above, through_table, more, compared_more, last}
use Rattle.cw_follow.proofs.Acting.{act}
use Rattle.cw_follow.proofs.Straight.{Number, Exchange, Double, straight}
use Rattle.cw_follow.proofs.Routines.{Over, with_ax, quiet_in, quiet_library, flags_of, arrives, lifted, over, leads_then}
use Rattle.cw_follow.proofs.Stacks.{level, record_of, top_is}
use Rattle.cw_follow.proofs.Orders.{kept_under, Landed, landed, Chooses, further}
use Rattle.cw_follow.proofs.Tables.{marked, table_entry}

module _ (rows : Rows) (prog : OrderProgram) (image : Image) where
  -- the code before the table
  abbrev pub WayCode : (at n line by table : ℕ) → Type 0
  WayCode at n line by table =
      HasAll image at (i86.Dec 0 ∷ with_number 7 n ∷ i86.JumpIf 2 6 ∷ i86.MovImm 2 (imm.Word line) ∷ i86.Call by ∷ i86.XchgAx 3 ∷ i86.Shift 4 true false (rms.Reg 3) ∷ i86.JumpRm (entry_of_table table) ∷ [])

  module _ {q : Watched} {at : ℕ} (g : ℕ) (acts : List OrderActivation) (n line by table : ℕ) (i : WayCode at n line by table) (z : ℤ) (rest : List Operand) (memory : List ℤ) (input output : List ℕ)
      (l : Landed prog image at g true acts (record { operands = Word z ∷ rest; memory = memory; input = input; output = output }) q) where
    -- the index, counted from 0
    abbrev v : ℕ
    v = word_difference (unsigned z) 1

    abbrev seen_with : (overflow : Bool) → View
    seen_with overflow = view v l.stacked.cx l.stacked.dx l.stacked.bx (2 * l.top) (record_of acts) l.stacked.si prog.limits.area overflow l.cells l.stack l.input l.told

    -- behind the comparison
    tested : Leads output 2 q (IsCompared image (at + 1 + 3) (seen_with (difference_overflows v n)) v n)
    tested =
        more rows {to = at + 1} {w = seen_with (difference_overflows (unsigned z) 1)} l.stacked.is l.kept.wrote (act rows (Count true 0) (lit< tt) i.0 tt (with_ax l.operands.0 l.stacked.is)).is (λ r t.
        last rows t l.kept.wrote (compare_number rows n i.1.0 t))

    -- an index that has a label
    way_to : (to k : ℕ) → z ≡ pos (suc k) → k < n → n < 32768 → table ≡ (at + 20) % 65536 → HasWord image (at + 20 + 2 * k) (to % 65536)
        → Leads output 6 q (Landed prog image to g false acts (record { operands = rest; memory = memory; input = input; output = output }))
    way_to to k is_z lt short table_is word =
        let e = table_entry image at n k table to z is_z lt short table_is word l.stacked.is.sees.fits in
        leads_then {n = 2} {m = 4} tested (λ r c.
        compared_more rows {Between = Is image (at + 1 + 3 + 2 + 6) (seen_with (difference_overflows v n))} c.is l.kept.wrote (jump_below rows 6 e.low i.1.1.0 c) (λ r t.
        straight rows (Exchange ∷ Double 3 ∷ []) {n = 1} l.kept.wrote (i.1.1.1.1.1.0, (i.1.1.1.1.1.1.0, tt)) (tt, (e.small, tt))
        (seen {to = at + 1 + 3 + 2 + 3 + 3} (let e : at + 1 + 3 + 2 + 6 ≡ at + 1 + 3 + 2 + 3 + 3 = omega arith in e) refl t) (λ r t.
        last rows t l.kept.wrote
        (landed rows prog image g acts false to l.top rest memory input output refl l.operands.1 l.kept (through_table rows table (at + 20 + 2 * k) to e.there word.within word.is i.1.1.1.1.1.1.1.0 t)))))

    -- one that has none: the way back that the call leaves on the stack is of no use
    way_stops : (m : ℕ) → n ≤ v → Stands image.bytes → line < 65536 → (at + 12 + by) % 65536 ≡ stop_place SwitchRange % 65536 → l.top ≡ suc m → l.top ≤ level acts
        → Leads output 15 q (Over (record { output = output; end = Stopped SwitchRange (g + 1) line }))
    way_stops m le library small arrives_at top_is low =
        let s = l.stacked in
        let o = difference_overflows v n in
        let area = prog.limits.area in
        let bp = record_of acts in
        let few = l.kept.piled.0.few in
        let fits : m < 32768 = omega arith in
        let under : m < level acts = omega arith in
        let sp : 2 * l.top ≡ 2 * suc m % 65536 = omega arith in
        let back = (at + 1 + 3 + 2 + 3 + 3) % 65536 in
        let pushed : ℕ → ℕ = put_word l.stack m back in
        let there : (at + 1 + 3 + 2 + 3 + 3 + by) % 65536 ≡ stop_place SwitchRange % 65536 = omega arith in
        leads_then {n = 2} {m = 13} tested (λ r c.
        compared_more rows {Between = Is image (at + 1 + 3 + 2) (seen_with o)} c.is l.kept.wrote (pass_above rows 6 le i.1.1.0 c) (λ r t.
        straight rows (Number 2 line ∷ []) {n = 11} l.kept.wrote (i.1.1.1.0, tt) (tt, tt) t (λ r t.
        more rows {to = stop_place SwitchRange} {w = view v s.cx line s.bx (2 * m) bp s.si area o l.cells pushed l.input l.told} t l.kept.wrote (to_place there (call rows by m back fits sp refl i.1.1.1.1.0 t)) (λ r t.
        subst (λ x. Leads x 10 r (Over (record { output = x; end = Stopped SwitchRange (g + 1) line }))) l.kept.wrote
        (lifted rows t.overlooks t.silent
        (rows.routines.switch (quiet_in r.places) image.bytes library (quiet_library t.ignores) line (level acts + 3) (g + 1) v s.cx s.bx (2 * m) bp s.si area (flags_of r) l.cells pushed l.input l.told r.processor small
        (record { there = (let e : (bp + 65534) % 65536 ≡ 2 * (level acts + 3) = omega arith in e); low = omega arith; number = (kept_under m back under l.kept).piled.0.number_is; few = omega arith }) (arrives t)) (λ p u. over r u))))))

    -- the index is a word on the stack, so there is room for the way back
    way_bars : n ≤ v → Stands image.bytes → line < 65536 → (at + 12 + by) % 65536 ≡ stop_place SwitchRange % 65536 → operand_words (Word z ∷ rest) < level acts
        → Leads output 15 q (Over (record { output = output; end = Stopped SwitchRange (g + 1) line }))
    way_bars le library small arrives_at room = from l.top refl
      where
        from : (top : ℕ) → l.top ≡ top → Leads output 15 q (Over (record { output = output; end = Stopped SwitchRange (g + 1) line }))
        from zero same = let t = top_is prog acts l.stack l.top rest l.operands.1 in absurd (omega arith)
        from (suc m) same = let t = top_is prog acts l.stack l.top rest l.operands.1 in way_stops m le library small arrives_at same (omega arith)

  pub chooses_way : {q : Watched} {at : ℕ} (g : ℕ) (acts : List OrderActivation) (to line by table : ℕ) (start : ℕ → ℕ) (marks : List ℕ) (operands : List Operand) (memory : List ℤ) (input output : List ℕ)
      → length marks < 32768 → table ≡ (at + 20) % 65536 → Stands image.bytes → line < 65536 → (at + 12 + by) % 65536 ≡ stop_place SwitchRange % 65536 → operand_words operands < level acts
      → ((k m : ℕ) → slice_get marks k ≡ Some m → HasWord image (at + 20 + 2 * k) (start m % 65536)) → All OperandFits operands → WayCode at (length marks) line by table
      → Landed prog image at g true acts (record { operands = operands; memory = memory; input = input; output = output }) q
      → Chooses prog image 15 to start g false line acts output q (way_of_one (λ i v. to_mark_of_switch (mark_of_number marks i) v) operands (record { operands = operands; memory = memory; input = input; output = output }))
  chooses_way g acts to line by table start marks operands memory input output short table_is library small arrives_at room words fits i l =
      marked rows prog image g acts 15 to start line marks to_mark_of_switch operands memory input output short fits l
      (λ k m rest is l.
      further 6 (lit≤ tt) (lit< tt)
      (way_to g acts (length marks) line by table i (pos (suc k)) rest memory input output l (start m) k refl (slice_get_within marks k m is) short table_is (words k m is)))
      (λ z rest same far l.
      further 15 (lit≤ tt) (lit< tt)
      (way_bars g acts (length marks) line by table i z rest memory input output l far library small arrives_at (subst (λ xs. operand_words xs < level acts) same room)))
