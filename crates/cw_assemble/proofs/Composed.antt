-- Code that is put together from parts: lists of orders, the way of a loop, and switches.
use Rattle.std.proofs.Common.{get_or, suc, ◌<◌, ◌≡◌, ℕ, Bool, false, ◌+◌, ◌*◌, List, [], ◌∷◌, ◌++◌, length, drop, drop-cons, sym, ap, ap₂, ◌∙◌, subst, arith, length-append, ℤ}
use Rattle.cw_i86.specs.declared.instr.Instr.{Instr}
use Rattle.cw_i86.specs.declared.instr.Instr.TheVariants as i86
use Rattle.cw_unit.specs.declared.unit.Goal.{Goal}
use Rattle.cw_order.specs.declared.order.Comparator.{Comparator}
use Rattle.cw_order.specs.declared.order.LabelMark.{LabelMark}
use Rattle.cw_order.specs.declared.order.Order.{Order}
use Rattle.cw_order.specs.declared.order.Orders.{Orders}
use Rattle.cw_tmpl.specs.declared.assembling.Assembly.{Assembly}
use Rattle.cw_tmpl.specs.declared.blocks.Block.{Block}
use Rattle.cw_tmpl.specs.declared.pieces.Target.{Target}
use Rattle.cw_tmpl.specs.declared.pieces.Target.TheVariants as target
use Rattle.cw_tmpl.specs.declared.pieces.Coded.{Coded}
use Rattle.cw_tmpl.specs.declared.pieces.Coded.TheVariants as coded
use Rattle.cw_run86.specs.Views.{with_number}
use Rattle.cw_tmpl.specs.Mnemonics.{argument, load, double, exchange, move, set_word, subtract, jump_if_below, jump_if_not_less, jump_if_at_most}
use Rattle.cw_word.specs.Word.{unsigned}
use Rattle.cw_tmpl.specs.Library.{switch_entry, bounds_entry}
use Rattle.cw_tmpl.specs.Names.{Names, no_names, own, has_landing, landing_bytes, switch_bytes}
use Rattle.cw_tmpl.specs.Named.{is_named_label, is_named_switch}
use Rattle.cw_tmpl.specs.Blocks.{block_at, orders_left}
use Rattle.cw_tmpl.specs.Pieces.{blanks, relocations}
use Rattle.cw_order.specs.declared.order.Order.TheVariants as order
use Rattle.cw_tmpl.specs.Templates.{template, back_jump, branch_by, checked_by, pieces_size, distance, number_compared, goal_words, mark_words, loop_way, switch_tested, switch_way, switch_pieces, with_both_bounds, block_pieces, block_size, entry_pieces, argument_load_size}
use Rattle.cw_tmpl.specs.ShortForms.{is_short}
use Rattle.cw_tmpl.specs.ReferenceCode.{templates, landings, switches, entry_size, landings_place, switches_place, names_of, pieces_of, landing_where, switch_where}
use Rattle.cw_tmpl.specs.Assembling as assembling
use Rattle.cw_tmpl.proofs.Growing as growing
use Rattle.cw_tmpl.proofs.Sizes.{size_to, size_everywhere, size_of_templates, landings_at}
use Rattle.cw_tmpl.proofs.Ways.{landing_long, routine_long, size_of_landings}
use Rattle.cw_assemble.specs.declared.draft.Draft.{Draft}
use Rattle.cw_assemble.specs.Growing.{Adds}
use Rattle.cw_assemble.proofs.Growing.{adds_then, placed, Coming}

-- pieces, and pieces behind them
infixr 5 ◌⨟◌
pub ◌⨟◌ : {a b c : Draft} {ps qs : List Coded} → Adds a ps b → Adds b qs c → Adds a (ps ++ qs) c
f ⨟ s = adds_then _ _ _ _ _ f s

-- the pieces of a value that is named by another way, alone and with others behind them
pub by_same : {A : Type 0} {x y : A} {old new : Draft} (f : A → List Coded) → x ≡ y → Adds old (f x) new → Adds old (f y) new
by_same {old = old} {new = new} f e a = subst (λ z. Adds old (f z) new) e a

pub by_first : {A : Type 0} {x y : A} {old new : Draft} (f : A → List Coded) (qs : List Coded) → x ≡ y → Adds old (f x ++ qs) new → Adds old (f y ++ qs) new
by_first {old = old} {new = new} f qs e a = subst (λ z. Adds old (f z ++ qs) new) e a

-- an index less its lower bound, its comparison with its bounds, and what is behind them
pub bounded : {old one two new : Draft} {z l : ℤ} {m n : ℕ} {ps : List Coded} (f : ℤ → List Coded) (g : ℕ → List Coded) → z ≡ l → m ≡ n → Adds old (f z) one → Adds one (g m) two → Adds two ps new
    → Adds old (f l ++ (g n ++ ps)) new
bounded f g low count a b d = by_same f low a ⨟ by_same g count b ⨟ d

as_pieces : (old new : Draft) (ps qs : List Coded) → ps ≡ qs → Adds old ps new → Adds old qs new
as_pieces old new ps qs e h = subst (λ xs. Adds old xs new) e h

-- what depends on the place behind other pieces
at_end : {old one new : Draft} {before : List Coded} (f : ℕ → List Coded) → Adds old before one → Adds one (f (length one.assembly.bytes)) new → Adds old (before ++ f (length old.assembly.bytes + pieces_size before)) new
at_end f a b = a ⨟ placed f a b

-- a comparison, and the jump behind it
pub branch_added : {old one new : Draft} {before : List Coded} (short : Bool) (c : Comparator) (to : ℕ) → Adds old before one
    → Adds one (branch_by short c (length one.assembly.bytes) to) new → Adds old (before ++ branch_by short c (length old.assembly.bytes + pieces_size before) to) new
branch_added short c to a b = at_end (λ n. branch_by short c n to) a b

-- an operation, and the check behind it
pub check_added : {old one new : Draft} {before : List Coded} (short : Bool) (line to : ℕ) → Adds old before one
    → Adds one (checked_by short line (length one.assembly.bytes) to) new → Adds old (before ++ checked_by short line (length old.assembly.bytes + pieces_size before) to) new
check_added short line to a b = at_end (λ n. checked_by short line n to) a b

-- the first of the items from a place on
pub item_first : {A : Type 0} (xs : List A) (k : ℕ) (x : A) → k < length xs → x ≡ get_or xs k x → drop k xs ≡ x ∷ drop (k + 1) xs
item_first xs k x lt is =
    let e : suc k ≡ k + 1 = omega arith in
    drop-cons xs k x lt ∙ ap (λ y. y ∷ drop (suc k) xs) (sym is) ∙ ap (λ n. x ∷ drop n xs) e

-- ---- tables

pub switch_added : (old one two new : Draft) (n : ℕ) (i1 i2 i3 i4 i5 i6 : Instr) (t : Target) (names : Names) (goals : List Goal) → Adds old (number_compared n) one → n ≡ length goals
    → i1 ≡ jump_if_below 3 → i2 ≡ double 3 → i3 ≡ move 5 6 → i4 ≡ move 4 5 → i5 ≡ set_word 0 8 → i6 ≡ subtract 4 0 → t ≡ own (length old.assembly.bytes + 29)
    → Adds one (coded.Whole i1 ∷ coded.Call (target.LibraryAhead switch_entry) ∷ coded.Whole i2 ∷ coded.Whole i3 ∷ coded.Whole i4 ∷ coded.Whole i5 ∷ coded.Whole i6 ∷ coded.Way t ∷ []) two
    → Adds two (goal_words names goals) new → Adds old (switch_pieces names (length old.assembly.bytes) goals) new
switch_added old one two new n i1 i2 i3 i4 i5 i6 t names goals a en e1 e2 e3 e4 e5 e6 et b d =
    let T = own (length old.assembly.bytes + 29) in
    let first : number_compared n ≡ number_compared (length goals) = ap number_compared en in
    let second : coded.Whole i1 ∷ coded.Call (target.LibraryAhead switch_entry) ∷ coded.Whole i2 ∷ coded.Whole i3 ∷ coded.Whole i4 ∷ coded.Whole i5 ∷ coded.Whole i6 ∷ coded.Way t ∷ []
    ≡ coded.Whole (jump_if_below 3) ∷ coded.Call (target.LibraryAhead switch_entry) ∷ coded.Whole (double 3) ∷ coded.Whole (move 5 6) ∷ coded.Whole (move 4 5) ∷ coded.Whole (set_word 0 8) ∷ coded.Whole (subtract 4 0) ∷ coded.Way T ∷ [] = cc in
    adds_then old one new (number_compared (length goals)) _ (as_pieces old one (number_compared n) (number_compared (length goals)) first a)
    (adds_then one two new _ (goal_words names goals) (as_pieces one two _ _ second b) d)

pub loop_added : (old one two new : Draft) (n w : ℕ) (i1 i2 : Instr) (t : Target) (names : Names) (marks : List ℕ) → Adds old (number_compared n) one → n ≡ length marks
    → w ≡ distance (length old.assembly.bytes + 13) (length old.assembly.bytes + 20 + 2 * length marks) → i1 ≡ double 3 → i2 ≡ jump_if_below 3 → t ≡ own (length old.assembly.bytes + 20)
    → Adds one (coded.Whole i2 ∷ coded.Whole (i86.Jump w) ∷ coded.Whole i1 ∷ coded.Way t ∷ []) two
    → Adds two (mark_words names marks) new → Adds old (loop_way names (length old.assembly.bytes) marks) new
loop_added old one two new n w i1 i2 t names marks a en ew e1 e2 et b d =
    let W = distance (length old.assembly.bytes + 13) (length old.assembly.bytes + 20 + 2 * length marks) in
    let T = own (length old.assembly.bytes + 20) in
    let first : number_compared n ≡ number_compared (length marks) = ap number_compared en in
    let second : coded.Whole i2 ∷ coded.Whole (i86.Jump w) ∷ coded.Whole i1 ∷ coded.Way t ∷ [] ≡ coded.Whole (jump_if_below 3) ∷ coded.Whole (i86.Jump W) ∷ coded.Whole (double 3) ∷ coded.Way T ∷ [] = cc in
    adds_then old one new (number_compared (length marks)) _ (as_pieces old one (number_compared n) (number_compared (length marks)) first a)
    (adds_then one two new _ (mark_words names marks) (as_pieces one two _ _ second b) d)

pub way_added : (old one two new : Draft) (n line : ℕ) (i1 i2 : Instr) (t : Target) (names : Names) (marks : List ℕ) → Adds old (switch_tested n line) one → n ≡ length marks
    → i1 ≡ exchange → i2 ≡ double 3 → t ≡ own (length old.assembly.bytes + 20) → Adds one (coded.Whole i1 ∷ coded.Whole i2 ∷ coded.Way t ∷ []) two
    → Adds two (mark_words names marks) new → Adds old (switch_way names line (length old.assembly.bytes) marks) new
way_added old one two new n line i1 i2 t names marks a en e1 e2 et b d =
    let T = own (length old.assembly.bytes + 20) in
    let first : switch_tested n line ≡ switch_tested (length marks) line = ap (λ x. switch_tested x line) en in
    let second : coded.Whole i1 ∷ coded.Whole i2 ∷ coded.Way t ∷ [] ≡ coded.Whole exchange ∷ coded.Whole (double 3) ∷ coded.Way T ∷ [] = cc in
    adds_then old one new (switch_tested (length marks) line) _ (as_pieces old one (switch_tested n line) (switch_tested (length marks) line) first a)
    (adds_then one two new _ (mark_words names marks) (as_pieces one two _ _ second b) d)

-- ---- one item of a list

pub next_block : (first : Draft) (all : List Coded) (old new : Draft) (names : Names) (list : List Order) (k left next : ℕ) (short : Bool) (b : Block) (o : Order) → drop k list ≡ o ∷ drop (k + 1) list
    → b ≡ block_at left (drop k list) → next ≡ orders_left b → short ≡ is_short names.reach k b o → Adds old (block_pieces names (length old.assembly.bytes) k short b o) new
    → Coming first all old (templates names (length old.assembly.bytes) k left (drop k list)) → Coming first all new (templates names (length new.assembly.bytes) (k + 1) next (drop (k + 1) list))
next_block first all old new names list k left next short b o e is_block is_next is_form added coming = record {
  come = λ z behind.
      let at = length old.assembly.bytes in
      let rest = drop (k + 1) list in
      let c = block_at left (o ∷ rest) in
      let s = is_short names.reach k c o in
      let same : b ≡ c = is_block ∙ ap (block_at left) e in
      let pieces = block_pieces names at k s c o in
      let added' : Adds old pieces new = subst (λ x. Adds old (block_pieces names at k (is_short names.reach k x o) x o) new) same (subst (λ t. Adds old (block_pieces names at k t b o) new) is_form added) in
      let left_is : next ≡ orders_left c = is_next ∙ ap orders_left same in
      let number : k + 1 ≡ suc k = omega arith in
      let last : Adds new (templates names (length new.assembly.bytes) (suc k) (orders_left c) rest) z =
      subst (λ n. Adds new (templates names (length new.assembly.bytes) n (orders_left c) rest) z) number (subst (λ m. Adds new (templates names (length new.assembly.bytes) (k + 1) m rest) z) left_is behind) in
      let long : at + length (blanks pieces) ≡ at + block_size s c o = ap (λ n. at + n) (size_everywhere names at k s c o) in
      let last' = subst (λ n. Adds new (templates names n (suc k) (orders_left c) rest) z) long (placed (λ n. templates names n (suc k) (orders_left c) rest) added' last) in
      coming.come z (subst (λ xs. Adds old (templates names at k left xs) z) (sym e) (adds_then old new z pieces (templates names (at + block_size s c o) (suc k) (orders_left c) rest) added' last'));
}

pub next_landing : (first : Draft) (all : List Coded) (old new : Draft) (names : Names) (named : ℕ → Bool) (list : List LabelMark) (k : ℕ) (m : LabelMark) (has : Bool) → drop k list ≡ m ∷ drop (k + 1) list → has ≡ has_landing named k m
    → Adds old (landing_where has names (length old.assembly.bytes) m) new → Coming first all old (landings names named (length old.assembly.bytes) k (drop k list))
    → Coming first all new (landings names named (length new.assembly.bytes) (k + 1) (drop (k + 1) list))
next_landing first all old new names named list k m has e is added coming = record {
  come = λ z behind.
      let at = length old.assembly.bytes in
      let rest = drop (k + 1) list in
      let own = has_landing named k m in
      let next : k + 1 ≡ suc k = omega arith in
      let pieces = landing_where own names at m in
      let added' : Adds old pieces new = subst (λ b. Adds old (landing_where b names at m) new) is added in
      let last = subst (λ n. Adds new (landings names named (length new.assembly.bytes) n rest) z) next behind in
      let long : at + length (blanks pieces) ≡ at + landing_bytes own = ap (λ n. at + n) (landing_long own names at m) in
      let last' = subst (λ n. Adds new (landings names named n (suc k) rest) z) long (placed (λ n. landings names named n (suc k) rest) added' last) in
      coming.come z (subst (λ xs. Adds old (landings names named at k xs) z) (sym e) (adds_then old new z pieces (landings names named (at + landing_bytes own) (suc k) rest) added' last'));
}

pub next_switch : (first : Draft) (all : List Coded) (old new : Draft) (names : Names) (named : ℕ → Bool) (list : List (List Goal)) (k : ℕ) (gs : List Goal) (has : Bool) → drop k list ≡ gs ∷ drop (k + 1) list → has ≡ named k
    → Adds old (switch_where has names (length old.assembly.bytes) gs) new → Coming first all old (switches names named (length old.assembly.bytes) k (drop k list))
    → Coming first all new (switches names named (length new.assembly.bytes) (k + 1) (drop (k + 1) list))
next_switch first all old new names named list k gs has e is added coming = record {
  come = λ z behind.
      let at = length old.assembly.bytes in
      let rest = drop (k + 1) list in
      let own = named k in
      let next : k + 1 ≡ suc k = omega arith in
      let pieces = switch_where own names at gs in
      let added' : Adds old pieces new = subst (λ b. Adds old (switch_where b names at gs) new) is added in
      let last = subst (λ n. Adds new (switches names named (length new.assembly.bytes) n rest) z) next behind in
      let long : at + length (blanks pieces) ≡ at + switch_bytes own gs = ap (λ n. at + n) (routine_long own names at gs) in
      let last' = subst (λ n. Adds new (switches names named n (suc k) rest) z) long (placed (λ n. switches names named n (suc k) rest) added' last) in
      coming.come z (subst (λ xs. Adds old (switches names named at k xs) z) (sym e) (adds_then old new z pieces (switches names named (at + switch_bytes own gs) (suc k) rest) added' last'));
}

-- ---- all parts of a segment's code

whole_added : (a b c d : Assembly) (o : Orders) (names : Names) → names ≡ names_of o → assembling.Adds (record { bytes = []; relocs = [] }) entry_pieces a → assembling.Adds a (templates names (length a.bytes) 0 0 o.list) b
    → assembling.Adds b (landings names (is_named_label o) (length b.bytes) 0 o.labels) c
    → assembling.Adds c (switches names (is_named_switch o) (length c.bytes) 0 o.switches) d → (d.bytes ≡ blanks (pieces_of o)) × (d.relocs ≡ relocations 0 (pieces_of o))
whole_added a b c d o names same ha hb hc hd =
    let start : Assembly = record { bytes = []; relocs = [] } in
    let N = names_of o in
    let L = is_named_label o in
    let S = is_named_switch o in
    let size_a : length a.bytes ≡ entry_size = ap length ha.bytes in
    let sizes = ap (λ n. size_to (is_short n.reach) 0 0 o.list (length o.list)) same in
    let size_b : length b.bytes ≡ landings_place o = omega (arith, sizes, ap length hb.bytes, length-append a.bytes (blanks (templates names (length a.bytes) 0 0 o.list)), size_of_templates names (length a.bytes) 0 0 o.list, size_a, landings_at o) in
    let size_c : length c.bytes ≡ switches_place o = omega (arith, ap length hc.bytes, length-append b.bytes (blanks (landings names L (length b.bytes) 0 o.labels)), size_of_landings names L (length b.bytes) 0 o.labels, size_b) in
    let hb' : assembling.Adds a (templates N entry_size 0 0 o.list) b =
    subst (λ ps. assembling.Adds a ps b) (ap (λ n. templates n (length a.bytes) 0 0 o.list) same ∙ ap (λ n. templates N n 0 0 o.list) size_a) hb in
    let hc' : assembling.Adds b (landings N L (landings_place o) 0 o.labels) c =
    subst (λ ps. assembling.Adds b ps c) (ap (λ n. landings n L (length b.bytes) 0 o.labels) same ∙ ap (λ n. landings N L n 0 o.labels) size_b) hc in
    let hd' : assembling.Adds c (switches N S (switches_place o) 0 o.switches) d =
    subst (λ ps. assembling.Adds c ps d) (ap (λ n. switches n S (length c.bytes) 0 o.switches) same ∙ ap (λ n. switches N S n 0 o.switches) size_c) hd in
    let all = growing.adds_then start a d entry_pieces _ ha
    (growing.adds_then a b d (templates N entry_size 0 0 o.list) _ hb' (growing.adds_then b c d (landings N L (landings_place o) 0 o.labels) (switches N S (switches_place o) 0 o.switches) hc' hd')) in
    (all.bytes, all.relocs)

pub whole_from : (start a b c d : Draft) (o : Orders) (names : Names) (ls : List Order) → start ≡ record { assembly = record { bytes = []; relocs = [] }; failed = false } → ls ≡ o.list → names ≡ names_of o
    → Adds start entry_pieces a → Adds a (templates names (length a.assembly.bytes) 0 0 ls) b → Adds b (landings names (is_named_label o) (length b.assembly.bytes) 0 o.labels) c
    → Adds c (switches names (is_named_switch o) (length c.assembly.bytes) 0 o.switches) d → d.failed ≡ false
    → (d.assembly.bytes ≡ blanks (pieces_of o)) × (d.assembly.relocs ≡ relocations 0 (pieces_of o))
whole_from start a b c d o names ls es el same ha hb hc hd held =
    let held_c = hd.held held in
    let held_b = hc.held held_c in
    let held_a = hb.held held_b in
    whole_added a.assembly b.assembly c.assembly d.assembly o names same
    (subst (λ (s : Draft). assembling.Adds s.assembly entry_pieces a.assembly) es (ha.is held_a))
    (subst (λ xs. assembling.Adds a.assembly (templates names (length a.assembly.bytes) 0 0 xs) b.assembly) el (hb.is held_b)) (hc.is held_c) (hd.is held)

-- ---- a call of a procedure parameter

pub special_added : (old one new : Draft) (k line : ℕ) (i1 i2 : Instr) (t : Target) → Adds old (coded.Whole i1 ∷ coded.Whole i2 ∷ []) one → i1 ≡ set_word 2 line → i2 ≡ load 0 (argument k) → t ≡ own (length old.assembly.bytes + (argument_load_size k + 9))
    → Adds one (back_jump t) new → Adds old (template no_names (length old.assembly.bytes) (order.CallSpecial k line)) new
special_added old one new k line i1 i2 t a e1 e2 et b =
    let first : coded.Whole i1 ∷ coded.Whole i2 ∷ [] ≡ coded.Whole (set_word 2 line) ∷ coded.Whole (load 0 (argument k)) ∷ [] = cc in
    adds_then old one new (coded.Whole (set_word 2 line) ∷ coded.Whole (load 0 (argument k)) ∷ []) (back_jump (own (length old.assembly.bytes + (argument_load_size k + 9)))) (as_pieces old one _ _ first a)
    (as_pieces one new (back_jump t) (back_jump (own (length old.assembly.bytes + (argument_load_size k + 9)))) (ap back_jump et) b)

-- ---- an index between two bounds

pub bounds_added : (old new : Draft) (line low high : ℕ) (lower upper : ℤ) (i1 i2 i3 i4 : Instr) → low ≡ unsigned lower → high ≡ unsigned upper
    → i1 ≡ with_number 7 low → i2 ≡ jump_if_not_less 5 → i3 ≡ with_number 7 high → i4 ≡ jump_if_at_most 5
    → Adds old (coded.Whole i1 ∷ coded.Whole i2 ∷ coded.Call (target.LibraryAhead bounds_entry) ∷ coded.Data line ∷ coded.Whole i3 ∷ coded.Whole i4 ∷ coded.Call (target.LibraryAhead bounds_entry) ∷ coded.Data line ∷ []) new
    → Adds old (with_both_bounds line lower upper) new
bounds_added old new line low high lower upper i1 i2 i3 i4 el eh e1 e2 e3 e4 a =
    let S = coded.Call (target.LibraryAhead bounds_entry) in
    let D = coded.Data line in
    let same : coded.Whole i1 ∷ coded.Whole i2 ∷ S ∷ D ∷ coded.Whole i3 ∷ coded.Whole i4 ∷ S ∷ D ∷ []
    ≡ coded.Whole (with_number 7 low) ∷ coded.Whole (jump_if_not_less 5) ∷ S ∷ D ∷ coded.Whole (with_number 7 high) ∷ coded.Whole (jump_if_at_most 5) ∷ S ∷ D ∷ [] = cc in
    let words : coded.Whole (with_number 7 low) ∷ coded.Whole (jump_if_not_less 5) ∷ S ∷ D ∷ coded.Whole (with_number 7 high) ∷ coded.Whole (jump_if_at_most 5) ∷ S ∷ D ∷ [] ≡ with_both_bounds line lower upper =
    ap₂ (λ x y. coded.Whole (with_number 7 x) ∷ coded.Whole (jump_if_not_less 5) ∷ S ∷ D ∷ coded.Whole (with_number 7 y) ∷ coded.Whole (jump_if_at_most 5) ∷ S ∷ D ∷ []) el eh in
    as_pieces old new _ (with_both_bounds line lower upper) (same ∙ words) a
