-- The lengths of instructions with a word of the frame, and of the pieces that orders have alone.
use Rattle.std.proofs.Common.{◌≡◌, ℕ, zero, suc, ◌+◌, ◌*◌, ◌≤◌, List, [], ◌∷◌, ◌++◌, length, refl, ap, ◌∙◌, arith, length-append}
use Rattle.std.proofs.lemmas.List.{append-nil}
use Rattle.std.specs.Prelude.{◌%◌, ◌-◌, ◌^◌, ◌==◌, nat_lt, ℤ, pos, negsuc, Bool, true, false, if◌then◌else◌}
use Rattle.cw_tmpl.specs.declared.pieces.Coded.{Coded}
use Rattle.cw_i86.specs.Encoding.{bytes_of}
use Rattle.cw_i86.specs.declared.instr.Instr.{Instr}
use Rattle.cw_i86.specs.declared.instr.Instr.TheVariants as i86
use Rattle.cw_i86.specs.declared.instr.Place.TheVariants as places
use Rattle.cw_i86.specs.declared.instr.Rm.{Rm}
use Rattle.cw_run86.specs.Views.{with_number}
use Rattle.cw_word.specs.BitField.{field_mask}
use Rattle.cw_tmpl.specs.declared.pieces.Coded.TheVariants as coded
use Rattle.cw_tmpl.specs.declared.pieces.Target.TheVariants as target
use Rattle.cw_order.specs.declared.order.Order.TheVariants as order
use Rattle.cw_tmpl.specs.Mnemonics.{memory, field, first_argument, argument, slot, base_slot, compare_number, jump_to, ax, bx, cx, bp, si, at_bx, set_word, move, load, store, operate, change, shift_up, shift_down, shift_down_signed, shift_up_once, shift_down_once, shift_down_signed_once, add, multiply}
use Rattle.cw_tmpl.specs.Pieces.{blanks}
use Rattle.cw_tmpl.specs.Names.{no_names, own}
use Rattle.cw_tmpl.specs.Library.{overflow_entry, address_entry}
use Rattle.cw_tmpl.specs.Templates.{field_size, frame_size, times_if, rescale_if, product_start, product_down, times, less_bound, plus_word, times_width, based, element, in_row, element_of_two, top_from_lower, times_entry, element_inside, entry, shifted, shifted_up, shifted_down, shifted_down_signed, lowest_if, part_taken, store_part, template, argument_load_size, back_jump, operands_dropped}
use Rattle.cw_tmpl.specs.Sizes.{times_size, width_size, bound_size, word_size, shift_size, lowest_size, part_size, top_lower_size, times_entry_size}
use Rattle.cw_tmpl.proofs.Growing.{blanks-append}

-- an instruction with a word behind BX, by its bytes with one at BX
pub field_long : (i : Rm → Instr) (n by : ℕ) → length (bytes_of (i at_bx)) ≡ n → ((b : ℕ) → length (bytes_of (i (memory (places.Near 7 b)))) ≡ n + 1) → ((b : ℕ) → length (bytes_of (i (memory (places.Far 7 b)))) ≡ n + 2)
    → length (bytes_of (i (field by))) ≡ field_size by + n
field_long i n zero plain near far = plain ∙ (omega arith)
field_long i n (suc by) plain near far = cases (nat_lt (suc by) 128)
  where
    cases : (b : Bool) → length (bytes_of (i (memory (if b then places.Near 7 (suc by) else places.Far 7 (suc by))))) ≡ (if b then 1 else 2) + n
    cases true = near (suc by) ∙ (omega arith)
    cases false = far (suc by) ∙ (omega arith)

pub field_few : (by : ℕ) → field_size by ≤ 2
field_few zero = omega arith
field_few (suc by) = cases (nat_lt (suc by) 128)
  where
    cases : (b : Bool) → (if b then 1 else 2) ≤ 2
    cases true = omega arith
    cases false = omega arith

pub frame_few : (n : ℕ) → frame_size n ≤ 2
frame_few n = field_few (2 * n % 65536)

-- a word behind BX that is loaded, stored, taken by an operation, changed by one, and compared
pub field_loaded : (r by : ℕ) → length (bytes_of (load r (field by))) ≡ field_size by + 2
field_loaded r by = field_long (λ rm. load r rm) 2 by refl (λ b. refl) (λ b. refl)

pub field_stored : (r by : ℕ) → length (bytes_of (store (field by) r)) ≡ field_size by + 2
field_stored r by = field_long (λ rm. store rm r) 2 by refl (λ b. refl) (λ b. refl)

pub field_operated : (op r by : ℕ) → length (bytes_of (operate op r (field by))) ≡ field_size by + 2
field_operated op r by = field_long (λ rm. operate op r rm) 2 by refl (λ b. refl) (λ b. refl)

pub field_changed : (op r by : ℕ) → length (bytes_of (change op (field by) r)) ≡ field_size by + 2
field_changed op r by = field_long (λ rm. change op rm r) 2 by refl (λ b. refl) (λ b. refl)

pub field_compared : (by w : ℕ) → length (bytes_of (compare_number (field by) w)) ≡ field_size by + 4
field_compared by w = field_long (λ rm. compare_number rm w) 4 by refl (λ b. refl) (λ b. refl)

-- an instruction, and pieces behind it
pub first_long : (i : Instr) (ps : List Coded) → length (blanks (coded.Whole i ∷ ps)) ≡ length (bytes_of i) + length (blanks ps)
first_long i ps = length-append (bytes_of i) (blanks ps)

-- arguments that are loaded
pub argument_loaded : (r k : ℕ) → length (bytes_of (load r (argument k))) ≡ argument_load_size k
argument_loaded r k = cases (nat_lt (first_argument + 2 * k) 128)
  where
    cases : (b : Bool) → length (bytes_of (load r (memory (if b then places.Near 6 (first_argument + 2 * k) else places.Far 6 (first_argument + 2 * k))))) ≡ (if b then 3 else 4)
    cases true = refl
    cases false = refl

pub argument_few : (k : ℕ) → argument_load_size k ≤ 4
argument_few k = cases (nat_lt (first_argument + 2 * k) 128)
  where
    cases : (b : Bool) → (if b then 3 else 4) ≤ 4
    cases true = omega arith
    cases false = omega arith

pub bind_long : (k family offset : ℕ) → length (blanks (template no_names 0 (order.Bind k family offset))) ≡ argument_load_size k + 3
bind_long k family offset = omega (arith, first_long (load ax (argument k)) (coded.Store (target.Bytes family offset) ∷ []), argument_loaded ax k)

pub bind_frame_long : (k n : ℕ) → length (blanks (template no_names 0 (order.BindFrame k n))) ≡ argument_load_size k + (frame_size n + 5)
bind_frame_long k n =
    let last : List Coded = coded.Whole (store (field (2 * n % 65536)) cx) ∷ [] in
    omega (
      arith,
      first_long (load cx (argument k)) (coded.Whole (load bx (slot base_slot)) ∷ last),
      argument_loaded cx k,
      first_long (store (field (2 * n % 65536)) cx) [],
      field_stored cx (2 * n % 65536),
    )

pub special_out_long : (k : ℕ) → length (blanks (template no_names 0 (order.SpecialOut k))) ≡ argument_load_size (k + 1) + (argument_load_size k + 2)
special_out_long k =
    let last : List Coded = coded.Whole (i86.Push ax) ∷ [] in
    let second : List Coded = coded.Whole (load ax (argument k)) ∷ last in
    omega (
      arith,
      first_long (load ax (argument (k + 1))) (coded.Whole (i86.Push ax) ∷ second),
      argument_loaded ax (k + 1),
      first_long (load ax (argument k)) last,
      argument_loaded ax k,
    )

pub call_special_long : (k line : ℕ) → length (blanks (template no_names 0 (order.CallSpecial k line))) ≡ argument_load_size k + 9
call_special_long k line = omega (arith, first_long (load ax (argument k)) (back_jump (own (0 + (argument_load_size k + 9)))), argument_loaded ax k)

pub go_special_long : (k : ℕ) → length (blanks (template no_names 0 (order.GoSpecial k))) ≡ argument_load_size k + (argument_load_size (k + 1) + 9)
go_special_long k =
    let last : List Coded = operands_dropped ++ coded.Whole (jump_to bx) ∷ [] in
    omega (
      arith,
      first_long (load bx (argument k)) (coded.Whole (load bp (argument (k + 1))) ∷ last),
      argument_loaded bx k,
      first_long (load bp (argument (k + 1))) last,
      argument_loaded bp (k + 1),
    )

pub go_switch_special_long : (k line : ℕ) → length (blanks (template no_names 0 (order.GoSwitchSpecial k line))) ≡ argument_load_size (k + 1) + (argument_load_size k + 5)
go_switch_special_long k line =
    let last : List Coded = coded.Whole (jump_to bx) ∷ [] in
    let second : List Coded = coded.Whole (load bx (argument k)) ∷ last in
    omega (
      arith,
      first_long (load si (argument (k + 1))) second,
      argument_loaded si (k + 1),
      first_long (load bx (argument k)) last,
      argument_loaded bx k,
    )

-- a multiplication by a number, and codes that hang on one
pub times_long : (b : Bool) (stop line n : ℕ) → length (blanks (times_if b stop line n)) ≡ (if b then 14 else 12)
times_long true stop line n = refl
times_long false stop line n = refl

pub rescale_long : (up top : Bool) (line from to : ℕ) → length (blanks (rescale_if up top line from to)) ≡ (if up then if top then 14 else 12 else 5)
rescale_long true top line from to = times_long top overflow_entry line (2 ^ (to - from))
rescale_long false top line from to = refl

pub product_scaled_long : (b : Bool) (line n : ℕ) → length (blanks (product_start line ++ times_if b overflow_entry line n)) ≡ (if b then 14 else 12) + 10
product_scaled_long true line n = refl
product_scaled_long false line n = refl

pub product_down_long : (b : Bool) (line n : ℕ) → length (blanks (product_down line b n)) ≡ (if b then 14 else 10)
product_down_long true line n = refl
product_down_long false line n = refl

pub appended_long : (a b : List Coded) → length (blanks (a ++ b)) ≡ length (blanks a) + length (blanks b)
appended_long a b = ap length (blanks-append a b) ∙ length-append (blanks a) (blanks b)

pub appended_one : (i : Instr) → length (blanks (coded.Whole i ∷ [])) ≡ length (bytes_of i)
appended_one i = ap length (append-nil (bytes_of i))

-- shifts, and parts of words
pub shifted_long : (once by_count : Instr) (n : ℕ) → length (bytes_of once) ≡ 2 → length (bytes_of by_count) ≡ 2 → length (blanks (shifted once by_count n)) ≡ shift_size n
shifted_long once by_count zero o c = refl
shifted_long once by_count (suc zero) o c = appended_one once ∙ o
shifted_long once by_count (suc (suc n)) o c =
    omega (arith, appended_long (coded.Whole (set_word cx (suc (suc n))) ∷ []) (coded.Whole by_count ∷ []), appended_one by_count, c)

pub lowest_long : (all : Bool) (t : ℕ) → length (blanks (lowest_if all t)) ≡ lowest_size all
lowest_long true t = refl
lowest_long false t = refl

pub part_long : (t b : ℕ) (is_signed : Bool) → length (blanks (part_taken t b is_signed)) ≡ part_size t b is_signed
part_long t b true = omega (arith, appended_long (shifted_up (16 - (t + b))) (shifted_down_signed (16 - t)), shifted_long (shift_up_once ax) (shift_up ax) (16 - (t + b)) refl refl, shifted_long (shift_down_signed_once ax) (shift_down_signed ax) (16 - t) refl refl)
part_long t b false = omega (arith, appended_long (shifted_down b) (lowest_if (t + b == 16) t), shifted_long (shift_down_once ax) (shift_down ax) b refl refl, lowest_long (t + b == 16) t)

pub store_part_long : (t b : ℕ) → length (blanks (store_part t b)) ≡ shift_size b + 12
store_part_long t b =
    let rest : List Coded = coded.Whole (operate 6 ax at_bx) ∷ coded.Whole (with_number 4 (field_mask t b)) ∷ coded.Whole (change 6 at_bx ax) ∷ [] in
    omega (arith, appended_long (shifted_up b) rest, shifted_long (shift_up_once ax) (shift_up ax) b refl refl)

pub bound_long : (line : ℕ) (lower : ℤ) → length (blanks (less_bound line lower)) ≡ bound_size lower
bound_long line (pos zero) = refl
bound_long line (pos (suc n)) = refl
bound_long line (negsuc n) = refl

pub word_long : (line word : ℕ) → length (blanks (plus_word line word)) ≡ word_size word
word_long line zero = refl
word_long line (suc n) = refl

pub width_long : (one top : Bool) (line n : ℕ)
    → length (blanks (if one then [] else times_if top address_entry line n)) ≡ (if one then 0 else if top then 14 else 12)
width_long true top line n = refl
width_long false top line n = times_long top address_entry line n

pub element_long : (line : ℕ) (lower : ℤ) → length (blanks (element line lower)) ≡ bound_size lower + 21
element_long line lower = omega (arith, appended_long (less_bound line lower) (based line), bound_long line lower)

pub element_of_two_long : (line : ℕ) (lower second : ℤ) (n : ℕ)
    → length (blanks (element_of_two line lower second n)) ≡ bound_size second + bound_size lower + times_size n + 33
element_of_two_long line lower second n =
    let T : List Coded = times address_entry line n in
    let last : List Coded = in_row line ++ based line in
    let row : List Coded = less_bound line lower ++ (T ++ last) in
    omega (arith, appended_long (less_bound line second) (coded.Whole (move cx ax) ∷ coded.Whole (i86.Pop ax) ∷ row), appended_long (less_bound line lower) (T ++ last), appended_long T last, bound_long line second, bound_long line lower, times_long (n == 32768) address_entry line n)

pub top_lower_long : (l : ℤ) → length (blanks (top_from_lower l)) ≡ top_lower_size l
top_lower_long (pos zero) = refl
top_lower_long (pos (suc n)) = refl
top_lower_long (negsuc n) = refl

times_entry_long : (width : ℕ) → length (blanks (times_entry width)) ≡ times_entry_size width
times_entry_long width = cases (width == 1)
  where
    cases : (one : Bool) → length (blanks (if one then [] else coded.Whole (set_word bx width) ∷ coded.Whole (multiply bx) ∷ [])) ≡ (if one then 0 else 5)
    cases true = refl
    cases false = refl

pub element_inside_long : (lower second : ℤ) (n : ℕ) → length (blanks (element_inside lower second n)) ≡ top_lower_size second + top_lower_size lower + times_entry_size n + 10
element_inside_long lower second n =
    let last : List Coded = coded.Whole (add ax cx) ∷ coded.Whole (add ax si) ∷ [] in
    let row : List Coded = top_from_lower lower ++ (times_entry n ++ last) in
    omega (arith, appended_long (top_from_lower second) (coded.Whole (move cx ax) ∷ coded.Whole (i86.Pop ax) ∷ row), appended_long (top_from_lower lower) (times_entry n ++ last), appended_long (times_entry n) last, top_lower_long second, top_lower_long lower, times_entry_long n)

pub entry_long : (line width word : ℕ) → length (blanks (entry line width word)) ≡ width_size width + word_size word + 21
entry_long line width word =
    let rest : List Coded = plus_word line word ++ based line in
    omega (arith, appended_long (times_width line width) rest, appended_long (plus_word line word) (based line), width_long (width == 1) (width == 32768) line width, word_long line word)
