-- The two forms of a block, by how it ends.
use Rattle.std.proofs.Common.{◌≡◌, ℕ, zero, suc, ◌+◌, ◌≤◌, List, [], ◌∷◌, ◌++◌, length, Some, None, refl, sym, ap, ◌∙◌, arith, append_assoc, length-append}
use Rattle.std.proofs.lemmas.Option.{none-some}
use Rattle.std.specs.Prelude.{◌-◌, ◌^◌, ◌==◌, nat_le, ℤ, pos, negsuc, Bool, true, false, if◌then◌else◌}
use Rattle.cw_i86.specs.declared.instr.Instr.TheVariants as i86
use Rattle.cw_order.specs.declared.order.Order.{Order}
use Rattle.cw_order.specs.declared.order.Order.TheVariants as order
use Rattle.cw_order.specs.declared.order.Comparator.{Comparator}
use Rattle.cw_tmpl.specs.declared.blocks.Use.TheVariants as uses
use Rattle.cw_tmpl.specs.declared.blocks.Block.{Block}
use Rattle.cw_tmpl.specs.declared.blocks.Block.TheVariants as block
use Rattle.cw_tmpl.specs.declared.pieces.Coded.{Coded}
use Rattle.cw_tmpl.specs.declared.pieces.Coded.TheVariants as coded
use Rattle.cw_tmpl.specs.Library.{overflow_entry}
use Rattle.cw_tmpl.specs.Mnemonics.{ax, bx, add, subtract, negate, move}
use Rattle.cw_tmpl.specs.Pieces.{blanks}
use Rattle.cw_tmpl.specs.Names.{Names, no_names, mark_place, call_place}
use Rattle.cw_tmpl.specs.Templates.{checked, checked_by, ended_back, times_if, rescale_if, product_down, times_before, rescale, rescale_before, product, product_start, product_before, quotient, quotient_before, is_checked, template_by, branch_by, with_operand, product_with, counted, word_compared, pieces_size, block_pieces, block_size}
use Rattle.cw_tmpl.specs.ShortForms.{jump_of, check_of, saved}
use Rattle.cw_tmpl.proofs.Growing.{blanks-append}

-- a comparison, and the jump behind it
pub compared_long : (short : Bool) (before : List Coded) (c : Comparator) (place to : ℕ) → length (blanks (before ++ branch_by short c place to)) ≡ length (blanks before) + (if short then 2 else 5)
compared_long true before c place to = ap length (blanks-append before (branch_by true c place to)) ∙ length-append (blanks before) (blanks (branch_by true c place to))
compared_long false before c place to = ap length (blanks-append before (branch_by false c place to)) ∙ length-append (blanks before) (blanks (branch_by false c place to))

-- an operation, and the check behind it
pub checked_long : (short : Bool) (before : List Coded) (line place to : ℕ) → length (blanks (before ++ checked_by short line place to)) ≡ length (blanks before) + (if short then 2 else 7)
checked_long true before line place to = ap length (blanks-append before (checked_by true line place to)) ∙ length-append (blanks before) (blanks (checked_by true line place to))
checked_long false before line place to = ap length (blanks-append before (checked_by false line place to)) ∙ length-append (blanks before) (blanks (checked_by false line place to))

pub checked_same : (short : Bool) (before : List Coded) (line place to other there : ℕ) → length (blanks (before ++ checked_by short line place to)) ≡ length (blanks (before ++ checked_by short line other there))
checked_same short before line place to other there = checked_long short before line place to ∙ sym (checked_long short before line other there)

-- ---- code that may end with the check

times_ends : (top : Bool) (line n : ℕ) → times_if top overflow_entry line n ≡ times_before top n ++ checked line
times_ends true line n = refl
times_ends false line n = refl

pub rescale_ends : (line from to : ℕ) → nat_le from to ≡ true → rescale line from to ≡ rescale_before from to ++ checked line
rescale_ends line from to is = ap (λ up. rescale_if up top line from to) is ∙ times_ends top line (2 ^ (to - from))
  where
    top : Bool
    top = 2 ^ (to - from) == 32768

pub product_ends : (line : ℕ) (s : ℤ) → is_checked s ≡ true → product line s ≡ product_before line s ++ checked line
product_ends line (pos zero) is = refl
product_ends line (pos (suc n)) is =
    let top = 2 ^ suc n == 32768 in
    ap (λ ps. product_start line ++ ps) (times_ends top line (2 ^ suc n)) ∙ sym (append_assoc (product_start line) (times_before top (2 ^ suc n)) (checked line))
product_ends line (negsuc n) is = ap (λ few. product_down line few n) is

pub quotient_ends : (line : ℕ) (s : ℤ) → quotient line s ≡ quotient_before line s ++ checked line
quotient_ends line (pos n) = refl
quotient_ends line (negsuc n) = refl

-- where it does, it ends so in both forms
ended_as : (ends : Bool) (whole before : List Coded) (line place to : ℕ) → ends ≡ true → ended_back ends whole before line place to ≡ before ++ checked_by true line (place + pieces_size before) to
ended_as true whole before line place to is = refl
ended_as false whole before line place to is = absurd (cc)

pub rescale_forms : (names : Names) (place number : ℕ) (short : Bool) (line from to : ℕ) → nat_le from to ≡ true
    → template_by short names place number (order.Rescale from to line) ≡ rescale_before from to ++ checked_by short line (place + pieces_size (rescale_before from to)) (call_place names number)
rescale_forms names place number true line from to is = ended_as (nat_le from to) (rescale line from to) (rescale_before from to) line place (call_place names number) is
rescale_forms names place number false line from to is = rescale_ends line from to is

pub product_forms : (names : Names) (place number : ℕ) (short : Bool) (line : ℕ) (s : ℤ) → is_checked s ≡ true
    → template_by short names place number (order.Mul s line) ≡ product_before line s ++ checked_by short line (place + pieces_size (product_before line s)) (call_place names number)
product_forms names place number true line s is = ended_as (is_checked s) (product line s) (product_before line s) line place (call_place names number) is
product_forms names place number false line s is = product_ends line s is

pub quotient_forms : (names : Names) (place number : ℕ) (short : Bool) (line : ℕ) (s : ℤ)
    → template_by short names place number (order.Div s line) ≡ quotient_before line s ++ checked_by short line (place + pieces_size (quotient_before line s)) (call_place names number)
quotient_forms names place number true line s = refl
quotient_forms names place number false line s = quotient_ends line s

pub ended_same : (ends : Bool) (whole before : List Coded) (line place to other there : ℕ) → length (blanks (ended_back ends whole before line place to)) ≡ length (blanks (ended_back ends whole before line other there))
ended_same true whole before line place to other there = checked_same true before line _ _ _ _
ended_same false whole before line place to other there = refl

-- a block without a jump that can be short, and without a check that can jump back, has one form
whole_form : (ends : Bool) (whole before : List Coded) (line place to : ℕ) → (if ends then Some line else None) ≡ None → ended_back ends whole before line place to ≡ whole
whole_form true whole before line place to c = absurd (cc)
whole_form false whole before line place to c = refl

pub one_form : (names : Names) (place number : ℕ) (short : Bool) (b : Block) (o : Order) → jump_of b o ≡ None → check_of b o ≡ None → block_pieces names place number short b o ≡ block_pieces names place number false b o
one_form names place number false b o e c = refl
one_form names place number true (block.Within n) o e c = refl
one_form names place number true block.Single (order.Add line) e c = absurd (cc)
one_form names place number true block.Single (order.Sub line) e c = absurd (cc)
one_form names place number true block.Single (order.Neg line) e c = absurd (cc)
one_form names place number true block.Single (order.Rescale from to line) e c = whole_form (nat_le from to) (rescale line from to) (rescale_before from to) line place (call_place names number) c
one_form names place number true block.Single (order.Mul s line) e c = whole_form (is_checked s) (product line s) (product_before line s) line place (call_place names number) c
one_form names place number true block.Single (order.Div s line) e c = absurd (cc)
one_form names place number true block.Single (order.Jump m) e c = absurd (cc)
one_form names place number true block.Single (order.JumpIf x m) e c = absurd (cc)
one_form names place number true block.Single (order.LoopWay []) e c = refl
one_form names place number true block.Single (order.LoopWay (m ∷ [])) e c = absurd (cc)
one_form names place number true block.Single (order.LoopWay (m ∷ n ∷ ms)) e c = refl
one_form names place number true block.Single o e c = refl
one_form names place number true (block.Operate s (uses.Add line)) o e c = absurd (cc)
one_form names place number true (block.Operate s (uses.Subtract line)) o e c = absurd (cc)
one_form names place number true (block.Operate s (uses.Multiply line)) o e c = absurd (cc)
one_form names place number true (block.Operate s (uses.Compare x m)) o e c = absurd (cc)
one_form names place number true (block.Count down line) o e c = absurd (cc)
one_form names place number true (block.CompareWord n w x m) o e c = absurd (cc)
one_form names place number true (block.Operate s u) o e c = refl
one_form names place number true b o e c = refl

-- ---- the bytes that the short form saves

branch_saves : (before : List Coded) (c : Comparator) (place to : ℕ) → length (blanks (before ++ branch_by true c place to)) + 3 ≡ length (blanks (before ++ branch_by false c place to))
branch_saves before c place to = omega (arith, compared_long true before c place to, compared_long false before c place to)

check_saves : (before : List Coded) (line place to : ℕ) → length (blanks (before ++ checked_by true line place to)) + 5 ≡ length (blanks (before ++ checked_by false line place to))
check_saves before line place to = omega (arith, checked_long true before line place to, checked_long false before line place to)

ended_saves : (ends : Bool) (whole before : List Coded) (line place to : ℕ) → (ends ≡ true → whole ≡ before ++ checked line)
    → length (blanks (ended_back ends whole before line place to)) + (if ends then 5 else 0) ≡ length (blanks whole)
ended_saves true whole before line place to is = check_saves before line (place + pieces_size before) to ∙ sym (ap (λ ps. length (blanks ps)) (is refl))
ended_saves false whole before line place to is = omega arith

pub saves : (b : Block) (o : Order) → block_size true b o + saved b o ≡ block_size false b o
saves (block.Within n) o = refl
saves block.Single (order.Add line) = refl
saves block.Single (order.Sub line) = refl
saves block.Single (order.Neg line) = refl
saves block.Single (order.Rescale from to line) = ended_saves (nat_le from to) (rescale line from to) (rescale_before from to) line 0 (call_place no_names 0) (rescale_ends line from to)
saves block.Single (order.Mul s line) = ended_saves (is_checked s) (product line s) (product_before line s) line 0 (call_place no_names 0) (product_ends line s)
saves block.Single (order.Div s line) = ended_saves true (quotient line s) (quotient_before line s) line 0 (call_place no_names 0) (λ e. quotient_ends line s)
saves block.Single (order.Jump m) = refl
saves block.Single (order.JumpIf c m) = refl
saves block.Single (order.LoopWay []) = omega arith
saves block.Single (order.LoopWay (m ∷ [])) = refl
saves block.Single (order.LoopWay (m ∷ n ∷ ms)) = omega arith
saves (block.Operate s (uses.Add line)) o = check_saves (with_operand 0 s) line _ _
saves (block.Operate s (uses.Subtract line)) o = check_saves (with_operand 5 s) line _ _
saves (block.Operate s (uses.Multiply line)) o = check_saves (product_with s) line _ _
saves (block.Operate s (uses.Compare c m)) o = branch_saves (with_operand 7 s) c (0 + pieces_size (with_operand 7 s)) (mark_place no_names m)
saves (block.Count down line) o = check_saves (coded.Whole (counted down) ∷ []) line (0 + 1) (call_place no_names 0)
saves (block.CompareWord n w c m) o = branch_saves (word_compared n w) c (0 + pieces_size (word_compared n w)) (mark_place no_names m)
saves b o = omega arith

pub shorter_by : (short : Bool) (b : Block) (o : Order) → block_size short b o ≤ block_size false b o
shorter_by true b o = omega (arith, saves b o)
shorter_by false b o = omega arith

saved_if : (ends : Bool) (n line : ℕ) → (if ends then Some n else None) ≡ Some line → let saves : ℕ = if ends then 5 else 0 in saves ≡ 5
saved_if true n line e = refl
saved_if false n line e = absurd (cc)

-- a block with a check that can jump back has no jump, and saves 5 bytes by it
pub of_check : (b : Block) (o : Order) (line : ℕ) → check_of b o ≡ Some line → (jump_of b o ≡ None) × (saved b o ≡ 5)
of_check block.Single (order.Add n) line e = (refl, refl)
of_check block.Single (order.Sub n) line e = (refl, refl)
of_check block.Single (order.Neg n) line e = (refl, refl)
of_check block.Single (order.Rescale from to n) line e = (refl, saved_if (nat_le from to) n line e)
of_check block.Single (order.Mul s n) line e = (refl, saved_if (is_checked s) n line e)
of_check block.Single (order.Div s n) line e = (refl, refl)
of_check block.Single o line e = absurd (none-some line e)
of_check (block.Operate s (uses.Add n)) o line e = (refl, refl)
of_check (block.Operate s (uses.Subtract n)) o line e = (refl, refl)
of_check (block.Operate s (uses.Multiply n)) o line e = (refl, refl)
of_check (block.Operate s u) o line e = absurd (none-some line e)
of_check (block.Count down n) o line e = (refl, refl)
of_check b o line e = absurd (none-some line e)

pub no_jump : (b : Block) (o : Order) (line : ℕ) → check_of b o ≡ Some line → jump_of b o ≡ None
no_jump b o line e = (of_check b o line e).0

pub check_saved : (b : Block) (o : Order) (line : ℕ) → check_of b o ≡ Some line → saved b o ≡ 5
check_saved b o line e = (of_check b o line e).1

-- in its whole form it ends with the check
pub record EndsChecked (pieces : List Coded) (line : ℕ) : Type 0 where
  pub body : List Coded
  pub is : pieces ≡ body ++ checked line

ends_so : (body : List Coded) (n line : ℕ) → Some n ≡ Some line → EndsChecked (body ++ checked n) line
ends_so body n line e = let same : n ≡ line = cc in record { body = body; is = ap (λ x. body ++ checked x) same }

ends_if : (ends : Bool) (whole before : List Coded) (n line : ℕ) → (ends ≡ true → whole ≡ before ++ checked n) → (if ends then Some n else None) ≡ Some line → EndsChecked whole line
ends_if true whole before n line is e =
    let so = ends_so before n line e in
    record { body = so.body; is = is refl ∙ so.is }
ends_if false whole before n line is e = absurd (cc)

pub ends_checked : (names : Names) (place number : ℕ) (b : Block) (o : Order) (line : ℕ) → check_of b o ≡ Some line → EndsChecked (block_pieces names place number false b o) line
ends_checked names place number block.Single (order.Add n) line e = ends_so (coded.Whole (i86.Pop bx) ∷ coded.Whole (add ax bx) ∷ []) n line e
ends_checked names place number block.Single (order.Sub n) line e = ends_so (coded.Whole (move bx ax) ∷ coded.Whole (i86.Pop ax) ∷ coded.Whole (subtract ax bx) ∷ []) n line e
ends_checked names place number block.Single (order.Neg n) line e = ends_so (coded.Whole (negate ax) ∷ []) n line e
ends_checked names place number block.Single (order.Rescale from to n) line e = ends_if (nat_le from to) (rescale n from to) (rescale_before from to) n line (rescale_ends n from to) e
ends_checked names place number block.Single (order.Mul s n) line e = ends_if (is_checked s) (product n s) (product_before n s) n line (product_ends n s) e
ends_checked names place number block.Single (order.Div s n) line e = ends_if true (quotient n s) (quotient_before n s) n line (λ is. quotient_ends n s) e
ends_checked names place number block.Single o line e = absurd (none-some line e)
ends_checked names place number (block.Operate s (uses.Add n)) o line e = ends_so (with_operand 0 s) n line e
ends_checked names place number (block.Operate s (uses.Subtract n)) o line e = ends_so (with_operand 5 s) n line e
ends_checked names place number (block.Operate s (uses.Multiply n)) o line e = ends_so (product_with s) n line e
ends_checked names place number (block.Operate s u) o line e = absurd (none-some line e)
ends_checked names place number (block.Count down n) o line e = ends_so (coded.Whole (counted down) ∷ []) n line e
ends_checked names place number b o line e = absurd (none-some line e)
