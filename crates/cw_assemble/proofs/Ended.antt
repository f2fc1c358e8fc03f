-- Code that ends with a check in one of its two forms, and products by the sign of their scale.
use Rattle.std.proofs.Common.{◌≡◌, ℕ, ◌+◌, ◌-◌, ◌^◌, ◌≤◌, ◌<◌, ℤ, pos, negsuc, unsigned_abs, List, [], ◌∷◌, ◌++◌, length, refl, sym, ap, subst, arith}
use Rattle.std.proofs.lemmas.Bool.{false≢true}
use Rattle.std.proofs.lemmas.Bool.Decides.{nat_tests}
use Rattle.std.specs.Prelude.{◌==◌, Bool, true, false, nat_le}
use Rattle.cw_i86.specs.declared.instr.Instr.TheVariants as i86
use Rattle.cw_order.specs.declared.order.Comparator.{Comparator}
use Rattle.cw_assemble.specs.declared.draft.Draft.{Draft}
use Rattle.cw_tmpl.specs.declared.pieces.Coded.{Coded}
use Rattle.cw_tmpl.specs.declared.pieces.Coded.TheVariants as coded
use Rattle.cw_assemble.specs.Growing.{Adds}
use Rattle.cw_tmpl.specs.Mnemonics.{compare}
use Rattle.cw_tmpl.specs.Templates.{branch, branch_by, short_branch, checked, checked_by, times_if, times_before, times, unless_overflow, rescale_if, rescale, rescale_before, product, product_before, product_down, is_checked, quotient, quotient_before, pieces_size}
use Rattle.cw_tmpl.proofs.Endings.{rescale_ends, product_ends, quotient_ends}
use Rattle.cw_assemble.proofs.Growing.{adds_then}
use Rattle.cw_assemble.specs.Forms.{ended_by, where_by}
use Rattle.cw_assemble.proofs.Composed.{branch_added}

forms : (short ends : Bool) (whole before : List Coded) (line place to : ℕ) → ends ≡ true → whole ≡ before ++ checked line
    → ended_by short ends whole before line place to ≡ before ++ checked_by short line (place + pieces_size before) to
forms true true whole before line place to is same = refl
forms false true whole before line place to is same = same
forms short false whole before line place to is same = absurd (false≢true is)

ended_added : (short ends : Bool) (old new : Draft) (whole before : List Coded) (line to : ℕ) → ends ≡ true → whole ≡ before ++ checked line
    → Adds old (before ++ checked_by short line (length old.assembly.bytes + pieces_size before) to) new → Adds old (ended_by short ends whole before line (length old.assembly.bytes) to) new
ended_added short ends old new whole before line to is same added = subst (λ ps. Adds old ps new) (sym (forms short ends whole before line (length old.assembly.bytes) to is same)) added

unended_added : (short ends : Bool) (old new : Draft) (whole before : List Coded) (line to : ℕ) → ends ≡ false → Adds old whole new → Adds old (ended_by short ends whole before line (length old.assembly.bytes) to) new
unended_added short true old new whole before line to is added = absurd (false≢true (sym is))
unended_added true false old new whole before line to is added = added
unended_added false false old new whole before line to is added = added

-- a multiplication by a number, and the call of a stop
times_made : (top : Bool) (stop line n : ℕ) → times_before top n ++ unless_overflow stop line ≡ times_if top stop line n
times_made true stop line n = refl
times_made false stop line n = refl

pub times_added : (old one new : Draft) (stop line n : ℕ) → Adds old (times_before (n == 32768) n) one → Adds one (unless_overflow stop line) new → Adds old (times stop line n) new
times_added old one new stop line n a b = subst (λ ps. Adds old ps new) (times_made (n == 32768) stop line n) (adds_then old one new (times_before (n == 32768) n) (unless_overflow stop line) a b)

-- a rescaling up, and one down
pub rescaled_up : (short : Bool) (old new : Draft) (line from to call : ℕ) → from ≤ to → Adds old (rescale_before from to ++ checked_by short line (length old.assembly.bytes + pieces_size (rescale_before from to)) call) new
    → Adds old (ended_by short (nat_le from to) (rescale line from to) (rescale_before from to) line (length old.assembly.bytes) call) new
rescaled_up short old new line from to call up added =
    let is : nat_le from to ≡ true = grind (arith, nat_tests) in
    ended_added short (nat_le from to) old new (rescale line from to) (rescale_before from to) line call is (rescale_ends line from to is) added

pub rescaled_down : (short : Bool) (old new : Draft) (line from to call : ℕ) → to < from → Adds old (rescale_if false (2 ^ (to - from) == 32768) line from to) new
    → Adds old (ended_by short (nat_le from to) (rescale line from to) (rescale_before from to) line (length old.assembly.bytes) call) new
rescaled_down short old new line from to call down added =
    let is : nat_le from to ≡ false = grind (arith, nat_tests) in
    unended_added short (nat_le from to) old new (rescale line from to) (rescale_before from to) line call is
    (subst (λ up. Adds old (rescale_if up (2 ^ (to - from) == 32768) line from to) new) (sym is) added)

-- a product with a check, and one that always fits
pub product_checked : (short : Bool) (old new : Draft) (line call : ℕ) (z scale : ℤ) → z ≡ scale → is_checked z ≡ true
    → Adds old (product_before line z ++ checked_by short line (length old.assembly.bytes + pieces_size (product_before line z)) call) new
    → Adds old (ended_by short (is_checked scale) (product line scale) (product_before line scale) line (length old.assembly.bytes) call) new
product_checked short old new line call z scale same is added =
    subst (λ s. Adds old (ended_by short (is_checked s) (product line s) (product_before line s) line (length old.assembly.bytes) call) new) same
    (ended_added short (is_checked z) old new (product line z) (product_before line z) line call is (product_ends line z is) added)

pub product_far : (short : Bool) (old new : Draft) (line call n : ℕ) (z scale : ℤ) → z ≡ scale → is_checked z ≡ false → n ≡ unsigned_abs z → Adds old (product_down 0 false (n - 1)) new
    → Adds old (ended_by short (is_checked scale) (product line scale) (product_before line scale) line (length old.assembly.bytes) call) new
product_far short old new line call n (pos m) scale same is long added = absurd (false≢true (sym is))
product_far short old new line call n (negsuc m) scale same is long added =
    let z = negsuc m in
    let places : n - 1 ≡ m = omega (arith, long) in
    let far : Adds old (product line z) new = subst (λ few. Adds old (product_down line few m) new) (sym is) (subst (λ k. Adds old (product_down line false k) new) places added) in
    subst (λ s. Adds old (ended_by short (is_checked s) (product line s) (product_before line s) line (length old.assembly.bytes) call) new) same
    (unended_added short (is_checked z) old new (product line z) (product_before line z) line call is far)

pub far_places : (n : ℕ) (z : ℤ) → is_checked z ≡ false → n ≡ unsigned_abs z → 16 ≤ n
far_places n (pos m) is long = absurd (false≢true (sym is))
far_places n (negsuc m) is long =
    let many : 15 ≤ m = grind (arith, nat_tests) in
    omega (arith, many, long)

-- a quotient
pub quotient_checked : (short : Bool) (old new : Draft) (line call : ℕ) (scale : ℤ) → Adds old (quotient_before line scale ++ checked_by short line (length old.assembly.bytes + pieces_size (quotient_before line scale)) call) new
    → Adds old (ended_by short true (quotient line scale) (quotient_before line scale) line (length old.assembly.bytes) call) new
quotient_checked short old new line call scale added = ended_added short true old new (quotient line scale) (quotient_before line scale) line call refl (quotient_ends line scale) added

-- a comparison of the two operands on top, and the jump behind it
where_forms : (short : Bool) (c : Comparator) (place to : ℕ) → coded.Whole (i86.Pop 3) ∷ coded.Whole (compare 3 0) ∷ branch_by short c (place + 3) to ≡ where_by short c place to
where_forms true c place to =
    let end : place + 3 + 2 ≡ place + 5 = omega arith in
    ap (λ n. coded.Whole (i86.Pop 3) ∷ coded.Whole (compare 3 0) ∷ short_branch c n to) end
where_forms false c place to =
    let end : place + 3 + 5 ≡ place + 8 = omega arith in
    ap (λ n. coded.Whole (i86.Pop 3) ∷ coded.Whole (compare 3 0) ∷ branch c n to) end

pub where_added : (old one new : Draft) (short : Bool) (c : Comparator) (to : ℕ) → Adds old (coded.Whole (i86.Pop 3) ∷ coded.Whole (compare 3 0) ∷ []) one → Adds one (branch_by short c (length one.assembly.bytes) to) new
    → Adds old (where_by short c (length old.assembly.bytes) to) new
where_added old one new short c to a b =
    let all = branch_added short c to a b in
    subst (λ ps. Adds old ps new) (where_forms short c (length old.assembly.bytes) to) all
