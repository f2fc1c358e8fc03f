-- Each step keeps the words within a word.
use Rattle.std.proofs.Common.{◌≡◌, ℕ, zero, suc, ◌+◌, ◌-◌, ◌^◌, min, ◌<◌, ◌≤◌, ℤ, pos, negsuc, ◌+ℤ◌, ◌-ℤ◌, neg_ℤ, List, [], ◌∷◌, ◌++◌, length, set, Bool, true, false, not, Option, Some, None, refl, arith, pow_mono, pow_pos}
use Rattle.std.specs.Prelude.{nat_eq, nat_le, nat_lt, int_le, ◌&&◌, slice_get, if◌then◌else◌}
use Rattle.std.specs.List.{All}
use Rattle.std.proofs.lemmas.Bool.Decides.{nat_tests}
use Rattle.std.proofs.lemmas.Int.{ints}
use Rattle.std.proofs.Math.Nat.{min-le_right}
use Rattle.std.proofs.lemmas.Bool.{ltb-true}
use Rattle.std.proofs.lemmas.Nat.{mod_below}
use Rattle.std.proofs.lemmas.List.Elements.{All-cons, All-drop, All-head, All-nil, All-set, All-tail, All-take}
use Rattle.cw_word.specs.FixedPoint.{FitsWord, fits_word, rescaled, scaled_product, scaled_quotient}
use Rattle.cw_word.specs.BitField.{unsigned_field, twos_complement}
use Rattle.cw_word.specs.Word.{signed, unsigned, word_difference}
use Rattle.cw_unit.specs.declared.unit.Field.{Field}
use Rattle.cw_unit.specs.declared.unit.Goal.{Goal}
use Rattle.cw_unit.specs.Stop.{StopKind, Overflow, AddressRange, Running, IndexRange}
use Rattle.cw_unit.specs.Words.{Control, LabelControl, SwitchControl, ProcedureControl, Operand, Word, Held, Words, Outcome, Changed, Refused, Impossible, with_operands, with_memory, put, put_if, put_value, on_one, on_two, at_address, is_below, number_of, word_at, field_value, with_bits, byte_of, read_byte}
use Rattle.cw_unit.specs.Operation.{Addressing, Known, Taken, Indexed, Indexed2, Scaled, Constant, Fetch, SetVariable, AddStep, fitting, form_address, store_with, store_sum, divide, address_of, perform, holds}
use Rattle.cw_unit.specs.Step.{held, goal_at, with_label_owner}
use Rattle.cw_unit.proofs.Forms.{row_address, entry_address, of_row, of_entry}
use Rattle.cw_order.specs.declared.order.Order.{Order}
use Rattle.cw_order.specs.declared.order.Order.TheVariants as order
use Rattle.cw_order.specs.declared.order.Orders.{Orders}
use Rattle.cw_order.specs.OrderProgram.{LabelEntry, ProcedureEntry, OrderProgram, order_at, place_of, label_at, procedure_at, switch_at, label_of}
use Rattle.cw_order.specs.OrderState.{OrderActivation, OrderState, at, operand_words, stack_words, argument_behind, argument_at, frame_word, frame_end, control_at}
use Rattle.cw_order.specs.OrderChanges.{put_index, from_base, put_address, bind, if_inside, Way, Onward, ToMark, Barred, Nowhere, way_of_one, way_of_two, to_mark_if, to_mark_in, to_mark_of_switch, way_past_limit, way_behind, turn_if, turned, stepped_if, stepped_inside, next_step, mark_of_number, comparison}
use Rattle.cw_order.specs.Loading.{loaded_after}
use Rattle.cw_order.specs.OrderActions.{Action, Perform, Access, Alter, AlterWithin, Pass, Branch, GoMain, GoLabel, GoSwitch, Call, Enter, Return, EndBody, home_word, common_label, common_switch, common_procedure, place_address, action_of}
use Rattle.cw_order.specs.OrderMachine.{go_on, go_at, after, unrefused, leave_for, dropped_by, called, call_at, enter_with, return_with, next_body, branch, go_to_entry, go_to, go_to_goal, go_by_list, go_through, call_entry, call, enter, come_back, end_body, act, carry_with, carry_out, step}
use Rattle.cw_order.specs.FittingWords.{OperandFits, WordsFit, ActivationFits, StateFits}
use Rattle.cw_order.proofs.Keeping.{OutcomeIs, KeepsIt, through-kept, fitting-kept, if_inside-kept, unrefused-kept, ActionIs}

-- ---- numbers

pub signed-fits : (n : ℕ) → FitsWord (signed n)
signed-fits n = omega (arith, ints)

pub tested-fits : (z : ℤ) → fits_word z ≡ true → FitsWord z
tested-fits (pos n) h = grind (arith, ints, nat_tests)
tested-fits (negsuc n) h = grind (arith, ints, nat_tests)

-- a part of at most 15 bits
part-fits : (b plain : Bool) (t v : ℕ) (z : ℤ) → nat_lt 15 t ≡ b → v < 2 ^ t → FitsWord z → FitsWord (if b then z else (if plain then pos v else twos_complement t v))
part-fits true plain t v z few below fits = fits
part-fits false true t v z few below fits =
    let le : t ≤ 15 = grind (arith, nat_tests) in
    let small : 2 ^ t ≤ 32768 = pow_mono le in
    omega (arith, ints)
part-fits false false t v z few below fits = cases (nat_lt v (2 ^ (t - 1))) refl
  where
    cases : (c : Bool) → nat_lt v (2 ^ (t - 1)) ≡ c → FitsWord (if c then pos v else (pos v -ℤ pos (2 ^ t)))
    cases true c =
        let le : t ≤ 15 = grind (arith, nat_tests) in
        let small : 2 ^ t ≤ 32768 = pow_mono le in
        omega (arith, ints)
    cases false c =
        let le : t ≤ 15 = grind (arith, nat_tests) in
        let small : 2 ^ t ≤ 32768 = pow_mono le in
        omega (arith, ints)

field-fits : (f : Option Field) (z : ℤ) → FitsWord z → FitsWord (field_value f z)
field-fits None z fits = fits
field-fits (Some f) z fits = part-fits (nat_lt 15 f.t) f.unsigned f.t (unsigned_field (unsigned z) f.t f.b) z refl (mod_below _ (2 ^ f.t) (pow_pos f.t)) fits

-- ---- outcomes

abbrev OutcomeFits : Outcome → Type 0
OutcomeFits = OutcomeIs WordsFit

abbrev Keeps : (Words → Outcome) → Type 0
Keeps = KeepsIt WordsFit

less-fits : (x : Operand) (rest : List Operand) (w : Words) → All OperandFits (x ∷ rest) → WordsFit w → WordsFit (with_operands w rest)
less-fits x rest w all fits = record { operands = All-tail OperandFits x rest all; memory = fits.memory; input = fits.input }

put-fits : (z : ℤ) → FitsWord z → (w : Words) → WordsFit w → WordsFit (put z w)
put-fits z h w fits = record { operands = All-cons OperandFits (Word z) w.operands h fits.operands; memory = fits.memory; input = fits.input }

put_if-fits : (kind : StopKind) (z : ℤ) (b : Bool) → fits_word z ≡ b → Keeps (put_if b kind z)
put_if-fits kind z true h w fits = put-fits z (tested-fits z h) w fits
put_if-fits kind z false h w fits = tt

put_value-fits : (z : ℤ) → Keeps (put_value z)
put_value-fits z w fits = put_if-fits Overflow z (fits_word z) refl w fits

put_index-fits : (z : ℤ) → Keeps (put_index z)
put_index-fits z w fits = put_if-fits AddressRange z (fits_word z) refl w fits

on_one-fits : (f : ℤ → Words → Outcome) → ((x : ℤ) → FitsWord x → Keeps (f x)) → (operands : List Operand) → All OperandFits operands → Keeps (on_one f operands)
on_one-fits f h [] all w fits = tt
on_one-fits f h (Held c ∷ rest) all w fits = tt
on_one-fits f h (Word x ∷ rest) all w fits = h x (All-head OperandFits (Word x) rest all) (with_operands w rest) (less-fits (Word x) rest w all fits)

on_top-fits : (f : ℤ → Words → Outcome) → ((x : ℤ) → FitsWord x → Keeps (f x)) → Keeps (λ w. on_one f w.operands w)
on_top-fits f h w fits = on_one-fits f h w.operands fits.operands w fits

on_two-fits : (f : ℤ → ℤ → Words → Outcome) → ((x y : ℤ) → FitsWord x → FitsWord y → Keeps (f x y)) → Keeps (λ w. on_two f w.operands w)
on_two-fits f h w fits =
    on_one-fits (λ y v. on_one (λ x t. f x y t) v.operands v)
    (λ y fy v fv. on_one-fits (λ x t. f x y t) (λ x fx t ft. h x y fx fy t ft) v.operands fv.operands v fv)
    w.operands
    fits.operands
    w
    fits

pub word_at-fits : (memory : List ℤ) (i : ℕ) → All FitsWord memory → FitsWord (word_at memory i)
word_at-fits [] i all = let z : FitsWord (pos 0) = omega (arith, ints) in z
word_at-fits (z ∷ zs) zero all = All-head FitsWord z zs all
word_at-fits (z ∷ zs) (suc i) all = word_at-fits zs i (All-tail FitsWord z zs all)

set-fits : (i : ℕ) (z : ℤ) (w : Words) → FitsWord z → WordsFit w → WordsFit (with_memory w (set w.memory i z))
set-fits i z w fz fits = record { operands = fits.operands; memory = All-set FitsWord w.memory i z fz fits.memory; input = fits.input }

fetch-fits : (area : ℕ) (f : Option Field) → Keeps (perform area (Fetch f))
fetch-fits area f =
    on_top-fits (at_address area (λ i v. Changed (put (field_value f (word_at v.memory i)) v)))
    (λ a fa v fv.
    through-kept WordsFit (is_below a area) (λ i t. Changed (put (field_value f (word_at t.memory i)) t))
    (λ i t ft. put-fits _ (field-fits f _ (word_at-fits t.memory i ft.memory)) t ft)
    a
    v
    fv)

store-fits : (area : ℕ) (f : ℤ → ℤ → ℤ) → ((x z : ℤ) → FitsWord z → FitsWord (f x z)) → Keeps (store_with area f)
store-fits area f h =
    on_two-fits (λ z a v. at_address area (λ i t. Changed (with_memory t (set t.memory i (f (word_at t.memory i) z)))) a v)
    (λ z a fz fa v fv.
    through-kept WordsFit (is_below a area) (λ i t. Changed (with_memory t (set t.memory i (f (word_at t.memory i) z))))
    (λ i t ft. set-fits i (f (word_at t.memory i) z) t (h (word_at t.memory i) z fz) ft)
    a
    v
    fv)

value-fits : (f : ℤ → ℤ) → Keeps (λ w. on_one (λ x v. put_value (f x) v) w.operands w)
value-fits f = on_top-fits (λ x v. put_value (f x) v) (λ x fx v fv. put_value-fits (f x) v fv)

values-fit : (f : ℤ → ℤ → ℤ) → Keeps (λ w. on_two (λ x y v. put_value (f x y) v) w.operands w)
values-fit f = on_two-fits (λ x y v. put_value (f x y) v) (λ x y fx fy v fv. put_value-fits (f x y) v fv)

bits-fit : (f : ℤ → ℤ → ℕ) → Keeps (λ w. on_two (λ x y v. Changed (put (signed (f x y)) v)) w.operands w)
bits-fit f = on_two-fits (λ x y v. Changed (put (signed (f x y)) v)) (λ x y fx fy v fv. put-fits (signed (f x y)) (signed-fits (f x y)) v fv)

divide-fits : (s x y : ℤ) → Keeps (divide s x y)
divide-fits s x (pos zero) w fits = tt
divide-fits s x (pos (suc n)) w fits = put_value-fits (scaled_quotient x (pos (suc n)) s) w fits
divide-fits s x (negsuc n) w fits = put_value-fits (scaled_quotient x (negsuc n) s) w fits

address-fits : (area : ℕ) (z : ℤ) → FitsWord z → Keeps (address_of area z)
address-fits area z h w fits = cases (is_below z area)
  where
    cases : (b : Bool) → OutcomeFits (put_if b AddressRange z w)
    cases true = put-fits z h w fits
    cases false = tt

read-fits : (input : List ℕ) (w : Words) → All (λ b. b < 256) input → WordsFit w → WordsFit (read_byte input w)
read-fits [] w all fits = let h : FitsWord (negsuc 0) = omega (arith, ints) in put-fits (negsuc 0) h w fits
read-fits (b ∷ rest) w all fits =
    let small = All-head (λ x. x < 256) b rest all in
    let h : FitsWord (pos b) = omega (arith, ints) in
    put-fits (pos b) h (record w { input = rest }) (record { operands = fits.operands; memory = fits.memory; input = All-tail (λ x. x < 256) b rest all })

index-fits : (f : ℤ → ℤ) → Keeps (λ w. on_one (λ i v. put_index (f i) v) w.operands w)
index-fits f = on_top-fits (λ i v. put_index (f i) v) (λ i fi v fv. put_index-fits (f i) v fv)

-- an address of an area of words fits a word
below_fits : (area : ℕ) (z : ℤ) → area ≤ 32768 → is_below z area ≡ true → FitsWord z
below_fits area (pos n) low is = let lt = ltb-true n area is in let f : FitsWord (pos n) = omega (arith, ints, low, lt) in f
below_fits area (negsuc n) low is = absurd (cc)

address-in-fits : (area : ℕ) (z : ℤ) → area ≤ 32768 → Keeps (address_of area z)
address-in-fits area z low w fits = cases (is_below z area) refl
  where
    cases : (b : Bool) → is_below z area ≡ b → OutcomeFits (put_if b AddressRange z w)
    cases true is = put-fits z (below_fits area z low is) w fits
    cases false is = tt

form-fits : (area : ℕ) (f : Addressing) → area ≤ 32768 → Keeps (form_address area f)
form-fits area (Known z) low = address-in-fits area z low
form-fits area Taken low = on_top-fits (address_of area) (λ z fz. address-in-fits area z low)
form-fits area (Indexed base lower) low =
    on_top-fits (λ i v. fitting (fits_word (i -ℤ lower)) (address_of area (base +ℤ (i -ℤ lower)) v))
    (λ i fi. fitting-kept WordsFit (fits_word (i -ℤ lower)) (address_of area (base +ℤ (i -ℤ lower))) (address-in-fits area (base +ℤ (i -ℤ lower)) low))
form-fits area (Indexed2 base l1 l2 width) low =
    on_two-fits (row_address area base l1 l2 width) (λ i j fi fj. of_row Keeps (fitting-kept WordsFit) area (λ z. address-in-fits area z low) base l1 l2 width i j)
form-fits area (Scaled base width word) low =
    on_top-fits (entry_address area base width word) (λ i fi. of_entry Keeps (fitting-kept WordsFit) area (λ z. address-in-fits area z low) base width word i)

from_base-fits : (area : ℕ) (f : ℤ → Addressing) → Keeps (from_base area f)
from_base-fits area f = on_top-fits (λ base v. form_address (min area 32768) (f base) v) (λ base fb. form-fits (min area 32768) (f base) (min-le_right area 32768))

variable-fits : (area loop : ℕ) → Keeps (perform area (SetVariable loop))
variable-fits area loop =
    on_top-fits (λ x v. at_address area (λ i t. Changed (with_memory t (set t.memory i x))) (word_at v.memory loop) v)
    (λ x fx v fv.
    through-kept WordsFit (is_below (word_at v.memory loop) area) (λ i t. Changed (with_memory t (set t.memory i x))) (λ i t ft. set-fits i x t fx ft)
    (word_at v.memory loop)
    v
    fv)

store_sum-fits : (b : Bool) (i : ℕ) (z : ℤ) → fits_word z ≡ b → Keeps (store_sum b i z)
store_sum-fits true i z h w fits = set-fits i z w (tested-fits z h) fits
store_sum-fits false i z h w fits = tt

step-added-fits : (area loop : ℕ) → Keeps (perform area (AddStep loop))
step-added-fits area loop w fits =
    through-kept WordsFit (is_below (word_at w.memory loop) area)
    (λ i v. store_sum (fits_word (word_at v.memory i +ℤ word_at v.memory (loop + 1))) i (word_at v.memory i +ℤ word_at v.memory (loop + 1)) v)
    (λ i v fv. store_sum-fits (fits_word (word_at v.memory i +ℤ word_at v.memory (loop + 1))) i (word_at v.memory i +ℤ word_at v.memory (loop + 1)) refl v fv)
    (word_at w.memory loop)
    w
    fits

variable-put-fits : (area loop : ℕ) (a : ℤ) → FitsWord a → Keeps (λ w. at_address area (λ i t. Changed (put a (put (word_at t.memory i) t))) (word_at w.memory loop) w)
variable-put-fits area loop a fa w fits =
    through-kept WordsFit (is_below (word_at w.memory loop) area) (λ i t. Changed (put a (put (word_at t.memory i) t)))
    (λ i t ft. put-fits a fa (put (word_at t.memory i) t) (put-fits (word_at t.memory i) (word_at-fits t.memory i ft.memory) t ft))
    (word_at w.memory loop)
    w
    fits

held-fits : (c : Option Control) → Keeps (held c)
held-fits None w fits = tt
held-fits (Some c) w fits = record { operands = All-cons OperandFits (Held c) w.operands tt fits.operands; memory = fits.memory; input = fits.input }

put_address-fits : (a : Option ℕ) → Keeps (put_address a)
put_address-fits None w fits = tt
put_address-fits (Some a) w fits = put-fits (signed a) (signed-fits a) w fits

abbrev ArgumentFits : Option Operand → Type 0
ArgumentFits None = Unit {0}
ArgumentFits (Some x) = OperandFits x

bind-fits : (area : ℕ) (x : Option Operand) (a : Option ℕ) → ArgumentFits x → Keeps (bind area x a)
bind-fits area None a fx w fits = tt
bind-fits area (Some (Held c)) a fx w fits = tt
bind-fits area (Some (Word z)) None fx w fits = tt
bind-fits area (Some (Word z)) (Some a) fx w fits =
    through-kept WordsFit (is_below (pos a) area) (λ i v. Changed (with_memory v (set v.memory i z))) (λ i v fv. set-fits i z v fx fv) (pos a) w fits

behind-fits : (n : ℕ) (operands : List Operand) → All OperandFits operands → ArgumentFits (argument_behind n operands)
behind-fits n [] all = tt
behind-fits zero (x ∷ rest) all = All-head OperandFits x rest all
behind-fits (suc n) (Word z ∷ rest) all = behind-fits n rest (All-tail OperandFits (Word z) rest all)
behind-fits (suc zero) (Held c ∷ rest) all = tt
behind-fits (suc (suc n)) (Held c ∷ rest) all = behind-fits n rest (All-tail OperandFits (Held c) rest all)

argument-fits : (acts : List OrderActivation) (n : ℕ) → All ActivationFits acts → ArgumentFits (argument_at acts n)
argument-fits [] n all = tt
argument-fits (a ∷ acts) n all = let f = All-head ActivationFits a acts all in behind-fits n a.arguments f.arguments

-- ---- ways

abbrev WayFits : Way → Type 0
WayFits (Onward w) = WordsFit w
WayFits (ToMark m w) = WordsFit w
WayFits (Barred kind) = Unit {0}
WayFits Nowhere = Unit {0}

abbrev Leads : (Words → Way) → Type 0
Leads f = (w : Words) → WordsFit w → WayFits (f w)

way_of_one-fits : (f : ℤ → Words → Way) → ((x : ℤ) → Leads (f x)) → (operands : List Operand) → All OperandFits operands → Leads (way_of_one f operands)
way_of_one-fits f h [] all w fits = tt
way_of_one-fits f h (Held c ∷ rest) all w fits = tt
way_of_one-fits f h (Word x ∷ rest) all w fits = h x (with_operands w rest) (less-fits (Word x) rest w all fits)

way_of_two-fits : (f : ℤ → ℤ → Words → Way) → ((x y : ℤ) → Leads (f x y)) → Leads (way_of_two f)
way_of_two-fits f h w fits =
    way_of_one-fits (λ y v. way_of_one (λ x t. f x y t) v.operands v)
    (λ y v fv. way_of_one-fits (λ x t. f x y t) (λ x t ft. h x y t ft) v.operands fv.operands v fv)
    w.operands
    fits.operands
    w
    fits

to_mark_if-fits : (b : Bool) (m : ℕ) → Leads (to_mark_if b m)
to_mark_if-fits true m w fits = fits
to_mark_if-fits false m w fits = fits

to_mark_in-fits : (m : Option ℕ) → Leads (to_mark_in m)
to_mark_in-fits None w fits = fits
to_mark_in-fits (Some m) w fits = fits

to_mark_of_switch-fits : (m : Option ℕ) → Leads (to_mark_of_switch m)
to_mark_of_switch-fits None w fits = tt
to_mark_of_switch-fits (Some m) w fits = fits

way_past_limit-fits : (b : Bool) (m : ℕ) (x : ℤ) (a : ℕ) → Leads (way_past_limit b m x a)
way_past_limit-fits true m x a w fits = to_mark_if-fits _ m w fits
way_past_limit-fits false m x a w fits = tt

way_behind-fits : (o : Outcome) (f : Words → Way) → OutcomeFits o → Leads f → WayFits (way_behind o f)
way_behind-fits (Changed v) f h leads = leads v h
way_behind-fits (Refused kind) f h leads = tt
way_behind-fits Impossible f h leads = tt

turned-fits : (b : Bool) (m a : ℕ) → Leads (turn_if b m a)
turned-fits true m a w fits = to_mark_if-fits _ m w fits
turned-fits false m a w fits = tt

stepped-fits : (b : Bool) (area m a : ℕ) → Leads (stepped_if b area m a)
stepped-fits true area m a w fits =
    way_behind-fits (perform area (AddStep a) w) (turned area m a) (step-added-fits area a w fits) (λ v fv. turned-fits (is_below (word_at v.memory a) area) m a v fv)
stepped-fits false area m a w fits = fits

inside-fits : (b : Bool) (area m a : ℕ) → Leads (stepped_inside b area m a)
inside-fits true area m a w fits = stepped-fits (nat_eq (number_of (word_at w.memory (a + 3))) 1) area m a w fits
inside-fits false area m a w fits = tt

next_step-fits : (area m : ℕ) (a : Option ℕ) → Leads (next_step area m a)
next_step-fits area m None w fits = tt
next_step-fits area m (Some a) w fits = inside-fits (nat_lt (a + 3) area) area m a w fits

bounded-fits : (b : Bool) (z : ℤ) → FitsWord z → Keeps (put_if b IndexRange z)
bounded-fits true z h w fits = put-fits z h w fits
bounded-fits false z h w fits = tt

-- ---- orders

abbrev ActionFits : (area : ℕ) → Action → Type 0
ActionFits = ActionIs Keeps Leads

constant-fits : (area n : ℕ) → Keeps (perform area (Constant (signed n)))
constant-fits area n w fits = put-fits (signed n) (signed-fits n) w fits

action-fits : (p : OrderProgram) (g : ℕ) (acts : List OrderActivation) (o : Order) → All ActivationFits acts → ActionFits p.limits.area (action_of p g acts o)
action-fits p g acts (order.Const n) all = constant-fits p.limits.area n
action-fits p g acts (order.Home family offset) all = constant-fits p.limits.area (home_word p.addresses g family offset)
action-fits p g acts (order.FrameHome n) all = put_address-fits (frame_word p.limits.area acts n)
action-fits p g acts order.Load all = fetch-fits p.limits.area None
action-fits p g acts order.Store all = store-fits p.limits.area (λ x z. z) (λ x z fz. fz)
action-fits p g acts (order.LoadPart t b s) all = fetch-fits p.limits.area (Some (record { t = t; b = b; unsigned = not s }))
action-fits p g acts (order.StorePart t b) all = store-fits p.limits.area (with_bits t b) (λ x z fz. signed-fits _)
action-fits p g acts (order.Rescale from to line) all = value-fits (λ x. rescaled x from to)
action-fits p g acts (order.Add line) all = values-fit (λ x y. x +ℤ y)
action-fits p g acts (order.Sub line) all = values-fit (λ x y. x -ℤ y)
action-fits p g acts (order.Neg line) all = value-fits (λ x. neg_ℤ x)
action-fits p g acts (order.Mul s line) all = values-fit (λ x y. scaled_product x y s)
action-fits p g acts (order.Div s line) all = on_two-fits (divide s) (λ x y fx fy. divide-fits s x y)
action-fits p g acts order.And all = bits-fit _
action-fits p g acts order.Or all = bits-fit _
action-fits p g acts order.Xor all = bits-fit _
action-fits p g acts (order.Take t b) all =
    on_top-fits (λ x v. Changed (put (signed (unsigned_field (unsigned x) t b)) v)) (λ x fx v fv. put-fits (signed (unsigned_field (unsigned x) t b)) (signed-fits _) v fv)
action-fits p g acts order.Less all = bits-fit (λ x y. word_difference (unsigned x) (unsigned y))
action-fits p g acts order.Drop all = on_top-fits (λ x v. Changed v) (λ x fx v fv. fv)
action-fits p g acts order.ReadByte all = λ w fits. read-fits w.input w fits.input fits
action-fits p g acts order.WriteByte all =
    on_top-fits (λ x v. Changed (record v { output = v.output ++ byte_of x ∷ [] })) (λ x fx v fv. record { operands = fv.operands; memory = fv.memory; input = fv.input })
action-fits p g acts (order.IndexLess lower line) all = index-fits (λ i. i -ℤ lower)
action-fits p g acts (order.Element lower span line) all = from_base-fits p.limits.area (λ base. Indexed base lower)
action-fits p g acts (order.ElementOfTwo lower second width line) all = from_base-fits p.limits.area (λ base. Indexed2 base lower second width)
action-fits p g acts (order.ElementInside lower second width span) all = from_base-fits p.limits.area (λ base. Indexed2 base lower second width)
action-fits p g acts (order.Entry width word span line) all = from_base-fits p.limits.area (λ base. Scaled base width word)
action-fits p g acts (order.InArea line) all = on_top-fits (address_of p.limits.area) (λ z fz. address-fits p.limits.area z fz)
action-fits p g acts (order.InBounds lower upper line) all =
    on_top-fits (λ x v. put_if (int_le lower x && int_le x upper) IndexRange x v) (λ x fx v fv. bounded-fits (int_le lower x && int_le x upper) x fx v fv)
action-fits p g acts (order.Jump m) all = λ w fits. fits
action-fits p g acts (order.JumpIf c m) all = way_of_two-fits (λ x y v. to_mark_if (holds (comparison c) x y) m v) (λ x y. to_mark_if-fits (holds (comparison c) x y) m)
action-fits p g acts (order.Exhausted m) all = way_of_two-fits (λ x a v. way_past_limit (is_below a (p.limits.area - 2)) m x (number_of a) v) (λ x a. way_past_limit-fits (is_below a (p.limits.area - 2)) m x (number_of a))
action-fits p g acts (order.NextStep x line m) all = next_step-fits p.limits.area m (place_address p g acts x)
action-fits p g acts (order.SetVariable line) all =
    on_top-fits (λ a v. if_inside (is_below a p.limits.area) (perform p.limits.area (SetVariable (number_of a)) v))
    (λ a fa. if_inside-kept WordsFit (is_below a p.limits.area) (perform p.limits.area (SetVariable (number_of a))) (variable-fits p.limits.area (number_of a)))
action-fits p g acts (order.AddStep line) all =
    on_top-fits (λ a v. if_inside (is_below a (p.limits.area - 1)) (perform p.limits.area (AddStep (number_of a)) v))
    (λ a fa. if_inside-kept WordsFit (is_below a (p.limits.area - 1)) (perform p.limits.area (AddStep (number_of a))) (step-added-fits p.limits.area (number_of a)))
action-fits p g acts (order.PutVariable line) all =
    on_top-fits
    (λ a v.
    if_inside (is_below a p.limits.area)
    (at_address p.limits.area (λ i t. Changed (put a (put (word_at t.memory i) t))) (word_at v.memory (number_of a)) v))
    (λ a fa.
    if_inside-kept WordsFit (is_below a p.limits.area)
    (λ v. at_address p.limits.area (λ i t. Changed (put a (put (word_at t.memory i) t))) (word_at v.memory (number_of a)) v)
    (variable-put-fits p.limits.area (number_of a) a fa))
action-fits p g acts (order.LoopWay marks) all = λ w fits.
    way_of_one-fits (λ i v. to_mark_in (mark_of_number marks i) v) (λ i. to_mark_in-fits (mark_of_number marks i)) w.operands fits.operands w fits
action-fits p g acts (order.SwitchWay marks line) all = λ w fits.
    way_of_one-fits (λ i v. to_mark_of_switch (mark_of_number marks i) v) (λ i. to_mark_of_switch-fits (mark_of_number marks i)) w.operands fits.operands w fits
action-fits p g acts (order.LabelOut l) all = held-fits (Some (LabelControl g l (length acts)))
action-fits p g acts (order.LabelCommon d) all = held-fits (common_label p g (length acts) d)
action-fits p g acts (order.SwitchOut n) all = held-fits (Some (SwitchControl g n (length acts)))
action-fits p g acts (order.SwitchCommon d) all = held-fits (common_switch p g (length acts) d)
action-fits p g acts (order.ProcOut q) all = held-fits (Some (ProcedureControl g q))
action-fits p g acts (order.ProcCommon d) all = held-fits (common_procedure p g d)
action-fits p g acts (order.SpecialOut k) all = held-fits (control_at acts k)
action-fits p g acts (order.Bind k family offset) all =
    bind-fits p.limits.area (argument_at acts k) (Some (home_word p.addresses g family offset)) (argument-fits acts k all)
action-fits p g acts (order.BindFrame k offset) all = bind-fits p.limits.area (argument_at acts k) (frame_word p.limits.area acts offset) (argument-fits acts k all)
action-fits p g acts _ all = tt

-- ---- steps

no_operands-fit : (w : Words) → WordsFit w → WordsFit (with_operands w [])
no_operands-fit w fits = record { operands = All-nil OperandFits; memory = fits.memory; input = fits.input }

these-fit : (operands : List Operand) (w : Words) → All OperandFits operands → WordsFit w → WordsFit (with_operands w operands)
these-fit operands w all fits = record { operands = all; memory = fits.memory; input = fits.input }

go_on-fits : (b : Bool) (g place : ℕ) (loaded : Bool) (acts : List OrderActivation) (w v : Words) → All ActivationFits acts → WordsFit w → WordsFit v → StateFits (go_on b g place loaded acts w v)
go_on-fits true g place loaded acts w v all fits h = record { words = h; activations = all }
go_on-fits false g place loaded acts w v all fits h = record { words = fits; activations = all }

after-fits : (room line : ℕ) (o : Outcome) (g place : ℕ) (loaded : Bool) (acts : List OrderActivation) (w : Words) → All ActivationFits acts → WordsFit w → OutcomeFits o → StateFits (after room line o g place loaded acts w)
after-fits room line (Changed v) g place loaded acts w all fits h = go_on-fits (nat_le (stack_words v.operands acts) room) g place loaded acts w v all fits h
after-fits room line (Refused kind) g place loaded acts w all fits h = record { words = fits; activations = all }
after-fits room line Impossible g place loaded acts w all fits h = record { words = fits; activations = all }

go_at-fits : (q : Option ℕ) (g place : ℕ) (loaded : Bool) (acts : List OrderActivation) (w v : Words) → All ActivationFits acts → WordsFit w → WordsFit v → StateFits (go_at q g place loaded acts w v)
go_at-fits None g place loaded acts w v all fits h = record { words = fits; activations = all }
go_at-fits (Some q) g place loaded acts w v all fits h = record { words = h; activations = all }

leave_for-fits : (q : Option ℕ) (to n g place : ℕ) (loaded : Bool) (acts : List OrderActivation) (w : Words) → All ActivationFits acts → WordsFit w → StateFits (leave_for q to n g place loaded acts w)
leave_for-fits None to n g place loaded acts w all fits = record { words = fits; activations = all }
leave_for-fits (Some q) to n g place loaded acts w all fits = record { words = no_operands-fit w fits; activations = All-drop ActivationFits n acts all }

call_at-fits : (b : Bool) (q : Option ℕ) (to : ℕ) (a : OrderActivation) (g place : ℕ) (loaded : Bool) (acts : List OrderActivation) (w : Words) → ActivationFits a → All ActivationFits acts → WordsFit w → StateFits (call_at b q to a g place loaded acts w)
call_at-fits true (Some q) to a g place loaded acts w fa all fits = record { words = no_operands-fit w fits; activations = All-cons ActivationFits a acts fa all }
call_at-fits true None to a g place loaded acts w fa all fits = record { words = fits; activations = all }
call_at-fits false q to a g place loaded acts w fa all fits = record { words = fits; activations = all }

enter_with-fits : (entered shallow fits : Bool) (size : ℕ) (a : OrderActivation) (g place : ℕ) (loaded : Bool) (acts : List OrderActivation) (w : Words) → All ActivationFits (a ∷ acts) → WordsFit w → StateFits (enter_with entered shallow fits size a g place loaded acts w)
enter_with-fits true shallow within size a g place loaded acts w all fits = record { words = fits; activations = all }
enter_with-fits false false within size a g place loaded acts w all fits = record { words = fits; activations = all }
enter_with-fits false true false size a g place loaded acts w all fits = record { words = fits; activations = all }
enter_with-fits false true true size a g place loaded acts w all fits =
    let f = All-head ActivationFits a acts all in
    record {
      words = fits;
      activations =
          All-cons ActivationFits (record a { entered = true; frame_top = a.frame_base + size }) acts
          (record { operands = f.operands; arguments = f.arguments })
          (All-tail ActivationFits a acts all);
    }

return_with-fits : (b answers : Bool) (operands : List Operand) (a : OrderActivation) (g place : ℕ) (loaded : Bool) (acts : List OrderActivation) (w : Words) → All OperandFits operands → All ActivationFits (a ∷ acts) → WordsFit w → StateFits (return_with b answers operands a g place loaded acts w)
return_with-fits true false operands a g place loaded acts w some all fits =
    let f = All-head ActivationFits a acts all in
    record { words = these-fit a.operands w f.operands fits; activations = All-tail ActivationFits a acts all }
return_with-fits true true (Word z ∷ rest) a g place loaded acts w some all fits =
    let f = All-head ActivationFits a acts all in
    record {
      words = these-fit (Word z ∷ a.operands) w (All-cons OperandFits (Word z) a.operands (All-head OperandFits (Word z) rest some) f.operands) fits;
      activations = All-tail ActivationFits a acts all;
    }
return_with-fits true true [] a g place loaded acts w some all fits = record { words = fits; activations = all }
return_with-fits true true (Held c ∷ rest) a g place loaded acts w some all fits = record { words = fits; activations = all }
return_with-fits false answers operands a g place loaded acts w some all fits = record { words = fits; activations = all }

next_body-fits : (u : Option Orders) (g place : ℕ) (loaded : Bool) (w : Words) → WordsFit w → StateFits (next_body u g place loaded w)
next_body-fits None g place loaded w fits = record { words = fits; activations = All-nil ActivationFits }
next_body-fits (Some u) g place loaded w fits = record { words = no_operands-fit w fits; activations = All-nil ActivationFits }

module _ (p : OrderProgram) where
  branch-fits : (line : ℕ) (x : Way) (g place : ℕ) (loaded : Bool) (acts : List OrderActivation) (w : Words) → All ActivationFits acts → WordsFit w → WayFits x → StateFits (branch p line x g place loaded acts w)
  branch-fits line (Onward v) g place loaded acts w all fits h = record { words = h; activations = all }
  branch-fits line (ToMark m v) g place loaded acts w all fits h =
      go_at-fits (place_of p g m) g place loaded acts w v all fits h
  branch-fits line (Barred kind) g place loaded acts w all fits h = record { words = fits; activations = all }
  branch-fits line Nowhere g place loaded acts w all fits h = record { words = fits; activations = all }

  go_to_entry-fits : (l : Option LabelEntry) (to owner g place : ℕ) (loaded : Bool) (acts : List OrderActivation) (w : Words) → All ActivationFits acts → WordsFit w → StateFits (go_to_entry p l to owner g place loaded acts w)
  go_to_entry-fits None to owner g place loaded acts w all fits = record { words = fits; activations = all }
  go_to_entry-fits (Some l) to owner g place loaded acts w all fits =
      leave_for-fits (place_of p to l.mark) to (dropped_by l.in_procedure owner acts) g place loaded acts w all fits

  go_to-fits : (c : Option Control) (g place : ℕ) (loaded : Bool) (acts : List OrderActivation) (w : Words) → All ActivationFits acts → WordsFit w → StateFits (go_to p c g place loaded acts w)
  go_to-fits (Some (LabelControl to l owner)) g place loaded acts w all fits = go_to_entry-fits (label_at p to l) to owner g place loaded acts w all fits
  go_to-fits _ g place loaded acts w all fits = record { words = fits; activations = all }

  go_to_goal-fits : (line : ℕ) (x : Option Goal) (to owner g place : ℕ) (loaded : Bool) (acts : List OrderActivation) (w : Words) → All ActivationFits acts → WordsFit w → StateFits (go_to_goal p line x to owner g place loaded acts w)
  go_to_goal-fits line None to owner g place loaded acts w all fits = record { words = fits; activations = all }
  go_to_goal-fits line (Some x) to owner g place loaded acts w all fits = go_to-fits (with_label_owner owner (label_of p to x)) g place loaded acts w all fits

  go_by_list-fits : (line : ℕ) (gs : Option (List Goal)) (operands : List Operand) (to owner g place : ℕ) (loaded : Bool) (acts : List OrderActivation) (w : Words) → All ActivationFits acts → WordsFit w → StateFits (go_by_list p line gs operands to owner g place loaded acts w)
  go_by_list-fits line (Some gs) (Word z ∷ rest) to owner g place loaded acts w all fits = go_to_goal-fits line (goal_at gs z) to owner g place loaded acts w all fits
  go_by_list-fits line (Some gs) (Held c ∷ rest) to owner g place loaded acts w all fits = record { words = fits; activations = all }
  go_by_list-fits line (Some gs) [] to owner g place loaded acts w all fits = record { words = fits; activations = all }
  go_by_list-fits line None operands to owner g place loaded acts w all fits = record { words = fits; activations = all }

  go_through-fits : (line : ℕ) (c : Option Control) (g place : ℕ) (loaded : Bool) (acts : List OrderActivation) (w : Words) → All ActivationFits acts → WordsFit w → StateFits (go_through p line c g place loaded acts w)
  go_through-fits line (Some (SwitchControl to n owner)) g place loaded acts w all fits = go_by_list-fits line (switch_at p to n) w.operands to owner g place loaded acts w all fits
  go_through-fits line _ g place loaded acts w all fits = record { words = fits; activations = all }

  call_entry-fits : (line : ℕ) (e : Option ProcedureEntry) (to g place : ℕ) (loaded : Bool) (acts : List OrderActivation) (w : Words) → All ActivationFits acts → WordsFit w → StateFits (call_entry p line e to g place loaded acts w)
  call_entry-fits line None to g place loaded acts w all fits = record { words = fits; activations = all }
  call_entry-fits line (Some e) to g place loaded acts w all fits =
      call_at-fits _ (place_of p to e.mark) to (called e.arguments (frame_end p acts) g place line w.operands) g place loaded acts w
      (record { operands = All-drop OperandFits e.arguments w.operands fits.operands; arguments = All-take OperandFits e.arguments w.operands fits.operands })
      all
      fits

  call-fits : (line : ℕ) (c : Option Control) (g place : ℕ) (loaded : Bool) (acts : List OrderActivation) (w : Words) → All ActivationFits acts → WordsFit w → StateFits (call p line c g place loaded acts w)
  call-fits line (Some (ProcedureControl to q)) g place loaded acts w all fits = call_entry-fits line (procedure_at p to q) to g place loaded acts w all fits
  call-fits line _ g place loaded acts w all fits = record { words = fits; activations = all }

  enter-fits : (size g place : ℕ) (loaded : Bool) (acts : List OrderActivation) (w : Words) → All ActivationFits acts → WordsFit w → StateFits (enter p size g place loaded acts w)
  enter-fits size g place loaded [] w all fits = record { words = fits; activations = all }
  enter-fits size g place loaded (a ∷ acts) w all fits = enter_with-fits a.entered _ _ size a g place loaded acts w all fits

  come_back-fits : (n : ℕ) (answers : Bool) (g place : ℕ) (loaded : Bool) (acts : List OrderActivation) (w : Words) → All ActivationFits acts → WordsFit w → StateFits (come_back p n answers g place loaded acts w)
  come_back-fits n answers g place loaded [] w all fits = record { words = fits; activations = all }
  come_back-fits n answers g place loaded (a ∷ acts) w all fits =
      return_with-fits (nat_eq (operand_words a.arguments) n) answers w.operands a g place loaded acts w fits.operands all fits

  end_body-fits : (g place : ℕ) (loaded : Bool) (acts : List OrderActivation) (w : Words) → All ActivationFits acts → WordsFit w → StateFits (end_body p g place loaded acts w)
  end_body-fits g place loaded [] w all fits = next_body-fits (slice_get p.units (g + 1)) g place loaded w fits
  end_body-fits g place loaded (a ∷ acts) w all fits = record { words = fits; activations = all }

  act-fits : (x : Action) (g place : ℕ) (loaded : Bool) (acts : List OrderActivation) (w : Words) → ActionFits p.limits.area x → All ActivationFits acts → WordsFit w → StateFits (act p x g place loaded acts w)
  act-fits (Perform line op) g place loaded acts w h all fits = after-fits p.room line (perform p.limits.area op w) g place loaded acts w all fits (h w fits)
  act-fits (Access op) g place loaded acts w h all fits =
      after-fits p.room 0 (unrefused (perform p.limits.area op w)) g place loaded acts w all fits (unrefused-kept WordsFit (perform p.limits.area op w) (h w fits))
  act-fits (Alter line f) g place loaded acts w h all fits = after-fits p.room line (f w) g place loaded acts w all fits (h w fits)
  act-fits (AlterWithin f) g place loaded acts w h all fits = after-fits p.room 0 (unrefused (f w)) g place loaded acts w all fits (unrefused-kept WordsFit (f w) (h w fits))
  act-fits Pass g place loaded acts w h all fits = record { words = fits; activations = all }
  act-fits (Branch line f) g place loaded acts w h all fits = branch-fits line (f w) g place loaded acts w all fits (h w fits)
  act-fits (GoMain m) g place loaded acts w h all fits = leave_for-fits (place_of p g m) g (length acts) g place loaded acts w all fits
  act-fits (GoLabel c) g place loaded acts w h all fits = go_to-fits c g place loaded acts w all fits
  act-fits (GoSwitch line c) g place loaded acts w h all fits = go_through-fits line c g place loaded acts w all fits
  act-fits (Call line c) g place loaded acts w h all fits = call-fits line c g place loaded acts w all fits
  act-fits (Enter size) g place loaded acts w h all fits = enter-fits size g place loaded acts w all fits
  act-fits (Return n answers) g place loaded acts w h all fits = come_back-fits n answers g place loaded acts w all fits
  act-fits EndBody g place loaded acts w h all fits = end_body-fits g place loaded acts w all fits

  carry_with-fits : (after : Option Bool) (o : Order) (g place : ℕ) (loaded : Bool) (acts : List OrderActivation) (w : Words) → All ActivationFits acts → WordsFit w → StateFits (carry_with p after o g place loaded acts w)
  carry_with-fits None o g place loaded acts w all fits = record { words = fits; activations = all }
  carry_with-fits (Some after) o g place loaded acts w all fits = act-fits (action_of p g acts o) g place after acts w (action-fits p g acts o all) all fits

  carry_out-fits : (o : Option Order) (g place : ℕ) (loaded : Bool) (acts : List OrderActivation) (w : Words) → All ActivationFits acts → WordsFit w → StateFits (carry_out p o g place loaded acts w)
  carry_out-fits None g place loaded acts w all fits = record { words = fits; activations = all }
  carry_out-fits (Some o) g place loaded acts w all fits = carry_with-fits (loaded_after o loaded) o g place loaded acts w all fits

  pub step-fits : (s : OrderState) → StateFits s → StateFits (step p s)
  step-fits (at g place loaded acts w Running) h = carry_out-fits (order_at p g place) g place loaded acts w h.activations h.words
  step-fits _ h = record { words = h.words; activations = h.activations }
