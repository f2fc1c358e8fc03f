-- Whether bytes begin an instruction hangs on the opcode and the operand's first byte alone, and a 0 serves for what lacks.
use Rattle.std.proofs.Common.{◌≡◌, ℕ, ◌+◌, ◌/◌, ◌%◌, Bool, true, false, cond, List, [], ◌∷◌, ◌++◌, drop, Option, Some, None, refl}
use Rattle.std.specs.Prelude.{slice_index}
use Rattle.std.specs.Option.{is_some, option_and_then}
use Rattle.cw_i86.specs.declared.instr.Place.TheVariants.{Plain}
use Rattle.cw_i86.specs.declared.instr.Mem.{Mem}
use Rattle.cw_i86.specs.declared.instr.Rm.{Rm}
use Rattle.cw_i86.specs.declared.instr.Rm.TheVariants as rms
use Rattle.cw_dec86.specs.Rows.{instr_at, row, operand_at, operand_row, low_row, middle_row, high_row, plain_row, rm_size}

-- where the first is some, so is the second
abbrev pub Keeps : {A B : Type 0} → Option A → Option B → Type 0
Keeps x y = is_some x ≡ true → is_some y ≡ true

keeps_if : {A : Type 0} (b : Bool) (x x' y y' : Option A) → Keeps x x' → Keeps y y' → Keeps (cond b x y) (cond b x' y')
keeps_if true x x' y y' h k = h
keeps_if false x x' y y' h k = k

keeps_some : {A : Type 0} (x : Option A) (y : A) → Keeps x (Some y)
keeps_some x y e = refl

keeps_none : {A : Type 0} (y : Option A) → ◌≡◌ {A = Bool} false true → is_some y ≡ true
keeps_none y e = absurd cc

low_keeps : (opcode : ℕ) (xs ys : List ℕ) → Keeps (low_row opcode xs) (low_row opcode ys)
unfolding low_row
low_keeps opcode xs ys = search (keeps_if, keeps_some, keeps_none) depth 40

middle_keeps : (opcode : ℕ) (xs ys : List ℕ) → Keeps (middle_row opcode xs) (middle_row opcode ys)
unfolding middle_row
middle_keeps opcode xs ys = search (keeps_if, keeps_some, keeps_none) depth 40

high_keeps : (opcode : ℕ) (xs ys : List ℕ) → Keeps (high_row opcode xs) (high_row opcode ys)
unfolding high_row
high_keeps opcode xs ys = search (keeps_if, keeps_some, keeps_none) depth 40

plain_keeps : (opcode : ℕ) (xs ys : List ℕ) → Keeps (plain_row opcode xs) (plain_row opcode ys)
unfolding plain_row
plain_keeps opcode xs ys = search (keeps_if, low_keeps, middle_keeps, high_keeps) depth 40

mem_keeps : (opcode reg : ℕ) (m m' : Mem) (xs ys : List ℕ) → Keeps (operand_row opcode reg (rms.Mem m) xs) (operand_row opcode reg (rms.Mem m') ys)
unfolding operand_row
mem_keeps opcode reg m m' xs ys = search (keeps_if, keeps_some, keeps_none) depth 40

reg_keeps : (opcode reg r : ℕ) (xs ys : List ℕ) → Keeps (operand_row opcode reg (rms.Reg r) xs) (operand_row opcode reg (rms.Reg r) ys)
unfolding operand_row
reg_keeps opcode reg r xs ys = search (keeps_if, keeps_some, keeps_none) depth 40

-- an extension of 0 and an operand in memory are good for each opcode
zero_keeps : (opcode reg : ℕ) (rm : Rm) (m : Mem) (xs ys : List ℕ) → Keeps (operand_row opcode reg rm xs) (operand_row opcode 0 (rms.Mem m) ys)
unfolding operand_row
zero_keeps opcode reg rm m xs ys = search (keeps_if, keeps_some, keeps_none) depth 40

then_if : {A B : Type 0} (f g : A → Option B) (b : Bool) (x x' y y' : Option A) → Keeps (option_and_then f x) (option_and_then g x') → Keeps (option_and_then f y) (option_and_then g y')
    → Keeps (option_and_then f (cond b x y)) (option_and_then g (cond b x' y'))
then_if f g true x x' y y' h k = h
then_if f g false x x' y y' h k = k

then_keeps : {A B : Type 0} (f : A → Option B) (x : Option A) (y : Option B) → ((a : A) → Keeps (f a) y) → Keeps (option_and_then f x) y
then_keeps f (Some a) y h e = h a e
then_keeps f None y h e = absurd cc

operand_keeps : (cs : Bool) (opcode m : ℕ) (xs ys : List ℕ)
    → Keeps (option_and_then (λ rm. operand_row opcode (m / 8 % 8) rm (drop (1 + rm_size rm) (opcode ∷ m ∷ xs))) (operand_at cs (m ∷ xs)))
    (option_and_then (λ rm. operand_row opcode (m / 8 % 8) rm (drop (1 + rm_size rm) (opcode ∷ m ∷ ys))) (operand_at cs (m ∷ ys)))
unfolding operand_at
operand_keeps cs opcode m xs ys = search (then_if, mem_keeps, reg_keeps, keeps_none) depth 40

-- the bytes behind the operand's first
row_keeps : (cs : Bool) (opcode m : ℕ) (xs ys : List ℕ) → Keeps (row cs (opcode ∷ m ∷ xs)) (row cs (opcode ∷ m ∷ ys))
unfolding row
row_keeps cs opcode m xs ys = search (keeps_if, operand_keeps, keeps_some, keeps_none, plain_keeps) depth 40

any_operand_keeps : (cs : Bool) (opcode reg : ℕ) (o : Option Rm) (bytes : Rm → List ℕ) (m : Mem) (ys : List ℕ)
    → Keeps (option_and_then (λ rm. operand_row opcode reg rm (bytes rm)) o) (operand_row opcode 0 (rms.Mem m) ys)
any_operand_keeps cs opcode reg o bytes m ys = then_keeps (λ rm. operand_row opcode reg rm (bytes rm)) o _ (λ rm. zero_keeps opcode reg rm m (bytes rm) ys)

-- those behind the opcode
opcode_keeps : (cs : Bool) (opcode : ℕ) (xs : List ℕ) → Keeps (row cs (opcode ∷ xs)) (row cs (opcode ∷ []))
unfolding row operand_at
opcode_keeps cs opcode xs =
    let h = any_operand_keeps cs opcode (slice_index xs 0 / 8 % 8) (operand_at cs xs) (λ rm. drop (1 + rm_size rm) (opcode ∷ xs)) (record { cs = cs; place = Plain 0 }) [] in
    search (keeps_if, h, keeps_some, keeps_none, plain_keeps) depth 40

zero_first : (xs : List ℕ) → Keeps (row true xs) (row true [])
unfolding row operand_at operand_row
zero_first xs e = refl

none_first : (more : List ℕ) → Keeps (instr_at more) (instr_at [])
unfolding instr_at row operand_at operand_row
none_first more e = refl

pub front_keeps : (bs more : List ℕ) → Keeps (instr_at (bs ++ more)) (instr_at bs)
unfolding instr_at
front_keeps [] more = none_first more
front_keeps (a ∷ []) more = search (keeps_if, zero_first, opcode_keeps) depth 40
front_keeps (a ∷ b ∷ []) more = search (keeps_if, row_keeps, opcode_keeps) depth 40
front_keeps (a ∷ b ∷ c ∷ xs) more = search (keeps_if, row_keeps) depth 40
