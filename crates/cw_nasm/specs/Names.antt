-- The names of registers, address forms and operations in NASM's syntax, by the numbers that stand in the bytes of instructions.
use Rattle.std.specs.Prelude.{ℕ, List, [], ◌∷◌, codes, slice_index_or, Bool, true, false, ◌%◌, ◌/◌, ◌==◌, if◌then◌else◌}

abbrev pub Text : Type 0
Text = List ℕ

abbrev pub word_registers : List Text
word_registers = codes "ax" ∷ codes "cx" ∷ codes "dx" ∷ codes "bx" ∷ codes "sp" ∷ codes "bp" ∷ codes "si" ∷ codes "di" ∷ []

abbrev pub byte_registers : List Text
byte_registers = codes "al" ∷ codes "cl" ∷ codes "dl" ∷ codes "bl" ∷ codes "ah" ∷ codes "ch" ∷ codes "dh" ∷ codes "bh" ∷ []

abbrev pub register : (wide : Bool) → ℕ → Text
register true r = slice_index_or word_registers r []
register false r = slice_index_or byte_registers r []

-- what the address form of a number adds to a displacement
abbrev pub forms : List Text
forms = codes "bx+si" ∷ codes "bx+di" ∷ codes "bp+si" ∷ codes "bp+di" ∷ codes "si" ∷ codes "di" ∷ codes "bp" ∷ codes "bx" ∷ []

abbrev pub form : ℕ → Text
form rm = slice_index_or forms rm []

abbrev pub sums : List Text
sums = codes "add" ∷ codes "or" ∷ codes "adc" ∷ codes "sbb" ∷ codes "and" ∷ codes "sub" ∷ codes "xor" ∷ codes "cmp" ∷ []

-- the conditions of even numbers, and behind each the opposite of it
abbrev pub conditions : List Text
conditions = codes "jo" ∷ codes "jb" ∷ codes "jz" ∷ codes "jbe" ∷ codes "js" ∷ codes "jp" ∷ codes "jl" ∷ codes "jle" ∷ []

abbrev pub opposites : List Text
opposites = codes "jno" ∷ codes "jnb" ∷ codes "jnz" ∷ codes "jnbe" ∷ codes "jns" ∷ codes "jnp" ∷ codes "jnl" ∷ codes "jnle" ∷ []

-- no row has operation 6
abbrev pub shifts : List Text
shifts = codes "rol" ∷ codes "ror" ∷ codes "rcl" ∷ codes "rcr" ∷ codes "shl" ∷ codes "shr" ∷ [] ∷ codes "sar" ∷ []

abbrev pub loops : List Text
loops = codes "loopnz" ∷ codes "loopz" ∷ codes "loop" ∷ codes "jcxz" ∷ []

-- the rows begin with operation 2
abbrev pub unaries : List Text
unaries = [] ∷ [] ∷ codes "not" ∷ codes "neg" ∷ codes "mul" ∷ codes "imul" ∷ codes "div" ∷ codes "idiv" ∷ []

abbrev pub name_in : List Text → ℕ → Text
name_in names k = slice_index_or names k []

abbrev pub condition : ℕ → Text
condition cond = if cond % 2 == 0 then name_in conditions (cond / 2) else name_in opposites (cond / 2)
