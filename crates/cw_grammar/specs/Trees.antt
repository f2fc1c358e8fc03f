-- Expressions in their normal form: a first operand in brackets that is of the same rule is joined, and a bracket that is not needed is gone.
use Rattle.std.specs.Prelude.{ℕ, Bool, true, false, List, [], ◌∷◌, ◌++◌, Option, Some, None, option_and_then}
use Rattle.cw_tree.specs.declared.leaf.Position.{Position}
use Rattle.cw_tree.specs.declared.leaf.RawSign.{RawSign}
use Rattle.cw_tree.specs.declared.leaf.RawFactorSign.{RawFactorSign}
use Rattle.cw_tree.specs.declared.leaf.RawCompareSign.{RawCompareSign}
use Rattle.cw_tree.specs.declared.expression.RawBits.{RawBits}
use Rattle.cw_tree.specs.declared.expression.RawExpr.{RawExpr, RawExpr-F, out-RawExpr}
use Rattle.cw_tree.specs.declared.expression.RawExpr.TheVariants as expr_tree
use Rattle.cw_tree.specs.declared.expression.RawExpr.TheOpen as layer
use Rattle.cw_tree.specs.declared.expression.RawCond.{RawCond, roll-RawCond, out-RawCond}
use Rattle.cw_tree.specs.declared.expression.RawCand.{RawCand, roll-RawCand, out-RawCand}
use Rattle.cw_tree.specs.declared.expression.RawCmp.{RawCmp, roll-RawCmp}
use Rattle.cw_tree.specs.declared.expression.RawSum.{RawSum, roll-RawSum, out-RawSum}
use Rattle.cw_tree.specs.declared.expression.RawTerm.{RawTerm, roll-RawTerm, out-RawTerm}
use Rattle.cw_tree.specs.declared.expression.RawDiffer.{RawDiffer, roll-RawDiffer, out-RawDiffer}
use Rattle.cw_tree.specs.declared.expression.RawUnion.{RawUnion, roll-RawUnion, out-RawUnion}
use Rattle.cw_tree.specs.declared.expression.RawMask.{RawMask, roll-RawMask, out-RawMask}
use Rattle.cw_tree.specs.declared.expression.RawPrim.{RawPrim, roll-RawPrim, out-RawPrim}
use Rattle.cw_tree.specs.declared.expression.RawPrimary.{RawPrimary, RawPrimary-F, out-RawPrimary}
use Rattle.cw_tree.specs.declared.expression.RawPrimary.TheVariants as primary_tree
use Rattle.cw_tree.specs.declared.expression.RawRef.{RawRef}

-- the item of a list of one
abbrev pub sole : {A : Type 0} → List A → Option A
sole [] = None
sole (x ∷ []) = Some x
sole (x ∷ y ∷ ys) = None

infixl 10 ◌>>-◌
abbrev pub ◌>>-◌ : {A B : Type 0} → Option A → (A → Option B) → Option B
o >>- f = option_and_then f o

-- ---- an expression as a tree of a narrower rule, where it is one

abbrev pub as_sum : RawExpr → Option RawSum
as_sum e = elim (out-RawExpr e) [ layer.Choice at c x y ↦ None | layer.Sum s ↦ Some s ]

abbrev pub sole_term : RawSum → Option RawTerm
sole_term s = elim ((out-RawSum s).sign) [ None ↦ sole (out-RawSum s).operands | Some sign ↦ None ]

abbrev pub as_term : RawExpr → Option RawTerm
as_term e = as_sum e >>- sole_term

abbrev pub as_differ : RawExpr → Option RawDiffer
as_differ e = as_term e >>- (λ t. sole (out-RawTerm t).operands)

abbrev pub as_union : RawExpr → Option RawUnion
as_union e = as_differ e >>- (λ d. sole (out-RawDiffer d).operands)

abbrev pub as_mask : RawExpr → Option RawMask
as_mask e = as_union e >>- (λ u. sole (out-RawUnion u).operands)

abbrev pub as_prim : RawExpr → Option RawPrim
as_prim e = as_mask e >>- (λ m. sole (out-RawMask m).operands)

-- ---- what stands in a bracket, where a tree is nothing else

abbrev pub bracket_primary : RawPrimary → Option RawExpr
bracket_primary p = elim (out-RawPrimary p) [
  | layer.Number n ↦ None
  | layer.Octal n ↦ None
  | layer.Literal c ↦ None
  | layer.Text at cs ↦ None
  | layer.Location at r ↦ None
  | layer.Forced t e ↦ None
  | layer.Bracket at e ↦ Some e
  | layer.Ref r ↦ None
  | layer.Call f xs ↦ None
]

abbrev pub bracket_prim : RawPrim → Option RawExpr
bracket_prim p = elim ((out-RawPrim p).bits) [ [] ↦ bracket_primary (out-RawPrim p).primary | b ∷ bs ↦ None ]

abbrev pub bracket_mask : RawMask → Option RawExpr
bracket_mask m = sole (out-RawMask m).operands >>- bracket_prim

abbrev pub bracket_union : RawUnion → Option RawExpr
bracket_union u = sole (out-RawUnion u).operands >>- bracket_mask

abbrev pub bracket_differ : RawDiffer → Option RawExpr
bracket_differ d = sole (out-RawDiffer d).operands >>- bracket_union

abbrev pub bracket_term : RawTerm → Option RawExpr
bracket_term t = sole (out-RawTerm t).operands >>- bracket_differ

abbrev pub bracket_sum : RawSum → Option RawExpr
bracket_sum s = sole_term s >>- bracket_term

-- ---- operand lists

-- operands, and one operator less
abbrev pub Operands : Type 0 → Type 0 → Type 0
Operands A B = List A × List B

-- more operators, each with its operand
abbrev pub extended : {A B : Type 0} → Operands A B → List (B × A) → Operands A B
extended so_far [] = so_far
extended so_far (x ∷ xs) = extended (so_far.0 ++ x.1 ∷ [], so_far.1 ++ x.0 ∷ []) xs

-- the first operand of a rule: where it is a bracket with a tree of the same rule, the operands of that
abbrev pub first_of : {A B C : Type 0} → (C → Operands A B) → Option C → A → Operands A B
first_of parts None x = (x ∷ [], [])
first_of parts (Some c) x = parts c

abbrev pub mask_start : RawPrim → Operands RawPrim Position
mask_start p = first_of (λ m. ((out-RawMask m).operands, (out-RawMask m).operators)) (bracket_prim p >>- as_mask) p

abbrev pub union_start : RawMask → Operands RawMask Position
union_start m = first_of (λ u. ((out-RawUnion u).operands, (out-RawUnion u).operators)) (bracket_mask m >>- as_union) m

abbrev pub differ_start : RawUnion → Operands RawUnion Position
differ_start u = first_of (λ d. ((out-RawDiffer d).operands, (out-RawDiffer d).operators)) (bracket_union u >>- as_differ) u

abbrev pub term_start : RawDiffer → Operands RawDiffer RawFactorSign
term_start d = first_of (λ t. ((out-RawTerm t).operands, (out-RawTerm t).operators)) (bracket_differ d >>- as_term) d

-- ---- trees

abbrev pub mask_tree : Operands RawPrim Position → RawMask
mask_tree x = roll-RawMask (record { operands = x.0; operators = x.1 })

abbrev pub union_tree : Operands RawMask Position → RawUnion
union_tree x = roll-RawUnion (record { operands = x.0; operators = x.1 })

abbrev pub differ_tree : Operands RawUnion Position → RawDiffer
differ_tree x = roll-RawDiffer (record { operands = x.0; operators = x.1 })

abbrev pub term_tree : Operands RawDiffer RawFactorSign → RawTerm
term_tree x = roll-RawTerm (record { operands = x.0; operators = x.1 })

abbrev pub cand_tree : Operands RawCmp Position → RawCand
cand_tree x = roll-RawCand (record { operands = x.0; operators = x.1 })

abbrev pub cond_tree : Operands RawCand Position → RawCond
cond_tree x = roll-RawCond (record { operands = x.0; operators = x.1 })

abbrev pub comparison_tree : RawSum → RawCompareSign → RawSum → RawCmp
comparison_tree a op b = roll-RawCmp (record { left = a; operator = op; right = b })

-- a sum: its sign, and its terms
abbrev pub Terms : Type 0
Terms = Option RawSign × Operands RawTerm RawSign

abbrev pub sum_tree : Terms → RawSum
sum_tree x = roll-RawSum (record { sign = x.0; operands = x.1.0; operators = x.1.1 })

abbrev pub terms_of : Option RawSum → RawTerm → Terms
terms_of None t = (None, (t ∷ [], []))
terms_of (Some s) t = ((out-RawSum s).sign, ((out-RawSum s).operands, (out-RawSum s).operators))

-- Behind a sign, a sum in brackets keeps them.
abbrev pub sum_start : Option RawSign → RawTerm → Terms
sum_start None t = terms_of (bracket_term t >>- as_sum) t
sum_start (Some sign) t = (Some sign, (t ∷ [], []))

abbrev pub more_terms : Terms → List (RawSign × RawTerm) → Terms
more_terms x rest = (x.0, extended x.1 rest)

abbrev pub expr_or : Option RawExpr → RawSum → RawExpr
expr_or None s = expr_tree.Sum s
expr_or (Some e) s = e

-- an expression that is a sum; a bracket around all of it is gone
abbrev pub expr_of : RawSum → RawExpr
expr_of s = expr_or (bracket_sum s) s

abbrev pub prim_or : Option RawPrim → List RawBits → RawPrimary → RawPrim
prim_or None bits p = roll-RawPrim (record { bits = bits; primary = p })
prim_or (Some q) bits p = roll-RawPrim (record { bits = bits ++ (out-RawPrim q).bits; primary = (out-RawPrim q).primary })

-- a primary behind its BITS; those of a primary in brackets are joined
abbrev pub prim_of : List RawBits → RawPrimary → RawPrim
prim_of bits p = prim_or (bracket_primary p >>- as_prim) bits p
