-- A tree that is a bracket alone, and an expression that is a tree of a narrower rule: what is in them is in normal form.
use Rattle.std.proofs.Common.{◌≡◌, ℕ, Bool, List, [], ◌∷◌, ◌++◌, map, Option, Some, None, refl, sym, ap, subst, ◌∙◌, append-nil, append_assoc}
use Rattle.std.proofs.lemmas.Option.{none-some, same_Some}
use Rattle.cw_tree.specs.declared.leaf.RawSign.{RawSign}
use Rattle.cw_tree.specs.declared.expression.RawBits.{RawBits}
use Rattle.cw_tree.specs.declared.expression.RawExpr.TheVariants as expr_tree
use Rattle.cw_tree.specs.declared.expression.RawPrimary.TheVariants as primary_tree
use Rattle.cw_tree.specs.declared.expression.RawExpr.TheOpen as layer
use Rattle.cw_tree.specs.declared.expression.RawExpr.TheViews.{out-roll-RawExpr, out-roll-RawPrimary, out-roll-RawPrim, out-roll-RawMask, out-roll-RawUnion, out-roll-RawDiffer, out-roll-RawTerm, out-roll-RawSum}
use Rattle.cw_tree.specs.declared.expression.RawExpr.{RawExpr, roll-RawExpr}
use Rattle.cw_tree.specs.declared.expression.RawPrimary.{RawPrimary, roll-RawPrimary}
use Rattle.cw_tree.specs.declared.expression.RawDiffer.{RawDiffer, out-RawDiffer}
use Rattle.cw_tree.specs.declared.expression.RawMask.{RawMask, out-RawMask}
use Rattle.cw_tree.specs.declared.expression.RawPrim.{RawPrim, roll-RawPrim}
use Rattle.cw_tree.specs.declared.expression.RawSum.{RawSum, roll-RawSum}
use Rattle.cw_tree.specs.declared.expression.RawTerm.{RawTerm, out-RawTerm}
use Rattle.cw_tree.specs.declared.expression.RawUnion.{RawUnion, out-RawUnion}
use Rattle.cw_grammar.specs.Grammar.{Sort, a_pair, a_list, a_position, a_sign, a_factor_sign, an_expr, a_sum, a_term, a_differ, a_union, a_mask, a_prim, a_primary, Value}
use Rattle.cw_grammar.specs.Trees.{sole, ◌>>-◌, Operands, extended, as_sum, sole_term, as_term, as_differ, as_union, as_mask, as_prim, bracket_primary, bracket_prim, bracket_mask, bracket_union, bracket_differ, bracket_term, bracket_sum}
use Rattle.cw_derived.proofs.Layers.{PrimaryLayer, PrimLayer, MaskLayer, UnionLayer, DifferLayer, TermLayer, SumLayer, ExprLayer, held}
use Rattle.cw_derived.specs.Marks.{skipped}
use Rattle.cw_derived.specs.NormalForm.{IsNormal, no_more, number, octal, literal, string, location, forced, bracket, referred, call, is_prim, is_mask, is_union, is_differ, is_term, plain_sum, signed_sum, sum_expr, choice}
use Rattle.cw_derived.proofs.Withins.{all_within, beyond}
use Rattle.cw_derived.proofs.Levels.{more_room}
use Rattle.cw_derived.specs.Proper.{IsNormalWithin}

pub not_none : {A : Type 0} {x : A} → None ≡ Some x → ⊥
not_none {x = x} e = none-some x e

pub same_some : {A : Type 0} {x y : A} → Some x ≡ Some y → x ≡ y
same_some {x = x} {y = y} e = same_Some x y e

-- what comes of two steps, if both give something
pub data Both {A B : Type 0} (o : Option A) (f : A → Option B) (y : B) : Type 0 where
  both_steps : (x : A) → o ≡ Some x → f x ≡ Some y → Both o f y

pub both_of : {A B : Type 0} (o : Option A) (f : A → Option B) (y : B) → (o >>- f) ≡ Some y → Both o f y
both_of None f y e = absurd (not_none e)
both_of (Some x) f y e = both_steps x refl e

-- ---- operands

abbrev pair_with : {A B : Type 0} → List A → List B → Operands A B
pair_with xs os = (xs, os)

abbrev with_pair : {A B : Type 0} → List B → List A → Operands A B
with_pair os xs = (xs, os)

pub extended_is : {A B : Type 0} (xs : List A) (os : List B) (more : List (B × A)) → ◌≡◌ {A = Operands A B} (extended (xs, os) more) (xs ++ map (λ z. z.1) more, os ++ map (λ z. z.0) more)
extended_is {A = A} {B = B} xs os [] = subst (λ (z : List A). ◌≡◌ {A = Operands A B} (xs, os) (z, os ++ [])) (sym (append-nil xs)) (ap (pair_with xs) (sym (append-nil os)))
extended_is {A = A} {B = B} xs os (x ∷ more) =
    extended_is (xs ++ x.1 ∷ []) (os ++ x.0 ∷ []) more
    ∙ ap (with_pair ((os ++ x.0 ∷ []) ++ map (λ z. z.0) more)) (append_assoc xs (x.1 ∷ []) (map (λ z. z.1) more))
    ∙ ap (pair_with (xs ++ x.1 ∷ map (λ z. z.1) more)) (append_assoc os (x.0 ∷ []) (map (λ z. z.0) more))

-- A sole operand is the first, and no more stand behind it.
record Alone {A B : Type 0} (x t : A) (rest : List (B × A)) : Type 0 where
  is_first : x ≡ t
  no_rest : rest ≡ []

sole_rest : {A B : Type 0} (x t : A) (rest : List (B × A)) → sole (x ∷ map (λ z. z.1) rest) ≡ Some t → Alone x t rest
sole_rest x t [] e = record { is_first = same_some e; no_rest = refl }
sole_rest x t (y ∷ rest) e = absurd (not_none e)

alone : {A B : Type 0} (x t : A) (rest : List (B × A)) → sole (extended (x ∷ [], []) rest).0 ≡ Some t → Alone x t rest
alone {A = A} {B = B} x t rest e =
    let there : (extended (x ∷ [], []) rest).0 ≡ x ∷ map (λ z. z.1) rest = ap (λ (z : Operands A B). z.0) (extended_is (x ∷ []) [] rest) in
    sole_rest x t rest (ap sole (sym there) ∙ e)

no_marks : {n : ℕ} {p : Bool} {s : Sort} {b : List ℕ} → IsNormal n p (a_list s) [] b → b ≡ []
no_marks no_more = refl

-- the first of operands, where it stands alone
sole_normal : (n : ℕ) (p : Bool) (o s : Sort) (x t : Value s) (rest : List (Value o × Value s)) (a b : List ℕ) → IsNormal n p s x a → IsNormal n p (a_list (a_pair o s)) rest b → Alone x t rest → IsNormal n p s t (a ++ b)
sole_normal n p o s x t rest a b h r l =
    let e : b ≡ [] = no_marks (subst (λ (z : List (Value o × Value s)). IsNormal n p (a_list (a_pair o s)) z b) l.no_rest r) in
    subst (λ (z : List ℕ). IsNormal n p s t (a ++ z)) (sym e) (subst (λ (z : List ℕ). IsNormal n p s t z) (sym (append-nil a)) (subst (λ (z : Value s). IsNormal n p s z a) l.is_first h))

-- ---- an expression that is a tree of a narrower rule

abbrev summed : ExprLayer → Option RawSum
summed y = elim y [ layer.Choice at c a b ↦ None | layer.Sum s ↦ Some s ]

sum_is : (l : ExprLayer) → as_sum (roll-RawExpr l) ≡ summed l
sum_is l = ap summed (out-roll-RawExpr l)

pub sum_in : {n : ℕ} {p : Bool} {e : RawExpr} {a : List ℕ} (s : RawSum) → IsNormal n p an_expr e a → as_sum e ≡ Some s → IsNormal n p a_sum s a
sum_in {n = n} {p = p} s (sum_expr {x = x} {a = a} h k) q =
    let e : x ≡ s = same_some (sym (ap as_sum (sym (expr_tree.rolls-Sum x)) ∙ sum_is (layer.Sum x)) ∙ q) in
    subst (λ (z : RawSum). IsNormal n p a_sum z a) e h
sum_in s (choice at {c = c} {x = x} {y = y} h k l) q = absurd (not_none (sym (ap as_sum (sym (expr_tree.rolls-Choice at c x y)) ∙ sum_is (layer.Choice at c x y)) ∙ q))

abbrev unsigned : SumLayer → Option RawTerm
unsigned y = elim y.sign [ None ↦ sole y.operands | Some sign ↦ None ]

pub term_in : {n : ℕ} {p : Bool} {s : RawSum} {a : List ℕ} (t : RawTerm) → IsNormal n p a_sum s a → sole_term s ≡ Some t → IsNormal n p a_term t a
term_in {n = n} {p = p} t (plain_sum {x = x} {rest = rest} {a = a} {b = b} h k r) q =
    let ops : Operands RawTerm RawSign = extended (x ∷ [], []) rest in
    let there : sole_term (roll-RawSum (record { sign = None; operands = ops.0; operators = ops.1 })) ≡ sole ops.0 = ap unsigned (out-roll-RawSum (record { sign = None; operands = ops.0; operators = ops.1 })) in
    sole_normal n p a_sign a_term x t rest a b h r (alone x t rest (sym there ∙ q))
term_in t (signed_sum {sign = sign} {x = x} {rest = rest} g h r) q =
    let ops : Operands RawTerm RawSign = extended (x ∷ [], []) rest in
    absurd (not_none (sym (ap unsigned (out-roll-RawSum (record { sign = Some sign; operands = ops.0; operators = ops.1 }))) ∙ q))

-- an operand that is the sole one
sole_in : {n : ℕ} {p : Bool} (o s : Sort) (x t : Value s) (rest : List (Value o × Value s)) {a b : List ℕ} (found : Option (Value s)) → IsNormal n p s x a → IsNormal n p (a_list (a_pair o s)) rest b → found ≡ sole (extended (x ∷ [], []) rest).0 → found ≡ Some t → IsNormal n p s t (a ++ b)
sole_in {n = n} {p = p} o s x t rest {a = a} {b = b} found h r there q = sole_normal n p o s x t rest a b h r (alone x t rest (sym there ∙ q))

pub differ_in : {n : ℕ} {p : Bool} {y : RawTerm} {a : List ℕ} (t : RawDiffer) → IsNormal n p a_term y a → sole (out-RawTerm y).operands ≡ Some t → IsNormal n p a_differ t a
differ_in t (is_term {x = x} {rest = rest} h k r) q = sole_in a_factor_sign a_differ x t rest _ h r (ap (λ (z : TermLayer). sole z.operands) (out-roll-RawTerm _)) q

pub union_in : {n : ℕ} {p : Bool} {y : RawDiffer} {a : List ℕ} (t : RawUnion) → IsNormal n p a_differ y a → sole (out-RawDiffer y).operands ≡ Some t → IsNormal n p a_union t a
union_in t (is_differ {x = x} {rest = rest} h k r) q = sole_in a_position a_union x t rest _ h r (ap (λ (z : DifferLayer). sole z.operands) (out-roll-RawDiffer _)) q

pub mask_in : {n : ℕ} {p : Bool} {y : RawUnion} {a : List ℕ} (t : RawMask) → IsNormal n p a_union y a → sole (out-RawUnion y).operands ≡ Some t → IsNormal n p a_mask t a
mask_in t (is_union {x = x} {rest = rest} h k r) q = sole_in a_position a_mask x t rest _ h r (ap (λ (z : UnionLayer). sole z.operands) (out-roll-RawUnion _)) q

pub prim_in : {n : ℕ} {p : Bool} {y : RawMask} {a : List ℕ} (t : RawPrim) → IsNormal n p a_mask y a → sole (out-RawMask y).operands ≡ Some t → IsNormal n p a_prim t a
prim_in t (is_mask {x = x} {rest = rest} h k r) q = sole_in a_position a_prim x t rest _ h r (ap (λ (z : MaskLayer). sole z.operands) (out-roll-RawMask _)) q

pub as_term_in : {n : ℕ} {p : Bool} {e : RawExpr} {a : List ℕ} (t : RawTerm) → IsNormal n p an_expr e a → as_term e ≡ Some t → IsNormal n p a_term t a
as_term_in {e = e} t h q = elim (both_of (as_sum e) sole_term t q) [ both_steps y u v ↦ term_in t (sum_in y h u) v ]

pub as_differ_in : {n : ℕ} {p : Bool} {e : RawExpr} {a : List ℕ} (t : RawDiffer) → IsNormal n p an_expr e a → as_differ e ≡ Some t → IsNormal n p a_differ t a
as_differ_in {e = e} t h q = elim (both_of (as_term e) (λ y. sole (out-RawTerm y).operands) t q) [ both_steps y u v ↦ differ_in t (as_term_in y h u) v ]

pub as_union_in : {n : ℕ} {p : Bool} {e : RawExpr} {a : List ℕ} (t : RawUnion) → IsNormal n p an_expr e a → as_union e ≡ Some t → IsNormal n p a_union t a
as_union_in {e = e} t h q = elim (both_of (as_differ e) (λ y. sole (out-RawDiffer y).operands) t q) [ both_steps y u v ↦ union_in t (as_differ_in y h u) v ]

pub as_mask_in : {n : ℕ} {p : Bool} {e : RawExpr} {a : List ℕ} (t : RawMask) → IsNormal n p an_expr e a → as_mask e ≡ Some t → IsNormal n p a_mask t a
as_mask_in {e = e} t h q = elim (both_of (as_union e) (λ y. sole (out-RawUnion y).operands) t q) [ both_steps y u v ↦ mask_in t (as_union_in y h u) v ]

pub as_prim_in : {n : ℕ} {p : Bool} {e : RawExpr} {a : List ℕ} (t : RawPrim) → IsNormal n p an_expr e a → as_prim e ≡ Some t → IsNormal n p a_prim t a
as_prim_in {e = e} t h q = elim (both_of (as_mask e) (λ y. sole (out-RawMask y).operands) t q) [ both_steps y u v ↦ prim_in t (as_mask_in y h u) v ]

-- ---- what a bracket alone holds

holds : (l : PrimaryLayer) → bracket_primary (roll-RawPrimary l) ≡ held l
holds l = ap held (out-roll-RawPrimary l)

holds_none : (l : PrimaryLayer) (x : RawPrimary) (e : RawExpr) → roll-RawPrimary l ≡ x → held l ≡ None → bracket_primary x ≡ Some e → ⊥
holds_none l x e r h q = not_none (sym (ap bracket_primary (sym r) ∙ holds l ∙ h) ∙ q)

pub primary_held : {n : ℕ} {p : Bool} {x : RawPrimary} {a : List ℕ} (e : RawExpr) → IsNormal n p a_primary x a → bracket_primary x ≡ Some e → IsNormalWithin n p an_expr e a
primary_held {n = n} {p = p} e (bracket at {x = x} {a = a} h) q =
    let same : x ≡ e = same_some (sym (ap bracket_primary (sym (primary_tree.rolls-Bracket at x)) ∙ holds (layer.Bracket at x)) ∙ q) in
    record { marks = a; within = skipped (all_within a); normal = subst (λ (z : RawExpr). IsNormal n p an_expr z a) same (more_room h) }
primary_held e (number {x = x} h) q = absurd (holds_none (layer.Number x) (primary_tree.Number x) e (primary_tree.rolls-Number x) refl q)
primary_held e (octal {x = x} h) q = absurd (holds_none (layer.Octal x) (primary_tree.Octal x) e (primary_tree.rolls-Octal x) refl q)
primary_held e (literal {x = x} h) q = absurd (holds_none (layer.Literal x) (primary_tree.Literal x) e (primary_tree.rolls-Literal x) refl q)
primary_held e (string at cs) q = absurd (holds_none (layer.Text at cs) (primary_tree.Text at cs) e (primary_tree.rolls-Text at cs) refl q)
primary_held e (location at {x = x} h) q = absurd (holds_none (layer.Location at x) (primary_tree.Location at x) e (primary_tree.rolls-Location at x) refl q)
primary_held e (forced {t = t} {x = x} h k) q = absurd (holds_none (layer.Forced t x) (primary_tree.Forced t x) e (primary_tree.rolls-Forced t x) refl q)
primary_held e (referred {x = x} h) q = absurd (holds_none (layer.Ref x) (primary_tree.Ref x) e (primary_tree.rolls-Ref x) refl q)
primary_held e (call {f = f} {x = x} {xs = xs} h k) q = absurd (holds_none (layer.Call f (x ∷ xs)) (primary_tree.Call f (x ∷ xs)) e (primary_tree.rolls-Call f (x ∷ xs)) refl q)

abbrev bare_of : List RawBits → RawPrimary → Option RawExpr
bare_of bits x = elim bits [ [] ↦ bracket_primary x | b ∷ bs ↦ None ]

bare_held : {n : ℕ} {p : Bool} {x : RawPrimary} {b : List ℕ} (a : List ℕ) (bits : List RawBits) (e : RawExpr) → IsNormal n p a_primary x b → bare_of bits x ≡ Some e → IsNormalWithin n p an_expr e (a ++ b)
bare_held a [] e h q = let k = primary_held e h q in record { marks = k.marks; within = beyond a k.within; normal = k.normal }
bare_held a (z ∷ bits) e h q = absurd (not_none q)

pub prim_held : {n : ℕ} {p : Bool} {x : RawPrim} {a : List ℕ} (e : RawExpr) → IsNormal n p a_prim x a → bracket_prim x ≡ Some e → IsNormalWithin n p an_expr e a
prim_held e (is_prim {bits = bits} {x = x} {a = a} h k l) q =
    let there : bracket_prim (roll-RawPrim (record { bits = bits; primary = x })) ≡ bare_of bits x = ap (λ (z : PrimLayer). bare_of z.bits z.primary) (out-roll-RawPrim (record { bits = bits; primary = x })) in
    bare_held a bits e k (sym there ∙ q)

pub mask_held : {n : ℕ} {p : Bool} {x : RawMask} {a : List ℕ} (e : RawExpr) → IsNormal n p a_mask x a → bracket_mask x ≡ Some e → IsNormalWithin n p an_expr e a
mask_held {x = x} e h q = elim (both_of (sole (out-RawMask x).operands) bracket_prim e q) [ both_steps y u v ↦ prim_held e (prim_in y h u) v ]

pub union_held : {n : ℕ} {p : Bool} {x : RawUnion} {a : List ℕ} (e : RawExpr) → IsNormal n p a_union x a → bracket_union x ≡ Some e → IsNormalWithin n p an_expr e a
union_held {x = x} e h q = elim (both_of (sole (out-RawUnion x).operands) bracket_mask e q) [ both_steps y u v ↦ mask_held e (mask_in y h u) v ]

pub differ_held : {n : ℕ} {p : Bool} {x : RawDiffer} {a : List ℕ} (e : RawExpr) → IsNormal n p a_differ x a → bracket_differ x ≡ Some e → IsNormalWithin n p an_expr e a
differ_held {x = x} e h q = elim (both_of (sole (out-RawDiffer x).operands) bracket_union e q) [ both_steps y u v ↦ union_held e (union_in y h u) v ]

pub term_held : {n : ℕ} {p : Bool} {x : RawTerm} {a : List ℕ} (e : RawExpr) → IsNormal n p a_term x a → bracket_term x ≡ Some e → IsNormalWithin n p an_expr e a
term_held {x = x} e h q = elim (both_of (sole (out-RawTerm x).operands) bracket_differ e q) [ both_steps y u v ↦ differ_held e (differ_in y h u) v ]

pub sum_held : {n : ℕ} {p : Bool} {x : RawSum} {a : List ℕ} (e : RawExpr) → IsNormal n p a_sum x a → bracket_sum x ≡ Some e → IsNormalWithin n p an_expr e a
sum_held {x = x} e h q = elim (both_of (sole_term x) bracket_term e q) [ both_steps y u v ↦ term_held e (term_in y h u) v ]
