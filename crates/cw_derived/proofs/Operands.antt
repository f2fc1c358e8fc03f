-- Operand lists: a first operand in brackets is joined where it may be, and what is made is in normal form.
use Rattle.std.proofs.Common.{◌≡◌, ℕ, Bool, List, [], ◌∷◌, ◌++◌, Option, Some, None, refl, sym, ap, subst, ◌∙◌, append-nil, append_assoc}
use Rattle.cw_tree.specs.declared.leaf.Position.{Position}
use Rattle.cw_tree.specs.declared.leaf.RawSign.{RawSign}
use Rattle.cw_tree.specs.declared.leaf.RawFactorSign.{RawFactorSign}
use Rattle.cw_tree.specs.declared.expression.RawExpr.TheViews.{out-roll-RawPrim, out-roll-RawMask, out-roll-RawUnion, out-roll-RawDiffer, out-roll-RawTerm, out-roll-RawSum}
use Rattle.cw_tree.specs.declared.expression.RawBits.{RawBits}
use Rattle.cw_tree.specs.declared.expression.RawExpr.{RawExpr}
use Rattle.cw_tree.specs.declared.expression.RawPrimary.{RawPrimary}
use Rattle.cw_tree.specs.declared.expression.RawDiffer.{RawDiffer, out-RawDiffer}
use Rattle.cw_tree.specs.declared.expression.RawMask.{RawMask, out-RawMask}
use Rattle.cw_tree.specs.declared.expression.RawPrim.{RawPrim, roll-RawPrim}
use Rattle.cw_tree.specs.declared.expression.RawSum.{RawSum, out-RawSum}
use Rattle.cw_tree.specs.declared.expression.RawTerm.{RawTerm, out-RawTerm}
use Rattle.cw_tree.specs.declared.expression.RawUnion.{RawUnion, out-RawUnion}
use Rattle.cw_grammar.specs.Grammar.{Sort, a_pair, a_list, an_option, a_position, a_sign, a_factor_sign, a_bits, an_expr, a_sum, a_term, a_differ, a_union, a_mask, a_prim, a_primary, Value}
use Rattle.cw_grammar.specs.Trees.{◌>>-◌, Operands, extended, first_of, as_sum, as_term, as_differ, as_union, as_mask, as_prim, bracket_primary, bracket_prim, bracket_mask, bracket_union, bracket_differ, bracket_term, bracket_sum, mask_start, union_start, differ_start, term_start, mask_tree, union_tree, differ_tree, term_tree, Terms, sum_tree, terms_of, sum_start, more_terms, expr_or, expr_of, prim_or, prim_of}
use Rattle.cw_derived.specs.Marks.{Within}
use Rattle.cw_derived.specs.NormalForm.{IsNormal, no_more, one_more, present, absent, is_prim, is_mask, is_union, is_differ, is_term, plain_sum, signed_sum, sum_expr}
use Rattle.cw_derived.proofs.Layers.{PrimLayer, MaskLayer, UnionLayer, DifferLayer, TermLayer, SumLayer}
use Rattle.cw_derived.proofs.Withins.{join, twice, beyond}
use Rattle.cw_derived.specs.Proper.{IsNormalWithin}
use Rattle.cw_derived.proofs.Held.{both_steps, both_of, primary_held, prim_held, mask_held, union_held, differ_held, term_held, sum_held, sum_in, as_term_in, as_differ_in, as_union_in, as_mask_in, as_prim_in}

-- ---- operands so far

pub appended : {n : ℕ} {p : Bool} {s : Sort} {xs ys : List (Value s)} {a b : List ℕ} → IsNormal n p (a_list s) xs a → IsNormal n p (a_list s) ys b → IsNormal n p (a_list s) (xs ++ ys) (a ++ b)
appended no_more k = k
appended {n = n} {p = p} {s = s} {ys = ys} {b = b} (one_more {x = x} {xs = xs} {a = a} {b = c} h r) k =
    subst (λ (z : List ℕ). IsNormal n p (a_list s) (x ∷ (xs ++ ys)) z) (sym (append_assoc a c b)) (one_more h (appended r k))

extended_twice : {A B : Type 0} (ops : Operands A B) (r more : List (B × A)) → extended (extended ops r) more ≡ extended ops (r ++ more)
extended_twice ops [] more = refl
extended_twice ops (x ∷ r) more = extended_twice (ops.0 ++ x.1 ∷ [], ops.1 ++ x.0 ∷ []) r more

-- A first operand, of which something is known, and more behind their operators.
pub record Start (n : ℕ) (p : Bool) (o s : Sort) (stays : Value s → Type 0) (ops : Operands (Value s) (Value o)) (ns : List ℕ) : Type 0 where
  pub head : Value s
  pub rest : List (Value o × Value s)
  pub is : ops ≡ extended (head ∷ [], []) rest
  pub head_marks : List ℕ
  pub rest_marks : List ℕ
  pub within : Within (head_marks ++ rest_marks) ns
  pub head_normal : IsNormal n p s head head_marks
  pub head_stays : stays head
  pub rest_normal : IsNormal n p (a_list (a_pair o s)) rest rest_marks

pub alone_start : {n : ℕ} {p : Bool} (o s : Sort) (stays : Value s → Type 0) {x : Value s} {ns : List ℕ} → IsNormalWithin n p s x ns → stays x → Start n p o s stays (x ∷ [], []) ns
alone_start o s stays {x = x} {ns = ns} k e = record {
  head = x;
  rest = [];
  is = refl;
  head_marks = k.marks;
  rest_marks = [];
  within = subst (λ (z : List ℕ). Within z ns) (sym (append-nil k.marks)) k.within;
  head_normal = k.normal;
  head_stays = e;
  rest_normal = no_more;
}

pub more_start : {n : ℕ} {p : Bool} (o s : Sort) (stays : Value s → Type 0) {ops : Operands (Value s) (Value o)} {more : List (Value o × Value s)} {ns ms : List ℕ} → Start n p o s stays ops ns → IsNormalWithin n p (a_list (a_pair o s)) more ms → Start n p o s stays (extended ops more) (ns ++ ms)
more_start o s stays {more = more} {ns = ns} {ms = ms} k m = record {
  head = k.head;
  rest = k.rest ++ more;
  is = ap (λ (z : Operands (Value s) (Value o)). extended z more) k.is ∙ extended_twice (k.head ∷ [], []) k.rest more;
  head_marks = k.head_marks;
  rest_marks = k.rest_marks ++ m.marks;
  within = subst (λ (z : List ℕ). Within z (ns ++ ms)) (append_assoc k.head_marks k.rest_marks m.marks) (join k.within m.within);
  head_normal = k.head_normal;
  head_stays = k.head_stays;
  rest_normal = appended k.rest_normal m.normal;
}

start_with : {n : ℕ} {p : Bool} (o s : Sort) (stays : Value s → Type 0) {ops : Operands (Value s) (Value o)} (x : Value s) (rest : List (Value o × Value s)) {a b ns : List ℕ}
    → ops ≡ extended (x ∷ [], []) rest → Within (a ++ b) ns → IsNormal n p s x a → stays x → IsNormal n p (a_list (a_pair o s)) rest b → Start n p o s stays ops ns
start_with o s stays x rest {a = a} {b = b} is w h e r = record { head = x; rest = rest; is = is; head_marks = a; rest_marks = b; within = w; head_normal = h; head_stays = e; rest_normal = r }

-- A rule whose first operand is joined where its bracket holds a tree of the rule.
joined_made : {n : ℕ} {p : Bool} (o s t : Sort) (tree : Operands (Value s) (Value o) → Value t) (parts : Value t → Operands (Value s) (Value o)) (bracket : Value s → Option RawExpr) (narrow : RawExpr → Option (Value t))
    → ((x : Value s) (a : List ℕ) (y : RawExpr) → IsNormal n p s x a → bracket x ≡ Some y → IsNormalWithin n p an_expr y a)
    → ((y : RawExpr) (a : List ℕ) (z : Value t) → IsNormal n p an_expr y a → narrow y ≡ Some z → IsNormal n p t z a)
    → ((z : Value t) (a ns : List ℕ) → IsNormal n p t z a → Within a ns → Start n p o s (λ x. (bracket x >>- narrow) ≡ None) (parts z) ns)
    → ((x : Value s) (rest : List (Value o × Value s)) (a b : List ℕ) → IsNormal n p s x a → (bracket x >>- narrow) ≡ None → IsNormal n p (a_list (a_pair o s)) rest b → IsNormal n p t (tree (extended (x ∷ [], []) rest)) (a ++ b))
    → {x : Value s} {more : List (Value o × Value s)} {ns ms : List ℕ} → IsNormalWithin n p s x ns → IsNormalWithin n p (a_list (a_pair o s)) more ms → IsNormalWithin n p t (tree (extended (first_of parts (bracket x >>- narrow) x) more)) (ns ++ ms)
joined_made {n = n} {p = p} o s t tree parts bracket narrow held narrowed taken makes {x = x} {ns = ns} k m =
    let begun : Start n p o s (λ y. (bracket y >>- narrow) ≡ None) (first_of parts (bracket x >>- narrow) x) ns =
    elim (bracket x >>- narrow) as (λ c. (bracket x >>- narrow) ≡ c → Start n p o s (λ y. (bracket y >>- narrow) ≡ None) (first_of parts c x) ns) [
      | None ↦ λ e. alone_start o s (λ y. (bracket y >>- narrow) ≡ None) k e
      | Some c ↦ λ e. elim (both_of (bracket x) narrow c e) [ both_steps y u v ↦ let h = held x k.marks y k.normal u in taken c h.marks ns (narrowed y h.marks c h.normal v) (twice h.within k.within) ]
    ] refl in
    let all = more_start o s (λ y. (bracket y >>- narrow) ≡ None) begun m in
    record {
      marks = all.head_marks ++ all.rest_marks;
      within = all.within;
      normal = subst (λ (z : Operands (Value s) (Value o)). IsNormal n p t (tree z) (all.head_marks ++ all.rest_marks)) (sym all.is) (makes all.head all.rest all.head_marks all.rest_marks all.head_normal all.head_stays all.rest_normal);
    }

-- ---- mask, union, differ, term

mask_taken : {n : ℕ} {p : Bool} {m : RawMask} {a ns : List ℕ} → IsNormal n p a_mask m a → Within a ns → Start n p a_position a_prim (λ x. (bracket_prim x >>- as_mask) ≡ None) ((out-RawMask m).operands, (out-RawMask m).operators) ns
mask_taken (is_mask {x = x} {rest = rest} h e r) w = start_with a_position a_prim (λ x. (bracket_prim x >>- as_mask) ≡ None) x rest (ap (λ (z : MaskLayer). (z.operands, z.operators)) (out-roll-RawMask _)) w h e r

pub mask_made : {n : ℕ} {p : Bool} {x : RawPrim} {more : List (Position × RawPrim)} {ns ms : List ℕ} → IsNormalWithin n p a_prim x ns → IsNormalWithin n p (a_list (a_pair a_position a_prim)) more ms → IsNormalWithin n p a_mask (mask_tree (extended (mask_start x) more)) (ns ++ ms)
mask_made {x = x} {more = more} k m =
    joined_made a_position a_prim a_mask mask_tree (λ z. ((out-RawMask z).operands, (out-RawMask z).operators)) bracket_prim as_mask (λ x a y h u. prim_held y h u) (λ y a z h v. as_mask_in z h v) (λ z a ns h w. mask_taken h w) (λ x rest a b h e r. is_mask h e r) {x = x} {more = more} k m

union_taken : {n : ℕ} {p : Bool} {m : RawUnion} {a ns : List ℕ} → IsNormal n p a_union m a → Within a ns → Start n p a_position a_mask (λ x. (bracket_mask x >>- as_union) ≡ None) ((out-RawUnion m).operands, (out-RawUnion m).operators) ns
union_taken (is_union {x = x} {rest = rest} h e r) w = start_with a_position a_mask (λ x. (bracket_mask x >>- as_union) ≡ None) x rest (ap (λ (z : UnionLayer). (z.operands, z.operators)) (out-roll-RawUnion _)) w h e r

pub union_made : {n : ℕ} {p : Bool} {x : RawMask} {more : List (Position × RawMask)} {ns ms : List ℕ} → IsNormalWithin n p a_mask x ns → IsNormalWithin n p (a_list (a_pair a_position a_mask)) more ms → IsNormalWithin n p a_union (union_tree (extended (union_start x) more)) (ns ++ ms)
union_made {x = x} {more = more} k m =
    joined_made a_position a_mask a_union union_tree (λ z. ((out-RawUnion z).operands, (out-RawUnion z).operators)) bracket_mask as_union (λ x a y h u. mask_held y h u) (λ y a z h v. as_union_in z h v) (λ z a ns h w. union_taken h w) (λ x rest a b h e r. is_union h e r) {x = x} {more = more} k m

differ_taken : {n : ℕ} {p : Bool} {m : RawDiffer} {a ns : List ℕ} → IsNormal n p a_differ m a → Within a ns → Start n p a_position a_union (λ x. (bracket_union x >>- as_differ) ≡ None) ((out-RawDiffer m).operands, (out-RawDiffer m).operators) ns
differ_taken (is_differ {x = x} {rest = rest} h e r) w = start_with a_position a_union (λ x. (bracket_union x >>- as_differ) ≡ None) x rest (ap (λ (z : DifferLayer). (z.operands, z.operators)) (out-roll-RawDiffer _)) w h e r

pub differ_made : {n : ℕ} {p : Bool} {x : RawUnion} {more : List (Position × RawUnion)} {ns ms : List ℕ} → IsNormalWithin n p a_union x ns → IsNormalWithin n p (a_list (a_pair a_position a_union)) more ms → IsNormalWithin n p a_differ (differ_tree (extended (differ_start x) more)) (ns ++ ms)
differ_made {x = x} {more = more} k m =
    joined_made a_position a_union a_differ differ_tree (λ z. ((out-RawDiffer z).operands, (out-RawDiffer z).operators)) bracket_union as_differ (λ x a y h u. union_held y h u) (λ y a z h v. as_differ_in z h v) (λ z a ns h w. differ_taken h w) (λ x rest a b h e r. is_differ h e r) {x = x} {more = more} k m

term_taken : {n : ℕ} {p : Bool} {m : RawTerm} {a ns : List ℕ} → IsNormal n p a_term m a → Within a ns → Start n p a_factor_sign a_differ (λ x. (bracket_differ x >>- as_term) ≡ None) ((out-RawTerm m).operands, (out-RawTerm m).operators) ns
term_taken (is_term {x = x} {rest = rest} h e r) w = start_with a_factor_sign a_differ (λ x. (bracket_differ x >>- as_term) ≡ None) x rest (ap (λ (z : TermLayer). (z.operands, z.operators)) (out-roll-RawTerm _)) w h e r

pub term_made : {n : ℕ} {p : Bool} {x : RawDiffer} {more : List (RawFactorSign × RawDiffer)} {ns ms : List ℕ} → IsNormalWithin n p a_differ x ns → IsNormalWithin n p (a_list (a_pair a_factor_sign a_differ)) more ms → IsNormalWithin n p a_term (term_tree (extended (term_start x) more)) (ns ++ ms)
term_made {x = x} {more = more} k m =
    joined_made a_factor_sign a_differ a_term term_tree (λ z. ((out-RawTerm z).operands, (out-RawTerm z).operators)) bracket_differ as_term (λ x a y h u. differ_held y h u) (λ y a z h v. as_term_in z h v) (λ z a ns h w. term_taken h w) (λ x rest a b h e r. is_term h e r) {x = x} {more = more} k m

-- ---- sums

abbrev term_stays : RawTerm → Type 0
term_stays x = (bracket_term x >>- as_sum) ≡ None

-- terms so far, with a sign or without one
data Begun (n : ℕ) (p : Bool) : Terms → List ℕ → Type 0 where
  unsigned : {ops : Operands RawTerm RawSign} {ns : List ℕ} → Start n p a_sign a_term term_stays ops ns → Begun n p (None, ops) ns
  behind_sign : {sign : RawSign} {x : RawTerm} {rest : List (RawSign × RawTerm)} {a b c ns : List ℕ} → IsNormal n p a_sign sign a → IsNormal n p a_term x b → IsNormal n p (a_list (a_pair a_sign a_term)) rest c → Within (a ++ (b ++ c)) ns → Begun n p (Some sign, extended (x ∷ [], []) rest) ns

abbrev terms : RawSum → Terms
terms s = ((out-RawSum s).sign, ((out-RawSum s).operands, (out-RawSum s).operators))

abbrev terms_in : SumLayer → Terms
terms_in z = (z.sign, (z.operands, z.operators))

sum_taken : {n : ℕ} {p : Bool} {s : RawSum} {a ns : List ℕ} → IsNormal n p a_sum s a → Within a ns → Begun n p (terms s) ns
sum_taken {n = n} {p = p} {ns = ns} (plain_sum {x = x} {rest = rest} {a = a} {b = b} h e r) w =
    let ops : Operands RawTerm RawSign = extended (x ∷ [], []) rest in
    let there : Begun n p (None, ops) ns = unsigned (record { head = x; rest = rest; is = refl; head_marks = a; rest_marks = b; within = w; head_normal = h; head_stays = e; rest_normal = r }) in
    subst (λ (z : Terms). Begun n p z ns) (sym (ap terms_in (out-roll-RawSum (record { sign = None; operands = ops.0; operators = ops.1 })))) there
sum_taken {n = n} {p = p} {ns = ns} (signed_sum {sign = sign} {x = x} {rest = rest} g h r) w =
    let ops : Operands RawTerm RawSign = extended (x ∷ [], []) rest in
    let there : Begun n p (Some sign, ops) ns = behind_sign g h r w in
    subst (λ (z : Terms). Begun n p z ns) (sym (ap terms_in (out-roll-RawSum (record { sign = Some sign; operands = ops.0; operators = ops.1 })))) there

plain_begun : {n : ℕ} {p : Bool} {x : RawTerm} {ns : List ℕ} → IsNormalWithin n p a_term x ns → Begun n p (terms_of (bracket_term x >>- as_sum) x) ns
plain_begun {n = n} {p = p} {x = x} {ns = ns} k =
    elim (bracket_term x >>- as_sum) as (λ o. (bracket_term x >>- as_sum) ≡ o → Begun n p (terms_of o x) ns) [
      | None ↦ λ e. unsigned (alone_start a_sign a_term term_stays k e)
      | Some m ↦ λ e. elim (both_of (bracket_term x) as_sum m e) [ both_steps y u v ↦ let h = term_held y k.normal u in sum_taken (sum_in m h.normal v) (twice h.within k.within) ]
    ] refl

sum_begun : {n : ℕ} {p : Bool} {o : Option RawSign} {a : List ℕ} {x : RawTerm} {ns v : List ℕ} → IsNormal n p (an_option a_sign) o a → Within a v → IsNormalWithin n p a_term x ns → Begun n p (sum_start o x) (v ++ ns)
sum_begun {v = v} absent w k = plain_begun (record { marks = k.marks; within = beyond v k.within; normal = k.normal })
sum_begun {ns = ns} {v = v} (present {a = a} g) w k = behind_sign g k.normal no_more (subst (λ (z : List ℕ). Within (a ++ z) (v ++ ns)) (sym (append-nil k.marks)) (join w k.within))

sum_more : {n : ℕ} {p : Bool} {x : Terms} {more : List (RawSign × RawTerm)} {ns ms : List ℕ} → Begun n p x ns → IsNormalWithin n p (a_list (a_pair a_sign a_term)) more ms → IsNormalWithin n p a_sum (sum_tree (more_terms x more)) (ns ++ ms)
sum_more {n = n} {p = p} (unsigned k) m =
    let s = more_start a_sign a_term term_stays k m in
    record {
      marks = s.head_marks ++ s.rest_marks;
      within = s.within;
      normal = subst (λ (z : Operands RawTerm RawSign). IsNormal n p a_sum (sum_tree (None, z)) (s.head_marks ++ s.rest_marks)) (sym s.is) (plain_sum s.head_normal s.head_stays s.rest_normal);
    }
sum_more {n = n} {p = p} {more = more} {ms = ms} (behind_sign {sign = sign} {x = x} {rest = rest} {a = a} {b = b} {c = c} {ns = ns} g h r w) m =
    record {
      marks = a ++ (b ++ (c ++ m.marks));
      within = subst (λ (z : List ℕ). Within z (ns ++ ms)) (append_assoc a (b ++ c) m.marks ∙ ap (λ (z : List ℕ). a ++ z) (append_assoc b c m.marks)) (join w m.within);
      normal = subst (λ (z : Operands RawTerm RawSign). IsNormal n p a_sum (sum_tree (Some sign, z)) (a ++ (b ++ (c ++ m.marks)))) (sym (extended_twice (x ∷ [], []) rest more)) (signed_sum g h (appended r m.normal));
    }

pub sum_made : {n : ℕ} {p : Bool} {o : Option RawSign} {x : RawTerm} {more : List (RawSign × RawTerm)} {v ns ms : List ℕ} → IsNormalWithin n p (an_option a_sign) o v → IsNormalWithin n p a_term x ns → IsNormalWithin n p (a_list (a_pair a_sign a_term)) more ms → IsNormalWithin n p a_sum (sum_tree (more_terms (sum_start o x) more)) (v ++ (ns ++ ms))
sum_made {n = n} {p = p} {o = o} {x = x} {more = more} {v = v} {ns = ns} {ms = ms} g k m =
    subst (λ (z : List ℕ). IsNormalWithin n p a_sum (sum_tree (more_terms (sum_start o x) more)) z) (append_assoc v ns ms) (sum_more (sum_begun g.normal g.within k) m)

-- ---- whole expressions, and primaries behind BITS

pub expr_made : {n : ℕ} {p : Bool} {x : RawSum} {ns : List ℕ} → IsNormalWithin n p a_sum x ns → IsNormalWithin n p an_expr (expr_of x) ns
expr_made {n = n} {p = p} {x = x} {ns = ns} k =
    elim (bracket_sum x) as (λ o. bracket_sum x ≡ o → IsNormalWithin n p an_expr (expr_or o x) ns) [
      | None ↦ λ e. record { marks = k.marks; within = k.within; normal = sum_expr k.normal e }
      | Some y ↦ λ e. let h = sum_held y k.normal e in record { marks = h.marks; within = twice h.within k.within; normal = h.normal }
    ] refl

joined_prim : {n : ℕ} {p : Bool} {bits : List RawBits} {q : RawPrim} (x : RawPrimary) {a c : List ℕ} → IsNormal n p (a_list a_bits) bits a → IsNormal n p a_prim q c → IsNormal n p a_prim (prim_or (Some q) bits x) (a ++ c)
joined_prim {n = n} {p = p} {bits = bits} x {a = a} g (is_prim {bits = inner} {x = y} {a = b} {b = c} h k l) =
    let joined : PrimLayer → RawPrim = λ z. roll-RawPrim (record { bits = bits ++ z.bits; primary = z.primary }) in
    subst (λ (z : RawPrim). IsNormal n p a_prim z (a ++ (b ++ c))) (sym (ap joined (out-roll-RawPrim (record { bits = inner; primary = y }))))
    (subst (λ (z : List ℕ). IsNormal n p a_prim (roll-RawPrim (record { bits = bits ++ inner; primary = y })) z) (append_assoc a b c) (is_prim (appended g h) k l))

pub prim_made : {n : ℕ} {p : Bool} {bits : List RawBits} {x : RawPrimary} {u v : List ℕ} → IsNormalWithin n p (a_list a_bits) bits u → IsNormalWithin n p a_primary x v → IsNormalWithin n p a_prim (prim_of bits x) (u ++ v)
prim_made {n = n} {p = p} {bits = bits} {x = x} {u = u} {v = v} g k =
    elim (bracket_primary x >>- as_prim) as (λ o. (bracket_primary x >>- as_prim) ≡ o → IsNormalWithin n p a_prim (prim_or o bits x) (u ++ v)) [
      | None ↦ λ e. record { marks = g.marks ++ k.marks; within = join g.within k.within; normal = is_prim g.normal k.normal e }
      | Some q ↦ λ e. elim (both_of (bracket_primary x) as_prim q e) [ both_steps y i j ↦ let h = primary_held y k.normal i in record { marks = g.marks ++ h.marks; within = join g.within (twice h.within k.within); normal = joined_prim x g.normal (as_prim_in q h.normal j) } ]
    ] refl
