-- Facts are added to those before, by what a part of an expression consists of.
use Rattle.std.proofs.Common.{◌≡◌, ◌==◌, ◌<◌, ◌≤◌, ℕ, zero, suc, ◌+◌, List, [], ◌∷◌, ◌++◌, length, map, drop, get_or, sym, ap, ap₂, ◌∙◌, append_assoc, append-nil, add-one, arith}
use Rattle.std.proofs.lemmas.List.{drop_all, length-map}
use Rattle.cw_tree.specs.declared.leaf.Position.{Position}
use Rattle.cw_tree.specs.declared.leaf.RawName.{RawName}
use Rattle.cw_tree.specs.declared.leaf.RawType.{RawType}
use Rattle.cw_tree.specs.declared.expression.RawExpr.TheVariants as expr
use Rattle.cw_tree.specs.declared.expression.RawPrimary.TheVariants as primary
use Rattle.cw_tree.specs.declared.expression.RawRef.TheVariants as ref
use Rattle.cw_tree.specs.declared.expression.RawExpr.{RawExpr}
use Rattle.cw_tree.specs.declared.expression.RawPrimary.{RawPrimary}
use Rattle.cw_tree.specs.declared.expression.RawRef.{RawRef}
use Rattle.cw_tree.specs.declared.expression.RawCmp.{RawCmp, out-RawCmp}
use Rattle.cw_tree.specs.declared.expression.RawCond.{RawCond}
use Rattle.cw_tree.specs.declared.expression.RawPrim.{RawPrim, out-RawPrim}
use Rattle.cw_tree.specs.declared.expression.RawSum.{RawSum}
use Rattle.cw_facts.specs.declared.fact.Fact.{Fact}
use Rattle.cw_facts.specs.declared.fact.Fact.TheVariants as fact
use Rattle.cw_facts.specs.declared.fact.Form.TheVariants as form
use Rattle.cw_facts.specs.declared.fact.Reading.{Reading}
use Rattle.cw_facts.specs.declared.fact.Reading.TheVariants as reading
use Rattle.cw_facts.specs.Uses.{Uses, uses_of, reading_of, each_for, operands_for, indexed, argument_uses}
use Rattle.cw_facts.specs.Uses.{expression_uses, primary_uses, reference_uses, comparison_uses, condition_uses, prim_uses, sum_uses}
use Rattle.cw_facts.proofs.Layers.{of_choice, of_sum, of_text, of_location, of_forced, of_bracket, of_ref, of_call, of_name, of_one, of_two, of_bare, of_comparison, of_prim}

pub none_more : (whole out : List Fact) → whole ≡ [] → out ≡ out ++ whole
none_more whole out e = sym (append-nil out) ∙ ap (λ l. out ++ l) (sym e)

pub two_more : (xs ys o0 o1 o2 : List Fact) → o1 ≡ o0 ++ xs → o2 ≡ o1 ++ ys → o2 ≡ o0 ++ (xs ++ ys)
two_more xs ys o0 o1 o2 e1 e2 = e2 ∙ ap (λ l. l ++ ys) e1 ∙ append_assoc o0 xs ys

pub three_more : (xs ys zs o0 o1 o2 o3 : List Fact) → o1 ≡ o0 ++ xs → o2 ≡ o1 ++ ys → o3 ≡ o2 ++ zs → o3 ≡ o0 ++ (xs ++ (ys ++ zs))
three_more xs ys zs o0 o1 o2 o3 e1 e2 e3 = two_more xs (ys ++ zs) o0 o1 o3 e1 (two_more ys zs o1 o2 o3 e2 e3)

-- what is added is the whole
pub as_whole : (whole part o0 o1 : List Fact) → whole ≡ part → o1 ≡ o0 ++ part → o1 ≡ o0 ++ whole
as_whole whole part o0 o1 is e = e ∙ ap (λ l. o0 ++ l) (sym is)

-- ---- loops over parts

next_part : {X : Type 0} (part : X → Uses) (r : Reading) (xs : List X) (i : ℕ) (x : X) → i < length xs → x ≡ get_or xs i x
    → each_for r (map part (drop i xs)) ≡ part x r ++ each_for r (map part (drop (suc i) xs))
next_part part r [] i x h e = absurd (omega arith)
next_part part r (y ∷ ys) zero x h e = ap (λ z. part z r ++ each_for r (map part ys)) (sym e)
next_part part r (y ∷ ys) (suc i) x h e = next_part part r ys i x (omega arith) e

pub one_more : {X : Type 0} (part : X → Uses) (r : Reading) (xs : List X) (i : ℕ) (x : X) (o0 o1 o2 : List Fact) → i < length xs → x ≡ get_or xs i x → o2 ≡ o1 ++ part x r
    → o1 ++ each_for r (map part (drop i xs)) ≡ o0 ++ each_for r (map part xs) → o2 ++ each_for r (map part (drop (i + 1) xs)) ≡ o0 ++ each_for r (map part xs)
one_more part r xs i x o0 o1 o2 h is e before =
    let rest = each_for r (map part (drop (suc i) xs)) in
    rw add-one (ap (λ l. l ++ rest) e ∙ append_assoc o1 (part x r) rest ∙ ap (λ l. o1 ++ l) (sym (next_part part r xs i x h is)) ∙ before)

-- the parts are all gone over, which are the whole
pub all_parts : {X : Type 0} (whole : List Fact) (part : X → Uses) (r : Reading) (xs ys : List X) (i : ℕ) (o0 o1 : List Fact) → whole ≡ each_for r (map part ys)
    → length xs ≤ i → xs ≡ ys
    → o1 ++ each_for r (map part (drop i xs)) ≡ o0 ++ each_for r (map part xs) → o1 ≡ o0 ++ whole
all_parts whole part r xs ys i o0 o1 is h same e =
    sym (append-nil o1) ∙ ap (λ l. o1 ++ each_for r (map part l)) (sym (drop_all i xs h)) ∙ e ∙ ap (λ l. o0 ++ each_for r (map part l)) same ∙ ap (λ l. o0 ++ l) (sym is)

-- operands, which are wanted for what the whole is where one stands alone
pub all_operands : {X : Type 0} (whole : List Fact) (part : X → Uses) (r wanted : Reading) (xs ys : List X) (i : ℕ) (o0 o1 : List Fact) → whole ≡ operands_for r (map part ys)
    → wanted ≡ reading_of r (length xs == 1) → length xs ≤ i → xs ≡ ys
    → o1 ++ each_for wanted (map part (drop i xs)) ≡ o0 ++ each_for wanted (map part xs) → o1 ≡ o0 ++ whole
all_operands whole part r wanted xs ys i o0 o1 is reading h same e =
    let count : length xs ≡ length (map part ys) = ap length same ∙ sym (length-map ys part) in
    all_parts whole part wanted xs ys i o0 o1 (is ∙ ap (λ (s : Reading). each_for s (map part ys)) (sym (reading ∙ ap (λ (n : ℕ). reading_of r (n == 1)) count))) h same e

-- ---- the arms

pub choice_more : (e : RawExpr) (r : Reading) (at : Position) (test test' : RawCond) (a a' b b' : RawExpr) (o0 o1 o2 o3 : List Fact)
    → e ≡ expr.Choice at test a b → test' ≡ test → a' ≡ a → b' ≡ b
    → o1 ≡ o0 ++ condition_uses test' reading.Value → o2 ≡ o1 ++ expression_uses a' reading.Value → o3 ≡ o2 ++ expression_uses b' reading.Value → o3 ≡ o0 ++ expression_uses e r
choice_more e r at test test' a a' b b' o0 o1 o2 o3 is ht ha hb e1 e2 e3 =
    let of_test = ap (λ (x : RawCond). condition_uses x reading.Value) ht in
    let of_first = ap (λ (x : RawExpr). expression_uses x reading.Value) ha in
    let of_second = ap (λ (x : RawExpr). expression_uses x reading.Value) hb in
    three_more (condition_uses test reading.Value) (expression_uses a reading.Value) (expression_uses b reading.Value) o0 o1 o2 o3
    (e1 ∙ ap (λ l. o0 ++ l) of_test) (e2 ∙ ap (λ l. o1 ++ l) of_first) (e3 ∙ ap (λ l. o2 ++ l) of_second)
    ∙ ap (λ l. o0 ++ l) (sym (ap (λ (x : RawExpr). expression_uses x r) is ∙ of_choice at test a b r))

pub sum_more : (e : RawExpr) (r : Reading) (s s' : RawSum) (o0 o1 : List Fact) → e ≡ expr.Sum s → s' ≡ s → o1 ≡ o0 ++ sum_uses s' r → o1 ≡ o0 ++ expression_uses e r
sum_more e r s s' o0 o1 is same =
    as_whole (expression_uses e r) (sum_uses s' r) o0 o1 (ap (λ (x : RawExpr). expression_uses x r) is ∙ of_sum s r ∙ ap (λ (x : RawSum). sum_uses x r) (sym same))

pub comparison_more : (e : RawCmp) (r : Reading) (a b : RawSum) (o0 o1 o2 : List Fact) → a ≡ (out-RawCmp e).left → b ≡ (out-RawCmp e).right
    → o1 ≡ o0 ++ sum_uses a reading.Value → o2 ≡ o1 ++ sum_uses b reading.Value → o2 ≡ o0 ++ comparison_uses e r
comparison_more e r a b o0 o1 o2 ha hb e1 e2 =
    two_more (sum_uses a reading.Value) (sum_uses b reading.Value) o0 o1 o2 e1 e2
    ∙ ap₂ (λ (x y : RawSum). o0 ++ (sum_uses x reading.Value ++ sum_uses y reading.Value)) ha hb
    ∙ ap (λ l. o0 ++ l) (sym (of_comparison e r))

pub prim_more : (e : RawPrim) (r wanted : Reading) (p : RawPrimary) (o0 o1 : List Fact) → p ≡ (out-RawPrim e).primary → wanted ≡ reading_of r (length (out-RawPrim e).bits == 0)
    → o1 ≡ o0 ++ primary_uses p wanted → o1 ≡ o0 ++ prim_uses e r
prim_more e r wanted p o0 o1 same reading =
    as_whole (prim_uses e r) (primary_uses p wanted) o0 o1 (of_prim e r ∙ sym (ap₂ primary_uses same reading))

pub text_more : (e : RawPrimary) (r : Reading) (at : Position) (cs cs' : List ℕ) (o0 o1 : List Fact) → e ≡ primary.Text at cs → cs' ≡ cs
    → o1 ≡ o0 ++ fact.Text at (length cs') ∷ [] → o1 ≡ o0 ++ primary_uses e r
text_more e r at cs cs' o0 o1 is same =
    as_whole (primary_uses e r) (fact.Text at (length cs') ∷ []) o0 o1
    (ap (λ (x : RawPrimary). primary_uses x r) is ∙ of_text at cs r ∙ ap (λ (l : List ℕ). fact.Text at (length l) ∷ []) (sym same))

pub location_more : (e : RawPrimary) (r : Reading) (at : Position) (x x' : RawRef) (o0 o1 : List Fact) → e ≡ primary.Location at x → x' ≡ x
    → o1 ≡ o0 ++ reference_uses x' reading.Whole → o1 ≡ o0 ++ primary_uses e r
location_more e r at x x' o0 o1 is same =
    as_whole (primary_uses e r) (reference_uses x' reading.Whole) o0 o1
    (ap (λ (p : RawPrimary). primary_uses p r) is ∙ of_location at x r ∙ ap (λ (y : RawRef). reference_uses y reading.Whole) (sym same))

pub forced_more : (e : RawPrimary) (r : Reading) (t : RawType) (x x' : RawExpr) (o0 o1 : List Fact) → e ≡ primary.Forced t x → x' ≡ x
    → o1 ≡ o0 ++ expression_uses x' reading.Value → o1 ≡ o0 ++ primary_uses e r
forced_more e r t x x' o0 o1 is same =
    as_whole (primary_uses e r) (expression_uses x' reading.Value) o0 o1
    (ap (λ (p : RawPrimary). primary_uses p r) is ∙ of_forced t x r ∙ ap (λ (y : RawExpr). expression_uses y reading.Value) (sym same))

pub bracket_more : (e : RawPrimary) (r : Reading) (at : Position) (x x' : RawExpr) (o0 o1 : List Fact) → e ≡ primary.Bracket at x → x' ≡ x
    → o1 ≡ o0 ++ expression_uses x' reading.Value → o1 ≡ o0 ++ primary_uses e r
bracket_more e r at x x' o0 o1 is same =
    as_whole (primary_uses e r) (expression_uses x' reading.Value) o0 o1
    (ap (λ (p : RawPrimary). primary_uses p r) is ∙ of_bracket at x r ∙ ap (λ (y : RawExpr). expression_uses y reading.Value) (sym same))

pub reference_more : (e : RawPrimary) (r : Reading) (x x' : RawRef) (o0 o1 : List Fact) → e ≡ primary.Ref x → x' ≡ x → o1 ≡ o0 ++ reference_uses x' r
    → o1 ≡ o0 ++ primary_uses e r
reference_more e r x x' o0 o1 is same =
    as_whole (primary_uses e r) (reference_uses x' r) o0 o1
    (ap (λ (p : RawPrimary). primary_uses p r) is ∙ of_ref x r ∙ ap (λ (y : RawRef). reference_uses y r) (sym same))

pub call_more : (e : RawPrimary) (r : Reading) (n : RawName) (es es' : List RawExpr) (o0 o1 o2 : List Fact) → e ≡ primary.Call n es → es' ≡ es
    → o1 ≡ o0 ++ uses_of n form.CallValue → o2 ≡ o1 ++ argument_uses es' → o2 ≡ o0 ++ primary_uses e r
call_more e r n es es' o0 o1 o2 is same e1 e2 =
    two_more (uses_of n form.CallValue) (argument_uses es') o0 o1 o2 e1 e2
    ∙ ap (λ l. o0 ++ l) (sym (ap (λ (p : RawPrimary). primary_uses p r) is ∙ of_call n es r
    ∙ ap (λ (l : List RawExpr). uses_of n form.CallValue ++ argument_uses l) (sym same)))

pub name_more : (e : RawRef) (r : Reading) (n : RawName) (o0 o1 : List Fact) → e ≡ ref.Name n → o1 ≡ o0 ++ uses_of n (form.Reference r 0) → o1 ≡ o0 ++ reference_uses e r
name_more e r n o0 o1 is =
    as_whole (reference_uses e r) (uses_of n (form.Reference r 0)) o0 o1 (ap (λ (x : RawRef). reference_uses x r) is ∙ of_name n r)

pub index_more : (e : RawRef) (r within : Reading) (n : RawName) (a a' : RawExpr) (o0 o1 o2 : List Fact) → e ≡ ref.One n a → a' ≡ a → within ≡ indexed r
    → o1 ≡ o0 ++ uses_of n (form.Reference within 1) → o2 ≡ o1 ++ expression_uses a' reading.Value → o2 ≡ o0 ++ reference_uses e r
index_more e r within n a a' o0 o1 o2 is same within_is e1 e2 =
    two_more (uses_of n (form.Reference within 1)) (expression_uses a' reading.Value) o0 o1 o2 e1 e2
    ∙ ap₂ (λ (s : Reading) (x : RawExpr). o0 ++ (uses_of n (form.Reference s 1) ++ expression_uses x reading.Value)) within_is same
    ∙ ap (λ l. o0 ++ l) (sym (ap (λ (x : RawRef). reference_uses x r) is ∙ of_one n a r))

pub indexes_more : (e : RawRef) (r within : Reading) (n : RawName) (a a' b b' : RawExpr) (o0 o1 o2 o3 : List Fact) → e ≡ ref.Two n a b → a' ≡ a → b' ≡ b → within ≡ indexed r
    → o1 ≡ o0 ++ uses_of n (form.Reference within 2) → o2 ≡ o1 ++ expression_uses a' reading.Value → o3 ≡ o2 ++ expression_uses b' reading.Value → o3 ≡ o0 ++ reference_uses e r
indexes_more e r within n a a' b b' o0 o1 o2 o3 is ha hb within_is e1 e2 e3 =
    three_more (uses_of n (form.Reference within 2)) (expression_uses a' reading.Value) (expression_uses b' reading.Value) o0 o1 o2 o3 e1 e2 e3
    ∙ ap (λ (s : Reading). o0 ++ (uses_of n (form.Reference s 2) ++ (expression_uses a' reading.Value ++ expression_uses b' reading.Value))) within_is
    ∙ ap₂ (λ (x y : RawExpr). o0 ++ (uses_of n (form.Reference (indexed r) 2) ++ (expression_uses x reading.Value ++ expression_uses y reading.Value))) ha hb
    ∙ ap (λ l. o0 ++ l) (sym (ap (λ (x : RawRef). reference_uses x r) is ∙ of_two n a b r))

pub address_more : (e : RawRef) (r : Reading) (at : Position) (a a' : RawExpr) (o0 o1 : List Fact) → e ≡ ref.Bare at a → a' ≡ a
    → o1 ≡ o0 ++ expression_uses a' reading.Value → o1 ≡ o0 ++ reference_uses e r
address_more e r at a a' o0 o1 is same =
    as_whole (reference_uses e r) (expression_uses a' reading.Value) o0 o1
    (ap (λ (x : RawRef). reference_uses x r) is ∙ of_bare at a r ∙ ap (λ (y : RawExpr). expression_uses y reading.Value) (sym same))
