-- The strings of a part of an expression, by what the part consists of: they are the same whatever the part is wanted for.
use Rattle.std.proofs.Common.{◌≡◌, ◌==◌, ◌&&◌, is_none, ◌<◌, ◌≤◌, ℕ, zero, suc, ◌+◌, List, [], ◌∷◌, ◌++◌, length, map, drop, get_or, Option, None, refl, sym, ap, ◌∙◌, append_assoc, append-nil, add-one, arith}
use Rattle.std.proofs.lemmas.List.{drop_all}
use Rattle.cw_tree.specs.declared.leaf.Position.{Position}
use Rattle.cw_tree.specs.declared.leaf.RawName.{RawName}
use Rattle.cw_tree.specs.declared.expression.RawExpr.TheVariants as expr
use Rattle.cw_tree.specs.declared.expression.RawPrimary.TheVariants as primary
use Rattle.cw_tree.specs.declared.expression.RawRef.TheVariants as ref
use Rattle.cw_tree.specs.declared.expression.RawExpr.{RawExpr}
use Rattle.cw_tree.specs.declared.expression.RawPrimary.{RawPrimary}
use Rattle.cw_tree.specs.declared.expression.RawRef.{RawRef}
use Rattle.cw_tree.specs.declared.expression.RawCand.{RawCand, out-RawCand}
use Rattle.cw_tree.specs.declared.expression.RawCmp.{RawCmp, out-RawCmp}
use Rattle.cw_tree.specs.declared.expression.RawCond.{RawCond, out-RawCond}
use Rattle.cw_tree.specs.declared.expression.RawDiffer.{RawDiffer, out-RawDiffer}
use Rattle.cw_tree.specs.declared.expression.RawMask.{RawMask, out-RawMask}
use Rattle.cw_tree.specs.declared.expression.RawPrim.{RawPrim, out-RawPrim}
use Rattle.cw_tree.specs.declared.expression.RawSum.{RawSum, out-RawSum}
use Rattle.cw_tree.specs.declared.expression.RawTerm.{RawTerm, out-RawTerm}
use Rattle.cw_tree.specs.declared.expression.RawUnion.{RawUnion, out-RawUnion}
use Rattle.cw_facts.specs.declared.fact.Fact.{Fact, out-Fact, out-roll-Fact}
use Rattle.cw_facts.specs.declared.fact.Fact.TheVariants as fact
use Rattle.cw_facts.specs.declared.fact.Fact.TheOpen as fact_layer
use Rattle.cw_facts.specs.declared.fact.Form.{Form}
use Rattle.cw_facts.specs.declared.fact.Form.TheVariants as form
use Rattle.cw_facts.specs.declared.fact.Reading.{Reading}
use Rattle.cw_facts.specs.declared.fact.Reading.TheVariants as reading
use Rattle.cw_facts.specs.Uses.{Uses, uses_of, reading_of, each_for, indexed, argument_uses, expression_uses, primary_uses, reference_uses, conjunction_uses, comparison_uses, condition_uses, differ_uses, mask_uses, prim_uses, sum_uses, term_uses, union_uses}
use Rattle.cw_facts.proofs.Layers.{of_choice, of_text, of_call, of_name, of_one, of_two, of_comparison, of_condition, of_conjunction, of_operands, of_term, of_differ, of_union, of_mask, of_prim}
use Rattle.cw_items.specs.declared.thing.Owner.{Owner}
use Rattle.cw_items.specs.declared.thing.Sort.TheVariants as sort
use Rattle.cw_items.specs.declared.thing.Thing.{Thing}
use Rattle.cw_items.specs.Things.{thing, capped, fact_texts, texts}

-- ---- the uses of each rule

-- the uses of some parts, each wanted for the same
abbrev pub IsEach : {X : Type 0} → Uses → (X → Uses) → List X → Type 0
IsEach whole part xs = (r : Reading) → (s : Reading) × (whole r ≡ each_for s (map part xs))

pub of_each_condition : (e : RawCond) → IsEach (condition_uses e) conjunction_uses (out-RawCond e).operands
of_each_condition e r = (reading.Value, of_condition e r)

pub of_each_conjunction : (e : RawCand) → IsEach (conjunction_uses e) comparison_uses (out-RawCand e).operands
of_each_conjunction e r = (reading.Value, of_conjunction e r)

pub of_each_sum : (e : RawSum) → IsEach (sum_uses e) term_uses (out-RawSum e).operands
of_each_sum e r = (reading_of r (length (map term_uses (out-RawSum e).operands) == 1 && is_none (out-RawSum e).sign), of_operands e r)

pub of_each_term : (e : RawTerm) → IsEach (term_uses e) differ_uses (out-RawTerm e).operands
of_each_term e r = (reading_of r (length (map differ_uses (out-RawTerm e).operands) == 1), of_term e r)

pub of_each_differ : (e : RawDiffer) → IsEach (differ_uses e) union_uses (out-RawDiffer e).operands
of_each_differ e r = (reading_of r (length (map union_uses (out-RawDiffer e).operands) == 1), of_differ e r)

pub of_each_union : (e : RawUnion) → IsEach (union_uses e) mask_uses (out-RawUnion e).operands
of_each_union e r = (reading_of r (length (map mask_uses (out-RawUnion e).operands) == 1), of_union e r)

pub of_each_mask : (e : RawMask) → IsEach (mask_uses e) prim_uses (out-RawMask e).operands
of_each_mask e r = (reading_of r (length (map prim_uses (out-RawMask e).operands) == 1), of_mask e r)

pub of_primary : (e : RawPrim) (r : Reading) → (s : Reading) × (prim_uses e r ≡ primary_uses (out-RawPrim e).primary s)
of_primary e r = (reading_of r (length (out-RawPrim e).bits == 0), of_prim e r)

-- ---- their strings

next_part : {X : Type 0} (part : X → Uses) (r : Reading) (xs : List X) (i : ℕ) (x : X) → i < length xs → x ≡ get_or xs i x → each_for r (map part (drop i xs)) ≡ part x r ++ each_for r (map part (drop (suc i) xs))
next_part part r [] i x h e = absurd (omega arith)
next_part part r (y ∷ ys) zero x h e = ap (λ z. part z r ++ each_for r (map part ys)) (sym e)
next_part part r (y ∷ ys) (suc i) x h e = next_part part r ys i x (omega arith) e

module _ (o : Option Owner) where
  texts_append : (xs ys : List Fact) → texts o (xs ++ ys) ≡ texts o xs ++ texts o ys
  texts_append [] ys = refl
  texts_append (x ∷ xs) ys = ap (λ l. fact_texts o (out-Fact x) ++ l) (texts_append xs ys) ∙ sym (append_assoc (fact_texts o (out-Fact x)) (texts o xs) (texts o ys))

  name_alone : (n : RawName) (f : Form) → texts o (uses_of n f) ≡ []
  name_alone n f = ap (λ x. fact_texts o x ++ []) (ap out-Fact (sym (fact.rolls-Uses (record { name = n; form = f }))) ∙ out-roll-Fact (fact_layer.Uses (record { name = n; form = f })))

  behind_name : (n : RawName) (f : Form) (xs : List Fact) → texts o (uses_of n f ++ xs) ≡ texts o xs
  behind_name n f xs = texts_append (uses_of n f) xs ∙ ap (λ l. l ++ texts o xs) (name_alone n f)

  string_alone : (at : Position) (n : ℕ) → texts o (fact.Text at n ∷ []) ≡ thing sort.Text at o None (capped (n + 1)) ∷ []
  string_alone at n = ap (λ x. fact_texts o x ++ []) (ap out-Fact (sym (fact.rolls-Text at n)) ∙ out-roll-Fact (fact_layer.Text at n))

  -- nothing is added for what has no strings
  pub none_more : (xs : List Fact) (out : List Thing) → texts o xs ≡ [] → out ≡ out ++ texts o xs
  none_more xs out e = sym (append-nil out) ∙ ap (λ l. out ++ l) (sym e)

  pub two_more : (xs ys : List Fact) (o0 o1 o2 : List Thing) → o1 ≡ o0 ++ texts o xs → o2 ≡ o1 ++ texts o ys → o2 ≡ o0 ++ texts o (xs ++ ys)
  two_more xs ys o0 o1 o2 e1 e2 =
      e2 ∙ ap (λ l. l ++ texts o ys) e1 ∙ append_assoc o0 (texts o xs) (texts o ys) ∙ ap (λ l. o0 ++ l) (sym (texts_append xs ys))

  pub three_more : (xs ys zs : List Fact) (o0 o1 o2 o3 : List Thing) → o1 ≡ o0 ++ texts o xs → o2 ≡ o1 ++ texts o ys → o3 ≡ o2 ++ texts o zs → o3 ≡ o0 ++ texts o (xs ++ (ys ++ zs))
  three_more xs ys zs o0 o1 o2 o3 e1 e2 e3 = two_more xs (ys ++ zs) o0 o1 o3 e1 (two_more ys zs o1 o2 o3 e2 e3)

  pub more_behind_name : (n : RawName) (f : Form) (xs : List Fact) (o0 o1 : List Thing) → o1 ≡ o0 ++ texts o xs → o1 ≡ o0 ++ texts o (uses_of n f ++ xs)
  more_behind_name n f xs o0 o1 e = e ∙ ap (λ l. o0 ++ l) (sym (behind_name n f xs))

  -- the turn of a loop over parts, and its end
  pub one_more : {X : Type 0} (part : X → Uses) (r : Reading) (xs : List X) (i : ℕ) (x : X) (o0 o1 o2 : List Thing) → i < length xs → x ≡ get_or xs i x
      → o2 ≡ o1 ++ texts o (part x r) → o1 ++ texts o (each_for r (map part (drop i xs))) ≡ o0 ++ texts o (each_for r (map part xs))
      → o2 ++ texts o (each_for r (map part (drop (i + 1) xs))) ≡ o0 ++ texts o (each_for r (map part xs))
  one_more part r xs i x o0 o1 o2 h is e before =
      let rest = each_for r (map part (drop (suc i) xs)) in
      rw add-one
      (ap (λ l. l ++ texts o rest) e ∙ append_assoc o1 (texts o (part x r)) (texts o rest) ∙ ap (λ l. o1 ++ l) (sym (texts_append (part x r) rest))
      ∙ ap (λ l. o1 ++ texts o l) (sym (next_part part r xs i x h is)) ∙ before)

  pub all_parts : {X : Type 0} (part : X → Uses) (r : Reading) (xs ys : List X) (i : ℕ) (o0 o1 : List Thing) → length xs ≤ i → xs ≡ ys
      → o1 ++ texts o (each_for r (map part (drop i xs))) ≡ o0 ++ texts o (each_for r (map part xs)) → o1 ≡ o0 ++ texts o (each_for r (map part ys))
  all_parts part r xs ys i o0 o1 h same e =
      sym (append-nil o1) ∙ ap (λ l. o1 ++ texts o (each_for r (map part l))) (sym (drop_all i xs h)) ∙ e ∙ ap (λ l. o0 ++ texts o (each_for r (map part l))) same

  pub whole : {X : Type 0} (uses : Uses) (part : X → Uses) (xs ys : List X) (i : ℕ) (o0 o1 : List Thing) → length xs ≤ i → xs ≡ ys
      → ((r : Reading) → o1 ++ texts o (each_for r (map part (drop i xs))) ≡ o0 ++ texts o (each_for r (map part xs))) → IsEach uses part ys → (r : Reading) → o1 ≡ o0 ++ texts o (uses r)
  whole uses part xs ys i o0 o1 h same e each r =
      all_parts part (each r).0 xs ys i o0 o1 h same (e (each r).0) ∙ ap (λ l. o0 ++ texts o l) (sym (each r).1)

  -- ---- the arms

  pub passed_on : (whole part part' : List Fact) (o0 o1 : List Thing) → o1 ≡ o0 ++ texts o part' → part' ≡ part → whole ≡ part → o1 ≡ o0 ++ texts o whole
  passed_on whole part part' o0 o1 e same is = e ∙ ap (λ l. o0 ++ texts o l) (same ∙ sym is)

  pub string_more : (e : RawPrimary) (r : Reading) (at : Position) (cs cs' : List ℕ) (o0 o1 : List Thing) → e ≡ primary.Text at cs → cs' ≡ cs
      → o1 ≡ o0 ++ thing sort.Text at o None (capped (length cs' + 1)) ∷ [] → o1 ≡ o0 ++ texts o (primary_uses e r)
  string_more e r at cs cs' o0 o1 is same added =
      added ∙ ap (λ (l : List ℕ). o0 ++ thing sort.Text at o None (capped (length l + 1)) ∷ []) same
      ∙ ap (λ l. o0 ++ l) (sym (string_alone at (length cs)))
      ∙ ap (λ l. o0 ++ texts o l) (sym (ap (λ (x : RawPrimary). primary_uses x r) is ∙ of_text at cs r))

  pub choice_more : (e : RawExpr) (r : Reading) (at : Position) (test test' : RawCond) (a a' b b' : RawExpr) (o0 o1 o2 o3 : List Thing)
      → e ≡ expr.Choice at test a b → test' ≡ test → a' ≡ a → b' ≡ b
      → o1 ≡ o0 ++ texts o (condition_uses test' reading.Value) → o2 ≡ o1 ++ texts o (expression_uses a' reading.Value) → o3 ≡ o2 ++ texts o (expression_uses b' reading.Value)
      → o3 ≡ o0 ++ texts o (expression_uses e r)
  choice_more e r at test test' a a' b b' o0 o1 o2 o3 is ht ha hb e1 e2 e3 =
      three_more (condition_uses test' reading.Value) (expression_uses a' reading.Value) (expression_uses b' reading.Value) o0 o1 o2 o3 e1 e2 e3
      ∙ ap (λ (x : RawCond). o0 ++ texts o (condition_uses x reading.Value ++ (expression_uses a' reading.Value ++ expression_uses b' reading.Value))) ht
      ∙ ap (λ (x : RawExpr). o0 ++ texts o (condition_uses test reading.Value ++ (expression_uses x reading.Value ++ expression_uses b' reading.Value))) ha
      ∙ ap (λ (x : RawExpr). o0 ++ texts o (condition_uses test reading.Value ++ (expression_uses a reading.Value ++ expression_uses x reading.Value))) hb
      ∙ ap (λ l. o0 ++ texts o l) (sym (ap (λ (x : RawExpr). expression_uses x r) is ∙ of_choice at test a b r))

  pub comparison_more : (e : RawCmp) (r : Reading) (a b : RawSum) (o0 o1 o2 : List Thing) → a ≡ (out-RawCmp e).left → b ≡ (out-RawCmp e).right
      → o1 ≡ o0 ++ texts o (sum_uses a reading.Value) → o2 ≡ o1 ++ texts o (sum_uses b reading.Value) → o2 ≡ o0 ++ texts o (comparison_uses e r)
  comparison_more e r a b o0 o1 o2 ha hb e1 e2 =
      two_more (sum_uses a reading.Value) (sum_uses b reading.Value) o0 o1 o2 e1 e2
      ∙ ap (λ (x : RawSum). o0 ++ texts o (sum_uses x reading.Value ++ sum_uses b reading.Value)) ha
      ∙ ap (λ (x : RawSum). o0 ++ texts o (sum_uses (out-RawCmp e).left reading.Value ++ sum_uses x reading.Value)) hb
      ∙ ap (λ l. o0 ++ texts o l) (sym (of_comparison e r))

  pub call_more : (e : RawPrimary) (r : Reading) (n : RawName) (es es' : List RawExpr) (o0 o1 : List Thing) → e ≡ primary.Call n es → es' ≡ es
      → o1 ≡ o0 ++ texts o (argument_uses es') → o1 ≡ o0 ++ texts o (primary_uses e r)
  call_more e r n es es' o0 o1 is same added =
      more_behind_name n form.CallValue (argument_uses es') o0 o1 added
      ∙ ap (λ (l : List RawExpr). o0 ++ texts o (uses_of n form.CallValue ++ argument_uses l)) same
      ∙ ap (λ l. o0 ++ texts o l) (sym (ap (λ (x : RawPrimary). primary_uses x r) is ∙ of_call n es r))

  pub name_more : (e : RawRef) (r : Reading) (n : RawName) (out : List Thing) → e ≡ ref.Name n → out ≡ out ++ texts o (reference_uses e r)
  name_more e r n out is = none_more (reference_uses e r) out (ap (texts o) (ap (λ (x : RawRef). reference_uses x r) is ∙ of_name n r) ∙ name_alone n (form.Reference r 0))

  pub index_more : (e : RawRef) (r : Reading) (n : RawName) (a a' : RawExpr) (o0 o1 : List Thing) → e ≡ ref.One n a → a' ≡ a
      → o1 ≡ o0 ++ texts o (expression_uses a' reading.Value) → o1 ≡ o0 ++ texts o (reference_uses e r)
  index_more e r n a a' o0 o1 is same added =
      more_behind_name n (form.Reference (indexed r) 1) (expression_uses a' reading.Value) o0 o1 added
      ∙ ap (λ (x : RawExpr). o0 ++ texts o (uses_of n (form.Reference (indexed r) 1) ++ expression_uses x reading.Value)) same
      ∙ ap (λ l. o0 ++ texts o l) (sym (ap (λ (x : RawRef). reference_uses x r) is ∙ of_one n a r))

  pub indexes_more : (e : RawRef) (r : Reading) (n : RawName) (a a' b b' : RawExpr) (o0 o1 o2 : List Thing) → e ≡ ref.Two n a b → a' ≡ a → b' ≡ b
      → o1 ≡ o0 ++ texts o (expression_uses a' reading.Value) → o2 ≡ o1 ++ texts o (expression_uses b' reading.Value) → o2 ≡ o0 ++ texts o (reference_uses e r)
  indexes_more e r n a a' b b' o0 o1 o2 is ha hb e1 e2 =
      more_behind_name n (form.Reference (indexed r) 2) (expression_uses a' reading.Value ++ expression_uses b' reading.Value) o0 o2
      (two_more (expression_uses a' reading.Value) (expression_uses b' reading.Value) o0 o1 o2 e1 e2)
      ∙ ap (λ (x : RawExpr). o0 ++ texts o (uses_of n (form.Reference (indexed r) 2) ++ (expression_uses x reading.Value ++ expression_uses b' reading.Value))) ha
      ∙ ap (λ (x : RawExpr). o0 ++ texts o (uses_of n (form.Reference (indexed r) 2) ++ (expression_uses a reading.Value ++ expression_uses x reading.Value))) hb
      ∙ ap (λ l. o0 ++ texts o l) (sym (ap (λ (x : RawRef). reference_uses x r) is ∙ of_two n a b r))
