-- What the parameters of a procedure stand for, by their places among all mentions of the outermost block.
use Rattle.std.proofs.Common.{◌≡◌, ◌⊎◌, inl, inr, ℕ, suc, ◌+◌, ◌≤◌, List, [], ◌∷◌, ◌++◌, map, length, Bool, true, false, cond, IsTrue, Option, Some, None, slice_get, refl, sym, ap, subst, ◌∙◌, arith, length-append}
use Rattle.cw_table.specs.declared.table.Row.{Row}
use Rattle.cw_tree.specs.declared.leaf.RawName.{RawName}
use Rattle.cw_tree.specs.declared.leaf.RawType.{RawType}
use Rattle.cw_tree.specs.declared.statement.RawParam.{RawParam}
use Rattle.cw_tree.specs.declared.statement.RawParam.TheVariants as raw
use Rattle.cw_facts.specs.declared.fact.Kind.{Kind as NameKind}
use Rattle.cw_facts.specs.declared.fact.Kind.TheVariants as kind
use Rattle.cw_facts.specs.declared.fact.Signature.{Signature}
use Rattle.cw_facts.specs.Facts.{specifies, elements_facts, parameter_facts, parameters_facts, answer_facts, answer_name, type_position}
use Rattle.cw_facts.specs.Signatures.{plain, flattened}
use Rattle.cw_scope.specs.Resolved.{text_signatures}
use Rattle.cw_number.specs.declared.numbers.Counts.{Counts}
use Rattle.cw_number.specs.declared.numbered.Numbered.TheVariants as numbered
use Rattle.cw_number.specs.Numbers.{next_to, own_number, counted}
use Rattle.cw_make_items.specs.Lookup.{Numbers}
use Rattle.cw_make.specs.Procedures.{params_of}
use Rattle.cw_safety.specs.Kinds.{Kind, WordKind, LabelKind, SwitchKind, ProcedureKind, kind_of_param, control_kinds}
use Rattle.cw_sound.specs.Uses.Stands.{kind_specified}
use Rattle.cw_sound.specs.Uses.Mentions.{In, Mention, Here, declares as declared, uses, stores, facts_mentions}
use Rattle.cw_sound.specs.Names.Standing.{is_control, counted_by, counted_from}
use Rattle.cw_sound.proofs.Names.Lists.{Sub, in_either, in_left}
use Rattle.cw_sound.proofs.Names.Picking.{pick_append, picked_at, counted_below, Counts_it, Zip, zip_at}
use Rattle.cw_sound.proofs.Names.Sorts.{of_kind}
use Rattle.cw_sound.proofs.Names.MentionsOf.{Says, says_nothing, says_both, says_declared, says_each, says_elements, declared_first, specified_first}
use Rattle.cw_sound.proofs.Names.Params.{kinds_as_specified, controls, ControlOf, all_controls}

-- ---- what parameters and answers are

abbrev pub is_taken : NameKind → Bool
is_taken (kind.Value t) = true
is_taken (kind.Location t) = true
is_taken (kind.ArrayParam t) = true
is_taken (kind.TableParam s) = true
is_taken (kind.Element t e) = true
is_taken kind.LabelParam = true
is_taken kind.SwitchParam = true
is_taken (kind.ProcParam t) = true
is_taken _ = false

abbrev pub is_parameter : NameKind → Bool
is_parameter (kind.Answer t) = true
is_parameter k = is_taken k

abbrev pub IsParameter : Mention → Type 0
IsParameter m = IsTrue (of_kind is_parameter m)

module _ (numbers : Numbers) where
  -- what is so of all that parameters declare
  module _ (P : Mention → Type 0) (so : (n : RawName) (k : NameKind) → IsTrue (is_taken k) → P (declared (record { name = n; kind = k }))) where
    one_says : (p : RawParam) → Says numbers P (parameter_facts p)
    one_says (raw.Value at t ns) = says_each numbers P (kind.Value t) ns (λ n. so n (kind.Value t) refl)
    one_says (raw.Location at t ns) = says_each numbers P (kind.Location t) ns (λ n. so n (kind.Location t) refl)
    one_says (raw.Array t ns) = says_each numbers P (kind.ArrayParam t) ns (λ n. so n (kind.ArrayParam t) refl)
    one_says (raw.Table t) =
        says_declared numbers P t.name (kind.TableParam t.size) (elements_facts t.name t.elems) (so t.name (kind.TableParam t.size) refl) (says_elements numbers P t.name t.elems (λ n e. so n (kind.Element t.name e) refl))
    one_says (raw.Label at ns) = says_each numbers P kind.LabelParam ns (λ n. so n kind.LabelParam refl)
    one_says (raw.Switch at ns) = says_each numbers P kind.SwitchParam ns (λ n. so n kind.SwitchParam refl)
    one_says (raw.Proc answer at n params) =
        says_declared numbers P n (kind.ProcParam answer) (specifies n.at.token answer (plain params) ∷ []) (so n (kind.ProcParam answer) refl)
        (λ q m i. absurd (subst (In m) (specified_first numbers n.at.token answer (plain params) [] q) i))

    pub all_say : (params : List RawParam) → Says numbers P (parameters_facts params)
    all_say [] = says_nothing numbers P
    all_say (p ∷ more) = says_both numbers P (parameter_facts p) (parameters_facts more) (one_says p) (all_say more)

  is_kind : (k : NameKind) → IsTrue (is_taken k) → IsTrue (is_parameter k)
  is_kind (kind.Answer t) h = refl
  is_kind _ h = h

  pub parameters_say : (params : List RawParam) → Says numbers IsParameter (parameters_facts params)
  parameters_say = all_say IsParameter (λ n k. is_kind k)

  pub answer_says : (answer : Option RawType) → Says numbers IsParameter (answer_facts answer)
  answer_says None = says_nothing numbers IsParameter
  answer_says (Some t) = says_declared numbers IsParameter (answer_name (type_position t)) (kind.Answer t) [] refl (says_nothing numbers IsParameter)

  answer_controls : (answer : Option RawType) (q : Option ℕ) → controls numbers (facts_mentions numbers (answer_facts answer) q) ≡ []
  answer_controls None q = refl
  answer_controls (Some t) q = ap (controls numbers) (declared_first numbers (answer_name (type_position t)) (kind.Answer t) [] q)

-- ---- counting the control parameters

pub counted_append : (c : Counts) (xs ys : List Here) → counted_from c (xs ++ ys) ≡ counted_from (counted_from c xs) ys
counted_append c [] ys = refl
counted_append c (x ∷ xs) ys = counted_append (counted_by c x.mention) xs ys

control_law : (k : NameKind) (c : Counts) → IsTrue (is_parameter k) → (counted c k).controls ≡ cond (is_control k) (next_to 255 c.controls) c.controls
control_law (kind.Proc t) c h = absurd (cc)
control_law _ c h = refl

controls_counted : (m : Mention) → IsParameter m → Counts_it (of_kind is_control) (λ c. c.controls) 255 m
controls_counted (declared d) h c = control_law d.kind c h
controls_counted (uses x) h c = refl
controls_counted (stores token n) h c = refl

pub control_number : (k : NameKind) (c : Counts) → is_control k ≡ true → own_number c k ≡ Some (numbered.Control c.controls)
control_number kind.LabelParam c h = refl
control_number kind.SwitchParam c h = refl
control_number (kind.ProcParam t) c h = refl
control_number _ c h = absurd (cc)

map_length : {A B : Type 0} (f : A → B) (xs : List A) → length (map f xs) ≡ length xs
map_length f [] = refl
map_length f (x ∷ xs) = ap (λ n. suc n) (map_length f xs)

few_controls : (ks : List Kind) → length (control_kinds ks) ≤ length ks
few_controls [] = omega arith
few_controls (WordKind ∷ ks) = let h = few_controls ks in omega (arith, h)
few_controls (LabelKind ∷ ks) = let h = few_controls ks in omega (arith, h)
few_controls (SwitchKind ∷ ks) = let h = few_controls ks in omega (arith, h)
few_controls (ProcedureKind ts ∷ ks) = let h = few_controls ks in omega (arith, h)

zip_length : {X : Type 0} (R : Here → X → Type 0) (ms : List Here) (xs : List X) → Zip R ms xs → length ms ≡ length xs
zip_length R [] [] h = refl
zip_length R [] (x ∷ xs) h = absurd h
zip_length R (m ∷ ms) [] h = absurd h
zip_length R (m ∷ ms) (x ∷ xs) h = ap (λ n. suc n) (zip_length R ms xs h.1)

module _ (numbers : Numbers) (sigs : List (Row Signature)) (answer : Option RawType) (params : List RawParam) (q : Option ℕ) (sub : Sub (text_signatures (parameters_facts params)) sigs) where
  abbrev answers : List Here
  answers = facts_mentions numbers (answer_facts answer) q

  abbrev mentioned : List Here
  mentioned = facts_mentions numbers (parameters_facts params) q

  abbrev kinds : List Kind
  kinds = control_kinds (map kind_of_param (params_of numbers params))

  zipped : Zip (ControlOf numbers sigs) (controls numbers mentioned) kinds
  zipped = all_controls numbers sigs params q sub

  all_few : length (flattened params) ≤ 32 → length (controls numbers mentioned) ≤ 32
  all_few few =
      let same = zip_length (ControlOf numbers sigs) (controls numbers mentioned) kinds zipped in
      let less = few_controls (map kind_of_param (params_of numbers params)) in
      let same_kinds = ap length (kinds_as_specified numbers params) ∙ map_length kind_specified (flattened params) in
      omega (arith, same, less, same_kinds, few)

  -- the control parameter of a declaration, by what stands before it
  module _ (before after : List Here) (m : Here) (split : mentioned ≡ before ++ m ∷ after) (test : of_kind is_control m.mention ≡ true) where
    picked : controls numbers mentioned ≡ controls numbers before ++ m ∷ controls numbers after
    picked = ap (controls numbers) split ∙ picked_at (of_kind is_control) before after m test

    pub kind_there : (k : Kind) × (slice_get kinds (length (controls numbers before)) ≡ Some k) × ControlOf numbers sigs m k
    kind_there = zip_at (ControlOf numbers sigs) (controls numbers before) (controls numbers after) m kinds (subst (λ ms. Zip (ControlOf numbers sigs) ms kinds) picked zipped)

    few_before : length (flattened params) ≤ 32 → length (controls numbers before) ≤ 32
    few_before few =
        let same = ap length picked ∙ length-append (controls numbers before) (m ∷ controls numbers after) in
        let all = all_few few in
        omega (arith, same, all)

    are_parameters : (n : Here) → In n (answers ++ before) → IsParameter n.mention
    are_parameters n i = by_side (in_either n answers before i)
      where
        by_side : In n (facts_mentions numbers (answer_facts answer) q) ⊎ In n before → IsParameter n.mention
        by_side (inl j) = (answer_says numbers answer q n j).1
        by_side (inr j) = (parameters_say numbers params q n (subst (In n) (sym split) (in_left n before (m ∷ after) j))).1

    pub controls_before : length (flattened params) ≤ 32 → (c : Counts) → c.controls ≡ 0 → (counted_from c (answers ++ before)).controls ≡ length (controls numbers before)
    controls_before few c zero =
        let picks = pick_append (of_kind is_control) answers before ∙ ap (λ ms. ms ++ controls numbers before) (answer_controls numbers answer q) in
        let size = ap length picks in
        let less = few_before few in
        let counted = counted_below (of_kind is_control) (λ c. c.controls) 255 c (answers ++ before) (λ n i. controls_counted n.mention (are_parameters n i)) (omega (arith, size, less, zero)) in
        omega (arith, counted, size, zero)
