-- Arguments are taken and judged one after another.
use Rattle.std.proofs.Common.{◌≡◌, ℕ, ◌+◌, ◌≤◌, ◌<◌, Bool, true, false, List, [], ◌∷◌, length, map, drop, get_or, Option, Some, refl, sym, ap, ap₂, ◌∙◌, arith}
use Rattle.std.specs.Prelude.{◌&&◌, ◌==◌}
use Rattle.std.proofs.lemmas.Bool.Decides.{nat_tests}
use Rattle.std.proofs.lemmas.List.{drop_all}
use Rattle.cw_tree.specs.declared.leaf.RawName.{RawName}
use Rattle.cw_tree.specs.declared.segment.RawPs.{RawPs}
use Rattle.cw_tree.specs.declared.expression.RawExpr.{RawExpr}
use Rattle.cw_facts.specs.declared.fact.Signature.{Signature}
use Rattle.cw_scope.specs.declared.resolve.Named.{Named}
use Rattle.cw_scale.specs.declared.fault.Fault.{Fault}
use Rattle.cw_scale.specs.declared.fault.Rule.TheVariants as rule
use Rattle.cw_scale.specs.declared.scales.Shape.{Shape}
use Rattle.cw_scale.specs.Arguments.{takes}
use Rattle.cw_scale.specs.Faults.{wrong}
use Rattle.cw_scale.specs.Kinds.{signature_of}
use Rattle.cw_scale.specs.TypeRules.{expression, all_taken, argument_faults, arguments_faults, taken_faults, call_faults}
use Rattle.cw_scale.proofs.Turns.{behind_first, first_and_rest, next_item, no_item}

module _ (named : Named) where
  none_left : (params : List RawPs) (first : Option Fault) → arguments_faults named params [] first ≡ first
  none_left [] first = refl
  none_left (p ∷ more) first = refl

  pub all_judged : (rest : List RawPs) (arguments : List RawExpr) (i : ℕ) (first total : Option Fault) → length arguments ≤ i
      → arguments_faults named rest (map (expression named) (drop i arguments)) first ≡ total → first ≡ total
  all_judged rest arguments i first total h t =
      sym (none_left rest first)
      ∙ sym (ap (λ (ys : List RawExpr). arguments_faults named rest (map (expression named) ys) first) (drop_all i arguments h))
      ∙ t

  -- a parameter takes its argument, so it lies with those behind it
  pub taken_goes_on : (params : List RawPs) (i : ℕ) (p : RawPs) (rest : List RawExpr) (x : RawExpr) (shape : Shape) (taken total : Bool) → i < length params → p ≡ get_or params i p
      → 1 ≤ length rest → x ≡ get_or rest 0 x → shape ≡ (expression named x).shape → taken ≡ takes named p shape → taken ≡ true
      → all_taken named (drop i params) (map (expression named) rest) ≡ total → all_taken named (drop (i + 1) params) (map (expression named) (behind_first rest)) ≡ total
  taken_goes_on params i p rest x shape taken total h g n k s a b t =
      let more = drop (i + 1) params in
      let others = behind_first rest in
      let holds : takes named p (expression named x).shape ≡ true = sym (a ∙ ap (takes named p) s) ∙ b in
      ap (λ (y : Bool). y && all_taken named more (map (expression named) others)) (sym holds)
      ∙ ap₂ (λ (ps : List RawPs) (xs : List RawExpr). all_taken named ps (map (expression named) xs)) (sym (next_item params i p h g)) (sym (first_and_rest rest x n k))
      ∙ t

  -- a parameter is left without an argument, or does not take its own, or none is left
  pub no_argument : (params : List RawPs) (i : ℕ) (p : RawPs) (rest : List RawExpr) (total : Bool) → i < length params → p ≡ get_or params i p → length rest < 1
      → all_taken named (drop i params) (map (expression named) rest) ≡ total → false ≡ total
  no_argument params i p rest total h g n t =
      ap₂ (λ (ps : List RawPs) (xs : List RawExpr). all_taken named ps (map (expression named) xs)) (sym (next_item params i p h g)) (sym (no_item rest n)) ∙ t

  pub not_taken : (params : List RawPs) (i : ℕ) (p : RawPs) (rest : List RawExpr) (x : RawExpr) (shape : Shape) (taken total : Bool) → i < length params → p ≡ get_or params i p
      → 1 ≤ length rest → x ≡ get_or rest 0 x → shape ≡ (expression named x).shape → taken ≡ takes named p shape → taken ≡ false
      → all_taken named (drop i params) (map (expression named) rest) ≡ total → false ≡ total
  not_taken params i p rest x shape taken total h g n k s a b t =
      let others = all_taken named (drop (i + 1) params) (map (expression named) (behind_first rest)) in
      let fails : takes named p (expression named x).shape ≡ false = sym (a ∙ ap (takes named p) s) ∙ b in
      ap (λ (y : Bool). y && others) (sym fails)
      ∙ ap₂ (λ (ps : List RawPs) (xs : List RawExpr). all_taken named ps (map (expression named) xs)) (sym (next_item params i p h g)) (sym (first_and_rest rest x n k))
      ∙ t

  none_more_taken : (rest : List RawExpr) → (length rest == 0) ≡ all_taken named [] (map (expression named) rest)
  none_more_taken [] = refl
  none_more_taken (x ∷ xs) =
      let some : (length (x ∷ xs) == 0) ≡ false = grind (arith, nat_tests) in
      some

  pub no_parameter_left : (params : List RawPs) (i : ℕ) (rest : List RawExpr) (empty total : Bool) → length params ≤ i → empty ≡ (length rest == 0)
      → all_taken named (drop i params) (map (expression named) rest) ≡ total → empty ≡ total
  no_parameter_left params i rest empty total h e t =
      e ∙ none_more_taken rest ∙ sym (ap (λ (ps : List RawPs). all_taken named ps (map (expression named) rest)) (drop_all i params h)) ∙ t

  -- an argument is judged by its parameter
  pub argument_judged : (rest : List RawPs) (p : RawPs) (arguments : List RawExpr) (i : ℕ) (x : RawExpr) (before after total : Option Fault) → 1 ≤ length rest → p ≡ get_or rest 0 p
      → i < length arguments → x ≡ get_or arguments i x → after ≡ argument_faults named p (expression named x) before
      → arguments_faults named rest (map (expression named) (drop i arguments)) before ≡ total
      → arguments_faults named (behind_first rest) (map (expression named) (drop (i + 1) arguments)) after ≡ total
  argument_judged rest p arguments i x before after total n k h g e t =
      ap (arguments_faults named (behind_first rest) (map (expression named) (drop (i + 1) arguments))) e
      ∙ ap₂ (λ (ps : List RawPs) (xs : List RawExpr). arguments_faults named ps (map (expression named) xs) before) (sym (first_and_rest rest p n k)) (sym (next_item arguments i x h g))
      ∙ t

  pub no_parameter : (rest : List RawPs) (arguments : List RawExpr) (i : ℕ) (first total : Option Fault) → length rest < 1
      → arguments_faults named rest (map (expression named) (drop i arguments)) first ≡ total → first ≡ total
  no_parameter rest arguments i first total n t =
      ap (λ (ps : List RawPs). arguments_faults named ps (map (expression named) (drop i arguments)) first) (sym (no_item rest n)) ∙ t

  -- a call of what is specified so
  module _ (n : RawName) (s : Signature) (params : List RawPs) (arguments : List RawExpr) (taken : Bool) (found : Some s ≡ signature_of named n) (own : params ≡ s.params) (all : taken ≡ all_taken named params (map (expression named) arguments)) where
    as_taken : (first : Option Fault) → taken_faults named taken params n (map (expression named) arguments) first ≡ call_faults named (signature_of named n) n (map (expression named) arguments) first
    as_taken first =
        let xs = map (expression named) arguments in
        ap (λ (b : Bool). taken_faults named b params n xs first) all
        ∙ ap (λ (ps : List RawPs). taken_faults named (all_taken named ps xs) ps n xs first) own
        ∙ ap (λ (o : Option Signature). call_faults named o n xs first) found

    pub taken_judged : (before after : Option Fault) → taken ≡ true → after ≡ arguments_faults named params (map (expression named) arguments) before
        → after ≡ call_faults named (signature_of named n) n (map (expression named) arguments) before
    taken_judged before after t h = h ∙ ap (λ (b : Bool). taken_faults named b params n (map (expression named) arguments) before) (sym t) ∙ as_taken before

    pub refused : (before after : Option Fault) → taken ≡ false → after ≡ wrong rule.WrongArgs n.at before
        → after ≡ call_faults named (signature_of named n) n (map (expression named) arguments) before
    refused before after t h = h ∙ ap (λ (b : Bool). taken_faults named b params n (map (expression named) arguments) before) (sym t) ∙ as_taken before
