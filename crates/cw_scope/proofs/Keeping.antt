-- The facts of a block are judged one after another.
use Rattle.std.proofs.Common.{◌≡◌, ℕ, zero, suc, ◌+◌, ◌≤◌, ◌<◌, List, [], ◌∷◌, ◌++◌, length, map, take, drop, get_or, Option, sym, ap, ap₂, ◌∙◌, arith, add-one, append_assoc}
use Rattle.std.proofs.lemmas.List.{append-nil, drop_all, drop_more}
use Rattle.std.proofs.Math.Seq.{take-append_seam}
use Rattle.cw_facts.specs.declared.fact.Declaration.{Declaration}
use Rattle.cw_facts.specs.declared.fact.Fact.{Fact}
use Rattle.cw_facts.specs.declared.fact.Fact.TheFolds.{fold-roll-Fact}
use Rattle.cw_facts.specs.declared.fact.Fact.TheOpen as layer
use Rattle.cw_facts.specs.declared.fact.Fact.TheVariants as fact
use Rattle.cw_facts.specs.declared.fact.Use.{Use}
use Rattle.cw_scope.specs.declared.fault.Fault.{Fault}
use Rattle.cw_table.specs.declared.table.Row.{Row}
use Rattle.cw_scope.specs.Resolved.{all_rows}
use Rattle.cw_scope.specs.Scope.{Environment, declaration_of}
use Rattle.cw_scope.specs.NameRules.{Said, said, said_step, within, declaration_faults, use_faults, resolutions, all_declared, all_faults, all_resolved}

said_next : (facts : List Fact) (i : ℕ) (x : Fact) → i < length facts → x ≡ get_or facts i x → map said (drop i facts) ≡ said x ∷ map said (drop (suc i) facts)
said_next [] i x h e = absurd (omega arith)
said_next (f ∷ fs) zero x h e = ap (λ y. said y ∷ map said fs) (sym e)
said_next (f ∷ fs) (suc i) x h e = said_next fs i x (omega arith) e

pub next_said : (facts : List Fact) (i : ℕ) (x : Fact) → i < length facts → x ≡ get_or facts i x → map said (drop i facts) ≡ said x ∷ map said (drop (i + 1) facts)
next_said facts i x h e = rw add-one (said_next facts i x h e)

module _ (env now : Environment) (xs rest : List Said) (x : Said) (same : now ≡ env) (next : xs ≡ x ∷ rest) where
  pub first_goes_on : (before after total : Option Fault) → after ≡ x.faults now before → all_faults env xs before ≡ total → all_faults env rest after ≡ total
  first_goes_on before after total e h =
      ap (λ f. all_faults env rest f) (e ∙ ap (λ b. x.faults b before) same) ∙ sym (ap (λ ys. all_faults env ys before) next) ∙ h

  pub resolved_goes_on : (before after total : List (Row ℕ)) → after ≡ before ++ x.resolved now → before ++ all_resolved env xs ≡ total → after ++ all_resolved env rest ≡ total
  resolved_goes_on before after total e h =
      ap (λ rs. rs ++ all_resolved env rest) (e ∙ ap (λ b. before ++ x.resolved b) same)
      ∙ append_assoc before (x.resolved env) (all_resolved env rest)
      ∙ sym (ap (λ ys. before ++ all_resolved env ys) next)
      ∙ h

-- ---- what a block declares

pub declared_next : (facts : List Fact) (i : ℕ) (x : Fact) (before after all : List Declaration) → i < length facts → x ≡ get_or facts i x → after ≡ before ++ (said x).declared
    → before ++ all_declared (map said (drop i facts)) ≡ all → after ++ all_declared (map said (drop (i + 1) facts)) ≡ all
declared_next facts i x before after all h g e k =
    let rest = all_declared (map said (drop (i + 1) facts)) in
    ap (λ ds. ds ++ rest) e ∙ append_assoc before (said x).declared rest ∙ sym (ap (λ ys. before ++ all_declared ys) (next_said facts i x h g)) ∙ k

pub all_are_declared : (facts : List Fact) (i : ℕ) (before all : List Declaration) → length facts ≤ i → before ++ all_declared (map said (drop i facts)) ≡ all → before ≡ all
all_are_declared facts i before all h k = sym (append-nil before) ∙ sym (ap (λ (fs : List Fact). before ++ all_declared (map said fs)) (drop_all i facts h)) ∙ k

-- ---- what a fact says, form by form

said-declares : (d : Declaration) → said (fact.Declares d) ≡ said_step (layer.Declares d)
said-declares d = ap said (sym (fact.rolls-Declares d)) ∙ fold-roll-Fact Said said_step (layer.Declares d)

said-uses : (u : Use) → said (fact.Uses u) ≡ said_step (layer.Uses u)
said-uses u = ap said (sym (fact.rolls-Uses u)) ∙ fold-roll-Fact Said said_step (layer.Uses u)

said-block : (owner : Option ℕ) (facts : List Fact) → said (fact.Block owner facts) ≡ said_step (layer.Block owner (map said facts))
said-block owner facts = ap said (sym (fact.rolls-Block owner facts)) ∙ fold-roll-Fact Said said_step (layer.Block owner facts)

module _ (f : Fact) (env now : Environment) (same : now ≡ env) where
  module _ (d d' : Declaration) (is : f ≡ fact.Declares d) (one : d' ≡ d) where
    pub declares_first : (before after : Option Fault) → after ≡ declaration_faults now d' before → after ≡ (said f).faults env before
    declares_first before after h =
        h ∙ ap₂ (λ (b : Environment) (k : Declaration). declaration_faults b k before) same one ∙ ap (λ (x : Said). x.faults env before) (sym (ap said is ∙ said-declares d))

    pub declares_resolved : (before after : List (Row ℕ)) → after ≡ before → after ≡ before ++ (said f).resolved env
    declares_resolved before after h = h ∙ sym (append-nil before) ∙ ap (λ (x : Said). before ++ x.resolved env) (sym (ap said is ∙ said-declares d))

  module _ (u : Use) (found : Option Declaration) (is : f ≡ fact.Uses u) (looked : found ≡ declaration_of now u.name.name) where
    pub uses_first : (before : Option Fault) → use_faults found u before ≡ (said f).faults env before
    uses_first before =
        ap (λ o. use_faults o u before) (looked ∙ ap (λ (b : Environment). declaration_of b u.name.name) same)
        ∙ ap (λ (x : Said). x.faults env before) (sym (ap said is ∙ said-uses u))

    pub uses_resolved : (before : List (Row ℕ)) → before ++ resolutions found u ≡ before ++ (said f).resolved env
    uses_resolved before =
        ap (λ o. before ++ resolutions o u) (looked ∙ ap (λ (b : Environment). declaration_of b u.name.name) same)
        ∙ ap (λ (x : Said). before ++ x.resolved env) (sym (ap said is ∙ said-uses u))

module _ (f : Fact) (env : Environment) (owner : Option ℕ) (facts inner : List Fact) (is : f ≡ fact.Block owner facts) (same : inner ≡ facts) where
  pub block_first : (before : Option Fault) → all_faults (within env (map said inner)) (map said inner) before ≡ (said f).faults env before
  block_first before =
      ap (λ (fs : List Fact). all_faults (within env (map said fs)) (map said fs) before) same ∙ ap (λ (x : Said). x.faults env before) (sym (ap said is ∙ said-block owner facts))

  pub block_resolved : (before : List (Row ℕ)) → before ++ all_resolved (within env (map said inner)) (map said inner) ≡ before ++ (said f).resolved env
  block_resolved before =
      ap (λ (fs : List Fact). before ++ all_resolved (within env (map said fs)) (map said fs)) same ∙ ap (λ (x : Said). before ++ x.resolved env) (sym (ap said is ∙ said-block owner facts))

-- a block is left as it was entered
pub left : (env inside after : Environment) (xs : List Said) (outer : ℕ) → outer ≡ length env → inside ≡ within env xs → after ≡ inside → take outer after ≡ env
left env inside after xs outer n e k =
    ap (take outer) (k ∙ e) ∙ ap (λ m. take m (within env xs)) n ∙ take-append_seam env (all_declared xs ∷ [])

-- ---- rows of facts

module _ {T : Type 0} (rows : Fact → List (Row T)) where
  pub rows_next : (facts : List Fact) (i : ℕ) (x : Fact) (before after total : List (Row T)) → i < length facts → x ≡ get_or facts i x → after ≡ before ++ rows x
      → before ++ all_rows (map rows (drop i facts)) ≡ total → after ++ all_rows (map rows (drop (i + 1) facts)) ≡ total
  rows_next facts i x before after total h g e k =
      let rest = all_rows (map rows (drop (i + 1) facts)) in
      let next : drop i facts ≡ x ∷ drop (i + 1) facts = drop_more facts i x h ∙ ap (λ y. y ∷ drop (i + 1) facts) (sym g) in
      ap (λ rs. rs ++ rest) e ∙ append_assoc before (rows x) rest ∙ sym (ap (λ (fs : List Fact). before ++ all_rows (map rows fs)) next) ∙ k
