-- The parts of a block, with what they mention, the switches and procedures that they declare, and the labels that their statements set: what
-- each part of a tree comes to, one rule for each thing that matters to names.
use Rattle.std.specs.Prelude.{◌≡◌, ◌⊎◌, ℕ, nat_eq, List, [], ◌∷◌, ◌++◌, Bool, true, false, IsTrue, ◌||◌, Option, Some, None}
use Rattle.cw_table.specs.Rows.{item_at}
use Rattle.cw_tree.specs.declared.leaf.RawName.{RawName}
use Rattle.cw_tree.specs.declared.leaf.Position.{Position}
use Rattle.cw_tree.specs.declared.items.RawData.{RawData}
use Rattle.cw_tree.specs.declared.statement.RawProc.{RawProc, out-RawProc}
use Rattle.cw_facts.specs.declared.fact.Fact.{Fact}
use Rattle.cw_facts.specs.declared.fact.Fact.TheVariants as fact
use Rattle.cw_facts.specs.declared.fact.Kind.TheVariants as kind
use Rattle.cw_facts.specs.Facts.{declares, specifies, each_uses, data_facts, parameters_facts, answer_facts}
use Rattle.cw_facts.specs.Signatures.{flattened}
use Rattle.cw_scope.specs.declared.resolve.Named.{Named}
use Rattle.cw_scope.specs.Resolved.{text_signatures}
use Rattle.cw_make_expr.specs.Parts.{label_in}
use Rattle.cw_make_items.specs.Lookup.{Numbers, proc_here}
use Rattle.cw_make_stmt.specs.Made.{statement_of}
use Rattle.cw_make.specs.Procedures.{proc_of}
use Rattle.cw_make.specs.Switches.{goals_of}
use Rattle.cw_unit.specs.declared.unit.Proc.{Proc}
use Rattle.cw_unit.specs.declared.unit.Switch.{Switch}
use Rattle.cw_safety.specs.WellFormed.{sets}
use Rattle.cw_sound.specs.Uses.Mentions.{In, Mention, Here, declares as declared, uses, stores, facts_mentions}

abbrev pub Switches : Type 0
Switches = (proc : Option ℕ) → List Switch

abbrev pub no_switches : Switches
no_switches q = []

abbrev pub never : (label : ℕ) → Bool
never l = false

abbrev pub is_plain : Mention → Bool
is_plain (declared d) = false
is_plain (uses x) = true
is_plain (stores token n) = true

-- facts that declare nothing
pub record Plain (numbers : Numbers) (facts : List Fact) : Type 0 where
  pub mentions : (q : Option ℕ) (m : Here) → In m (facts_mentions numbers facts q) → (m.who ≡ q) × IsTrue (is_plain m.mention)
  pub signatures : text_signatures facts ≡ []

module _ (named : Named) (numbers : Numbers) where
  abbrev pub label_number : RawName → ℕ
  label_number n = label_in (item_at numbers n.at.token)

  -- a procedure's declaration, with the facts of its body's statement
  abbrev pub procedure_with : RawProc → List Fact → List Fact
  procedure_with p body =
      let x = out-RawProc p in
      declares x.name (kind.Proc x.answer) ∷ specifies x.name.at.token x.answer (flattened x.params)
      ∷ fact.Block (Some x.name.at.token) (answer_facts x.answer ++ (parameters_facts x.params ++ body)) ∷ []

  pub data Part : List Fact → Switches → List Proc → ((label : ℕ) → Bool) → Type 0 where
    empty : Part [] no_switches [] never
    both : {fs gs : List Fact} {ws xs : Switches} {ps qs : List Proc} {s t : ℕ → Bool} → Part fs ws ps s → Part gs xs qs t → Part (fs ++ gs) (λ q. ws q ++ xs q) (ps ++ qs) (λ l. s l || t l)
    plain : {fs : List Fact} → Plain numbers fs → Part fs no_switches [] never
    items : (d : RawData) → Part (data_facts d) no_switches [] never
    label : (n : RawName) → Part (declares n kind.Label ∷ []) no_switches [] (λ l. nat_eq l (label_number n))
    switch : (n : RawName) (labels : List RawName) → Part (declares n kind.Switch ∷ each_uses labels) (λ q. record { proc = q; list = goals_of named numbers labels } ∷ []) [] never
    block : {fs : List Fact} {ws : Switches} {ps : List Proc} {s : ℕ → Bool} → Part fs ws ps s → Part (fact.Block None fs ∷ []) ws ps s
    procedure : (p : RawProc) {fs : List Fact} {ws : Switches} {ps : List Proc} → Part fs ws ps (λ l. sets l (statement_of named numbers (out-RawProc p).body))
        → Part (procedure_with p fs) (λ q. ws (Some (proc_here numbers (out-RawProc p).name.at.token))) (proc_of named numbers p ∷ ps) never
    -- more labels may be set
    more : {fs : List Fact} {ws : Switches} {ps : List Proc} {s t : ℕ → Bool} → ((l : ℕ) → IsTrue (s l) → IsTrue (t l)) → Part fs ws ps s → Part fs ws ps t
