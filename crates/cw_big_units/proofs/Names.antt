-- The names of the texts.
use Rattle.std.proofs.Common.{◌≡◌, ℕ, Bool, true, false, List, [], ◌∷◌, map, Option, None, Ok, refl, sym, ap, ◌∙◌}
use Rattle.cw_table.specs.declared.table.Row.{Row}
use Rattle.cw_facts.specs.declared.fact.Declaration.{Declaration}
use Rattle.cw_facts.specs.declared.fact.Signature.{Signature}
use Rattle.cw_scope.specs.declared.fault.Fault.{Fault}
use Rattle.cw_scope.specs.declared.resolve.Named.{Named}
use Rattle.cw_scope.specs.Text.{text_fault, first_name_fault}
use Rattle.cw_scope.specs.NameRules.{said, all_declared, name_faults, name_resolutions}
use Rattle.cw_scope.specs.Definitions.{each_listed, defined, definitions_judged}
use Rattle.cw_scope.specs.Resolved.{text_declarations, text_signatures}
use Rattle.cw_scope.specs.Gathered.{Gathers}
use Rattle.cw_scope.specs.Outcome.{Resolves}
use Rattle.cw_big_units.proofs.TreeText.{tree_text}
use Rattle.cw_big_units.proofs.FactsText.{total, write_byte, write_byte_takes, counter, cells, facts_text}
use Rattle.cw_big_units.proofs.FactSteps.{declares-step, uses-step, specifies-step, loop-step, block-step}
use Rattle.cw_big_units.proofs.TreeFacts.{facts_are}

-- ---- what the names refer to, written out

abbrev pub declared : Declaration → Row Declaration
declared d = record { token = d.name.at.token; item = d }

abbrev pub declarations_text : List (Row Declaration)
declarations_text = declared total ∷ declared write_byte ∷ declared counter ∷ declared cells ∷ []

abbrev pub signatures_text : List (Row Signature)
signatures_text = record { token = 10; item = write_byte_takes } ∷ []

abbrev pub refers : (token : ℕ) → Declaration → Row ℕ
refers token d = record { token = token; item = d.name.at.token }

abbrev pub last_uses : Bool → List (Row ℕ)
last_uses false = []
last_uses true =
    refers 72 write_byte
    ∷ refers 76 total
    ∷ refers 81 write_byte
    ∷ refers 85 total
    ∷ refers 92 total
    ∷ refers 98 write_byte
    ∷ refers 102 total
    ∷ refers 109 total
    ∷ refers 115 write_byte
    ∷ refers 119 total
    ∷ refers 124 total
    ∷ refers 130 write_byte
    ∷ []

abbrev pub uses_text : Bool → List (Row ℕ)
uses_text is_last =
    refers 33 counter
    ∷ refers 41 cells
    ∷ refers 43 counter
    ∷ refers 46 counter
    ∷ refers 51 counter
    ∷ refers 59 total
    ∷ refers 62 total
    ∷ refers 64 cells
    ∷ refers 66 counter
    ∷ last_uses is_last

declarations_are : (is_last : Bool) → text_declarations (facts_text is_last) ≡ declarations_text
declarations_are true = simp (declares-step, uses-step, specifies-step, loop-step, block-step) refl
declarations_are false = simp (declares-step, uses-step, specifies-step, loop-step, block-step) refl

signatures_are : (is_last : Bool) → text_signatures (facts_text is_last) ≡ signatures_text
signatures_are true = simp (declares-step, uses-step, specifies-step, loop-step, block-step) refl
signatures_are false = simp (declares-step, uses-step, specifies-step, loop-step, block-step) refl

uses_are : (is_last : Bool) → name_resolutions (facts_text is_last) ≡ uses_text is_last
uses_are true = simp (declares-step, uses-step, specifies-step, loop-step, block-step) refl
uses_are false = simp (declares-step, uses-step, specifies-step, loop-step, block-step) refl

-- ---- no rule of names is broken

names_fine : (is_last : Bool) → name_faults (facts_text is_last) None ≡ None
names_fine true = simp (declares-step, uses-step, specifies-step, loop-step, block-step) refl
names_fine false = simp (declares-step, uses-step, specifies-step, loop-step, block-step) refl

-- with the specifications written out
abbrev definitions_by : Bool → List (Row Signature) → Option Fault
definitions_by is_last rows = each_listed rows (all_declared (map said (facts_text is_last))) (map (defined rows) (facts_text is_last)) None

definitions_fine : (is_last : Bool) → definitions_by is_last signatures_text ≡ None
definitions_fine true = simp (declares-step, uses-step, specifies-step, loop-step, block-step) refl
definitions_fine false = simp (declares-step, uses-step, specifies-step, loop-step, block-step) refl

pub no_name_fault : (is_last : Bool) (w : List ℕ) → first_name_fault (tree_text is_last w) ≡ None
no_name_fault is_last w =
    ap text_fault (facts_are is_last w) ∙ ap (definitions_judged (facts_text is_last)) (names_fine is_last) ∙ ap (definitions_by is_last) (signatures_are is_last) ∙ definitions_fine is_last

-- ---- the texts

pub gathered_of : (is_last : Bool) (w : List ℕ) → Gathers (facts_text is_last) (tree_text is_last w)
unfolding Gathers
gathered_of is_last w = sym (facts_are is_last w)

-- a tree with its names, at place 0 of memory
abbrev pub named_of : Bool → List ℕ → Named
named_of is_last w = record { raw = record { ref_ptr = (0, 0); now = tree_text is_last w }; facts = facts_text is_last; gathered = gathered_of is_last w; declarations = declarations_text; signatures = signatures_text; uses = uses_text is_last }

pub resolved : (is_last : Bool) (w : List ℕ) → Resolves (tree_text is_last w) (Ok (named_of is_last w))
resolved is_last w = (
  no_name_fault is_last w,
  refl,
  sym (ap name_resolutions (facts_are is_last w) ∙ uses_are is_last),
  sym (ap text_declarations (facts_are is_last w) ∙ declarations_are is_last),
  sym (ap text_signatures (facts_are is_last w) ∙ signatures_are is_last),
)
