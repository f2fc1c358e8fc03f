-- Where a tree lies in memory, and how what it says about names is kept, is of no matter.
use Rattle.std.proofs.Common.{◌≡◌, ℕ, List, refl, sym, subst}
use Rattle.cw_table.specs.declared.table.Row.{Row}
use Rattle.cw_tree.specs.declared.segment.Raw.{Raw}
use Rattle.cw_facts.specs.declared.fact.Declaration.{Declaration}
use Rattle.cw_facts.specs.declared.fact.Fact.{Fact}
use Rattle.cw_facts.specs.declared.fact.Signature.{Signature}
use Rattle.cw_scope.specs.declared.resolve.Named.{Named}
use Rattle.cw_scope.specs.Gathered.{Gathers}
use Rattle.cw_type.specs.judge.Declarations.{overlaid_judged, common_overlaid_judged}
use Rattle.cw_type.specs.judge.Judged.{first_type_fault}
use Rattle.cw_make.specs.Procedures.{declaration_procs, form_procs, simple_procs, block_procs, procedure_procs, statement_procs}
use Rattle.cw_make.specs.Made.{unit_of}

-- a named tree at a place of memory, with its facts
abbrev pub named_at : ℕ × ℕ → (raw : Raw) (facts : List Fact) → Gathers facts raw → List (Row Declaration) → List (Row Signature) → List (Row ℕ) → Named
named_at place raw facts gathered ds ss us =
    record { raw = record { ref_ptr = place; now = raw }; facts = facts; gathered = gathered; declarations = ds; signatures = ss; uses = us }

-- what is read of a named tree is the same wherever it lies, and however its facts are kept
abbrev IsPlaceless : {X : Type 0} → (Named → X) → Type 0
IsPlaceless read = (p q : ℕ × ℕ) (raw : Raw) (fs gs : List Fact) (f : Gathers fs raw) (g : Gathers gs raw) (ds : List (Row Declaration)) (ss : List (Row Signature)) (us : List (Row ℕ))
    → read (named_at p raw fs f ds ss us) ≡ read (named_at q raw gs g ds ss us)

alike : {X : Type 0} (read : Named → X) → IsPlaceless read → (m n : Named)
    → m.raw.now ≡ n.raw.now → m.declarations ≡ n.declarations → m.signatures ≡ n.signatures → m.uses ≡ n.uses → read m ≡ read n
alike read placeless m n r d s u =
    let Same : Raw → List (Row Declaration) → List (Row Signature) → List (Row ℕ) → Type 0 =
    λ raw ds ss us. (p : ℕ × ℕ) (fs : List Fact) (f : Gathers fs raw) → read (named_at p raw fs f ds ss us) ≡ read n in
    let at_n : Same n.raw.now n.declarations n.signatures n.uses =
    λ p fs f. placeless p n.raw.ref_ptr n.raw.now fs n.facts f n.gathered n.declarations n.signatures n.uses in
    let by_raw : Same m.raw.now n.declarations n.signatures n.uses = subst (λ x. Same x n.declarations n.signatures n.uses) (sym r) at_n in
    let by_declarations : Same m.raw.now m.declarations n.signatures n.uses = subst (λ x. Same m.raw.now x n.signatures n.uses) (sym d) by_raw in
    let by_signatures : Same m.raw.now m.declarations m.signatures n.uses = subst (λ x. Same m.raw.now m.declarations x n.uses) (sym s) by_declarations in
    let by_uses : Same m.raw.now m.declarations m.signatures m.uses = subst (λ x. Same m.raw.now m.declarations m.signatures x) (sym u) by_signatures in
    by_uses m.raw.ref_ptr m.facts m.gathered

unit_placeless : IsPlaceless unit_of
unfolding declaration_procs form_procs simple_procs block_procs procedure_procs statement_procs
unit_placeless p q raw fs gs f g ds ss us = refl

types_placeless : IsPlaceless first_type_fault
unfolding overlaid_judged common_overlaid_judged
types_placeless p q raw fs gs f g ds ss us = refl

pub unit_tokens : (named : Named) → (unit_of named).tokens ≡ named.raw.now.tokens
unit_tokens named = refl

pub same_unit_of : (m n : Named) → m.raw.now ≡ n.raw.now → m.declarations ≡ n.declarations → m.signatures ≡ n.signatures → m.uses ≡ n.uses → unit_of m ≡ unit_of n
same_unit_of m n r d s u = alike unit_of unit_placeless m n r d s u

pub same_type_fault : (m n : Named) → m.raw.now ≡ n.raw.now → m.declarations ≡ n.declarations → m.signatures ≡ n.signatures → m.uses ≡ n.uses
    → first_type_fault m ≡ first_type_fault n
same_type_fault m n r d s u = alike first_type_fault types_placeless m n r d s u
