-- The specification of a procedure and of what is declared in it, where those of its declaration are among a text's.
use Rattle.std.proofs.Common.{inr, ℕ, List, [], ◌∷◌, ◌++◌, Option, Some, ap, subst, ◌∙◌, append-nil}
use Rattle.cw_table.specs.declared.table.Row.{Row}
use Rattle.cw_tree.specs.declared.statement.RawProc.{RawProc, out-RawProc}
use Rattle.cw_facts.specs.declared.fact.Fact.{Fact}
use Rattle.cw_facts.specs.declared.fact.Fact.TheVariants as fact
use Rattle.cw_facts.specs.declared.fact.Kind.TheVariants as kind
use Rattle.cw_facts.specs.declared.fact.Signature.{Signature}
use Rattle.cw_facts.specs.Facts.{specifies, parameters_facts, answer_facts}
use Rattle.cw_facts.specs.Signatures.{flattened}
use Rattle.cw_scope.specs.declared.resolve.Named.{Named}
use Rattle.cw_scope.specs.Resolved.{fact_signatures, text_signatures}
use Rattle.cw_make_items.specs.Lookup.{Numbers}
use Rattle.cw_sound.proofs.Names.Lists.{Sub, sub_right}
use Rattle.cw_sound.proofs.Names.Parts.{procedure_with}
use Rattle.cw_sound.proofs.Names.PartKinds.{inner_facts}
use Rattle.cw_sound.proofs.Names.MentionsOf.{signatures_append, declared_before, specified_before, signatures_block}

abbrev pub row_of : RawProc → Row Signature
row_of p = record { token = (out-RawProc p).name.at.token; item = record { answer = (out-RawProc p).answer; params = flattened (out-RawProc p).params } }

module _ (named : Named) (numbers : Numbers) (p : RawProc) (fs : List Fact) (q : Option ℕ) (signed : Sub (text_signatures (procedure_with named numbers p fs)) named.signatures) where
  pub rows_signed : Sub (row_of p ∷ text_signatures (inner_facts named numbers p fs q)) named.signatures
  rows_signed =
      subst (λ rs. Sub rs named.signatures)
      (declared_before (out-RawProc p).name (kind.Proc (out-RawProc p).answer) (specifies (out-RawProc p).name.at.token (out-RawProc p).answer (flattened (out-RawProc p).params) ∷ fact.Block (Some (out-RawProc p).name.at.token) (inner_facts named numbers p fs q) ∷ [])
      ∙ specified_before (out-RawProc p).name.at.token (out-RawProc p).answer (flattened (out-RawProc p).params) (fact.Block (Some (out-RawProc p).name.at.token) (inner_facts named numbers p fs q) ∷ [])
      ∙ ap (λ rs. row_of p ∷ rs) (append-nil (fact_signatures (fact.Block (Some (out-RawProc p).name.at.token) (inner_facts named numbers p fs q))) ∙ signatures_block (Some (out-RawProc p).name.at.token) (inner_facts named numbers p fs q))) signed

  pub inner_signed : Sub (text_signatures (parameters_facts (out-RawProc p).params) ++ text_signatures fs) named.signatures
  inner_signed =
      let both_parts = subst (λ rs. Sub rs named.signatures)
      (signatures_append (answer_facts (out-RawProc p).answer) (parameters_facts (out-RawProc p).params ++ fs)) (λ r i. rows_signed r (inr i)) in
      subst (λ rs. Sub rs named.signatures) (signatures_append (parameters_facts (out-RawProc p).params) fs)
      (sub_right (text_signatures (answer_facts (out-RawProc p).answer)) (text_signatures (parameters_facts (out-RawProc p).params ++ fs)) named.signatures both_parts)
