-- The descriptors of the unit of each text of the grammar.
use Rattle.std.proofs.Common.{ℕ, List, false, IsTrue}
use Rattle.std.specs.List.{list_all}
use Rattle.cw_table.specs.declared.table.Row.{Row}
use Rattle.cw_lex.specs.Lexical.{Lexeme}
use Rattle.cw_tree.specs.declared.segment.Raw.{Raw}
use Rattle.cw_grammar.specs.Tokens.{numbered}
use Rattle.cw_grammar.specs.Grammar.{a_raw}
use Rattle.cw_grammar.specs.Statements.{text}
use Rattle.cw_grammar.specs.Derives.{Derives}
use Rattle.cw_derived.specs.NormalForm as normal
use Rattle.cw_derived.specs.NormalForm.{IsNormal}
use Rattle.cw_derived.proofs.Statements.{text_normal}
use Rattle.cw_derived.proofs.Derived.{derived_normal}
use Rattle.cw_items.specs.declared.thing.Thing.{Thing}
use Rattle.cw_number.specs.declared.listed.Listing.{Listing}
use Rattle.cw_number.specs.declared.numbered.Numbered.{Numbered}
use Rattle.cw_make_items.specs.Descriptors.{descs_of}
use Rattle.cw_object.specs.Fits.{fits_descriptor}
use Rattle.cw_sound.specs.Written.Counts.{CountsFit}
use Rattle.cw_sound.proofs.Written.Descriptors.{descs_fit}

module _ (numbers : List (Row Numbered)) (listed : List (Row Listing)) (things : List Thing) where
  raw_fits : {n : ℕ} {x : Raw} {a : List ℕ} → IsNormal n false a_raw x a → CountsFit x.comms → IsTrue (list_all fits_descriptor (descs_of numbers listed things x.comms))
  raw_fits (normal.is_raw f tokens h e k) c = descs_fit numbers listed things h c

  pub text_fits : (n : ℕ) (ts : List Lexeme) (raw : Raw) → Derives n a_raw text (numbered 1 ts) raw → CountsFit raw.comms → IsTrue (list_all fits_descriptor (descs_of numbers listed things raw.comms))
  text_fits n ts raw d c = raw_fits (derived_normal false text_normal d).normal c
