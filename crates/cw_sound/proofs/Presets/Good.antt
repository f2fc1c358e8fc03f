-- What is known of each value that a text of bytes stands for, where each rule of the grammar keeps it: of a tree, that what it holds at the start are words,
-- of what stands in no frame. Of what has no strings and no data nothing need be known.
use Rattle.std.proofs.Common.{◌≡◌, ℕ, List, None, refl}
use Rattle.cw_table.specs.declared.table.Row.{Row}
use Rattle.cw_tree.specs.declared.segment.Raw.{Raw}
use Rattle.cw_tree.specs.declared.segment.RawCitem.{RawCitem}
use Rattle.cw_tree.specs.declared.segment.RawComm.{RawComm}
use Rattle.cw_lex.specs.declared.token.TokenKind.{TokenKind}
use Rattle.cw_grammar.specs.Tokens.{Item}
use Rattle.cw_grammar.specs.Grammar.{Sort, a_group, a_data, a_stmt, a_form, a_simple, a_felem, a_block, a_decl, a_citem, a_comm, a_raw, Value, Rule, Again, Grammar, ◌·◌, ◌⇒◌}
use Rattle.cw_grammar.specs.Table.{rule, again_rule}
use Rattle.cw_grammar.specs.Derives.{Derives, is_then, is_map}
use Rattle.cw_scope.specs.declared.resolve.Named.{Named}
use Rattle.cw_items.specs.declared.families.Site.{Site}
use Rattle.cw_items.specs.Things.{citem_things, communicator_things, text_things}
use Rattle.cw_judge.specs.Judged.{citem_judged, communicator_judged, communicators_judged, block_judged}
use Rattle.cw_preset.specs.Strings.{Rows}
use Rattle.cw_sound.proofs.Expressions.Folds.{rows_pass}
use Rattle.cw_sound.proofs.Expressions.Passes.{related}
use Rattle.cw_preset.specs.Held.{felem_rows, citem_rows, communicator_rows, held_of}
use Rattle.cw_sound.specs.Presets.Bytes.{AreBytes}
use Rattle.cw_sound.proofs.Presets.Small.{RowsSmall}
use Rattle.cw_sound.proofs.Presets.Frames.{HasName, Told, Held, DataHeld}
use Rattle.cw_sound.proofs.Presets.Trees.{DeclHeld, FormHeld, SimpleHeld, BlockHeld, StmtHeld}
use Rattle.cw_macro.specs.Premises.{Each}
use Rattle.cw_sound.proofs.Kept as kept
use Rattle.cw_sound.proofs.Kept.{Ask, nothing, holds, of_expressions}

-- a token of bytes
abbrev pub IsOfBytes : Item → Type 0
IsOfBytes t = AreBytes t.text

abbrev SmallRows : Rows → Rows → Type 0
SmallRows rows again = RowsSmall rows

module _ (named : Named) (sites : List (Row Site)) (absolute : List (Row ℕ)) where
  abbrev pub CitemHeld : RawCitem → Type 0
  CitemHeld x = citem_judged named sites absolute x None ≡ None → Each (Told sites) (citem_things named x) → Each (Held sites) (citem_rows x)

  abbrev pub CommHeld : RawComm → Type 0
  CommHeld x = communicator_judged named sites absolute x None ≡ None → Each (Told sites) (communicator_things named x) → Each (Held sites) (communicator_rows x)

  abbrev pub TextHeld : Raw → Type 0
  TextHeld x = communicators_judged named sites absolute x.comms None ≡ None → block_judged named sites x.block None ≡ None → Each (Told sites) (text_things named x) → Each (Held sites) (held_of x)

  -- what is asked of each sort with strings or data
  abbrev others : (s : Sort) → Ask (Value s)
  others a_group = holds (λ x. HasName x.names)
  others a_data = holds (λ x. DataHeld sites x)
  others a_stmt = holds (λ x. StmtHeld named sites x)
  others a_form = holds (λ x. FormHeld named sites x)
  others a_simple = holds (λ x. SimpleHeld named sites x)
  others a_felem = holds (λ x. RowsSmall (felem_rows x))
  others a_block = holds (λ x. BlockHeld named sites x)
  others a_decl = holds (λ x. DeclHeld named sites x)
  others a_citem = holds (λ x. CitemHeld x)
  others a_comm = holds (λ x. CommHeld x)
  others a_raw = holds (λ x. TextHeld x)
  others _ = nothing

  abbrev asked : (s : Sort) → Ask (Value s)
  asked = of_expressions (related rows_pass rows_pass SmallRows) others

  abbrev pub Good : (s : Sort) → Value s → Type 0
  Good s x = kept.Good asked s x

  -- of a value that is made of another, which
  abbrev pub Shaped : {s : Sort} → Grammar s → Value s → Type 0
  Shaped (g · h) x = Shaped g x.0 × Shaped h x.1
  Shaped (◌⇒◌ {s = s} g f) x = (y : Value s) × (f y ≡ x)
  Shaped g x = Unit {0}

  shaped : {n : ℕ} {s : Sort} {g : Grammar s} {u : List Item} {x : Value s} → Derives n s g u x → Shaped g x
  shaped (is_then d e) = (shaped d, shaped e)
  shaped (is_map {x = x} d) = (x, refl)
  shaped _ = tt

  abbrev Of : TokenKind → Item → Type 0
  Of k t = IsOfBytes t

  abbrev Opened : (s : Sort) → Rule s → Item → Value s → Type 0
  Opened s r t x = Good s x

  abbrev Behind : (s : Sort) → Grammar s → Value s → Type 0 → Type 0
  Behind s g x T = Shaped g x → T

  abbrev pub Given : {s : Sort} → Grammar s → Value s → Type 0
  Given g x = kept.Given asked Of Opened Behind g x

  abbrev pub Keeps : {s : Sort} → Grammar s → Type 0
  Keeps g = kept.Keeps asked Of Opened Behind g

  pub given_good : {s : Sort} (g : Grammar s) (x : Value s) → Given g x → Good s x
  given_good g x h = kept.given_good asked Of Opened Behind (λ s r t x h. h) g x h

  -- where each rule keeps it
  module _ (rules : (s : Sort) (r : Rule s) → Keeps (rule r)) (agains : (s : Sort) (a : Again s) → Keeps (again_rule a)) where
    pub good : {n : ℕ} {s : Sort} {g : Grammar s} {u : List Item} {x : Value s} → Derives n s g u x → Each IsOfBytes u → Keeps g → Good s x
    good {g = g} {x = x} d b q =
        kept.good asked Of Opened Behind (λ s r t x h. h) IsOfBytes (λ n. Unit {0}) (λ n l. tt) (λ k t e h. h) (λ n s r t u x l d h k. k) (λ n s g u x T d i. i (shaped d)) rules agains d tt b q
