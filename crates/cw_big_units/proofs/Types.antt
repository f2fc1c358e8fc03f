-- No rule of types is broken.
use Rattle.std.proofs.Common.{◌≡◌, ℕ, ◌≤◌, Bool, true, false, List, [], ◌∷◌, Option, Some, None, refl, ap, ◌∙◌, decimal, map}
use Rattle.std.specs.Fmt.{digits}
use Rattle.cw_table.specs.declared.table.Row.{Row}
use Rattle.cw_table.specs.Rows.{item_at}
use Rattle.cw_tree.specs.declared.statement.RawBlock.{roll-RawBlock}
use Rattle.cw_grammar.specs.Tokens.{number_of}
use Rattle.cw_scope.specs.declared.resolve.Named.{Named}
use Rattle.cw_scale.specs.declared.fault.Fault.{Fault}
use Rattle.cw_scale.specs.TypeRules.{fits_at, number_operand}
use Rattle.cw_items.specs.declared.families.Site.{Site}
use Rattle.cw_judge.specs.Judged.{declaration_judged, statement_judged, block_judged, all_judged, text_judged, sites_of, first_type_fault}
use Rattle.cw_big_units.proofs.Digits.{each, each_at}
use Rattle.cw_big_units.proofs.TreeText.{at, declarations, filled, added, thousands, hundreds, tens, ones, line_end, statements}
use Rattle.cw_big_units.proofs.FactsText.{total, write_byte_takes, counter, cells}
use Rattle.cw_big_units.proofs.Names.{named_of}
use Rattle.cw_big_units.proofs.TypeSteps.{data-judged, block-judged, type_steps}
use Rattle.cw_big_units.proofs.Stored.{stored_text, stored}

-- ---- the number

-- whether what is written so fits a word where it is an operand
abbrev pub fits_word : List ℕ → Bool
fits_word w = fits_at (number_of w) (number_operand (number_of w))

each_fits : each (λ n. fits_word (decimal n)) 100 ≡ true
unfolding digits
each_fits = refl

pub decimal_fits : (i : ℕ) → 1 ≤ i → i ≤ 100 → fits_word (decimal i) ≡ true
decimal_fits i l h = each_at (λ n. fits_word (decimal n)) 100 i each_fits l h

-- ---- what the names stand for

-- of the names up to the last FOR, by their tokens
pub record Knows (named : Named) : Type 0 where
  pub declared4 : item_at named.declarations 4 ≡ Some total
  pub declared21 : item_at named.declarations 21 ≡ Some counter
  pub declared25 : item_at named.declarations 25 ≡ Some cells
  pub takes4 : item_at named.signatures 4 ≡ None
  pub takes10 : item_at named.signatures 10 ≡ Some write_byte_takes
  pub takes21 : item_at named.signatures 21 ≡ None
  pub used33 : item_at named.uses 33 ≡ Some 21
  pub used41 : item_at named.uses 41 ≡ Some 25
  pub used43 : item_at named.uses 43 ≡ Some 21
  pub used46 : item_at named.uses 46 ≡ Some 21
  pub used51 : item_at named.uses 51 ≡ Some 21
  pub used59 : item_at named.uses 59 ≡ Some 4
  pub used62 : item_at named.uses 62 ≡ Some 4
  pub used66 : item_at named.uses 66 ≡ Some 21

-- and of those behind it, which the last text has
pub record KnowsMore (named : Named) : Type 0 where
  pub used72 : item_at named.uses 72 ≡ Some 10
  pub used76 : item_at named.uses 76 ≡ Some 4
  pub used81 : item_at named.uses 81 ≡ Some 10
  pub used85 : item_at named.uses 85 ≡ Some 4
  pub used92 : item_at named.uses 92 ≡ Some 4
  pub used98 : item_at named.uses 98 ≡ Some 10
  pub used102 : item_at named.uses 102 ≡ Some 4
  pub used109 : item_at named.uses 109 ≡ Some 4
  pub used115 : item_at named.uses 115 ≡ Some 10
  pub used119 : item_at named.uses 119 ≡ Some 4
  pub used124 : item_at named.uses 124 ≡ Some 4
  pub used130 : item_at named.uses 130 ≡ Some 10

knows : (is_last : Bool) (w : List ℕ) → Knows (named_of is_last w)
knows is_last w = record { declared4 = refl; declared21 = refl; declared25 = refl; takes4 = refl; takes10 = refl; takes21 = refl; used33 = refl; used41 = refl; used43 = refl; used46 = refl; used51 = refl; used59 = refl; used62 = refl; used66 = refl }

knows_more : (w : List ℕ) → KnowsMore (named_of true w)
knows_more w = record { used72 = refl; used76 = refl; used81 = refl; used85 = refl; used92 = refl; used98 = refl; used102 = refl; used109 = refl; used115 = refl; used119 = refl; used124 = refl; used130 = refl }

-- ---- the statements

filled-judged : (named : Named) (sites : List (Row Site)) → Knows named → (w : List ℕ) → fits_word w ≡ true → (first : Option Fault) → statement_judged named sites (filled w) first ≡ first
filled-judged named sites k w e first = simp (type_steps, k.used33, k.used41, k.used43, k.used46, k.declared21, k.declared25, k.takes21, e) refl

added-judged : (named : Named) (sites : List (Row Site)) → Knows named → (first : Option Fault) → statement_judged named sites added first ≡ first
added-judged named sites k first = simp (type_steps, k.used51, k.used59, k.used62, k.used66, k.declared4, k.declared21, k.takes4, k.takes21) refl

thousands-judged : (named : Named) (sites : List (Row Site)) → Knows named → KnowsMore named → (first : Option Fault) → statement_judged named sites thousands first ≡ first
thousands-judged named sites k m first = simp (type_steps, k.declared4, k.takes4, k.takes10, m.used72, m.used76) refl

hundreds-judged : (named : Named) (sites : List (Row Site)) → Knows named → KnowsMore named → (first : Option Fault) → statement_judged named sites hundreds first ≡ first
hundreds-judged named sites k m first = simp (type_steps, k.declared4, k.takes4, k.takes10, m.used81, m.used85, m.used92) refl

tens-judged : (named : Named) (sites : List (Row Site)) → Knows named → KnowsMore named → (first : Option Fault) → statement_judged named sites tens first ≡ first
tens-judged named sites k m first = simp (type_steps, k.declared4, k.takes4, k.takes10, m.used98, m.used102, m.used109) refl

ones-judged : (named : Named) (sites : List (Row Site)) → Knows named → KnowsMore named → (first : Option Fault) → statement_judged named sites ones first ≡ first
ones-judged named sites k m first = simp (type_steps, k.declared4, k.takes4, k.takes10, m.used115, m.used119, m.used124) refl

line_end-judged : (named : Named) (sites : List (Row Site)) → Knows named → KnowsMore named → (first : Option Fault) → statement_judged named sites line_end first ≡ first
line_end-judged named sites k m first = simp (type_steps, k.takes10, m.used130) refl

-- ---- the text

declarations_fine : (named : Named) (sites : List (Row Site)) (first : Option Fault) → all_judged (map (declaration_judged named sites) declarations) first ≡ first
declarations_fine named sites first = simp (data-judged) refl

two_fine : (named : Named) (sites : List (Row Site)) → Knows named → (w : List ℕ) → fits_word w ≡ true → (first : Option Fault) → all_judged (map (statement_judged named sites) (filled w ∷ added ∷ [])) first ≡ first
two_fine named sites k w e first = added-judged named sites k (statement_judged named sites (filled w) first) ∙ filled-judged named sites k w e first

last_fine : (named : Named) (sites : List (Row Site)) → Knows named → KnowsMore named → (first : Option Fault) → all_judged (map (statement_judged named sites) (thousands ∷ hundreds ∷ tens ∷ ones ∷ line_end ∷ [])) first ≡ first
last_fine named sites k m first =
    let a : Option Fault = statement_judged named sites thousands first in
    let b : Option Fault = statement_judged named sites hundreds a in
    let c : Option Fault = statement_judged named sites tens b in
    let d : Option Fault = statement_judged named sites ones c in
    line_end-judged named sites k m d ∙ ones-judged named sites k m c ∙ tens-judged named sites k m b ∙ hundreds-judged named sites k m a ∙ thousands-judged named sites k m first

statements_fine : (is_last : Bool) (w : List ℕ) → fits_word w ≡ true → (sites : List (Row Site)) (first : Option Fault) → all_judged (map (statement_judged (named_of is_last w) sites) (statements is_last w)) first ≡ first
statements_fine true w e sites first =
    let named = named_of true w in
    let two : Option Fault = all_judged (map (statement_judged named sites) (filled w ∷ added ∷ [])) first in
    last_fine named sites (knows true w) (knows_more w) two ∙ two_fine named sites (knows true w) w e first
statements_fine false w e sites first = two_fine (named_of false w) sites (knows false w) w e first

block_fine : (is_last : Bool) (w : List ℕ) → fits_word w ≡ true → (sites : List (Row Site)) (first : Option Fault)
    → block_judged (named_of is_last w) sites (roll-RawBlock (record { at = at 4 19; decls = declarations; stmts = statements is_last w })) first ≡ first
block_fine is_last w e sites first =
    let named = named_of is_last w in
    block-judged named sites (at 4 19) declarations (statements is_last w) first
    ∙ statements_fine is_last w e sites (all_judged (map (declaration_judged named sites) declarations) first)
    ∙ declarations_fine named sites first

pub no_type_fault : (is_last : Bool) (w : List ℕ) → fits_word w ≡ true → first_type_fault (named_of is_last w) ≡ None
no_type_fault is_last w e =
    let named = named_of is_last w in
    ap (λ ts. text_judged named ts None) (stored named is_last w) ∙ block_fine is_last w e (sites_of stored_text) None
