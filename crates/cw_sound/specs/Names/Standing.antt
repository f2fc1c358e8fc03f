-- What the declarations of a text stand for in its unit, in the bodies that may name them.
use Rattle.std.specs.Prelude.{◌≡◌, ℕ, ◌≤◌, List, [], ◌∷◌, ◌++◌, length, Bool, true, false, IsTrue, ◌||◌, not, Option, Some, None, slice_get}
use Rattle.cw_table.specs.declared.table.Row.{Row}
use Rattle.cw_table.specs.Rows.{item_at}
use Rattle.cw_tree.specs.declared.leaf.RawName.{RawName}
use Rattle.cw_facts.specs.declared.fact.Declaration.{Declaration}
use Rattle.cw_facts.specs.declared.fact.Kind.{Kind as NameKind}
use Rattle.cw_facts.specs.declared.fact.Kind.TheVariants as kind
use Rattle.cw_facts.specs.declared.fact.Signature.{Signature}
use Rattle.cw_scope.specs.declared.resolve.Named.{Named}
use Rattle.cw_scope.specs.NameRules.{is_data, is_own_label, is_own_switch, is_procedure}
use Rattle.cw_facts.specs.declared.fact.Form.TheVariants as form
use Rattle.cw_facts.specs.declared.fact.Use.{Use}
use Rattle.cw_scale.specs.Arguments.{answers_alone}
use Rattle.cw_scale.specs.Kinds.{kind_of, fraction_of_kind}
use Rattle.cw_unit.specs.declared.unit.Proc.{Proc}
use Rattle.cw_unit.specs.Scales.{fraction_of}
use Rattle.cw_items.specs.Things.{text_things}
use Rattle.cw_number.specs.declared.numbered.Numbered.{Numbered}
use Rattle.cw_number.specs.declared.numbers.Counts.{Counts}
use Rattle.cw_number.specs.Numbers.{item_rows, own_number, counted, none_counted}
use Rattle.cw_make_items.specs.Lookup.{Numbers}
use Rattle.cw_unit.specs.declared.unit.Unit.{Unit as SourceUnit}
use Rattle.cw_sound.specs.Uses.Stands.{StandsAs, IsItem}
use Rattle.cw_sound.specs.Uses.Mentions.{In, Mention, Here, here, declares, uses, stores, block_mentions, text_mentions}
use Rattle.cw_sound.specs.Names.Found.{Refers}

-- ---- sorts of declarations

-- a parameter that is a word
abbrev pub is_word_param : NameKind → Bool
is_word_param (kind.Value t) = true
is_word_param (kind.Location t) = true
is_word_param (kind.ArrayParam t) = true
is_word_param (kind.TableParam s) = true
is_word_param _ = false

abbrev pub is_item : NameKind → Bool
is_item k = is_data k || is_word_param k

-- what is declared at a name of its own, and is no item
abbrev pub is_other : NameKind → Bool
is_other (kind.Answer t) = false
is_other k = not (is_item k)

abbrev pub is_element : NameKind → Bool
is_element (kind.Element table e) = true
is_element _ = false

abbrev pub is_own_procedure : NameKind → Bool
is_own_procedure (kind.Proc t) = true
is_own_procedure _ = false

-- a parameter that is no word
abbrev pub is_control : NameKind → Bool
is_control kind.LabelParam = true
is_control kind.SwitchParam = true
is_control (kind.ProcParam t) = true
is_control _ = false

abbrev pub is_built_in : NameKind → Bool
is_built_in kind.ReadByte = true
is_built_in kind.WriteByte = true
is_built_in _ = false

-- a label, switch or procedure
abbrev pub is_common : NameKind → Bool
is_common k = is_own_label k || (is_own_switch k || is_own_procedure k)

-- ---- what is counted before a declaration in the outermost block

abbrev pub counted_by : Counts → Mention → Counts
counted_by c (declares d) = counted c d.kind
counted_by c (uses x) = c
counted_by c (stores token words) = c

abbrev pub counted_from : Counts → List Here → Counts
counted_from c [] = c
counted_from c (m ∷ ms) = counted_from (counted_by c m.mention) ms

-- each declaration of the outermost block has the next number of its sort
abbrev pub CountsOwn : Named → Numbers → Type 0
CountsOwn named numbers =
    (before after : List Here) (owner : Option ℕ) (d : Declaration) (n : Numbered)
    → block_mentions numbers named.raw.now ≡ before ++ here owner (declares d) ∷ after
    → own_number (counted_from none_counted before) d.kind ≡ Some n
    → item_at numbers d.name.at.token ≡ Some n

-- ---- declarations that stand

module _ (named : Named) (numbers : Numbers) (u : SourceUnit) where
  -- each name that refers to this declaration stands for a right thing
  abbrev pub StandsIn : (who : Option ℕ) → Declaration → Type 0
  StandsIn who d = (n : RawName) → Refers named n d → StandsAs named numbers u who d.kind n

  -- what stands outside of procedures may be named in each body
  abbrev pub StandsFrom : (owner : Option ℕ) → Declaration → Type 0
  StandsFrom None d = (who : Option ℕ) → StandsIn who d
  StandsFrom (Some p) d = StandsIn (Some p) d

  abbrev pub Stand : (NameKind → Bool) → List Here → Type 0
  Stand test mentions = (owner : Option ℕ) (d : Declaration) → IsTrue (test d.kind) → In (here owner (declares d)) mentions → StandsFrom owner d

  -- ---- items

  abbrev pub IsItemFrom : (owner : Option ℕ) → Option Numbered → Type 0
  IsItemFrom None number = (who : Option ℕ) → IsItem named numbers u who 1 number
  IsItemFrom (Some p) number = IsItem named numbers u (Some p) 1 number

  -- What has words in the text is an item that its body may name, and no other declaration is an item.
  pub record ItemsStand : Type 0 where
    pub declared : (owner : Option ℕ) (d : Declaration) → IsTrue (is_item d.kind)
        → In (here owner (declares d)) (text_mentions numbers named.raw.now)
        → IsItemFrom owner (item_at numbers d.name.at.token)
    pub unnamed : (who : Option ℕ) (token words : ℕ)
        → In (here who (stores token words)) (text_mentions numbers named.raw.now)
        → IsItem named numbers u who words (item_at numbers token)
    pub others : (owner : Option ℕ) (d : Declaration) → IsTrue (is_other d.kind)
        → In (here owner (declares d)) (text_mentions numbers named.raw.now)
        → item_at (item_rows 0 (text_things named named.raw.now)) d.name.at.token ≡ None

-- each procedure that is specified has at most 32 parameters
abbrev pub FewParameters : Named → Type 0
FewParameters named = (r : Row Signature) → In r named.signatures → length r.item.params ≤ 32

-- what answers by itself, with no arguments, is a procedure that may be called
abbrev pub AnswersAreCalled : Named → Numbers → Type 0
AnswersAreCalled named numbers = (owner : Option ℕ) (d : Declaration)
    → In (here owner (declares d)) (text_mentions numbers named.raw.now)
    → IsTrue (answers_alone (item_at named.signatures d.name.at.token)) → IsTrue (is_procedure d.kind)

-- ANSWER stands in the body of a procedure of the unit whose answer has its scale
abbrev pub AnswersFit : Named → Numbers → SourceUnit → Type 0
AnswersFit named numbers u =
    (who : Option ℕ) (x : Use) → In (here who (uses x)) (block_mentions numbers named.raw.now) → x.form ≡ form.Answer
    → (p : ℕ) × (q : Proc) × (who ≡ Some p) × (slice_get u.procs p ≡ Some q) × (fraction_of_kind (kind_of named x.name) ≡ fraction_of q.answer)
