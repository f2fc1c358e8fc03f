-- A name that the communicators list as a label, a switch or a procedure is defined by its declaration in the outermost block, which
-- must meet the specification. READBYTE, WRITEBYTE and BOUNDS of a LIBRARY list have theirs, and are not declared there.
use Rattle.std.specs.Prelude.{ℕ, List, [], ◌∷◌, Bool, true, false, ◌&&◌, Option, Some, None, map}
use Rattle.cw_table.specs.declared.table.Row.{Row}
use Rattle.cw_table.specs.Rows.{item_at}
use Rattle.cw_tree.specs.declared.leaf.RawName.{RawName}
use Rattle.cw_tree.specs.declared.segment.RawPs.{RawPs}
use Rattle.cw_tree.specs.declared.segment.RawPs.TheVariants as ps
use Rattle.cw_tree.specs.declared.segment.RawIps.{RawIps}
use Rattle.cw_tree.specs.declared.segment.RawIps.TheVariants as inner
use Rattle.cw_tree.specs.declared.leaf.RawType.{RawType}
use Rattle.cw_facts.specs.declared.fact.Fact.{Fact, Fact-F, fold-Fact}
use Rattle.cw_facts.specs.declared.fact.Fact.TheOpen as layer
use Rattle.cw_facts.specs.declared.fact.Declaration.{Declaration}
use Rattle.cw_facts.specs.declared.fact.Kind.{Kind}
use Rattle.cw_facts.specs.declared.fact.Kind.TheVariants as kind
use Rattle.cw_facts.specs.declared.fact.Signature.{Signature}
use Rattle.cw_scope.specs.declared.fault.Rule.{Rule}
use Rattle.cw_scope.specs.declared.fault.Rule.TheVariants as rule
use Rattle.cw_scope.specs.Faults.{Judgement, fine, wrong, unless, both}
use Rattle.cw_scope.specs.Scope.{declared_in}
use Rattle.cw_scope.specs.Same.{same_signature, is_integer}
use Rattle.cw_scope.specs.NameRules.{is_own_label, is_own_switch, all_declared, said}
use Rattle.cw_scope.specs.Resolved.{text_signatures}

-- ---- READBYTE, WRITEBYTE and BOUNDS

abbrev pub takes_nothing : List RawPs → Bool
takes_nothing [] = true
takes_nothing _ = false

abbrev pub is_integer_value : RawIps → Bool
is_integer_value (inner.Value at t) = is_integer t
is_integer_value _ = false

abbrev pub takes_integer : List RawPs → Bool
takes_integer (ps.Plain p ∷ []) = is_integer_value p
takes_integer _ = false

abbrev pub answers_integer : Option RawType → Bool
answers_integer (Some t) = is_integer t
answers_integer None = false

abbrev pub answers_nothing : Option RawType → Bool
answers_nothing (Some t) = false
answers_nothing None = true

-- INTEGER PROCEDURE READBYTE; PROCEDURE WRITEBYTE(VALUE INTEGER); PROCEDURE BOUNDS
abbrev pub fits_built_in : Kind → Signature → Bool
fits_built_in kind.ReadByte s = answers_integer s.answer && takes_nothing s.params
fits_built_in kind.WriteByte s = answers_nothing s.answer && takes_integer s.params
fits_built_in kind.Bounds s = answers_nothing s.answer && takes_nothing s.params
fits_built_in _ s = true

abbrev pub fits_built_in_if : Kind → Option Signature → Bool
fits_built_in_if k None = true
fits_built_in_if k (Some s) = fits_built_in k s

-- ---- definitions

abbrev pub is_own_procedure : Kind → Bool
is_own_procedure (kind.Proc t) = true
is_own_procedure _ = false

abbrev pub rule_unless : Bool → Rule → Option Rule
rule_unless true r = None
rule_unless false r = Some r

-- what a declaration of a listed name breaks, by whether their specifications are the same
abbrev pub broken_rule : (listed declared : Kind) → (same : Bool) → Option Rule
broken_rule kind.ReadByte k same = Some rule.Twice
broken_rule kind.WriteByte k same = Some rule.Twice
broken_rule kind.Bounds k same = Some rule.Twice
broken_rule kind.Label k same = rule_unless (is_own_label k) rule.SpecDiffers
broken_rule kind.Switch k same = rule_unless (is_own_switch k) rule.SpecDiffers
broken_rule (kind.Proc t) k same = rule_unless (is_own_procedure k && same) rule.SpecDiffers
broken_rule _ k same = None

abbrev pub wrong_if : Option Rule → RawName → Judgement
wrong_if None n = fine
wrong_if (Some r) n = wrong r n

abbrev pub same_if : Option Signature → Option Signature → Bool
same_if (Some a) (Some b) = same_signature a b
same_if _ _ = false

module _ (signatures : List (Row Signature)) where
  abbrev pub same_specified : (a b : ℕ) → Bool
  same_specified a b = same_if (item_at signatures a) (item_at signatures b)

  abbrev pub definition_faults : (listed : Option Declaration) → Declaration → Judgement
  definition_faults None d = fine
  definition_faults (Some listed) d = wrong_if (broken_rule listed.kind d.kind (same_specified listed.name.at.token d.name.at.token)) d.name

  abbrev pub listed_faults : Declaration → Judgement
  listed_faults d = unless (fits_built_in_if d.kind (item_at signatures d.name.at.token)) rule.SpecDiffers d.name

  -- of a fact among the communicators, and of one in the outermost block
  pub record Defined : Type 0 where
    pub listed : (communicators : List Declaration) → Judgement
    pub own : (communicators : List Declaration) → Judgement

  abbrev pub each_own : (communicators : List Declaration) → List Defined → Judgement
  each_own cs [] = fine
  each_own cs (x ∷ xs) = both (x.own cs) (each_own cs xs)

  abbrev pub each_listed : (communicators : List Declaration) → List Defined → Judgement
  each_listed cs [] = fine
  each_listed cs (x ∷ xs) = both (x.listed cs) (each_listed cs xs)

  abbrev pub nothing_defined : Defined
  nothing_defined = record { listed = λ cs. fine; own = λ cs. fine }

  abbrev pub defined_step : Fact-F Defined → Defined
  defined_step (layer.Declares d) = record { listed = λ cs. listed_faults d; own = λ cs. definition_faults (declared_in cs d.name.name) d }
  defined_step (layer.Uses u) = nothing_defined
  defined_step (layer.Specifies token s) = nothing_defined
  defined_step (layer.Loop at) = nothing_defined
  defined_step (layer.Text at n) = nothing_defined
  defined_step (layer.Block owner xs) = record { listed = λ cs. each_own cs xs; own = λ cs. fine }

  abbrev pub defined : Fact → Defined
  defined = fold-Fact Defined defined_step

abbrev pub definitions_judged : List Fact → Judgement
definitions_judged facts = each_listed (text_signatures facts) (all_declared (map said facts)) (map (defined (text_signatures facts)) facts)
