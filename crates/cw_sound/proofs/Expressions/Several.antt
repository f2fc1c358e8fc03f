-- Several judged parts: where none takes a fault away, neither does the judgement of the whole.
use Rattle.std.proofs.Common.{ℕ, max, List, [], ◌∷◌, Bool, true, false}
use Rattle.cw_tree.specs.declared.leaf.RawFactorSign.{RawFactorSign}
use Rattle.cw_scale.specs.declared.fault.Rule.TheVariants as rule
use Rattle.cw_scale.specs.TypeRules.{Judged, each_at, is_division, can_divide, division_faults, factor_faults, scale_before, chain_faults, term_faults, scale_for, logic_faults}
use Rattle.cw_sound.proofs.Expressions.Judging.{Keeps, keeps_fine, keeps_unless, keeps_both}

-- at every scale
abbrev pub Keeping : Judged → Type 0
Keeping j = (f : ℕ) → Keeps (j.faults f)

pub data AllKeeping : List Judged → Type 0 where
  none_keeping : AllKeeping []
  more_keeping : {j : Judged} {js : List Judged} → Keeping j → AllKeeping js → AllKeeping (j ∷ js)

pub each_keeps : (f : ℕ) {js : List Judged} → AllKeeping js → Keeps (each_at f js)
each_keeps f none_keeping = keeps_fine
each_keeps f (more_keeping h hs) = keeps_both (h f) (each_keeps f hs)

pub logic_keeps : (alone : Bool) (f : ℕ) {js : List Judged} → AllKeeping js → Keeps (logic_faults alone f js)
logic_keeps alone f none_keeping = keeps_fine
logic_keeps alone f (more_keeping {j = j} h hs) = keeps_both (h (scale_for alone f j.shape.operand)) (logic_keeps alone f hs)

division_keeps : (division : Bool) (s : RawFactorSign) (asked f1 f2 : ℕ) → Keeps (division_faults division s asked f1 f2)
division_keeps true s asked f1 f2 = keeps_unless (can_divide asked f1 f2) rule.ScaleRange s.at
division_keeps false s asked f1 f2 = keeps_fine

pub factor_keeps : (s : RawFactorSign) (asked f1 f2 : ℕ) → Keeps (factor_faults s asked f1 f2)
factor_keeps s asked f1 f2 = division_keeps (is_division s.op) s asked f1 f2

pub chain_keeps : (asked f1 before : ℕ) {js : List Judged} (signs : List RawFactorSign) → AllKeeping js → Keeps (chain_faults asked f1 before js signs)
chain_keeps asked f1 before signs none_keeping = keeps_fine
chain_keeps asked f1 before [] (more_keeping h hs) = keeps_fine
chain_keeps asked f1 before (s ∷ signs) (more_keeping {j = j} {js = js} h hs) =
    let n : ℕ = max before j.shape.natural in
    keeps_both (h j.shape.operand) (keeps_both (factor_keeps s (scale_before js asked n) f1 j.shape.operand) (chain_keeps asked n n signs hs))

pub term_keeps : (asked : ℕ) {js : List Judged} (signs : List RawFactorSign) → AllKeeping js → Keeps (term_faults asked js signs)
term_keeps asked signs none_keeping = keeps_fine
term_keeps asked signs (more_keeping {j = j} {js = js} h hs) =
    keeps_both (h (scale_before js asked j.shape.operand)) (chain_keeps asked j.shape.operand j.shape.natural signs hs)
