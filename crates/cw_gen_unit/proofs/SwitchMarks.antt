-- The marks of the labels of a switch, where the body owns them all.
use Rattle.std.proofs.Common.{◌≡◌, ℕ, zero, suc, ◌<◌, ◌≤◌, ℤ, pos, negsuc, List, [], ◌∷◌, ◌++◌, length, Bool, true, false, ◌&&◌, Option, Some, None, refl, sym, ap, ◌∙◌, subst, arith}
use Rattle.std.specs.Prelude.{nat_lt, slice_get, if◌then◌else◌}
use Rattle.std.proofs.lemmas.Bool.{ltb-true}
use Rattle.std.proofs.lemmas.Option.{none-some, same_Some}
use Rattle.cw_unit.specs.declared.unit.Unit.{Unit as SourceUnit}
use Rattle.cw_unit.specs.declared.unit.Label.{Label}
use Rattle.cw_unit.specs.declared.unit.Goal.{Goal}
use Rattle.cw_unit.specs.declared.unit.Goal.TheVariants as goal
use Rattle.cw_unit.specs.Step.{goal_at, switch_in}
use Rattle.cw_order.specs.declared.order.Order.{Order}
use Rattle.cw_order.specs.declared.order.Order.TheVariants as order
use Rattle.cw_order.specs.OrderChanges.{mark_of_number}
use Rattle.cw_gen_expr.specs.UnitTables.{label_mark}
use Rattle.cw_gen_unit.specs.ReferenceStatements.{own_order, goal_order, plain_mark, mark_before, plain_marks, table_marks, owned_marks}

-- from the segment's body each label is met by a plain jump, from a procedure none of the segment's body
abbrev pub IsPlain : (who : Option ℕ) → Option Label → Type 0
IsPlain None x = Unit {0}
IsPlain (Some q) None = Unit {0}
IsPlain (Some q) (Some x) = (r : ℕ) × (x.proc ≡ Some r)

-- the mark of a label of the unit's own, which a plain jump meets
pub record PlainMark (u : SourceUnit) (who : Option ℕ) (g : Goal) (m : ℕ) : Type 0 where
  pub label : ℕ
  pub is : g ≡ goal.Own label
  pub mark : m ≡ label_mark u label
  pub plain : IsPlain who (slice_get u.labels label)

-- the order by the procedure of a label
abbrev from_owner : Option ℕ → (mark : ℕ) → Order
from_owner o m = elim o [ None ↦ order.GoMain m | Some q ↦ order.Jump m ]

module _ (u : SourceUnit) (who : Option ℕ) where
  of_label : (label : ℕ) (x : Option Label) (o : Option ℕ) (m : ℕ) → plain_mark (own_order o x (label_mark u label)) ≡ Some m → (m ≡ label_mark u label) × IsPlain o x
  of_label label x None m e = (sym (same_Some (label_mark u label) m e), tt)
  of_label label None (Some q) m e = (sym (same_Some (label_mark u label) m e), tt)
  of_label label (Some x) (Some q) m e = by_owner x.proc refl
    where
      by_owner : (r : Option ℕ) → x.proc ≡ r → (m ≡ label_mark u label) × ((r' : ℕ) × (x.proc ≡ Some r'))
      by_owner None is = absurd (none-some m (sym (ap (λ r. plain_mark (from_owner r (label_mark u label))) is) ∙ e))
      by_owner (Some r) is = (sym (same_Some (label_mark u label) m (sym (ap (λ r'. plain_mark (from_owner r' (label_mark u label))) is) ∙ e)), (r, is))

  of_goal : (g : Goal) (m : ℕ) → plain_mark (goal_order u who g) ≡ Some m → PlainMark u who g m
  of_goal (goal.Own label) m e = let h = of_label label (slice_get u.labels label) who m e in record { label = label; is = refl; mark = h.0; plain = h.1 }
  of_goal (goal.Common d) m e = absurd (none-some m e)

  -- the first of several
  pub record Marked (g : Goal) (gs : List Goal) (ms : List ℕ) : Type 0 where
    pub first : ℕ
    pub rest : List ℕ
    pub is : ms ≡ first ∷ rest
    pub first_is : plain_mark (goal_order u who g) ≡ Some first
    pub rest_is : plain_marks u who gs ≡ Some rest

  marked : (g : Goal) (gs : List Goal) (ms : List ℕ) → plain_marks u who (g ∷ gs) ≡ Some ms → Marked g gs ms
  marked g gs ms e = parts (plain_mark (goal_order u who g)) (plain_marks u who gs) refl refl e
    where
      parts : (m : Option ℕ) (o : Option (List ℕ)) → plain_mark (goal_order u who g) ≡ m → plain_marks u who gs ≡ o → mark_before m o ≡ Some ms → Marked g gs ms
      parts None o m_is o_is h = absurd (none-some ms h)
      parts (Some m) None m_is o_is h = absurd (none-some ms h)
      parts (Some m) (Some ns) m_is o_is h = record { first = m; rest = ns; is = sym (same_Some (m ∷ ns) ms h); first_is = m_is; rest_is = o_is }

  pub as-many : (gs : List Goal) (ms : List ℕ) → plain_marks u who gs ≡ Some ms → length ms ≡ length gs
  as-many [] ms e = sym (ap length (same_Some [] ms e))
  as-many (g ∷ gs) ms e = let h = marked g gs ms e in ap length h.is ∙ ap suc (as-many gs h.rest h.rest_is)

  -- each goal has its mark
  mark-at : (gs : List Goal) (ms : List ℕ) (n : ℕ) (g : Goal) → plain_marks u who gs ≡ Some ms → slice_get gs n ≡ Some g → (m : ℕ) × (slice_get ms n ≡ Some m) × PlainMark u who g m
  mark-at [] ms n g e h = absurd (none-some g h)
  mark-at (x ∷ gs) ms zero g e h =
      let p = marked x gs ms e in (p.first, ap (λ xs. slice_get xs 0) p.is, subst (λ y. PlainMark u who y p.first) (same_Some x g h) (of_goal x p.first p.first_is))
  mark-at (x ∷ gs) ms (suc n) g e h =
      let p = marked x gs ms e in
      let r = mark-at gs p.rest n g p.rest_is h in
      (r.0, ap (λ xs. slice_get xs (suc n)) p.is ∙ r.1, r.2)

  no-mark : (gs : List Goal) (ms : List ℕ) (n : ℕ) → plain_marks u who gs ≡ Some ms → slice_get gs n ≡ None → slice_get ms n ≡ None
  no-mark [] ms n e h = ap (λ xs. slice_get xs n) (sym (same_Some [] ms e))
  no-mark (x ∷ gs) ms zero e h = absurd (none-some x (sym h))
  no-mark (x ∷ gs) ms (suc n) e h = let p = marked x gs ms e in ap (λ xs. slice_get xs (suc n)) p.is ∙ no-mark gs p.rest n p.rest_is h

  -- by the index, from 1
  pub marked-at : (gs : List Goal) (ms : List ℕ) (z : ℤ) (g : Goal) → plain_marks u who gs ≡ Some ms → goal_at gs z ≡ Some g
      → (m : ℕ) × (mark_of_number ms z ≡ Some m) × PlainMark u who g m
  marked-at gs ms (pos zero) g e h = absurd (none-some g h)
  marked-at gs ms (pos (suc n)) g e h = mark-at gs ms n g e h
  marked-at gs ms (negsuc n) g e h = absurd (none-some g h)

  pub unmarked-at : (gs : List Goal) (ms : List ℕ) (z : ℤ) → plain_marks u who gs ≡ Some ms → goal_at gs z ≡ None → mark_of_number ms z ≡ None
  unmarked-at gs ms (pos zero) e h = refl
  unmarked-at gs ms (pos (suc n)) e h = no-mark gs ms n e h
  unmarked-at gs ms (negsuc n) e h = refl

  -- a switch that has a table
  pub record Table (n : ℕ) (ms : List ℕ) : Type 0 where
    pub goals : List Goal
    pub goals_are : switch_in (Some u) n ≡ Some goals
    pub marks_are : plain_marks u who goals ≡ Some ms
    pub some : 0 < length ms
    pub few : length ms ≤ 32

  pub owned : (n : ℕ) (ms : List ℕ) → owned_marks u who n ≡ Some ms → Table n ms
  owned n ms e = of_list (switch_in (Some u) n) refl e
    where
      of_goals : (gs : List Goal) (a b : Bool) → switch_in (Some u) n ≡ Some gs → nat_lt 0 (length gs) ≡ a → nat_lt (length gs) 33 ≡ b
          → (if a && b then plain_marks u who gs else None) ≡ Some ms → Table n ms
      of_goals gs false b is ha hb h = absurd (none-some ms h)
      of_goals gs true false is ha hb h = absurd (none-some ms h)
      of_goals gs true true is ha hb h =
          let same = as-many gs ms h in
          let least = ltb-true 0 (length gs) ha in
          let most = ltb-true (length gs) 33 hb in
          record { goals = gs; goals_are = is; marks_are = h; some = omega (arith, same, least); few = omega (arith, same, most) }

      of_list : (o : Option (List Goal)) → switch_in (Some u) n ≡ o → table_marks u who o ≡ Some ms → Table n ms
      of_list None is h = absurd (none-some ms h)
      of_list (Some gs) is h = of_goals gs (nat_lt 0 (length gs)) (nat_lt (length gs) 33) is refl refl h

  pub few-marks : (n : ℕ) (ms : List ℕ) → owned_marks u who n ≡ Some ms → (0 < length ms) × (length ms ≤ 32)
  few-marks n ms e = let t = owned n ms e in (t.some, t.few)

-- ---- one after another, as the code takes them

-- with marks before them
abbrev pub behind : List ℕ → Option (List ℕ) → Option (List ℕ)
behind xs None = None
behind xs (Some ms) = Some (xs ++ ms)
