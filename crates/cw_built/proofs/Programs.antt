-- What code needs of the program of the orders of units.
use Rattle.std.proofs.Common.{◌≡◌, ◌⊎◌, inl, inr, ℕ, zero, suc, ◌<◌, ◌≤◌, ℤ, pos, negsuc, List, [], ◌∷◌, length, All, Bool, true, false, ◌&&◌, ◌||◌, IsTrue, nat_eq, Option, Some, None, slice_get, refl, sym, ap, subst, ◌∙◌}
use Rattle.std.specs.Prelude.{option_map, is_some}
use Rattle.std.proofs.lemmas.Bool.{eqb-true, ltb-true}
use Rattle.std.proofs.lemmas.Option.{none-some, same_Some, slice_get-map}
use Rattle.cw_unit.specs.declared.unit.Unit.{Unit as SourceUnit}
use Rattle.cw_unit.specs.declared.unit.Proc.{Proc}
use Rattle.cw_unit.specs.declared.unit.Label.{Label}
use Rattle.cw_unit.specs.declared.unit.Switch.{Switch}
use Rattle.cw_unit.specs.declared.unit.Goal.{Goal}
use Rattle.cw_unit.specs.declared.unit.Goal.TheVariants as goal_of
use Rattle.cw_unit.specs.declared.unit.Def.{Def}
use Rattle.cw_unit.specs.declared.unit.Def.TheVariants as def
use Rattle.cw_unit.specs.declared.descriptor.DescBody.{DescBody}
use Rattle.cw_unit.specs.declared.descriptor.DescBody.TheVariants as bodies
use Rattle.cw_unit.specs.declared.layout.Limits.{Limits}
use Rattle.cw_unit.specs.declared.layout.Map.{Map}
use Rattle.cw_unit.specs.Program.{name_of}
use Rattle.cw_unit.specs.Step.{label_of_def, label_of_goal, goal_at, goals_of}
use Rattle.cw_order.specs.declared.order.Order.{Order}
use Rattle.cw_order.specs.declared.order.Order.TheVariants as order
use Rattle.cw_order.specs.declared.order.Orders.{Orders}
use Rattle.cw_order.specs.HasCode.{HasCode}
use Rattle.cw_order.specs.FittingWords.{LinesFit}
use Rattle.cw_order.specs.NamesAgree.{NamesAgree}
use Rattle.cw_order.specs.Activations.{Callable}
use Rattle.cw_order.specs.OrderProgram.{LabelEntry, ProcedureEntry, Tables, OrderProgram, order_in, mark_in, label_in, procedure_in, switch_in, defined_in, order_at, place_of, label_at, procedure_at, switch_at, defined_at, label_of}
use Rattle.cw_gen_expr.specs.UnitTables.{label_entry, procedure_entry, tables_of}
use Rattle.cw_gen_unit.specs.ReferenceUnits.{unit_orders, orders_program}
use Rattle.cw_safety.specs.WellFormed.{sets, sets_in_procedure, is_at, reaches_label, reaches, reaches_goals, reaches_list, reaches_switch}
use Rattle.cw_safety.proofs.Truth.{both, no}
use Rattle.cw_built.specs.Coded.{has_code, is_enter, is_landing, lands, is_mark, enters, enters_at, is_entry, has_few, have_code}
use Rattle.cw_built.specs.Built.{alone, defines_as, is_built}
use Rattle.cw_built.proofs.Truth.{all-get}
use Rattle.cw_built.proofs.NamesAgreeing.{agree}
use Rattle.cw_built.proofs.OrderCodes.{coded-order, lined, parts}
use Rattle.cw_built.proofs.Agreeing.{all-at, found-there}

landing : (v : Option Order) → IsTrue (lands v) → (o : Order) × (v ≡ Some o) × IsTrue (is_landing o)
landing None h = no h
landing (Some o) h = (o, refl, h)

first-or-landing : (os : List Order) (place : ℕ) (b : Bool) → nat_eq place 0 ≡ b → IsTrue (b || lands (slice_get os place)) → (place ≡ 0) ⊎ ((o : Order) × (slice_get os place ≡ Some o) × IsTrue (is_landing o))
first-or-landing os place true e h = inl (eqb-true place 0 e)
first-or-landing os place false e h = inr (landing (slice_get os place) h)

entering : (o : Order) → IsTrue (is_enter o) → (size : ℕ) × (o ≡ order.Enter size)
entering (order.Enter size) h = (size, refl)
entering _ h = no h

enters-some : (v : Option Order) → IsTrue (enters v) → (size : ℕ) × (v ≡ Some (order.Enter size))
enters-some None h = no h
enters-some (Some o) h = let e = entering o h in (e.0, ap (λ x. Some x) e.1)

enters-where : (os : List Order) (v : Option ℕ) (k : ℕ) → IsTrue (enters_at os v) → v ≡ Some k → (size : ℕ) × (slice_get os k ≡ Some (order.Enter size))
enters-where os None k h e = no h
enters-where os (Some place) k h e = let at = enters-some (slice_get os place) h in (at.0, ap (slice_get os) (sym (same_Some place k e)) ∙ at.1)

-- ---- labels of segments

by-owner : (v : SourceUnit) (l : ℕ) (r : Option ℕ) → IsTrue (elim r [ None ↦ sets l v.body | Some q ↦ is_at 0 q None && sets_in_procedure l (slice_get v.procs q) ]) → is_some r ≡ false
by-owner v l None t = refl
by-owner v l (Some q) t = no t

outside : (v : SourceUnit) (l : ℕ) (x : Option Label) (e : LabelEntry) → IsTrue (reaches_label (record v { defined = [] }) x 0 l None) → option_map (label_entry v l) x ≡ Some e → e.in_procedure ≡ false
outside v l None e t is = no t
outside v l (Some x) e t is = ap (λ (y : LabelEntry). y.in_procedure) (sym (same_Some (label_entry v l x) e is)) ∙ by-owner v l x.proc t

label-met : (v : SourceUnit) (b : DescBody) (l : ℕ) → IsTrue (defines_as v b (def.Label l)) → IsTrue (reaches (alone v) None (Some (0, l)))
label-met v bodies.Label l t = t
label-met v _ l t = no t

switch-met : (v : SourceUnit) (b : DescBody) (n : ℕ) → IsTrue (defines_as v b (def.Switch n)) → IsTrue (reaches_switch (alone v) None (Some (0, n)))
switch-met v bodies.Switch n t = t
switch-met v _ n t = no t

goal-within : (v : SourceUnit) (gs : List Goal) (k : ℕ) (x : Goal) → IsTrue (reaches_goals (alone v) None 0 gs) → slice_get gs k ≡ Some x → IsTrue (reaches (alone v) None (label_of_goal (alone v) 0 x))
goal-within v [] k x t e = absurd (none-some x e)
goal-within v (y ∷ gs) zero x t e = subst (λ z. IsTrue (reaches (alone v) None (label_of_goal (alone v) 0 z))) (same_Some y x e) (both (reaches (alone v) None (label_of_goal (alone v) 0 y)) (reaches_goals (alone v) None 0 gs) t).0
goal-within v (y ∷ gs) (suc k) x t e = goal-within v gs k x (both (reaches (alone v) None (label_of_goal (alone v) 0 y)) (reaches_goals (alone v) None 0 gs) t).1 e

goal-reached : (v : SourceUnit) (gs : List Goal) (i : ℤ) (x : Goal) → IsTrue (reaches_goals (alone v) None 0 gs) → goal_at gs i ≡ Some x → IsTrue (reaches (alone v) None (label_of_goal (alone v) 0 x))
goal-reached v gs (pos zero) x t e = absurd (none-some x e)
goal-reached v gs (pos (suc k)) x t e = goal-within v gs k x t e
goal-reached v gs (negsuc k) x t e = absurd (none-some x e)

goals-met : (v : SourceUnit) (s : Option Switch) (gs : List Goal) → IsTrue (reaches_list (alone v) None 0 (goals_of s)) → goals_of s ≡ Some gs → IsTrue (reaches_goals (alone v) None 0 gs)
goals-met v None gs t e = no t
goals-met v (Some s) gs t e = subst (λ xs. IsTrue (reaches_goals (alone v) None 0 xs)) (same_Some s.list gs e) t

label-of : (f : Option (ℕ × Def)) (l : ℕ × ℕ) → label_of_def f ≡ Some l → f ≡ Some (l.0, def.Label l.1)
label-of None l e = absurd (none-some l e)
label-of (Some (g, def.Label k)) l e = ap (λ (x : ℕ × ℕ). Some (x.0, def.Label x.1)) (same_Some (g, k) l e)
label-of (Some (g, def.Switch k)) l e = absurd (none-some l e)
label-of (Some (g, def.Proc k)) l e = absurd (none-some l e)

module _ (us : List SourceUnit) (m : Map) (limits : Limits) (room : ℕ) where
  abbrev p : OrderProgram
  p = orders_program us m limits room

  unit-orders : (g : ℕ) → slice_get p.units g ≡ option_map unit_orders (slice_get us g)
  unit-orders g = slice_get-map unit_orders us g

  unit-tables : (g : ℕ) → slice_get p.tables g ≡ option_map (tables_of us) (slice_get us g)
  unit-tables g = slice_get-map (tables_of us) us g

  agree-by : (v : Option SourceUnit) (t : Tables) (o : Orders) → option_map (tables_of us) v ≡ Some t → option_map unit_orders v ≡ Some o → NamesAgree t o
  agree-by None t o e f = absurd (none-some t e)
  agree-by (Some u) t o e f = subst (λ x. NamesAgree x o) (same_Some (tables_of us u) t e) (subst (λ y. NamesAgree (tables_of us u) y) (same_Some (unit_orders u) o f) (agree us u))

  pub tables : (g : ℕ) (t : Tables) (o : Orders) → slice_get p.tables g ≡ Some t → slice_get p.units g ≡ Some o → NamesAgree t o
  tables g t o e f = agree-by (slice_get us g) t o (sym (unit-tables g) ∙ e) (sym (unit-orders g) ∙ f)

  paired-by : (v : Option SourceUnit) (t : Tables) → option_map (tables_of us) v ≡ Some t → (o : Orders) × (option_map unit_orders v ≡ Some o)
  paired-by None t e = absurd (none-some t e)
  paired-by (Some u) t e = (unit_orders u, refl)

  pub paired : (g : ℕ) (t : Tables) → slice_get p.tables g ≡ Some t → (o : Orders) × (slice_get p.units g ≡ Some o)
  paired g t e = let r = paired-by (slice_get us g) t (sym (unit-tables g) ∙ e) in (r.0, unit-orders g ∙ r.1)

  entry-by : (v : Option SourceUnit) (o : Orders) → option_map unit_orders v ≡ Some o → o.entry ≡ 0
  entry-by None o e = absurd (none-some o e)
  entry-by (Some u) o e = ap (λ (x : Orders). x.entry) (sym (same_Some (unit_orders u) o e))

  pub entries : (g : ℕ) (o : Orders) → slice_get p.units g ≡ Some o → o.entry ≡ 0
  entries g o e = entry-by (slice_get us g) o (sym (unit-orders g) ∙ e)

  -- ---- orders

  module _ (h : All (λ u. IsTrue (have_code (unit_orders u))) us) where
    has : (g : ℕ) (u : SourceUnit) → slice_get us g ≡ Some u → IsTrue (have_code (unit_orders u))
    has g u here = all-at (λ v. IsTrue (have_code (unit_orders v))) us g u h here

    coded-by : (g place : ℕ) (o : Order) (v : Option SourceUnit) → slice_get us g ≡ v → order_in (option_map unit_orders v) place ≡ Some o → IsTrue (has_code o)
    coded-by g place o None here e = absurd (none-some o e)
    coded-by g place o (Some u) here e = all-get has_code (unit_orders u).list place o (parts (unit_orders u) (has g u here)).list e

    coded-at : (g place : ℕ) (o : Order) → order_at p g place ≡ Some o → IsTrue (has_code o)
    coded-at g place o e = coded-by g place o (slice_get us g) refl (sym (ap (λ v. order_in v place) (unit-orders g)) ∙ e)

    pub codes : (g place : ℕ) (o : Order) → order_at p g place ≡ Some o → HasCode o
    codes g place o e = coded-order o (lined o (coded-at g place o e)).0

    pub lines : LinesFit p
    lines g place o e = (lined o (coded-at g place o e)).1

    switch-by : (g n : ℕ) (o : Orders) (gs : List Goal) (v : Option SourceUnit) → slice_get us g ≡ v → option_map unit_orders v ≡ Some o → slice_get o.switches n ≡ Some gs → length gs < 32768
    switch-by g n o gs None here e f = absurd (none-some o e)
    switch-by g n o gs (Some u) here e f =
        let same = same_Some (unit_orders u) o e in
        ltb-true (length gs) 32768 (all-get has_few (unit_orders u).switches n gs (parts (unit_orders u) (has g u here)).switches (ap (λ (x : Orders). slice_get x.switches n) same ∙ f))

    pub switches : (g n : ℕ) (o : Orders) (gs : List Goal) → slice_get p.units g ≡ Some o → slice_get o.switches n ≡ Some gs → length gs < 32768
    switches g n o gs e f = switch-by g n o gs (slice_get us g) refl (sym (unit-orders g) ∙ e) f

    abbrev MarkStands : Option Orders → ℕ → Type 0
    MarkStands v place = (place ≡ 0) ⊎ ((o : Order) × (order_in v place ≡ Some o) × IsTrue (is_landing o))

    mark-by : (g k place : ℕ) (v : Option SourceUnit) → slice_get us g ≡ v → mark_in (option_map unit_orders v) k ≡ Some place → MarkStands (option_map unit_orders v) place
    mark-by g k place None here e = absurd (none-some place e)
    mark-by g k place (Some u) here e =
        first-or-landing (unit_orders u).list place (nat_eq place 0) refl (all-get (is_mark (unit_orders u).list) (unit_orders u).marks k place (parts (unit_orders u) (has g u here)).marks e)

    pub marks : (g k place : ℕ) → place_of p g k ≡ Some place → (place ≡ 0) ⊎ ((o : Order) × (order_at p g place ≡ Some o) × IsTrue (is_landing o))
    marks g k place e = subst (λ v. MarkStands v place) (sym (unit-orders g)) (mark-by g k place (slice_get us g) refl (sym (ap (λ v. mark_in v k) (unit-orders g)) ∙ e))

    -- ---- calls

    entry-in : (u : SourceUnit) (q : ℕ) (v : Option Proc) (e : ProcedureEntry) (k : ℕ) → IsTrue (have_code (unit_orders u)) → slice_get u.procs q ≡ v → option_map (procedure_entry u q) v ≡ Some e → slice_get (unit_orders u).marks e.mark ≡ Some k
        → (size : ℕ) × (slice_get (unit_orders u).list k ≡ Some (order.Enter size))
    entry-in u q None e k c is e-is at = absurd (none-some e e-is)
    entry-in u q (Some x) e k c is e-is at =
        let listed = (agree us u).procedures q e (ap (option_map (procedure_entry u q)) is ∙ e-is) in
        enters-where (unit_orders u).list (slice_get (unit_orders u).marks e.mark) k (all-get (is_entry (unit_orders u).list (unit_orders u).marks) (unit_orders u).procedures q e.mark (parts (unit_orders u) c).procedures listed) at

    enters-by : (g q : ℕ) (e : ProcedureEntry) (k : ℕ) (v : Option SourceUnit) → slice_get us g ≡ v → procedure_in (option_map (tables_of us) v) q ≡ Some e → mark_in (option_map unit_orders v) e.mark ≡ Some k
        → (size : ℕ) × (order_in (option_map unit_orders v) k ≡ Some (order.Enter size))
    enters-by g q e k None here is at = absurd (none-some e is)
    enters-by g q e k (Some u) here is at = entry-in u q (slice_get u.procs q) e k (has g u here) refl is at

    enters-there : (g q : ℕ) (e : ProcedureEntry) (k : ℕ) → procedure_at p g q ≡ Some e → place_of p g e.mark ≡ Some k → (size : ℕ) × (order_at p g k ≡ Some (order.Enter size))
    enters-there g q e k is at =
        let r = enters-by g q e k (slice_get us g) refl (sym (ap (λ v. procedure_in v q) (unit-tables g)) ∙ is) (sym (ap (λ v. mark_in v e.mark) (unit-orders g)) ∙ at) in
        (r.0, ap (λ v. order_in v k) (unit-orders g) ∙ r.1)

    module _ (passed : All (λ u. IsTrue (is_built u)) us) where
      record Met (to : ℕ) (x : Def) : Type 0 where
        unit : SourceUnit
        there : slice_get us to ≡ Some unit
        body : DescBody
        meets : IsTrue (defines_as unit body x)

      met-by : (d to : ℕ) (x : Def) (v : Option SourceUnit) → defined_in (option_map (tables_of us) v) d ≡ Some (to, x) → Met to x
      met-by d to x None e = absurd (none-some (to, x) e)
      met-by d to x (Some u) e = let r = found-there us passed (name_of u d) to x e in record { unit = r.0; there = r.1; body = r.2.desc.body; meets = r.2.meets }

      met : (g d to : ℕ) (x : Def) → defined_at p g d ≡ Some (to, x) → Met to x
      met g d to x e = met-by d to x (slice_get us g) (sym (ap (λ v. defined_in v d) (unit-tables g)) ∙ e)

      label-outside : (to l : ℕ) (v : SourceUnit) (e : LabelEntry) → slice_get us to ≡ Some v → IsTrue (reaches (alone v) None (Some (0, l))) → label_at p to l ≡ Some e → e.in_procedure ≡ false
      label-outside to l v e there t is = outside v l (slice_get v.labels l) e t (sym (ap (λ w. label_in w l) (unit-tables to ∙ ap (option_map (tables_of us)) there)) ∙ is)

      labels : (g d to l : ℕ) (e : LabelEntry) → defined_at p g d ≡ Some (to, def.Label l) → label_at p to l ≡ Some e → e.in_procedure ≡ false
      labels g d to l e is at = let r = met g d to (def.Label l) is in label-outside to l r.unit e r.there (label-met r.unit r.body l r.meets) at

      goal-outside : (to : ℕ) (v : SourceUnit) (x : Goal) (l : ℕ × ℕ) (e : LabelEntry) → slice_get us to ≡ Some v → IsTrue (reaches (alone v) None (label_of_goal (alone v) 0 x)) → label_of p to x ≡ Some l → label_at p l.0 l.1 ≡ Some e → e.in_procedure ≡ false
      goal-outside to v (goal_of.Own k) l e there t is at =
          let same : (to, k) ≡ l = same_Some (to, k) l is in
          label-outside to k v e there t (ap (λ (y : ℕ × ℕ). label_at p y.0 y.1) same ∙ at)
      goal-outside to v (goal_of.Common d) l e there t is at = labels to d l.0 l.1 e (label-of (defined_at p to d) l is) at

      switch-outside : (g d to n : ℕ) (gs : List Goal) (i : ℤ) (x : Goal) (l : ℕ × ℕ) (e : LabelEntry) → defined_at p g d ≡ Some (to, def.Switch n) → switch_at p to n ≡ Some gs → goal_at gs i ≡ Some x
          → label_of p to x ≡ Some l → label_at p l.0 l.1 ≡ Some e → e.in_procedure ≡ false
      switch-outside g d to n gs i x l e is switch at label entry =
          let r = met g d to (def.Switch n) is in
          let listed = sym (ap (λ w. switch_in w n) (unit-tables to ∙ ap (option_map (tables_of us)) r.there)) ∙ switch in
          let reached = goals-met r.unit (slice_get r.unit.switches n) gs (switch-met r.unit r.body n r.meets) listed in
          goal-outside to r.unit x l e r.there (goal-reached r.unit gs i x reached at) label entry

      pub callable : limits.frames ≤ limits.area → Callable p
      callable frames = record { frames = frames; enters = enters-there; labels = labels; switches = switch-outside }
