-- What the names of a program are: the places of its procedures, labels and switches in the image.
use Rattle.std.proofs.Common.{◌≡◌, inl, inr, ℕ, zero, suc, ◌+◌, ◌%◌, ◌<◌, ◌≤◌, Bool, true, false, ℤ, pos, negsuc, List, [], ◌∷◌, ◌++◌, length, take, drop, Option, Some, None, refl, sym, ap, ◌∙◌, subst, arith}
use Rattle.std.specs.Prelude.{slice_get, slice_index, ◌&&◌, if◌then◌else◌}
use Rattle.std.specs.List.{All}
use Rattle.std.proofs.lemmas.Bool.{false≢true}
use Rattle.std.proofs.lemmas.List.Elements.{All-head, All-tail}
use Rattle.cw_run86.specs.Views.{word_difference}
use Rattle.cw_word.specs.FixedPoint.{FitsWord}
use Rattle.cw_word.specs.Word.{unsigned}
use Rattle.cw_unit.specs.declared.unit.Goal.{Goal}
use Rattle.cw_unit.specs.declared.unit.Goal.TheVariants as goal
use Rattle.cw_unit.specs.declared.unit.Def.{Def}
use Rattle.cw_unit.specs.declared.unit.Def.TheVariants as def
use Rattle.cw_unit.specs.Words.{Control, Operand, Word, Held}
use Rattle.cw_unit.specs.Step.{label_of_def, goal_at}
use Rattle.cw_order.specs.declared.order.Orders.{Orders}
use Rattle.cw_order.specs.OrderProgram.{LabelEntry, ProcedureEntry, Tables, OrderProgram, order_in, mark_in, place_of, label_in, label_at, procedure_in, procedure_at, switch_in, switch_at, label_of, defined_at}
use Rattle.cw_order.specs.OrderState.{OrderActivation, argument_behind}
use Rattle.cw_order.specs.OrderMachine.{after}
use Rattle.cw_order.specs.Activations.{ControlStands, OperandStands}
use Rattle.cw_order.specs.declared.order.Order.{Order}
use Rattle.cw_unit.specs.Words.{Words}
use Rattle.cw_tmpl.specs.Named.{label_of_order, switch_of_order, is_named_label, is_named_switch}
use Rattle.cw_tmpl.specs.Blocks.{left_at}
use Rattle.cw_tmpl.specs.Names.{way_to_label, label_start, procedure_start, landing_start}
use Rattle.cw_tmpl.specs.ReferenceCode.{mark_starts, names_of}
use Rattle.cw_follow.specs.Placing.{base_of, start_in, label_place, definition_place}
use Rattle.cw_tmpl.proofs.Sizes.{own_place, mark_start}
use Rattle.cw_follow.proofs.InBlocks.{begins_at}
use Rattle.cw_follow.proofs.Named.{order_names_label, order_names_switch, shared_label_named, listed_label_named}
use Rattle.cw_follow.proofs.Stacks.{LabelNamed, start_small}
use Rattle.cw_follow.proofs.States.{Given, Sound}
use Rattle.cw_follow.proofs.Watched.{Watched}
use Rattle.cw_follow.proofs.Tables.{from_zero, none_is_far, less_is_far, number_fits, not_within, goal_value}

-- the arguments of a call and the caller's operands
pub taken_dropped : (n : ℕ) (xs : List Operand) → xs ≡ take n xs ++ drop n xs
taken_dropped zero xs = refl
taken_dropped (suc n) [] = refl
taken_dropped (suc n) (x ∷ xs) = ap (λ ys. x ∷ ys) (taken_dropped n xs)

pub both_true : (a b : Bool) → (a && b) ≡ true → (a ≡ true) × (b ≡ true)
both_true true b e = (refl, e)
both_true false b e = absurd (false≢true e)

pub got_index : (xs : List ℕ) (k x : ℕ) → slice_get xs k ≡ Some x → slice_index xs k ≡ x
got_index [] k x e = absurd (cc)
got_index (y ∷ ys) zero x e = cc
got_index (y ∷ ys) (suc k) x e = got_index ys k x e

pub some_same : {x y : Orders} → Some x ≡ Some y → x ≡ y
some_same e = cc

-- the number of a goal
pub goal_number : (gs : List Goal) (z : ℤ) (x : Goal) → goal_at gs z ≡ Some x → (k : ℕ) × (z ≡ pos (suc k)) × (slice_get gs k ≡ Some x)
goal_number gs (pos zero) x e = absurd (cc)
goal_number gs (pos (suc k)) x e = (k, refl, e)
goal_number gs (negsuc k) x e = absurd (cc)

pub no_goal : (gs : List Goal) (z : ℤ) → FitsWord z → length gs < 32768 → goal_at gs z ≡ None → length gs ≤ word_difference (unsigned z) 1
no_goal gs (pos zero) fits short e = let f = none_is_far in omega arith
no_goal gs (pos (suc k)) fits short e = let f = from_zero k (number_fits k fits) in let g = not_within gs k e in omega arith
no_goal gs (negsuc k) fits short e = let f = less_is_far k fits in omega arith

-- a control argument stands
pub argument_stands : (p : OrderProgram) (g : ℕ) (acts : List OrderActivation) (k : ℕ) (xs : List Operand) (c : Control) → All (OperandStands p g acts) xs → argument_behind k xs ≡ Some (Held c) → ControlStands p g acts c
argument_stands p g acts k [] c h is = absurd (cc)
argument_stands p g acts zero (Word z ∷ xs) c h is = absurd (cc)
argument_stands p g acts zero (Held d ∷ xs) c h is =
    let same : d ≡ c = cc in
    subst (ControlStands p g acts) same (All-head (OperandStands p g acts) (Held d) xs h)
argument_stands p g acts (suc k) (Word z ∷ xs) c h is = argument_stands p g acts k xs c (All-tail (OperandStands p g acts) (Word z) xs h) is
argument_stands p g acts (suc zero) (Held d ∷ xs) c h is = absurd (cc)
argument_stands p g acts (suc (suc k)) (Held d ∷ xs) c h is = argument_stands p g acts k xs c (All-tail (OperandStands p g acts) (Held d) xs h) is

module _ (known : Given) where
  open known use {rows, p, image, all, coded, few, low}

  -- ---- places of procedures

  -- what the tables tell of a segment is what its unit's lists tell
  pub procedure_listed : (to n : ℕ) (o : Orders) (e : ProcedureEntry) → slice_get p.units to ≡ Some o → procedure_at p to n ≡ Some e → slice_get o.procedures n ≡ Some e.mark
  procedure_listed to n o e unit is = cases (slice_get p.tables to) refl
    where
      cases : (t : Option Tables) → slice_get p.tables to ≡ t → slice_get o.procedures n ≡ Some e.mark
      cases None none = let f : procedure_at p to n ≡ None = ap (λ x. procedure_in x n) none in absurd (cc)
      cases (Some t) some = (coded.tables to t o some unit).procedures n e (sym (ap (λ x. procedure_in x n) some) ∙ is)

  pub mark_listed : (to m k : ℕ) (o : Orders) → slice_get p.units to ≡ Some o → place_of p to m ≡ Some k → slice_get o.marks m ≡ Some k
  mark_listed to m k o unit is = sym (ap (λ u. mark_in u m) unit) ∙ is

  pub procedure_is : (to n k : ℕ) (o : Orders) (e : ProcedureEntry) → slice_get p.units to ≡ Some o → procedure_at p to n ≡ Some e → place_of p to e.mark ≡ Some k → k ≤ length o.list → procedure_start (names_of o) n ≡ own_place o k
  procedure_is to n k o e unit is there within =
      ap (mark_starts o) (got_index o.procedures n e.mark (procedure_listed to n o e unit is)) ∙ mark_start o e.mark k (mark_listed to e.mark k o unit there) within

  pub start_is : (to : ℕ) (o : Orders) (f : Orders → ℕ) → slice_get p.units to ≡ Some o → start_in p to (slice_get p.units to) f ≡ (base_of p to + f o) % 65536
  start_is to o f unit = ap (λ u. start_in p to u f) unit

  pub label_listed : (to l : ℕ) (o : Orders) (e : LabelEntry) → slice_get p.units to ≡ Some o → label_at p to l ≡ Some e → slice_get o.labels l ≡ Some (record { mark = e.mark; in_procedure = e.in_procedure })
  label_listed to l o e unit is = cases (slice_get p.tables to) refl
    where
      cases : (t : Option Tables) → slice_get p.tables to ≡ t → slice_get o.labels l ≡ Some (record { mark = e.mark; in_procedure = e.in_procedure })
      cases None none = let f : label_at p to l ≡ None = ap (λ x. label_in x l) none in absurd (cc)
      cases (Some t) some = (coded.tables to t o some unit).labels l e (sym (ap (λ x. label_in x l) some) ∙ is)

  pub label_start_is : (to l : ℕ) (o : Orders) (e : LabelEntry) (b : Bool) → e.in_procedure ≡ b → slice_get p.units to ≡ Some o → label_at p to l ≡ Some e
      → label_start (names_of o) l ≡ (if b then mark_starts o e.mark else landing_start (names_of o) l)
  label_start_is to l o e b eb unit is =
      ap (way_to_label (names_of o) l) (label_listed to l o e unit is) ∙ ap (λ x. if x then mark_starts o e.mark else landing_start (names_of o) l) eb

  pub switch_listed : (to n : ℕ) (gs : List Goal) → switch_at p to n ≡ Some gs → (o : Orders) × (slice_get p.units to ≡ Some o) × (slice_get o.switches n ≡ Some gs)
  switch_listed to n gs is = cases (slice_get p.tables to) refl
    where
      cases : (t : Option Tables) → slice_get p.tables to ≡ t → (o : Orders) × (slice_get p.units to ≡ Some o) × (slice_get o.switches n ≡ Some gs)
      cases None none = let f : switch_at p to n ≡ None = ap (λ x. switch_in x n) none in absurd (cc)
      cases (Some t) some =
          let u = coded.paired to t some in
          (u.0, u.1, (coded.tables to t u.0 some u.1).switches n gs (sym (ap (λ x. switch_in x n) some) ∙ is))

  pub label_small : (to l : ℕ) → label_place p to l < 65536
  label_small to l = start_small p to (slice_get p.units to) (λ o. label_start (names_of o) l)

  pub defined_label : (x : Option (ℕ × Def)) (l : ℕ × ℕ) → label_of_def x ≡ Some l → definition_place p x ≡ label_place p l.0 l.1
  defined_label (Some (to, def.Label k)) l e = let same : (to, k) ≡ l = cc in ap (λ y. label_place p y.0 y.1) same
  defined_label _ l e = absurd (cc)

  -- the word of a goal is the place of its label
  pub goal_place : (to : ℕ) (o : Orders) (unit : slice_get p.units to ≡ Some o) (x : Goal) (l : ℕ × ℕ) (after : ℕ) → label_of p to x ≡ Some l → goal_value (all.stands to o unit).value (names_of o) x after ≡ label_place p l.0 l.1
  goal_place to o unit (goal.Own k) l after is =
      let same : (to, k) ≡ l = cc in
      let filled = (all.stands to o unit).fills.places (label_start (names_of o) k % 65536) after in
      let sum : (base_of p to + label_start (names_of o) k % 65536) % 65536 ≡ (base_of p to + label_start (names_of o) k) % 65536 = omega arith in
      filled ∙ sum ∙ sym (start_is to o (λ u. label_start (names_of u) k) unit) ∙ ap (λ y. label_place p y.0 y.1) same
  goal_place to o unit (goal.Common d) l after is = (all.stands to o unit).fills.definitions d after ∙ defined_label (defined_at p to d) l is

  -- what names a label or a switch: an order of the segment at work, and a switch that is named
  pub own_label : {q : Watched} {g place : ℕ} {loaded : Bool} {acts : List OrderActivation} {w : Words} (s : Sound p image g place loaded acts w q) (l : ℕ) (it : Order) → slice_get s.orders.list place ≡ Some it → label_of_order it ≡ Some l
      → (o : Orders) → slice_get p.units g ≡ Some o → is_named_label o l ≡ true
  own_label {place = place} s l it e names o unit =
      let same : s.orders ≡ o = some_same (sym s.unit ∙ unit) in
      subst (λ u. is_named_label u l ≡ true) same (order_names_label s.orders place l it e names)

  pub own_switch : {q : Watched} {g place : ℕ} {loaded : Bool} {acts : List OrderActivation} {w : Words} (s : Sound p image g place loaded acts w q) (n : ℕ) (it : Order) → slice_get s.orders.list place ≡ Some it → switch_of_order it ≡ Some n
      → (o : Orders) → slice_get p.units g ≡ Some o → is_named_switch o n ≡ true
  own_switch {place = place} s n it e names o unit =
      let same : s.orders ≡ o = some_same (sym s.unit ∙ unit) in
      subst (λ u. is_named_switch u n ≡ true) same (order_names_switch s.orders place n it e names)

  pub goal_named : (to n k : ℕ) (o : Orders) (gs : List Goal) (x : Goal) (l : ℕ × ℕ) → slice_get p.units to ≡ Some o → slice_get o.switches n ≡ Some gs → is_named_switch o n ≡ true → slice_get gs k ≡ Some x → label_of p to x ≡ Some l
      → LabelNamed p l.0 l.1
  goal_named to n k o gs (goal.Own j) l unit is named here found =
      let same : (to, j) ≡ l = cc in
      subst (λ (y : ℕ × ℕ). LabelNamed p y.0 y.1) same (λ u there.
      let one : o ≡ u = some_same (sym unit ∙ there) in
      subst (λ v. is_named_label v j ≡ true) one (listed_label_named o j n k gs is named here))
  goal_named to n k o gs (goal.Common d) l unit is named here found = defined (defined_at p to d) refl found
    where
      defined : (x : Option (ℕ × Def)) → defined_at p to d ≡ x → label_of_def x ≡ Some l → LabelNamed p l.0 l.1
      defined None e h = absurd (cc)
      defined (Some (at, def.Label j)) e h =
          let same : (at, j) ≡ l = cc in
          subst (λ (y : ℕ × ℕ). LabelNamed p y.0 y.1) same (λ u there. shared_label_named u j (coded.shared to d at (def.Label j) u e there))
      defined (Some (at, def.Switch j)) e h = absurd (cc)
      defined (Some (at, def.Proc j)) e h = absurd (cc)

  -- a mark is where a block begins
  pub begins_there : (to m k : ℕ) (o : Orders) → slice_get p.units to ≡ Some o → place_of p to m ≡ Some k → left_at 0 o.list k ≡ 0
  begins_there to m k o unit is = elim (coded.marks to m k is) [
    | inl zero_is ↦ ap (left_at 0 o.list) zero_is
    | inr begins ↦ begins_at o.list k begins.0 (sym (ap (λ u. order_in u k) unit) ∙ begins.1) begins.2
  ]
