-- Jumps to labels that may leave activations.
use Rattle.std.proofs.Common.{◌≡◌, ℕ, suc, ◌+◌, ◌-◌, ◌*◌, ◌%◌, ◌<◌, ◌≤◌, Bool, true, false, ℤ, List, [], ◌∷◌, length, drop, Option, Some, None, refl, sym, ap, ◌∙◌, subst, arith, lit<, lit≤}
use Rattle.std.specs.Prelude.{slice_get}
use Rattle.std.proofs.lemmas.Option.{slice_get_within}
use Rattle.cw_run86.specs.Processor.{Told}
use Rattle.cw_unit.specs.declared.unit.Def.{Def}
use Rattle.cw_unit.specs.declared.unit.Def.TheVariants as def
use Rattle.cw_unit.specs.Stop.{Running}
use Rattle.cw_unit.specs.Words.{LabelControl, SwitchControl, ProcedureControl, Operand, Word, Held, Words, with_operands}
use Rattle.cw_unit.specs.Step.{label_of_def, with_label_owner}
use Rattle.cw_order.specs.declared.order.Order.TheVariants as order
use Rattle.cw_order.specs.declared.order.Orders.{Orders}
use Rattle.cw_order.specs.OrderProgram.{LabelEntry, place_of, label_at, defined_at}
use Rattle.cw_order.specs.OrderState.{OrderActivation, at, argument_behind, control_in}
use Rattle.cw_order.specs.OrderMachine.{leave_for, dropped_by, go_to_entry, go_to, step, weight}
use Rattle.cw_order.specs.Activations.{segment_below, OwnsLabel}
use Rattle.cw_tmpl.specs.Names.{label_start, landing_start}
use Rattle.cw_tmpl.specs.Templates.{distance}
use Rattle.cw_tmpl.specs.ReferenceCode.{mark_starts, names_of}
use Rattle.cw_follow.specs.Placing.{base_of, label_place, definition_place}
use Rattle.cw_tmpl.proofs.Sizes.{own_place, mark_start, jump_arrives}
use Rattle.cw_follow.proofs.Watched.{Watched}
use Rattle.cw_follow.proofs.Standing.{order_place}
use Rattle.cw_follow.proofs.Chains.{Is, Leads, view, to_place, near, more}
use Rattle.cw_follow.proofs.Routines.{leads_on, leads_then}
use Rattle.cw_tmpl.specs.Named.{is_named_label}
use Rattle.cw_follow.proofs.Named.{shared_label_named, label_lands}
use Rattle.cw_follow.proofs.Stacks.{LabelNamed, drop_all, record_of}
use Rattle.cw_follow.proofs.Orders.{Kept, Landed, further, landed_at}
use Rattle.cw_follow.proofs.States.{Given, Sound}
use Rattle.cw_follow.proofs.Leaving.{argument_of, kept_below, restores, goes_special}
use Rattle.cw_follow.proofs.Calling.{left_for}
use Rattle.cw_follow.proofs.Naming.{argument_stands, label_listed, label_start_is, mark_listed, start_is}
use Rattle.cw_follow.proofs.Steps.{step_is, weight_is, stuck_here, Alone, code, FollowFrom, begun_here, landed_here}

module _ (known : Given) where
  open known use {rows, p, image, all, coded, few, low}

  -- the landing of a label of the body of a segment
  pub lands : {q : Watched} {ax cx dx bx sp bp si : ℕ} {overflow : Bool} {cells stack : ℕ → ℕ} {input : List ℕ} {told : Told} (to l k g' : ℕ) (o : Orders) (e : LabelEntry) (acts : List OrderActivation) (memory : List ℤ) (left output : List ℕ)
      → acts ≡ []
      → slice_get p.units to ≡ Some o → is_named_label o l ≡ true → label_at p to l ≡ Some e → e.in_procedure ≡ false → place_of p to e.mark ≡ Some k → k ≤ length o.list → Kept p g' acts memory left output cells stack input told
      → Is image (label_place p to l) (view ax cx dx bx sp bp si p.limits.area overflow cells stack input told) q
      → Leads output 5 q (Landed p image (order_place (base_of p to) o k) to false acts (record { operands = []; memory = memory; input = left; output = output }))
  lands {q} to l k g' o e acts memory left output none unit named is body there within kept s =
      let st = all.stands to o unit in
      let place = base_of p to + landing_start (names_of o) l in
      let i = st.landings l (record { mark = e.mark; in_procedure = e.in_procedure }) (label_listed known to l o e unit is) (label_lands o l e.in_procedure named body) in
      let by = distance (landing_start (names_of o) l + 15) (mark_starts o e.mark) in
      let at_label : label_place p to l ≡ place % 65536 =
      start_is known to o (λ u. label_start (names_of u) l) unit ∙ ap (λ n. (base_of p to + n) % 65536) (label_start_is known to l o e false body unit is) in
      let here = to_place (let x : label_place p to l % 65536 ≡ place % 65536 = omega arith in x) s in
      let number = st.value 8 3 0 (place + 3 + 3 + 3) in
      let numbered = st.fills.number (place + 3 + 3 + 3) in
      let lt = slice_get_within p.units to o unit in
      let few' : to < 255 = omega arith in
      let is_number : number ≡ to + 1 = omega arith in
      let at_mark : base_of p to + mark_starts o e.mark ≡ order_place (base_of p to) o k = ap (λ n. base_of p to + n) (mark_start o e.mark k (mark_listed known to e.mark k o unit there) within) in
      subst (λ a. Leads output 5 q (Landed p image a to false acts (record { operands = []; memory = memory; input = left; output = output }))) at_mark
      (restores rows p image to g' (base_of p to + mark_starts o e.mark) by number acts memory left output none is_number few' (jump_arrives (base_of p to) (landing_start (names_of o) l) 15 (mark_starts o e.mark)) kept i here)

  -- a label of the body of a segment
  pub goes_to_landing : {first q : Watched} {g place : ℕ} {loaded : Bool} {acts : List OrderActivation} {w : Words} (s : Sound p image g place loaded acts w q) (by_itself : Alone p image g place loaded acts w q s.orders) (steps to l n : ℕ) (e : LabelEntry)
      → LabelNamed p to l → e.in_procedure ≡ false → label_at p to l ≡ Some e
      → step p (at g place loaded acts w Running) ≡ leave_for (place_of p to e.mark) to (length acts) g place false acts w → steps + 5 ≤ weight p (at g place loaded acts w Running)
      → Leads w.output steps first (Landed p image (label_place p to l) (segment_below n g acts) false (drop n acts) (with_operands w [])) → FollowFrom known first (at g place loaded acts w Running) q
  goes_to_landing {first} {q} {g} {place} {loaded} {acts} {w} s by_itself steps to l n e named body is goes paid way =
      left_for known s by_itself to e.mark (length acts) (steps + 5) goes paid (λ k o unit there within.
      further (steps + 5) (let x : steps + 5 ≤ steps + 5 = omega arith in x) (let x : 0 < steps + 5 = omega arith in x)
      (leads_then way (λ r d.
      let m = length (drop n acts) in
      let ending : drop m (drop n acts) ≡ drop (length acts) acts = drop_all (drop n acts) ∙ sym (drop_all acts) in
      let g' = segment_below m (segment_below n g acts) (drop n acts) in
      lands to l k g' o e (drop (length acts) acts) w.memory w.input w.output (drop_all acts) unit (named o unit) is body there within
      (subst (λ ys. Kept p g' ys w.memory w.input w.output d.cells d.stack d.input d.told) ending (kept_below m d.kept)) d.stacked.is)))

  -- a label that stands in a procedure
  pub goes_to_owner : {first q : Watched} {g place : ℕ} {loaded : Bool} {acts : List OrderActivation} {w : Words} (s : Sound p image g place loaded acts w q) (by_itself : Alone p image g place loaded acts w q s.orders) (steps to l n : ℕ) (e : LabelEntry)
      → e.in_procedure ≡ true → label_at p to l ≡ Some e → segment_below n g acts ≡ to
      → step p (at g place loaded acts w Running) ≡ leave_for (place_of p to e.mark) to n g place false acts w → 0 < steps → steps ≤ weight p (at g place loaded acts w Running)
      → Leads w.output steps first (Landed p image (label_place p to l) (segment_below n g acts) false (drop n acts) (with_operands w [])) → FollowFrom known first (at g place loaded acts w Running) q
  goes_to_owner {first} {q} {g} {place} {loaded} {acts} {w} s by_itself steps to l n e inside is same goes some paid way =
      left_for known s by_itself to e.mark n steps goes paid (λ k o unit there within.
      let at_mark : label_start (names_of o) l ≡ own_place o k = label_start_is known to l o e true inside unit is ∙ mark_start o e.mark k (mark_listed known to e.mark k o unit there) within in
      let at_label : label_place p to l ≡ order_place (base_of p to) o k % 65536 = start_is known to o (λ u. label_start (names_of u) l) unit ∙ ap (λ m. (base_of p to + m) % 65536) at_mark in
      let arrives : label_place p to l % 65536 ≡ order_place (base_of p to) o k % 65536 = omega arith in
      further steps (let x : steps ≤ steps = omega arith in x) some
      (leads_on (λ r d. landed_at arrives (subst (λ m. Landed p image (label_place p to l) m false (drop n acts) (with_operands w []) r) same d)) way))

  -- by an entry of the labels
  pub goes_by_entry : {first q : Watched} {g place : ℕ} {loaded : Bool} {acts : List OrderActivation} {w : Words} (s : Sound p image g place loaded acts w q) (by_itself : Alone p image g place loaded acts w q s.orders) (steps to l owner : ℕ)
      → 0 < steps → LabelNamed p to l → OwnsLabel p owner g acts to l
      → step p (at g place loaded acts w Running) ≡ go_to p (Some (LabelControl to l owner)) g place false acts w → steps + 5 ≤ weight p (at g place loaded acts w Running)
      → Leads w.output steps first (Landed p image (label_place p to l) (segment_below (length acts - owner) g acts) false (drop (length acts - owner) acts) (with_operands w []))
      → FollowFrom known first (at g place loaded acts w Running) q
  goes_by_entry {first} {q} {g} {place} {loaded} {acts} {w} s by_itself steps to l owner some named owns goes paid way = cases (label_at p to l) refl
    where
      inside : (e : LabelEntry) → label_at p to l ≡ Some e → (b : Bool) → e.in_procedure ≡ b → FollowFrom known first (at g place loaded acts w Running) q
      inside e is true b =
          goes_to_owner s by_itself steps to l (length acts - owner) e b is (owns e is b)
          (goes ∙ ap (λ x. go_to_entry p x to owner g place false acts w) is ∙ ap (λ x. leave_for (place_of p to e.mark) to (dropped_by x owner acts) g place false acts w) b) some (omega arith) way
      inside e is false b =
          goes_to_landing s by_itself steps to l (length acts - owner) e named b is
          (goes ∙ ap (λ x. go_to_entry p x to owner g place false acts w) is ∙ ap (λ x. leave_for (place_of p to e.mark) to (dropped_by x owner acts) g place false acts w) b) paid way

      cases : (x : Option LabelEntry) → label_at p to l ≡ x → FollowFrom known first (at g place loaded acts w Running) q
      cases None is = absurd (stuck_here known s (goes ∙ ap (λ x. go_to_entry p x to owner g place false acts w) is))
      cases (Some e) is = inside e is e.in_procedure refl

  -- a label parameter
  pub goes_by_parameter : {q : Watched} {g place : ℕ} {a : OrderActivation} {acts : List OrderActivation} {w : Words} (s : Sound p image g place false (a ∷ acts) w q) (by_itself : Alone p image g place false (a ∷ acts) w q s.orders) (k : ℕ)
      → slice_get s.orders.list place ≡ Some (order.GoSpecial k)
      → (x : Option Operand) → argument_behind k a.arguments ≡ x → FollowFrom known (begun_here known s) (at g place false (a ∷ acts) w Running) q
  goes_by_parameter {q} {g} {place} {a} {acts} {w} s by_itself k e None is =
      absurd (stuck_here known s (step_is known s (Some (order.GoSpecial k)) e ∙ ap (λ x. go_to p (control_in x) g place false (a ∷ acts) w) is))
  goes_by_parameter {q} {g} {place} {a} {acts} {w} s by_itself k e (Some (Word z)) is =
      absurd (stuck_here known s (step_is known s (Some (order.GoSpecial k)) e ∙ ap (λ x. go_to p (control_in x) g place false (a ∷ acts) w) is))
  goes_by_parameter {q} {g} {place} {a} {acts} {w} s by_itself k e (Some (Held (SwitchControl to n owner))) is =
      absurd (stuck_here known s (step_is known s (Some (order.GoSpecial k)) e ∙ ap (λ x. go_to p (control_in x) g place false (a ∷ acts) w) is))
  goes_by_parameter {q} {g} {place} {a} {acts} {w} s by_itself k e (Some (Held (ProcedureControl to n))) is =
      absurd (stuck_here known s (step_is known s (Some (order.GoSpecial k)) e ∙ ap (λ x. go_to p (control_in x) g place false (a ∷ acts) w) is))
  goes_by_parameter {q} {g} {place} {a} {acts} {w} s by_itself k e (Some (Held (LabelControl to l owner))) is =
      let o = order.GoSpecial k in
      let c = LabelControl to l owner in
      let stands = argument_stands p a.segment acts k a.arguments c s.working.3 is in
      let owner_low = stands.0 in
      let one_more : suc (length acts - owner) ≡ length (a ∷ acts) - owner = omega arith in
      let owns : OwnsLabel p owner g (a ∷ acts) to l = λ x isx inx. sym (ap (λ m. segment_below m g (a ∷ acts)) one_more) ∙ stands.1 x isx inx in
      let paid = weight_is known s o e in
      let arg = argument_of p k (Held c) (landed_here known s by_itself).kept is in
      goes_by_entry s by_itself 6 to l owner (lit< tt) arg.1.1 owns (step_is known s (Some o) e ∙ ap (λ x. go_to p (control_in x) g place false (a ∷ acts) w) is) (omega arith)
      (goes_special rows p image g k to l owner (length (a ∷ acts) - owner) a acts w is stands refl (code known s by_itself o e) (landed_here known s by_itself))

  -- a label of a descriptor
  pub goes_common : {q : Watched} {g place : ℕ} {acts : List OrderActivation} {w : Words} (s : Sound p image g place false acts w q) (by_itself : Alone p image g place false acts w q s.orders) (d : ℕ)
      → slice_get s.orders.list place ≡ Some (order.GoCommon d) → (x : Option (ℕ × Def)) → defined_at p g d ≡ x → FollowFrom known (begun_here known s) (at g place false acts w Running) q
  goes_common {q} {g} {place} {acts} {w} s by_itself d e None is =
      absurd (stuck_here known s (step_is known s (Some (order.GoCommon d)) e ∙ ap (λ x. go_to p (with_label_owner (length acts) (label_of_def x)) g place false acts w) is))
  goes_common {q} {g} {place} {acts} {w} s by_itself d e (Some (to, def.Proc n)) is =
      absurd (stuck_here known s (step_is known s (Some (order.GoCommon d)) e ∙ ap (λ x. go_to p (with_label_owner (length acts) (label_of_def x)) g place false acts w) is))
  goes_common {q} {g} {place} {acts} {w} s by_itself d e (Some (to, def.Switch n)) is =
      absurd (stuck_here known s (step_is known s (Some (order.GoCommon d)) e ∙ ap (λ x. go_to p (with_label_owner (length acts) (label_of_def x)) g place false acts w) is))
  goes_common {q} {g} {place} {acts} {w} s by_itself d e (Some (to, def.Label l)) is = cases (label_at p to l) refl
    where
      goes : step p (at g place false acts w Running) ≡ go_to_entry p (label_at p to l) to (length acts) g place false acts w
      goes = step_is known s (Some (order.GoCommon d)) e ∙ ap (λ x. go_to p (with_label_owner (length acts) (label_of_def x)) g place false acts w) is

      cases : (x : Option LabelEntry) → label_at p to l ≡ x → FollowFrom known (begun_here known s) (at g place false acts w Running) q
      cases None isx = absurd (stuck_here known s (goes ∙ ap (λ x. go_to_entry p x to (length acts) g place false acts w) isx))
      cases (Some x) isx =
          let o = order.GoCommon d in
          let here = order_place (base_of p g) s.orders place in
          let st = all.stands g s.orders s.unit in
          let by = st.value 5 d 0 (here + 3) in
          let filled : by ≡ (definition_place p (defined_at p g d) + (65536 - (here + 3) % 65536)) % 65536 = st.fills.ahead d (here + 3) in
          let defined : definition_place p (defined_at p g d) ≡ label_place p to l = ap (definition_place p) is in
          let arrives : (here + 3 + by) % 65536 ≡ label_place p to l % 65536 = omega arith in
          let body : x.in_procedure ≡ false = coded.callable.labels g d to l x is isx in
          let paid = weight_is known s o e in
          let d' = landed_here known s by_itself in
          let z = d'.stacked in
          left_for known s by_itself to x.mark (length acts) 6 (goes ∙ ap (λ y. go_to_entry p y to (length acts) g place false acts w) isx ∙ ap (λ y. leave_for (place_of p to x.mark) to (dropped_by y (length acts) acts) g place false acts w) body) (omega arith) (λ k u unit there within.
          further 6 (lit≤ tt) (lit< tt)
          (more rows {to = label_place p to l} {w = view z.ax z.cx z.dx z.bx (2 * d'.top) (record_of acts) z.si p.limits.area z.overflow d'.cells d'.stack d'.input d'.told} z.is d'.kept.wrote
          (to_place arrives (near rows by (code known s by_itself o e).0 z.is)) (λ r t.
          lands to l k (segment_below (length acts) g acts) u x (drop (length acts) acts) w.memory w.input w.output (drop_all acts) unit (shared_label_named u l (coded.shared g d to (def.Label l) u is unit)) isx body there within (kept_below (length acts) d'.kept) t)))
