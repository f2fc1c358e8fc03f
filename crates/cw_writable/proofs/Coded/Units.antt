-- The orders of a unit have code, its marks stand where a block may begin, and its procedures begin where an activation is entered.
use Rattle.std.proofs.Common.{◌≡◌, ℕ, zero, suc, ◌+◌, ◌<◌, nat_eq, nat_lt, nat_le, List, [], ◌∷◌, ◌++◌, length, Bool, true, false, IsTrue, ◌&&◌, ◌||◌, Option, Some, None, slice_get, slice_index, refl, sym, ap, ◌∙◌, subst, arith}
use Rattle.std.proofs.lemmas.Bool.{leb-true, ltb-true}
use Rattle.std.specs.List.{list_all}
use Rattle.cw_order.specs.declared.order.Order.{Order}
use Rattle.cw_order.specs.declared.order.Order.TheVariants as order
use Rattle.cw_unit.specs.declared.unit.Unit.{Unit as SourceUnit}
use Rattle.cw_unit.specs.declared.unit.Proc.{Proc}
use Rattle.cw_unit.specs.declared.unit.Label.{Label}
use Rattle.cw_unit.specs.declared.unit.Switch.{Switch}
use Rattle.cw_unit.specs.declared.unit.Def.{Def}
use Rattle.cw_unit.specs.declared.unit.Def.TheVariants as def
use Rattle.cw_unit.specs.ValidStorage.{IsStorable}
use Rattle.cw_unit.specs.Storage.{layout_of, frame_size, frame_sizes_from}
use Rattle.cw_gen_expr.specs.NamedItems.{has_words}
use Rattle.cw_gen_expr.specs.ReferenceExpressions.{argument_words}
use Rattle.cw_gen_expr.specs.ReferenceEntries.{parameters_in, scope_of, bind_orders}
use Rattle.cw_gen_expr.specs.UnitTables.{procedure_mark, first_mark}
use Rattle.cw_gen_unit.specs.BuiltStatements.{is_statement}
use Rattle.cw_gen_unit.specs.BuiltUnits.{items_fit, is_procedure, are_procedures, are_built}
use Rattle.cw_gen_unit.specs.ReferenceUnits.{answer_of, place_if, place_of, leave_orders, entry_orders, procedure_piece, procedures_piece, body_piece, unit_piece, entries_of, procedure_labels, labels_in, place_or_none, label_places, definition_place, definition_places, procedure_marks, switch_lists, unit_orders}
use Rattle.cw_gen_unit.proofs.Layers.{leave-holds}
use Rattle.cw_built.specs.Stored.{are_bases, are_items, are_frames, is_stored}
use Rattle.cw_built.specs.Coded.{has_code, is_enter, is_landing, lands, is_mark, enters, enters_at, is_entry, has_few, have_code}
use Rattle.cw_writable.specs.Coded.RangedUnits.{is_ranged_statement, is_ranged_procedure, are_ranged_procedures, is_ranged}
use Rattle.cw_built.proofs.Layouts.{storable}
use Rattle.cw_writable.proofs.Coded.Fine.{no, both, parts, Stands, AllStand, get-behind, all-before, all-behind, places, Good, plainly, both_good}
use Rattle.cw_writable.proofs.Coded.Numbers.{lt_true, first_by, few-words}
use Rattle.cw_writable.proofs.Coded.Frames.{MapsValid, bind-coded}
use Rattle.cw_writable.proofs.Coded.Statements.{statement_good}

module _ (u : SourceUnit) where
  frames-small : (n : ℕ) (ps : List Proc) → IsTrue (are_frames u n ps) → (k : ℕ) → slice_index (frame_sizes_from n u ps) k < 65536
  frames-small n [] h k = omega arith
  frames-small n (p ∷ ps) h zero = ltb-true (frame_size u n) 65536 (parts (nat_lt (frame_size u n) 65536) (are_frames u (suc n) ps) h).0
  frames-small n (p ∷ ps) h (suc k) =
      let next : suc n ≡ n + 1 = omega arith in
      frames-small (n + 1) ps (subst (λ m. IsTrue (are_frames u m ps)) next (parts (nat_lt (frame_size u n) 65536) (are_frames u (suc n) ps) h).1) k

  few-in : (p : ℕ) (q : Proc) → IsTrue (is_procedure u p q) → argument_words q.params < 256
  few-in p q h =
      let last = items_fit (λ i. has_words u (Some p) i 1) q.params in
      let a = parts (is_statement u (has_words u (Some p)) (Some p) (answer_of u (Some p)) q.body 64) (nat_le (length q.params) 32 && last) h in
      few-words q.params (leb-true (length q.params) 32 (parts (nat_le (length q.params) 32) last a.1).0)

  items-in : (p : ℕ) (q : Proc) → IsTrue (is_procedure u p q) → IsTrue (items_fit (λ i. has_words u (Some p) i 1) q.params)
  items-in p q h =
      let last = items_fit (λ i. has_words u (Some p) i 1) q.params in
      let a = parts (is_statement u (has_words u (Some p)) (Some p) (answer_of u (Some p)) q.body 64) (nat_le (length q.params) 32 && last) h in
      (parts (nat_le (length q.params) 32) last a.1).1

  few-at : (n : ℕ) (ps : List Proc) → IsTrue (are_procedures u n ps) → (k : ℕ) → argument_words (parameters_in (slice_get ps k)) < 256
  few-at n [] h k = omega arith
  few-at n (p ∷ ps) h zero = few-in n p (parts (is_procedure u n p) (are_procedures u (suc n) ps) h).0
  few-at n (p ∷ ps) h (suc k) = few-at (suc n) ps (parts (is_procedure u n p) (are_procedures u (suc n) ps) h).1 k

  -- ---- labels of procedures

  abbrev AllLists : List Order → (start : ℕ) → List (List (ℕ × ℕ)) → Type 0
  AllLists os start [] = Unit {0}
  AllLists os start (ls ∷ lss) = AllStand is_landing os start (places ls) × AllLists os start lss

  lists-behind : (xs ys : List Order) (start : ℕ) (lss : List (List (ℕ × ℕ))) → AllLists ys (start + length xs) lss → AllLists (xs ++ ys) start lss
  lists-behind xs ys start [] h = tt
  lists-behind xs ys start (ls ∷ lss) h = (all-behind is_landing xs ys start (places ls) h.0, lists-behind xs ys start lss h.1)

  -- ---- bodies

  module _ (maps : MapsValid) (stored : IsStorable u) (frames : IsTrue (are_frames u 0 u.procs)) (built : IsTrue (are_procedures u 0 u.procs)) where
    procedure_good : (p : ℕ) (q : Proc) → IsTrue (is_procedure u p q) → IsTrue (is_ranged_procedure u p q) → Good (procedure_piece u p q)
    procedure_good p q b h =
        let r = parts (is_ranged_statement u (answer_of u (Some p)) q.body) (nat_le (frame_size u p) 32768) h in
        let size = slice_index (layout_of u).frames p in
        both_good (plainly (entry_orders u p q) (first_by (order.Enter size) (bind_orders (layout_of u) q.params) (lt_true size 65536 (frames-small 0 u.procs frames p)) refl (bind-coded maps u stored p (leb-true (frame_size u p) 32768 r.1) q.params (few-in p q b) (items-in p q b))))
        (both_good (statement_good (scope_of u (Some p)) (few-at 0 u.procs built p) (Some p) (answer_of u (Some p)) q.body r.0)
        (plainly (leave_orders q) (leave-holds (λ os. IsTrue (list_all has_code os)) q (first_by (order.Return (argument_words q.params) true) [] (lt_true (argument_words q.params) 256 (few-in p q b)) refl refl) refl)))

    procedures_good : (p : ℕ) (qs : List Proc) → IsTrue (are_procedures u p qs) → IsTrue (are_ranged_procedures u p qs) → Good (procedures_piece u p qs)
    procedures_good p [] b h = plainly [] refl
    procedures_good p (q ∷ qs) b h =
        let c = parts (is_procedure u p q) (are_procedures u (suc p) qs) b in
        let r = parts (is_ranged_procedure u p q) (are_ranged_procedures u (suc p) qs) h in
        both_good (procedure_good p q c.0 r.0) (procedures_good (suc p) qs c.1 r.1)

    body_good : IsTrue (is_ranged_statement u 0 u.body) → Good (body_piece u)
    body_good h = both_good (statement_good (scope_of u None) (let z : 0 < 256 = omega arith in z) None 0 u.body h) (plainly (order.NextBody ∷ []) refl)

    labels-listed : (p : ℕ) (qs : List Proc) → IsTrue (are_procedures u p qs) → IsTrue (are_ranged_procedures u p qs) → (place next : ℕ) → AllLists (procedures_piece u p qs place next).orders place (procedure_labels u p qs place next)
    labels-listed p [] b h place next = tt
    labels-listed p (q ∷ qs) b h place next =
        let c = parts (is_procedure u p q) (are_procedures u (suc p) qs) b in
        let r = parts (is_ranged_procedure u p q) (are_ranged_procedures u (suc p) qs) h in
        let x = procedure_piece u p q place next in
        let y = procedures_piece u (suc p) qs (place + length x.orders) (next + length x.marks) in (
          all-before is_landing x.orders y.orders place (places x.labels) ((procedure_good p q c.0 r.0).at place next).labels,
          lists-behind x.orders y.orders place (procedure_labels u (suc p) qs (place + length x.orders) (next + length x.marks)) (labels-listed (suc p) qs c.1 r.1 (place + length x.orders) (next + length x.marks)),
        )

  -- ---- where procedures begin

  entries-stand : (p : ℕ) (qs : List Proc) (place next : ℕ) → AllStand is_enter (procedures_piece u p qs place next).orders place (entries_of u p qs place next)
  entries-stand p [] place next = tt
  entries-stand p (q ∷ qs) place next =
      let x = procedure_piece u p q place next in
      let y = procedures_piece u (suc p) qs (place + length x.orders) (next + length x.marks) in
      let at : place ≡ place + 0 = omega arith in (
        record { index = 0; found = order.Enter (slice_index (layout_of u).frames p); is = at; here = refl; passes = refl },
        all-behind is_enter x.orders y.orders place (entries_of u (suc p) qs (place + length x.orders) (next + length x.marks)) (entries-stand (suc p) qs (place + length x.orders) (next + length x.marks)),
      )

  entries-long : (p : ℕ) (qs : List Proc) (place next : ℕ) → length (entries_of u p qs place next) ≡ length qs
  entries-long p [] place next = refl
  entries-long p (q ∷ qs) place next =
      let x = procedure_piece u p q place next in
      ap suc (entries-long (suc p) qs (place + length x.orders) (next + length x.marks))

-- ---- marks by places

or_right : (a b : Bool) → IsTrue b → IsTrue (a || b)
or_right true b h = refl
or_right false b h = h

enters-lands : (o : Order) → IsTrue (is_enter o) → IsTrue (is_landing o)
enters-lands (order.Enter size) h = refl
enters-lands _ h = no h

entries-land : (os : List Order) (start : ℕ) (ms : List ℕ) → AllStand is_enter os start ms → AllStand is_landing os start ms
entries-land os start [] h = tt
entries-land os start (m ∷ ms) h = (record { index = h.0.index; found = h.0.found; is = h.0.is; here = h.0.here; passes = enters-lands h.0.found h.0.passes }, entries-land os start ms h.1)

module _ (os : List Order) where
  found-at : (f : Order → Bool) (m : ℕ) (h : Stands f os 0 m) → slice_get os m ≡ Some h.found
  found-at f m h =
      let k = h.index in
      let e = h.is in
      let z : m ≡ k = omega (arith, e) in
      ap (slice_get os) z ∙ h.here

  stands-mark : (m : ℕ) → Stands is_landing os 0 m → IsTrue (is_mark os m)
  stands-mark m h = or_right (nat_eq m 0) (lands (slice_get os m)) (subst (λ o. IsTrue (lands o)) (sym (found-at is_landing m h)) h.passes)

  stand-marks : (ms : List ℕ) → AllStand is_landing os 0 ms → IsTrue (list_all (is_mark os) ms)
  stand-marks [] h = refl
  stand-marks (m ∷ ms) h = both (is_mark os m) (list_all (is_mark os) ms) (stands-mark m h.0) (stand-marks ms h.1)

  marks-both : (ms ns : List ℕ) → IsTrue (list_all (is_mark os) ms) → IsTrue (list_all (is_mark os) ns) → IsTrue (list_all (is_mark os) (ms ++ ns))
  marks-both [] ns h k = k
  marks-both (m ∷ ms) ns h k = let p = parts (is_mark os m) (list_all (is_mark os) ms) h in both (is_mark os m) (list_all (is_mark os) (ms ++ ns)) p.0 (marks-both ms ns p.1 k)

  index-mark : (ms : List ℕ) → IsTrue (list_all (is_mark os) ms) → (k : ℕ) → IsTrue (is_mark os (slice_index ms k))
  index-mark [] h k = refl
  index-mark (m ∷ ms) h zero = (parts (is_mark os m) (list_all (is_mark os) ms) h).0
  index-mark (m ∷ ms) h (suc k) = index-mark ms (parts (is_mark os m) (list_all (is_mark os) ms) h).1 k

  place-mark : (l : ℕ) (ls : List (ℕ × ℕ)) → IsTrue (list_all (is_mark os) (places ls)) → IsTrue (is_mark os (place_or_none (place_of l ls)))
  place-mark l [] h = refl
  place-mark l (x ∷ xs) h =
      let p = parts (is_mark os x.1) (list_all (is_mark os) (places xs)) h in by_test (nat_eq l x.0) x.1 (place_of l xs) p.0 (place-mark l xs p.1)
    where
      by_test : (b : Bool) (q : ℕ) (o : Option ℕ) → IsTrue (is_mark os q) → IsTrue (is_mark os (place_or_none o)) → IsTrue (is_mark os (place_or_none (place_if b q o)))
      by_test true q o h k = h
      by_test false q o h k = k

  abbrev MarkLists : List (List (ℕ × ℕ)) → Type 0
  MarkLists [] = Unit {0}
  MarkLists (ls ∷ lss) = IsTrue (list_all (is_mark os) (places ls)) × MarkLists lss

  lists-marked : (u : SourceUnit) (lss : List (List (ℕ × ℕ))) → AllLists u os 0 lss → MarkLists lss
  lists-marked u [] h = tt
  lists-marked u (ls ∷ lss) h = (stand-marks (places ls) h.0, lists-marked u lss h.1)

  list-mark : (l : ℕ) (lss : List (List (ℕ × ℕ))) → MarkLists lss → (p : ℕ) → IsTrue (is_mark os (place_or_none (place_of l (elim (slice_get lss p) [ None ↦ [] | Some ls ↦ ls ]))))
  list-mark l [] h p = refl
  list-mark l (ls ∷ lss) h zero = place-mark l ls h.0
  list-mark l (ls ∷ lss) h (suc p) = list-mark l lss h.1 p

  label-marks : (l : ℕ) (ms : List Label) (b : List (ℕ × ℕ)) (lss : List (List (ℕ × ℕ))) → IsTrue (list_all (is_mark os) (places b)) → MarkLists lss → IsTrue (list_all (is_mark os) (label_places l ms b lss))
  label-marks l [] b lss h k = refl
  label-marks l (m ∷ ms) b lss h k = both (is_mark os (place_or_none (place_of l (labels_in b lss m.proc)))) (list_all (is_mark os) (label_places (suc l) ms b lss)) (by_body m.proc) (label-marks (suc l) ms b lss h k)
    where
      by_body : (o : Option ℕ) → IsTrue (is_mark os (place_or_none (place_of l (labels_in b lss o))))
      by_body None = place-mark l b h
      by_body (Some p) = list-mark l lss k p

  definition-mark : (ls es : List ℕ) → IsTrue (list_all (is_mark os) ls) → IsTrue (list_all (is_mark os) es) → (d : Def) → IsTrue (is_mark os (definition_place ls es d))
  definition-mark ls es h k (def.Proc q) = index-mark es k q
  definition-mark ls es h k (def.Label l) = index-mark ls h l
  definition-mark ls es h k (def.Switch n) = refl

  definition-marks : (ls es : List ℕ) → IsTrue (list_all (is_mark os) ls) → IsTrue (list_all (is_mark os) es) → (ds : List (ℕ × Def)) → IsTrue (list_all (is_mark os) (definition_places ls es ds))
  definition-marks ls es h k [] = refl
  definition-marks ls es h k (d ∷ ds) = both (is_mark os (definition_place ls es d.1)) (list_all (is_mark os) (definition_places ls es ds)) (definition-mark ls es h k d.1) (definition-marks ls es h k ds)

  -- ---- marks of procedures

  enters-found : (m : ℕ) → Stands is_enter os 0 m → IsTrue (enters (slice_get os m))
  enters-found m h = subst (λ o. IsTrue (enters o)) (sym (found-at is_enter m h)) h.passes

  module _ (u : SourceUnit) (marks rest : List ℕ) where
    entries-listed : (p : ℕ) (qs : List Proc) (es : List ℕ) → AllStand is_enter os 0 es → length es ≡ length qs → ((k : ℕ) → slice_get marks (procedure_mark u (p + k)) ≡ slice_get (es ++ rest) k)
        → IsTrue (list_all (is_entry os marks) (procedure_marks u p qs))
    entries-listed p [] es h e g = refl
    entries-listed p (q ∷ qs) [] h e g = absurd (omega (arith, e))
    entries-listed p (q ∷ qs) (m ∷ es) h e g =
        let start : p + 0 ≡ p = omega arith in
        let here : slice_get marks (procedure_mark u p) ≡ Some m = sym (ap (λ k. slice_get marks (procedure_mark u k)) start) ∙ g 0 in
        both (is_entry os marks (procedure_mark u p)) (list_all (is_entry os marks) (procedure_marks u (suc p) qs))
        (subst (λ o. IsTrue (enters_at os o)) (sym here) (enters-found m h.0))
        (entries-listed (suc p) qs es h.1 (let z : length es ≡ length qs = omega (arith, e) in z)
        (λ k. let next : suc p + k ≡ p + suc k = omega arith in ap (λ j. slice_get marks (procedure_mark u j)) next ∙ g (suc k)))

-- ---- the whole

labels-long : (l : ℕ) (ms : List Label) (b : List (ℕ × ℕ)) (lss : List (List (ℕ × ℕ))) → length (label_places l ms b lss) ≡ length ms
labels-long l [] b lss = refl
labels-long l (m ∷ ms) b lss = ap suc (labels-long (suc l) ms b lss)

definitions-long : (ls es : List ℕ) (ds : List (ℕ × Def)) → length (definition_places ls es ds) ≡ length ds
definitions-long ls es [] = refl
definitions-long ls es (d ∷ ds) = ap suc (definitions-long ls es ds)

switches-few : (ss : List Switch) → IsTrue (list_all (λ (s : Switch). has_few s.list) ss) → IsTrue (list_all has_few (switch_lists ss))
switches-few [] h = refl
switches-few (s ∷ ss) h = let p = parts (has_few s.list) (list_all (λ (s : Switch). has_few s.list) ss) h in both (has_few s.list) (list_all has_few (switch_lists ss)) p.0 (switches-few ss p.1)

module _ (u : SourceUnit) where
  -- the place and the mark behind the body
  abbrev body_end : ℕ
  body_end = 0 + length (body_piece u 0 (first_mark u)).orders

  abbrev body_marks : ℕ
  body_marks = first_mark u + length (body_piece u 0 (first_mark u)).marks

  pub entries : IsTrue (list_all (is_entry (unit_orders u).list (unit_orders u).marks) (unit_orders u).procedures)
  entries =
      let n = first_mark u in
      let b = body_piece u 0 n in
      let x = unit_piece u 0 n in
      let y = procedures_piece u 0 u.procs body_end body_marks in
      let labels = label_places 0 u.labels b.labels (procedure_labels u 0 u.procs body_end body_marks) in
      let es = entries_of u 0 u.procs body_end body_marks in
      let ds = definition_places labels es u.defined in
      entries-listed x.orders u (unit_orders u).marks x.marks 0 u.procs es
      (all-behind is_enter b.orders y.orders 0 es (entries-stand u 0 u.procs body_end body_marks)) (entries-long u 0 u.procs body_end body_marks)
      (λ k.
      let e : 0 + k ≡ k = omega arith in
      ap (λ j. slice_get (unit_orders u).marks (procedure_mark u j)) e
      ∙ ap (λ j. slice_get (unit_orders u).marks (j + (length u.labels + k))) (sym (definitions-long labels es u.defined))
      ∙ get-behind ds (labels ++ (es ++ x.marks)) (length u.labels + k)
      ∙ ap (λ j. slice_get (labels ++ (es ++ x.marks)) (j + k)) (sym (labels-long 0 u.labels b.labels (procedure_labels u 0 u.procs body_end body_marks)))
      ∙ get-behind labels (es ++ x.marks) k)

  marks-stand : Good (body_piece u) → ((place next : ℕ) → AllLists u (procedures_piece u 0 u.procs place next).orders place (procedure_labels u 0 u.procs place next)) → Good (unit_piece u)
      → IsTrue (list_all (is_mark (unit_orders u).list) (unit_orders u).marks)
  marks-stand body lists whole =
      let n = first_mark u in
      let b = body_piece u 0 n in
      let x = unit_piece u 0 n in
      let y = procedures_piece u 0 u.procs body_end body_marks in
      let lss = procedure_labels u 0 u.procs body_end body_marks in
      let labels = label_places 0 u.labels b.labels lss in
      let es = entries_of u 0 u.procs body_end body_marks in
      let ds = definition_places labels es u.defined in
      let in-body = stand-marks x.orders (places b.labels) (all-before is_landing b.orders y.orders 0 (places b.labels) (body.at 0 n).labels) in
      let in-procedures = lists-marked x.orders u lss (lists-behind u b.orders y.orders 0 lss (lists body_end body_marks)) in
      let l = label-marks x.orders 0 u.labels b.labels lss in-body in-procedures in
      let e = stand-marks x.orders es (entries-land x.orders 0 es (all-behind is_enter b.orders y.orders 0 es (entries-stand u 0 u.procs body_end body_marks))) in
      let d = definition-marks x.orders labels es l e u.defined in
      let m = stand-marks x.orders x.marks (whole.at 0 n).marks in
      marks-both x.orders ds (labels ++ (es ++ x.marks)) d (marks-both x.orders labels (es ++ x.marks) l (marks-both x.orders es x.marks e m))

  pub coded : MapsValid → IsTrue (is_stored u) → IsTrue (are_built (u ∷ [])) → IsTrue (is_ranged u) → IsTrue (have_code (unit_orders u))
  coded maps stored built ranged =
      let s = parts (nat_le (length u.items) 65535) (are_bases u && (are_items u 0 u.items && are_frames u 0 u.procs)) stored in
      let t = parts (are_items u 0 u.items) (are_frames u 0 u.procs) (parts (are_bases u) (are_items u 0 u.items && are_frames u 0 u.procs) s.1).1 in
      let sound = storable u t.0 in
      let frames = t.1 in
      let body-built = is_statement u (has_words u None) None 0 u.body 64 in
      let b = (parts body-built (are_procedures u 0 u.procs) (parts (body-built && are_procedures u 0 u.procs) true built).0).1 in
      let few = list_all (λ (s : Switch). has_few s.list) u.switches in
      let r = parts (is_ranged_statement u 0 u.body) (are_ranged_procedures u 0 u.procs && few) ranged in
      let q = parts (are_ranged_procedures u 0 u.procs) few r.1 in
      let body = body_good u maps sound frames b r.0 in
      let whole : Good (unit_piece u) = both_good body (procedures_good u maps sound frames b 0 u.procs b q.0) in
      let o = unit_orders u in
      let marks = marks-stand body (labels-listed u maps sound frames b 0 u.procs b q.0) whole in
      let last = list_all (is_entry o.list o.marks) o.procedures in
      both (list_all has_code o.list) (list_all (is_mark o.list) o.marks && (list_all has_few o.switches && last)) (whole.at 0 (first_mark u)).coded
      (both (list_all (is_mark o.list) o.marks) (list_all has_few o.switches && last) marks (both (list_all has_few o.switches) last (switches-few u.switches q.1) entries))
