-- The body and the procedures of a unit stand in its orders.
use Rattle.std.proofs.Common.{◌≡◌, ℕ, zero, suc, ◌+◌, List, [], ◌∷◌, ◌++◌, length, true, Some, None, refl, ap, ap₂, ◌∙◌, subst, arith, append_assoc, append-nil, length-append}
use Rattle.std.specs.Prelude.{slice_get, IsTrue, if◌then◌else◌}
use Rattle.std.proofs.lemmas.Option.{none-some, same_Some}
use Rattle.cw_unit.specs.declared.unit.Unit.{Unit as SourceUnit}
use Rattle.cw_unit.specs.declared.unit.Proc.{Proc}
use Rattle.cw_unit.specs.declared.unit.Label.{Label}
use Rattle.cw_unit.specs.declared.unit.Def.{Def}
use Rattle.cw_order.specs.declared.order.Order.{Order}
use Rattle.cw_order.specs.declared.order.Order.TheVariants as order
use Rattle.cw_gen_expr.specs.Pieces.{plain, followed_by}
use Rattle.cw_gen_expr.specs.ReferenceExpressions.{argument_words}
use Rattle.cw_gen_expr.specs.UnitTables.{first_mark}
use Rattle.cw_carry.proofs.Expressions.Standing.{Stands, placed, placed_after, ends_at, Made, both_made}
use Rattle.cw_carry.proofs.Expressions.Carried.{LeavesAt}
use Rattle.cw_gen_unit.specs.Endings.{comes_to_end}
use Rattle.cw_gen_expr.specs.ReferenceEntries.{scope_of}
use Rattle.cw_gen_unit.specs.ReferenceStatements.{statement_piece}
use Rattle.cw_gen_unit.specs.ReferenceUnits.{answer_of}
use Rattle.cw_gen_unit.specs.ReferenceUnits.{place_of}
use Rattle.cw_gen_unit.specs.ReferenceUnits.{body_piece, definition_places, entries_of, entry_orders, label_places, labels_in, leave_orders, place_or_none, procedure_labels, procedure_piece, procedures_piece, unit_orders, unit_piece}

module _ (u : SourceUnit) where
  entries_length : (p : ℕ) (qs : List Proc) (place next : ℕ) → length (entries_of u p qs place next) ≡ length qs
  entries_length p [] place next = refl
  entries_length p (q ∷ qs) place next = ap suc (entries_length (suc p) qs _ _)

pub length-places : (l : ℕ) (ms : List Label) (b : List (ℕ × ℕ)) (ps : List (List (ℕ × ℕ))) → length (label_places l ms b ps) ≡ length ms
length-places l [] b ps = refl
length-places l (m ∷ ms) b ps = ap suc (length-places (suc l) ms b ps)

pub label_placed : (l : ℕ) (ms : List Label) (b : List (ℕ × ℕ)) (ps : List (List (ℕ × ℕ))) (k : ℕ) (m : Label) (q : ℕ) → slice_get ms k ≡ Some m → place_of (l + k) (labels_in b ps m.proc) ≡ Some q → slice_get (label_places l ms b ps) k ≡ Some q
label_placed l [] b ps k m q h e = absurd (none-some m h)
label_placed l (d ∷ ms) b ps zero m q h e =
    let same : l ≡ l + 0 = omega arith in
    ap Some (ap place_or_none (ap₂ (λ x y. place_of x (labels_in b ps y.proc)) same (same_Some d m h) ∙ e))
label_placed l (d ∷ ms) b ps (suc k) m q h e =
    let moved : suc l + k ≡ l + suc k = omega arith in
    label_placed (suc l) ms b ps k m q h (ap (λ x. place_of x (labels_in b ps m.proc)) moved ∙ e)

-- where a procedure stands
pub record ProcedureStands (u : SourceUnit) (code : List Order) (marks : List ℕ) (p : ℕ) (q : Proc) (entry : ℕ) : Type 0 where
  pub start : ℕ
  pub enters : Stands code entry (entry_orders u p q) start
  pub after : ℕ
  pub free : ℕ
  pub last : ℕ
  pub body : Made code marks (statement_piece (scope_of u (Some p)) (Some p) (answer_of u (Some p)) q.body start free) start after free last
  pub labels : List (ℕ × ℕ)
  pub labels_are : labels ≡ (statement_piece (scope_of u (Some p)) (Some p) (answer_of u (Some p)) q.body start free).labels
  pub leaves : IsTrue (comes_to_end q.body) → LeavesAt code after (argument_words q.params)

module _ (u : SourceUnit) (code : List Order) (marks : List ℕ) where
  procedure_stands : (p : ℕ) (q : Proc) (entry n free last : ℕ) → Made code marks (procedure_piece u p q entry free) entry n free last → (st : ProcedureStands u code marks p q entry) × ((procedure_piece u p q entry free).labels ≡ st.labels)
  procedure_stands p q entry n free last made =
      let stmt = statement_piece (scope_of u (Some p)) (Some p) (answer_of u (Some p)) q.body in
      let first = both_made code marks (plain (entry_orders u p q)) (followed_by stmt (plain (leave_orders q))) entry n free last made in
      let rest = both_made code marks stmt (plain (leave_orders q)) first.0 n first.1 last first.3 in
      let leaving : IsTrue (comes_to_end q.body) → LeavesAt code rest.0 (argument_words q.params) = λ ends.
      let stands : Stands code rest.0 (order.Const 0 ∷ order.Return (argument_words q.params) true ∷ []) n = subst (λ x. Stands code rest.0 (if x then (order.Const 0 ∷ order.Return (argument_words q.params) true ∷ []) else []) n) ends rest.3.0 in
      (stands.0, stands.1.0) in
      (record { start = first.0; enters = first.2.0; after = rest.0; free = first.1; last = rest.1; body = rest.2; labels = (stmt first.0 first.1).labels; labels_are = refl; leaves = leaving }, first.4 ∙ rest.4 ∙ append-nil (stmt first.0 first.1).labels)

  -- where a procedure stands, with its place and its labels in the lists of these
  abbrev pub StandsAmong : (k p : ℕ) → Proc → List ℕ → List (List (ℕ × ℕ)) → Type 0
  StandsAmong k p q entries labels = (entry : ℕ) × (slice_get entries k ≡ Some entry) × (st : ProcedureStands u code marks p q entry) × (slice_get labels k ≡ Some st.labels)

  -- the k-th of these procedures
  pub each_stands : (p : ℕ) (qs : List Proc) (place n free last : ℕ) → Made code marks (procedures_piece u p qs place free) place n free last → (k : ℕ) (q : Proc) → slice_get qs k ≡ Some q → StandsAmong k (p + k) q (entries_of u p qs place free) (procedure_labels u p qs place free)
  each_stands p [] place n free last made k q h = absurd (none-some q h)
  each_stands p (d ∷ qs) place n free last made zero q h =
      let parts = both_made code marks (procedure_piece u p d) (procedures_piece u (suc p) qs) place n free last made in
      let same : p ≡ p + 0 = omega arith in
      let here = procedure_stands p d place parts.0 free parts.1 parts.2 in
      subst (λ j. StandsAmong 0 j q (entries_of u p (d ∷ qs) place free) (procedure_labels u p (d ∷ qs) place free)) same
      (subst (λ y. StandsAmong 0 p y (entries_of u p (d ∷ qs) place free) (procedure_labels u p (d ∷ qs) place free)) (same_Some d q h) (place, refl, here.0, ap Some here.1))
  each_stands p (d ∷ qs) place n free last made (suc k) q h =
      let parts = both_made code marks (procedure_piece u p d) (procedures_piece u (suc p) qs) place n free last made in
      let x = procedure_piece u p d place free in
      let rest = each_stands (suc p) qs parts.0 n parts.1 last parts.3 k q h in
      let moved : suc p + k ≡ p + suc k = omega arith in
      let there = ap₂ (λ a b. entries_of u (suc p) qs a b) (ends_at code place x.orders parts.0 parts.2.0) (ends_at marks free x.marks parts.1 parts.2.1) in
      let labels = ap₂ (λ a b. procedure_labels u (suc p) qs a b) (ends_at code place x.orders parts.0 parts.2.0) (ends_at marks free x.marks parts.1 parts.2.1) in
      subst (λ j. StandsAmong (suc k) j q (entries_of u p (d ∷ qs) place free) (procedure_labels u p (d ∷ qs) place free)) moved
      (rest.0, ap (λ l. slice_get l k) there ∙ rest.1, rest.2, ap (λ l. slice_get l k) labels ∙ rest.3)

  -- the body
  pub body_stands : (n free last : ℕ) → Made code marks (body_piece u 0 free) 0 n free last → (x : ℕ) × (m : ℕ) × Made code marks (statement_piece (scope_of u None) None 0 u.body 0 free) 0 x free m × (slice_get code x ≡ Some order.NextBody) × ((body_piece u 0 free).labels ≡ (statement_piece (scope_of u None) None 0 u.body 0 free).labels)
  body_stands n free last made =
      let parts = both_made code marks (statement_piece (scope_of u None) None 0 u.body) (plain (order.NextBody ∷ [])) 0 n free last made in
      (parts.0, parts.1, parts.2, parts.3.0.0, parts.4 ∙ append-nil (statement_piece (scope_of u None) None 0 u.body 0 free).labels)

pub length-definitions : (ls es : List ℕ) (ds : List (ℕ × Def)) → length (definition_places ls es ds) ≡ length ds
length-definitions ls es [] = refl
length-definitions ls es (d ∷ ds) = ap suc (length-definitions ls es ds)

module _ (u : SourceUnit) where
  abbrev list : List Order
  list = (unit_orders u).list

  abbrev marks : List ℕ
  marks = (unit_orders u).marks

  -- all of a unit stands in its orders
  pub unit_made : (n : ℕ) × (last : ℕ) × Made list marks (unit_piece u 0 (first_mark u)) 0 n (first_mark u) last
  unit_made =
      let first = first_mark u in
      let b = body_piece u 0 first in
      let x = unit_piece u 0 first in
      let all = placed x.orders in
      let labels = label_places 0 u.labels b.labels (procedure_labels u 0 u.procs (0 + length b.orders) (first + length b.marks)) in
      let entries = entries_of u 0 u.procs (0 + length b.orders) (first + length b.marks) in
      let zeros = definition_places labels entries u.defined in
      let front = zeros ++ (labels ++ entries) in
      let rest = placed_after front x.marks in
      let same : front ++ x.marks ≡ marks = append_assoc zeros (labels ++ entries) x.marks ∙ ap (λ l. zeros ++ l) (append_assoc labels entries x.marks) in
      let size : length front ≡ first = omega (arith, length-append zeros (labels ++ entries), length-append labels entries, length-definitions labels entries u.defined, length-places 0 u.labels b.labels (procedure_labels u 0 u.procs (0 + length b.orders) (first + length b.marks)), entries_length u 0 u.procs (0 + length b.orders) (first + length b.marks)) in
      (all.0, rest.0, (all.1, subst (λ ms. Stands ms first x.marks rest.0) same (subst (λ n. Stands (front ++ x.marks) n x.marks rest.0) size rest.1)))
