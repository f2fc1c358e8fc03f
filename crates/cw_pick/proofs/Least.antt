-- What the marked members are, in the end.
use Rattle.std.proofs.Common.{◌≡◌, ℕ, ◌<◌, Bool, true, false, not, ◌&&◌, List, [], length, get_or, sym, ap, ◌∙◌, arith, inl, inr}
use Rattle.std.specs.Prelude.{◌||◌}
use Rattle.std.specs.List.{list_any}
use Rattle.std.proofs.lemmas.Bool.{cases_lt, and_parts, or_right, or_cases, false≢true}
use Rattle.std.proofs.lemmas.Option.{slice_get_past}
use Rattle.std.proofs.Math.Bool.{and-true}
use Rattle.cw_comm.specs.Agreement.{Name}
use Rattle.cw_pick.specs.declared.index.Index.{Index}
use Rattle.cw_pick.specs.declared.marking.Work.{Work}
use Rattle.cw_pick.specs.declared.offer.Offer.{Offer}
use Rattle.cw_pick.specs.Picking.{is_in, is_among, defines_of, defines_at, lists_at, settles, is_picked_for, starts, leads, IsLeast}
use Rattle.cw_pick.specs.Working.{definers, is_asked, is_picked, Marks, IsFresh, Closes}
use Rattle.cw_pick.proofs.Bools.{any_same, some_of}
use Rattle.cw_pick.proofs.Steps.{picked_within}

-- ---- what is picked is there

pub within : (given members : List Offer) (name : Name) (k : ℕ) → is_picked_for given members name k ≡ true → k < length members
within given members name k h = elim (cases_lt k (length members)) [
  | inl lt ↦ lt
  | inr past ↦
      absurd (false≢true (sym (ap (λ o. is_among (defines_of o) name) (slice_get_past members k past)) ∙ (and_parts (defines_at members k name) (not (settles given name)) h).0))
]

pub start_within : (given members : List Offer) (k : ℕ) → starts given members k ≡ true → k < length members
start_within given members k h =
    let o = some_of (λ o. list_any (λ name. is_picked_for given members name k) o.lists) given h in
    let n = some_of (λ name. is_picked_for given members name k) o.x.lists o.passes in
    within given members n.x k n.passes

pub lead_within : (given members : List Offer) (j k : ℕ) → leads given members j k ≡ true → k < length members
lead_within given members j k h = let n = some_of (λ name. is_picked_for given members name k) (lists_at members j) h in within given members n.x k n.passes

-- ---- the index

pub told : (given members : List Offer) (index : Index) (keys : List Name) → ((name : Name) → is_among keys name ≡ settles given name) → ((name : Name) (k : ℕ) → is_in (definers index name) k ≡ defines_at members k name && not (is_among keys name))
    → (name : Name) (k : ℕ) → is_in (definers index name) k ≡ is_picked_for given members name k
told given members index keys settled entered name k = entered name k ∙ ap (λ b. defines_at members k name && not b) (settled name)

-- ---- nothing is picked at first

pub fresh : (P : ℕ → Bool) (none one : Work) → ((k : ℕ) → is_picked none k ≡ false) → none.todo.items ≡ [] → Marks P none one → IsFresh one
fresh P none one clear empty m k = m.todo k ∙ ap (λ l. is_in l k || (is_picked one k && not (is_picked none k))) empty ∙ ap (λ b. is_picked one k && not b) (clear k) ∙ and-true (is_picked one k)

module _ (given members : List Offer) (index : Index) (said : (name : Name) (k : ℕ) → is_in (definers index name) k ≡ is_picked_for given members name k) where
  asked-is : (names : List Name) (k : ℕ) → is_asked index names k ≡ list_any (λ name. is_picked_for given members name k) names
  asked-is names k = any_same (λ name. is_in (definers index name) k) (λ name. is_picked_for given members name k) names (λ name. said name k)

  start-is : (k : ℕ) → list_any (λ o. is_asked index o.lists k) given ≡ starts given members k
  start-is k = any_same (λ o. is_asked index o.lists k) (λ o. list_any (λ name. is_picked_for given members name k) o.lists) given (λ o. asked-is o.lists k)

  lead-is : (j k : ℕ) → is_asked index (lists_at members j) k ≡ leads given members j k
  lead-is j k = asked-is (lists_at members j) k

  pub is_least : (none one all : Work) → length none.picked.items ≡ length members → ((k : ℕ) → is_picked none k ≡ false) → Marks (λ k. list_any (λ o. is_asked index o.lists k) given) none one
      → Closes (λ j k. is_asked index (lists_at members j) k) one all → IsLeast given members (λ k. get_or all.picked.items k false)
  is_least none one all count clear m c =
      let P : ℕ → Bool = λ k. list_any (λ o. is_asked index o.lists k) given in
      record {
        start = λ k h. c.kept k (m.picked k (let lt = start_within given members k h in omega (arith, lt, count)) ∙ or_right (is_picked none k) (P k) (start-is k ∙ h));
        lead = λ j k h ld. c.closed j k h (lead-is j k ∙ ld) (let lt = lead_within given members j k ld in omega (arith, lt, count, m.count));
        least = λ others f k h.
            c.least others
            (λ i p. elim (or_cases (is_picked none i) (P i) (sym (m.picked i (let lt = picked_within one i p in omega (arith, lt, m.count))) ∙ p)) [ inl a ↦ absurd (false≢true (sym (clear i) ∙ a)) | inr b ↦ f.start i (sym (start-is i) ∙ b) ])
            (λ j i cj ld. f.lead j i cj (sym (lead-is j i) ∙ ld)) k h;
      }
