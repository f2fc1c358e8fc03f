-- How nodes are told, and the report of a program by that of its graph.
use Rattle.std.proofs.Common.{◌≡◌, ℕ, zero, suc, ◌+◌, ◌<◌, List, [], ◌∷◌, length, map, inl, inr, refl, sym, ap, subst, arith, Some, None, slice_index_or}
use Rattle.std.specs.Prelude.{slice_get}
use Rattle.std.proofs.lemmas.Option.{none-some, get_or_from_slice_get}
use Rattle.cw_unit.specs.declared.unit.Unit.{Unit as SourceUnit}
use Rattle.cw_depth.specs.declared.node.Node.{Node}
use Rattle.cw_depth.specs.declared.node.Node.TheVariants.{Body, Procedure}
use Rattle.cw_graph.specs.declared.graph.Graph.{Graph}
use Rattle.cw_graph.specs.Reports.{IsBound, IsUnbounded}
use Rattle.cw_graph.specs.Rows.{LeadsTo, IsBodyOf, IsProcedureOf, Below}
use Rattle.cw_depth.specs.CallGraph.{Before, Leads, IsBody, IsProcedure}
use Rattle.cw_depth.specs.Numbering.{bodies_from, procedures_in, procedures_from, nodes_of, IsGraphOf, node_at}
use Rattle.cw_depth.specs.Told.{told, TellsBound, TellsUnbounded}
use Rattle.cw_depth.proofs.Sorted.{get_append, in_bodies, in_segment}
use Rattle.cw_depth.proofs.Transport.{bound_up, unbounded_up}

procedures_high : (g : ℕ) (us : List SourceUnit) (n : ℕ) (b : Node) → slice_get (procedures_from g us) n ≡ Some b → (h : ℕ) × ((q : ℕ) × ((b ≡ Procedure h q) × (h < g + length us)))
procedures_high g [] n b e = absurd (none-some b e)
procedures_high g (u ∷ us) n b e =
    elim (get_append (procedures_in g 0 u.procs) (procedures_from (g + 1) us) n b e) [
      | inl here ↦ (g, (0 + n, ((in_segment g 0 u.procs n b here).0, omega arith)))
      | inr there ↦ let (h, (q, (same, lt))) = procedures_high (g + 1) us there.0 b there.1 in (h, (q, (same, omega arith)))
    ]

-- a procedure's segment is one of the program's
pub segment_small : (us : List SourceUnit) (n g q : ℕ) → slice_get (nodes_of us) n ≡ Some (Procedure g q) → g < length us
segment_small us n g q e =
    elim (get_append (bodies_from 0 us) (procedures_from 0 us) n (Procedure g q) e) [
      | inl here ↦ let (same, low) = in_bodies 0 us n (Procedure g q) here in absurd (cc)
      | inr there ↦
          let (h, (r, (same, lt))) = procedures_high 0 us there.0 (Procedure g q) there.1 in
          let e' : g ≡ h = cc in
          omega arith
    ]

past_body : (xs : List Node) (n : ℕ) → slice_get xs n ≡ None → slice_index_or xs n (Body 0) ≡ Body 0
past_body [] n e = refl
past_body (x ∷ xs) zero e = absurd (none-some x (sym e))
past_body (x ∷ xs) (suc n) e = past_body xs n e

pub bound_told : (us : List SourceUnit) (g : Graph) (chain : List ℕ) (list : List (ℕ × ℕ)) → IsGraphOf us g → list ≡ map told (map (node_at us) chain) → IsBound (LeadsTo g) Below (IsBodyOf g) chain → TellsBound us list
bound_told us g chain list graph e b = record { nodes = map (node_at us) chain; bound = bound_up us g graph chain b; chain_is = e }

told_as : (us : List SourceUnit) (a : Node) (s q : ℕ) → ◌≡◌ {A = ℕ × ℕ} (s, q) (told a) → IsUnbounded (Leads us) Before (IsBody us) IsProcedure a → TellsUnbounded us s q
told_as us (Body h) s q e first = absurd first.holds.0
told_as us (Procedure h r) s q e first =
    let number : q ≡ r = ap (λ (x : ℕ × ℕ). x.1) e in
    record {
      from_zero = h;
      first = subst (λ (x : ℕ). IsUnbounded (Leads us) Before (IsBody us) IsProcedure (Procedure h x)) (sym number) first;
      segment_is = ap (λ (x : ℕ × ℕ). x.0) e;
    }

pub unbounded_told : (us : List SourceUnit) (g : Graph) (n s q : ℕ) → IsGraphOf us g → ◌≡◌ {A = ℕ × ℕ} (s, q) (told (node_at us n)) → IsUnbounded (LeadsTo g) Below (IsBodyOf g) (IsProcedureOf g) n → TellsUnbounded us s q
unbounded_told us g n s q graph e first = told_as us (node_at us n) s q e (unbounded_up us g graph n first)
