-- Units that pass the test are built.
use Rattle.std.proofs.Common.{◌≡◌, ℕ, zero, suc, ◌+◌, ◌≤◌, List, [], ◌∷◌, length, Bool, IsTrue, ◌&&◌, Some, None, nat_le, refl, subst, arith, slice_get, leb-true}
use Rattle.std.proofs.lemmas.Option.{none-some, same_Some}
use Rattle.cw_unit.specs.declared.unit.Unit.{Unit as SourceUnit}
use Rattle.cw_unit.specs.declared.unit.Proc.{Proc}
use Rattle.cw_unit.specs.declared.unit.Param.{Param}
use Rattle.cw_unit.specs.declared.unit.Param.TheVariants as param
use Rattle.cw_gen_expr.specs.NamedItems.{ItemFits, ItemsFit, has_words}
use Rattle.cw_gen_unit.specs.BuiltStatements.{is_statement}
use Rattle.cw_gen_unit.specs.BuiltUnits.{AllBuilt, item_fits, items_fit, is_procedure, are_procedures, are_built}
use Rattle.cw_gen_unit.specs.ReferenceUnits.{answer_of}
use Rattle.cw_safety.proofs.Truth.{both, each_numbered}

item-fits : (f : ℕ → Bool) (q : Param) → IsTrue (item_fits f q) → ItemFits (λ i. IsTrue (f i)) q
item-fits f (param.Label k) h = tt
item-fits f (param.Switch k) h = tt
item-fits f (param.Proc k s) h = tt
item-fits f _ h = h

items-fit : (f : ℕ → Bool) (qs : List Param) → IsTrue (items_fit f qs) → ItemsFit (λ i. IsTrue (f i)) qs
items-fit f [] h = tt
items-fit f (q ∷ qs) h = let parts = both (item_fits f q) (items_fit f qs) h in (item-fits f q parts.0, items-fit f qs parts.1)

procedure-built : (u : SourceUnit) (n k : ℕ) (qs : List Proc) (q : Proc) → IsTrue (are_procedures u n qs) → slice_get qs k ≡ Some q → IsTrue (is_procedure u (n + k) q)
procedure-built u n k qs q = each_numbered (is_procedure u) (are_procedures u) (λ m x xs. refl) n k qs q

abbrev IsBuilt : SourceUnit → Type 0
IsBuilt u = IsTrue (is_statement u (has_words u None) None 0 u.body 64) × IsTrue (are_procedures u 0 u.procs)

unit-built : (us : List SourceUnit) (g : ℕ) (u : SourceUnit) → IsTrue (are_built us) → slice_get us g ≡ Some u → IsBuilt u
unit-built [] g u h e = absurd (none-some u e)
unit-built (x ∷ us) zero u h e =
    let whole : Bool = is_statement x (has_words x None) None 0 x.body 64 && are_procedures x 0 x.procs in
    subst IsBuilt (same_Some x u e) (both (is_statement x (has_words x None) None 0 x.body 64) (are_procedures x 0 x.procs) (both whole (are_built us) h).0)
unit-built (x ∷ us) (suc g) u h e =
    let whole : Bool = is_statement x (has_words x None) None 0 x.body 64 && are_procedures x 0 x.procs in
    unit-built us g u (both whole (are_built us) h).1 e

record OfProcedure (u : SourceUnit) (p : ℕ) (q : Proc) : Type 0 where
  body : IsTrue (is_statement u (has_words u (Some p)) (Some p) (answer_of u (Some p)) q.body 64)
  few : length q.params ≤ 32
  items : ItemsFit (λ i. IsTrue (has_words u (Some p) i 1)) q.params

of-procedure : (us : List SourceUnit) (g p : ℕ) (u : SourceUnit) (q : Proc) → IsTrue (are_built us) → slice_get us g ≡ Some u → slice_get u.procs p ≡ Some q → OfProcedure u p q
of-procedure us g p u q h u-is q-is =
    let at : 0 + p ≡ p = omega arith in
    let rest : Bool = nat_le (length q.params) 32 && items_fit (λ i. has_words u (Some p) i 1) q.params in
    let all = both (is_statement u (has_words u (Some p)) (Some p) (answer_of u (Some p)) q.body 64) rest (subst (λ m. IsTrue (is_procedure u m q)) at (procedure-built u 0 p u.procs q (unit-built us g u h u-is).1 q-is)) in
    let few = both (nat_le (length q.params) 32) (items_fit (λ i. has_words u (Some p) i 1) q.params) all.1 in
    record { body = all.0; few = leb-true (length q.params) 32 few.0; items = items-fit (λ i. has_words u (Some p) i 1) q.params few.1 }

pub tested : (us : List SourceUnit) → IsTrue (are_built us) → AllBuilt us
tested us h = record {
  bodies = λ g u e. (unit-built us g u h e).0;
  procedures = λ g p u q e f. (of-procedure us g p u q h e f).body;
  few = λ g p u q e f. (of-procedure us g p u q h e f).few;
  items = λ g p u q e f. (of-procedure us g p u q h e f).items;
}
