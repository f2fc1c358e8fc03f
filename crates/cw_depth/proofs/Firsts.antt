-- The numbers of procedures.
use Rattle.std.proofs.Common.{◌≡◌, ℕ, zero, suc, ◌+◌, ◌*◌, ◌^◌, ◌<◌, ◌≤◌, List, [], ◌∷◌, ◌++◌, length, refl, sym, ◌∙◌, ap, arith, Option, Some, None, slice_index}
use Rattle.std.specs.Prelude.{slice_get}
use Rattle.std.proofs.lemmas.Option.{none-some, same_Some, slice_get_within}
use Rattle.cw_unit.specs.declared.unit.Unit.{Unit as SourceUnit}
use Rattle.cw_unit.specs.declared.unit.Proc.{Proc}
use Rattle.cw_unit.specs.Configuration.{procedure_in}
use Rattle.cw_depth.specs.declared.node.Node.{Node}
use Rattle.cw_depth.specs.declared.node.Node.TheVariants.{Procedure}
use Rattle.cw_depth.specs.CallGraph.{procedure_at}
use Rattle.cw_depth.specs.Numbering.{bodies_from, procedures_in, procedures_from, nodes_of, IsNumbered, procedures_before, first_number}
use Rattle.cw_depth.specs.Numbering.{AreFew}
use Rattle.cw_depth.specs.Building.{AreFirsts}
use Rattle.cw_graph.proofs.Choices.{each_placed}

pub before_none : (us : List SourceUnit) → first_number us 0 ≡ length us
before_none [] = omega arith
before_none (u ∷ us) = omega arith

before_zero : (us : List SourceUnit) → procedures_before us 0 ≡ 0
before_zero [] = refl
before_zero (u ∷ us) = refl

before_more : (us : List SourceUnit) (g : ℕ) (u : SourceUnit) → slice_get us g ≡ Some u → procedures_before us (g + 1) ≡ procedures_before us g + length u.procs
before_more [] g u e = absurd (none-some u e)
before_more (v ∷ us) zero u e =
    let same : length v.procs ≡ length u.procs = ap (λ (x : SourceUnit). length x.procs) (same_Some v u e) in
    let none : procedures_before us 0 ≡ 0 = before_zero us in
    omega arith
before_more (v ∷ us) (suc g) u e =
    let rest : procedures_before us (g + 1) ≡ procedures_before us g + length u.procs = before_more us g u e in
    let e' : suc g + 1 ≡ suc (g + 1) = omega arith in
    rw e' (omega arith)

pub first_more : (us : List SourceUnit) (g : ℕ) (u : SourceUnit) → slice_get us g ≡ Some u → first_number us (g + 1) ≡ first_number us g + length u.procs
first_more us g u e = omega (arith, before_more us g u e)

-- ---- where a procedure stands

get_past : (xs ys : List Node) (n : ℕ) → slice_get (xs ++ ys) (length xs + n) ≡ slice_get ys n
get_past [] ys n = let e : 0 + n ≡ n = omega arith in ap (slice_get ys) e
get_past (x ∷ xs) ys n = let e : length (x ∷ xs) + n ≡ suc (length xs + n) = omega arith in ap (slice_get (x ∷ (xs ++ ys))) e ∙ get_past xs ys n

pub bodies_length : (g : ℕ) (us : List SourceUnit) → length (bodies_from g us) ≡ length us
bodies_length g [] = refl
bodies_length g (u ∷ us) = omega (arith, bodies_length (g + 1) us)

segment_length : (g q : ℕ) (ps : List Proc) → length (procedures_in g q ps) ≡ length ps
segment_length g q [] = refl
segment_length g q (p ∷ ps) = omega (arith, segment_length g (q + 1) ps)

segment_there : (g q : ℕ) (ps : List Proc) (ys : List Node) (n : ℕ) → n < length ps → slice_get (procedures_in g q ps ++ ys) n ≡ Some (Procedure g (q + n))
segment_there g q [] ys n low = absurd (omega arith)
segment_there g q (p ∷ ps) ys zero low = ap (λ x. Some (Procedure g x)) (omega arith)
segment_there g q (p ∷ ps) ys (suc n) low = segment_there g (q + 1) ps ys n (omega arith) ∙ ap (λ x. Some (Procedure g x)) (omega arith)

procedure_there : (h : ℕ) (us : List SourceUnit) (g q : ℕ) (p : Proc) → procedure_in (slice_get us g) q ≡ Some p → slice_get (procedures_from h us) (procedures_before us g + q) ≡ Some (Procedure (h + g) q)
procedure_there h [] g q p e = absurd (none-some p e)
procedure_there h (u ∷ us) zero q p e =
    let low : q < length u.procs = slice_get_within u.procs q p e in
    let at' : procedures_before (u ∷ us) 0 + q ≡ q = omega arith in
    let number : 0 + q ≡ q = omega arith in
    let segment : h ≡ h + 0 = omega arith in
    ap (slice_get (procedures_in h 0 u.procs ++ procedures_from (h + 1) us)) at' ∙ segment_there h 0 u.procs (procedures_from (h + 1) us) q low ∙ ap (λ x. Some (Procedure h x)) number ∙ ap (λ x. Some (Procedure x q)) segment
procedure_there h (u ∷ us) (suc g) q p e =
    let at' : procedures_before (u ∷ us) (suc g) + q ≡ length (procedures_in h 0 u.procs) + (procedures_before us g + q) = omega (arith, segment_length h 0 u.procs) in
    let segment : (h + 1) + g ≡ h + suc g = omega arith in
    ap (slice_get (procedures_in h 0 u.procs ++ procedures_from (h + 1) us)) at'
    ∙ get_past (procedures_in h 0 u.procs) (procedures_from (h + 1) us) (procedures_before us g + q)
    ∙ procedure_there (h + 1) us g q p e
    ∙ ap (λ x. Some (Procedure x q)) segment

-- a procedure has its number
pub procedure_number : (us : List SourceUnit) (g q : ℕ) (p : Proc) → procedure_at us g q ≡ Some p → IsNumbered us (first_number us g + q) (Procedure g q)
procedure_number us g q p e =
    let at' : first_number us g + q ≡ length (bodies_from 0 us) + (procedures_before us g + q) = omega (arith, bodies_length 0 us) in
    let segment : 0 + g ≡ g = omega arith in
    ap (slice_get (nodes_of us)) at'
    ∙ get_past (bodies_from 0 us) (procedures_from 0 us) (procedures_before us g + q)
    ∙ procedure_there 0 us g q p e
    ∙ ap (λ x. Some (Procedure x q)) segment

pub firsts_more : (us : List SourceUnit) (firsts firsts' : List ℕ) (next i : ℕ) → length firsts ≡ i → next ≡ first_number us i → firsts' ≡ firsts ++ next ∷ [] → ((g : ℕ) → g < length firsts → slice_index firsts g ≡ first_number us g) → (g : ℕ) → g < length firsts' → slice_index firsts' g ≡ first_number us g
firsts_more us firsts firsts' next i size is e each =
    rw e (each_placed (λ g n. n ≡ first_number us g) firsts next each (is ∙ ap (first_number us) (sym size)))

-- ---- numbers fit

before_small : (us : List SourceUnit) (g : ℕ) → ((h : ℕ) (u : SourceUnit) → slice_get us h ≡ Some u → length u.procs ≤ 65536) → procedures_before us g ≤ 65536 * g
before_small [] g few = omega arith
before_small (u ∷ us) zero few = omega arith
before_small (u ∷ us) (suc g) few =
    let here : length u.procs ≤ 65536 = few 0 u refl in
    let rest : procedures_before us g ≤ 65536 * g = before_small us g (λ h v e. few (suc h) v e) in
    omega arith

segment_low : (us : List SourceUnit) (g q : ℕ) (p : Proc) (o : Option SourceUnit) → slice_get us g ≡ o → procedure_in o q ≡ Some p → (u : SourceUnit) × ((slice_get us g ≡ Some u) × (slice_get u.procs q ≡ Some p))
segment_low us g q p None e is = absurd (none-some p is)
segment_low us g q p (Some u) e is = (u, (e, is))

pub place_number : (us : List SourceUnit) (firsts : List ℕ) (g q : ℕ) (p : Proc) → AreFirsts us firsts → procedure_at us g q ≡ Some p → slice_index firsts g ≡ first_number us g
place_number us firsts g q p f is =
    let (u, (e, e')) = segment_low us g q p (slice_get us g) refl is in
    let low : g < length us = slice_get_within us g u e in
    f.each g (omega (arith, f.size))

pub place_fits : (us : List SourceUnit) (firsts : List ℕ) (g q : ℕ) (p : Proc) → AreFew us → AreFirsts us firsts → procedure_at us g q ≡ Some p → slice_index firsts g + q < 2 ^ 64
place_fits us firsts g q p few f is =
    let (u, (e, e')) = segment_low us g q p (slice_get us g) refl is in
    let low : g < length us = slice_get_within us g u e in
    let low' : q < length u.procs = slice_get_within u.procs q p e' in
    let procs : length u.procs ≤ 65536 = few.procedures g u e in
    let small : procedures_before us g ≤ 65536 * g = before_small us g few.procedures in
    omega (arith, place_number us firsts g q p f is, few.segments)
