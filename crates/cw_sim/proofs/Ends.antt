-- The ends of the 8086 and of the source, and the stops of sums.
use Rattle.std.proofs.Common.{◌≡◌, ◌≢◌, ℕ, zero, suc, ◌≤◌, Option, Some, None, refl, sym, ap, ◌∙◌, subst, arith}
use Rattle.std.proofs.lemmas.Bool.Decides.{nat_tests}
use Rattle.cw_i86.specs.MachineRun as run
use Rattle.cw_unit.specs.Stop.{StopKind, Overflow, ZeroDivisor, SwitchRange, AddressRange, FramesFull, DepthReached, IndexRange, stop_number, Stopped, Stuck}
use Rattle.cw_unit.specs.Behaviour.{Observation}
use Rattle.cw_follow.specs.Showing.{stop_of, stopped_by, end_of, shown_as}
use Rattle.cw_sim.specs.Preservation.{TellsEnd, ShowsAs}

-- a number past the last is that of no stop
none_past : (k : ℕ) → 8 ≤ k → stop_of k ≡ None
none_past k past = grind (arith, nat_tests)

stop_found : (kind : ℕ) (stop : StopKind) → stop_of kind ≡ Some stop → kind ≡ stop_number stop
stop_found (suc zero) stop e = let s : Overflow ≡ stop = cc in ap stop_number s
stop_found (suc (suc zero)) stop e = let s : ZeroDivisor ≡ stop = cc in ap stop_number s
stop_found (suc (suc (suc zero))) stop e = let s : SwitchRange ≡ stop = cc in ap stop_number s
stop_found (suc (suc (suc (suc zero)))) stop e = let s : AddressRange ≡ stop = cc in ap stop_number s
stop_found (suc (suc (suc (suc (suc zero))))) stop e = let s : FramesFull ≡ stop = cc in ap stop_number s
stop_found (suc (suc (suc (suc (suc (suc zero)))))) stop e = let s : DepthReached ≡ stop = cc in ap stop_number s
stop_found (suc (suc (suc (suc (suc (suc (suc zero))))))) stop e = let s : IndexRange ≡ stop = cc in ap stop_number s
stop_found zero stop e = absurd (let n : ◌≡◌ {A = Option StopKind} None (Some stop) = e in cc)
stop_found (suc (suc (suc (suc (suc (suc (suc (suc n)))))))) stop e =
    absurd (let none : ◌≡◌ {A = Option StopKind} None (Some stop) = sym (none_past (suc (suc (suc (suc (suc (suc (suc (suc n)))))))) (omega arith)) ∙ e in cc)

tells_stop : (kind segment line : ℕ) (o : Option StopKind) → stop_of kind ≡ o → stopped_by o segment line ≢ Stuck → (stop : StopKind) × (kind ≡ stop_number stop) × (stopped_by o segment line ≡ Stopped stop segment line)
tells_stop kind segment line None e go = absurd (go refl)
tells_stop kind segment line (Some stop) e go = (stop, stop_found kind stop e, refl)

pub tells : (e : run.End) → end_of e ≢ Stuck → TellsEnd e (end_of e)
tells run.Running go = refl
tells run.Ended go = refl
tells (run.Stopped kind segment line) go = tells_stop kind segment line (stop_of kind) refl go
tells (run.Bad offset) go = absurd (go refl)
tells (run.Divided offset) go = absurd (go refl)

pub shows_as : (o : run.Observed) (meant : Observation) → shown_as o ≡ meant → meant.end ≢ Stuck → ShowsAs o meant
shows_as o meant e go =
    let same : end_of o.end ≡ meant.end = ap (λ x. x.end) e in
    record {
      output = ap (λ x. x.output) e;
      end = subst (TellsEnd o.end) same (tells o.end (λ stuck. go (sym same ∙ stuck)));
    }
