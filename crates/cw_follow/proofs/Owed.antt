-- A block that is carried out while a statement is owed: its first instruction notes it.
use Rattle.std.proofs.Common.{◌≡◌, ◌⊎◌, ℕ, ◌+◌, ◌<◌, ◌≤◌, true, List, [], refl, sym, subst, arith, lit<}
use Rattle.cw_track.specs.Machine.{Machine}
use Rattle.cw_track.specs.Watching.{noted}
use Rattle.cw_track.proofs.Paths.{Path, stay, next}
use Rattle.cw_track.proofs.Simulations.{Quiet}
use Rattle.cw_track.proofs.Watching.{Unnoted}
use Rattle.cw_track.proofs.Owing.{FollowedOwing, goes}
use Rattle.cw_run86.specs.Processor.{Processor, processor_machine, processor_step, observed}
use Rattle.cw_image.specs.Begun.{StatementPlace}
use Rattle.cw_unit.specs.Begun.{Begun}
use Rattle.cw_unit.specs.Behaviour.{Observation}
use Rattle.cw_follow.specs.Showing.{shown_as}
use Rattle.cw_follow.specs.Passing.{passes}
use Rattle.cw_follow.proofs.Watched.{Watched, watched_step, watched_machine, over, fresh, unwatched}

-- what the processor does after the first instruction of a block: nothing is noted
pub record Behind (P : Observation → Type 0) (places : List StatementPlace) (area spent : ℕ) (q reached : Processor) : Type 0 where
  pub rest : ℕ
  pub spent_is : spent ≡ 1 + rest
  pub path : Path (Unnoted P) (noted (processor_machine shown_as) (passes places area)) rest (processor_step q) reached

pub behind_first : (P : Observation → Type 0) (places : List StatementPlace) (area spent : ℕ) (q : Processor) (u : Watched) → 0 < spent → u.begun ≡ [] → Path (Unnoted P) watched_machine spent (over true (fresh places area q)) u → Behind P places area spent q u.processor
unfolding watched_step
behind_first P places area spent q u some silent (stay tu z) = absurd (omega arith)
behind_first P places area spent q u some silent (next {w' = w'} {t' = t'} a st we p) =
    let after = watched_step (over true (fresh places area q)) in
    let path : Path (Unnoted P) watched_machine w' after u = subst (λ x. Path (Unnoted P) watched_machine w' x u) (sym st) p in
    record { rest = w'; spent_is = we; path = unwatched P w' after u refl path silent }

-- so a block is followed where a statement is owed, and where nothing is: what is noted at its first instruction is what is owed, and where
-- anything is, that instruction shows nothing
pub block_goes : (A : Machine Observation) (notesA : A.State → List Begun) (Matches : List Begun → A.State → Processor → Type 0) (rank : A.State → ℕ) (places : List StatementPlace) (area : ℕ) (es : List Begun) (s : A.State) (q : Processor) (u : Watched) (spent : ℕ)
    → notesA s ≡ [] → passes places area q ≡ es → (es ≡ []) ⊎ (shown_as (observed (processor_step q)) ≡ A.shown s) → 0 < spent → spent ≤ A.weight s → u.begun ≡ []
    → Path (Unnoted (Quiet (A.shown s) (A.shown (A.step s)))) watched_machine spent (over true (fresh places area q)) u → Matches [] (A.step s) u.processor
    → FollowedOwing A (processor_machine shown_as) notesA (passes places area) Matches rank es s q
block_goes A notesA Matches rank places area es s q u spent none notes quiet some within silent path m =
    let b = behind_first (Quiet (A.shown s) (A.shown (A.step s))) places area spent q u some silent path in
    let is = b.spent_is in
    goes {rest = b.rest} {reached = u.processor} none notes quiet (lit< tt) (let l : 1 + b.rest ≤ A.weight s = omega arith in l) b.path m
