-- What the end of a run tells is one status, and so much was taken of its input.
use Rattle.std.proofs.Common.{◌≡◌, ◌≢◌, ◌⊎◌, ℕ, ◌+◌, List, [], ◌++◌, length, length-append, Option, Some, None, sym, ap, ◌∙◌, subst, arith}
use Rattle.cw_i86.specs.State.{State}
use Rattle.cw_i86.specs.MachineRun as run
use Rattle.cw_ports.specs.Pieces.{input_limit}
use Rattle.cw_ports.specs.Running.{Taken, TakenWithin}
use Rattle.cw_correct.specs.Calls.{Call}
use Rattle.cw_correct.specs.Running.{Begins, ImageShows, Tells}
use Rattle.cw_say.specs.declared.status.Status.{Status}
use Rattle.cw_say.specs.declared.status.Status.TheVariants.{Ended, Stopped, Unfinished, TooLong, BadCode, Divided}
use Rattle.cw_say.specs.declared.status.Long.TheVariants as long
use Rattle.cw_actions.proofs.Going.Given.{OneRun}

-- a status that tells an end is not that of an input that is too long
pub not_too_long : (steps : ℕ) (s : Status) (end : run.End) → Tells steps s end → s ≢ TooLong long.Input
not_too_long steps s end tells e = subst (λ x. Tells steps x end) e tells

-- the number of bytes taken is one, where the source tells them
taken_once : (left left' : Option (List ℕ)) (told : List ℕ) (m n : ℕ) → left ≡ Some told → Taken left left' m → Taken left left' n → m ≡ n
taken_once left None told m n is (xs, same, count) (ys, also, other) = absurd (cc)
taken_once left (Some rest) told m n is (xs, same, count) (ys, also, other) =
    let first : ◌≡◌ {A = Option (List ℕ)} (Some told) (Some (xs ++ rest)) = sym is ∙ same in
    let second : ◌≡◌ {A = Option (List ℕ)} (Some told) (Some (ys ++ rest)) = sym is ∙ also in
    let one : told ≡ xs ++ rest = ap bytes_of first in
    let two : told ≡ ys ++ rest = ap bytes_of second in
    omega (arith, count, other, ap length one, ap length two, length-append xs rest, length-append ys rest)
  where
    bytes_of : Option (List ℕ) → List ℕ
    bytes_of None = []
    bytes_of (Some bytes) = bytes

module _ (c : Call) where
  -- the source tells its bytes where one of two statuses is that of an input that is too long
  abbrev pub TellsInput : Status → Status → Type 0
  TellsInput s t = (s ≡ TooLong long.Input) ⊎ (t ≡ TooLong long.Input) → (told : List ℕ) × (c.before.left ≡ Some told)

  pub too_many : (told : List ℕ) → c.before.left ≡ Some told → TakenWithin c.before.left c.after.left → Taken c.before.left c.after.left (input_limit + 1) → ⊥
  too_many told is (count, taken, within) over =
      let same : count ≡ input_limit + 1 = taken_once c.before.left c.after.left told count (input_limit + 1) is taken over in
      omega (arith, within, same)

  -- the status that tells an end
  abbrev told_by : run.End → Status
  told_by run.Running = Unfinished c.steps
  told_by run.Ended = Ended
  told_by (run.Stopped kind segment line) = Stopped kind segment line
  told_by (run.Bad offset) = BadCode offset
  told_by (run.Divided offset) = Divided offset

  tells_one : (s : Status) (end : run.End) → Tells c.steps s end → s ≡ told_by end
  tells_one (Unfinished count) end e = ap Unfinished e.1 ∙ sym (ap told_by e.0)
  tells_one Ended end e = sym (ap told_by e)
  tells_one (Stopped kind segment line) end e = sym (ap told_by e)
  tells_one (BadCode offset) end e = sym (ap told_by e)
  tells_one (Divided offset) end e = sym (ap told_by e)
  tells_one _ end e = absurd e

  -- two runs that begin alike show the same, and so one status
  pub one_of_runs : OneRun → (begins : Begins) → ((a b : State) → begins a → begins b → a ≡ b) → (input : List ℕ) (s t : Status) (o q : run.Observed) → ImageShows begins input c.steps o → Tells c.steps s o.end
      → ImageShows begins input c.steps q → Tells c.steps t q.end → s ≡ t
  one_of_runs runs begins one input s t o q x tells y told =
      let start : x.start ≡ y.start = one x.start y.start x.is_start y.is_start in
      let same : o ≡ q = runs.once y.start input c.steps o q (subst (λ z. run.Shows z input c.steps o) start x.shows) y.shows in
      tells_one s o.end tells ∙ ap (λ z. told_by z.end) same ∙ sym (tells_one t q.end told)
