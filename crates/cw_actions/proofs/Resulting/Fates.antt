-- Of two statuses of one call, each of which is want of memory, or that of the reading, or comes of all files.
use Rattle.std.proofs.Common.{◌≡◌, ◌≢◌, ◌⊎◌, List, [], ◌∷◌, ℕ, Some, None, sym, ◌∙◌, inl, inr}
use Rattle.cw_say.specs.declared.status.Status.{Status}
use Rattle.cw_say.specs.declared.status.Status.TheVariants.{Ended, NoMemory}
use Rattle.cw_actions.proofs.Resulting.Readings.{Found, AllFit, never, one_stop}
use Rattle.cw_actions.proofs.Resulting.Outcomes.{Kind, FileRuns}

module _ (k : Kind) (After : List k.Value → Status → Type 0) where
  abbrev pub Fate : List Found → Status → Type 0
  Fate found s = (s ≡ NoMemory) ⊎ ((xs : List k.Value) × FileRuns k found xs (Some s)) ⊎ ((xs : List k.Value) × FileRuns k found xs None × After xs s)

  -- of the reading
  pub stopped : (found : List Found) (xs : List k.Value) (s : Status) → (s ≡ NoMemory) ⊎ FileRuns k found xs (Some s) → Fate found s
  stopped found xs s (inl e) = inl e
  stopped found xs s (inr run) = inr (inl (xs, run))

  module _ (Fits : List ℕ → Type 0) (one_wrong : (bytes : List ℕ) (v w : k.Wrong) → Fits bytes → k.Refuses bytes v → k.Refuses bytes w → v ≡ w)
      (found : List Found) (s t : Status) (one_after : (xs ys : List k.Value) → FileRuns k found xs None → FileRuns k found ys None → After xs s → After ys t → s ≡ t) where
    pub one_fate : AllFit Fits found → s ≢ NoMemory → t ≢ NoMemory → Fate found s → Fate found t → s ≡ t
    one_fate fit m n (inl e) y = absurd (m e)
    one_fate fit m n x (inl e) = absurd (n e)
    one_fate fit m n (inr (inl (xs, x))) (inr (inl (ys, y))) = one_stop k.limit k.Accepts k.Refuses k.status_of k.not_both Fits one_wrong 0 found xs ys s t fit x y
    one_fate fit m n (inr (inl (xs, x))) (inr (inr (ys, y, after))) = absurd (never k.limit k.Accepts k.Refuses k.status_of k.not_both 0 found ys xs s y x)
    one_fate fit m n (inr (inr (xs, x, after))) (inr (inl (ys, y))) = absurd (never k.limit k.Accepts k.Refuses k.status_of k.not_both 0 found xs ys t x y)
    one_fate fit m n (inr (inr (xs, x, after))) (inr (inr (ys, y, other))) = one_after xs ys x y after other

-- after all files it ends
module _ (k : Kind) where
  abbrev pub Ends : List k.Value → Status → Type 0
  Ends xs s = s ≡ Ended

  pub one_ended : (Fits : List ℕ → Type 0) (one_wrong : (bytes : List ℕ) (v w : k.Wrong) → Fits bytes → k.Refuses bytes v → k.Refuses bytes w → v ≡ w) (found : List Found) (s t : Status) → AllFit Fits found → s ≢ NoMemory → t ≢ NoMemory
      → Fate k Ends found s → Fate k Ends found t → s ≡ t
  one_ended Fits one_wrong found s t = one_fate k Ends Fits one_wrong found s t (λ xs ys runs others e f. e ∙ sym f)

-- files of which any bytes will do
abbrev pub Any : List ℕ → Type 0
Any text = Unit {0}

pub any : (found : List Found) → AllFit Any found
any [] = tt
any (None ∷ found) = any found
any (Some text ∷ found) = (tt, any found)
