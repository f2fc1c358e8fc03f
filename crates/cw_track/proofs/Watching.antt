-- A simulation of machines that are watched: the one notes what the other notes.
use Rattle.std.proofs.Common.{◌≡◌, ◌⊎◌, inl, inr, ⊎_elim, ℕ, zero, suc, ◌+◌, ◌<◌, ◌≤◌, Bool, true, false, List, [], ◌++◌, refl, sym, ap, ap₂, ◌∙◌, subst}
use Rattle.std.proofs.lemmas.List.{append-nil}
use Rattle.cw_track.specs.Machine.{Machine, shown_after}
use Rattle.cw_track.specs.Watching.{watched, noted}
use Rattle.cw_track.proofs.Paths.{Path, stay, next}
use Rattle.cw_track.proofs.Simulations.{Quiet, Way, one, more, Leapt, Leaping}

-- watching changes nothing of what a machine shows
pub shown_unwatched : {O E : Type 0} (M : Machine O) (notes : M.State → List E) (k : ℕ) (s : M.State) (es : List E) → (shown_after (watched M notes) k (s, es)).0 ≡ shown_after M k s
shown_unwatched M notes zero s es = refl
shown_unwatched M notes (suc k) s es = shown_unwatched M notes k (M.step s) (es ++ notes s)

-- nothing is noted where a state shows this
abbrev pub Unnoted : {O E : Type 0} → (O → Type 0) → O × List E → Type 0
Unnoted P o = P o.0 × (o.1 ≡ [])

-- a path on which nothing is noted
pub unnoted : {O E : Type 0} (P : O → Type 0) (Q : O × List E → Type 0) (M : Machine O) (notes : M.State → List E) (es : List E) → ((o : O) → P o → Q (o, es)) → (w : ℕ) (t u : M.State) → Path (Unnoted P) (noted M notes) w t u → Path Q (watched M notes) w (t, es) (u, es)
unnoted P Q M notes es f w t u (stay tu z) = stay (ap (λ x. (x, es)) tu) z
unnoted P Q M notes es f w t u (next {w' = w'} {t' = t'} a st we p) =
    next (f (M.shown t) a.0) (ap₂ (λ x y. (x, y)) st (ap (λ y. es ++ y) a.1 ∙ append-nil es)) we (unnoted P Q M notes es f w' t' u p)

-- how B goes on while A makes a step at which nothing is noted, or at which A notes something, shows nothing else, and B notes the same
-- before its first step
pub data Notes {O E : Type 0} (A B : Machine O) (notesA : A.State → List E) (notesB : B.State → List E) (s : A.State) (t : B.State) : ℕ → B.State → Type 0 where
  nothing : {spent : ℕ} {reached : B.State} → notesA s ≡ [] → Path (Unnoted (Quiet (A.shown s) (A.shown (A.step s)))) (noted B notesB) spent t reached → Notes A B notesA notesB s t spent reached
  same : {spent rest : ℕ} {reached : B.State} → A.shown (A.step s) ≡ A.shown s → notesB t ≡ notesA s → spent ≡ B.weight t + rest → Path (Unnoted (Quiet (A.shown s) (A.shown (A.step s)))) (noted B notesB) rest (B.step t) reached → Notes A B notesA notesB s t spent reached

-- the same as in a simulation of machines that are not watched, with notes
pub record FollowedNoting {O E : Type 0} (A B : Machine O) (notesA : A.State → List E) (notesB : B.State → List E) (Matches : A.State → B.State → Type 0) (rank : A.State → ℕ) (s : A.State) (t : B.State) : Type 0 where
  pub spent : ℕ
  pub reached : B.State
  pub notes : Notes A B notesA notesB s t spent reached
  pub within : spent ≤ A.weight s
  pub matched : Matches (A.step s) reached
  pub progress : (0 < spent) ⊎ (rank (A.step s) < rank s)

-- A's steps from s to u, at least one, where nothing is noted; all but the last one show nothing new
pub data SilentWay {O E : Type 0} (A : Machine O) (notesA : A.State → List E) : A.State → A.State → Type 0 where
  only_step : {s u : A.State} → A.step s ≡ u → notesA s ≡ [] → SilentWay A notesA s u
  step_then : {s r u : A.State} → A.step s ≡ r → notesA s ≡ [] → A.shown r ≡ A.shown s → SilentWay A notesA r u → SilentWay A notesA s u

-- one such way after another, where the first one shows nothing new
pub silent_ways : {O E : Type 0} (A : Machine O) (notesA : A.State → List E) {s r u : A.State} → SilentWay A notesA s r → A.shown r ≡ A.shown s → SilentWay A notesA r u → SilentWay A notesA s u
silent_ways A notesA (only_step st none) alike behind = step_then st none alike behind
silent_ways A notesA (step_then st none like way) alike behind = step_then st none like (silent_ways A notesA way (alike ∙ sym like) behind)

-- how B goes on while A makes these
pub record LeaptNoting {O E : Type 0} (A B : Machine O) (notesA : A.State → List E) (notesB : B.State → List E) (Matches : A.State → B.State → Type 0) (rank : A.State → ℕ) (s : A.State) (t : B.State) : Type 0 where
  pub to : A.State
  pub way : SilentWay A notesA s to
  pub spent : ℕ
  pub reached : B.State
  pub path : Path (Unnoted (Quiet (A.shown s) (A.shown to))) (noted B notesB) spent t reached
  pub within : spent ≤ A.weight s
  pub matched : Matches to reached
  pub progress : (0 < spent) ⊎ (rank to < rank s)

-- nothing moves, and nothing is noted
pub still : {S E : Type 0} (s : S) (es : List E) (t : S) (fs : List E) → t ≡ s → fs ≡ [] → ◌≡◌ {A = S × List E} (t, es ++ fs) (s, es)
still s es t fs e n = ap₂ (λ x y. (x, y)) e (ap (λ y. es ++ y) n ∙ append-nil es)

-- where the run is over nothing is noted
pub record SimulationNoting {O E : Type 0} (is_running : O → Bool) (A B : Machine O) (notesA : A.State → List E) (notesB : B.State → List E) (Matches : A.State → B.State → Type 0) (rank : A.State → ℕ) : Type 0 where
  pub agrees : (s : A.State) (t : B.State) → Matches s t → B.shown t ≡ A.shown s
  pub rests : (s : A.State) (t : B.State) → Matches s t → is_running (A.shown s) ≡ false → (A.step s ≡ s) × (B.step t ≡ t)
  pub idle : (s : A.State) (t : B.State) → Matches s t → is_running (A.shown s) ≡ false → (notesA s ≡ []) × (notesB t ≡ [])
  pub follows : (s : A.State) (t : B.State) → Matches s t → is_running (A.shown s) ≡ true → FollowedNoting A B notesA notesB Matches rank s t ⊎ LeaptNoting A B notesA notesB Matches rank s t

module _ {O E : Type 0} (is_running : O → Bool) (A B : Machine O) (notesA : A.State → List E) (notesB : B.State → List E) (Matches : A.State → B.State → Type 0) (rank : A.State → ℕ) (simulation : SimulationNoting is_running A B notesA notesB Matches rank) where
  abbrev pub shows_running : O × List E → Bool
  shows_running o = is_running o.0

  abbrev pub MatchesNoting : A.State × List E → B.State × List E → Type 0
  MatchesNoting s t = Matches s.0 t.0 × (t.1 ≡ s.1)

  still_noted : {s u : A.State} (es : List E) → A.step s ≡ u → notesA s ≡ [] → ◌≡◌ {A = A.State × List E} (A.step s, es ++ notesA s) (u, es)
  still_noted {s} {u} es st none = still u es (A.step s) (notesA s) st none

  -- a path on which nothing is noted
  quiet_path : (before behind : O) (es : List E) (spent : ℕ) (t reached : B.State) → Path (Unnoted (Quiet before behind)) (noted B notesB) spent t reached → Path (Quiet (before, es) (behind, es)) (watched B notesB) spent (t, es) (reached, es)
  quiet_path before behind es spent t reached path =
      unnoted (Quiet before behind) (Quiet (before, es) (behind, es)) B notesB es (λ o q. ⊎_elim (λ (e : o ≡ before). inl (ap (λ x. (x, es)) e)) (λ (e : o ≡ behind). inr (ap (λ x. (x, es)) e)) q) spent t reached path

  -- the path of the machine that is watched
  abbrev Watching : (s : A.State) (t : B.State) (es : List E) → ℕ → B.State → Type 0
  Watching s t es spent reached = Path (Quiet (A.shown s, es) (A.shown (A.step s), es ++ notesA s)) (watched B notesB) spent (t, es) (reached, es ++ notesA s)

  watching : (s : A.State) (t : B.State) (es : List E) → Matches s t → (spent : ℕ) (reached : B.State) → Notes A B notesA notesB s t spent reached → Watching s t es spent reached
  watching s t es r spent reached (nothing none path) =
      let same_notes : es ≡ es ++ notesA s = sym (ap (λ y. es ++ y) none ∙ append-nil es) in
      let before = A.shown s in
      let behind = A.shown (A.step s) in
      subst (λ fs. Path (Quiet (before, es) (behind, fs)) (watched B notesB) spent (t, es) (reached, fs)) same_notes (quiet_path before behind es spent t reached path)
  watching s t es r spent reached (same {rest = rest} quiet notes weight path) =
      let before = A.shown s in
      let behind = A.shown (A.step s) in
      let fs = es ++ notesA s in
      next (inl (ap (λ x. (x, es)) (simulation.agrees s t r))) (ap (λ y. (B.step t, es ++ y)) notes) weight
      (unnoted (Quiet before behind) (Quiet (before, es) (behind, fs)) B notesB fs (λ o q. inr (ap (λ x. (x, fs)) (⊎_elim (λ (e : o ≡ before). e ∙ sym quiet) (λ (e : o ≡ behind). e) q))) rest (B.step t) reached path)

  -- the way of the machine that is watched
  way_watched : {s u : A.State} (es : List E) → SilentWay A notesA s u → Way (watched A notesA) (s, es) (u, es)
  way_watched es (only_step st none) = one (still_noted es st none)
  way_watched es (step_then st none alike way) = more (still_noted es st none) (ap (λ o. (o, es)) alike) (way_watched es way)

  one_leap : (s : A.State) (t : B.State) (es fs : List E) → Matches s t → fs ≡ es → FollowedNoting A B notesA notesB Matches rank s t → Leapt (watched A notesA) (watched B notesB) MatchesNoting (λ s. rank s.0) (s, es) (t, fs)
  one_leap s t es fs r e f = record {
    to = (A.step s, es ++ notesA s);
    way = one refl;
    spent = f.spent;
    reached = (f.reached, es ++ notesA s);
    path = subst (λ x. Path (Quiet (A.shown s, es) (A.shown (A.step s), es ++ notesA s)) (watched B notesB) f.spent (t, x) (f.reached, es ++ notesA s)) (sym e) (watching s t es r f.spent f.reached f.notes);
    within = f.within;
    matched = (f.matched, refl);
    progress = f.progress;
  }

  silent_leap : (s : A.State) (t : B.State) (es fs : List E) → fs ≡ es → LeaptNoting A B notesA notesB Matches rank s t → Leapt (watched A notesA) (watched B notesB) MatchesNoting (λ s. rank s.0) (s, es) (t, fs)
  silent_leap s t es fs e f = record {
    to = (f.to, es);
    way = way_watched es f.way;
    spent = f.spent;
    reached = (f.reached, es);
    path = subst (λ x. Path (Quiet (A.shown s, es) (A.shown f.to, es)) (watched B notesB) f.spent (t, x) (f.reached, es)) (sym e) (quiet_path (A.shown s) (A.shown f.to) es f.spent t f.reached f.path);
    within = f.within;
    matched = (f.matched, refl);
    progress = f.progress;
  }

  pub simulation_watched : Leaping shows_running (watched A notesA) (watched B notesB) MatchesNoting (λ s. rank s.0)
  simulation_watched = record {
    agrees = λ s t r. ap₂ (λ x y. (x, y)) (simulation.agrees s.0 t.0 r.0) r.1;
    rests = λ s t r off.
        let over = simulation.rests s.0 t.0 r.0 off in
        let none = simulation.idle s.0 t.0 r.0 off in
        (still s.0 s.1 (A.step s.0) (notesA s.0) over.0 none.0, still t.0 t.1 (B.step t.0) (notesB t.0) over.1 none.1);
    follows = λ s t r on. ⊎_elim (one_leap s.0 t.0 s.1 t.1 r.0 r.1) (silent_leap s.0 t.0 s.1 t.1 r.1) (simulation.follows s.0 t.0 r.0 on);
  }
