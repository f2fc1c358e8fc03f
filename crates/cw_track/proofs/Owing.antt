-- A simulation of machines that are watched in which the one may owe what the other has noted: it notes that before its next step.
use Rattle.std.proofs.Common.{◌≡◌, ◌⊎◌, inl, inr, ⊎_elim, ℕ, zero, suc, ◌+◌, ◌<◌, ◌≤◌, Bool, true, false, List, [], ◌++◌, refl, sym, ap, ap₂, ◌∙◌, subst, arith}
use Rattle.std.proofs.lemmas.List.{append-nil}
use Rattle.std.proofs.lemmas.Bool.{cases_Bool, true≢false}
use Rattle.cw_track.specs.Machine.{Machine}
use Rattle.cw_track.specs.Tracking.{Tracks}
use Rattle.cw_track.specs.Watching.{watched, noted}
use Rattle.cw_track.proofs.Paths.{Path, stay, next}
use Rattle.cw_track.proofs.Simulations.{Quiet, one, LeaptRanked, RankedSimulation, tracks_ranked}
use Rattle.cw_track.proofs.Watching.{Unnoted, unnoted, still}

-- How B goes on while A makes a step, where B owes these notes. It waits: A notes nothing, or notes something while nothing is owed, and
-- this step of A pays for the step of B with which B will note it. Or it goes on: it notes what it owes before its first step, and where
-- it owes anything that step shows nothing.
pub data FollowedOwing {O E : Type 0} (A B : Machine O) (notesA : A.State → List E) (notesB : B.State → List E) (Matches : List E → A.State → B.State → Type 0) (rank : A.State → ℕ) (es : List E) (s : A.State) (t : B.State) : Type 0 where
  waits : notesA s ≡ [] → Matches es (A.step s) t → rank (A.step s) < rank s → FollowedOwing A B notesA notesB Matches rank es s t
  owes : es ≡ [] → B.weight t ≤ A.weight s → 0 < B.weight t → Matches (notesA s) (A.step s) t → rank (A.step s) < rank s → FollowedOwing A B notesA notesB Matches rank es s t
  goes : {rest : ℕ} {reached : B.State} → notesA s ≡ [] → notesB t ≡ es → (es ≡ []) ⊎ (B.shown (B.step t) ≡ A.shown s) → 0 < B.weight t → B.weight t + rest ≤ A.weight s
      → Path (Unnoted (Quiet (A.shown s) (A.shown (A.step s)))) (noted B notesB) rest (B.step t) reached → Matches [] (A.step s) reached → FollowedOwing A B notesA notesB Matches rank es s t

-- where nothing is owed, a way of B on which nothing is noted
pub follows_quietly : {O E : Type 0} (A B : Machine O) (notesA : A.State → List E) (notesB : B.State → List E) (Matches : List E → A.State → B.State → Type 0) (rank : A.State → ℕ) (s : A.State) (t : B.State) (spent : ℕ) (reached : B.State)
    → ((u : B.State) → 0 < B.weight u) → notesA s ≡ [] → spent ≤ A.weight s → (0 < spent) ⊎ (rank (A.step s) < rank s) → Path (Unnoted (Quiet (A.shown s) (A.shown (A.step s)))) (noted B notesB) spent t reached
    → Matches [] (A.step s) reached → FollowedOwing A B notesA notesB Matches rank [] s t
follows_quietly A B notesA notesB Matches rank s t spent reached costs none within progress (stay tu z) m =
    waits none (subst (Matches [] (A.step s)) (sym tu) m) (⊎_elim (λ (p : 0 < spent). absurd (omega arith)) (λ (q : rank (A.step s) < rank s). q) progress)
follows_quietly A B notesA notesB Matches rank s t spent reached costs none within progress (next {w' = w'} {t' = t'} a st we p) m =
    goes none a.1 (inl refl) (costs t) (let l : B.weight t + w' ≤ A.weight s = omega arith in l)
    (subst (λ u. Path (Unnoted (Quiet (A.shown s) (A.shown (A.step s)))) (noted B notesB) w' u reached) (sym st) p) m

-- where the run is over nothing is noted, and nothing owed
pub record SimulationOwing {O E : Type 0} (is_running : O → Bool) (A B : Machine O) (notesA : A.State → List E) (notesB : B.State → List E) (Matches : List E → A.State → B.State → Type 0) (rank : A.State → ℕ) : Type 0 where
  pub agrees : (es : List E) (s : A.State) (t : B.State) → Matches es s t → B.shown t ≡ A.shown s
  pub rests : (es : List E) (s : A.State) (t : B.State) → Matches es s t → is_running (A.shown s) ≡ false → (A.step s ≡ s) × (B.step t ≡ t)
  pub idle : (es : List E) (s : A.State) (t : B.State) → Matches es s t → is_running (A.shown s) ≡ false → (es ≡ []) × (notesA s ≡ []) × (notesB t ≡ [])
  pub follows : (es : List E) (s : A.State) (t : B.State) → Matches es s t → is_running (A.shown s) ≡ true → FollowedOwing A B notesA notesB Matches rank es s t

module _ {O E : Type 0} (is_running : O → Bool) (A B : Machine O) (notesA : A.State → List E) (notesB : B.State → List E) (Matches : List E → A.State → B.State → Type 0) (rank : A.State → ℕ) (simulation : SimulationOwing is_running A B notesA notesB Matches rank) where
  abbrev pub still_runs : O × List E → Bool
  still_runs o = is_running o.0

  -- the steps of A up to the one with which B goes on, where B owes something
  pub data Chain : ℕ → List E → A.State → B.State → Type 0 where
    further : {n : ℕ} {es : List E} {s : A.State} {t : B.State} → is_running (A.shown s) ≡ true → notesA s ≡ [] → A.shown (A.step s) ≡ A.shown s → Chain n es (A.step s) t → Chain (suc n) es s t
    now : {n rest : ℕ} {es : List E} {s : A.State} {t reached : B.State} → is_running (A.shown s) ≡ true → n ≡ suc (rank (A.step s)) → notesA s ≡ [] → notesB t ≡ es → B.shown (B.step t) ≡ A.shown s → rest ≤ A.weight s
        → Path (Unnoted (Quiet (A.shown s) (A.shown (A.step s)))) (noted B notesB) rest (B.step t) reached → Matches [] (A.step s) reached → Chain n es s t

  abbrev Chained : List E → A.State → B.State → Type 0
  Chained es s t = (n : ℕ) × Chain n es s t

  -- there are such steps, or nothing is owed
  chain_on : (es : List E) (s : A.State) (t : B.State) → is_running (A.shown s) ≡ true → B.shown t ≡ A.shown s → (Matches es (A.step s) t → rank (A.step s) < rank s → (es ≡ []) ⊎ Chained es (A.step s) t)
      → FollowedOwing A B notesA notesB Matches rank es s t → (es ≡ []) ⊎ Chained es s t
  chain_on es s t runs same on (waits none m falls) =
      let shows : A.shown (A.step s) ≡ A.shown s = sym (simulation.agrees es (A.step s) t m) ∙ same in
      ⊎_elim (λ (e : es ≡ []). inl e) (λ (c : Chained es (A.step s) t). inr (suc c.0, further runs none shows c.1)) (on m falls)
  chain_on es s t runs same on (owes e paid some m falls) = inl e
  chain_on es s t runs same on (goes {rest = rest} none notes quiet some within path m) =
      ⊎_elim (λ (e : es ≡ []). inl e) (λ (q : B.shown (B.step t) ≡ A.shown s). inr (suc (rank (A.step s)), now runs refl none notes q (let l : rest ≤ A.weight s = omega arith in l) path m)) quiet

  chain : (bound : ℕ) (es : List E) (s : A.State) (t : B.State) → rank s < bound → Matches es s t → (es ≡ []) ⊎ Chained es s t
  chain zero es s t le m = absurd (omega arith)
  chain (suc b) es s t le m =
      ⊎_elim
      (λ (on : is_running (A.shown s) ≡ true). chain_on es s t on (simulation.agrees es s t m) (λ m' falls. chain b es (A.step s) t (omega arith) m') (simulation.follows es s t m on))
      (λ (off : is_running (A.shown s) ≡ false). inl (simulation.idle es s t m off).0)
      (cases_Bool (is_running (A.shown s)))

  -- what such a B notes before its first step, and what it shows behind it
  notes_of : {n : ℕ} {es : List E} {s : A.State} {t : B.State} → Chain n es s t → notesB t ≡ es
  notes_of (further runs none same c) = notes_of c
  notes_of (now runs is none notes quiet le path m) = notes

  shows_of : {n : ℕ} {es : List E} {s : A.State} {t : B.State} → Chain n es s t → B.shown (B.step t) ≡ A.shown s
  shows_of (further runs none same c) = shows_of c ∙ same
  shows_of (now runs is none notes quiet le path m) = quiet

  runs_of : {n : ℕ} {es : List E} {s : A.State} {t : B.State} → Chain n es s t → is_running (A.shown s) ≡ true
  runs_of (further runs none same c) = runs
  runs_of (now runs is none notes quiet le path m) = runs

  -- ---- the machines that are watched: both have noted the same, and B stands where it matches, or one step further where it owed something
  abbrev pub Ready : ℕ → A.State × List E → B.State × List E → Type 0
  Ready n s t = Matches [] s.0 t.0 × (t.1 ≡ s.1) × (n ≡ rank s.0)

  abbrev pub Ahead : ℕ → A.State × List E → B.State × List E → Type 0
  Ahead n s t = (before : B.State) × (es : List E) × Chain n es s.0 before × (t.0 ≡ B.step before) × (t.1 ≡ s.1)

  abbrev pub Together : ℕ → A.State × List E → B.State × List E → Type 0
  Together n s t = Ready n s t ⊎ Ahead n s t

  no_more : (es fs : List E) → fs ≡ [] → es ≡ es ++ fs
  no_more es fs none = sym (ap (λ y. es ++ y) none ∙ append-nil es)

  abbrev Watching : (s : A.State) (es : List E) → ℕ → (t : B.State) (fs : List E) → B.State → Type 0
  Watching s es spent t fs reached = Path (Quiet (A.shown s, es) (A.shown (A.step s), es ++ notesA s)) (watched B notesB) spent (t, fs) (reached, fs)

  -- the path of B on which nothing is noted, behind what it owed
  along : (s : A.State) (es : List E) (spent : ℕ) (t reached : B.State) → notesA s ≡ [] → Path (Unnoted (Quiet (A.shown s) (A.shown (A.step s)))) (noted B notesB) spent t reached → Watching s es spent t es reached
  along s es spent t reached none path =
      let before = A.shown s in
      let behind = A.shown (A.step s) in
      unnoted (Quiet before behind) (Quiet (before, es) (behind, es ++ notesA s)) B notesB es
      (λ o q. ⊎_elim (λ (e : o ≡ before). inl (ap (λ x. (x, es)) e)) (λ (e : o ≡ behind). inr (ap₂ (λ x y. (x, y)) e (no_more es (notesA s) none))) q) spent t reached path

  abbrev Goes : ℕ → A.State × List E → B.State × List E → Type 0
  Goes n s t = LeaptRanked (watched A notesA) (watched B notesB) Together n s t

  -- B waits, and owes nothing
  stays : (n : ℕ) (s : A.State) (es : List E) (t : B.State) (fs : List E) → fs ≡ es → n ≡ rank s → notesA s ≡ [] → Matches [] (A.step s) t → rank (A.step s) < rank s → Goes n (s, es) (t, fs)
  stays n s es t fs same is none m falls = record {
    to = (A.step s, es ++ notesA s);
    way = one refl;
    spent = 0;
    reached = (t, fs);
    rank_behind = rank (A.step s);
    path = stay refl refl;
    within = (let z : 0 ≤ A.weight s = omega arith in z);
    matched = inl (m, same ∙ no_more es (notesA s) none, refl);
    progress = inr (let l : rank (A.step s) < n = omega arith in l);
  }

  ready_goes : (n : ℕ) (s : A.State) (es : List E) (t : B.State) (fs : List E) → Matches [] s t → fs ≡ es → n ≡ rank s → FollowedOwing A B notesA notesB Matches rank [] s t → Goes n (s, es) (t, fs)
  ready_goes n s es t fs r same is (waits none m falls) = stays n s es t fs same is none m falls
  ready_goes n s es t fs r same is (owes e paid some m falls) =
      ⊎_elim
      (λ (none : notesA s ≡ []). stays n s es t fs same is none (subst (λ y. Matches y (A.step s) t) none m) falls)
      (λ (c : Chained (notesA s) (A.step s) t).
      record {
        to = (A.step s, es ++ notesA s);
        way = one refl;
        spent = B.weight t;
        reached = (B.step t, fs ++ notesB t);
        rank_behind = c.0;
        path = next (inl (ap₂ (λ x y. (x, y)) (simulation.agrees [] s t r) same)) refl (let w : B.weight t ≡ B.weight t + 0 = omega arith in w) (stay refl refl);
        within = paid;
        matched = inr (t, notesA s, c.1, refl, ap₂ (λ x y. x ++ y) same (notes_of c.1));
        progress = inl some;
      })
      (chain (suc (rank (A.step s))) (notesA s) (A.step s) t (omega arith) m)
  ready_goes n s es t fs r same is (goes {rest = rest} {reached = reached} none notes quiet some within path m) =
      let spent = B.weight t + rest in
      let first : fs ++ notesB t ≡ es = sym (no_more fs (notesB t) notes) ∙ same in
      record {
        to = (A.step s, es ++ notesA s);
        way = one refl;
        spent = spent;
        reached = (reached, es);
        rank_behind = rank (A.step s);
        path =
            next (inl (ap₂ (λ x y. (x, y)) (simulation.agrees [] s t r) same)) (ap (λ y. (B.step t, y)) first) refl
            (along s es rest (B.step t) reached none path);
        within = within;
        matched = inl (m, no_more es (notesA s) none, refl);
        progress = inl (let l : 0 < spent = omega arith in l);
      }

  -- one step further, B waits for A, or goes on
  ahead_goes : (n : ℕ) (s : A.State) (es : List E) (t : B.State) (fs owed : List E) (before : B.State) → Chain n owed s before → t ≡ B.step before → fs ≡ es → Goes n (s, es) (t, fs)
  ahead_goes (suc n) s es t fs owed before (further runs none same c) there notes = record {
    to = (A.step s, es ++ notesA s);
    way = one refl;
    spent = 0;
    reached = (t, fs);
    rank_behind = n;
    path = stay refl refl;
    within = (let z : 0 ≤ A.weight s = omega arith in z);
    matched = inr (before, owed, c, there, notes ∙ no_more es (notesA s) none);
    progress = inr (let l : n < suc n = omega arith in l);
  }
  ahead_goes n s es t fs owed before (now {rest = rest} {reached = reached} runs is none owes_it quiet le path m) there notes = record {
    to = (A.step s, es ++ notesA s);
    way = one refl;
    spent = rest;
    reached = (reached, fs);
    rank_behind = rank (A.step s);
    path = subst (λ x. Watching s es rest x fs reached) (sym there) (subst (λ y. Watching s es rest (B.step before) y reached) (sym notes) (along s es rest (B.step before) reached none path));
    within = le;
    matched = inl (m, notes ∙ no_more es (notesA s) none, refl);
    progress = inr (let l : rank (A.step s) < n = omega arith in l);
  }

  pub simulation_owing : RankedSimulation still_runs (watched A notesA) (watched B notesB) Together
  simulation_owing = record {
    agrees = λ n s t r.
        ⊎_elim
        (λ (m : Ready n s t). ap₂ (λ x y. (x, y)) (simulation.agrees [] s.0 t.0 m.0) m.1)
        (λ (m : Ahead n s t). ap₂ (λ x y. (x, y)) (ap B.shown m.3 ∙ shows_of m.2) m.4)
        r;
    rests = λ n s t r off.
        ⊎_elim
        (λ (m : Ready n s t).
        let over = simulation.rests [] s.0 t.0 m.0 off in
        let idle = simulation.idle [] s.0 t.0 m.0 off in
        (still s.0 s.1 (A.step s.0) (notesA s.0) over.0 idle.1, still t.0 t.1 (B.step t.0) (notesB t.0) over.1 idle.2))
        (λ (m : Ahead n s t). absurd (true≢false (sym (runs_of m.2) ∙ off)))
        r;
    follows = λ n s t r on.
        ⊎_elim
        (λ (m : Ready n s t). ready_goes n s.0 s.1 t.0 t.1 m.0 m.1 m.2 (simulation.follows [] s.0 t.0 m.0 on))
        (λ (m : Ahead n s t). ahead_goes n s.0 s.1 t.0 t.1 m.1 m.0 m.2 m.3 m.4)
        r;
  }

  -- from states that match, where nothing is owed, B tracks A, and notes what A notes
  pub tracks_owing : (s : A.State) (t : B.State) → Matches [] s t → Tracks still_runs (watched A notesA) (s, []) (watched B notesB) (t, [])
  tracks_owing s t m = tracks_ranked still_runs (watched A notesA) (watched B notesB) Together simulation_owing (rank s) (s, []) (t, []) (inl (m, refl, refl))
