-- Forward simulations, and that the one machine then tracks the other.
use Rattle.std.proofs.Common.{◌≡◌, ◌⊎◌, inl, inr, ⊎_elim, ℕ, zero, suc, ◌+◌, ◌<◌, ◌≤◌, Bool, true, false, refl, sym, ap, ◌∙◌, subst, arith}
use Rattle.std.proofs.lemmas.Bool.{cases_lt, cases_Bool}
use Rattle.cw_track.specs.Machine.{Machine, shown_after, cost}
use Rattle.cw_track.specs.Tracking.{Tracks}
use Rattle.cw_track.proofs.Paths.{Path, stay, next, reach}

-- what an observer may see during a step: what was shown before it or what is shown after it
abbrev pub Quiet : {O : Type 0} → (before after : O) → O → Type 0
Quiet before after o = (o ≡ before) ⊎ (o ≡ after)

-- A's steps from s to u, at least one; all but the last one show nothing new
pub data Way {O : Type 0} (A : Machine O) : A.State → A.State → Type 0 where
  one : {s u : A.State} → A.step s ≡ u → Way A s u
  more : {s r u : A.State} → A.step s ≡ r → A.shown r ≡ A.shown s → Way A r u → Way A s u

-- how B goes on from t while A goes its way from s: along a path of quiet steps, which A's first step pays for, to a state
-- that matches where A has come. B may also stay where it is, but then the rank of A's state falls: so A cannot go on for
-- ever while B waits
pub record Leapt {O : Type 0} (A B : Machine O) (Matches : A.State → B.State → Type 0) (rank : A.State → ℕ) (s : A.State) (t : B.State) : Type 0 where
  pub to : A.State
  pub way : Way A s to
  pub spent : ℕ
  pub reached : B.State
  pub path : Path (Quiet (A.shown s) (A.shown to)) B spent t reached
  pub within : spent ≤ A.weight s
  pub matched : Matches to reached
  pub progress : (0 < spent) ⊎ (rank to < rank s)

-- a forward simulation of A by B, for a relation of their states and a rank of A's: states that match show the same; where
-- the run is over, both stay as they are; and from a state that is running B follows A's next steps
pub record Leaping {O : Type 0} (is_running : O → Bool) (A B : Machine O) (Matches : A.State → B.State → Type 0) (rank : A.State → ℕ) : Type 0 where
  pub agrees : (s : A.State) (t : B.State) → Matches s t → B.shown t ≡ A.shown s
  pub rests : (s : A.State) (t : B.State) → Matches s t → is_running (A.shown s) ≡ false → (A.step s ≡ s) × (B.step t ≡ t)
  pub follows : (s : A.State) (t : B.State) → Matches s t → is_running (A.shown s) ≡ true → Leapt A B Matches rank s t

-- the same one step of A after the other
pub record Followed {O : Type 0} (A B : Machine O) (Matches : A.State → B.State → Type 0) (rank : A.State → ℕ) (s : A.State) (t : B.State) : Type 0 where
  pub spent : ℕ
  pub reached : B.State
  pub path : Path (Quiet (A.shown s) (A.shown (A.step s))) B spent t reached
  pub within : spent ≤ A.weight s
  pub matched : Matches (A.step s) reached
  pub progress : (0 < spent) ⊎ (rank (A.step s) < rank s)

pub record Simulation {O : Type 0} (is_running : O → Bool) (A B : Machine O) (Matches : A.State → B.State → Type 0) (rank : A.State → ℕ) : Type 0 where
  pub agrees : (s : A.State) (t : B.State) → Matches s t → B.shown t ≡ A.shown s
  pub rests : (s : A.State) (t : B.State) → Matches s t → is_running (A.shown s) ≡ false → (A.step s ≡ s) × (B.step t ≡ t)
  pub follows : (s : A.State) (t : B.State) → Matches s t → is_running (A.shown s) ≡ true → Followed A B Matches rank s t

-- what is shown some steps behind a way is shown behind its beginning, at a cost that leaves its first step unspent
module _ {O : Type 0} (A : Machine O) where
  pub along : (m : ℕ) {s u : A.State} → Way A s u → (j : ℕ) × (shown_after A j s ≡ shown_after A m u) × (A.weight s + cost A m u ≤ cost A j s) × (A.weight s + cost A (suc m) u ≤ cost A (suc j) s)
  along m {s} {u} (one e) =
      (suc m, ap (shown_after A m) e, (let l : A.weight s + cost A m u ≤ A.weight s + cost A m (A.step s) = omega (arith, ap (cost A m) e) in l), (let l : A.weight s + cost A (suc m) u ≤ A.weight s + cost A (suc m) (A.step s) = omega (arith, ap (cost A (suc m)) e) in l))
  along m {s} {u} (more {r = r} e same way) =
      let a = along m way in (
        suc a.0,
        ap (shown_after A a.0) e ∙ a.1,
        (let l : A.weight s + cost A m u ≤ A.weight s + cost A a.0 (A.step s) = omega (arith, a.2, ap (cost A a.0) e) in l),
        (let l : A.weight s + cost A (suc m) u ≤ A.weight s + cost A (suc a.0) (A.step s) = omega (arith, a.3, ap (cost A (suc a.0)) e) in l),
      )

-- the same where the rank is one of the states that match, and need not be one of A's state alone
pub record LeaptRanked {O : Type 0} (A B : Machine O) (Matches : ℕ → A.State → B.State → Type 0) (rank : ℕ) (s : A.State) (t : B.State) : Type 0 where
  pub to : A.State
  pub way : Way A s to
  pub spent : ℕ
  pub reached : B.State
  pub rank_behind : ℕ
  pub path : Path (Quiet (A.shown s) (A.shown to)) B spent t reached
  pub within : spent ≤ A.weight s
  pub matched : Matches rank_behind to reached
  pub progress : (0 < spent) ⊎ (rank_behind < rank)

pub record RankedSimulation {O : Type 0} (is_running : O → Bool) (A B : Machine O) (Matches : ℕ → A.State → B.State → Type 0) : Type 0 where
  pub agrees : (rank : ℕ) (s : A.State) (t : B.State) → Matches rank s t → B.shown t ≡ A.shown s
  pub rests : (rank : ℕ) (s : A.State) (t : B.State) → Matches rank s t → is_running (A.shown s) ≡ false → (A.step s ≡ s) × (B.step t ≡ t)
  pub follows : (rank : ℕ) (s : A.State) (t : B.State) → Matches rank s t → is_running (A.shown s) ≡ true → LeaptRanked A B Matches rank s t

-- A moment of B in the middle of a path has as its moment of A the one before the way under way, or the one after it. For
-- the moments of B the induction is on the moment first (a path that costs something has at least one step), and then, at
-- the same moment, on the rank
module _ {O : Type 0} (is_running : O → Bool) (A B : Machine O) (Matches : ℕ → A.State → B.State → Type 0) (simulation : RankedSimulation is_running A B Matches) where
  le_cases : (a b : ℕ) → a ≤ b → (a < b) ⊎ (a ≡ b)
  le_cases a b le = ⊎_elim (λ (lt : a < b). inl lt) (λ (ge : b ≤ a). inr (omega arith)) (cases_lt a b)

  -- a state that rests shows the same for ever
  still : (t : B.State) → B.step t ≡ t → (k : ℕ) → shown_after B k t ≡ B.shown t
  still t e zero = refl
  still t e (suc k) = ap (shown_after B k) e ∙ still t e k

  -- a moment of A from s has a moment of B from t, where so much is paid already
  AllAt : (paid m : ℕ) → A.State → B.State → Type 0
  AllAt paid m s t = (k : ℕ) × (shown_after B k t ≡ shown_after A m s) × (cost B k t ≤ paid + cost A m s)

  -- a moment on the way or behind it, where its first step has been made
  all_behind : (w m : ℕ) (s u : A.State) (t v : B.State) → Way A s u → B.shown t ≡ A.shown s → Path (Quiet (A.shown s) (A.shown u)) B w t v → ((m' : ℕ) → m' < m → AllAt 0 m' u v) → AllAt w m s t
  unfolding AllAt
  all_behind w zero s u t v way e path behind = (0, e, (let l : 0 ≤ w + 0 = omega arith in l))
  all_behind w (suc m) s u t v (one st) e path behind =
      let a = behind m (omega arith) in
      let b = reach _ B (shown_after A m u) w (cost A m u) t v path a.0 a.1 (let l : cost B a.0 v ≤ cost A m u = omega (arith, a.2) in l) in
      (b.0, b.1 ∙ ap (shown_after A m) (sym st), (let l : cost B b.0 t ≤ w + (A.weight s + cost A m (A.step s)) = omega (arith, b.2, ap (cost A m) st) in l))
  all_behind w (suc m) s u t v (more {r = r} st same way) e path behind =
      let shown_there : Path (Quiet (A.shown r) (A.shown u)) B w t v = subst (λ o. Path (Quiet o (A.shown u)) B w t v) (sym same) path in
      let a = all_behind w m r u t v way (e ∙ sym same) shown_there (λ m' lt. behind m' (omega arith)) in
      (a.0, a.1 ∙ ap (shown_after A m) (sym st), (let l : cost B a.0 t ≤ w + (A.weight s + cost A m (A.step s)) = omega (arith, a.2, ap (cost A m) st) in l))

  -- one at all, where the first step pays
  all_along : (w m : ℕ) (s u : A.State) (t v : B.State) → w ≤ A.weight s → Way A s u → B.shown t ≡ A.shown s → Path (Quiet (A.shown s) (A.shown u)) B w t v → ((m' : ℕ) → m' < m → AllAt 0 m' u v) → AllAt 0 m s t
  unfolding AllAt
  all_along w zero s u t v fits way e path behind = (0, e, (let l : 0 ≤ 0 + 0 = omega arith in l))
  all_along w (suc m) s u t v fits (one st) e path behind =
      let a = behind m (omega arith) in
      let b = reach _ B (shown_after A m u) w (cost A m u) t v path a.0 a.1 (let l : cost B a.0 v ≤ cost A m u = omega (arith, a.2) in l) in
      (b.0, b.1 ∙ ap (shown_after A m) (sym st), (let l : cost B b.0 t ≤ 0 + (A.weight s + cost A m (A.step s)) = omega (arith, b.2, fits, ap (cost A m) st) in l))
  all_along w (suc m) s u t v fits (more {r = r} st same way) e path behind =
      let shown_there : Path (Quiet (A.shown r) (A.shown u)) B w t v = subst (λ o. Path (Quiet o (A.shown u)) B w t v) (sym same) path in
      let a = all_behind w m r u t v way (e ∙ sym same) shown_there (λ m' lt. behind m' (omega arith)) in
      (a.0, a.1 ∙ ap (shown_after A m) (sym st), (let l : cost B a.0 t ≤ 0 + (A.weight s + cost A m (A.step s)) = omega (arith, a.2, fits, ap (cost A m) st) in l))

  all_step : (m : ℕ) → ((m' : ℕ) → m' < m → (n : ℕ) (s : A.State) (t : B.State) → Matches n s t → AllAt 0 m' s t) → (n : ℕ) (s : A.State) (t : B.State) → Matches n s t → AllAt 0 m s t
  unfolding AllAt
  all_step m before n s t r =
      ⊎_elim
      (λ (on : is_running (A.shown s) ≡ true).
      let f = simulation.follows n s t r on in
      all_along f.spent m s f.to t f.reached f.within f.way (simulation.agrees n s t r) f.path (λ m' lt. before m' lt f.rank_behind f.to f.reached f.matched))
      (λ (off : is_running (A.shown s) ≡ false). resting m off)
      (cases_Bool (is_running (A.shown s)))
    where
      resting : (m : ℕ) → is_running (A.shown s) ≡ false → (k : ℕ) × (shown_after B k t ≡ shown_after A m s) × (cost B k t ≤ 0 + cost A m s)
      resting zero off = (0, simulation.agrees n s t r, (let l : 0 ≤ 0 + 0 = omega arith in l))
      resting (suc m) off =
          let e = (simulation.rests n s t r off).0 in
          let a = resting m off in
          (a.0, a.1 ∙ ap (shown_after A m) (sym e), (let l : cost B a.0 t ≤ 0 + (A.weight s + cost A m (A.step s)) = omega (arith, a.2, ap (cost A m) e) in l))

  all_below : (j m : ℕ) → m < j → (n : ℕ) (s : A.State) (t : B.State) → Matches n s t → AllAt 0 m s t
  all_below zero m lt n s t r = absurd (omega arith)
  all_below (suc j) m lt n s t r = all_step m (λ m' lt'. all_below j m' (omega arith)) n s t r

  -- the moment k of B from t, where the first step of A from s has already paid so much for B's steps before t
  OnlyAt : (before k : ℕ) → A.State → B.State → Type 0
  OnlyAt before k s t = (m : ℕ) × (shown_after B k t ≡ shown_after A m s) × ((before + cost B (suc k) t ≤ cost A (suc m) s) ⊎ (is_running (shown_after B k t) ≡ false))

  -- a moment on the path that follows a way, or after it
  only_along : (s r : A.State) (w before : ℕ) (t u : B.State) → Way A s r → Path (Quiet (A.shown s) (A.shown r)) B w t u → before + w ≤ A.weight s → (k : ℕ) → ((k' : ℕ) → k' ≤ k → (0 < w → k' < k) → OnlyAt 0 k' r u) → OnlyAt before k s t
  unfolding OnlyAt
  only_along s r w before t u way (stay tu z) fits k later =
      let a = later k (omega arith) (λ h. absurd (omega arith)) in
      let b = along A a.0 way in
      let e = ap (shown_after B k) tu in (
        b.0,
        e ∙ a.1 ∙ sym b.1,
        ⊎_elim
            (λ (l : 0 + cost B (suc k) u ≤ cost A (suc a.0) r). inl (let l' : before + cost B (suc k) t ≤ cost A (suc b.0) s = omega (arith, b.3, ap (cost B (suc k)) tu) in l'))
            (λ (off : is_running (shown_after B k u) ≡ false). inr (ap is_running e ∙ off))
            a.2,
      )
  only_along s r w before t u way (next {w' = w'} {t' = t'} quiet st we p) fits zero later =
      ⊎_elim
      (λ (e : B.shown t ≡ A.shown s). (0, e, inl (let l : before + (B.weight t + 0) ≤ A.weight s + 0 = omega arith in l)))
      (λ (e : B.shown t ≡ A.shown r).
      let b = along A 0 way in
      (b.0, e ∙ sym b.1, inl (let l : before + (B.weight t + 0) ≤ cost A (suc b.0) s = omega (arith, b.3) in l)))
      quiet
  only_along s r w before t u way (next {w' = w'} {t' = t'} quiet st we p) fits (suc k) later =
      let a = only_along s r w' (before + B.weight t) t' u way p (let l : before + B.weight t + w' ≤ A.weight s = omega arith in l) k (λ k' le lt. later k' (omega arith) (λ h. omega arith)) in
      let e = ap (shown_after B k) st in (
        a.0,
        e ∙ a.1,
        ⊎_elim
            (λ (l : before + B.weight t + cost B (suc k) t' ≤ cost A (suc a.0) s). inl (let l' : before + (B.weight t + cost B (suc k) (B.step t)) ≤ cost A (suc a.0) s = omega (arith, ap (cost B (suc k)) st) in l'))
            (λ (off : is_running (shown_after B k t') ≡ false). inr (ap is_running e ∙ off))
            a.2,
      )

  -- one moment, from the moments before it and from a lower rank at the same moment
  only_step : (k : ℕ) → ((k' : ℕ) → k' < k → (n : ℕ) (s : A.State) (t : B.State) → Matches n s t → OnlyAt 0 k' s t) → (n : ℕ) (s : A.State) (t : B.State) → Matches n s t → ((n' : ℕ) (r : A.State) (u : B.State) → Matches n' r u → n' < n → OnlyAt 0 k r u) → OnlyAt 0 k s t
  unfolding OnlyAt
  only_step k before n s t r lower =
      ⊎_elim
      (λ (on : is_running (A.shown s) ≡ true).
      let f = simulation.follows n s t r on in
      let fits : 0 + f.spent ≤ A.weight s = omega (arith, f.within) in
      let later : (k' : ℕ) → k' ≤ k → (0 < f.spent → k' < k) → OnlyAt 0 k' f.to f.reached = λ k' le lt.
      ⊎_elim
      (λ (less : k' < k). before k' less f.rank_behind f.to f.reached f.matched)
      (λ (same : k' ≡ k). subst (λ j. OnlyAt 0 j f.to f.reached) (sym same) (lower f.rank_behind f.to f.reached f.matched
      (⊎_elim (λ (p : 0 < f.spent). absurd (let x : k' < k = lt p in omega arith)) (λ (q : f.rank_behind < n). q) f.progress)))
      (le_cases k' k le) in
      only_along s f.to f.spent 0 t f.reached f.way f.path fits k later)
      (λ (off : is_running (A.shown s) ≡ false).
      let e = still t (simulation.rests n s t r off).1 k ∙ simulation.agrees n s t r in
      (0, e, inr (ap is_running e ∙ off)))
      (cases_Bool (is_running (A.shown s)))

  only_at : (k : ℕ) → ((k' : ℕ) → k' < k → (n : ℕ) (s : A.State) (t : B.State) → Matches n s t → OnlyAt 0 k' s t) → (bound n : ℕ) (s : A.State) (t : B.State) → Matches n s t → n ≤ bound → OnlyAt 0 k s t
  only_at k before zero n s t r le = only_step k before n s t r (λ n' x u r' lt. absurd (omega arith))
  only_at k before (suc bound) n s t r le = only_step k before n s t r (λ n' x u r' lt. only_at k before bound n' x u r' (omega arith))

  only_below : (j k : ℕ) → k < j → (n : ℕ) (s : A.State) (t : B.State) → Matches n s t → OnlyAt 0 k s t
  only_below zero k lt n s t r = absurd (omega arith)
  only_below (suc j) k lt n s t r = only_at k (λ k' lt'. only_below j k' (omega arith)) n n s t r (omega arith)

  -- from states that match, B tracks A
  pub tracks_ranked : (n : ℕ) (s : A.State) (t : B.State) → Matches n s t → Tracks is_running A s B t
  unfolding OnlyAt AllAt
  tracks_ranked n s t r = record {
    shows_only = λ k.
        let a = only_below (suc k) k (omega arith) n s t r in
        (a.0, a.1, ⊎_elim (λ (l : 0 + cost B (suc k) t ≤ cost A (suc a.0) s). inl (let l' : cost B (suc k) t ≤ 0 + cost A (suc a.0) s = omega arith in l')) (λ (off : is_running (shown_after B k t) ≡ false). inr off) a.2);
    shows_all = λ m. all_below (suc m) m (omega arith) n s t r;
  }

-- also where the rank is one of A's state
module _ {O : Type 0} (is_running : O → Bool) (A B : Machine O) (Matches : A.State → B.State → Type 0) (rank : A.State → ℕ) (simulation : Leaping is_running A B Matches rank) where
  abbrev MatchesRanked : ℕ → A.State → B.State → Type 0
  MatchesRanked n s t = Matches s t × (n ≡ rank s)

  ranked : RankedSimulation is_running A B MatchesRanked
  ranked = record {
    agrees = λ n s t r. simulation.agrees s t r.0;
    rests = λ n s t r off. simulation.rests s t r.0 off;
    follows = λ n s t r on.
        let f = simulation.follows s t r.0 on in
        let same : rank s ≡ n = sym r.1 in
        record {
          to = f.to;
          way = f.way;
          spent = f.spent;
          reached = f.reached;
          rank_behind = rank f.to;
          path = f.path;
          within = f.within;
          matched = (f.matched, refl);
          progress = ⊎_elim (λ (p : 0 < f.spent). inl p) (λ (q : rank f.to < rank s). inr (subst (λ m. rank f.to < m) same q)) f.progress;
        };
  }

  -- from states that match, B tracks A
  pub tracks_leaping : (s : A.State) (t : B.State) → Matches s t → Tracks is_running A s B t
  tracks_leaping s t r = tracks_ranked is_running A B MatchesRanked ranked (rank s) s t (r, refl)

-- also where B follows each single step
module _ {O : Type 0} (is_running : O → Bool) (A B : Machine O) (Matches : A.State → B.State → Type 0) (rank : A.State → ℕ) where
  pub leap : {s : A.State} {t : B.State} → Followed A B Matches rank s t → Leapt A B Matches rank s t
  leap {s} f = record {
    to = A.step s;
    way = one refl;
    spent = f.spent;
    reached = f.reached;
    path = f.path;
    within = f.within;
    matched = f.matched;
    progress = f.progress;
  }

  pub tracks : Simulation is_running A B Matches rank → (s : A.State) (t : B.State) → Matches s t → Tracks is_running A s B t
  tracks simulation =
      tracks_leaping is_running A B Matches rank
      (record { agrees = simulation.agrees; rests = simulation.rests; follows = λ s t r on. leap (simulation.follows s t r on) })
