-- Paths of a machine.
use Rattle.std.proofs.Common.{◌≡◌, ℕ, suc, ◌+◌, ◌≤◌, refl, sym, ap, ◌∙◌, subst, arith}
use Rattle.cw_track.specs.Machine.{Machine, shown_after, cost}

-- the machine goes from t to u by steps that cost w together, and each state that it leaves shows what is allowed (u itself
-- need not). Its indices stand in equations, so that a path can be taken apart at any w, t and u, and joined without transport
pub data Path {O : Type 0} (Allowed : O → Type 0) (M : Machine O) : ℕ → M.State → M.State → Type 0 where
  stay : {w : ℕ} {t u : M.State} → t ≡ u → w ≡ 0 → Path Allowed M w t u
  next : {w w' : ℕ} {t t' u : M.State} → Allowed (M.shown t) → M.step t ≡ t' → w ≡ M.weight t + w' → Path Allowed M w' t' u → Path Allowed M w t u

module _ {O : Type 0} (Allowed : O → Type 0) (M : Machine O) where
  -- two paths, one after the other
  pub join : (w v x : ℕ) (t u r : M.State) → x ≡ w + v → Path Allowed M w t u → Path Allowed M v u r → Path Allowed M x t r
  join w v x t u r e (stay tu z) q =
      let same : v ≡ x = omega arith in
      subst (λ y. Path Allowed M y t r) same (subst (λ y. Path Allowed M v y r) (sym tu) q)
  join w v x t u r e (next {w' = w'} {t' = t'} a st we p) q =
      next a st (let s : x ≡ M.weight t + (w' + v) = omega arith in s) (join w' v (w' + v) t' u r refl p q)

  -- what is shown some steps after a path's end is shown so many steps after its beginning, and the path is paid for
  pub reach : (o : O) (w c : ℕ) (t u : M.State) → Path Allowed M w t u → (k : ℕ) → shown_after M k u ≡ o → cost M k u ≤ c → (j : ℕ) × (shown_after M j t ≡ o) × (cost M j t ≤ w + c)
  reach o w c t u (stay tu z) k e le = (k, ap (shown_after M k) tu ∙ e, (let l : cost M k t ≤ w + c = omega (arith, ap (cost M k) tu) in l))
  reach o w c t u (next {w' = w'} {t' = t'} a st we p) k e le =
      let r = reach o w' c t' u p k e le in
      (suc r.0, ap (shown_after M r.0) st ∙ r.1, (let l : M.weight t + cost M r.0 (M.step t) ≤ w + c = omega (arith, r.2, ap (cost M r.0) st) in l))

-- the same path, where more is allowed
pub weaken : {O : Type 0} (P Q : O → Type 0) (M : Machine O) (w : ℕ) (t u : M.State) → ((o : O) → P o → Q o) → Path P M w t u → Path Q M w t u
weaken P Q M w t u f (stay tu z) = stay tu z
weaken P Q M w t u f (next {w' = w'} {t' = t'} a st we p) = next (f (M.shown t) a) st we (weaken P Q M w' t' u f p)
