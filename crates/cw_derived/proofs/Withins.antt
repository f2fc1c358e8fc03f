-- Lists within lists.
use Rattle.std.proofs.Common.{ℕ, ◌+◌, List, [], ◌∷◌, ◌++◌}
use Rattle.cw_derived.specs.Marks.{Within, empty, kept, skipped, AtLeast, Rises}

pub all_within : (ms : List ℕ) → Within ms ms
all_within [] = empty
all_within (m ∷ ms) = kept (all_within ms)

pub none_within : (ns : List ℕ) → Within [] ns
none_within [] = empty
none_within (n ∷ ns) = skipped (none_within ns)

pub join : {a b u v : List ℕ} → Within a u → Within b v → Within (a ++ b) (u ++ v)
join empty w = w
join (kept q) w = kept (join q w)
join (skipped q) w = skipped (join q w)

pub front : {a u : List ℕ} (v : List ℕ) → Within a u → Within a (u ++ v)
front v empty = none_within v
front v (kept q) = kept (front v q)
front v (skipped q) = skipped (front v q)

pub beyond : {b v : List ℕ} (u : List ℕ) → Within b v → Within b (u ++ v)
beyond [] q = q
beyond (n ∷ u) q = skipped (beyond u q)

pub twice : {a b c : List ℕ} → Within a b → Within b c → Within a c
twice q empty = q
twice (kept q) (kept w) = kept (twice q w)
twice (skipped q) (kept w) = skipped (twice q w)
twice q (skipped w) = skipped (twice q w)

least_in : (n : ℕ) {a b : List ℕ} → Within a b → AtLeast n b → AtLeast n a
least_in n empty h = h
least_in n (kept q) h = (h.0, least_in n q h.1)
least_in n (skipped q) h = least_in n q h.1

pub rises_in : {a b : List ℕ} → Within a b → Rises b → Rises a
rises_in empty h = h
rises_in (kept {m = m} q) h = (least_in (m + 1) q h.0, rises_in q h.1)
rises_in (skipped q) h = rises_in q h.1
