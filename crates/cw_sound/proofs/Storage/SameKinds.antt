-- Procedures that are specified alike take arguments of the same kinds.
use Rattle.std.proofs.Common.{List, [], ◌∷◌, map, Bool, true, false, ◌&&◌, IsTrue, refl}
use Rattle.cw_tree.specs.declared.segment.RawIps.{RawIps}
use Rattle.cw_tree.specs.declared.segment.RawIps.TheVariants as inner
use Rattle.cw_tree.specs.declared.segment.RawPs.{RawPs}
use Rattle.cw_tree.specs.declared.segment.RawPs.TheVariants as ps
use Rattle.cw_scope.specs.Same.{same_answer, same_plain, each_same_plain, same_param, each_same}
use Rattle.cw_safety.specs.Kinds.{same_taken, all_so, same_kind, same_kinds}
use Rattle.cw_sound.specs.Uses.Stands.{kind_of_plain, taken_by_plain, kind_specified}

pub both_true : (a b : Bool) → IsTrue (a && b) → IsTrue a × IsTrue b
both_true true b h = (refl, h)
both_true false b h = absurd (cc)

pub and_true : (a b : Bool) → IsTrue a → IsTrue b → IsTrue (a && b)
and_true true b h k = k
and_true false b h k = absurd (cc)

plain_same : (p q : RawIps) → IsTrue (same_plain p q) → IsTrue (same_kind (kind_of_plain p) (kind_of_plain q)) × IsTrue (same_taken (taken_by_plain p) (taken_by_plain q))
plain_same (inner.Value a t) (inner.Value b u) h = (refl, refl)
plain_same (inner.Location a t) (inner.Location b u) h = (refl, refl)
plain_same (inner.Array t) (inner.Array u) h = (refl, refl)
plain_same (inner.Table a s) (inner.Table b z) h = (refl, refl)
plain_same (inner.Label a) (inner.Label b) h = (refl, refl)
plain_same (inner.Switch a) (inner.Switch b) h = (refl, refl)
plain_same _ _ h = absurd (cc)

all_taken : (xs ys : List RawIps) → IsTrue (each_same_plain xs ys) → IsTrue (all_so same_taken (map taken_by_plain xs) (map taken_by_plain ys))
all_taken [] [] h = refl
all_taken [] (y ∷ ys) h = absurd (cc)
all_taken (x ∷ xs) [] h = absurd (cc)
all_taken (x ∷ xs) (y ∷ ys) h =
    let both = both_true (same_plain x y) (each_same_plain xs ys) h in
    and_true (same_taken (taken_by_plain x) (taken_by_plain y)) (all_so same_taken (map taken_by_plain xs) (map taken_by_plain ys)) (plain_same x y both.0).1 (all_taken xs ys both.1)

param_same : (p q : RawPs) → IsTrue (same_param p q) → IsTrue (same_kind (kind_specified p) (kind_specified q))
param_same (ps.Plain x) (ps.Plain y) h = (plain_same x y h).0
param_same (ps.Plain x) (ps.Proc u b ys) h = absurd (cc)
param_same (ps.Proc t a xs) (ps.Plain y) h = absurd (cc)
param_same (ps.Proc t a xs) (ps.Proc u b ys) h = all_taken xs ys (both_true (same_answer t u) (each_same_plain xs ys) h).1

pub all_kinds : (xs ys : List RawPs) → IsTrue (each_same xs ys) → IsTrue (same_kinds (map kind_specified xs) (map kind_specified ys))
all_kinds [] [] h = refl
all_kinds [] (y ∷ ys) h = absurd (cc)
all_kinds (x ∷ xs) [] h = absurd (cc)
all_kinds (x ∷ xs) (y ∷ ys) h =
    let both = both_true (same_param x y) (each_same xs ys) h in
    and_true (same_kind (kind_specified x) (kind_specified y)) (same_kinds (map kind_specified xs) (map kind_specified ys)) (param_same x y both.0) (all_kinds xs ys both.1)
