-- Equal names are hashed alike.
use Rattle.std.specs.Prelude.{◌≡◌, ℕ, List, nat_eq, IsTrue}
use Rattle.std.specs.Hash as fed
use Rattle.std.specs.Cmp.Lexicographic.{pointwise, bytes_decides}
use Rattle.std.proofs.Common.{ap}

pub same_input : (a b : List ℕ) → IsTrue (pointwise nat_eq a b) → fed.slice fed.u8 a ≡ fed.slice fed.u8 b
same_input a b e = ap (fed.slice fed.u8) ((bytes_decides a b).0 e)
