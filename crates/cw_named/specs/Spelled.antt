-- How the name of a descriptor is spelled, and that names which are spelled alike are hashed alike.
use Rattle.std.specs.Prelude.{◌≡◌, ℕ, List, [], Option, Some, None, nat_eq, IsTrue}
use Rattle.std.specs.Hash as fed
use Rattle.std.specs.Cmp.Lexicographic.{pointwise, bytes_decides}
use Rattle.std.proofs.Common.{ap}

abbrev pub spelled : Option (List ℕ) → List ℕ
spelled None = []
spelled (Some name) = name

pub same_input : (a b : List ℕ) → IsTrue (pointwise nat_eq a b) → fed.slice fed.u8 a ≡ fed.slice fed.u8 b
same_input a b e = ap (fed.slice fed.u8) ((bytes_decides a b).0 e)
