-- The line of a stop at which no statement begins.
use Rattle.std.proofs.Common.{◌≡◌, ℕ, List, [], ◌++◌, refl, append_assoc}
use Rattle.std.specs.Prelude.{codes}

pub place_line : (text name segment digits line : List ℕ) → name ≡ segment → digits ≡ line
    → text ++ (name ++ (codes " " ++ (digits ++ (codes "\n" ++ [])))) ≡ text ++ ((segment ++ (codes " " ++ line)) ++ codes "\n")
place_line text name segment digits line same e = rw (same, e, append_assoc segment (codes " " ++ line) (codes "\n")) refl
