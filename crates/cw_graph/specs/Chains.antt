-- Chains of leads between nodes of any type, and heights: as many leads as the longest chain from a node has, if one is the longest.
use Rattle.std.specs.Prelude.{ℕ, zero, suc, ◌≤◌}

-- there is a chain of so many leads from a node
abbrev pub IsChain : {Node : Type 0} → (Node → Node → Type 0) → (leads : ℕ) → Node → Type 0
IsChain Leads zero a = Unit {0}
IsChain {Node} Leads (suc n) a = (b : Node) × (Leads a b × IsChain Leads n b)

-- the longest chain from a node has so many leads
pub record HasHeight {Node : Type 0} (Leads : Node → Node → Type 0) (a : Node) (height : ℕ) : Type 0 where
  pub chain : IsChain Leads height a
  pub longest : (n : ℕ) → IsChain Leads n a → n ≤ height

-- no chain from a node is the longest
abbrev pub HasNoHeight : {Node : Type 0} → (Node → Node → Type 0) → Node → Type 0
HasNoHeight Leads a = (height : ℕ) → HasHeight Leads a height → ⊥

-- the bodies, and what they lead to, at once or by others
pub data IsReached {Node : Type 0} (Leads : Node → Node → Type 0) (IsBody : Node → Type 0) : Node → Type 0 where
  body : (a : Node) → IsBody a → IsReached Leads IsBody a
  lead : (a b : Node) → IsReached Leads IsBody a → Leads a b → IsReached Leads IsBody b
