-- What a depth report tells of a graph: a longest chain from a body, or the first procedure that is reached from a body and has no height.
use Rattle.std.specs.Prelude.{ℕ, ◌≤◌, List, [], ◌∷◌, length}
use Rattle.cw_graph.specs.Chains.{HasHeight, HasNoHeight, IsReached}

-- the first in order of those for which something holds
pub record IsFirst {Node : Type 0} (Before : Node → Node → Type 0) (Holds : Node → Type 0) (a : Node) : Type 0 where
  pub holds : Holds a
  pub none_before : (b : Node) → Holds b → Before b a → ⊥

-- a chain behind a node, of nodes each of which is the first of height one less that the one before it leads to; the last is of height 0
abbrev pub IsFirstChain : {Node : Type 0} → (Leads Before : Node → Node → Type 0) → Node → List Node → Type 0
IsFirstChain Leads Before a [] = Unit {0}
IsFirstChain {Node} Leads Before a (b ∷ rest) =
    let Fits : Node → Type 0 = λ c. Leads a c × HasHeight Leads c (length rest) in
    IsFirst Before Fits b × IsFirstChain Leads Before b rest

-- All that is reached has a height. The chain begins behind the first body of the greatest height, which is its length.
pub record IsBound {Node : Type 0} (Leads Before : Node → Node → Type 0) (IsBody : Node → Type 0) (chain : List Node) : Type 0 where
  pub heights : (a : Node) → IsReached Leads IsBody a → (height : ℕ) × HasHeight Leads a height
  pub greatest : (a : Node) (height : ℕ) → IsBody a → HasHeight Leads a height → height ≤ length chain
  pub start : Node
  pub first : IsFirst Before (λ a. IsBody a × HasHeight Leads a (length chain)) start
  pub follows : IsFirstChain Leads Before start chain

-- the first procedure that is reached and has no height
abbrev pub IsUnbounded : {Node : Type 0} → (Leads Before : Node → Node → Type 0) → (IsBody IsProcedure : Node → Type 0) → Node → Type 0
IsUnbounded Leads Before IsBody IsProcedure a =
    IsFirst Before (λ b. IsProcedure b × (IsReached Leads IsBody b × HasNoHeight Leads b)) a
