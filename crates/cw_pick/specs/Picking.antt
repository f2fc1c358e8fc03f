-- The rule over what objects offer: which members it picks for the given objects, and for each member.
use Rattle.std.specs.Prelude.{◌≡◌, ◌&&◌, ℕ, zero, suc, Bool, true, not, nat_eq, if◌then◌else◌, List, [], ◌∷◌, ◌++◌, slice_get, Option, Some, None, Contains}
use Rattle.std.specs.List.{list_any}
use Rattle.std.specs.Str.{bytes_eq}
use Rattle.cw_comm.specs.Agreement.{Name}
use Rattle.cw_pick.specs.declared.offer.Offer.{Offer}

abbrev pub is_in : List ℕ → ℕ → Bool
is_in numbers k = list_any (nat_eq k) numbers

abbrev pub is_among : List Name → Name → Bool
is_among names name = list_any (bytes_eq name) names

-- the names of an offer, if there is one
abbrev pub lists_of : Option Offer → List Name
lists_of None = []
lists_of (Some offer) = offer.lists

abbrev pub defines_of : Option Offer → List Name
defines_of None = []
defines_of (Some offer) = offer.defines

-- what the offer of a number lists, and whether it defines a name
abbrev pub lists_at : List Offer → ℕ → List Name
lists_at offers k = lists_of (slice_get offers k)

abbrev pub defines_at : List Offer → ℕ → Name → Bool
defines_at offers k name = is_among (defines_of (slice_get offers k)) name

-- one of them defines the name
abbrev pub settles : List Offer → Name → Bool
settles offers name = list_any (λ o. is_among o.defines name) offers

-- the member of this number is picked where the name is listed
abbrev pub is_picked_for : (given members : List Offer) → Name → (k : ℕ) → Bool
is_picked_for given members name k = defines_at members k name && not (settles given name)

-- for what the given objects list
abbrev pub starts : (given members : List Offer) → (k : ℕ) → Bool
starts given members k = list_any (λ o. list_any (λ name. is_picked_for given members name k) o.lists) given

-- for what the member of number j lists
abbrev pub leads : (given members : List Offer) → (j k : ℕ) → Bool
leads given members j k = list_any (λ name. is_picked_for given members name k) (lists_at members j)

-- these numbers have what the rule picks
pub record Follows (given members : List Offer) (picked : List ℕ) : Type 0 where
  pub start : (k : ℕ) → starts given members k ≡ true → Contains picked k
  pub lead : (j k : ℕ) → Contains picked j → leads given members j k ≡ true → Contains picked k

-- The least numbers that have it: no list that has it lacks one.
pub record IsLeast (given members : List Offer) (is_picked : ℕ → Bool) : Type 0 where
  pub start : (k : ℕ) → starts given members k ≡ true → is_picked k ≡ true
  pub lead : (j k : ℕ) → is_picked j ≡ true → leads given members j k ≡ true → is_picked k ≡ true
  pub least : (others : List ℕ) → Follows given members others → (k : ℕ) → is_picked k ≡ true → Contains others k

-- the numbers below n that pass, by rising number
abbrev pub numbers_below : (ℕ → Bool) → (n : ℕ) → List ℕ
numbers_below p zero = []
numbers_below p (suc n) = if p n then numbers_below p n ++ n ∷ [] else numbers_below p n
