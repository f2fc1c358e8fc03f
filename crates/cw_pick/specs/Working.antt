-- The state while members are picked.
use Rattle.std.specs.Prelude.{◌≡◌, ◌<◌, ◌+◌, ◌&&◌, ◌||◌, ℕ, zero, suc, Bool, true, false, not, if◌then◌else◌}
use Rattle.std.specs.Prelude.{List, [], ◌∷◌, length, slice_index_or, count_by, Contains}
use Rattle.std.specs.List.{list_any}
use Rattle.std.specs.Str.{bytes_eq}
use Rattle.cw_comm.specs.Agreement.{Name}
use Rattle.cw_pick.specs.declared.index.Index.{Index}
use Rattle.cw_pick.specs.declared.marking.Work.{Work}
use Rattle.cw_pick.specs.Picking.{is_in}

-- ---- the members that define a name

-- this is the first place of the name
abbrev pub IsFirst : Name → List Name → ℕ → Type 0
IsFirst name [] n = ⊥
IsFirst name (x ∷ xs) zero = bytes_eq name x ≡ true
IsFirst name (x ∷ xs) (suc n) = (bytes_eq name x ≡ false) × IsFirst name xs n

-- the list of a name, where each name has one
abbrev pub members_of : List Name → List (List ℕ) → Name → List ℕ
members_of [] lists name = []
members_of (x ∷ xs) [] name = []
members_of (x ∷ xs) (l ∷ ls) name = if bytes_eq name x then l else members_of xs ls name

abbrev pub definers : Index → Name → List ℕ
definers index name = members_of index.names.keys index.definers.items name

-- each name has a list
abbrev pub HasLists : Index → Type 0
HasLists index = length index.definers.items ≡ length index.names.keys

-- a member is among those that define one of these names
abbrev pub is_asked : Index → List Name → ℕ → Bool
is_asked index names k = list_any (λ name. is_in (definers index name) k) names

-- ---- the members that are picked

abbrev pub is_picked : Work → ℕ → Bool
is_picked work k = slice_index_or work.picked.items k false

-- how many steps are left at most
abbrev pub left : Work → ℕ
left work = count_by not work.picked.items + length work.todo.items

-- the members for which P is true become picked, and those that were not are to be followed
pub record Marks (P : ℕ → Bool) (old new : Work) : Type 0 where
  pub count : length new.picked.items ≡ length old.picked.items
  pub left : left new ≡ left old
  pub picked : (k : ℕ) → k < length old.picked.items → is_picked new k ≡ is_picked old k || P k
  pub todo : (k : ℕ) → is_in new.todo.items k ≡ is_in old.todo.items k || (is_picked new k && not (is_picked old k))

-- the members that define a name which was asked for are picked
pub record Keeps (index : Index) (asked : List Bool) (work : Work) : Type 0 where
  pub count : length asked ≡ length index.names.keys
  pub kept : (n k : ℕ) → slice_index_or asked n false ≡ true
      → is_in (slice_index_or index.definers.items n []) k ≡ true → k < length work.picked.items
      → is_picked work k ≡ true

-- what is to be followed is what is picked
abbrev pub IsFresh : Work → Type 0
IsFresh work = (k : ℕ) → is_in work.todo.items k ≡ is_picked work k

-- all that picked members lead to is picked, and nothing else
pub record Closes (lead : ℕ → ℕ → Bool) (old new : Work) : Type 0 where
  pub count : length new.picked.items ≡ length old.picked.items
  pub kept : (k : ℕ) → is_picked old k ≡ true → is_picked new k ≡ true
  pub closed : (j k : ℕ) → is_picked new j ≡ true → lead j k ≡ true → k < length old.picked.items → is_picked new k ≡ true
  pub least : (others : List ℕ) → ((k : ℕ) → is_picked old k ≡ true → Contains others k)
      → ((j k : ℕ) → Contains others j → lead j k ≡ true → Contains others k) → (k : ℕ) → is_picked new k ≡ true
      → Contains others k
