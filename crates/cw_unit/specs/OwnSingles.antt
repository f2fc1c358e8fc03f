-- A unit whose items are single words of its own, none with a preset: its storage is what its items are counted to be.
use Rattle.std.specs.Prelude.{◌≡◌, ℕ, zero, suc, ◌+◌, List, [], ◌∷◌, map, replicate}
use Rattle.cw_unit.specs.declared.unit.Item.{Item}
use Rattle.cw_unit.specs.declared.unit.Home.TheVariants as home
use Rattle.cw_unit.specs.declared.layout.Layout.{Layout}
use Rattle.cw_unit.specs.declared.layout.Family.{Family}
use Rattle.cw_unit.specs.declared.layout.Map.{Map}
use Rattle.cw_unit.specs.declared.layout.Sort.TheVariants as sort

pub record IsOwnSingle (i : Item) : Type 0 where
  pub own : i.home ≡ home.Own
  pub single : i.words ≡ 1
  pub unfilled : i.presets ≡ []

-- n, n + 1 and so on, this many
abbrev pub numbers_from : (n count : ℕ) → List ℕ
numbers_from n zero = []
numbers_from n (suc k) = n ∷ numbers_from (n + 1) k

abbrev pub own_word : Family
own_word = record { sort = sort.Own; extent = 1 }

-- a family of one word for each item, and empty frames
abbrev pub own_layout : (items procedures : ℕ) → Layout
own_layout n q =
    record {
      families = replicate n own_word;
      homes = map (λ k. (k, 0)) (numbers_from 0 n);
      frames = replicate q 0;
      words = [];
    }

-- item k at address k
abbrev pub own_map : (items : ℕ) → Map
own_map n = record { homes = numbers_from 0 n ∷ []; end = n }
