-- Which procedures may name the items of a family, by its root.
use Rattle.std.specs.Prelude.{ℕ, nat_le, Bool, true, false, Option, Some, None}
use Rattle.cw_unit.specs.declared.unit.Item.{Item}
use Rattle.cw_unit.specs.declared.unit.Home.{Home}
use Rattle.cw_unit.specs.declared.unit.Home.TheVariants as home
use Rattle.cw_gen_expr.specs.NamedItems.{is_same_procedure}

-- an item of a frame belongs to the procedure whose body names it
abbrev pub names_home : (who owner : Option ℕ) → Home → Bool
names_home who owner home.Frame = is_same_procedure who owner
names_home who owner _ = true

abbrev pub names_root : (who : Option ℕ) → Option Item → Bool
names_root who None = true
names_root who (Some x) = names_home who x.owner x.home

-- whether there is an item, and it has so many words
abbrev pub is_long : (words : ℕ) → Option Item → Bool
is_long n None = false
is_long n (Some x) = nat_le n x.words
