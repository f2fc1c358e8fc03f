-- The scale of a number, and which items a body may name.
use Rattle.std.proofs.Common.{◌≡◌, ℕ, Bool, ◌&&◌, Option, Some, None, slice_get, refl, sym, ap, ap₂, ◌∙◌}
use Rattle.cw_unit.specs.declared.unit.Unit.{Unit as SourceUnit}
use Rattle.cw_unit.specs.declared.unit.Item.{Item}
use Rattle.cw_unit.specs.declared.unit.Home.{Home}
use Rattle.cw_unit.specs.declared.unit.Home.TheVariants as home
use Rattle.cw_unit.specs.Storage.{root_of, family_of, sort_of}
use Rattle.cw_unit.specs.ValidStorage.{IsStorable, owner_in, sort_in, sort_of_family}
use Rattle.cw_unit.proofs.Families.{Root, root_at, family_found}
use Rattle.cw_gen_expr.specs.NamedItems.{may_name, item_has, has_words}
use Rattle.cw_built.specs.Named.{names_home, names_root, is_long}

by-home : (u : SourceUnit) (who owner : Option ℕ) (r : ℕ) (x : Home) → may_name who owner (sort_of u r owner x) ≡ names_home who owner x
by-home u who owner r (home.Common d) = refl
by-home u who owner r _ = refl

pub names : (u : SourceUnit) (who : Option ℕ) (n : ℕ) (i : Item) → IsStorable u → slice_get u.items n ≡ Some i
    → may_name who (owner_in (slice_get u.items (root_of u n))) (sort_of_family u (family_of u n)) ≡ names_root who (slice_get u.items (root_of u n))
names u who n i h e =
    let r : Root u n = root_at u h n i e in
    ap₂ (λ x f. may_name who (owner_in x) (sort_in f)) r.found (family_found u n r)
    ∙ by-home u who r.item.owner (root_of u n) r.item.home
    ∙ sym (ap (names_root who) r.found)

by-item : (u : SourceUnit) (who : Option ℕ) (n words : ℕ) (v : Option Item) → IsStorable u → slice_get u.items n ≡ v → (is_long words v && names_root who (slice_get u.items (root_of u n))) ≡ item_has u who n v words
by-item u who n words None h e = refl
by-item u who n words (Some i) h e = ap (λ b. is_long words (Some i) && b) (sym (names u who n i h e))

pub both-hold : (u : SourceUnit) (who : Option ℕ) (n words : ℕ) (a b : Bool) → IsStorable u → a ≡ is_long words (slice_get u.items n) → b ≡ names_root who (slice_get u.items (root_of u n)) → (a && b) ≡ has_words u who n words
both-hold u who n words a b h ea eb = ap₂ (λ x y. x && y) ea eb ∙ by-item u who n words (slice_get u.items n) h refl
