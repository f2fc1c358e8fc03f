-- What a unit defines stands by rising descriptor, since it has few of them.
use Rattle.std.proofs.Common.{◌≡◌, ℕ, ◌+◌, ◌≤◌, min, nat_le, List, [], ◌∷◌, ◌++◌, length, IsTrue, Option, Some, None, refl, sym, ap₂, ◌∙◌, arith, length-append}
use Rattle.cw_table.specs.declared.table.Row.{Row}
use Rattle.cw_facts.specs.declared.fact.Declaration.{Declaration}
use Rattle.cw_facts.specs.declared.fact.Fact.{Fact}
use Rattle.cw_scope.specs.declared.resolve.Named.{Named}
use Rattle.cw_items.specs.Things.{text_things}
use Rattle.cw_number.specs.declared.listed.Listing.{Listing}
use Rattle.cw_number.specs.Listed.{listed_of}
use Rattle.cw_number.specs.Numbers.{numbers_of, next_short}
use Rattle.cw_make_items.specs.Lookup.{Numbers}
use Rattle.cw_make.specs.Definitions.{outermost_declared, def_if, def_of, defs_from}
use Rattle.cw_make.specs.Made.{unit_of}
use Rattle.cw_unit.specs.declared.unit.Def.{Def}
use Rattle.cw_unit.specs.declared.descriptor.Desc.{Desc}
use Rattle.cw_writable.proofs.Coded.Fine.{both}
use Rattle.cw_writable.proofs.Coded.Numbers.{le_true}
use Rattle.cw_writable.specs.Back.Ready.{are_rising}
use Rattle.cw_sound.specs.Items.Derived.{HasRisingTokens}
use Rattle.cw_sound.proofs.Items.Naming.{few-descriptors}
use Rattle.cw_sound.proofs.Names.ListedParts.{Listed, also, communicators_parts}

-- a row for each descriptor
same_length : {fs : List Fact} {rs : List (Row Listing)} {ds : List Desc} → Listed fs rs ds → length rs ≡ length ds
same_length (also {fs} {gs} {rs} {qs} {ds} {es} a b) = length-append rs qs ∙ ap₂ (λ m n. m + n) (same_length a) (same_length b) ∙ sym (length-append ds es)
same_length _ = refl

module _ (named : Named) (numbers : Numbers) (own : List Declaration) where
  by_definition : (low d next : ℕ) (rs : List (Row Listing)) (x : Option Def) → low ≤ d → IsTrue (are_rising low (defs_from named numbers own next rs)) → IsTrue (are_rising (d + 1) (defs_from named numbers own next rs)) → IsTrue (are_rising low (def_if d x ++ defs_from named numbers own next rs))
  by_definition low d next rs None le h k = h
  by_definition low d next rs (Some x) le h k = both (nat_le low d) (are_rising (d + 1) (defs_from named numbers own next rs)) (le_true low d le) k

  rising_from : (low d : ℕ) (rs : List (Row Listing)) → low ≤ d → d + length rs ≤ 65535 → IsTrue (are_rising low (defs_from named numbers own d rs))
  rising_from low d [] le few = refl
  rising_from low d (r ∷ rs) le few =
      by_definition low d (next_short d) rs (def_of named numbers own r.item r.token) le
      (rising_from low (next_short d) rs (let z : low ≤ min (d + 1) 65535 = omega (arith, le, few) in z) (let z : min (d + 1) 65535 + length rs ≤ 65535 = omega (arith, few) in z))
      (rising_from (d + 1) (next_short d) rs (let z : d + 1 ≤ min (d + 1) 65535 = omega (arith, few) in z) (let z : min (d + 1) 65535 + length rs ≤ 65535 = omega (arith, few) in z))

module _ (named : Named) (tokens : HasRisingTokens named.raw.now) where
  pub few : length (unit_of named).descs ≤ 65535
  few = few-descriptors named.raw.now (numbers_of named) (listed_of named.raw.now) (text_things named named.raw.now) tokens

  pub rising : IsTrue (are_rising 0 (unit_of named).defined)
  rising =
      let same = same_length (communicators_parts (numbers_of named) (listed_of named.raw.now) (text_things named named.raw.now) named.raw.now.comms) in
      rising_from named (numbers_of named) (outermost_declared named.raw.now) 0 0 (listed_of named.raw.now) (let z : 0 ≤ 0 = omega arith in z) (let z : 0 + length (listed_of named.raw.now) ≤ 65535 = omega (arith, same, few) in z)
