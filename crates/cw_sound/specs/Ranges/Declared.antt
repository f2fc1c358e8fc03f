-- The declarations whose numbers are in the ranges of the language: rows, sizes and widths are at most 32,768, and elements lie in a word.
use Rattle.std.specs.Prelude.{◌≡◌, ℕ, nat_le, nat_lt, Bool, true, ◌&&◌, IsTrue, Option, Some, None}
use Rattle.cw_tree.specs.declared.leaf.RawSize.{RawSize}
use Rattle.cw_tree.specs.declared.items.RawRange.{RawRange}
use Rattle.cw_tree.specs.declared.items.RawElem.{RawElem}
use Rattle.cw_facts.specs.declared.fact.Kind.{Kind}
use Rattle.cw_facts.specs.declared.fact.Kind.TheVariants as kind
use Rattle.cw_scope.specs.declared.resolve.Named.{Named}
use Rattle.cw_make_expr.specs.Parts.{words_of, width_of, entries_of, element_word, element_field, row_length, kind_here}
use Rattle.cw_writable.specs.Coded.RangedExpressions.{is_field}

abbrev pub is_size : RawSize → Bool
is_size s = nat_le (words_of s) 32768 && (nat_le (width_of s) 32768 && nat_le (entries_of s) 32768)

abbrev pub is_element : RawElem → Bool
is_element e = nat_lt (element_word e) 32768 && is_field (element_field e)

-- the row of an array with two dimensions
abbrev pub is_row : Option RawRange → Bool
is_row None = true
is_row (Some r) = nat_le (row_length r) 32768

abbrev pub has_ranges : Kind → Bool
has_ranges (kind.Array t b) = is_row b.second
has_ranges (kind.Table s) = is_size s
has_ranges (kind.TableParam s) = is_size s
has_ranges (kind.Element table e) = is_element e
has_ranges _ = true

-- of each declared kind its numbers are in range
pub record DeclarationsInRange (named : Named) : Type 0 where
  pub kinds : (token : ℕ) (k : Kind) → kind_here named token ≡ Some k → IsTrue (has_ranges k)
