-- Which parameters take which arguments.
use Rattle.std.specs.Prelude.{ℕ, ◌==◌, List, [], ◌∷◌, Bool, true, false, ◌&&◌, ◌||◌, not, Option, Some, None, is_some}
use Rattle.cw_tree.specs.declared.leaf.RawName.{RawName}
use Rattle.cw_tree.specs.declared.leaf.RawType.{RawType}
use Rattle.cw_tree.specs.declared.leaf.RawSize.{RawSize}
use Rattle.cw_tree.specs.declared.segment.RawIps.{RawIps}
use Rattle.cw_tree.specs.declared.segment.RawIps.TheVariants as inner
use Rattle.cw_tree.specs.declared.segment.RawPs.{RawPs}
use Rattle.cw_tree.specs.declared.segment.RawPs.TheVariants as ps
use Rattle.cw_facts.specs.declared.fact.Kind.{Kind}
use Rattle.cw_facts.specs.declared.fact.Kind.TheVariants as kind
use Rattle.cw_facts.specs.declared.fact.Signature.{Signature}
use Rattle.cw_scope.specs.declared.resolve.Named.{Named}
use Rattle.cw_scope.specs.Same.{same_int, same_answer, same_plain}
use Rattle.cw_scope.specs.NameRules.{is_label, is_switch, dimensions, is_part}
use Rattle.cw_scale.specs.declared.scales.Shape.{Shape}
use Rattle.cw_scale.specs.Kinds.{kind_of, signature_of, fraction_of}

-- ---- what an argument can be

abbrev pub is_word_item : Kind → Bool
is_word_item (kind.Single t) = true
is_word_item (kind.Value t) = true
is_word_item (kind.Location t) = true
is_word_item _ = false

abbrev pub is_word_item_if : Option Kind → Bool
is_word_item_if None = false
is_word_item_if (Some k) = is_word_item k

-- a name with an index is a whole word but where it is a part of one
abbrev pub is_whole_if : Option Kind → Bool
is_whole_if None = false
is_whole_if (Some k) = not (is_part k)

-- a typed procedure that takes nothing
abbrev pub takes_none : List RawPs → Bool
takes_none [] = true
takes_none (p ∷ more) = false

abbrev pub answers_alone : Option Signature → Bool
answers_alone None = false
answers_alone (Some s) = is_some s.answer && takes_none s.params

abbrev pub is_array : RawType → Kind → Bool
is_array t (kind.Array u b) = dimensions b == 1 && fraction_of u == fraction_of t
is_array t (kind.ArrayParam u) = fraction_of u == fraction_of t
is_array t _ = false

abbrev pub is_table : RawSize → Kind → Bool
is_table s (kind.Table z) = same_int z.first s.first
is_table s (kind.TableParam z) = same_int z.first s.first
is_table s _ = false

-- READBYTE and WRITEBYTE are no procedure arguments
abbrev pub is_passed : Kind → Bool
is_passed (kind.Proc t) = true
is_passed (kind.ProcParam t) = true
is_passed _ = false

abbrev pub takes_these : List RawPs → List RawIps → Bool
takes_these [] [] = true
takes_these (ps.Plain x ∷ xs) (y ∷ ys) = same_plain x y && takes_these xs ys
takes_these _ _ = false

abbrev pub specified_so : Option Signature → (answer : Option RawType) → List RawIps → Bool
specified_so None answer params = false
specified_so (Some s) answer params = same_answer s.answer answer && takes_these s.params params

abbrev pub is_passed_if : Option Kind → Bool
is_passed_if None = false
is_passed_if (Some k) = is_passed k

abbrev pub kind_fits : RawIps → Kind → Bool
kind_fits (inner.Value at t) k = false
kind_fits (inner.Location at t) k = false
kind_fits (inner.Array t) k = is_array t k
kind_fits (inner.Table at s) k = is_table s k
kind_fits (inner.Label at) k = is_label k
kind_fits (inner.Switch at) k = is_switch k

abbrev pub kind_fits_if : RawIps → Option Kind → Bool
kind_fits_if p None = false
kind_fits_if p (Some k) = kind_fits p k

-- ---- whether a parameter takes an argument

module _ (named : Named) where
  abbrev pub name_is_value : RawName → Bool
  name_is_value n = is_word_item_if (kind_of named n) || answers_alone (signature_of named n)

  abbrev pub takes_value : Option RawName → Bool
  takes_value None = true
  takes_value (Some n) = name_is_value n

  abbrev pub takes_name : RawIps → Option RawName → Bool
  takes_name p None = false
  takes_name p (Some n) = kind_fits_if p (kind_of named n)

  abbrev pub takes_plain : RawIps → Shape → Bool
  takes_plain (inner.Value at t) x = takes_value x.bare
  takes_plain (inner.Location at t) x = x.whole && x.natural == fraction_of t
  takes_plain p x = takes_name p x.bare

  abbrev pub takes_procedure : (answer : Option RawType) → List RawIps → Option RawName → Bool
  takes_procedure answer params None = false
  takes_procedure answer params (Some n) = is_passed_if (kind_of named n) && specified_so (signature_of named n) answer params

  abbrev pub takes : RawPs → Shape → Bool
  takes (ps.Plain p) x = takes_plain p x
  takes (ps.Proc answer at params) x = takes_procedure answer params x.bare
