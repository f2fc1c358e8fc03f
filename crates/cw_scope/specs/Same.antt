-- Which specifications are the same: parameter by parameter, numbers by what they amount to. Of a table the width counts alone.
use Rattle.std.specs.Prelude.{ℕ, ◌==◌, List, [], ◌∷◌, ℤ, int_le, Bool, true, false, ◌&&◌, Option, Some, None, pos}
use Rattle.cw_word.specs.Number.{Number}
use Rattle.cw_tree.specs.declared.leaf.RawInt.{RawInt}
use Rattle.cw_tree.specs.declared.leaf.RawInt.TheVariants as int
use Rattle.cw_tree.specs.declared.leaf.RawSint.{RawSint}
use Rattle.cw_tree.specs.declared.leaf.RawSign.{RawSign}
use Rattle.cw_tree.specs.declared.leaf.AddOp.{AddOp}
use Rattle.cw_tree.specs.declared.leaf.AddOp.TheVariants as op
use Rattle.cw_tree.specs.declared.leaf.RawType.{RawType}
use Rattle.cw_tree.specs.declared.leaf.RawType.TheVariants as type
use Rattle.cw_tree.specs.declared.segment.RawIps.{RawIps}
use Rattle.cw_tree.specs.declared.segment.RawIps.TheVariants as inner
use Rattle.cw_tree.specs.declared.segment.RawPs.{RawPs}
use Rattle.cw_tree.specs.declared.segment.RawPs.TheVariants as ps
use Rattle.cw_facts.specs.declared.fact.Signature.{Signature}
use Rattle.cw_amount.specs.Amounts.{int_amount, sint_amount}

abbrev pub same_number : Number → Number → Bool
same_number a b = a.whole == b.whole && (a.digits == b.digits && a.places == b.places)

-- numbers that amount to nothing are refused elsewhere; here they are the same where they are spelled alike, signs with them
abbrev pub spelled_alike : RawInt → RawInt → Bool
spelled_alike (int.Number a) (int.Number b) = same_number a.number b.number
spelled_alike (int.Octal a) (int.Octal b) = same_number a.number.number b.number.number
spelled_alike _ _ = false

abbrev pub same_amount : Option ℕ → Option ℕ → (alike : Bool) → Bool
same_amount (Some a) (Some b) alike = a == b
same_amount None None alike = alike
same_amount _ _ alike = false

abbrev pub same_int : RawInt → RawInt → Bool
same_int a b = same_amount (int_amount a) (int_amount b) (spelled_alike a b)

abbrev pub same_signed : Option ℤ → Option ℤ → (alike : Bool) → Bool
same_signed (Some a) (Some b) alike = int_le a b && int_le b a
same_signed None None alike = alike
same_signed _ _ alike = false

abbrev pub same_operator : AddOp → AddOp → Bool
same_operator op.Plus op.Plus = true
same_operator op.Minus op.Minus = true
same_operator _ _ = false

-- a `+` is spelled too
abbrev pub same_sign : Option RawSign → Option RawSign → Bool
same_sign None None = true
same_sign (Some a) (Some b) = same_operator a.op b.op
same_sign _ _ = false

abbrev pub same_sint : RawSint → RawSint → Bool
same_sint a b = same_signed (sint_amount a) (sint_amount b) (same_sign a.sign b.sign && spelled_alike a.value b.value)

-- INTEGER is FIXED(16,0)
abbrev pub is_word : RawInt → RawSint → Bool
is_word t f = same_amount (int_amount t) (Some 16) false && same_signed (sint_amount f) (Some (pos 0)) false

abbrev pub same_type : RawType → RawType → Bool
same_type (type.Integer p) (type.Integer q) = true
same_type (type.Integer p) (type.Fixed q u g) = is_word u g
same_type (type.Fixed p t f) (type.Integer q) = is_word t f
same_type (type.Fixed p t f) (type.Fixed q u g) = same_int t u && same_sint f g

abbrev pub is_integer : RawType → Bool
is_integer (type.Integer p) = true
is_integer (type.Fixed p t f) = is_word t f

abbrev pub same_answer : Option RawType → Option RawType → Bool
same_answer (Some t) (Some u) = same_type t u
same_answer None None = true
same_answer _ _ = false

abbrev pub same_plain : RawIps → RawIps → Bool
same_plain (inner.Value p t) (inner.Value q u) = same_type t u
same_plain (inner.Location p t) (inner.Location q u) = same_type t u
same_plain (inner.Array t) (inner.Array u) = same_type t u
same_plain (inner.Table p s) (inner.Table q z) = same_int s.first z.first
same_plain (inner.Label p) (inner.Label q) = true
same_plain (inner.Switch p) (inner.Switch q) = true
same_plain _ _ = false

abbrev pub each_same_plain : List RawIps → List RawIps → Bool
each_same_plain [] [] = true
each_same_plain (x ∷ xs) (y ∷ ys) = same_plain x y && each_same_plain xs ys
each_same_plain _ _ = false

abbrev pub same_param : RawPs → RawPs → Bool
same_param (ps.Plain x) (ps.Plain y) = same_plain x y
same_param (ps.Proc t p xs) (ps.Proc u q ys) = same_answer t u && each_same_plain xs ys
same_param _ _ = false

abbrev pub each_same : List RawPs → List RawPs → Bool
each_same [] [] = true
each_same (x ∷ xs) (y ∷ ys) = same_param x y && each_same xs ys
each_same _ _ = false

abbrev pub same_signature : Signature → Signature → Bool
same_signature a b = same_answer a.answer b.answer && each_same a.params b.params
