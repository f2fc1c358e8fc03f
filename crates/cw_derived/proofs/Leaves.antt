-- Names, numbers, types and signs in normal form.
use Rattle.std.proofs.Common.{◌≡◌, ℕ, Bool, true, false, List, [], ◌∷◌, ◌++◌, Some, None, unwrap_or, if◌then◌else◌, refl, map}
use Rattle.std.specs.Char.{to_ascii_uppercase}
use Rattle.cw_word.specs.Number.{IsNumber}
use Rattle.cw_tree.specs.declared.leaf.AddOp.TheVariants as adds
use Rattle.cw_tree.specs.declared.leaf.MulOp.TheVariants as muls
use Rattle.cw_tree.specs.declared.leaf.CompareOp.TheVariants as compares
use Rattle.cw_grammar.specs.Tokens.{position, is_identifier, identifier, name_of, number_of, whole_part, fraction}
use Rattle.cw_grammar.specs.Grammar.{a_position, a_name, a_number, an_octal, an_int, a_sint, a_size, a_type, a_sign, a_factor_sign, a_compare_sign, a_bits}
use Rattle.cw_lex.specs.declared.token.Word.{Word}
use Rattle.cw_grammar.specs.Rules.{raw_name, raw_number, name, number, octal, int, sign, sint, number_type, size, bits, signed, factor, factor_sign, compared, comparator, operator}
use Rattle.cw_grammar.proofs.Numbers.{part_small, few_places, part_fits}
use Rattle.cw_derived.specs.Marks.{mark, empty, kept, skipped}
use Rattle.cw_derived.specs.NormalForm.{is_position, is_name, is_number, is_octal, int_number, int_octal, is_sign, is_factor_sign, is_compare_sign, is_sint, is_size, integer, fixed, is_bits}
use Rattle.cw_derived.proofs.Withins.{join, beyond}
use Rattle.cw_derived.proofs.Built.{Gives, b_one, b_then, b_left, b_right, b_map, after, before, optional_normal, in_a_row}

is_one : (w : List ℕ) → is_identifier (unwrap_or (identifier w) (65 ∷ [])) ≡ true
is_one w =
    elim (is_identifier w) as (λ b. is_identifier w ≡ b → is_identifier (unwrap_or (if b then Some w else None) (65 ∷ [])) ≡ true) [
      | true ↦ λ e. e
      | false ↦ λ e. refl
    ] refl

pub is_name_of : (text : List ℕ) → is_identifier (name_of text) ≡ true
is_name_of text = is_one (map to_ascii_uppercase text)

is_number_of : (text : List ℕ) → IsNumber (number_of text)
is_number_of text = record { whole_fits = part_small (whole_part text); few_places = few_places (fraction text); digits_fit = part_fits (fraction text) }

pub name_normal : {n : ℕ} {p : Bool} → Gives n p a_name name
name_normal x ns (b_map (b_one {t = t} e)) = record { marks = mark (position t) ∷ []; within = kept (skipped empty); normal = is_name (raw_name t) (is_name_of t.text) }

pub number_normal : {n : ℕ} {p : Bool} → Gives n p a_number number
number_normal x ns (b_map (b_one {t = t} e)) = record { marks = mark (position t) ∷ []; within = kept (skipped empty); normal = is_number (raw_number t) (is_number_of t.text) }

pub octal_normal : {n : ℕ} {p : Bool} → Gives n p an_octal octal
unfolding octal
octal_normal x ns (b_map (b_then (b_one {t = t} e) (b_then {u = u} o (b_then {v = v} d c)))) =
    let k = after u (before v (number_normal _ _ d)) in
    record { marks = mark (position t) ∷ k.marks; within = kept (skipped k.within); normal = is_octal (position t) k.normal }

pub int_normal : {n : ℕ} {p : Bool} → Gives n p an_int int
unfolding int
int_normal x ns (b_left (b_map d)) = let k = number_normal _ _ d in record { marks = k.marks; within = k.within; normal = int_number k.normal }
int_normal x ns (b_right (b_map d)) = let k = octal_normal _ _ d in record { marks = k.marks; within = k.within; normal = int_octal k.normal }

pub sign_normal : {n : ℕ} {p : Bool} → Gives n p a_sign sign
sign_normal x ns (b_left (b_map (b_one {t = t} e))) = record { marks = mark (position t) ∷ []; within = kept (skipped empty); normal = is_sign (signed adds.Plus t) }
sign_normal x ns (b_right (b_map (b_one {t = t} e))) = record { marks = mark (position t) ∷ []; within = kept (skipped empty); normal = is_sign (signed adds.Minus t) }

pub factor_sign_normal : {n : ℕ} {p : Bool} → Gives n p a_factor_sign factor_sign
factor_sign_normal x ns (b_left (b_map (b_one {t = t} e))) = record { marks = mark (position t) ∷ []; within = kept (skipped empty); normal = is_factor_sign (factor muls.Times t) }
factor_sign_normal x ns (b_right (b_map (b_one {t = t} e))) = record { marks = mark (position t) ∷ []; within = kept (skipped empty); normal = is_factor_sign (factor muls.Divide t) }

pub comparator_normal : {n : ℕ} {p : Bool} → Gives n p a_compare_sign comparator
comparator_normal x ns (b_left (b_map (b_one {t = t} e))) = record { marks = mark (position t) ∷ []; within = kept (skipped empty); normal = is_compare_sign (compared compares.Less t) }
comparator_normal x ns (b_right (b_left (b_map (b_one {t = t} e)))) = record { marks = mark (position t) ∷ []; within = kept (skipped empty); normal = is_compare_sign (compared compares.LessOrEqual t) }
comparator_normal x ns (b_right (b_right (b_left (b_map (b_one {t = t} e))))) = record { marks = mark (position t) ∷ []; within = kept (skipped empty); normal = is_compare_sign (compared compares.Equal t) }
comparator_normal x ns (b_right (b_right (b_right (b_left (b_map (b_one {t = t} e)))))) = record { marks = mark (position t) ∷ []; within = kept (skipped empty); normal = is_compare_sign (compared compares.GreaterOrEqual t) }
comparator_normal x ns (b_right (b_right (b_right (b_right (b_left (b_map (b_one {t = t} e))))))) = record { marks = mark (position t) ∷ []; within = kept (skipped empty); normal = is_compare_sign (compared compares.Greater t) }
comparator_normal x ns (b_right (b_right (b_right (b_right (b_right (b_map (b_one {t = t} e))))))) = record { marks = mark (position t) ∷ []; within = kept (skipped empty); normal = is_compare_sign (compared compares.NotEqual t) }

pub operator_normal : {n : ℕ} {p : Bool} {w : Word} → Gives n p a_position (operator w)
operator_normal x ns (b_map (b_one {t = t} e)) = record { marks = mark (position t) ∷ []; within = kept (skipped empty); normal = is_position (position t) }

pub sint_normal : {n : ℕ} {p : Bool} → Gives n p a_sint sint
unfolding sint
sint_normal x ns (b_map (b_then o d)) = in_a_row (optional_normal sign_normal o) (int_normal _ _ d) (λ a b h k. is_sint h k)

pub type_normal : {n : ℕ} {p : Bool} → Gives n p a_type number_type
unfolding number_type
type_normal x ns (b_left (b_map (b_one {t = t} e))) = record { marks = mark (position t) ∷ []; within = kept (skipped empty); normal = integer (position t) }
type_normal x ns (b_right (b_map (b_then (b_one {t = t} e) (b_then {u = u} o (b_then d (b_then {u = v} c (b_then {v = w} s l))))))) =
    let h = int_normal _ _ d in
    let k = after v (before w (sint_normal _ _ s)) in
    record { marks = mark (position t) ∷ (h.marks ++ k.marks); within = kept (skipped (beyond u (join h.within k.within))); normal = fixed (position t) h.normal k.normal }

pub size_normal : {n : ℕ} {p : Bool} → Gives n p a_size size
unfolding size
size_normal x ns (b_map (b_then {u = u} o (b_then d (b_then {u = v} c (b_then {v = w} s l))))) =
    let h = int_normal _ _ d in
    let k = after v (before w (int_normal _ _ s)) in
    record { marks = h.marks ++ k.marks; within = beyond u (join h.within k.within); normal = is_size h.normal k.normal }

pub bits_normal : {n : ℕ} {p : Bool} → Gives n p a_bits bits
unfolding bits
bits_normal x ns (b_map (b_then (b_one {t = t} e) d)) =
    let k = size_normal _ _ d in
    record { marks = mark (position t) ∷ k.marks; within = kept (skipped k.within); normal = is_bits (position t) k.normal }
