-- What names, strings and literals stand for is what was written.
use Rattle.std.proofs.Common.{◌≡◌, ℕ, zero, suc, ◌+◌, ◌-◌, ◌<◌, ◌≤◌, ◌^◌, take, drop, replicate, length, ap₂, subst, append_assoc, nat_le, Bool, true, false, ◌||◌, ◌==◌, List, [], ◌∷◌, ◌++◌, map, refl, sym, ap, ◌∙◌, arith, None}
use Rattle.std.specs.Prelude.{unwrap_or, decimal, if◌then◌else◌}
use Rattle.std.specs.List.{list_all, prefix_len}
use Rattle.std.specs.Str.Parse.{AllDigits, digits_value}
use Rattle.std.proofs.lemmas.Str.Parse.{tells_digits}
use Rattle.std.proofs.lemmas.Fmt.{decimal_is_IsNumeral, decimal_nonempty, length-decimal-le}
use Rattle.std.proofs.lemmas.List.{drop_all, take_all, length-append, length-replicate}
use Rattle.std.proofs.Math.Nat.{pow-le-pow_right}
use Rattle.cw_lex.proofs.Lists.{every_all, every_stop, cut}
use Rattle.std.specs.Int.{IsInRange}
use Rattle.std.specs.Char.{is_ascii_digit, is_ascii_uppercase, is_ascii_alphabetic, is_ascii_alphanumeric, to_ascii_uppercase}
use Rattle.std.proofs.lemmas.Bool.{and_parts, and_from, eqb-true}
use Rattle.std.proofs.lemmas.Bool.Decides.{nat_tests}
use Rattle.cw_lex.specs.declared.token.TokenKind.TheVariants as kinds
use Rattle.cw_word.specs.Number.{Number, IsNumber}
use Rattle.cw_grammar.specs.Tokens.{is_identifier, identifier, begins_with, name_of, number_of, is_part, part_value, part_places, whole_part, fraction as token_fraction, unquoted, characters, literal_byte}
use Rattle.cw_lex.specs.Items.{word_of, keeps_limit, letter_first, whole, pointed}
use Rattle.cw_show.specs.Canonical.{name, number, number_text, fraction, doubled, literal, string}
use Rattle.cw_show.specs.Lexing.{IsSpelled, a_name, a_number}

capitals : (w : List ℕ) → list_all (λ b. is_ascii_uppercase b || is_ascii_digit b) w ≡ true → map to_ascii_uppercase w ≡ w
capitals [] h = refl
capitals (c ∷ w) h =
    let p = and_parts (is_ascii_uppercase c || is_ascii_digit c) (list_all (λ b. is_ascii_uppercase b || is_ascii_digit b) w) h in
    let e : to_ascii_uppercase c ≡ c = (let q = p.0 in grind (arith, nat_tests)) in
    ap (λ d. d ∷ map to_ascii_uppercase w) e ∙ ap (λ v. c ∷ v) (capitals w p.1)

pub name_back : (w : List ℕ) → is_identifier w ≡ true → name_of w ≡ w
name_back w h =
    let p = and_parts (begins_with is_ascii_uppercase w) _ h in
    let q = and_parts (list_all (λ b. is_ascii_uppercase b || is_ascii_digit b) w) _ p.1 in
    ap (λ v. unwrap_or (identifier v) (65 ∷ [])) (capitals w q.0) ∙ rw h refl

unquoted_plain : (b : ℕ) (w : List ℕ) → (b == 34) ≡ false → unquoted (b ∷ w) ≡ b ∷ unquoted w
unquoted_plain b [] h = rw h refl
unquoted_plain b (c ∷ w) h = rw h refl

unquoted_pair : (b : ℕ) (w : List ℕ) → (b == 34) ≡ true → unquoted (b ∷ b ∷ w) ≡ b ∷ unquoted w
unquoted_pair b w h = rw h refl

pub unquoted_doubled : (cs : List ℕ) → unquoted (doubled cs ++ 34 ∷ []) ≡ cs
unquoted_doubled [] = refl
unquoted_doubled (b ∷ cs) =
    elim (b == 34) as (λ t. (b == 34) ≡ t → unquoted ((if t then b ∷ b ∷ doubled cs else (b ∷ doubled cs)) ++ 34 ∷ []) ≡ b ∷ cs) [
      | true ↦ λ h. unquoted_pair b (doubled cs ++ 34 ∷ []) h ∙ ap (λ v. b ∷ v) (unquoted_doubled cs)
      | false ↦ λ h. unquoted_plain b (doubled cs ++ 34 ∷ []) h ∙ ap (λ v. b ∷ v) (unquoted_doubled cs)
    ] refl

pub string_back : (cs : List ℕ) → characters kinds.Text (string cs).text ≡ cs
string_back cs = unquoted_doubled cs

pub literal_back : (b : ℕ) → literal_byte (literal b).text ≡ b
literal_back b = refl

-- ---- numbers

in_range : (c : ℕ) → IsInRange 48 57 c → is_ascii_digit c ≡ true
in_range c h = grind (arith, nat_tests)

all_digits : (ds : List ℕ) → AllDigits 10 ds → list_all is_ascii_digit ds ≡ true
all_digits [] h = refl
all_digits (c ∷ cs) h =
    let p = tells_digits.parts c cs h in
    and_from (is_ascii_digit c) (list_all is_ascii_digit cs) (in_range c p.0) (all_digits cs p.1)

zeros_digits : (k : ℕ) (ds : List ℕ) → list_all is_ascii_digit ds ≡ true → list_all is_ascii_digit (replicate k 48 ++ ds) ≡ true
zeros_digits zero ds h = h
zeros_digits (suc k) ds h = zeros_digits k ds h

zeros_value : (k : ℕ) (ds : List ℕ) → digits_value 10 (replicate k 48 ++ ds) ≡ digits_value 10 ds
zeros_value zero ds = refl
zeros_value (suc k) ds = zeros_value k ds

decimal_digits : (n : ℕ) → n < 2 ^ 64 → list_all is_ascii_digit (decimal n) ≡ true
decimal_digits n h = all_digits (decimal n) (decimal_is_IsNumeral n h).0.1

-- what stands on one side of the point
part_is : (ds : List ℕ) → list_all is_ascii_digit ds ≡ true → length ds ≤ 12 → is_part ds ≡ true
part_is ds h l = (let e : nat_le (length ds) 12 ≡ true = grind (arith, nat_tests, l) in rw (e, h) refl)

parts_are : (text d f : List ℕ) → whole_part text ≡ d → token_fraction text ≡ f → is_part d ≡ true → is_part f ≡ true → number_of text ≡ record { whole = digits_value 10 d; digits = digits_value 10 f; places = length f }
parts_are text d f ed ef hd hf =
    let w : part_value (whole_part text) ≡ digits_value 10 d = ap part_value ed ∙ rw hd refl in
    let v : part_value (token_fraction text) ≡ digits_value 10 f = ap part_value ef ∙ rw hf refl in
    let p : part_places (token_fraction text) ≡ length f = ap part_places ef ∙ rw hf refl in
    ap (λ z. record { whole = z; digits = part_value (token_fraction text); places = part_places (token_fraction text) }) w
    ∙ ap₂ (λ y z. record { whole = digits_value 10 d; digits = y; places = z }) v p

whole_back : (d : List ℕ) → list_all is_ascii_digit d ≡ true → length d ≤ 12 → number_of d ≡ record { whole = digits_value 10 d; digits = 0; places = 0 }
whole_back d h l =
    let n : prefix_len is_ascii_digit d ≡ length d = every_all is_ascii_digit d h in
    parts_are d d [] (ap (λ k. take k d) n ∙ (take_all (length d) d (omega arith))) (ap (λ k. drop (k + 1) d) n ∙ drop_all (length d + 1) d (omega arith)) (part_is d h l) refl

pointed_back : (d f : List ℕ) → list_all is_ascii_digit d ≡ true → length d ≤ 12 → list_all is_ascii_digit f ≡ true → length f ≤ 12 → number_of (d ++ 46 ∷ f) ≡ record { whole = digits_value 10 d; digits = digits_value 10 f; places = length f }
pointed_back d f hd ld hf lf =
    let n : prefix_len is_ascii_digit (d ++ 46 ∷ f) ≡ length d = every_stop is_ascii_digit d 46 f hd refl in
    let c = cut d (46 ∷ f) (d ++ 46 ∷ f) (length d) refl refl in
    let e : (d ++ 46 ∷ []) ++ f ≡ d ++ 46 ∷ f = append_assoc d (46 ∷ []) f in
    let c2 = cut (d ++ 46 ∷ []) f (d ++ 46 ∷ f) (length d + 1) (sym e) (length-append d (46 ∷ [])) in
    parts_are (d ++ 46 ∷ f) d f (ap (λ k. take k (d ++ 46 ∷ f)) n ∙ c.0) (ap (λ k. drop (k + 1) (d ++ 46 ∷ f)) n ∙ c2.1) (part_is d hd ld) (part_is f hf lf)

fitting : (n : Number) → IsNumber n → n.digits < 10 ^ 12
fitting n h = omega (arith, h.digits_fit, pow-le-pow_right {n = 10} (omega arith) h.few_places)

-- the digits behind the point
record HasFraction (n : Number) : Type 0 where
  some : 0 < n.places
  digits : list_all is_ascii_digit (fraction n.places n.digits) ≡ true
  size : length (fraction n.places n.digits) ≡ n.places
  value : digits_value 10 (fraction n.places n.digits) ≡ n.digits

has_fraction : (n : Number) → IsNumber n → (n.places == 0) ≡ false → HasFraction n
has_fraction n h e =
    let some : 0 < n.places = grind (arith, nat_tests, e) in
    let v : n.digits < 2 ^ 64 = omega (arith, fitting n h) in
    let short : length (decimal n.digits) ≤ n.places = length-decimal-le n.places n.digits some h.digits_fit v in
    let k : ℕ = n.places - length (decimal n.digits) in
    record {
      some = some;
      digits = zeros_digits k (decimal n.digits) (decimal_digits n.digits v);
      size = omega (arith, short, length-append (replicate k 48) (decimal n.digits), length-replicate {A = ℕ} k 48);
      value = zeros_value k (decimal n.digits) ∙ (decimal_is_IsNumeral n.digits v).1;
    }

abbrev whole_and : ℕ → ℕ → ℕ → Number
whole_and w d p = record { whole = w; digits = d; places = p }

without_point : (n : Number) → IsNumber n → (n.places == 0) ≡ true → number_of (decimal n.whole) ≡ n
without_point n h e =
    let w : n.whole < 2 ^ 64 = omega (arith, h.whole_fits) in
    let z : n.places ≡ 0 = eqb-true n.places 0 e in
    let d : n.digits ≡ 0 = omega (arith, subst (λ p. n.digits < 10 ^ p) z h.digits_fit) in
    whole_back (decimal n.whole) (decimal_digits n.whole w) (length-decimal-le 12 n.whole (omega arith) h.whole_fits w)
    ∙ ap (λ v. whole_and v 0 0) (decimal_is_IsNumeral n.whole w).1 ∙ ap₂ (whole_and n.whole) (sym d) (sym z)

with_point : (n : Number) → IsNumber n → (n.places == 0) ≡ false → number_of (decimal n.whole ++ 46 ∷ fraction n.places n.digits) ≡ n
with_point n h e =
    let w : n.whole < 2 ^ 64 = omega (arith, h.whole_fits) in
    let f = has_fraction n h e in
    let size = f.size in
    pointed_back (decimal n.whole) (fraction n.places n.digits) (decimal_digits n.whole w) (length-decimal-le 12 n.whole (omega arith) h.whole_fits w) f.digits (omega (arith, size, h.few_places))
    ∙ ap (λ z. whole_and z (digits_value 10 (fraction n.places n.digits)) (length (fraction n.places n.digits))) (decimal_is_IsNumeral n.whole w).1 ∙ ap₂ (whole_and n.whole) f.value f.size

pub number_back : (n : Number) → IsNumber n → number_of (number_text n) ≡ n
number_back n h =
    elim (n.places == 0) as (λ t. (n.places == 0) ≡ t → number_of (if t then decimal n.whole else (decimal n.whole ++ 46 ∷ fraction n.places n.digits)) ≡ n) [
      | true ↦ λ e. without_point n h e
      | false ↦ λ e. with_point n h e
    ] refl

-- ---- names and numbers are tokens as they are spelled

abbrev is_name_byte : ℕ → Bool
is_name_byte b = is_ascii_uppercase b || is_ascii_digit b

letters : (w : List ℕ) → list_all is_name_byte w ≡ true → list_all is_ascii_alphanumeric w ≡ true
letters [] h = refl
letters (c ∷ w) h =
    let p = and_parts (is_name_byte c) (list_all is_name_byte w) h in
    let e : is_ascii_alphanumeric c ≡ true = (let q = p.0 in grind (arith, nat_tests)) in
    and_from (is_ascii_alphanumeric c) (list_all is_ascii_alphanumeric w) e (letters w p.1)

not_true : false ≡ true → ⊥
not_true e = cc

pub name_spelled : (w : List ℕ) → is_identifier w ≡ true → word_of w ≡ None → IsSpelled (name w)
name_spelled [] h k = absurd (not_true h)
name_spelled (c ∷ w) h k =
    let p = and_parts (begins_with is_ascii_uppercase (c ∷ w)) _ h in
    let q = and_parts (list_all is_name_byte (c ∷ w)) _ p.1 in
    let r = and_parts (is_name_byte c) (list_all is_name_byte w) q.0 in
    let first : is_ascii_alphabetic c ≡ true = (let e : is_ascii_uppercase c ≡ true = p.0 in grind (arith, nat_tests)) in
    a_name (c ∷ w) (letter_first first (letters w r.1) k) q.1

under : (k : ℕ) → k ≤ 12 → nat_le k 12 ≡ true
under k l = grind (arith, nat_tests, l)

limit : (w : List ℕ) (k : ℕ) (rest : List ℕ) → prefix_len is_ascii_digit w ≡ k → k ≤ 12 → drop (1 + k) w ≡ rest → prefix_len is_ascii_digit rest ≤ 12 → keeps_limit kinds.Number w ≡ true
limit w k rest e l f m =
    and_from (nat_le (prefix_len is_ascii_digit w) 12) (nat_le (prefix_len is_ascii_digit (drop (1 + prefix_len is_ascii_digit w) w)) 12)
    (ap (λ j. nat_le j 12) e ∙ under k l)
    (ap (λ j. nat_le (prefix_len is_ascii_digit (drop (1 + j) w)) 12) e ∙ ap (λ r. nat_le (prefix_len is_ascii_digit r) 12) f ∙ under (prefix_len is_ascii_digit rest) m)

whole_spelled : (d : List ℕ) → list_all is_ascii_digit d ≡ true → 0 < length d → length d ≤ 12 → IsSpelled (record { kind = kinds.Number; text = d })
whole_spelled d h s l = a_number d (whole d (record { some = s; digits = h })) (limit d (length d) [] (every_all is_ascii_digit d h) l (drop_all (1 + length d) d (omega arith)) (omega arith))

pointed_spelled : (d f : List ℕ) → list_all is_ascii_digit d ≡ true → length d ≤ 12 → list_all is_ascii_digit f ≡ true → 0 < length f → length f ≤ 12 → IsSpelled (record { kind = kinds.Number; text = d ++ 46 ∷ f })
pointed_spelled d f hd ld hf sf lf =
    let c = cut (d ++ 46 ∷ []) f (d ++ 46 ∷ f) (1 + length d) (sym (append_assoc d (46 ∷ []) f)) (omega (arith, length-append d (46 ∷ []))) in
    a_number (d ++ 46 ∷ f) (pointed d f hd (record { some = sf; digits = hf })) (limit (d ++ 46 ∷ f) (length d) f (every_stop is_ascii_digit d 46 f hd refl) ld c.1 (omega (arith, every_all is_ascii_digit f hf, lf)))

plain_spelled : (n : Number) → IsNumber n → IsSpelled (record { kind = kinds.Number; text = decimal n.whole })
plain_spelled n h =
    let w : n.whole < 2 ^ 64 = omega (arith, h.whole_fits) in
    whole_spelled (decimal n.whole) (decimal_digits n.whole w) (decimal_nonempty n.whole w) (length-decimal-le 12 n.whole (omega arith) h.whole_fits w)

point_spelled : (n : Number) → IsNumber n → (n.places == 0) ≡ false → IsSpelled (record { kind = kinds.Number; text = decimal n.whole ++ 46 ∷ fraction n.places n.digits })
point_spelled n h e =
    let w : n.whole < 2 ^ 64 = omega (arith, h.whole_fits) in
    let f = has_fraction n h e in
    let size = f.size in
    let some = f.some in
    pointed_spelled (decimal n.whole) (fraction n.places n.digits) (decimal_digits n.whole w) (length-decimal-le 12 n.whole (omega arith) h.whole_fits w) f.digits (omega (arith, size, some)) (omega (arith, size, h.few_places))

pub number_spelled : (n : Number) → IsNumber n → IsSpelled (number n)
number_spelled n h =
    elim (n.places == 0) as (λ t. (n.places == 0) ≡ t → IsSpelled (record { kind = kinds.Number; text = if t then decimal n.whole else (decimal n.whole ++ 46 ∷ fraction n.places n.digits) })) [
      | true ↦ λ e. plain_spelled n h
      | false ↦ λ e. point_spelled n h e
    ] refl
