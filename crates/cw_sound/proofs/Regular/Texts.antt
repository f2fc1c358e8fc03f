-- The trees of whole texts.
use Rattle.std.proofs.Common.{◌≡◌, inl, inr, ℕ, ◌+◌, ◌-◌, ◌≤◌, ◌<◌, true, ◌==◌, nat_le, nat_lt, IsTrue, List, [], ◌∷◌, ◌++◌, length, drop, sym, ap, subst, ◌∙◌, arith, append_assoc, length-append}
use Rattle.std.proofs.Math.Seq.{drop-append_seam}
use Rattle.std.proofs.lemmas.Bool.Decides.{nat_tests}
use Rattle.std.specs.List.{All}
use Rattle.cw_lex.specs.declared.token.Form.TheVariants.{Source}
use Rattle.cw_lex.specs.declared.token.Symbol.{Symbol}
use Rattle.cw_lex.specs.declared.token.Symbol.TheVariants as symbols
use Rattle.cw_lex.specs.declared.token.Word.{Word}
use Rattle.cw_lex.specs.declared.token.Word.TheVariants as words
use Rattle.cw_lex.specs.declared.token.TokenKind.{TokenKind}
use Rattle.cw_lex.specs.declared.token.TokenKind.TheVariants as kinds
use Rattle.cw_lex.specs.Items.{IsLiteral, of_character}
use Rattle.cw_lex.specs.Lexical.{Lexeme}
use Rattle.cw_tree.specs.declared.segment.Raw.{Raw}
use Rattle.cw_grammar.specs.Tokens.{symbol_code, word_code, same, first_or_zero, literal_byte, numbered}
use Rattle.cw_grammar.specs.Grammar.{a_raw}
use Rattle.cw_grammar.specs.Statements.{text}
use Rattle.cw_grammar.specs.Derives.{Derives}
use Rattle.cw_tokens.proofs.Codes.{symbol_after, word_after}
use Rattle.cw_tokens.specs.TreeTokens.{block_tokens, text_tokens}
use Rattle.cw_sound.proofs.Expressions.Truth.{parts, le_of, lt_true}
use Rattle.cw_sound.specs.Uses.Mentions.{In}
use Rattle.cw_sound.specs.Statements.Bodies.{Body, Bodies, block_bodies}
use Rattle.cw_sound.specs.Statements.Levels.{statement_levels}
use Rattle.cw_sound.specs.Statements.Regular.{is_regular_statement, is_regular_block}
use Rattle.cw_spelled.specs.Proper.{IsProperAs, IsProperToken}
use Rattle.cw_sound.proofs.Regular.Lists.{each_of}
use Rattle.cw_sound.proofs.Regular.Smalls.{BodyFits, Sound}
use Rattle.cw_sound.proofs.Regular.Good.{IsByte, good}
use Rattle.cw_sound.proofs.Regular.Statements.{rule_keeps, again_keeps, text_keeps}
use Rattle.cw_macro.specs.Premises.{Each}

-- ---- a LITERAL is a byte

not_three : (n : ℕ) → 3 < n → (n == 3) ≡ true → ⊥
not_three n h e = grind (arith, nat_tests, h, e)

byte_at : (u : List ℕ) (b c : ℕ) → literal_byte (u ++ b ∷ c ∷ []) ≡ b
byte_at u b c =
    let e : length (u ++ b ∷ c ∷ []) - 2 ≡ length u = omega (arith, length-append u (b ∷ c ∷ [])) in
    ap (λ (n : ℕ). first_or_zero (drop n (u ++ b ∷ c ∷ []))) e ∙ ap first_or_zero (drop-append_seam u (b ∷ c ∷ []))

byte_is : (w : List ℕ) → IsLiteral Source w → IsTrue (nat_lt (literal_byte w) 256)
byte_is _ (of_character w gap b i n g k) =
    let e : w ++ (gap ++ 40 ∷ b ∷ 41 ∷ []) ≡ (w ++ (gap ++ 40 ∷ [])) ++ b ∷ 41 ∷ [] =
    ap (λ (z : List ℕ). w ++ z) (sym (append_assoc gap (40 ∷ []) (b ∷ 41 ∷ []))) ∙ sym (append_assoc w (gap ++ 40 ∷ []) (b ∷ 41 ∷ [])) in
    let same_byte : literal_byte (w ++ (gap ++ 40 ∷ b ∷ 41 ∷ [])) ≡ b = ap literal_byte e ∙ byte_at (w ++ (gap ++ 40 ∷ [])) b 41 in
    subst (λ (z : ℕ). IsTrue (nat_lt z 256)) (sym same_byte) (lt_true b 256 (omega (arith, le_of b 126 (parts (nat_le 32 b) (nat_le b 126) k).1)))

kind_byte : (k : TokenKind) (w : List ℕ) → IsProperAs k w → same k kinds.Literal ≡ true → IsTrue (nat_lt (literal_byte w) 256)
kind_byte kinds.Literal w p h = byte_is w p
kind_byte (kinds.Symbol s) w p h = absurd (not_three (symbol_code s) (symbol_after s) h)
kind_byte (kinds.Word k) w p h = absurd (not_three (word_code k) (word_after k) h)
kind_byte _ w p h = absurd cc

bytes : (n : ℕ) (ts : List Lexeme) → Each IsProperToken ts → Each IsByte (numbered n ts)
bytes n [] h = tt
bytes n (t ∷ ts) h = (λ e. kind_byte t.kind t.text h.0 e, bytes (n + 1) ts h.1)

-- ---- texts

sound : (m n : ℕ) (ts : List Lexeme) (raw : Raw) → n ≤ m → All IsProperToken ts → length ts ≤ 65535 → Derives n a_raw text (numbered 1 ts) raw → text_tokens raw ≤ length ts → Sound m (is_regular_block raw.block) (block_bodies raw.block)
sound m n ts raw l h few d t =
    let count : 3 + block_tokens raw.block ≤ length ts = t in
    good m (λ s r. rule_keeps m r) (λ s a. again_keeps m a) d l (bytes 1 ts (each_of IsProperToken ts h)) (text_keeps m) (omega (arith, few, count))

pub regular_block : (n : ℕ) (ts : List Lexeme) (raw : Raw) → All IsProperToken ts → length ts ≤ 65535 → Derives n a_raw text (numbered 1 ts) raw → text_tokens raw ≤ length ts → IsTrue (is_regular_block raw.block)
regular_block n ts raw h few d t = (sound n n ts raw (omega arith) h few d t).right

in_each : (m : ℕ) (bs : Bodies) (b : Body) → Each (BodyFits m) bs → In b bs → BodyFits m b
in_each m [] b h i = absurd i
in_each m (c ∷ bs) b h (inl e) = subst (BodyFits m) e h.0
in_each m (c ∷ bs) b h (inr i) = in_each m bs b h.1 i

pub regular_body : (m n : ℕ) (ts : List Lexeme) (raw : Raw) → n ≤ m → All IsProperToken ts → length ts ≤ 65535 → Derives n a_raw text (numbered 1 ts) raw → text_tokens raw ≤ length ts → (b : Body) → In b (block_bodies raw.block) → IsTrue (is_regular_statement b.statement) × (statement_levels b.statement ≤ m)
regular_body m n ts raw l h few d t b i = let f = in_each m (block_bodies raw.block) b (sound m n ts raw l h few d t).inner i in (f.right, f.few)
