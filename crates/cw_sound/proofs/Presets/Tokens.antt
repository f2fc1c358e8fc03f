-- The tokens of a text of bytes are of bytes, and so are those that it expands to.
use Rattle.std.proofs.Common.{ℕ, ◌<◌, List, [], ◌∷◌, ◌++◌, drop, Bool}
use Rattle.std.specs.List.{All}
use Rattle.std.proofs.lemmas.List.Elements.{All-nil, All-cons, All-head, All-tail, All-take, All-drop}
use Rattle.cw_lex.specs.declared.token.Form.{Form}
use Rattle.cw_lex.specs.declared.token.Form.TheVariants.{Source}
use Rattle.cw_lex.specs.Lexical.{Lexeme, Place, Lexes, at_end, a_gap, a_token, Tokenizes, first_place}
use Rattle.cw_macro.specs.Expansion.{quote_length, HasBody, Expands}
use Rattle.cw_macro.specs.Premises.{Each}
use Rattle.cw_sound.specs.Presets.Bytes.{AreBytes, HasBytes}
use Rattle.cw_spelled.proofs.Carried.{expanded_each}

abbrev IsByte : ℕ → Type 0
IsByte b = b < 256

first_bytes : (w rest : List ℕ) → AreBytes (w ++ rest) → AreBytes w
first_bytes [] rest h = All-nil IsByte
first_bytes (b ∷ w) rest h = All-cons IsByte b w (All-head IsByte b (w ++ rest) h) (first_bytes w rest (All-tail IsByte b (w ++ rest) h))

last_bytes : (w rest : List ℕ) → AreBytes (w ++ rest) → AreBytes rest
last_bytes [] rest h = h
last_bytes (b ∷ w) rest h = last_bytes w rest (All-tail IsByte b (w ++ rest) h)

tokens_bytes : {form : Form} {start : Place} {before text : List ℕ} {after : Bool} {ts : List Lexeme} → Lexes form start before after text ts → AreBytes text → Each HasBytes ts
tokens_bytes at_end h = tt
tokens_bytes (a_gap {gap = gap} {rest = rest} g d) h = tokens_bytes d (last_bytes gap rest h)
tokens_bytes (a_token {w = w} {rest = rest} i t k d) h = (first_bytes w rest h, tokens_bytes d (last_bytes w rest h))

body_bytes : (string : Lexeme) (body : List Lexeme) → HasBytes string → HasBody string body → Each HasBytes body
body_bytes string body h b =
    let quote = quote_length string.kind in
    tokens_bytes b.tokenizes (All-take IsByte _ (drop quote string.text) (All-drop IsByte quote string.text h))

all_of : (ts : List Lexeme) → Each HasBytes ts → All HasBytes ts
all_of [] h = All-nil HasBytes
all_of (t ∷ ts) h = All-cons HasBytes t ts h.0 (all_of ts h.1)

pub expanded_bytes : (text : List ℕ) (tokens expanded : List Lexeme) → AreBytes text → Tokenizes Source first_place text tokens → Expands tokens expanded → All HasBytes expanded
expanded_bytes text tokens expanded h d l = all_of expanded (expanded_each HasBytes HasBytes (λ t h. h) (λ call t p h. h) body_bytes tokens expanded (tokens_bytes d h) l)
