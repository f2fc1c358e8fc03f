-- What is found at the front of a text, as the lexer's private functions compute it.
-- What the items of a text are, Lexical says, and nothing here.
use Rattle.std.specs.Prelude.{ℕ, zero, suc, ◌+◌, ◌-◌, ◌==◌, nat_lt, Bool, true, false, not, ◌&&◌, ◌||◌, List, []}
use Rattle.std.specs.Prelude.{◌∷◌, length, take, drop, Option, Some, None, Result, Ok, Err, if◌then◌else◌}
use Rattle.std.specs.List.{prefix_len}
use Rattle.std.specs.Char.{is_ascii_alphabetic, is_ascii_alphanumeric, is_ascii_digit}
use Rattle.cw_lex.specs.declared.token.Form.{Form}
use Rattle.cw_lex.specs.declared.token.Form.TheVariants.{Source, MacroBody}
use Rattle.cw_lex.specs.declared.token.Word.{Word}
use Rattle.cw_lex.specs.declared.token.Word.TheVariants as words
use Rattle.cw_lex.specs.declared.token.Symbol.{Symbol}
use Rattle.cw_lex.specs.declared.token.TokenKind.{TokenKind}
use Rattle.cw_lex.specs.declared.token.TokenKind.TheVariants as kinds
use Rattle.cw_lex.specs.declared.token.Problem.{Problem}
use Rattle.cw_lex.specs.declared.token.Problem.TheVariants.{BadChar, OpenString, BadNumber, LongName, OpenComment}
use Rattle.cw_lex.specs.Items.{opens_string, keeps_limit, is_separator, word_of, one_mark, two_marks, is_plain, is_literal_byte, not_semicolon}

abbrev pub FoundItem : Type 0
FoundItem = Option (TokenKind × ℕ)

abbrev pub of_kind : TokenKind → ℕ → Option ℕ → FoundItem
of_kind k n None = None
of_kind k n (Some m) = Some (k, m + n)

-- The length of the word COMMENT at the front, or 0.
abbrev pub is_comment : Option Word → Bool
is_comment (Some words.Comment) = true
is_comment _ = false

abbrev pub closed_comment : ℕ → Bool → List ℕ → ℕ
closed_comment n is [] = 0
closed_comment n is (c ∷ bs) = if (c == 39) && is then n + 2 else 0

abbrev pub bare_comment : List ℕ → ℕ
bare_comment bs = if is_comment (word_of (take (prefix_len is_ascii_alphanumeric bs) bs)) then prefix_len is_ascii_alphanumeric bs else 0

-- behind its first apostrophe
abbrev pub quoted_comment : List ℕ → ℕ
quoted_comment bs = closed_comment (prefix_len is_ascii_alphanumeric bs)
    (is_comment (word_of (take (prefix_len is_ascii_alphanumeric bs) bs)))
    (drop (prefix_len is_ascii_alphanumeric bs) bs)

abbrev pub comment_word : List ℕ → ℕ
comment_word [] = 0
comment_word (c ∷ bs) = if c == 39 then quoted_comment bs else bare_comment (c ∷ bs)

-- The length of the comment at the front, whose word has n bytes, or 0.
abbrev pub shut_comment : ℕ → List ℕ → ℕ
shut_comment n bs = if n == 0 then 0 else (if nat_lt (prefix_len not_semicolon bs) (length bs) then n + prefix_len not_semicolon bs + 1 else 0)

abbrev pub comment_size : List ℕ → ℕ
comment_size bs = shut_comment (comment_word bs) (drop (comment_word bs) bs)

-- The length of the separators at the front, whose first bytes, so many, are inside a comment.
abbrev pub gap_size : ℕ → List ℕ → ℕ
gap_size inside [] = 0
gap_size (suc inside) (b ∷ bs) = 1 + gap_size inside bs
gap_size zero (b ∷ bs) = if is_separator b then 1 + gap_size 0 bs else (if comment_size (b ∷ bs) == 0 then 0 else 1 + gap_size (comment_size (b ∷ bs) - 1) bs)

-- what follows separators in a literal
abbrev pub bracketed : Form → ℕ → List ℕ → Option ℕ
bracketed form gap (c ∷ b ∷ d ∷ bs) = if c == 40 then (if d == 41 then (if is_literal_byte form b then Some (gap + 3) else None) else None) else None
bracketed form gap _ = None

abbrev pub literal_end : Form → List ℕ → Option ℕ
literal_end form bs = bracketed form (gap_size 0 bs) (drop (gap_size 0 bs) bs)

abbrev pub literal_or_word : ℕ → Option ℕ → TokenKind × ℕ
literal_or_word n None = (kinds.Word words.Literal, n)
literal_or_word n (Some m) = (kinds.Literal, n + m)

abbrev pub worded : Form → Word → ℕ → List ℕ → TokenKind × ℕ
worded form words.Literal n bs = literal_or_word n (literal_end form (drop n bs))
worded form k n bs = (kinds.Word k, n)

abbrev pub word_or_name : Form → Option Word → ℕ → List ℕ → TokenKind × ℕ
word_or_name form None n bs = (kinds.Name, n)
word_or_name form (Some k) n bs = worded form k n bs

abbrev pub bare_word : Form → List ℕ → TokenKind × ℕ
bare_word form bs = word_or_name form (word_of (take (prefix_len is_ascii_alphanumeric bs) bs)) (prefix_len is_ascii_alphanumeric bs) bs

abbrev pub quoted_or_none : Form → Option Word → ℕ → List ℕ → FoundItem
quoted_or_none form None n bs = None
quoted_or_none form (Some k) n bs = Some (worded form k n bs)

-- the letters between apostrophes, before these bytes
abbrev pub closed_word : Form → List ℕ → ℕ → List ℕ → List ℕ → FoundItem
closed_word form w n all (c ∷ bs) = if c == 39 then quoted_or_none form (word_of w) (n + 2) all else None
closed_word form w n all _ = None

abbrev pub quoted_word : Form → List ℕ → FoundItem
quoted_word form [] = None
quoted_word form (c ∷ bs) = closed_word form (take (prefix_len is_ascii_alphanumeric bs) bs)
    (prefix_len is_ascii_alphanumeric bs) (c ∷ bs) (drop (prefix_len is_ascii_alphanumeric bs) bs)

abbrev pub fraction : List ℕ → ℕ
fraction (c ∷ bs) = if c == 46 then (if prefix_len is_ascii_digit bs == 0 then 0 else prefix_len is_ascii_digit bs + 1) else 0
fraction _ = 0

abbrev pub number_of : ℕ → FoundItem
number_of n = if n == 0 then None else Some (kinds.Number, n)

abbrev pub number : List ℕ → FoundItem
number bs = number_of (prefix_len is_ascii_digit bs + fraction (drop (prefix_len is_ascii_digit bs) bs))

-- The end of the longest string: closed where the byte before is a quote that ends one, at the place, end the last end so far.
abbrev pub text_end : Bool → ℕ → Option ℕ → List ℕ → Option ℕ
text_end closed at end [] = end
text_end closed at end (b ∷ bs) =
    if b == 34 then text_end (not closed) (at + 1) (if closed then end else Some (at + 1)) bs
    else (if closed || nat_lt b 32 then end else text_end closed (at + 1) end bs)

abbrev pub two_quotes : ℕ → List ℕ → Option ℕ
two_quotes n (c ∷ d ∷ bs) = if c == 34 then (if d == 34 then Some (n + 2) else None) else None
two_quotes n _ = None

abbrev pub body_text_end : List ℕ → Option ℕ
body_text_end bs = two_quotes (prefix_len is_plain bs) (drop (prefix_len is_plain bs) bs)

abbrev pub string : Form → List ℕ → FoundItem
string Source (c ∷ bs) = of_kind kinds.Text 1 (text_end false 0 None bs)
string MacroBody (c ∷ d ∷ bs) = if d == 34 then of_kind kinds.BodyText 2 (body_text_end bs) else None
string _ _ = None

abbrev pub of_symbol : ℕ → Option Symbol → FoundItem
of_symbol n None = None
of_symbol n (Some s) = Some (kinds.Symbol s, n)

abbrev pub or_else : FoundItem → FoundItem → FoundItem
or_else None y = y
or_else (Some x) y = Some x

abbrev pub symbol : ℕ → List ℕ → FoundItem
symbol c [] = of_symbol 1 (one_mark c)
symbol c (d ∷ bs) = or_else (of_symbol 2 (two_marks c d)) (of_symbol 1 (one_mark c))

abbrev pub found : Form → List ℕ → FoundItem
found form [] = None
found form (c ∷ bs) =
    if is_ascii_alphabetic c then Some (bare_word form (c ∷ bs))
    else (if is_ascii_digit c || (c == 46) then number (c ∷ bs)
    else (if c == 34 then string form (c ∷ bs)
    else (if c == 39 then quoted_word form (c ∷ bs)
    else symbol c bs)))

-- The end of the comment with so many brackets open.
abbrev pub bracket_end : ℕ → ℕ → List ℕ → Option ℕ
bracket_end depth at [] = None
bracket_end depth at (b ∷ bs) =
    if b == 40 then bracket_end (depth + 1) (at + 1) bs
    else (if b == 41 then (if depth == 1 then Some (at + 1) else bracket_end (depth - 1) (at + 1) bs)
    else bracket_end depth (at + 1) bs)

-- What stands at the front: a token's kind, or none for what stands between tokens, and the length; or what is wrong.
abbrev pub PieceResult : Type 0
PieceResult = Result (Option TokenKind × ℕ) Problem

-- the problem where no item is
abbrev pub missing : Form → List ℕ → Problem
missing form [] = BadChar
missing form (c ∷ bs) = if c == 46 then BadNumber else (if (c == 34) && opens_string form bs then OpenString else BadChar)

abbrev pub comment_from : ℕ → List ℕ → PieceResult
comment_from n bs = if nat_lt (prefix_len not_semicolon bs) (length bs) then Ok (None, n + prefix_len not_semicolon bs + 1) else Err OpenComment

abbrev pub limited : TokenKind → ℕ → Bool → PieceResult
limited kinds.Name n true = Ok (Some kinds.Name, n)
limited kinds.Name n false = Err LongName
limited kinds.Number n true = Ok (Some kinds.Number, n)
limited kinds.Number n false = Err BadNumber
limited k n b = Ok (Some k, n)

abbrev pub piece_of : Form → List ℕ → FoundItem → PieceResult
piece_of form bs None = Err (missing form bs)
piece_of form bs (Some (kinds.Word words.Comment, n)) = comment_from n (drop n bs)
piece_of form bs (Some (k, n)) = limited k n (keeps_limit k (take n bs))

abbrev pub bracket_piece : Option ℕ → PieceResult
bracket_piece None = Err OpenComment
bracket_piece (Some n) = Ok (None, n + 1)

unfoldable pub piece : Form → Bool → List ℕ → PieceResult
piece form after_semicolon [] = Err BadChar
piece form after_semicolon (b ∷ bs) =
    if is_separator b then Ok (None, 1)
    else (if after_semicolon && (b == 40) then bracket_piece (bracket_end 1 0 bs)
    else piece_of form (b ∷ bs) (found form (b ∷ bs)))
