-- Fields of a format. A field has one spelling. Reading takes a field from the front of bytes and gives what follows it, or nothing where the
-- bytes do not begin with one.
use Rattle.std.specs.Prelude.{◌≡◌, ◌<◌, ◌^◌, ℕ, zero, suc, ◌==◌, nat_lt, Bool, true, false, if◌then◌else◌, List}
use Rattle.std.specs.Prelude.{[], ◌∷◌, ◌++◌, length, take, drop, Option, Some, None, option_and_then, ℤ}
use Rattle.std.specs.Int.{w16, cast_unsigned, cast_signed, from_bool}
use Rattle.byteorder.specs.Endian.{little_number, little_bytes}

abbrev pub Reader : Type 0 → Type 0
Reader A = List ℕ → Option (A × List ℕ)

infixl 10 ◌>>=◌
abbrev pub ◌>>=◌ : {A B : Type 0} → Option A → (A → Option B) → Option B
o >>= f = option_and_then f o

-- ---- from fields to a format

-- one field and then another, which may hang on the first
abbrev pub followed : {A B : Type 0} → Reader A → (A → Reader B) → Reader (A × B)
followed a b bytes = a bytes >>= λ x. b x.0 x.1 >>= λ y. Some ((x.0, y.0), y.1)

abbrev pub both : {A B : Type 0} → Reader A → Reader B → Reader (A × B)
both a b bytes = followed a (λ _. b) bytes

-- a field that stands for something, where it does
abbrev pub meaning : {A B : Type 0} → (A → Option B) → Reader A → Reader B
meaning f a bytes = a bytes >>= λ x. f x.0 >>= λ y. Some (y, x.1)

-- so many fields
abbrev pub counted : {A : Type 0} → (n : ℕ) → Reader A → Reader (List A)
counted zero a bytes = Some ([], bytes)
counted (suc n) a bytes = a bytes >>= λ x. counted n a x.1 >>= λ xs. Some (x.0 ∷ xs.0, xs.1)

abbrev pub each : {A : Type 0} → (A → List ℕ) → List A → List ℕ
each spell [] = []
each spell (x ∷ xs) = spell x ++ each spell xs

-- the whole of the bytes
abbrev pub ended : {A : Type 0} → A × List ℕ → Option A
ended (x, []) = Some x
ended (x, b ∷ bs) = None

abbrev pub whole : {A : Type 0} → Reader A → List ℕ → Option A
whole a bytes = a bytes >>= ended

-- ---- the fields

abbrev pub byte_bytes : ℕ → List ℕ
byte_bytes b = b ∷ []

abbrev pub IsByte : ℕ → Type 0
IsByte n = n < 256

abbrev pub byte_in : Reader ℕ
byte_in [] = None
byte_in (b ∷ bs) = Some (b, bs)

-- n bytes
abbrev pub bytes_in : (n : ℕ) → Reader (List ℕ)
bytes_in n bytes = if nat_lt (length bytes) n then None else Some (take n bytes, drop n bytes)

-- a number of n bytes, the lowest first
unfoldable pub number_in : (n : ℕ) → Reader ℕ
number_in n bytes = if nat_lt (length bytes) n then None else Some (little_number n bytes, drop n bytes)

abbrev pub word_bytes : ℕ → List ℕ
word_bytes n = little_bytes 2 n

abbrev pub IsWord : ℕ → Type 0
IsWord n = n < 65536

abbrev pub word_in : Reader ℕ
word_in bytes = number_in 2 bytes

abbrev pub signed_bytes : ℤ → List ℕ
signed_bytes z = little_bytes 2 (cast_unsigned w16 z)

unfoldable pub signed_in : Reader ℤ
signed_in bytes = number_in 2 bytes >>= λ n. Some (cast_signed w16 n.0, n.1)

abbrev pub long_bytes : ℕ → List ℕ
long_bytes n = little_bytes 4 n

abbrev pub IsLong : ℕ → Type 0
IsLong n = n < 2 ^ 32

abbrev pub long_in : Reader ℕ
long_in bytes = number_in 4 bytes

-- a length byte, and so many bytes
abbrev pub text_bytes : List ℕ → List ℕ
text_bytes text = length text ∷ text

unfoldable pub text_in : Reader (List ℕ)
text_in bytes = byte_in bytes >>= λ n. bytes_in n.0 n.1

-- a value where there is one, behind a byte that tells whether
abbrev pub optional_bytes : {A : Type 0} → (A → List ℕ) → Option A → List ℕ
optional_bytes spell None = 0 ∷ []
optional_bytes spell (Some x) = 1 ∷ spell x

abbrev pub optional_of : {A : Type 0} → Reader A → (flag : ℕ) → Reader (Option A)
optional_of a flag bytes =
    if flag == 0 then Some (None, bytes)
    else if flag == 1 then (a bytes >>= λ x. Some (Some x.0, x.1))
    else None

abbrev pub optional_in : {A : Type 0} → Reader A → Reader (Option A)
optional_in a bytes = byte_in bytes >>= λ flag. optional_of a flag.0 flag.1

-- no or yes
abbrev pub flag_bytes : Bool → List ℕ
flag_bytes b = from_bool b ∷ []

abbrev pub flag_of : ℕ → Option Bool
flag_of byte = if byte == 0 then Some false else if byte == 1 then Some true else None

unfoldable pub flag_in : Reader Bool
flag_in bytes = meaning flag_of byte_in bytes

-- ---- what the code reads

-- what a reader of the code answers, seen by view, is what reading gives
abbrev pub Gives : {A B : Type 0} → (A → B) → Option A → Option B → Type 0
Gives view None read = read ≡ None
Gives view (Some x) read = read ≡ Some (view x)

-- what follows, with a part of what was read
abbrev pub skipped : {A B : Type 0} → (A → B) → Option (A × List ℕ) → Option (B × List ℕ)
skipped part None = None
skipped part (Some x) = Some (part x.0, x.1)

-- what follows
abbrev pub rest_of : {A : Type 0} → Option (A × List ℕ) → Option (List ℕ)
rest_of None = None
rest_of (Some x) = Some x.1

abbrev pub GivesRest : {A R : Type 0} → (R → List ℕ) → Option R → Option (A × List ℕ) → Type 0
GivesRest now None read = rest_of read ≡ None
GivesRest now (Some r) read = rest_of read ≡ Some (now r)
