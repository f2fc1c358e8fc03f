-- The image file: a mark, a version, and fields in their order.
use Rattle.std.specs.Prelude.{◌≡◌, ◌≤◌, ◌<◌, slice_index, ℕ, zero, suc, ◌-◌, ◌==◌, ◌||◌, ◌&&◌, not, nat_lt, nat_le, Bool, true}
use Rattle.std.specs.Prelude.{if◌then◌else◌, List, [], ◌∷◌, ◌++◌, length, take, drop, Option, Some, None, Result, Ok, Err}
use Rattle.std.specs.List.{AllByRecursion}
use Rattle.std.specs.Str.{bytes_eq}
use Rattle.byteorder.specs.Endian.{little_number}
use Rattle.cw_word.specs.Name.{IsName}
use Rattle.cw_fields.specs.Fields.{Reader, each, text_bytes, byte_in, bytes_in, text_in, IsWord, word_bytes, long_bytes, word_in, long_in}
use Rattle.cw_fields.specs.Names.{is_name}
use Rattle.cw_image.specs.declared.image.Image.{Image}
use Rattle.cw_image.specs.declared.fault.ImageFault.{ImageFault}
use Rattle.cw_image.specs.declared.fault.ImageFault.TheVariants.{NotImage, BadVersion, Truncated, BadField, Trailing, NoMemory}

abbrev pub mark : List ℕ
mark = 67 ∷ 54 ∷ 54 ∷ 73 ∷ []

-- ---- the one spelling of an image

abbrev pub limits_bytes : Image → List ℕ
limits_bytes i = mark ++ (word_bytes 1 ++ (word_bytes i.area ++ (word_bytes i.frames ++ word_bytes i.depth)))

abbrev pub image_bytes : Image → List ℕ
image_bytes i =
    limits_bytes i
    ++ ((length i.names ∷ each text_bytes i.names)
    ++ ((word_bytes (length i.words) ++ each word_bytes i.words)
    ++ (long_bytes (length i.code) ++ i.code)))

-- whether the last word is not 0
abbrev pub ends_nonzero : List ℕ → Bool
ends_nonzero [] = true
ends_nonzero (w ∷ []) = not (w == 0)
ends_nonzero (w ∷ v ∷ ws) = ends_nonzero (v ∷ ws)

pub record IsImage (i : Image) : Type 0 where
  pub some_area : 1 ≤ i.area
  pub area : i.area ≤ 32768
  pub frames : i.frames ≤ i.area
  pub some_depth : 1 ≤ i.depth
  pub depth : i.depth ≤ 4096
  pub some_names : 1 ≤ length i.names
  pub few_names : length i.names ≤ 200
  pub names : AllByRecursion IsName i.names
  pub few_words : length i.words ≤ i.area
  pub words : AllByRecursion IsWord i.words
  pub last : ends_nonzero i.words ≡ true
  pub some_code : 1 ≤ length i.code
  pub code : length i.code ≤ 65536

-- ---- the fields in their order, with the first fault

infixl 10 ◌>>=◌
abbrev pub ◌>>=◌ : {A B : Type 0} → Result A ImageFault → (A → Result B ImageFault) → Result B ImageFault
(Ok x) >>= f = f x
(Err e) >>= f = Err e

-- A field of bytes of this length in all. It has to be there to its end, and in its range.
abbrev pub in_range : {A : Type 0} → (A → Bool) → (place : ℕ) → A × List ℕ → Result (A × List ℕ) ImageFault
in_range ok place x = if ok x.0 then Ok x else Err (BadField place)

abbrev pub checked : {A : Type 0} → (len : ℕ) → (A → Bool) → (place : ℕ) → Option (A × List ℕ) → Result (A × List ℕ) ImageFault
checked len ok place None = Err (Truncated len)
checked len ok place (Some x) = in_range ok place x

abbrev pub field : {A : Type 0} → (len : ℕ) → Reader A → (A → Bool) → List ℕ → Result (A × List ℕ) ImageFault
field len read ok rest = checked len ok (len - length rest) (read rest)

abbrev pub between : (low high n : ℕ) → Bool
between low high n = nat_le low n && nat_le n high

-- the length of a name is looked at before its characters
unfoldable pub name_field : (len : ℕ) → List ℕ → Result (List ℕ × List ℕ) ImageFault
name_field len rest = field len byte_in (between 1 31) rest >>= λ n. field len text_in is_name rest

-- so many fields, each told how many follow it
abbrev pub repeated : {A : Type 0} → (ℕ → List ℕ → Result (A × List ℕ) ImageFault) → (n : ℕ) → List ℕ → Result (List A × List ℕ) ImageFault
repeated step zero rest = Ok ([], rest)
repeated step (suc n) rest = step n rest >>= λ x. repeated step n x.1 >>= λ xs. Ok (x.0 ∷ xs.0, xs.1)

abbrev pub names_fields : (len n : ℕ) → List ℕ → Result (List (List ℕ) × List ℕ) ImageFault
names_fields len n rest = repeated (λ _. name_field len) n rest

-- the last of the words is not 0
abbrev pub word_item : (len follow : ℕ) → List ℕ → Result (ℕ × List ℕ) ImageFault
word_item len follow rest = field len word_in (λ w. nat_lt 0 follow || not (w == 0)) rest

abbrev pub words_fields : (len n : ℕ) → List ℕ → Result (List ℕ × List ℕ) ImageFault
words_fields len n rest = repeated (word_item len) n rest

abbrev pub ended : (len : ℕ) → {A : Type 0} → A → List ℕ → Result A ImageFault
ended len x [] = Ok x
ended len x (b ∷ bs) = Err (Trailing (len - length (b ∷ bs)))

-- the words of data, those of the frame area, the calls that may be active
unfoldable pub limits_in : (len : ℕ) → List ℕ → Result ((ℕ × (ℕ × ℕ)) × List ℕ) ImageFault
limits_in len rest = do
  area ← field len word_in (between 1 32768) rest
  frames ← field len word_in (between 0 area.0) area.1
  depth ← field len word_in (between 1 4096) frames.1
  Ok ((area.0, (frames.0, depth.0)), depth.1)

unfoldable pub names_in : (len : ℕ) → List ℕ → Result (List (List ℕ) × List ℕ) ImageFault
names_in len rest = do
  count ← field len byte_in (between 1 200) rest
  names_fields len count.0 count.1

unfoldable pub words_in : (len area : ℕ) → List ℕ → Result (List ℕ × List ℕ) ImageFault
words_in len area rest = do
  size ← field len word_in (between 0 area) rest
  words_fields len size.0 size.1

unfoldable pub code_in : (len : ℕ) → List ℕ → Result (List ℕ × List ℕ) ImageFault
code_in len rest = do
  long ← field len long_in (between 1 65536) rest
  field len (bytes_in long.0) (λ _. true) long.1

unfoldable pub fields_in : (len : ℕ) → List ℕ → Result Image ImageFault
fields_in len rest = do
  limits ← limits_in len rest
  names ← names_in len limits.1
  words ← words_in len limits.0.0 names.1
  code ← code_in len words.1
  ended len (record { area = limits.0.0; frames = limits.0.1.0; depth = limits.0.1.1; names = names.0; words = words.0; code = code.0 }) code.1

unfoldable pub image_in : List ℕ → Result Image ImageFault
image_in bytes =
    if not (bytes_eq (take 4 bytes) (take (length bytes) mark)) then Err NotImage
    else if nat_lt (length bytes) 6 then Err (Truncated (length bytes))
    else if not (little_number 2 (drop 4 bytes) == 1) then Err BadVersion
    else fields_in (length bytes) (drop 6 bytes)

-- ---- what the code reads

-- what a function of the code answers, seen by view, is what reading gives, unless memory is wanted
abbrev pub Fails : {B : Type 0} → ImageFault → Result B ImageFault → Type 0
Fails NoMemory read = Unit {0}
Fails f read = read ≡ Err f

abbrev pub Gives : {A B : Type 0} → (A → B) → Result A ImageFault → Result B ImageFault → Type 0
Gives view (Ok x) read = read ≡ Ok (view x)
Gives view (Err f) read = Fails f read

-- ---- one spelling

-- An image is read as it is spelled, and what is read from bytes is an image of that spelling.
pub record HasOneSpelling : Type 0 where
  pub again : (i : Image) → IsImage i → image_in (image_bytes i) ≡ Ok i
  pub takes : (bytes : List ℕ) (i : Image) → ((k : ℕ) → slice_index bytes k < 256) → image_in bytes ≡ Ok i → IsImage i × (bytes ≡ image_bytes i)
