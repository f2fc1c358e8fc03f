-- Canonical tokens whose names, strings and literals can be written: by the parts of a list.
use Rattle.std.proofs.Common.{List, [], ◌∷◌, ◌++◌, map}
use Rattle.std.proofs.lemmas.List.Elements.{All-cons, All-nil}
use Rattle.cw_lex.specs.declared.token.Symbol.{Symbol}
use Rattle.cw_lex.specs.declared.token.Symbol.TheVariants as symbols
use Rattle.cw_lex.specs.declared.token.Word.{Word}
use Rattle.cw_word.specs.Number.{Number}
use Rattle.cw_show.specs.Spelling.{Spelling, word, symbol}
use Rattle.cw_show.specs.Canonical.{Tokens, number, behind_each, between, behind_operators, operation, joined, bracketed, indexed, listed, ended}
use Rattle.cw_read_back.specs.Expressions.Leaves.{IsLeaf, HasSpelledLeaves}
use Rattle.cw_read_back.proofs.Expressions.Reading.{Each}

-- The token can be written, if it is a name, a string or a literal.
abbrev pub IsRight : Spelling → Type 0
IsRight t = IsLeaf t.kind t.text

pub record Spelled (ts : Tokens) : Type 0 where
  pub each : Each IsRight ts

pub nothing : Spelled []
nothing = record { each = tt }

pub alone : (t : Spelling) → IsRight t → Spelled (t ∷ [])
alone t h = record { each = (h, tt) }

pub the_word : (w : Word) → Spelled (word w ∷ [])
the_word w = record { each = (tt, tt) }

pub the_symbol : (s : Symbol) → Spelled (symbol s ∷ [])
the_symbol s = record { each = (tt, tt) }

pub the_number : (n : Number) → Spelled (number n ∷ [])
the_number n = record { each = (tt, tt) }

pub each_append : {A : Type 0} (P : A → Type 0) (xs ys : List A) → Each P xs → Each P ys → Each P (xs ++ ys)
each_append P [] ys h k = k
each_append P (x ∷ xs) ys h k = (h.0, each_append P xs ys h.1 k)

infixr 30 ◌&◌
pub ◌&◌ : {a b : Tokens} → Spelled a → Spelled b → Spelled (a ++ b)
◌&◌ {a = a} {b = b} h k = record { each = each_append IsRight a b h.each k.each }

each_front : (a b : Tokens) → Each IsRight (a ++ b) → Each IsRight a
each_front [] b h = tt
each_front (t ∷ a) b h = (h.0, each_front a b h.1)

each_rest : (a b : Tokens) → Each IsRight (a ++ b) → Each IsRight b
each_rest [] b h = h
each_rest (t ∷ a) b h = each_rest a b h.1

pub front_of : (a b : Tokens) → Spelled (a ++ b) → Spelled a
front_of a b h = record { each = each_front a b h.each }

pub rest_of : (a b : Tokens) → Spelled (a ++ b) → Spelled b
rest_of a b h = record { each = each_rest a b h.each }

pub all_of : (ts : Tokens) → Spelled ts → HasSpelledLeaves ts
all_of ts h = all_each ts h.each
  where
    all_each : (us : Tokens) → Each IsRight us → HasSpelledLeaves us
    all_each [] k = All-nil IsRight
    all_each (t ∷ us) k = All-cons IsRight t us k.0 (all_each us k.1)

pub in_brackets : {a : Tokens} → Spelled a → Spelled (bracketed a)
in_brackets h = the_symbol symbols.Open & h & the_symbol symbols.Close

pub in_squares : {a : Tokens} → Spelled a → Spelled (indexed a)
in_squares h = the_symbol symbols.OpenSquare & h & the_symbol symbols.CloseSquare

pub out_of_brackets : (a : Tokens) → Spelled (bracketed a) → Spelled a
out_of_brackets a h = front_of a (symbol symbols.Close ∷ []) (rest_of (symbol symbols.Open ∷ []) (a ++ symbol symbols.Close ∷ []) h)

-- ---- lists

module _ {X : Type 0} (f : X → Tokens) where
  -- each behind a token
  each_behind : (t : Spelling) → IsRight t → (xs : List X) → Each (λ x. Spelled (f x)) xs → Spelled (behind_each t (map f xs))
  each_behind t k [] h = nothing
  each_behind t k (x ∷ xs) h = alone t k & h.0 & each_behind t k xs h.1

  pub list_between : (t : Spelling) → IsRight t → (xs : List X) → Each (λ x. Spelled (f x)) xs → Spelled (between t (map f xs))
  list_between t k [] h = nothing
  list_between t k (x ∷ xs) h = h.0 & each_behind t k xs h.1

  pub list_in_brackets : (t : Spelling) → IsRight t → (xs : List X) → Each (λ x. Spelled (f x)) xs → Spelled (listed t (map f xs))
  list_in_brackets t k [] h = nothing
  list_in_brackets t k (x ∷ xs) h = in_brackets (list_between t k (x ∷ xs) h)

  pub list_joined : (xs : List X) → Each (λ x. Spelled (f x)) xs → Spelled (joined (map f xs))
  list_joined [] h = nothing
  list_joined (x ∷ xs) h = h.0 & list_joined xs h.1

  pub list_ended : (xs : List X) → Each (λ x. Spelled (f x)) xs → Spelled (ended (map f xs))
  list_ended [] h = nothing
  list_ended (x ∷ xs) h = h.0 & the_symbol symbols.Semicolon & list_ended xs h.1

  behind_parts : (t : Spelling) (xs : List X) → Spelled (behind_each t (map f xs)) → Each (λ x. Spelled (f x)) xs
  behind_parts t [] h = tt
  behind_parts t (x ∷ xs) h =
      let k = rest_of (t ∷ []) (f x ++ behind_each t (map f xs)) h in
      (front_of (f x) (behind_each t (map f xs)) k, behind_parts t xs (rest_of (f x) (behind_each t (map f xs)) k))

  pub between_parts : (t : Spelling) (xs : List X) → Spelled (between t (map f xs)) → Each (λ x. Spelled (f x)) xs
  between_parts t [] h = tt
  between_parts t (x ∷ xs) h = (front_of (f x) (behind_each t (map f xs)) h, behind_parts t xs (rest_of (f x) (behind_each t (map f xs)) h))

  module _ {O : Type 0} (g : O → Spelling) where
    behind_operation : ((o : O) → IsRight (g o)) → (os : List O) (xs : List X) → Each (λ x. Spelled (f x)) xs → Spelled (behind_operators (map g os) (map f xs))
    behind_operation k os [] h = nothing
    behind_operation k [] (x ∷ xs) h = h.0 & behind_operation k [] xs h.1
    behind_operation k (o ∷ os) (x ∷ xs) h = alone (g o) (k o) & h.0 & behind_operation k os xs h.1

    pub list_operation : ((o : O) → IsRight (g o)) → (os : List O) (xs : List X) → Each (λ x. Spelled (f x)) xs → Spelled (operation (map g os) (map f xs))
    list_operation k os [] h = nothing
    list_operation k os (x ∷ xs) h = h.0 & behind_operation k os xs h.1

    behind_operation_parts : (os : List O) (xs : List X) → Spelled (behind_operators (map g os) (map f xs)) → Each (λ x. Spelled (f x)) xs
    behind_operation_parts os [] h = tt
    behind_operation_parts [] (x ∷ xs) h =
        let rest = behind_operators [] (map f xs) in
        (front_of (f x) rest h, behind_operation_parts [] xs (rest_of (f x) rest h))
    behind_operation_parts (o ∷ os) (x ∷ xs) h =
        let rest = behind_operators (map g os) (map f xs) in
        let k = rest_of (g o ∷ []) (f x ++ rest) h in
        (front_of (f x) rest k, behind_operation_parts os xs (rest_of (f x) rest k))

    pub operation_parts : (os : List O) (xs : List X) → Spelled (operation (map g os) (map f xs)) → Each (λ x. Spelled (f x)) xs
    operation_parts os [] h = tt
    operation_parts os (x ∷ xs) h =
        let rest = behind_operators (map g os) (map f xs) in
        (front_of (f x) rest h, behind_operation_parts os xs (rest_of (f x) rest h))
