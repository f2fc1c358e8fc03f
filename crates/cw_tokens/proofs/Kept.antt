-- What the rules of a grammar keep of the values that they stand for, where a plain sort needs nothing: its parts.
use Rattle.std.proofs.Common.{◌≡◌, Bool, true, false, ◌&&◌, Option, Some, None, refl}
use Rattle.cw_grammar.specs.Grammar.{Either, left, right}

abbrev pub OfOption : {A : Type 0} → (A → Type 0) → Option A → Type 0
OfOption P None = Unit {0}
OfOption P (Some x) = P x

abbrev pub OfEither : {A B : Type 0} → (A → Type 0) → (B → Type 0) → Either A B → Type 0
OfEither P Q (left x) = P x
OfEither P Q (right y) = Q y

-- what a rule must keep, but for a plain sort
abbrev pub Unless : Bool → Type 0 → Type 0
Unless true T = Unit {0}
Unless false T = T

-- ---- what is known of plain values

pub option_known : {A : Type 0} (P : A → Type 0) → ((x : A) → P x) → (o : Option A) → OfOption P o
option_known P h None = tt
option_known P h (Some x) = h x

pub either_known : {A B : Type 0} (P : A → Type 0) (Q : B → Type 0) → ((x : A) → P x) → ((y : B) → Q y) → (o : Either A B) → OfEither P Q o
either_known P Q h k (left x) = h x
either_known P Q h k (right y) = k y

-- ---- what a rule keeps

pub first_kept : (a b : Bool) (S T : Type 0) → Unless (a && b) (Unless a S × Unless b T) → Unless a S
first_kept true b S T h = tt
first_kept false b S T h = h.0

pub second_kept : (a b : Bool) (S T : Type 0) → Unless (a && b) (Unless a S × Unless b T) → Unless b T
second_kept true true S T h = tt
second_kept true false S T h = h.1
second_kept false b S T h = h.1

pub left_kept : (a : Bool) (S T : Type 0) → Unless a (Unless a S × Unless a T) → Unless a S
left_kept true S T h = tt
left_kept false S T h = h.0

pub right_kept : (a : Bool) (S T : Type 0) → Unless a (Unless a S × Unless a T) → Unless a T
right_kept true S T h = tt
right_kept false S T h = h.1

pub item_kept : (a : Bool) (S : Type 0) → Unless a (Unless a S) → Unless a S
item_kept true S h = tt
item_kept false S h = h

pub value_kept : (a : Bool) (S : Type 0) → (a ≡ true → S) → Unless a S → S
value_kept true S f h = f refl
value_kept false S f h = h

pub map_kept : (a b : Bool) (S T U : Type 0) → (b ≡ true → U) → (Unless a S → T) → Unless b (Unless a S × (T → U)) → U
map_kept a true S T U f g h = f refl
map_kept a false S T U f g h = h.1 (g h.0)

-- at one value
pub at_kept : {V : Type 0} (a : Bool) (S : Type 0) (T U : V → Type 0) (W : Type 0) (x : V) → (U x → W) → Unless a (S × ((y : V) → T y → U y)) → Unless a (S × (T x → W))
at_kept true S T U W x f h = tt
at_kept false S T U W x f h = (h.0, λ k. f (h.1 x k))
