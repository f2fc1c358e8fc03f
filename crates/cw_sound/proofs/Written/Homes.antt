-- Where the items of a text's unit stand.
use Rattle.std.proofs.Common.{◌≡◌, ℕ, ◌<◌, ◌≤◌, min, List, [], ◌∷◌, ◌++◌, length, Bool, true, false, cond, nat_eq, nat_le, Option, Some, None, is_some, slice_get, refl, sym, ap, subst, ◌∙◌, arith}
use Rattle.std.specs.Prelude.{option_map, find}
use Rattle.std.proofs.lemmas.Bool.Decides.{nat_tests}
use Rattle.std.proofs.lemmas.Option.{same_Some, slice_get_within}
use Rattle.cw_table.specs.declared.table.Row.{Row}
use Rattle.cw_table.specs.Rows.{stands_at, item_at, place_at}
use Rattle.cw_tree.specs.declared.segment.RawComm.{RawComm}
use Rattle.cw_tree.specs.declared.segment.RawComm.TheVariants as comm
use Rattle.cw_tree.specs.declared.segment.RawAitem.{RawAitem}
use Rattle.cw_tree.specs.declared.segment.RawAitem.TheVariants as aitem
use Rattle.cw_amount.specs.Amounts.{place_amount}
use Rattle.cw_items.specs.declared.thing.Base.{Base}
use Rattle.cw_items.specs.declared.thing.Thing.{Thing}
use Rattle.cw_items.specs.Families.{frame_of}
use Rattle.cw_items.specs.Things.{text_things}
use Rattle.cw_scope.specs.declared.resolve.Named.{Named}
use Rattle.cw_number.specs.Listed.{listed_of}
use Rattle.cw_number.specs.Numbers.{numbers_of}
use Rattle.cw_make_items.specs.Lookup.{Numbers}
use Rattle.cw_make_items.specs.Types.{within}
use Rattle.cw_make_items.specs.Items.{aitem_address, aitems_addresses, communicator_addresses, addresses_of, home_on, home_listed}
use Rattle.cw_preset.specs.Held.{held_of}
use Rattle.cw_make.specs.Made.{unit_of}
use Rattle.cw_unit.specs.declared.unit.Item.{Item}
use Rattle.cw_unit.specs.declared.unit.Home.TheVariants as home
use Rattle.cw_sound.specs.Items.Derived.{HasRisingTokens}
use Rattle.cw_sound.proofs.Items.Naming.{few-descriptors}
use Rattle.cw_sound.proofs.Items.Numbering.{made-of, row-at}
use Rattle.cw_sound.proofs.Items.Overlaying.{as-many}
use Rattle.cw_sound.specs.Storage.Frames.{FramesOwned, FramesFit}
use Rattle.cw_writable.specs.Front.Front.{HomesFit}

-- ---- addresses are words

pub within_limit : (limit : ℕ) (o : Option ℕ) → within limit o ≤ limit
within_limit limit None = omega arith
within_limit limit (Some n) = of_test (nat_le n limit) refl
  where
    of_test : (b : Bool) → nat_le n limit ≡ b → cond b n 0 ≤ limit
    of_test true e = grind (arith, nat_tests, e)
    of_test false e = omega arith

abbrev Words : List (Row ℕ) → Type 0
Words [] = Unit {0}
Words (r ∷ rs) = (r.item ≤ 65535) × Words rs

words_both : (xs ys : List (Row ℕ)) → Words xs → Words ys → Words (xs ++ ys)
words_both [] ys h k = k
words_both (x ∷ xs) ys h k = (h.0, words_both xs ys h.1 k)

address_word : (i : RawAitem) → (aitem_address i).item ≤ 65535
address_word (aitem.Single t n a) = within_limit 65535 (place_amount a)
address_word (aitem.Array t n b a) = within_limit 65535 (place_amount a)
address_word (aitem.Table t a) = within_limit 65535 (place_amount a)

aitems_words : (is : List RawAitem) → Words (aitems_addresses is)
aitems_words [] = tt
aitems_words (i ∷ is) = (address_word i, aitems_words is)

communicator_words : (c : RawComm) → Words (communicator_addresses c)
communicator_words (comm.Common at is) = tt
communicator_words (comm.Library at ss) = tt
communicator_words (comm.Absolute at is) = aitems_words is

addresses_words : (cs : List RawComm) → Words (addresses_of cs)
addresses_words [] = tt
addresses_words (c ∷ cs) = words_both (communicator_addresses c) (addresses_of cs) (communicator_words c) (addresses_words cs)

word_at : (rs : List (Row ℕ)) (token a : ℕ) → Words rs → item_at rs token ≡ Some a → a ≤ 65535
word_at [] token a h e = absurd (cc)
word_at (r ∷ rs) token a h e = of_test (nat_eq token r.token) refl (λ f. word_at rs token a h.1 f)
  where
    of_test : (b : Bool) → nat_eq token r.token ≡ b → (item_at rs token ≡ Some a → a ≤ 65535) → a ≤ 65535
    of_test true q later =
        let is : Some r.item ≡ Some a = sym (ap (λ b. option_map (λ (x : Row ℕ). x.item) (cond b (Some r) (find (stands_at token) rs))) q) ∙ e in
        subst (λ (n : ℕ). n ≤ 65535) (same_Some r.item a is) h.0
    of_test false q later = later (sym (ap (λ b. option_map (λ (x : Row ℕ). x.item) (cond b (Some r) (find (stands_at token) rs))) q) ∙ e)

-- ---- homes

module _ (numbers : Numbers) (t : Thing) where
  on_absolute : (b : Option Base) (f : Bool) (a : ℕ) → home_on numbers b f ≡ home.Absolute a → ⊥
  on_absolute None true a e = cc
  on_absolute None false a e = cc
  on_absolute (Some b) f a e = cc

  absolute_at : (d o : Option ℕ) (a : ℕ) → home_listed numbers d o t ≡ home.Absolute a → o ≡ Some a
  absolute_at (Some d) o a e = absurd (cc)
  absolute_at None None a e = absurd (on_absolute t.base (is_some (frame_of t.sort t.owner)) a e)
  absolute_at None (Some b) a e = cc

  on_common : (b : Option Base) (f : Bool) (d : ℕ) → home_on numbers b f ≡ home.Common d → ⊥
  on_common None true d e = cc
  on_common None false d e = cc
  on_common (Some b) f d e = cc

  common_at : (p o : Option ℕ) (d : ℕ) → home_listed numbers p o t ≡ home.Common d → (k : ℕ) × (p ≡ Some k) × (min k 65535 ≡ d)
  common_at (Some k) o d e = (k, refl, cc)
  common_at None None d e = absurd (on_common t.base (is_some (frame_of t.sort t.owner)) d e)
  common_at None (Some a) d e = absurd (cc)

module _ (named : Named) (rising : HasRisingTokens named.raw.now) where
  abbrev thing_made : (i : ℕ) (x : Item) → Type 0
  thing_made i x = (t : Thing) × (x.home ≡ home_listed (numbers_of named) (place_at (listed_of named.raw.now) t.at.token) (item_at (addresses_of named.raw.now.comms) t.at.token) t)

  thing_of : (i : ℕ) (x : Item) → slice_get (unit_of named).items i ≡ Some x → thing_made i x
  thing_of i x e =
      let m = made-of named.declarations (numbers_of named) (listed_of named.raw.now) (addresses_of named.raw.now.comms) (held_of named.raw.now) (text_things named named.raw.now) i x e in
      (m.0, sym (ap (λ (y : Item). y.home) m.2))

  many : length (unit_of named).descs ≡ length (listed_of named.raw.now)
  many = as-many (numbers_of named) (listed_of named.raw.now) (text_things named named.raw.now) named.raw.now.comms

  few : length (unit_of named).descs ≤ 65535
  few = few-descriptors named.raw.now (numbers_of named) (listed_of named.raw.now) (text_things named named.raw.now) rising

  listed_below : (token k d : ℕ) → place_at (listed_of named.raw.now) token ≡ Some k → min k 65535 ≡ d → d < length (unit_of named).descs
  listed_below token k d e f =
      let r = row-at (listed_of named.raw.now) token k e in
      let below : k < length (listed_of named.raw.now) = slice_get_within (listed_of named.raw.now) k r.0 r.1 in
      let same = many in
      omega (arith, below, same, f)

  pub homes_fit : FramesOwned (unit_of named) → FramesFit (unit_of named) → HomesFit (unit_of named)
  homes_fit owned fit = record {
    common = λ i x d e k.
        let t = thing_of i x e in
        let c = common_at (numbers_of named) t.0 (place_at (listed_of named.raw.now) t.0.at.token) (item_at (addresses_of named.raw.now.comms) t.0.at.token) d (sym t.1 ∙ k) in
        listed_below t.0.at.token c.0 d c.1 c.2;
    descriptors = (let a = few in omega (arith, a));
    absolute = λ i x a e k.
        let t = thing_of i x e in
        let word = word_at (addresses_of named.raw.now.comms) t.0.at.token a (addresses_words named.raw.now.comms)
        (absolute_at (numbers_of named) t.0 (place_at (listed_of named.raw.now) t.0.at.token) (item_at (addresses_of named.raw.now.comms) t.0.at.token) a (sym t.1 ∙ k)) in
        omega (arith, word);
    frames = λ i x q e k w. fit q (owned i x q e k w);
  }
