-- Watched names that mean words, one more.
use Rattle.std.proofs.Common.{◌≡◌, ℕ, zero, suc, ◌+◌, ◌<◌, List, [], ◌∷◌, ◌++◌, length, take, get_or, All, Bool, true, false, Option, Some, None, refl, sym, ap, subst, ◌∙◌, arith}
use Rattle.std.specs.Prelude.{IsSome, nat_lt, ◌&&◌, if◌then◌else◌}
use Rattle.std.proofs.lemmas.List.{take_more}
use Rattle.std.proofs.lemmas.Option.{slice_get_read}
use borrow.Author.Tests.{ltb-true}
use Rattle.cw_stop.specs.declared.stopping.Watched.{Watched}
use Rattle.cw_trace.specs.declared.watch.WatchedWord.{WatchedWord}
use Rattle.cw_watch.specs.declared.lines.ItemLine.{ItemLine}
use Rattle.cw_watch.specs.Watching.{watched_address, word_in_item, item_at, MeanWords, IsFirstNone}

picked : (b c : Bool) (n a : ℕ) → (if b && c then Some n else None) ≡ Some a → (c ≡ true) × (n ≡ a)
picked true true n a is = (refl, cc)
picked true false n a is = absurd (cc)
picked false c n a is = absurd (cc)

module _ (lines : List ItemLine) (area : ℕ) where
  one_more : (ws : List Watched) (fs : List WatchedWord) (w : Watched) (f : WatchedWord) → MeanWords lines area ws fs → f.text ≡ w.text → watched_address lines area w ≡ Some f.address
      → MeanWords lines area (ws ++ w ∷ []) (fs ++ f ∷ [])
  one_more [] [] w f means text address = (text, address, tt)
  one_more [] (x ∷ fs) w f means text address = absurd means
  one_more (v ∷ ws) [] w f means text address = absurd means
  one_more (v ∷ ws) (x ∷ fs) w f means text address = (means.0, means.1, one_more ws fs w f means.2 text address)

  pub means_more : (watched : List Watched) (k : ℕ) (w : Watched) (fs : List WatchedWord) (f : WatchedWord) → k < length watched → w ≡ get_or watched k w → MeanWords lines area (take k watched) fs
      → f.text ≡ w.text → watched_address lines area w ≡ Some f.address → MeanWords lines area (take (k + 1) watched) (fs ++ f ∷ [])
  means_more watched k w fs f within is means text address =
      let more : take (k + 1) watched ≡ take k watched ++ w ∷ [] = take_more watched k w within ∙ ap (λ x. take k watched ++ x ∷ []) (sym is) in
      subst (λ ws. MeanWords lines area ws (fs ++ f ∷ [])) (sym more) (one_more (take k watched) fs w f means text address)

  pub all_some : (ws : List Watched) (fs : List WatchedWord) → MeanWords lines area ws fs → All (λ w. IsSome (watched_address lines area w)) ws
  all_some [] fs means k d less = absurd (omega (arith, less))
  all_some (w ∷ ws) [] means k d less = absurd means
  all_some (w ∷ ws) (f ∷ fs) means zero d less = subst IsSome (sym means.1) refl
  all_some (w ∷ ws) (f ∷ fs) means (suc k) d less = all_some ws fs means.2 k d (omega (arith, less))

  -- the address of a word in the area is within it
  in_area : (k : ℕ) (item : Option (ℕ × ℕ)) (address : ℕ) → word_in_item area k item ≡ Some address → address < area
  in_area k None address is = absurd (cc)
  in_area k (Some (at, words)) address is =
      let (there, same) = picked (nat_lt k words) (nat_lt (at + k) area) (at + k) address is in
      let less : at + k < area = ltb-true (at + k) area there in
      subst (λ n. n < area) same less

  pub all_within : (ws : List Watched) (fs : List WatchedWord) → MeanWords lines area ws fs → All (λ f. f.address < area) fs
  all_within ws [] means k d less = absurd (omega (arith, less))
  all_within [] (f ∷ fs) means k d less = absurd means
  all_within (w ∷ ws) (f ∷ fs) means zero d less = in_area w.word (item_at w.text lines) f.address means.1
  all_within (w ∷ ws) (f ∷ fs) means (suc k) d less = all_within ws fs means.2 k d (omega (arith, less))

  pub is_first_none : (watched : List Watched) (k : ℕ) (w : Watched) (fs : List WatchedWord) → k < length watched → w ≡ get_or watched k w → MeanWords lines area (take k watched) fs
      → watched_address lines area w ≡ None → IsFirstNone lines area watched k
  is_first_none watched k w fs within is means none = record {
    name = w;
    stands = slice_get_read watched (length watched) k w refl within is;
    none = none;
    before = all_some (take k watched) fs means;
  }
