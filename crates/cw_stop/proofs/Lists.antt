-- Watched names one after another.
use Rattle.std.proofs.Common.{◌≡◌, ℕ, suc, ◌+◌, ◌<◌, ◌≤◌, Bool, true, false, List, [], ◌∷◌, ◌++◌, length, Option, None, Some, refl, sym, ap, ap₂, ◌∙◌, arith, append_assoc}
use Rattle.std.specs.Prelude.{nat_le, if◌then◌else◌}
use Rattle.cw_stop.specs.declared.stopping.Watched.{Watched}
use Rattle.cw_stop.specs.declared.stopping.StopFault.{StopFault}
use Rattle.cw_stop.specs.declared.stopping.StopFault.TheVariants.{NotAStop, NoMemory}
use Rattle.cw_stop.specs.Stopping.{cut, between, join, all_watched, watched_in, watched_list, IsRefused}
use Rattle.cw_stop.proofs.Cuts.{more_between, between_is}

-- those of the rest, behind those that were read
abbrev pub after : List Watched → Option (List Watched) → Option (List Watched)
after done None = None
after done (Some more) = Some (done ++ more)

pub after_none : (more : Option (List Watched)) → more ≡ after [] more
after_none None = refl
after_none (Some more) = refl

after_join : (done : List Watched) (w : Watched) (more : Option (List Watched)) → after done (join (Some w) more) ≡ after (done ++ w ∷ []) more
after_join done w None = refl
after_join done w (Some more) = ap (λ xs. Some xs) (sym (append_assoc done (w ∷ []) more))

-- the first of the rest is read, and others follow
pub one_more : (text name : List ℕ) (behind : List ℕ) (w : Watched) (done : List Watched) → name ≡ (cut 44 text).0 → Some behind ≡ (cut 44 text).1 → watched_in name ≡ Some w
    → after done (all_watched (between 44 text)) ≡ after (done ++ w ∷ []) (all_watched (between 44 behind))
one_more text name behind w done front rest is =
    ap (λ texts. after done (all_watched texts)) (between_is 44 text)
    ∙ ap₂ (λ a b. after done (all_watched (a ∷ more_between 44 b))) (sym front) (sym rest)
    ∙ ap (λ v. after done (join v (all_watched (between 44 behind)))) is
    ∙ after_join done w (all_watched (between 44 behind))

pub count_more : (text behind : List ℕ) → Some behind ≡ (cut 44 text).1 → length (between 44 text) ≡ suc (length (between 44 behind))
count_more text behind rest =
    ap length (between_is 44 text) ∙ ap (λ b. suc (length (more_between 44 b))) (sym rest)

-- it is the last
pub the_last : (text name : List ℕ) (w : Watched) (done : List Watched) → name ≡ (cut 44 text).0 → None ≡ (cut 44 text).1 → watched_in name ≡ Some w
    → after done (all_watched (between 44 text)) ≡ Some (done ++ w ∷ [])
the_last text name w done front rest is =
    ap (λ texts. after done (all_watched texts)) (between_is 44 text)
    ∙ ap₂ (λ a b. after done (all_watched (a ∷ more_between 44 b))) (sym front) (sym rest)
    ∙ ap (λ v. after done (join v (Some []))) is

pub count_last : (text : List ℕ) → None ≡ (cut 44 text).1 → length (between 44 text) ≡ 1
count_last text rest = ap length (between_is 44 text) ∙ ap (λ b. suc (length (more_between 44 b))) (sym rest)

pub count_some : (text : List ℕ) → 1 ≤ length (between 44 text)
count_some text = omega (arith, ap length (between_is 44 text))

-- it is no watched name
pub refused : (text name : List ℕ) (done : List Watched) → name ≡ (cut 44 text).0 → watched_in name ≡ None → after done (all_watched (between 44 text)) ≡ None
refused text name done front is =
    ap (λ texts. after done (all_watched texts)) (between_is 44 text)
    ∙ ap (λ a. after done (all_watched (a ∷ more_between 44 (cut 44 text).1))) (sym front)
    ∙ ap (λ v. after done (join v (all_watched (more_between 44 (cut 44 text).1)))) is

none_if : (b : Bool) (x : Option (List Watched)) → x ≡ None → (if b then x else None) ≡ None
none_if true x is = is
none_if false x is = refl

some_if : (n : ℕ) (x : Option (List Watched)) (v : List Watched) → n ≤ 16 → x ≡ Some v → (if nat_le n 16 then x else None) ≡ Some v
some_if n x v few is = grind arith

none_many : (n : ℕ) (x : Option (List Watched)) → 16 < n → (if nat_le n 16 then x else None) ≡ None
none_many n x many = grind arith

-- all names of a text, from those that were read and the rest
pub record ReadSoFar (text rest : List ℕ) (count : ℕ) (done : List Watched) : Type 0 where
  pub count_is : length (between 44 text) ≡ count + length (between 44 rest)
  pub all_is : all_watched (between 44 text) ≡ after done (all_watched (between 44 rest))

pub starts : (text : List ℕ) (done : List Watched) → done ≡ [] → ReadSoFar text text 0 done
starts text done none = record {
  count_is = omega arith;
  all_is = after_none (all_watched (between 44 text)) ∙ ap (λ ws. after ws (all_watched (between 44 text))) (sym none);
}

pub goes_on : (text rest name behind : List ℕ) (count : ℕ) (w : Watched) (done : List Watched) → ReadSoFar text rest count done
    → name ≡ (cut 44 rest).0 → Some behind ≡ (cut 44 rest).1 → watched_in name ≡ Some w → ReadSoFar text behind (count + 1) (done ++ w ∷ [])
goes_on text rest name behind count w done so front more is = record {
  count_is = omega (arith, so.count_is, count_more rest behind more);
  all_is = so.all_is ∙ one_more rest name behind w done front more is;
}

pub list_refused : (fault : StopFault) (text rest name : List ℕ) (count : ℕ) (done : List Watched) → ReadSoFar text rest count done
    → name ≡ (cut 44 rest).0 → IsRefused fault (watched_in name) → IsRefused fault (watched_list text)
unfolding watched_list
list_refused NotAStop text rest name count done so front is = none_if _ _ (so.all_is ∙ refused rest name done front is)
list_refused NoMemory text rest name count done so front is = tt

pub list_ends : (text rest name : List ℕ) (count : ℕ) (w : Watched) (done : List Watched) → ReadSoFar text rest count done → count < 16
    → name ≡ (cut 44 rest).0 → None ≡ (cut 44 rest).1 → watched_in name ≡ Some w → watched_list text ≡ Some (done ++ w ∷ [])
unfolding watched_list
list_ends text rest name count w done so few front last is =
    some_if _ _ _ (omega (arith, so.count_is, count_last rest last, few)) (so.all_is ∙ the_last rest name w done front last is)

pub list_many : (text rest : List ℕ) (count : ℕ) (done : List Watched) → ReadSoFar text rest count done → 16 ≤ count → watched_list text ≡ None
unfolding watched_list
list_many text rest count done so many = none_many (length (between 44 text)) _ (omega (arith, so.count_is, count_some rest, many))
