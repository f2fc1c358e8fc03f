-- Parts that are judged one after another.
use Rattle.std.proofs.Common.{◌≡◌, ℕ, ◌+◌, ◌≤◌, ◌<◌, List, [], ◌∷◌, length, drop, get_or, sym, ap, ap₂, ◌∙◌, Option, None}
use Rattle.std.proofs.lemmas.List.{drop_all}
use Rattle.cw_tree.specs.declared.segment.RawComm.{RawComm}
use Rattle.cw_table.specs.declared.table.Row.{Row}
use Rattle.cw_scope.specs.declared.resolve.Named.{Named}
use Rattle.cw_scale.specs.declared.fault.Fault.{Fault}
use Rattle.cw_scale.specs.Faults.{Judgement, both}
use Rattle.cw_scale.proofs.Turns.{next_item}
use Rattle.cw_items.specs.declared.families.Site.{Site}
use Rattle.cw_items.specs.declared.thing.Thing.{Thing}
use Rattle.cw_items.specs.Families.{Known, things_judged, nothing_known, all_known}
use Rattle.cw_judge.specs.Judged.{sites_of, absolute_addresses, communicators_judged, block_judged, text_judged}

pub one_then_other : (a b : Judgement) (before between after : Option Fault) → between ≡ a before → after ≡ b between → after ≡ both a b before
one_then_other a b before between after e f = f ∙ ap b e

-- what is judged is what the whole is judged to be
pub as_judged : (whole part : Judgement) (before after : Option Fault) → whole ≡ part → after ≡ part before → after ≡ whole before
as_judged whole part before after is e = e ∙ ap (λ (j : Judgement). j before) (sym is)

-- a loop over parts: one more, and the end
module _ {A : Type 0} (all : List A → Judgement) (one : A → Judgement) where
  pub one_more : ((x : A) (xs : List A) (o : Option Fault) → all (x ∷ xs) o ≡ all xs (one x o)) → (xs : List A) (i : ℕ) (x : A) (before after end : Option Fault) → i < length xs
      → x ≡ get_or xs i x
      → after ≡ one x before → all (drop i xs) before ≡ end → all (drop (i + 1) xs) after ≡ end
  one_more turn xs i x before after end h g e k =
      ap (all (drop (i + 1) xs)) e ∙ sym (turn x (drop (i + 1) xs) before) ∙ ap (λ l. all l before) (sym (next_item xs i x h g)) ∙ k

  pub no_more : ((o : Option Fault) → all [] o ≡ o) → (xs : List A) (i : ℕ) (after end : Option Fault) → length xs ≤ i → all (drop i xs) after ≡ end → after ≡ end
  no_more stop xs i after end h k = sym (stop after) ∙ ap (λ l. all l after) (sym (drop_all i xs h)) ∙ k

-- by where the things of a text stand
abbrev placed : Named → List (Row Site) → Judgement
placed named sites =
    both (communicators_judged named sites (absolute_addresses named.raw.now.comms) named.raw.now.comms) (block_judged named sites named.raw.now.block)

pub placed_parts : (named : Named) (sites : List (Row Site)) (absolute : List (Row ℕ)) (listed again : List RawComm) (a b c : Option Fault)
    → absolute ≡ absolute_addresses listed → listed ≡ named.raw.now.comms → again ≡ named.raw.now.comms
    → b ≡ communicators_judged named sites absolute again a → c ≡ block_judged named sites named.raw.now.block b → c ≡ placed named sites a
placed_parts named sites absolute listed again a b c l s t e f =
    let by_addresses : b ≡ communicators_judged named sites (absolute_addresses named.raw.now.comms) named.raw.now.comms a =
    e ∙ ap₂ (λ (x : List (Row ℕ)) (cs : List RawComm). communicators_judged named sites x cs a) (l ∙ ap absolute_addresses s) t in
    f ∙ ap (block_judged named sites named.raw.now.block) by_addresses

pub all_parts : (named : Named) (things : List Thing) (known : Known) (sites : List (Row Site)) (a b : Option Fault)
    → known ≡ all_known nothing_known things → a ≡ things_judged nothing_known things None → sites ≡ known.sites → b ≡ placed named sites a → b ≡ text_judged named things None
all_parts named things known sites a b k j s e =
    let at : sites ≡ sites_of things = s ∙ ap (λ (x : Known). x.sites) k in
    e ∙ ap (λ (x : List (Row Site)). placed named x a) at ∙ ap (placed named (sites_of things)) j
