-- The search for the first clash of each kind: what the tables tell, and what is found.
use Rattle.std.proofs.Common.{◌≡◌, ℕ, ◌+◌, ◌-◌, ◌<◌, ◌≤◌, List, [], length, replicate, Option, None, get_or, sym, ap, ◌∙◌, arith, inl, inr}
use Rattle.std.proofs.lemmas.Bool.{cases_lt}
use Rattle.std.proofs.lemmas.List.{drop_all, get_or-replicate, get_or_past, length-replicate}
use Rattle.std.proofs.lemmas.Option.{none-some}
use Rattle.cw_unit.specs.Allocation.{name_at}
use Rattle.cw_comm.specs.declared.face.Face.{Face}
use Rattle.cw_comm.specs.declared.tables.Numbering.{Numbering}
use Rattle.cw_comm.specs.declared.tables.Tables.{Tables}
use Rattle.cw_comm.specs.declared.checking.AtHand.{AtHand}
use Rattle.cw_comm.specs.declared.checking.Sought.{Sought}
use Rattle.cw_comm.specs.declared.checking.Sought.TheVariants.{Difference, SecondDefinition, Undefined}
use Rattle.cw_comm.specs.Agreement.{Name, definer_from}
use Rattle.cw_comm.specs.Clashes.{IsFirst, FailsToAgree, differs, defined_twice, undefined}
use Rattle.cw_comm.specs.Tables.{listed_in, first_listing, TellsListings, TellsDefiners, HaveNone, HaveEach, Enter, TellFrom, TellBefore, TellOwn}
use Rattle.cw_comm.specs.Searching.{kind_of, clash_of, SoFar, IsDescriptor}
use Rattle.cw_comm.proofs.Definers.{own_entries, next_past}
use Rattle.cw_comm.proofs.Entries.{Standing, standing, earlier_listing, earlier_definer}
use Rattle.cw_comm.proofs.Firsts.{TellsNames}

-- ---- the tables

pub first_listings : {n : Numbering} {t : Tables} → TellFrom n 0 t → TellsListings n.names.now n.segments.now t.listings.items
first_listings told = record { count = told.each.listings; at = told.listed }

pub first_definers : {n : Numbering} {t : Tables} → TellFrom n 0 t → TellsDefiners n.names.now n.segments.now t.definers.items
first_definers told = record { count = told.each.definers; at = told.defined }

entered_each : {n : Numbering} {g count : ℕ} {old new : Tables} → HaveEach count old → Enter n g old new → HaveEach count new
entered_each each step = record { listings = step.listings ∙ each.listings; definers = step.definers ∙ each.definers }

alike_at : {A : Type 0} (n k : ℕ) (x : A) → get_or (replicate n x) k x ≡ x
alike_at n k x = elim (cases_lt k n) [ inl lt ↦ get_or-replicate n k x x lt | inr le ↦ get_or_past (replicate n x) k x (omega (arith, le, length-replicate n x)) ]

module _ {count : ℕ} {t : Tables} (none : HaveNone count t) where
  none_each : HaveEach count t
  none_each = record { listings = ap length none.listings ∙ length-replicate count None; definers = ap length none.definers ∙ length-replicate count None }

  no_listing : (k : ℕ) → get_or t.listings.items k None ≡ None
  no_listing k = ap (λ (xs : List (Option (ℕ × ℕ))). get_or xs k None) none.listings ∙ alike_at count k None

  no_definer : (k : ℕ) → get_or t.definers.items k None ≡ None
  no_definer k = ap (λ (xs : List (Option ℕ)). get_or xs k None) none.definers ∙ alike_at count k None

-- the last segment first
pub none_from : (n : Numbering) (t : Tables) → HaveNone (length n.names.now) t → TellFrom n (length n.segments.now) t
none_from n t none =
    let faces = n.segments.now in
    record {
      each = none_each none;
      listed = λ k lk. no_listing none k ∙ sym (ap (first_listing (length faces) (name_at n.names.now k)) (drop_all (length faces) faces (omega arith)));
      defined = λ k lk. no_definer none k ∙ sym (ap (definer_from (length faces) (name_at n.names.now k)) (drop_all (length faces) faces (omega arith)));
    }

pub entered_first : (n : Numbering) (m : ℕ) (old new : Tables) → 0 < m → m ≤ length n.segments.now → TellFrom n m old → Enter n (m - 1) old new → TellFrom n (m - 1) new
entered_first n m old new some most told step = record {
  each = entered_each told.each step;
  listed = λ k lk. earlier_listing n.segments.now (name_at n.names.now k) m _ _ some most (λ f is. step.listed k f lk is) (told.listed k lk);
  defined = λ k lk. earlier_definer n.segments.now (name_at n.names.now k) m _ _ some most (λ f is. step.defined k f lk is) (told.defined k lk);
}

-- the first segment first
pub none_before : (n : Numbering) (t : Tables) → HaveNone (length n.names.now) t → TellBefore n 0 t
none_before n t none = record {
  each = none_each none;
  past = λ k g lk e. absurd (none-some g (sym (no_definer none k) ∙ e));
}

module _ (n : Numbering) (g : ℕ) (old new : Tables) (within : g < length n.segments.now) (before : TellBefore n g old) (step : Enter n g old new) where
  pub entered_own : TellOwn n g new
  entered_own = record {
    here = record {
      count = step.listings ∙ before.each.listings;
      at = λ k p f lk is e. step.listed k f lk is ∙ ap (λ o. listed_in g o (get_or old.listings.items k None)) e;
    };
    own = own_entries n.segments.now n.names.now g old.definers.items new.definers.items within step.defined before.past (step.definers ∙ before.each.definers);
  }

  pub entered_before : TellBefore n (g + 1) new
  entered_before = record {
    each = entered_each before.each step;
    past = next_past n.segments.now n.names.now g old.definers.items new.definers.items within step.defined before.past;
  }

-- ---- the descriptors of the segment at hand

pub stands_at : (a : AtHand) (d k : ℕ) → IsDescriptor a d → k ≡ get_or (get_or a.listed.now.numbers.now a.segment []) d 0 → Standing a.listed.now.segments.now a.listed.now.names.now a.segment d k
stands_at a d k is number = standing is.at.listed.numbered a.segment d k is.at.within is.inside number

-- ---- the kinds

pub kind_names : (faces : List Face) (s : Sought) → TellsNames faces (kind_of faces s)
kind_names faces Difference j d i n p = p.names
kind_names faces SecondDefinition j d i n p = p.names
kind_names faces Undefined j d i n p = p.names

pub kind_before : (faces : List Face) (s : Sought) (j d i : ℕ) (n : Name) → kind_of faces s j d i n → i ≤ j
kind_before faces Difference j d i n p = omega (arith, p.before)
kind_before faces SecondDefinition j d i n p = omega (arith, p.before)
kind_before faces Undefined j d i n p = omega (arith, p.alone)

pub first_clash : (faces : List Face) (s : Sought) → SoFar faces s → (name : Name) (i j d : ℕ) → IsFirst (kind_of faces s) j d i name → FailsToAgree faces (clash_of s name i j)
first_clash faces Difference so_far name i j d p = differs so_far p
first_clash faces SecondDefinition so_far name i j d p = defined_twice so_far.0 so_far.1 p
first_clash faces Undefined so_far name i j d p = undefined so_far.0 so_far.1 so_far.2 p
