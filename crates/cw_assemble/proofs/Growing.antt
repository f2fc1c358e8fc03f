-- Code that grows piece by piece, unless it has failed.
use Rattle.std.proofs.Common.{◌≡◌, ℕ, ◌+◌, ◌<◌, ◌≤◌, Bool, true, false, List, [], ◌∷◌, ◌++◌, length, drop, get_or, sym, ap, ◌∙◌, subst, length-append}
use Rattle.std.proofs.lemmas.Bool.{false≢true}
use Rattle.std.proofs.lemmas.List.{append-nil, drop_all, drop_more}
use Rattle.cw_tmpl.specs.declared.pieces.Coded.{Coded}
use Rattle.cw_tmpl.specs.Assembling as assembling
use Rattle.cw_tmpl.specs.Pieces.{blanks}
use Rattle.cw_tmpl.proofs.Growing as growing
use Rattle.cw_assemble.specs.declared.draft.Draft.{Draft}
use Rattle.cw_assemble.specs.Growing.{Adds}

-- whatever is said of one that has failed
pub lost : {old new : Draft} {ps : List Coded} → new.failed ≡ true → Adds old ps new
lost e = record { held = λ h. absurd (false≢true (sym h ∙ e)); is = λ h. absurd (false≢true (sym h ∙ e)) }

pub nothing : {x : Draft} → Adds x [] x
nothing {x = x} = record { held = λ h. h; is = λ h. record { bytes = sym (append-nil x.assembly.bytes); relocs = sym (append-nil x.assembly.relocs) } }

-- pieces, and pieces behind them
pub adds_then : (a b c : Draft) (ps qs : List Coded) → Adds a ps b → Adds b qs c → Adds a (ps ++ qs) c
adds_then a b c ps qs f s =
    record { held = λ h. f.held (s.held h); is = λ h. growing.adds_then a.assembly b.assembly c.assembly ps qs (f.is (s.held h)) (s.is h) }

-- what depends on the place behind other pieces
pub placed : {old one new : Draft} {ps : List Coded} (f : ℕ → List Coded) → Adds old ps one → Adds one (f (length one.assembly.bytes)) new → Adds one (f (length old.assembly.bytes + length (blanks ps))) new
placed {old = old} {one = one} {new = new} {ps = ps} f a b = record {
  held = b.held;
  is = λ h.
      let long : length one.assembly.bytes ≡ length old.assembly.bytes + length (blanks ps) = ap length (a.is (b.held h)).bytes ∙ length-append old.assembly.bytes (blanks ps) in
      subst (λ n. assembling.Adds one.assembly (f n) new.assembly) long (b.is h);
}

-- ---- the items of a list

-- with what is left of them, the code of now becomes what the first one becomes by all
pub record Coming (first : Draft) (all : List Coded) (now : Draft) (left : List Coded) : Type 0 where
  pub come : (z : Draft) → Adds now left z → Adds first all z

pub all_comes : (first : Draft) (all : List Coded) → Coming first all first all
all_comes first all = record { come = λ z rest. rest }

pub coming_more : (first : Draft) (all : List Coded) (old new : Draft) (ps rest : List Coded) → Adds old ps new → Coming first all old (ps ++ rest) → Coming first all new rest
coming_more first all old new ps rest added coming = record { come = λ z behind. coming.come z (adds_then old new z ps rest added behind) }

module _ {A : Type 0} (pieces : List A → List Coded) (xs : List A) {first now : Draft} {all : List Coded} where
  pub last_came : (k : ℕ) → length xs ≤ k → pieces [] ≡ [] → Coming first all now (pieces (drop k xs)) → Adds first all now
  last_came k le none coming = coming.come now (subst (λ ps. Adds now ps now) (sym (ap pieces (drop_all k xs le) ∙ none)) nothing)

  pub next_word : {new : Draft} (word : A → Coded) (k : ℕ) (d : A) (p : Coded) → ((x : A) (rest : List A) → pieces (x ∷ rest) ≡ word x ∷ pieces rest) → k < length xs → p ≡ word (get_or xs k d)
      → Coming first all now (pieces (drop k xs)) → Adds now (p ∷ []) new → Coming first all new (pieces (drop (k + 1) xs))
  next_word {new = new} word k d p law lt is coming added =
      let here : pieces (drop k xs) ≡ p ∷ pieces (drop (k + 1) xs) = ap pieces (drop_more xs k d lt) ∙ law (get_or xs k d) (drop (k + 1) xs) ∙ ap (λ w. w ∷ pieces (drop (k + 1) xs)) (sym is) in
      coming_more first all now new (p ∷ []) (pieces (drop (k + 1) xs)) added (subst (λ ps. Coming first all now ps) here coming)
