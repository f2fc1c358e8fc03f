-- Facts that declare nothing.
use Rattle.std.proofs.Common.{◌≡◌, ◌⊎◌, inl, inr, ℕ, List, [], ◌∷◌, ◌++◌, IsTrue, Option, Some, None, refl, sym, ap, ap₂, subst, ◌∙◌}
use Rattle.cw_tree.specs.declared.leaf.Position.{Position}
use Rattle.cw_facts.specs.declared.fact.Fact.{Fact}
use Rattle.cw_facts.specs.declared.fact.Fact.TheVariants as fact
use Rattle.cw_facts.specs.declared.fact.Use.{Use}
use Rattle.cw_scope.specs.Resolved.{text_signatures}
use Rattle.cw_make_items.specs.Lookup.{Numbers}
use Rattle.cw_sound.specs.Uses.Mentions.{In, Mention, Here, here, uses, stores, fact_mentions, facts_mentions}
use Rattle.cw_sound.proofs.Names.Parts.{Plain, is_plain}
use Rattle.cw_sound.proofs.Names.Lists.{in_either}
use Rattle.cw_sound.proofs.Names.Rows.{mentions_append}
use Rattle.cw_sound.proofs.Names.MentionsOf.{of_use, of_loop, of_text, signatures_use, signatures_loop, signatures_text, signatures_append}

module _ (numbers : Numbers) where
  pub plain_nothing : Plain numbers []
  plain_nothing = record { mentions = λ q m i. absurd i; signatures = refl }

  abbrev Both : Option ℕ → Here → Type 0
  Both q m = (m.who ≡ q) × IsTrue (is_plain m.mention)

  by_side : (xs ys : List Here) (q : Option ℕ) (m : Here) → ((n : Here) → In n xs → Both q n) → ((n : Here) → In n ys → Both q n) → In m xs ⊎ In m ys → Both q m
  by_side xs ys q m h k (inl i) = h m i
  by_side xs ys q m h k (inr i) = k m i

  pub plain_both : (xs ys : List Fact) → Plain numbers xs → Plain numbers ys → Plain numbers (xs ++ ys)
  plain_both xs ys h k =
      record {
        mentions = λ q m i. by_side (facts_mentions numbers xs q) (facts_mentions numbers ys q) q m (h.mentions q) (k.mentions q)
            (in_either m (facts_mentions numbers xs q) (facts_mentions numbers ys q) (subst (In m) (mentions_append numbers xs ys q) i));
        signatures = signatures_append xs ys ∙ ap₂ (λ a b. a ++ b) h.signatures k.signatures;
      }

  first : (x : Mention) (ms : List Here) (q : Option ℕ) (m : Here) → IsTrue (is_plain x) → ((n : Here) → In n ms → Both q n) → In m (here q x ∷ ms) → Both q m
  first x ms q m p h (inl e) = subst (Both q) e (refl, p)
  first x ms q m p h (inr i) = h m i

  pub plain_use : (x : Use) (fs : List Fact) → Plain numbers fs → Plain numbers (fact.Uses x ∷ fs)
  plain_use x fs h =
      record {
        mentions = λ q m i. first (uses x) (facts_mentions numbers fs q) q m refl (h.mentions q) (subst (In m) (ap (λ ms. ms ++ facts_mentions numbers fs q) (of_use numbers x q)) i);
        signatures = ap (λ rs. rs ++ text_signatures fs) (signatures_use x) ∙ h.signatures;
      }

  pub plain_loop : (at : Position) (fs : List Fact) → Plain numbers fs → Plain numbers (fact.Loop at ∷ fs)
  plain_loop at fs h =
      record {
        mentions = λ q m i. first (stores at.token 4) (facts_mentions numbers fs q) q m refl (h.mentions q) (subst (In m) (ap (λ ms. ms ++ facts_mentions numbers fs q) (of_loop numbers at q)) i);
        signatures = ap (λ rs. rs ++ text_signatures fs) (signatures_loop at) ∙ h.signatures;
      }

  pub plain_text : (at : Position) (n : ℕ) (fs : List Fact) → Plain numbers fs → Plain numbers (fact.Text at n ∷ fs)
  plain_text at n fs h =
      record {
        mentions = λ q m i. first (stores at.token 1) (facts_mentions numbers fs q) q m refl (h.mentions q) (subst (In m) (ap (λ ms. ms ++ facts_mentions numbers fs q) (of_text numbers at n q)) i);
        signatures = ap (λ rs. rs ++ text_signatures fs) (signatures_text at n) ∙ h.signatures;
      }
