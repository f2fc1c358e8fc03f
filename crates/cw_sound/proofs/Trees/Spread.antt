-- Tokens that stand at marks of their own, in whatever order.
use Rattle.std.proofs.Common.{◌≡◌, ◌≢◌, ℕ, ◌+◌, List, [], ◌∷◌, ◌++◌, length, refl, sym, subst, ap₂, ◌∙◌, arith, length-append, inl, inr}
use Rattle.cw_derived.specs.Marks.{Within}
use Rattle.cw_derived.proofs.Withins.{join, twice}
use Rattle.cw_sound.proofs.Items.Lists.{In, in-left, in-right, in-either}
use Rattle.cw_sound.specs.Names.Placed.{Each, Differ}
use Rattle.cw_sound.proofs.Trees.Core.{doubled, doubled_append}

-- the same tokens in order of the marks
pub record Spread (ts ms : List ℕ) : Type 0 where
  pub list : List ℕ
  pub within : Within (doubled list) ms
  pub members : (x : ℕ) → In x ts → In x list
  pub differ : Differ list → Differ ts
  pub long : length ts ≡ length list

pub each_of : (P : ℕ → Type 0) (ts : List ℕ) → ((x : ℕ) → In x ts → P x) → Each P ts
each_of P [] h = tt
each_of P (t ∷ ts) h = (h t (inl refl), each_of P ts (λ x i. h x (inr i)))

pub each_at : (P : ℕ → Type 0) (ts : List ℕ) (x : ℕ) → Each P ts → In x ts → P x
each_at P [] x h i = absurd i
each_at P (t ∷ ts) x h (inl e) = subst P (sym e) h.0
each_at P (t ∷ ts) x h (inr i) = each_at P ts x h.1 i

differ_left : (a b : List ℕ) → Differ (a ++ b) → Differ a
differ_left [] b h = tt
differ_left (t ∷ a) b h = (each_of (λ s. t ≢ s) a (λ x i. each_at (λ s. t ≢ s) (a ++ b) x h.0 (in-left x a b i)), differ_left a b h.1)

differ_right : (a b : List ℕ) → Differ (a ++ b) → Differ b
differ_right [] b h = h
differ_right (t ∷ a) b h = differ_right a b h.1

differ_cross : (a b : List ℕ) (x y : ℕ) → Differ (a ++ b) → In x a → In y b → x ≢ y
differ_cross [] b x y h i j = absurd i
differ_cross (t ∷ a) b x y h (inl e) j = subst (λ z. z ≢ y) (sym e) (each_at (λ s. t ≢ s) (a ++ b) y h.0 (in-right y a b j))
differ_cross (t ∷ a) b x y h (inr i) j = differ_cross a b x y h.1 i j

each_both : (P : ℕ → Type 0) (a b : List ℕ) → Each P a → Each P b → Each P (a ++ b)
each_both P [] b h k = k
each_both P (t ∷ a) b h k = (h.0, each_both P a b h.1 k)

differ_both : (a b : List ℕ) → Differ a → Differ b → ((x y : ℕ) → In x a → In y b → x ≢ y) → Differ (a ++ b)
differ_both [] b h k c = k
differ_both (t ∷ a) b h k c = (each_both (λ s. t ≢ s) a b h.0 (each_of (λ s. t ≢ s) b (λ y j. c t y (inl refl) j)), differ_both a b h.1 k (λ x y i j. c x y (inr i) j))

pub spread_same : {ts ms : List ℕ} → Within (doubled ts) ms → Spread ts ms
spread_same {ts = ts} w = record { list = ts; within = w; members = λ x i. i; differ = λ d. d; long = refl }

pub spread_wider : {ts a b : List ℕ} → Within a b → Spread ts a → Spread ts b
spread_wider w h = record { list = h.list; within = twice h.within w; members = h.members; differ = h.differ; long = h.long }

within_both : (us vs : List ℕ) {u v : List ℕ} → Within (doubled us) u → Within (doubled vs) v → Within (doubled (us ++ vs)) (u ++ v)
within_both us vs {u = u} {v = v} h k = subst (λ (z : List ℕ). Within z (u ++ v)) (sym (doubled_append us vs)) (join h k)

pub spread_join : {a b u v : List ℕ} → Spread a u → Spread b v → Spread (a ++ b) (u ++ v)
spread_join {a = a} {b = b} h k = record {
  list = h.list ++ k.list;
  within = within_both h.list k.list h.within k.within;
  members = λ x i. elim (in-either x a b i) [ inl j ↦ in-left x h.list k.list (h.members x j) | inr j ↦ in-right x h.list k.list (k.members x j) ];
  differ = λ d. differ_both a b (h.differ (differ_left h.list k.list d)) (k.differ (differ_right h.list k.list d)) (λ x y i j. differ_cross h.list k.list x y d (h.members x i) (k.members y j));
  long = length-append a b ∙ ap₂ (λ m n. m + n) h.long k.long ∙ sym (length-append h.list k.list);
}

swapped_lengths : {m a b n c d : ℕ} → m ≡ a + b → a ≡ c → b ≡ d → n ≡ d + c → m ≡ n
swapped_lengths h k l o = omega (arith, h, k, l, o)

-- the second list stands before the first
pub spread_swap : {a b u v : List ℕ} → Spread b u → Spread a v → Spread (a ++ b) (u ++ v)
spread_swap {a = a} {b = b} h k = record {
  list = h.list ++ k.list;
  within = within_both h.list k.list h.within k.within;
  members = λ x i. elim (in-either x a b i) [ inl j ↦ in-right x h.list k.list (k.members x j) | inr j ↦ in-left x h.list k.list (h.members x j) ];
  differ = λ d. differ_both a b (k.differ (differ_right h.list k.list d)) (h.differ (differ_left h.list k.list d)) (λ x y i j e. differ_cross h.list k.list y x d (h.members y j) (k.members x i) (sym e));
  long = swapped_lengths (length-append a b) k.long h.long (length-append h.list k.list);
}
