-- The names of a text stand at tokens of their own, those of communicators before those of the outermost block.
use Rattle.std.proofs.Common.{◌≡◌, ◌≢◌, ℕ, suc, ◌+◌, ◌*◌, ◌≤◌, ◌<◌, List, [], ◌∷◌, ◌++◌, length, Bool, true, false, refl, sym, ap, subst, arith, inl, inr}
use Rattle.std.specs.List.{All}
use Rattle.std.proofs.lemmas.List.Elements.{All-head, All-tail}
use Rattle.cw_table.specs.declared.table.Row.{Row}
use Rattle.cw_lex.specs.Lexical.{Lexeme}
use Rattle.cw_tree.specs.declared.segment.Raw.{Raw}
use Rattle.cw_tree.specs.declared.statement.RawBlock.{RawBlock, out-RawBlock}
use Rattle.cw_tree.specs.declared.statement.RawDecl.TheViews.{out-roll-RawBlock}
use Rattle.cw_facts.specs.declared.fact.Declaration.{Declaration}
use Rattle.cw_facts.specs.Facts.{block_facts}
use Rattle.cw_facts.specs.Text.{communicators_facts, text_facts}
use Rattle.cw_scope.specs.Resolved.{text_declarations, text_signatures}
use Rattle.cw_number.specs.Numbers.{begin_of}
use Rattle.cw_grammar.specs.Tokens.{numbered}
use Rattle.cw_grammar.specs.Grammar.{a_block, a_raw}
use Rattle.cw_grammar.specs.Statements.{text}
use Rattle.cw_grammar.specs.Derives.{Derives}
use Rattle.cw_derived.specs.Marks.{mark, Within, empty, kept, skipped, AtLeast, Rises}
use Rattle.cw_derived.specs.NormalForm as normal
use Rattle.cw_derived.specs.NormalForm.{IsNormal}
use Rattle.cw_sound.specs.Uses.Mentions as mentions
use Rattle.cw_sound.specs.Items.Derived.{IsRising, IsNamed}
use Rattle.cw_sound.proofs.Items.Lists.{In, in-left, in-right, not-below, few-tokens}
use Rattle.cw_sound.specs.Names.Placed.{Placed, Differ, tokens, text_used}
use Rattle.cw_sound.proofs.Trees.Core.{doubled}
use Rattle.cw_sound.proofs.Trees.Spread.{Spread, each_of}
use Rattle.cw_sound.proofs.Trees.Said.{Said, declared}
use Rattle.cw_sound.proofs.Trees.Leaves.{communicators_said}
use Rattle.cw_sound.proofs.Trees.Texts.{block_says}
use Rattle.cw_sound.proofs.Trees.Rising.{Good, good_in, rising, tree, text_says, text_good}

-- ---- what rises

rising_differ : (n : ℕ) (ts : List ℕ) → IsRising n ts → Differ ts
rising_differ n [] r = tt
rising_differ n (t ∷ ts) r = (each_of (λ s. t ≢ s) ts (λ x i e. let k : suc t ≤ x = not-below (suc t) ts x r.1 i in absurd (omega (arith, k, e))), rising_differ (suc t) ts r.1)

in_order : (ts : List ℕ) {ms : List ℕ} → Within (doubled ts) ms → Good ms → Differ ts
in_order ts w g = rising_differ 1 ts (rising ts (good_in w g))

spread_differ : {ts ms : List ℕ} → Spread ts ms → Good ms → Differ ts
spread_differ s g = s.differ (in_order s.list s.within g)

spread_few : {ts ms : List ℕ} → Spread ts ms → Good ms → length ts < 65536
spread_few s g = let k = few-tokens 1 s.list (rising s.list (good_in s.within g)) in omega (arith, k, s.long)

tokens_length : {T : Type 0} (rs : List (Row T)) → length (tokens rs) ≡ length rs
tokens_length [] = refl
tokens_length (r ∷ rs) = ap suc (tokens_length rs)

-- ---- members

in_doubled : (t : ℕ) (ts : List ℕ) → In t ts → In (2 * t) (doubled ts)
in_doubled t [] i = absurd i
in_doubled t (s ∷ ts) (inl e) = inl (ap (λ z. 2 * z) e)
in_doubled t (s ∷ ts) (inr i) = inr (in_doubled t ts i)

in_within : {a b : List ℕ} (x : ℕ) → Within a b → In x a → In x b
in_within x empty i = i
in_within x (kept q) (inl e) = inl e
in_within x (kept q) (inr i) = inr (in_within x q i)
in_within x (skipped q) i = inr (in_within x q i)

spread_mark : {ts ms : List ℕ} (t : ℕ) → Spread ts ms → In t ts → In (2 * t) ms
spread_mark t s i = in_within (2 * t) s.within (in_doubled t s.list (s.members t i))

least_at : (n : ℕ) (ms : List ℕ) (x : ℕ) → AtLeast n ms → In x ms → n ≤ x
least_at n [] x h i = absurd i
least_at n (m ∷ ms) x h (inl e) = omega (arith, h.0, e)
least_at n (m ∷ ms) x h (inr i) = least_at n ms x h.1 i

rises_cross : (a b : List ℕ) (x y : ℕ) → Rises (a ++ b) → In x a → In y b → x < y
rises_cross [] b x y r i j = absurd i
rises_cross (m ∷ a) b x y r (inl e) j = let k = least_at (m + 1) (a ++ b) y r.0 (in-right y a b j) in omega (arith, k, e)
rises_cross (m ∷ a) b x y r (inr i) j = rises_cross a b x y r.1 i j

rises_right : (a b : List ℕ) → Rises (a ++ b) → Rises b
rises_right [] b r = r
rises_right (m ∷ a) b r = rises_right a b r.1

-- ---- the parts of a text

pub record Parts (x : Raw) (ms : List ℕ) : Type 0 where
  pub front : List ℕ
  pub behind : List ℕ
  pub listed : Said false (communicators_facts x.comms) front
  pub own : Said false (block_facts x.block true) (mark (out-RawBlock x.block).at ∷ behind)
  pub last : List ℕ
  pub whole : ms ≡ front ++ ((mark (out-RawBlock x.block).at ∷ behind) ++ last)

begins : {n : ℕ} {p : Bool} {x : RawBlock} {b : List ℕ} → IsNormal n p a_block x b → (bs : List ℕ) × (b ≡ mark (out-RawBlock x).at ∷ bs)
begins (normal.is_block at {ds = ds} {x = x} {xs = xs} {a = a} {b = b} h k) = (a ++ b, ap (λ z. mark z.at ∷ (a ++ b)) (sym (out-roll-RawBlock (record { at = at; decls = ds; stmts = x ∷ xs }))))

raw_parts : {n : ℕ} {x : Raw} {a : List ℕ} → IsNormal n false a_raw x a → Parts x a
raw_parts (normal.is_raw f {x = x} tokens {a = a} {b = b} h e k) =
    let g = begins k in
    record {
      front = a;
      behind = g.0;
      listed = communicators_said false h;
      own = subst (λ (z : List ℕ). Said false (block_facts x true) z) g.1 (block_says k true);
      last = 2 * tokens ∷ [];
      whole = ap (λ (z : List ℕ). a ++ (z ++ 2 * tokens ∷ [])) g.1;
    }

module _ (x : Raw) (ms : List ℕ) (q : Parts x ms) (r : Rises ms) where
  all_rise : Rises (q.front ++ ((mark (out-RawBlock x.block).at ∷ q.behind) ++ q.last))
  all_rise = subst Rises q.whole r

  listed_before : (t : ℕ) → In t (declared (communicators_facts x.comms)) → t < begin_of x
  listed_before t i =
      let k : 2 * t < mark (out-RawBlock x.block).at = rises_cross q.front ((mark (out-RawBlock x.block).at ∷ q.behind) ++ q.last) (2 * t) (mark (out-RawBlock x.block).at) all_rise (spread_mark t q.listed.places i) (inl refl) in
      omega (arith, k)

  own_at : (t : ℕ) → In (2 * t) (mark (out-RawBlock x.block).at ∷ q.behind) → begin_of x ≤ t
  own_at t (inl e) = omega (arith, e)
  own_at t (inr i) =
      let k : mark (out-RawBlock x.block).at < 2 * t = rises_cross (mark (out-RawBlock x.block).at ∷ []) (q.behind ++ q.last) (mark (out-RawBlock x.block).at) (2 * t) (rises_right q.front ((mark (out-RawBlock x.block).at ∷ q.behind) ++ q.last) all_rise) (inl refl) (in-left (2 * t) q.behind q.last i) in
      omega (arith, k)

named_at : (rs : List (Row Declaration)) → All IsNamed rs → (r : Row Declaration) → mentions.In r rs → IsNamed r
named_at [] h r i = absurd i
named_at (y ∷ ys) h r (inl e) = subst IsNamed e (All-head IsNamed y ys h)
named_at (y ∷ ys) h r (inr i) = named_at ys (All-tail IsNamed y ys h) r i

pub placed : (n : ℕ) (ts : List Lexeme) (raw : Raw) → length ts ≤ 65535 → Derives n a_raw text (numbered 1 ts) raw → Placed raw
placed n ts raw few d =
    let says = text_says n ts raw d in
    let good = text_good n ts raw d few in
    let ms = (tree n ts raw d).marks in
    let q = raw_parts (tree n ts raw d).normal in
    record {
      declarations = spread_differ says.places good;
      uses = in_order (text_used (text_facts raw)) says.core.used good;
      signatures = in_order (tokens (text_signatures (text_facts raw))) says.core.signed good;
      listed = each_of (λ t. t < begin_of raw) (declared (communicators_facts raw.comms)) (listed_before raw ms q good.rises);
      own = each_of (λ t. begin_of raw ≤ t) (declared (block_facts raw.block true)) (λ t i. own_at raw ms q good.rises t (spread_mark t q.own.places i));
      names = named_at (text_declarations (communicators_facts raw.comms)) q.listed.core.named;
      few = subst (λ z. z < 65536) (tokens_length (text_declarations (text_facts raw))) (spread_few says.places good);
      apart = says.core.apart;
    }
