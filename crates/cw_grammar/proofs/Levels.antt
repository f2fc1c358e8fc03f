-- Reading inside a level, where one is left and where none is.
use Rattle.std.proofs.Common.{◌≡◌, ℕ, zero, suc, ◌+◌, ◌-◌, ◌<◌, ◌≢◌, List, length, Err, refl, arith}
use Rattle.cw_grammar.specs.Tokens.{Item, code, same}
use Rattle.cw_grammar.specs.Grammar.{Sort, Rule}
use Rattle.cw_grammar.specs.Table.{rule, again_rule}
use Rattle.cw_grammar.specs.Reading.{deep_at, read_with, reads, inside, Agains, turns, unbounded}

pub inside_opened : (n : ℕ) (s : Sort) (r : Rule s) (ts : List Item) → (n ≡ 0 → ⊥) → inside n s r ts ≡ reads (n - 1) (rule r) ts
unfolding inside
inside_opened zero s r ts h = absurd (h refl)
inside_opened (suc n) s r ts h =
    let e : suc n - 1 ≡ n = omega arith in
    rw e refl

pub inside_full : (n : ℕ) (s : Sort) (r : Rule s) (ts : List Item) → n ≡ 0 → inside n s r ts ≡ Err (deep_at (length ts + 1))
unfolding inside
inside_full zero s r ts h = refl
inside_full (suc n) s r ts h = absurd (omega arith)
