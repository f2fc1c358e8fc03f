-- A name is looked for inwards.
use Rattle.std.proofs.Common.{◌≡◌, ℕ, zero, suc, ◌<◌, List, [], ◌∷◌, length, drop, get_or, Some, sym, ap, arith}
use Rattle.cw_facts.specs.declared.fact.Declaration.{Declaration}
use Rattle.cw_scope.specs.Scope.{Environment, declared_in, or_else, declaration_of}
use Rattle.cw_scope.specs.NameRules.{own_block}

-- what an inner block declares decides
pub found-inward : (blocks : Environment) (from : ℕ) (name : List ℕ) (d : Declaration) → from < length blocks → Some d ≡ declaration_of (drop (suc from) blocks) name → Some d ≡ declaration_of (drop from blocks) name
found-inward [] from name d h e = absurd (omega arith)
found-inward (b ∷ bs) zero name d h e = ap (λ o. or_else o (declared_in b name)) e
found-inward (b ∷ bs) (suc n) name d h e = found-inward bs n name d (omega arith) e

-- the innermost block is the last
pub own_block_at : (blocks : Environment) (k : ℕ) (own : List Declaration) → suc k ≡ length blocks → own ≡ get_or blocks k own → own_block blocks ≡ own
own_block_at [] k own h e = absurd (omega arith)
own_block_at (b ∷ []) zero own h e = sym e
own_block_at (b ∷ []) (suc k) own h e = absurd (omega arith)
own_block_at (b ∷ c ∷ bs) zero own h e = absurd (omega arith)
own_block_at (b ∷ c ∷ bs) (suc k) own h e = own_block_at (c ∷ bs) k own (omega arith) e
