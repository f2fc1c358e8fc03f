-- Numbers of words as far as they are told.
use Rattle.std.specs.Prelude.{ℕ, min}

-- all from 65,536 on are told alike
abbrev pub told : ℕ → ℕ
told n = min n 65536
