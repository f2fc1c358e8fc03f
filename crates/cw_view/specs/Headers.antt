-- A file begins with a mark of four bytes and a version.
use Rattle.std.specs.Prelude.{◌≡◌, ◌≢◌, ◌<◌, ℕ, List, ◌++◌, length, take, drop, Result, Ok, Err}
use Rattle.cw_fields.specs.Fields.{word_bytes}
use Rattle.cw_view.specs.declared.header.HeaderFault.{HeaderFault}
use Rattle.cw_view.specs.declared.header.HeaderFault.TheVariants.{OtherMark, Short}

-- Bytes that are too few for the mark have another where those that there are differ from it.
abbrev pub AnswersHeader : (mark bytes : List ℕ) → Result ℕ HeaderFault → Type 0
AnswersHeader mark bytes (Ok version) = (version < 65536) × (bytes ≡ (mark ++ word_bytes version) ++ drop 6 bytes)
AnswersHeader mark bytes (Err OtherMark) = take 4 bytes ≢ take (length bytes) mark
AnswersHeader mark bytes (Err Short) = (take 4 bytes ≡ take (length bytes) mark) × (length bytes < 6)
