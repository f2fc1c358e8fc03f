-- What is told of a run that is watched: before each instruction at one of the places a line, which names the segment and the line of the text and
-- what the watched words hold then.
use Rattle.std.specs.Prelude.{◌≡◌, ◌⊎◌, ℕ, zero, suc, ◌*◌, ◌==◌, ◌&&◌, ℤ, Bool, List, [], ◌++◌, flat_map, codes, decimal, if◌then◌else◌}
use Rattle.std.specs.Fmt.{signed_decimal}
use Rattle.std.specs.List.{list_any}
use Rattle.cw_word.specs.Word.{signed}
use Rattle.cw_i86.specs.State.{State, word_at, data_segment}
use Rattle.cw_i86.specs.MachineRun.{Event, End, Runs, IsOver}
use Rattle.cw_trace.specs.declared.watch.Watch.{Watch}
use Rattle.cw_trace.specs.declared.watch.WatchedWord.{WatchedWord}

-- ---- one line

-- what the word of this number in the data segment holds
abbrev pub word_of : State → ℕ → ℤ
word_of s address = signed (word_at s.memory data_segment (2 * address))

-- a watched word, by what the words hold
unfoldable pub word_text : (held : ℕ → ℤ) → WatchedWord → List ℕ
word_text held word = codes " " ++ (word.text ++ (codes "=" ++ signed_decimal (held word.address)))

-- the segment and the line of the text
unfoldable pub head_text : Watch → List ℕ
head_text watch = watch.segment ++ (codes " " ++ decimal watch.line)

-- the line, by what the words hold
unfoldable pub line_text : Watch → (held : ℕ → ℤ) → List ℕ
line_text watch held = head_text watch ++ (flat_map (word_text held) watch.words ++ codes "\n")

abbrev pub report_text : Watch → State → List ℕ
report_text watch s = line_text watch (word_of s)

-- ---- a run

-- CS:IP is one of the places
abbrev pub is_watched : Watch → State → Bool
is_watched watch s = list_any (λ place. place == s.instruction_pointer) watch.places && s.code_segment == 0x1000

-- what is told before the instruction at CS:IP
abbrev pub told_at : Watch → State → List ℕ
told_at watch s = if is_watched watch s then report_text watch s else []

-- What is told in the first n instructions of the run with these events: before each of them what is told at CS:IP, and behind the last
-- instruction of the run nothing.
abbrev pub Reports : Watch → State → List Event → (n : ℕ) → List ℕ → Type 0
Reports watch s events zero text = text ≡ []
Reports watch s events (suc n) text =
    (before : List ℕ) × Reports watch s events n before
    × (((t : State) × (said rest : List Event) × Runs n s said t × (events ≡ said ++ rest) × (text ≡ before ++ told_at watch t))
    ⊎ ((end : End) × IsOver s n events end × (text ≡ before)))
