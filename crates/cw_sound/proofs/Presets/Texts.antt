-- What the items of a text hold at the start, by the tokens that it expands to.
use Rattle.std.proofs.Common.{ℕ, ◌+◌, List, [], ◌∷◌}
use Rattle.std.specs.List.{All}
use Rattle.std.proofs.lemmas.List.Elements.{All-head, All-tail}
use Rattle.cw_lex.specs.Lexical.{Lexeme}
use Rattle.cw_grammar.specs.Tokens.{numbered}
use Rattle.cw_grammar.specs.Grammar.{a_raw}
use Rattle.cw_grammar.specs.Statements.{text}
use Rattle.cw_grammar.specs.Derives.{Derives}
use Rattle.cw_scope.specs.declared.resolve.Named.{Named}
use Rattle.cw_judge.specs.Judged.{sites_of, absolute_addresses}
use Rattle.cw_number.specs.Listed.{listed_of}
use Rattle.cw_number.specs.Numbers.{numbers_of}
use Rattle.cw_preset.specs.Held.{held_of}
use Rattle.cw_sound.specs.Items.Derived.{HasRisingTokens}
use Rattle.cw_sound.specs.Items.Bases.{BasesStand}
use Rattle.cw_sound.specs.Items.Free.{PartsFree}
use Rattle.cw_sound.specs.Items.Items.{things_of}
use Rattle.cw_sound.specs.Presets.Bytes.{HasBytes}
use Rattle.cw_sound.proofs.Presets.Frames.{Held}
use Rattle.cw_sound.proofs.Presets.Good.{IsOfBytes, good}
use Rattle.cw_sound.proofs.Presets.Rules.{rule_keeps, again_keeps, text_keeps}
use Rattle.cw_sound.proofs.Presets.Items.{all_told}
use Rattle.cw_macro.specs.Premises.{Each}

each_bytes : (n : ℕ) (ts : List Lexeme) → All HasBytes ts → Each IsOfBytes (numbered n ts)
each_bytes n [] h = tt
each_bytes n (t ∷ ts) h = (All-head HasBytes t ts h, each_bytes (n + 1) ts (All-tail HasBytes t ts h))

pub text_held : (n : ℕ) (ts : List Lexeme) (named : Named) → Derives n a_raw text (numbered 1 ts) named.raw.now → All HasBytes ts → HasRisingTokens named.raw.now → BasesStand (numbers_of named) (listed_of named.raw.now) (things_of named) → PartsFree named
    → Each (Held (sites_of (things_of named))) (held_of named.raw.now)
text_held n ts named d h rising bases free =
    let sites = sites_of (things_of named) in
    let absolute = absolute_addresses named.raw.now.comms in
    good named sites absolute (λ s r. rule_keeps named sites absolute r) (λ s a. again_keeps named sites absolute a) d (each_bytes 1 ts h) (text_keeps named sites absolute) free.communicators free.block (all_told named rising bases)
