-- Acts of the processor that is watched: instructions that go on at the next one, each with what it leaves of a view and of the flags.
use Rattle.std.proofs.Common.{◌≡◌, ℕ, ◌+◌, ◌%◌, ◌<◌, Bool, length}
use Rattle.cw_i86.specs.Encoding.{bytes_of}
use Rattle.cw_run86.specs.Views.{View}
use Rattle.cw_rows86.specs.Acts.{Act, instruction, Needs, after, flags_of}
use Rattle.cw_follow.proofs.Watched.{Watched, watched_step}
use Rattle.cw_follow.proofs.Rows.{Rows}
use Rattle.cw_follow.proofs.Chains.{IsAt, Is, has, moved}
use Rattle.cw_follow.proofs.Standing.{HasAt, Image}

-- the view behind an act, and the flags
pub record Acted (image : Image) (at : ℕ) (a : Act) (v : View) (p q : Watched) : Type 0 where
  pub is : Is image (at + length (bytes_of (instruction a))) (after a v) q
  pub flags : q.processor.state.flags ≡ flags_of a v p.processor.state.flags

module _ (rows : Rows) where
  pub act : (a : Act) {image : Image} {at : ℕ} {v : View} {p : Watched} {first : Bool} → 0 < length (bytes_of (instruction a))
      → HasAt first image at (instruction a) → Needs image.bytes a v → IsAt first image at v p → Acted image at a v p (watched_step p)
  unfolding watched_step
  act a {image} {at} {v} {p} some h needs s =
      let here = has (instruction a) some h s in
      let acted = rows.acts image.bytes a (at % 65536) v p.processor here.there needs s.sees in
      record { is = moved at (instruction a) (after a v) here s acted.0; flags = acted.1 }
