-- A call of `hex` keeps its promise.
use Rattle.std.proofs.Common.{◌≡◌, ℕ, ◌≤◌, List, [], ◌∷◌, ◌++◌, map, length, ap, ◌∙◌, sym, subst}
use Rattle.std.specs.Prelude.{codes, slice_index_or}
use Rattle.cw_io.specs.File.{Told, AllStay}
use Rattle.cw_image.specs.declared.image.Image.{Image}
use Rattle.cw_hex.specs.HexText.{hex_text}
use Rattle.cw_files.specs.Texts.{HasImage, object_limit}
use Rattle.cw_files.specs.Reading.{AllTaken, Stopped, StopsImages, SameCounts}
use Rattle.cw_correct.specs.Calls.{Call, told_files, IsUntouched, IsUnwritten, first_name}
use Rattle.cw_correct.specs.Files.{counts_before, counts_after}
use Rattle.cw_correct.specs.Results.{HexesRight}
use Rattle.cw_actions.specs.Resulting.Outside.{Files}
use Rattle.cw_actions.specs.Resulting.Written.{GivesFile}
use Rattle.cw_say.specs.declared.status.Status.{Status}
use Rattle.cw_actions.proofs.Resulting.Keeping.{Closed}
use Rattle.cw_actions.proofs.Resulting.Images.{images}
use Rattle.cw_actions.proofs.Resulting.Filing as filing
use Rattle.cw_actions.proofs.Resulting.Filing.{files_after}
use Rattle.cw_actions.proofs.Resulting.Rights.{hexes}
use Rattle.cw_actions.proofs.Resulting.Told.{told_one}

-- the one file of the call
pub one_file : (file : List ℕ → Told) (names : List (List ℕ)) → length names ≤ 1 → 1 ≤ length names → (name : List ℕ) → name ≡ slice_index_or names 0 [] → file name ∷ [] ≡ map file names
one_file file names few some name is = ap (λ x. file x ∷ []) is ∙ sym (told_one file names few some)

module _ (c : Call) (untouched : IsUntouched c.before c.after) (unwritten : IsUnwritten c.before c.after) (file : Told) (one : file ∷ [] ≡ told_files c) (s result : Status) (same : result ≡ s) (closed : Closed c s) where
  pub stopped : AllStay c.before.files c.after.files → Stopped object_limit HasImage (λ texts taken. StopsImages (file ∷ []) texts taken (counts_before c) (counts_after c) s) (file ∷ []) → HexesRight c result
  stopped stay x =
      filing.stopped hexes c untouched unwritten s result same closed stay
      (subst (λ files. Stopped object_limit HasImage (λ texts taken. StopsImages files texts taken (counts_before c) (counts_after c) s) files) one x)

  pub written : (name : List ℕ) → name ≡ first_name c → (image : Image) → AllTaken object_limit HasImage (file ∷ []) (image ∷ []) → (between : Files) → AllStay c.before.files between.told → SameCounts (counts_before c) between.counts
      → GivesFile (name ++ codes ".HEX") (hex_text image.code image.words) between (files_after images c) s → HexesRight c result
  written name named image x between stay counts gives =
      filing.written hexes c untouched unwritten s result same closed (image ∷ []) (subst (λ files. AllTaken object_limit HasImage files (image ∷ [])) one x) between stay counts
      (subst (λ n. GivesFile (n ++ codes ".HEX") (hex_text image.code image.words) between (files_after images c) s) named gives)
