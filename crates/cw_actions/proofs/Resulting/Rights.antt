-- What was read and what was written, as each promise of a call that writes a file tells it.
use Rattle.std.proofs.Common.{ℕ, List, ◌++◌}
use Rattle.std.specs.Prelude.{codes}
use Rattle.cw_unit.specs.declared.unit.Unit.{Unit as SourceUnit}
use Rattle.cw_image.specs.declared.image.Image.{Image}
use Rattle.cw_lib.specs.LibraryFormat.{library_bytes}
use Rattle.cw_correct.specs.Calls.{Call, IsUntouched, IsUnwritten, first_name}
use Rattle.cw_correct.specs.Files.{AllAccepted}
use Rattle.cw_correct.specs.Results.{WritesFile, first_object, CompilesRight, MakesLibrary, MigratesTo, MigratesRight, first_hex_text, HexesRight}
use Rattle.cw_say.specs.declared.status.Status.{Status}
use Rattle.cw_actions.specs.Resulting.Texts.{OneOfText}
use Rattle.cw_actions.proofs.Resulting.Units.{units as unit_files}
use Rattle.cw_actions.proofs.Resulting.Objects.{objects as object_files}
use Rattle.cw_actions.proofs.Resulting.Images.{images as image_files}
use Rattle.cw_actions.proofs.Resulting.Filing.{Reads, FilePromise}

module _ (c : Call) (untouched : IsUntouched c.before c.after) (unwritten : IsUnwritten c.before c.after) (texts : List (List ℕ)) where
  pub compiles_right : (given : OneOfText) (us : List SourceUnit) (s : Status) → Reads (unit_files given) c texts us s → WritesFile c (first_name c ++ codes ".SEG") (first_object us) (AllAccepted c us) s → CompilesRight c s
  compiles_right given us s x writes = record {
    texts = texts;
    units = us;
    have_texts = x.have_bytes;
    have_units = x.have_values;
    comes = x.comes;
    says = x.says;
    writes = writes;
    untouched = untouched;
    unwritten = unwritten;
    completes = x.completes;
  }

  pub hexes_right : (images : List Image) (s : Status) → Reads image_files c texts images s → WritesFile c (first_name c ++ codes ".HEX") (first_hex_text images) (AllAccepted c images) s → HexesRight c s
  hexes_right images s x writes = record {
    texts = texts;
    images = images;
    have_bytes = x.have_bytes;
    have_images = x.have_values;
    comes = x.comes;
    says = x.says;
    writes = writes;
    untouched = untouched;
    unwritten = unwritten;
    completes = x.completes;
  }

  pub library_right : (name : List ℕ) (objects : List (List ℕ)) (s : Status) → Reads object_files c texts objects s → WritesFile c name (library_bytes objects) (AllAccepted c objects) s → MakesLibrary name c s
  library_right name objects s x writes = record {
    texts = texts;
    objects = objects;
    have_bytes = x.have_bytes;
    have_objects = x.have_values;
    comes = x.comes;
    says = x.says;
    writes = writes;
    untouched = untouched;
    unwritten = unwritten;
    completes = x.completes;
  }

  -- what is told by what was read only where it was written
  pub migrates_right : (objects : List (List ℕ)) (result : List ℕ) (s : Status) → Reads object_files c texts objects s → MigratesTo objects result s → WritesFile c (first_name c ++ codes ".SG2") result (AllAccepted c objects) s → MigratesRight c s
  migrates_right objects result s x migrates writes = record {
    texts = texts;
    objects = objects;
    result = result;
    have_bytes = x.have_bytes;
    have_objects = x.have_values;
    comes = x.comes;
    says = x.says;
    migrates = migrates;
    writes = writes;
    untouched = untouched;
    unwritten = unwritten;
    completes = x.completes;
  }

abbrev pub compiles : OneOfText → FilePromise
compiles given = record {
  kind = unit_files given;
  name = λ c. first_name c ++ codes ".SEG";
  result = first_object;
  Right = CompilesRight;
  right = λ c untouched unwritten texts us s x writes. compiles_right c untouched unwritten texts given us s x writes;
}

abbrev pub hexes : FilePromise
hexes = record { kind = image_files; name = λ c. first_name c ++ codes ".HEX"; result = first_hex_text; Right = HexesRight; right = hexes_right }

-- the file of this name
abbrev pub makes_library : (name : List ℕ) → FilePromise
makes_library name = record {
  kind = object_files;
  name = λ c. name;
  result = library_bytes;
  Right = MakesLibrary name;
  right = λ c untouched unwritten texts objects s x writes. library_right c untouched unwritten texts name objects s x writes;
}
