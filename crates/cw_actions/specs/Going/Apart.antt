-- What is compiled apart and linked is what runs of the texts together.
use Rattle.std.specs.Prelude.{◌≡◌, ℕ, List, [], ◌∷◌, map, All, codes}
use Rattle.cw_io.specs.File.{as_file}
use Rattle.cw_unit.specs.declared.unit.Unit.{Unit as SourceUnit}
use Rattle.cw_image.specs.ImageFormat.{image_bytes}
use Rattle.cw_link.specs.LinkedImage.{linked_image}
use Rattle.cw_obj.specs.Migration.{IsMigrated}
use Rattle.cw_build.specs.Compiled.{IsCompilable, object_of}
use Rattle.cw_build.specs.Linking.{Links, image_of}
use Rattle.cw_correct.specs.Calls.{Call, told_files}
use Rattle.cw_correct.specs.Meaning.{TellBytes}
use Rattle.cw_correct.specs.Results.{all_contents, LinksRight}
use Rattle.cw_say.specs.declared.status.Status.TheVariants.{Ended}

-- the file of the image has these bytes, as far as the store tells
abbrev pub WroteImage : Call → (bytes : List ℕ) → Type 0
WroteImage c bytes = c.after.files (codes "A.IMG") ≡ as_file (c.before.files (codes "A.IMG")) bytes

-- Where the files of `link` are the objects that `compile` writes of units, the units link, and the image that it wrote is the one that `go` runs of them.
abbrev pub LinksWhatRuns : Type 0
LinksWhatRuns =
    (c : Call) (us : List SourceUnit) → All IsCompilable us → TellBytes (told_files c) (map object_of us)
    → LinksRight c Ended → Links us c.limits × WroteImage c (image_bytes (image_of us c.limits))

-- each of these objects is the migrated one of the other list
abbrev pub AllMigrated : (objects migrated : List (List ℕ)) → Type 0
AllMigrated [] [] = Unit {0}
AllMigrated (object ∷ objects) (new ∷ migrated) = IsMigrated object new × AllMigrated objects migrated
AllMigrated _ _ = ⊥

-- `link` of a migrated list writes the image of the list.
abbrev pub LinksAsMigrated : Type 0
LinksAsMigrated =
    (c : Call) (objects migrated : List (List ℕ)) → AllMigrated objects migrated → TellBytes (told_files c) migrated
    → LinksRight c Ended → WroteImage c (image_bytes (linked_image (all_contents objects) c.limits))
