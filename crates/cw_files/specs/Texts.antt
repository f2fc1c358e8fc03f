-- What is taken from a file, by its bytes: the unit of a text, what a linker takes from an object, or what runs; and why a file is refused.
use Rattle.std.specs.Prelude.{◌≡◌, ◌≢◌, ◌<◌, ℕ, Bool, true, false, List, [], take, codes, All, Ok, Err}
use Rattle.std.specs.Str.{bytes_eq}
use Rattle.cw_unit.specs.declared.unit.Unit.{Unit as SourceUnit}
use Rattle.cw_view.specs.ObjectFormat.{IsObject, IsFirstObjectFault}
use Rattle.cw_i86.specs.MachineRun.{IsStart}
use Rattle.cw_hex.specs.HexTold.{TellsHex, IsFirstHexFault}
use Rattle.cw_lib.specs.LibraryFormat.{IsFirstLibraryFault}
use Rattle.cw_image.specs.ImageFormat.{image_in}
use Rattle.cw_image.specs.declared.image.Image.{Image}
use Rattle.cw_image.specs.declared.fault.ImageFault.TheVariants as images
use Rattle.cw_link.specs.Contents.{Contents}
use Rattle.cw_object.specs.ObjectContents.{contents_in}
use Rattle.cw_say.specs.compile.Texts.{IsUnitOf}
use Rattle.cw_say.specs.declared.status.Bad.{Bad}
use Rattle.cw_say.specs.declared.status.Bad.TheVariants.{Object, Image as BadImage, Hex, Library}
use Rattle.cw_files.specs.declared.images.Runnable.{Runnable}

-- the most bytes of an object or an image
abbrev pub object_limit : ℕ
object_limit = 16777216

-- ---- texts

-- the text is of bytes, and has this unit
pub record HasUnit (text : List ℕ) (unit : SourceUnit) : Type 0 where
  pub bytes : All (λ b. b < 256) text
  pub is_unit : IsUnitOf text unit

-- ---- objects and images

-- the bytes are an object that tells this
pub record HasContents (bytes : List ℕ) (contents : Contents) : Type 0 where
  pub is_object : IsObject bytes
  pub contents_are : contents ≡ contents_in bytes

abbrev pub HasImage : (bytes : List ℕ) → Image → Type 0
HasImage bytes image = image_in bytes ≡ Ok image

-- the bytes are themselves an object
abbrev pub HasObject : (bytes : List ℕ) → List ℕ → Type 0
HasObject bytes object = IsObject bytes × (object ≡ bytes)

-- why the bytes of a file are no object, image, HEX text or library: the first thing that is wrong with them
abbrev pub IsBad : (bytes : List ℕ) → Bad → Type 0
IsBad bytes (Object fault) = IsFirstObjectFault bytes fault
IsBad bytes (BadImage fault) = (image_in bytes ≡ Err fault) × (fault ≢ images.NoMemory)
IsBad bytes (Hex fault) = IsFirstHexFault bytes fault
IsBad bytes (Library fault) = IsFirstLibraryFault bytes fault

-- ---- files of `exec`

-- Bytes that begin with a colon are taken for a HEX text, all others for an image.
abbrev pub begins_hex : (bytes : List ℕ) → Bool
begins_hex bytes = bytes_eq (take 1 bytes) (codes ":")

-- The processor that a file tells to begin with, and the names of the segments: those of an image, none of a HEX text.
abbrev pub TellsRunnable : (is_hex : Bool) → (bytes : List ℕ) → Runnable → Type 0
TellsRunnable true bytes runnable = TellsHex bytes runnable.cpu × (runnable.names ≡ [])
TellsRunnable false bytes runnable = (image : Image) × HasImage bytes image × IsStart image.code image.words runnable.cpu × (runnable.names ≡ image.names)

abbrev pub HasRunnable : (bytes : List ℕ) → Runnable → Type 0
HasRunnable bytes runnable = TellsRunnable (begins_hex bytes) bytes runnable

abbrev pub IsBadRunnable : (bytes : List ℕ) → Bad → Type 0
IsBadRunnable bytes (BadImage fault) = (begins_hex bytes ≡ false) × IsBad bytes (BadImage fault)
IsBadRunnable bytes (Hex fault) = (begins_hex bytes ≡ true) × IsBad bytes (Hex fault)
IsBadRunnable bytes _ = ⊥
