-- The text of the path to a part.
use Rattle.std.specs.Prelude.{◌≡◌, ℕ, List}
use Rattle.rmp_path.specs.declared.location.Location.{Location}
use Rattle.rmp_path.specs.Places.{Locates}
use Rattle.rmp_serde.specs.declared.path.Path.{Path}
use Rattle.rmp_serde.specs.Paths.{IsPathOf, path_text, place_of}

-- the text is that of the path to the part that the offset is in, which begins at the place
pub record IsPathText (bytes : List ℕ) (offset : ℕ) (text : List ℕ) (place : ℕ) : Type 0 where
  pub found : Location
  pub locates : Locates bytes offset found
  pub path : Path
  pub is_path : IsPathOf bytes found path
  pub text_is : text ≡ path_text path
  pub place_is : place ≡ place_of path
