-- A code for the versions of the space.
use Rattle.std.specs.Prelude.{◌≡◌, Bool, true, false, refl}
use Rattle.std.specs.Coded.{Coded, code_by, coded_bool}
use Rattle.space.specs.declared.version.Version.{Version}
use Rattle.space.specs.declared.version.Version.TheVariants as versions

abbrev pub is_second : Version → Bool
is_second versions.One = false
is_second versions.Two = true

abbrev pub version_from : Bool → Version
version_from false = versions.One
version_from true = versions.Two

pub version_from-is_second : (v : Version) → version_from (is_second v) ≡ v
version_from-is_second versions.One = refl
version_from-is_second versions.Two = refl

abbrev pub version_code : Coded Version
version_code = code_by Bool coded_bool is_second version_from version_from-is_second
