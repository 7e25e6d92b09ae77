-- What bytes are as JSON, from what `serde_json` answered.
use Rattle.std.proofs.Common.{◌≡◌, ℕ, List, Bool, true, false, Some, None, refl}
use Rattle.std.specs.Str.{IsUtf8, is_utf8}
use Rattle.std.proofs.lemmas.Str.{is_utf8-from_IsUtf8, IsUtf8-from_is_utf8}
use Rattle.serde_json.specs.Data.{Data}
use Rattle.serde_json.specs.Read.{read}
use Rattle.proto_json.specs.Document.{json_of}

pub json_of-read : (bytes : List ℕ) (d : Data) → IsUtf8 bytes → read bytes ≡ Some d → json_of bytes ≡ Some d
unfolding json_of
json_of-read bytes d utf8 is = rw (is_utf8-from_IsUtf8 bytes utf8) is

pub json_of-none : (bytes : List ℕ) → (IsUtf8 bytes → read bytes ≡ None) → json_of bytes ≡ None
unfolding json_of
json_of-none bytes none = by (is_utf8 bytes) refl
  where
    by : (b : Bool) → is_utf8 bytes ≡ b → json_of bytes ≡ None
    by true is = rw is (none (IsUtf8-from_is_utf8 bytes is))
    by false is = rw is refl
