-- What the program says of its exit: its status, and its line on standard error.
use Rattle.std.specs.Prelude.{ℕ, ◌+◌, ◌/◌, ◌%◌, List, ◌∷◌, [], ◌++◌, nat_lt, Option, None, Some, codes, decimal, if◌then◌else◌}
use Rattle.std.specs.List.{flat_map}
use Rattle.std.specs.Str.{chars}
use Rattle.std.specs.Char.{encode_utf8, is_control}
use Rattle.cli_exits.specs.declared.exit.Exit.{Exit}
use Rattle.cli_exits.specs.declared.exit.Exit.TheVariants.{Done, Usage, ConfigRefused, TooLong, ReadFault, WriteFault, FileFault}
use Rattle.cli_exits.specs.declared.exit.Exit.TheVariants.{OutOfMemory, ListenFault, SettingsRefused}

-- the exit status
abbrev pub status_of : Exit → ℕ
status_of Done = 0
status_of Usage = 1
status_of (ConfigRefused at) = 2
status_of TooLong = 3
status_of ReadFault = 4
status_of WriteFault = 5
status_of (FileFault index) = 6
status_of OutOfMemory = 7
status_of ListenFault = 8
status_of (SettingsRefused refused) = 9

-- a hexadecimal digit
abbrev pub hex_digit : ℕ → ℕ
hex_digit n = if nat_lt n 10 then 48 + n else 87 + n

-- a control character is shown as `\u00` and two hexadecimal digits; any other stands for itself
abbrev pub shown : ℕ → List ℕ
shown c = if is_control c then codes "\\u00" ++ hex_digit (c / 16) ∷ hex_digit (c % 16) ∷ [] else encode_utf8 c

-- a place, on one line
unfoldable pub shown_place : List ℕ → List ℕ
shown_place place = flat_map shown (chars place)

-- the line on standard error, without its line feed; none after a whole run
unfoldable pub text_of : Exit → Option (List ℕ)
text_of Done = None
text_of Usage = Some (codes "ratelimit: usage")
text_of (ConfigRefused at) = Some (codes "ratelimit: config " ++ decimal at.file ++ codes ": refused " ++ decimal at.refused.number
    ++ codes " at " ++ shown_place at.refused.at)
text_of TooLong = Some (codes "ratelimit: input too long")
text_of ReadFault = Some (codes "ratelimit: read failed")
text_of WriteFault = Some (codes "ratelimit: write failed")
text_of (FileFault index) = Some (codes "ratelimit: file " ++ decimal index ++ codes ": read failed")
text_of OutOfMemory = Some (codes "ratelimit: out of memory")
text_of ListenFault = Some (codes "ratelimit: listen failed")
text_of (SettingsRefused refused) = Some (codes "ratelimit: settings: refused " ++ decimal refused.number ++ codes " at "
    ++ shown_place refused.at)
