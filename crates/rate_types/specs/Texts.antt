-- Inside: the bytes of a text, wherever they lie.
use Rattle.std.specs.Prelude.{ℕ, List, string_bytes}
use Rattle.rate_types.specs.declared.text.Held.{Held}
use Rattle.rate_types.specs.declared.text.Held.TheVariants.{Inside, Apart}

abbrev pub held_bytes : Held → List ℕ
held_bytes (Inside text) = text.bytes
held_bytes (Apart text) = string_bytes text
