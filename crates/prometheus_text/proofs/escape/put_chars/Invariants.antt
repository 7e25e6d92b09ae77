use Rattle.std.proofs.Common.{◌≡◌, ◌++◌, string_bytes}
use Rattle.std.specs.Str.Iter.{chars_rest}
use Rattle.prometheus_text.specs.Escapes.{escaped}
use Rattle.prometheus_text.proofs.escape.put_chars.Given as goal

abbrev pub invariant-loop-c : goal.invariant-loop-c
invariant-loop-c l = string_bytes l.out ++ escaped (chars_rest l.c-iterator) ≡ string_bytes l.fn.out ++ escaped l.fn.label
