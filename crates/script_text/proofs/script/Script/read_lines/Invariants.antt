use Rattle.std.proofs.Common.{◌≡◌, ◌≤◌, ◌+◌, ◌-◌, map, take, length, vec_len}
use Rattle.std.specs.Prelude.{vec_capacity}
use Rattle.text_lines.specs.Lines.{cut}
use Rattle.script_text.specs.Script.{line_of}
use Rattle.script_run.specs.Views.{line_view}
use Rattle.script_text.proofs.script.Script.read_lines.Given as goal

abbrev pub invariant-lines : goal.invariant-lines
invariant-lines l = record {
  read : map line_view l.lines.items ≡ map line_of (take l.index (cut l.self.bytes.now));
  room : vec_len l.lines + (length l.self.starts.items - l.index) ≤ vec_capacity l.lines;
}
