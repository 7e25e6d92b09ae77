use Rattle.std.proofs.Common.{◌≡◌, ◌≤◌, take, map}
use Rattle.rate_types.specs.declared.limits.TheConstants.{MOST_BYTES}
use Rattle.rate_io.specs.Events.{Grew}
use Rattle.cli_exits.specs.Jobs.{asked}
use Rattle.cli_exits.specs.World.{AreFilesOf}
use Rattle.cli_exits.proofs.configs.read_files.Given as goal

abbrev pub invariant-names : goal.invariant-names
invariant-names g l = record {
  same : g.F.Files.content l.files ≡ g.F.Files.content l.initial.files;
  later : g.F.Files.faults l.initial.files ≤ g.F.Files.faults l.files;
  read : Grew (g.F.Files.history l.initial.files) (g.F.Files.history l.files)
      (λ calls. AreFilesOf (g.F.Files.content l.initial.files) (map (asked MOST_BYTES) (take l.index l.names)) calls l.blobs.items);
}
