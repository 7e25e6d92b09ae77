use Rattle.std.proofs.Common.{◌≡◌, ◌++◌, take, string_bytes}
use Rattle.std.specs.List.{flat_map}
use Rattle.quota_stream.specs.Texts.{report_line}
use Rattle.quota_stream.proofs.step.put_reports.Given as goal

abbrev pub invariant-reports : goal.invariant-reports
invariant-reports l = string_bytes l.out ≡ string_bytes l.initial.out ++ flat_map (report_line l.stream l.domain) (take l.report-index l.reports)
