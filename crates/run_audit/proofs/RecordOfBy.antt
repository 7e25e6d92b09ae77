-- A record of a line, and the numbers of versions, by tests.
use Rattle.std.proofs.Common.{◌≡◌, ℕ, ◌+◌, ◌<◌, ◌≤◌, ◌==◌, ◌&&◌, nat_le, List, length, map, Bool, sym, ap, ◌∙◌, subst, arith}
use Rattle.std.specs.Prelude.{count_by}
use Rattle.std.specs.List.{AllByRecursion, list_all}
use Rattle.std.specs.Bool.{Decides}
use Rattle.std.proofs.lemmas.Bool.{leb-true, le-leb}
use Rattle.std.proofs.lemmas.List.{length-map}
use Rattle.rate_types.specs.declared.limits.TheConstants.{MOST_VERSIONS}
use Rattle.reply_text.specs.declared.record.Record.{Record}
use Rattle.script_run.specs.ScriptLine.{ScriptLine}
use Rattle.script_run.specs.Lines.{EachLine}
use Rattle.script_run.specs.Kinds.{IsOfKind, IsRecordOf}
use Rattle.script_run.specs.Versions.{is_installed, installs, IsAbove, VersionsNumbered}
use Rattle.script_run.specs.Views.{line_view}
use Rattle.script_run.specs.declared.line.Line.{Line}
use Rattle.run_audit.proofs.Tests.{both, all}

pub record_of : (workers : ℕ) (before : List Line) (l : ScriptLine) (r : Record) (a b c : Bool) → Decides a (r.line ≡ length before + 1)
    → Decides b (r.worker < workers) → Decides c (IsOfKind l r.outcome) → Decides ((a && b) && c) (IsRecordOf workers (map line_view before) l r)
record_of workers before l r a b c da db dc =
    let d = both (a && b) c (both a b da db) dc in
    let same = length-map before line_view in (
      λ h. record { numbered = (d.0 h).0.0 ∙ ap (λ n. n + 1) (sym same); by_worker = (d.0 h).0.1; kind = (d.0 h).1 },
      λ x. d.1 ((x.numbered ∙ ap (λ n. n + 1) same, x.by_worker), x.kind),
    )

known_by : (m : ℕ) (rs : List Record) → Decides (list_all (λ r. nat_le r.version m) rs) (AllByRecursion (λ r. r.version ≤ m) rs)
known_by m rs = all (λ r. nat_le r.version m) (λ r. r.version ≤ m) (λ r. (leb-true r.version m, le-leb r.version m)) rs

abbrev Once : ℕ → List Record → Type 0
Once m rs = (v : ℕ) → 1 ≤ v → v ≤ m → count_by (λ r. is_installed r.outcome && (r.version == v)) rs ≡ 1

pub numbered_by : (m : ℕ) (lines : List ScriptLine) (rs : List Record) (a b c : Bool) → m ≡ installs rs → m < MOST_VERSIONS
    → Decides a (Once m rs) → b ≡ list_all (λ r. nat_le r.version m) rs
    → Decides c (EachLine lines rs (λ before earlier l r. IsAbove earlier r r.outcome)) → Decides ((a && b) && c) (VersionsNumbered lines rs)
numbered_by m lines rs a b c is few da eb dc =
    let known : Decides b (AllByRecursion (λ r. r.version ≤ m) rs) = (λ h. (known_by m rs).0 (sym eb ∙ h), λ k. eb ∙ (known_by m rs).1 k) in
    let d = both (a && b) c (both a b da known) dc in (
      λ h. record {
        once = λ v some most. (d.0 h).0.0 v some (omega (arith, is, most));
        few = omega (arith, is, few);
        known = subst (λ n. AllByRecursion (λ r. r.version ≤ n) rs) is (d.0 h).0.1;
        above = (d.0 h).1;
      },
      λ x. d.1 ((λ v some most. x.once v some (omega (arith, is, most)), subst (λ n. AllByRecursion (λ r. r.version ≤ n) rs) (sym is) x.known), x.above),
    )
