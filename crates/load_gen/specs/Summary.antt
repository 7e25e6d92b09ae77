-- What comes of the checks of a run, and of those of a made-up load.
use Rattle.std.specs.Prelude.{◌≡◌, ℕ, ◌+◌, ◌-◌, ◌*◌, ◌≤◌, List, false, min, codes}
use Rattle.serde_json.specs.Data.{Data, object, member, no_members}
use Rattle.serde_json.specs.Written.{compact_text}
use Rattle.rate_types.specs.Sums.{times}
use Rattle.rate_types.specs.declared.limits.TheConstants.{MOST_PINS}
use Rattle.reply_text.specs.Texts.{whole}
use Rattle.reply_text.specs.declared.record.Record.{Record}
use Rattle.script_run.specs.Answers.{admitted_among, denied_among}
use Rattle.script_run.specs.Run.{IsRun}
use Rattle.load_gen.specs.declared.constants.TheConstants.{VALUES, LIMIT}
use Rattle.load_gen.specs.declared.counts.CheckCounts.{CheckCounts}
use Rattle.load_gen.specs.Sums.{sum_below}
use Rattle.load_gen.specs.Load.{values_of, load_config, load_lines}

-- ---- of the records of a run

-- how many answered checks the records show, and how many of either code
abbrev pub counted : List Record → CheckCounts
counted records = record {
  admitted = admitted_among records;
  checks = admitted_among records + denied_among records;
  denied = denied_among records;
}

-- ---- of a load

-- of each counter the smaller of its checks and its limit
abbrev pub admitted_of : List ℕ → ℕ
admitted_of values = sum_below VALUES (λ value. min (times value values) LIMIT)

-- the counts of the load of a number: so many checks, of which each counter admits as many as its limit allows
abbrev pub load_counts : ℕ → ℕ → CheckCounts
load_counts number checks = record {
  admitted = admitted_of (values_of number checks);
  checks = checks;
  denied = checks - admitted_of (values_of number checks);
}

-- ---- the text

-- counts as an object
unfoldable pub counts_data : CheckCounts → Data
counts_data c = object (member (codes "admitted") (whole c.admitted)
    (member (codes "checks") (whole c.checks) (member (codes "denied") (whole c.denied) no_members)))

-- the line of counts, without its line feed
abbrev pub counts_line : CheckCounts → List ℕ
counts_line c = compact_text (counts_data c)

-- The summary of the load of a number, without its line feed.
abbrev pub summary_of : ℕ → ℕ → List ℕ
summary_of number checks = counts_line (load_counts number checks)

-- Each lawful run of a load has its summary, however its workers ran side by side, where there are cells for its counters and for those
-- that the other workers may hold.
abbrev pub IsSameForEachRun : List Record → List ℕ → Type 0
IsSameForEachRun records text = (number checks workers cells : ℕ) → VALUES + MOST_PINS * (workers - 1) ≤ cells
    → IsRun load_config workers cells 0 false (load_lines number checks) records → text ≡ summary_of number checks
