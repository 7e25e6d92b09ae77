-- The words of the program: which of them are a command.
use Rattle.std.specs.Prelude.{ℕ, ◌≤◌, ◌&&◌, ◌||◌, List, [], ◌∷◌, length, Bool, true, false, nat_lt, Option, None, Some}
use Rattle.std.specs.Prelude.{option_and_then, option_map, unwrap_or, if◌then◌else◌, codes, ⊤}
use Rattle.std.specs.List.{list_all}
use Rattle.std.specs.Str.{bytes_eq}
use Rattle.std.specs.Str.Parse.{digits_value, without_leading_plus}
use Rattle.std.specs.Char.{digit_value}
use Rattle.rate_types.specs.declared.limits.TheConstants.{DEFAULT_CELLS, DEFAULT_WORKERS, LATEST_MOMENT}
use Rattle.rate_types.specs.declared.limits.TheConstants.{MOST_CELLS, MOST_CONNECTIONS, MOST_LINES, MOST_WORKERS}
use Rattle.clap.specs.Words.{App, Row, Rule, new_app, new_rule, with_rule, first_of, all_of, matches_of, fault_of, rows_of, found_of}
use Rattle.clap.specs.Kinds.{Kinds}
use Rattle.clap.specs.declared.parser.matches.ArgMatches.{ArgMatches}
use Rattle.clap.specs.declared.builder.action.ArgAction.TheVariants.{Append, SetTrue}
use Rattle.command_words.specs.declared.command.Command.{Command}
use Rattle.command_words.specs.declared.command.Command.TheVariants.{Plain, Quota, Pool, Audit, Threads, Help, Version}
use Rattle.command_words.specs.declared.command.ThreadJob.TheVariants.{Drive, Serve, Gen}
use Rattle.command_words.specs.declared.command.ServeBy.{ServeBy}
use Rattle.command_words.specs.declared.command.ServeBy.TheVariants.{Workers, Tasks}
use Rattle.command_words.specs.declared.serve_words.TheConstants.{MOST_TASKS}

-- ---- what each command takes

-- an option with a value, as `--cells N`
abbrev pub option_named : List ℕ → Rule
option_named name = record (new_rule name) { long = Some name }

-- a flag, as `--global-shadow`
abbrev pub flag_named : List ℕ → Rule
flag_named name = record (new_rule name) { long = Some name; action = Some SetTrue }

-- the names of files, one or more
abbrev pub files_named : List ℕ → Rule
files_named name = record (new_rule name) { required = true; action = Some Append }

-- `drive [--workers N] [--cells N] [--start T] [--global-shadow] [--stats] CONFIG..`
unfoldable pub drive_app : App
drive_app = with_rule (with_rule (with_rule (with_rule (with_rule (with_rule (new_app (codes "drive")) (option_named (codes "workers")))
    (option_named (codes "cells"))) (option_named (codes "start"))) (flag_named (codes "global-shadow"))) (flag_named (codes "stats")))
    (files_named (codes "configs"))

-- `lookup CONFIG..`
unfoldable pub lookup_app : App
lookup_app = with_rule (new_app (codes "lookup")) (files_named (codes "configs"))

-- an option with a value that has to be there
abbrev pub required_named : List ℕ → Rule
required_named name = record (option_named name) { required = true }

-- `quota --settings F [--workers N] STREAM..`
unfoldable pub quota_app : App
quota_app = with_rule (with_rule (with_rule (new_app (codes "quota")) (required_named (codes "settings")))
    (option_named (codes "workers"))) (files_named (codes "streams"))

-- the name of one file
abbrev pub file_named : List ℕ → Rule
file_named name = record (new_rule name) { required = true }

-- `pool --pools F EVENTS`
unfoldable pub pool_app : App
pool_app = with_rule (with_rule (new_app (codes "pool")) (required_named (codes "pools"))) (file_named (codes "events"))

-- `audit --run F [--workers N] [--cells N] [--start T] [--global-shadow] CONFIG..`
unfoldable pub audit_app : App
audit_app = with_rule (with_rule (with_rule (with_rule (with_rule (with_rule (new_app (codes "audit")) (required_named (codes "run")))
    (option_named (codes "workers"))) (option_named (codes "cells"))) (option_named (codes "start")))
    (flag_named (codes "global-shadow"))) (files_named (codes "configs"))

-- a number that has to be there
abbrev pub number_named : List ℕ → Rule
number_named name = record (new_rule name) { required = true }

-- `gen NUMBER CHECKS`
unfoldable pub gen_app : App
gen_app = with_rule (with_rule (new_app (codes "gen")) (number_named (codes "number"))) (number_named (codes "checks"))

-- `serve --port P --connections N [--workers N | --tasks N] [--cells N] [--global-shadow] [--stats] CONFIG..`
unfoldable pub serve_app : App
serve_app = with_rule (with_rule (with_rule (with_rule (with_rule (with_rule (with_rule (with_rule (new_app (codes "serve"))
    (required_named (codes "port"))) (required_named (codes "connections"))) (option_named (codes "workers"))) (option_named (codes "tasks")))
    (option_named (codes "cells"))) (flag_named (codes "global-shadow"))) (flag_named (codes "stats"))) (files_named (codes "configs"))

-- what is made of the words where a command takes them: where it has no fault in them
abbrev pub if_taken : {X : Type 0} → Kinds → Option X → Option X
if_taken [] made = made
if_taken (fault ∷ more) made = None

-- ---- values

-- digits of a number below 2^64
abbrev pub are_digits : List ℕ → Bool
are_digits ds = nat_lt 0 (length ds) && (list_all (λ d. nat_lt (digit_value d) 10) ds && nat_lt (digits_value 10 ds) 18446744073709551616)

-- the number that a text spells, before which a plus may stand
abbrev pub number_of : List ℕ → Option ℕ
number_of text = if are_digits (without_leading_plus text) then Some (digits_value 10 (without_leading_plus text)) else None

-- a number from `least` to `most`
abbrev pub if_within : ℕ → ℕ → ℕ → Option ℕ
if_within least most n = if nat_lt n least || nat_lt most n then None else Some n

-- the number of an option, the default where it isn't there, none where its text is no number from `least` to `most`
abbrev pub number_in : ℕ → ℕ → ℕ → Option (List ℕ) → Option ℕ
number_in least most default None = Some default
number_in least most default (Some text) = option_and_then (if_within least most) (number_of text)

-- whether a flag was given
abbrev pub is_given : Option (List ℕ) → Bool
is_given None = false
is_given (Some text) = bytes_eq text (codes "true")

-- ---- the commands

-- the names of the configuration files
abbrev pub configs_in : List Row → List (List ℕ)
configs_in rows = unwrap_or (all_of (codes "configs") rows) []

-- a run by these numbers, where all are there
abbrev pub job_of : List (List ℕ) → Option ℕ → Option ℕ → Option ℕ → Bool → Bool → Option Command
job_of configs (Some workers) (Some cells) (Some start) global_shadow stats =
    Some (Threads (Drive configs workers cells start global_shadow stats))
job_of configs workers cells start global_shadow stats = None

-- the run that `drive` makes: `--workers` is 1 to 64, `--cells` 1 to 1,048,576, `--start` 0 to 1,000,000,000,000
abbrev pub drive_job : List Row → Option Command
drive_job rows = job_of (configs_in rows) (number_in 1 MOST_WORKERS 1 (first_of (codes "workers") rows))
    (number_in 1 MOST_CELLS DEFAULT_CELLS (first_of (codes "cells") rows))
    (number_in 0 LATEST_MOMENT 0 (first_of (codes "start") rows)) (is_given (first_of (codes "global-shadow") rows))
    (is_given (first_of (codes "stats") rows))

-- the words of `drive`
abbrev pub drive_of : List (List ℕ) → Option Command
drive_of words = if_taken (fault_of drive_app words) (drive_job (matches_of drive_app words))

-- the words of `lookup`
abbrev pub lookup_of : List (List ℕ) → Option Command
lookup_of words = if_taken (fault_of lookup_app words) (Some (Plain (configs_in (matches_of lookup_app words))))

-- the names of the stream files
abbrev pub streams_in : List Row → List (List ℕ)
streams_in rows = unwrap_or (all_of (codes "streams") rows) []

-- a replay by these, where all are there
abbrev pub quota_job_of : Option (List ℕ) → List (List ℕ) → Option ℕ → Option Command
quota_job_of (Some settings) streams (Some workers) =
    Some (Quota (record { settings = settings; streams = streams; workers = workers }))
quota_job_of settings streams workers = None

-- the replay that `quota` makes: `--workers` is 1 to 64
abbrev pub quota_job : List Row → Option Command
quota_job rows = quota_job_of (first_of (codes "settings") rows) (streams_in rows)
    (number_in 1 MOST_WORKERS DEFAULT_WORKERS (first_of (codes "workers") rows))

-- the words of `quota`
abbrev pub quota_of : List (List ℕ) → Option Command
quota_of words = if_taken (fault_of quota_app words) (quota_job (matches_of quota_app words))

-- the answers by these, where both are there
abbrev pub pool_job_of : Option (List ℕ) → Option (List ℕ) → Option Command
pool_job_of (Some pools) (Some events) = Some (Pool (record { pools = pools; events = events }))
pool_job_of pools events = None

-- the answers that `pool` gives
abbrev pub pool_job : List Row → Option Command
pool_job rows = pool_job_of (first_of (codes "pools") rows) (first_of (codes "events") rows)

-- the words of `pool`
abbrev pub pool_of : List (List ℕ) → Option Command
pool_of words = if_taken (fault_of pool_app words) (pool_job (matches_of pool_app words))

-- the judging of a run by these, where all are there
abbrev pub audit_job_of : List (List ℕ) → Option (List ℕ) → Option ℕ → Option ℕ → Option ℕ → Bool → Option Command
audit_job_of configs (Some run) (Some workers) (Some cells) (Some start) global_shadow = Some (Audit (record {
  configs = configs;
  run = run;
  workers = workers;
  cells = cells;
  start = start;
  global_shadow = global_shadow;
}))
audit_job_of configs run workers cells start global_shadow = None

-- what `audit` judges: a run whose `--workers` was 1 to 64, `--cells` 1 to 1,048,576, `--start` 0 to 1,000,000,000,000
abbrev pub audit_job : List Row → Option Command
audit_job rows = audit_job_of (configs_in rows) (first_of (codes "run") rows) (number_in 1 MOST_WORKERS 1 (first_of (codes "workers") rows))
    (number_in 1 MOST_CELLS DEFAULT_CELLS (first_of (codes "cells") rows))
    (number_in 0 LATEST_MOMENT 0 (first_of (codes "start") rows)) (is_given (first_of (codes "global-shadow") rows))

-- the words of `audit`
abbrev pub audit_of : List (List ℕ) → Option Command
audit_of words = if_taken (fault_of audit_app words) (audit_job (matches_of audit_app words))

-- the number of an option that has to be there
abbrev pub required_in : ℕ → Option (List ℕ) → Option ℕ
required_in most None = None
required_in most (Some text) = number_in 0 most 0 (Some text)

-- What serves, by `--workers` and `--tasks`: so many threads, 1 to 64, where `--tasks` isn't there; else one thread, by so many tasks, 1 to
-- 256. Both words together aren't taken.
abbrev pub serve_by : Option (List ℕ) → Option (List ℕ) → Option ServeBy
serve_by workers None = option_map Workers (number_in 1 MOST_WORKERS DEFAULT_WORKERS workers)
serve_by None (Some tasks) = option_map Tasks (number_in 1 MOST_TASKS 1 (Some tasks))
serve_by (Some workers) (Some tasks) = None

-- the serving of connections by these, where all are there
abbrev pub serve_job_of : List (List ℕ) → Option ℕ → Option ℕ → Option ServeBy → Option ℕ → Bool → Bool → Option Command
serve_job_of configs (Some port) (Some connections) (Some by) (Some cells) global_shadow stats = Some (Threads (Serve (record {
  configs = configs;
  by = by;
  cells = cells;
  global_shadow = global_shadow;
  stats = stats;
  port = port;
  connections = connections;
})))
serve_job_of configs port connections by cells global_shadow stats = None

-- what `serve` does: `--port` is 0 to 65,535, `--connections` 0 to 1,048,576, `--cells` 1 to 1,048,576
abbrev pub serve_job : List Row → Option Command
serve_job rows = serve_job_of (configs_in rows) (required_in 65535 (first_of (codes "port") rows))
    (required_in MOST_CONNECTIONS (first_of (codes "connections") rows))
    (serve_by (first_of (codes "workers") rows) (first_of (codes "tasks") rows))
    (number_in 1 MOST_CELLS DEFAULT_CELLS (first_of (codes "cells") rows)) (is_given (first_of (codes "global-shadow") rows))
    (is_given (first_of (codes "stats") rows))

-- the words of `serve`
abbrev pub serve_of : List (List ℕ) → Option Command
serve_of words = if_taken (fault_of serve_app words) (serve_job (matches_of serve_app words))

-- the load of these numbers, where both are there
abbrev pub gen_job_of : Option ℕ → Option ℕ → Option Command
gen_job_of (Some number) (Some checks) = Some (Threads (Gen number checks))
gen_job_of number checks = None

-- the load that `gen` runs: the number is 0 to 18,446,744,073,709,551,615, and there are 0 to 1,048,576 checks
abbrev pub gen_job : List Row → Option Command
gen_job rows = gen_job_of (required_in 18446744073709551615 (first_of (codes "number") rows))
    (required_in MOST_LINES (first_of (codes "checks") rows))

-- the words of `gen`
abbrev pub gen_of : List (List ℕ) → Option Command
gen_of words = if_taken (fault_of gen_app words) (gen_job (matches_of gen_app words))

-- a command of one word
abbrev pub alone : List (List ℕ) → Command → Option Command
alone (word ∷ []) command = Some command
alone words command = None

-- the command of this name
abbrev pub command_named : List ℕ → List (List ℕ) → Option Command
command_named name words = if bytes_eq name (codes "drive") then drive_of words
    else (if bytes_eq name (codes "lookup") then lookup_of words
    else (if bytes_eq name (codes "quota") then quota_of words
    else (if bytes_eq name (codes "pool") then pool_of words
    else (if bytes_eq name (codes "audit") then audit_of words
    else (if bytes_eq name (codes "serve") then serve_of words
    else (if bytes_eq name (codes "gen") then gen_of words
    else (if bytes_eq name (codes "--help") then alone words Help
    else (if bytes_eq name (codes "--version") then alone words Version else None))))))))

-- The command that the words are: the first names it, and it takes the rest.
abbrev pub command_of : List (List ℕ) → Option Command
command_of [] = None
command_of (first ∷ more) = command_named first (first ∷ more)

-- the rows of matches
abbrev pub rows_in : ArgMatches → List Row
rows_in m = rows_of (found_of m)

-- so many threads or tasks as may be
abbrev pub IsByInRange : ServeBy → Type 0
IsByInRange (Workers workers) = (1 ≤ workers) × (workers ≤ MOST_WORKERS)
IsByInRange (Tasks tasks) = (1 ≤ tasks) × (tasks ≤ MOST_TASKS)

-- the numbers of a command are in their ranges
abbrev pub AreInRange : Command → Type 0
AreInRange (Threads (Drive configs workers cells start global_shadow stats)) =
    (1 ≤ workers) × (workers ≤ MOST_WORKERS) × (1 ≤ cells) × (cells ≤ MOST_CELLS)
AreInRange (Threads (Serve job)) =
    IsByInRange job.by × (1 ≤ job.cells) × (job.cells ≤ MOST_CELLS) × (job.connections ≤ MOST_CONNECTIONS)
AreInRange (Threads (Gen number checks)) = checks ≤ MOST_LINES
AreInRange other = ⊤
