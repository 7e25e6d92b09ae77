-- Inside: the commands that take words, by their names.
use Rattle.std.specs.Prelude.{ℕ, List, Option, Some}
use Rattle.clap.specs.Words.{App, Row, matches_of, fault_of}
use Rattle.command_words.specs.declared.command.Command.{Command}
use Rattle.command_words.specs.declared.command.Command.TheVariants.{Plain}
use Rattle.command_words.specs.declared.named.CommandName.{CommandName}
use Rattle.command_words.specs.declared.named.CommandName.TheVariants as name
use Rattle.command_words.specs.Words.{drive_app, lookup_app, quota_app, pool_app, audit_app, serve_app, gen_app, if_taken, configs_in}
use Rattle.command_words.specs.Words.{drive_job, quota_job, pool_job, audit_job, serve_job, gen_job}

-- what the command of a name takes
abbrev pub app_named : CommandName → App
app_named name.Drive = drive_app
app_named name.Lookup = lookup_app
app_named name.Quota = quota_app
app_named name.Pool = pool_app
app_named name.Audit = audit_app
app_named name.Serve = serve_app
app_named name.Gen = gen_app

-- what it does by what was found
abbrev pub job_named : CommandName → List Row → Option Command
job_named name.Drive rows = drive_job rows
job_named name.Lookup rows = Some (Plain (configs_in rows))
job_named name.Quota rows = quota_job rows
job_named name.Pool rows = pool_job rows
job_named name.Audit rows = audit_job rows
job_named name.Serve rows = serve_job rows
job_named name.Gen rows = gen_job rows

-- its words
abbrev pub words_named : CommandName → List (List ℕ) → Option Command
words_named name words = if_taken (fault_of (app_named name) words) (job_named name (matches_of (app_named name) words))
