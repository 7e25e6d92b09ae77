use Rattle.std.proofs.Common.{◌≡◌, ◌<◌, ℕ, subst, get_or}
use Rattle.std.specs.List.{flat_map}
use Rattle.std.specs.Prelude.{Option}
use Rattle.rule_stats.specs.Statistics.{nothing}
use Rattle.rule_stats.specs.Sums.{sums}
use Rattle.shared_stats.specs.Passes.{notes_of}
use Rattle.shared_stats.specs.declared.shared_stats.SharedStats.{SharedStats}
use Rattle.counted_checks.specs.Made.{AreOf}
use Rattle.counted_checks.proofs.Closing.{closed_with}
use Rattle.counted_checks.proofs.made.close_stats.Goals as goal

pub returns-in_ok-close : goal.returns-in_ok-close
returns-in_ok-close c =
    let ps = c.args.passes.items in
    let ends = c.in_ok-close.field-0.items in
    let of = subst (λ (o : Option SharedStats). AreOf o ps) c.in-Some.is c.requires.passes in
    closed_with ps ends
    (λ few. subst (λ (n : ℕ). (rule : ℕ) → rule < n → get_or ends rule nothing ≡ sums 0 rule (flat_map notes_of ps)) of.0 (c.in_ok-close.ensures.sums few))
    c.in_ok-close.ensures.reads
