use Rattle.std.proofs.Common.{◌≡◌, ◌++◌, map, drop, string_bytes}
use Rattle.rule_stats.specs.Lines.{version_texts}
use Rattle.rule_stats.proofs.texts.push_versions.Given as goal

abbrev pub invariant-versions : goal.invariant-versions
invariant-versions l = map (λ t. string_bytes t) l.texts.items ++ version_texts l.place (drop l.place l.fn.versions)
    ≡ map (λ t. string_bytes t) l.fn.texts.items ++ version_texts 0 l.fn.versions
