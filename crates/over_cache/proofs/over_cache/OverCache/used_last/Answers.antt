use Rattle.std.proofs.Common.{◌≡◌, ◌∙◌, sym, ap, subst}
use Rattle.over_cache.specs.declared.key_bytes.KeyBytes.{KeyBytes}
use Rattle.over_cache.specs.Entries.{Entries, is_key, known_of, asked}
use Rattle.over_cache.proofs.Shown.{first_known, first_stays}
use Rattle.over_cache.proofs.over_cache.OverCache.used_last.Goals as goal

pub returns-then-equivalent-clause-known : goal.returns-then-equivalent-clause-known
returns-then-equivalent-clause-known c =
    sym (ap (known_of c.args.key.now) c.self.view_is)
    ∙ first_known (λ (v : KeyBytes). v.bytes.items) (is_key c.args.key.now) c.self.inside.keys.entries
    (c.in_ok-last.last.now, c.in_ok-last.known.now) (sym c.in_ok-last.ensures) (sym c.if-equivalent.ensures)

pub returns-then-equivalent-clause-order : goal.returns-then-equivalent-clause-order
returns-then-equivalent-clause-order c = λ _.
    subst (λ (es : Entries). asked c.args.key.now es ≡ es) c.self.view_is
    (first_stays (λ (v : KeyBytes). v.bytes.items) (is_key c.args.key.now) c.self.inside.keys.entries
    (c.in_ok-last.last.now, c.in_ok-last.known.now) (sym c.in_ok-last.ensures) (sym c.if-equivalent.ensures))
