use Rattle.std.proofs.Common.{◌≡◌, length, reverse}
use Rattle.httparse.specs.Grammar.{skip_ows}
use Rattle.http_front.proofs.asks.trim.Given as goal

abbrev pub invariant-blanks : goal.invariant-blanks
invariant-blanks l = skip_ows (reverse l.rest) ≡ skip_ows (reverse (skip_ows l.bytes))

abbrev pub decreases-blanks : goal.decreases-blanks
decreases-blanks l = length l.rest
