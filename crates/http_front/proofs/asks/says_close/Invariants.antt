use Rattle.std.proofs.Common.{◌≡◌, length, map, All, codes}
use Rattle.httparse.specs.Spans.{header_bytes, IsHeaderWithin}
use Rattle.http_front.specs.Asks.{values_of, says_close}
use Rattle.http_front.proofs.asks.says_close.Given as goal

abbrev pub invariant-values : goal.invariant-values
invariant-values l = record {
  same : says_close (values_of (codes "connection") (map (header_bytes l.head) l.rest)) ≡ says_close (values_of (codes "connection") (map (header_bytes l.head) l.fn.fields));
  fits : All (IsHeaderWithin (length l.head)) l.rest;
}

abbrev pub decreases-values : goal.decreases-values
decreases-values l = length l.rest
