use Rattle.std.proofs.Common.{◌≡◌, ◌≤◌, length, map, All}
use Rattle.httparse.specs.Spans.{header_bytes, IsHeaderWithin}
use Rattle.http_front.specs.Asks.{values_of}
use Rattle.http_front.proofs.asks.first_value.Given as goal

abbrev pub invariant-fields : goal.invariant-fields
invariant-fields l = record {
  same : values_of l.name (map (header_bytes l.head) l.fn.fields) ≡ values_of l.name (map (header_bytes l.head) l.rest);
  fits : All (IsHeaderWithin (length l.head)) l.rest;
  within : length l.rest ≤ length l.fn.fields;
}

abbrev pub decreases-fields : goal.decreases-fields
decreases-fields l = length l.rest
