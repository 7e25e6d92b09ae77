-- Inside: the calls on a stream, in order, and the stream after them.
use Rattle.std.specs.Prelude.{List, [], ◌∷◌}
use Rattle.quota_settings.specs.Covering.{AllSettings}
use Rattle.quota_settings.specs.declared.pair.Pair.{Pair}
use Rattle.quota_buckets.specs.Streams.{Stream, new_stream, advanced_to, connected, asked_again, requested, assigned_in, abandoned_in}
use Rattle.quota_buckets.specs.declared.call.Call.{Call}
use Rattle.quota_buckets.specs.declared.call.Call.TheVariants.{Advance, SetUp, Request, Decide, Assign, Abandon}

-- the stream after a call, which has attributes or the name of a bucket
abbrev pub after_call : Call → List Pair → Stream → Stream
after_call (Advance at) pairs s = advanced_to at s
after_call (SetUp up) pairs s = connected up s
after_call Request pairs s = requested pairs s
after_call Decide pairs s = asked_again pairs s
after_call (Assign lifetime strategy) pairs s = assigned_in pairs lifetime strategy s
after_call Abandon pairs s = abandoned_in pairs s

-- the stream after calls in order
abbrev pub after_calls : Stream → List (Call × List Pair) → Stream
after_calls s [] = s
after_calls s (call ∷ calls) = after_calls (after_call call.0 call.1 s) calls

-- the stream of settings after all its calls
abbrev pub stream_of : AllSettings → List (Call × List Pair) → Stream
stream_of settings calls = after_calls (new_stream settings) calls
