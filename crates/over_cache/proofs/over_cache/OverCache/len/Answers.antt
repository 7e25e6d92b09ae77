use Rattle.std.proofs.Common.{subst, arith}
use Rattle.std.proofs.lemmas.List.{length-map}
use Rattle.over_cache.specs.declared.key_bytes.KeyBytes.{KeyBytes}
use Rattle.over_cache.specs.Entries.{AreEntries}
use Rattle.over_cache.proofs.Shown.{shown, distinct-shown}
use Rattle.over_cache.proofs.over_cache.OverCache.len.Goals as goal

pub returns-clause-entries : goal.returns-clause-entries
returns-clause-entries c =
    let es = c.self.inside.keys.entries in
    let few = c.len.ensures.valid.1 in
    let cap = c.self.invariant in
    let same = length-map es (shown (λ (v : KeyBytes). v.bytes.items)) in
    subst AreEntries c.self.view_is (record {
      differ = distinct-shown (λ (v : KeyBytes). v.bytes.items) es c.len.ensures.valid.0;
      few = omega arith;
    })
