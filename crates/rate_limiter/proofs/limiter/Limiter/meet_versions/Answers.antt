use Rattle.std.proofs.Common.{refl, ap, ◌∙◌}
use Rattle.rate_limiter.specs.Passes.{PassView}
use Rattle.rate_limiter.proofs.Meeting.{never_risen, risen_then, version_then}
use Rattle.rate_limiter.proofs.limiter.Limiter.meet_versions.Goals as goal

pub loop-round-init : goal.loop-round-init
loop-round-init g c = record {
  one_of = c.requires.one;
  other_of = c.requires.other;
  one = never_risen c.args.one.now.version;
  other = never_risen c.args.other.now.version;
  one_rest = refl;
  other_rest = refl;
}

pub loop-round-preserved : goal.loop-round-preserved
loop-round-preserved g c =
    let i = c.loop-round.invariant in
    record {
      one_of = ap (λ (x : PassView). x.limiter) c.catch_up.ensures.rest ∙ i.one_of;
      other_of = ap (λ (x : PassView). x.limiter) c.catch_up-in-loop-round.ensures.rest ∙ i.other_of;
      one = risen_then c.args.one.now.version c.loop-round.one.version c.catch_up.new.pass.version i.one c.catch_up.ensures.risen;
      other = risen_then c.args.other.now.version c.loop-round.other.version c.catch_up-in-loop-round.new.pass.version i.other c.catch_up-in-loop-round.ensures.risen;
      one_rest = version_then c.args.one.now c.loop-round.one c.catch_up.new.pass i.one_rest c.catch_up.ensures.rest;
      other_rest = version_then c.args.other.now c.loop-round.other c.catch_up-in-loop-round.new.pass i.other_rest c.catch_up-in-loop-round.ensures.rest;
    }
