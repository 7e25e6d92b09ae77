use Rattle.std.proofs.Common.{◌≡◌, ◌<◌, ◌++◌, ◌∷◌, [], slice_index, string_bytes, arith, ap, ◌∙◌}
use Rattle.script_text.proofs.Plain.{low_at, step_more}
use Rattle.script_text.proofs.within.behind.Goals as goal

pub steps-preserved : goal.steps-preserved
steps-preserved c =
    let low : slice_index c.args.steps.now c.steps.index < 126 = low_at c.args.steps.now c.steps.index c.requires c.steps-test.true in
    let pushed : string_bytes c.push.new.self ≡ string_bytes c.steps.step ++ slice_index c.args.steps.now c.steps.index ∷ [] =
    c.in_ok-push.ensures.bytes ∙ ap (λ e. string_bytes c.steps.step ++ e) (c.in_ok-push.ensures.ascii (omega arith)) in
    let both = step_more c.steps.place c.args.base (string_bytes c.steps.step) (string_bytes c.push.new.self) c.args.steps.now c.steps.index
    c.steps.invariant.far c.steps.invariant.step c.requires c.steps-test.true c.if-b-eq47.false pushed in
    record { far = both.0; step = both.1 }
