use Rattle.std.proofs.Common.{◌&&◌, ◌∙◌, ap}
use Rattle.run_audit.proofs.Tests.{both, renamed}
use Rattle.run_audit.proofs.moments.moments_never_fall.Goals as goal

pub returns : goal.returns
returns c =
    let s = both c.in_ok-never_fall.never_fall c.in_ok-timely.timely c.in_ok-never_fall.ensures c.in_ok-timely.ensures in
    let d = both (c.in_ok-never_fall.never_fall && c.in_ok-timely.timely) c.each_line-shown.result s c.each_line-shown.ensures in
    renamed _ _ (c.both-stands.ensures ∙ ap (λ b. b && c.each_line-shown.result) c.both-sourced.ensures)
    (λ h. let e = d.0 h in record { never_fall = e.0.0; timely = e.0.1; shown = e.1 }, λ m. d.1 ((m.never_fall, m.timely), m.shown))
