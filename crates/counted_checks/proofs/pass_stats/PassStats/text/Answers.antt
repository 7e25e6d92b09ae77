use Rattle.std.proofs.Common.{rules, ◌≡◌, ℕ, List, Option, Some, map, sym, ap, ◌∙◌, subst}
use Rattle.shared_stats.specs.Passes.{notes_of, reads_of}
use Rattle.counted_checks.specs.Made.{GoesWith}
use Rattle.counted_checks.proofs.Telling.{told_on, told_more, is_read}
use Rattle.counted_checks.proofs.pass_stats.PassStats.text.Goals as goal

pub invariant_of-self-2 : goal.invariant_of-self-2
invariant_of-self-2 c =
    let stats = c.self.inside.stats.now in
    let s = c.in-Some-Some.stats.now in
    let p = c.in-Some-Some.pass.now in
    let q = c.text.new.pass in
    let told = map (λ x. x.0) c.self.inside.told.items in
    let is : stats ≡ Some s = search rules in
    let has : c.self.inside.pass ≡ Some p = search rules in
    let goes : GoesWith stats c.self.inside.pass told = c.self.invariant in
    let all = (subst (λ (o : Option _). GoesWith o (Some p) told) is (subst (λ (o : Option _). GoesWith stats o told) has goes)).0 in
    let t = c.in_ok-text.ensures.text in
    let read = is_read _ all (notes_of p) (reads_of p) (reads_of q) c.of-text.result t.0 t.1 (c.of-text.ensures ∙ t.2) in
    subst (λ (ts : List (List ℕ)). GoesWith stats (Some q) ts) (sym (ap (map (λ x. x.0)) c.and-self-inside.ensures ∙ told_more c.self.inside.told.items c.of-text.result tt))
    (told_on stats c.self.inside.pass told goes s p q is has c.in_ok-text.ensures.pass c.in_ok-text.ensures.grows.0 c.in_ok-text.ensures.grows.1 c.of-text.result read)
