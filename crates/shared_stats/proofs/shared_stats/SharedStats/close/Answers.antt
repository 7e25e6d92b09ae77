use Rattle.std.proofs.Common.{◌≡◌, ℕ, ◌≤◌, ◌^◌, ◌<◌, All, get_or, sym, ap, ◌∙◌, subst, arith}
use Rattle.std.specs.Mem.Slots.{slots_items}
use Rattle.rule_stats.specs.Statistics.{nothing}
use Rattle.shared_stats.specs.Words.{numbers_in}
use Rattle.std.specs.List.{flat_map}
use Rattle.rule_stats.specs.Sums.{sums}
use Rattle.shared_stats.specs.Noted.{IsAtMost, hits_in}
use Rattle.shared_stats.specs.Passes.{notes_of, reads_of}
use Rattle.shared_stats.proofs.Closing.{closes, all_sums, numbers_are, read_before, if_ok}
use Rattle.shared_stats.proofs.shared_stats.SharedStats.close.Goals as goal

pub returns-clause-sums : goal.returns-clause-sums
returns-clause-sums c =
    let self = c.args.self in
    let ps = c.args.passes.items in
    let words = slots_items c.close_with-closed.result.words in
    let e = closes self.table.shared.key _ _ ps words _ c.join_passes-all.ensures.all (let l = c.args.passes.ok.0 in let every = c.requires.every in omega arith)
    c.close_with-closed.ensures.values.2 in
    if_ok _ (λ v. (rule : ℕ) → rule < self.rules → get_or v.items rule nothing ≡ numbers_in words rule)
    (λ v. All (λ p. hits_in (notes_of p) ≤ 2 ^ 57) ps → (rule : ℕ) → rule < self.rules → get_or v.items rule nothing ≡ sums 0 rule (flat_map notes_of ps))
    (λ v numbers few rule within. numbers rule within ∙ numbers_are _ _ rule e.added
    ∙ all_sums self.rules rule ps within (λ k d lt. ap (λ x. x.1) (c.requires.passes k d lt)) few) c.closed_numbers-numbers.ensures.numbers

pub returns-clause-reads : goal.returns-clause-reads
returns-clause-reads c =
    let self = c.args.self in
    let ps = c.args.passes.items in
    let words = slots_items c.close_with-closed.result.words in
    let e = closes self.table.shared.key _ _ ps words _ c.join_passes-all.ensures.all (let l = c.args.passes.ok.0 in let every = c.requires.every in omega arith)
    c.close_with-closed.ensures.values.2 in
    if_ok _ (λ v. (rule : ℕ) → rule < self.rules → get_or v.items rule nothing ≡ numbers_in words rule)
    (λ v. All (λ p. All (λ t. IsAtMost t.1 (get_or v.items t.0 nothing)) (reads_of p)) ps) (λ v numbers k d lt i t less.
    let p = get_or ps k d in
    let found = p.found i t less in
    let same = ap (λ x. x.1) (c.requires.passes k d lt) in
    subst (IsAtMost _) (sym (numbers _ (let f = found.0 in omega arith))) (read_before _ _ p words found.1 (e.found k d lt)))
    c.closed_numbers-numbers.ensures.numbers
