use Rattle.std.proofs.Common.{◌≡◌, ◌≤◌, ◌-◌, nat_le, ℕ, arith, subst}
use Rattle.rule_stats.specs.Statistics.{hits_where, near_from, is_within, is_near, is_over}
use Rattle.rule_stats.proofs.Hits.{hits_over, hits_near, charged_same}
use Rattle.rule_stats.proofs.numbers.numbers_charged.Goals as goal

pub overflow_sub-near : goal.overflow_sub-near
overflow_sub-near c =
    let b : ℕ = c.args.before in
    let h : ℕ = c.args.hits in
    let least : near_from c.args.limit ≤ c.args.limit = subst (λ (n : ℕ). n ≤ c.args.limit) c.near_from.ensures.near c.near_from.ensures.least in
    let low : c.hits_up_to.result ≡ hits_where (λ value. nat_le value (near_from c.args.limit)) b h =
    subst (λ (n : ℕ). c.hits_up_to.result ≡ hits_where (λ value. nat_le value n) b h) c.near_from.ensures.near c.hits_up_to.ensures.number in
    let within : c.hits_up_to-within.result ≡ hits_where (is_within c.args.limit) b h =
    subst (λ (n : ℕ). c.hits_up_to-within.result ≡ hits_where (λ value. nat_le value n) b h) c.from.ensures c.hits_up_to-within.ensures.number in
    let sum = hits_near c.args.limit b h least in
    omega (arith, low, within, sum)

pub returns : goal.returns
returns c =
    let b : ℕ = c.args.before in
    let h : ℕ = c.args.hits in
    let least : near_from c.args.limit ≤ c.args.limit = subst (λ (n : ℕ). n ≤ c.args.limit) c.near_from.ensures.near c.near_from.ensures.least in
    let low : c.hits_up_to.result ≡ hits_where (λ value. nat_le value (near_from c.args.limit)) b h =
    subst (λ (n : ℕ). c.hits_up_to.result ≡ hits_where (λ value. nat_le value n) b h) c.near_from.ensures.near c.hits_up_to.ensures.number in
    let within : c.hits_up_to-within.result ≡ hits_where (is_within c.args.limit) b h =
    subst (λ (n : ℕ). c.hits_up_to-within.result ≡ hits_where (λ value. nat_le value n) b h) c.from.ensures c.hits_up_to-within.ensures.number in
    let near : c.hits_up_to-within.result - c.hits_up_to.result ≡ hits_where (is_near c.args.limit) b h =
    omega (arith, low, within, hits_near c.args.limit b h least) in
    let over : c.from-2.result - c.hits_up_to-within.result ≡ hits_where (is_over c.args.limit) b h =
    omega (arith, c.from-2.ensures, within, hits_over c.args.limit b h) in
    charged_same c.args.limit c.args.code b h c.from-3.result c.hits_up_to-within.result (c.hits_up_to-within.result - c.hits_up_to.result)
    (c.from-2.result - c.hits_up_to-within.result) c.let_pass.result c.from-3.ensures within near over c.let_pass.ensures
