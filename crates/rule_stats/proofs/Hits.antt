-- How many hits leave a counter within, near or over a limit.
use Rattle.std.proofs.Common.{◌≡◌, ℕ, zero, suc, ◌+◌, ◌-◌, ◌≤◌, min, nat_le, refl, arith}
use Rattle.rls_core.specs.declared.status.Code.{Code}
use Rattle.rule_stats.specs.Statistics.{hits_where, near_from, is_within, is_near, is_over, let_pass, numbers_charged}

-- up to a value
pub hits_up_to : (most before hits : ℕ) → hits_where (λ value. nat_le value most) before hits ≡ min hits (most - before)
hits_up_to most before zero = omega arith
hits_up_to most before (suc hits) = grind (arith, hits_up_to most before hits)

-- those over a limit are the others
pub hits_over : (limit before hits : ℕ) → hits_where (is_over limit) before hits + hits_where (is_within limit) before hits ≡ hits
hits_over limit before zero = refl
hits_over limit before (suc hits) = grind (arith, hits_over limit before hits)

-- those near it are the ones within it that leave the counter above four fifths
pub hits_near : (limit before hits : ℕ) → near_from limit ≤ limit
    → hits_where (is_near limit) before hits + hits_where (λ value. nat_le value (near_from limit)) before hits
    ≡ hits_where (is_within limit) before hits
hits_near limit before zero h = refl
hits_near limit before (suc hits) h = grind (arith, h, hits_near limit before hits h)

-- numbers that are those of charged hits, each by itself
pub charged_same : (limit : ℕ) (c : Code) (before hits total within near over shadow : ℕ) → total ≡ hits
    → within ≡ hits_where (is_within limit) before hits → near ≡ hits_where (is_near limit) before hits
    → over ≡ hits_where (is_over limit) before hits → shadow ≡ let_pass c over
    → record { total = total; within = within; near = near; over = over; seen = 0; shadow = shadow }
    ≡ numbers_charged limit c before hits
charged_same limit c before hits total within near over shadow all low close above passed = rw (passed, all, low, close, above) refl
