use Rattle.std.proofs.Common.{◌≡◌, ℕ, List, ◌∷◌, if◌then◌else◌, subst, arith}
use Rattle.rate_types.specs.Sums.{one_if}
use Rattle.rate_types.specs.Counters.{same_text}
use Rattle.quota_server.specs.Shares.{Share}
use Rattle.quota_server.specs.Holds.{is_none_of, first_of, after_end}
use Rattle.quota_server.specs.Kept.{counts_in}
use Rattle.quota_server.specs.Lives.{IsKept}
use Rattle.quota_server.proofs.Living.{end_kept, end_less}
use Rattle.quota_server.proofs.live.end_first.Goals as goal

pub overflow_sub-live : goal.overflow_sub-live
overflow_sub-live c =
    let l = c.args.live.now in
    let s = c.in-Some.first in
    let kept : IsKept (s ∷ c.pop_front.new.self.items) (counts_in l.holds) l.held l.clients =
    subst (λ (ss : List Share). IsKept ss (counts_in l.holds) l.held l.clients) c.in-Some.ensures.items c.requires.live in
    let then_ : (d : List ℕ) → counts_in c.end.new.self d
    ≡ (if same_text s.client d then after_end s.count (counts_in l.holds d) else counts_in l.holds d) =
    λ d. rw (c.client-2.ensures, c.count.ensures) at c.end.ensures.ended d in
    let less = end_less s c.pop_front.new.self.items (counts_in l.holds) (counts_in c.end.new.self) l.held l.clients kept then_ in
    let before : c.greatest-before.result ≡ first_of (counts_in l.holds s.client) = rw c.client.ensures at c.greatest-before.ensures in
    let after : c.greatest-after.result ≡ first_of (counts_in c.end.new.self s.client) = rw c.client-3.ensures at c.greatest-after.ensures in
    omega (arith, before, after, less.less)

pub overflow_sub-live-2 : goal.overflow_sub-live-2
overflow_sub-live-2 c =
    let l = c.args.live.now in
    let s = c.in-Some.first in
    let kept : IsKept (s ∷ c.pop_front.new.self.items) (counts_in l.holds) l.held l.clients =
    subst (λ (ss : List Share). IsKept ss (counts_in l.holds) l.held l.clients) c.in-Some.ensures.items c.requires.live in
    let then_ : (d : List ℕ) → counts_in c.end.new.self d
    ≡ (if same_text s.client d then after_end s.count (counts_in l.holds d) else counts_in l.holds d) =
    λ d. rw (c.client-2.ensures, c.count.ensures) at c.end.ensures.ended d in
    let less = end_less s c.pop_front.new.self.items (counts_in l.holds) (counts_in c.end.new.self) l.held l.clients kept then_ in
    let before : c.greatest-before.result ≡ first_of (counts_in l.holds s.client) = rw c.client.ensures at c.greatest-before.ensures in
    omega (arith, before, less.within)

pub overflow_sub-live-3 : goal.overflow_sub-live-3
overflow_sub-live-3 c =
    let l = c.args.live.now in
    let s = c.in-Some.first in
    let kept : IsKept (s ∷ c.pop_front.new.self.items) (counts_in l.holds) l.held l.clients =
    subst (λ (ss : List Share). IsKept ss (counts_in l.holds) l.held l.clients) c.in-Some.ensures.items c.requires.live in
    let then_ : (d : List ℕ) → counts_in c.end.new.self d
    ≡ (if same_text s.client d then after_end s.count (counts_in l.holds d) else counts_in l.holds d) =
    λ d. rw (c.client-2.ensures, c.count.ensures) at c.end.ensures.ended d in
    let less = end_less s c.pop_front.new.self.items (counts_in l.holds) (counts_in c.end.new.self) l.held l.clients kept then_ in
    let none : c.one_if.result ≡ one_if (is_none_of (counts_in c.end.new.self s.client)) =
    rw (c.lacks.ensures, c.client-4.ensures) at c.one_if.ensures in
    omega (arith, none, less.some)

pub returns-clause-live : goal.returns-clause-live
returns-clause-live c =
    let l = c.args.live.now in
    let s = c.in-Some.first in
    let kept : IsKept (s ∷ c.pop_front.new.self.items) (counts_in l.holds) l.held l.clients =
    subst (λ (ss : List Share). IsKept ss (counts_in l.holds) l.held l.clients) c.in-Some.ensures.items c.requires.live in
    let then_ : (d : List ℕ) → counts_in c.end.new.self d
    ≡ (if same_text s.client d then after_end s.count (counts_in l.holds d) else counts_in l.holds d) =
    λ d. rw (c.client-2.ensures, c.count.ensures) at c.end.ensures.ended d in
    let before : c.greatest-before.result ≡ first_of (counts_in l.holds s.client) = rw c.client.ensures at c.greatest-before.ensures in
    let after : c.greatest-after.result ≡ first_of (counts_in c.end.new.self s.client) = rw c.client-3.ensures at c.greatest-after.ensures in
    let none : c.one_if.result ≡ one_if (is_none_of (counts_in c.end.new.self s.client)) =
    rw (c.lacks.ensures, c.client-4.ensures) at c.one_if.ensures in
    rw (before, after, none) (end_kept s c.pop_front.new.self.items (counts_in l.holds) (counts_in c.end.new.self) l.held l.clients kept then_)
