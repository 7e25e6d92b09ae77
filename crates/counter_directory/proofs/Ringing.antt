-- Windows of rings.
use Rattle.std.proofs.Common.{◌≡◌, ◌≢◌, ◌⊎◌, ℕ, zero, suc, ◌+◌, ◌-◌, ◌%◌, ◌≤◌, ◌<◌, List, [], set, refl, sym, ap, ◌∙◌, subst, arith, inl, inr}
use mathlib.Core.Option.{some}
use lib.ListN.{get_elem?}
use native.Mathlib.Decide.{dec_le}
use Rattle.counter_directory.proofs.Lists.{at_set}
use Rattle.counter_directory.specs.declared.ring.Ring.{Ring}
use Rattle.rate_types.specs.declared.unit.Unit.{Unit}
use Rattle.rate_types.specs.declared.unit.Unit.TheVariants.{Second, Minute, Hour, Day}
use Rattle.rate_types.specs.declared.counter_key.CounterKey.{CounterKey}
use Rattle.rate_types.specs.Units.{unit_rank, seconds_of}
use Rattle.window_keys.specs.Window.{window_start}
use Rattle.window_keys.specs.Counter.{window_end_of}
use Rattle.counter_directory.specs.Windows.{len_of, start_at, end_at, RingWindows, RingsFit, ExpiredBelow, KeepsFits}

-- the one multiple of the unit that is behind the moment and at most a unit away
pub end_is : (u e t : ℕ) → e % len_of u ≡ 0 → e ≤ t + len_of u → t < e → e ≡ end_at u t
end_is zero e t m le lt = omega arith
end_is (suc zero) e t m le lt = omega arith
end_is (suc (suc zero)) e t m le lt = omega arith
end_is (suc (suc (suc n))) e t m le lt = omega arith

pub end_whole : (u t : ℕ) → (end_at u t % len_of u ≡ 0) × (end_at u t ≤ t + len_of u) × (start_at u t ≤ t) × (t < end_at u t)
end_whole zero t = (omega arith, omega arith, omega arith, omega arith)
end_whole (suc zero) t = (omega arith, omega arith, omega arith, omega arith)
end_whole (suc (suc zero)) t = (omega arith, omega arith, omega arith, omega arith)
end_whole (suc (suc (suc n))) t = (omega arith, omega arith, omega arith, omega arith)

pub windows_later : (last m : ℕ) (rings : List Ring) → last ≤ m → RingWindows last rings → RingWindows m rings
windows_later last m rings le w u r at = let x = w u r at in (x.0, omega arith)

pub windows_set : (last u : ℕ) (r s : Ring) (rings : List Ring) → get_elem? rings u ≡ some r → s.end ≡ r.end → RingWindows last rings → RingWindows last (set rings u s)
windows_set last u r s rings at same w v t here = pick (at_set rings u v s t here)
  where
    pick : ((v ≡ u) × (s ≡ t)) ⊎ ((v ≢ u) × (get_elem? rings v ≡ some t)) → (t.end % len_of v ≡ 0) × (t.end ≤ last + len_of v)
    pick (inl x) = let y = w u r at in let e : r.end ≡ t.end = sym same ∙ ap (λ (q : Ring). q.end) x.1 in
        subst (λ k. (t.end % len_of k ≡ 0) × (t.end ≤ last + len_of k)) (sym x.0) (subst (λ k. (k % len_of u ≡ 0) × (k ≤ last + len_of u)) e y)
    pick (inr x) = w v t x.1

pub windows_new : (last u : ℕ) (s : Ring) (rings : List Ring) → s.end ≡ end_at u last → RingWindows last rings → RingWindows last (set rings u s)
windows_new last u s rings is w v t here = pick (at_set rings u v s t here)
  where
    pick : ((v ≡ u) × (s ≡ t)) ⊎ ((v ≢ u) × (get_elem? rings v ≡ some t)) → (t.end % len_of v ≡ 0) × (t.end ≤ last + len_of v)
    pick (inl x) = let y = end_whole u last in let e : end_at u last ≡ t.end = sym is ∙ ap (λ (q : Ring). q.end) x.1 in
        subst (λ k. (t.end % len_of k ≡ 0) × (t.end ≤ last + len_of k)) (sym x.0) (subst (λ k. (k % len_of u ≡ 0) × (k ≤ last + len_of u)) e (y.0, y.1))
    pick (inr x) = w v t x.1

pub rings_fit : (last : ℕ) (rings : List Ring) → RingWindows last rings → ExpiredBelow 4 last rings → RingsFit last rings
rings_fit last rings w expired u lt r at = pick (dec_le r.end last)
  where
    pick : Dec (r.end ≤ last) → (r.cells.items ≡ []) ⊎ (r.end ≡ end_at u last)
    pick (yes le) = inl (expired u lt r at le)
    pick (no n) = let x = w u r at in inr (end_is u r.end last x.0 x.1 (omega arith))

pub fit_kept : (last u : ℕ) (rings new : List Ring) → KeepsFits u (end_at u last) rings new → RingsFit last rings → RingsFit last new
fit_kept last u rings new keep fit v lt = keep v (end_at v last) (λ e. ap (λ k. end_at k last) e) (fit v lt)

-- the unit of a place, and the window of a counter
rank_len : (u : Unit) → len_of (unit_rank u) ≡ seconds_of u
rank_len Second = refl
rank_len Minute = refl
rank_len Hour = refl
rank_len Day = refl

pub end_rank : (t : ℕ) (k : CounterKey) → k.start ≡ window_start k.name.unit t → window_end_of k ≡ end_at (unit_rank k.name.unit) t
end_rank t k e = let r = rank_len k.name.unit in ap (λ n. n + seconds_of k.name.unit) e ∙ ap (λ n. t - t % n + n) (sym r)

pub end_later : (t : ℕ) (k : CounterKey) → k.start ≡ window_start k.name.unit t → t < window_end_of k
end_later t k e = let w = end_whole (unit_rank k.name.unit) t in subst (λ n. t < n) (sym (end_rank t k e)) w.3

pub start_before : (t : ℕ) (k : CounterKey) → k.start ≡ window_start k.name.unit t → k.start ≤ t
start_before t k e = subst (λ n. n ≤ t) (sym e) (omega arith)

pub rank_few : (u : Unit) → unit_rank u < 4
rank_few Second = omega arith
rank_few Minute = omega arith
rank_few Hour = omega arith
rank_few Day = omega arith
