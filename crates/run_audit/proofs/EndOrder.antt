-- Counters by the ends of their windows.
use Rattle.std.proofs.Common.{◌≡◌, ℕ, Bool, true, false, refl, sym, ap, ◌∙◌, arith}
use Rattle.std.proofs.Common.{Ordering, Less, Equal, Greater, is_eq}
use Rattle.std.specs.Ordering.{nat_cmp, ordering_then}
use Rattle.std.specs.BTreeMap.{is_at}
use Rattle.std.specs.Map.{lookup}
use Rattle.std.proofs.lemmas.Bool.Decides.{nat_tests}
use Rattle.rate_types.specs.Counters.{key_cmp, same_counter}
use Rattle.rate_types.specs.contracts.counter_key.CounterKeyOrd.TheImpl.Laws.{matches_eq-law}
use Rattle.window_keys.specs.Counter.{window_end_of}
use Rattle.window_keys.proofs.Counters.{same_is}
use Rattle.run_audit.specs.ByEnd.{Binders, binder_at}
use Rattle.run_audit.specs.EndOrder.{end_cmp}
use Rattle.run_audit.specs.declared.counter_by_end.CounterByEnd.{CounterByEnd}
use mathlib.Core.Path.{fun_ext}

last_differs : (o p : Ordering) → is_eq p ≡ false → is_eq (ordering_then o p) ≡ false
last_differs Less p e = refl
last_differs Equal p e = e
last_differs Greater p e = refl

same_number : (m n : ℕ) → m ≡ n → nat_cmp m n ≡ Equal
same_number m n e = grind (arith, nat_tests)

-- equal counters have one end
pub same_end : (x y : CounterByEnd) → is_eq (end_cmp x y) ≡ same_counter x.counter y.counter
same_end x y = by (same_counter x.counter y.counter) refl
  where
    by : (s : Bool) → same_counter x.counter y.counter ≡ s → is_eq (end_cmp x y) ≡ same_counter x.counter y.counter
    by true e =
        ap (λ (o : Ordering). is_eq (ordering_then o (key_cmp x.counter y.counter)))
        (same_number x.end y.end (x.is ∙ ap window_end_of (same_is x.counter y.counter e) ∙ sym y.is))
        ∙ sym (matches_eq-law x.counter y.counter)
    by false e = last_differs (nat_cmp x.end y.end) (key_cmp x.counter y.counter) (sym (matches_eq-law x.counter y.counter) ∙ e) ∙ sym e

pub found_by_end : (k : CounterByEnd) (binders : Binders) → lookup (is_at (end_cmp k)) binders ≡ binder_at binders k.counter
found_by_end k binders = ap (λ (t : CounterByEnd → Bool). lookup t binders) (fun_ext (same_end k))
