-- Ticks counted line after line.
use Rattle.std.proofs.Common.{◌≡◌, ℕ, suc, ◌+◌, ◌<◌, ◌≤◌, ◌==◌, ◌&&◌, not, Bool, true, false, cond, List, [], ◌∷◌, ◌++◌, length, take, get_or, map, refl, sym, ap, ap₂, ◌∙◌, subst}
use Rattle.std.proofs.Common.{arith, is_eq}
use Rattle.std.specs.Ordering.{nat_cmp, ordering_then}
use Rattle.std.proofs.lemmas.Bool.Decides.{nat_tests, Decides-eqb}
use Rattle.std.proofs.lemmas.List.{length-map, length-take-le, map-append, take_more}
use Rattle.reply_text.specs.declared.record.Record.{Record}
use Rattle.script_run.specs.ScriptLine.{ScriptLine, check, reload, tick, bad}
use Rattle.script_run.specs.Moments.{offer_of, offers}
use Rattle.script_run.specs.Views.{line_view}
use Rattle.script_run.specs.declared.line.Line.{Line}
use Rattle.run_audit.specs.Ticks.{ticks_in}
use Rattle.run_audit.proofs.OfferSums.{offers_append}
use Rattle.run_audit.specs.declared.ticks.Ticker.{Ticker}

pub same_ticker : (m w n v : ℕ) → is_eq (ordering_then (nat_cmp m n) (nat_cmp w v)) ≡ ((m == n) && (w == v))
same_ticker m w n v = grind (arith, nat_tests)

pub same_moment : (m n : ℕ) → is_eq (nat_cmp m n) ≡ (m == n)
same_moment m n = grind (arith, nat_tests)

at_most_one : (m : ℕ) (l : ScriptLine) → offer_of m l ≤ 1
at_most_one m (check q) = omega arith
at_most_one m (reload config) = omega arith
at_most_one m (tick now) = by (now == m)
  where
    by : (b : Bool) → cond b 1 0 ≤ 1
    by true = omega arith
    by false = omega arith
at_most_one m (bad refused) = omega arith

pub offers_few : (by : ℕ → Bool) (m : ℕ) (ls : List ScriptLine) (rs : List Record) → offers by m ls rs ≤ length ls
offers_few by m [] rs = omega arith
offers_few by m (l ∷ ls) [] = omega arith
offers_few by m (l ∷ ls) (r ∷ rs) = one (by r.worker) (offers_few by m ls rs) (at_most_one m l)
  where
    one : (b : Bool) → offers by m ls rs ≤ length ls → offer_of m l ≤ 1 → cond b (offer_of m l) 0 + offers by m ls rs ≤ suc (length ls)
    one true few least = omega (arith, few, least)
    one false few least = omega (arith, few)

-- the offers of others and one's own are all
pub offers_split : (w m : ℕ) (ls : List ScriptLine) (rs : List Record)
    → offers (λ v. not (v == w)) m ls rs + offers (λ v. v == w) m ls rs ≡ offers (λ v. true) m ls rs
offers_split w m [] rs = refl
offers_split w m (l ∷ ls) [] = refl
offers_split w m (l ∷ ls) (r ∷ rs) = one (r.worker == w) (offers_split w m ls rs)
  where
    one : (b : Bool) → offers (λ v. not (v == w)) m ls rs + offers (λ v. v == w) m ls rs ≡ offers (λ v. true) m ls rs
        → (cond (not b) (offer_of m l) 0 + offers (λ v. not (v == w)) m ls rs) + (cond b (offer_of m l) 0 + offers (λ v. v == w) m ls rs)
        ≡ offer_of m l + offers (λ v. true) m ls rs
    one true e = omega (arith, e)
    one false e = omega (arith, e)

pub offers_more : (by : ℕ → Bool) (m i : ℕ) (lines : List Line) (rs : List Record) (x : Line) (r : Record) → length rs ≡ length lines → i < length lines
    → x ≡ get_or lines i x → r ≡ get_or rs i r
    → offers by m (map line_view (take (i + 1) lines)) (take (i + 1) rs)
    ≡ offers by m (map line_view (take i lines)) (take i rs) + cond (by r.worker) (offer_of m (line_view x)) 0
offers_more by m i lines rs x r same within is_x is_r =
    let more_lines : map line_view (take (i + 1) lines) ≡ map line_view (take i lines) ++ line_view x ∷ [] =
    ap (map line_view) (take_more lines i x within ∙ ap (λ z. take i lines ++ z ∷ []) (sym is_x))
    ∙ map-append line_view (take i lines) (x ∷ []) in
    let more_records : take (i + 1) rs ≡ take i rs ++ r ∷ [] =
    take_more rs i r (omega (arith, same, within)) ∙ ap (λ z. take i rs ++ z ∷ []) (sym is_r) in
    let as_many : length (map line_view (take i lines)) ≡ length (take i rs) =
    omega (arith, length-map (take i lines) line_view, length-take-le i lines (omega (arith, within)), length-take-le i rs (omega (arith, same, within))) in
    let total = offers_append by m (map line_view (take i lines)) (line_view x ∷ []) (take i rs) (r ∷ []) as_many in
    subst (λ ls. offers by m ls (take (i + 1) rs) ≡ offers by m (map line_view (take i lines)) (take i rs) + cond (by r.worker) (offer_of m (line_view x)) 0)
    (sym more_lines)
    (subst (λ ss. offers by m (map line_view (take i lines) ++ line_view x ∷ []) ss
    ≡ offers by m (map line_view (take i lines)) (take i rs) + cond (by r.worker) (offer_of m (line_view x)) 0) (sym more_records) (omega (arith, total)))

-- one more tick of a worker
pub tick_added : (old new : List (Ticker × ℕ)) (m w moment worker number : ℕ) → number ≡ ticks_in old moment worker + 1
    → ticks_in new m w ≡ cond (is_eq (ordering_then (nat_cmp moment m) (nat_cmp worker w))) number (ticks_in old m w)
    → ticks_in new m w ≡ ticks_in old m w + cond (worker == w) (cond (moment == m) 1 0) 0
tick_added old new m w moment worker number is put =
    by (moment == m) (worker == w) refl refl (put ∙ ap (λ b. cond b number (ticks_in old m w)) (same_ticker moment worker m w))
  where
    by : (a b : Bool) → (moment == m) ≡ a → (worker == w) ≡ b → ticks_in new m w ≡ cond (a && b) number (ticks_in old m w)
        → ticks_in new m w ≡ ticks_in old m w + cond b (cond a 1 0) 0
    by true true e f p =
        let same : ticks_in old moment worker ≡ ticks_in old m w = ap₂ (ticks_in old) ((Decides-eqb moment m).0 e) ((Decides-eqb worker w).0 f) in
        omega (arith, p, is, same)
    by true false e f p = omega (arith, p)
    by false true e f p = omega (arith, p)
    by false false e f p = omega (arith, p)

-- no more ticks than lines
pub ticks_few : (by : ℕ → Bool) (m i : ℕ) (lines : List Line) (rs : List Record) → i < length lines
    → offers by m (map line_view (take i lines)) (take i rs) ≤ i
ticks_few by m i lines rs within =
    omega (arith, offers_few by m (map line_view (take i lines)) (take i rs), length-map (take i lines) line_view, length-take-le i lines (omega (arith, within)))
