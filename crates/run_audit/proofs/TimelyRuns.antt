-- The moments of a run, by counted ticks.
use Rattle.std.proofs.Common.{◌≡◌, ℕ, ◌+◌, ◌<◌, ◌≤◌, ◌==◌, ◌&&◌, ◌||◌, not, nat_lt, Bool, true, cond, List, [], ◌∷◌, ◌++◌, length, take, get_or, map, refl, sym, ap, ◌∙◌, arith}
use Rattle.std.proofs.Common.{ltb-true, lt-ltb}
use Rattle.std.specs.Bool.{Decides}
use Rattle.std.proofs.lemmas.List.{length-map, length-take-le}
use Rattle.reply_text.specs.declared.record.Record.{Record}
use Rattle.script_run.specs.ScriptLine.{ScriptLine}
use Rattle.script_run.specs.Moments.{tick_of, offer_of, offers, IsTimely}
use Rattle.script_run.specs.Views.{line_view}
use Rattle.script_run.specs.declared.line.Line.{Line}
use Rattle.run_audit.specs.declared.ticks.Ticker.{Ticker}
use Rattle.run_audit.specs.Ticks.{ticks_in, all_in}
use Rattle.run_audit.proofs.Each.{EachBelow}
use Rattle.run_audit.proofs.OfferSums.{offers_append}
use Rattle.run_audit.proofs.TickCounts.{offers_split, offers_more}
use Rattle.run_audit.proofs.TimelyBy.{source_by, timely_by}

-- a map has the ticks of these lines
abbrev pub Counted : List (Ticker × ℕ) → List ScriptLine → List Record → Type 0
Counted ticks ls rs = (m w : ℕ) → ticks_in ticks m w ≡ offers (λ v. v == w) m ls rs

abbrev pub AllCounted : List (ℕ × ℕ) → List ScriptLine → List Record → Type 0
AllCounted ticks ls rs = (m : ℕ) → all_in ticks m ≡ offers (λ v. true) m ls rs

-- the moments of the first records are timely, and the map has the ticks of their lines
pub record Followed (start : ℕ) (sooner : List (Ticker × ℕ)) (i : ℕ) (lines : List Line) (records : List Record) : Type 0 where
  pub below : EachBelow i (map line_view lines) records
      (λ before earlier l r. IsTimely start (map line_view lines) records before earlier l r)
  pub counted : Counted sooner (map line_view (take i lines)) (take i records)

others_by : (own all others : ℕ) → others + own ≡ all → Decides (nat_lt own all) (1 ≤ others)
others_by own all others e =
    (λ h. omega (arith, e, ltb-true own all h), λ some. lt-ltb own all (omega (arith, e, some)))

some_by : (n m : ℕ) → n ≡ m → Decides (nat_lt 0 n) (1 ≤ m)
some_by n m e = (λ h. omega (arith, e, ltb-true 0 n h), λ some. lt-ltb 0 n (omega (arith, e, some)))

pub one_timely : (start : ℕ) (all : List (ℕ × ℕ)) (own old new : List (Ticker × ℕ)) (lines : List Line) (records : List Record) (i : ℕ) (x : Line)
    (r : Record) (late source timely : Bool) → length records ≡ length lines → i < length lines
    → AllCounted all (map line_view lines) records → Counted own (map line_view lines) records
    → Counted old (map line_view (take i lines)) (take i records)
    → ((m w : ℕ) → ticks_in new m w ≡ ticks_in old m w + cond (r.worker == w) (offer_of m (line_view x)) 0)
    → Decides late ((start ≤ r.moment) × (tick_of (line_view x) ≤ r.moment))
    → source ≡ ((r.moment == start) || (nat_lt (ticks_in own r.moment r.worker) (all_in all r.moment) || nat_lt 0 (ticks_in new r.moment r.worker)))
    → timely ≡ (late && source)
    → Decides timely (IsTimely start (map line_view lines) records (map line_view (take i lines)) (take i records) (line_view x) r)
one_timely start all own old new lines records i x r late source timely same within counted_all counted_own counted_old added d_late is_source is =
    rw (is, is_source)
    (timely_by start ls bs records es (line_view x) r late
    ((r.moment == start) || (nat_lt (ticks_in own r.moment r.worker) (all_in all r.moment) || nat_lt 0 (ticks_in new r.moment r.worker))) d_late
    (source_by start r ls (bs ++ line_view x ∷ []) records (es ++ r ∷ []) r.worker r.moment (r.moment == start)
    (nat_lt (ticks_in own r.moment r.worker) (all_in all r.moment)) (nat_lt 0 (ticks_in new r.moment r.worker)) refl refl refl others now))
  where
    ls : List ScriptLine
    ls = map line_view lines

    bs : List ScriptLine
    bs = map line_view (take i lines)

    es : List Record
    es = take i records

    as_many : length bs ≡ length es
    as_many = omega (arith, length-map (take i lines) line_view, length-take-le i lines (omega (arith, within)), length-take-le i records (omega (arith, same, within)))

    others : Decides (nat_lt (ticks_in own r.moment r.worker) (all_in all r.moment)) (1 ≤ offers (λ v. not (v == r.worker)) r.moment ls records)
    others = others_by (ticks_in own r.moment r.worker) (all_in all r.moment) (offers (λ v. not (v == r.worker)) r.moment ls records)
        (omega (arith, counted_own r.moment r.worker, counted_all r.moment, offers_split r.worker r.moment ls records))

    now : Decides (nat_lt 0 (ticks_in new r.moment r.worker)) (1 ≤ offers (λ v. v == r.worker) r.moment (bs ++ line_view x ∷ []) (es ++ r ∷ []))
    now = some_by (ticks_in new r.moment r.worker) (offers (λ v. v == r.worker) r.moment (bs ++ line_view x ∷ []) (es ++ r ∷ []))
        (omega (
          arith,
          added r.moment r.worker,
          counted_old r.moment r.worker,
          offers_append (λ v. v == r.worker) r.moment bs (line_view x ∷ []) es (r ∷ []) as_many,
        ))

pub counted_more : (old new : List (Ticker × ℕ)) (lines : List Line) (records : List Record) (i : ℕ) (x : Line) (r : Record)
    → length records ≡ length lines → i < length lines → x ≡ get_or lines i x → r ≡ get_or records i r
    → Counted old (map line_view (take i lines)) (take i records)
    → ((m w : ℕ) → ticks_in new m w ≡ ticks_in old m w + cond (r.worker == w) (offer_of m (line_view x)) 0)
    → Counted new (map line_view (take (i + 1) lines)) (take (i + 1) records)
counted_more old new lines records i x r same within is_x is_r counted added m w =
    added m w ∙ ap (λ (n : ℕ). n + cond (r.worker == w) (offer_of m (line_view x)) 0) (counted m w)
    ∙ sym (offers_more (λ v. v == w) m i lines records x r same within is_x is_r)
