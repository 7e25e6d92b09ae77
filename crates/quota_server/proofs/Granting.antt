-- A share that is written: what is kept of the shares that are live, and that all fit the pool.
use Rattle.std.proofs.Common.{◌≡◌, ℕ, ◌+◌, ◌-◌, ◌≤◌, ◌<◌, Bool, true, false, List, [], ◌∷◌, ◌++◌, refl, ap, sym, ◌∙◌, arith, max, nat_lt, filter}
use Rattle.std.specs.List.{AllByRecursion}
use Rattle.std.proofs.lemmas.Bool.Decides.{nat_tests}
use Rattle.quota_server.specs.Shares.{Share, lasts_until, is_live_at, live_at, held_of, others_of, granted_of, granted, SharesFitPool}
use Rattle.quota_server.specs.Holds.{first_of}
use Rattle.quota_server.specs.Kept.{counts_in}
use Rattle.quota_server.specs.Lives.{EndBy, IsLawful, others_hold}
use Rattle.quota_server.specs.Written.{IsTimed, IsWritten}
use Rattle.quota_server.specs.declared.live.Live.{Live}
use Rattle.quota_server.proofs.Fitting.{BegunBy, still_live, together_of, fits_more, filter_more}
use Rattle.quota_server.proofs.Living.{others_kept, kept_first}

begun_by : (lifetime last : ℕ) (shares : List Share) → AllByRecursion (IsTimed lifetime last) shares → BegunBy last shares
begun_by lifetime last [] all = tt
begun_by lifetime last (s ∷ ss) all = (all.0.begun, begun_by lifetime last ss all.1)

begun_later : (last at : ℕ) (shares : List Share) → last ≤ at → BegunBy last shares → BegunBy at shares
begun_later last at [] le all = tt
begun_later last at (s ∷ ss) le all = (let first = all.0 in omega arith, begun_later last at ss le all.1)

timed_later : (lifetime last at : ℕ) (shares : List Share) → last ≤ at → AllByRecursion (IsTimed lifetime last) shares
    → AllByRecursion (IsTimed lifetime at) shares
timed_later lifetime last at [] le all = tt
timed_later lifetime last at (s ∷ ss) le all =
    (record { begun = (let first = all.0.begun in omega arith); ends = all.0.ends }, timed_later lifetime last at ss le all.1)

timed_more : (lifetime at : ℕ) (shares : List Share) (y : Share) → AllByRecursion (IsTimed lifetime at) shares → IsTimed lifetime at y
    → AllByRecursion (IsTimed lifetime at) (shares ++ y ∷ [])
timed_more lifetime at [] y all one = (one, tt)
timed_more lifetime at (s ∷ ss) y all one = (all.0, timed_more lifetime at ss y all.1 one)

-- what is left once those are taken away that have ended: the shares that are live at the moment
pub swept : (count lifetime last at : ℕ) (shares left : List Share) (live : Live) → IsWritten count lifetime last shares live → last ≤ at
    → left ≡ filter (lasts_until at) live.shares.items → left ≡ live_at at shares
swept count lifetime last at shares left live is le swept_ =
    swept_ ∙ ap (filter (lasts_until at)) is.those ∙ sym (still_live last at shares le (begun_by lifetime last shares is.timed))

-- no more is held than the pool has
pub held_fits : (count at : ℕ) (shares : List Share) (live : Live) → IsLawful live → live.shares.items ≡ live_at at shares → SharesFitPool count shares
    → live.held ≤ count
held_fits count at shares live lawful those fits =
    let sum = lawful.sum in let all = ap held_of those in let now = fits at in omega (arith, sum, all, now)

-- a share that begins now ends last
pub ends_last : (lifetime last at : ℕ) (shares : List Share) → AllByRecursion (IsTimed lifetime last) shares → last ≤ at
    → EndBy (at + lifetime) (live_at at shares)
ends_last lifetime last at [] all le = tt
ends_last lifetime last at (s ∷ ss) all le = by (ends_last lifetime last at ss all.1 le) (is_live_at at s) refl
  where
    by : EndBy (at + lifetime) (live_at at ss) → (live : Bool) → is_live_at at s ≡ live → EndBy (at + lifetime) (live_at at (s ∷ ss))
    by rest true live = rw live ((let begun = all.0.begun in let end = all.0.ends in omega (arith, begun, end)), rest)
    by rest false live = rw live rest

-- with it no more is held than the pool has
pub granted_fits : (count at n : ℕ) (shares : List Share) (live : Live) (c : List ℕ) → IsLawful live → live.shares.items ≡ live_at at shares
    → SharesFitPool count shares → n ≡ granted_of count live.shares.items c → others_hold live c + max (first_of (counts_in live.holds c)) n ≤ count
granted_fits count at n shares live c lawful those fits is =
    let others = others_kept live.shares.items (counts_in live.holds) live.held live.clients c lawful in
    let own = kept_first live.shares.items (counts_in live.holds) c (lawful.kept c) in
    let whole = together_of live.shares.items c in
    let all = ap held_of those in
    let now = fits at in
    let part : n ≤ count - others_of live.shares.items c = rw is (omega arith) in
    omega (arith, others, own, whole, all, now, part)

-- a share that is granted fits, and is live
pub written_more : (count lifetime last : ℕ) (shares : List Share) (y : Share) (before after : Live) → IsWritten count lifetime last shares before
    → last ≤ y.from → y.until ≡ y.from + lifetime → y.count ≡ granted count shares y.client y.from → IsLawful after
    → after.shares.items ≡ live_at y.from shares ++ y ∷ [] → IsWritten count lifetime y.from (shares ++ y ∷ []) after
written_more count lifetime last shares y before after is le end part lawful those = record {
  lasting = is.lasting;
  timed = timed_more lifetime y.from shares y (timed_later lifetime last y.from shares le is.timed) (record { begun = omega arith; ends = end });
  those = those ∙ ap (λ xs. live_at y.from shares ++ xs) (sym alone) ∙ sym (filter_more (is_live_at y.from) shares y);
  lawful = lawful;
  fits = fits_more count shares y is.fits (begun_later last y.from shares le (begun_by lifetime last shares is.timed)) (rw part (omega arith));
}
  where
    alone : live_at y.from (y ∷ []) ≡ y ∷ []
    alone =
        let some = is.lasting in
        let begun : nat_lt y.from y.from ≡ false = grind (arith, nat_tests) in
        let lasts : nat_lt y.from y.until ≡ true = (let lt : y.from < y.until = omega (arith, end, some) in grind (arith, nat_tests)) in
        rw (begun, lasts) refl
