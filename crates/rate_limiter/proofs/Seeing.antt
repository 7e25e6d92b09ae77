-- What counts leave of the values that a pass knows.
use Rattle.std.proofs.Common.{◌≡◌, ◌⊎◌, inl, inr, ℕ, zero, suc, ◌+◌, ◌≤◌, ◌<◌, ◌==◌, ◌&&◌, max, min, take, length, List, [], ◌∷◌, ◌++◌, cond}
use Rattle.std.proofs.Common.{Bool, true, false, true≢false, Some, None, refl, sym, ap, ◌∙◌, subst, arith, eq-eqb, length-append}
use Rattle.std.specs.List.{AllByRecursion}
use Rattle.std.specs.Cmp.Lexicographic.{bytes_decides}
use Rattle.std.proofs.lemmas.Bool.Decides.{nat_tests}
use Rattle.std.proofs.lemmas.List.{append-nil}
use Rattle.rate_types.specs.Sums.{total, one_if}
use Rattle.rate_types.specs.declared.counter_key.CounterKey.{CounterKey}
use Rattle.counter_cells.specs.Views.{claim_on, Capped}
use Rattle.counter_cells.specs.Steps.{looked, charged}
use Rattle.counter_cells.specs.declared.view.CellView.{CellView}
use Rattle.counter_cells.specs.declared.view.Charge as cell_charge
use Rattle.counter_cells.specs.declared.answers.Spot.{Spot}
use Rattle.counter_directory.specs.declared.claim.Claim.{Claim}
use Rattle.counter_directory.specs.Claims.{bindings_of}
use Rattle.over_cache.specs.Entries.{Entries, is_key, known_of, known_then, noted, without}
use Rattle.over_cache.specs.declared.known.Known.{Known}
use Rattle.rls_core.specs.declared.status.Count.{Count}
use Rattle.rls_core.specs.declared.status.Count.TheVariants.{NoCount, Before, Seen}
use Rattle.rate_limiter.specs.Counts.{Keeps}
use Rattle.rate_limiter.specs.Values.{looks_at, charges_to, HasValue, HasSeen, looks_counted}
use Rattle.rate_limiter.specs.Known.{key_of, key_bindings, pins_under, IsBoundEntry, AreBoundEntries, AreSeenEntries, AreClaimedOnce, spot_in, seen_in, SameSpots}
use Rattle.rate_limiter.specs.Sought.{SameKnown, IsSeenOf}
use Rattle.rate_limiter.specs.Counted.{CountedAt, value_of, HasRaised, HaveRisen}
use Rattle.rate_limiter.proofs.Lists.{each_append, each_at, each_more, parts, total_more, total_some}
use Rattle.rate_limiter.proofs.Showing.{Grows, value_grows}
use Rattle.rate_limiter.proofs.Claiming.{one_number, one_spot}
use Rattle.rate_limiter.proofs.Knowing.{known_all, noted_all}

same_number : (a b : ℕ) → (a == b) ≡ true → a ≡ b
same_number a b t = grind (arith, nat_tests)

-- ---- values

-- a value that a view has is at most what caps it
pub capped_value : (claim value cap : ℕ) (v : CellView) → Capped claim cap v → HasValue claim value v → value ≤ cap
capped_value claim value cap v most had = pick (looks_at claim value v) refl
  where
    pick : (n : ℕ) → looks_at claim value v ≡ n → value ≤ cap
    pick (suc n) is =
        let t = total_some (λ (p : ℕ × ℕ). one_if ((p.0 == claim) && (p.1 == value))) v.looks (omega arith) in
        let e = parts (t.1.0 == claim) (t.1.1 == value) t.3 in
        let le = each_at (λ (p : ℕ × ℕ). p.0 ≡ claim → p.1 ≤ cap) v.looks t.0 t.1 t.2 most.looks (same_number t.1.0 claim e.0) in
        let same = same_number t.1.1 value e.1 in
        omega arith
    pick zero is =
        let t = total_some (λ (x : cell_charge.Charge). one_if ((x.claim == claim) && (x.before + x.hits == value))) v.charges (omega arith) in
        let e = parts (t.1.claim == claim) (t.1.before + t.1.hits == value) t.3 in
        let le = each_at (λ (x : cell_charge.Charge). x.claim ≡ claim → x.before + x.hits ≤ cap) v.charges t.0 t.1 t.2 most.charges (same_number t.1.claim claim e.0) in
        let same = same_number (t.1.before + t.1.hits) value e.1 in
        omega arith

-- what a count leaves: it found the value, which no other exceeds, and what the pass has under other claims stays
pub record Leaves (claim value : ℕ) (v w : CellView) : Type 0 where
  pub had : HasValue claim value w
  pub most : Capped claim value w
  pub grows : Grows v w
  pub pins : w.pairs ≡ v.pairs
  pub others : (n cap : ℕ) → (n ≡ claim → ⊥) → Capped n cap v → Capped n cap w

module _ (cell found : ℕ) (v : CellView) where
  abbrev C : ℕ
  C = claim_on cell v.good

  abbrev look : CellView
  look = looked cell found v

  look_most : Capped C found v → Capped C found look
  look_most m = record {
    charges = m.charges;
    looks = each_append (λ (p : ℕ × ℕ). p.0 ≡ C → p.1 ≤ found) v.looks ((C, found) ∷ []) m.looks ((λ e. omega arith), tt);
  }

  look_others : (n cap : ℕ) → (n ≡ C → ⊥) → Capped n cap v → Capped n cap look
  look_others n cap ne m = record {
    charges = m.charges;
    looks = each_append (λ (p : ℕ × ℕ). p.0 ≡ n → p.1 ≤ cap) v.looks ((C, found) ∷ []) m.looks ((λ e. absurd (ne (sym e))), tt);
  }

  look_had : HasValue C found look
  look_had =
      let f : ℕ × ℕ → ℕ = λ p. one_if ((p.0 == C) && (p.1 == found)) in
      let a = total_more f v.looks ((C, found) ∷ []) in
      let o : f (C, found) ≡ 1 = λ i. one_if (eq-eqb C C refl i && eq-eqb found found refl i) in
      omega arith

  look_leaves : Capped C found v → Leaves C found v look
  look_leaves m = record {
    had = look_had;
    most = look_most m;
    grows = record { looks = ((C, found) ∷ [], refl); charges = ([], append-nil v.charges) };
    pins = refl;
    others = look_others;
  }

  module _ (before hits : ℕ) where
    abbrev charge : CellView
    charge = charged cell before hits look

    abbrev new : cell_charge.Charge
    new = record { claim = C; before = before; hits = hits }

    charge_leaves : Capped C before look → Leaves C (before + hits) v charge
    charge_leaves m = record {
      had =
          let n : cell_charge.Charge → ℕ = λ x. one_if ((x.claim == C) && (x.before + x.hits == before + hits)) in
          let a = total_more n v.charges (new ∷ []) in
          let o : n new ≡ 1 = λ i. one_if (eq-eqb C C refl i && eq-eqb (before + hits) (before + hits) refl i) in
          omega arith;
      most = record {
        charges = each_append (λ (x : cell_charge.Charge). x.claim ≡ C → x.before + x.hits ≤ before + hits) v.charges (new ∷ [])
            (each_more (λ (x : cell_charge.Charge). x.claim ≡ C → x.before + x.hits ≤ before) (λ (x : cell_charge.Charge). x.claim ≡ C → x.before + x.hits ≤ before + hits)
            (λ x h e. let l = h e in omega arith) v.charges m.charges)
            ((λ e. omega arith), tt);
        looks = each_more (λ (p : ℕ × ℕ). p.0 ≡ C → p.1 ≤ before) (λ (p : ℕ × ℕ). p.0 ≡ C → p.1 ≤ before + hits) (λ p h e. let l = h e in omega arith) look.looks m.looks;
      };
      grows = record { looks = ((C, found) ∷ [], refl); charges = (new ∷ [], refl) };
      pins = refl;
      others = λ n cap ne c.
          let l = look_others n cap ne c in
          record {
            charges = each_append (λ (x : cell_charge.Charge). x.claim ≡ n → x.before + x.hits ≤ cap) v.charges (new ∷ []) l.charges ((λ e. absurd (ne (sym e))), tt);
            looks = l.looks;
          };
    }

pub none_left : (claim value : ℕ) (v w : CellView) → HasValue claim value v → Capped claim value v → w ≡ v → Leaves claim value v w
none_left claim value v w had most e = subst (Leaves claim value v) (sym e) (record {
  had = had;
  most = most;
  grows = record { looks = ([], append-nil v.looks); charges = ([], append-nil v.charges) };
  pins = refl;
  others = λ n cap ne c. c;
})

-- what a count on a pinned cell leaves
pub counted_leaves : (s : Spot) (limit hits : ℕ) (c : Count) (v w : CellView) → claim_on s.cell v.good ≡ s.claim → CountedAt s limit hits c v w
    → Leaves s.claim (value_of hits c) v w
counted_leaves s limit hits (Seen seen) v w under (b, inl l) =
    subst (λ n. Leaves n seen v w) under (subst (Leaves (claim_on s.cell v.good) seen v) (sym l.1) (look_leaves s.cell seen v l.0))
counted_leaves s limit hits (Seen seen) v w under (b, inr k) = none_left s.claim seen v w k.1.0 k.1.1 k.1.2
counted_leaves s limit hits (Before before) v w under h =
    let c = h.1 in
    subst (λ n. Leaves n (before + hits) v w) under
    (subst (Leaves (claim_on s.cell v.good) (before + hits) v) (sym c.charge) (charge_leaves s.cell c.found v before hits c.most))
counted_leaves s limit hits NoCount v w under h = absurd h

-- ---- entries

-- what is known under each key stays
pub seen_same : (v : CellView) (es es' : Entries) → SameKnown es es' → AreSeenEntries v es → AreSeenEntries v es'
seen_same v es es' same h key known at = h key known (sym (same key) ∙ at)

-- a pass that neither looked nor charged
pub seen_kept : (v w : CellView) (es : Entries) → Keeps v w → AreSeenEntries v es → AreSeenEntries w es
seen_kept v w es k h key known at pos =
    let g = h key known at pos in
    let claim = known.spot.claim in
    let seen = known.seen in (
      subst (λ (l : List (ℕ × ℕ)). 1 ≤ total (λ (p : ℕ × ℕ). one_if ((p.0 == claim) && (p.1 == seen))) l + charges_to claim seen w) (sym k.looks)
          (subst (λ (l : List cell_charge.Charge). 1 ≤ looks_at claim seen v + total (λ (x : cell_charge.Charge). one_if ((x.claim == claim) && (x.before + x.hits == seen))) l)
          (sym k.charges) g.0),
      record {
        charges = subst (AllByRecursion (λ (x : cell_charge.Charge). x.claim ≡ claim → x.before + x.hits ≤ seen)) (sym k.charges) g.1.charges;
        looks = subst (AllByRecursion (λ (p : ℕ × ℕ). p.0 ≡ claim → p.1 ≤ seen)) (sym k.looks) g.1.looks;
      },
    )

-- as many looks are counted as before
pub looks_kept : (n : ℕ) (v w : CellView) → w.looks ≡ v.looks → n ≡ looks_counted v → n ≡ looks_counted w
looks_kept n v w same is = is ∙ ap (λ (l : List (ℕ × ℕ)). min (length l) 18446744073709551615) (sym same)

module _ (cells : ℕ) (claims : List Claim) (pins : List (ℕ × ℕ)) (q : CounterKey) (s : Spot) (value seen : ℕ) (v w : CellView) (es es' : Entries)
    (once : AreClaimedOnce claims) (bound : AreBoundEntries cells claims pins es) (own : 1 ≤ bindings_of q s.cell s.claim claims)
    (leaves : Leaves s.claim value v w) (was : AreSeenEntries v es) (of : IsSeenOf claims es q seen) where
  -- what is known of another key is under another claim
  other_seen : (key : List ℕ) (known : Known) → is_key key (key_of q) ≡ false → known_of key es ≡ Some known → HasSeen known.spot.claim known.seen w
  other_seen key known differs at pos =
      let h = was key known at pos in
      let b = (known_all (λ k e. IsBoundEntry cells claims pins (k, e)) key es bound known at).bound in
      let apart : known.spot.claim ≡ s.claim → ⊥
      = λ e.
      let same = one_number key q known.spot.cell s.cell s.claim claims (once.numbers s.claim)
      (subst (λ n. 1 ≤ key_bindings key known.spot.cell n claims) e b) own in
      true≢false (sym ((bytes_decides key (key_of q)).1 same) ∙ differs) in
      (value_grows known.spot.claim known.seen v w leaves.grows h.0, leaves.others known.spot.claim known.seen apart h.1)

  -- what is known of the counter is known of its spot
  pub own_spot : (old : Known) → known_of (key_of q) es ≡ Some old → old.spot ≡ s
  own_spot old is = one_spot q old.spot s claims (once.counters q) (of.bound old is) own

  -- no more was known than the count found
  old_less : (old : Known) → known_of (key_of q) es ≡ Some old → old.seen ≤ value
  old_less old is = pick old.seen refl
    where
      pick : (n : ℕ) → old.seen ≡ n → old.seen ≤ value
      pick zero e = omega arith
      pick (suc n) e =
          let h = was (key_of q) old is (omega arith) in
          let had = value_grows s.claim old.seen v w leaves.grows (subst (λ (t : Spot). HasValue t.claim old.seen v) (own_spot old is) h.0) in
          capped_value s.claim old.seen value w leaves.most had

  noted_is : (old : Known) → known_of (key_of q) es ≡ Some old → known_of (key_of q) (noted (key_of q) s value es) ≡ Some (record { spot = s; seen = value })
  noted_is old is =
      let le = old_less old is in
      let m : max old.seen value ≡ value = omega arith in
      ap (λ b. cond b (Some (known_then (known_of (key_of q) es) s value)) (known_of (key_of q) (take 1023 (without (key_of q) es))))
      ((bytes_decides (key_of q) (key_of q)).1 refl)
      ∙ ap (λ o. Some (known_then o s value)) is
      ∙ ap (λ b. Some (record { spot = s; seen = cond b (max old.seen value) value })) (eq-eqb old.spot.claim s.claim (ap (λ (t : Spot). t.claim) (own_spot old is)))
      ∙ ap (λ n. Some (record { spot = s; seen = n })) m

  -- a value was noted
  pub seen_raised : HasRaised (key_of q) s value es es' → AreSeenEntries w es'
  seen_raised r key known at = by (is_key key (key_of q)) refl
    where
      here : ((known_of (key_of q) es ≡ None) × (es' ≡ es))
          ⊎ ((old : Known) × (known_of (key_of q) es ≡ Some old) × (es' ≡ noted (key_of q) s value es)) → known_of (key_of q) es' ≡ Some known
          → HasSeen known.spot.claim known.seen w
      here (inl n) is = let e = ap (known_of (key_of q)) n.1 in let f = n.0 in absurd (cc)
      here (inr o) is =
          let e = sym (noted_is o.0 o.1) ∙ sym (ap (known_of (key_of q)) o.2) ∙ is in
          let same : record { spot = s; seen = value } ≡ known = cc in
          subst (λ (k : Known). HasSeen k.spot.claim k.seen w) same (λ pos. (leaves.had, leaves.most))

      by : (b : Bool) → is_key key (key_of q) ≡ b → HasSeen known.spot.claim known.seen w
      by true same = here r.this (sym (ap (λ k. known_of k es') ((bytes_decides key (key_of q)).0 same)) ∙ at)
      by false differs = other_seen key known differs (sym (r.others key differs) ∙ at)

  -- none was noted: no value was known, or the one that was found
  pub seen_unnoted : es' ≡ es → (seen ≡ 0) ⊎ (seen ≡ value) → AreSeenEntries w es'
  seen_unnoted same either key known at = by (is_key key (key_of q)) refl
    where
      here : known_of (key_of q) es ≡ Some known → (seen ≡ 0) ⊎ (seen ≡ value) → HasSeen known.spot.claim known.seen w
      here is (inl none) = let z : known.seen ≡ 0 = sym (ap seen_in is) ∙ of.value ∙ none in λ pos. absurd (omega arith)
      here is (inr found) =
          let z : value ≡ known.seen = sym (sym (ap seen_in is) ∙ of.value ∙ found) in
          subst (λ n. HasSeen known.spot.claim n w) z (subst (λ (t : Spot). HasSeen t.claim value w) (sym (own_spot known is)) (λ pos. (leaves.had, leaves.most)))

      by : (b : Bool) → is_key key (key_of q) ≡ b → HasSeen known.spot.claim known.seen w
      by true e = here (sym (ap (λ k. known_of k es) ((bytes_decides key (key_of q)).0 e)) ∙ sym (ap (known_of key) same) ∙ at) either
      by false differs = other_seen key known differs (sym (ap (known_of key) same) ∙ at)

  -- where entries are bound they stay so
  pub bound_raised : HasRaised (key_of q) s value es es' → AreBoundEntries cells claims pins es'
  bound_raised r = by r.this
    where
      by : ((known_of (key_of q) es ≡ None) × (es' ≡ es)) ⊎ ((old : Known) × (known_of (key_of q) es ≡ Some old) × (es' ≡ noted (key_of q) s value es))
          → AreBoundEntries cells claims pins es'
      by (inl n) = subst (AreBoundEntries cells claims pins) (sym n.1) bound
      by (inr o) =
          let b = known_all (λ k e. IsBoundEntry cells claims pins (k, e)) (key_of q) es bound o.0 o.1 in
          let spot = own_spot o.0 o.1 in
          subst (AreBoundEntries cells claims pins) (sym o.2) (noted_all cells claims pins q s value es (record {
            there = subst (λ (t : Spot). t.cell < cells) spot b.there;
            bound = own;
            had = subst (λ (t : Spot). 1 ≤ pins_under t.cell t.claim pins) spot b.had;
          }) bound)

  -- and each spot is the one that it was
  pub spots_raised : HasRaised (key_of q) s value es es' → SameSpots es es'
  spots_raised r key = by (is_key key (key_of q)) refl
    where
      here : ((known_of (key_of q) es ≡ None) × (es' ≡ es)) ⊎ ((old : Known) × (known_of (key_of q) es ≡ Some old) × (es' ≡ noted (key_of q) s value es))
          → spot_in (known_of (key_of q) es') ≡ spot_in (known_of (key_of q) es)
      here (inl n) = ap (λ l. spot_in (known_of (key_of q) l)) n.1
      here (inr o) = ap (λ l. spot_in (known_of (key_of q) l)) o.2 ∙ ap spot_in (noted_is o.0 o.1) ∙ ap Some (sym (own_spot o.0 o.1)) ∙ sym (ap spot_in o.1)

      by : (b : Bool) → is_key key (key_of q) ≡ b → spot_in (known_of key es') ≡ spot_in (known_of key es)
      by true same = let e = (bytes_decides key (key_of q)).0 same in subst (λ k. spot_in (known_of k es') ≡ spot_in (known_of k es)) (sym e) (here r.this)
      by false differs = ap spot_in (r.others key differs)

-- ---- what counts leave of entries, whether a value was noted or not

module _ (cells : ℕ) (claims : List Claim) (pins : List (ℕ × ℕ)) (q : CounterKey) (s : Spot) (value seen : ℕ) (v w : CellView) (es es' : Entries)
    (once : AreClaimedOnce claims) (bound : AreBoundEntries cells claims pins es) (own : 1 ≤ bindings_of q s.cell s.claim claims)
    (leaves : Leaves s.claim value v w) (was : AreSeenEntries v es) (of : IsSeenOf claims es q seen) where
  pub seen_after : (b : Bool) → (b ≡ false → (es' ≡ es) × ((seen ≡ 0) ⊎ (seen ≡ value))) → (b ≡ true → HasRaised (key_of q) s value es es') → AreSeenEntries w es'
  seen_after true kept raised = seen_raised cells claims pins q s value seen v w es es' once bound own leaves was of (raised refl)
  seen_after false kept raised = let k = kept refl in seen_unnoted cells claims pins q s value seen v w es es' once bound own leaves was of k.0 k.1

  pub bound_after : (b : Bool) → (b ≡ false → (es' ≡ es) × ((seen ≡ 0) ⊎ (seen ≡ value))) → (b ≡ true → HasRaised (key_of q) s value es es') → AreBoundEntries cells claims pins es'
  bound_after true kept raised = bound_raised cells claims pins q s value seen v w es es' once bound own leaves was of (raised refl)
  bound_after false kept raised = subst (AreBoundEntries cells claims pins) (sym (kept refl).0) bound

  seen_rises : HasRaised (key_of q) s value es es' → (key : List ℕ) → seen_in (known_of key es) ≤ seen_in (known_of key es')
  seen_rises r key = by (is_key key (key_of q)) refl
    where
      here : ((known_of (key_of q) es ≡ None) × (es' ≡ es)) ⊎ ((old : Known) × (known_of (key_of q) es ≡ Some old) × (es' ≡ noted (key_of q) s value es))
          → seen_in (known_of (key_of q) es) ≤ seen_in (known_of (key_of q) es')
      here (inl n) = let e = ap (λ (l : Entries). seen_in (known_of (key_of q) l)) n.1 in omega arith
      here (inr o) =
          let le = old_less cells claims pins q s value seen v w es es' once bound own leaves was of o.0 o.1 in
          let new = ap (λ (l : Entries). seen_in (known_of (key_of q) l)) o.2
          ∙ ap seen_in (noted_is cells claims pins q s value seen v w es es' once bound own leaves was of o.0 o.1) in
          let old = ap seen_in o.1 in
          omega arith

      by : (b : Bool) → is_key key (key_of q) ≡ b → seen_in (known_of key es) ≤ seen_in (known_of key es')
      by true same =
          let e = (bytes_decides key (key_of q)).0 same in
          subst (λ (k : List ℕ). seen_in (known_of k es) ≤ seen_in (known_of k es')) (sym e) (here r.this)
      by false differs = let e = ap seen_in (r.others key differs) in omega arith

  -- no spot changed, and no value fell
  pub risen_after : (b : Bool) → (b ≡ false → (es' ≡ es) × ((seen ≡ 0) ⊎ (seen ≡ value))) → (b ≡ true → HasRaised (key_of q) s value es es') → HaveRisen es es'
  risen_after true kept raised = record {
    spots = spots_raised cells claims pins q s value seen v w es es' once bound own leaves was of (raised refl);
    seen = seen_rises (raised refl);
  }
  risen_after false kept raised = record {
    spots = λ key. ap (λ (l : Entries). spot_in (known_of key l)) (kept refl).0;
    seen = λ key. let e = ap (λ (l : Entries). seen_in (known_of key l)) (kept refl).0 in omega arith;
  }

-- ---- looks

-- one look more
pub looks_more : (n m : ℕ) (v w : CellView) (p : ℕ × ℕ) → w.looks ≡ v.looks ++ p ∷ [] → m ≡ min (n + 1) 18446744073709551615 → n ≡ looks_counted v → m ≡ looks_counted w
looks_more n m v w p same is was =
    let len : length w.looks ≡ length v.looks + 1 = ap length same ∙ length-append v.looks (p ∷ []) in
    omega arith
