-- What one more status adds to the numbers of all rules.
use Rattle.std.proofs.Common.{◌≡◌, ℕ, zero, suc, ◌+◌, ◌≤◌, ◌<◌, ◌^◌, ◌&&◌, ◌==◌, ◌⊎◌, Bool, true, false, List, [], ◌∷◌, ◌++◌, get_or, length, if◌then◌else◌, slice_set, Option, Some, None, refl, sym, ap, ◌∙◌, arith, subst, inl, inr}
use Rattle.std.proofs.lemmas.Bool.{cases_eq}
use Rattle.std.proofs.lemmas.Bool.Decides.{nat_tests}
use Rattle.std.proofs.lemmas.List.{get_or-set_same, get_or-set_other}
use Rattle.rate_types.specs.Sums.{one_if}
use Rattle.rate_types.specs.declared.request.OwnLimit.{OwnLimit}
use Rattle.rate_types.specs.declared.rule_id.RuleId.{RuleId}
use Rattle.rls_core.specs.declared.status.Code.{Code}
use Rattle.rls_core.specs.declared.status.Code.TheVariants.{OverLimit}
use Rattle.rls_core.specs.declared.status.Code.TheVariants as code
use Rattle.rls_core.specs.declared.status.Count.{Count}
use Rattle.rls_core.specs.declared.status.Count.TheVariants.{NoCount, Before, Seen}
use Rattle.rls_core.specs.declared.status.Status.{Status}
use Rattle.rule_stats.specs.declared.numbers.RuleNumbers.{RuleNumbers}
use Rattle.rule_stats.specs.Statistics.{Note, nothing, added, added_under, numbers_of, numbers_under, let_pass, hits_where, is_within, is_near, is_over}
use Rattle.rule_stats.specs.Sums.{plus, sums, numbers_at, AreSums, IsBelow, AreBelow, AllBelow}

none_more : (n : ℕ) → n + 0 ≡ n
none_more n = omega arith

none_first : (n : ℕ) → 0 + n ≡ n
none_first n = omega arith

in_turn : (a b c : ℕ) → a + (b + c) ≡ a + b + c
in_turn a b c = omega arith

-- numbers that count nothing, added
pub plus_nothing : (x : RuleNumbers) → plus x nothing ≡ x
plus_nothing x =
    rw (none_more x.total, none_more x.within, none_more x.near, none_more x.over, none_more x.seen, none_more x.shadow) refl

pub nothing_plus : (x : RuleNumbers) → plus nothing x ≡ x
nothing_plus x =
    rw (none_first x.total, none_first x.within, none_first x.near, none_first x.over, none_first x.seen, none_first x.shadow) refl

pub plus_in_turn : (x y z : RuleNumbers) → plus x (plus y z) ≡ plus (plus x y) z
plus_in_turn x y z =
    rw (
      in_turn x.total y.total z.total,
      in_turn x.within y.within z.within,
      in_turn x.near y.near z.near,
      in_turn x.over y.over z.over,
      in_turn x.seen y.seen z.seen,
      in_turn x.shadow y.shadow z.shadow,
    ) refl

-- the sums with one more status behind
pub sums_more : (version rule : ℕ) (ns : List Note) (n : Note)
    → sums version rule (ns ++ n ∷ []) ≡ plus (sums version rule ns) (added version rule n)
sums_more version rule [] n = plus_nothing (added version rule n) ∙ sym (nothing_plus (added version rule n))
sums_more version rule (x ∷ ns) n = ap (plus (added version rule x)) (sums_more version rule ns n)
    ∙ plus_in_turn (added version rule x) (sums version rule ns) (added version rule n)

-- a status without a rule adds nothing
pub sums_free : (ns : List Note) (n : Note) → n.status.rule ≡ None → (versions : List (List RuleNumbers))
    → AreSums ns versions → AreSums (ns ++ n ∷ []) versions
sums_free ns n none versions are version rule = are version rule
    ∙ sym (sums_more version rule ns n ∙ ap (plus (sums version rule ns))
    (ap (λ o. added_under version rule n.version o (numbers_of n.status n.hits)) none)
    ∙ plus_nothing (sums version rule ns))

-- hits that pass a test are hits
pub hits_few : (test : ℕ → Bool) (before hits : ℕ) → hits_where test before hits ≤ hits
hits_few test before zero = omega arith
hits_few test before (suc hits) = by (hits_few test before hits) (test (before + suc hits))
  where
    by : hits_where test before hits ≤ hits → (b : Bool) → one_if b + hits_where test before hits ≤ suc hits
    by few true = omega (arith, few)
    by few false = omega (arith, few)

pub pass_few : (c : Code) (over : ℕ) → let_pass c over ≤ over
pass_few code.Ok over = omega arith
pass_few OverLimit over = omega arith

-- what one status adds is below 2^32
pub one_below : (s : Status) (hits : ℕ) → hits < 2 ^ 32 → IsBelow 1 (numbers_of s hits)
one_below s hits few = by s.limit s.code s.count
  where
    by : (limit : Option OwnLimit) (c : Code) (count : Count) → IsBelow 1 (numbers_under limit c count hits)
    by None c count = record {
      total = omega arith;
      within = omega arith;
      near = omega arith;
      over = omega arith;
      seen = omega arith;
      shadow = omega arith;
    }
    by (Some own) c NoCount = record {
      total = omega arith;
      within = omega arith;
      near = omega arith;
      over = omega arith;
      seen = omega arith;
      shadow = omega arith;
    }
    by (Some own) c (Before before) = record {
      total = omega (arith, few);
      within = omega (arith, few, hits_few (is_within own.limit) before hits);
      near = omega (arith, few, hits_few (is_near own.limit) before hits);
      over = omega (arith, few, hits_few (is_over own.limit) before hits);
      seen = omega arith;
      shadow = omega (arith, few, hits_few (is_over own.limit) before hits, pass_few c (hits_where (is_over own.limit) before hits));
    }
    by (Some own) c (Seen seen) = record {
      total = omega (arith, few);
      within = omega arith;
      near = omega arith;
      over = omega (arith, few);
      seen = omega (arith, few);
      shadow = omega (arith, few, pass_few c hits);
    }

-- numbers of one status more
pub plus_below : (n : ℕ) (x y : RuleNumbers) → IsBelow n x → IsBelow 1 y → IsBelow (n + 1) (plus x y)
plus_below n x y these new = record {
  total = omega (arith, these.total, new.total);
  within = omega (arith, these.within, new.within);
  near = omega (arith, these.near, new.near);
  over = omega (arith, these.over, new.over);
  seen = omega (arith, these.seen, new.seen);
  shadow = omega (arith, these.shadow, new.shadow);
}

pub nothing_below : (n : ℕ) → IsBelow n nothing
nothing_below n = record {
  total = omega arith;
  within = omega arith;
  near = omega arith;
  over = omega arith;
  seen = omega arith;
  shadow = omega arith;
}

pub more_below : (n : ℕ) (x : RuleNumbers) → IsBelow n x → IsBelow (n + 1) x
more_below n x these = record {
  total = omega (arith, these.total);
  within = omega (arith, these.within);
  near = omega (arith, these.near);
  over = omega (arith, these.over);
  seen = omega (arith, these.seen);
  shadow = omega (arith, these.shadow);
}

pub most_below : (n m : ℕ) (x : RuleNumbers) → n ≤ m → IsBelow n x → IsBelow m x
most_below n m x h these = record {
  total = omega (arith, h, these.total);
  within = omega (arith, h, these.within);
  near = omega (arith, h, these.near);
  over = omega (arith, h, these.over);
  seen = omega (arith, h, these.seen);
  shadow = omega (arith, h, these.shadow);
}

same_number : (a b : ℕ) → a ≡ b → (a == b) ≡ true
same_number a b is = grind (arith, nat_tests, is)

other_number : (a b : ℕ) → (a ≡ b → ⊥) → (a == b) ≡ false
other_number a b other = by (a == b) refl
  where
    by : (t : Bool) → (a == b) ≡ t → (a == b) ≡ false
    by true is = absurd (other (grind (arith, nat_tests, is)))
    by false is = is

-- a list with another item at one place
pub set_at : {X : Type 0} → (xs : List X) (i j : ℕ) (y d : X) → i < length xs
    → get_or (slice_set xs i y) j d ≡ (if i == j then y else get_or xs j d)
set_at xs i j y d h = by (cases_eq i j)
  where
    by : (i ≡ j) ⊎ (i ≡ j → ⊥) → get_or (slice_set xs i y) j d ≡ (if i == j then y else get_or xs j d)
    by (inl is) = subst (λ (k : ℕ). get_or (slice_set xs i y) k d ≡ (if i == k then y else get_or xs k d)) is
        (rw (same_number i i refl) (get_or-set_same xs i y d h))
    by (inr other) = rw (other_number i j other) (get_or-set_other xs i j y d (λ is. other (sym is)))

-- an item that is there, whatever would stand for it
pub any_default : {X : Type 0} → (xs : List X) (i : ℕ) (d e : X) → i < length xs → get_or xs i d ≡ get_or xs i e
any_default [] i d e h = absurd (omega (arith, h))
any_default (x ∷ xs) zero d e h = refl
any_default (x ∷ xs) (suc i) d e h = any_default xs i d e (omega (arith, h))

-- The numbers of a version where those of one rule have grown: `ys` are the versions before, of which there may be more than of `xs`.
module _ (xs ys : List (List RuleNumbers)) (version : ℕ) (old new : List RuleNumbers) (id : RuleId) (x : RuleNumbers)
    (there : version + 1 ≤ length ys)
    (same : (v : ℕ) → get_or ys v [] ≡ get_or xs v [])
    (is_old : old ≡ get_or ys version old)
    (grown : (r : ℕ) → get_or new r nothing ≡ plus (get_or old r nothing) (if id.0 == r then x else nothing)) where
  old_is : old ≡ get_or xs version []
  old_is = is_old ∙ any_default ys version old [] (omega (arith, there)) ∙ same version

  added_at : (v r : ℕ) → numbers_at (slice_set ys version new) v r
      ≡ plus (numbers_at xs v r) (if (version == v) && (id.0 == r) then x else nothing)
  added_at v r = ap (λ (ns : List RuleNumbers). get_or ns r nothing) (set_at ys version v new [] (omega (arith, there))) ∙ by (version == v) refl
    where
      by : (b : Bool) → (version == v) ≡ b → get_or (if b then new else get_or ys v []) r nothing
          ≡ plus (numbers_at xs v r) (if b && (id.0 == r) then x else nothing)
      by true is = grown r ∙ ap (λ (ns : List RuleNumbers). plus (get_or ns r nothing) (if id.0 == r then x else nothing))
          (old_is ∙ ap (λ (k : ℕ). get_or xs k []) (grind (arith, nat_tests, is)))
      by false is = ap (λ (ns : List RuleNumbers). get_or ns r nothing) (same v) ∙ sym (plus_nothing (numbers_at xs v r))

  pub added_below : (n : ℕ) → AllBelow n xs → IsBelow 1 x → AllBelow (n + 1) (slice_set ys version new)
  added_below n below one v r = subst (IsBelow (n + 1)) (sym (added_at v r)) (by ((version == v) && (id.0 == r)))
    where
      by : (b : Bool) → IsBelow (n + 1) (plus (numbers_at xs v r) (if b then x else nothing))
      by true = plus_below n (numbers_at xs v r) x (below v r) one
      by false = plus_below n (numbers_at xs v r) nothing (below v r) (nothing_below 1)

  pub added_sums : (ns : List Note) (n : Note) → n.version ≡ version → n.status.rule ≡ Some id → numbers_of n.status n.hits ≡ x
      → AreSums ns xs → AreSums (ns ++ n ∷ []) (slice_set ys version new)
  added_sums ns n at rule is are v r = added_at v r
      ∙ ap (λ y. plus y (if (version == v) && (id.0 == r) then x else nothing)) (are v r)
      ∙ sym (sums_more v r ns n ∙ ap (plus (sums v r ns)) (rw (at, rule, is) refl))

-- more versions with numbers of no rule
pub reached_below : (n : ℕ) (xs ys : List (List RuleNumbers)) → ((v : ℕ) → get_or ys v [] ≡ get_or xs v []) → AllBelow n xs
    → (v : ℕ) → AreBelow n (get_or ys v [])
reached_below n xs ys same below v r = subst (λ (ns : List RuleNumbers). IsBelow n (get_or ns r nothing)) (sym (same v)) (below v r)

pub old_below : (n : ℕ) (ys : List (List RuleNumbers)) (version : ℕ) (old : List RuleNumbers) → version + 1 ≤ length ys
    → old ≡ get_or ys version old → ((v : ℕ) → AreBelow n (get_or ys v [])) → AreBelow n old
old_below n ys version old there is_old below =
    subst (AreBelow n) (sym (is_old ∙ any_default ys version old [] (omega (arith, there)))) (below version)

pub all_more : (n : ℕ) (xs : List (List RuleNumbers)) → AllBelow n xs → AllBelow (n + 1) xs
all_more n xs below v r = more_below n (numbers_at xs v r) (below v r)

pub all_most : (n m : ℕ) (ns : List RuleNumbers) → n ≤ m → AreBelow n ns → AreBelow m ns
all_most n m ns h below r = most_below n m (get_or ns r nothing) h (below r)
