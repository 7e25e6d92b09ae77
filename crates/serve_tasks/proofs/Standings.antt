-- Links under their numbers go on.
use Rattle.std.proofs.Common.{◌≡◌, ⊎_elim, ℕ, zero, suc, ◌+◌, ◌<◌, ◌≤◌, true, List, [], ◌∷◌, ◌++◌, Option, Some, None, get_or, set, length, map, refl, sym, ap, ◌∙◌, subst, append-nil, append_assoc, arith}
use Rattle.std.proofs.Common.{length-append}
use Rattle.std.proofs.lemmas.List.{get_or-set_same, get_or-set_other, length-set, get_or_append_left, get_or_push, map-append, nil_from_length}
use Rattle.std.specs.List.{AllByRecursion}
use Rattle.http_endpoint.specs.Answers.{CheckStep, Asked, Lead}
use Rattle.http_endpoint.proofs.TurnLemmas.{lead_more}
use Rattle.http_serve.specs.Service.{Service}
use Rattle.conn_tasks.specs.State.{TaskState}
use Rattle.conn_tasks.specs.Tasks.{IsOn, IsGoing, is_live}
use Rattle.rate_io.specs.Links.{LinkState}
use Rattle.rate_io.specs.Listeners.{IsNewLink}
use Rattle.serve_tasks.specs.Service.{made_for, IsTaskServed}
use Rattle.serve_tasks.specs.Running.{StandsAt, AllStand, Stand, Standing, Runs, live_count}
use Rattle.serve_tasks.proofs.Made.{tag, same_or, made_append, made_here, made_there, none_for, only_append, only_wider, only_tagged}

-- no link
pub none_stand : AllStand [] [] []
none_stand = record { as_many = refl; only = tt; each = λ k less. absurd (omega (arith, less)) }

-- nor is there one where none was accepted
pub none_there : (s : Standing) → length s.served ≡ length s.tasks → length s.tasks ≡ 0 → Stand s
none_there s same none =
    let tasks = nil_from_length s.tasks none in
    let served = nil_from_length s.served (same ∙ none) in
    ([], subst (λ (ts : List (Option TaskState)). AllStand [] ts s.served) (sym tasks) (subst (λ (ss : List (Option Service)). AllStand [] [] ss) (sym served) none_stand))

-- one goes on or ends, and all others stay
pub one_stands : (n : ℕ) (more : List Asked) (made : List (ℕ × Asked)) (tasks tasks' : List (Option TaskState)) (served served' : List (Option Service))
    → AllStand made tasks served → n < length tasks → length tasks' ≡ length tasks → length served' ≡ length served
    → ((k : ℕ) → (k ≡ n → ⊥) → get_or tasks' k None ≡ get_or tasks k None) → ((k : ℕ) → (k ≡ n → ⊥) → get_or served' k None ≡ get_or served k None)
    → StandsAt n (made_for n made ++ more) (get_or tasks' n None) (get_or served' n None) → AllStand (made ++ tag n more) tasks' served'
one_stands n more made tasks tasks' served served' all less same_tasks same_served other_tasks other_served here = record {
  as_many = same_served ∙ all.as_many ∙ sym same_tasks;
  only = subst (λ (m : ℕ). AllByRecursion (λ (x : ℕ × Asked). x.0 < m) (made ++ tag n more)) (sym same_tasks)
      (only_append (length tasks) made (tag n more) all.only (only_tagged n (length tasks) more less));
  each = λ k within. ⊎_elim (at k) (beside k within) (same_or k n);
}
  where
    at : (k : ℕ) → k ≡ n → StandsAt k (made_for k (made ++ tag n more)) (get_or tasks' k None) (get_or served' k None)
    at k e = subst (λ (j : ℕ). StandsAt j (made_for j (made ++ tag n more)) (get_or tasks' j None) (get_or served' j None)) (sym e)
        (subst (λ (qs : List Asked). StandsAt n qs (get_or tasks' n None) (get_or served' n None))
        (sym (made_append n made (tag n more) ∙ ap (λ (qs : List Asked). made_for n made ++ qs) (made_here n more))) here)

    beside : (k : ℕ) → k < length tasks' → (k ≡ n → ⊥) → StandsAt k (made_for k (made ++ tag n more)) (get_or tasks' k None) (get_or served' k None)
    beside k within other = subst (λ (o : Option TaskState). StandsAt k (made_for k (made ++ tag n more)) o (get_or served' k None)) (sym (other_tasks k other))
        (subst (λ (o : Option Service). StandsAt k (made_for k (made ++ tag n more)) (get_or tasks k None) o) (sym (other_served k other))
        (subst (λ (qs : List Asked). StandsAt k qs (get_or tasks k None) (get_or served k None))
        (sym (made_append k made (tag n more) ∙ (ap (λ (qs : List Asked). made_for k made ++ qs) (made_there k n more other) ∙ append-nil (made_for k made))))
        (all.each k (subst (λ (m : ℕ). k < m) same_tasks within))))

-- one comes
pub one_comes : (more : List Asked) (made : List (ℕ × Asked)) (tasks : List (Option TaskState)) (served : List (Option Service)) (x : Option TaskState) (y : Option Service)
    → AllStand made tasks served → StandsAt (length tasks) more x y → AllStand (made ++ tag (length tasks) more) (tasks ++ x ∷ []) (served ++ y ∷ [])
one_comes more made tasks served x y all here = record {
  as_many = length-append served (y ∷ []) ∙ (ap (λ (m : ℕ). m + 1) all.as_many ∙ sym (length-append tasks (x ∷ [])));
  only = subst (λ (m : ℕ). AllByRecursion (λ (q : ℕ × Asked). q.0 < m) (made ++ tag n more)) (sym (length-append tasks (x ∷ [])))
      (only_append (n + 1) made (tag n more) (only_wider n (n + 1) made (omega arith) all.only) (only_tagged n (n + 1) more (omega arith)));
  each = λ k within. ⊎_elim (at k) (beside k within) (same_or k n);
}
  where
    n : ℕ
    n = length tasks

    checks : made_for n (made ++ tag n more) ≡ more
    checks = made_append n made (tag n more) ∙ (ap (λ (qs : List Asked). qs ++ made_for n (tag n more)) (none_for n made all.only) ∙ made_here n more)

    at : (k : ℕ) → k ≡ n → StandsAt k (made_for k (made ++ tag n more)) (get_or (tasks ++ x ∷ []) k None) (get_or (served ++ y ∷ []) k None)
    at k e = subst (λ (j : ℕ). StandsAt j (made_for j (made ++ tag n more)) (get_or (tasks ++ x ∷ []) j None) (get_or (served ++ y ∷ []) j None)) (sym e)
        (subst (λ (qs : List Asked). StandsAt n qs (get_or (tasks ++ x ∷ []) n None) (get_or (served ++ y ∷ []) n None)) (sym checks)
        (subst (λ (o : Option TaskState). StandsAt n more o (get_or (served ++ y ∷ []) n None)) (sym (get_or_push tasks x None n refl))
        (subst (λ (o : Option Service). StandsAt n more x o) (sym (get_or_push served y None n all.as_many)) here)))

    beside : (k : ℕ) → k < length (tasks ++ x ∷ []) → (k ≡ n → ⊥)
        → StandsAt k (made_for k (made ++ tag n more)) (get_or (tasks ++ x ∷ []) k None) (get_or (served ++ y ∷ []) k None)
    beside k within other =
        let less : k < length tasks = omega (arith, within, length-append tasks (x ∷ []), other) in
        let less' : k < length served = omega (arith, less, all.as_many) in
        subst (λ (o : Option TaskState). StandsAt k (made_for k (made ++ tag n more)) o (get_or (served ++ y ∷ []) k None)) (sym (get_or_append_left tasks (x ∷ []) None k less))
        (subst (λ (o : Option Service). StandsAt k (made_for k (made ++ tag n more)) (get_or tasks k None) o) (sym (get_or_append_left served (y ∷ []) None k less'))
        (subst (λ (qs : List Asked). StandsAt k qs (get_or tasks k None) (get_or served k None))
        (sym (made_append k made (tag n more) ∙ (ap (λ (qs : List Asked). made_for k made ++ qs) (made_there k n more other) ∙ append-nil (made_for k made))))
        (all.each k less)))

-- after more checks each stands again
pub stand_again : {S : Type 0} (answers : CheckStep S) (p q : S) (old new : Standing) → Stand old → Runs answers p q old new → Stand new
stand_again answers p q old new s r = (s.0 ++ r.0, r.2 s.0 s.1)

-- ---- runs, one after the other

pub runs_none : {S : Type 0} (answers : CheckStep S) (p : S) (s : Standing) → Runs answers p p s s
runs_none answers p s = (
  [],
  refl,
  λ made all. subst (λ (qs : List (ℕ × Asked)). AllStand qs s.tasks s.served) (sym (append-nil made)) all,
)

pub runs_more : {S : Type 0} (answers : CheckStep S) (a b c : S) (x y z : Standing) → Runs answers a b x y → Runs answers b c y z → Runs answers a c x z
runs_more answers a b c x y z r t = (
  r.0 ++ t.0,
  subst (λ (qs : List Asked). Lead answers a qs c) (sym (map-append (λ (q : ℕ × Asked). q.1) r.0 t.0))
      (lead_more answers a b c (map (λ (q : ℕ × Asked). q.1) r.0) (map (λ (q : ℕ × Asked). q.1) t.0) r.1 t.1),
  λ made all. subst (λ (qs : List (ℕ × Asked)). AllStand qs z.tasks z.served) (append_assoc made r.0 t.0) (t.2 (made ++ r.0) (r.2 made all)),
)

-- ---- how many go on

pub count_push : (xs : List (Option TaskState)) (s : TaskState) → live_count (xs ++ Some s ∷ []) ≡ live_count xs + 1
count_push [] s = refl
count_push (None ∷ xs) s = count_push xs s
count_push (Some x ∷ xs) s = let r = count_push xs s in omega (arith, r)

pub count_push_none : (xs : List (Option TaskState)) → live_count (xs ++ None ∷ []) ≡ live_count xs
count_push_none [] = refl
count_push_none (None ∷ xs) = count_push_none xs
count_push_none (Some x ∷ xs) = let r = count_push_none xs in omega (arith, r)

pub count_taken : (xs : List (Option TaskState)) (n : ℕ) (s : TaskState) → Some s ≡ get_or xs n None → live_count xs ≡ live_count (set xs n None) + 1
count_taken [] n s is = absurd (cc)
count_taken (None ∷ xs) zero s is = absurd (cc)
count_taken (Some x ∷ xs) zero s is = omega arith
count_taken (None ∷ xs) (suc n) s is = count_taken xs n s is
count_taken (Some x ∷ xs) (suc n) s is = let r = count_taken xs n s is in omega (arith, r)

-- put where none was
pub count_put : (xs : List (Option TaskState)) (n : ℕ) (s : TaskState) → get_or xs n None ≡ None → n < length xs → live_count (set xs n (Some s)) ≡ live_count xs + 1
count_put [] n s is less = absurd (omega (arith, less))
count_put (None ∷ xs) zero s is less = omega arith
count_put (Some x ∷ xs) zero s is less = absurd (cc)
count_put (None ∷ xs) (suc n) s is less = count_put xs n s is (omega (arith, less))
count_put (Some x ∷ xs) (suc n) s is less = let r = count_put xs n s is (omega (arith, less)) in omega (arith, r)

-- where none goes on, none is there
pub none_live : (xs : List (Option TaskState)) (n : ℕ) → live_count xs ≡ 0 → get_or xs n None ≡ None
none_live [] n zeroes = refl
none_live (None ∷ xs) zero zeroes = refl
none_live (None ∷ xs) (suc n) zeroes = none_live xs n zeroes
none_live (Some x ∷ xs) n zeroes = absurd (omega (arith, zeroes))

-- one that is there is within
pub there_within : (xs : List (Option TaskState)) (n : ℕ) (s : TaskState) → Some s ≡ get_or xs n None → n < length xs
there_within [] n s is = absurd (cc)
there_within (x ∷ xs) zero s is = omega arith
there_within (x ∷ xs) (suc n) s is = let r = there_within xs n s is in omega (arith, r)

-- as many go on where one is put where one was
pub count_kept : (xs : List (Option TaskState)) (n : ℕ) (s t : TaskState) → Some s ≡ get_or xs n None → live_count (set (set xs n None) n (Some t)) ≡ live_count xs
count_kept [] n s t is = absurd (cc)
count_kept (None ∷ xs) zero s t is = absurd (cc)
count_kept (Some x ∷ xs) zero s t is = refl
count_kept (None ∷ xs) (suc n) s t is = count_kept xs n s t is
count_kept (Some x ∷ xs) (suc n) s t is = let r = count_kept xs n s t is in omega (arith, r)

pub live_few : (xs : List (Option TaskState)) → live_count xs ≤ length xs
live_few [] = omega arith
live_few (None ∷ xs) = let r = live_few xs in omega (arith, r)
live_few (Some x ∷ xs) = let r = live_few xs in omega (arith, r)

-- ---- one that goes on is run

abbrev Goes : List Asked → TaskState → Type 0
Goes asked s = (first : LinkState) × IsNewLink first × IsOn first asked s × (is_live s.mode ≡ true)

going : (k : ℕ) (asked : List Asked) (t : Option TaskState) (s : TaskState) (o : Option Service) → Some s ≡ t → StandsAt k asked t o → (o ≡ None) × Goes asked s
going k asked None s o is x = absurd (cc)
going k asked (Some t) s (Some v) is x = absurd x
going k asked (Some t) s None is x =
    let same : t ≡ s = cc in
    (refl, (x.0, x.1, subst (λ (u : TaskState). IsOn x.0 asked u) same x.2, subst (λ (u : TaskState). is_live u.mode ≡ true) same x.3))

module _ (n : ℕ) (more : List Asked) (made : List (ℕ × Asked)) (tasks : List (Option TaskState)) (served : List (Option Service)) (s : TaskState)
    (all : AllStand made tasks served) (is : Some s ≡ get_or tasks n None) where
  less : n < length tasks
  less = there_within tasks n s is

  was : (get_or served n None ≡ None) × Goes (made_for n made) s
  was = going n (made_for n made) (get_or tasks n None) s (get_or served n None) is (all.each n less)

  -- it waits again
  pub ran_on : (s' : TaskState) → is_live s'.mode ≡ true → ((first : LinkState) (asked : List Asked) → IsOn first asked s → IsOn first (asked ++ more) s')
      → AllStand (made ++ tag n more) (set (set tasks n None) n (Some s')) served
  ran_on s' live on =
      let same = length-set tasks n None in
      one_stands n more made tasks (set (set tasks n None) n (Some s')) served served all less (length-set (set tasks n None) n (Some s') ∙ same) refl
      (λ k other. get_or-set_other (set tasks n None) n k (Some s') None other ∙ get_or-set_other tasks n k None None other) (λ k other. refl)
      (subst (λ (o : Option TaskState). StandsAt n (made_for n made ++ more) o (get_or served n None))
      (sym (get_or-set_same (set tasks n None) n (Some s') None (omega (arith, less, same))))
      (subst (λ (o : Option Service). StandsAt n (made_for n made ++ more) (Some s') o) (sym was.0)
      (was.1.0, was.1.1, on was.1.0 (made_for n made) was.1.2, live)))

  -- it has ended
  pub ran_out : (v : Service) → v.number ≡ n
      → ((first : LinkState) (asked : List Asked) → IsNewLink first → IsOn first asked s → IsTaskServed v (asked ++ more))
      → AllStand (made ++ tag n more) (set tasks n None) (set served n (Some v))
  ran_out v number end =
      one_stands n more made tasks (set tasks n None) served (set served n (Some v)) all less (length-set tasks n None) (length-set served n (Some v))
      (λ k other. get_or-set_other tasks n k None None other) (λ k other. get_or-set_other served n k (Some v) None other)
      (subst (λ (o : Option TaskState). StandsAt n (made_for n made ++ more) o (get_or (set served n (Some v)) n None)) (sym (get_or-set_same tasks n None None less))
      (subst (λ (o : Option Service). StandsAt n (made_for n made ++ more) None o)
      (sym (get_or-set_same served n (Some v) None (omega (arith, less, all.as_many))))
      (number, end was.1.0 (made_for n made) was.1.1 was.1.2)))

-- it goes on
pub one_goes : (n : ℕ) (old : Standing) (s : TaskState) → Stand old → Some s ≡ get_or old.tasks n None → IsGoing s
one_goes n old s st is =
    let w = was n [] st.0 old.tasks old.served s st.1 is in
    (w.1.0, made_for n st.0, w.1.1, w.1.2)
