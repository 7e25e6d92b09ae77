-- What one pass that stands for all tells of each of them.
use Rattle.std.proofs.Common.{◌≡◌, ℕ, zero, suc, ◌+◌, ◌-◌, ◌≤◌, List, [], ◌∷◌, ◌++◌, length, get_or, replicate, refl, sym, ap, ◌∙◌, subst, arith, length-append}
use Rattle.std.specs.Prelude.{All}
use Rattle.std.proofs.lemmas.List.{append-nil}
use Rattle.crossbeam_channel.specs.Claims.{view}
use Rattle.rate_types.specs.Sums.{total, times}
use Rattle.rate_types.proofs.Sums.{total_append}
use Rattle.link_handover.specs.declared.taken.Taken.{Taken}
use Rattle.link_handover.specs.declared.taken.Taken.TheVariants.{End}
use Rattle.link_handover.specs.declared.journal.Journal.{Journal}
use Rattle.link_handover.specs.declared.passes.TakePass.{TakePass}
use Rattle.link_handover.specs.Handover.{numbered, put_in_all, numbers_in}
use Rattle.link_handover.specs.Journals.{joined, Leaves}
use Rattle.link_handover.specs.Passes.{is_end, taken_by, numbers_taken, IsOnceBelow}
use Rattle.link_handover.proofs.Lists.{ends_total, numbered_ends, has_number, number_total, numbered_once, ends_numbers}

at_length : {A : Type 0} (xs ys : List A) (y : A) → get_or (xs ++ y ∷ ys) (length xs) y ≡ y
at_length [] ys y = refl
at_length (x ∷ xs) ys y = at_length xs ys y

-- what holds of all holds of the next one
pub all_next : {A : Type 0} (P : A → Type 0) (xs ys zs rest : List A) (y : A) → All P zs → xs ++ rest ≡ zs → rest ≡ y ∷ ys → P y
all_next P xs ys zs rest y all whole here =
    let e : xs ++ y ∷ ys ≡ zs = ap (λ (l : List _). xs ++ l) (sym here) ∙ whole in
    subst P (at_length xs ys y) (subst (λ (l : List _). All P l) (sym e) all (length xs) y (omega (arith, length-append xs (y ∷ ys))))

module _ {N : Type 0} where
  -- a journal that stands for one that put, and for these passes
  pub record Stands (first : Journal N) (takes : List (TakePass N)) (v : Journal N) : Type 0 where
    pub puts : v.puts ≡ first.puts
    pub links : v.links ≡ first.links
    pub marks : v.marks ≡ first.marks
    pub parts : v.parts ≡ first.parts + length takes
    pub taken : (weight : Taken N → ℕ) → total weight v.taken ≡ total (λ t. total weight (taken_by t)) takes

  pub alone : (first : Journal N) → first.taken ≡ [] → Stands first [] first
  alone first none = record { puts = refl; links = refl; marks = refl; parts = omega arith; taken = λ weight. ap (total weight) none }

  pub one_more : (first : Journal N) (takes : List (TakePass N)) (v : Journal N) (t : TakePass N) → Stands first takes v
      → Stands first (takes ++ t ∷ []) (joined v (view t.pass))
  one_more first takes v t s = record {
    puts = s.puts;
    links = s.links;
    marks = s.marks;
    parts = let c = s.parts in let one = t.takes.1 in omega (arith, length-append takes (t ∷ []));
    taken = λ weight.
        let a = s.taken weight in
        let b = total_append weight v.taken (taken_by t) in
        let c = total_append (λ (x : TakePass N). total weight (taken_by x)) takes (t ∷ []) in
        omega arith;
  }

  tail_same : (x y : Taken N) (xs ys : List (Taken N)) → x ∷ xs ≡ y ∷ ys → xs ≡ ys
  tail_same x y xs ys e = cc

  nothing_left : (first items : List (Taken N)) (i : Taken N) → [] ≡ first ++ i ∷ items → ⊥
  nothing_left [] items i e = cc
  nothing_left (f ∷ fs) items i e = cc

  -- an end mark stands last
  last_end : (xs : List (Taken N)) (m : ℕ) (first : List (Taken N)) (i : Taken N) (items : List (Taken N)) → xs ++ replicate (suc m) End ≡ first ++ i ∷ items
      → 1 ≤ total is_end (i ∷ items)
  last_end xs m [] i items e =
      let a = total_append (is_end {N = N}) xs (replicate (suc m) End) in
      let b = ends_total N (suc m) in
      let c : total is_end (xs ++ replicate (suc m) End) ≡ total is_end (i ∷ items) = ap (total is_end) e in
      omega arith
  last_end (x ∷ xs) m (f ∷ fs) i items e = last_end xs m fs i items (tail_same x f (xs ++ replicate (suc m) End) (fs ++ i ∷ items) e)
  last_end [] zero (f ∷ fs) i items e = absurd (nothing_left fs items i (tail_same End f [] (fs ++ i ∷ items) e))
  last_end [] (suc m) (f ∷ fs) i items e = last_end [] m fs i items (tail_same End f (replicate (suc m) End) (fs ++ i ∷ items) e)

  pub put_ends : (links : List N) (marks : ℕ) → total is_end (put_in_all links marks) ≡ marks
  put_ends links marks =
      let a = total_append (is_end {N = N}) (numbered 0 links) (replicate marks End) in
      let b = numbered_ends 0 links in
      let c = ends_total N marks in
      omega arith

  -- where as many end marks were taken as were put, nothing is left
  nothing : (links : List N) (marks : ℕ) (first items : List (Taken N)) → 1 ≤ marks → total is_end first ≡ marks
      → put_in_all links marks ≡ first ++ items → items ≡ []
  nothing links marks first [] some all e = refl
  nothing links zero first (i ∷ items) some all e = absurd (omega arith)
  nothing links (suc m) first (i ∷ items) some all e =
      let a = last_end (numbered 0 links) m first i items e in
      let b = put_ends links (suc m) in
      let c : total is_end (put_in_all links (suc m)) ≡ total is_end (first ++ i ∷ items) = ap (total is_end) e in
      let d = total_append (is_end {N = N}) first (i ∷ items) in
      absurd (omega arith)

  pub closes : (first : Journal N) (takes : List (TakePass N)) (v : Journal N) (items : List (Taken N)) → Stands first takes v → Leaves v items
      → 1 ≤ first.marks → total (λ t. total is_end (taken_by t)) takes ≡ first.marks
      → (weight : Taken N → ℕ) → total (λ t. total weight (taken_by t)) takes ≡ total weight (put_in_all first.links first.marks)
  closes first takes v items s leaves some ended weight =
      let put : put_in_all first.links first.marks ≡ leaves.first ++ items =
      subst (λ (l : List N). put_in_all l first.marks ≡ leaves.first ++ items) s.links
      (subst (λ (m : ℕ). put_in_all v.links m ≡ leaves.first ++ items) s.marks leaves.put) in
      let none : items ≡ [] = nothing first.links first.marks leaves.first items some (sym (leaves.taken is_end) ∙ s.taken is_end ∙ ended) put in
      sym (s.taken weight) ∙ leaves.taken weight ∙ ap (total weight) (sym (append-nil leaves.first) ∙ ap (λ (l : List (Taken N)). leaves.first ++ l) (sym none) ∙ sym put)

  -- then it stands for all
  pub all_parts : (first : Journal N) (yielded takes : List (TakePass N)) (v : Journal N) → Stands first yielded v → yielded ≡ takes → length takes ≡ 65 - first.parts
      → first.parts ≤ 65 → 1 ≤ first.marks → total (λ t. total is_end (taken_by t)) takes ≡ first.marks → v.parts ≡ 65
  all_parts first yielded takes v s whole every most some ended =
      let p = s.parts in
      let len : length yielded ≡ length takes = ap length whole in
      omega arith

  numbers_of_all : (n : ℕ) (takes : List (TakePass N)) → total (λ t. total (has_number n) (taken_by t)) takes ≡ total (λ t. times n (numbers_taken t)) takes
  numbers_of_all n [] = refl
  numbers_of_all n (t ∷ ts) = let a = number_total n (taken_by t) in let r = numbers_of_all n ts in omega arith

  -- each number that was put was taken once
  pub each_once : (links : List N) (marks : ℕ) (takes : List (TakePass N))
      → ((weight : Taken N → ℕ) → total (λ t. total weight (taken_by t)) takes ≡ total weight (put_in_all links marks))
      → (n : ℕ) → IsOnceBelow (length links) n (total (λ t. times n (numbers_taken t)) takes)
  each_once links marks takes all n =
      let same : total (λ t. times n (numbers_taken t)) takes ≡ times n (numbers_in (numbered 0 links)) =
      sym (numbers_of_all n takes) ∙ all (has_number n) ∙ number_total n (put_in_all links marks) ∙ ap (times n) (ends_numbers (numbered 0 links) marks) in
      let o = numbered_once 0 links n (omega arith) in
      record { once = λ lt. same ∙ o.once (omega arith); none = λ le. same ∙ o.none (omega arith) }
