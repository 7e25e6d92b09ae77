-- Each step keeps the rule.
use Rattle.std.proofs.Common.{◌≡◌, ◌≢◌, ℕ, zero, suc, ◌+◌, ◌≤◌, List, [], ◌∷◌, ◌++◌, length, set, true, false, true≢false, refl, sym, ap, ◌∙◌, subst, ⊎_elim, arith, append_assoc}
use Rattle.std.specs.Prelude.{⊤}
use mathlib.Core.Option.{some, some-ne-none}
use lib.ListN.{get_elem?}
use Rattle.atomic_table.proofs.Lists.{at_set, at_snoc}
use Rattle.crossbeam_channel.specs.Fifo.{Pushes, Pops, Forks, Merges, Learns}
use Rattle.rate_types.specs.Sums.{total, times}
use Rattle.rate_types.proofs.Sums.{total_set, total_same, total_append, total_push, total_one, total_all}
use Rattle.link_handover.specs.declared.taken.Taken.{Taken}
use Rattle.link_handover.specs.declared.taken.Taken.TheVariants.{Link, End}
use Rattle.link_handover.specs.declared.journal.Journal.{Journal}
use Rattle.link_handover.specs.Handover.{put_in_all, numbers_in, AreRising, KnowsPut, HandoverLawful}
use Rattle.link_handover.specs.Journals.{first_journal, no_journal, one_taker, one_less, joined, MayPut, HasPut, HasTaken, Leaves}
use Rattle.link_handover.proofs.Lists.{push_link, push_end, next_link, has_number, number_total, numbers_push, numbers_end, rising_push}

module _ {N : Type 0} where
  -- what holds of each view under its number holds after a change of one
  port_set : (P : ℕ → Journal N → Type 0) (views : List (Journal N)) (port : ℕ) (w : Journal N)
      → ((j : ℕ) (u : Journal N) → j ≢ port → get_elem? views j ≡ some u → P j u) → P port w
      → (j : ℕ) (u : Journal N) → get_elem? (set views port w) j ≡ some u → P j u
  port_set P views port w others mine j u e = ⊎_elim (λ (x : (j ≡ port) × (w ≡ u)). subst (λ (y : ℕ × Journal N). P y.0 y.1) (λ i. (sym x.0 i, x.1 i)) mine)
      (λ (x : (j ≢ port) × (get_elem? views j ≡ some u)). others j u x.0 x.1) (at_set views port j w u e)

  port_more : (P : ℕ → Journal N → Type 0) (views : List (Journal N)) (w : Journal N)
      → ((j : ℕ) (u : Journal N) → get_elem? views j ≡ some u → P j u) → ((j : ℕ) → P j w)
      → (j : ℕ) (u : Journal N) → get_elem? (views ++ w ∷ []) j ≡ some u → P j u
  port_more P views w others mine j u e = ⊎_elim (λ x. others j u x) (λ (x : w ≡ u). subst (P j) x (mine j)) (at_snoc views w u j e)

  abbrev taken_as : (Taken N → ℕ) → Journal N → ℕ
  taken_as weight v = total weight v.taken

  abbrev parts_of : Journal N → ℕ
  parts_of v = v.parts

  abbrev Rises : ℕ → Journal N → Type 0
  Rises j v = v.puts ≡ false → AreRising (numbers_in v.taken)

  abbrev Bare : ℕ → Journal N → Type 0
  Bare j v = v.parts ≡ 0 → v.taken ≡ []

  pub begins : HandoverLawful [] (first_journal {N = N} ∷ [])
  begins = record {
    links = [];
    marks = 0;
    first = [];
    putter = 0;
    queue = refl;
    taken = λ weight. refl;
    puts = port_set (KnowsPut 0 [] 0) (first_journal ∷ []) 0 first_journal (λ j u off e. absurd (alone j u off e)) (λ y. (refl, refl, refl));
    rising = port_set Rises (first_journal ∷ []) 0 first_journal (λ j u off e. absurd (alone j u off e)) (λ n. tt);
    passes = refl;
    bare = port_set Bare (first_journal ∷ []) 0 first_journal (λ j u off e. absurd (alone j u off e)) (λ n. refl);
  }
    where
      alone : (j : ℕ) (u : Journal N) → j ≢ 0 → get_elem? (first_journal ∷ []) j ≡ some u → ⊥
      alone zero u off e = off refl
      alone (suc j) u off e = some-ne-none u (sym e)

  -- a change of what was put leaves what was taken
  put_more : (items : List (Taken N)) (views : List (Journal N)) (port : ℕ) (v w : Journal N) (links : List N) (marks : ℕ) (x : Taken N)
      → (h : HandoverLawful items views) → get_elem? views port ≡ some v → v.puts ≡ true → w ≡ record v { links = links; marks = marks }
      → put_in_all links marks ≡ h.first ++ (items ++ x ∷ []) → HandoverLawful (items ++ x ∷ []) (set views port w)
  put_more items views port v w links marks x h at puts is queue =
      let taken : w.taken ≡ v.taken = ap (λ (u : Journal N). u.taken) is in
      let parts : w.parts ≡ v.parts = ap (λ (u : Journal N). u.parts) is in
      let mine = h.puts port v at puts in record {
        links = links;
        marks = marks;
        first = h.first;
        putter = h.putter;
        queue = queue;
        taken = λ weight. total_same (taken_as weight) views port v w at (ap (total weight) taken) ∙ h.taken weight;
        puts = port_set (KnowsPut h.putter links marks) views port w (λ j u off e y. absurd (off ((h.puts j u e y).0 ∙ sym mine.0)))
            (λ y. (mine.0, ap (λ (u : Journal N). u.links) is, ap (λ (u : Journal N). u.marks) is));
        rising = port_set Rises views port w (λ j u off e. h.rising j u e)
            (λ n. absurd (true≢false (sym puts ∙ sym (ap (λ (u : Journal N). u.puts) is) ∙ n)));
        passes = total_same parts_of views port v w at parts ∙ h.passes;
        bare = port_set Bare views port w (λ j u off e. h.bare j u e) (λ n. taken ∙ h.bare port v at (sym parts ∙ n));
      }

  puts_link : (n port : ℕ) (v : Journal N) (number : ℕ) (x : N) → v.puts ≡ true → v.marks ≡ 0 → number ≡ length v.links
      → Pushes HandoverLawful n port v (Link number x) (HasPut (Link number x) v)
  puts_link n port v number x puts none is items views room h at =
      let mine = h.puts port v at puts in
      let w : Journal N = record v { links = v.links ++ x ∷ [] } in
      let queue = subst (λ (l : List N). put_in_all l h.marks ≡ h.first ++ items) (sym mine.1) h.queue in
      let queue' = subst (λ (m : ℕ). put_in_all v.links m ≡ h.first ++ items) (sym mine.2) queue in (
        w,
        put_more items views port v w (v.links ++ x ∷ []) v.marks (Link number x) h at puts refl
            (push_link v.links x v.marks number h.first items none is queue'),
        refl,
      )

  puts_end : (n port : ℕ) (v : Journal N) → v.puts ≡ true → Pushes HandoverLawful n port v End (HasPut End v)
  puts_end n port v puts items views room h at =
      let mine = h.puts port v at puts in
      let w : Journal N = record v { marks = v.marks + 1 } in
      let queue = subst (λ (l : List N). put_in_all l h.marks ≡ h.first ++ items) (sym mine.1) h.queue in
      let queue' = subst (λ (m : ℕ). put_in_all v.links m ≡ h.first ++ items) (sym mine.2) queue in (
        w,
        put_more items views port v w v.links (v.marks + 1) End h at puts refl (push_end v.links v.marks h.first items queue'),
        refl,
      )

  pub puts_any : (n port : ℕ) (v : Journal N) (x : Taken N) → MayPut x v → Pushes HandoverLawful n port v x (HasPut x v)
  puts_any n port v (Link number x) may = puts_link n port v number x may.0 may.1 may.2
  puts_any n port v End may = puts_end n port v may

  -- one more was taken
  take_more : (x : Taken N) (items : List (Taken N)) (views : List (Journal N)) (port : ℕ) (v w : Journal N) → (h : HandoverLawful (x ∷ items) views)
      → get_elem? views port ≡ some v → v.puts ≡ false → 1 ≤ v.parts → w ≡ record v { taken = v.taken ++ x ∷ [] } → AreRising (numbers_in w.taken)
      → HandoverLawful items (set views port w)
  take_more x items views port v w h at takes some_part is rises =
      let parts : w.parts ≡ v.parts = ap (λ (u : Journal N). u.parts) is in record {
        links = h.links;
        marks = h.marks;
        first = h.first ++ x ∷ [];
        putter = h.putter;
        queue = h.queue ∙ sym (append_assoc h.first (x ∷ []) items);
        taken = λ weight.
            let a = total_set (taken_as weight) views port v w at in
            let b : total weight w.taken ≡ total weight (v.taken ++ x ∷ []) = ap (λ (u : Journal N). total weight u.taken) is in
            let c = total_push weight v.taken x in
            let d = total_push weight h.first x in
            let e = h.taken weight in
            omega arith;
        puts = port_set (KnowsPut h.putter h.links h.marks) views port w (λ j u off e. h.puts j u e)
            (λ y. absurd (true≢false (sym y ∙ ap (λ (u : Journal N). u.puts) is ∙ takes)));
        rising = port_set Rises views port w (λ j u off e. h.rising j u e) (λ n. rises);
        passes = total_same parts_of views port v w at parts ∙ h.passes;
        bare = port_set Bare views port w (λ j u off e. h.bare j u e) (λ n. absurd (omega arith));
      }

  rising_next : (x : Taken N) (items : List (Taken N)) (views : List (Journal N)) (port : ℕ) (v : Journal N) → (h : HandoverLawful (x ∷ items) views)
      → get_elem? views port ≡ some v → v.puts ≡ false → AreRising (numbers_in (v.taken ++ x ∷ []))
  rising_next (Link n y) items views port v h at takes =
      let next = next_link 0 h.links h.marks h.first n y items h.queue in
      let none : (j : ℕ) → n ≤ j → times j (numbers_in v.taken) ≡ 0 = λ j le.
      let a = total_one (taken_as (has_number j)) views port v at in
      let b = h.taken (has_number j) in
      let c = next.below j le in
      let d = number_total j v.taken in
      omega arith in
      subst AreRising (sym (numbers_push v.taken n y)) (rising_push (numbers_in v.taken) n (h.rising port v at takes) none)
  rising_next End items views port v h at takes = subst AreRising (sym (numbers_end v.taken)) (h.rising port v at takes)

  pub takes_one : (port : ℕ) (v : Journal N) → v.puts ≡ false → 1 ≤ v.parts → Pops HandoverLawful port v (λ x. HasTaken x v)
  takes_one port v takes some_part x items views h at =
      let w : Journal N = record v { taken = v.taken ++ x ∷ [] } in
      let rises = rising_next x items views port v h at takes in
      (w, take_more x items views port v w h at takes some_part refl rises, (refl, rises))

  pub forks : (port : ℕ) (v : Journal N) → v.puts ≡ true → 2 ≤ v.parts → Forks HandoverLawful port v (one_less v) one_taker
  forks port v puts two items views h at =
      let l = one_less v in
      let vs : List (Journal N) = set views port l in
      let mine = h.puts port v at puts in record {
        links = h.links;
        marks = h.marks;
        first = h.first;
        putter = h.putter;
        queue = h.queue;
        taken = λ weight.
            let a = total_same (taken_as weight) views port v l at refl in
            let b = total_push (taken_as weight) vs one_taker in
            let c = h.taken weight in
            omega arith;
        puts = port_more (KnowsPut h.putter h.links h.marks) vs one_taker
            (port_set (KnowsPut h.putter h.links h.marks) views port l (λ j u off e. h.puts j u e) (λ y. mine)) (λ j y. absurd (true≢false (sym y)));
        rising = port_more Rises vs one_taker (port_set Rises views port l (λ j u off e. h.rising j u e) (λ n. h.rising port v at n)) (λ j n. tt);
        passes =
            let a = total_set parts_of views port v l at in
            let b = total_push parts_of vs one_taker in
            let c = h.passes in
            omega arith;
        bare = port_more Bare vs one_taker (port_set Bare views port l (λ j u off e. h.bare j u e) (λ n. absurd (omega arith))) (λ j n. refl);
      }

  pub merges : (port : ℕ) (v : Journal N) (other : ℕ) (u : Journal N) → v.puts ≡ true → u.puts ≡ false → 1 ≤ u.parts
      → Merges HandoverLawful port v other u (joined v u) no_journal
  merges port v other u puts takes some_part items views h at two at' =
      let both = joined v u in
      let vs : List (Journal N) = set views port both in
      let mine = h.puts port v at puts in record {
        links = h.links;
        marks = h.marks;
        first = h.first;
        putter = h.putter;
        queue = h.queue;
        taken = λ weight.
            let a = total_set (taken_as weight) views port v both at in
            let b = total_set (taken_as weight) vs other u no_journal at' in
            let c = total_append weight v.taken u.taken in
            let d = h.taken weight in
            omega arith;
        puts = port_set (KnowsPut h.putter h.links h.marks) vs other no_journal
            (λ j y off. port_set (KnowsPut h.putter h.links h.marks) views port both (λ i z away e. h.puts i z e) (λ yes. mine) j y)
            (λ y. absurd (true≢false (sym y)));
        rising = port_set Rises vs other no_journal
            (λ j y off. port_set Rises views port both (λ i z away e. h.rising i z e) (λ n. absurd (true≢false (sym puts ∙ n))) j y) (λ n. tt);
        passes =
            let a = total_set parts_of views port v both at in
            let b = total_set parts_of vs other u no_journal at' in
            let c = h.passes in
            omega arith;
        bare = port_set Bare vs other no_journal (λ j y off. port_set Bare views port both (λ i z away e. h.bare i z e) (λ n. absurd (omega arith)) j y) (λ n. refl);
      }

  pub learns : (port : ℕ) (v : Journal N) → v.puts ≡ true → v.parts ≡ 65 → Learns HandoverLawful port v (Leaves v)
  learns port v puts all items views h at =
      let mine = h.puts port v at puts in record {
        first = h.first;
        put = subst (λ (l : List N). put_in_all l v.marks ≡ h.first ++ items) (sym mine.1)
            (subst (λ (m : ℕ). put_in_all h.links m ≡ h.first ++ items) (sym mine.2) h.queue);
        taken = λ weight.
            sym (total_all (taken_as weight) parts_of views port v (λ j u e none. ap (total weight) (h.bare j u e none)) at (h.passes ∙ sym all)) ∙ h.taken weight;
      }

  pub nothing_told : (port : ℕ) (v : Journal N) → Learns HandoverLawful port v (λ items. ⊤)
  nothing_told port v items views h at = tt
