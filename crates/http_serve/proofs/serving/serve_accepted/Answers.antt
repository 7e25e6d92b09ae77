use Rattle.std.proofs.Common.{◌≡◌, ◌++◌, List, ℕ, All, map, length, true, sym, ap, ◌∙◌, subst, arith}
use Rattle.std.proofs.lemmas.List.{length-map}
use Rattle.std.specs.List.{AllByRecursion}
use Rattle.rate_types.specs.Sums.{total, times}
use Rattle.link_handover.specs.Passes.{TakesFrom, taken_by, numbers_taken, is_end, IsOnceBelow, links_put}
use Rattle.http_serve.specs.Service.{Service, AreServedBy}
use Rattle.http_serve.specs.Links.{accepts}
use Rattle.http_serve.specs.Merged.{Merges, joined, EachNumberOnce}
use Rattle.http_serve.proofs.Lists.{all_index, index_all, written_back}
use Rattle.http_serve.proofs.Working.{all_worked, ends_all, takes_all, numbers_all, each_once, served_by, numbered_by, asked_all, all_map}
use Rattle.http_serve.proofs.serving.serve_accepted.Goals as goal

pub close-requires-clause-takes : goal.close-requires-clause-takes
close-requires-clause-takes g c =
    let ws = c.in_ok-workers.workers.items in
    let new = c.serve_beside.new.workers in
    let answers = g.K.Checks.answers in
    let h = c.in_ok-handover.handover in
    let len : length new ≡ length ws = c.serve_beside.ensures.len ∙ ap length c.as_mut_slice.ensures.value in
    let back = written_back ws new c.in_ok-workers.workers.len len c.in_ok-workers.workers.ok.0 in
    let a = all_worked answers h ws c.as_mut_slice.result.now new c.as_mut_slice.ensures.value c.serve_beside.ensures.len c.serve_beside.ensures.each in
    let takes : c.in_ok-takes.field-0.takes.items ≡ map (λ w. w.take) new = c.in_ok-takes.ensures.takes ∙ ap (map (λ w. w.take)) back in
    all_index (λ t. TakesFrom h t) c.in_ok-takes.field-0.takes.items (subst (λ l. AllByRecursion (λ t. TakesFrom h t) l) (sym takes)
    (all_map (λ t. TakesFrom h t) (λ w. w.take) new (takes_all answers h ws new a)))

pub close-requires-clause-ended : goal.close-requires-clause-ended
close-requires-clause-ended g c =
    let ws = c.in_ok-workers.workers.items in
    let new = c.serve_beside.new.workers in
    let answers = g.K.Checks.answers in
    let h = c.in_ok-handover.handover in
    let len : length new ≡ length ws = c.serve_beside.ensures.len ∙ ap length c.as_mut_slice.ensures.value in
    let back = written_back ws new c.in_ok-workers.workers.len len c.in_ok-workers.workers.ok.0 in
    let a = all_worked answers h ws c.as_mut_slice.result.now new c.as_mut_slice.ensures.value c.serve_beside.ensures.len c.serve_beside.ensures.each in
    let takes : c.in_ok-takes.field-0.takes.items ≡ map (λ w. w.take) new = c.in_ok-takes.ensures.takes ∙ ap (map (λ w. w.take)) back in
    let ends = ap (total (λ t. total is_end (taken_by t))) takes ∙ ends_all answers h ws new a in
    let marks = c.serve_beside.ensures.put.1 ∙ ap length c.as_mut_slice.ensures.value in
    let some = c.requires.checkers.0 in
    let n = length-map ws (λ w. w.checks) in
    let k = ap length c.in_ok-workers.ensures.checks in
    let q = c.args.checks.ok.0 in
    (omega arith, ends ∙ sym marks)

pub merge-requires : goal.merge-requires
merge-requires g c =
    let ws = c.in_ok-workers.workers.items in
    let new = c.serve_beside.new.workers in
    let answers = g.K.Checks.answers in
    let h = c.in_ok-handover.handover in
    let len : length new ≡ length ws = c.serve_beside.ensures.len ∙ ap length c.as_mut_slice.ensures.value in
    let back = written_back ws new c.in_ok-workers.workers.len len c.in_ok-workers.workers.ok.0 in
    let a = all_worked answers h ws c.as_mut_slice.result.now new c.as_mut_slice.ensures.value c.serve_beside.ensures.len c.serve_beside.ensures.each in
    let takes : c.in_ok-takes.field-0.takes.items ≡ map (λ w. w.take) new = c.in_ok-takes.ensures.takes ∙ ap (map (λ w. w.take)) back in
    let lists : c.in_ok-takes.field-0.lists.items ≡ map (λ w. w.served.items) new = c.in_ok-takes.ensures.lists ∙ ap (map (λ w. w.served.items)) back in
    let whole = index_all (λ w. w.is_whole ≡ true) new (subst (λ l. All (λ w. w.is_whole ≡ true) l) back c.in_ok-takes.ensures.whole) in
    let count = length (links_put c.serve_beside.new.put) in
    let once = each_once count new (numbers_all answers h ws new a whole)
    (λ n. subst (λ l. IsOnceBelow count n (total (λ t. times n (numbers_taken t)) l)) takes (c.close.ensures.once n)) in
    record {
      once = subst (λ (n : ℕ). EachNumberOnce n (joined c.in_ok-takes.field-0.lists.items)) (sym c.count-count.ensures)
          (subst (λ (l : List (List Service)). EachNumberOnce count (joined l)) (sym lists) once);
    }

pub returns-clause-accepted : goal.returns-clause-accepted
returns-clause-accepted g c =
    let ws = c.in_ok-workers.workers.items in
    let new = c.serve_beside.new.workers in
    let answers = g.K.Checks.answers in
    let h = c.in_ok-handover.handover in
    let len : length new ≡ length ws = c.serve_beside.ensures.len ∙ ap length c.as_mut_slice.ensures.value in
    let back = written_back ws new c.in_ok-workers.workers.len len c.in_ok-workers.workers.ok.0 in
    let a = all_worked answers h ws c.as_mut_slice.result.now new c.as_mut_slice.ensures.value c.serve_beside.ensures.len c.serve_beside.ensures.each in
    let lists : c.in_ok-takes.field-0.lists.items ≡ map (λ w. w.served.items) new = c.in_ok-takes.ensures.lists ∙ ap (map (λ w. w.served.items)) back in
    let checks : c.in_ok-takes.field-0.checks.items ≡ map (λ w. w.checks) new = c.in_ok-takes.ensures.checks ∙ ap (map (λ w. w.checks)) back in
    let services : List Service = c.in_ok-served.served.items in
    let merged : Merges c.count-count.result (map (λ w. w.served.items) new) services
    = subst (λ (l : List (List Service)). Merges c.count-count.result l services) lists c.in_ok-served.ensures.merged in
    let count : length services ≡ length (links_put c.serve_beside.new.put) = merged.as_many ∙ c.count-count.ensures in
    let e = c.in_ok-is_all.ensures in
    record {
      numbered = numbered_by 0 services (λ i s at. let r = merged.numbered i s at in omega arith);
      asked = asked_all answers h ws new a;
      served = subst (λ l. AreServedBy answers c.args.checks.items l services (asked_all answers h ws new a)) (sym checks)
          (subst (λ l. AreServedBy answers l (map (λ w. w.checks) new) services (asked_all answers h ws new a)) c.in_ok-workers.ensures.checks
          (served_by answers h ws new a c.count-count.result services merged));
      events = e.events ∙ ap (λ n. g.L.Listen.history c.args.listen.now ++ accepts n c.in_ok-is_all.is_all) (sym count);
      all = λ yes. count ∙ e.all yes;
      failed = λ no. let f = e.failed no in (omega arith, f.1);
    }
