-- Where the record of each line lies, beside the records that are put at the places of their lines.
use Rattle.std.proofs.Common.{◌≡◌, ℕ, zero, suc, ◌+◌, ◌-◌, ◌<◌, List, [], ◌∷◌, length, map, set, get_or, slice_index_or, drop, replicate, Some, None, refl, sym, ap, ◌∙◌, subst, arith}
use Rattle.std.specs.Prelude.{IsSome, ⊤}
use Rattle.std.specs.List.{AllByRecursion}
use Rattle.std.specs.declared.option.Option.{Option}
use Rattle.std.proofs.lemmas.List.{drop_more}
use Rattle.std.proofs.Math.ListN.{length-set}
use Rattle.reply_text.specs.declared.record.Record.{Record}
use Rattle.script_run.specs.Merged.{joined, EachLineOnce, Merges}
use Rattle.script_run.specs.Places.{all_placed}
use Rattle.script_run.specs.RunRecords.{record_at, journal_at, blank, IsPlace, all_put, each_put}
use Rattle.script_run.specs.declared.run_records.RecordPlace.{RecordPlace}
use Rattle.script_run.proofs.Placing.{put_each, all_filled, merges, placed_append, all_left, all_right}

-- the place of each line that has a record is where that record lies
abbrev Agree : List (List Record) → List RecordPlace → List (Option Record) → Type 0
Agree journals [] [] = ⊤
Agree journals (p ∷ ps) (None ∷ os) = Agree journals ps os
Agree journals (p ∷ ps) (Some r ∷ os) = (record_at journals p ≡ r) × IsPlace journals p × Agree journals ps os
Agree journals ps os = ⊥

agree_none : (journals : List (List Record)) (p : RecordPlace) (n : ℕ) → Agree journals (replicate n p) (replicate n None)
agree_none journals p zero = tt
agree_none journals p (suc n) = agree_none journals p n

agree_set : (journals : List (List Record)) (ps : List RecordPlace) (os : List (Option Record)) (k : ℕ) (p : RecordPlace) (r : Record) → Agree journals ps os
    → record_at journals p ≡ r → IsPlace journals p → Agree journals (set ps k p) (set os k (Some r))
agree_set journals [] [] k p r agree is there = tt
agree_set journals (q ∷ ps) (None ∷ os) zero p r agree is there = (is, there, agree)
agree_set journals (q ∷ ps) (Some s ∷ os) zero p r agree is there = (is, there, agree.2)
agree_set journals (q ∷ ps) (None ∷ os) (suc k) p r agree is there = agree_set journals ps os k p r agree is there
agree_set journals (q ∷ ps) (Some s ∷ os) (suc k) p r agree is there = (agree.0, agree.1, agree_set journals ps os k p r agree.2 is there)
agree_set journals [] (o ∷ os) k p r agree is there = absurd agree
agree_set journals (q ∷ ps) [] k p r agree is there = absurd agree

-- what is left of a list begins with the item at that index
begins : {A : Type 0} (xs : List A) (i : ℕ) (x : A) (rest : List A) (d : A) → drop i xs ≡ x ∷ rest → (i < length xs) × (get_or xs i d ≡ x) × (drop (suc i) xs ≡ rest)
begins [] zero x rest d e = absurd (cc)
begins [] (suc i) x rest d e = absurd (cc)
begins (y ∷ xs) zero x rest d e = (omega arith, cc, cc)
begins (y ∷ xs) (suc i) x rest d e = let more = begins xs i x rest d e in (omega (arith, more.0), more.1, more.2)

one_behind : (n : ℕ) → n + 1 ≡ suc n
one_behind n = omega arith

agree_put : (journals : List (List Record)) (number index : ℕ) (ps : List RecordPlace) (os : List (Option Record)) (rs : List Record) → number < length journals
    → drop index (journal_at journals number) ≡ rs → Agree journals ps os → Agree journals (all_put number index ps rs) (all_placed os rs)
agree_put journals number index ps os [] one rest agree = agree
agree_put journals number index ps os (r ∷ rs) one rest agree =
    let here = begins (journal_at journals number) index r rs blank rest in
    let p : RecordPlace = record { journal = number; index = index } in
    agree_put journals number (index + 1) (set ps (r.line - 1) p) (set os (r.line - 1) (Some r)) rs one
    (ap (λ n. drop n (journal_at journals number)) (one_behind index) ∙ here.2)
    (agree_set journals ps os (r.line - 1) p r agree here.1 (one, here.0))

agree_each : (journals : List (List Record)) (number : ℕ) (ps : List RecordPlace) (os : List (Option Record)) (js : List (List Record)) → drop number journals ≡ js
    → Agree journals ps os → Agree journals (each_put number ps js) (all_placed os (joined js))
agree_each journals number ps os [] rest agree = agree
agree_each journals number ps os (j ∷ js) rest agree =
    let here = begins journals number j js [] rest in
    subst (λ (l : List (Option Record)). Agree journals (each_put (number + 1) (all_put number 0 ps j) js) l) (sym (placed_append os j (joined js)))
    (agree_each journals (number + 1) (all_put number 0 ps j) (all_placed os j) js (ap (λ n. drop n journals) (one_behind number) ∙ here.2)
    (agree_put journals number 0 ps os j here.0 here.1 agree))

agree_filled : (journals : List (List Record)) (ps : List RecordPlace) (os : List (Option Record)) → Agree journals ps os → AllByRecursion (λ o. IsSome o) os
    → (map Some (map (record_at journals) ps) ≡ os) × AllByRecursion (IsPlace journals) ps
agree_filled journals [] [] agree filled = (refl, tt)
agree_filled journals (p ∷ ps) (None ∷ os) agree filled = absurd (cc)
agree_filled journals (p ∷ ps) (Some r ∷ os) agree filled =
    let more = agree_filled journals ps os agree.2 filled.1 in
    let first : ◌≡◌ {A = Option Record} (Some (record_at journals p)) (Some r) = ap Some agree.0 in
    (ap (λ (o : Option Record). o ∷ map Some (map (record_at journals) ps)) first ∙ ap (λ (l : List (Option Record)). Some r ∷ l) more.0, (agree.1, more.1))
agree_filled journals [] (o ∷ os) agree filled = absurd agree
agree_filled journals (p ∷ ps) [] agree filled = absurd agree

-- each line's place is one of a journal, and the records there are the journals' in the order of their lines
pub spread : (lines : ℕ) (journals : List (List Record)) (ps : List RecordPlace) → EachLineOnce lines (joined journals)
    → ps ≡ each_put 0 (replicate lines (record { journal = 0; index = 0 })) journals
    → AllByRecursion (IsPlace journals) ps × Merges lines journals (map (record_at journals) ps)
spread lines journals ps once is =
    let start : RecordPlace = record { journal = 0; index = 0 } in
    let agree = agree_each journals 0 (replicate lines start) (replicate lines None) journals refl (agree_none journals start lines) in
    let filled = all_filled lines (joined journals) _ once (put_each lines (joined journals) once) in
    let found = agree_filled journals (each_put 0 (replicate lines start) journals) (all_placed (replicate lines None) (joined journals)) agree filled in (
      subst (λ l. AllByRecursion (IsPlace journals) l) (sym is) found.1,
      subst (λ l. Merges lines journals (map (record_at journals) l)) (sym is) (merges lines journals (map (record_at journals) (each_put 0 (replicate lines start) journals)) once found.0),
    )

put_length : (number index : ℕ) (ps : List RecordPlace) (rs : List Record) → length (all_put number index ps rs) ≡ length ps
put_length number index ps [] = refl
put_length number index ps (r ∷ rs) =
    let p : RecordPlace = record { journal = number; index = index } in
    put_length number (index + 1) (set ps (r.line - 1) p) rs ∙ length-set ps (r.line - 1) p

-- what holds of all records holds of those of a journal
pub journal_within : (P : Record → Type 0) (js : List (List Record)) (n : ℕ) (j : List Record) → n < length js → j ≡ slice_index_or js n j → AllByRecursion P (joined js)
    → AllByRecursion P j
journal_within P [] n j low is all = absurd (omega arith)
journal_within P (i ∷ js) zero j low is all = subst (λ l. AllByRecursion P l) (sym is) (all_left P i (joined js) all)
journal_within P (i ∷ js) (suc n) j low is all = journal_within P js n j (omega arith) is (all_right P i (joined js) all)

-- the records of one journal more are put
pub journal_put : (js : List (List Record)) (n : ℕ) (j : List Record) (ps qs : List RecordPlace) → n < length js → j ≡ slice_index_or js n j → qs ≡ all_put n 0 ps j
    → (each_put (n + 1) qs (drop (n + 1) js) ≡ each_put n ps (drop n js)) × (length qs ≡ length ps)
journal_put js n j ps qs low is put =
    let first : drop n js ≡ j ∷ drop (n + 1) js = drop_more js n j low ∙ ap (λ (l : List Record). l ∷ drop (n + 1) js) (sym is) in
    (ap (λ l. each_put (n + 1) l (drop (n + 1) js)) put ∙ ap (each_put n ps) (sym first), ap length put ∙ put_length n 0 ps j)
