-- From all that was asked to the checks, and to the statistics.
use Rattle.std.proofs.Common.{◌≡◌, ℕ, suc, ◌≤◌, ◌^◌, List, [], ◌∷◌, ◌++◌, map, length, refl, ap, sym, ◌∙◌, subst, append_assoc, append-nil, Option, Some, None}
use Rattle.std.proofs.lemmas.List.Elements.{All-nil, All-cons, All-head, All-tail, All-map}
use Rattle.std.specs.Prelude.{All}
use Rattle.std.specs.List.{flat_map, filter_map}
use Rattle.std.specs.List.{cons_option}
use Rattle.std.specs.Option.{option_map}
use Rattle.atomic_table.specs.Seated.{TableId}
use Rattle.rls_core.specs.declared.status.Status.{Status}
use Rattle.rule_stats.specs.Statistics.{Note}
use Rattle.shared_stats.specs.Noted.{as_notes, hits_in}
use Rattle.shared_stats.specs.Passes.{stats_id, stats_of}
use Rattle.shared_stats.specs.declared.pass.StatsPass.{StatsPass}
use Rattle.shared_stats.specs.declared.shared_stats.SharedStats.{SharedStats}
use Rattle.http_endpoint.specs.Answers.{CheckStep, Asked, check, statistics, checks_in, Lead}
use Rattle.counted_checks.specs.Text.{IsTextBelow}
use Rattle.counted_checks.specs.Counting.{noted_by, StatsView, noting, Counting, Tells, Counts}
use Rattle.counted_checks.specs.AtEnd.{all_noted, all_notes, all_told, AreCounted}
use Rattle.counted_checks.specs.Made.{begun, HasPasses, AreGivenBack, AreOf, HaveClosed}

-- the statistics after all this was asked
abbrev after_asked : List Asked → StatsView → StatsView
after_asked asked v = record v { noted = v.noted ++ all_noted asked; told = v.told ++ all_told asked }

nothing_asked : (s : Option StatsView) → s ≡ option_map (after_asked []) s
nothing_asked None = refl
nothing_asked (Some v) = sym (ap (λ (n : List (ℕ × Status)). Some (record v { noted = n; told = v.told ++ [] })) (append-nil v.noted)
    ∙ ap (λ (t : List (List ℕ)). Some (record v { told = t })) (append-nil v.told))

noted_before : (ns : List (ℕ × Status)) (asked : List Asked) (s : Option StatsView)
    → option_map (after_asked asked) (option_map (noting ns) s) ≡ option_map (λ (v : StatsView). record v { noted = v.noted ++ (ns ++ all_noted asked); told = v.told ++ all_told asked }) s
noted_before ns asked None = refl
noted_before ns asked (Some v) = ap (λ (n : List (ℕ × Status)). Some (record v { noted = n; told = v.told ++ all_told asked })) (append_assoc v.noted ns (all_noted asked))

module _ {S : Type 0} (answers : CheckStep S) where
  -- the checks among it lead from state to state of what makes them
  pub checks_lead : (p : Counting S) (asked : List Asked) (q : Counting S) → Lead (Counts answers) p asked q
      → Lead answers p.checks (map check (checks_in asked)) q.checks
  checks_lead p [] q h = ap (λ (c : Counting S). c.checks) h
  checks_lead p (check c ∷ asked) q h = (h.0.checks, h.1.0, checks_lead h.0 asked q h.2)
  checks_lead p (statistics text ∷ asked) q h =
      subst (λ (m : S). Lead answers m (map check (checks_in asked)) q.checks) h.1.0 (checks_lead h.0 asked q h.2)

  stats_led : (p : Counting S) (asked : List Asked) (q : Counting S) → Lead (Counts answers) p asked q → q.stats ≡ option_map (after_asked asked) p.stats
  stats_led p [] q h = ap (λ (c : Counting S). c.stats) h ∙ nothing_asked p.stats
  stats_led p (check c ∷ asked) q h =
      stats_led h.0 asked q h.2 ∙ (ap (option_map (after_asked asked)) h.1.1 ∙ noted_before (noted_by c.request c.result) asked p.stats)
  stats_led p (statistics text ∷ asked) q h = stats_led h.0 asked q h.2 ∙ told_before text p.stats h.0.stats h.1.1
    where
      told_before : (text : Option (List ℕ)) (s t : Option StatsView) → Tells s text t → option_map (after_asked asked) t ≡ option_map (after_asked (statistics text ∷ asked)) s
      told_before None None t e = ap (option_map (after_asked asked)) e
      told_before (Some x) None t e = absurd e
      told_before None (Some v) t e = absurd e
      told_before (Some x) (Some v) t e = ap (option_map (after_asked asked)) e.0
          ∙ ap (λ (l : List (List ℕ)). Some (record v { noted = v.noted ++ all_noted asked; told = l })) (append_assoc v.told (x ∷ []) (all_told asked))

-- ---- several passes

-- the statistics after all this was asked of a new pass
abbrev new_after : TableId × ℕ → List Asked → StatsView
new_after id asked = after_asked asked (record { id = id; noted = []; told = [] })

given_none : (ps : List StatsPass) (vs : List StatsView) → vs ≡ [] → AreGivenBack ps vs → ps ≡ []
given_none [] vs e g = refl
given_none (p ∷ ps) vs e g = absurd (subst (λ (l : List StatsView). AreGivenBack (p ∷ ps) l) e g)

given_all : (id : TableId × ℕ) (xs : List (List Asked)) (ps : List StatsPass) → AreGivenBack ps (map (new_after id) xs)
    → (length ps ≡ length xs) × All (λ (p : StatsPass). stats_of p ≡ id) ps
given_all id [] [] g = (refl, All-nil _)
given_all id [] (p ∷ ps) g = absurd g
given_all id (x ∷ xs) [] g = absurd g
given_all id (x ∷ xs) (p ∷ ps) g = let more = given_all id xs ps g.1 in (ap (λ (n : ℕ). suc n) more.0, All-cons (λ (q : StatsPass). stats_of q ≡ id) p ps g.0.0 more.1)

-- all that was noted of them
notes_after : (id : TableId × ℕ) (asked : List (List Asked)) → flat_map (λ (w : StatsView). as_notes w.noted) (map (new_after id) asked) ≡ flat_map all_notes asked
notes_after id [] = refl
notes_after id (xs ∷ asked) = ap (λ (l : List Note). all_notes xs ++ l) (notes_after id asked)

module _ {X Y : Type 0} (P : Y → Type 0) (f : X → Y) where
  unmapped : (xs : List X) → All P (map f xs) → All (λ x. P (f x)) xs
  unmapped [] h = All-nil _
  unmapped (x ∷ xs) h = All-cons (λ y. P (f y)) x xs (All-head P (f x) (map f xs) h) (unmapped xs (All-tail P (f x) (map f xs) h))

counted_closed : (id : TableId × ℕ) (asked : List (List Asked)) → HaveClosed (map (new_after id) asked) → AreCounted asked
counted_closed id asked c = record {
  most = λ few. subst (λ (l : List Note). All (λ xs. All (IsTextBelow l) (all_told xs)) asked) (notes_after id asked)
      (unmapped (λ (v : StatsView). All (IsTextBelow (flat_map (λ (w : StatsView). as_notes w.noted) (map (new_after id) asked))) v.told) (new_after id) asked
      (c.most (All-map (λ (v : StatsView). hits_in (as_notes v.noted) ≤ 2 ^ 57) (new_after id) asked few)));
}

module _ {S : Type 0} (answers : CheckStep S) where
  -- where no statistics are kept, no text was told
  none_told : (p : Counting S) (asked : List Asked) (q : Counting S) → Lead (Counts answers) p asked q → p.stats ≡ None → all_told asked ≡ []
  none_told p [] q h e = refl
  none_told p (check c ∷ asked) q h e = none_told h.0 asked q h.2 (h.1.1 ∙ ap (option_map (noting (noted_by c.request c.result))) e)
  none_told p (statistics None ∷ asked) q h e = none_told h.0 asked q h.2 (subst (λ (s : Option StatsView). Tells s None h.0.stats) e h.1.1)
  none_told p (statistics (Some t) ∷ asked) q h e = absurd (subst (λ (s : Option StatsView). Tells s (Some t) h.0.stats) e h.1.1)

  module _ (stats : Option SharedStats) where
    -- checker by checker, what was asked led from where it began to this
    abbrev pub LeadAll : List S → List (List Asked) → List (Counting S) → Type 0
    LeadAll [] [] [] = Unit {0}
    LeadAll (p ∷ ps) (xs ∷ asked) (q ∷ qs) = Lead (Counts answers) (begun stats p) xs q × LeadAll ps asked qs
    LeadAll ps asked qs = ⊥

  as_many : (stats : Option SharedStats) (ps : List S) (asked : List (List Asked)) (qs : List (Counting S)) → LeadAll stats ps asked qs → length ps ≡ length asked
  as_many stats [] [] [] l = refl
  as_many stats [] [] (q ∷ qs) l = absurd l
  as_many stats [] (xs ∷ asked) qs l = absurd l
  as_many stats (p ∷ ps) [] qs l = absurd l
  as_many stats (p ∷ ps) (xs ∷ asked) [] l = absurd l
  as_many stats (p ∷ ps) (xs ∷ asked) (q ∷ qs) l = ap (λ (n : ℕ). suc n) (as_many stats ps asked qs l.1)

  views : (stats : SharedStats) (ps : List S) (asked : List (List Asked)) (qs : List (Counting S)) → LeadAll (Some stats) ps asked qs
      → filter_map (λ (q : Counting S). q.stats) qs ≡ map (new_after (stats_id stats)) asked
  views stats [] [] [] l = refl
  views stats [] [] (q ∷ qs) l = absurd l
  views stats [] (xs ∷ asked) qs l = absurd l
  views stats (p ∷ ps) [] qs l = absurd l
  views stats (p ∷ ps) (xs ∷ asked) [] l = absurd l
  views stats (p ∷ ps) (xs ∷ asked) (q ∷ qs) l =
      ap (λ (o : Option StatsView). cons_option o (filter_map (λ (q : Counting S). q.stats) qs)) (stats_led answers (begun (Some stats) p) xs q l.0)
      ∙ ap (λ (vs : List StatsView). new_after (stats_id stats) xs ∷ vs) (views stats ps asked qs l.1)

  no_views : (ps : List S) (asked : List (List Asked)) (qs : List (Counting S)) → LeadAll None ps asked qs → filter_map (λ (q : Counting S). q.stats) qs ≡ []
  no_views [] [] [] l = refl
  no_views [] [] (q ∷ qs) l = absurd l
  no_views [] (xs ∷ asked) qs l = absurd l
  no_views (p ∷ ps) [] qs l = absurd l
  no_views (p ∷ ps) (xs ∷ asked) [] l = absurd l
  no_views (p ∷ ps) (xs ∷ asked) (q ∷ qs) l =
      ap (λ (o : Option StatsView). cons_option o (filter_map (λ (q : Counting S). q.stats) qs)) (stats_led answers (begun None p) xs q l.0) ∙ no_views ps asked qs l.1

  no_texts : (notes : List Note) (ps : List S) (asked : List (List Asked)) (qs : List (Counting S)) → LeadAll None ps asked qs
      → All (λ xs. All (IsTextBelow notes) (all_told xs)) asked
  no_texts notes [] [] [] l = All-nil _
  no_texts notes [] [] (q ∷ qs) l = absurd l
  no_texts notes [] (xs ∷ asked) qs l = absurd l
  no_texts notes (p ∷ ps) [] qs l = absurd l
  no_texts notes (p ∷ ps) (xs ∷ asked) [] l = absurd l
  no_texts notes (p ∷ ps) (xs ∷ asked) (q ∷ qs) l =
      All-cons (λ ys. All (IsTextBelow notes) (all_told ys)) xs asked (subst (λ (ts : List (List ℕ)). All (IsTextBelow notes) ts) (sym (none_told (begun None p) xs q l.0 refl)) (All-nil _))
      (no_texts notes ps asked qs l.1)

  -- the passes that were given back are all passes of the statistics
  pub all_given : (stats : Option SharedStats) (ps : List S) (asked : List (List Asked)) (qs : List (Counting S)) → LeadAll stats ps asked qs
      → HasPasses (length ps) stats → (passes : List StatsPass) → AreGivenBack passes (filter_map (λ (q : Counting S). q.stats) qs) → AreOf stats passes
  all_given None ps asked qs l h passes g = given_none passes (filter_map (λ (q : Counting S). q.stats) qs) (no_views ps asked qs l) g
  all_given (Some stats) ps asked qs l h passes g =
      let given = given_all (stats_id stats) asked passes (subst (λ (vs : List StatsView). AreGivenBack passes vs) (views stats ps asked qs l) g) in
      (h.0, given.0 ∙ (sym (as_many (Some stats) ps asked qs l) ∙ sym h.1), given.1)

  -- what closing the statistics tells of all that was asked
  pub counted_after : (stats : Option SharedStats) (ps : List S) (asked : List (List Asked)) (qs : List (Counting S)) → LeadAll stats ps asked qs
      → HaveClosed (filter_map (λ (q : Counting S). q.stats) qs) → AreCounted asked
  counted_after None ps asked qs l c = record { most = λ few. no_texts (flat_map all_notes asked) ps asked qs l }
  counted_after (Some stats) ps asked qs l c =
      counted_closed (stats_id stats) asked (subst (λ (vs : List StatsView). HaveClosed vs) (views stats ps asked qs l) c)
