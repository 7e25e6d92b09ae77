-- Passes that are given back, one after the other.
use Rattle.std.proofs.Common.{◌≡◌, ℕ, suc, ◌-◌, List, [], ◌∷◌, ◌++◌, take, length, Option, Some, None, refl, sym, ap, ◌∙◌, subst, arith, length-take-le}
use Rattle.std.proofs.lemmas.List.Elements.{All-take}
use Rattle.std.specs.Prelude.{All}
use Rattle.std.specs.List.{cons_option, filter_map}
use Rattle.shared_stats.specs.Passes.{stats_id, stats_of, IsFresh}
use Rattle.shared_stats.specs.declared.pass.StatsPass.{StatsPass}
use Rattle.shared_stats.specs.declared.shared_stats.SharedStats.{SharedStats}
use Rattle.counted_checks.specs.Counting.{StatsView, Counting}
use Rattle.counted_checks.specs.Made.{AreUnused, IsPassOf, GivesBack, AreGivenBack}

given_more : (ps : List StatsPass) (vs : List StatsView) (p : StatsPass) (v : StatsView) → AreGivenBack ps vs → IsPassOf p v → AreGivenBack (ps ++ p ∷ []) (vs ++ v ∷ [])
given_more [] [] p v g h = (h, tt)
given_more [] (w ∷ vs) p v g h = absurd g
given_more (q ∷ ps) [] p v g h = absurd g
given_more (q ∷ ps) (w ∷ vs) p v g h = (g.0, given_more ps vs p v g.1 h)

one_behind : (o : Option StatsView) (vs : List StatsView) (p : StatsView) → cons_option o (vs ++ p ∷ []) ≡ cons_option o vs ++ p ∷ []
one_behind None vs p = refl
one_behind (Some v) vs p = refl

module _ {S : Type 0} where
  abbrev kept : Counting S → Option StatsView
  kept c = c.stats

  views_with : (cs : List (Counting S)) (c : Counting S) (v : StatsView) → c.stats ≡ Some v → filter_map kept (cs ++ c ∷ []) ≡ filter_map kept cs ++ v ∷ []
  views_with [] c v e = ap (λ (o : Option StatsView). cons_option o []) e
  views_with (d ∷ cs) c v e = ap (λ (vs : List StatsView). cons_option d.stats vs) (views_with cs c v e) ∙ one_behind d.stats (filter_map kept cs) v

  views_without : (cs : List (Counting S)) (c : Counting S) → c.stats ≡ None → filter_map kept (cs ++ c ∷ []) ≡ filter_map kept cs
  views_without [] c e = ap (λ (o : Option StatsView). cons_option o []) e
  views_without (d ∷ cs) c e = ap (λ (vs : List StatsView). cons_option d.stats vs) (views_without cs c e)

  -- one more was given back with its pass
  pub given_with : (ps : List StatsPass) (cs : List (Counting S)) (c : Counting S) (r : Option StatsPass) (p : StatsPass) → AreGivenBack ps (filter_map kept cs)
      → GivesBack r c.stats → r ≡ Some p → AreGivenBack (ps ++ p ∷ []) (filter_map kept (cs ++ c ∷ []))
  given_with ps cs c r p g h is = by_view c.stats refl (subst (λ (o : Option StatsPass). GivesBack o c.stats) is h)
    where
      by_view : (o : Option StatsView) → c.stats ≡ o → GivesBack (Some p) o → AreGivenBack (ps ++ p ∷ []) (filter_map kept (cs ++ c ∷ []))
      by_view None e h = absurd h
      by_view (Some v) e h =
          subst (λ (vs : List StatsView). AreGivenBack (ps ++ p ∷ []) vs) (sym (views_with cs c v e)) (given_more ps (filter_map kept cs) p v g h)

  -- or without one
  pub given_without : (ps : List StatsPass) (cs : List (Counting S)) (c : Counting S) (r : Option StatsPass) → AreGivenBack ps (filter_map kept cs)
      → GivesBack r c.stats → r ≡ None → AreGivenBack ps (filter_map kept (cs ++ c ∷ []))
  given_without ps cs c r g h is = by_view c.stats refl (subst (λ (o : Option StatsPass). GivesBack o c.stats) is h)
    where
      by_view : (o : Option StatsView) → c.stats ≡ o → GivesBack None o → AreGivenBack ps (filter_map kept (cs ++ c ∷ []))
      by_view None e h = subst (λ (vs : List StatsView). AreGivenBack ps vs) (sym (views_without cs c e)) g
      by_view (Some v) e h = absurd h

-- of new passes one was taken, or there are none
pub unused_left : (n : ℕ) (stats : Option SharedStats) (ps rest : List StatsPass) → AreUnused (suc n) stats ps → rest ≡ take (length ps - 1) ps → AreUnused n stats rest
unused_left n None ps rest u is = is ∙ ap (λ (l : List StatsPass). take (length l - 1) l) u
unused_left n (Some s) ps rest u is = (
  u.0,
  ap length is ∙ length-take-le (length ps - 1) ps (omega arith) ∙ one_less (length ps) n u.1,
  subst (λ (l : List StatsPass). All (λ (p : StatsPass). (stats_of p ≡ stats_id s) × IsFresh p) l) (sym is)
      (All-take (λ (p : StatsPass). (stats_of p ≡ stats_id s) × IsFresh p) (length ps - 1) ps u.2),
)
  where
    one_less : (m k : ℕ) → m ≡ suc k → m - 1 ≡ k
    one_less m k e = omega (arith, e)
