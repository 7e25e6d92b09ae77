-- Levels that are added leave what the others stand for, and a level that holds the nodes of a list stands for them.
use Rattle.std.proofs.Common.{◌≡◌, ℕ, ◌+◌, Bool, true, false, cond, List, [], ◌∷◌, ◌++◌, length, Option, Some, None, find, refl, sym, ap, ◌∙◌, subst, append_assoc}
use Rattle.std.proofs.lemmas.List.Folds.{find-append}
use Rattle.std.specs.List.{slice_get}
use Rattle.std.specs.Option.{option_or, option_map_or}
use Rattle.rate_types.specs.declared.entries.Entry.{Entry}
use Rattle.descriptor_tree.specs.Trees.{Branches}
use Rattle.rule_lookup.specs.declared.found.Found.{Found}
use Rattle.rule_lookup.specs.declared.found.Found.TheVariants.{NoRule}
use Rattle.rule_lookup.specs.declared.reached.Reached.{Reached}
use Rattle.rule_lookup.specs.declared.level.Level.{Level}
use Rattle.rule_lookup.specs.Rule.{NumberedNode, numbered, has_value, has_wildcard, has_key_alone, matching_node, rule_at, rule_from}
use Rattle.rule_lookup.specs.Level.{reached_in, walk, IsLevel, Reaches, Agree, Holds, Finding, finding_of, Puts, Extends}

-- ---- more levels

pub level_stays : (old new : List Level) (index number : ℕ) (below : Branches) → Extends old new → IsLevel old index number below → IsLevel new index number below
level_stays old new index number below grows is = λ more entries found.
    ap (λ ls. walk ls entries found index) (ap (λ ls. ls ++ more) grows.is ∙ append_assoc old grows.more more) ∙ is (grows.more ++ more) entries found

reaches_stays : (old new : List Level) (r : Reached) (n : NumberedNode) → Extends old new → Reaches old r n → Reaches new r n
reaches_stays old new r n grows is = record { found = is.found; below = level_stays old new r.below (n.number + 1) n.below grows is.below }

agree_stays : (old new : List Level) (r : Option Reached) (n : Option NumberedNode) → Extends old new → Agree old r n → Agree new r n
agree_stays old new None None grows is = tt
agree_stays old new (Some r) (Some n) grows is = reaches_stays old new r n grows is
agree_stays old new None (Some n) grows is = is
agree_stays old new (Some r) None grows is = is

pub holds_stays : (old new : List Level) (level : Finding) (nodes : List NumberedNode) → Extends old new → Holds old level nodes → Holds new level nodes
holds_stays old new level nodes grows is = record {
  equal = λ e. agree_stays old new _ _ grows (is.equal e);
  wildcard = λ e. agree_stays old new _ _ grows (is.wildcard e);
  alone = λ e. agree_stays old new _ _ grows (is.alone e);
}

-- ---- one more node

agree_or : (levels : List Level) (r s : Option Reached) (n m : Option NumberedNode) → Agree levels r n → Agree levels s m → Agree levels (option_or r s) (option_or n m)
agree_or levels None s None m one other = other
agree_or levels (Some r) s (Some n) m one other = one
agree_or levels None s (Some n) m one other = absurd one
agree_or levels (Some r) s None m one other = absurd one

agree_last : (levels : List Level) (r : Reached) (n : NumberedNode) (b : Bool) → Reaches levels r n → Agree levels (cond b (Some r) None) (cond b (Some n) None)
agree_last levels r n true is = is
agree_last levels r n false is = tt

one_more : (levels : List Level) (p : NumberedNode → Bool) (nodes : List NumberedNode) (n : NumberedNode) (r : Reached) (old new : Option Reached)
    → new ≡ option_or old (cond (p n) (Some r) None) → Reaches levels r n → Agree levels old (find p nodes) → Agree levels new (find p (nodes ++ n ∷ []))
one_more levels p nodes n r old new is reaches agree =
    let A : Option Reached → Option NumberedNode → Type 0 = Agree levels in
    let both : Agree levels (option_or old (cond (p n) (Some r) None)) (option_or (find p nodes) (cond (p n) (Some n) None)) =
    agree_or levels old (cond (p n) (Some r) None) (find p nodes) (cond (p n) (Some n) None) agree (agree_last levels r n (p n) reaches) in
    subst (λ (o : Option Reached). Agree levels o (find p (nodes ++ n ∷ []))) (sym is)
    (subst (λ (o : Option NumberedNode). Agree levels (option_or old (cond (p n) (Some r) None)) o) (sym (find-append p nodes (n ∷ []))) both)

pub holds_more : (levels : List Level) (old new : Finding) (nodes : List NumberedNode) (n : NumberedNode) (r : Reached) → Reaches levels r n
    → Puts n.node.key n.node.value r old new → Holds levels old nodes → Holds levels new (nodes ++ n ∷ [])
holds_more levels old new nodes n r reaches puts is = record {
  equal = λ e. one_more levels (λ m. has_value e m.node) nodes n r _ _ (puts.equal e) reaches (is.equal e);
  wildcard = λ e. one_more levels (λ m. has_wildcard e m.node) nodes n r _ _ (puts.wildcard e) reaches (is.wildcard e);
  alone = λ e. one_more levels (λ m. has_key_alone e m.node) nodes n r _ _ (puts.alone e) reaches (is.alone e);
}

-- ---- a level that is added

at_end : (levels : List Level) (level : Level) (more : List Level) → slice_get ((levels ++ level ∷ []) ++ more) (length levels) ≡ Some level
at_end [] level more = refl
at_end (l ∷ levels) level more = at_end levels level more

matches : (levels : List Level) (level : Level) (nodes : List NumberedNode) (e : Entry) → Holds levels (finding_of level) nodes
    → Agree levels (reached_in level e) (matching_node nodes e)
matches levels level nodes e is = agree_or levels _ _ _ _ (is.equal e) (agree_or levels _ _ _ _ (is.wildcard e) (is.alone e))

goes_on : (levels : List Level) (level : Level) (more : List Level) (entries : List Entry) (r : Option Reached) (n : Option NumberedNode) → Agree levels r n
    → option_map_or (λ q. walk ((levels ++ level ∷ []) ++ more) entries q.found q.below) r NoRule ≡ option_map_or (λ m. rule_from entries (rule_at m) (m.number + 1) m.below) n
    NoRule
goes_on levels level more entries None None is = refl
goes_on levels level more entries (Some r) (Some n) is =
    ap (λ ls. walk ls entries r.found r.below) (append_assoc levels (level ∷ []) more)
    ∙ is.below (level ∷ more) entries r.found
    ∙ ap (λ f. rule_from entries f (n.number + 1) n.below) is.found
goes_on levels level more entries None (Some n) is = absurd is
goes_on levels level more entries (Some r) None is = absurd is

pub level_added : (levels : List Level) (level : Level) (number : ℕ) (below : Branches) → Holds levels (finding_of level) (numbered number below)
    → IsLevel (levels ++ level ∷ []) (length levels) number below
level_added levels level number below is = λ more entries found. by more entries found
  where
    by : (more : List Level) (entries : List Entry) (found : Found) → walk ((levels ++ level ∷ []) ++ more) entries found (length levels) ≡ rule_from entries found number below
    by more [] found = refl
    by more (e ∷ entries) found = rw (at_end levels level more) (goes_on levels level more entries (reached_in level e) (matching_node (numbered number below) e)
        (matches levels level (numbered number below) e is))
