-- Connections that are run again, or stay.
use Rattle.std.proofs.Common.{◌≡◌, ⊎_elim, ℕ, Bool, ◌<◌, ◌≤◌, List, Option, Some, None, get_or, set, length, refl, sym, ◌∙◌, subst, arith, le_trans}
use Rattle.std.proofs.lemmas.List.{get_or-set_same, get_or-set_other, length-set}
use Rattle.rate_io.specs.Causes.{Rose}
use Rattle.http_endpoint.proofs.ReadLemmas.{rose_earlier}
use Rattle.conn_tasks.specs.State.{TaskState}
use Rattle.conn_tasks.specs.Listening.{IsWoke}
use Rattle.conn_tasks.specs.declared.woke.Woke.{Woke}
use Rattle.conn_tasks.specs.declared.woke.Woke.TheVariants.{Listener, Link}
use Rattle.serve_tasks.specs.Running.{WasRun, Follows, WasToldOf}
use Rattle.serve_tasks.proofs.Made.{same_or}
use Rattle.serve_tasks.proofs.Standings.{there_within}

pub follows_same : (o : Option TaskState) → Follows o o
follows_same None = refl
follows_same (Some s) = omega arith

pub follows_more : (a b c : Option TaskState) → Follows a b → Follows b c → Follows a c
follows_more None b c x y = let same : b ≡ None = x in subst (λ (o : Option TaskState). Follows o c) same y
follows_more (Some s) None c x y = let same : c ≡ None = y in subst (λ (o : Option TaskState). Follows (Some s) o) (sym same) tt
follows_more (Some s) (Some t) None x y = tt
follows_more (Some s) (Some t) (Some u) x y = le_trans x y

-- it was run, and then stayed or was run again
pub run_before : (a b c : Option TaskState) → WasRun a b → Follows b c → WasRun a c
run_before None b c x y = let same : b ≡ None = x in subst (λ (o : Option TaskState). Follows o c) same y
run_before (Some s) None c x y = let same : c ≡ None = y in subst (λ (o : Option TaskState). WasRun (Some s) o) (sym same) tt
run_before (Some s) (Some t) None x y = tt
run_before (Some s) (Some t) (Some u) x y = le_trans x y

-- it stayed or was run, and then was run
pub run_behind : (a b c : Option TaskState) → Follows a b → WasRun b c → WasRun a c
run_behind None b c x y = let same : b ≡ None = x in subst (λ (o : Option TaskState). WasRun o c) same y
run_behind (Some s) None c x y = let same : c ≡ None = y in subst (λ (o : Option TaskState). WasRun (Some s) o) (sym same) tt
run_behind (Some s) (Some t) None x y = tt
run_behind (Some s) (Some t) (Some u) x y = rose_earlier s.link.waits t.link.waits u.link.waits x y

-- it was told of the link of this place
pub told_of : (told : List Woke) (i place : ℕ) (is_closed : Bool) (woke : Option Woke) → IsWoke told i woke → i < length told
    → get_or told i Listener ≡ Link place is_closed → WasToldOf woke place
told_of told i place is_closed None x less at = absurd (omega (arith, x, less))
told_of told i place is_closed (Some Listener) x less at = absurd (let here = x.1 in cc)
told_of told i place is_closed (Some (Link p c)) x less at = let here = x.1 in cc

module _ (tasks : List (Option TaskState)) (n : ℕ) (s : TaskState) (is : Some s ≡ get_or tasks n None) where
  within : n < length tasks
  within = there_within tasks n s is

  -- it waits again
  here_waiting : (t : TaskState) → Some t ≡ get_or (set (set tasks n None) n (Some t)) n None
  here_waiting t = sym (get_or-set_same (set tasks n None) n (Some t) None (omega (arith, within, length-set tasks n None)))

  pub run_waiting : (t : TaskState) → Rose s.link.waits t.link.waits → WasRun (get_or tasks n None) (get_or (set (set tasks n None) n (Some t)) n None)
  run_waiting t rose = subst (λ (o : Option TaskState). WasRun o (get_or (set (set tasks n None) n (Some t)) n None)) is
      (subst (λ (o : Option TaskState). WasRun (Some s) o) (here_waiting t) rose)

  pub others_waiting : (t : TaskState) → s.link.waits ≤ t.link.waits
      → (k : ℕ) → Follows (get_or tasks k None) (get_or (set (set tasks n None) n (Some t)) k None)
  others_waiting t less k = ⊎_elim at beside (same_or k n)
    where
      at : k ≡ n → Follows (get_or tasks k None) (get_or (set (set tasks n None) n (Some t)) k None)
      at e = subst (λ (j : ℕ). Follows (get_or tasks j None) (get_or (set (set tasks n None) n (Some t)) j None)) (sym e)
          (subst (λ (o : Option TaskState). Follows o (get_or (set (set tasks n None) n (Some t)) n None)) is
          (subst (λ (o : Option TaskState). Follows (Some s) o) (here_waiting t) less))

      beside : (k ≡ n → ⊥) → Follows (get_or tasks k None) (get_or (set (set tasks n None) n (Some t)) k None)
      beside other = subst (λ (o : Option TaskState). Follows (get_or tasks k None) o)
          (sym (get_or-set_other (set tasks n None) n k (Some t) None other ∙ get_or-set_other tasks n k None None other)) (follows_same (get_or tasks k None))

  -- it has ended
  here_ended : get_or (set tasks n None) n None ≡ None
  here_ended = get_or-set_same tasks n None None within

  pub run_ended : WasRun (get_or tasks n None) (get_or (set tasks n None) n None)
  run_ended = subst (λ (o : Option TaskState). WasRun o (get_or (set tasks n None) n None)) is
      (subst (λ (o : Option TaskState). WasRun (Some s) o) (sym here_ended) tt)

  pub others_ended : (k : ℕ) → Follows (get_or tasks k None) (get_or (set tasks n None) k None)
  others_ended k = ⊎_elim at beside (same_or k n)
    where
      at : k ≡ n → Follows (get_or tasks k None) (get_or (set tasks n None) k None)
      at e = subst (λ (j : ℕ). Follows (get_or tasks j None) (get_or (set tasks n None) j None)) (sym e)
          (subst (λ (o : Option TaskState). Follows o (get_or (set tasks n None) n None)) is
          (subst (λ (o : Option TaskState). Follows (Some s) o) (sym here_ended) tt))

      beside : (k ≡ n → ⊥) → Follows (get_or tasks k None) (get_or (set tasks n None) k None)
      beside other = subst (λ (o : Option TaskState). Follows (get_or tasks k None) o) (sym (get_or-set_other tasks n k None None other)) (follows_same (get_or tasks k None))
