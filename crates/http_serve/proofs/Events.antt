-- The calls of a listener whose links are accepted and given back.
use Rattle.std.proofs.Common.{◌≡◌, ℕ, zero, suc, ◌+◌, ◌≤◌, ◌==◌, List, [], ◌∷◌, ◌++◌, length, map, replicate, cond, Bool, true, false, refl, sym, ap, ◌∙◌, subst, arith, append_assoc}
use Rattle.std.proofs.Common.{length-append}
use Rattle.std.proofs.lemmas.List.{map-append, append-nil}
use Rattle.std.proofs.lemmas.List.Elements.{filter_map-append}
use Rattle.std.proofs.lemmas.List.Sums.{sum_by-append, sum_by-cons}
use Rattle.std.specs.Prelude.{⊤}
use Rattle.std.specs.List.{filter_map, count_by}
use Rattle.rate_types.proofs.Sums.{cond_no}
use Rattle.rate_io.specs.Events.{Event, Grew}
use Rattle.rate_io.specs.Listeners.{ListenEvent, accepted, accept_failed, gave_back, is_accepted, accepted_count, number_back, IsOut}
use Rattle.http_endpoint.specs.declared.link_end.LinkEnd.{LinkEnd}
use Rattle.http_serve.specs.Service.{Service}
use Rattle.http_serve.specs.Links.{AreNumbered, given_back, accepts, ends_of}

-- a history that grew, or stayed
pub grown : (old new events : List ListenEvent) → new ≡ old ++ events → Grew old new (λ e. ⊤)
grown old new events is = record { events = events; grew = is; are = tt }

pub stayed : (old : List ListenEvent) → Grew old old (λ e. ⊤)
stayed old = record { events = []; grew = sym (append-nil old); are = tt }

pub accept_push : (n : ℕ) → replicate (n + 1) accepted ≡ replicate n accepted ++ accepted ∷ []
accept_push n = let e : n + 1 ≡ suc n = omega arith in ap (λ (k : ℕ). replicate k accepted) e ∙ push n
  where
    push : (n : ℕ) → replicate (suc n) accepted ≡ replicate n accepted ++ accepted ∷ []
    push zero = refl
    push (suc n) = ap (λ (l : List ListenEvent). accepted ∷ l) (push n)

pub back_push : (ss : List Service) (s : Service) → given_back (ss ++ s ∷ []) ≡ given_back ss ++ gave_back s.number s.calls true ∷ []
back_push ss s = map-append (λ (x : Service). gave_back x.number x.calls true) ss (s ∷ [])

-- one more came back
pub back_more : (old before after : List ListenEvent) (done : List Service) (s : Service) (number : ℕ) (calls : List Event) (link_end : LinkEnd) (is_shut : Bool)
    → before ≡ old ++ given_back done → after ≡ before ++ gave_back number calls is_shut ∷ [] → is_shut ≡ true
    → record { number = number; calls = calls; link_end = link_end } ≡ s → after ≡ old ++ given_back (done ++ s ∷ [])
back_more old before after done s number calls link_end is_shut so event shut is =
    event ∙ ap (λ (l : List ListenEvent). l ++ gave_back number calls is_shut ∷ []) so
    ∙ append_assoc old (given_back done) (gave_back number calls is_shut ∷ [])
    ∙ ap (λ (e : ListenEvent). old ++ (given_back done ++ e ∷ []))
    (ap (λ (b : Bool). gave_back number calls b) shut ∙ ap (λ (x : Service). gave_back x.number x.calls true) is)
    ∙ ap (λ (l : List ListenEvent). old ++ l) (sym (back_push done s))

-- and its end was noted
pub ends_more : (before after : List LinkEnd) (done : List Service) (s : Service) (link_end : LinkEnd) → before ≡ ends_of done → after ≡ before ++ link_end ∷ []
    → link_end ≡ s.link_end → after ≡ ends_of (done ++ s ∷ [])
ends_more before after done s link_end so pushed is =
    pushed ∙ ap (λ (l : List LinkEnd). l ++ link_end ∷ []) so ∙ ap (λ (e : LinkEnd). ends_of done ++ e ∷ []) is
    ∙ sym (map-append (λ (x : Service). x.link_end) done (s ∷ []))

counted : (xs ys : List ListenEvent) → accepted_count (xs ++ ys) ≡ accepted_count xs + accepted_count ys
counted xs ys = sum_by-append (λ (x : ListenEvent). cond (is_accepted x) 1 0) xs ys

none_accepted : (ss : List Service) → accepted_count (given_back ss) ≡ 0
none_accepted [] = refl
none_accepted (s ∷ ss) =
    let a = sum_by-cons (λ (x : ListenEvent). cond (is_accepted x) 1 0) (gave_back s.number s.calls true) (given_back ss) in
    let r = none_accepted ss in
    omega arith

all_accepted : (n : ℕ) → accepted_count (replicate n accepted) ≡ n
all_accepted zero = refl
all_accepted (suc n) =
    let a = sum_by-cons (λ (x : ListenEvent). cond (is_accepted x) 1 0) accepted (replicate n accepted) in
    let r = all_accepted n in
    omega arith

-- as many were accepted
pub accepts_count : (old : List ListenEvent) (n : ℕ) (is_all : Bool) → n ≤ accepted_count (old ++ accepts n is_all)
accepts_count old n true =
    let a = counted old (accepts n true) in
    let b = counted (replicate n accepted) [] in
    let c = all_accepted n in
    omega arith
accepts_count old n false =
    let a = counted old (accepts n false) in
    let b = counted (replicate n accepted) (accept_failed ∷ []) in
    let c = all_accepted n in
    omega arith

no_backs : (n : ℕ) → filter_map number_back (replicate n accepted) ≡ []
no_backs zero = refl
no_backs (suc n) = no_backs n

-- and none came back
pub accepts_back : (old : List ListenEvent) (n : ℕ) (is_all : Bool) → filter_map number_back old ≡ [] → filter_map number_back (old ++ accepts n is_all) ≡ []
accepts_back old n true none =
    filter_map-append number_back old (accepts n true) ∙ ap (λ (l : List ℕ). l ++ filter_map number_back (accepts n true)) none
    ∙ ap (filter_map number_back) (append-nil (replicate n accepted)) ∙ no_backs n
accepts_back old n false none =
    filter_map-append number_back old (accepts n false) ∙ ap (λ (l : List ℕ). l ++ filter_map number_back (accepts n false)) none
    ∙ filter_map-append number_back (replicate n accepted) (accept_failed ∷ []) ∙ ap (λ (l : List ℕ). l ++ []) (no_backs n)

numbers_back : (ss : List Service) → filter_map number_back (given_back ss) ≡ map (λ s. s.number) ss
numbers_back [] = refl
numbers_back (s ∷ ss) = ap (λ (l : List ℕ). s.number ∷ l) (numbers_back ss)

none_of : (n : ℕ) (ss : List Service) (k : ℕ) → AreNumbered n ss → n + length ss ≤ k → count_by (λ m. m == k) (map (λ s. s.number) ss) ≡ 0
none_of n [] k h le = refl
none_of n (s ∷ ss) k h le =
    let a : count_by (λ m. m == k) (map (λ s. s.number) (s ∷ ss)) ≡ cond (s.number == k) 1 0 + count_by (λ m. m == k) (map (λ s. s.number) ss)
    = sum_by-cons (λ (m : ℕ). cond (m == k) 1 0) s.number (map (λ s. s.number) ss) in
    let r = none_of (n + 1) ss k h.1 (omega arith) in
    let is = h.0 in
    let apart : s.number ≡ k → ⊥ = λ e. omega arith in
    let o = cond_no s.number k 1 0 apart in
    omega arith

numbered_front : (n : ℕ) (xs ys : List Service) → AreNumbered n (xs ++ ys) → AreNumbered n xs
numbered_front n [] ys h = tt
numbered_front n (x ∷ xs) ys h = (h.0, numbered_front (n + 1) xs ys h.1)

number_at : (n : ℕ) (xs ys : List Service) (s : Service) → AreNumbered n (xs ++ s ∷ ys) → s.number ≡ n + length xs
number_at n [] ys s h = let is = h.0 in omega arith
number_at n (x ∷ xs) ys s h = let r = number_at (n + 1) xs ys s h.1 in omega arith

-- the next link is out
is_out : (old : List ListenEvent) (done rest all : List Service) (s : Service) → filter_map number_back old ≡ [] → length all ≤ accepted_count old → AreNumbered 0 all
    → all ≡ done ++ s ∷ rest → IsOut (old ++ given_back done) s.number
is_out old done rest all s none few numbered is =
    let h : AreNumbered 0 (done ++ s ∷ rest) = subst (AreNumbered 0) is numbered in
    let at = number_at 0 done rest s h in
    let len : length all ≡ length (done ++ s ∷ rest) = ap length is in
    let len' = length-append done (s ∷ rest) in
    let back : filter_map number_back (old ++ given_back done) ≡ map (λ x. x.number) done =
    filter_map-append number_back old (given_back done) ∙ ap (λ (l : List ℕ). l ++ filter_map number_back (given_back done)) none ∙ numbers_back done in
    record {
      accepted = let a = counted old (given_back done) in let b = none_accepted done in omega arith;
      not_back = ap (count_by (λ n. n == s.number)) back ∙ none_of 0 done s.number (numbered_front 0 done (s ∷ rest) h) (omega arith);
    }

pub next_out : (old before : List ListenEvent) (done rest all : List Service) (s : Service) (number : ℕ) → before ≡ old ++ given_back done → number ≡ s.number
    → filter_map number_back old ≡ [] → length all ≤ accepted_count old → AreNumbered 0 all → all ≡ done ++ s ∷ rest → IsOut before number
next_out old before done rest all s number so same none few numbered is =
    subst (λ (h : List ListenEvent). IsOut h number) (sym so)
    (subst (λ (n : ℕ). IsOut (old ++ given_back done) n) (sym same) (is_out old done rest all s none few numbered is))
