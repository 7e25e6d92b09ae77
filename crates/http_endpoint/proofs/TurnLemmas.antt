-- What was printed is the answer of a turn.
use Rattle.std.specs.Prelude.{Result}
use Rattle.std.proofs.Common.{◌≡◌, ℕ, ◌==◌, ◌+◌, ◌<◌, Bool, true, false, ◌||◌, List, [], ◌∷◌, ◌++◌, drop, Option, Some, None, refl, sym, ap, ◌∙◌, inl, inr, subst, arith, append-nil}
use Rattle.std.proofs.lemmas.Bool.Decides.{nat_tests}
use Rattle.rate_types.specs.Requests.{RequestParts}
use Rattle.rate_types.specs.declared.memory.OutOfMemory.{OutOfMemory}
use Rattle.rls_core.specs.declared.reply.Reply.{Reply}
use Rattle.rls_core.specs.declared.fault.CheckFault.{CheckFault}
use Rattle.rls_core.specs.declared.fault.CheckFault.TheVariants as fault
use Rattle.std.specs.Prelude.{Ok, Err, IfOk, OnErr}
use Rattle.http_front.specs.Front.{used_of, plain, sends_body, stats_answer, is_json}
use Rattle.http_front.specs.Part.{Stands}
use Rattle.http_front.specs.declared.answer.HttpAnswer.{HttpAnswer}
use Rattle.http_front.specs.declared.front.Front.{Front}
use Rattle.http_front.specs.declared.asks.Method.{Method}
use Rattle.http_front.specs.declared.asks.Method.TheVariants.{Get, Head, Post, Other}
use Rattle.http_front.specs.declared.front.Front.TheVariants.{Ended, CutShort, Fixed, Check, Stats}
use Rattle.http_endpoint.specs.Answers.{Checked, Asked, check, statistics, Turn, GivesResult, closing, MayAsk, IsTurn, CheckStep, Lead}
use Rattle.rate_io.specs.Links.{LinkState, IsLinkNow}
use Rattle.http_endpoint.proofs.ReadLemmas.{stays_same}
use Rattle.http_endpoint.specs.Printing.{Prints, PrintsResult, PrintsStats}
use Rattle.http_endpoint.specs.Steps.{Tells, Awaits, TurnsOut, TakesTurn}
use Rattle.http_endpoint.specs.declared.turn.Printed.{Printed}
use Rattle.http_endpoint.specs.declared.turn.Printed.TheVariants.{Text, NoMemory}

-- nothing was told
pub tells_none : (a : LinkState) → Tells a a None
tells_none a = record {
  history = sym (append-nil a.history);
  within = tt;
  left = refl;
  written = refl;
  faults = refl;
  stays = stays_same a;
}

-- one moment was told
pub tells_one : (a b : LinkState) (c : Checked) → IsLinkNow a b c.now → Tells a b (Some (check c))
tells_one a b c n = record {
  history = n.history;
  within = n.within;
  left = n.left;
  written = n.written;
  faults = n.faults;
  stays = n.stays;
}

-- nothing was told for statistics
pub tells_stats : (a : LinkState) (text : Option (List ℕ)) → Tells a a (Some (statistics text))
tells_stats a text = record {
  history = sym (append-nil a.history);
  within = tt;
  left = refl;
  written = refl;
  faults = refl;
  stays = stays_same a;
}

-- of a fixed answer
pub fixed_turn : {S : Type 0} (answers : CheckStep S) (is_last : Bool) (fixed : HttpAnswer) (used : ℕ) (a : LinkState) (checks : S) (out : List ℕ) (printed : Printed)
    → Prints (closing is_last fixed) out printed → TurnsOut answers is_last (Fixed fixed used) a a checks checks out printed
fixed_turn answers is_last fixed used a checks out (Text closes) p = record {
  t = record { front = Fixed fixed used; asked = None; answer = closing is_last fixed };
  front_is = refl;
  turn = inl refl;
  prints = record { bytes = p.0; closes = p.1 };
  tells = tells_none a;
  lead = refl;
}
fixed_turn answers is_last fixed used a checks out (NoMemory sends_body) p = record {
  t = record { front = Fixed fixed used; asked = None; answer = plain 500 None sends_body true };
  front_is = refl;
  turn = inr (record { may_ask = tt; wants = inl p.1; answer = ap (λ s. plain 500 None s true) p.0 });
  prints = record { bytes = refl; closes = refl };
  tells = tells_none a;
  lead = refl;
}

-- 503, where the counters are full
pub full_prints : (closes : Bool) (moment live held wanted : ℕ) (out : List ℕ) (printed : Printed)
    → Prints (plain 503 None true closes) out printed → PrintsResult closes (Err (fault.CountersFull moment live held wanted)) out printed
full_prints closes moment live held wanted out (Text closed) p = (plain 503 None true closes, refl, p.0, p.1)
full_prints closes moment live held wanted out (NoMemory sends_body) p = absurd (let not = p.1 in cc)

-- or where the claims are spent
pub spent_prints : (closes : Bool) (claims wanted : ℕ) (out : List ℕ) (printed : Printed)
    → Prints (plain 503 None true closes) out printed → PrintsResult closes (Err (fault.ClaimsSpent claims wanted)) out printed
spent_prints closes claims wanted out (Text closed) p = (plain 503 None true closes, refl, p.0, p.1)
spent_prints closes claims wanted out (NoMemory sends_body) p = absurd (let not = p.1 in cc)

-- of a check
pub check_turn : {S : Type 0} (answers : CheckStep S) (is_last : Bool) (request : RequestParts) (closes : Bool) (used now : ℕ)
    (result : Result Reply CheckFault) (a b : LinkState) (checks after : S) (out : List ℕ) (printed : Printed)
    → IsLinkNow a b now → answers checks (check (record { request = request; now = now; result = result })) after → PrintsResult (closes || is_last) result out printed
    → TurnsOut answers is_last (Check request closes used) a b checks after out printed
check_turn answers is_last request closes used now result a b checks after out (Text closed) offered step p = record {
  t = record { front = Check request closes used; asked = Some (check (record { request = request; now = now; result = result })); answer = p.0 };
  front_is = refl;
  turn = inl (refl, p.1);
  prints = record { bytes = p.2; closes = p.3 };
  tells = tells_one a b (record { request = request; now = now; result = result }) offered;
  lead = (after, step, refl);
}
check_turn answers is_last request closes used now result a b checks after out (NoMemory sends_body) offered step p = record {
  t = record { front = Check request closes used; asked = Some (check (record { request = request; now = now; result = result })); answer = plain 500 None sends_body true };
  front_is = refl;
  turn = inr (record { may_ask = refl; wants = p.1; answer = ap (λ s. plain 500 None s true) p.0 });
  prints = record { bytes = refl; closes = refl };
  tells = tells_one a b (record { request = request; now = now; result = result }) offered;
  lead = (after, step, refl);
}

-- the body of the answer to a request for statistics is sent, but to HEAD
pub stats_sends : (method : Method) (text : Option (List ℕ)) (closes : Bool) → (stats_answer method text closes).sends_body ≡ sends_body method
stats_sends method None closes = refl
stats_sends Get (Some text) closes = refl
stats_sends Head (Some text) closes = refl
stats_sends Post (Some text) closes = refl
stats_sends Other (Some text) closes = refl

pub stats_closes : (method : Method) (text : Option (List ℕ)) (closes : Bool) → (stats_answer method text closes).closes ≡ closes
stats_closes method None closes = refl
stats_closes Get (Some text) closes = refl
stats_closes Head (Some text) closes = refl
stats_closes Post (Some text) closes = refl
stats_closes Other (Some text) closes = refl

-- whether it is JSON doesn't hang on what comes after it
pub stats_json : (method : Method) (text : Option (List ℕ)) (closes other : Bool)
    → is_json (stats_answer method text closes).body ≡ true → is_json (stats_answer method text other).body ≡ true
stats_json method None closes other x = x
stats_json Get (Some text) closes other x = x
stats_json Head (Some text) closes other x = x
stats_json Post (Some text) closes other x = x
stats_json Other (Some text) closes other x = x

-- of statistics
pub stats_turn : {S : Type 0} (answers : CheckStep S) (is_last : Bool) (method : Method) (closes : Bool) (used : ℕ)
    (came : Result (Option (List ℕ)) OutOfMemory) (a : LinkState) (checks after : S) (out : List ℕ) (printed : Printed)
    → IfOk came (λ text. answers checks (statistics text) after) → OnErr came (after ≡ checks) → PrintsStats method (closes || is_last) came out printed
    → TurnsOut answers is_last (Stats method closes used) a a checks after out printed
stats_turn answers is_last method closes used (Ok text) a checks after out (Text closed) step same p = record {
  t = record { front = Stats method closes used; asked = Some (statistics text); answer = stats_answer method text (closes || is_last) };
  front_is = refl;
  turn = inl refl;
  prints = record { bytes = p.0; closes = p.1 };
  tells = tells_stats a text;
  lead = (after, step, refl);
}
stats_turn answers is_last method closes used (Ok text) a checks after out (NoMemory sends) step same p = record {
  t = record { front = Stats method closes used; asked = Some (statistics text); answer = plain 500 None sends true };
  front_is = refl;
  turn = inr (record { may_ask = tt; wants = stats_json method text (closes || is_last) closes p.1; answer = ap (λ s. plain 500 None s true) (p.0 ∙ stats_sends method text (closes || is_last)) });
  prints = record { bytes = refl; closes = refl };
  tells = tells_stats a text;
  lead = (after, step, refl);
}
stats_turn answers is_last method closes used (Err e) a checks after out printed step same p = rw p (record {
  t = record { front = Stats method closes used; asked = None; answer = plain 500 None (sends_body method) true };
  front_is = refl;
  turn = inr (record { may_ask = tt; wants = tt; answer = refl });
  prints = record { bytes = refl; closes = refl };
  tells = tells_none a;
  lead = same;
})

-- no check need be made
pub may_not : (front : Front) → MayAsk front None
may_not Ended = tt
may_not CutShort = tt
may_not (Fixed answer used) = tt
may_not (Check request closes used) = tt
may_not (Stats method closes used) = tt

-- the answer of a front that was found
pub front_turn : {S : Type 0} (answers : CheckStep S) (is_last : Bool) (bytes unread : List ℕ) (front : Front) (a b : LinkState) (checks after : S) (out : List ℕ)
    (printed : Printed)
    → Stands bytes front → unread ≡ drop (used_of front) bytes → TurnsOut answers is_last front a b checks after out printed
    → TakesTurn answers is_last bytes unread a b checks after out printed
front_turn answers is_last bytes unread front a b checks after out printed stands rest x = record {
  t = x.t;
  stands = subst (λ (f : Front). Stands bytes f) (sym x.front_is) stands;
  turn = x.turn;
  prints = x.prints;
  tells = x.tells;
  lead = x.lead;
  unread_is = λ still. rest ∙ ap (λ f. drop (used_of f) bytes) (sym x.front_is);
}

-- 500 where memory ran out over a front
pub memory_turn : {S : Type 0} (answers : CheckStep S) (is_last : Bool) (bytes unread : List ℕ) (a : LinkState) (checks : S) (out : List ℕ) (sends_body : Bool)
    → Awaits bytes sends_body → TakesTurn answers is_last bytes unread a a checks checks out (NoMemory sends_body)
memory_turn answers is_last bytes unread a checks out sends_body f = record {
  t = record { front = f.0; asked = None; answer = plain 500 None sends_body true };
  stands = f.1;
  turn = inr (record { may_ask = may_not f.0; wants = f.3; answer = ap (λ s. plain 500 None s true) f.2 });
  prints = record { bytes = refl; closes = refl };
  tells = tells_none a;
  lead = refl;
  unread_is = λ still. absurd (cc);
}

-- ---- the last that may come closes

or_true : (t : Bool) → t || true ≡ true
or_true true = refl
or_true false = refl

pub given_closes : (result : Result Reply CheckFault) (closes : Bool) (answer : HttpAnswer) → GivesResult result closes answer → answer.closes ≡ closes
given_closes (Ok reply) closes answer is = ap (λ a. a.closes) is
given_closes (Err (fault.CountersFull moment live held wanted)) closes answer is = ap (λ a. a.closes) is
given_closes (Err (fault.ClaimsSpent claims wanted)) closes answer is = ap (λ a. a.closes) is
given_closes (Err fault.OutOfMemory) closes answer is = absurd is

last_closes : (front : Front) (asked : Option Asked) (answer : HttpAnswer) → IsTurn true (record { front = front; asked = asked; answer = answer }) → answer.closes ≡ true
last_closes front asked answer (inr other) = ap (λ a. a.closes) other.answer
last_closes (Fixed fixed used) None answer (inl is) = ap (λ a. a.closes) is ∙ or_true fixed.closes
last_closes (Check request closes used) (Some (check c)) answer (inl is) = given_closes c.result (closes || true) answer is.1 ∙ or_true closes
last_closes (Stats method closes used) (Some (statistics text)) answer (inl is) =
    ap (λ a. a.closes) is ∙ (stats_closes method text (closes || true) ∙ or_true closes)
last_closes (Fixed fixed used) (Some asked) answer (inl is) = absurd is
last_closes (Check request closes used) (Some (statistics text)) answer (inl is) = absurd is
last_closes (Check request closes used) None answer (inl is) = absurd is
last_closes (Stats method closes used) (Some (check c)) answer (inl is) = absurd is
last_closes (Stats method closes used) None answer (inl is) = absurd is
last_closes Ended asked answer (inl is) = absurd is
last_closes CutShort asked answer (inl is) = absurd is

-- so after an answer that doesn't there is room for one more
pub still_few : (n : ℕ) (t : Turn) → IsTurn (n + 1 == 1024) t → t.answer.closes ≡ false → n < 1024 → n + 1 < 1024
still_few n t is stays few = by (n + 1 == 1024) refl is
  where
    by : (b : Bool) → (n + 1 == 1024) ≡ b → IsTurn b t → n + 1 < 1024
    by true at is = absurd (let closes = last_closes t.front t.asked t.answer is in cc)
    by false at is = grind (arith, nat_tests)

-- ---- checks, one after the other

pub lead_more : {S : Type 0} (answers : CheckStep S) (a b c : S) (xs ys : List Asked)
    → Lead answers a xs b → Lead answers b ys c → Lead answers a (xs ++ ys) c
lead_more {S = S} answers a b c [] ys x y = subst (λ (s : S). Lead answers s ys c) x y
lead_more {S = S} answers a b c (q ∷ xs) ys x y = (x.0, x.1, lead_more answers x.0 b c xs ys x.2 y)
