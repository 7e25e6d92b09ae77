-- What was printed is the answer of a turn.
use Rattle.std.specs.Prelude.{Result, Ok, Err}
use Rattle.std.proofs.Common.{◌≡◌, ℕ, Bool, true, false, ◌||◌, List, Option, Some, None, refl, sym, ap, ◌∙◌, inl, inr}
use Rattle.rate_types.specs.Requests.{RequestParts}
use Rattle.rate_types.specs.declared.memory.OutOfMemory.{OutOfMemory}
use Rattle.rls_core.specs.declared.reply.Reply.{Reply}
use Rattle.rls_core.specs.declared.fault.CheckFault.{CheckFault}
use Rattle.rate_io.specs.Links.{LinkState}
use Rattle.http_front.specs.Front.{plain, sends, sends_body, stats_answer}
use Rattle.http_front.specs.declared.answer.HttpAnswer.{HttpAnswer}
use Rattle.http_front.specs.declared.front.Front.{Front}
use Rattle.http_front.specs.declared.asks.Method.{Method}
use Rattle.http_front.specs.declared.front.Front.TheVariants.{Fixed, Check, Stats}
use Rattle.http_endpoint.specs.Answers.{Asked, check, statistics, statistics_asked, Turn, closing, IsTurn, WantsMemory}
use Rattle.http_endpoint.specs.Printing.{Prints, PrintsResult, PrintsStats, PrintsTurn, printed_closes}
use Rattle.http_endpoint.specs.Steps.{Tells}
use Rattle.http_endpoint.specs.declared.turn.Printed.{Printed}
use Rattle.http_endpoint.specs.declared.turn.Printed.TheVariants.{Text, NoMemory}
use Rattle.http_endpoint.proofs.TurnLemmas.{may_not, given_closes, stats_sends, stats_json, stats_closes, tells_none, tells_stats}

-- the turn of a front whose answer is printed
pub record Printing (is_last : Bool) (front : Front) (asked : Option Asked) (out : List ℕ) (printed : Printed) : Type 0 where
  pub t : Turn
  pub front_is : t.front ≡ front
  pub asked_is : t.asked ≡ asked
  pub turn : IsTurn is_last t
  pub prints : PrintsTurn t out printed

-- of a fixed answer
pub fixed_turn : (is_last : Bool) (fixed : HttpAnswer) (used : ℕ) (out : List ℕ) (printed : Printed)
    → Prints (closing is_last fixed) out printed → Printing is_last (Fixed fixed used) None out printed
fixed_turn is_last fixed used out (Text closes) p = record {
  t = record { front = Fixed fixed used; asked = None; answer = closing is_last fixed };
  front_is = refl;
  asked_is = refl;
  turn = inl refl;
  prints = record { bytes = p.0; closes = p.1 };
}
fixed_turn is_last fixed used out (NoMemory sends_body) p = record {
  t = record { front = Fixed fixed used; asked = None; answer = plain 500 None sends_body true };
  front_is = refl;
  asked_is = refl;
  turn = inr (record { may_ask = tt; wants = inl p.1; answer = ap (λ s. plain 500 None s true) p.0 });
  prints = record { bytes = refl; closes = refl };
}

-- of a check
pub check_turn : (is_last : Bool) (request : RequestParts) (closes : Bool) (used now : ℕ) (result : Result Reply CheckFault) (out : List ℕ) (printed : Printed)
    → PrintsResult (closes || is_last) result out printed
    → Printing is_last (Check request closes used) (Some (check (record { request = request; now = now; result = result }))) out printed
check_turn is_last request closes used now result out (Text closed) p = record {
  t = record { front = Check request closes used; asked = Some (check (record { request = request; now = now; result = result })); answer = p.0 };
  front_is = refl;
  asked_is = refl;
  turn = inl (refl, p.1);
  prints = record { bytes = p.2; closes = p.3 };
}
check_turn is_last request closes used now result out (NoMemory sends_body) p = record {
  t = record { front = Check request closes used; asked = Some (check (record { request = request; now = now; result = result })); answer = plain 500 None sends_body true };
  front_is = refl;
  asked_is = refl;
  turn = inr (record { may_ask = refl; wants = p.1; answer = ap (λ s. plain 500 None s true) p.0 });
  prints = record { bytes = refl; closes = refl };
}

-- for statistics nothing was told
pub tells_statistics : (a : LinkState) (came : Result (Option (List ℕ)) OutOfMemory) → Tells a a (statistics_asked came)
tells_statistics a (Ok text) = tells_stats a text
tells_statistics a (Err e) = tells_none a

-- of a request for the statistics
pub stats_turn : (is_last : Bool) (method : Method) (closes : Bool) (used : ℕ) (came : Result (Option (List ℕ)) OutOfMemory) (out : List ℕ) (printed : Printed)
    → PrintsStats method (closes || is_last) came out printed → Printing is_last (Stats method closes used) (statistics_asked came) out printed
stats_turn is_last method closes used (Ok text) out (Text closed) p = record {
  t = record { front = Stats method closes used; asked = Some (statistics text); answer = stats_answer method text (closes || is_last) };
  front_is = refl;
  asked_is = refl;
  turn = inl refl;
  prints = record { bytes = p.0; closes = p.1 };
}
stats_turn is_last method closes used (Ok text) out (NoMemory sent) p = record {
  t = record { front = Stats method closes used; asked = Some (statistics text); answer = plain 500 None sent true };
  front_is = refl;
  asked_is = refl;
  turn = inr (record { may_ask = tt; wants = stats_json method text (closes || is_last) closes p.1; answer = ap (λ s. plain 500 None s true) (p.0 ∙ stats_sends method text (closes || is_last)) });
  prints = record { bytes = refl; closes = refl };
}
stats_turn is_last method closes used (Err e) out printed p = rw p (record {
  t = record { front = Stats method closes used; asked = None; answer = plain 500 None (sends_body method) true };
  front_is = refl;
  asked_is = refl;
  turn = inr (record { may_ask = tt; wants = tt; answer = refl });
  prints = record { bytes = refl; closes = refl };
})

-- 500 where memory ran out over a front
pub memory_turn : (is_last : Bool) (front : Front) (out : List ℕ) (sends_body : Bool) → sends_body ≡ sends front
    → WantsMemory front None → Printing is_last front None out (NoMemory sends_body)
memory_turn is_last front out sends_body same wants = record {
  t = record { front = front; asked = None; answer = plain 500 None sends_body true };
  front_is = refl;
  asked_is = refl;
  turn = inr (record { may_ask = may_not front; wants = wants; answer = ap (λ s. plain 500 None s true) same });
  prints = record { bytes = refl; closes = refl };
}

-- ---- after which the connection closes

-- what was printed for a check closes where that was asked for
pub printed_still : (closes : Bool) (result : Result Reply CheckFault) (out : List ℕ) (printed : Printed) → PrintsResult closes result out printed
    → printed_closes printed ≡ false → closes ≡ false
printed_still closes result out (Text closed) p is = sym (given_closes result closes p.0 p.1) ∙ (sym p.3 ∙ is)
printed_still closes result out (NoMemory sends_body) p is = absurd (cc)

-- what was printed for statistics too
pub stats_still : (method : Method) (closes : Bool) (came : Result (Option (List ℕ)) OutOfMemory) (out : List ℕ) (printed : Printed)
    → PrintsStats method closes came out printed → printed_closes printed ≡ false → closes ≡ false
stats_still method closes (Ok text) out (Text closed) p is = sym (stats_closes method text closes) ∙ (sym p.1 ∙ is)
stats_still method closes (Ok text) out (NoMemory sent) p is = absurd (cc)
stats_still method closes (Err e) out printed p is = absurd (let not = sym (ap printed_closes p) ∙ is in cc)

-- and so does what was printed for a fixed answer
pub fixed_still : (is_last : Bool) (fixed : HttpAnswer) (out : List ℕ) (printed : Printed) → Prints (closing is_last fixed) out printed
    → printed_closes printed ≡ false → is_last ≡ false
fixed_still is_last fixed out (Text closed) p is = or_false fixed.closes is_last (sym p.1 ∙ is)
  where
    or_false : (a b : Bool) → a || b ≡ false → b ≡ false
    or_false true b is = absurd (cc)
    or_false false b is = is
fixed_still is_last fixed out (NoMemory sends_body) p is = absurd (cc)
