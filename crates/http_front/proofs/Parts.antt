-- What is known of a front while its request is still coming.
use Rattle.std.specs.Prelude.{Result, Ok, Err, IfOk, OnErr}
use Rattle.rate_types.specs.declared.memory.OutOfMemory.{OutOfMemory}
use Rattle.std.proofs.Common.{◌≡◌, ℕ, ◌+◌, ◌<◌, ◌≤◌, true, false, List, ◌++◌, length, take, drop, Option, Some, None, option_map, refl, sym, ap, ◌∙◌, arith, length-take}
use Rattle.std.proofs.Common.{length-drop, length-append}
use Rattle.std.proofs.lemmas.List.{take-append-le, drop-append-le}
use Rattle.httparse.specs.Grammar.{RequestHead}
use Rattle.http_front.specs.declared.asks.Asks.{Asks}
use Rattle.http_front.specs.declared.front.Front.{Front}
use Rattle.http_front.specs.declared.front.Front.TheVariants.{Ended, CutShort, Fixed, Check, Stats}
use Rattle.http_front.specs.declared.part.Part.{Part}
use Rattle.http_front.specs.declared.part.Part.TheVariants.{Whole, NoHead, NoBody}
use Rattle.http_front.specs.Asks.{asks_of}
use Rattle.http_front.specs.Head.{head_max, head_length, has_too_many_lines, HeadReads}
use Rattle.http_front.specs.Front.{IsFrontAfter, is_waiting, has_json, plain, after_head}
use Rattle.http_front.specs.Part.{IsPart, NeedsMemory}
use Rattle.http_front.specs.Steps.{body_count, GivesPart, IsPartAfter, IsPartAsked, IsPartHeadless, LacksAfter}
use Rattle.http_front.proofs.Bodies.{after_head-waits}
use Rattle.http_front.proofs.Stable.{head_length-append, head_length-le, first-append}
use Rattle.http_front.proofs.Fronts.{found_front}
use Rattle.http_front.proofs.Facts.{standing}

pub asked_part : (head after : List ℕ) (asks : Asks) (read : Option RequestHead) (part : Part)
    → has_too_many_lines head ≡ false → HeadReads head read → Some asks ≡ option_map asks_of read
    → IsPartAsked asks (length head) after part → IsPartAfter head after part
asked_part head after asks read (Whole front) lines reads same p =
    (rw lines (read, reads, p.0 ∙ ap (λ o. after_head o (length head) after) same), p.1)
asked_part head after asks read (NoBody total sent) lines reads same p =
    let w = after_head-waits asks (length head) after p.0 in (
      omega (arith, p.1, w.short),
      omega (arith, p.1, w.most),
      λ shorter less.
          let few : length shorter < body_count asks.length = omega (arith, p.1) in
          rw lines (read, reads, sym (w.cut shorter few) ∙ ap (λ o. after_head o (length head) shorter) same),
      λ longer room.
          let enough : body_count asks.length ≤ length longer = omega (arith, p.1) in (
            after_head (Some asks) (length head) longer,
            rw lines (read, reads, ap (λ o. after_head o (length head) longer) same),
            w.settled longer enough,
            w.uses longer enough ∙ sym p.1,
            p.2 ∙ sym (w.sent longer enough),
          ),
    )
asked_part head after asks read (NoHead is_blank) lines reads same p = absurd p

pub found_part : (bytes head after : List ℕ) (n : ℕ) (part : Part)
    → head_length (take head_max bytes) ≡ Some n → head ≡ take n bytes → after ≡ drop n bytes
    → IsPartAfter head after part → IsPart bytes part
found_part bytes head after n (Whole front) at first last p = standing bytes front (found_front bytes head after n front at first last p.0) p.1
found_part bytes head after n (NoHead is_blank) at first last p = absurd p
found_part bytes head after n (NoBody total sent) at first last p =
    let within : n ≤ length (take head_max bytes) = head_length-le (take head_max bytes) n at in
    let long : length head ≡ n = rw first (omega (arith, length-take n bytes, length-take head_max bytes)) in
    let rest : length after + n ≡ length bytes = rw last (omega (arith, length-drop n bytes, length-take head_max bytes)) in
    let room : n ≤ length bytes = omega (arith, length-take head_max bytes) in
    record {
      short = omega (arith, p.0);
      until = λ more less.
          let few : length head + length (after ++ more) < total = omega (arith, length-append after more, length-append bytes more) in
          let fore = first-append head_max bytes more in
          let longer : head_length (take head_max (bytes ++ more)) ≡ Some n = rw fore.1 (head_length-append (take head_max bytes) fore.0 n at) in
          let first_more : head ≡ take n (bytes ++ more) = first ∙ sym (take-append-le n bytes more room) in
          let last_more : after ++ more ≡ drop n (bytes ++ more) = ap (λ xs. xs ++ more) last ∙ sym (drop-append-le n bytes more room) in
          found_front (bytes ++ more) head (after ++ more) n CutShort longer first_more last_more (p.2 (after ++ more) few);
      most = omega (arith, p.1, length-take head_max bytes);
      later = λ more enough.
          let f = p.3 (after ++ more) (omega (arith, length-append after more, length-append bytes more)) in
          let fore = first-append head_max bytes more in
          let longer : head_length (take head_max (bytes ++ more)) ≡ Some n = rw fore.1 (head_length-append (take head_max bytes) fore.0 n at) in
          let first_more : head ≡ take n (bytes ++ more) = first ∙ sym (take-append-le n bytes more room) in
          let last_more : after ++ more ≡ drop n (bytes ++ more) = ap (λ xs. xs ++ more) last ∙ sym (drop-append-le n bytes more room) in
          (f.0, standing (bytes ++ more) f.0 (found_front (bytes ++ more) head (after ++ more) n f.0 longer first_more last_more f.1) f.2, f.3, f.4);
    }

pub headless_part : (bytes : List ℕ) (part : Part) → head_length (take head_max bytes) ≡ None → IsPartHeadless bytes part → IsPart bytes part
headless_part bytes (Whole front) none p = standing bytes front (rw none p.0) p.1
headless_part bytes (NoHead is_blank) none p = (rw none (sym p.0), p.1)
headless_part bytes (NoBody total sent) none p = absurd p

-- a front with a JSON body waits for no byte
has_settled : (front : Front) → has_json front ≡ true → is_waiting front ≡ false
has_settled (Fixed answer used) has = refl
has_settled (Check request closes used) has = refl
has_settled (Stats method closes used) has = refl
has_settled Ended has = absurd (cc)
has_settled CutShort has = absurd (cc)

-- the part of the bytes, by their head
pub found_result : (bytes head after : List ℕ) (n : ℕ) (result : Result Part OutOfMemory)
    → head_length (take head_max bytes) ≡ Some n → head ≡ take n bytes → after ≡ drop n bytes
    → IfOk result (IsPartAfter head after) → OnErr result (LacksAfter head after)
    → IfOk result (IsPart bytes) × OnErr result (NeedsMemory bytes)
found_result bytes head after n (Ok part) at first last ok err = (found_part bytes head after n part at first last ok, tt)
found_result bytes head after n (Err fault) at first last ok err = (
  tt,
  (
    err.0,
    standing bytes err.0 (found_front bytes head after n err.0 at first last err.1) (has_settled err.0 err.2.0),
    err.2.0,
    err.2.1,
  ),
)

-- where the head is no head of the grammar
pub unread_front : (head after : List ℕ) (read : Option RequestHead) → has_too_many_lines head ≡ false → HeadReads head read → None ≡ option_map asks_of read
    → IsFrontAfter head after (Fixed (plain 400 None true true) (length head))
unread_front head after read lines reads same = rw lines (read, reads, ap (λ o. after_head o (length head) after) same)

-- where it has too many lines
pub many_front : (head after : List ℕ) → has_too_many_lines head ≡ true → IsFrontAfter head after (Fixed (plain 431 None true true) (length head))
many_front head after lines = rw lines refl

-- by what the head asks for
pub asked_result : (head after : List ℕ) (asks : Asks) (read : Option RequestHead) (result : Result Part OutOfMemory)
    → has_too_many_lines head ≡ false → HeadReads head read → Some asks ≡ option_map asks_of read
    → GivesPart asks (length head) after result → IfOk result (IsPartAfter head after) × OnErr result (LacksAfter head after)
asked_result head after asks read (Ok part) lines reads same g = (asked_part head after asks read part lines reads same g, tt)
asked_result head after asks read (Err fault) lines reads same g =
    (tt, (after_head (Some asks) (length head) after, rw lines (read, reads, ap (λ o. after_head o (length head) after) same), g))
