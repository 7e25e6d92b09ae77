-- Each line that is written has one line feed, at its end.
use Rattle.std.proofs.Common.{◌≡◌, ℕ, zero, suc, ◌+◌, ◌<◌, ◌/◌, ◌%◌, ◌==◌, ◌&&◌, ◌||◌, not, Bool, true, false, cond, List, [], ◌∷◌, ◌++◌, map, codes, decimal, Option}
use Rattle.std.proofs.Common.{Some, None, Result, Ok, Err, refl, sym, ap, subst, ◌∙◌, append_assoc, arith, nat_lt}
use Rattle.std.specs.Char.{digit_char}
use Rattle.std.specs.Fmt.{digits, digits_onto, digit_glyph}
use Rattle.std.specs.List.{flat_map}
use Rattle.std.proofs.lemmas.Bool.Decides.{nat_tests}
use Rattle.std.proofs.lemmas.List.Folds.{list_all-append}
use Rattle.json.specs.Print.{escape, escape_byte, escape_letter}
use Rattle.rate_types.specs.Durations.{duration_text}
use Rattle.rate_types.specs.declared.refused.Refused.{Refused}
use Rattle.proto_json.specs.Said.{reading_of}
use Rattle.quota_settings.specs.Covering.{AllSettings}
use Rattle.quota_settings.specs.declared.pair.Pair.{Pair}
use Rattle.quota_buckets.specs.Streams.{Stream, decision, advanced_to, reports_due, new_stream}
use Rattle.quota_buckets.specs.declared.report.Report.{Report}
use Rattle.quota_lines.specs.Line as reading
use Rattle.quota_lines.specs.declared.stream_line.Connection.{Connection}
use Rattle.quota_lines.specs.declared.stream_line.Connection.TheVariants.{Lost, Up}
use Rattle.quota_lines.specs.declared.stream_line.StreamEvent.{StreamEvent}
use Rattle.quota_lines.specs.declared.stream_line.StreamEvent.TheVariants.{Request, Response, Connection as Connects, Passes}
use Rattle.quota_lines.specs.declared.stream_line.StreamLine.{StreamLine}
use Rattle.quota_stream.specs.Outcomes.{Outcome, happened, accepted, outcome_read, outcome_of, refused_as, first_report, answers_of}
use Rattle.text_lines.specs.Lines.{cut}
use Rattle.quota_stream.specs.Output.{outputs, quota_output, has_no_feed, IsLine, AreLines}
use Rattle.quota_stream.specs.Texts.{pair_text, next_pair, pairs_text, bucket_text, found_text, decision_name, connection_name, answer_text, next_answer, answers_text}
use Rattle.quota_stream.specs.Texts.{allowed_member, denied_member, elapsed_member, usage_text, at_start, number_start, actions_start, at_part, decision_part}
use Rattle.quota_stream.specs.Texts.{connection_part, usages_text, domain_end, report_part, refusal_text, refused_part, time_back_part, stream_end, line_end}
use Rattle.quota_stream.specs.Texts.{decision_line, report_line, actions_line, connection_line, passing_line, refused_line, time_back_line}
use Rattle.quota_stream.specs.declared.line_number.LineNumber.{LineNumber}
use Rattle.quota_stream.specs.declared.action_answer.ActionAnswer.{ActionAnswer}
use Rattle.quota_stream.specs.declared.action_answer.ActionAnswer.TheVariants.{Assigned, Renewed, Abandoned, NoBucket}

-- ---- bytes without a line feed

both : (xs ys : List ℕ) → has_no_feed xs ≡ true → has_no_feed ys ≡ true → has_no_feed (xs ++ ys) ≡ true
both xs ys a b = rw (list_all-append (λ b. not (b == 10)) xs ys, a, b) refl

either : (c : Bool) (xs ys : List ℕ) → has_no_feed xs ≡ true → has_no_feed ys ≡ true → has_no_feed (cond c xs ys) ≡ true
either true xs ys a b = a
either false xs ys a b = b

one_more : (x : ℕ) (xs : List ℕ) → (x == 10) ≡ false → has_no_feed xs ≡ true → has_no_feed (x ∷ xs) ≡ true
one_more x xs a b = rw (a, b) refl

above : (x : ℕ) → 10 < x → (x == 10) ≡ false
above x h = grind (arith, nat_tests)

one_of : (c : Bool) (x y : ℕ) → (x == 10) ≡ false → (y == 10) ≡ false → (cond c x y == 10) ≡ false
one_of true x y a b = a
one_of false x y a b = b

flat : {X : Type 0} (f : X → List ℕ) → ((x : X) → has_no_feed (f x) ≡ true) → (xs : List X) → has_no_feed (flat_map f xs) ≡ true
flat f each [] = refl
flat f each (x ∷ xs) = both (f x) (flat_map f xs) (each x) (flat f each xs)

letter : (x : ℕ) → (x == 10) ≡ false → (escape_letter x == 10) ≡ false
letter x is =
    one_of ((x == 34) || (x == 92)) x (cond (x == 8) 98 (cond (x == 12) 102 (cond (x == 10) 110 (cond (x == 13) 114 (cond (x == 9) 116 0))))) is
    (one_of (x == 8) 98 (cond (x == 12) 102 (cond (x == 10) 110 (cond (x == 13) 114 (cond (x == 9) 116 0)))) refl
    (one_of (x == 12) 102 (cond (x == 10) 110 (cond (x == 13) 114 (cond (x == 9) 116 0))) refl
    (one_of (x == 10) 110 (cond (x == 13) 114 (cond (x == 9) 116 0)) refl
    (one_of (x == 13) 114 (cond (x == 9) 116 0) refl (one_of (x == 9) 116 0 refl refl)))))

hex : (d : ℕ) → (digit_char d == 10) ≡ false
hex d = one_of (nat_lt d 10) (48 + d) (87 + d) (above (48 + d) (omega arith)) (above (87 + d) (omega arith))

escaped_other : (x : ℕ) → (x == 10) ≡ false → has_no_feed (escape_byte x) ≡ true
unfolding escape_byte
escaped_other x is =
    either (nat_lt 0 (escape_letter x)) (92 ∷ escape_letter x ∷ [])
    (cond (nat_lt x 32) (92 ∷ 117 ∷ 48 ∷ 48 ∷ digit_char (x / 16) ∷ digit_char (x % 16) ∷ []) (x ∷ []))
    (one_more 92 (escape_letter x ∷ []) refl (one_more (escape_letter x) [] (letter x is) refl))
    (either (nat_lt x 32) (92 ∷ 117 ∷ 48 ∷ 48 ∷ digit_char (x / 16) ∷ digit_char (x % 16) ∷ []) (x ∷ [])
    (one_more (digit_char (x / 16)) (digit_char (x % 16) ∷ []) (hex (x / 16)) (one_more (digit_char (x % 16)) [] (hex (x % 16)) refl))
    (one_more x [] is refl))

escaped_feed : has_no_feed (escape_byte 10) ≡ true
unfolding escape_byte
escaped_feed = refl

escaped : (x : ℕ) → has_no_feed (escape_byte x) ≡ true
escaped x = by (x == 10) refl
  where
    by : (b : Bool) → (x == 10) ≡ b → has_no_feed (escape_byte x) ≡ true
    by false is = escaped_other x is
    by true is = let ten : x ≡ 10 = grind (arith, nat_tests) in subst (λ (y : ℕ). has_no_feed (escape_byte y) ≡ true) (sym ten) escaped_feed

escape_plain : (text : List ℕ) → has_no_feed (escape text) ≡ true
escape_plain text = flat escape_byte escaped text

onto : (k n : ℕ) (acc : List ℕ) → has_no_feed acc ≡ true → has_no_feed (digits_onto k 10 false n acc) ≡ true
onto zero n acc h = h
onto (suc k) n acc h =
    let here : has_no_feed (digit_glyph false (n % 10) ∷ acc) ≡ true = one_more (digit_glyph false (n % 10)) acc (hex (n % 10)) h in
    either (n / 10 == 0) (digit_glyph false (n % 10) ∷ acc) (digits_onto k 10 false (n / 10) (digit_glyph false (n % 10) ∷ acc))
    here (onto k (n / 10) (digit_glyph false (n % 10) ∷ acc) here)

decimal_plain : (n : ℕ) → has_no_feed (decimal n) ≡ true
unfolding digits
decimal_plain n = onto 64 n [] refl

abbrev appended : (xs ys : List ℕ) → has_no_feed (xs ++ ys) ≡ (has_no_feed xs && has_no_feed ys)
appended = list_all-append (λ b. not (b == 10))

duration_plain : (n : ℕ) → has_no_feed (duration_text n) ≡ true
unfolding duration_text
duration_plain n =
    either (n % 1000 == 0) (decimal (n / 1000) ++ codes "s")
    (decimal (n / 1000) ++ codes "." ++ decimal (n % 1000 / 100) ++ decimal (n % 1000 / 10 % 10) ++ decimal (n % 1000 % 10) ++ codes "s")
    (simp (appended, decimal_plain)) (simp (appended, decimal_plain))

-- ---- the parts of lines

pair_plain : (p : Pair) → has_no_feed (pair_text p) ≡ true
unfolding pair_text
pair_plain p = simp (appended, escape_plain)

next_pair_plain : (p : Pair) → has_no_feed (next_pair p) ≡ true
next_pair_plain p = simp (appended, pair_plain)

pairs_plain : (ps : List Pair) → has_no_feed (pairs_text ps) ≡ true
pairs_plain [] = refl
pairs_plain (p ∷ ps) = both (pair_text p) (flat_map next_pair ps) (pair_plain p) (flat next_pair next_pair_plain ps)

bucket_plain : (id : List Pair) → has_no_feed (bucket_text id) ≡ true
unfolding bucket_text
bucket_plain id = simp (appended, pairs_plain)

found_plain : (bucket : Option (List Pair)) → has_no_feed (found_text bucket) ≡ true
found_plain None = refl
found_plain (Some id) = bucket_plain id

name_plain : (allowed : Bool) → has_no_feed (decision_name allowed) ≡ true
name_plain true = refl
name_plain false = refl

happening_plain : (connection : Connection) → has_no_feed (connection_name connection) ≡ true
happening_plain Lost = refl
happening_plain Up = refl

answer_plain : (answer : ActionAnswer) → has_no_feed (answer_text answer) ≡ true
answer_plain Assigned = refl
answer_plain Renewed = refl
answer_plain Abandoned = refl
answer_plain NoBucket = refl

next_answer_plain : (answer : ActionAnswer) → has_no_feed (next_answer answer) ≡ true
next_answer_plain answer = simp (appended, answer_plain)

answers_plain : (answers : List ActionAnswer) → has_no_feed (answers_text answers) ≡ true
answers_plain [] = refl
answers_plain (a ∷ answers) = both (answer_text a) (flat_map next_answer answers) (answer_plain a) (flat next_answer next_answer_plain answers)

allowed_plain : (count : ℕ) → has_no_feed (allowed_member count) ≡ true
unfolding allowed_member
allowed_plain count = either (count == 0) [] (codes ",\"numRequestsAllowed\":\"" ++ decimal count ++ codes "\"") refl (simp (appended, decimal_plain))

denied_plain : (count : ℕ) → has_no_feed (denied_member count) ≡ true
unfolding denied_member
denied_plain count = either (count == 0) [] (codes ",\"numRequestsDenied\":\"" ++ decimal count ++ codes "\"") refl (simp (appended, decimal_plain))

elapsed_plain : (elapsed : ℕ) → has_no_feed (elapsed_member elapsed) ≡ true
unfolding elapsed_member
elapsed_plain elapsed = either (elapsed == 0) [] (codes ",\"timeElapsed\":\"" ++ duration_text elapsed ++ codes "\"") refl (simp (appended, duration_plain))

usage_plain : (r : Report) → has_no_feed (usage_text r) ≡ true
unfolding usage_text
usage_plain r = simp (appended, bucket_plain, allowed_plain, denied_plain, elapsed_plain)

at_start_plain : (at : ℕ) → has_no_feed (at_start at) ≡ true
unfolding at_start
at_start_plain at = simp (appended, duration_plain)

number_start_plain : (line : ℕ) → has_no_feed (number_start line) ≡ true
unfolding number_start
number_start_plain line = simp (appended, decimal_plain)

actions_start_plain : (answers : List ActionAnswer) → has_no_feed (actions_start answers) ≡ true
unfolding actions_start
actions_start_plain answers = simp (appended, answers_plain)

at_part_plain : (at : ℕ) → has_no_feed (at_part at) ≡ true
unfolding at_part
at_part_plain at = simp (appended, duration_plain)

decision_plain : (bucket : Option (List Pair)) (allowed : Bool) → has_no_feed (decision_part bucket allowed) ≡ true
unfolding decision_part
decision_plain bucket allowed = simp (appended, found_plain, name_plain)

connection_plain : (connection : Connection) → has_no_feed (connection_part connection) ≡ true
unfolding connection_part
connection_plain connection = simp (appended, happening_plain)

usages_plain : (r : Report) → has_no_feed (usages_text r) ≡ true
unfolding usages_text
usages_plain r = simp (appended, usage_plain)

domain_plain : (domain : List ℕ) → has_no_feed (domain_end domain) ≡ true
unfolding domain_end
domain_plain domain = simp (appended, escape_plain)

report_plain : (domain : List ℕ) (r : Report) → has_no_feed (report_part domain r) ≡ true
unfolding report_part
report_plain domain r = simp (appended, usages_plain, domain_plain)

refusal_plain : (refused : Refused) → has_no_feed (refusal_text refused) ≡ true
unfolding refusal_text
refusal_plain refused = simp (appended, escape_plain, decimal_plain)

refused_plain : (refused : Refused) → has_no_feed (refused_part refused) ≡ true
unfolding refused_part
refused_plain refused = simp (appended, refusal_plain)

time_back_plain : (last : ℕ) → has_no_feed (time_back_part last) ≡ true
unfolding time_back_part
time_back_plain last = simp (appended, duration_plain)

-- ---- lines

-- the end of a line
ends : (front : List ℕ) (stream : ℕ) → has_no_feed front ≡ true → IsLine (front ++ stream_end stream)
unfolding stream_end
ends front stream plain = record {
  text = front ++ (codes ",\"stream\":" ++ decimal stream ++ codes "}");
  feed = ap (λ (l : List ℕ). front ++ l) (sym (append_assoc (codes ",\"stream\":" ++ decimal stream) (codes "}") (10 ∷ [])))
      ∙ sym (append_assoc front (codes ",\"stream\":" ++ decimal stream ++ codes "}") (10 ∷ []));
  plain = both front (codes ",\"stream\":" ++ decimal stream ++ codes "}") plain (simp (appended, decimal_plain));
}

-- the end of a line with its number
ends_numbered : (front : List ℕ) (n : LineNumber) → has_no_feed front ≡ true → IsLine (front ++ line_end n)
unfolding line_end
ends_numbered front n plain =
    subst IsLine (append_assoc front (codes ",\"line\":" ++ decimal n.line) (stream_end n.stream))
    (ends (front ++ (codes ",\"line\":" ++ decimal n.line)) n.stream
    (both front (codes ",\"line\":" ++ decimal n.line) plain (simp (appended, decimal_plain))))

a_decision : (n : LineNumber) (at : ℕ) (bucket : Option (List Pair)) (allowed : Bool) → IsLine (decision_line n at bucket allowed)
unfolding decision_line
a_decision n at bucket allowed = ends_numbered (at_start at ++ decision_part bucket allowed) n (simp (appended, at_start_plain, decision_plain))

a_report : (stream : ℕ) (domain : List ℕ) (r : Report) → IsLine (report_line stream domain r)
unfolding report_line
a_report stream domain r = ends (at_start r.at ++ report_part domain r) stream (simp (appended, at_start_plain, report_plain))

actions_are : (n : LineNumber) (at : ℕ) (answers : List ActionAnswer) → IsLine (actions_line n at answers)
unfolding actions_line
actions_are n at answers = ends_numbered (actions_start answers ++ at_part at) n (simp (appended, actions_start_plain, at_part_plain))

a_connection : (n : LineNumber) (at : ℕ) (connection : Connection) → IsLine (connection_line n at connection)
unfolding connection_line
a_connection n at connection = ends_numbered (at_start at ++ connection_part connection) n (simp (appended, at_start_plain, connection_plain))

a_passing : (n : LineNumber) (at : ℕ) → IsLine (passing_line n at)
unfolding passing_line
a_passing n at = ends_numbered (at_start at) n (at_start_plain at)

a_refused : (n : LineNumber) (refused : Refused) → IsLine (refused_line n refused)
unfolding refused_line
a_refused n refused = ends (number_start n.line ++ refused_part refused) n.stream (simp (appended, number_start_plain, refused_plain))

a_time_back : (n : LineNumber) (last : ℕ) → IsLine (time_back_line n last)
unfolding time_back_line
a_time_back n last = ends (number_start n.line ++ time_back_part last) n.stream (simp (appended, number_start_plain, time_back_plain))

-- ---- the lines of an output

all_append : (xs ys : List (List ℕ)) → AreLines xs → AreLines ys → AreLines (xs ++ ys)
all_append [] ys a b = b
all_append (x ∷ xs) ys a b = (a.0, all_append xs ys a.1 b)

all_map : {X : Type 0} (f : X → List ℕ) → ((x : X) → IsLine (f x)) → (xs : List X) → AreLines (map f xs)
all_map f each [] = tt
all_map f each (x ∷ xs) = (each x, all_map f each xs)

first_lines : (stream : ℕ) (domain : List ℕ) (report : Option Report) → AreLines (first_report stream domain report)
first_lines stream domain None = tt
first_lines stream domain (Some report) = (a_report stream domain report, tt)

happened_lines : (n : LineNumber) (event : StreamEvent) (s : Stream) → AreLines (happened n event s).written
happened_lines n (Request attributes) s =
    let d = decision attributes s in (a_decision n s.time d.bucket d.allowed, first_lines n.stream s.settings.domain d.report)
happened_lines n (Response actions) s = (actions_are n s.time (answers_of s actions), tt)
happened_lines n (Connects connection) s = (a_connection n s.time connection, tt)
happened_lines n Passes s = (a_passing n s.time, tt)

accepted_lines : (n : LineNumber) (line : StreamLine) (s : Stream) → AreLines (accepted n line s).written
accepted_lines n line s =
    all_append (map (report_line n.stream s.settings.domain) (reports_due line.at s)) (happened n line.event (advanced_to line.at s)).written
    (all_map (report_line n.stream s.settings.domain) (a_report n.stream s.settings.domain) (reports_due line.at s))
    (happened_lines n line.event (advanced_to line.at s))

one_outcome : (c : Bool) (x y : Outcome) → AreLines x.written → AreLines y.written → AreLines (cond c x y).written
one_outcome true x y a b = a
one_outcome false x y a b = b

read_lines : (n : LineNumber) (r : Result (Option StreamLine) Refused) (s : Stream) → AreLines (outcome_read n r s).written
read_lines n (Err refused) s = (a_refused n refused, tt)
read_lines n (Ok (Some line)) s =
    one_outcome (nat_lt line.at s.time) (refused_as (time_back_line n s.time) s) (accepted n line s) (a_time_back n s.time, tt) (accepted_lines n line s)
read_lines n (Ok None) s = tt

pub outcome_lines : (n : LineNumber) (bytes : List ℕ) (s : Stream) → AreLines (outcome_of n bytes s).written
unfolding outcome_of
outcome_lines n bytes s = read_lines n (reading_of (reading.line bytes)) s

outputs_lines : (index before : ℕ) (s : Stream) (lines : List (List ℕ)) → AreLines (outputs index before s lines)
outputs_lines index before s [] = tt
outputs_lines index before s (bytes ∷ more) =
    let n : LineNumber = record { stream = index; line = before + 1 } in
    all_append (outcome_of n bytes s).written (outputs index (before + 1) (outcome_of n bytes s).stream more)
    (outcome_lines n bytes s) (outputs_lines index (before + 1) (outcome_of n bytes s).stream more)

-- each piece of the output of a stream is one line
pub lines_each : (settings : AllSettings) (index : ℕ) (bytes : List ℕ) → AreLines (quota_output settings index bytes)
lines_each settings index bytes = outputs_lines index 0 (new_stream settings) (cut bytes)
