-- The lines of a text, each with its line feed.
use Rattle.std.proofs.Common.{◌≡◌, ℕ, ◌+◌, ◌<◌, ◌==◌, ◌&&◌, not, Bool, true, false, List, [], ◌∷◌, ◌++◌, length, take, drop, map, Some, None, refl, sym, ap, ◌∙◌, append_assoc}
use Rattle.std.proofs.Common.{append-nil, arith}
use Rattle.std.specs.List.{concat, position}
use Rattle.std.proofs.lemmas.List.{map-append}
use Rattle.std.proofs.lemmas.List.Elements.{All-head, All-tail}
use Rattle.rate_io.specs.Events.{Event, wrote, write_failed, Grew}
use Rattle.quota_settings.specs.Covering.{AllSettings}
use Rattle.quota_stream.specs.Output.{has_no_feed, IsLine, AreLines, before_lines, with_feeds, quota_output}
use Rattle.quota_stream.specs.Tasks.{output_text}
use Rattle.quota_stream.specs.Progress.{IsPlain}
use Rattle.quota_stream.specs.Replays.{WroteUpTo}
use Rattle.quota_stream.proofs.Feeding.{lines_each}
use Rattle.quota_stream.proofs.Parting.{none_plain, front_plain, with_feed, around_feed}

not_true : (c : Bool) → not c ≡ true → c ≡ false
not_true true is = absurd (cc)
not_true false is = refl

both_true : (a b : Bool) → (a && b) ≡ true → (a ≡ true) × (b ≡ true)
both_true true b e = (refl, e)
both_true false b e = absurd (cc)

-- one line, and what stands behind it
fed_line : (text more : List ℕ) → has_no_feed text ≡ true → with_feeds (text ++ 10 ∷ more) ≡ (text ++ 10 ∷ []) ∷ with_feeds more
fed_line [] more plain = refl
fed_line (b ∷ text) more plain =
    let parts = both_true (not (b == 10)) (has_no_feed text) plain in
    rw (not_true (b == 10) parts.0, fed_line text more parts.1) refl

line_fed : (line more : List ℕ) → IsLine line → with_feeds (line ++ more) ≡ line ∷ with_feeds more
line_fed line more is =
    ap with_feeds (ap (λ (l : List ℕ). l ++ more) is.feed ∙ append_assoc is.text (10 ∷ []) more) ∙ fed_line is.text more is.plain
    ∙ ap (λ (l : List ℕ). l ∷ with_feeds more) (sym is.feed)

-- lines one after the other are these lines
pub lines_fed : (own : List (List ℕ)) → AreLines own → with_feeds (concat own) ≡ own
lines_fed [] lines = refl
lines_fed (line ∷ own) lines = line_fed line (concat own) lines.0 ∙ ap (λ (l : List (List ℕ)). line ∷ l) (lines_fed own lines.1)

-- the text of an output is its lines
pub outputs_cut : (settings : AllSettings) (index : ℕ) (bytes : List ℕ) → with_feeds (output_text settings index bytes) ≡ quota_output settings index bytes
outputs_cut settings index bytes = lines_fed (quota_output settings index bytes) (lines_each settings index bytes)

-- bytes without a line feed are one line
unfed : (bytes : List ℕ) → has_no_feed bytes ≡ true → 0 < length bytes → with_feeds bytes ≡ bytes ∷ []
unfed [] plain some = absurd (omega arith)
unfed (b ∷ []) plain some = rw (not_true (b == 10) (both_true (not (b == 10)) true plain).0) refl
unfed (b ∷ c ∷ more) plain some =
    let parts = both_true (not (b == 10)) (has_no_feed (c ∷ more)) plain in
    rw (not_true (b == 10) parts.0) (ap (before_lines b) (unfed (c ∷ more) parts.1 (omega arith)))

plain_none : (bytes : List ℕ) → IsPlain bytes → has_no_feed bytes ≡ true
plain_none [] plain = refl
plain_none (b ∷ bs) plain =
    rw (All-head (λ (x : ℕ). (x == 10) ≡ false) b bs plain, plain_none bs (All-tail (λ (x : ℕ). (x == 10) ≡ false) b bs plain)) refl

-- the first line ends with the first line feed
pub first_fed : (bytes : List ℕ) (at : ℕ) → position (λ b. b == 10) bytes ≡ Some at
    → with_feeds bytes ≡ take (at + 1) bytes ∷ with_feeds (drop (at + 1) bytes)
first_fed bytes at is =
    ap with_feeds (around_feed bytes at is) ∙ fed_line (take at bytes) (drop (at + 1) bytes) (plain_none (take at bytes) (front_plain bytes at is))
    ∙ ap (λ (l : List ℕ). l ∷ with_feeds (drop (at + 1) bytes)) (sym (with_feed bytes at is))

pub last_unfed : (bytes : List ℕ) → position (λ b. b == 10) bytes ≡ None → 0 < length bytes → with_feeds bytes ≡ bytes ∷ []
last_unfed bytes none some = unfed bytes (plain_none bytes (none_plain bytes none)) some

-- ---- writing lines

-- the first of all lines were written, each by one call, and these are left
pub record Written (all left : List (List ℕ)) (old new : List Event) : Type 0 where
  pub front : List (List ℕ)
  pub lines : all ≡ front ++ left
  pub each : new ≡ old ++ map wrote front

pub none_written : (all : List (List ℕ)) (old : List Event) → Written all all old old
none_written all old = record { front = []; lines = refl; each = sym (append-nil old) }

pub one_written : (all left : List (List ℕ)) (piece : List ℕ) (old mid new : List Event) → Written all (piece ∷ left) old mid
    → new ≡ mid ++ wrote piece ∷ [] → Written all left old new
one_written all left piece old mid new so_far is = record {
  front = so_far.front ++ piece ∷ [];
  lines = so_far.lines ∙ sym (append_assoc so_far.front (piece ∷ []) left);
  each = is ∙ ap (λ (l : List Event). l ++ wrote piece ∷ []) so_far.each ∙ append_assoc old (map wrote so_far.front) (wrote piece ∷ [])
      ∙ ap (λ (l : List Event). old ++ l) (sym (map-append wrote so_far.front (piece ∷ [])));
}

pub one_unwritten : (all left : List (List ℕ)) (piece : List ℕ) (old mid new : List Event) → Written all (piece ∷ left) old mid
    → new ≡ mid ++ write_failed piece ∷ [] → Grew old new (WroteUpTo all)
one_unwritten all left piece old mid new so_far is = record {
  events = map wrote so_far.front ++ write_failed piece ∷ [];
  grew = is ∙ ap (λ (l : List Event). l ++ write_failed piece ∷ []) so_far.each ∙ append_assoc old (map wrote so_far.front) (write_failed piece ∷ []);
  are = record { front = so_far.front; piece = piece; rest = left; all = so_far.lines; each = refl };
}

pub all_written : (all : List (List ℕ)) (old new : List Event) → Written all [] old new → new ≡ old ++ map wrote all
all_written all old new so_far = so_far.each ∙ ap (λ (l : List (List ℕ)). old ++ map wrote l) (sym (so_far.lines ∙ append-nil so_far.front))
