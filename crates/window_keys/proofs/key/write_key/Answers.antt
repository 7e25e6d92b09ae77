use Rattle.std.proofs.Common.{ℕ, List, ◌≡◌, ◌++◌, length, take, ◌∙◌, ap, arith}
use Rattle.std.proofs.lemmas.Grind.{common_steps}
use Rattle.std.specs.Int.{w64, to_be_bytes}
use Rattle.rate_types.specs.declared.entries.Entry.{Entry}
use Rattle.window_keys.specs.Key.{sized}
use Rattle.window_keys.proofs.Keys.{same_key, spelled}
use Rattle.window_keys.proofs.key.write_key.Goals as goal

pub returns-clause-bytes : goal.returns-clause-bytes
returns-clause-bytes c =
    let all : take c.loop-entry.entry-index c.items-items.result.now ≡ c.args.entries.now = grind (arith, common_steps) in
    let first : c.append_text.new.out.items ≡ sized c.args.domain.now = c.append_text.ensures.items ∙ ap (λ (xs : List ℕ). xs ++ sized c.args.domain.now) c.clear.ensures in
    let start : c.to_be_bytes.result ≡ to_be_bytes w64 c.args.start = c.to_be_bytes.ensures in
    let count : length c.items-items.result.now ≡ length c.args.entries.now = ap (length {A = Entry}) c.items-items.ensures.all in
    let whole = spelled c.args.domain.now c.args.entries.now c.args.unit c.args.start c.ranges.start.fits in
    cc

pub returns-clause-of_no_other : goal.returns-clause-of_no_other
returns-clause-of_no_other c d es u s same = same_key d c.args.domain.now es c.args.entries.now u c.args.unit s c.args.start (same ∙ returns-clause-bytes c)
