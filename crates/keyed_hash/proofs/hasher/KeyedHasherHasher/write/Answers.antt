use Rattle.std.proofs.Common.{◌≡◌, ◌∙◌, ℕ, suc, ◌+◌, ◌-◌, ◌*◌, ◌/◌, length, refl, ap, arith}
use Rattle.std.specs.List.{fold}
use borrow.Author.Tests.{lt-ltb, le-ltb}
use Rattle.std.proofs.lemmas.List.{take_all}
use Rattle.keyed_hash.specs.KeyedHash.{mixed, after_words, written}
use Rattle.keyed_hash.proofs.hasher.KeyedHasherHasher.write.Goals as goal

pub returns-then-len-lt8 : goal.returns-then-len-lt8
unfolding written
returns-then-len-lt8 c =
    let n : ℕ = length c.args.bytes.now in
    rw (lt-ltb n 8 c.if-len-lt8.true)
    (c.bytes.invariant ∙ ap (fold mixed c.args.self.now) (take_all c.bytes.byte-index c.args.bytes.now (omega (arith, c.bytes-test.false))))

pub words-init : goal.words-init
unfolding after_words
words-init c = record { whole = refl; within = omega arith; after = refl }

pub words-preserved : goal.words-preserved
unfolding after_words
words-preserved c =
    let at : ℕ = c.words.at in
    let whole : at ≡ 8 * (at / 8) = omega (arith, c.words.invariant.whole) in
    let more : (at + 8) / 8 ≡ suc (at / 8) = omega arith in
    record {
      whole = omega (arith, c.words.invariant.whole);
      within = omega arith;
      after = rw (more, c.mix-in-words.ensures, c.word_at.ensures, ← c.words.invariant.after, ← whole);
    }

pub returns : goal.returns
unfolding written
returns c =
    let n : ℕ = length c.args.bytes.now in
    let count : (n - 1) / 8 ≡ c.words.at / 8 = omega (arith, c.words.invariant.whole, c.words.invariant.within, c.words-test.false) in
    rw (le-ltb n 8 c.if-len-lt8.false, count, ← c.words.invariant.after, c.mix-2.ensures, c.word_at-2.ensures)
