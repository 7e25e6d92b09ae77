use Rattle.std.proofs.Common.{◌<◌, ◌++◌, ◌∷◌, [], ℕ, List, length, drop, get_or, refl, sym, ap, subst, ◌∙◌, append_assoc, ◌+◌, arith}
use Rattle.std.proofs.lemmas.List.{get_or-set_other, length-set}
use Rattle.std.proofs.lemmas.Option.{slice_get-get_or}
use Rattle.quota_stream.specs.Tasks.{Task, Stands, output_text, texts_from}
use Rattle.quota_stream.proofs.Working.{fault_of_one, short_more, texts_at}
use Rattle.quota_stream.proofs.workers.answers_of.Goals as goal

pub streams-init : goal.streams-init
streams-init c = record {
  texts = rw c.new-words.ensures.items refl;
  short = λ k d lt. absurd (omega (arith, lt));
  stand = λ k bytes task le lt. c.requires.each k bytes task lt;
  one_each = c.requires.one_each;
}

pub returns-in-Err-clause-fault : goal.returns-in-Err-clause-fault
returns-in-Err-clause-fault c =
    let i = c.streams.index in
    let bytes = get_or c.args.streams.now i [] in
    let within : i < length c.args.streams.now = omega arith in
    let stands : Stands (output_text c.args.settings.now i bytes) bytes (get_or c.streams.tasks i c.index-tasks-index.result) =
    c.streams.invariant.stand i [] c.index-tasks-index.result (omega arith) within in
    fault_of_one c.args.streams.now i bytes c.in-Err.fault c.streams.invariant.short (slice_get-get_or c.args.streams.now i [] within)
    (c.in-Err.ensures (output_text c.args.settings.now i bytes) bytes stands)

pub streams-preserved : goal.streams-preserved
streams-preserved c =
    let i = c.streams.index in
    let bytes = get_or c.args.streams.now i [] in
    let within : i < length c.args.streams.now = omega arith in
    let stands : Stands (output_text c.args.settings.now i bytes) bytes (get_or c.streams.tasks i c.index-tasks-index.result) =
    c.streams.invariant.stand i [] c.index-tasks-index.result (omega arith) within in
    let answer = c.in-Ok.ensures (output_text c.args.settings.now i bytes) bytes stands in
    let rest = texts_from c.args.settings.now (i + 1) (drop (i + 1) c.args.streams.now) in
    record {
      texts = ap (λ (x : List (List ℕ)). x ++ rest) c.in_ok-push_word.ensures.added ∙ append_assoc c.streams.words.items (c.in-Ok.word ∷ []) rest
          ∙ ap (λ (x : List ℕ). c.streams.words.items ++ x ∷ rest) answer.0
          ∙ sym (ap (λ (x : List (List ℕ)). c.streams.words.items ++ x) (texts_at c.args.settings.now c.args.streams.now i [] within))
          ∙ c.streams.invariant.texts;
      short = short_more c.args.streams.now i within c.streams.invariant.short answer.1;
      stand = λ k b t le lt. subst (λ (x : Task). Stands (output_text c.args.settings.now k (get_or c.args.streams.now k b)) (get_or c.args.streams.now k b) x)
          (sym (get_or-set_other c.streams.tasks i k c.finish.new.self t (λ e. omega (arith, le, e)))) (c.streams.invariant.stand k b t (omega (arith, le)) lt);
      one_each = length-set c.streams.tasks i c.finish.new.self ∙ c.streams.invariant.one_each;
    }
