use Rattle.std.proofs.Common.{◌≡◌, ◌++◌, ◌∷◌, [], ℕ, List, String, map, take, string_bytes, sym, ap, ◌∙◌, arith, rules}
use Rattle.std.proofs.lemmas.List.{take_more, map-append}
use Rattle.std.specs.declared.alloc.Global.{Global}
use Rattle.cli_serve.specs.Served.{end_lines}
use Rattle.cli_serve.proofs.Serving.{end_lines_push, length_front}
use Rattle.cli_serve.proofs.lines.end_texts.Goals as goal

abbrev texts_of : List (String Global) → List (List ℕ)
texts_of ts = map (λ t. string_bytes t) ts

pub ends-preserved : goal.ends-preserved
ends-preserved c =
    let i = c.ends.invariant in
    let ends = c.args.ends.now in
    let k = c.ends.link_end-index in
    let text = c.in_ok-text.text in
    let pushed : c.push.new.self.items ≡ c.ends.lines.items ++ text ∷ [] = search rules in
    let len = length_front k ends (omega arith) in
    record {
      texts = ap texts_of pushed ∙ map-append (λ (t : String Global). string_bytes t) c.ends.lines.items (text ∷ []) ∙ ap (λ l. l ++ string_bytes text ∷ []) i.texts
          ∙ ap (λ b. end_lines 0 (take k ends) ++ b ∷ []) c.in_ok-text.ensures
          ∙ sym (end_lines_push 0 (take k ends) _ c.ends.number (let n = i.number in omega arith)) ∙ ap (end_lines 0) (sym (take_more ends k _ (omega arith)));
      number = search rules;
    }
