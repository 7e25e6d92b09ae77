use Rattle.std.proofs.Common.{ℕ, List, ◌≡◌, ◌++◌, length, ◌∙◌, ap}
use Rattle.std.specs.Int.{w16, to_be_bytes}
use Rattle.window_keys.proofs.Keys.{sized_behind}
use Rattle.window_keys.proofs.key.append_text.Goals as goal

pub returns-clause-items : goal.returns-clause-items
returns-clause-items c =
    let bytes : c.as_bytes-bytes.result.now ≡ c.args.text.now = c.as_bytes-bytes.ensures.value ∙ c.as_str.ensures.bytes in
    let two : c.append.new.out.items ≡ c.args.out.now.items ++ to_be_bytes w16 (length c.args.text.now) =
    c.append.ensures ∙ ap (λ (xs : List ℕ). c.args.out.now.items ++ xs) (c.to_be_bytes.ensures ∙ ap (λ (xs : List ℕ). to_be_bytes w16 (length xs)) bytes) in
    c.append-2.ensures ∙ ap (λ (xs : List ℕ). c.append.new.out.items ++ xs) bytes ∙ ap (λ (xs : List ℕ). xs ++ c.args.text.now) two
    ∙ sized_behind c.args.out.now.items c.args.text.now c.as_str.ensures.bound
