use Rattle.std.proofs.Common.{◌≡◌, ◌++◌, ℕ, List, String, map, string_bytes, ap, sym, ◌∙◌, append_assoc}
use Rattle.std.specs.declared.alloc.Global.{Global}
use Rattle.run_lines.specs.RunLines.{record_line, total_line, text_line, other_lines, woven}
use Rattle.run_lines.proofs.Weaving.{woven_all}
use Rattle.run_lines.proofs.run_lines.RunLines.make.Goals as goal

pub returns : goal.returns
returns c =
    let totals : List (List ℕ) = map total_line c.args.totals.now in
    let texts : List (List ℕ) = map text_line (map (λ (t : String Global). string_bytes t) c.args.texts.items) in
    let others : map (λ t. string_bytes t) c.push_others.new.made.items ≡ other_lines c.args.records =
    c.in_ok-push_others.ensures ∙ ap (λ (ts : List (String Global)). map (λ t. string_bytes t) ts ++ other_lines c.args.records) c.new-made.ensures.items in
    ap (woven c.args.records) (c.in_ok-push_texts.ensures ∙ ap (λ ls. ls ++ texts) (c.in_ok-push_totals.ensures ∙ ap (λ ls. ls ++ totals) others)
    ∙ append_assoc (other_lines c.args.records) totals texts)
    ∙ woven_all c.args.records (totals ++ texts)
    ∙ sym (append_assoc (map record_line c.args.records) totals texts)
