use Rattle.std.proofs.Common.{◌≡◌, ℕ, ◌-◌, List, Option, length, drop, get_or, map, sym, ap, ◌∙◌, arith}
use Rattle.std.specs.Arc.{arc_value}
use Rattle.std.proofs.lemmas.List.{get_or-replicate, length-replicate, length-map}
use Rattle.descriptor_tree.specs.Trees.{DomainTree}
use Rattle.descriptor_tree.specs.Views.{config_view}
use Rattle.script_run.specs.Versions.{version_in}
use Rattle.script_run.specs.Views.{line_view}
use Rattle.run_audit.specs.VersionAt.{put_at}
use Rattle.run_audit.proofs.VersionsBy.{placed, no_version}
use Rattle.run_audit.proofs.configs.numbered.Goals as goal

pub lines-init : goal.lines-init
lines-init c =
    let first = config_view (arc_value c.args.first.now) in
    record {
      long = ap length c.in_ok-configs.ensures ∙ length-replicate c.args.number first;
      each = λ n h.
          ap (λ (l : List (List DomainTree)). get_or l n first) c.in_ok-configs.ensures ∙ get_or-replicate c.args.number n first first h
          ∙ sym (no_version first n (length c.args.records.now - 0) (map line_view c.args.lines.now) c.args.records.now (omega arith));
    }

pub lines-preserved : goal.lines-preserved
lines-preserved c =
    let first = config_view (arc_value c.args.first.now) in
    let old : List (List DomainTree) = map (λ a. config_view (arc_value a)) c.lines.configs.items in
    let new : List (List DomainTree) = map (λ a. config_view (arc_value a)) c.put.new.configs.items in
    let p = placed first c.args.number c.lines.k (length c.args.records.now - 1 - c.lines.k) c.version_of.result c.args.lines.now c.args.records.now
    c.index-lines-i.result c.index-records-i.result old new (omega arith) c.requires (omega arith) c.index-lines-i.is c.index-records-i.is
    c.version_of.ensures (c.in_ok-put.ensures ∙ ap (λ (o : Option (List DomainTree)). put_at c.version_of.result o old) c.installed_in-config.ensures)
    c.lines.invariant.long c.lines.invariant.each in
    record { long = p.0; each = p.1 }

pub returns : goal.returns
returns c =
    let first = config_view (arc_value c.args.first.now) in
    let none : length c.args.records.now - c.lines.k ≡ 0 = omega arith in
    record {
      len = sym (length-map c.lines.configs.items (λ a. config_view (arc_value a))) ∙ c.lines.invariant.long;
      each = λ n h. c.lines.invariant.each n h
          ∙ ap (λ (j : ℕ). version_in first (drop j (map line_view c.args.lines.now)) (drop j c.args.records.now) n) none;
    }
