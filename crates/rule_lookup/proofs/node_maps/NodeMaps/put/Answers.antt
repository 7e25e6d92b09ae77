use Rattle.std.proofs.Common.{rules, ◌≡◌, true, List, ℕ, Option, sym, subst}
use Rattle.rule_lookup.specs.declared.node_maps.Wildcard.{Wildcard}
use Rattle.rule_lookup.specs.Rule.{is_wildcard}
use Rattle.rule_lookup.specs.Level.{Puts, among}
use Rattle.rule_lookup.proofs.Puts.{equal_last, wildcard_last, alone_last}
use Rattle.rule_lookup.proofs.node_maps.NodeMaps.put.Goals as goal

pub returns : goal.returns
returns c =
    let star : is_wildcard c.in-Some.value ≡ true = search rules in
    let w : Wildcard = record { entry = record { key = c.args.key; value = c.in-Some.value }; reached = c.args.reached } in
    subst (λ (v : Option (List ℕ)). Puts c.args.key v c.args.reached (among c.args.self.now)
    (among (record { valued = c.args.self.now.valued; wildcards = c.push.new.self; alone = c.args.self.now.alone }))) (sym c.in-Some.is) (record {
      equal = equal_last c.args.self.now c.args.self.now.wildcards.items c.push.new.self.items w star c.in_ok-push.ensures.items;
      wildcard = wildcard_last c.args.self.now c.args.self.now.wildcards.items c.push.new.self.items w star c.in_ok-push.ensures.items;
      alone = λ e. alone_last c.args.self.now c.args.self.now.wildcards.items c.push.new.self.items w star c.in_ok-push.ensures.items e ((among c.args.self.now).alone e);
    })
