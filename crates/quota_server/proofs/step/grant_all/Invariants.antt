use Rattle.std.proofs.Common.{◌≡◌, ◌++◌, drop, string_bytes}
use Rattle.std.specs.List.{flat_map}
use Rattle.quota_server.specs.Servers.{AllFit}
use Rattle.quota_server.specs.Outcomes.{after_grants, actions_for}
use Rattle.quota_server.specs.Texts.{next_action}
use Rattle.quota_server.proofs.step.grant_all.Given as goal

abbrev pub invariant-rest : goal.invariant-rest
invariant-rest l = record {
  server : after_grants l.client (drop l.bucket-index l.rest) l.server ≡ after_grants l.client l.rest l.initial.server;
  written : string_bytes l.out ++ flat_map next_action (actions_for l.client (drop l.bucket-index l.rest) l.server)
      ≡ string_bytes l.initial.out ++ flat_map next_action (actions_for l.client l.rest l.initial.server);
  fit : AllFit l.server;
}
