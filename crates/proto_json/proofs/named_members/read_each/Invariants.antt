use Rattle.std.proofs.Common.{◌≡◌}
use Rattle.proto_json.specs.NamedMembers.{named}
use Rattle.proto_json.proofs.NamedMembers.{ReadSoFar}
use Rattle.proto_json.proofs.named_members.read_each.Given as goal

abbrev pub invariant-members : goal.invariant-members
invariant-members g l =
    ReadSoFar (named g.M.Kind.Kind.says g.M.NamedMember.made) l.fn.place l.fn.members.entries l.name-iterator l.found.items
    × (l.place ≡ l.fn.place)
