-- Inside: what a token of the list of claims shows of a pass.
use Rattle.told_list.specs.declared.rule.TokenView.{TokenView}
use Rattle.told_list.specs.declared.seen.Seen.{Seen}
use Rattle.told_list.specs.Tokens as token
use Rattle.counter_directory.specs.declared.claim.Claim.{Claim}
use Rattle.counter_directory.specs.Passes.{KnownClaims, DirectoryPassView}

-- what it knows of the claims
abbrev pub claims_shown : TokenView Claim → KnownClaims
claims_shown v = record { known = v.known; turns = v.turns; own = v.own }

-- the pass of a token
abbrev pub pass_of : {K : Type 0} → Seen K Claim → DirectoryPassView
pass_of seen = record { list_id = token.list_of seen; claims = claims_shown (token.view seen) }
