-- A token's parts, as definitions see them.
use Rattle.dist_token.specs.Verdict.{Parts}
use Rattle.dist_token.specs.declared.parts.TokenParts.{TokenParts}

-- the parts, without where they stand
abbrev pub parts_view : TokenParts → Parts
parts_view p = record { header = p.header.now; claims = p.claims.now; mac = p.mac.now }
