-- The host of a base, as it is dialed.
use Rattle.std.proofs.Common.{◌≡◌, ◌==◌, ℕ, false, List, [], ◌∷◌, length, Option, Some, None, refl, ap, arith}
use Rattle.std.specs.Prelude.{not, unwrap_or, option_map, if◌then◌else◌}
use Rattle.std.proofs.lemmas.Bool.Decides.{nat_tests}
use Rattle.url.specs.Host.{host_text, is_empty_host}
use Rattle.url.specs.Parts.{Parts, host_or_empty, nonempty_host}
use Rattle.url.specs.declared.host.Host.{Host}
use Rattle.url.specs.declared.host.Host.TheVariants.{Domain, Ipv4, Ipv6}

by_host : (host : Option (Host (List ℕ)))
    → unwrap_or (option_map host_text (if not (is_empty_host (unwrap_or host (Domain []))) then host
    else None)) [] ≡ host_text (unwrap_or host (Domain []))
by_host None = refl
by_host (Some (Domain [])) = refl
by_host (Some (Domain (b ∷ bytes))) =
    let some : (length (b ∷ bytes) == 0) ≡ false = grind (arith, nat_tests) in
    ap (λ t. unwrap_or (option_map host_text (if not t then Some (Domain (b ∷ bytes)) else None)) []) some
by_host (Some (Ipv4 address)) = refl
by_host (Some (Ipv6 address)) = refl

pub dialed_host : (base : Parts) → unwrap_or (option_map host_text (nonempty_host base)) [] ≡ host_text
    (host_or_empty base)
dialed_host base = by_host base.host
