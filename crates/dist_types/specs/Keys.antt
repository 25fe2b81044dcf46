-- The order of what ids and addresses show, and what they feed a hash.
use Rattle.std.specs.Prelude.{ℕ, List, ◌++◌, Bool, false, nat_eq, pos}
use Rattle.std.specs.Cmp.Lexicographic.{pointwise, slice_cmp}
use Rattle.std.specs.Hash as fed
use Rattle.std.specs.Ordering.{nat_cmp, ordering_then}
use Rattle.std.specs.declared.cmp.Ordering.{Ordering}
use Rattle.std.specs.declared.cmp.Ordering.TheVariants.{Less, Greater}
use Rattle.dist_types.specs.declared.addr.Addr.{Addr}
use Rattle.dist_types.specs.declared.addr.Addr.TheVariants.{V4, V6}
use Rattle.dist_types.specs.declared.addr.Ip.{Ip}
use Rattle.dist_types.specs.declared.addr.Ip.TheVariants as Ips

-- whether two texts are one
abbrev pub same_text : List ℕ → List ℕ → Bool
same_text a b = pointwise nat_eq a b

-- the order of lists of numbers: the first pair that is not equal decides, and else the lengths do
abbrev pub text_order : List ℕ → List ℕ → Ordering
text_order a b = slice_cmp nat_cmp a b

-- the order of addresses: octets before groups, then number by number, then the port
abbrev pub addr_order : Addr → Addr → Ordering
addr_order (V4 a p) (V4 b q) = ordering_then (text_order a b) (nat_cmp p q)
addr_order (V6 a p) (V6 b q) = ordering_then (text_order a b) (nat_cmp p q)
addr_order (V4 a p) (V6 b q) = Less
addr_order (V6 a p) (V4 b q) = Greater

-- whether two addresses without a port are one
abbrev pub same_ip : Ip → Ip → Bool
same_ip (Ips.V4 a) (Ips.V4 b) = pointwise nat_eq a b
same_ip (Ips.V6 a) (Ips.V6 b) = pointwise nat_eq a b
same_ip (Ips.V4 a) (Ips.V6 b) = false
same_ip (Ips.V6 a) (Ips.V4 b) = false

-- the order of addresses without a port
abbrev pub ip_order : Ip → Ip → Ordering
ip_order (Ips.V4 a) (Ips.V4 b) = text_order a b
ip_order (Ips.V6 a) (Ips.V6 b) = text_order a b
ip_order (Ips.V4 a) (Ips.V6 b) = Less
ip_order (Ips.V6 a) (Ips.V4 b) = Greater

-- what a number feeds a hash
abbrev pub number_writes : ℕ → List (List ℕ)
number_writes n = fed.u64 n

-- what a text feeds a hash: its length, and then each byte
abbrev pub text_writes : List ℕ → List (List ℕ)
text_writes text = fed.slice fed.u8 text

-- what an address feeds a hash: which of the two it is, its numbers and its port
abbrev pub addr_writes : Addr → List (List ℕ)
addr_writes (V4 octets port) = fed.isize (pos 0) ++ fed.slice fed.u8 octets ++ fed.u16 port
addr_writes (V6 groups port) = fed.isize (pos 1) ++ fed.slice fed.u16 groups ++ fed.u16 port

-- what an address without a port feeds a hash
abbrev pub ip_writes : Ip → List (List ℕ)
ip_writes (Ips.V4 octets) = fed.isize (pos 0) ++ fed.slice fed.u8 octets
ip_writes (Ips.V6 groups) = fed.isize (pos 1) ++ fed.slice fed.u16 groups
