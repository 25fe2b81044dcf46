-- An address of the system, as messages have it.
use Rattle.std.specs.Prelude.{ℕ}
use Rattle.std.specs.Net.Addr.{ipv4_octets, ipv6_segments}
use Rattle.std.specs.Net.Socket.{socket_ip, socket_port}
use Rattle.std.specs.declared.net.ip_addr.IpAddr.{IpAddr}
use Rattle.std.specs.declared.net.ip_addr.IpAddr.TheVariants as ip
use Rattle.std.specs.declared.net.socket_addr.SocketAddr.{SocketAddr}
use Rattle.dist_types.specs.declared.addr.Addr.{Addr}
use Rattle.dist_types.specs.declared.addr.Addr.TheVariants.{V4, V6}

-- the address of that IP and port
abbrev pub addr_at : IpAddr → ℕ → Addr
addr_at (ip.V4 a) port = V4 (ipv4_octets a) port
addr_at (ip.V6 a) port = V6 (ipv6_segments a) port

-- its IP and its port alone: no flow label, no scope
abbrev pub addr_of : SocketAddr → Addr
addr_of socket = addr_at (socket_ip socket) (socket_port socket)
