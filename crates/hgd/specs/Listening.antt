-- Where a server listens.
use Rattle.std.specs.Prelude.{◌≡◌, ℕ, ◌∷◌, []}
use Rattle.std.specs.declared.net.ip_addr.IpAddr.TheVariants as ip_address
use Rattle.std.specs.declared.net.ipv4_addr.Ipv4Addr.{Ipv4Addr}
use Rattle.std.specs.declared.net.socket_addr.SocketAddr.{SocketAddr}
use Rattle.std.specs.Net.Addr.{ipv4_octets}
use Rattle.std.specs.Net.Socket.{socket_ip, IsPlainSocket}

-- the address is this port of 127.0.0.1
abbrev pub IsOfLoopback : ℕ → SocketAddr → Type 0
IsOfLoopback port address = (ip : Ipv4Addr) × (socket_ip address ≡ ip_address.V4 ip) × (ipv4_octets ip ≡ 127 ∷ 0 ∷ 0 ∷ 1 ∷ []) × IsPlainSocket address port
