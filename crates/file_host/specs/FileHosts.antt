-- What is known of the host that the program runs on.
use Rattle.std.specs.Prelude.{⊤, List, [], ◌∷◌}
use Rattle.std.specs.declared.net.ip_addr.IpAddr.{IpAddr}
use Rattle.std.specs.declared.net.ip_addr.IpAddr.TheVariants.{V4}
use Rattle.cli_host.specs.Hosts.{HostCall}
use Rattle.cli_orders.specs.declared.stop.Stop.{Stop}
use Rattle.cli_orders.specs.declared.stop.Stop.TheVariants.{Device}
use Rattle.cli_orders.specs.Stops.{out_of_memory}
use Rattle.socket_endpoint.specs.declared.bind_fault.BindFault.{BindFault}
use Rattle.socket_endpoint.specs.declared.bind_fault.BindFault.TheVariants as bind

-- of some log of calls, this holds
pub record HasLog {S P L : Type 0} (Holds : List (HostCall S P L) → Type 0) : Type 0 where
  pub log : List (HostCall S P L)
  pub holds : Holds log

-- nothing is known of a call
abbrev pub IsAnyCall : {S P L Host : Type 0} → HostCall S P L → Host → Host → Type 0
IsAnyCall call old new = ⊤

-- 127.0.0.1, which only programs of the host can connect to
abbrev pub loopback_ip : IpAddr
loopback_ip = V4 (record { octets = 127 ∷ 0 ∷ 0 ∷ 1 ∷ [] })

-- the stop for an endpoint that couldn't be bound
abbrev pub stop_of_binding : BindFault → Stop
stop_of_binding bind.Memory = out_of_memory
stop_of_binding bind.Device = Device
