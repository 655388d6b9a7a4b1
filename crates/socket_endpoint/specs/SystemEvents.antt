-- What each call of the endpoint over the sockets of the system does: what the endpoint over any
-- system of sockets does, over one of whose calls nothing is known.
use Rattle.std.specs.Prelude.{None}
use Rattle.hub_server.specs.Endpoints.{EndpointEvent}
use Rattle.socket_endpoint.specs.SocketCalls.{SocketLog}
use Rattle.socket_endpoint.specs.SocketEvents.{DoesAtSockets, Finishes}
use Rattle.socket_endpoint.specs.declared.endpoint.EndpointOver.{EndpointOver}
use Rattle.socket_endpoint.specs.declared.streams.Listener.{Listener}
use Rattle.socket_endpoint.specs.declared.streams.Stream.{Stream}
use Rattle.socket_endpoint.specs.declared.system.SystemSockets.{SystemSockets}
use Rattle.socket_endpoint.specs.declared.system_endpoint.SocketEndpoint.{SocketEndpoint}

-- the calls that were made of the system aren't known
abbrev pub system_log : SystemSockets → SocketLog Listener Stream
system_log system = None

-- the endpoint, as one over any system of sockets
abbrev pub endpoint_over : SocketEndpoint → EndpointOver SystemSockets Listener Stream
endpoint_over endpoint = endpoint.over

-- what a call does
pub record DoesAtSystem (old : SocketEndpoint) (event : EndpointEvent) (new : SocketEndpoint)
    : Type 0 where
  pub does : DoesAtSockets system_log (endpoint_over old) event (endpoint_over new)

-- Its end: every socket that is open is closed, and then those that linger are waited for. Since no
-- call of the system is known and nothing is returned, this is true whatever is done.
pub record FinishesAtSystem (endpoint : SocketEndpoint) : Type 0 where
  pub system : SystemSockets
  pub finishes : Finishes system_log (endpoint_over endpoint) system
