-- The error of an order: its exit status and its line.
use Rattle.std.specs.Prelude.{ℕ, List, ◌∷◌, ◌++◌, codes, decimal}
use Rattle.base_types.specs.Octets.{space}
use Rattle.book_http.specs.ServeFaults.{serve_fault_number}
use Rattle.book_model.specs.RefusalNumbers.{refusal_number, refusal_text, book_fault_number}
use Rattle.book_model.specs.RefusalNumbers.{book_fault_text}
use Rattle.book_model.specs.declared.denied.Denied.{Denied}
use Rattle.book_model.specs.declared.denied.Denied.TheVariants.{Refused as WasRefused}
use Rattle.book_model.specs.declared.denied.Denied.TheVariants.{Fault as WasFault}
use Rattle.book_model.specs.declared.denied.Fault.TheVariants.{Memory}
use Rattle.book_http.specs.declared.listen_fault.ListenFault.{ListenFault}
use Rattle.book_http.specs.declared.listen_fault.ListenFault.TheVariants.{Serve as Aborted}
use Rattle.book_http.specs.declared.listen_fault.ListenFault.TheVariants.{Device as ListenerFailed}
use Rattle.hub_server.specs.declared.endpoint_fault.EndpointFault.{EndpointFault}
use Rattle.hub_server.specs.declared.endpoint_fault.EndpointFault.TheVariants as endpoint
use Rattle.cli_orders.specs.declared.stop.Stop.{Stop}
use Rattle.cli_orders.specs.declared.stop.Stop.TheVariants.{Refused, Fault, Open, Serve, Device}
use Rattle.store_schema.specs.OpenFaults.{open_fault_number}

abbrev pub out_of_memory : Stop
out_of_memory = Fault Memory

-- the stop for an error of a store
abbrev pub stop_of : Denied → Stop
stop_of (WasRefused refusal) = Refused refusal
stop_of (WasFault fault) = Fault fault

-- the stop for an error of serving connections together
abbrev pub stop_of_endpoint : EndpointFault → Stop
stop_of_endpoint endpoint.Wait = Device
stop_of_endpoint endpoint.Accept = Device
stop_of_endpoint endpoint.TooManyWaits = Device
stop_of_endpoint endpoint.Memory = out_of_memory

-- the stop for an error of serving connections one after another
abbrev pub stop_of_listening : ListenFault → Stop
stop_of_listening (Aborted fault) = Serve fault
stop_of_listening ListenerFailed = Device

-- the exit status of the program
abbrev pub status_of : Stop → ℕ
status_of (Refused refusal) = 1
status_of (Fault fault) = 3
status_of (Open fault) = 3
status_of (Serve fault) = 3
status_of Device = 3

-- the line on standard error: the kind, the text and the number
abbrev pub stop_line : Stop → List ℕ
stop_line (Refused refusal) =
    codes "refused " ++ (refusal_text refusal ++ space ∷ decimal (refusal_number refusal))
stop_line (Fault fault) =
    codes "fault " ++ (book_fault_text fault ++ space ∷ decimal (book_fault_number fault))
stop_line (Open fault) = codes "fault open " ++ decimal (open_fault_number fault)
stop_line (Serve fault) = codes "fault serve " ++ decimal (serve_fault_number fault)
stop_line Device = codes "fault device 1"
