-- What the program reports on standard error, and its exit status.
use Rattle.std.specs.Prelude.{ℕ, ◌≡◌, ◌⊎◌, ◌∷◌, ◌++◌, [], List, Option, Result, Ok, Err, OnOk}
use Rattle.std.specs.Io.KnownBytes.{Appends, Keeps}
use Rattle.base_types.specs.Octets.{line_feed}
use Rattle.cli_args.specs.declared.order.Order.{Order}
use Rattle.cli_orders.specs.TryOutputs.{KeepsTryOutput, PrintsTryResult}
use Rattle.cli_orders.specs.TryStops.{IsTryStop}
use Rattle.cli_orders.specs.declared.stop.Stop.{Stop}
use Rattle.cli_orders.specs.declared.stop.Stop.TheVariants.{Device}
use Rattle.cli_orders.specs.Stops.{out_of_memory, status_of, stop_line}
use Rattle.book_http.specs.ConnectionModels.{ConnectionModel}
use Rattle.book_http.specs.Streams.{WritesPrefix}
use Rattle.hub_server.specs.EndpointRuns.{EndpointRelation}
use Rattle.cli_host.specs.Hosts.{HostCall}
use Rattle.cli_host.specs.OrdersOnHost.{KeepsOrderOutput, RunsOnHost, StopsOnHost}
use Rattle.cli_host.specs.declared.exit.ProgramExit.{ProgramExit}
use Rattle.sync_core.specs.StoreModels.{StoreModel}
use Rattle.http_fronts.specs.Fronts.{FrontRelation}

-- a line with its line feed
abbrev pub with_line_feed : List ℕ → List ℕ
with_line_feed line = line ++ line_feed ∷ []

-- the text was written to standard error, or a prefix of it if standard error failed
pub record ReportsText
    (text : List ℕ) (errors_before errors_after : Option (List ℕ)) (exit : ProgramExit)
    : Type 0 where
  pub whole : OnOk exit.reported (Appends errors_before errors_after text)
  pub front : WritesPrefix text errors_before errors_after

-- The line of the stop was reported, and the status is the stop's. Without memory for the line,
-- that is reported instead.
pub record ReportsStop
    (stop : Stop) (errors_before errors_after : Option (List ℕ)) (exit : ProgramExit)
    : Type 0 where
  pub printed_stop : Stop
  pub agrees : (printed_stop ≡ stop) ⊎ (printed_stop ≡ out_of_memory)
  pub reports : ReportsText (with_line_feed (stop_line printed_stop))
      errors_before errors_after exit
  pub status_is : exit.status ≡ status_of printed_stop

-- nothing was reported, and the status is 0
pub record Succeeds (errors_before errors_after : Option (List ℕ)) (exit : ProgramExit)
    : Type 0 where
  pub silent : Keeps errors_before errors_after
  pub unfailed : exit.reported ≡ Ok tt
  pub status_is : exit.status ≡ 0

-- success, or the stop was reported
abbrev pub ReportsResult : Result (Unit {0}) Stop → Option (List ℕ) → Option (List ℕ)
    → ProgramExit → Type 0
ReportsResult (Ok done) errors_before errors_after exit = Succeeds errors_before errors_after exit
ReportsResult (Err stop) errors_before errors_after exit =
    ReportsStop stop errors_before errors_after exit

-- the text for invalid arguments or for help was reported, and the status is 2
pub record ReportsBadArguments
    (text : List ℕ) (errors_before errors_after : Option (List ℕ)) (exit : ProgramExit)
    : Type 0 where
  pub reports : ReportsText text errors_before errors_after exit
  pub status_is : exit.status ≡ 2

-- `try` succeeded: the output for the input was printed, and nothing was reported
pub record IsTryDone (input : List ℕ) (before after : Option (List ℕ))
    (errors_before errors_after : Option (List ℕ)) (exit : ProgramExit) : Type 0 where
  pub printed : PrintsTryResult input before after
  pub succeeds : Succeeds errors_before errors_after exit

-- `try` stopped, because of the input, or because memory ran out or a device failed. Unless a
-- device failed, this holds of what was printed: that it was flushed.
pub record IsTryStopped (input : List ℕ) (before after : Option (List ℕ))
    (errors_before errors_after : Option (List ℕ)) (Flushed : Type 0) (exit : ProgramExit)
    : Type 0 where
  pub stop : Stop
  pub left : (stop ≡ Device) ⊎ Flushed
  pub agrees : IsTryStop input stop
  pub output_kept : KeepsTryOutput stop input before after
  pub reports_stop : ReportsStop stop errors_before errors_after exit

-- A store is represented by its books, a front by what it answers, an endpoint by the effects of
-- its calls, a connection by its octets, and a listener by the connections that arrive at it.
module _ {S P L Connection : Type 0} (model : StoreModel S) (front : FrontRelation)
    (effects : EndpointRelation P) (stream : ConnectionModel Connection)
    (coming : L → Option (List (Option Connection))) where
  -- the order succeeded with this log of calls: its output was printed, and nothing was reported
  pub record IsOrderDone (order : Order) (before after : Option (List ℕ))
      (errors_before errors_after : Option (List ℕ)) (exit : ProgramExit)
      (log : List (HostCall S P L)) : Type 0 where
    pub runs : RunsOnHost model front effects stream coming order before after log
    pub succeeds : Succeeds errors_before errors_after exit

  -- The order stopped with this log of calls, and the stop was reported. Unless a device failed,
  -- this holds of what was printed: that it was flushed.
  pub record IsOrderStopped (order : Order) (before after : Option (List ℕ))
      (errors_before errors_after : Option (List ℕ)) (Flushed : Type 0) (exit : ProgramExit)
      (log : List (HostCall S P L)) : Type 0 where
    pub stop : Stop
    pub left : (stop ≡ Device) ⊎ Flushed
    pub stops : StopsOnHost model front effects stream coming order stop before after log
    pub output_kept : KeepsOrderOutput order stop before after
    pub reports_stop : ReportsStop stop errors_before errors_after exit

  -- either
  abbrev pub EndsOrder : Order → Option (List ℕ) → Option (List ℕ) → Option (List ℕ)
      → Option (List ℕ) → Type 0 → ProgramExit → List (HostCall S P L) → Type 0
  EndsOrder order before after errors_before errors_after Flushed exit log =
      IsOrderDone order before after errors_before errors_after exit log
      ⊎ IsOrderStopped order before after errors_before errors_after Flushed exit log
