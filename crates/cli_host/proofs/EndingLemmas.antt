-- How what was done, or why it stopped, ends the program.
use Rattle.std.proofs.Common.{◌≡◌, ◌⊎◌, ℕ, List, Option, Result, Ok, Err, OnOk, IfErr, inl}
use Rattle.std.proofs.Common.{inr}
use Rattle.book_http.specs.ConnectionModels.{ConnectionModel}
use Rattle.cli_args.specs.declared.order.Order.{Order}
use Rattle.cli_host.specs.Exits.{EndsOrder, ReportsResult}
use Rattle.cli_host.specs.Hosts.{HostCall, LogsCalls}
use Rattle.cli_host.specs.OrdersOnHost.{KeepsOrderOutput, RunsOnHost, StopsOnHost}
use Rattle.cli_host.specs.declared.exit.ProgramExit.{ProgramExit}
use Rattle.cli_orders.specs.declared.stop.Stop.{Stop}
use Rattle.cli_orders.specs.declared.stop.Stop.TheVariants.{Device}
use Rattle.hub_server.specs.EndpointRuns.{EndpointRelation}
use Rattle.sync_core.specs.StoreModels.{StoreModel}
use Rattle.http_fronts.specs.Fronts.{FrontRelation}

module _ {S P L Connection H : Type 0} (model : StoreModel S) (front : FrontRelation) (effects :
    EndpointRelation P) (stream : ConnectionModel Connection) (coming : L
    → Option (List (Option Connection))) (calls : HostCall S P L → H → H → Type 0) where
  pub ran_ends : (r : Result (Unit {0}) Stop) (old new : H) (order : Order)
      (before after errors_before errors_after : Option (List ℕ)) (Flushed : Type 0)
      (exit : ProgramExit)
      → OnOk r (LogsCalls calls old new (RunsOnHost model front effects stream coming order before
      after)) → IfErr r (λ stop. LogsCalls calls old new (StopsOnHost model front effects stream
      coming order stop before after))
      → IfErr r (λ stop. KeepsOrderOutput order stop before after)
      → IfErr r (λ stop. (stop ≡ Device) ⊎ Flushed)
      → ReportsResult r errors_before errors_after exit
      → LogsCalls calls old new (EndsOrder model front effects stream coming order before after
      errors_before errors_after Flushed exit)
  ran_ends (Ok done) old new order before after errors_before errors_after Flushed exit runs
      stops output_kept left e = record {
        log = runs.log;
        made = runs.made;
        holds = inl (record { runs = runs.holds; succeeds = e });
      }
  ran_ends (Err stop) old new order before after errors_before errors_after Flushed exit runs
      stops output_kept left e = record {
        log = stops.log;
        made = stops.made;
        holds = inr (record {
          stop = stop;
          left = left;
          stops = stops.holds;
          output_kept = output_kept;
          reports_stop = e;
        });
      }
