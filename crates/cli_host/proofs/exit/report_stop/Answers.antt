use Rattle.std.proofs.Common.{◌≡◌, ◌∷◌, ◌++◌, [], sym, subst, refl, inr, ◌∙◌, ap, arith}
use Rattle.std.specs.Fmt.{decimal}
use Rattle.std.specs.Prelude.{codes, OnOk}
use Rattle.std.specs.Io.KnownBytes.{Appends}
use Rattle.std.proofs.lemmas.Fmt.{decimal_step, decimal_digit}
use Rattle.book_http.specs.Streams.{WritesPrefix}
use Rattle.cli_orders.specs.Stops.{out_of_memory, status_of}
use Rattle.cli_host.proofs.exit.report_stop.Goals as goal

twenty : decimal 20 ≡ 50 ∷ 48 ∷ []
twenty = decimal_step 20 (omega arith) (omega arith)
    ∙ ap (λ ds. ds ++ 48 ∷ []) (decimal_digit 2 (omega arith))

-- the report where there is no memory for the line
pub returns-in-Err-clause-reports : goal.returns-in-Err-clause-reports
returns-in-Err-clause-reports g c = record {
  printed_stop = out_of_memory;
  agrees = inr refl;
  reports = record {
    whole = subst (λ digits. OnOk c.write_out-in-Err.result
        (Appends (g.E.Write.contents c.args.errors.now)
        (g.E.Write.contents c.write_out-in-Err.new.writer) (codes "fault no-memory "
        ++ (digits ++ 10 ∷ [])))) (sym twenty) c.write_out-in-Err.ensures.written;
    front = subst (λ digits. WritesPrefix (codes "fault no-memory " ++ (digits ++ 10 ∷ []))
        (g.E.Write.contents c.args.errors.now) (g.E.Write.contents c.write_out-in-Err.new.writer))
        (sym twenty) c.write_out-in-Err.ensures.prefix;
  };
  status_is = c.status-in-Err.ensures ∙ ap status_of c.out_of_memory.ensures;
}
