use Rattle.std.proofs.Common.{sym, refl, inr, ◌∙◌}
use Rattle.csv.specs.Reading.{Reached, strip_bom}
use Rattle.cli_orders.proofs.card_rows.reader_of.Goals as goal

pub returns : goal.returns
unfolding Reached
returns c =
    let made = c.from_reader.ensures in
    let headers = c.has_headers.ensures in
    let flexible = c.flexible.ensures in
    record {
      plain = rw (flexible, headers) at made.trim ∙ c.new.ensures.trim;
      ready = inr (inr (rw (flexible, headers) at made.has_headers, made.headers));
      config = rw (flexible, headers) at made.config ∙ c.new.ensures.config;
      flexible = rw flexible at made.flexible;
      rest = strip_bom c.args.text.now;
      source = made.source;
      reached = (sym made.state, refl);
    }
