use Rattle.std.proofs.Common.{◌≡◌, sym, subst}
use Rattle.contact_csv.proofs.KeepLemmas.{line_stays}
use Rattle.vcard_text.specs.Making.{upper_line}
use Rattle.contact_csv.proofs.keeping.extension_line.Goals as goal

pub returns-clause-upper : goal.returns-clause-upper
returns-clause-upper c = subst (λ l. upper_line l ≡ l) (sym c.with_upper_name.ensures)
    (line_stays c.in_ok-plain_line.field-0)
