use Rattle.contact_csv.specs.Carrying.{starred_part}
use Rattle.contact_csv.proofs.ResultLemmas.{ok_then}
use Rattle.contact_csv.proofs.carried.holds_part.Goals as goal

pub returns-in-Some : goal.returns-in-Some
returns-in-Some c = ok_then c.holds_text-in-Some.result (λ holds held e. starred_part
    c.in-Some.text.now c.in-Some.ensures (held e)) c.holds_text-in-Some.ensures
