use Rattle.std.proofs.Common.{◌≡◌, List, Option, IfSome, Ok, subst}
use Rattle.vcard_lines.specs.declared.line.Line.{Line}
use Rattle.vcard_text.specs.declared.scan.Place.{Place}
use Rattle.vcard_text.specs.Scanning.{scan_at, scan_logical_line}
use Rattle.vcard_text.proofs.scan.Scan.scan_line.Goals as goal

pub returns-in-Some : goal.returns-in-Some
returns-in-Some c =
    let s = c.args.self.now in
    subst (λ (r : Option Place). IfSome r (λ next. (lines : List Line)
    → scan_logical_line (scan_at s.place lines) c.args.text.now ≡ Ok (scan_at next lines)))
    c.in-Some.is c.place_after_usual.ensures s.lines
