use Rattle.std.proofs.Common.{◌∷◌, [], ◌++◌, append_assoc, sym, ap, ◌∙◌}
use Rattle.std.proofs.lemmas.List.{append-nil}
use Rattle.import_text.specs.QuotedPrintable.{quoted_printable}
use Rattle.import_text.proofs.EscapeLemmas.{one_decoded, none_decoded}
use Rattle.import_text.proofs.quoted_printable.read_quoted_printable.Goals as goal

pub loop-octet-preserved : goal.loop-octet-preserved
loop-octet-preserved c =
    ap (λ os. os ++ quoted_printable c.in-Some.tail.now) c.in_ok-push.ensures.items
    ∙ append_assoc c.loop-octet.read.items (c.in-Some.octet ∷ [])
    (quoted_printable c.in-Some.tail.now)
    ∙ ap (λ os. c.loop-octet.read.items ++ os)
    (sym (one_decoded c.loop-octet.rest.now c.in-Some.octet c.in-Some.tail.now
    (sym c.in-Some.ensures)))
    ∙ c.loop-octet.invariant

pub returns : goal.returns
returns c =
    sym (append-nil c.loop-octet.read.items)
    ∙ ap (λ os. c.loop-octet.read.items ++ os)
    (sym (none_decoded c.loop-octet.rest.now (sym c.in_default.ensures)))
    ∙ c.loop-octet.invariant
