use Rattle.std.proofs.Common.{◌≡◌, drop}
use Rattle.std.specs.List.{list_all}
use Rattle.book_model.specs.BookNames.{is_octet_of_name}
use Rattle.book_model.proofs.decisions.creating.is_book_name.Given as goal

-- what is left decides
abbrev pub invariant-loop-octet : goal.invariant-loop-octet
invariant-loop-octet l = list_all is_octet_of_name (drop l.octet-index l.octets)
    ≡ list_all is_octet_of_name l.octets
