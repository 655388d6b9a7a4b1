use Rattle.std.proofs.Common.{◌≡◌, drop}
use Rattle.std.specs.List.{list_all}
use Rattle.book_model.specs.Importing.{is_key_octet}
use Rattle.book_model.proofs.decisions.importing.is_import_key.Given as goal

-- what is left decides
abbrev pub invariant-loop-octet : goal.invariant-loop-octet
invariant-loop-octet l = list_all is_key_octet (drop l.octet-index l.octets) ≡ list_all is_key_octet
    l.octets
