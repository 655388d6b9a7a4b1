use Rattle.vcard_lines.proofs.FrontLemmas.{boundary_after_octet}
use Rattle.vcard_lines.proofs.line_reader.strip_byte.Goals as goal

pub range_from-requires : goal.range_from-requires
range_from-requires c _ =
    boundary_after_octet c.args.text.now c.as_bytes.result.now c.args.octet c.first.result
    c.in-Some.first c.utf8.text
    c.requires c.as_bytes.ensures.value c.first.ensures.value c.in-Some.is c.if-first-octet.true
