use Rattle.std.proofs.Common.{◌∙◌, sym, length}
use Rattle.std.proofs.lemmas.List.Elements.{All-get_or}
use Rattle.httparse.specs.Spans.{header_bytes, IsHeaderWithin}
use Rattle.http_requests.specs.Fields.{field_is_named}
use Rattle.http_requests.proofs.FieldLemmas.{find_yes, find_no, blank_field}
use Rattle.http_requests.proofs.fields.first_field_named.Goals as goal

pub returns-then-field_is_named : goal.returns-then-field_is_named
returns-then-field_is_named c = (
  find_yes (field_is_named c.args.name.now) (header_bytes c.args.text.now) c.args.fields.now
      c.loop-i.i blank_field c.loop-i-test.true c.loop-i.invariant (sym c.field_is_named.ensures
      ∙ c.if-field_is_named.true),
  All-get_or (IsHeaderWithin (length c.args.text.now)) c.args.fields.now c.loop-i.i blank_field
      c.loop-i-test.true c.requires,
)

pub loop-i-preserved : goal.loop-i-preserved
loop-i-preserved c =
    find_no (field_is_named c.args.name.now) (header_bytes c.args.text.now) c.args.fields.now
    c.loop-i.i blank_field c.loop-i-test.true c.loop-i.invariant (sym c.field_is_named.ensures
    ∙ c.if-field_is_named.false)
