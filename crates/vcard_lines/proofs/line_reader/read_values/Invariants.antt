use Rattle.std.proofs.Common.{◌≡◌, length, IsUtf8}
use Rattle.vcard_lines.specs.ParseSteps.{parse_many}
use Rattle.vcard_lines.specs.Parsing.{parse_param_value, parse_values}
use Rattle.vcard_lines.proofs.Readers.{after_items}
use Rattle.vcard_lines.proofs.line_reader.read_values.Given as goal

-- the values so far, and those of what is left, are all of the text
abbrev pub invariant-loop-more : goal.invariant-loop-more
invariant-loop-more l = record {
  utf8 : IsUtf8 l.rest;
  whole : after_items l.values (parse_many 44 parse_param_value (length l.rest) l.rest)
      ≡ parse_values l.text;
}

abbrev pub decreases-loop-more : goal.decreases-loop-more
decreases-loop-more l = length l.rest
