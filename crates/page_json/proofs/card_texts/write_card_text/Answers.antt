use Rattle.std.proofs.Common.{ap, ◌∙◌, ◌++◌, flat_map, map, string_bytes}
use Rattle.vcard_lines.specs.Grammar.{line_text}
use Rattle.vcard_lines.specs.Folding.{folded_text}
use Rattle.page_json.proofs.CardTextLemmas.{written_whole}
use Rattle.page_json.proofs.card_texts.write_card_text.Goals as goal

pub returns-clause-text : goal.returns-clause-text
returns-clause-text c =
    written_whole c.args.card.now (string_bytes c.clear.new.self)
    (string_bytes c.write_folded.new.out) (string_bytes c.write_folded-2.new.out)
    (string_bytes c.push_lines.new.text) (string_bytes c.write_folded-3.new.out)
    c.clear.ensures.bytes c.in_ok-write_folded.ensures c.in_ok-write_folded-2.ensures
    (c.in_ok-push_lines.ensures ∙ ap (λ lines. string_bytes c.write_folded-2.new.out
    ++ flat_map folded_text (map line_text lines)) c.lines.ensures.lines)
    c.in_ok-write_folded-3.ensures
