use Rattle.std.proofs.Common.{◌≡◌, ◌++◌, flat_map, chars, ap, sym, subst, ◌∙◌}
use Rattle.std.specs.Str.{encode_utf8_all}
use Rattle.std.proofs.lemmas.Str.{Chars-Drains, encodes-chars}
use Rattle.vcard_lines.specs.TextValues.{written_chars, text_char_of, unescaped_text}
use Rattle.vcard_lines.specs.TextValues.{IsFullyEscaped}
use Rattle.vcard_lines.proofs.TextValueLemmas.{one_more_written, unescape_escaped, escaped_guarded}
use Rattle.vcard_lines.proofs.text_value.escape.Goals as goal

pub loop-c-preserved : goal.loop-c-preserved
loop-c-preserved c = record {
  can = tt;
  ends = tt;
  so_far = c.in_ok-push_escaped.ensures
      ∙ ap (λ octets. octets ++ encode_utf8_all (written_chars (text_char_of c.in-Some.c)))
      c.loop-c.invariant.so_far ∙ one_more_written c.loop-c.yielded c.in-Some.c;
}

pub returns-clause-value : goal.returns-clause-value
returns-clause-value c =
    let all : c.loop-c.yielded ≡ chars c.args.text.now =
    Chars-Drains (chars c.args.text.now) c.loop-c.yielded c.into_iter-c-iterator.result
    (encodes-chars c.args.text.now c.utf8.text ∙ sym c.chars-c-items.ensures.rest
    ∙ ap (λ s. s.rest.now) (sym c.into_iter-c-iterator.ensures.into_iter_gives))
    (c.next.new.self, (c.loop-c.c-iterator, c.loop-c.yielded_by, c.in-None.ensures.steps)) in
    c.loop-c.invariant.so_far
    ∙ ap (λ cs. encode_utf8_all (flat_map (λ d. written_chars (text_char_of d)) cs)) all

pub returns-clause-round_trip : goal.returns-clause-round_trip
returns-clause-round_trip c = ap unescaped_text (returns-clause-value c)
    ∙ unescape_escaped c.args.text.now c.utf8.text

pub returns-clause-delimiters_escaped : goal.returns-clause-delimiters_escaped
returns-clause-delimiters_escaped c =
    subst IsFullyEscaped (sym (returns-clause-value c)) (escaped_guarded c.args.text.now
    c.utf8.text)
