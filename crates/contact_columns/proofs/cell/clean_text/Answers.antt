use Rattle.std.proofs.Common.{◌≡◌, ◌++◌, false, chars, ap, sym, ◌∙◌}
use Rattle.std.specs.Str.{encode_utf8_all}
use Rattle.std.proofs.lemmas.Str.{Chars-Drains, encodes-chars}
use Rattle.contact_columns.specs.Cells.{clean_char, clean_chars}
use Rattle.contact_columns.proofs.TextLemmas.{last_is_return, one_more_clean}
use Rattle.contact_columns.proofs.cell.clean_text.Goals as goal

pub loop-c-preserved : goal.loop-c-preserved
loop-c-preserved c = record {
  can = tt;
  ends = tt;
  returned = sym (last_is_return false c.loop-c.yielded c.in-Some.c);
  so_far = c.in_ok-push_clean.ensures
      ∙ ap (λ octets. octets ++ encode_utf8_all (clean_char c.loop-c.is_after_return c.in-Some.c))
      c.loop-c.invariant.so_far
      ∙ ap (λ after. encode_utf8_all (clean_chars false c.loop-c.yielded) ++ encode_utf8_all
      (clean_char after c.in-Some.c)) c.loop-c.invariant.returned
      ∙ one_more_clean c.loop-c.yielded c.in-Some.c;
}

pub returns : goal.returns
returns c =
    let all : c.loop-c.yielded ≡ chars c.args.text.now =
    Chars-Drains (chars c.args.text.now) c.loop-c.yielded c.into_iter-c-iterator.result
    (encodes-chars c.args.text.now c.utf8.text ∙ sym c.chars-c-items.ensures.rest
    ∙ ap (λ s. s.rest.now) (sym c.into_iter-c-iterator.ensures.into_iter_gives))
    (c.next.new.self, (c.loop-c.c-iterator, c.loop-c.yielded_by, c.in-None.ensures.steps)) in
    c.loop-c.invariant.so_far ∙ ap (λ cs. encode_utf8_all (clean_chars false cs)) all
