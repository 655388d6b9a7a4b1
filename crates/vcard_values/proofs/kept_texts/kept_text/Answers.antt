use Rattle.std.proofs.Common.{◌≡◌, ◌++◌, ◌∙◌, encode_utf8, map, chars, ap, sym}
use Rattle.std.specs.Str.{encode_utf8_all}
use Rattle.std.proofs.lemmas.Str.{Chars-Drains, encodes-chars}
use Rattle.vcard_values.specs.KeptTexts.{kept_char}
use Rattle.vcard_values.proofs.KeptLemmas.{one_more_kept}
use Rattle.vcard_values.proofs.kept_texts.kept_text.Goals as goal

pub loop-c-preserved : goal.loop-c-preserved
loop-c-preserved c = record {
  can = tt;
  ends = tt;
  so_far = c.in_ok-push.ensures.bytes
      ∙ ap (λ octets. octets ++ encode_utf8 c.kept_char.result) c.loop-c.invariant.so_far
      ∙ ap (λ d. encode_utf8_all (map kept_char c.loop-c.yielded) ++ encode_utf8 d)
      c.kept_char.ensures
      ∙ one_more_kept c.loop-c.yielded c.in-Some.c;
}

pub returns : goal.returns
returns c =
    let all : c.loop-c.yielded ≡ chars c.args.text.now =
    Chars-Drains (chars c.args.text.now) c.loop-c.yielded c.into_iter-c-iterator.result
    (encodes-chars c.args.text.now c.utf8.text ∙ sym c.chars-c-items.ensures.rest
    ∙ ap (λ s. s.rest.now) (sym c.into_iter-c-iterator.ensures.into_iter_gives))
    (c.next.new.self, (c.loop-c.c-iterator, c.loop-c.yielded_by, c.in-None.ensures.steps)) in
    c.loop-c.invariant.so_far ∙ ap (λ cs. encode_utf8_all (map kept_char cs)) all
