use Rattle.std.proofs.Common.{◌≡◌, ◌++◌, flat_map, chars, ap, sym, ◌∙◌}
use Rattle.std.specs.Str.{encode_utf8_all}
use Rattle.std.proofs.lemmas.Str.{Chars-Drains, encodes-chars}
use Rattle.vcard_values.specs.Escapes.{plain_units, unit_chars}
use Rattle.vcard_values.proofs.EscapeLemmas.{one_more_of_path}
use Rattle.vcard_values.proofs.escapes.path_value.Goals as goal

pub loop-c-preserved : goal.loop-c-preserved
loop-c-preserved c = record {
  can = tt;
  ends = tt;
  so_far = c.in_ok-push_plain.ensures
      ∙ ap (λ octets. octets ++ encode_utf8_all (flat_map unit_chars
      (plain_units c.args.form c.in-Some.c))) c.loop-c.invariant.so_far
      ∙ one_more_of_path c.args.form c.loop-c.yielded c.in-Some.c;
}

pub returns : goal.returns
returns c =
    let all : c.loop-c.yielded ≡ chars c.args.value.now =
    Chars-Drains (chars c.args.value.now) c.loop-c.yielded c.into_iter-c-iterator.result
    (encodes-chars c.args.value.now c.utf8.value ∙ sym c.chars-c-items.ensures.rest
    ∙ ap (λ s. s.rest.now) (sym c.into_iter-c-iterator.ensures.into_iter_gives))
    (c.next.new.self, (c.loop-c.c-iterator, c.loop-c.yielded_by, c.in-None.ensures.steps)) in
    c.loop-c.invariant.so_far
    ∙ ap (λ cs. encode_utf8_all (flat_map unit_chars (flat_map (plain_units c.args.form) cs))) all
