use Rattle.std.proofs.Common.{◌≡◌, [], fold, chars, ap, sym, ◌∙◌}
use Rattle.std.specs.Prelude.{false}
use Rattle.std.proofs.lemmas.Str.{Chars-Drains, encodes-chars}
use Rattle.vcard_lines.specs.internal.UnescapeLoop.{unescape_state, unescape_char, finished_text}
use Rattle.vcard_lines.proofs.TextValueLemmas.{reads_all}
use Rattle.vcard_lines.proofs.text_value.unescape.Goals as goal

pub returns : goal.returns
returns c =
    let all : c.loop-c.yielded ≡ chars c.args.value.now =
    Chars-Drains (chars c.args.value.now) c.loop-c.yielded c.into_iter-c-iterator.result
    (encodes-chars c.args.value.now c.utf8.value ∙ sym c.chars-c-items.ensures.rest
    ∙ ap (λ s. s.rest.now) (sym c.into_iter-c-iterator.ensures.into_iter_gives))
    (c.next.new.self, (c.loop-c.c-iterator, c.loop-c.yielded_by, c.in-None.ensures.steps)) in
    c.in_ok-end_text.ensures
    ∙ ap finished_text (c.loop-c.invariant.so_far
    ∙ ap (fold unescape_char (unescape_state [] false)) all)
    ∙ reads_all c.args.value.now
