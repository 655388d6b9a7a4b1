use Rattle.std.proofs.Common.{◌≡◌, [], fold, chars, ap, sym, ◌∙◌}
use Rattle.std.specs.Prelude.{false}
use Rattle.std.proofs.lemmas.Str.{Chars-Drains, encodes-chars}
use Rattle.vcard_values.specs.internal.BreakLoop.{BreakState, break_char, break_state}
use Rattle.vcard_values.proofs.BreakLemmas.{breaks_all}
use Rattle.vcard_values.proofs.value_texts.with_line_feeds.Goals as goal

pub returns : goal.returns
returns c =
    let all : c.loop-c.yielded ≡ chars c.args.text.now =
    Chars-Drains (chars c.args.text.now) c.loop-c.yielded c.into_iter-c-iterator.result
    (encodes-chars c.args.text.now c.utf8.text ∙ sym c.chars-c-items.ensures.rest
    ∙ ap (λ s. s.rest.now) (sym c.into_iter-c-iterator.ensures.into_iter_gives))
    (c.next.new.self, (c.loop-c.c-iterator, c.loop-c.yielded_by, c.in-None.ensures.steps)) in
    ap (λ (state : BreakState). state.octets) (c.loop-c.invariant.so_far
    ∙ ap (fold break_char (break_state [] false)) all)
    ∙ breaks_all (chars c.args.text.now)
