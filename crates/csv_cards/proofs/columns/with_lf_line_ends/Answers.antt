use Rattle.std.proofs.Common.{◌≡◌, [], fold, chars, ap, sym, ◌∙◌}
use Rattle.std.specs.Prelude.{false}
use Rattle.std.proofs.lemmas.Str.{Chars-Drains, encodes-chars}
use Rattle.csv_cards.specs.internal.LineEnds.{line_end_state, append_char, flushed_text}
use Rattle.csv_cards.proofs.LineEndLemmas.{reads_all}
use Rattle.csv_cards.proofs.columns.with_lf_line_ends.Goals as goal

pub returns : goal.returns
returns c =
    let all : c.loop-c.yielded ≡ chars c.args.text.now =
    Chars-Drains (chars c.args.text.now) c.loop-c.yielded c.into_iter-c-iterator.result
    (encodes-chars c.args.text.now c.utf8.text ∙ sym c.chars-c-items.ensures.rest
    ∙ ap (λ s. s.rest.now) (sym c.into_iter-c-iterator.ensures.into_iter_gives))
    (c.next.new.self, (c.loop-c.c-iterator, c.loop-c.yielded_by, c.in-None.ensures.steps)) in
    c.in_ok-end_text.ensures
    ∙ ap flushed_text (c.loop-c.invariant.so_far ∙ ap (fold append_char (line_end_state [] false))
    all)
    ∙ reads_all c.args.text.now
