use Rattle.std.proofs.Common.{◌≡◌, [], ◌∷◌, ◌++◌, fold, string_bytes, chars, ap, sym, ◌∙◌}
use Rattle.std.proofs.lemmas.Str.{Chars-Drains, encodes-chars}
use Rattle.vcard_lines.specs.internal.FoldingLoop.{fold_char, fold_state}
use Rattle.vcard_lines.proofs.folding.write_line_tail.Goals as goal

pub returns : goal.returns
returns c =
    let all : c.loop-c.yielded ≡ chars c.args.rest.now =
    Chars-Drains (chars c.args.rest.now) c.loop-c.yielded c.into_iter-c-iterator.result
    (encodes-chars c.args.rest.now c.utf8.rest ∙ sym c.chars-c-items.ensures.rest
    ∙ ap (λ s. s.rest.now) (sym c.into_iter-c-iterator.ensures.into_iter_gives))
    (c.next.new.self, (c.loop-c.c-iterator, c.loop-c.yielded_by, c.in-None.ensures.steps)) in
    c.in_ok-push_str.ensures.bytes
    ∙ ap (λ os. os ++ 13 ∷ 10 ∷ [])
    (ap (λ s. s.octets) c.loop-c.invariant.so_far
    ∙ ap (λ cs. (fold fold_char (fold_state (string_bytes c.args.out.now) c.args.room) cs).octets)
    all)
