use Rattle.std.proofs.Common.{◌≡◌, [], fold, chars, ap, sym, ◌∙◌}
use Rattle.std.specs.Prelude.{false}
use Rattle.std.proofs.lemmas.Str.{Chars-Drains, encodes-chars}
use Rattle.vcard_values.specs.internal.RewriteLoop.{finished_octets, rewrite_char, rewrite_state}
use Rattle.vcard_values.proofs.EscapeLemmas.{rewrites_all}
use Rattle.vcard_values.proofs.escapes.escaped_value.Goals as goal

pub returns : goal.returns
returns c =
    let all : c.loop-c.yielded ≡ chars c.args.value.now =
    Chars-Drains (chars c.args.value.now) c.loop-c.yielded c.into_iter-c-iterator.result
    (encodes-chars c.args.value.now c.utf8.value ∙ sym c.chars-c-items.ensures.rest
    ∙ ap (λ s. s.rest.now) (sym c.into_iter-c-iterator.ensures.into_iter_gives))
    (c.next.new.self, (c.loop-c.c-iterator, c.loop-c.yielded_by, c.in-None.ensures.steps)) in
    c.in_ok-end_value.ensures
    ∙ ap (finished_octets c.args.form) (c.loop-c.invariant.so_far
    ∙ ap (fold (rewrite_char c.args.form) (rewrite_state [] false)) all)
    ∙ rewrites_all c.args.form (chars c.args.value.now)
