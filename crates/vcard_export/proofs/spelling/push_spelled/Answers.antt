use Rattle.std.proofs.Common.{◌≡◌, List, ℕ, fold, chars, string_bytes, OnOk, ap, sym, subst, ◌∙◌}
use Rattle.std.specs.Prelude.{false}
use Rattle.std.proofs.lemmas.Str.{Chars-Drains, encodes-chars}
use Rattle.vcard_export.specs.internal.SpellingLoop.{finished, spell_char, spelling_state}
use Rattle.vcard_export.proofs.SpellingLemmas.{spells_all}
use Rattle.vcard_export.proofs.spelling.push_spelled.Goals as goal

pub returns : goal.returns
returns c =
    let all : c.loop-c.yielded ≡ chars c.args.text.now =
    Chars-Drains (chars c.args.text.now) c.loop-c.yielded c.into_iter-c-iterator.result
    (encodes-chars c.args.text.now c.utf8.text ∙ sym c.chars-c-items.ensures.rest
    ∙ ap (λ s. s.rest.now) (sym c.into_iter-c-iterator.ensures.into_iter_gives))
    (c.next.new.self, (c.loop-c.c-iterator, c.loop-c.yielded_by, c.in-None.ensures.steps)) in
    subst (λ (t : List ℕ). OnOk c.push_end.result (string_bytes c.push_end.new.out ≡ t))
    (ap (finished c.args.spelling) c.loop-c.invariant.so_far
    ∙ ap (λ cs. finished c.args.spelling (fold (spell_char c.args.spelling)
    (spelling_state (string_bytes c.args.out.now) false) cs)) all
    ∙ spells_all c.args.spelling (string_bytes c.args.out.now) c.args.text.now)
    c.push_end.ensures
