use Rattle.std.proofs.Common.{rules, ◌≡◌, [], ◌∷◌, fold, chars, ap, sym, subst, ◌∙◌}
use Rattle.std.proofs.lemmas.List.Sums.{fold-append}
use Rattle.std.proofs.lemmas.Str.{Chars-Drains, encodes-chars}
use Rattle.vcard_lines.specs.internal.FoldingLoop.{IsCount, fold_char}
use Rattle.vcard_lines.proofs.folded_count.count_chars.Goals as goal

pub loop-c-preserved : goal.loop-c-preserved
loop-c-preserved c = record {
  can = search rules;
  ends = search rules;
  so_far = λ part n.
      subst (IsCount c.count_char.new.count)
      (sym (fold-append fold_char part c.loop-c.yielded (c.in-Some.c ∷ [])))
      (c.count_char.ensures (fold fold_char part c.loop-c.yielded) (c.loop-c.invariant.so_far part
      n));
}

pub returns : goal.returns
returns c = λ part n.
    let all : c.loop-c.yielded ≡ chars c.args.text.now =
    Chars-Drains (chars c.args.text.now) c.loop-c.yielded c.into_iter-c-iterator.result
    (encodes-chars c.args.text.now c.utf8.text ∙ sym c.chars-c-items.ensures.rest
    ∙ ap (λ s. s.rest.now) (sym c.into_iter-c-iterator.ensures.into_iter_gives))
    (c.next.new.self, (c.loop-c.c-iterator, c.loop-c.yielded_by, c.in-None.ensures.steps)) in
    subst (λ cs. IsCount c.loop-c.count (fold fold_char part cs)) all
    (c.loop-c.invariant.so_far part n)
