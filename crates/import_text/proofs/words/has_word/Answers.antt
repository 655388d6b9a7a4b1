use Rattle.std.proofs.Common.{ap, sym, ◌∙◌}
use Rattle.std.proofs.lemmas.List.{nil_from_length}
use Rattle.import_text.specs.RawLines.{has_word}
use Rattle.import_text.proofs.WordLemmas.{found_here, found_later, no_word}
use Rattle.import_text.proofs.words.has_word.Goals as goal

pub returns-then-begins_with_word : goal.returns-then-begins_with_word
returns-then-begins_with_word c = sym (sym c.loop-tail.invariant
    ∙ found_here c.args.word.now c.loop-tail.rest.now _ c.in-Some.tail.now c.in-Some.ensures.cases.0
    (sym c.if-begins_with_word.ensures))

pub loop-tail-preserved : goal.loop-tail-preserved
loop-tail-preserved c = found_later c.args.word.now c.loop-tail.rest.now _ c.in-Some.tail.now
    c.in-Some.ensures.cases.0 (sym c.if-begins_with_word.ensures) ∙ c.loop-tail.invariant

pub returns : goal.returns
returns c =
    sym (no_word c.args.word.now)
    ∙ ap (has_word c.args.word.now) (sym (nil_from_length c.loop-tail.rest.now
    c.in_default.ensures.cases))
    ∙ c.loop-tail.invariant
