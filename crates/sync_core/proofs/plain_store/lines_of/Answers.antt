use Rattle.std.proofs.Common.{rules, ◌≡◌, map, sym, ap, ◌∙◌}
use Rattle.std.specs.Map.Iter.{deref_pair}
use Rattle.std.proofs.lemmas.Map.Iter.{iter_end}
use Rattle.base_types.proofs.TextMapLemmas.{octet_entry, entries-texts}
use Rattle.book_model.specs.BookQueries.{book_line_in_rows, book_lines}
use Rattle.sync_core.proofs.plain_store.lines_of.Goals as goal

pub returns : goal.returns
returns c =
    let all : map deref_pair c.loop-name.yielded ≡ c.as_map-books.result.now.entries =
    search (rules, iter_end) in
    c.loop-name.invariant
    ∙ ap (λ es. map book_line_in_rows (map octet_entry es)) all
    ∙ ap (map book_line_in_rows) (sym (entries-texts c.as_map-books.result.now
    c.iter-name-items.ensures.ordered))
    ∙ ap book_lines c.as_map-books.ensures
