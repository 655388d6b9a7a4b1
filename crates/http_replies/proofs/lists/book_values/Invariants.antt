use Rattle.std.proofs.Common.{◌≡◌, map, take}
use Rattle.serde_json.specs.View.{view}
use Rattle.http_replies.specs.ReplyValues.{book_value}
use Rattle.http_replies.proofs.lists.book_values.Given as goal

-- the values so far are those of the books so far
abbrev pub invariant-loop-book : goal.invariant-loop-book
invariant-loop-book l = map view l.values.items ≡ map book_value (take l.book-index l.books)
