use Rattle.std.proofs.Common.{◌≤◌, None, refl, string_bytes, ap, ◌∙◌, sym, subst}
use Rattle.std.specs.FinMap as finite
use Rattle.book_model.specs.Books.{Book}
use Rattle.book_model.specs.BookQueries.{tombstone_count_after}
use Rattle.sync_core.specs.BookInvariants.{HasSoundNumbers}
use Rattle.sync_core.proofs.DropLemmas.{bound_room}
use Rattle.sync_core.proofs.RowLemmas.{Rows, numbered_room, room_over, room_there}
use Rattle.sync_core.proofs.plain_book.PlainBook.reserve_row.Goals as goal

pub invariant_of-self-2 : goal.invariant_of-self-2
invariant_of-self-2 c =
    subst (λ (m : Rows). HasSoundNumbers c.self.inside.number c.self.inside.counts m
    × (tombstone_count_after m c.self.inside.horizon ≤ c.self.inside.remembered_bound))
    (sym c.in_ok-insert.ensures.ok) (
      numbered_room c.self.inside.number c.self.inside.counts c.self.inside.members
          (string_bytes c.args.uid) _ c.self.invariant.0 refl,
      bound_room c.self.inside.horizon c.self.inside.remembered_bound c.self.inside.members
          (string_bytes c.args.uid) c.self.invariant.1,
    )

pub returns-clause-row : goal.returns-clause-row
returns-clause-row c = room_there c.self.inside.members c.insert.new.self (string_bytes c.args.uid)
    _ c.in_ok-insert.ensures.ok

pub returns-clause-change : goal.returns-clause-change
returns-clause-change c = λ change.
    room_over c.args.self.now _ _ (string_bytes c.args.uid) change
    (ap (λ (m : Rows). let b : Book = record {
      id = c.self.inside.id;
      number = c.self.inside.number;
      horizon = c.self.inside.horizon;
      keep = c.self.inside.keep;
      counts = c.self.inside.counts;
      members = m;
      imports = c.self.inside.imports;
    } in b) c.in_ok-insert.ensures.ok
    ∙ ap (λ (b : Book). let r : Book = record b {
      members = finite.insert b.members
          (string_bytes c.args.uid) (record { changed = 0; card = None });
    } in r) c.self.view_is)
