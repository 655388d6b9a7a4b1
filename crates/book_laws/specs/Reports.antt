-- Reports of a log: the members that changed or were removed since a mark, as they are now (RFC
-- 6578, sections 3.4 to 3.6). Truncation by the numbers of last events, and the base of a mark, are
-- this project's own.
use Rattle.std.specs.Prelude.{ℕ, ◌-◌, Bool, true, false, ◌&&◌, ◌||◌, nat_lt, List, [], length, take}
use Rattle.std.specs.Prelude.{map, filter, get_or, is_some, if◌then◌else◌}
use Rattle.std.specs.Option.{option_map_or}
use Rattle.std.specs.FinMap as finite
use Rattle.book_model.specs.declared.page.Entry.{Entry}
use Rattle.book_model.specs.declared.page.Entry.TheVariants.{Changed, Removed}
use Rattle.book_model.specs.declared.token.Mark.{Mark}
use Rattle.book_laws.specs.EventLogs.{BookEvent, live, last_number, touched_uids}
use Rattle.book_model.specs.Pages.{ReportAnswer, mark_after}

-- the mark of an initial report: nothing was synced, and no earlier removal is needed
abbrev pub initial_mark : List BookEvent → Mark
initial_mark h = record { at = 0; base = length h }

-- a member is due where it has an event above `at`, and it is live or has one above `base`
abbrev pub is_due_member : List BookEvent → Mark → List ℕ → Bool
is_due_member h mark uid =
    nat_lt mark.at (last_number h uid)
    && (is_some (finite.get (live h) uid) || nat_lt mark.base (last_number h uid))

-- the due members, in the order of their last events
abbrev pub due : List BookEvent → Mark → List (List ℕ)
due h mark = filter (is_due_member h mark) (touched_uids h)

-- the entry of a member: its card as it is now, or that it was removed
abbrev pub entry_of : List BookEvent → List ℕ → Entry
entry_of h uid =
    option_map_or (λ stored. Changed uid stored.version stored.card) (finite.get (live h) uid)
    (Removed uid)

-- the first k due members, where there are more than k
abbrev pub truncated_log_page : List BookEvent → Mark → ℕ → ReportAnswer
truncated_log_page h mark k = record {
  entries = map (entry_of h) (take k (due h mark));
  mark = mark_after mark (last_number h (get_or (due h mark) (k - 1) []));
  truncated = true;
}

-- all due members
abbrev pub complete_log_page : List BookEvent → Mark → ReportAnswer
complete_log_page h mark = record {
  entries = map (entry_of h) (due h mark);
  mark = record { at = length h; base = length h };
  truncated = false;
}

-- the page at a mark, of at most k entries (k is at least 1)
abbrev pub report : List BookEvent → Mark → ℕ → ReportAnswer
report h mark k =
    if nat_lt k (length (due h mark)) then truncated_log_page h mark k else complete_log_page h mark
