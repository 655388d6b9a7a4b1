use Rattle.std.proofs.Common.{take}
use Rattle.std.specs.List.{AllByRecursion}
use Rattle.page_json.specs.WrittenPages.{SpellsItsCard}
use Rattle.page_json.specs.internal.WrittenTokens.{HasMoreTokens, entries_tokens}
use Rattle.page_json.proofs.writing.write_entries.Given as goal

-- the entries so far are written
abbrev pub invariant-loop-entry : goal.invariant-loop-entry
invariant-loop-entry l = record {
  tokens : HasMoreTokens l.fn.out l.out (entries_tokens (take l.entry-index l.entries));
  cards : AllByRecursion SpellsItsCard (take l.entry-index l.entries);
}
