use Rattle.vcard_lines.proofs.CountLemmas.{counts_line}
use Rattle.vcard_lines.proofs.folded_count.count_text.Goals as goal

pub returns-then-text-count : goal.returns-then-text-count
returns-then-text-count c = counts_line _ _ c.args.text.now c.utf8.text c.count_short.ensures

pub returns-then-is_ascii : goal.returns-then-is_ascii
returns-then-is_ascii c = counts_line _ _ c.args.text.now c.utf8.text c.count_ascii.ensures

pub returns-else-is_ascii : goal.returns-else-is_ascii
returns-else-is_ascii c = counts_line _ _ c.args.text.now c.utf8.text c.count_chars.ensures
