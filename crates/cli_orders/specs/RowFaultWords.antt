-- The words for what is wrong with a row of a damaged file.
use Rattle.std.specs.Prelude.{ℕ, List, codes}
use Rattle.store_check.specs.declared.faults.BookFault.{BookFault}
use Rattle.store_check.specs.declared.faults.BookFault.TheVariants as book
use Rattle.store_check.specs.declared.faults.ImportFault.{ImportFault}
use Rattle.store_check.specs.declared.faults.ImportFault.TheVariants as import_of
use Rattle.store_check.specs.declared.faults.KeepFault.{KeepFault}
use Rattle.store_check.specs.declared.faults.KeepFault.TheVariants as keep_of
use Rattle.store_check.specs.declared.faults.MemberFault.{MemberFault}
use Rattle.store_check.specs.declared.faults.MemberFault.TheVariants as member
use Rattle.store_check.specs.declared.faults.RowFault.{RowFault}
use Rattle.store_check.specs.declared.faults.RowFault.TheVariants as table

abbrev pub book_fault_words : BookFault → List ℕ
book_fault_words book.Columns = codes "the name isn't a text, or a number is missing or negative"
book_fault_words book.TooMany = codes "there are more books than a store may have"
book_fault_words book.Id = codes "the id isn't from 1 to the number of books"
book_fault_words book.Name = codes "the name isn't a legal name of a book"
book_fault_words book.Numbers =
    codes "the counts don't add up to the number, or the number or the horizon is too large"
book_fault_words book.Keep =
    codes "the keep is missing or 0, or there are more tombstones than it allows"
book_fault_words book.Cards = codes "the counts don't add up to the number of cards"

abbrev pub member_fault_words : MemberFault → List ℕ
member_fault_words member.Columns =
    codes "the UID isn't a text, the card is neither a text nor null, or a number is missing"
member_fault_words member.NoBook = codes "no book has the id of its book"
member_fault_words member.Number = codes "its change isn't numbered from 1 to the book's number"
member_fault_words member.Card = codes "the card isn't a card's canonical text"
member_fault_words member.Uid = codes "the UID isn't legal, or the card has another one"
member_fault_words member.Tombstone = codes "the tombstone isn't above the book's horizon"

abbrev pub import_fault_words : ImportFault → List ℕ
import_fault_words import_of.Columns =
    codes "the key isn't a text, or a number is missing or negative"
import_fault_words import_of.NoBook = codes "no book has the id of its book"
import_fault_words import_of.Key = codes "the key isn't a legal key of an import"
import_fault_words import_of.Number = codes "its number is above the book's number"

abbrev pub keep_fault_words : KeepFault → List ℕ
keep_fault_words keep_of.Columns = codes "a number is missing or negative"
keep_fault_words keep_of.NoBook = codes "no book has the id of its book"

abbrev pub row_fault_words : RowFault → List ℕ
row_fault_words (table.Book fault) = book_fault_words fault
row_fault_words (table.Member fault) = member_fault_words fault
row_fault_words (table.Import fault) = import_fault_words fault
row_fault_words (table.Keep fault) = keep_fault_words fault
