use Rattle.std.proofs.Common.{refl}
use Rattle.http_replies.proofs.FloatLemmas.{books_have_no_float, people_have_no_float}
use Rattle.http_replies.proofs.bodies.body_of.Goals as goal

pub returns-in-Created : goal.returns-in-Created
returns-in-Created c = rw c.in-Created.is (c.text_of.ensures _ refl c.created_value.ensures)

pub returns-in-Books : goal.returns-in-Books
returns-in-Books c =
    rw c.in-Books.is
    (c.text_of-in-Books.ensures _ (books_have_no_float c.in-Books.books) c.books_value.ensures)

pub returns-in-Gone : goal.returns-in-Gone
returns-in-Gone c = rw c.in-Gone.is (c.text_of-in-Gone.ensures _ refl c.gone_value.ensures)

pub returns-in-Moved : goal.returns-in-Moved
returns-in-Moved c = rw c.in-Moved.is (c.text_of-in-Moved.ensures _ refl c.moved_value.ensures)

pub returns-in-Imported : goal.returns-in-Imported
returns-in-Imported c = rw c.in-Imported.is (c.text_of-in-Imported.ensures _ refl
    c.imported_value.ensures)

pub returns-in-Forgot : goal.returns-in-Forgot
returns-in-Forgot c = rw c.in-Forgot.is (c.text_of-in-Forgot.ensures _ refl c.forgot_value.ensures)

pub returns-in-Tally : goal.returns-in-Tally
returns-in-Tally c = rw c.in-Tally.is (c.text_of-in-Tally.ensures _ refl c.tally_value.ensures)

pub returns-in-People : goal.returns-in-People
returns-in-People c =
    rw c.in-People.is
    (c.text_of-in-People.ensures _ (people_have_no_float c.in-People.reached)
    c.people_value.ensures)
