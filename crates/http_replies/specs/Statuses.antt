-- The status of each reply (RFC 9110, section 15; RFC 4918, section 11.5, for 507). Which reply has
-- which is this project's own.
use Rattle.std.specs.Prelude.{ℕ}
use Rattle.book_model.specs.declared.answers.PutAnswer.{PutAnswer}
use Rattle.book_model.specs.declared.answers.PutAnswer.TheVariants as put
use Rattle.book_model.specs.declared.refusal.Refusal.{Refusal}
use Rattle.book_model.specs.declared.refusal.Refusal.TheVariants.{NoSuchBook, BookExists}
use Rattle.book_model.specs.declared.refusal.Refusal.TheVariants.{BadBookName, NoSuchCard, BadCard}
use Rattle.book_model.specs.declared.refusal.Refusal.TheVariants.{UidMismatch, VersionMismatch}
use Rattle.book_model.specs.declared.refusal.Refusal.TheVariants.{UidTaken, SameBook, BadToken}
use Rattle.book_model.specs.declared.refusal.Refusal.TheVariants.{BadLimit, BookFull, ChangesSpent}
use Rattle.book_model.specs.declared.refusal.Refusal.TheVariants.{BadImport, BadKey, BadForget}
use Rattle.book_model.specs.declared.refusal.Refusal.TheVariants.{NotGroup, TooManyBooks}
use Rattle.book_commands.specs.declared.reply.Reply.{Reply}
use Rattle.book_commands.specs.declared.reply.Reply.TheVariants as reply

abbrev pub refusal_status : Refusal → ℕ
refusal_status NoSuchBook = 404
refusal_status BookExists = 409
refusal_status BadBookName = 400
refusal_status NoSuchCard = 404
refusal_status (BadCard fault) = 400
refusal_status UidMismatch = 409
refusal_status (VersionMismatch has) = 412
refusal_status UidTaken = 409
refusal_status SameBook = 409
refusal_status (BadToken cause) = 403
refusal_status BadLimit = 507
refusal_status BookFull = 507
refusal_status ChangesSpent = 507
refusal_status (BadImport row cause) = 400
refusal_status BadKey = 400
refusal_status BadForget = 409
refusal_status NotGroup = 409
refusal_status TooManyBooks = 507

abbrev pub put_status : PutAnswer → ℕ
put_status (put.Created version) = 201
put_status (put.Edited version) = 200
put_status (put.Unchanged version) = 200

abbrev pub reply_status : Reply → ℕ
reply_status (reply.Created id) = 201
reply_status (reply.Books lines) = 200
reply_status (reply.Card uid version card) = 200
reply_status (reply.Put answer) = put_status answer
reply_status (reply.Gone number) = 200
reply_status (reply.Moved numbers) = 200
reply_status (reply.Page page) = 200
reply_status (reply.Imported tally) = 200
reply_status (reply.Forgot dropped horizon) = 200
reply_status (reply.Tally tally) = 200
reply_status (reply.Csv rows) = 200
reply_status (reply.People reached) = 200
reply_status (reply.Refused refusal) = refusal_status refusal
reply_status (reply.Fault fault) = 503
