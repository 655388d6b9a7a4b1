-- When a device is consistent: its copy agrees with its book up to its sync token (RFC 6578,
-- sections 3.4 to 3.6). What that means for the two numbers of a mark is this project's own.
use Rattle.std.specs.Prelude.{ℕ, ◌≡◌, ◌≤◌, List, length, Some, None}
use Rattle.std.specs.FinMap as finite
use Rattle.book_model.specs.declared.token.Mark.{Mark}
use Rattle.book_model.specs.declared.token.Token.{Token}
use Rattle.book_laws.specs.EventLogs.{BookEvent, live, last_number}
use Rattle.book_model.specs.Books.{LiveCards}
use Rattle.book_laws.specs.StoreHistories.{BookHistory, BookHistories}
use Rattle.book_model.specs.Devices.{DeviceState}

-- the copy agrees with the log at the mark
pub record Agrees (copy : LiveCards) (mark : Mark) (h : List BookEvent) : Type 0 where
  pub ordered : mark.at ≤ mark.base
  pub within_log : mark.base ≤ length h
  -- a member without an event above `at` is in the copy exactly as it is now
  pub agrees_up_to_at : (uid : List ℕ) → last_number h uid ≤ mark.at →
      finite.get copy uid ≡ finite.get (live h) uid
  -- a removed member without an event above `base` isn't in the copy
  pub removed_up_to_base : (uid : List ℕ) → finite.get (live h) uid ≡ None → last_number h uid
      ≤ mark.base →
      finite.get copy uid ≡ None

-- The token is of the book that the device names, and the copy agrees with that book's log at the
-- token's mark.
pub record IsConsistentAt (histories : BookHistories) (device : DeviceState)
    (token : Token) : Type 0 where
  pub history : BookHistory
  pub found : finite.get histories device.book ≡ Some history
  pub own : token.book ≡ history.id
  pub agrees : Agrees device.copy token.mark history.log

-- A device is consistent where it is so at its token. Without a token it is consistent, since the
-- next page empties its copy first.
abbrev pub IsConsistentDevice : BookHistories → DeviceState → Type 0
IsConsistentDevice histories device =
    (token : Token) → device.token ≡ Some token → IsConsistentAt histories device token

-- the copy equals the live cards of the device's book, with their versions
pub record IsUpToDate (histories : BookHistories) (device : DeviceState) : Type 0 where
  pub history : BookHistory
  pub found : finite.get histories device.book ≡ Some history
  pub copy : device.copy ≡ live history.log
