-- The effect of an event on the books and the devices.
use Rattle.std.proofs.Common.{◌≡◌, ℕ, List, Option, Some, refl, ap, ◌∙◌, slice_get, slice_set}
use Rattle.book_model.specs.Bounds.{Bounds}
use Rattle.book_model.specs.Books.{Books}
use Rattle.book_model.specs.Devices.{DeviceState}
use Rattle.book_commands.specs.declared.command.Command.{Command}
use Rattle.book_service.specs.declared.event.Event.TheVariants.{Do, Ask}
use Rattle.book_commands.specs.declared.reply.Reply.{Reply}
use Rattle.book_service.specs.DeviceReplies.{HandlesReply}
use Rattle.book_service.specs.Mirrors.{report_at}
use Rattle.book_service.specs.internal.RowSteps.{CommandOnRows}
use Rattle.book_service.specs.Runs.{SystemState, MatchesRows, StepsTo}
use Rattle.book_service.proofs.PerformLemmas.{same_rows}

module _ (limits : Bounds) (old new : Books) (r : Reply) (now : SystemState) (at :
    MatchesRows now limits old) where
  pub command_happens : (command : Command) → CommandOnRows limits old command r new
      → StepsTo now (Do command) r new now.devices
  command_happens command does =
      let p = does.performed now.model at.limits_are at.histories in
      record {
        next = record now { model = record now.model { books = p.next } };
        step = (p.next, p.performs, refl);
        at = record { limits_are = refl; histories = p.histories };
        devices_are = refl;
      }

  pub ask_happens : (devices : List DeviceState) → now.devices ≡ devices
      → (i : ℕ) (limit : Option ℕ) (was is : DeviceState) → slice_get devices i ≡ Some was
      → HandlesReply r (report_at now was.book was.token limit) was is → new ≡ old
      → StepsTo now (Ask i limit) r new (slice_set devices i is)
  ask_happens devices device_at i limit was is found answers same = record {
    next = record now { devices = slice_set now.devices i is };
    step = record {
      old = was;
      new = is;
      found = ap (λ (ds : List DeviceState). slice_get ds i) device_at ∙ found;
      answers = answers;
      next_is = refl;
    };
    at = record { limits_are = refl; histories = same_rows now.model old new same at.histories };
    devices_are = ap (λ (ds : List DeviceState). slice_set ds i is) device_at;
  }
