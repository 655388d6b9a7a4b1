-- Consistent devices, over every list of calls.
use Rattle.std.proofs.Common.{List, [], ◌∷◌, ◌++◌, sym, ◌∙◌, subst}
use Rattle.book_model.specs.declared.token.Mark.{Mark}
use Rattle.book_laws.specs.DeviceConsistency.{Agrees}
use Rattle.book_laws.specs.EventLogs.{BookEvent}
use Rattle.book_model.specs.Books.{LiveCards}
use Rattle.book_laws.specs.RunLaws.{CallsKeepDevicesConsistent}
use Rattle.book_laws.proofs.DeviceLemmas.{copies_stay_consistent}
use Rattle.book_laws.proofs.ExtensionLemmas.{calls_extend_histories}

agrees_later : (copy : LiveCards) (mark : Mark) (h later : List BookEvent) → Agrees copy mark h
    → Agrees copy mark (later ++ h)
agrees_later copy mark h [] a = a
agrees_later copy mark h (e ∷ later) a =
    copies_stay_consistent copy mark (later ++ h) e (agrees_later copy mark h later a)

pub calls_keep_device : CallsKeepDevicesConsistent
calls_keep_device limits histories calls device right token at =
    let r = right token at in
    let later = calls_extend_histories limits histories calls device.book r.history r.found in
    let goes = later.2 in
    record {
      history = later.0;
      found = later.1;
      own = r.own ∙ sym goes.id;
      agrees = subst (Agrees device.copy token.mark) (sym goes.log)
          (agrees_later device.copy token.mark r.history.log goes.later r.agrees);
    }
