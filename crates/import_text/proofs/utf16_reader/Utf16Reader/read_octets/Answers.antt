use Rattle.std.proofs.Common.{◌≡◌, ◌≤◌, ◌+◌, ◌-◌, ◌++◌, ◌∙◌, List, ℕ, length, take, ap, sym}
use Rattle.std.proofs.Common.{refl, rules, arith}
use borrow.Rule.Slice.PartMut.{put_mid}
use Rattle.std.proofs.lemmas.List.{length-drop, with_items_is}
use Rattle.std.specs.Vec.{with_items}
use Rattle.import_text.specs.internal.Unread.{octets_left, undecoded}
use Rattle.import_text.proofs.FillLemmas.{front_of_room, length_kept, rest_is}
use Rattle.import_text.proofs.UnreadLemmas.{read_on}
use Rattle.import_text.proofs.utf16_reader.Utf16Reader.read_octets.Goals as goal

pub returns-clause-left : goal.returns-clause-left
returns-clause-left g c =
    let old = c.args.self.now in
    let room = c.deref_mut.result.now in
    let buf = c.read.new.buf in
    let count = c.in_ok-count.count in
    let same : room ≡ old.room.items = search rules in
    let within : old.count ≤ length room = omega (arith, c.requires, ap length same) in
    let fits : count ≤ length buf = search rules in
    let fills : length buf ≡ length room - old.count = c.read.auto.buf
    ∙ ap length (rest_is old.count room) ∙ length-drop old.count room in
    let written : List ℕ = put_mid old.count (length room - old.count) room buf in
    let len : length written ≡ old.room.len = length_kept old.count room buf within fills
    ∙ ap length same ∙ sym old.room.ok.0 in
    read_on old.is_big (octets_left old.text) (octets_left old.text) (undecoded old)
    (take (old.count + count) (with_items old.room written).items) (take count buf)
    (g.R.Read.remaining old.reader) (g.R.Read.remaining c.read.new.self)
    c.in_ok-count.ensures.bytes.0
    (ap (take (old.count + count)) (with_items_is old.room written len)
    ∙ front_of_room old.count count room buf within fits
    ∙ ap (λ r. take old.count r ++ take count buf) same) refl
