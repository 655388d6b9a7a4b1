-- The serial numbers of the connections of a hub.
use Rattle.std.proofs.Common.{◌≡◌, ◌∙◌, ◌==◌, ◌<◌, ℕ, zero, suc, Bool, true, false, List, Option}
use Rattle.std.proofs.Common.{Some, None, refl, sym, ap, subst, arith, replicate, slice_get}
use Rattle.std.proofs.Common.{slice_set}
use Rattle.std.proofs.lemmas.Bool.{eqb-false, eqb-true}
use Rattle.http_hub.specs.Hubs.{HubValue, IsAt, new_hub, with_link, with_slot}
use Rattle.http_hub.specs.Links.{LinkValue, new_link}
use Rattle.http_hub.proofs.PlaceLemmas.{set_other, set_same}

-- each open connection was opened before, and no two have the same serial number
pub record AreNumbered (hub : HubValue) : Type 0 where
  pub earlier : (place : ℕ) (link : LinkValue) → IsAt hub place link → link.serial < hub.opened
  pub apart : (place other : ℕ) (link another : LinkValue) → IsAt hub place link
      → IsAt hub other another → link.serial ≡ another.serial → place ≡ other

pub none_there : (limit place : ℕ) (link : LinkValue) → slice_get (replicate limit None) place
    ≡ Some (Some link) → ⊥
none_there zero place link e = cc e
none_there (suc limit) zero link e = cc e
none_there (suc limit) (suc place) link e = none_there limit place link e

pub numbered_new : (limit : ℕ) → AreNumbered (new_hub limit)
numbered_new limit = record {
  earlier = λ place link at. absurd (none_there limit place link at);
  apart = λ place other link another at other_at same. absurd (none_there limit place link at);
}

-- what a place has after a write at some place
at_same : (slots : List (Option LinkValue)) (place n : ℕ) (old changed : Option LinkValue) (one :
    LinkValue) → place ≡ n → slice_get slots place ≡ Some old
    → slice_get (slice_set slots place changed) n ≡ Some (Some one) → changed ≡ Some one
at_same slots place n old changed one same found at =
    let here : slice_get (slice_set slots place changed) place ≡ Some changed =
    set_same slots place changed old found in
    let there : slice_get (slice_set slots place changed) place ≡ Some (Some one) =
    ap (λ m. slice_get (slice_set slots place changed) m) same ∙ at in
    cc (here, there)

at_other : (slots : List (Option LinkValue)) (place n : ℕ) (changed : Option LinkValue) (one :
    LinkValue) → (place ≡ n → ⊥) → slice_get (slice_set slots place changed) n ≡ Some (Some one)
    → slice_get slots n ≡ Some (Some one)
at_other slots place n changed one apart at = sym (set_other slots place n changed apart) ∙ at

same_some : (x y : LinkValue) → Some x ≡ Some y → x ≡ y
same_some x y same = cc same

module _ (hub : HubValue) (is : AreNumbered hub) where
  -- a change of a connection
  module _ (place : ℕ) (link next : LinkValue) (found : IsAt hub place link)
      (kept : next.serial ≡ link.serial) where
    before_changed : (n : ℕ) (one : LinkValue) (t : Bool) → (place == n) ≡ t
        → IsAt (with_link hub place next) n one → (old : LinkValue) × IsAt hub n old
        × (old.serial ≡ one.serial)
    before_changed n one true e at =
        let same : place ≡ n = eqb-true place n e in
        let is_it : next ≡ one = same_some next one (at_same hub.slots place n (Some link)
        (Some next) one same found at) in (
          link,
          subst (λ m. IsAt hub m link) same found,
          sym kept ∙ ap (λ (l : LinkValue). l.serial) is_it,
        )
    before_changed n one false e at = (
      one,
      at_other hub.slots place n (Some next) one (eqb-false place n e) at,
      refl,
    )

    pub numbered_changed : AreNumbered (with_link hub place next)
    numbered_changed = record {
      earlier = λ n one at.
          let old = before_changed n one (place == n) refl at in
          subst (λ k. k < hub.opened) old.2 (is.earlier n old.0 old.1);
      apart = λ n m one two at_one at_two same.
          let first = before_changed n one (place == n) refl at_one in
          let second = before_changed m two (place == m) refl at_two in
          is.apart n m first.0 second.0 first.1 second.1 (first.2 ∙ same ∙ sym second.2);
    }

  -- the end of a connection
  module _ (place : ℕ) (link : LinkValue) (found : IsAt hub place link) where
    before_ended : (n : ℕ) (one : LinkValue) (t : Bool) → (place == n) ≡ t
        → IsAt (with_slot hub place None) n one → IsAt hub n one
    before_ended n one true e at =
        let no : None ≡ Some one = at_same hub.slots place n (Some link) None one
        (eqb-true place n e) found at in
        absurd (cc no)
    before_ended n one false e at = at_other hub.slots place n None one (eqb-false place n e) at

    pub numbered_ended : AreNumbered (with_slot hub place None)
    numbered_ended = record {
      earlier = λ n one at. is.earlier n one (before_ended n one (place == n) refl at);
      apart = λ n m one two at_one at_two same. is.apart n m one two
          (before_ended n one (place == n) refl at_one) (before_ended m two (place == m) refl
          at_two) same;
    }

  -- a new connection
  module _ (place now : ℕ) (free : slice_get hub.slots place ≡ Some None) where
    -- the new connection, or an older one
    pub data OpenedAt (n : ℕ) (one : LinkValue) : Type 0 where
      Newest : place ≡ n → one.serial ≡ hub.opened → OpenedAt n one
      Older : IsAt hub n one → OpenedAt n one

    which_opened : (n : ℕ) (one : LinkValue) (t : Bool) → (place == n) ≡ t
        → slice_get (slice_set hub.slots place (Some (new_link hub.opened now))) n
        ≡ Some (Some one) → OpenedAt n one
    which_opened n one true e at =
        let same : place ≡ n = eqb-true place n e in
        let opened : LinkValue = new_link hub.opened now in
        let is_it : opened ≡ one = same_some opened one (at_same hub.slots place n None
        (Some opened) one same free at) in
        Newest same (ap (λ (l : LinkValue). l.serial) (sym is_it))
    which_opened n one false e at =
        Older (at_other hub.slots place n (Some (new_link hub.opened now)) one
        (eqb-false place n e) at)

    opened_earlier : (n : ℕ) (one : LinkValue) → OpenedAt n one → one.serial < suc hub.opened
    opened_earlier n one (Newest same serial_is) = omega (arith, serial_is)
    opened_earlier n one (Older at) = let before : one.serial < hub.opened = is.earlier n one at in
        omega (arith, before)

    opened_apart : (n m : ℕ) (one two : LinkValue) → OpenedAt n one → OpenedAt m two
        → one.serial ≡ two.serial → n ≡ m
    opened_apart n m one two (Newest same serial_is) (Newest other_same other_serial) serials =
        sym same ∙ other_same
    opened_apart n m one two (Newest same serial_is) (Older at) serials =
        let before : two.serial < hub.opened = is.earlier m two at in
        absurd (omega (arith, before, serial_is, serials))
    opened_apart n m one two (Older at) (Newest same serial_is) serials =
        let before : one.serial < hub.opened = is.earlier n one at in
        absurd (omega (arith, before, serial_is, serials))
    opened_apart n m one two (Older at) (Older other_at) serials =
        is.apart n m one two at other_at serials

    pub numbered_opened : AreNumbered
        (record {
          slots = slice_set hub.slots place (Some (new_link hub.opened now));
          opened = suc hub.opened;
        })
    numbered_opened = record {
      earlier = λ n one at. opened_earlier n one (which_opened n one (place == n) refl at);
      apart = λ n m one two at_one at_two same. opened_apart n m one two
          (which_opened n one (place == n) refl at_one) (which_opened m two (place == m) refl
          at_two) same;
    }
