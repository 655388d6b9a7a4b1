-- What a crash leaves after the store call of a command, it leaves after the command.
use Rattle.std.proofs.Common.{◌≡◌, ℕ, List, Option, Result, Ok, Err, inl, inr, ◌⊎◌, refl, sym}
use Rattle.std.proofs.Common.{subst, ⊎_elim}
use Rattle.book_model.specs.declared.answers.Moved.{Moved}
use Rattle.book_model.specs.declared.denied.Denied.{Denied}
use Rattle.book_model.specs.declared.denied.Denied.TheVariants.{Refused, Fault}
use Rattle.book_model.specs.declared.refusal.Refusal.{Refusal}
use Rattle.book_model.specs.Bounds.{Bounds, IsInRange}
use Rattle.book_model.specs.Books.{Books}
use Rattle.book_model.specs.CallOutcomes.{MatchesStep}
use Rattle.book_model.specs.Creating.{create_step}
use Rattle.book_model.specs.Forgetting.{forget_step}
use Rattle.book_model.specs.Moving.{move_step}
use Rattle.book_model.specs.Removing.{remove_step}
use Rattle.book_laws.specs.ChangeRefinement.{CreateRefines, ForgetRefines, MoveRefines}
use Rattle.book_laws.specs.ChangeRefinement.{RemoveRefines}
use Rattle.book_commands.specs.declared.command.Command.{Command}
use Rattle.book_commands.specs.declared.command.Command.TheVariants.{CreateBook, Forget, MoveCard}
use Rattle.book_commands.specs.declared.command.Command.TheVariants.{Remove}
use Rattle.book_commands.specs.declared.reply.Reply.{Reply}
use Rattle.book_commands.specs.declared.reply.Reply.TheVariants as reply
use Rattle.book_model.specs.Devices.{DeviceState}
use Rattle.sync_core.specs.StoreModels.{StoreModel}
use Rattle.sync_core.specs.StoreCrashes.{IsAfterStep, LeavesNoMore, LeavesStep, UnlessFault}
use Rattle.book_service.specs.declared.event.Event.{Event}
use Rattle.book_service.specs.declared.event.Event.TheVariants.{Do}
use Rattle.book_service.specs.Crashes.{LeavesAsk, LeavesCommand, LeavesEvent}
use Rattle.book_service.specs.Faults.{IsFault}
use Rattle.book_service.specs.Replies.{reply_to}
use Rattle.book_service.specs.internal.RowSteps.{CommandLeaves, IsAfterCommand}
use Rattle.book_service.proofs.EventLemmas.{command_happens}
use Rattle.book_service.proofs.CallLemmas.{creates, forgets, moves, removes}

-- ---- answers

pub unless_error : (A B : Type 0) (error : Denied) (Then : Type 0)
    → UnlessFault {A = A} (Err error) Then → UnlessFault {A = B} (Err error) Then
unless_error A B (Refused refusal) Then h = h
unless_error A B (Fault fault) Then h = h

-- with the premise, any answer may be given
pub holds_anyway : {A : Type 0} (returned : Result A Denied) (Then : Type 0) → Then
    → UnlessFault returned Then
holds_anyway (Ok answer) Then h = h
holds_anyway (Err (Refused refusal)) Then h = h
holds_anyway (Err (Fault fault)) Then h = tt

-- a denial that is passed on is a fault where it was one
pub denial_answers : (A : Type 0) {B : Type 0} (returned : Result B Denied) (error : Denied) (Then :
    Type 0) → returned ≡ Err error → UnlessFault {A = A} (Err error) Then
    → UnlessFault returned Then
denial_answers A {B = B} returned error Then is h =
    subst (λ (r : Result B Denied). UnlessFault r Then) (sym is) (unless_error A B error Then h)

-- ---- a call that changes books

module _ {S : Type 0} (model : StoreModel S) (old new : S) where
  pub leaves_on : {A B C : Type 0} (step : Bounds → Books → Result (C × Books) Refusal) (called :
      Result A Denied) (returned : Result B Denied) (command : Command)
      → ((done : C × Books) → step (model.limits old) (model.books old) ≡ Ok done
      → IsAfterCommand (model.limits old) (model.books old) command done.1)
      → (UnlessFault called (model.premise new) → UnlessFault returned (model.premise new))
      → LeavesStep model old new called step → CommandLeaves model old new returned command
  leaves_on {C = C} step called returned command after answers leaves = record {
    only = λ books left. ⊎_elim (λ before. inl before) (λ made. inr (
      made.0,
      by_step (step (model.limits old) (model.books old)) refl books made.1,
    ))
        (leaves.only books left);
    settled = leaves.settled;
    answered = λ books left. answers (leaves.answered books left);
  }
    where
      by_step : (o : Result (C × Books) Refusal) → step (model.limits old) (model.books old) ≡ o
          → (books : Books) → IsAfterStep o books
          → IsAfterCommand (model.limits old) (model.books old) command books
      by_step (Ok done) e books same =
          subst (IsAfterCommand (model.limits old) (model.books old) command) (sym same)
          (after done e)
      by_step (Err refusal) e books made = absurd made

  -- a call that only reads
  pub read_leaves : {A B : Type 0} (called : Result A Denied) (returned : Result B Denied)
      (command : Command) → (UnlessFault called (model.premise new)
      → UnlessFault returned (model.premise new))
      → LeavesNoMore model old new called → CommandLeaves model old new returned command
  read_leaves called returned command answers leaves = record {
    only = λ books left. ⊎_elim (λ before. inl before) (λ none. absurd none)
        (leaves.only books left);
    settled = leaves.settled;
    answered = λ books left. answers (leaves.answered books left);
  }

  -- a call that only reads leaves no more, whatever is returned after it
  pub no_more : {A B : Type 0} (called : Result A Denied) (returned : Result B Denied)
      → (UnlessFault called (model.premise new) → UnlessFault returned (model.premise new))
      → LeavesNoMore model old new called → LeavesNoMore model old new returned
  no_more called returned answers leaves = record {
    only = leaves.only;
    settled = leaves.settled;
    answered = λ books left. answers (leaves.answered books left);
  }

  -- a call that changes books after one that only read
  pub leaves_after_read : {A B C : Type 0} (mid : S) (step : Bounds → Books
      → Result (C × Books) Refusal) (read : Result A Denied) (returned : Result B Denied) (command :
      Command) → (model.premise mid → model.premise old)
      → (model.premise mid → (done : C × Books) → step (model.limits mid) (model.books mid)
      ≡ Ok done → IsAfterCommand (model.limits old) (model.books old) command done.1)
      → LeavesNoMore model old mid read → LeavesStep model mid new returned step
      → CommandLeaves model old new returned command
  leaves_after_read {C = C} mid step read returned command before after first second = record {
    only = λ books left. ⊎_elim (λ kept. ⊎_elim (λ earlier. inl earlier) (λ none. absurd none)
        (first.only books kept))
        (λ made. inr (
          before made.0,
          by_step made.0 (step (model.limits mid) (model.books mid)) refl
              books made.1,
        )) (second.only books left);
    settled = second.settled;
    answered = second.answered;
  }
    where
      by_step : model.premise mid → (o : Result (C × Books) Refusal)
          → step (model.limits mid) (model.books mid) ≡ o → (books : Books) → IsAfterStep o books
          → IsAfterCommand (model.limits old) (model.books old) command books
      by_step premise (Ok done) e books same =
          subst (IsAfterCommand (model.limits old) (model.books old) command) (sym same)
          (after premise done e)
      by_step premise (Err refusal) e books made = absurd made

  -- a function of this command, of which a match arm is
  pub passes_on : {A B : Type 0} (called : Result A Denied) (returned : Result B Denied)
      (command own : Command) → command ≡ own → (UnlessFault called (model.premise new)
      → UnlessFault returned (model.premise new))
      → CommandLeaves model old new called own → CommandLeaves model old new returned command
  passes_on called returned command own is answers leaves =
      subst (CommandLeaves model old new returned) (sym is) (record {
        only = leaves.only;
        settled = leaves.settled;
        answered = λ books left. answers (leaves.answered books left);
      })

-- ---- each command

-- what the step made, a call that answers matches
pub matched : {C : Type 0} (step : Result (C × Books) Refusal) (old : Books) (done : C × Books)
    → step ≡ Ok done → MatchesStep (Ok done.0) step old done.1
matched {C = C} step old done e = subst (λ (o : Result (C × Books) Refusal). MatchesStep (Ok done.0)
    o old done.1) (sym e) (refl, refl)

module _ {S B : Type 0} (model : StoreModel S) (old new : S) (returned : Result B Denied) (command :
    Command) where
  pub create_leaves : CreateRefines → IsInRange (model.limits old)
      → (book name : List ℕ) (called : Result ℕ Denied) → command ≡ CreateBook book → name ≡ book
      → (UnlessFault called (model.premise new) → UnlessFault returned (model.premise new))
      → LeavesStep model old new called (λ limits books. create_step limits books name)
      → CommandLeaves model old new returned command
  create_leaves law range book name called is names answers leaves =
      leaves_on model old new (λ limits books. create_step limits books name) called returned
      command
      (λ done e. subst (λ (c : Command). IsAfterCommand (model.limits old) (model.books old) c
      done.1) (sym is) (
        reply.Created done.0,
        creates (model.limits old) (model.books old) done.1 law range book (Ok done.0)
            (subst (λ (n : List ℕ). MatchesStep (Ok done.0) (create_step (model.limits old)
            (model.books old) n) (model.books old) done.1) names (matched _ (model.books old)
            done e)),
      ))
      answers leaves

  pub remove_leaves : RemoveRefines → (book uid name id : List ℕ) (expect : Option ℕ) (called :
      Result ℕ Denied) → command ≡ Remove book uid expect → name ≡ book → id ≡ uid
      → (UnlessFault called (model.premise new) → UnlessFault returned (model.premise new))
      → LeavesStep model old new called (λ limits books. remove_step limits books name id expect)
      → CommandLeaves model old new returned command
  remove_leaves law book uid name id expect called is names ids answers leaves =
      leaves_on model old new (λ limits books. remove_step limits books name id expect) called
      returned command
      (λ done e. subst (λ (c : Command). IsAfterCommand (model.limits old) (model.books old) c
      done.1) (sym is) (
        reply.Gone done.0,
        removes (model.limits old) (model.books old) done.1 law book uid expect (Ok done.0)
            (subst (λ (n : List ℕ). MatchesStep (Ok done.0) (remove_step (model.limits old)
            (model.books old) n uid expect) (model.books old) done.1) names
            (subst (λ (u : List ℕ). MatchesStep (Ok done.0) (remove_step (model.limits old)
            (model.books old) name u expect) (model.books old) done.1) ids
            (matched _ (model.books old) done e))),
      ))
      answers leaves

  pub move_leaves : MoveRefines → (book to uid name target id : List ℕ) (expect : Option ℕ)
      (called : Result Moved Denied) → command ≡ MoveCard book uid to expect → name ≡ book
      → target ≡ to → id ≡ uid
      → (UnlessFault called (model.premise new) → UnlessFault returned (model.premise new))
      → LeavesStep model old new called (λ limits books. move_step limits books name target id
      expect) → CommandLeaves model old new returned command
  move_leaves law book to uid name target id expect called is names targets ids answers leaves =
      leaves_on model old new (λ limits books. move_step limits books name target id expect) called
      returned command
      (λ done e. subst (λ (c : Command). IsAfterCommand (model.limits old) (model.books old) c
      done.1) (sym is) (
        reply.Moved done.0,
        moves (model.limits old) (model.books old) done.1 law book to uid expect (Ok done.0)
            (subst (λ (n : List ℕ). MatchesStep (Ok done.0) (move_step (model.limits old)
            (model.books old) n to uid expect) (model.books old) done.1) names
            (subst (λ (t : List ℕ). MatchesStep (Ok done.0) (move_step (model.limits old)
            (model.books old) name t uid expect) (model.books old) done.1) targets
            (subst (λ (u : List ℕ). MatchesStep (Ok done.0) (move_step (model.limits old)
            (model.books old) name target u expect) (model.books old) done.1) ids
            (matched _ (model.books old) done e)))),
      ))
      answers leaves

  pub forget_leaves : ForgetRefines → (book name : List ℕ) (upto : ℕ) (called : Result ℕ Denied)
      → command ≡ Forget book upto → name ≡ book → (UnlessFault called (model.premise new)
      → UnlessFault returned (model.premise new))
      → LeavesStep model old new called (λ _ books. forget_step books name upto)
      → CommandLeaves model old new returned command
  forget_leaves law book name upto called is names answers leaves =
      leaves_on model old new (λ _ books. forget_step books name upto) called returned command
      (λ done e. subst (λ (c : Command). IsAfterCommand (model.limits old) (model.books old) c
      done.1) (sym is) (
        reply.Forgot done.0 upto,
        forgets (model.limits old) (model.books old) done.1 law book upto (Ok done.0)
            (subst (λ (n : List ℕ). MatchesStep (Ok done.0) (forget_step (model.books old) n upto)
            (model.books old) done.1) names (matched _ (model.books old) done e)),
      ))
      answers leaves

-- ---- the whole command

answers_or_fault : (returned : Result Reply Denied) (Then : Type 0) → UnlessFault returned Then
    → Then ⊎ IsFault (reply_to (λ (r : Reply). r) returned)
answers_or_fault (Ok r) Then h = inl h
answers_or_fault (Err (Refused refusal)) Then h = inl h
answers_or_fault (Err (Fault fault)) Then h = inr tt

module _ {S : Type 0} (model : StoreModel S) (old new : S) where
  -- a command's steps on rows are its steps from each state with these rows
  pub command_leaves : (command : Command) (returned : Result Reply Denied) (r : Reply)
      → r ≡ reply_to (λ (r : Reply). r) returned → CommandLeaves model old new returned command
      → LeavesCommand model old new command r
  command_leaves command returned r is leaves = record {
    only = λ books left. ⊎_elim (λ before. inl before)
        (λ made. inr (
          made.0,
          λ now at. (
            made.1.0,
            command_happens (model.limits old) (model.books old) books made.1.0 now at command
                made.1.1,
          ),
        ))
        (leaves.only books left);
    settled = leaves.settled;
    answered = λ books left. ⊎_elim (λ premise. inl premise)
        (λ fault. inr (subst IsFault (sym is) fault, refl))
        (answers_or_fault returned (model.premise new) (leaves.answered books left));
  }

  -- a command changes no device
  pub event_leaves : (event : Event) (command : Command) (r : Reply) (devices : List DeviceState)
      → event ≡ Do command → LeavesCommand model old new command r
      → LeavesEvent model old new event r devices devices
  event_leaves event command r devices is leaves =
      subst (λ (e : Event). LeavesEvent model old new e r devices devices) (sym is) (record {
        only = leaves.only;
        settled = leaves.settled;
        answered = λ books left. ⊎_elim (λ premise. inl premise) (λ fault. inr (fault.0, refl))
            (leaves.answered books left);
      })

-- ---- a device's request

module _ {S : Type 0} (model : StoreModel S) (old new : S) where
  -- the store's report leaves no more
  pub ask_leaves : {A : Type 0} (called : Result A Denied) (r : Reply) (before after : DeviceState)
      → (UnlessFault called (model.premise new) → model.premise new
      ⊎ (IsFault r × (after ≡ before)))
      → LeavesNoMore model old new called → LeavesAsk model old new r before after
  ask_leaves called r before after answers leaves = record {
    only = λ books left. ⊎_elim (λ earlier. earlier) (λ none. absurd none) (leaves.only books left);
    settled = leaves.settled;
    answered = λ books left. answers (leaves.answered books left);
  }

  -- one device changed at most
  pub ask_event_leaves : (event : Event) (r : Reply) (was is : DeviceState) (devices after :
      List DeviceState) → (is ≡ was → after ≡ devices) → LeavesAsk model old new r was is
      → LeavesEvent model old new event r devices after
  ask_event_leaves event r was is devices after same leaves = record {
    only = λ books left. inl (leaves.only books left);
    settled = leaves.settled;
    answered = λ books left. ⊎_elim (λ premise. inl premise) (λ fault. inr (fault.0, same fault.1))
        (leaves.answered books left);
  }
