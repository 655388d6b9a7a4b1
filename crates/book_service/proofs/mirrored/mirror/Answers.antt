-- A new device asks for page after page; if one isn't truncated, its copy is the live cards.
-- Given here: an induction over the pages so far. The invariant says that the books are as before,
-- and that the device made a run of so many truncated pages and is consistent (`IsMirroring`). Each
-- of them leaves one page size fewer due, so the number of pages is exact (`done_pages`,
-- `stop_pages`). Each law that the code calls is named here: without the call, that answer breaks.
use Rattle.std.proofs.Common.{◌≡◌, ◌∙◌, refl, subst, arith, ◌≤◌, sym}
use Rattle.std.proofs.lemmas.Result.{err_from_is_err_and}
use Rattle.book_model.specs.Bounds.{Bounds}
use Rattle.book_service.proofs.MirrorLemmas.{IsMirroring, mirror_start, still_at, mirror_more}
use Rattle.book_service.proofs.MirrorLemmas.{mirror_done, mirror_denied, mirror_stops, done_pages}
use Rattle.book_service.proofs.MirrorLemmas.{stop_pages}
use Rattle.book_service.proofs.mirrored.mirror.Goals as goal

pub returns-in_err-page-clause-denied : goal.returns-in_err-page-clause-denied
returns-in_err-page-clause-denied g c =
    let p = err_from_is_err_and c.from_residual-in_err-page.result
    c.from_residual-in_err-page.ensures.1 in
    rw (p.1, p.2) (λ premise now at.
    let books = g.S.BookStore.model.books c.args.store.now in
    let before = c.next_page.ensures.terms.premise premise in
    mirror_denied c.fresh_tokens_are_accepted.ensures now books (record {
      limits_are = refl;
      histories = at.histories;
    }) c.args.book.now c.args.limit c.loop-pages.pages c.args.max_pages
    c.loop-pages.device c.next_page.new.device c.loop-pages-test.true
    (c.loop-pages.invariant.so_far before now at) c.in_err-page.field-0.0
    (c.in_err-page.ensures.handled premise now
    (still_at now (g.S.BookStore.model.limits c.args.store.now) (g.S.BookStore.model.limits
    c.loop-pages.store) books (g.S.BookStore.model.books c.loop-pages.store)
    c.loop-pages.invariant.limits (c.loop-pages.invariant.kept before) at)))

pub returns-then-not-page-clause-mirrors : goal.returns-then-not-page-clause-mirrors
returns-then-not-page-clause-mirrors g c = λ premise now at.
    let books = g.S.BookStore.model.books c.args.store.now in
    let before = c.next_page.ensures.terms.premise premise in
    mirror_done now c.args.book.now c.args.limit c.loop-pages.pages c.loop-pages.device
    c.next_page.new.device (c.loop-pages.invariant.so_far before now at) c.in_ok-page.page
    (c.in_ok-page.ensures.handled premise now
    (still_at now (g.S.BookStore.model.limits c.args.store.now) (g.S.BookStore.model.limits
    c.loop-pages.store) books (g.S.BookStore.model.books c.loop-pages.store)
    c.loop-pages.invariant.limits (c.loop-pages.invariant.kept before) at))
    c.last_pages_complete_copies.ensures.devices c.args.max_pages c.loop-pages-test.true
    c.if-not-page.true

pub loop-pages-init : goal.loop-pages-init
loop-pages-init g c = record {
  premise = λ premise. premise;
  limits = refl;
  kept = λ premise. refl;
  so_far = λ premise now at. mirror_start now c.args.book.now c.args.limit c.in_ok-device.device
      c.in_ok-device.ensures;
}

pub loop-pages-preserved : goal.loop-pages-preserved
loop-pages-preserved g c = record {
  premise = λ premise. c.loop-pages.invariant.premise (c.next_page.ensures.terms.premise premise);
  limits = c.next_page.ensures.terms.limits ∙ c.loop-pages.invariant.limits;
  kept = λ premise. c.next_page.ensures.reads_only premise
      ∙ c.loop-pages.invariant.kept (c.next_page.ensures.terms.premise premise);
  so_far = λ premise now at.
      let books = g.S.BookStore.model.books c.args.store.now in
      let before = c.next_page.ensures.terms.premise premise in
      mirror_more now c.args.book.now c.args.limit c.loop-pages.pages c.loop-pages.device
      c.next_page.new.device (c.loop-pages.invariant.so_far before now at) c.in_ok-page.page
      (c.in_ok-page.ensures.handled premise now
      (still_at now (g.S.BookStore.model.limits c.args.store.now) (g.S.BookStore.model.limits
      c.loop-pages.store) books (g.S.BookStore.model.books c.loop-pages.store)
      c.loop-pages.invariant.limits (c.loop-pages.invariant.kept before) at))
      c.devices_stay_consistent_among_books.ensures.parts
      c.devices_stay_consistent_among_books.ensures.pages
      c.due_members_are_counted.ensures.fewer c.due_members_are_counted.ensures.none
      (subst (λ (l : Bounds). 1 ≤ l.page_max) (c.next_page.ensures.terms.limits
      ∙ c.loop-pages.invariant.limits ∙ sym at.limits_are)
      c.in_ok-page.ensures.terms.range.page_least) c.if-not-page.false;
}

pub returns-clause-mirrors : goal.returns-clause-mirrors
returns-clause-mirrors g c = λ premise now at.
    let ended : c.loop-pages.pages ≡ c.args.max_pages =
    omega (arith, c.loop-pages-test.false, c.loop-pages.auto.pages-end) in
    mirror_stops now c.args.book.now c.args.limit c.args.max_pages c.loop-pages.device
    (subst (λ n. IsMirroring now c.args.book.now c.args.limit n c.loop-pages.device) ended
    (c.loop-pages.invariant.so_far premise now at))

pub returns-then-not-page-clause-pages : goal.returns-then-not-page-clause-pages
returns-then-not-page-clause-pages g c = λ premise now at.
    let books = g.S.BookStore.model.books c.args.store.now in
    let before = c.next_page.ensures.terms.premise premise in
    done_pages now c.args.book.now c.args.limit c.loop-pages.pages c.loop-pages.device
    c.next_page.new.device (c.loop-pages.invariant.so_far before now at) c.in_ok-page.page
    (c.in_ok-page.ensures.handled premise now
    (still_at now (g.S.BookStore.model.limits c.args.store.now) (g.S.BookStore.model.limits
    c.loop-pages.store) books (g.S.BookStore.model.books c.loop-pages.store)
    c.loop-pages.invariant.limits (c.loop-pages.invariant.kept before) at))
    (subst (λ (l : Bounds). 1 ≤ l.page_max) (c.next_page.ensures.terms.limits
    ∙ c.loop-pages.invariant.limits ∙ sym at.limits_are)
    c.in_ok-page.ensures.terms.range.page_least)
    c.args.max_pages c.loop-pages-test.true c.if-not-page.true

pub returns-clause-pages : goal.returns-clause-pages
returns-clause-pages g c = λ premise now at.
    let ended : c.loop-pages.pages ≡ c.args.max_pages =
    omega (arith, c.loop-pages-test.false, c.loop-pages.auto.pages-end) in
    stop_pages now c.args.book.now c.args.limit c.args.max_pages c.loop-pages.device
    (subst (λ n. IsMirroring now c.args.book.now c.args.limit n c.loop-pages.device) ended
    (c.loop-pages.invariant.so_far premise now at))
